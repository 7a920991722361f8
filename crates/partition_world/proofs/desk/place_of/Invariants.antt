use Rattle.std.proofs.Common.{◌≡◌, ◌≢◌, ◌<◌, ℕ, slice_get, Some}
use Rattle.plain_log.specs.declared.command.ActorList.{ActorList}
use Rattle.partition_world.proofs.desk.place_of.Given as goal

abbrev pub invariant-loop-i : goal.invariant-loop-i
invariant-loop-i l = (j : ℕ) (m : ActorList) → j < l.i → slice_get l.lists j ≡ Some m → m.actor.0 ≢ l.actor.0
