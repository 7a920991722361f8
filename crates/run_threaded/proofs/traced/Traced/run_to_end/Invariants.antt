use Rattle.std.proofs.Common.{◌≡◌, ◌<◌, ℕ, length, slice_get, Some}
use Rattle.plain_log.specs.declared.command.ActorList.{ActorList}
use Rattle.partition_world.specs.Turn.{IsAtEnd}
use Rattle.run_threaded.specs.Traced.{TraceContinues}
use Rattle.run_threaded.proofs.traced.Traced.run_to_end.Given as goal

abbrev pub invariant-loop-place : goal.invariant-loop-place
invariant-loop-place g l = record {
  goes_on : TraceContinues l.initial.self l.self;
  many : l.count ≡ length l.self.world.lists;
  ended : (i : ℕ) (list : ActorList) → i < l.place → slice_get l.self.world.lists i ≡ Some list → IsAtEnd l.self.world list.actor.0;
}
