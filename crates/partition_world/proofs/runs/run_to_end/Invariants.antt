use Rattle.std.proofs.Common.{◌≡◌, ◌<◌, ℕ, length, slice_get, Some}
use Rattle.plain_log.specs.declared.command.ActorList.{ActorList}
use Rattle.partition_world.specs.Turn.{IsAtEnd}
use Rattle.partition_world.specs.Later.{IsLater}
use Rattle.partition_world.proofs.runs.run_to_end.Given as goal

abbrev pub invariant-loop-place : goal.invariant-loop-place
invariant-loop-place g l = record {
  later : IsLater g.D.Disk g.S.Store g.M.MetaLog l.initial.world l.world;
  many : l.count ≡ length l.world.lists;
  ended : (i : ℕ) (list : ActorList) → i < l.place → slice_get l.world.lists i ≡ Some list → IsAtEnd l.world list.actor.0;
}
