use Rattle.std.proofs.Common.{◌≡◌}
use Rattle.std.specs.Prelude.{slice_index}
use Rattle.std.specs.List.{AllWithin}
use Rattle.plain_log.specs.declared.command.ActorList.{ActorList}
use Rattle.plain_log.specs.State.{actor_at}
use Rattle.plain_executor.proofs.complete.are_at_end.Given as goal

abbrev pub invariant-loop-list : goal.invariant-loop-list
invariant-loop-list l =
    AllWithin (λ (x : ActorList). (actor_at l.plain.actors x.actor.0).number ≡ slice_index l.counts x.actor.0) l.lists 0 l.list-index
