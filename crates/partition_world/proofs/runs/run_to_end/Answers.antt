use Rattle.std.proofs.Common.{◌≡◌, ◌∙◌, sym, ap, subst, ◌<◌, List, length, slice_get, Some, arith}
use Rattle.plain_log.specs.declared.command.ActorList.{ActorList}
use Rattle.partition_world.specs.Turn.{IsAtEnd}
use Rattle.laws_partition.proofs.Lists.{got}
use Rattle.partition_world.proofs.LaterLaw.{later_more, place_ended, places_ended}
use Rattle.partition_world.proofs.runs.run_to_end.Goals as goal

pub loop-place-preserved : goal.loop-place-preserved
loop-place-preserved g c =
    let w = c.loop-place.world in
    let lt : c.loop-place.place < length c.lists.result.now = omega (arith, c.loop-place.invariant.many, c.loop-place-test.true, ap (λ (k : List ActorList). length k) c.lists.ensures) in
    let at = got c.lists.result.now c.loop-place.place c.index-lists-place.result lt c.index-lists-place.is in
    record {
      later = later_more g.D.Disk g.S.Store g.M.MetaLog c.args.world.now w c.run_actor.new.world c.loop-place.invariant.later c.in_ok-run_actor.ensures.later;
      many = c.loop-place.invariant.many ∙ ap (λ (k : List ActorList). length k) (sym c.in_ok-run_actor.ensures.later.lists);
      ended = place_ended g.D.Disk g.S.Store g.M.MetaLog w c.run_actor.new.world c.loop-place.place c.index-lists-place.result c.in_ok-run_actor.ensures.later
          (subst (λ (k : List ActorList). slice_get k c.loop-place.place ≡ Some c.index-lists-place.result) c.lists.ensures at) (subst (λ (k : ActorList). IsAtEnd c.run_actor.new.world k.actor.0) (sym c.index-lists-place.is) c.in_ok-run_actor.ensures.ended) c.loop-place.invariant.ended;
    }

pub returns-clause-ended : goal.returns-clause-ended
returns-clause-ended g c = places_ended g.D.Disk g.S.Store g.M.MetaLog c.loop-place.world c.loop-place.place (omega (arith, c.loop-place.invariant.many, c.loop-place-test.false)) c.loop-place.invariant.ended

pub returns-in_err-run_actor-clause-later : goal.returns-in_err-run_actor-clause-later
returns-in_err-run_actor-clause-later g c =
    later_more g.D.Disk g.S.Store g.M.MetaLog c.args.world.now c.loop-place.world c.run_actor.new.world c.loop-place.invariant.later c.in_err-run_actor.ensures.later
