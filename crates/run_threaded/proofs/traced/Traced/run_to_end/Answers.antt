use Rattle.std.proofs.Common.{◌≡◌, ◌∙◌, sym, ap, subst, ◌<◌, List, length, slice_get, Some, arith}
use Rattle.plain_log.specs.declared.command.ActorList.{ActorList}
use Rattle.laws_partition.proofs.Lists.{got}
use Rattle.partition_world.specs.Turn.{IsAtEnd}
use Rattle.partition_world.specs.Whole.{Whole}
use Rattle.partition_world.proofs.LaterLaw.{place_ended, places_ended}
use Rattle.run_threaded.proofs.Leading.{same_more}
use Rattle.run_threaded.proofs.traced.Traced.run_to_end.Goals as goal

pub loop-place-preserved : goal.loop-place-preserved
loop-place-preserved g c =
    let w = c.loop-place.self.world in
    let later = c.in_ok-run_actor.ensures.later in
    let lists : c.lists.result.now ≡ w.lists = c.lists.ensures ∙ ap (λ (k : Whole g.row.D.Denot g.row.S.Denot g.row.M.Denot). k.lists) c.world-in-loop-place.ensures.world in
    let lt : c.loop-place.place < length c.lists.result.now = omega (arith, c.loop-place.invariant.many, c.loop-place-test.true, ap (λ (k : List ActorList). length k) lists) in
    let at = got c.lists.result.now c.loop-place.place c.index-lists-place.result lt c.index-lists-place.is in
    record {
      goes_on = record {
        same = same_more c.args.self.now c.loop-place.self c.run_actor.new.self c.loop-place.invariant.goes_on.same c.in_ok-run_actor.ensures.goes_on.same;
        goes = c.in_ok-run_actor.ensures.goes_on.goes;
      };
      many = c.loop-place.invariant.many ∙ ap (λ (k : List ActorList). length k) (sym later.lists);
      ended = place_ended g.D.Disk g.S.Store g.M.MetaLog w c.run_actor.new.self.world c.loop-place.place c.index-lists-place.result later
          (subst (λ (k : List ActorList). slice_get k c.loop-place.place ≡ Some c.index-lists-place.result) lists at) (subst (λ (k : ActorList). IsAtEnd c.run_actor.new.self.world k.actor.0) (sym c.index-lists-place.is) c.in_ok-run_actor.ensures.ended) c.loop-place.invariant.ended;
    }

pub returns-clause-ended : goal.returns-clause-ended
returns-clause-ended g c = places_ended g.D.Disk g.S.Store g.M.MetaLog c.loop-place.self.world c.loop-place.place (omega (arith, c.loop-place.invariant.many, c.loop-place-test.false)) c.loop-place.invariant.ended
