use Rattle.std.proofs.Common.{◌<◌, ◌^◌, List, subst, sym}
use Rattle.std.proofs.lemmas.List.{drop_more}
use Rattle.tier_base.specs.Faults.{NumbersFit}
use Rattle.tier_base.specs.declared.planned.Planned.{Planned}
use Rattle.tier_base.proofs.nexts.fit.Goals as goal

pub loop-item-preserved : goal.loop-item-preserved
loop-item-preserved g c = λ rest. c.loop-item.invariant (subst (λ (xs : List (Planned g.row.K.Denot)). NumbersFit xs) (sym (drop_more c.args.plan.now c.loop-item.item-index c.item-item.result c.loop-item-test.true)) (subst (λ (x : Planned g.row.K.Denot). x.number < 2 ^ 32) c.item-item.is c.fits.ensures, rest))
