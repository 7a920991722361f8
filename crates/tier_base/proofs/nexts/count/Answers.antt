use Rattle.std.proofs.Common.{arith}
use Rattle.std.proofs.Math.ListN.{get_or}
use Rattle.tier_base.proofs.Coming.{count_one}
use Rattle.tier_base.proofs.nexts.count.Goals as goal

pub returns-clause-are : goal.returns-clause-are
returns-clause-are g c =
    count_one g.K.CallKind.code c.args.plan.now c.args.counts.now c.args.nexts.now c.args.kind c.saturating_add-made.result c.next_after.result
    (omega (arith, c.requires.small)) (omega (arith, c.requires.small)) c.requires.are
    (c.next_after.ensures (get_or c.args.counts.now c.args.kind 0) (omega (arith, c.saturating_add-made.ensures)))
