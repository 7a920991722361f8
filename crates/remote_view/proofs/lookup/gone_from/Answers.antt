use Rattle.std.proofs.Common.{◌∙◌, sym, arith}
use Rattle.remote_view.proofs.Gone.{gone_more}
use Rattle.remote_view.proofs.lookup.gone_from.Goals as goal

pub loop-gone-preserved : goal.loop-gone-preserved
loop-gone-preserved c =
    gone_more c.loop-gone.gone c.args.entries.now c.index-entries-gone.result c.loop-gone.invariant (omega (arith, c.loop-gone-test.true))
    (sym c.is_gone.ensures ∙ c.if-is_gone.true)
