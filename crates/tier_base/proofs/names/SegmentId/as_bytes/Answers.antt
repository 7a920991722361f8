use Rattle.std.proofs.Common.{◌∙◌}
use Rattle.tier_base.proofs.Keys.{is-id}
use Rattle.tier_base.proofs.names.SegmentId.as_bytes.Goals as goal

pub returns-clause-fits : goal.returns-clause-fits
returns-clause-fits c =
    is-id c.args.self.now.0 c.lent.result.now (c.lent.ensures.value ∙ c.as_bytes.ensures) (c.lent.ensures.size, c.lent.ensures.fits)
