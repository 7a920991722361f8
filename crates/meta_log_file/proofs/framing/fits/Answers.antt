use Rattle.std.proofs.Common.{rules, subst, sym}
use Rattle.segment_meta.specs.Rules.{NoteFits}
use Rattle.meta_log_file.proofs.framing.fits.Goals as goal

pub returns-in-Update : goal.returns-in-Update
returns-in-Update c = subst NoteFits (sym c.in-Update.is) (c.as_bytes.ensures.fits, search rules, search rules, c.custom_fits.ensures)
