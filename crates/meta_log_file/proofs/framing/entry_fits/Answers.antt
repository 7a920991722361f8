use Rattle.std.proofs.Common.{rules}
use Rattle.meta_log_file.proofs.framing.entry_fits.Goals as goal

pub returns : goal.returns
returns c = record {
  id = c.as_bytes.ensures.fits;
  partition = search rules;
  max_ts = search rules;
  broker = search rules;
  event_ts = search rules;
  size = search rules;
}
