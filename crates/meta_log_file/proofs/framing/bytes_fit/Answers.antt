use Rattle.meta_log_file.proofs.Firsts.{all_bytes}
use Rattle.meta_log_file.proofs.framing.bytes_fit.Goals as goal

pub returns : goal.returns
returns c = all_bytes c.args.bytes.now c.type_inv.bytes
