use Rattle.std.proofs.lemmas.Simd.{zip2_splat}
use Rattle.trace_text.proofs.digits.uppers.Goals as goal

pub returns : goal.returns
returns c = zip2_splat _ c.args.bytes 64 4 c.requires
