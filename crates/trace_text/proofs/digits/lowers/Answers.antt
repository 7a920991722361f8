use Rattle.std.proofs.Common.{◌∙◌}
use Rattle.std.proofs.lemmas.Simd.{zip2_splat}
use Rattle.trace_text.proofs.Weaving.{low_halves}
use Rattle.trace_text.proofs.digits.lowers.Goals as goal

pub returns : goal.returns
returns c = zip2_splat _ c.args.bytes 64 15 c.requires ∙ low_halves c.args.bytes
