use Rattle.std.proofs.Common.{◌∙◌, sym, arith}
use Rattle.std.specs.Prelude.{◌==◌}
use Rattle.trace_text.proofs.Splitting.{whole-clean, line-parts, line-clean}
use Rattle.trace_text.proofs.lines.first_line.Goals as goal

pub returns-then-end-bytes : goal.returns-then-end-bytes
returns-then-end-bytes c = whole-clean (λ b. b == 10) c.args.bytes.now (sym c.front_len-end.ensures.value ∙ c.if-end-bytes.true)

pub returns : goal.returns
returns c = (
  line-clean c.args.bytes.now c.front_len-end.result c.front_len-end.ensures.value,
  line-parts c.args.bytes.now c.front_len-end.result c.front_len-end.ensures.value (omega (arith, c.front_len-end.ensures.within, c.if-end-bytes.false)),
)
