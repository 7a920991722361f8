use Rattle.std.proofs.Common.{ap, ◌∙◌, arith, sym, length}
use Rattle.std.proofs.lemmas.Nat.{be_bytes_8}
use Rattle.meta_log_file.specs.Notes.{gate_bytes}
use Rattle.meta_log_file.proofs.Frames.{gate_len}
use Rattle.meta_log_file.proofs.gate.gate_at.Goals as goal

pub returns-then-bytes-ne-GATE_BYTES-clause-none : goal.returns-then-bytes-ne-GATE_BYTES-clause-none
returns-then-bytes-ne-GATE_BYTES-clause-none c = λ _ end low is. c.if-bytes-ne-GATE_BYTES.true (ap length is ∙ gate_len end)

pub returns-clause-some : goal.returns-clause-some
unfolding gate_bytes
returns-clause-some c = (c.from_be_bytes.type_inv, sym (be_bytes_8 c.args.bytes.now c.from_be_bytes.result c.if-bytes-ne-GATE_BYTES.false (λ i. omega (arith, c.type_inv.bytes i)) c.from_be_bytes.ensures))
