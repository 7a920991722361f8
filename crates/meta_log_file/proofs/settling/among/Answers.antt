use Rattle.std.proofs.Common.{sym, ◌∙◌}
use Rattle.std.proofs.lemmas.Bool.{false≢true}
use Rattle.meta_log_file.proofs.Gating.{no_gate_of}
use Rattle.meta_log_file.proofs.settling.among.Goals as goal

pub returns-else-is_gate_of-clause-none : goal.returns-else-is_gate_of-clause-none
returns-else-is_gate_of-clause-none c = λ _. no_gate_of c.args.file.now c.args.here c.args.next c.in_ok-end.end c.in_ok-end.ensures.some (λ of. false≢true (sym c.if-is_gate_of.false ∙ c.is_gate_of.ensures.1 of))
