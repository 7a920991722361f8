use Rattle.std.proofs.Common.{take, []}
use Rattle.trace_check.specs.Chain.{LeadTo}
use Rattle.trace_check.proofs.checking.check.Given as goal

abbrev pub invariant-loop-before : goal.invariant-loop-before
invariant-loop-before l = LeadTo [] (take l.before l.pairs) l.states
