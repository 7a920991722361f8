-- When traces are whole runs one after another: each begins in the states that the one before it left.
--
-- A run that was killed, or that ended with a failure, has no trace: it isn't among them, and neither is a run after
-- it, since no trace reports in which state that one began.
use Rattle.std.specs.Prelude.{◌≡◌, List, [], ◌∷◌}
use Rattle.plain_log.specs.declared.state.State.{State}
use Rattle.trace_check.specs.declared.pair.Pair.{Pair}
use Rattle.trace_check.specs.Whole.{IsWholeTrace}

-- the traces are whole runs one after another, from these states to those
abbrev pub LeadTo : List State → List Pair → List State → Type 0
LeadTo states [] after = states ≡ after
LeadTo states (pair ∷ pairs) after =
    (next : List State) × IsWholeTrace states pair.script pair.trace next × LeadTo next pairs after

-- they are, from where no partition has run
abbrev pub AreWholeTraces : List Pair → Type 0
AreWholeTraces pairs = (after : List State) × LeadTo [] pairs after
