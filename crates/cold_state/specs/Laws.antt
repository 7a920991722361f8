-- The law of what a power cut leaves.
use Rattle.plain_log.specs.declared.state.State.{State}
use Rattle.plain_log.specs.Safe.{PlainSafe}
use Rattle.cold_state.specs.Cold.{cold_of}

-- the safety rules hold in what is left
abbrev pub ColdStateIsSafe : Type 0
ColdStateIsSafe = (p : State) → PlainSafe p → PlainSafe (cold_of p)
