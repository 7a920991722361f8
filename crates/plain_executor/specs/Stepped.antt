-- What a step comes to.
use Rattle.std.specs.Prelude.{◌≡◌, Bool, true, false, Option, Some, None}
use Rattle.plain_log.specs.declared.state.State.{State}

-- the entry was a step from p to q, or it is none and nothing has changed
abbrev pub Stepped : State → State → Option State → Bool → Type 0
Stepped p q next true = next ≡ Some q
Stepped p q next false = (next ≡ None) × (q ≡ p)
