-- An error that is passed on.
use Rattle.std.proofs.Common.{◌≡◌, Result, Ok, Err, IsErrAnd}
use Rattle.std.specs.Prelude.{IsErrOf}

-- it is the same error
pub handed_on : {T E : Type 0} (r : Result T E) (e x : E) → IsErrAnd r (λ why. why ≡ e) → e ≡ x → IsErrOf r x
handed_on (Ok y) e x h is = absurd h
handed_on (Err why) e x h is = cc (h, is)

-- where it came from
pub cause_of : {T E : Type 0} (r : Result T E) (e x : E) → r ≡ Err e → IsErrOf r x → e ≡ x
cause_of (Ok y) e x was is = absurd cc
cause_of (Err why) e x was is = cc (was, is)
