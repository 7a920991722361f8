-- What holds of each of a list so far.
use Rattle.std.proofs.Common.{◌≡◌, ◌≢◌, ◌∙◌, ap, subst, refl, ℕ, ◌+◌, ◌<◌, ◌==◌, List, length, get_or, slice_get, Some, Bool, true, false, arith}
use Rattle.std.proofs.lemmas.Bool.Decides.{nat_tests}
use Rattle.std.proofs.lemmas.Option.{slice_get-get_or}

-- one more of them
pub each_next : {A : Type 0} (P : A → Type 0) (xs : List A) (i : ℕ) (none y : A) → ((b : ℕ) (x : A) → b < i → slice_get xs b ≡ Some x → P x) → i < length xs → y ≡ get_or xs i none → P y
    → (b : ℕ) (x : A) → b < i + 1 → slice_get xs b ≡ Some x → P x
each_next P xs i none y before within is holds b x lt at = by (b == i) refl
  where
    by : (t : Bool) → (b == i) ≡ t → P x
    by true e =
        let same : b ≡ i = grind (arith, nat_tests, e) in
        let there : slice_get xs i ≡ Some (get_or xs i none) = slice_get-get_or xs i none within in
        let one : y ≡ x = cc (is, there, at, ap (λ (k : ℕ). slice_get xs k) same) in
        subst P one holds
    by false e =
        let differs : b ≢ i = grind (arith, nat_tests, e) in
        before b x (omega (arith, lt, differs)) at

-- where the list is lent
pub each_next_of : {A : Type 0} (P : A → Type 0) (xs ys : List A) (i : ℕ) (none y : A) → ys ≡ xs → ((b : ℕ) (x : A) → b < i → slice_get xs b ≡ Some x → P x) → i < length ys → y ≡ get_or ys i none → P y
    → (b : ℕ) (x : A) → b < i + 1 → slice_get xs b ≡ Some x → P x
each_next_of P xs ys i none y same before within is holds =
    each_next P xs i none y before (subst (λ (l : List _). i < length l) same within) (is ∙ ap (λ (l : List _). get_or l i none) same) holds
