-- Decimal numbers at the front of a text.
--
-- number = "0" / nonzero-digit *digit
use Rattle.std.specs.Prelude.{◌≡◌, ◌≢◌, ℕ, ◌+◌, ◌-◌, ◌*◌, ◌==◌, Bool, true, false, not}
use Rattle.std.specs.Prelude.{if◌then◌else◌, List, [], ◌∷◌, ◌++◌, decimal, Some, None}
use Rattle.std.specs.Char.{is_ascii_digit}
use Rattle.std.specs.declared.option.Option.{Option}
use Rattle.std.specs.Borrow.{Bor}

-- how many digits are at the front
abbrev pub digits_len : List ℕ → ℕ
digits_len [] = 0
digits_len (b ∷ bs) = if is_ascii_digit b then digits_len bs + 1 else 0

-- there is a digit, and no leading zero
abbrev pub is_shortest : List ℕ → Bool
is_shortest [] = false
is_shortest (d ∷ []) = true
is_shortest (d ∷ e ∷ ds) = not (d == 48)

-- the number of these digits after n
abbrev pub value_of : ℕ → List ℕ → ℕ
value_of n [] = n
value_of n (d ∷ ds) = value_of (10 * n + (d - 48)) ds

-- what a reader of a front answers: what may be there is found by its text, with the bytes after it
abbrev pub ReadsFront : {A : Type 0} → (A → Type 0) → (A → List ℕ → List ℕ) → List ℕ → Option (A × Bor (List ℕ))
    → Type 0
ReadsFront {A} May text bytes None = (x : A) (rest : List ℕ) → May x → bytes ≢ text x rest
ReadsFront May text bytes (Some found) = May found.0 × (bytes ≡ text found.0 found.1.now)

-- a number up to a byte that ends it, and more
abbrev pub number_text : ℕ → ℕ → List ℕ → List ℕ
number_text end n rest = decimal n ++ end ∷ rest
