-- The number that a word of digits spells.
use Rattle.std.proofs.Common.{◌≡◌, ap, refl, ℕ, ◌<◌, ◌^◌, Bool, true, false, List, [], ◌∷◌, length, nat_lt, arith, rules}
use Rattle.std.specs.Prelude.{Some, Result, Ok, Err}
use Rattle.std.specs.Char.{is_ascii_digit}
use Rattle.std.specs.List.{list_all}
use Rattle.std.specs.Result.{result_ok}
use Rattle.std.specs.Str.Parse.{digits_value, ParsesUnsigned}
use Rattle.std.proofs.lemmas.Str.Parse.{IsNumeralModel, numerals_by_value, parse_digits}
use Rattle.std.proofs.lemmas.Bool.{ltb-true, lt-ltb}
use Rattle.tiered_call.specs.Words.{is_shortest, number_of}

-- digits are a numeral
own : IsNumeralModel (λ ds. list_all is_ascii_digit ds ≡ true) (digits_value 10)
own = numerals_by_value _ (search rules)

some_digit : (word : List ℕ) → is_shortest word ≡ true → 0 < length word
some_digit [] h = absurd cc
some_digit (d ∷ ds) h = omega arith

not_below : (a b : ℕ) → ¬ (a < b) → nat_lt a b ≡ false
not_below a b nope = go (nat_lt a b) refl
  where
    go : (t : Bool) → nat_lt a b ≡ t → nat_lt a b ≡ false
    go true e = absurd (nope (ltb-true a b e))
    go false e = e

-- what the library's reader gives of shortest digits
pub reads : {E : Type 0} (word : List ℕ) (r : Result ℕ E) → ParsesUnsigned 32 10 word r
    → list_all is_ascii_digit word ≡ true → is_shortest word ≡ true → result_ok r ≡ number_of word
reads {E} word (Ok n) read digits short =
    let p = parse_digits own {E = E} 32 word (Ok n) read digits in
    let small : nat_lt (digits_value 10 word) (2 ^ 32) ≡ true = lt-ltb _ _ p.0.1 in
    rw (digits, short, small) (ap Some p.1)
reads {E} word (Err e) read digits short =
    let p = parse_digits own {E = E} 32 word (Err e) read digits in
    let some = some_digit word short in
    let large = not_below (digits_value 10 word) (2 ^ 32) (λ l. p (some, l)) in
    rw (digits, short, large) refl
