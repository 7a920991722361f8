-- The words of a line, and the numbers among them.
--
--   line    = [blanks] *(word blanks) [word]      blanks: one or more spaces and tabs
--   number  = one or more decimal digits, which may lead with zeros, and each place has its range
--   signed  = number | -1 | -2                    where an option's range has them, and spelled so alone
--
-- The leftmost cause is reported: each `do` reads word by word. A word that is missing, or one too many,
-- is Word; a number that isn't decimal or is out of its range is Number.
use Rattle.std.specs.Prelude.{ℤ, pos, negsuc, codes, bytes_eq, ℕ, ◌+◌, ◌-◌, ◌*◌, ◌==◌, ◌&&◌, ◌||◌, nat_le, Bool, true}
use Rattle.std.specs.Prelude.{false, if◌then◌else◌, List, [], ◌∷◌, filter, Result, Ok, Err}
use Rattle.std.specs.List.{list_all, slice_split}
use Rattle.script_lang.specs.declared.refusal.Why.{Why}
use Rattle.script_lang.specs.declared.refusal.Why.TheVariants.{Word, Number}

infixl 10 ◌>>=◌
-- the second result, if the first is valid
abbrev pub ◌>>=◌ : {A B : Type 0} → Result A Why → (A → Result B Why) → Result B Why
Ok x >>= f = f x
Err why >>= f = Err why

-- a space or a tab
abbrev pub is_blank : ℕ → Bool
is_blank b = b == 32 || b == 9

-- there are bytes
abbrev pub is_some_text : List ℕ → Bool
is_some_text [] = false
is_some_text (b ∷ bytes) = true

-- the words between the blanks
unfoldable pub words_of : List ℕ → List (List ℕ)
words_of text = filter is_some_text (slice_split is_blank text)

-- the parts of a word between the separators: one more than there are separators, and a part may be empty
unfoldable pub parts_of : ℕ → List ℕ → List (List ℕ)
parts_of separator word = slice_split (λ b. b == separator) word

-- the first, and those after it
abbrev pub first_of : List (List ℕ) → Why → Result (List ℕ × List (List ℕ)) Why
first_of [] why = Err why
first_of (word ∷ words) why = Ok (word, words)

-- none is left
abbrev pub end_of : List (List ℕ) → Why → Result (Unit {0}) Why
end_of [] why = Ok tt
end_of (word ∷ words) why = Err why

-- a decimal digit
abbrev pub is_digit : ℕ → Bool
is_digit b = nat_le 48 b && nat_le b 57

-- the number whose digits are those of n, and then these
abbrev pub value_of : ℕ → List ℕ → ℕ
value_of n [] = n
value_of n (d ∷ digits) = value_of (10 * n + (d - 48)) digits

-- one or more digits
unfoldable pub is_number : List ℕ → Bool
is_number word = is_some_text word && list_all is_digit word

-- a number from low to high
unfoldable pub number_in : ℕ → ℕ → List ℕ → Why → Result ℕ Why
number_in low high word why =
    if is_number word && nat_le low (value_of 0 word) && nat_le (value_of 0 word) high
    then Ok (value_of 0 word)
    else Err why

-- a number from 0 to high, or one of so many below 0: -1, or -1 and -2
unfoldable pub signed_in : ℕ → ℕ → List ℕ → Why → Result ℤ Why
signed_in below high word why =
    if nat_le 1 below && bytes_eq word (codes "-1") then Ok (negsuc 0)
    else if nat_le 2 below && bytes_eq word (codes "-2") then Ok (negsuc 1)
    else number_in 0 high word why >>= λ n. Ok (pos n)

-- the number that is the first word, and the words after it
unfoldable pub number_first : ℕ → ℕ → List (List ℕ) → Result (ℕ × List (List ℕ)) Why
number_first low high words = do
  word ← first_of words Word
  number ← number_in low high word.0 Number
  Ok (number, word.1)

-- the number that is the only word
unfoldable pub only_number : ℕ → ℕ → List (List ℕ) → Result ℕ Why
only_number low high words = do
  number ← number_first low high words
  end ← end_of number.1 Word
  Ok number.0

-- the same, where -1 or -2 may exist
unfoldable pub only_signed : ℕ → ℕ → List (List ℕ) → Result ℤ Why
only_signed below high words = do
  word ← first_of words Word
  number ← signed_in below high word.0 Number
  end ← end_of word.1 Word
  Ok number
