-- The words of a line, and the places at which they begin.
use Rattle.std.specs.Prelude.{◌≡◌, ℕ, ◌+◌, ◌-◌, ◌<◌, ◌⊎◌, true, false, List, ◌++◌, length}
use Rattle.std.specs.List.{slice_index_or}
use Rattle.script_lang.specs.Words.{is_blank}

-- the bytes are a part of others
pub record IsPartOf (part all : List ℕ) : Type 0 where
  pub left : List ℕ
  pub right : List ℕ
  pub parts : left ++ part ++ right ≡ all

-- the front of a text up to the end of a word
pub record IsHead (text head : List ℕ) : Type 0 where
  pub rest : List ℕ
  pub parts : head ++ rest ≡ text
  pub some : 0 < length head
  pub last : is_blank (slice_index_or head (length head - 1) 32) ≡ false

-- a word of the text begins there: no blank is there, and a blank or nothing right before
pub record BeginsWord (text : List ℕ) (at : ℕ) : Type 0 where
  pub within : at < length text
  pub own : is_blank (slice_index_or text at 32) ≡ false
  pub before : (i : ℕ) → i + 1 ≡ at → is_blank (slice_index_or text i 32) ≡ true

-- a word begins there, or the text ends
abbrev pub IsWordStart : List ℕ → ℕ → Type 0
IsWordStart text column = BeginsWord text column ⊎ (column ≡ length text)
