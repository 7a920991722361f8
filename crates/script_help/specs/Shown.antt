-- How a line is shown, with a caret under one of its columns.
--
--   "    " line LF
--   "    " spaces ^ LF
--
-- Of a long line the part round the caret is shown. A tab is shown as a space, and a byte that isn't printable as ?.
use Rattle.std.specs.Prelude.{◌≡◌, ◌≢◌, ℕ, ◌+◌, ◌==◌, ◌&&◌, nat_le, if◌then◌else◌, List}
use Rattle.std.specs.Prelude.{[], ◌∷◌, ◌++◌, length, map, replicate, codes}
use Rattle.script_lang.specs.declared.refusal.Why.{Why}
use Rattle.script_lang.specs.declared.refusal.Why.TheVariants.{NotText}
use Rattle.script_help.specs.Places.{IsPartOf, IsWordStart}

-- the byte that is shown for one of a line
abbrev pub shown_byte : ℕ → ℕ
shown_byte b = if b == 9 then 32 else if nat_le 32 b && nat_le b 126 then b else 63

-- a line and a caret
abbrev pub line_shown : List ℕ → ℕ → List ℕ
line_shown part at = codes "    " ++ map shown_byte part ++ 10 ∷ codes "    " ++ replicate at 32 ++ 94 ∷ 10 ∷ []

-- the part of a text that is shown, and where one of the text's columns is in it
pub record IsWindow (text : List ℕ) (column : ℕ) (part : List ℕ) (at : ℕ) : Type 0 where
  pub left : List ℕ
  pub right : List ℕ
  pub parts : left ++ part ++ right ≡ text
  pub under : length left + at ≡ column

-- what was written shows a line with a caret under that column
pub record ShowsLine (text : List ℕ) (column : ℕ) (old new : List ℕ) : Type 0 where
  pub part : List ℕ
  pub at : ℕ
  pub window : IsWindow text column part at
  pub written : new ≡ old ++ line_shown part at

-- the text's last line is ended
pub record IsEnded (text : List ℕ) : Type 0 where
  pub body : List ℕ
  pub parts : text ≡ body ++ 10 ∷ []

-- the text shows a line of the script with a caret under a word or at the line's end, where no byte is at fault, and
-- continues to the end of a line
pub record Explains (script : List ℕ) (why : Why) (text : List ℕ) : Type 0 where
  pub line : List ℕ
  pub of_script : IsPartOf line script
  pub column : ℕ
  pub under : why ≢ NotText → IsWordStart line column
  pub front : List ℕ
  pub shown : ShowsLine line column [] front
  pub rest : List ℕ
  pub ended : IsEnded rest
  pub parts : text ≡ front ++ rest
