-- The lines of a script, and the text of each.
--
--   script  = *(text [CR] LF) [text]
--   text    = any number of spaces, tabs and printable ASCII bytes, 32 to 126
--
-- A CR is valid only right before an LF. A line with another byte is NotText, also if it is a comment.
use Rattle.std.specs.Prelude.{ℕ, ◌-◌, ◌==◌, ◌&&◌, ◌||◌, nat_le, Bool, if◌then◌else◌, List, [], ◌∷◌, length, take}
use Rattle.std.specs.Prelude.{drop, codes, bytes_eq, Result, Ok, Err}
use Rattle.std.specs.List.{list_all}
use Rattle.script_lang.specs.declared.refusal.Why.{Why}
use Rattle.script_lang.specs.declared.refusal.Why.TheVariants.{NotText}

-- the byte is put at the front of the first line
abbrev pub before_first : ℕ → List (List ℕ) → List (List ℕ)
before_first b [] = (b ∷ []) ∷ []
before_first b (line ∷ lines) = (b ∷ line) ∷ lines

-- each line with its line feed, and what follows the last line feed, if anything does
abbrev pub lines_of : List ℕ → List (List ℕ)
lines_of [] = []
lines_of (b ∷ bytes) = if b == 10 then (b ∷ []) ∷ lines_of bytes else before_first b (lines_of bytes)

-- the line ends with these bytes
abbrev pub ends_with : List ℕ → List ℕ → Bool
ends_with line end = nat_le (length end) (length line) && bytes_eq (drop (length line - length end) line) end

-- what precedes CR LF, or LF
unfoldable pub text_of : List ℕ → List ℕ
text_of line =
    if ends_with line (codes "\r\n") then take (length line - 2) line
    else if ends_with line (codes "\n") then take (length line - 1) line
    else line

-- a tab, or a printable byte
abbrev pub is_text_byte : ℕ → Bool
is_text_byte b = b == 9 || (nat_le 32 b && nat_le b 126)

-- the text of a line
abbrev pub text_in : List ℕ → Result (List ℕ) Why
text_in line = if list_all is_text_byte (text_of line) then Ok (text_of line) else Err NotText
