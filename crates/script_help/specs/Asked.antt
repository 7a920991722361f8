-- What the reader of scripts says of lines that are made up to ask it.
use Rattle.std.specs.Prelude.{◌≡◌, ℕ, Bool, true, false, List, ◌∷◌, ◌++◌, Result, Ok, Err}
use Rattle.script_lang.specs.declared.refusal.Why.{Why}
use Rattle.script_lang.specs.declared.refusal.Why.TheVariants.{NotText, Word, Number, Field, Hex}
use Rattle.script_lang.specs.declared.script.Script.{Script}
use Rattle.script_lang.specs.Script.{script_in}

-- not a cause of a line's bytes or of its words
abbrev pub is_later_cause : Why → Bool
is_later_cause NotText = false
is_later_cause Word = false
is_later_cause Number = false
is_later_cause Field = false
is_later_cause Hex = false
is_later_cause other = true

-- the words of the lines are valid, up to the first line that is refused for another cause
abbrev pub words_read : Result Script (ℕ × Why) → Bool
words_read (Ok script) = true
words_read (Err (line, why)) = is_later_cause why

-- the same of a script's bytes
abbrev pub HasWords : List ℕ → Type 0
HasWords script = words_read (script_in script) ≡ true

-- the last line can continue to one whose words are valid
pub record CanBeCompleted (script : List ℕ) : Type 0 where
  pub tail : List ℕ
  pub reads : HasWords (script ++ tail)

-- a word after a text
abbrev pub then_word : List ℕ → List ℕ → List ℕ
then_word head word = head ++ 32 ∷ word
