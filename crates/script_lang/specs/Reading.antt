-- What the readers of a line, a word or a part return, and how they go over a text from its front.
use Rattle.std.specs.Prelude.{◌≡◌, ℕ, ◌+◌, ◌==◌, Bool, if◌then◌else◌, List, [], ◌∷◌, Option, Some, None, Result, Ok}
use Rattle.std.specs.Prelude.{Err}
use Rattle.std.specs.List.{slice_split}
use Rattle.std.specs.Borrow.{Bor}
use Rattle.script_lang.specs.declared.refusal.Why.{Why}
use Rattle.script_lang.specs.declared.refusal.LineRefusal.{LineRefusal}
use Rattle.script_lang.specs.declared.refusal.LineRefusal.TheVariants.{Because, NoMemory}
use Rattle.script_lang.specs.declared.refusal.ScriptRefusal.{ScriptRefusal}
use Rattle.script_lang.specs.declared.refusal.ScriptRefusal.TheVariants.{Bad, NoMemory as NoRoom}
use Rattle.script_lang.specs.Words.{parts_of}

-- what is returned for this result. Only being out of memory is unspecified
abbrev pub AnswersReading : {A : Type 0} → Result A LineRefusal → Result A Why → Type 0
AnswersReading (Ok x) reading = reading ≡ Ok x
AnswersReading (Err (Because why)) reading = reading ≡ Err why
AnswersReading (Err NoMemory) reading = Unit {0}

-- the same of the line with this number, as a script's refusal reports it
abbrev pub ReadsLine : {A : Type 0} → ℕ → Result A ScriptRefusal → Result A Why → Type 0
ReadsLine number (Ok x) reading = reading ≡ Ok x
ReadsLine number (Err (Bad line why)) reading = (line ≡ number) × (reading ≡ Err why)
ReadsLine number (Err NoRoom) reading = Unit {0}

-- what was read, and the words left
abbrev pub with_rest : {A : Type 0} → Result A Why → List (List ℕ) → Result (A × List (List ℕ)) Why
with_rest (Ok x) rest = Ok (x, rest)
with_rest (Err why) rest = Err why

-- the word that was read, and the words left
abbrev pub word_with_rest : Result (Bor (List ℕ)) Why → List (List ℕ) → Result (List ℕ × List (List ℕ)) Why
word_with_rest (Ok word) rest = Ok (word.now, rest)
word_with_rest (Err why) rest = Err why

-- the text that was read
abbrev pub text_shown : Result (Bor (List ℕ)) Why → Result (List ℕ) Why
text_shown (Ok text) = Ok text.now
text_shown (Err why) = Err why

-- the length of the first line, its line feed included
abbrev pub line_len : List ℕ → ℕ
line_len [] = 0
line_len (b ∷ bytes) = if b == 10 then 1 else line_len bytes + 1

-- how many bytes are before the first of these
abbrev pub front_len : (ℕ → Bool) → List ℕ → ℕ
front_len is [] = 0
front_len is (b ∷ bytes) = if is b then 0 else front_len is bytes + 1

-- the parts after a separator
abbrev pub behind : (ℕ → Bool) → List ℕ → List (List ℕ)
behind is [] = []
behind is (b ∷ bytes) = slice_split is bytes

-- the parts of what is left of a word
abbrev pub parts_left : ℕ → Option (Bor (List ℕ)) → List (List ℕ)
parts_left separator None = []
parts_left separator (Some word) = parts_of separator word.now
