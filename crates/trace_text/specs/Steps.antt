-- The steps of reading a trace: the line at the front, and where its entry goes.
use Rattle.std.specs.Prelude.{◌≡◌, ℕ, ◌+◌, ◌==◌, Bool, true, false, if◌then◌else◌}
use Rattle.std.specs.Prelude.{List, [], ◌∷◌, ◌++◌, map, All, Option, Some, None, Result, Ok, Err}
use Rattle.std.specs.declared.alloc.AllocError.{AllocError}
use Rattle.std.specs.List.{slice_split}
use Rattle.std.specs.Borrow.{Bor}
use Rattle.plain_log.specs.declared.journal.JournalEntry.{JournalEntry}
use Rattle.trace_text.specs.declared.line.Line.{Line}
use Rattle.trace_text.specs.declared.parts.Parts.{Parts}
use Rattle.trace_text.specs.Read.{told, MayFollow}

-- no LF is in the text
abbrev pub IsOneLine : List ℕ → Type 0
IsOneLine text = All (λ b. (b == 10) ≡ false) text

-- the first line and what follows its LF; or there is no LF
abbrev pub ReadsFirstLine : List ℕ → Option (Bor (List ℕ) × Bor (List ℕ)) → Type 0
ReadsFirstLine bytes None = IsOneLine bytes
ReadsFirstLine bytes (Some found) = IsOneLine found.0.now × (bytes ≡ found.0.now ++ 10 ∷ found.1.now)

-- the words left of a line
abbrev pub words_left : Option (Bor (List ℕ)) → List (List ℕ)
words_left None = []
words_left (Some text) = slice_split (λ b. b == 32) text.now

-- how many bytes are before the first of these
abbrev pub front_len : (ℕ → Bool) → List ℕ → ℕ
front_len is [] = 0
front_len is (b ∷ bytes) = if is b then 0 else front_len is bytes + 1

-- the words after a space
abbrev pub words_behind : List ℕ → List (List ℕ)
words_behind [] = []
words_behind (b ∷ text) = slice_split (λ c. c == 32) text

-- a word that was taken, and those that are left
abbrev pub with_left : Option (Bor (List ℕ)) → List (List ℕ) → List (List ℕ)
with_left None left = []
with_left (Some word) left = word.now ∷ left

-- no word is left
abbrev pub is_done : List (List ℕ) → Bool
is_done [] = true
is_done (word ∷ words) = false

-- the last partition so far, and its entries
abbrev pub last_part : Parts → List (ℕ × List JournalEntry)
last_part parts =
    elim parts.last as (λ _. List (ℕ × List JournalEntry)) [
      | None ↦ []
      | Some last ↦
          (last.0, parts.journal.items) ∷ []
    ]

-- the parts so far
abbrev pub parts_of : Parts → List (ℕ × List JournalEntry)
parts_of parts = map told parts.done ++ last_part parts

-- nothing was put before there is a last partition
abbrev pub HasParts : Parts → Type 0
HasParts parts = parts.last ≡ None → parts.done ≡ []

-- the last part is a new one, of this line
pub record HasBegun (old new : Parts) (line : Line) : Type 0 where
  pub done : new.done ≡ old.done
  pub last : new.last ≡ Some line.partition
  pub entries : new.journal.items ≡ line.entry ∷ []

-- the parts, and an entry more
abbrev pub added : List (ℕ × List JournalEntry) → ℕ → JournalEntry → List (ℕ × List JournalEntry)
added [] partition entry = (partition, entry ∷ []) ∷ []
added (part ∷ []) partition entry =
    if part.0 == partition then (part.0, part.1 ++ entry ∷ []) ∷ [] else part ∷ (partition, entry ∷ []) ∷ []
added (part ∷ next ∷ parts) partition entry = part ∷ added (next ∷ parts) partition entry

-- the entry was put
pub record HasPutEntry (old new : Parts) (line : Line) : Type 0 where
  pub begun : HasParts new
  pub may : MayFollow (parts_of old) line.partition.0
  pub parts : parts_of new ≡ added (parts_of old) line.partition.0 line.entry

-- what putting an entry returns
abbrev pub PutsEntry : Parts → Parts → Line → Result Bool AllocError → Type 0
PutsEntry old new line (Ok true) = HasPutEntry old new line
PutsEntry old new line (Ok false) = MayFollow (parts_of old) line.partition.0 → ⊥
PutsEntry old new line (Err refusal) = Unit {0}
