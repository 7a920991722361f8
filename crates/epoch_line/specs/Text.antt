-- The text that keeps a line: one spelling, and each line of it ends with a line feed.
--
-- text    = version count *entry       as many entries as the count says
-- version = "0" LF
-- count   = number LF
-- entry   = epoch SP start LF
--
-- Numbers are decimal without leading zeros. Epochs and starts both rise. Nothing follows the last entry.
use Rattle.std.specs.Prelude.{◌≡◌, ◌≢◌, ℕ, ◌+◌, ◌^◌, ◌≤◌, List, [], ◌∷◌, ◌++◌, length, map, codes, decimal, Ok, Err}
use Rattle.std.specs.declared.result.Result.{Result}
use Rattle.std.specs.Borrow.{Bor}
use Rattle.std.specs.List.{concat}
use Rattle.epoch_line.specs.declared.refusal.TextRefusal.{TextRefusal}
use Rattle.epoch_line.specs.declared.refusal.TextRefusal.TheVariants.{BadText, NoMemory}
use Rattle.epoch_line.specs.Line.{IsLine}

-- version = "0" LF
abbrev pub version_line : List ℕ
version_line = codes "0\n"

-- count = number LF
abbrev pub count_line : ℕ → List ℕ
count_line count = decimal count ++ codes "\n"

-- entry = epoch SP start LF
abbrev pub entry_line : ℕ × ℕ → List ℕ
entry_line entry = decimal entry.0 ++ codes " " ++ decimal entry.1 ++ codes "\n"

-- text = version count *entry
abbrev pub text_of : List (ℕ × ℕ) → List ℕ
text_of line = version_line ++ count_line (length line) ++ concat (map entry_line line)

-- these lines are entries that rise, and no more than the count
pub record AreEntries (count : ℕ) (lines : List (List ℕ)) : Type 0 where
  pub line : List (ℕ × ℕ)
  pub rises : IsLine line
  pub few : length line ≤ count
  pub spelled : lines ≡ map entry_line line

-- a text can begin with these lines; there are no more than 2^31 epochs to count
abbrev pub CanBegin : List (List ℕ) → Type 0
CanBegin [] = Unit {0}
CanBegin (version ∷ []) = version ≡ version_line
CanBegin (version ∷ count ∷ entries) =
    (version ≡ version_line) × ((n : ℕ) × (n ≤ 2 ^ 31) × (count ≡ count_line n) × AreEntries n entries)

-- the bytes are no text, and this is their first line that can't exist, counted from 1
pub record IsFirstBadLine (bytes : List ℕ) (number : ℕ) : Type 0 where
  pub before : List (List ℕ)
  pub rest : List ℕ
  pub parts : bytes ≡ concat before ++ rest
  pub stands : CanBegin before
  pub counted : number ≡ length before + 1
  pub stops : (line more : List ℕ) → rest ≡ line ++ more → CanBegin (before ++ line ∷ []) → ⊥
  pub unread : (line : List (ℕ × ℕ)) → IsLine line → bytes ≢ text_of line

-- what the reader answers
abbrev pub ReadsText : List ℕ → Result (List (ℕ × ℕ)) TextRefusal → Type 0
ReadsText bytes (Ok line) = bytes ≡ text_of line
ReadsText bytes (Err (BadText number)) = IsFirstBadLine bytes number
ReadsText bytes (Err NoMemory) = Unit {0}

-- what the reader of the first two lines answers
abbrev pub ReadsHead : List ℕ → Result (ℕ × Bor (List ℕ)) TextRefusal → Type 0
ReadsHead bytes (Ok head) = (head.0 ≤ 2 ^ 31) × (bytes ≡ version_line ++ count_line head.0 ++ head.1.now)
ReadsHead bytes (Err (BadText number)) = IsFirstBadLine bytes number
ReadsHead bytes (Err NoMemory) = ⊥

-- an entry, and more
abbrev pub entry_text : ℕ × ℕ → List ℕ → List ℕ
entry_text entry rest = entry_line entry ++ rest
