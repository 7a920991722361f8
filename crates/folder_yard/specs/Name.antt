-- The names of files as text: those of a broker's log, of a metadata log and of a registry.
--
-- name = "manifest" / 20DIGIT ".log" / "notes" / "gate" / "registry"
--
-- The digits are the base offset of a log segment in decimal, with leading zeros, and below 2^64.
--
-- Source: Kafka's LogFileUtils.filenamePrefixFromOffset, 20 digits, and its suffix for log segments.
use Rattle.std.specs.Prelude.{◌≡◌, ◌≢◌, ℕ, zero, suc, ◌+◌, ◌<◌, ◌^◌, ◌/◌, ◌%◌, List}
use Rattle.std.specs.Prelude.{[], ◌∷◌, ◌++◌, codes, Option, Some, None, ⊤}
use Rattle.tier_base.specs.declared.plain.FileName.{FileName}
use Rattle.tier_base.specs.declared.plain.FileName.TheVariants.{Manifest, Log, Notes, Gate, Registry}

-- the last so many decimal digits of a number
abbrev pub digits_of : ℕ → ℕ → List ℕ
digits_of zero n = []
digits_of (suc w) n = digits_of w (n / 10) ++ (48 + n % 10) ∷ []

-- the digits of a base offset
unfoldable pub base_text : ℕ → List ℕ
base_text base = digits_of 20 base

-- the name of a file
abbrev pub file_text : FileName → List ℕ
file_text Manifest = codes "manifest"
file_text (Log base) = base_text base ++ codes ".log"
file_text Notes = codes "notes"
file_text Gate = codes "gate"
file_text Registry = codes "registry"

-- the ending of a file that is written and not yet put in its place
abbrev pub unfinished : List ℕ
unfinished = codes ".new"

-- a file whose base offset has 64 bits
abbrev pub IsNameInRange : FileName → Type 0
IsNameInRange Manifest = ⊤
IsNameInRange (Log base) = base < 2 ^ 64
IsNameInRange Notes = ⊤
IsNameInRange Gate = ⊤
IsNameInRange Registry = ⊤

-- what the reader of a base offset answers: the one that is spelled so, or none where none is
abbrev pub ReadsBase : List ℕ → Option ℕ → Type 0
ReadsBase digits None = (base : ℕ) → base < 2 ^ 64 → base_text base ≢ digits
ReadsBase digits (Some base) = (base < 2 ^ 64) × (base_text base ≡ digits)

-- what the reader of a log segment's name answers
abbrev pub ReadsLogName : List ℕ → Option ℕ → Type 0
ReadsLogName text None = (base : ℕ) → base < 2 ^ 64 → file_text (Log base) ≢ text
ReadsLogName text (Some base) = (base < 2 ^ 64) × (file_text (Log base) ≡ text)

-- the name of no other file
pub record IsNotFixed (text : List ℕ) : Type 0 where
  pub manifest : file_text Manifest ≢ text
  pub notes : file_text Notes ≢ text
  pub gate : file_text Gate ≢ text
  pub registry : file_text Registry ≢ text

-- what the reader of the other names answers
abbrev pub ReadsFixed : List ℕ → Option FileName → Type 0
ReadsFixed text None = IsNotFixed text
ReadsFixed text (Some name) = IsNameInRange name × (file_text name ≡ text)

-- what the reader of a name answers: the file that is named so, or none where none is
abbrev pub ReadsName : List ℕ → Option FileName → Type 0
ReadsName text None = (name : FileName) → IsNameInRange name → file_text name ≢ text
ReadsName text (Some name) = IsNameInRange name × (file_text name ≡ text)
