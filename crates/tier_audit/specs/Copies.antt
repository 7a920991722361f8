-- Finished copies, part by part, as their objects are asked for.
use Rattle.std.specs.Prelude.{◌≡◌, ℕ, ◌+◌, ◌≤◌, ◌==◌, if◌then◌else◌, List, ◌∷◌, ◌++◌, length, drop, Option, Some, None}
use Rattle.std.specs.List.{concat}
use Rattle.tier_base.specs.declared.plain.Part.{Part}
use Rattle.tier_base.specs.declared.plain.Part.TheVariants.{Log, Index, TimeIndex, Epochs, Pack}
use Rattle.tier_base.specs.declared.plain.State.TheVariants.{CopyFinished}
use Rattle.log_terms.specs.Log.{joined}
use Rattle.sparse_index.specs.Bytes.{bytes_of}
use Rattle.sparse_index.specs.Offsets.{entry_bytes}
use Rattle.sparse_index.specs.Times.{moment_bytes}
use Rattle.epoch_line.specs.Text.{CanBegin}
use Rattle.segment_file.specs.declared.placed.Placed.{Placed}
use Rattle.segment_file.specs.Index.{placed_from}
use Rattle.segment_meta.specs.declared.note.Entry.{Entry}
use Rattle.object_store.specs.Content.{Objects}
use Rattle.object_store.specs.declared.placing.Spot.{Spot}
use Rattle.object_store.specs.Place.{capped, all_of, short_of}
use Rattle.tier_audit.specs.declared.verdict.Flaw.{Flaw}
use Rattle.tier_audit.specs.declared.verdict.Flaw.TheVariants.{Custom, Missing, Wrong}
use Rattle.tier_audit.specs.declared.copies.LogFound.{LogFound}
use Rattle.tier_audit.specs.declared.copies.LogFound.TheVariants as log_found
use Rattle.tier_audit.specs.Whole.{AreMarks, AreHeights, IsPartRight, place_of, IsPartStored}
use Rattle.tier_audit.specs.Whole.{PartsHold, all_parts, IsReadable, AreReadable}
use Rattle.tier_audit.specs.Entries.{ArePlaced}
use Rattle.tier_audit.specs.Logs.{AuditsLog}
use Rattle.tier_audit.specs.declared.log_part.LogPart.{LogPart}
use Rattle.tier_audit.specs.declared.log_part.LogPart.TheVariants as log_part
use Rattle.tier_audit.specs.Flaws.{IsFirstBad, MayBeginLog, IsEntryPlace, HasCopiedLog, IsCopyFlaw}

-- the batches of a copy's log, as they are in it
pub record HasPlaced (objects : Objects) (entry : Entry) (found : List Placed) : Type 0 where
  pub batches : List (List ℕ)
  pub log : HasCopiedLog objects entry batches
  pub found_are : found ≡ placed_from 0 batches

-- the place that is reported of a part beside these batches
abbrev pub IsPlaceBeside : Entry → List (List ℕ) → Part → List ℕ → ℕ → Type 0
IsPlaceBeside entry batches Log bytes at = IsFirstBad joined (MayBeginLog entry) bytes at
IsPlaceBeside entry batches Index bytes at =
    IsEntryPlace 8 (bytes_of entry_bytes) (AreMarks entry.start batches) bytes at
IsPlaceBeside entry batches TimeIndex bytes at =
    IsEntryPlace 12 (bytes_of moment_bytes) (AreHeights entry.start batches) bytes at
IsPlaceBeside entry batches Epochs bytes at = IsFirstBad concat CanBegin bytes at
IsPlaceBeside entry batches Pack bytes at = ⊥

-- what is found of a part's bytes beside these batches: that they are right, or the place that is reported
abbrev pub AuditsPart : Entry → List (List ℕ) → Part → List ℕ → Option ℕ → Type 0
AuditsPart entry batches part bytes None = IsPartRight entry batches part bytes
AuditsPart entry batches part bytes (Some at) =
    (IsPartRight entry batches part bytes → ⊥) × IsPlaceBeside entry batches part bytes at

-- what is found of a part's bytes, by where the object ends before the part does
abbrev pub ReadsSpot : Entry → List (List ℕ) → Part → Option ℕ → List ℕ → Option ℕ → Type 0
ReadsSpot entry batches part (Some end) bytes found = found ≡ Some (length bytes)
ReadsSpot entry batches part None bytes found = AuditsPart entry batches part bytes found

-- what is found of a log's bytes, by the same
abbrev pub ReadsLogSpot : Entry → Option ℕ → List ℕ → LogPart → Type 0
ReadsLogSpot entry (Some end) bytes found = found ≡ log_part.Wrong (length bytes)
ReadsLogSpot entry None bytes found = AuditsLog entry bytes found

-- the place that is reported of a log's bytes is within them
abbrev pub IsPlaceWithin : List ℕ → LogPart → Type 0
IsPlaceWithin bytes (log_part.Right found) = Unit {0}
IsPlaceWithin bytes (log_part.Wrong at) = at ≤ length bytes

-- a place in a part, reported as one in its object, of which these are the bytes from the part on: the part's end as
-- the object's
abbrev pub from_rest : Spot → List ℕ → ℕ → ℕ
from_rest spot rest at = spot.at + (if at == length (capped spot.len rest) then length rest else at)

-- the object of a part exists, and something is found of the part
pub record IsWrongBeside (objects : Objects) (entry : Entry) (batches : List (List ℕ)) (part : Part) (spot : Spot)
    (at : ℕ) : Type 0 where
  pub object : List ℕ
  pub there : objects spot.key ≡ Some object
  pub within : ℕ
  pub reads : ReadsSpot entry batches part (short_of spot (all_of spot object)) (all_of spot object) (Some within)
  pub at_is : at ≡ from_rest spot (drop spot.at object) within

-- what is found of a part beside these batches, by where it is
abbrev pub FindsAt : Objects → Entry → List (List ℕ) → Part → Option Spot → Option Flaw → Type 0
FindsAt objects entry batches part spot None = IsPartStored objects entry batches part
FindsAt objects entry batches part None (Some (Custom id)) = id ≡ entry.id
FindsAt objects entry batches part (Some spot) (Some (Missing key)) = (key ≡ spot.key) × (objects key ≡ None)
FindsAt objects entry batches part (Some spot) (Some (Wrong key at)) =
    (key ≡ spot.key) × IsWrongBeside objects entry batches part spot at
FindsAt objects entry batches part spot (Some flaw) = ⊥

-- what is found of a part beside these batches
abbrev pub FindsPart : Objects → Entry → List (List ℕ) → Part → Option Flaw → Type 0
FindsPart objects entry batches part found = FindsAt objects entry batches part (place_of entry part) found

-- what is found of a copy's log
abbrev pub FindsLog : Objects → Entry → LogFound → Type 0
FindsLog objects entry (log_found.Right found) = HasPlaced objects entry found.items
FindsLog objects entry (log_found.Flawed flaw) = IsCopyFlaw objects entry flaw

-- its batches are those of a segment, whether the store is observable or not
abbrev pub PlacesLog : Entry → LogFound → Type 0
PlacesLog entry (log_found.Right found) = ArePlaced entry.start found.items
PlacesLog entry (log_found.Flawed flaw) = Unit {0}

-- what is found of all parts of a copy
abbrev pub FindsParts : Objects → Entry → Option Flaw → Type 0
FindsParts objects entry None = PartsHold objects entry all_parts
FindsParts objects entry (Some flaw) = IsCopyFlaw objects entry flaw

-- what is found of an entry's copy
abbrev pub FindsCopy : Objects → Entry → Option Flaw → Type 0
FindsCopy objects entry None = IsReadable objects entry
FindsCopy objects entry (Some flaw) = (entry.state ≡ CopyFinished) × IsCopyFlaw objects entry flaw

-- the first of the copies that isn't readable
pub record IsFirstUnreadable (objects : Objects) (entries : List Entry) (flaw : Flaw) : Type 0 where
  pub before : List Entry
  pub entry : Entry
  pub more : List Entry
  pub parts : entries ≡ before ++ entry ∷ more
  pub readable : AreReadable objects before
  pub finished : entry.state ≡ CopyFinished
  pub flaw_is : IsCopyFlaw objects entry flaw

-- what is found of copies
abbrev pub FindsCopies : Objects → List Entry → Option Flaw → Type 0
FindsCopies objects entries None = AreReadable objects entries
FindsCopies objects entries (Some flaw) = IsFirstUnreadable objects entries flaw
