-- What an event must say.
use Rattle.std.specs.Prelude.{◌≡◌, ◌≢◌, ℕ, ◌^◌, ◌<◌, ◌≤◌, Bool, true, false, List, []}
use Rattle.std.specs.Prelude.{◌∷◌, length, Option, Some, None, FitsSigned}
use Rattle.std.specs.Int.{w64}
use Rattle.std.specs.List.{All, AllByRecursion}
use Rattle.std.specs.Option.{ForSome}
use Rattle.tier_base.specs.declared.plain.State.{State}
use Rattle.tier_base.specs.declared.plain.State.TheVariants.{CopyStarted, CopyFinished}
use Rattle.tier_base.specs.Key.{IsId}
use Rattle.epoch_line.specs.Line.{IsLine}
use Rattle.segment_meta.specs.declared.note.Entry.{Entry}
use Rattle.segment_meta.specs.declared.note.Note.{Note}
use Rattle.segment_meta.specs.declared.note.Note.TheVariants.{Add, Update}

-- the first entry starts here
abbrev pub StartsAt : ℕ → List (ℕ × ℕ) → Type 0
StartsAt start [] = ⊥
StartsAt start (pair ∷ pairs) = pair.1 ≡ start

-- a map of the epochs in a segment from a start to an end: the segment's first offset has one
pub record IsMap (start end : ℕ) (pairs : List (ℕ × ℕ)) : Type 0 where
  pub line : IsLine pairs
  pub first : StartsAt start pairs
  pub within : AllByRecursion (λ pair. pair.1 ≤ end) pairs
  pub few : length pairs ≤ 67108864

-- an entry that an event may add: its copy has started
pub record IsAdded (entry : Entry) : Type 0 where
  pub started : entry.state ≡ CopyStarted
  pub ordered : entry.start ≤ entry.end
  pub bounded : entry.end < 2 ^ 62
  pub map : IsMap entry.start entry.end entry.map
  pub bare : entry.custom ≡ None

-- custom metadata that an update to a state may report: short, and empty unless the copy is finished
pub record IsCustom (state : State) (bytes : List ℕ) : Type 0 where
  pub few : length bytes ≤ 128
  pub bare : state ≢ CopyFinished → bytes ≡ []

-- and so where it is observable
abbrev pub MayHaveCustom : State → Option (List ℕ) → Type 0
MayHaveCustom state None = Unit {0}
MayHaveCustom state (Some bytes) = IsCustom state bytes

-- the custom metadata of an update that reports nothing of it, of a segment that is packed or not
abbrev pub bare_custom : Bool → Option (List ℕ)
bare_custom false = None
bare_custom true = Some []

-- the rules of an event
abbrev pub IsNote : Note → Type 0
IsNote (Add entry) = IsAdded entry
IsNote (Update id broker event_ts state custom) = (state ≢ CopyStarted) × MayHaveCustom state custom

-- an entry as a program holds it
pub record EntryFits (entry : Entry) : Type 0 where
  pub id : IsId entry.id
  pub partition : entry.partition.0 < 2 ^ 16
  pub max_ts : FitsSigned w64 entry.max_ts
  pub broker : entry.broker.0 < 2 ^ 16
  pub event_ts : FitsSigned w64 entry.event_ts
  pub size : entry.size < 2 ^ 32

-- an event as a program holds it
abbrev pub NoteFits : Note → Type 0
NoteFits (Add entry) = EntryFits entry
NoteFits (Update id broker event_ts state custom) =
    IsId id × (broker.0 < 2 ^ 16) × FitsSigned w64 event_ts × ForSome custom (All (λ b. b < 256))
