-- What the events of a metadata log come to: the fold of them, in their order.
--
-- Source: KIP-405, where each broker keeps such a view of a partition's remote segments.
use Rattle.std.specs.Prelude.{◌≡◌, ℕ, ◌^◌, ◌<◌, ◌≤◌, ℤ, if◌then◌else◌, is_some, List, [], ◌∷◌, ◌++◌, length, filter}
use Rattle.std.specs.Prelude.{not, Option, Some, None}
use Rattle.std.specs.List.{AllByRecursion}
use Rattle.std.specs.Option.{option_map}
use Rattle.std.specs.Str.{bytes_eq}
use Rattle.tier_base.specs.declared.names.BrokerId.{BrokerId}
use Rattle.tier_base.specs.declared.names.SegmentId.{SegmentId}
use Rattle.tier_base.specs.declared.plain.State.{State}
use Rattle.tier_base.specs.declared.plain.State.TheVariants.{CopyFinished}
use Rattle.tier_base.specs.Counts.{counted}
use Rattle.tier_base.specs.Key.{IsId}
use Rattle.segment_meta.specs.declared.note.Entry.{Entry}
use Rattle.segment_meta.specs.declared.note.Note.{Note}
use Rattle.segment_meta.specs.declared.note.Note.TheVariants.{Add, Update}
use Rattle.segment_meta.specs.Steps.{next_state}
use Rattle.segment_meta.specs.Rules.{IsMap}

-- the entry of an id
abbrev pub entry_of : SegmentId → List Entry → Option Entry
entry_of id [] = None
entry_of id (entry ∷ entries) = if bytes_eq entry.id.0 id.0 then Some entry else entry_of id entries

-- the state of an id's entry
abbrev pub state_of : SegmentId → List Entry → Option State
state_of id entries = option_map (λ entry. entry.state) (entry_of id entries)

-- the custom metadata after an update: a finished copy's is what the update gives, and no other update changes it
abbrev pub custom_after : State → Option (List ℕ) → Option (List ℕ) → Option (List ℕ)
custom_after CopyFinished told old = told
custom_after state told old = old

-- an entry as an update leaves it
abbrev pub updated : BrokerId → ℤ → State → Option (List ℕ) → Entry → Entry
updated broker event_ts state custom entry = record entry {
  broker = broker;
  event_ts = event_ts;
  state = state;
  custom = custom_after state custom entry.custom;
}

-- the entries, an id's entry changed
abbrev pub changed : SegmentId → (Entry → Entry) → List Entry → List Entry
changed id change [] = []
changed id change (entry ∷ entries) =
    if bytes_eq entry.id.0 id.0 then change entry ∷ entries else entry ∷ changed id change entries

-- the entries after an event: one that makes no step changes nothing
abbrev pub recorded : List Entry → Note → List Entry
recorded entries (Add entry) =
    if is_some (next_state (state_of entry.id entries) entry.state) then entries ++ entry ∷ [] else entries
recorded entries (Update id broker event_ts state custom) =
    if is_some (next_state (state_of id entries) state) then changed id (updated broker event_ts state custom) entries
    else entries

-- the entries after further events
abbrev pub folded_from : List Entry → List Note → List Entry
folded_from entries [] = entries
folded_from entries (note ∷ notes) = folded_from (recorded entries note) notes

-- the fold of events
abbrev pub fold : List Note → List Entry
fold notes = folded_from [] notes

-- what a broker has seen of a metadata log: the entries, and the number of events
pub record EntriesSeen : Type 0 where
  pub entries : List Entry
  pub notes : ℕ

-- the view after one event more
abbrev pub fed : EntriesSeen → Note → EntriesSeen
fed view note = record { entries = recorded view.entries note; notes = counted view.notes 1 }

-- the view of events
abbrev pub view_of : List Note → EntriesSeen
view_of notes = record { entries = fold notes; notes = counted 0 (length notes) }

-- an entry's id, its offsets, and its map of epochs in them
pub record IsEntryValid (entry : Entry) : Type 0 where
  pub id : IsId entry.id
  pub ordered : entry.start ≤ entry.end
  pub bounded : entry.end < 2 ^ 62
  pub map : IsMap entry.start entry.end entry.map

-- each entry is
abbrev pub AreEntriesValid : List Entry → Type 0
AreEntriesValid entries = AllByRecursion IsEntryValid entries

-- no two entries have one id
abbrev pub AreDistinct : List Entry → Type 0
AreDistinct [] = Unit {0}
AreDistinct (entry ∷ entries) = (entry_of entry.id entries ≡ None) × AreDistinct entries

-- the entries of other ids
abbrev pub others : SegmentId → List Entry → List Entry
others id entries = filter (λ entry. not (bytes_eq entry.id.0 id.0)) entries
