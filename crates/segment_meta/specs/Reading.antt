-- What bytes say as an event, or the first fault from the left: each rule of the grammar as what it reads at the front
-- of bytes, with what follows it. The places are those of the table in the module Spelling.
--
--   no byte, or the bytes end inside a field         Short
--   a version that is neither 0 nor 1                BadVersion
--   a kind that is neither 0 nor 1                   Bad at 1
--   an end below the start, or past the last offset  Bad at 28
--   a state that can't stand there                   BadState
--   a count of no epoch, or of too many              Bad at 59
--   an epoch or a start that can't stand there       Bad at its place
--   a length of custom metadata that can't be there  Bad at its place
--   bytes behind the last field                      Bad at the first of them
use Rattle.std.specs.Prelude.{◌≡◌, ℕ, zero, suc, ◌+◌, ◌*◌, ◌^◌, ◌==◌, ◌&&◌, nat_le, nat_lt, Bool, true, false}
use Rattle.std.specs.Prelude.{if◌then◌else◌, ℤ, List, [], ◌∷◌, length, take, drop, Option, Some, None, Result, Ok, Err}
use Rattle.std.specs.Int.{Width, w16, w32, w64, byte_len, from_be_bytes, cast_signed}
use Rattle.tier_base.specs.declared.names.SegmentId.{SegmentId}
use Rattle.tier_base.specs.declared.plain.State.{State}
use Rattle.tier_base.specs.declared.plain.State.TheVariants.{CopyStarted, CopyFinished, DeleteStarted, DeleteFinished}
use Rattle.segment_meta.specs.declared.note.Entry.{Entry}
use Rattle.segment_meta.specs.declared.note.Front.{Front}
use Rattle.segment_meta.specs.declared.note.Note.{Note}
use Rattle.segment_meta.specs.declared.note.Note.TheVariants.{Add, Update}
use Rattle.segment_meta.specs.declared.refusal.NoteRefusal.{NoteRefusal}
use Rattle.segment_meta.specs.declared.refusal.NoteRefusal.TheVariants.{Short, BadVersion, BadState, Bad, NoMemory}

-- what was read at the front, and what follows it
abbrev pub Read : Type 0 → Type 0
Read A = Result (A × List ℕ) NoteRefusal

infixl 10 ◌>>=◌
-- the first fault ends it
abbrev pub ◌>>=◌ : {A B : Type 0} → Result A NoteRefusal → (A → Result B NoteRefusal) → Result B NoteRefusal
(Ok x) >>= f = f x
(Err why) >>= f = Err why

-- what was read, where it passes a test
abbrev pub passing : {A : Type 0} → (A → Bool) → NoteRefusal → Read A → Read A
passing test why (Ok x) = if test x.0 then Ok x else Err why
passing test why (Err fault) = Err fault

-- so many bytes
abbrev pub cut_at : ℕ → List ℕ → Read (List ℕ)
cut_at size bytes = if nat_lt (length bytes) size then Err Short else Ok (take size bytes, drop size bytes)

-- a number
unfoldable pub number_at : Width → List ℕ → Read ℕ
number_at w bytes = do
  field ← cut_at (byte_len w) bytes
  Ok (from_be_bytes w field.0, field.1)

-- a timestamp
unfoldable pub ts_at : List ℕ → Read ℤ
ts_at bytes = do
  n ← number_at w64 bytes
  Ok (cast_signed w64 n.0, n.1)

-- an id
unfoldable pub id_at : List ℕ → Read SegmentId
id_at bytes = do
  field ← cut_at 16 bytes
  Ok (record { 0 = field.0 }, field.1)

-- a byte
abbrev pub byte_at : List ℕ → Read ℕ
byte_at [] = Err Short
byte_at (b ∷ bytes) = Ok (b, bytes)

-- a start, and the end that it allows
unfoldable pub range_at : List ℕ → Read (ℕ × ℕ)
range_at bytes = do
  start ← number_at w64 bytes
  end ← passing (λ n. nat_le start.0 n && nat_lt n (2 ^ 62)) (Bad 28) (number_at w64 start.1)
  Ok ((start.0, end.0), end.1)

-- an entry's fields between its id and its map
unfoldable pub front_at : List ℕ → Read Front
front_at bytes = do
  partition ← number_at w16 bytes
  range ← range_at partition.1
  max_ts ← ts_at range.1
  broker ← number_at w16 max_ts.1
  event_ts ← ts_at broker.1
  size ← number_at w32 event_ts.1
  state ← passing (λ code. code == 0) BadState (byte_at size.1)
  Ok (
    record {
      partition = record { 0 = partition.0 };
      start = range.0.0;
      end = range.0.1;
      max_ts = max_ts.0;
      broker = record { 0 = broker.0 };
      event_ts = event_ts.0;
      size = size.0;
    },
    state.1,
  )

-- an epoch may follow the last one
abbrev pub epoch_may : Option (ℕ × ℕ) → ℕ → Bool
epoch_may None epoch = nat_lt epoch (2 ^ 31)
epoch_may (Some last) epoch = nat_lt epoch (2 ^ 31) && nat_lt last.0 epoch

-- a start may follow the last one, in a segment from start to end
abbrev pub start_may : ℕ → ℕ → Option (ℕ × ℕ) → ℕ → Bool
start_may start end None n = n == start
start_may start end (Some last) n = nat_lt last.1 n && nat_le n end

-- an epoch and its start, at a place, after the last ones
unfoldable pub pair_at : ℕ → ℕ → ℕ → Option (ℕ × ℕ) → List ℕ → Read (ℕ × ℕ)
pair_at start end at last bytes = do
  epoch ← passing (epoch_may last) (Bad at) (number_at w32 bytes)
  first ← passing (start_may start end last) (Bad (at + 4)) (number_at w64 epoch.1)
  Ok ((epoch.0, first.0), first.1)

-- so many of them, from a place on
abbrev pub pairs_at : ℕ → ℕ → ℕ → ℕ → Option (ℕ × ℕ) → List ℕ → Read (List (ℕ × ℕ))
pairs_at start end zero at last bytes = Ok ([], bytes)
pairs_at start end (suc count) at last bytes = do
  pair ← pair_at start end at last bytes
  others ← pairs_at start end count (at + 12) (Some pair.0) pair.1
  Ok (pair.0 ∷ others.0, others.1)

-- nothing follows at this place
abbrev pub whole : {A : Type 0} → ℕ → A → List ℕ → Result A NoteRefusal
whole at x [] = Ok x
whole at x (b ∷ bytes) = Err (Bad at)

-- the rest of an entry that is packed or not, from this place on: no custom metadata
unfoldable pub packed_in : Bool → ℕ → List ℕ → Result (Unit {0}) NoteRefusal
packed_in false at bytes = whole at tt bytes
packed_in true at bytes = do
  size ← passing (λ n. n == 0) (Bad at) (number_at w16 bytes)
  whole (at + 2) tt size.1

-- the entry of these parts, whose copy has started
abbrev pub entry_of : Bool → SegmentId → Front → List (ℕ × ℕ) → Entry
entry_of packed id front pairs = record {
  id = id;
  partition = front.partition;
  start = front.start;
  end = front.end;
  max_ts = front.max_ts;
  broker = front.broker;
  event_ts = front.event_ts;
  size = front.size;
  state = CopyStarted;
  map = pairs;
  packed = packed;
  custom = None;
}

-- an event that adds an entry, packed or not, after version and kind
unfoldable pub added_in : Bool → List ℕ → Result Note NoteRefusal
added_in packed bytes = do
  id ← id_at bytes
  front ← front_at id.1
  count ← passing (λ n. nat_lt 0 n && nat_le n 67108864) (Bad 59) (number_at w32 front.1)
  pairs ← pairs_at front.0.start front.0.end count.0 63 None count.1
  end ← packed_in packed (63 + 12 * count.0) pairs.1
  Ok (Add (entry_of packed id.0 front.0 pairs.0))

-- a state that an update may report
abbrev pub later_state : ℕ → Result State NoteRefusal
later_state code =
    if code == 1 then Ok CopyFinished else if code == 2 then Ok DeleteStarted
    else if code == 3 then Ok DeleteFinished else Err BadState

-- custom metadata of so many bytes may be in an update to a state
abbrev pub size_may : State → ℕ → Bool
size_may CopyFinished n = nat_le n 128
size_may state n = n == 0

-- the rest of an update to a state, of a packed segment or not: the custom metadata
unfoldable pub custom_in : Bool → State → List ℕ → Result (Option (List ℕ)) NoteRefusal
custom_in false state bytes = whole 29 None bytes
custom_in true state bytes = do
  size ← passing (size_may state) (Bad 29) (number_at w16 bytes)
  custom ← cut_at size.0 size.1
  whole (31 + size.0) (Some custom.0) custom.1

-- an event that updates an entry, packed or not, after version and kind
unfoldable pub updated_in : Bool → List ℕ → Result Note NoteRefusal
updated_in packed bytes = do
  id ← id_at bytes
  broker ← number_at w16 id.1
  event_ts ← ts_at broker.1
  code ← byte_at event_ts.1
  state ← later_state code.0
  custom ← custom_in packed state code.1
  Ok (Update id.0 (record { 0 = broker.0 }) event_ts.0 state custom)

-- the rest of an event of a segment that is packed or not, after its version
abbrev pub kind_in : Bool → List ℕ → Result Note NoteRefusal
kind_in packed [] = Err Short
kind_in packed (kind ∷ bytes) =
    if kind == 0 then added_in packed bytes else if kind == 1 then updated_in packed bytes else Err (Bad 1)

-- the event that bytes are, or why they are none
unfoldable pub note_in : List ℕ → Result Note NoteRefusal
note_in [] = Err Short
note_in (version ∷ bytes) = if nat_le version 1 then kind_in (version == 1) bytes else Err BadVersion

-- an answer, its value seen by view
abbrev pub seen : {X Y : Type 0} → (X → Y) → Result X NoteRefusal → Result Y NoteRefusal
seen view (Ok x) = Ok (view x)
seen view (Err why) = Err why

-- nothing is said where memory ran out
abbrev pub Refuses : {Y : Type 0} → NoteRefusal → Result Y NoteRefusal → Type 0
Refuses NoMemory read = Unit {0}
Refuses why read = read ≡ Err why

-- what a reader answers that takes memory
abbrev pub Answers : {X Y : Type 0} → (X → Y) → Result X NoteRefusal → Result Y NoteRefusal → Type 0
Answers view (Ok x) read = read ≡ Ok (view x)
Answers view (Err why) read = Refuses why read
