-- What the bytes of a metadata log begin with: the length of an event in four bytes, big endian, and the event.
use Rattle.std.specs.Prelude.{◌≡◌, ◌≢◌, ℕ, ◌+◌, ◌≤◌, List, [], length, take, drop}
use Rattle.std.specs.Prelude.{Ok, Err}
use Rattle.std.specs.Int.{w32, from_be_bytes}
use Rattle.segment_meta.specs.declared.note.Note.{Note}
use Rattle.segment_meta.specs.declared.refusal.NoteRefusal.{NoteRefusal}
use Rattle.segment_meta.specs.Rules.{IsNote}
use Rattle.segment_meta.specs.Reading.{note_in}
use Rattle.dump_lines.specs.declared.notes_lines.NextNote.{NextNote}
use Rattle.dump_lines.specs.declared.notes_lines.NextNote.TheVariants.{Event, End, Cut, Bad}

-- the length of the event at the front
abbrev pub size_at : List ℕ → ℕ
size_at bytes = from_be_bytes w32 (take 4 bytes)

-- the bytes of the event at the front
abbrev pub event_at : List ℕ → List ℕ
event_at bytes = take (size_at bytes) (drop 4 bytes)

-- all bytes of the event at the front exist
pub record IsWholeEvent (bytes : List ℕ) : Type 0 where
  pub counted : 4 ≤ length bytes
  pub there : 4 + size_at bytes ≤ length bytes

-- this event is at the front, and these bytes follow it
pub record IsEventAtFront (bytes : List ℕ) (note : Note) (behind : List ℕ) : Type 0 where
  pub whole : IsWholeEvent bytes
  pub is : note_in (event_at bytes) ≡ Ok note
  pub rules : IsNote note
  pub follow : behind ≡ drop (size_at bytes) (drop 4 bytes)

-- there are bytes, and not all of an event
pub record IsCutShort (bytes : List ℕ) : Type 0 where
  pub some : bytes ≢ []
  pub short : IsWholeEvent bytes → ⊥

-- all bytes of an event exist, and they are invalid, with this first fault
pub record IsBadEvent (bytes : List ℕ) (why : NoteRefusal) : Type 0 where
  pub whole : IsWholeEvent bytes
  pub is : note_in (event_at bytes) ≡ Err why

-- what is at the front
abbrev pub IsNextEvent : List ℕ → NextNote → Type 0
IsNextEvent bytes (Event note behind) = IsEventAtFront bytes note behind.now
IsNextEvent bytes End = bytes ≡ []
IsNextEvent bytes Cut = IsCutShort bytes
IsNextEvent bytes (Bad why) = IsBadEvent bytes why
