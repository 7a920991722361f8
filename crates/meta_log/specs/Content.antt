-- What a metadata log holds, and what its calls do to it.
--
--   form                    says
--   AreNotes notes          the rules of an event hold of each
--   Left c l                a power cut now may leave the events l
--   LeavesTold c            it leaves the events that are reported, and no others
--   Grows note may_be o n   a call that puts an event at the end, where it was done
--   Keeps old new           a call that changes nothing
--
-- A call is whole. One that answers `Failed` may have been done or not.
use Rattle.std.specs.Prelude.{◌≡◌, ◌⊎◌, Bool, true, false, List, [], ◌∷◌, ◌++◌, if◌then◌else◌, IsTrue, All}
use Rattle.segment_meta.specs.declared.note.Note.{Note}
use Rattle.segment_meta.specs.Rules.{IsNote}

-- Of a log that isn't observable, `notes` and `besides` mean nothing.
pub record Content : Type 1 where
  pub is_observable : Bool
  -- the oldest first
  pub notes : List Note
  -- what else a power cut now may leave
  pub besides : List Note → Type 0

-- the rules of an event hold of each
abbrev pub AreNotes : List Note → Type 0
AreNotes notes = All IsNote notes

-- a power cut now may leave these events
abbrev pub Left : Content → List Note → Type 0
Left c l = (l ≡ c.notes) ⊎ c.besides l

-- it leaves the events that are reported, and no others
abbrev pub LeavesTold : Content → Type 0
LeavesTold c = (l : List Note) → Left c l → l ≡ c.notes

-- the events with one more at the end, where that is done
abbrev pub appended_if : Bool → Note → List Note → List Note
appended_if done note notes = if done then notes ++ note ∷ [] else notes

-- A call that puts an event at the end, where it was done. A power cut then may leave what it might have left before,
-- or the events that were reported with the event after them.
pub record AppendsNote (note : Note) (may_be_done : Bool → Type 0) (old new : Content) : Type 0 where
  pub is_observable : new.is_observable ≡ old.is_observable
  pub notes : IsTrue old.is_observable
      → (done : Bool) × may_be_done done × (new.notes ≡ appended_if done note old.notes)
  pub left : IsTrue old.is_observable → (l : List Note) → Left new l
      → (may_be_done false × Left old l) ⊎ (may_be_done true × (l ≡ old.notes ++ note ∷ []))

-- a call that changes nothing, after which a power cut leaves nothing more
pub record Keeps (old new : Content) : Type 0 where
  pub is_observable : new.is_observable ≡ old.is_observable
  pub notes : new.notes ≡ old.notes
  pub left : (l : List Note) → Left new l → Left old l
