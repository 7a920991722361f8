-- What a view makes of further events, and of what a metadata log has more than it.
--
--   form                       says
--   fed_all view notes         the view after these events, in their order
--   Refreshes log old new      the view has all events of the log
--   Advances log old new       it has taken in some of those that the log has more, in their order
--
-- Of a log that isn't observable, any events may have been read.
use Rattle.std.specs.Prelude.{◌≡◌, ◌⊎◌, List, [], ◌∷◌, ◌++◌, drop, IsTrue, Ok, Err}
use Rattle.std.specs.declared.result.Result.{Result}
use Rattle.tier_base.specs.declared.fault.Trouble.{Trouble}
use Rattle.tier_base.specs.declared.fault.Trouble.TheVariants.{Failed, NoMemory}
use Rattle.tier_base.specs.Device.{Control, RanQuietly, Went, Fault, Dry, Lasts}
use Rattle.segment_meta.specs.declared.note.Note.{Note}
use Rattle.meta_log.specs.declared.call.MetaCall.TheVariants.{Read}
use Rattle.meta_log.specs.Call.{call_code}
use Rattle.meta_log.specs.Content.{Content, AreNotes, LeavesTold, Keeps}
use Rattle.remote_view.specs.Fold.{EntriesSeen, fed}

-- the view after these events
abbrev pub fed_all : EntriesSeen → List Note → EntriesSeen
fed_all view [] = view
fed_all view (note ∷ notes) = fed_all (fed view note) notes

-- the view has taken in all that the log has more than it
pub record Refreshes (log : Content) (old new : EntriesSeen) : Type 0 where
  pub notes : List Note
  pub are : AreNotes notes
  pub further : IsTrue log.is_observable → notes ≡ drop old.notes log.notes
  pub view : new ≡ fed_all old notes

-- the view has taken in the first of the events that the log has more than it
pub record Advances (log : Content) (old new : EntriesSeen) : Type 0 where
  pub notes : List Note
  pub rest : List Note
  pub are : AreNotes notes
  pub further : IsTrue log.is_observable → notes ++ rest ≡ drop old.notes log.notes
  pub view : new ≡ fed_all old notes

-- what a refresh makes of a view: a failed one nothing, and one that runs out of memory may stop between two events
abbrev pub RefreshMakes : {T : Type 0} → Result T Trouble → Content → EntriesSeen → EntriesSeen → Type 0
RefreshMakes (Ok x) log old new = Refreshes log old new
RefreshMakes (Err Failed) log old new = new ≡ old
RefreshMakes (Err NoMemory) log old new = Advances log old new

-- what a power cut may leave of the log after a refresh: after one that was done what is reported, and no other events.
-- Where memory runs out that holds, or the view is as it was
abbrev pub RefreshLeaves : {T : Type 0} → Result T Trouble → EntriesSeen → EntriesSeen → Content → Content → Type 0
RefreshLeaves (Ok x) before after old new = IsTrue old.is_observable → LeavesTold new
RefreshLeaves (Err Failed) before after old new = Unit {0}
RefreshLeaves (Err NoMemory) before after old new = (after ≡ before) ⊎ (IsTrue old.is_observable → LeavesTold new)

-- one call of the log, which reads
abbrev pub ReadsNotes : {T : Type 0} → Result T Trouble → Control call_code → Control call_code → Type 0
ReadsNotes (Ok x) old new = RanQuietly Read Went old new
ReadsNotes (Err Failed) old new = RanQuietly Read Fault old new
ReadsNotes (Err NoMemory) old new = Lasts old new

-- that call ended as the refresh did, or it went and there was no memory for the events that it gave
abbrev pub ReadsOnce : {T : Type 0} → Result T Trouble → Control call_code → Control call_code → Type 0
ReadsOnce (Ok x) old new = RanQuietly Read Went old new
ReadsOnce (Err Failed) old new = RanQuietly Read Fault old new
ReadsOnce (Err NoMemory) old new = RanQuietly Read Dry old new ⊎ RanQuietly Read Went old new

-- what became of a log, and of a view before and after it was read
module _ {M : Type 0} (notes : M → Content) (calls : M → Control call_code) where
  -- the view was refreshed
  pub record Refreshed (before after : EntriesSeen) (old new : M) : Type 0 where
    pub view : Refreshes (notes old) before after
    pub control : RanQuietly Read Went (calls old) (calls new)
    pub content : Keeps (notes old) (notes new)
    pub told : IsTrue (notes old).is_observable → LeavesTold (notes new)

  -- the read failed
  pub record Unread (before after : EntriesSeen) (old new : M) : Type 0 where
    pub view : after ≡ before
    pub control : RanQuietly Read Fault (calls old) (calls new)
    pub content : Keeps (notes old) (notes new)

  -- memory ran out
  pub record Halted (before after : EntriesSeen) (old new : M) : Type 0 where
    pub view : Advances (notes old) before after
    pub control : Lasts (calls old) (calls new)
    pub once : RanQuietly Read Dry (calls old) (calls new) ⊎ RanQuietly Read Went (calls old) (calls new)
    pub content : Keeps (notes old) (notes new)
    pub moved : (after ≡ before) ⊎ (IsTrue (notes old).is_observable → LeavesTold (notes new))
