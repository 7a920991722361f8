-- What the parts of a sweep do to the device that they call, each a run of calls.
--
-- What is said of content holds where the device is observable.
--
--   form                          says
--   MetaRuns result old new       calls of the metadata log: no fault of it is hidden, whatever is answered
--   StoreRuns result old new      the same of the store
--   Deletes result old new        so many deletions went, or the last one failed and nothing was called after it
--   ListsAndDeletes Behind old new     one listing went before all others
use Rattle.std.specs.Prelude.{◌≡◌, ◌⊎◌, ℕ, ◌+◌, Bool, false, List, ◌++◌, None, IsOk, IsTrue, Ok, Err}
use Rattle.std.specs.declared.result.Result.{Result}
use Rattle.tier_base.specs.declared.object_key.ObjectKey.{ObjectKey}
use Rattle.tier_base.specs.Counts.{counted, Rose}
use Rattle.tier_base.specs.Device.{Control, RanQuietly, Went, Fault, Lasts}
use Rattle.tier_base.specs.Told.{In, removed}
use Rattle.segment_meta.specs.declared.note.Entry.{Entry}
use Rattle.segment_meta.specs.declared.note.Note.{Note}
use Rattle.object_store.specs.declared.call.StoreCall.TheVariants.{Delete, Keys}
use Rattle.object_store.specs.Call.{call_code}
use Rattle.object_store.specs.Content as store
use Rattle.meta_log.specs.Content.{Content, Left}
use Rattle.tier_sweep.specs.declared.refusal.SweepRefusal.{SweepRefusal}
use Rattle.tier_sweep.specs.declared.refusal.SweepRefusal.TheVariants.{StoreFault, MetaFault}
use Rattle.tier_sweep.specs.Rest.{stays}
use Rattle.tier_sweep.specs.Sweeping.{MayRemove, IsTelling}

-- a run of calls of the metadata log is refused for its own fault, and because memory ran out
abbrev pub MetaCause : {T : Type 0} → Result T SweepRefusal → ℕ → ℕ → Type 0
MetaCause (Err StoreFault) before now = ⊥
MetaCause (Err MetaFault) before now = Rose before now
MetaCause result before now = Unit {0}

-- a run of calls of the store is refused for its own fault, and because memory ran out
abbrev pub StoreCause : {T : Type 0} → Result T SweepRefusal → ℕ → ℕ → Type 0
StoreCause (Err StoreFault) before now = Rose before now
StoreCause (Err MetaFault) before now = ⊥
StoreCause result before now = Unit {0}

-- and so leaves the count of faults; where that fault is reported, one call failed
abbrev pub MetaQuiet : {T : Type 0} → Result T SweepRefusal → ℕ → ℕ → Type 0
MetaQuiet (Err MetaFault) before now = now ≡ counted before 1
MetaQuiet result before now = now ≡ before

-- the same of the store
abbrev pub StoreQuiet : {T : Type 0} → Result T SweepRefusal → ℕ → ℕ → Type 0
StoreQuiet (Err StoreFault) before now = now ≡ counted before 1
StoreQuiet result before now = now ≡ before

-- calls that all went well, one after the other
pub data AllWent {K : Type 0} {code : K → ℕ} (old : Control code) : Control code → Type 0 where
  NoCall : AllWent old old
  OneMore : (call : K) (mid new : Control code) → AllWent old mid → RanQuietly call Went mid new → AllWent old new

-- a run of calls of the metadata log
pub record MetaRuns {T K : Type 0} {code : K → ℕ} (result : Result T SweepRefusal)
    (old new : Control code) : Type 0 where
  pub lasts : Lasts old new
  pub cause : MetaCause result old.faults new.faults
  pub quiet : MetaQuiet result old.faults new.faults
  pub went : IsOk result → AllWent old new

-- a run of calls of the store
pub record StoreRuns {T K : Type 0} {code : K → ℕ} (result : Result T SweepRefusal)
    (old new : Control code) : Type 0 where
  pub lasts : Lasts old new
  pub cause : StoreCause result old.faults new.faults
  pub quiet : StoreQuiet result old.faults new.faults
  pub went : IsOk result → AllWent old new

-- so many deletions that all went
pub data Deleted (old : Control call_code) : ℕ → Control call_code → Type 0 where
  NoDeletion : Deleted old 0 old
  OneDeletion : (count : ℕ) (mid new : Control call_code) → Deleted old count mid → RanQuietly Delete Went mid new
      → Deleted old (count + 1) new

-- deletions that went, and a last one that failed
pub record FailsToDelete (old new : Control call_code) : Type 0 where
  pub count : ℕ
  pub mid : Control call_code
  pub before : Deleted old count mid
  pub last : RanQuietly Delete Fault mid new

-- so many deletions that went, or some and a last one that failed
abbrev pub Deletes : Result ℕ SweepRefusal → Control call_code → Control call_code → Type 0
Deletes (Ok count) old new = Deleted old count new
Deletes (Err StoreFault) old new = FailsToDelete old new
Deletes (Err e) old new = ⊥

-- one deletion
abbrev pub DeletesOne : {T : Type 0} → Result T SweepRefusal → Control call_code → Control call_code → Type 0
DeletesOne (Ok x) old new = RanQuietly Delete Went old new
DeletesOne (Err StoreFault) old new = RanQuietly Delete Fault old new
DeletesOne (Err e) old new = ⊥

-- one listing that went, and deletions after it
pub record ListsAndDeletes (Behind : Control call_code → Control call_code → Type 0)
    (old new : Control call_code) : Type 0 where
  pub mid : Control call_code
  pub lists : RanQuietly Keys Went old mid
  pub behind : Behind mid new

-- the deletions of a sweep that was refused: all went, or the last one failed
abbrev pub SomeDeleted : Control call_code → Control call_code → Type 0
SomeDeleted old new = ((count : ℕ) × Deleted old count new) ⊎ FailsToDelete old new

-- these events are reported, or after a refusal some, from the first on
abbrev pub AppendsNotes : {T : Type 0} → List Note → Result T SweepRefusal → List Note → List Note → Type 0
AppendsNotes notes (Ok x) old new = new ≡ old ++ notes
AppendsNotes notes (Err e) old new = IsTelling notes old new

-- and so it is of each list of events that a power cut may leave then
abbrev pub LeavesTelling : {T : Type 0} → List Note → Result T SweepRefusal → List Note → Content → Type 0
LeavesTelling notes result old new = (left : List Note) → Left new left → AppendsNotes notes result old left

-- one object goes, or after a refusal it may have gone, and no other
pub record RemovesObject {T : Type 0} (key : ObjectKey) (result : Result T SweepRefusal)
    (old new : store.Objects) : Type 0 where
  pub done : Bool
  pub went : IsOk result → IsTrue done
  pub taken : store.MadeAt key (store.made_if done removed) old new

-- those of these keys' objects go that don't stay, and no other
pub record TakesAll (entries : List Entry) (keys : List ObjectKey) (old new : store.Objects) : Type 0 where
  pub only : MayRemove entries old new
  pub gone : (key : ObjectKey) → In key keys → stays entries key.id ≡ false → new key ≡ None

-- all of them, or after a refusal some
abbrev pub TakesEach : {T : Type 0} → List Entry → List ObjectKey → Result T SweepRefusal → store.Objects
    → store.Objects → Type 0
TakesEach entries keys (Ok x) old new = TakesAll entries keys old new
TakesEach entries keys (Err e) old new = MayRemove entries old new
