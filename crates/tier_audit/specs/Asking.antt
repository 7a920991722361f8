-- A store that was asked and not changed, and the calls that an audit makes.
--
--   form                        says
--   Asks objects calls f o n    calls that read alone ended so, and nothing has changed
--   Reads f old new             objects were read: each call went, but the last may have ended so
--   Audits f old new            the store was listed once, and objects were read then
--
-- So no call is made again where it failed, and what failed is reported.
use Rattle.std.specs.Prelude.{◌≡◌, ◌≢◌, ◌⊎◌, Ok, Err}
use Rattle.std.specs.declared.result.Result.{Result}
use Rattle.tier_base.specs.Device.{Control, Ran, RanQuietly, Lasts, Fate, Went, Fault, Dry}
use Rattle.tier_base.specs.Counts.{Rose}
use Rattle.object_store.specs.declared.call.StoreCall.TheVariants.{Get, Keys}
use Rattle.object_store.specs.Call.{call_code}
use Rattle.object_store.specs.Content.{Content, Keeps}
use Rattle.meta_log.specs.declared.call.MetaCall.TheVariants.{Read}
use Rattle.meta_log.specs.Call.{call_code as meta_code}
use Rattle.tier_audit.specs.declared.refusal.AuditRefusal.{AuditRefusal}
use Rattle.tier_audit.specs.declared.refusal.AuditRefusal.TheVariants.{StoreFault, MetaFault, NoMemory}

module _ {S : Type 0} (objects : S → Content) (calls : S → Control call_code) where
  -- calls that read alone ended so: a fault was counted
  pub record OnlyAsks (fate : Fate) (old new : S) : Type 0 where
    pub control : Lasts (calls old) (calls new)
    pub cause : fate ≡ Fault → Rose (calls old).faults (calls new).faults
    pub content : Keeps (objects old) (objects new)

-- reads of objects that all went, one after the other
pub data AllRead (old : Control call_code) : Control call_code → Type 0 where
  NoRead : AllRead old old
  OneRead : (mid new : Control call_code) → AllRead old mid → Ran Get Went mid new → AllRead old new

-- reads of objects that all went, and a last one that ended so; none such where no fault is reported
pub record ReadsObjects (fate : Fate) (old new : Control call_code) : Type 0 where
  pub mid : Control call_code
  pub before : AllRead old mid
  pub last : Ran Get fate mid new ⊎ ((fate ≢ Fault) × (new ≡ mid))

-- one listing that went, and reads after it
pub record ListsAndReads (fate : Fate) (old new : Control call_code) : Type 0 where
  pub mid : Control call_code
  pub lists : RanQuietly Keys Went old mid
  pub reads : ReadsObjects fate mid new

-- one listing, and reads after it where it went
abbrev pub Audits : Fate → Control call_code → Control call_code → Type 0
Audits fate old new = RanQuietly Keys fate old new ⊎ ListsAndReads fate old new

-- the calls of the store in an audit, by what it answers
abbrev pub AsksStore : {T : Type 0} → Result T AuditRefusal → Control call_code → Control call_code → Type 0
AsksStore (Ok x) old new = Audits Went old new
AsksStore (Err StoreFault) old new = Audits Fault old new
AsksStore (Err MetaFault) old new = new ≡ old
AsksStore (Err NoMemory) old new = (new ≡ old) ⊎ Audits Dry old new

-- its one call of the metadata log
abbrev pub AsksLog : {T : Type 0} → Result T AuditRefusal → Control meta_code → Control meta_code → Type 0
AsksLog (Err MetaFault) old new = RanQuietly Read Fault old new
AsksLog (Err NoMemory) old new = RanQuietly Read Dry old new ⊎ RanQuietly Read Went old new
AsksLog result old new = RanQuietly Read Went old new
