-- What one call of the store or of the metadata log, or none, makes of the counts of faults over a turn.
use Rattle.std.proofs.Common.{◌≡◌, ◌∙◌, sym, ap, refl, ℕ, Bool, false}
use Rattle.tier_base.specs.Device.{Ran, Went, Fault}
use Rattle.object_store.specs.declared.call.StoreCall.{StoreCall}
use Rattle.object_store.specs.declared.store.Store.{Ghosts as StoreGhosts}
use Rattle.meta_log.specs.declared.call.MetaCall.{MetaCall}
use Rattle.meta_log.specs.declared.log.MetaLog.{Ghosts as MetaGhosts}
use Rattle.plain_log.specs.declared.answer.Answer.TheVariants.{StoreFault, MetaFault}
use Rattle.partition_commands.specs.Faults.{is_of_disk, is_of_store, is_of_meta, after_fault}
use Rattle.partition_world.specs.Answered.{is_answered}
use Rattle.partition_world.specs.declared.actor_state.Outcome.{Outcome}
use Rattle.partition_world.specs.declared.actor_state.Outcome.TheVariants.{Answers}

-- no fault is reported
abbrev pub Clear : Outcome → Type 0
Clear o = (is_answered is_of_disk o ≡ false) × (is_answered is_of_store o ≡ false) × (is_answered is_of_meta o ≡ false)

-- a count that is the same, where no fault is reported
none_of : (fault : Bool) (n now : ℕ) → fault ≡ false → now ≡ n → now ≡ after_fault fault n
none_of fault n now is same = same ∙ ap (λ (f : Bool). after_fault f n) (sym is)

module _ {S M : Type 0} (store : StoreGhosts S) (meta : MetaGhosts M) where
  -- the store's count of faults is as before
  abbrev pub StoreStill : S → S → Type 0
  StoreStill s s' = (store.control s').faults ≡ (store.control s).faults

  -- and the metadata log's
  abbrev pub MetaStill : M → M → Type 0
  MetaStill m m' = (meta.control m').faults ≡ (meta.control m).faults

  -- what a turn that makes a call of either, or none, counts where it comes to this
  abbrev pub Counted : Outcome → S → S → M → M → Type 0
  Counted o s s' m m' =
      (is_answered is_of_disk o ≡ false)
      × ((store.control s').faults ≡ after_fault (is_answered is_of_store o) (store.control s).faults)
      × ((meta.control m').faults ≡ after_fault (is_answered is_of_meta o) (meta.control m).faults)

  pub store_still : (s s' : S) → s' ≡ s → StoreStill s s'
  store_still s s' is = ap (λ (k : S). (store.control k).faults) is

  pub meta_still : (m m' : M) → m' ≡ m → MetaStill m m'
  meta_still m m' is = ap (λ (k : M). (meta.control k).faults) is

  -- neither has counted a fault, and none is reported
  pub clear : (o : Outcome) (s s' : S) (m m' : M) → Clear o → StoreStill s s' → MetaStill m m' → Counted o s s' m m'
  clear o s s' m m' none one two =
      (none.0, none_of (is_answered is_of_store o) _ _ none.1 one, none_of (is_answered is_of_meta o) _ _ none.2 two)

  -- no call
  pub still : (o : Outcome) (s s' : S) (m m' : M) → Clear o → s' ≡ s → m' ≡ m → Counted o s s' m m'
  still o s s' m m' none one two = clear o s s' m m' none (store_still s s' one) (meta_still m m' two)

  -- one that went well
  pub store_went : (o : Outcome) (s s' : S) (m m' : M) (call : StoreCall) → Clear o → Ran call Went (store.control s) (store.control s') → m' ≡ m → Counted o s s' m m'
  store_went o s s' m m' call none ran two = clear o s s' m m' none (ran.went refl) (meta_still m m' two)

  pub meta_went : (o : Outcome) (s s' : S) (m m' : M) (call : MetaCall) → Clear o → Ran call Went (meta.control m) (meta.control m') → s' ≡ s → Counted o s s' m m'
  meta_went o s s' m m' call none ran one = clear o s s' m m' none (store_still s s' one) (ran.went refl)

  -- one that failed
  pub store_failed : (s s' : S) (m m' : M) (call : StoreCall) → Ran call Fault (store.control s) (store.control s') → m' ≡ m → Counted (Answers StoreFault) s s' m m'
  store_failed s s' m m' call ran two = (refl, ran.once refl, meta_still m m' two)

  pub meta_failed : (s s' : S) (m m' : M) (call : MetaCall) → Ran call Fault (meta.control m) (meta.control m') → s' ≡ s → Counted (Answers MetaFault) s s' m m'
  meta_failed s s' m m' call ran one = (refl, store_still s s' one, ran.once refl)
