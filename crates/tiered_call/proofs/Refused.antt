-- What a run over an environment comes to where a registry or the environment refuses it.
use Rattle.std.proofs.Common.{◌≡◌, ◌≢◌, ◌⊎◌, ◌∙◌, inl, inr, ⊎_elim, sym, subst, refl, ℕ, List, [], ◌++◌, codes, decimal, Option, Some, None, Ok}
use Rattle.std.specs.Prelude.{IsSome}
use Rattle.std.specs.declared.result.Result.{Result}
use Rattle.tier_base.specs.Counts.{Rose}
use Rattle.tier_base.specs.declared.names.PartitionId.{PartitionId}
use Rattle.tier_base.specs.declared.object_key.ObjectKey.{ObjectKey}
use Rattle.tier_base.specs.declared.plain.FileName.TheVariants.{Registry}
use Rattle.disk_model.specs.Content as disk
use Rattle.disk_model.specs.declared.disk.Disk.{Ghosts as DiskGhosts}
use Rattle.object_store.specs.Content as store
use Rattle.object_store.specs.declared.store.Store.{Ghosts as StoreGhosts}
use Rattle.meta_log.specs.Content as log
use Rattle.meta_log.specs.declared.log.MetaLog.{Ghosts as MetaGhosts}
use Rattle.device_yard.specs.Control.{Control, NamesFirst}
use Rattle.device_yard.specs.YardContent.{YardContent, IsThereWith, Both, Same, IsBare, IsNameInYard, IsFirstName}
use Rattle.script_lang.specs.declared.refusal.Why.{Why}
use Rattle.script_lang.specs.declared.script.Script.{Script}
use Rattle.run_yard.specs.Reading.{IsRefusedSo}
use Rattle.run_yard.specs.declared.refusal.YardRefusal.{YardRefusal}
use Rattle.run_yard.specs.declared.refusal.YardRefusal.TheVariants as refusal
use Rattle.tiered_call.specs.declared.status.Status.{Status}
use Rattle.tiered_call.specs.declared.status.Status.TheVariants as ending
use Rattle.tiered_call.specs.Yards.{ended, StopsOver, HasNoTrace}

module _ {D S M : Type 0} (files : D → disk.Content) (objects : S → store.Content) (notes : M → log.Content) where
  object_back : (a b : Option S) → Both (λ s t. store.Keeps (objects s) (objects t)) a b
      → IsThereWith (λ s. (k : ObjectKey) × IsSome ((objects s).objects k)) b → IsThereWith (λ s. (k : ObjectKey) × IsSome ((objects s).objects k)) a
  object_back None None both has = has
  object_back None (Some t) both has = absurd both
  object_back (Some s) None both has = absurd both
  object_back (Some s) (Some t) both has = (has.0, subst IsSome (both.objects has.0) has.1)

  note_back : (a b : Option M) → Both (λ m n. log.Keeps (notes m) (notes n)) a b
      → IsThereWith (λ m. (notes m).notes ≢ []) b → IsThereWith (λ m. (notes m).notes ≢ []) a
  note_back None None both has = has
  note_back None (Some n) both has = absurd both
  note_back (Some m) None both has = absurd both
  note_back (Some m) (Some n) both has = λ none. has (both.notes ∙ none)

  registry_on : (a b : Option D) → Both (λ d e. disk.Keeps (files d) (files e)) a b
      → IsThereWith (λ d. IsSome ((files d).files Registry)) a → IsThereWith (λ d. IsSome ((files d).files Registry)) b
  registry_on None None both has = has
  registry_on None (Some e) both has = absurd both
  registry_on (Some d) None both has = absurd both
  registry_on (Some d) (Some e) both has = subst IsSome (sym (both.files Registry)) has

  -- where nothing is named, no partition has an object or a metadata event and no registry, nor has it once the
  -- environment was asked
  pub still_not_bare : (held found : YardContent D S M) → Same files objects notes held found → IsFirstName (IsNameInYard files objects notes held) None
      → (p : PartitionId) → IsBare files objects notes found p → ⊥
  still_not_bare held found same none p bare =
      none (codes "p" ++ decimal p.0) (inr (
        p,
        (
          ⊎_elim (λ o. inl (object_back (held.stores p) (found.stores p) (same.stores p) o)) (λ n. inr (note_back (held.logs p) (found.logs p) (same.logs p) n)) bare.0,
          λ has. bare.1 (registry_on (held.registries p) (found.registries p) (same.registries p) has),
        ),
        refl,
      ))

module _ {D S M : Type 0} (disk : DiskGhosts D) (store : StoreGhosts S) (meta : MetaGhosts M) where
  -- a refused run's status has its cause
  pub stops_so : (brokers : ℕ) (held found held' : YardContent D S M) (control asked control' : Control) (why : YardRefusal)
      → NamesFirst (Ok None) control asked → Same disk.content store.content meta.content held found
      → IsRefusedSo disk.content store.content meta.content brokers found held' asked control' why
      → StopsOver disk store meta brokers held held' control control' (ended why)
  stops_so brokers held found held' control asked control' refusal.Fault names same refused =
      subst (λ (n : ℕ). Rose n control'.faults) (names.faults.went refl) refused
  stops_so brokers held found held' control asked control' (refusal.Mismatch partition kept wanted) names same refused =
      record { asked = asked; names = names; found = found; same = same; refused = refused }
  stops_so brokers held found held' control asked control' (refusal.BadRegistry partition at) names same refused =
      record { asked = asked; names = names; found = found; same = same; refused = refused }
  stops_so brokers held found held' control asked control' refusal.NoMemory names same refused = tt

  -- a valid script that stops has no trace
  pub stopped_has_none : (script : Script) (reading : Result Script (ℕ × Why)) (held held' : YardContent D S M) (control control' : Control)
      (status : Status) → reading ≡ Ok script → StopsOver disk store meta script.config.brokers held held' control control' status
      → HasNoTrace disk store meta reading held held' control control' status
  stopped_has_none script reading held held' control control' ending.Ok read stops = absurd stops
  stopped_has_none script reading held held' control control' ending.Usage read stops = absurd stops
  stopped_has_none script reading held held' control control' (ending.BadScript line why) read stops = absurd stops
  stopped_has_none script reading held held' control control' ending.ReadFault read stops = absurd stops
  stopped_has_none script reading held held' control control' ending.WriteFault read stops = absurd stops
  stopped_has_none script reading held held' control control' ending.NoMemory read stops = tt
  stopped_has_none script reading held held' control control' ending.TooLong read stops = absurd stops
  stopped_has_none script reading held held' control control' ending.YardFault read stops = record { script = script; read = read; stops = stops }
  stopped_has_none script reading held held' control control' (ending.NotEmpty name) read stops = record { script = script; read = read; stops = stops }
  stopped_has_none script reading held held' control control' (ending.Unsound partition) read stops = absurd stops
  stopped_has_none script reading held held' control control' (ending.Mismatch partition kept asked) read stops = record { script = script; read = read; stops = stops }
  stopped_has_none script reading held held' control control' (ending.BadRegistry partition at) read stops = record { script = script; read = read; stops = stops }
