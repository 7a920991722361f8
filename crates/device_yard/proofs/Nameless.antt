-- An environment without names provides an empty tier of each partition that has no registry.
use Rattle.std.specs.Prelude.{◌≡◌, ◌≢◌, List, [], ◌∷◌, Option, Some, None, IsSome, refl}
use Rattle.std.proofs.Common.{◌∙◌, inl, inr}
use Rattle.tier_base.specs.declared.names.PartitionId.{PartitionId}
use Rattle.tier_base.specs.declared.plain.FileName.TheVariants.{Registry}
use Rattle.tier_base.specs.declared.object_key.ObjectKey.{ObjectKey}
use Rattle.disk_model.specs.Content as disk
use Rattle.object_store.specs.Content as store
use Rattle.meta_log.specs.Content as log
use Rattle.device_yard.specs.YardContent.{YardContent, IsThereWith, HandsDisk, HandsStore, HandsLog}
use Rattle.device_yard.specs.Laws.{NamelessHasNoTier, TierlessIsEmpty, RegistryIsAbsent}

-- nothing is there
none_there : {X : Type 0} → (o : Option X) → (IsSome o → ⊥) → o ≡ None
none_there None absent = refl
none_there (Some x) absent = absurd (absent refl)

-- no item is there
no_item : {X : Type 0} → (xs : List X) → (xs ≢ [] → ⊥) → xs ≡ []
no_item [] empty = refl
no_item (x ∷ xs) empty = absurd (empty (λ e. cc))

module _ {D S M : Type 0} (files : D → disk.Content) (objects : S → store.Content) (notes : M → log.Content) where
  registry_absent : (o : Option D) (d : D) → HandsDisk files o (files d) → (IsThereWith (λ d. IsSome ((files d).files Registry)) o → ⊥) → (files d).files Registry ≡ None
  registry_absent None d hands without = hands.files Registry
  registry_absent (Some x) d hands without = hands.files Registry ∙ none_there ((files x).files Registry) without

  store_empty : (o : Option S) (s : S) → HandsStore objects o (objects s)
      → (IsThereWith (λ s. (k : ObjectKey) × IsSome ((objects s).objects k)) o → ⊥) → (k : ObjectKey) → (objects s).objects k ≡ None
  store_empty None s hands unused k = hands.objects k
  store_empty (Some x) s hands unused k = hands.objects k ∙ none_there ((objects x).objects k) (λ some. unused (k, some))

  log_empty : (o : Option M) (m : M) → HandsLog notes o (notes m) → (IsThereWith (λ m. (notes m).notes ≢ []) o → ⊥) → (notes m).notes ≡ []
  log_empty None m hands unused = hands.notes
  log_empty (Some x) m hands unused = hands.notes ∙ no_item (notes x).notes unused

  pub nameless_has_no_tier : NamelessHasNoTier files objects notes
  nameless_has_no_tier held none p without tier = none _ (inr (p, (tier, without), refl))

  pub tierless_is_empty : TierlessIsEmpty files objects notes
  tierless_is_empty held p without = record {
    store = λ s hands. store_empty (held.stores p) s hands (λ has. without (inl has));
    log = λ m hands. log_empty (held.logs p) m hands (λ has. without (inr has));
  }

  pub registry_is_absent : RegistryIsAbsent files objects notes
  registry_is_absent held p d without hands = registry_absent (held.registries p) d hands without
