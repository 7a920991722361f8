-- What an environment without names provides of a partition that has no registry.
--
--   law                    says
--   NamelessHasNoTier      where `first_name` answers none, a partition without a registry has no object or event
--   TierlessIsEmpty        of a partition without objects and events an empty store and an empty log are provided
--   RegistryIsAbsent       of one without a registry a disk is provided that has no registry's file
use Rattle.std.specs.Prelude.{◌≡◌, [], Option, None}
use Rattle.tier_base.specs.declared.names.PartitionId.{PartitionId}
use Rattle.tier_base.specs.declared.object_key.ObjectKey.{ObjectKey}
use Rattle.tier_base.specs.declared.plain.FileName.TheVariants.{Registry}
use Rattle.disk_model.specs.Content as disk
use Rattle.object_store.specs.Content as store
use Rattle.meta_log.specs.Content as log
use Rattle.device_yard.specs.YardContent.{YardContent, IsNameInYard, IsFirstName, HasTier}
use Rattle.device_yard.specs.YardContent.{HasRegistry, HandsDisk, HandsStore, HandsLog}

module _ {D S M : Type 0} (files : D → disk.Content) (objects : S → store.Content) (notes : M → log.Content) where
  -- where nothing is named, a partition without a registry has no object and no metadata event
  abbrev pub NamelessHasNoTier : Type 0
  NamelessHasNoTier =
      (held : YardContent D S M) → IsFirstName (IsNameInYard files objects notes held) None → (p : PartitionId)
      → (HasRegistry files objects notes held p → ⊥) → HasTier files objects notes held p → ⊥

  -- the store and the log that may be provided are empty
  pub record HandsEmpty (held : YardContent D S M) (p : PartitionId) : Type 0 where
    pub store : (s : S) → HandsStore objects (held.stores p) (objects s) → (k : ObjectKey)
        → (objects s).objects k ≡ None
    pub log : (m : M) → HandsLog notes (held.logs p) (notes m) → (notes m).notes ≡ []

  abbrev pub TierlessIsEmpty : Type 0
  TierlessIsEmpty =
      (held : YardContent D S M) (p : PartitionId) → (HasTier files objects notes held p → ⊥) → HandsEmpty held p

  -- the disk that may be provided for a registry has none
  abbrev pub RegistryIsAbsent : Type 0
  RegistryIsAbsent = (held : YardContent D S M) (p : PartitionId) (d : D) → (HasRegistry files objects notes held p → ⊥)
      → HandsDisk files (held.registries p) (files d) → (files d).files Registry ≡ None
