-- What an environment holds, where it is observable: the devices that came back, and names of strangers.
--
--   form                     says
--   HasAnything held p            a file, an object or a metadata event of the partition exists
--   HasTier held p           an object or a metadata event does
--   IsBare held p            so it is, and it has no registry
--   AreUsed held list        the list has those partitions and no others
--   Rise list                its numbers rise strictly
--   IsFirstName Named name       the first of the names, or none
--   HandsDisk files held c   a disk with this content is provided where that is held
--   DiskIs p b now old new   that disk is held now, or none, and the rest stays
--   RegistryIs p P old new   so does all but the disk of that registry, of which P holds
--   Same old new             what a call leaves that provides nothing
--
-- Its names are the strangers' ones, and `p` with the number of each partition that has an object or a metadata event
-- and no registry: of such a partition nobody can say what its brokers' logs had. The first of them is the least in the
-- order of their bytes.
use Rattle.std.specs.Prelude.{◌≡◌, ◌≢◌, ◌⊎◌, ◌↔◌, ℕ, ◌<◌, ◌≤◌, Bool, List, [], ◌∷◌, ◌++◌}
use Rattle.std.specs.Prelude.{codes, decimal, Option, Some, None, IsTrue, IsSome}
use Rattle.tier_base.specs.declared.names.PartitionId.{PartitionId}
use Rattle.tier_base.specs.declared.names.BrokerId.{BrokerId}
use Rattle.tier_base.specs.declared.plain.FileName.{FileName}
use Rattle.tier_base.specs.declared.plain.FileName.TheVariants.{Registry}
use Rattle.tier_base.specs.declared.object_key.ObjectKey.{ObjectKey}
use Rattle.tier_base.specs.Told.{In}
use Rattle.disk_model.specs.Content as disk
use Rattle.disk_model.specs.Memory.{IsEmptyDisk}
use Rattle.object_store.specs.Content as store
use Rattle.object_store.specs.Memory.{IsEmptyStore}
use Rattle.meta_log.specs.Content as log

-- Of an environment that isn't observable, the rest means nothing.
pub record YardContent (D S M : Type 0) : Type 0 where
  pub is_observable : Bool
  pub strays : List (List ℕ)
  pub disks : PartitionId → BrokerId → Option D
  pub stores : PartitionId → Option S
  pub logs : PartitionId → Option M
  -- the disks that keep registries
  pub registries : PartitionId → Option D

-- it is there, and has P
abbrev pub IsThereWith : {X : Type 0} → (X → Type 0) → Option X → Type 0
IsThereWith P None = ⊥
IsThereWith P (Some x) = P x

-- neither is there, or both are, and R is between them
abbrev pub Both : {X : Type 0} → (X → X → Type 0) → Option X → Option X → Type 0
Both R None None = Unit {0}
Both R (Some x) (Some y) = R x y
Both R a b = ⊥

-- a text precedes another, or is it
abbrev pub IsNameUpTo : List ℕ → List ℕ → Type 0
IsNameUpTo [] bs = Unit {0}
IsNameUpTo (a ∷ more) [] = ⊥
IsNameUpTo (a ∷ more) (b ∷ bs) = (a < b) ⊎ ((a ≡ b) × IsNameUpTo more bs)

-- the first of the names, or none where there is none
abbrev pub IsFirstName : (List ℕ → Type 0) → Option (List ℕ) → Type 0
IsFirstName Named None = (text : List ℕ) → Named text → ⊥
IsFirstName Named (Some name) = Named name × ((text : List ℕ) → Named text → IsNameUpTo name text)

-- the numbers rise strictly: each is below all after it
abbrev pub Rise : List PartitionId → Type 0
Rise [] = Unit {0}
Rise (p ∷ more) = ((q : PartitionId) → In q more → p.0 < q.0) × Rise more

-- a metadata log without metadata events, of which a power cut leaves none
pub record IsEmptyLog (c : log.Content) : Type 0 where
  pub is_observable : IsTrue c.is_observable
  pub notes : c.notes ≡ []
  pub left : log.LeavesTold c

module _ {D S M : Type 0} where
  -- a disk is what is held now, or none, and the rest stays
  pub record DiskIs (partition : PartitionId) (broker : BrokerId) (now : Option D)
      (old new : YardContent D S M) : Type 0 where
    pub strays : new.strays ≡ old.strays
    pub there : new.disks partition broker ≡ now
    pub others : (p : PartitionId) (b : BrokerId) → (p ≢ partition) ⊎ (b ≢ broker) → new.disks p b ≡ old.disks p b
    pub stores : (p : PartitionId) → new.stores p ≡ old.stores p
    pub logs : (p : PartitionId) → new.logs p ≡ old.logs p
    pub registries : (p : PartitionId) → new.registries p ≡ old.registries p

  pub record StoreIs (partition : PartitionId) (now : Option S) (old new : YardContent D S M) : Type 0 where
    pub strays : new.strays ≡ old.strays
    pub there : new.stores partition ≡ now
    pub others : (p : PartitionId) → p ≢ partition → new.stores p ≡ old.stores p
    pub disks : (p : PartitionId) (b : BrokerId) → new.disks p b ≡ old.disks p b
    pub logs : (p : PartitionId) → new.logs p ≡ old.logs p
    pub registries : (p : PartitionId) → new.registries p ≡ old.registries p

  pub record LogIs (partition : PartitionId) (now : Option M) (old new : YardContent D S M) : Type 0 where
    pub strays : new.strays ≡ old.strays
    pub there : new.logs partition ≡ now
    pub others : (p : PartitionId) → p ≢ partition → new.logs p ≡ old.logs p
    pub disks : (p : PartitionId) (b : BrokerId) → new.disks p b ≡ old.disks p b
    pub stores : (p : PartitionId) → new.stores p ≡ old.stores p
    pub registries : (p : PartitionId) → new.registries p ≡ old.registries p

  -- of the disk that keeps the registry P holds now, and the rest stays
  pub record RegistryIs (partition : PartitionId) (P : Option D → Type 0) (old new : YardContent D S M) : Type 0 where
    pub strays : new.strays ≡ old.strays
    pub there : P (new.registries partition)
    pub others : (p : PartitionId) → p ≢ partition → new.registries p ≡ old.registries p
    pub disks : (p : PartitionId) (b : BrokerId) → new.disks p b ≡ old.disks p b
    pub stores : (p : PartitionId) → new.stores p ≡ old.stores p
    pub logs : (p : PartitionId) → new.logs p ≡ old.logs p

module _ {D S M : Type 0} (files : D → disk.Content) (objects : S → store.Content) (notes : M → log.Content) where
  -- the partition is in use
  abbrev pub HasAnything : YardContent D S M → PartitionId → Type 0
  HasAnything held p =
      ((b : BrokerId) × IsThereWith (λ d. (n : FileName) × IsSome ((files d).files n)) (held.disks p b))
      ⊎ (IsThereWith (λ s. (k : ObjectKey) × IsSome ((objects s).objects k)) (held.stores p)
      ⊎ IsThereWith (λ m. (notes m).notes ≢ []) (held.logs p))

  -- an object or a metadata event of the partition exists
  abbrev pub HasTier : YardContent D S M → PartitionId → Type 0
  HasTier held p =
      IsThereWith (λ s. (k : ObjectKey) × IsSome ((objects s).objects k)) (held.stores p)
      ⊎ IsThereWith (λ m. (notes m).notes ≢ []) (held.logs p)

  -- its registry's file does
  abbrev pub HasRegistry : YardContent D S M → PartitionId → Type 0
  HasRegistry held p = IsThereWith (λ d. IsSome ((files d).files Registry)) (held.registries p)

  -- it has an object or a metadata event, and no registry
  abbrev pub IsBare : YardContent D S M → PartitionId → Type 0
  IsBare held p = HasTier held p × (HasRegistry held p → ⊥)

  -- the list has the partitions in use
  abbrev pub AreUsed : YardContent D S M → List PartitionId → Type 0
  AreUsed held list = (p : PartitionId) → HasAnything held p ↔ In p list

  -- nothing of it exists
  abbrev pub IsUnused : YardContent D S M → PartitionId → Type 0
  IsUnused held p = HasAnything held p → ⊥

  -- nor of any partition from that number on
  abbrev pub IsUnusedFrom : ℕ → YardContent D S M → Type 0
  IsUnusedFrom n held = (p : PartitionId) → n ≤ p.0 → IsUnused held p

  -- no name and no content that is held has changed
  pub record Same (old new : YardContent D S M) : Type 0 where
    pub is_observable : new.is_observable ≡ old.is_observable
    pub strays : new.strays ≡ old.strays
    pub disks : (p : PartitionId) (b : BrokerId)
        → Both (λ d e. disk.Keeps (files d) (files e)) (old.disks p b) (new.disks p b)
    pub stores : (p : PartitionId) → Both (λ s t. store.Keeps (objects s) (objects t)) (old.stores p) (new.stores p)
    pub logs : (p : PartitionId) → Both (λ m n. log.Keeps (notes m) (notes n)) (old.logs p) (new.logs p)
    pub registries : (p : PartitionId) → Both (λ d e. disk.Keeps (files d) (files e)) (old.registries p)
        (new.registries p)

  -- a name that is in the environment
  abbrev pub IsNameInYard : YardContent D S M → List ℕ → Type 0
  IsNameInYard held text = In text held.strays ⊎ ((p : PartitionId) × IsBare held p × (text ≡ codes "p" ++ decimal p.0))

-- none is there
abbrev pub IsOut : {X : Type 0} → Option X → Type 0
IsOut held = held ≡ None

-- a disk that came back is there, with what it held
abbrev pub HoldsDisk : {D : Type 0} → (D → disk.Content) → D → Option D → Type 0
HoldsDisk files d held = IsThereWith (λ e. disk.Keeps (files d) (files e)) held

-- a disk that is provided has what came back, or nothing
abbrev pub HandsDisk : {D : Type 0} → (D → disk.Content) → Option D → disk.Content → Type 0
HandsDisk files None c = IsEmptyDisk c
HandsDisk files (Some d) c = disk.Keeps (files d) c

abbrev pub HandsStore : {S : Type 0} → (S → store.Content) → Option S → store.Content → Type 0
HandsStore objects None c = IsEmptyStore c
HandsStore objects (Some s) c = store.Keeps (objects s) c

abbrev pub HandsLog : {M : Type 0} → (M → log.Content) → Option M → log.Content → Type 0
HandsLog notes None c = IsEmptyLog c
HandsLog notes (Some m) c = log.Keeps (notes m) c
