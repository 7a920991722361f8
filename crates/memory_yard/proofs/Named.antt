-- The partitions and the first name of an environment in memory.
use Rattle.std.specs.Prelude.{◌≡◌, ◌≢◌, List, [], ℕ, Option, IsSome, Ok, Err, IfOk, refl}
use Rattle.std.proofs.Common.{◌∙◌, sym, subst, inl, inr, ⊎_elim}
use Rattle.std.specs.declared.result.Result.{Result}
use Rattle.std.specs.declared.alloc.AllocError.{AllocError}
use Rattle.tier_base.specs.declared.names.PartitionId.{PartitionId}
use Rattle.tier_base.specs.declared.names.BrokerId.{BrokerId}
use Rattle.tier_base.specs.declared.plain.FileName.{FileName}
use Rattle.tier_base.specs.declared.plain.FileName.TheVariants.{Registry}
use Rattle.tier_base.specs.declared.object_key.ObjectKey.{ObjectKey}
use Rattle.tier_base.specs.Told.{In}
use Rattle.disk_model.specs.declared.memory_disk.MemoryDisk.{MemoryDisk}
use Rattle.object_store.specs.declared.memory_store.MemoryStore.{MemoryStore}
use Rattle.meta_log_file.specs.Log.{NoteLog}
use Rattle.disk_model.specs.Content as disks
use Rattle.object_store.specs.Content as stores
use Rattle.meta_log.specs.Content as logs
use Rattle.disk_model.specs.contracts.memory_disk.MemoryDiskDisk.TheImpl as disk
use Rattle.object_store.specs.contracts.memory_store.MemoryStoreStore.TheImpl as store
use Rattle.memory_yard.specs.Log.{told}
use Rattle.device_yard.specs.YardContent.{YardContent, IsThereWith, Both, IsFirstName}
use Rattle.memory_yard.specs.declared.place.DiskPlace.{DiskPlace}
use Rattle.memory_yard.specs.declared.slot.Slot.{Slot}
use Rattle.memory_yard.specs.First.{IsNameIn, IsFirstWith, AreWithout}
use Rattle.memory_yard.specs.Found.{Adds}
use Rattle.memory_yard.specs.Names.{SameYardContent, IsFirstOf, AreUsedOf, HaveTiers, HaveRegistries, AreBare}
use Rattle.memory_yard.specs.Place.{same_disk, same_partition}
use Rattle.memory_yard.specs.Shelf.{at, IsPartitionOn}
use Rattle.memory_yard.specs.Yard.{held_by}
use Rattle.memory_yard.proofs.Firsts.{first_same, first_then}

module _ (strays : List (List ℕ)) (disks : List (Slot DiskPlace MemoryDisk)) (stores : List (Slot PartitionId MemoryStore)) (logs : List (Slot PartitionId (NoteLog MemoryDisk))) (registries : List (Slot PartitionId MemoryDisk)) where
  -- the partitions in use are those of the three shelves
  used_of_all : (a b c : List PartitionId)
      → Adds (IsPartitionOn (λ (place : DiskPlace). place.partition) (λ x. (n : FileName) × IsSome (((disk.ghosts).content x).files n)) same_disk disks) [] a
      → Adds (IsPartitionOn (λ (place : PartitionId). place) (λ x. (k : ObjectKey) × IsSome (((store.ghosts).content x).objects k)) same_partition stores) a b
      → Adds (IsPartitionOn (λ (place : PartitionId). place) (λ x. (told x).notes ≢ []) same_partition logs) b c
      → AreUsedOf (held_by strays disks stores logs registries) c
  used_of_all a b c h m n p = (
    λ used. ⊎_elim
        (λ d. (n p).1 (inl ((m p).1 (inl ((h p).1 (inr (record { partition = p; broker = d.0 }, d.1, refl)))))))
        (λ more. ⊎_elim
        (λ s. (n p).1 (inl ((m p).1 (inr (p, s, refl)))))
        (λ l. (n p).1 (inr (p, l, refl))) more) used,
    λ there. ⊎_elim
        (λ earlier. ⊎_elim
        (λ first. ⊎_elim
        (λ none. absurd none)
        (λ d. inl (
          d.0.broker,
          subst
              (λ q. IsThereWith (λ x. (n : FileName) × IsSome (((disk.ghosts).content x).files n)) (at same_disk (record { partition = q; broker = d.0.broker }) disks))
              (sym d.2) d.1,
        ))
        ((h p).0 first))
        (λ s. inr (inl (subst (λ q. IsThereWith (λ x. (k : ObjectKey) × IsSome (((store.ghosts).content x).objects k)) (at same_partition q stores)) (sym s.2) s.1)))
        ((m p).0 earlier))
        (λ l. inr (inr (subst (λ q. IsThereWith (λ x. (told x).notes ≢ []) (at same_partition q logs)) (sym l.2) l.1)))
        ((n p).0 there),
  )

  -- and so are those of the list that is made of them
  pub used_row : (none a b c : List PartitionId) (result : Result (List PartitionId) AllocError) → none ≡ []
      → Adds (IsPartitionOn (λ (place : DiskPlace). place.partition) (λ x. (n : FileName) × IsSome (((disk.ghosts).content x).files n)) same_disk disks) none a
      → Adds (IsPartitionOn (λ (place : PartitionId). place) (λ x. (k : ObjectKey) × IsSome (((store.ghosts).content x).objects k)) same_partition stores) a b
      → Adds (IsPartitionOn (λ (place : PartitionId). place) (λ x. (told x).notes ≢ []) same_partition logs) b c
      → IfOk result (λ row. row ≡ c) → IfOk result (AreUsedOf (held_by strays disks stores logs registries))
  used_row none a b c (Err e) empty h m n is = is
  used_row none a b c (Ok row) empty h m n is =
      subst (AreUsedOf (held_by strays disks stores logs registries)) (sym is)
      (used_of_all a b c
      (subst
      (λ xs. Adds (IsPartitionOn (λ (place : DiskPlace). place.partition) (λ x. (n : FileName) × IsSome (((disk.ghosts).content x).files n)) same_disk disks) xs a)
      empty h)
      m n)

  -- those that have an object or a metadata event are those of two shelves
  tiers_of_both : (b c : List PartitionId)
      → Adds (IsPartitionOn (λ (place : PartitionId). place) (λ x. (k : ObjectKey) × IsSome (((store.ghosts).content x).objects k)) same_partition stores) [] b
      → Adds (IsPartitionOn (λ (place : PartitionId). place) (λ x. (told x).notes ≢ []) same_partition logs) b c
      → HaveTiers (held_by strays disks stores logs registries) c
  tiers_of_both b c m n p = (
    λ has. ⊎_elim
        (λ s. (n p).1 (inl ((m p).1 (inr (p, s, refl)))))
        (λ l. (n p).1 (inr (p, l, refl)))
        has,
    λ there. ⊎_elim
        (λ earlier. ⊎_elim
        (λ none. absurd none)
        (λ s. inl (subst (λ q. IsThereWith (λ x. (k : ObjectKey) × IsSome (((store.ghosts).content x).objects k)) (at same_partition q stores)) (sym s.2) s.1))
        ((m p).0 earlier))
        (λ l. inr (subst (λ q. IsThereWith (λ x. (told x).notes ≢ []) (at same_partition q logs)) (sym l.2) l.1))
        ((n p).0 there),
  )

  pub tiers_row : (none b c : List PartitionId) (result : Result (List PartitionId) AllocError) → none ≡ []
      → Adds (IsPartitionOn (λ (place : PartitionId). place) (λ x. (k : ObjectKey) × IsSome (((store.ghosts).content x).objects k)) same_partition stores) none b
      → Adds (IsPartitionOn (λ (place : PartitionId). place) (λ x. (told x).notes ≢ []) same_partition logs) b c
      → IfOk result (λ row. row ≡ c) → IfOk result (HaveTiers (held_by strays disks stores logs registries))
  tiers_row none b c (Err e) empty m n is = is
  tiers_row none b c (Ok row) empty m n is =
      subst (HaveTiers (held_by strays disks stores logs registries)) (sym is)
      (tiers_of_both b c
      (subst
      (λ xs. Adds (IsPartitionOn (λ (place : PartitionId). place) (λ x. (k : ObjectKey) × IsSome (((store.ghosts).content x).objects k)) same_partition stores) xs b)
      empty m)
      n)

  -- those that have a registry are those of one
  kept_of_one : (c : List PartitionId)
      → Adds (IsPartitionOn (λ (place : PartitionId). place) (λ x. IsSome (((disk.ghosts).content x).files Registry)) same_partition registries) [] c
      → HaveRegistries (held_by strays disks stores logs registries) c
  kept_of_one c n p = (
    λ has. (n p).1 (inr (p, has, refl)),
    λ there. ⊎_elim
        (λ none. absurd none)
        (λ r. subst (λ q. IsThereWith (λ x. IsSome (((disk.ghosts).content x).files Registry)) (at same_partition q registries)) (sym r.2) r.1)
        ((n p).0 there),
  )

  pub kept_row : (none c : List PartitionId) (result : Result (List PartitionId) AllocError) → none ≡ []
      → Adds (IsPartitionOn (λ (place : PartitionId). place) (λ x. IsSome (((disk.ghosts).content x).files Registry)) same_partition registries) none c
      → IfOk result (λ row. row ≡ c) → IfOk result (HaveRegistries (held_by strays disks stores logs registries))
  kept_row none c (Err e) empty n is = is
  kept_row none c (Ok row) empty n is =
      subst (HaveRegistries (held_by strays disks stores logs registries)) (sym is)
      (kept_of_one c
      (subst (λ xs. Adds (IsPartitionOn (λ (place : PartitionId). place) (λ x. IsSome (((disk.ghosts).content x).files Registry)) same_partition registries) xs c) empty n))

abbrev disks_keep : MemoryDisk → MemoryDisk → Type 0
disks_keep d e = disks.Keeps ((disk.ghosts).content d) ((disk.ghosts).content e)

abbrev stores_keep : MemoryStore → MemoryStore → Type 0
stores_keep s t = stores.Keeps ((store.ghosts).content s) ((store.ghosts).content t)

abbrev logs_keep : NoteLog MemoryDisk → NoteLog MemoryDisk → Type 0
logs_keep m n = logs.Keeps (told m) (told n)

-- what two calls leave that change nothing, the one on some shelves, the other on the rest
pub same_joined : (a b c : YardContent MemoryDisk MemoryStore (NoteLog MemoryDisk)) → SameYardContent a b → SameYardContent b c → ((p : PartitionId) → b.registries p ≡ a.registries p)
    → ((p : PartitionId) (k : BrokerId) → c.disks p k ≡ b.disks p k) → ((p : PartitionId) → c.stores p ≡ b.stores p) → ((p : PartitionId) → c.logs p ≡ b.logs p) → SameYardContent a c
same_joined a b c f g kept disks_are stores_are logs_are = record {
  is_observable = g.is_observable ∙ f.is_observable;
  strays = g.strays ∙ f.strays;
  disks = λ p k. subst (λ o. Both disks_keep (a.disks p k) o) (sym (disks_are p k)) (f.disks p k);
  stores = λ p. subst (λ o. Both stores_keep (a.stores p) o) (sym (stores_are p)) (f.stores p);
  logs = λ p. subst (λ o. Both logs_keep (a.logs p) o) (sym (logs_are p)) (f.logs p);
  registries = λ p. subst (λ o. Both disks_keep o (c.registries p)) (kept p) (g.registries p);
}

-- those with an object or a metadata event that have no registry
pub bare_are : (a b : YardContent MemoryDisk MemoryStore (NoteLog MemoryDisk)) (tiers kept bare : List PartitionId) → ((p : PartitionId) → b.registries p ≡ a.registries p)
    → HaveTiers a tiers → HaveRegistries b kept → AreWithout tiers kept bare → AreBare a bare
bare_are a b tiers kept bare same has keeps without p = (
  λ is. (without p).1 ((has p).0 is.0, λ there. is.1 (subst (λ o. IsThereWith (λ x. IsSome (((disk.ghosts).content x).files Registry)) o) (same p) ((keeps p).1 there))),
  λ there. let both = (without p).0 there in (
    (has p).1 both.0,
    λ registered. both.1 ((keeps p).0 (subst (λ o. IsThereWith (λ x. IsSome (((disk.ghosts).content x).files Registry)) o) (sym (same p)) registered)),
  ),
)

-- the first of the strays' names and those of partitions
pub first_of_all : (held : YardContent MemoryDisk MemoryStore (NoteLog MemoryDisk)) (seen : List (List ℕ)) (bare : List PartitionId) (a d : Option (List ℕ))
    → seen ≡ held.strays → IsFirstName (λ t. In t seen) a → AreBare held bare → IsFirstWith (IsNameIn bare) a d → IsFirstOf held d
first_of_all held seen bare a d sees h are k =
    first_same _ _ d
    (λ t. ⊎_elim (λ stray. inl (subst (λ xs. In t xs) sees stray)) (λ x. inr (x.0, (are x.0).1 x.1, x.2)))
    (λ t. ⊎_elim (λ stray. inl (subst (λ xs. In t xs) (sym sees) stray)) (λ x. inr (x.0, (are x.0).0 x.1, x.2)))
    (first_then _ _ a d h k)

pub bare_row : (a b : YardContent MemoryDisk MemoryStore (NoteLog MemoryDisk)) (tiers kept t k : List PartitionId) (result : Result (List PartitionId) AllocError) → ((p : PartitionId) → b.registries p ≡ a.registries p)
    → HaveTiers a tiers → HaveRegistries b kept → t ≡ tiers → k ≡ kept → IfOk result (AreWithout t k) → IfOk result (AreBare a)
bare_row a b tiers kept t k (Err e) same has keeps ts ks is = is
bare_row a b tiers kept t k (Ok row) same has keeps ts ks is =
    bare_are a b tiers kept row same has keeps (subst (λ l. AreWithout l kept row) ts (subst (λ l. AreWithout t l row) ks is))
