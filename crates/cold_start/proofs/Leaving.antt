-- What a power cut leaves of an open partition represents what is left of the plain state, since the file of its
-- registry is there.
use Rattle.std.proofs.Common.{◌≡◌, ◌∙◌, inl, inr, sym, subst, refl, ℕ, ◌≤◌, List, [], ◌∷◌, length, Option, Some}
use Rattle.std.specs.Prelude.{Ok, IsTrue, IsSomeAnd}
use Rattle.tier_base.specs.declared.names.PartitionId.{PartitionId}
use Rattle.tier_base.specs.declared.plain.FileName.TheVariants.{Registry as RegistryName}
use Rattle.disk_model.specs.Content.{Content, Files, Image, Lawful}
use Rattle.disk_model.specs.declared.disk.Disk.{Ghosts as DiskGhosts}
use Rattle.object_store.specs.declared.store.Store.{Ghosts as StoreGhosts}
use Rattle.meta_log.specs.declared.log.MetaLog.{Ghosts as MetaGhosts}
use Rattle.registry.specs.View.{IsRegistry, view_of}
use Rattle.registry.specs.declared.registry.Registry.{Registry}
use Rattle.registry_file.specs.Reading.{view_in}
use Rattle.registry_disk.specs.Keeping.{registry_bytes, HasFile, KeepsFile, KeepsOneOf}
use Rattle.broker_log.specs.Seen.{LogState}
use Rattle.plain_log.specs.declared.state.State.{State}
use Rattle.partition_commands.specs.declared.partition_state.Node.{Node}
use Rattle.partition_commands.specs.Cold.{DisksReopen}
use Rattle.partition_commands.specs.Fresh.{AreDisksOf}
use Rattle.partition_world.specs.Cold.{StandCold}
use Rattle.partition_world.specs.Left.{IsCentralLeft, resolved, whole_with}
use Rattle.partition_world.specs.Whole.{Whole}
use Rattle.partition_world.specs.declared.tier.RemoteTier.{RemoteTier}
use Rattle.cold_state.specs.Cold.{cold_of}
use Rattle.cold_start.specs.ColdWorld.{IsCutDisk, IsCutStore, IsCutLog, LeavesDisk, LeaveDisks, AreCut, plain_in}
use Rattle.cold_start.specs.Stands.{StandsFor, LeavesCold, LeavesOneOf}
use Rattle.cold_start.specs.Stepping.{SameDevices, logs_of}
use Rattle.cold_start.specs.FileLaws.{FileLaws}
use Rattle.cold_start.proofs.Registries.{registries_scripted}
use Rattle.cold_start.proofs.StandLaw.{AreShownAs, left_as, shown_cold, closed_left}

-- the spelling of a registry that keeps the rules reads as it
pub spelled : (laws : FileLaws) (r : Registry) (files : Files) → IsRegistry r → files RegistryName ≡ Some (registry_bytes r) → HasFile files r
spelled laws r files rules is = subst (λ (o : Option (List ℕ)). IsSomeAnd o (λ bytes. view_in bytes ≡ Ok (view_of r))) (sym is) (laws.again (view_of r) ((laws.rules r).1 rules))

-- no power cut at all
pub uncut : (d : Content) → IsCutDisk d d
uncut d = record { is_observable = λ told. told; images = λ c at. at }

module _ {D : Type 0} (content : D → Content) where
  pub all_uncut : (disks : List D) → AreCut content disks disks
  all_uncut [] = tt
  all_uncut (d ∷ disks) = (uncut (content d), all_uncut disks)

  leaves_by : (k l : LogState D) (d : D) → k ≡ l → LeavesDisk content k d → LeavesDisk content l d
  leaves_by k l d same left = subst (λ (j : LogState D). LeavesDisk content j d) same left

  -- what is left of disks goes by the logs alone
  pub left_by : (xs ys : List (Node D)) (disks : List D) → logs_of xs ≡ logs_of ys → LeaveDisks content xs disks → LeaveDisks content ys disks
  left_by [] [] disks same left = left
  left_by (x ∷ xs) (y ∷ ys) (d ∷ disks) same left =
      let one : x.log ≡ y.log = cc (same) in
      let rest : logs_of xs ≡ logs_of ys = cc (same) in
      (leaves_by x.log y.log d one left.0, left_by xs ys disks rest left.1)
  left_by (x ∷ xs) (y ∷ ys) [] same left = absurd left
  left_by [] (y ∷ ys) disks same left = absurd cc
  left_by (x ∷ xs) [] disks same left = absurd cc

module _ {D S M : Type 0} (laws : FileLaws) (disk : DiskGhosts D) (store : StoreGhosts S) (meta : MetaGhosts M) where
  -- the registry of the plain state is the world's, and keeps the rules
  pub plain_registry : (opening : State) (w : Whole D S M) (c : IsCentralLeft disk store meta opening w) → (plain_in disk store meta opening w c).registry ≡ w.partition_state.registry
  plain_registry opening w c =
      let now = c (meta.content w.tier.meta).notes (inl refl) in
      now.central.stands.partition_state.registry ∙ now.shows.registry

  pub scripted : (opening : State) (w : Whole D S M) → IsCentralLeft disk store meta opening w → 1 ≤ length w.partition_state.registry.replicas → length w.partition_state.registry.replicas ≤ 8 → IsRegistry w.partition_state.registry
  scripted opening w c some few =
      registries_scripted disk store (resolved meta) opening (whole_with w (meta.content w.tier.meta).notes) (c (meta.content w.tier.meta).notes (inl refl)) some few

  -- devices whose logs are seen as those of a world, and a disk with the file of its registry
  pub shown_stands : (opening : State) (w : Whole D S M) (c : IsCentralLeft disk store meta opening w) (disks : List D) (s : S) (m : M) (r : D) → AreShownAs disk.content w.partition_state.nodes disks
      → IsCutStore (store.content w.tier.store) (store.content s) → IsCutLog (meta.content w.tier.meta) (meta.content m) → IsTrue (disk.content r).is_observable → (disk.content r).files RegistryName ≡ Some (registry_bytes w.partition_state.registry)
      → 1 ≤ length w.partition_state.registry.replicas → length w.partition_state.registry.replicas ≤ 8 → StandsFor disk store meta w.partition disks s m r (cold_of (plain_in disk store meta opening w c))
  shown_stands opening w c disks s m r cut kept recorded told file some few =
      let same = plain_registry opening w c in
      record {
        file_tells = told;
        file = subst (λ (k : Registry). HasFile (disk.content r).files k) (sym same) (spelled laws w.partition_state.registry (disk.content r).files (scripted opening w c some few) file);
        stand = λ l at. subst (λ (k : Registry). StandCold disk store meta w.partition k disks s m (cold_of (plain_in disk store meta opening w c)) l) (sym same) (shown_cold disk store meta opening w disks s m c cut kept recorded l at);
      }

  -- devices that are left of a world, and such a disk
  pub stands_by : (opening : State) (w : Whole D S M) (c : IsCentralLeft disk store meta opening w) (disks : List D) (s : S) (m : M) (r : D) → LeaveDisks disk.content w.partition_state.nodes disks
      → IsCutStore (store.content w.tier.store) (store.content s) → IsCutLog (meta.content w.tier.meta) (meta.content m) → IsTrue (disk.content r).is_observable → (disk.content r).files RegistryName ≡ Some (registry_bytes w.partition_state.registry)
      → 1 ≤ length w.partition_state.registry.replicas → length w.partition_state.registry.replicas ≤ 8 → StandsFor disk store meta w.partition disks s m r (cold_of (plain_in disk store meta opening w c))
  stands_by opening w c disks s m r cut kept recorded told file some few =
      shown_stands opening w c disks s m r (left_as disk.content w.partition_state.nodes disks cut) kept recorded told file some few

  module _ (lawful : (d : D) → Lawful (disk.content d)) where
    -- what a disk reads as after a power cut is an image that it had before
    read_was : (old new : D) → IsTrue (disk.content old).is_observable → IsCutDisk (disk.content old) (disk.content new) → Image (disk.content old) (disk.content new).files
    read_was old new told cut = cut.images (disk.content new).files ((lawful new).reads (cut.is_observable told))

    pub left_cold : (opening : State) (w : Whole D S M) (reg : D) → IsTrue (disk.content reg).is_observable → KeepsFile (disk.content reg) w.partition_state.registry → 1 ≤ length w.partition_state.registry.replicas → length w.partition_state.registry.replicas ≤ 8
        → LeavesCold disk store meta opening w reg
    left_cold opening w reg told kept some few c disks s m r left =
        stands_by opening w c disks s m r left.logs left.objects left.notes (left.file.is_observable told) (kept (disk.content r).files (read_was reg r told left.file)) some few

    pub left_either : (opening : State) (v w : Whole D S M) (reg : D) → IsTrue (disk.content reg).is_observable → KeepsOneOf (disk.content reg) v.partition_state.registry w.partition_state.registry → SameDevices v w → w.partition ≡ v.partition
        → 1 ≤ length v.partition_state.registry.replicas → length v.partition_state.registry.replicas ≤ 8 → 1 ≤ length w.partition_state.registry.replicas → length w.partition_state.registry.replicas ≤ 8 → LeavesOneOf disk store meta opening v w reg
    left_either opening v w reg told kept same here some few more fewer b c disks s m r left =
        elim (kept (disk.content r).files (read_was reg r told left.file)) [
          | inl old ↦ inl (subst (λ (p : PartitionId). StandsFor disk store meta p disks s m r (cold_of (plain_in disk store meta opening v b))) (sym here)
              (stands_by opening v b disks s m r (left_by disk.content w.partition_state.nodes v.partition_state.nodes disks same.logs left.logs)
              (subst (λ (t : RemoteTier S M). IsCutStore (store.content t.store) (store.content s)) same.tier left.objects)
              (subst (λ (t : RemoteTier S M). IsCutLog (meta.content t.meta) (meta.content m)) same.tier left.notes)
              (left.file.is_observable told) old some few))
          | inr new ↦ inr (stands_by opening w c disks s m r left.logs left.objects left.notes (left.file.is_observable told) new more fewer)
        ]

  -- the devices that a closed world gives back represent what is left of its plain state
  pub closed_cold : (opening : State) (w : Whole D S M) (c : IsCentralLeft disk store meta opening w) (disks : List D) (s : S) (m : M) (r : D) → AreDisksOf w.partition_state.nodes disks → DisksReopen disk.content w.partition_state.nodes disks
      → s ≡ w.tier.store → m ≡ w.tier.meta → IsTrue (disk.content r).is_observable → (disk.content r).files RegistryName ≡ Some (registry_bytes w.partition_state.registry)
      → 1 ≤ length w.partition_state.registry.replicas → length w.partition_state.registry.replicas ≤ 8 → StandsFor disk store meta w.partition disks s m r (cold_of (plain_in disk store meta opening w c))
  closed_cold opening w c disks s m r are again one two told file some few =
      stands_by opening w c disks s m r (closed_left disk w.partition_state.nodes disks disks are again (all_uncut disk.content disks))
      (subst (λ (k : S). IsCutStore (store.content w.tier.store) (store.content k)) (sym one) (record { is_observable = λ yes. yes; objects = refl }))
      (subst (λ (k : M). IsCutLog (meta.content w.tier.meta) (meta.content k)) (sym two) (record { is_observable = λ yes. yes; left = λ l at. at }))
      told file some few
