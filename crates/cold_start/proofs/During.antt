-- Whatever moments of a step the devices' files are of, they represent what is left of the state before it, or of that
-- after it.
use Rattle.std.proofs.Common.{◌≡◌, ◌∙◌, ◌⊎◌, inl, inr, ⊎_elim, sym, ap, subst, refl, ℕ, zero, suc, ◌≤◌, List, [], ◌∷◌, length, slice_get, slice_set, Some, arith}
use Rattle.std.specs.Prelude.{IsTrue}
use Rattle.tier_base.specs.declared.names.PartitionId.{PartitionId}
use Rattle.tier_base.specs.declared.plain.FileName.TheVariants.{Registry as RegistryName}
use Rattle.disk_model.specs.Content.{Content, Image, Lawful, LeavesOnly}
use Rattle.disk_model.specs.declared.disk.Disk.{Ghosts as DiskGhosts}
use Rattle.object_store.specs.declared.store.Store.{Ghosts as StoreGhosts}
use Rattle.meta_log.specs.declared.log.MetaLog.{Ghosts as MetaGhosts}
use Rattle.log_steps.specs.Reopens.{Reopens}
use Rattle.registry.specs.declared.registry.Registry.{Registry}
use Rattle.registry_disk.specs.Keeping.{registry_bytes, KeepsFile, KeepsOneOf}
use Rattle.broker_log.specs.Seen.{LogSeen, LogState, Up, Down, Away, ShowsSeen, OnDisk, OpensLater, LeavesBetween, is_up}
use Rattle.plain_log.specs.declared.state.State.{State}
use Rattle.laws_partition.specs.Seen as seen
use Rattle.partition_commands.specs.declared.partition_state.Node.{Node}
use Rattle.partition_commands.specs.Disks.{AllReopen}
use Rattle.partition_commands.specs.Partition.{ShowNodes}
use Rattle.partition_world.specs.Left.{IsCentralLeft}
use Rattle.partition_world.specs.Whole.{Whole}
use Rattle.partition_world.specs.declared.tier.RemoteTier.{RemoteTier}
use Rattle.cold_state.specs.Cold.{cold_of}
use Rattle.cold_start.specs.ColdWorld.{IsCutStore, IsCutLog, plain_in}
use Rattle.cold_start.specs.FileLaws.{FileLaws}
use Rattle.cold_start.specs.Moments.{IsCutSince, LeaveSince, ChangesLog, WorksOnOne, IsLeftSince, LeavesDuring}
use Rattle.cold_start.specs.Stands.{StandsFor}
use Rattle.cold_start.specs.Stepping.{SameDevices, logs_of}
use Rattle.cold_start.proofs.Leaving.{shown_stands}
use Rattle.cold_start.proofs.Since.{shown_later}
use Rattle.cold_start.proofs.StandLaw.{IsShownAs, AreShownAs}

module _ {D : Type 0} (content : D → Content) where
  -- a disk of a log has the files of a moment since
  abbrev IsSince : LogState D → LogState D → D → Type 0
  IsSince k l d = OnDisk k (λ old. OnDisk l (λ now. IsCutSince (content old) (content now) (content d)))

  -- what it has now is an image of its own
  own_later : (e d : D) (cut : IsCutSince (content e) (content e) (content d)) → OpensLater (content e) cut.files
  own_later e d cut = (cut.files, cut.left, λ o is. (o.incarnation, omega arith, is))

  -- no call came between
  one_rests : (k : LogState D) (d : D) → IsSince k k d → IsShownAs content k d
  one_rests (Up log) d cut s h = shown_later content d (Up log) log.disk log.disk cut h.told log.disk refl (own_later log.disk d cut) s h
  one_rests (Down was e) d cut s h = shown_later content d (Down was e) e e cut h.told e refl (own_later e d cut) s h
  one_rests Away d cut s h = absurd h

  again_of : (k : LogState D) (s : LogSeen) → ShowsSeen content k s → (IsTrue (is_up k) → OnDisk k (λ e. Reopens (content e))) → OnDisk k (λ e. Reopens (content e))
  again_of (Up log) s h up = up refl
  again_of (Down was e) s h up = h.again
  again_of Away s h up = absurd h

  told_of : (k : LogState D) (s : LogSeen) → ShowsSeen content k s → OnDisk k (λ e. IsTrue (content e).is_observable)
  told_of (Up log) s h = h.told
  told_of (Down was e) s h = h.told
  told_of Away s h = absurd h

  -- a call did: the log of before or that of after
  one_changes : (k l : LogState D) (d : D) → LeavesBetween content k l → OnDisk k (λ e. IsTrue (content e).is_observable) → OnDisk k (λ e. Reopens (content e)) → IsSince k l d → IsShownAs content k d ⊎ IsShownAs content l d
  one_changes (Up a) (Up b) d between told again cut =
      ⊎_elim
      (λ was. inl (shown_later content d (Up a) a.disk b.disk cut told a.disk refl was))
      (λ now. inr (shown_later content d (Up b) a.disk b.disk cut told b.disk refl now))
      ((between told again).each cut.files cut.left)
  one_changes (Up a) (Down was e) d between told again cut =
      ⊎_elim
      (λ was. inl (shown_later content d (Up a) a.disk e cut told a.disk refl was))
      (λ now. inr (shown_later content d (Down was e) a.disk e cut told e refl now))
      ((between told again).each cut.files cut.left)
  one_changes (Up a) Away d between told again cut = absurd cut
  one_changes (Down was e) (Up b) d between told again cut =
      ⊎_elim
      (λ old. inl (shown_later content d (Down was e) e b.disk cut told e refl old))
      (λ now. inr (shown_later content d (Up b) e b.disk cut told b.disk refl now))
      ((between told again).each cut.files cut.left)
  one_changes (Down was e) (Down is f) d between told again cut =
      ⊎_elim
      (λ old. inl (shown_later content d (Down was e) e f cut told e refl old))
      (λ now. inr (shown_later content d (Down is f) e f cut told f refl now))
      ((between told again).each cut.files cut.left)
  one_changes (Down was e) Away d between told again cut = absurd cut
  one_changes Away l d between told again cut = absurd cut

  -- by the logs alone
  pub shown_by : (xs ys : List (Node D)) (disks : List D) → logs_of ys ≡ logs_of xs → AreShownAs content xs disks → AreShownAs content ys disks
  shown_by [] [] disks same h = h
  shown_by (x ∷ xs) (y ∷ ys) (d ∷ disks) same h =
      let one : x.log ≡ y.log = cc (same) in
      let rest : logs_of ys ≡ logs_of xs = cc (same) in
      (subst (λ (k : LogState D). IsShownAs content k d) one h.0, shown_by xs ys disks rest h.1)
  shown_by (x ∷ xs) (y ∷ ys) [] same h = absurd h
  shown_by [] (y ∷ ys) disks same h = absurd cc
  shown_by (x ∷ xs) [] disks same h = absurd cc

  -- no log changed
  pub all_rest : (xs ys : List (Node D)) (disks : List D) → logs_of ys ≡ logs_of xs → LeaveSince content xs ys disks → AreShownAs content xs disks
  all_rest [] [] [] same cut = tt
  all_rest (x ∷ xs) (y ∷ ys) (d ∷ disks) same cut =
      let one : y.log ≡ x.log = cc (same) in
      let rest : logs_of ys ≡ logs_of xs = cc (same) in
      (one_rests x.log d (subst (λ (l : LogState D). IsSince x.log l d) one cut.0), all_rest xs ys disks rest cut.1)
  all_rest [] [] (d ∷ disks) same cut = absurd cut
  all_rest [] (y ∷ ys) disks same cut = absurd cut
  all_rest (x ∷ xs) [] disks same cut = absurd cut
  all_rest (x ∷ xs) (y ∷ ys) [] same cut = absurd cut

  -- one did
  one_did : (xs ys : List (Node D)) (disks : List D) (at : ℕ) (x : Node D) (kept : LogState D) → slice_get xs at ≡ Some x → logs_of ys ≡ slice_set (logs_of xs) at kept
      → ((d : D) → IsSince x.log kept d → IsShownAs content x.log d ⊎ IsShownAs content kept d) → LeaveSince content xs ys disks → AreShownAs content xs disks ⊎ AreShownAs content ys disks
  one_did (z ∷ xs) (y ∷ ys) (d ∷ disks) zero x kept there same change cut =
      let here : z.log ≡ x.log = ap (λ (n : Node D). n.log) (let is : z ≡ x = cc (there) in is) in
      let now : y.log ≡ kept = cc (same) in
      let rest : logs_of ys ≡ logs_of xs = cc (same) in
      let more = all_rest xs ys disks rest cut.1 in
      ⊎_elim
      (λ was. inl (subst (λ (k : LogState D). IsShownAs content k d) (sym here) was, more))
      (λ is. inr (subst (λ (k : LogState D). IsShownAs content k d) (sym now) is, shown_by xs ys disks rest more))
      (change d (subst (λ (l : LogState D). IsSince x.log l d) now (subst (λ (k : LogState D). IsSince k y.log d) here cut.0)))
  one_did (z ∷ xs) (y ∷ ys) (d ∷ disks) (suc at) x kept there same change cut =
      let one : y.log ≡ z.log = cc (same) in
      let rest : logs_of ys ≡ slice_set (logs_of xs) at kept = cc (same) in
      let head = one_rests z.log d (subst (λ (l : LogState D). IsSince z.log l d) one cut.0) in
      ⊎_elim
      (λ was. inl (head, was))
      (λ is. inr (subst (λ (k : LogState D). IsShownAs content k d) (sym one) head, is))
      (one_did xs ys disks at x kept there rest change cut.1)
  one_did [] ys disks at x kept there same change cut = absurd cc
  one_did (z ∷ xs) [] disks at x kept there same change cut = absurd cut
  one_did (z ∷ xs) (y ∷ ys) [] at x kept there same change cut = absurd cut

  node_at : (xs : List (Node D)) (ys : List seen.Node) (b : ℕ) (x : Node D) → ShowNodes content xs ys → slice_get xs b ≡ Some x → (s : LogSeen) × ShowsSeen content x.log s
  node_at (z ∷ xs) (y ∷ ys) zero x h at = let same : z ≡ x = cc (at) in subst (λ (n : Node D). (s : LogSeen) × ShowsSeen content n.log s) same (h.0.0, h.0.1)
  node_at (z ∷ xs) (y ∷ ys) (suc b) x h at = node_at xs ys b x h.1 at
  node_at [] ys b x h at = absurd cc
  node_at (z ∷ xs) [] b x h at = absurd h

  -- the logs are those of before, or those of after
  pub log_did : (xs zs : List (Node D)) (ys : List seen.Node) (disks : List D) → ShowNodes content xs ys → AllReopen content xs → ChangesLog content xs zs → LeaveSince content xs zs disks
      → AreShownAs content xs disks ⊎ AreShownAs content zs disks
  log_did xs zs ys disks shows again c cut =
      let s = node_at xs ys c.at c.old shows c.was in
      one_did xs zs disks c.at c.old c.kept c.was c.logs
      (λ d since. one_changes c.old.log c.kept d c.between (told_of c.old.log s.0 s.1) (again_of c.old.log s.0 s.1 (again c.at c.old c.was)) since) cut

-- the registry's file on a disk that has the files of some moment
module _ {D : Type 0} (disk : DiskGhosts D) (lawful : (d : D) → Lawful (disk.content d)) where
  pub file_since : (old now r : D) (cut : IsCutSince (disk.content old) (disk.content now) (disk.content r)) → IsTrue (disk.content old).is_observable → (bytes : List ℕ) → cut.files RegistryName ≡ Some bytes → (disk.content r).files RegistryName ≡ Some bytes
  file_since old now r cut told bytes is = cut.images (disk.content r).files ((lawful r).reads (cut.is_observable told)) RegistryName ∙ is

module _ {D S M : Type 0} (laws : FileLaws) (disk : DiskGhosts D) (store : StoreGhosts S) (meta : MetaGhosts M) (lawful : (d : D) → Lawful (disk.content d)) where
  module _ (opening : State) (v w : Whole D S M) (reg now : D) (told : IsTrue (disk.content reg).is_observable) (here : w.partition ≡ v.partition) (some : 1 ≤ length v.partition_state.registry.replicas) (few : length v.partition_state.registry.replicas ≤ 8)
      (more : 1 ≤ length w.partition_state.registry.replicas) (fewer : length w.partition_state.registry.replicas ≤ 8) where
    module _ (b : IsCentralLeft disk store meta opening v) (c : IsCentralLeft disk store meta opening w) (disks : List D) (s : S) (m : M) (r : D) (left : IsLeftSince disk store meta v reg w now disks s m r) where
      -- the state before, and the state after
      abbrev Before : Type 0
      Before = StandsFor disk store meta w.partition disks s m r (cold_of (plain_in disk store meta opening v b))

      abbrev After : Type 0
      After = StandsFor disk store meta w.partition disks s m r (cold_of (plain_in disk store meta opening w c))

      old_file : left.file.files RegistryName ≡ Some (registry_bytes v.partition_state.registry) → (disk.content r).files RegistryName ≡ Some (registry_bytes v.partition_state.registry)
      old_file is = file_since disk lawful reg now r left.file told (registry_bytes v.partition_state.registry) is

      new_file : left.file.files RegistryName ≡ Some (registry_bytes w.partition_state.registry) → (disk.content r).files RegistryName ≡ Some (registry_bytes w.partition_state.registry)
      new_file is = file_since disk lawful reg now r left.file told (registry_bytes w.partition_state.registry) is

      before : AreShownAs disk.content v.partition_state.nodes disks → IsCutStore (store.content v.tier.store) (store.content s) → IsCutLog (meta.content v.tier.meta) (meta.content m)
          → left.file.files RegistryName ≡ Some (registry_bytes v.partition_state.registry) → Before
      before logs objects notes file =
          subst (λ (p : PartitionId). StandsFor disk store meta p disks s m r (cold_of (plain_in disk store meta opening v b))) (sym here)
          (shown_stands laws disk store meta opening v b disks s m r logs objects notes (left.file.is_observable told) (old_file file) some few)

      after : AreShownAs disk.content w.partition_state.nodes disks → IsCutStore (store.content w.tier.store) (store.content s) → IsCutLog (meta.content w.tier.meta) (meta.content m)
          → left.file.files RegistryName ≡ Some (registry_bytes w.partition_state.registry) → After
      after logs objects notes file = shown_stands laws disk store meta opening w c disks s m r logs objects notes (left.file.is_observable told) (new_file file) more fewer

      -- the store, or the metadata log, is as it was
      store_as : w.tier.store ≡ v.tier.store → IsCutStore (store.content v.tier.store) (store.content s) × IsCutStore (store.content w.tier.store) (store.content s)
      store_as same =
          ⊎_elim
          (λ was. (was, subst (λ (k : S). IsCutStore (store.content k) (store.content s)) (sym same) was))
          (λ is. (subst (λ (k : S). IsCutStore (store.content k) (store.content s)) same is, is))
          left.objects

      meta_as : w.tier.meta ≡ v.tier.meta → IsCutLog (meta.content v.tier.meta) (meta.content m) × IsCutLog (meta.content w.tier.meta) (meta.content m)
      meta_as same =
          ⊎_elim
          (λ was. (was, subst (λ (k : M). IsCutLog (meta.content k) (meta.content m)) (sym same) was))
          (λ is. (subst (λ (k : M). IsCutLog (meta.content k) (meta.content m)) same is, is))
          left.notes

      -- the registry is as it was, and so is its file
      quietly : AllReopen disk.content v.partition_state.nodes → WorksOnOne disk store meta v w → w.partition_state.registry ≡ v.partition_state.registry → left.file.files RegistryName ≡ Some (registry_bytes v.partition_state.registry) → Before ⊎ After
      quietly again works same file = go works
        where
          file' : left.file.files RegistryName ≡ Some (registry_bytes w.partition_state.registry)
          file' = subst (λ (k : Registry). left.file.files RegistryName ≡ Some (registry_bytes k)) (sym same) file

          go : WorksOnOne disk store meta v w → Before ⊎ After
          go (inl (change, registry, one, two)) =
              let objects = store_as one in
              let notes = meta_as two in
              let k = b (meta.content v.tier.meta).notes (inl refl) in
              ⊎_elim
              (λ was. inl (before was objects.0 notes.0 file))
              (λ is. inr (after is objects.1 notes.1 file'))
              (log_did disk.content v.partition_state.nodes w.partition_state.nodes k.partition.nodes disks k.shows.nodes again change left.logs)
          go (inr (logs, inl one)) =
              let was = all_rest disk.content v.partition_state.nodes w.partition_state.nodes disks logs left.logs in
              let objects = store_as one in
              ⊎_elim
              (λ notes. inl (before was objects.0 notes file))
              (λ notes. inr (after (shown_by disk.content v.partition_state.nodes w.partition_state.nodes disks logs was) objects.1 notes file'))
              left.notes
          go (inr (logs, inr two)) =
              let was = all_rest disk.content v.partition_state.nodes w.partition_state.nodes disks logs left.logs in
              let notes = meta_as two in
              ⊎_elim
              (λ objects. inl (before was objects notes.0 file))
              (λ objects. inr (after (shown_by disk.content v.partition_state.nodes w.partition_state.nodes disks logs was) objects notes.1 file'))
              left.objects

      -- the registry is another, and its file is put in the place of the old one
      replacing : SameDevices v w → (left.file.files RegistryName ≡ Some (registry_bytes v.partition_state.registry)) ⊎ (left.file.files RegistryName ≡ Some (registry_bytes w.partition_state.registry)) → Before ⊎ After
      replacing same file =
          let was = all_rest disk.content v.partition_state.nodes w.partition_state.nodes disks same.logs left.logs in
          let objects = store_as (ap (λ (t : RemoteTier S M). t.store) same.tier) in
          let notes = meta_as (ap (λ (t : RemoteTier S M). t.meta) same.tier) in
          ⊎_elim
          (λ old. inl (before was objects.0 notes.0 old))
          (λ new. inr (after (shown_by disk.content v.partition_state.nodes w.partition_state.nodes disks same.logs was) objects.1 notes.1 new))
          file

    -- a step that left the registry alone
    pub during_quiet : AllReopen disk.content v.partition_state.nodes → WorksOnOne disk store meta v w → w.partition_state.registry ≡ v.partition_state.registry → KeepsFile (disk.content reg) v.partition_state.registry → now ≡ reg → LeavesDuring disk store meta opening v reg w now
    during_quiet again works same kept is b c disks s m r left =
        let at : Image (disk.content reg) left.file.files = subst (λ (k : D). (disk.content k).left (disk.content reg).moment left.file.files) is left.file.left in
        quietly b c disks s m r left again works same (kept left.file.files at)

    -- one that changed it
    pub during_replaced : SameDevices v w → KeepsFile (disk.content reg) v.partition_state.registry → KeepsOneOf (disk.content now) v.partition_state.registry w.partition_state.registry
        → LeavesOnly (disk.content reg) (disk.content now) (λ c. Image (disk.content reg) c ⊎ Image (disk.content now) c) → LeavesDuring disk store meta opening v reg w now
    during_replaced same kept either since b c disks s m r left =
        replacing b c disks s m r left same
        (⊎_elim (λ old. inl (kept left.file.files old)) (λ new. either left.file.files new) (since.each left.file.files left.file.left))
