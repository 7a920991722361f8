-- A partition's devices, as they are provided one after another.
use Rattle.std.proofs.Common.{◌≡◌, inl, inr, ◌∙◌, sym, ap, subst, refl, ℕ, zero, suc, ◌+◌, ◌≤◌, List, [], ◌∷◌, ◌++◌, map, length, Option, Some, None, All, IsTrue, arith}
use Rattle.std.specs.Prelude.{IsErrOf, Err}
use Rattle.std.proofs.lemmas.List.Elements.{All-append}
use Rattle.tier_base.specs.Counts.{counted, Rose}
use Rattle.tier_base.specs.Device.{Fate, Went, Fault, Dry, IsFreshDevice, fate_of_trouble}
use Rattle.tier_base.specs.declared.fault.Trouble.{Trouble}
use Rattle.tier_base.specs.declared.fault.Trouble.TheVariants.{Failed, NoMemory}
use Rattle.tier_base.specs.declared.names.BrokerId.{BrokerId}
use Rattle.tier_base.specs.declared.names.PartitionId.{PartitionId}
use Rattle.disk_model.specs.declared.disk.Disk.{Ghosts as DiskGhosts}
use Rattle.object_store.specs.declared.store.Store.{Ghosts as StoreGhosts}
use Rattle.meta_log.specs.declared.log.MetaLog.{Ghosts as MetaGhosts}
use Rattle.device_yard.specs.declared.came.Came.{Came}
use Rattle.device_yard.specs.Control.{Control, Hands}
use Rattle.device_yard.specs.YardContent.{YardContent, DiskIs, StoreIs, HandsDisk, HandsStore, HandsLog}
use Rattle.run_yard.specs.Yard.{came_of, HandedOut, CameBack, Uses, OnlyOf, KeepsRest}
use Rattle.partition_world.specs.declared.tier.Devices.{Devices}
use Rattle.run_yard.specs.Handed.{IsHandedDisk, HandsDisks, AreHandedDisks, AreHanded, AreAllHanded}
use Rattle.run_yard.proofs.Back.{disk_only, only_none, only_then, get_snoc, one_broker, length_snoc, length_map, length_append}
use Rattle.run_yard.proofs.Faults.{goes_on, rose_before, counts_one, still}

-- what holds of an item holds of the list of it alone
pub all_one : {A : Type 0} (P : A → Type 0) (x : A) → P x → All P (x ∷ [])
all_one P x h zero y within = h
all_one P x h (suc i) y within = absurd (omega (arith, within))

-- a call that went wrong took no fault away, and provided nothing
pub went_wrong : (fate : Fate) (c c' : Control) → (fate ≡ Went → ⊥) → Hands fate c c' → (counted c.faults 0 ≤ c'.faults) × (c'.out ≡ c.out)
went_wrong Went c c' wrong h = absurd (wrong refl)
went_wrong Fault c c' wrong h = (let one = h.faults.fault refl in let more = counts_one c.faults in omega (arith, one, more), h.out)
went_wrong Dry c c' wrong h = (let same = h.faults.dry refl in omega (arith, same), h.out)

-- a call that failed raised the count
pub raised : (c c' : Control) → Hands Fault c c' → Rose c.faults c'.faults
raised c c' h = let one = h.faults.fault refl in omega (arith, one)

module _ {D S M : Type 0} (disk : DiskGhosts D) (store : StoreGhosts S) (meta : MetaGhosts M) where
  -- so many disks are out: those of the brokers from their number on are where they were
  pub record SoFar (p : PartitionId) (h0 h : YardContent D S M) (c0 c : Control) (disks : List D) : Type 0 where
    pub each : All (IsHandedDisk disk store meta h0) disks
    pub hands : IsTrue h0.is_observable → HandsDisks disk store meta p disks h0
    pub control : HandedOut (length disks) c0 c
    pub unread : c.registries ≡ c0.registries
    pub only : OnlyOf p h0 h
    pub rest : IsTrue h0.is_observable → (b : BrokerId) → length disks ≤ b.0 → h.disks p b ≡ h0.disks p b
    pub stores : IsTrue h0.is_observable → h.stores p ≡ h0.stores p
    pub logs : IsTrue h0.is_observable → h.logs p ≡ h0.logs p
    pub registries : IsTrue h0.is_observable → h.registries p ≡ h0.registries p

  pub so_far_none : (p : PartitionId) (h : YardContent D S M) (c : Control) → SoFar p h h c c []
  so_far_none p h c = record {
    each = λ i d within. absurd (omega (arith, within));
    hands = λ t b d is. absurd (let no : ◌≡◌ {A = Option D} None (Some d) = is in cc);
    control = record { faults = refl; named = refl; returned = refl; out = omega arith };
    unread = refl;
    only = only_none p h;
    rest = λ t b past. refl;
    stores = λ t. refl;
    logs = λ t. refl;
    registries = λ t. refl;
  }

  pub so_far_more : (p : PartitionId) (b : BrokerId) (h0 h h' : YardContent D S M) (c0 c c' : Control) (disks : List D) (d : D) → b.0 ≡ length disks → SoFar p h0 h c0 c disks
      → Hands Went c c' → h'.is_observable ≡ h.is_observable → IsFreshDevice (disk.control d) → (disk.content d).is_observable ≡ h.is_observable
      → (IsTrue h.is_observable → HandsDisk disk.content (h.disks p b) (disk.content d)) → (IsTrue h.is_observable → DiskIs p b None h h') → SoFar p h0 h' c0 c' (disks ++ d ∷ [])
  so_far_more p b h0 h h' c0 c c' disks d at so hands is_observable fresh kind content is = record {
    each = All-append (IsHandedDisk disk store meta h0) disks (d ∷ []) so.each (all_one (IsHandedDisk disk store meta h0) d this);
    hands = λ t k e there. elim (get_snoc disks d k.0 e there) [
      | inl old ↦ so.hands t k e old
      | inr new ↦
          let one : k ≡ b = one_broker k b (new.0 ∙ sym at) in
          subst (λ (j : BrokerId). HandsDisk disk.content (h0.disks p j) (disk.content e)) (sym one)
          (subst (λ (x : D). HandsDisk disk.content (h0.disks p b) (disk.content x)) (sym new.1) (held t))
    ];
    control = record {
      faults = hands.faults.went refl ∙ so.control.faults;
      named = hands.named ∙ so.control.named;
      returned = hands.returned ∙ so.control.returned;
      out = (let was = so.control.out in let now = hands.out in let long = length_snoc disks d in omega (arith, was, now, long));
    };
    unread = hands.registries ∙ so.unread;
    only = only_then p h0 h h' so.only (disk_only p b None h h' is_observable is);
    rest = λ t k past. let far = length_snoc disks d in
        (is (was t)).others p k (inr (λ same. absurd (let no = ap (λ (j : BrokerId). j.0) same in omega (arith, past, far, at, no)))) ∙ so.rest t k (omega (arith, past, far));
    stores = λ t. (is (was t)).stores p ∙ so.stores t;
    logs = λ t. (is (was t)).logs p ∙ so.logs t;
    registries = λ t. (is (was t)).registries p ∙ so.registries t;
  }
    where
      was : IsTrue h0.is_observable → IsTrue h.is_observable
      was t = subst IsTrue (sym so.only.is_observable) t

      held : IsTrue h0.is_observable → HandsDisk disk.content (h0.disks p b) (disk.content d)
      held t = subst (λ (o : Option D). HandsDisk disk.content o (disk.content d)) (so.rest t b (omega (arith, at))) (content (was t))

      this : IsHandedDisk disk store meta h0 d
      this = record { fresh = fresh; is_observable = kind ∙ so.only.is_observable }

-- a call for a further device went wrong, and those that were out are back
pub back_again : (came : List Came) (c0 c c' c'' : Control) (fate : Fate) → HandedOut (length came) c0 c → (fate ≡ Went → ⊥) → Hands fate c c' → CameBack came c' c'' → Uses came c0 c''
back_again came c0 c c' c'' fate so wrong hands back =
    let how = went_wrong fate c c' wrong hands in
    let begun = so.faults in
    record {
      never_falls = goes_on c0.faults c'.faults c''.faults (let now = how.0 in omega (arith, begun, now)) (let end = back.faults in let kept = still came c'.faults in omega (arith, end, kept));
      named = back.named ∙ (hands.named ∙ so.named);
      returned = back.returned ∙ ap (λ (l : List Came). l ++ came) (hands.returned ∙ so.returned);
      out = (let a = back.out in let b = how.1 in let e = so.out in omega (arith, a, b, e));
    }

-- where it was a fault the count of faults rose
pub back_risen : (came : List Came) (c0 c c' c'' : Control) → HandedOut (length came) c0 c → Hands Fault c c' → CameBack came c' c'' → Rose c0.faults c''.faults
back_risen came c0 c c' c'' so hands back =
    let rise = raised c c' hands in
    let begun = so.faults in
    rose_before c0.faults c'.faults c''.faults (subst (λ (n : ℕ). Rose n c'.faults) begun rise) (let end = back.faults in let kept = still came c'.faults in omega (arith, end, kept))

-- devices by their counts
pub as_many : {A : Type 0} (f : A → Came) (xs : List A) (c0 c : Control) → HandedOut (length xs) c0 c → HandedOut (length (map f xs)) c0 c
as_many f xs c0 c so = subst (λ (n : ℕ). HandedOut n c0 c) (sym (length_map f xs)) so

-- so many devices by their counts
pub all_so_many : {A : Type 0} (f : A → Came) (xs : List A) (n : ℕ) (c0 c : Control) → length xs ≡ n → HandedOut n c0 c → HandedOut (length (map f xs)) c0 c
all_so_many f xs n c0 c many so = subst (λ (k : ℕ). HandedOut k c0 c) (sym (length_map f xs ∙ many)) so

-- one device more is out
pub one_more : (n : ℕ) (c0 c c' : Control) → HandedOut n c0 c → Hands Went c c' → HandedOut (suc n) c0 c'
one_more n c0 c c' so hands = record {
  faults = hands.faults.went refl ∙ so.faults;
  named = hands.named ∙ so.named;
  returned = hands.returned ∙ so.returned;
  out = (let was = so.out in let now = hands.out in omega (arith, was, now));
}

-- the counts of one device after others
pub came_more_out : (came : List Came) (one : Came) (c0 c c' : Control) → HandedOut (length came) c0 c → Hands Went c c' → HandedOut (length (came ++ one ∷ [])) c0 c'
came_more_out came one c0 c c' so hands = subst (λ (n : ℕ). HandedOut n c0 c') (sym (length_snoc came one)) (one_more (length came) c0 c c' so hands)

-- trouble isn't a call that went well
pub gone_wrong : (trouble : Trouble) → fate_of_trouble trouble ≡ Went → ⊥
gone_wrong Failed is = cc
gone_wrong NoMemory is = cc

-- a call that answered `Failed` was a fault
pub as_fault : {T : Type 0} (trouble : Trouble) (c c' : Control) → IsErrOf {T = T} (Err trouble) Failed → Hands (fate_of_trouble trouble) c c' → Hands Fault c c'
as_fault trouble c c' is h = subst (λ (t : Trouble). Hands (fate_of_trouble t) c c') (let same : trouble ≡ Failed = cc in same) h

module _ {D S M : Type 0} (disk : DiskGhosts D) (store : StoreGhosts S) (meta : MetaGhosts M) where
  -- store and metadata log are out after the disks
  pub all_out : (p : PartitionId) (count : ℕ) (devices : Devices D S M) (h0 h1 h2 : YardContent D S M) → AreHandedDisks disk store meta p count devices.disks.items h0
      → h1.is_observable ≡ h0.is_observable → h2.is_observable ≡ h1.is_observable → (IsTrue h0.is_observable → KeepsRest p h0 h1) → (IsTrue h1.is_observable → StoreIs p None h1 h2)
      → (store.content devices.store).is_observable ≡ h1.is_observable → (IsTrue h1.is_observable → HandsStore store.content (h1.stores p) (store.content devices.store))
      → IsFreshDevice (meta.control devices.meta)
      → (meta.content devices.meta).is_observable ≡ h2.is_observable → (IsTrue h2.is_observable → HandsLog meta.content (h2.logs p) (meta.content devices.meta))
      → AreHanded disk store meta p count devices h0
  all_out p count devices h0 h1 h2 disks same again rest out is_observable gives fresh says notes = record {
    disks = disks;
    store_tells = is_observable ∙ same;
    meta_fresh = fresh;
    meta_tells = says ∙ (again ∙ same);
    objects = λ t. subst (λ (o : Option S). HandsStore store.content o (store.content devices.store)) (rest t).store (gives (subst IsTrue (sym same) t));
    notes = λ t. let t' : IsTrue h1.is_observable = subst IsTrue (sym same) t in
        subst (λ (o : Option M). HandsLog meta.content o (meta.content devices.meta)) ((out t').logs p ∙ (rest t).log) (notes (subst IsTrue (sym again) t'));
  }

  -- and the disk of the registry last
  pub all_handed : (p : PartitionId) (count : ℕ) (devices : Devices D S M) (reg : D) (h0 h3 : YardContent D S M) → AreHanded disk store meta p count devices h0 → h3.is_observable ≡ h0.is_observable
      → (IsTrue h0.is_observable → h3.registries p ≡ h0.registries p) → IsFreshDevice (disk.control reg) → (disk.content reg).is_observable ≡ h3.is_observable
      → (IsTrue h3.is_observable → HandsDisk disk.content (h3.registries p) (disk.content reg)) → AreAllHanded disk store meta p count devices reg h0
  all_handed p count devices reg h0 h3 is same kept fresh is_observable gives = record {
    others = is;
    file = record { fresh = fresh; is_observable = is_observable ∙ same };
    hands = λ t. record {
      logs = is.disks.hands t;
      objects = is.objects t;
      notes = is.notes t;
      file = subst (λ (o : Option D). HandsDisk disk.content o (disk.content reg)) (kept t) (gives (subst IsTrue (sym same) t));
    };
  }

  -- so many devices but the disk of the registry by their counts
  pub so_many_devices : (devices : Devices D S M) (count : ℕ) (c0 c : Control) → length devices.disks.items ≡ count → HandedOut (count + 2) c0 c
      → HandedOut (length (map (came_of disk.control) devices.disks.items ++ came_of store.control devices.store ∷ came_of meta.control devices.meta ∷ [])) c0 c
  so_many_devices devices count c0 c many out =
      let whole = length_append (map (came_of disk.control) devices.disks.items) (came_of store.control devices.store ∷ came_of meta.control devices.meta ∷ []) in
      let disks = length_map (came_of disk.control) devices.disks.items in
      let long : length (map (came_of disk.control) devices.disks.items ++ came_of store.control devices.store ∷ came_of meta.control devices.meta ∷ []) ≡ count + 2 = omega (arith, whole, disks, many) in
      subst (λ (n : ℕ). HandedOut n c0 c) (sym long) out
