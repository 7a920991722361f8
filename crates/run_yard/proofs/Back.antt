-- What an environment holds and counts as devices come back one after another.
use Rattle.std.proofs.Common.{◌≡◌, inl, inr, ◌∙◌, sym, ap, subst, refl, ℕ, zero, suc, ◌+◌, ◌≤◌, List, [], ◌∷◌, ◌++◌, map, length, slice_get, Option, Some, None, IsTrue, if◌then◌else◌, arith, append_assoc, append-nil}
use Rattle.std.specs.Prelude.{◌⊎◌}
use Rattle.std.proofs.lemmas.Option.{slice_get_within}
use Rattle.tier_base.specs.Counts.{counted}
use Rattle.tier_base.specs.declared.names.BrokerId.{BrokerId}
use Rattle.tier_base.specs.declared.names.PartitionId.{PartitionId}
use Rattle.device_yard.specs.declared.came.Came.{Came}
use Rattle.disk_model.specs.Content as disk
use Rattle.device_yard.specs.declared.read_registry.ReadRegistry.{ReadRegistry}
use Rattle.device_yard.specs.Control.{Control, TakesBack, TakesRegistry, is_fault}
use Rattle.device_yard.specs.YardContent.{YardContent, DiskIs, StoreIs, LogIs, RegistryIs, HoldsDisk}
use Rattle.partition_world.specs.declared.tier.Devices.{Devices}
use Rattle.run_yard.specs.Yard.{CameBack, faults_with, SameOf, OnlyOf, KeepsDisks, KeepsDevices, KeepsAll}

-- faults after one device more
faults_snoc : (came : List Came) (one : Came) (n : ℕ) → faults_with (came ++ one ∷ []) n ≡ (if is_fault one then counted (faults_with came n) 1 else faults_with came n)
faults_snoc [] one n = refl
faults_snoc (c ∷ came) one n = faults_snoc came one (if is_fault c then counted n 1 else n)

pub length_snoc : {A : Type 0} (xs : List A) (x : A) → length (xs ++ x ∷ []) ≡ suc (length xs)
length_snoc [] x = refl
length_snoc (y ∷ xs) x = ap suc (length_snoc xs x)

pub faults_append : (x y : List Came) (n : ℕ) → faults_with (x ++ y) n ≡ faults_with y (faults_with x n)
faults_append [] y n = refl
faults_append (c ∷ x) y n = faults_append x y (if is_fault c then counted n 1 else n)

pub came_none : (c : Control) → CameBack [] c c
came_none c = record { faults = refl; named = refl; returned = sym (append-nil c.returned); out = omega arith }

pub came_more : (came : List Came) (one : Came) (a b c : Control) → CameBack came a b → TakesBack one b c → CameBack (came ++ one ∷ []) a c
came_more came one a b c so t = record {
  faults = t.faults ∙ (ap (λ (n : ℕ). if is_fault one then counted n 1 else n) so.faults ∙ sym (faults_snoc came one a.faults));
  named = t.named ∙ so.named;
  returned = t.returned ∙ (ap (λ (l : List Came). l ++ one ∷ []) so.returned ∙ append_assoc a.returned came (one ∷ []));
  out = (let long = length_snoc came one in let was = so.out in let now = t.out in omega (arith, long, was, now));
}

-- what is at a place of a list with one item more
pub get_snoc : {A : Type 0} (xs : List A) (x : A) (i : ℕ) (y : A) → slice_get (xs ++ x ∷ []) i ≡ Some y → (slice_get xs i ≡ Some y) ⊎ ((i ≡ length xs) × (y ≡ x))
get_snoc [] x zero y is = inr (refl, cc)
get_snoc [] x (suc i) y is = absurd (let no : ◌≡◌ {A = Option _} None (Some y) = is in cc)
get_snoc (z ∷ xs) x zero y is = inl is
get_snoc (z ∷ xs) x (suc i) y is = elim (get_snoc xs x i y is) [ inl old ↦ inl old | inr new ↦ inr (ap suc new.0, new.1) ]

-- a place where something is lies within
get_within : {A : Type 0} (xs : List A) (i : ℕ) (y : A) → slice_get xs i ≡ Some y → i ≡ length xs → ⊥
get_within xs i y is at = let within = slice_get_within xs i y is in omega (arith, within, at)

-- brokers with one number are one
pub one_broker : (a b : BrokerId) → a.0 ≡ b.0 → a ≡ b
one_broker a b same = ap (λ (n : ℕ). record { 0 = n }) same

pub map_snoc : {A B : Type 0} (f : A → B) (xs : List A) (x : A) → map f (xs ++ x ∷ []) ≡ map f xs ++ f x ∷ []
map_snoc f [] x = refl
map_snoc f (y ∷ xs) x = ap (λ (l : List _). f y ∷ l) (map_snoc f xs x)

pub length_map : {A B : Type 0} (f : A → B) (xs : List A) → length (map f xs) ≡ length xs
length_map f [] = refl
length_map f (x ∷ xs) = ap suc (length_map f xs)

pub length_append : {A : Type 0} (xs ys : List A) → length (xs ++ ys) ≡ length xs + length ys
length_append [] ys = omega arith
length_append (x ∷ xs) ys = let more = length_append xs ys in omega (arith, more)

-- what is done is at most all
pub places_left : {A : Type 0} (done left all : List A) → done ++ left ≡ all → length done ≤ length all
places_left done left all over = let whole = ap (λ (l : List _). length l) over in let parts = length_append done left in omega (arith, whole, parts)

-- where nothing is left all is done
pub nothing_left : {A : Type 0} (done left all : List A) → done ++ left ≡ all → length left ≡ 0 → done ≡ all
nothing_left done [] all is short = sym (append-nil done) ∙ is
nothing_left done (x ∷ left) all is short = absurd (omega (arith, short))

pub control_all : {A : Type 0} (f : A → Came) (done all : List A) (a b : Control) → done ≡ all → CameBack (map f done) a b → CameBack (map f all) a b
control_all f done all a b same so = subst (λ (l : List _). CameBack (map f l) a b) same so

-- one of so many that were out is still out, where it is left
pub left_of : {A : Type 0} (f : A → Came) (done left all : List A) (x : A) (rest : List A) (old new : Control) → done ++ left ≡ all → left ≡ x ∷ rest → CameBack (map f done) old new → length all ≤ old.out
    → 1 ≤ new.out
left_of f done left all x rest old new over first so many =
    let whole = ap (λ (l : List _). length l) over in
    let parts = length_append done left in
    let some = ap (λ (l : List _). length l) first in
    let back = length_map f done in
    let out = so.out in
    omega (arith, whole, parts, some, back, out, many)

-- one device more comes back
pub control_more : {A : Type 0} (f : A → Came) (done : List A) (d : A) (a b c : Control) → CameBack (map f done) a b → TakesBack (f d) b c → CameBack (map f (done ++ d ∷ [])) a c
control_more f done d a b c so t = subst (λ (l : List Came). CameBack l a c) (sym (map_snoc f done d)) (came_more (map f done) (f d) a b c so t)

module _ {D S M : Type 0} where
  pub same_of : (p : PartitionId) (h : YardContent D S M) → SameOf p h h
  same_of p h = record { disks = λ b. refl; store = refl; log = refl; registry = refl }

  pub same_then : (p : PartitionId) (a b c : YardContent D S M) → SameOf p a b → SameOf p b c → SameOf p a c
  same_then p a b c f g = record { disks = λ k. g.disks k ∙ f.disks k; store = g.store ∙ f.store; log = g.log ∙ f.log; registry = g.registry ∙ f.registry }

  pub only_none : (p : PartitionId) (h : YardContent D S M) → OnlyOf p h h
  only_none p h = record { is_observable = refl; others = λ t q other. same_of q h }

  pub only_then : (p : PartitionId) (a b c : YardContent D S M) → OnlyOf p a b → OnlyOf p b c → OnlyOf p a c
  only_then p a b c f g = record {
    is_observable = g.is_observable ∙ f.is_observable;
    others = λ t q other. same_then q a b c (f.others t q other) (g.others (subst IsTrue (sym f.is_observable) t) q other);
  }

  -- a disk's change is one of its partition alone
  pub disk_only : (p : PartitionId) (k : BrokerId) (now : Option D) (a b : YardContent D S M) → b.is_observable ≡ a.is_observable → (IsTrue a.is_observable → DiskIs p k now a b) → OnlyOf p a b
  disk_only p k now a b is_observable is = record {
    is_observable = is_observable;
    others = λ t q other. record { disks = λ j. (is t).others q j (inl other); store = (is t).stores q; log = (is t).logs q; registry = (is t).registries q };
  }

  pub store_only : (p : PartitionId) (now : Option S) (a b : YardContent D S M) → b.is_observable ≡ a.is_observable → (IsTrue a.is_observable → StoreIs p now a b) → OnlyOf p a b
  store_only p now a b is_observable is = record {
    is_observable = is_observable;
    others = λ t q other. record { disks = λ j. (is t).disks q j; store = (is t).others q other; log = (is t).logs q; registry = (is t).registries q };
  }

  pub log_only : (p : PartitionId) (now : Option M) (a b : YardContent D S M) → b.is_observable ≡ a.is_observable → (IsTrue a.is_observable → LogIs p now a b) → OnlyOf p a b
  log_only p now a b is_observable is = record {
    is_observable = is_observable;
    others = λ t q other. record { disks = λ j. (is t).disks q j; store = (is t).stores q; log = (is t).others q other; registry = (is t).registries q };
  }

  -- the disks of no broker
  pub keeps_none : (p : PartitionId) (h : YardContent D S M) → KeepsDisks p [] h h
  keeps_none p h = record {
    only = only_none p h;
    here = λ t b disk is. absurd (none-some is);
    past = λ t b above. refl;
    rest = λ t. record { store = refl; log = refl; registry = refl };
  }
    where
      none-some : {d : D} → ◌≡◌ {A = Option D} None (Some d) → ⊥
      none-some is = cc

  -- of one broker more
  pub keeps_more : (p : PartitionId) (done : List D) (d : D) (k : BrokerId) (a b c : YardContent D S M) → k.0 ≡ length done → KeepsDisks p done a b → c.is_observable ≡ b.is_observable → (IsTrue b.is_observable → DiskIs p k (Some d) b c)
      → KeepsDisks p (done ++ d ∷ []) a c
  keeps_more p done d k a b c at so is_observable is = record {
    only = only_then p a b c so.only (disk_only p k (Some d) b c is_observable is);
    here = λ t j disk there.
        let t' : IsTrue b.is_observable = subst IsTrue (sym so.only.is_observable) t in
        elim (get_snoc done d j.0 disk there) [
          | inl old ↦ (is t').others p j (inr (λ same. absurd (get_within done j.0 disk old (ap (λ (x : BrokerId). x.0) same ∙ at)))) ∙ so.here t j disk old
          | inr new ↦ ap (λ (x : BrokerId). c.disks p x) (one_broker j k (new.0 ∙ sym at)) ∙ ((is t').there ∙ ap Some (sym new.1))
        ];
    past = λ t j above.
        let t' : IsTrue b.is_observable = subst IsTrue (sym so.only.is_observable) t in
        let far = length_snoc done d in
        (is t').others p j (inr (λ same. absurd (let no = ap (λ (x : BrokerId). x.0) same in omega (arith, above, far, at, no)))) ∙ so.past t j (omega (arith, above, far));
    rest = λ t.
        let t' : IsTrue b.is_observable = subst IsTrue (sym so.only.is_observable) t in
        let was = so.rest t in
        record { store = (is t').stores p ∙ was.store; log = (is t').logs p ∙ was.log; registry = (is t').registries p ∙ was.registry };
  }

  pub keeps_all : (p : PartitionId) (done all : List D) (a b : YardContent D S M) → done ≡ all → KeepsDisks p done a b → KeepsDisks p all a b
  keeps_all p done all a b same so = subst (λ (l : List D). KeepsDisks p l a b) same so

-- devices that come back one batch after another
pub came_then : (x y : List Came) (a b c : Control) → CameBack x a b → CameBack y b c → CameBack (x ++ y) a c
came_then x y a b c f g = record {
  faults = g.faults ∙ (ap (faults_with y) f.faults ∙ sym (faults_append x y a.faults));
  named = g.named ∙ f.named;
  returned = g.returned ∙ (ap (λ (l : List Came). l ++ y) f.returned ∙ append_assoc a.returned x y);
  out = (let long = length_append x y in let first = f.out in let second = g.out in omega (arith, long, first, second));
}

pub came_one : (one : Came) (a b : Control) → TakesBack one a b → CameBack (one ∷ []) a b
came_one one a b t = record { faults = t.faults; named = t.named; returned = t.returned; out = t.out }

module _ {D S M : Type 0} where
  -- a partition's devices, the store after its disks and the metadata log after the store
  pub keeps_devices : (p : PartitionId) (disks : List D) (s : S) (m : M) (devices : Devices D S M) (a b c d : YardContent D S M) → devices.disks.items ≡ disks → devices.store ≡ s → devices.meta ≡ m
      → KeepsDisks p disks a b → c.is_observable ≡ b.is_observable → (IsTrue b.is_observable → StoreIs p (Some s) b c) → d.is_observable ≡ c.is_observable → (IsTrue c.is_observable → LogIs p (Some m) c d) → KeepsDevices p devices a d
  keeps_devices p disks s m devices a b c d items its log keeps stored store recorded logs = record {
    only = only_then p a c d (only_then p a b c keeps.only (store_only p (Some s) b c stored store)) (log_only p (Some m) c d recorded logs);
    here = λ t.
        let t' : IsTrue b.is_observable = subst IsTrue (sym keeps.only.is_observable) t in
        let t'' : IsTrue c.is_observable = subst IsTrue (sym stored) t' in
        record {
          disks = λ k disk at. (logs t'').disks p k ∙ ((store t').disks p k ∙ keeps.here t k disk (subst (λ (l : List D). slice_get l k.0 ≡ Some disk) items at));
          store = (logs t'').stores p ∙ ((store t').there ∙ ap Some (sym its));
          log = (logs t'').there ∙ ap Some (sym log);
        };
    past = λ t j above.
        let t' : IsTrue b.is_observable = subst IsTrue (sym keeps.only.is_observable) t in
        let t'' : IsTrue c.is_observable = subst IsTrue (sym stored) t' in
        (logs t'').disks p j ∙ ((store t').disks p j ∙ keeps.past t j (subst (λ (l : List D). length l ≤ j.0) items above));
    registry = λ t.
        let t' : IsTrue b.is_observable = subst IsTrue (sym keeps.only.is_observable) t in
        let t'' : IsTrue c.is_observable = subst IsTrue (sym stored) t' in
        (logs t'').registries p ∙ ((store t').registries p ∙ (keeps.rest t).registry);
  }

-- a registry's disk is a device that comes back
pub came_registry : (one : Came) (r : ReadRegistry) (a b : Control) → TakesRegistry one r a b → CameBack (one ∷ []) a b
came_registry one r a b t = record { faults = t.faults; named = t.named; returned = t.returned; out = t.out }

module _ {D S M : Type 0} where
  -- its change is one of its partition alone
  pub registry_only : (p : PartitionId) (P : Option D → Type 0) (a b : YardContent D S M) → b.is_observable ≡ a.is_observable → (IsTrue a.is_observable → RegistryIs p P a b) → OnlyOf p a b
  registry_only p P a b is_observable is = record {
    is_observable = is_observable;
    others = λ t q other. record { disks = λ j. (is t).disks q j; store = (is t).stores q; log = (is t).logs q; registry = (is t).others q other };
  }

  -- a partition's devices, the disk of its registry last
  pub keeps_with_registry : (files : D → disk.Content) (p : PartitionId) (devices : Devices D S M) (reg : D) (a b c : YardContent D S M) → KeepsDevices p devices a b → c.is_observable ≡ b.is_observable
      → (IsTrue b.is_observable → RegistryIs p (HoldsDisk files reg) b c) → KeepsAll files p devices reg a c
  keeps_with_registry files p devices reg a b c keeps is_observable is = record {
    only = only_then p a b c keeps.only (registry_only p (HoldsDisk files reg) b c is_observable is);
    here = λ t.
        let t' : IsTrue b.is_observable = subst IsTrue (sym keeps.only.is_observable) t in
        record {
          others = record {
            disks = λ k d at. (is t').disks p k ∙ (keeps.here t).disks k d at;
            store = (is t').stores p ∙ (keeps.here t).store;
            log = (is t').logs p ∙ (keeps.here t).log;
          };
          file = (is t').there;
        };
  }
