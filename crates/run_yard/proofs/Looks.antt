-- Reading registries changes nothing, and what was read says whether a run may begin.
use Rattle.std.proofs.Common.{◌≡◌, ◌≢◌, ◌⊎◌, inl, inr, ◌∙◌, sym, ap, subst, refl, ℕ, zero, suc, ◌+◌, ◌<◌, ◌≤◌, ◌==◌, Bool, true, false, if◌then◌else◌, List, [], ◌∷◌, ◌++◌, length, slice_get, Option, Some, None, IsTrue, nat_lt, get_or, arith, append_assoc, append-nil}
use Rattle.std.specs.Prelude.{Result, Ok, Err, IfErr, IsSome}
use Rattle.tier_base.specs.declared.object_key.ObjectKey.{ObjectKey}
use Rattle.std.proofs.lemmas.Bool.{lt-ltb}
use Rattle.std.proofs.lemmas.Option.{slice_get-get_or}
use Rattle.tier_base.specs.Counts.{counted, Rose}
use Rattle.tier_base.specs.Device.{Control as DeviceControl, Lasts, IsFreshDevice, Went, fate_of_trouble}
use Rattle.tier_base.specs.declared.fault.Trouble.{Trouble}
use Rattle.tier_base.specs.declared.fault.Trouble.TheVariants as trouble
use Rattle.tier_base.specs.declared.names.PartitionId.{PartitionId}
use Rattle.tier_base.specs.declared.plain.FileName.TheVariants.{Registry}
use Rattle.disk_model.specs.Call.{call_code}
use Rattle.disk_model.specs.Content as disk
use Rattle.object_store.specs.Content as store
use Rattle.meta_log.specs.Content as log
use Rattle.registry.specs.declared.view.RegView.{RegView}
use Rattle.registry_disk.specs.Keeping.{Finds}
use Rattle.registry_disk.specs.declared.refusal.FindRefusal.{FindRefusal}
use Rattle.registry_disk.specs.declared.refusal.FindRefusal.TheVariants as find
use Rattle.registry_file.specs.Reading.{view_in}
use Rattle.device_yard.specs.declared.came.Came.{Came}
use Rattle.device_yard.specs.declared.read_registry.ReadRegistry.{ReadRegistry}
use Rattle.device_yard.specs.Control.{Control, Hands, TakesRegistry, is_fault}
use Rattle.device_yard.specs.YardContent.{YardContent, IsThereWith, Both, Same, RegistryIs, IsOut, HoldsDisk, HandsDisk, HasTier, IsBare}
use Rattle.laws_partition.proofs.Lines.{cases_eq}
use Rattle.cold_start.specs.Opening.{says}
use Rattle.cold_start.specs.declared.refusal.ColdRefusal.{ColdRefusal}
use Rattle.cold_start.specs.declared.refusal.ColdRefusal.TheVariants as cold
use Rattle.script_lang.specs.Fit.{AreNumbered}
use Rattle.script_lang.specs.declared.script.PartScript.{PartScript}
use Rattle.run_yard.specs.Refusals.{of_cold, of_trouble}
use Rattle.run_yard.specs.Reading.{RestsOn, file_in, said, judged, ReadsLast, ReadsMore, OnlyReads, Suits, IsReady, IsSaidOf, IsRefusedSo}
use Rattle.run_yard.specs.Yard.{Uses}
use Rattle.run_yard.specs.declared.refusal.YardRefusal.{YardRefusal}
use Rattle.run_yard.specs.declared.refusal.YardRefusal.TheVariants as yard
use Rattle.run_yard.proofs.Back.{came_registry}
use Rattle.run_yard.proofs.Out.{one_more, raised, went_wrong}
use Rattle.run_yard.proofs.UsesOf.{uses_all}

-- a partition is another one or not
pub is_or_not : (q p : PartitionId) → (q ≡ p) ⊎ (q ≢ p)
is_or_not q p = elim (cases_eq q.0 p.0) [
  | inl same ↦ inl (ap (λ (n : ℕ). record { 0 = n }) same)
  | inr other ↦ inr (λ same. other (ap (λ (r : PartitionId). r.0) same))
]

-- registries that were read, and more
pub more_none : (c : Control) → ReadsMore c c
more_none c = record { more = []; is = sym (append-nil c.registries) }

pub more_same : (a b : Control) → b.registries ≡ a.registries → ReadsMore a b
more_same a b same = record { more = []; is = same ∙ sym (append-nil a.registries) }

pub more_then : (a b c : Control) → ReadsMore a b → ReadsMore b c → ReadsMore a c
more_then a b c f g = record {
  more = f.more ++ g.more;
  is = g.is ∙ (ap (λ (l : List ReadRegistry). l ++ g.more) f.is ∙ append_assoc a.registries f.more g.more);
}

pub last_more : (p : PartitionId) (bytes : List ℕ) (a b : Control) → ReadsLast p bytes a b → ReadsMore a b
last_more p bytes a b l = record {
  more = l.before ++ record { partition = p; last_read = bytes } ∷ [];
  is = l.is ∙ append_assoc a.registries l.before (record { partition = p; last_read = bytes } ∷ []);
}

pub last_then : (p : PartitionId) (bytes : List ℕ) (a b c : Control) → ReadsMore a b → ReadsLast p bytes b c → ReadsLast p bytes a c
last_then p bytes a b c f l = record {
  before = f.more ++ l.before;
  is = l.is ∙ ap (λ (k : List ReadRegistry). k ++ record { partition = p; last_read = bytes } ∷ [])
      (ap (λ (k : List ReadRegistry). k ++ l.before) f.is ∙ append_assoc a.registries f.more l.before);
}

pub last_one : (p : PartitionId) (bytes : List ℕ) (a b : Control) → b.registries ≡ a.registries ++ record { partition = p; last_read = bytes } ∷ [] → ReadsLast p bytes a b
last_one p bytes a b is = record {
  before = [];
  is = is ∙ ap (λ (k : List ReadRegistry). k ++ record { partition = p; last_read = bytes } ∷ []) (sym (append-nil a.registries));
}

-- the number of the part at a place
pub number_at : (n : ℕ) (parts : List PartScript) (i : ℕ) (part : PartScript) → AreNumbered n parts → slice_get parts i ≡ Some part → part.partition.0 ≡ n + i
number_at n [] i part numbered at = absurd (let no : ◌≡◌ {A = Option PartScript} None (Some part) = at in cc)
number_at n (first ∷ parts) zero part numbered at = let same : first ≡ part = cc (at) in let is = ap (λ (k : PartScript). k.partition.0) same in omega (arith, is, numbered.0)
number_at n (first ∷ parts) (suc i) part numbered at = let more = number_at (n + 1) parts i part numbered.1 at in omega (arith, more)

pub number_or : (parts : List PartScript) (i : ℕ) (d : PartScript) → AreNumbered 0 parts → i < length parts → (get_or parts i d).partition.0 ≡ i
number_or parts i d numbered within = let is = number_at 0 parts i (get_or parts i d) numbered (slice_get-get_or parts i d within) in omega (arith, is)

module _ {D : Type 0} (files : D → disk.Content) where
  pub rests_same : (a b : Option D) → b ≡ a → RestsOn files a b
  rests_same a b same = subst (λ (k : Option D). RestsOn files a k) (sym same) (whole a)
    where
      whole : (o : Option D) → RestsOn files o o
      whole None = tt
      whole (Some d) = record { is_observable = refl; files = λ n. refl; images = λ c at. at }

  pub rests_then : (a b c : Option D) → RestsOn files a b → RestsOn files b c → RestsOn files a c
  rests_then None None None f g = tt
  rests_then None None (Some e) f g = g
  rests_then None (Some d) None f g = absurd g
  rests_then None (Some d) (Some e) f g = record {
    is_observable = subst IsTrue (sym g.is_observable) f.is_observable;
    files = λ n. g.files n ∙ f.files n;
    images = λ c at n. f.images c (g.images c at) n;
  }
  rests_then (Some d) None c f g = absurd f
  rests_then (Some d) (Some e) None f g = absurd g
  rests_then (Some d) (Some e) (Some k) f g = record {
    is_observable = g.is_observable ∙ f.is_observable;
    files = λ n. g.files n ∙ f.files n;
    images = λ c at. f.images c (g.images c at);
  }

  pub keeps_rests : (a b : Option D) → Both (λ d e. disk.Keeps (files d) (files e)) a b → RestsOn files a b
  keeps_rests None None k = tt
  keeps_rests None (Some e) k = absurd k
  keeps_rests (Some d) None k = absurd k
  keeps_rests (Some d) (Some e) k = record { is_observable = k.is_observable; files = k.files; images = k.images }

  -- a disk that was provided, read, and is held again
  pub handed_read : (a b : Option D) (d e : D) → HandsDisk files a (files d) → disk.Keeps (files d) (files e) → HoldsDisk files e b → RestsOn files a b
  handed_read None None d e gives kept held = absurd held
  handed_read (Some y) None d e gives kept held = absurd held
  handed_read None (Some x) d e gives kept held = record {
    is_observable = subst IsTrue (sym (held.is_observable ∙ kept.is_observable)) gives.is_observable;
    files = λ n. held.files n ∙ (kept.files n ∙ gives.files n);
    images = λ c at n. gives.images c (kept.images c (held.images c at)) n;
  }
  handed_read (Some y) (Some x) d e gives kept held = record {
    is_observable = held.is_observable ∙ (kept.is_observable ∙ gives.is_observable);
    files = λ n. held.files n ∙ (kept.files n ∙ gives.files n);
    images = λ c at. gives.images c (kept.images c (held.images c at));
  }

  -- its registry's file is the same
  pub file_read : (a b : Option D) → RestsOn files a b → file_in files b ≡ file_in files a
  file_read None None r = refl
  file_read None (Some e) r = r.files Registry
  file_read (Some d) (Some e) r = r.files Registry
  file_read (Some d) None r = absurd r

  pub file_handed : (a : Option D) (d : D) → HandsDisk files a (files d) → (files d).files Registry ≡ file_in files a
  file_handed None d gives = gives.files Registry
  file_handed (Some e) d gives = gives.files Registry

module _ {D S M : Type 0} (files : D → disk.Content) (objects : S → store.Content) (notes : M → log.Content) where
  stores_same : (a b : Option S) → b ≡ a → Both (λ s t. store.Keeps (objects s) (objects t)) a b
  stores_same a b same = subst (λ (k : Option S). Both (λ s t. store.Keeps (objects s) (objects t)) a k) (sym same) (whole a)
    where
      whole : (o : Option S) → Both (λ s t. store.Keeps (objects s) (objects t)) o o
      whole None = tt
      whole (Some s) = record { is_observable = refl; objects = λ k. refl }

  logs_same : (a b : Option M) → b ≡ a → Both (λ m n. log.Keeps (notes m) (notes n)) a b
  logs_same a b same = subst (λ (k : Option M). Both (λ m n. log.Keeps (notes m) (notes n)) a k) (sym same) (whole a)
    where
      whole : (o : Option M) → Both (λ m n. log.Keeps (notes m) (notes n)) o o
      whole None = tt
      whole (Some m) = record { is_observable = refl; notes = refl; left = λ l at. at }

  stores_then : (a b c : Option S) → Both (λ s t. store.Keeps (objects s) (objects t)) a b → Both (λ s t. store.Keeps (objects s) (objects t)) b c → Both (λ s t. store.Keeps (objects s) (objects t)) a c
  stores_then None None None f g = tt
  stores_then None None (Some t) f g = absurd g
  stores_then None (Some s) c f g = absurd f
  stores_then (Some s) None c f g = absurd f
  stores_then (Some s) (Some t) None f g = absurd g
  stores_then (Some s) (Some t) (Some u) f g = record { is_observable = g.is_observable ∙ f.is_observable; objects = λ k. g.objects k ∙ f.objects k }

  logs_then : (a b c : Option M) → Both (λ m n. log.Keeps (notes m) (notes n)) a b → Both (λ m n. log.Keeps (notes m) (notes n)) b c → Both (λ m n. log.Keeps (notes m) (notes n)) a c
  logs_then None None None f g = tt
  logs_then None None (Some t) f g = absurd g
  logs_then None (Some s) c f g = absurd f
  logs_then (Some s) None c f g = absurd f
  logs_then (Some s) (Some t) None f g = absurd g
  logs_then (Some s) (Some t) (Some u) f g = record { is_observable = g.is_observable ∙ f.is_observable; notes = g.notes ∙ f.notes; left = λ l at. f.left l (g.left l at) }

  pub read_none : (h : YardContent D S M) → OnlyReads files objects notes h h
  read_none h = record {
    is_observable = refl;
    strays = refl;
    disks = λ p b. rests_same files (h.disks p b) (h.disks p b) refl;
    stores = λ p. stores_same (h.stores p) (h.stores p) refl;
    logs = λ p. logs_same (h.logs p) (h.logs p) refl;
    registries = λ p. rests_same files (h.registries p) (h.registries p) refl;
  }

  pub read_then : (a b c : YardContent D S M) → OnlyReads files objects notes a b → OnlyReads files objects notes b c → OnlyReads files objects notes a c
  read_then a b c f g = record {
    is_observable = g.is_observable ∙ f.is_observable;
    strays = g.strays ∙ f.strays;
    disks = λ p k. rests_then files (a.disks p k) (b.disks p k) (c.disks p k) (f.disks p k) (g.disks p k);
    stores = λ p. stores_then (a.stores p) (b.stores p) (c.stores p) (f.stores p) (g.stores p);
    logs = λ p. logs_then (a.logs p) (b.logs p) (c.logs p) (f.logs p) (g.logs p);
    registries = λ p. rests_then files (a.registries p) (b.registries p) (c.registries p) (f.registries p) (g.registries p);
  }

  pub same_read : (a b : YardContent D S M) → Same files objects notes a b → OnlyReads files objects notes a b
  same_read a b s = record {
    is_observable = s.is_observable;
    strays = s.strays;
    disks = λ p k. keeps_rests files (a.disks p k) (b.disks p k) (s.disks p k);
    stores = s.stores;
    logs = s.logs;
    registries = λ p. keeps_rests files (a.registries p) (b.registries p) (s.registries p);
  }

  -- a registry's disk was provided, read, and is back
  pub registry_read : (p : PartitionId) (h h1 h2 : YardContent D S M) (d e : D) → IsTrue h.is_observable → h1.is_observable ≡ h.is_observable → (IsTrue h.is_observable → RegistryIs p IsOut h h1)
      → h2.is_observable ≡ h1.is_observable → (IsTrue h1.is_observable → RegistryIs p (HoldsDisk files e) h1 h2) → (IsTrue h.is_observable → HandsDisk files (h.registries p) (files d))
      → disk.Keeps (files d) (files e) → OnlyReads files objects notes h h2
  registry_read p h h1 h2 d e t same out again back gives kept =
      let o = out t in
      let k = back (subst IsTrue (sym same) t) in
      record {
        is_observable = again ∙ same;
        strays = k.strays ∙ o.strays;
        disks = λ q b. rests_same files (h.disks q b) (h2.disks q b) (k.disks q b ∙ o.disks q b);
        stores = λ q. stores_same (h.stores q) (h2.stores q) (k.stores q ∙ o.stores q);
        logs = λ q. logs_same (h.logs q) (h2.logs q) (k.logs q ∙ o.logs q);
        registries = λ q. elim (is_or_not q p) [
          | inl here ↦ subst (λ (r : PartitionId). RestsOn files (h.registries r) (h2.registries r)) (sym here) (handed_read files (h.registries p) (h2.registries p) d e (gives t) kept k.there)
          | inr other ↦ rests_same files (h.registries q) (h2.registries q) (k.others q other ∙ o.others q other)
        ];
      }

  -- what a registry says is the same where it was read
  pub suits_read : (asked : ℕ) (p : PartitionId) (a b : YardContent D S M) → OnlyReads files objects notes a b → Suits files objects notes asked b p → Suits files objects notes asked a p
  suits_read asked p a b r s = ap (said asked) (sym (file_read files (a.registries p) (b.registries p) (r.registries p))) ∙ s

  pub suits_still : (asked : ℕ) (p : PartitionId) (a b : YardContent D S M) → OnlyReads files objects notes a b → Suits files objects notes asked a p → Suits files objects notes asked b p
  suits_still asked p a b r s = ap (said asked) (file_read files (a.registries p) (b.registries p) (r.registries p)) ∙ s

  tier_store : (s t : Option S) → Both (λ x y. store.Keeps (objects x) (objects y)) s t → IsThereWith (λ x. (k : ObjectKey) × IsSome ((objects x).objects k)) t → IsThereWith (λ x. (k : ObjectKey) × IsSome ((objects x).objects k)) s
  tier_store None None both has = has
  tier_store None (Some t) both has = absurd both
  tier_store (Some s) None both has = absurd both
  tier_store (Some s) (Some t) both has = (has.0, subst (λ (o : Option (List ℕ)). IsSome o) (both.objects has.0) has.1)

  tier_log : (s t : Option M) → Both (λ x y. log.Keeps (notes x) (notes y)) s t → IsThereWith (λ x. (notes x).notes ≢ []) t → IsThereWith (λ x. (notes x).notes ≢ []) s
  tier_log None None both has = has
  tier_log None (Some t) both has = absurd both
  tier_log (Some s) None both has = absurd both
  tier_log (Some s) (Some t) both has = λ none. has (both.notes ∙ none)

  has_still : (s t : Option D) → RestsOn files s t → IsThereWith (λ d. IsSome ((files d).files Registry)) s → IsThereWith (λ d. IsSome ((files d).files Registry)) t
  has_still None t rests has = absurd has
  has_still (Some d) None rests has = absurd rests
  has_still (Some d) (Some e) rests has = subst (λ (o : Option (List ℕ)). IsSome o) (sym (rests.files Registry)) has

  -- a partition that may be run may be run where it was read
  pub ready_read : (asked : ℕ) (p : PartitionId) (a b : YardContent D S M) → OnlyReads files objects notes a b → Suits files objects notes asked a p → (IsBare files objects notes a p → ⊥) → IsReady files objects notes asked b p
  ready_read asked p a b r suits bare = record {
    suits = suits_still asked p a b r suits;
    bare = λ k. bare (was k.0, λ has. k.1 (has_still (a.registries p) (b.registries p) (r.registries p) has));
  }
    where
      was : HasTier files objects notes b p → HasTier files objects notes a p
      was (inl there) = inl (tier_store (a.stores p) (b.stores p) (r.stores p) there)
      was (inr told) = inr (tier_log (a.logs p) (b.logs p) (r.logs p) told)

  -- a look at the partition's registry: these bytes were returned, of a disk with this content
  pub record Looks (p : PartitionId) (asked : ℕ) (h h' : YardContent D S M) (c c' : Control) (d : D) (last_read : List ℕ) : Type 0 where
    pub read : ReadsLast p last_read c c'
    pub there : IsTrue h.is_observable → (files d).files Registry ≡ file_in files (h.registries p)
    pub told : IsTrue h.is_observable → IsTrue (files d).is_observable
    pub first : IsTrue h.is_observable → (q : PartitionId) → q.0 < p.0 → Suits files objects notes asked h q
    pub unchanged : IsTrue h.is_observable → OnlyReads files objects notes h h'

  said_of : (p : PartitionId) (asked : ℕ) (h h' : YardContent D S M) (c c' : Control) (d : D) (last_read : List ℕ) (why : ColdRefusal) → Looks p asked h h' c c' d last_read → says asked (view_in last_read) ≡ Some why
      → (IsTrue (files d).is_observable → (files d).files Registry ≡ Some last_read) → IsSaidOf files objects notes p asked why h h' c c'
  said_of p asked h h' c c' d last_read why l is file = record {
    bytes = last_read;
    read = l.read;
    says = is;
    file = λ t. sym (l.there t) ∙ file (l.told t);
    first = l.first;
    unchanged = l.unchanged;
  }

  other_count : (asked : ℕ) (view : RegView) (why : ColdRefusal) (b : Bool) → (view.brokers == asked) ≡ b → judged asked (Ok (Some view)) ≡ Err why
      → (why ≡ cold.Brokers view.brokers asked) × (says asked (Ok view) ≡ Some (cold.Brokers view.brokers asked))
  other_count asked view why true e is = absurd (let no : ◌≡◌ {A = Result (Unit {0}) ColdRefusal} (Ok tt) (Err why) = sym (rw e refl) ∙ is in cc)
  other_count asked view why false e is = (
    (let same : ◌≡◌ {A = Result (Unit {0}) ColdRefusal} (Err (cold.Brokers view.brokers asked)) (Err why) = sym (rw e refl) ∙ is in cc),
    rw e refl,
  )

  -- what was found refuses the run
  pub refused_so : (p : PartitionId) (asked : ℕ) (h h' : YardContent D S M) (c c' : Control) (d : D) (k k' : DeviceControl call_code) (found : Result (Option RegView) FindRefusal) (why : ColdRefusal) → judged asked found ≡ Err why
      → Finds (files d) k k' found → Looks p asked h h' c c' d k'.last_read → (Rose k.faults k'.faults → Rose c.faults c'.faults) → IsRefusedSo files objects notes asked h h' c c' (of_cold p why)
  refused_so p asked h h' c c' d k k' (Ok None) why is finds l rose = absurd (let no : ◌≡◌ {A = Result (Unit {0}) ColdRefusal} (Ok tt) (Err why) = is in cc)
  refused_so p asked h h' c c' d k k' (Ok (Some view)) why is finds l rose =
      let o = other_count asked view why (view.brokers == asked) refl is in
      subst (λ (w : ColdRefusal). IsRefusedSo files objects notes asked h h' c c' (of_cold p w)) (sym o.0)
      (refl, said_of p asked h h' c c' d k'.last_read (cold.Brokers view.brokers asked) l (ap (says asked) finds.1 ∙ o.1) finds.2)
  refused_so p asked h h' c c' d k k' (Err find.Fault) why is finds l rose =
      let same : why ≡ cold.RegistryFault = cc (is) in
      subst (λ (w : ColdRefusal). IsRefusedSo files objects notes asked h h' c c' (of_cold p w)) (sym same) (rose finds)
  refused_so p asked h h' c c' d k k' (Err (find.Bad at)) why is finds l rose =
      let same : why ≡ cold.BadRegistry at = cc (is) in
      subst (λ (w : ColdRefusal). IsRefusedSo files objects notes asked h h' c c' (of_cold p w)) (sym same)
      (said_of p asked h h' c c' d k'.last_read (cold.BadRegistry at) l (ap (says asked) finds.0) finds.1)
  refused_so p asked h h' c c' d k k' (Err find.NoMemory) why is finds l rose =
      let same : why ≡ cold.NoMemory = cc (is) in
      subst (λ (w : ColdRefusal). IsRefusedSo files objects notes asked h h' c c' (of_cold p w)) (sym same) tt

  -- a refusal after others were passed
  pub refused_then : (asked : ℕ) (h h1 h2 : YardContent D S M) (c c1 c2 : Control) (why : YardRefusal) → h1.is_observable ≡ h.is_observable → (IsTrue h.is_observable → OnlyReads files objects notes h h1) → ReadsMore c c1 → counted c.faults 0 ≤ c1.faults
      → IsRefusedSo files objects notes asked h1 h2 c1 c2 why → IsRefusedSo files objects notes asked h h2 c c2 why
  refused_then asked h h1 h2 c c1 c2 yard.Fault same read more falls is = omega (arith, falls, is)
  refused_then asked h h1 h2 c c1 c2 (yard.Mismatch p kept wanted) same read more falls is = (is.0, said_then p asked (cold.Brokers kept wanted) h h1 h2 c c1 c2 same read more is.1)
    where
      said_then : (p : PartitionId) (asked : ℕ) (w : ColdRefusal) (h h1 h2 : YardContent D S M) (c c1 c2 : Control) → h1.is_observable ≡ h.is_observable → (IsTrue h.is_observable → OnlyReads files objects notes h h1) → ReadsMore c c1
          → IsSaidOf files objects notes p asked w h1 h2 c1 c2 → IsSaidOf files objects notes p asked w h h2 c c2
      said_then p asked w h h1 h2 c c1 c2 same read more s = record {
        bytes = s.bytes;
        read = last_then p s.bytes c c1 c2 more s.read;
        says = s.says;
        file = λ t. sym (file_read files (h.registries p) (h1.registries p) ((read t).registries p)) ∙ s.file (subst IsTrue (sym same) t);
        first = λ t q below. suits_read asked q h h1 (read t) (s.first (subst IsTrue (sym same) t) q below);
        unchanged = λ t. read_then h h1 h2 (read t) (s.unchanged (subst IsTrue (sym same) t));
      }
  refused_then asked h h1 h2 c c1 c2 (yard.BadRegistry p at) same read more falls s = record {
    bytes = s.bytes;
    read = last_then p s.bytes c c1 c2 more s.read;
    says = s.says;
    file = λ t. sym (file_read files (h.registries p) (h1.registries p) ((read t).registries p)) ∙ s.file (subst IsTrue (sym same) t);
    first = λ t q below. suits_read asked q h h1 (read t) (s.first (subst IsTrue (sym same) t) q below);
    unchanged = λ t. read_then h h1 h2 (read t) (s.unchanged (subst IsTrue (sym same) t));
  }
  refused_then asked h h1 h2 c c1 c2 yard.NoMemory same read more falls is = tt

-- a call of the environment for a registry's disk went wrong
pub wrong_uses : (t : Trouble) (c c' : Control) → Hands (fate_of_trouble t) c c' → Uses [] c c'
wrong_uses t c c' h = record {
  never_falls = (went_wrong (fate_of_trouble t) c c' (no t) h).0;
  named = h.named;
  returned = h.returned ∙ sym (append-nil c.returned);
  out = (went_wrong (fate_of_trouble t) c c' (no t) h).1;
}
  where
    no : (t : Trouble) → fate_of_trouble t ≡ Went → ⊥
    no trouble.Failed is = cc
    no trouble.NoMemory is = cc

pub wrong_so : {D S M : Type 0} (files : D → disk.Content) (objects : S → store.Content) (notes : M → log.Content) (asked : ℕ) (h h' : YardContent D S M) (t : Trouble) (c c' : Control) → Hands (fate_of_trouble t) c c'
    → IsRefusedSo files objects notes asked h h' c c' (of_trouble t)
wrong_so files objects notes asked h h' trouble.Failed c c' hands = raised c c' hands
wrong_so files objects notes asked h h' trouble.NoMemory c c' hands = tt

-- a registry's disk went out and is back
pub one_used : (one : Came) (r : ReadRegistry) (a b c : Control) → Hands Went a b → TakesRegistry one r b c → Uses (one ∷ []) a c
one_used one r a b c out back =
    uses_all 1 (one ∷ []) a b c refl (one_more 0 a a b (record { faults = refl; named = refl; returned = refl; out = omega arith }) out) (came_registry one r b c back)

-- one of whose calls failed raises the environment's count
pub one_risen : (k k' : DeviceControl call_code) (r : ReadRegistry) (a b c : Control) → IsFreshDevice k → Lasts k k' → Hands Went a b → TakesRegistry (record { faults = k'.faults; armed = k'.armed }) r b c
    → Rose k.faults k'.faults → Rose a.faults c.faults
one_risen k k' r a b c fresh lasts out back rose =
    let unarmed : k'.armed ≡ false = lasts.armed ∙ fresh.armed in
    let none = fresh.faults in
    let some : nat_lt 0 k'.faults ≡ true = lt-ltb 0 k'.faults (omega (arith, none, rose)) in
    let is : is_fault (record { faults = k'.faults; armed = k'.armed }) ≡ true = rw unarmed some in
    let risen : c.faults ≡ counted b.faults 1 = subst (λ (t : Bool). c.faults ≡ (if t then counted b.faults 1 else b.faults)) is back.faults in
    let begun = out.faults.went refl in
    omega (arith, risen, begun)

-- what is said of a refusal
pub if_err_map : {T E : Type 0} (r : Result T E) (P Q : E → Type 0) → ((e : E) → P e → Q e) → IfErr r P → IfErr r Q
if_err_map (Ok x) P Q map h = tt
if_err_map (Err e) P Q map h = map e h
