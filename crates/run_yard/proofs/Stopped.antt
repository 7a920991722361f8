-- What a refused run leaves: of a partition's devices, and of what an environment holds.
use Rattle.std.proofs.Common.{◌≡◌, ◌≢◌, ◌⊎◌, inl, inr, ◌∙◌, sym, ap, subst, refl, ℕ, zero, suc, ◌≤◌, List, [], ◌∷◌, ◌++◌, length, slice_get, Option, Some, None, IsTrue, arith}
use Rattle.std.specs.Prelude.{Result, Ok, Err, IfErr, OnErr, false}
use Rattle.tier_base.specs.declared.names.BrokerId.{BrokerId}
use Rattle.tier_base.specs.declared.names.PartitionId.{PartitionId}
use Rattle.disk_model.specs.Content as files
use Rattle.disk_model.specs.declared.disk.Disk.{Ghosts as DiskGhosts}
use Rattle.object_store.specs.Content as stored
use Rattle.object_store.specs.declared.store.Store.{Ghosts as StoreGhosts}
use Rattle.meta_log.specs.Content as recorded
use Rattle.meta_log.specs.declared.log.MetaLog.{Ghosts as MetaGhosts}
use Rattle.plain_log.specs.declared.command.ActorList.{ActorList}
use Rattle.plain_log.specs.declared.command.Config.{Config}
use Rattle.plain_log.specs.declared.state.State.{State}
use Rattle.plain_log.specs.Fresh.{fresh}
use Rattle.plain_log.specs.Laws.{FreshIsSafe}
use Rattle.plain_log.specs.Runs.{replay}
use Rattle.device_yard.specs.Control.{Control}
use Rattle.device_yard.specs.YardContent.{YardContent, Both, Same, StoreIs, HandsDisk, HandsStore, HandsLog}
use Rattle.partition_commands.specs.Fresh.{AreDisksOf, DisksTell}
use Rattle.partition_commands.specs.Cold.{DisksReopen}
use Rattle.partition_world.specs.Fresh.{IsNewWorld}
use Rattle.partition_world.specs.Later.{IsLater}
use Rattle.partition_world.specs.Left.{IsCentralLeft}
use Rattle.partition_world.specs.Whole.{Whole}
use Rattle.partition_world.specs.declared.tier.Devices.{Devices}
use Rattle.script_lang.specs.declared.script.PartScript.{PartScript}
use Rattle.cold_state.specs.Cold.{cold_of}
use Rattle.cold_start.specs.ColdWorld.{IsCutDisk, IsCutStore, IsCutLog, ClosedAreLeft, plain_in}
use Rattle.cold_start.specs.Moments.{RunsThrough}
use Rattle.cold_start.specs.Opening.{IsPartitionOpened}
use Rattle.cold_start.specs.Running.{Running}
use Rattle.cold_start.specs.Stands.{StandsFor, IsBlank, MayBeLeft}
use Rattle.cold_start.specs.Stepping.{HaltsSteps}
use Rattle.cold_start.specs.declared.refusal.ColdRefusal.{ColdRefusal}
use Rattle.cold_start.proofs.Leaving.{uncut, all_uncut}
use Rattle.run_yard.specs.Handed.{HandsDisks, AreHanded, AreAllHanded}
use Rattle.run_yard.specs.Reading.{OnlyReads, IsReady, ReadsMore}
use Rattle.run_yard.specs.Runs.{RunsIn}
use Rattle.run_yard.specs.Stopped.{DiskRests, StoreRests, LogRests, RestsIn, AllTiersRest, IsLedFrom, IsRunStopped, IsStoppedIn, AreStopped, IsStoppedSo}
use Rattle.run_yard.specs.Yard.{SameOf, OnlyOf, KeepsRest, KeepsFrom, KeepsDisks, KeepsDevices, KeepsAll}
use Rattle.run_yard.proofs.Back.{only_then, store_only}
use Rattle.run_yard.proofs.Ended.{opened_there}
use Rattle.run_yard.proofs.Looks.{is_or_not}
use Rattle.run_yard.proofs.Ran.{SoFar, goes_behind, opens_fresh}

-- what is said of a refusal
pub on_err : {T E : Type 0} (r : Result T E) (e : E) (A : Type 0) → r ≡ Err e → OnErr r A → A
on_err r e A is h = subst (λ (k : Result _ _). OnErr k A) is h

pub on_err_map : {T E : Type 0} (r : Result T E) (A B : Type 0) → (A → B) → OnErr r A → OnErr r B
on_err_map (Ok x) A B map h = tt
on_err_map (Err e) A B map h = map h

-- nothing is at a place after the last
none_past : {A : Type 0} (xs : List A) (i : ℕ) → slice_get xs i ≡ None → length xs ≤ i
none_past [] i at = omega arith
none_past (x ∷ xs) zero at = absurd (let no : ◌≡◌ {A = Option _} (Some x) None = at in cc)
none_past (x ∷ xs) (suc i) at = let more = none_past xs i at in omega (arith, more)

module _ {D S M : Type 0} (disk : DiskGhosts D) (store : StoreGhosts S) (meta : MetaGhosts M) where
  -- devices that represent what is left of the plain state that a world's journal has come to
  led : (config : Config) (part : PartScript) (w : Whole D S M) (back : Devices D S M) (kept : D) (q : PartitionId) (p : State) (c : IsCentralLeft disk store meta p w) → w.lists ≡ part.lists → q ≡ part.partition
      → StandsFor disk store meta q back.disks.items back.store back.meta kept (cold_of (plain_in disk store meta p w c)) → IsLedFrom disk store meta part.partition part.lists back kept p
  led config part w back kept q p c lists there stands =
      let last = plain_in disk store meta p w c in
      record {
        journal = w.journal.items;
        last = last;
        replays = subst (λ (k : List ActorList). replay k p w.journal.items ≡ Some last) lists (c (meta.content w.tier.meta).notes (inl refl)).central.replays;
        safe = (c (meta.content w.tier.meta).notes (inl refl)).central.safe;
        stand = subst (λ (k : PartitionId). StandsFor disk store meta k back.disks.items back.store back.meta kept (cold_of last)) there stands;
      }

  -- what a closed partition gives back is left of it
  left_all : ClosedAreLeft disk → (w : Whole D S M) (reg : D) (back : Devices D S M) (kept : D) → AreDisksOf w.partition_state.nodes back.disks.items → DisksReopen disk.content w.partition_state.nodes back.disks.items
      → back.store ≡ w.tier.store → back.meta ≡ w.tier.meta → kept ≡ reg → MayBeLeft disk store meta w reg back.disks.items back.store back.meta kept
  left_all law w reg back kept are again stores notes same = record {
    logs = law w.partition_state.nodes back.disks.items back.disks.items are again (all_uncut disk.content back.disks.items);
    objects = subst (λ (k : S). IsCutStore (store.content w.tier.store) (store.content k)) (sym stores) (record { is_observable = λ yes. yes; objects = refl });
    notes = subst (λ (k : M). IsCutLog (meta.content w.tier.meta) (meta.content k)) (sym notes) (record { is_observable = λ yes. yes; left = λ l at. at });
    file = subst (λ (k : D). IsCutDisk (disk.content reg) (disk.content k)) (sym same) (uncut (disk.content reg));
  }

  -- steps that didn't come to their end left what represents what is left of a state to which they led
  halted : ClosedAreLeft disk → (config : Config) (part : PartScript) (back : Devices D S M) (kept : D) (t t' : Running D S M) (why : ColdRefusal) → t.world.partition ≡ part.partition → IsNewWorld part.lists t.world
      → IsLater disk store meta t.world t'.world → AreDisksOf t'.world.partition_state.nodes back.disks.items → DisksReopen disk.content t'.world.partition_state.nodes back.disks.items → back.store ≡ t'.world.tier.store
      → back.meta ≡ t'.world.tier.meta → kept ≡ t'.reg
      → (t'.ended ≡ false → IsTrue (disk.content t'.reg).is_observable → (opening : State) (c : IsCentralLeft disk store meta opening t'.world)
      → StandsFor disk store meta t'.world.partition back.disks.items back.store back.meta kept (cold_of (plain_in disk store meta opening t'.world c)))
      → HaltsSteps disk store meta t t' why → IsTrue (disk.content t'.reg).is_observable → (p : State) → IsCentralLeft disk store meta p t.world → IsLedFrom disk store meta part.partition part.lists back kept p
  halted law config part back kept t t' why there new later are again stores notes same closing (inl dry) told p first =
      let c : IsCentralLeft disk store meta p t'.world = later.left p first in
      led config part t'.world back kept t'.world.partition p c (later.lists ∙ new.lists_are) (later.partition ∙ there) (closing dry.1 told p c)
  halted law config part back kept t t' why there new later are again stores notes same closing (inr (w, before, ends, either)) told p first =
      let b : IsCentralLeft disk store meta p w = before.left p first in
      let c : IsCentralLeft disk store meta p t'.world = later.left p first in
      let here : t'.world.partition ≡ part.partition = later.partition ∙ there in
      elim (either told p b c back.disks.items back.store back.meta kept (left_all law t'.world t'.reg back kept are again stores notes same)) [
        | inl old ↦ led config part w back kept t'.world.partition p b (before.lists ∙ new.lists_are) here old
        | inr now ↦ led config part t'.world back kept t'.world.partition p c (later.lists ∙ new.lists_are) here now
      ]

  -- a run that was refused on its way
  pub stopped_run : {T : Type 0} → ClosedAreLeft disk → (config : Config) (part : PartScript) (devices back : Devices D S M) (reg kept : D) (t t' : Running D S M) (r : Result T ColdRefusal)
      → IsPartitionOpened disk store meta part.partition config part.lists devices.disks.items devices.store devices.meta reg t → IsNewWorld part.lists t.world
      → ((p : State) → StandsFor disk store meta part.partition devices.disks.items devices.store devices.meta reg p → IsCentralLeft disk store meta p t.world)
      → (DisksTell disk.content devices.disks.items → IsBlank disk store meta devices.store devices.meta reg → IsCentralLeft disk store meta (fresh config) t.world)
      → (disk.content t'.reg).is_observable ≡ (disk.content reg).is_observable → IsLater disk store meta t.world t'.world
      → AreDisksOf t'.world.partition_state.nodes back.disks.items → DisksReopen disk.content t'.world.partition_state.nodes back.disks.items → back.store ≡ t'.world.tier.store → back.meta ≡ t'.world.tier.meta → kept ≡ t'.reg
      → (t'.ended ≡ false → IsTrue (disk.content t'.reg).is_observable → (opening : State) (c : IsCentralLeft disk store meta opening t'.world)
      → StandsFor disk store meta t'.world.partition back.disks.items back.store back.meta kept (cold_of (plain_in disk store meta opening t'.world c)))
      → RunsThrough disk store meta t t' → IfErr r (λ why. HaltsSteps disk store meta t t' why) → OnErr r (IsRunStopped disk store meta config part devices reg back kept)
  stopped_run law config part devices back reg kept t t' (Ok x) is new central blank is_observable later are again stores notes same closing through h = tt
  stopped_run law config part devices back reg kept t t' (Err why) is new central blank is_observable later are again stores notes same closing through h =
      let there = opened_there disk store meta part.partition config part.lists devices.disks.items devices.store devices.meta reg t is in
      record {
        from = λ p stands. inr (halted law config part back kept t t' why there new later are again stores notes same closing h (subst IsTrue (sym is_observable) stands.file_tells) p (central p stands));
        begun = λ tell empty. inr (halted law config part back kept t t' why there new later are again stores notes same closing h (subst IsTrue (sym is_observable) empty.file_tells) (fresh config) (blank tell empty));
        ran = inr (record {
          first = t;
          last = t';
          starts = is;
          through = through;
          its_devices = record { disks_are = are; store_is = stores; meta_is = notes };
          its_registry = same;
        });
      }

  -- or that wasn't opened
  pub stopped_open : FreshIsSafe → (config : Config) (part : PartScript) (devices back : Devices D S M) (reg kept : D)
      → ((p : State) → StandsFor disk store meta part.partition devices.disks.items devices.store devices.meta reg p → StandsFor disk store meta part.partition back.disks.items back.store back.meta kept p)
      → (DisksTell disk.content devices.disks.items → IsBlank disk store meta devices.store devices.meta reg
      → IsBlank disk store meta back.store back.meta kept ⊎ StandsFor disk store meta part.partition back.disks.items back.store back.meta kept (cold_of (fresh config)))
      → IsRunStopped disk store meta config part devices reg back kept
  stopped_open safe config part devices back reg kept stand begun = record {
    from = λ p stands. inl (stand p stands);
    begun = λ tell empty.
        elim (begun tell empty) [
          | inl blank ↦ inl blank
          | inr stands ↦ inr (record { journal = []; last = fresh config; replays = refl; safe = safe config; stand = stands })
        ];
    ran = inl stand;
  }

  -- a device that went out is back with what was held
  disk_handed : (a b : Option D) (d : D) → HandsDisk disk.content a (disk.content d) → b ≡ Some d → DiskRests disk.content a b
  disk_handed a b d gives is = subst (λ (k : Option D). DiskRests disk.content a k) (sym is) (by a gives)
    where
      by : (o : Option D) → HandsDisk disk.content o (disk.content d) → DiskRests disk.content o (Some d)
      by None gives = gives
      by (Some e) gives = gives

  store_handed : (a b : Option S) (s : S) → HandsStore store.content a (store.content s) → b ≡ Some s → StoreRests store.content a b
  store_handed a b s gives is = subst (λ (k : Option S). StoreRests store.content a k) (sym is) (by a gives)
    where
      by : (o : Option S) → HandsStore store.content o (store.content s) → StoreRests store.content o (Some s)
      by None gives = gives
      by (Some e) gives = gives

  log_handed : (a b : Option M) (m : M) → HandsLog meta.content a (meta.content m) → b ≡ Some m → LogRests meta.content a b
  log_handed a b m gives is = subst (λ (k : Option M). LogRests meta.content a k) (sym is) (by a gives)
    where
      by : (o : Option M) → HandsLog meta.content o (meta.content m) → LogRests meta.content o (Some m)
      by None gives = gives
      by (Some e) gives = gives

  -- one that stayed is as it was
  disk_kept : (a b : Option D) → Both (λ x y. files.Keeps (disk.content x) (disk.content y)) a b → DiskRests disk.content a b
  disk_kept None None k = tt
  disk_kept None (Some e) k = absurd k
  disk_kept (Some d) None k = absurd k
  disk_kept (Some d) (Some e) k = k

  store_kept : (a b : Option S) → Both (λ s t. stored.Keeps (store.content s) (store.content t)) a b → StoreRests store.content a b
  store_kept None None k = tt
  store_kept None (Some t) k = absurd k
  store_kept (Some s) None k = absurd k
  store_kept (Some s) (Some t) k = k

  log_kept : (a b : Option M) → Both (λ m n. recorded.Keeps (meta.content m) (meta.content n)) a b → LogRests meta.content a b
  log_kept None None k = tt
  log_kept None (Some n) k = absurd k
  log_kept (Some m) None k = absurd k
  log_kept (Some m) (Some n) k = k

  disk_through : (a b c e : Option D) → b ≡ a → Both (λ x y. files.Keeps (disk.content x) (disk.content y)) b c → e ≡ c → DiskRests disk.content a e
  disk_through a b c e one both two = subst (λ (k : Option D). DiskRests disk.content a k) (sym two) (subst (λ (k : Option D). DiskRests disk.content k c) one (disk_kept b c both))

  store_through : (a b c e : Option S) → b ≡ a → Both (λ s t. stored.Keeps (store.content s) (store.content t)) b c → e ≡ c → StoreRests store.content a e
  store_through a b c e one both two = subst (λ (k : Option S). StoreRests store.content a k) (sym two) (subst (λ (k : Option S). StoreRests store.content k c) one (store_kept b c both))

  log_through : (a b c e : Option M) → b ≡ a → Both (λ m n. recorded.Keeps (meta.content m) (meta.content n)) b c → e ≡ c → LogRests meta.content a e
  log_through a b c e one both two = subst (λ (k : Option M). LogRests meta.content a k) (sym two) (subst (λ (k : Option M). LogRests meta.content k c) one (log_kept b c both))

  -- the disks of the first brokers went out and are back
  disks_back : (p : PartitionId) (disks : List D) (h0 h1 h2 h3 : YardContent D S M) → HandsDisks disk store meta p disks h0 → KeepsFrom p (length disks) h0 h1
      → ((b : BrokerId) → Both (λ x y. files.Keeps (disk.content x) (disk.content y)) (h1.disks p b) (h2.disks p b))
      → ((b : BrokerId) (d : D) → slice_get disks b.0 ≡ Some d → h3.disks p b ≡ Some d) → KeepsFrom p (length disks) h2 h3 → (b : BrokerId) → DiskRests disk.content (h0.disks p b) (h3.disks p b)
  disks_back p disks h0 h1 h2 h3 hands past same here still b = by (slice_get disks b.0) refl
    where
      by : (o : Option D) → slice_get disks b.0 ≡ o → DiskRests disk.content (h0.disks p b) (h3.disks p b)
      by (Some d) at = disk_handed (h0.disks p b) (h3.disks p b) d (hands b d at) (here b d at)
      by None at =
          let far = none_past disks b.0 at in
          disk_through (h0.disks p b) (h1.disks p b) (h2.disks p b) (h3.disks p b) (past b far) (same b) (still b far)

  -- what is held of another partition is as it was
  rests_other : (q : PartitionId) (h0 h1 h2 h3 : YardContent D S M) → SameOf q h0 h1 → Same disk.content store.content meta.content h1 h2 → SameOf q h2 h3 → RestsIn disk store meta q h0 h3
  rests_other q h0 h1 h2 h3 f s g = record {
    disks = λ b. disk_through (h0.disks q b) (h1.disks q b) (h2.disks q b) (h3.disks q b) (f.disks b) (s.disks q b) (g.disks b);
    objects = store_through (h0.stores q) (h1.stores q) (h2.stores q) (h3.stores q) f.store (s.stores q) g.store;
    notes = log_through (h0.logs q) (h1.logs q) (h2.logs q) (h3.logs q) f.log (s.logs q) g.log;
    file = disk_through (h0.registries q) (h1.registries q) (h2.registries q) (h3.registries q) f.registry (s.registries q) g.registry;
  }

  -- devices of a partition were out as a call went wrong, and are back
  went_back : (p : PartitionId) (h0 h1 h2 h3 : YardContent D S M) → IsTrue h0.is_observable → OnlyOf p h0 h1 → Same disk.content store.content meta.content h1 h2 → OnlyOf p h2 h3 → RestsIn disk store meta p h0 h3 → AllTiersRest disk store meta h0 h3
  went_back p h0 h1 h2 h3 t out same back this q = elim (is_or_not q p) [
    | inl here ↦ subst (λ (r : PartitionId). RestsIn disk store meta r h0 h3) (sym here) this
    | inr other ↦ rests_other q h0 h1 h2 h3 (out.others t q other) same (back.others (subst IsTrue (sym (same.is_observable ∙ out.is_observable)) t) q other)
  ]

  -- the disks alone
  pub disks_again : (p : PartitionId) (disks : List D) (h0 h1 h2 h3 : YardContent D S M) → HandsDisks disk store meta p disks h0 → OnlyOf p h0 h1 → KeepsFrom p (length disks) h0 h1 → KeepsRest p h0 h1
      → (IsTrue h1.is_observable → Same disk.content store.content meta.content h1 h2) → KeepsDisks p disks h2 h3 → IsTrue h0.is_observable → AllTiersRest disk store meta h0 h3
  disks_again p disks h0 h1 h2 h3 hands only past rest gone back t =
      let same : Same disk.content store.content meta.content h1 h2 = gone (subst IsTrue (sym only.is_observable) t) in
      let told : IsTrue h2.is_observable = subst IsTrue (sym (same.is_observable ∙ only.is_observable)) t in
      let still = back.rest told in
      went_back p h0 h1 h2 h3 t only same back.only (record {
        disks = disks_back p disks h0 h1 h2 h3 hands past (λ b. same.disks p b) (back.here told) (back.past told);
        objects = store_through (h0.stores p) (h1.stores p) (h2.stores p) (h3.stores p) rest.store (same.stores p) still.store;
        notes = log_through (h0.logs p) (h1.logs p) (h2.logs p) (h3.logs p) rest.log (same.logs p) still.log;
        file = disk_through (h0.registries p) (h1.registries p) (h2.registries p) (h3.registries p) rest.registry (same.registries p) still.registry;
      })

  -- the disks and the store
  pub store_again : (p : PartitionId) (disks : List D) (s : S) (h0 h1 h2 h3 h4 h5 : YardContent D S M) → HandsDisks disk store meta p disks h0 → OnlyOf p h0 h1 → KeepsFrom p (length disks) h0 h1 → KeepsRest p h0 h1
      → h2.is_observable ≡ h1.is_observable → (IsTrue h1.is_observable → StoreIs p None h1 h2) → (IsTrue h1.is_observable → HandsStore store.content (h1.stores p) (store.content s))
      → (IsTrue h2.is_observable → Same disk.content store.content meta.content h2 h3) → KeepsDisks p disks h3 h4 → h5.is_observable ≡ h4.is_observable → (IsTrue h4.is_observable → StoreIs p (Some s) h4 h5)
      → IsTrue h0.is_observable → AllTiersRest disk store meta h0 h5
  store_again p disks s h0 h1 h2 h3 h4 h5 hands only past rest is_observable out gives gone back again stores t =
      let t1 : IsTrue h1.is_observable = subst IsTrue (sym only.is_observable) t in
      let t2 : IsTrue h2.is_observable = subst IsTrue (sym is_observable) t1 in
      let same : Same disk.content store.content meta.content h2 h3 = gone t2 in
      let t3 : IsTrue h3.is_observable = subst IsTrue (sym same.is_observable) t2 in
      let t4 : IsTrue h4.is_observable = subst IsTrue (sym back.only.is_observable) t3 in
      let o : StoreIs p None h1 h2 = out t1 in
      let k : StoreIs p (Some s) h4 h5 = stores t4 in
      let still = back.rest t3 in
      went_back p h0 h2 h3 h5 t (only_then p h0 h1 h2 only (store_only p None h1 h2 is_observable out)) same (only_then p h3 h4 h5 back.only (store_only p (Some s) h4 h5 again stores)) (record {
        disks = disks_back p disks h0 h2 h3 h5 hands (λ b far. o.disks p b ∙ past b far) (λ b. same.disks p b) (λ b d at. k.disks p b ∙ back.here t3 b d at) (λ b far. k.disks p b ∙ back.past t3 b far);
        objects = store_handed (h0.stores p) (h5.stores p) s (subst (λ (x : Option S). HandsStore store.content x (store.content s)) rest.store (gives t1)) k.there;
        notes = log_through (h0.logs p) (h2.logs p) (h3.logs p) (h5.logs p) (o.logs p ∙ rest.log) (same.logs p) (k.logs p ∙ still.log);
        file = disk_through (h0.registries p) (h2.registries p) (h3.registries p) (h5.registries p) (o.registries p ∙ rest.registry) (same.registries p) (k.registries p ∙ still.registry);
      })

  -- all but the disk of the registry
  pub devices_again : (p : PartitionId) (count : ℕ) (devices : Devices D S M) (h0 h1 h2 h3 : YardContent D S M) → AreHanded disk store meta p count devices h0 → OnlyOf p h0 h1 → (IsTrue h0.is_observable → KeepsFrom p count h0 h1)
      → (IsTrue h0.is_observable → h1.registries p ≡ h0.registries p) → (IsTrue h1.is_observable → Same disk.content store.content meta.content h1 h2) → KeepsDevices p devices h2 h3 → IsTrue h0.is_observable → AllTiersRest disk store meta h0 h3
  devices_again p count devices h0 h1 h2 h3 handed only past kept gone back t =
      let same : Same disk.content store.content meta.content h1 h2 = gone (subst IsTrue (sym only.is_observable) t) in
      let told : IsTrue h2.is_observable = subst IsTrue (sym (same.is_observable ∙ only.is_observable)) t in
      let here = back.here told in
      went_back p h0 h1 h2 h3 t only same back.only (record {
        disks = disks_back p devices.disks.items h0 h1 h2 h3 (handed.disks.hands t) (λ b far. past t b (subst (λ (n : ℕ). n ≤ b.0) handed.disks.count_is far)) (λ b. same.disks p b) here.disks (back.past told);
        objects = store_handed (h0.stores p) (h3.stores p) devices.store (handed.objects t) here.store;
        notes = log_handed (h0.logs p) (h3.logs p) devices.meta (handed.notes t) here.log;
        file = disk_through (h0.registries p) (h1.registries p) (h2.registries p) (h3.registries p) (kept t) (same.registries p) (back.registry told);
      })

  -- where nothing happened all is as it was
  pub all_rest : (h : YardContent D S M) → AllTiersRest disk store meta h h
  all_rest h p = record {
    disks = λ b. disks (h.disks p b);
    objects = stores (h.stores p);
    notes = logs (h.logs p);
    file = disks (h.registries p);
  }
    where
      disks : (o : Option D) → DiskRests disk.content o o
      disks None = tt
      disks (Some d) = record { is_observable = refl; files = λ n. refl; images = λ c at. at; time = record { later = omega arith; nothing_else = λ t c early at. inl at; keeps = λ t c early at. at } }

      stores : (o : Option S) → StoreRests store.content o o
      stores None = tt
      stores (Some s) = record { is_observable = refl; objects = λ k. refl }

      logs : (o : Option M) → LogRests meta.content o o
      logs None = tt
      logs (Some m) = record { is_observable = refl; notes = refl; left = λ l at. at }

  -- the partition's devices were out, and its run was refused
  pub stopped_in : (config : Config) (part : PartScript) (given back : Devices D S M) (reg kept : D) (h0 h1 h2 : YardContent D S M) → (IsTrue h0.is_observable → IsReady disk.content store.content meta.content config.brokers h0 part.partition)
      → AreAllHanded disk store meta part.partition config.brokers given reg h0 → OnlyOf part.partition h0 h1 → length back.disks.items ≡ config.brokers
      → IsRunStopped disk store meta config part given reg back kept → KeepsAll disk.content part.partition back kept h1 h2
      → IsTrue h0.is_observable → AllTiersRest disk store meta h0 h2 ⊎ IsStoppedIn disk store meta config part h0 h2
  stopped_in config part given back reg kept h0 h1 h2 ready handed only many stopped keeps t = inr (record {
    devices = given;
    registry = reg;
    back = back;
    kept = kept;
    given = handed.others.disks.count_is;
    count = many;
    handed = handed.hands t;
    begun = λ none. opens_fresh disk store meta config part.partition config.brokers h0 given reg t (ready t).bare none handed;
    stopped = stopped;
    holds = keeps.here (subst IsTrue (sym only.is_observable) t);
    only = only_then part.partition h0 h1 h2 only keeps.only;
  })

  -- the next partition's run was refused, or its devices couldn't be had
  pub stopped_next : (config : Config) (parts rest after : List PartScript) (part : PartScript) (h0 h h' : YardContent D S M) (c0 c : Control) (text : List ℕ) → rest ≡ part ∷ after → SoFar disk store meta config parts rest h0 h c0 c text
      → (IsTrue h.is_observable → AllTiersRest disk store meta h h' ⊎ IsStoppedIn disk store meta config part h h') → IsTrue h0.is_observable → AreStopped disk store meta config parts h0 h'
  stopped_next config parts rest after part h0 h h' c0 c text steps so stopped t = record {
    front = so.run;
    rest = rest;
    parts_are = so.all;
    mid = h;
    runs = so.text_is.runs;
    came = so.text_is.came;
    are = so.text_is.are;
    others = so.same t;
    end = elim (stopped (subst IsTrue (sym so.is_observable) t)) [ inl same ↦ inl same | inr one ↦ inr (part, after, steps, one) ];
  }

  -- it was run, and there was no memory for its trace after the others
  pub stopped_behind : (config : Config) (parts rest after : List PartScript) (part : PartScript) (h0 h h' : YardContent D S M) (c0 c c' : Control) (text printed : List ℕ) → rest ≡ part ∷ after
      → SoFar disk store meta config parts rest h0 h c0 c text → OnlyOf part.partition h h' → ReadsMore c c' → RunsIn disk store meta config part h h' printed c c' → IsTrue h0.is_observable → AreStopped disk store meta config parts h0 h'
  stopped_behind config parts rest after part h0 h h' c0 c c' text printed steps so only reads adds t =
      let far : SoFar disk store meta config parts after h0 h' c0 c' (text ++ printed) = goes_behind disk store meta config parts rest after part h0 h h' c0 c c' text printed (text ++ printed) steps so only reads adds refl in
      record {
        front = far.run;
        rest = after;
        parts_are = far.all;
        mid = h';
        runs = far.text_is.runs;
        came = far.text_is.came;
        are = far.text_is.are;
        others = far.same t;
        end = inl (all_rest h');
      }

  -- the registries were read before
  pub stopped_so : (config : Config) (parts : List PartScript) (h0 h h' : YardContent D S M) → h.is_observable ≡ h0.is_observable → (IsTrue h0.is_observable → OnlyReads disk.content store.content meta.content h0 h)
      → (IsTrue h.is_observable → AreStopped disk store meta config parts h h') → IsTrue h0.is_observable → IsStoppedSo disk store meta config parts h0 h'
  stopped_so config parts h0 h h' is_observable read stopped t = inr (h, read t, stopped (subst IsTrue (sym is_observable) t))
