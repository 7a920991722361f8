-- The run of a partition over its devices in an environment, and of one partition after others.
use Rattle.std.proofs.Common.{◌≡◌, ◌≢◌, ◌⊎◌, inl, inr, ◌∙◌, sym, ap, subst, refl, ℕ, zero, suc, Option, Some, None, ◌+◌, ◌≤◌, ◌<◌, ◌==◌, Bool, true, false, List, [], ◌∷◌, ◌++◌, map, length, All, IsTrue, nat_lt, if◌then◌else◌, get_or, arith, append_assoc, append-nil}
use Rattle.std.specs.Prelude.{Result, Ok, Err, IfOk, IfErr, IsSome}
use Rattle.tier_base.specs.declared.plain.FileName.TheVariants.{Registry}
use Rattle.std.proofs.lemmas.Bool.{lt-ltb, false≢true}
use Rattle.tier_base.specs.Counts.{counted, Rose}
use Rattle.tier_base.specs.declared.names.PartitionId.{PartitionId}
use Rattle.disk_model.specs.declared.disk.Disk.{Ghosts as DiskGhosts}
use Rattle.object_store.specs.declared.store.Store.{Ghosts as StoreGhosts}
use Rattle.meta_log.specs.declared.log.MetaLog.{Ghosts as MetaGhosts}
use Rattle.device_yard.specs.declared.came.Came.{Came}
use Rattle.device_yard.specs.Control.{Control, is_fault as is_yard_fault}
use Rattle.device_yard.specs.YardContent.{YardContent, IsThereWith, HandsDisk, HandsStore, HandsLog, HoldsDisk, HasTier, HasRegistry, IsBare}
use Rattle.device_yard.proofs.Nameless.{tierless_is_empty}
use Rattle.plain_log.specs.declared.command.Config.{Config}
use Rattle.plain_log.specs.declared.journal.JournalEntry.{JournalEntry}
use Rattle.plain_log.specs.Fresh.{fresh}
use Rattle.partition_commands.specs.Fresh.{DisksTell, OneFailed}
use Rattle.partition_world.specs.declared.tier.Devices.{Devices}
use Rattle.plain_log.specs.Orders.{AreListsFor}
use Rattle.script_lang.specs.Fit.{AreNumbered, StepsToEnds}
use Rattle.script_lang.specs.declared.script.PartScript.{PartScript}
use Rattle.trace_text.specs.Trace.{journal_text, trace_of}
use Rattle.registry.specs.declared.view.RegView.{RegView}
use Rattle.registry_file.specs.Reading.{view_in}
use Rattle.registry_file.specs.declared.refusal.RegFileRefusal.{RegFileRefusal}
use Rattle.registry_file.specs.declared.refusal.RegFileRefusal.TheVariants as file
use Rattle.cold_start.specs.Opening.{AreUnarmed, AllLast, says}
use Rattle.cold_start.specs.declared.refusal.ColdRefusal.{ColdRefusal}
use Rattle.cold_start.specs.declared.refusal.ColdRefusal.TheVariants as cold
use Rattle.run_yard.specs.declared.refusal.YardRefusal.{YardRefusal}
use Rattle.run_yard.specs.declared.refusal.YardRefusal.TheVariants as yard
use Rattle.run_yard.specs.Refusals.{of_cold, IsOfFile, IsRunRefused, DeviceFailed, IsOfDevices}
use Rattle.run_yard.specs.Opens.{OpensFresh}
use Rattle.run_yard.specs.Reading.{file_in, said, ReadsLast, ReadsMore, IsReady, IsSaidOf, IsRefusedSo}
use Rattle.run_yard.specs.Run.{IsRunText as IsTextOf}
use Rattle.run_yard.specs.Handed.{IsHandedDisk, AreHanded, AreAllHanded}
use Rattle.run_yard.specs.Runs.{IsRunOnDevices, RunsIn, AreRunsIn, IsTextOfRuns}
use Rattle.run_yard.specs.Yard.{came_of, cames_of, faults_with, HandedOut, CameBack, SameOf, OnlyOf, HoldsAll, KeepsAll}
use Rattle.run_yard.proofs.Back.{same_of, same_then, length_map, length_append, faults_append}
use Rattle.run_yard.proofs.Faults.{rose_after, counts_one, still}
use Rattle.run_yard.proofs.Looks.{file_handed, last_one, last_then, more_none, more_then}
use Rattle.run_yard.proofs.UsesOf.{uses_all, uses_then, uses_none}

-- what is said of an answer that went well
pub ok_is : {T E : Type 0} (r : Result T E) (x : T) (P : T → Type 0) → r ≡ Ok x → IfOk r P → P x
ok_is r x P is h = subst (λ (k : Result _ _). IfOk k P) is h

pub err_is : {T E : Type 0} (r : Result T E) (e : E) (P : E → Type 0) → r ≡ Err e → IfErr r P → P e
err_is r e P is h = subst (λ (k : Result _ _). IfErr k P) is h

-- a device of which a call failed before its plan was in force is a fault of the environment, as it comes back
counted_came : (came : Came) → came.armed ≡ false → 1 ≤ came.faults → is_yard_fault came ≡ true
counted_came came unarmed some = let some_fault : nat_lt 0 came.faults ≡ true = lt-ltb 0 came.faults (omega (arith, some)) in rw unarmed some_fault

-- so the count rises with it, wherever it comes among others
fault_rises : (front back : List Came) (came : Came) (n : ℕ) → is_yard_fault came ≡ true → Rose n (faults_with (front ++ came ∷ back) n)
fault_rises front back came n is =
    let m = faults_with front n in
    let whole = faults_append front (came ∷ back) n in
    let step : faults_with (came ∷ back) m ≡ faults_with back (counted m 1) = ap (λ (b : Bool). faults_with back (if b then counted m 1 else m)) is in
    let before = still front n in
    let after = still back (counted m 1) in
    omega (arith, whole, step, before, after)

-- a count that a registry's file refuses is the one that was asked for
asked_same : (asked : ℕ) (r : Result RegView RegFileRefusal) (k a : ℕ) → says asked r ≡ Some (cold.Brokers k a) → a ≡ asked
asked_same asked (Err (file.Bad at)) k a is = absurd (let no : ◌≡◌ {A = Option ColdRefusal} (Some (cold.BadRegistry at)) (Some (cold.Brokers k a)) = is in cc)
asked_same asked (Ok view) k a is = by (view.brokers == asked) is
  where
    by : (b : Bool) → (if b then None else Some (cold.Brokers view.brokers asked)) ≡ Some (cold.Brokers k a) → a ≡ asked
    by true e = absurd (let no : ◌≡◌ {A = Option ColdRefusal} None (Some (cold.Brokers k a)) = e in cc)
    by false e = let same : ◌≡◌ {A = Option ColdRefusal} (Some (cold.Brokers view.brokers asked)) (Some (cold.Brokers k a)) = e in cc

module _ {D S M : Type 0} (disk : DiskGhosts D) (store : StoreGhosts S) (meta : MetaGhosts M) where
  -- so many devices come back
  pub cames_many : (devices : Devices D S M) (reg : D) (n : ℕ) → length devices.disks.items ≡ n → length (cames_of disk store meta devices reg) ≡ n + 3
  cames_many devices reg n many =
      let front = map (came_of disk.control) devices.disks.items in
      let rest = came_of store.control devices.store ∷ came_of meta.control devices.meta ∷ [] in
      let whole = length_append (front ++ rest) (came_of disk.control reg ∷ []) in
      let half = length_append front rest in
      let disks = length_map (came_of disk.control) devices.disks.items in
      omega (arith, whole, half, disks, many)

  -- disks that were provided are unarmed
  pub unarmed_disks : (h : YardContent D S M) (disks : List D) → All (IsHandedDisk disk store meta h) disks → AreUnarmed disk.control disks
  unarmed_disks h [] all = tt
  unarmed_disks h (d ∷ disks) all =
      let one = (all 0 d (omega arith)).fresh in
      (record { unarmed = one.armed; unmade = one.made }, unarmed_disks h disks (λ i e within. all (suc i) e (omega (arith, within))))

  -- of an observable environment they report
  disks_tell : (h : YardContent D S M) (disks : List D) → IsTrue h.is_observable → All (IsHandedDisk disk store meta h) disks → DisksTell disk.content disks
  disks_tell h [] t all = tt
  disks_tell h (d ∷ disks) t all = (subst IsTrue (sym (all 0 d (omega arith)).is_observable) t, disks_tell h disks t (λ i e within. all (suc i) e (omega (arith, within))))

  -- without a registry's file there is no registry
  no_registry : (h : YardContent D S M) (p : PartitionId) → file_in disk.content (h.registries p) ≡ None → HasRegistry disk.content store.content meta.content h p → ⊥
  no_registry h p none has = by (h.registries p) none has
    where
      lost : (o : Option (List ℕ)) → o ≡ None → IsSome o → ⊥
      lost None is some = false≢true some
      lost (Some x) is some = absurd (let no : ◌≡◌ {A = Option (List ℕ)} (Some x) None = is in cc)

      by : (o : Option D) → file_in disk.content o ≡ None → IsThereWith (λ d. IsSome ((disk.content d).files Registry)) o → ⊥
      by None is here = here
      by (Some d) is here = lost ((disk.content d).files Registry) is here

  -- a partition without a registry begins in the fresh state
  pub opens_fresh : (config : Config) (p : PartitionId) (count : ℕ) (h : YardContent D S M) (devices : Devices D S M) (reg : D) → IsTrue h.is_observable → (IsBare disk.content store.content meta.content h p → ⊥)
      → file_in disk.content (h.registries p) ≡ None → AreAllHanded disk store meta p count devices reg h → OpensFresh disk store meta config devices reg (fresh config)
  opens_fresh config p count h devices reg t bare none is =
      let empty = tierless_is_empty disk.content store.content meta.content h p (λ tier. bare (tier, no_registry h p none)) in
      record {
        state = refl;
        disks_tell = disks_tell h devices.disks.items t is.others.disks.each;
        blank = record {
          file_tells = subst IsTrue (sym is.file.is_observable) t;
          file = file_handed disk.content (h.registries p) reg ((is.hands t).file) ∙ none;
          store_tells = subst IsTrue (sym is.others.store_tells) t;
          objects = λ told key. empty.store devices.store ((is.hands t).objects) key;
          meta_tells = subst IsTrue (sym is.others.meta_tells) t;
          notes = λ told. empty.log devices.meta ((is.hands t).notes);
        };
      }

  -- a disk that failed before its plan was in force
  failed_risen : (h : YardContent D S M) (disks nows : List D) (n : ℕ) → All (IsHandedDisk disk store meta h) disks → AllLast disk.control disks nows → OneFailed disk.control disks nows
      → Rose n (faults_with (map (came_of disk.control) nows) n)
  failed_risen h [] nows n all last failed = absurd failed
  failed_risen h (d ∷ disks) [] n all last failed = absurd failed
  failed_risen h (d ∷ disks) (now ∷ nows) n all last (inl rose) =
      let fresh = (all 0 d (omega arith)).fresh in
      let none = fresh.faults in
      let some : 1 ≤ (disk.control now).faults = omega (arith, none, rose) in
      fault_rises [] (map (came_of disk.control) nows) (came_of disk.control now) n (counted_came (came_of disk.control now) (last.0.armed ∙ fresh.armed) some)
  failed_risen h (d ∷ disks) (now ∷ nows) n all last (inr more) =
      let one = is_yard_fault (came_of disk.control now) in
      let after = if one then counted n 1 else n in
      rose_after n after (faults_with (map (came_of disk.control) nows) after) (either one)
      (failed_risen h disks nows after (λ i e within. all (suc i) e (omega (arith, within))) last.1 more)
    where
      either : (b : Bool) → counted n 0 ≤ (if b then counted n 1 else n)
      either true = counts_one n
      either false = omega arith

  -- so the environment's count rose
  device_risen : (p : PartitionId) (h : YardContent D S M) (given back : Devices D S M) (kept : D) (count n : ℕ) → AreHanded disk store meta p count given h
      → DeviceFailed disk meta given back → Rose n (faults_with (cames_of disk store meta back kept) n)
  device_risen p h given back kept count n handed failed = by failed.one
    where
      front : List Came
      front = map (came_of disk.control) back.disks.items

      by : OneFailed disk.control given.disks.items back.disks.items ⊎ Rose (meta.control given.meta).faults (meta.control back.meta).faults → Rose n (faults_with (cames_of disk store meta back kept) n)
      by (inl one) =
          let rest = came_of store.control back.store ∷ came_of meta.control back.meta ∷ [] in
          let last = came_of disk.control kept ∷ [] in
          let rise = failed_risen h given.disks.items back.disks.items n handed.disks.each failed.disks one in
          let outer = faults_append (front ++ rest) last n in
          let whole = faults_append front rest n in
          let k = still rest (faults_with front n) in
          let j = still last (faults_with (front ++ rest) n) in
          omega (arith, rise, outer, whole, k, j)
      by (inr rose) =
          let one = came_of meta.control back.meta in
          let none = handed.meta_fresh.faults in
          let some : 1 ≤ (meta.control back.meta).faults = omega (arith, none, rose) in
          let is : is_yard_fault one ≡ true = counted_came one (failed.notes.armed ∙ handed.meta_fresh.armed) some in
          let same : (front ++ came_of store.control back.store ∷ one ∷ []) ++ came_of disk.control kept ∷ [] ≡ (front ++ came_of store.control back.store ∷ []) ++ one ∷ came_of disk.control kept ∷ [] =
          append_assoc front (came_of store.control back.store ∷ one ∷ []) (came_of disk.control kept ∷ []) ∙ sym (append_assoc front (came_of store.control back.store ∷ []) (one ∷ came_of disk.control kept ∷ [])) in
          subst (λ (l : List Came). Rose n (faults_with l n)) (sym same) (fault_rises (front ++ came_of store.control back.store ∷ []) (came_of disk.control kept ∷ []) one n is)

  -- what a refused run of the partition comes of, over the environment
  pub refused_of : (asked : ℕ) (p : PartitionId) (count n : ℕ) (h h2 : YardContent D S M) (c c1 c2 : Control) (given back : Devices D S M) (reg kept : D) (why : ColdRefusal)
      → (IsTrue h.is_observable → IsReady disk.content store.content meta.content asked h p) → AreAllHanded disk store meta p count given reg h → HandedOut n c c1 → CameBack (cames_of disk store meta back kept) c1 c2
      → c1.registries ≡ c.registries → c2.registries ≡ c1.registries ++ record { partition = p; last_read = (disk.control kept).last_read } ∷ [] → (disk.control kept).armed ≡ false
      → IsRunRefused disk meta asked given reg back kept why → IsRefusedSo disk.content store.content meta.content asked h h2 c c2 (of_cold p why) × (IsTrue h.is_observable → IsOfDevices (of_cold p why))
  refused_of asked p count n h h2 c c1 c2 given back reg kept why ready handed out came unread read unarmed is = by why is
    where
      clash : (w : ColdRefusal) → IsTrue h.is_observable → IsOfFile disk asked reg kept w → ⊥
      clash w t k =
          let file : file_in disk.content (h.registries p) ≡ Some (disk.control kept).last_read =
          sym (file_handed disk.content (h.registries p) reg ((handed.hands t).file)) ∙ k.file (subst IsTrue (sym handed.file.is_observable) t) in
          let no : ◌≡◌ {A = Option ColdRefusal} None (Some w) = sym (ready t).suits ∙ (ap (said asked) file ∙ k.says) in
          cc

      last : ReadsLast p (disk.control kept).last_read c c2
      last = last_one p (disk.control kept).last_read c c2 (read ∙ ap (λ (l : List _). l ++ record { partition = p; last_read = (disk.control kept).last_read } ∷ []) unread)

      so : (w : ColdRefusal) → IsOfFile disk asked reg kept w → IsSaidOf disk.content store.content meta.content p asked w h h2 c c2
      so w k = record {
        bytes = (disk.control kept).last_read;
        read = last;
        says = k.says;
        file = λ t. absurd (clash w t k);
        first = λ t q below. absurd (clash w t k);
        unchanged = λ t. absurd (clash w t k);
      }

      begun : c1.faults ≡ c.faults
      begun = out.faults

      ended : c2.faults ≡ faults_with (cames_of disk store meta back kept) c1.faults
      ended = came.faults

      asks : (k a : ℕ) → IsOfFile disk asked reg kept (cold.Brokers k a) → a ≡ asked
      asks k a f = asked_same asked (view_in (disk.control kept).last_read) k a f.says

      by : (w : ColdRefusal) → IsRunRefused disk meta asked given reg back kept w → IsRefusedSo disk.content store.content meta.content asked h h2 c c2 (of_cold p w) × (IsTrue h.is_observable → IsOfDevices (of_cold p w))
      by cold.RegistryFault rose =
          let some : 1 ≤ (disk.control kept).faults = omega (arith, rose) in
          let rise = fault_rises (map (came_of disk.control) back.disks.items ++ came_of store.control back.store ∷ came_of meta.control back.meta ∷ []) [] (came_of disk.control kept) c1.faults (counted_came (came_of disk.control kept) unarmed some) in
          (omega (arith, rise, begun, ended), λ t. tt)
      by cold.DeviceFault failed = let rise = device_risen p h given back kept count c1.faults handed.others failed in (omega (arith, rise, begun, ended), λ t. tt)
      by (cold.BadRegistry at) k = (so (cold.BadRegistry at) k, λ t. absurd (clash (cold.BadRegistry at) t k))
      by (cold.Brokers k a) f = ((asks k a f, so (cold.Brokers k a) f), λ t. absurd (clash (cold.Brokers k a) t f))
      by cold.NoMemory none = (tt, λ t. tt)

  -- what is ready stays so, where another partition's devices alone change
  pub ready_stays : (asked : ℕ) (q : PartitionId) (a b : YardContent D S M) → SameOf q a b → IsReady disk.content store.content meta.content asked a q → IsReady disk.content store.content meta.content asked b q
  ready_stays asked q a b same r = record {
    suits = ap (λ (o : Option D). said asked (file_in disk.content o)) same.registry ∙ r.suits;
    bare = λ k. r.bare (was k.0, λ has. k.1 (subst (IsThereWith (λ d. IsSome ((disk.content d).files Registry))) (sym same.registry) has));
  }
    where
      was : HasTier disk.content store.content meta.content b q → HasTier disk.content store.content meta.content a q
      was (inl objects) = inl (subst (IsThereWith _) same.store objects)
      was (inr notes) = inr (subst (IsThereWith _) same.log notes)

  -- what is held of a partition stays so too
  holds_on : (p q : PartitionId) (devices : Devices D S M) (reg : D) (a b : YardContent D S M) → IsTrue a.is_observable → (q ≢ p) → OnlyOf p a b → HoldsAll disk.content q devices reg a → HoldsAll disk.content q devices reg b
  holds_on p q devices reg a b t other only holds = record {
    others = record {
      disks = λ k d at. (only.others t q other).disks k ∙ holds.others.disks k d at;
      store = (only.others t q other).store ∙ holds.others.store;
      log = (only.others t q other).log ∙ holds.others.log;
    };
    file = subst (HoldsDisk disk.content reg) (sym (only.others t q other).registry) holds.file;
  }

  run_on : (config : Config) (p : PartitionId) (part : PartScript) (h0 a b : YardContent D S M) (run : ℕ × List JournalEntry) (came : List Came) → (part.partition ≢ p) → OnlyOf p a b
      → IsRunOnDevices disk store meta config part h0 a run came → IsRunOnDevices disk store meta config part h0 b run came
  run_on config p part h0 a b run came other only is = record {
    partition = is.partition;
    devices = is.devices;
    registry = is.registry;
    back = is.back;
    kept = is.kept;
    is = is.is;
    came_so = is.came_so;
    handed = is.handed;
    begun = is.begun;
    holds = λ t. let told : IsTrue a.is_observable = subst IsTrue only.is_observable t in holds_on p part.partition is.back is.kept a b told other only (is.holds told);
  }

  -- the runs of partitions with lower numbers continue
  runs_on : (config : Config) (p : PartitionId) (n : ℕ) (h0 a b : YardContent D S M) (parts : List PartScript) (runs : List (ℕ × List JournalEntry)) (came : List Came) → AreNumbered n parts → n + length parts ≤ p.0 → OnlyOf p a b
      → AreRunsIn disk store meta config h0 a parts runs came → AreRunsIn disk store meta config h0 b parts runs came
  runs_on config p n h0 a b [] [] came numbered below only are = are
  runs_on config p n h0 a b (part ∷ parts) (run ∷ runs) came numbered below only are =
      let number = numbered.0 in (
        are.0,
        are.1,
        are.2,
        run_on config p part h0 a b run are.0 (λ same. absurd (let no = ap (λ (q : PartitionId). q.0) same in omega (arith, no, number, below))) only are.3,
        runs_on config p (n + 1) h0 a b parts runs are.1 numbered.1 (omega (arith, below)) only are.4,
      )
  runs_on config p n h0 a b [] (run ∷ runs) came numbered below only are = absurd are
  runs_on config p n h0 a b (part ∷ parts) [] came numbered below only are = absurd are

  -- one run more
  runs_snoc : (config : Config) (h0 h : YardContent D S M) (parts : List PartScript) (runs : List (ℕ × List JournalEntry)) (part : PartScript) (run : ℕ × List JournalEntry) (came one : List Came)
      → AreRunsIn disk store meta config h0 h parts runs came → IsRunOnDevices disk store meta config part h0 h run one → AreRunsIn disk store meta config h0 h (parts ++ part ∷ []) (runs ++ run ∷ []) (came ++ one)
  runs_snoc config h0 h [] [] part run came one are is = (one, [], ap (λ (l : List Came). l ++ one) are ∙ sym (append-nil one), is, refl)
  runs_snoc config h0 h (first ∷ parts) (r ∷ runs) part run came one are is =
      (are.0, are.1 ++ one, ap (λ (l : List Came). l ++ one) are.2 ∙ append_assoc are.0 are.1 one, are.3, runs_snoc config h0 h parts runs part run are.1 one are.4 is)
  runs_snoc config h0 h [] (r ∷ runs) part run came one are is = absurd are
  runs_snoc config h0 h (first ∷ parts) [] part run came one are is = absurd are

  trace_snoc : (runs : List (ℕ × List JournalEntry)) (run : ℕ × List JournalEntry) → trace_of (runs ++ run ∷ []) ≡ trace_of runs ++ journal_text run.0 run.1
  trace_snoc [] run = append-nil (journal_text run.0 run.1)
  trace_snoc (one ∷ runs) run = ap (λ (t : List ℕ). journal_text one.0 one.1 ++ t) (trace_snoc runs run) ∙ sym (append_assoc (journal_text one.0 one.1) (trace_of runs) (journal_text run.0 run.1))

  -- devices have what was held earlier, where the partition's were the same
  hands_before : (part : PartScript) (h0 a b : YardContent D S M) (run : ℕ × List JournalEntry) (came : List Came) → a.is_observable ≡ h0.is_observable → (IsTrue h0.is_observable → SameOf part.partition h0 a) → (config : Config)
      → IsRunOnDevices disk store meta config part a b run came → IsRunOnDevices disk store meta config part h0 b run came
  hands_before part h0 a b run came is_observable same config is = record {
    partition = is.partition;
    devices = is.devices;
    registry = is.registry;
    back = is.back;
    kept = is.kept;
    is = is.is;
    came_so = is.came_so;
    handed = λ t. let now = is.handed (subst IsTrue (sym is_observable) t) in let kept = same t in record {
      logs = λ k d at. subst (λ (o : Option D). HandsDisk disk.content o (disk.content d)) (kept.disks k) (now.logs k d at);
      objects = subst (λ (o : Option S). HandsStore store.content o (store.content is.devices.store)) kept.store now.objects;
      notes = subst (λ (o : Option M). HandsLog meta.content o (meta.content is.devices.meta)) kept.log now.notes;
      file = subst (λ (o : Option D). HandsDisk disk.content o (disk.content is.registry)) kept.registry now.file;
    };
    begun = λ t none. is.begun (subst IsTrue (sym is_observable) t) (ap (file_in disk.content) (same t).registry ∙ none);
    holds = is.holds;
  }

  pub text_more : (config : Config) (p : PartitionId) (h0 a b : YardContent D S M) (parts : List PartScript) (part : PartScript) (text printed new : List ℕ) (c0 c c' : Control) → AreNumbered 0 parts → length parts ≤ p.0 → OnlyOf p a b
      → a.is_observable ≡ h0.is_observable → (IsTrue h0.is_observable → SameOf part.partition h0 a)
      → IsTextOfRuns disk store meta config parts h0 a text c0 c → RunsIn disk store meta config part a b printed c c' → new ≡ text ++ printed → IsTextOfRuns disk store meta config (parts ++ part ∷ []) h0 b new c0 c'
  text_more config p h0 a b parts part text printed new c0 c c' numbered below only is_observable same t adds is = record {
    runs = t.runs ++ adds.run ∷ [];
    came = t.came ++ adds.came;
    are = runs_snoc config h0 b parts t.runs part adds.run t.came adds.came (runs_on config p 0 h0 a b parts t.runs t.came numbered (omega (arith, below)) only t.are)
        (hands_before part h0 a b adds.run adds.came is_observable same config adds.is);
    spelled = is ∙ (ap (λ (k : List ℕ). text ++ k) adds.spelled ∙ (ap (λ (k : List ℕ). k ++ journal_text adds.run.0 adds.run.1) t.spelled ∙ sym (trace_snoc t.runs adds.run)));
    uses = uses_then t.came adds.came c0 c c' t.uses adds.uses;
  }

  -- numbers of partitions one after another
  pub numbered_snoc : (n : ℕ) (parts : List PartScript) (part : PartScript) → AreNumbered n parts → part.partition.0 ≡ n + length parts → AreNumbered n (parts ++ part ∷ [])
  numbered_snoc n [] part numbered is = (omega (arith, is), tt)
  numbered_snoc n (first ∷ parts) part numbered is = (numbered.0, numbered_snoc (n + 1) parts part numbered.1 (omega (arith, is)))

  -- so far: the parts that were run, those that are left, and what came of the former
  pub record SoFar (config : Config) (parts rest : List PartScript) (h0 h : YardContent D S M) (c0 c : Control) (text : List ℕ) : Type 0 where
    pub run : List PartScript
    pub all : run ++ rest ≡ parts
    pub numbered : AreNumbered 0 run
    pub next : AreNumbered (length run) rest
    pub text_is : IsTextOfRuns disk store meta config run h0 h text c0 c
    -- those of the partitions that are left are as they were
    pub same : IsTrue h0.is_observable → (p : PartitionId) → length run ≤ p.0 → SameOf p h0 h
    pub is_observable : h.is_observable ≡ h0.is_observable
    pub ready : IsTrue h.is_observable → All (λ (part : PartScript). IsReady disk.content store.content meta.content config.brokers h part.partition) rest
    pub more : ReadsMore c0 c
    pub fit : All (λ (part : PartScript). AreListsFor config part.lists) rest
    pub ends : All StepsToEnds rest

  pub begins : (config : Config) (parts rest : List PartScript) (text : List ℕ) (h : YardContent D S M) (c : Control) → rest ≡ parts → text ≡ [] → AreNumbered 0 parts
      → (IsTrue h.is_observable → All (λ (part : PartScript). IsReady disk.content store.content meta.content config.brokers h part.partition) parts)
      → All (λ (part : PartScript). AreListsFor config part.lists) parts → All StepsToEnds parts → SoFar config parts rest h h c c text
  begins config parts rest text h c all none numbered ready fit ends = record {
    run = [];
    all = all;
    numbered = tt;
    next = subst (AreNumbered 0) (sym all) numbered;
    text_is = record { runs = []; came = []; are = refl; spelled = none; uses = uses_none c };
    same = λ t p above. same_of p h;
    is_observable = refl;
    ready = λ t. subst (All (λ (part : PartScript). IsReady disk.content store.content meta.content config.brokers h part.partition)) (sym all) (ready t);
    more = more_none c;
    fit = subst (All (λ (part : PartScript). AreListsFor config part.lists)) (sym all) fit;
    ends = subst (All StepsToEnds) (sym all) ends;
  }

  -- the next part is the next partition, which is ready
  pub next_ready : (config : Config) (parts rest after : List PartScript) (part : PartScript) (h0 h : YardContent D S M) (c0 c : Control) (text : List ℕ) → rest ≡ part ∷ after → SoFar config parts rest h0 h c0 c text
      → IsTrue h.is_observable → IsReady disk.content store.content meta.content config.brokers h part.partition
  next_ready config parts rest after part h0 h c0 c text steps so t =
      let whole : All (λ (q : PartScript). IsReady disk.content store.content meta.content config.brokers h q.partition) (part ∷ after) = subst (All (λ (q : PartScript). IsReady disk.content store.content meta.content config.brokers h q.partition)) steps (so.ready t) in
      whole 0 part (omega arith)

  -- a refusal by the devices of a further partition
  pub refused_late : (asked : ℕ) (h0 h h' : YardContent D S M) (c0 c c' : Control) (why : YardRefusal) → h.is_observable ≡ h0.is_observable → ReadsMore c0 c → counted c0.faults 0 ≤ c.faults
      → (IsTrue h.is_observable → IsOfDevices why) → IsRefusedSo disk.content store.content meta.content asked h h' c c' why → IsRefusedSo disk.content store.content meta.content asked h0 h' c0 c' why
  refused_late asked h0 h h' c0 c c' yard.Fault same more falls of is = omega (arith, falls, is)
  refused_late asked h0 h h' c0 c c' (yard.Mismatch p kept wanted) same more falls of is = (
    is.0,
    record {
      bytes = is.1.bytes;
      read = last_then p is.1.bytes c0 c c' more is.1.read;
      says = is.1.says;
      file = λ t. absurd (of (subst IsTrue (sym same) t));
      first = λ t. absurd (of (subst IsTrue (sym same) t));
      unchanged = λ t. absurd (of (subst IsTrue (sym same) t));
    },
  )
  refused_late asked h0 h h' c0 c c' (yard.BadRegistry p at) same more falls of is = record {
    bytes = is.bytes;
    read = last_then p is.bytes c0 c c' more is.read;
    says = is.says;
    file = λ t. absurd (of (subst IsTrue (sym same) t));
    first = λ t. absurd (of (subst IsTrue (sym same) t));
    unchanged = λ t. absurd (of (subst IsTrue (sym same) t));
  }
  refused_late asked h0 h h' c0 c c' yard.NoMemory same more falls of is = tt

  -- the numbers of those after
  numbered_get : (n : ℕ) (parts : List PartScript) (i : ℕ) (q : PartScript) → AreNumbered n parts → i < length parts → n ≤ (get_or parts i q).partition.0
  numbered_get n [] i q numbered within = absurd (omega (arith, within))
  numbered_get n (part ∷ parts) zero q numbered within = let is = numbered.0 in omega (arith, is)
  numbered_get n (part ∷ parts) (suc i) q numbered within = let more = numbered_get (n + 1) parts i q numbered.1 (omega (arith, within)) in omega (arith, more)

  pub goes_behind : (config : Config) (parts rest after : List PartScript) (part : PartScript) (h0 h h' : YardContent D S M) (c0 c c' : Control) (text printed new : List ℕ) → rest ≡ part ∷ after
      → SoFar config parts rest h0 h c0 c text → OnlyOf part.partition h h' → ReadsMore c c' → RunsIn disk store meta config part h h' printed c c' → new ≡ text ++ printed → SoFar config parts after h0 h' c0 c' new
  goes_behind config parts rest after part h0 h h' c0 c c' text printed new steps so only reads adds is =
      let next : AreNumbered (length so.run) (part ∷ after) = subst (AreNumbered (length so.run)) steps so.next in
      let long = length_append so.run (part ∷ []) in
      let number = next.0 in
      record {
        run = so.run ++ part ∷ [];
        all = append_assoc so.run (part ∷ []) after ∙ (ap (λ (l : List PartScript). so.run ++ l) (sym steps) ∙ so.all);
        numbered = numbered_snoc 0 so.run part so.numbered (omega (arith, number));
        next = subst (λ (n : ℕ). AreNumbered n after) (sym long) next.1;
        text_is = text_more config part.partition h0 h h' so.run part text printed new c0 c c' so.numbered (omega (arith, number)) only so.is_observable
            (λ t. so.same t part.partition (omega (arith, number))) so.text_is adds is;
        same = λ t p above.
            let told : IsTrue h.is_observable = subst IsTrue (sym so.is_observable) t in
            same_then p h0 h h' (so.same t p (omega (arith, above, long)))
            (only.others told p (λ same. absurd (let one = ap (λ (q : PartitionId). q.0) same in omega (arith, one, number, above, long))));
        is_observable = only.is_observable ∙ so.is_observable;
        ready = λ t i q within.
            let told : IsTrue h.is_observable = subst IsTrue only.is_observable t in
            let whole : All (λ (r : PartScript). IsReady disk.content store.content meta.content config.brokers h r.partition) (part ∷ after) = subst (All (λ (r : PartScript). IsReady disk.content store.content meta.content config.brokers h r.partition)) steps (so.ready told) in
            let later = numbered_get (length so.run + 1) after i q next.1 within in
            ready_stays config.brokers (get_or after i q).partition h h' (only.others told (get_or after i q).partition (λ same. absurd (let one = ap (λ (r : PartitionId). r.0) same in omega (arith, one, number, later)))) (whole (suc i) q (omega (arith, within)));
        more = more_then c0 c c' so.more reads;
        fit = tail (λ (q : PartScript). AreListsFor config q.lists) part rest after steps so.fit;
        ends = tail StepsToEnds part rest after steps so.ends;
      }
    where
      tail : (P : PartScript → Type 0) (x : PartScript) (xs more : List PartScript) → xs ≡ x ∷ more → All P xs → All P more
      tail P x xs more is all = let whole : All P (x ∷ more) = subst (All P) is all in λ i d within. whole (suc i) d (omega (arith, within))

  -- a partition's devices went out, it was run on them, and they are back
  pub ran : (config : Config) (part : PartScript) (given back : Devices D S M) (reg kept : D) (text : List ℕ) (h0 h1 h2 : YardContent D S M) (c0 c1 c2 : Control)
      → (IsTrue h0.is_observable → IsReady disk.content store.content meta.content config.brokers h0 part.partition)
      → AreAllHanded disk store meta part.partition config.brokers given reg h0 → HandedOut (config.brokers + 3) c0 c1 → OnlyOf part.partition h0 h1 → length back.disks.items ≡ config.brokers
      → IsTextOf disk store meta config part given reg text back kept → CameBack (cames_of disk store meta back kept) c1 c2 → KeepsAll disk.content part.partition back kept h1 h2
      → RunsIn disk store meta config part h0 h2 text c0 c2
  ran config part given back reg kept text h0 h1 h2 c0 c1 c2 ready handed out only many is came keeps = record {
    run = (part.partition.0, is.journal);
    came = cames_of disk store meta back kept;
    is = record {
      partition = refl;
      devices = given;
      registry = reg;
      back = back;
      kept = kept;
      is = is.run;
      came_so = refl;
      handed = handed.hands;
      begun = λ t none. opens_fresh config part.partition config.brokers h0 given reg t (ready t).bare none handed;
      holds = λ t. keeps.here (subst IsTrue keeps.only.is_observable t);
    };
    spelled = is.spelled;
    uses = uses_all (config.brokers + 3) (cames_of disk store meta back kept) c0 c1 c2 (cames_many back kept config.brokers many) out came;
  }
