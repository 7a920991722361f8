-- The causes of the refusals of an opening, and what comes back with them.
use Rattle.std.proofs.Common.{◌≡◌, ◌≢◌, ◌∙◌, ◌⊎◌, inl, inr, sym, ap, subst, refl, ℕ, List, length, Option, Some, None, Bool, true, false, ◌==◌, arith}
use Rattle.std.specs.Prelude.{Ok, Err, IfOk, IfErr, IsTrue, IsSomeAnd}
use Rattle.std.specs.declared.result.Result.{Result}
use Rattle.std.proofs.lemmas.Bool.Decides.{nat_tests}
use Rattle.tier_base.specs.Counts.{Rose}
use Rattle.tier_base.specs.Device.{Lasts}
use Rattle.tier_base.proofs.Lasting.{lasts_same, lasts_then}
use Rattle.tier_base.specs.declared.fault.Trouble.{Trouble}
use Rattle.tier_base.specs.declared.fault.Trouble.TheVariants as trouble
use Rattle.tier_base.specs.declared.names.PartitionId.{PartitionId}
use Rattle.tier_base.specs.declared.plain.FileName.TheVariants.{Registry as RegistryName}
use Rattle.disk_model.specs.Content.{Keeps as KeepsFiles}
use Rattle.disk_model.specs.declared.disk.Disk.{Ghosts as DiskGhosts}
use Rattle.object_store.specs.declared.store.Store.{Ghosts as StoreGhosts}
use Rattle.meta_log.specs.declared.log.MetaLog.{Ghosts as MetaGhosts}
use Rattle.registry.specs.View.{view_of}
use Rattle.registry.specs.declared.view.RegView.{RegView}
use Rattle.registry_file.specs.Reading.{view_in}
use Rattle.registry_disk.specs.Keeping.{Finds}
use Rattle.registry_disk.specs.declared.refusal.FindRefusal.{FindRefusal}
use Rattle.registry_disk.specs.declared.refusal.FindRefusal.TheVariants as find
use Rattle.plain_log.specs.declared.command.ActorList.{ActorList}
use Rattle.plain_log.specs.declared.command.Config.{Config}
use Rattle.plain_log.specs.declared.state.State.{State}
use Rattle.partition_commands.specs.Fresh.{OneFailed}
use Rattle.partition_commands.specs.declared.refusal.WorldRefusal.{WorldRefusal}
use Rattle.partition_commands.specs.declared.refusal.WorldRefusal.TheVariants as world
use Rattle.cold_start.specs.Opening.{AllLast, Starts, BeginsFromRegistry, OpeningHasCause, DevicesComeBack, IsRegistryRefusal, says, refusal_of_registry, refusal_of_device, refusal_of_world, refusal_of_find}
use Rattle.cold_start.specs.Running.{Running}
use Rattle.cold_start.specs.Stands.{StandsFor, IsBlank}
use Rattle.cold_start.specs.declared.refusal.ColdRefusal.{ColdRefusal}
use Rattle.cold_start.specs.declared.refusal.ColdRefusal.TheVariants.{RegistryFault, BadRegistry, Brokers, NoMemory}
use Rattle.cold_start.proofs.Clearing.{last_same}

-- what holds of a value holds of one that it is reported of
pub if_ok_map : {T E : Type 0} (r : Result T E) (P Q : T → Type 0) → ((x : T) → P x → Q x) → IfOk r P → IfOk r Q
if_ok_map (Ok x) P Q f h = f x h
if_ok_map (Err e) P Q f h = tt

pub if_err_map : {T E : Type 0} (r : Result T E) (P Q : E → Type 0) → ((e : E) → P e → Q e) → IfErr r P → IfErr r Q
if_err_map (Ok x) P Q f h = tt
if_err_map (Err e) P Q f h = f e h

-- what a view says of an opening that asks for another count of brokers, and for the same
pub says_other : (asked : ℕ) (view : RegView) → view.brokers ≢ asked → says asked (Ok view) ≡ Some (Brokers view.brokers asked)
says_other asked view other = go (view.brokers == asked) refl
  where
    go : (t : Bool) → (view.brokers == asked) ≡ t → says asked (Ok view) ≡ Some (Brokers view.brokers asked)
    go true is = absurd (other (grind (arith, nat_tests, is)))
    go false is = rw is refl

pub says_none : (asked : ℕ) (view : RegView) → view.brokers ≡ asked → says asked (Ok view) ≡ None
says_none asked view same = go (view.brokers == asked) refl
  where
    go : (t : Bool) → (view.brokers == asked) ≡ t → says asked (Ok view) ≡ None
    go true is = rw is refl
    go false is = absurd (grind (arith, nat_tests, is, same))

module _ {D M : Type 0} (disk : DiskGhosts D) (meta : MetaGhosts M) where
  -- what the file says ends no opening
  abbrev pub SaysNothing : Config → D → Type 0
  SaysNothing config reg = IsTrue (disk.content reg).is_observable → (bytes : List ℕ) (said : ColdRefusal) → (disk.content reg).files RegistryName ≡ Some bytes → says config.brokers (view_in bytes) ≡ Some said → ⊥

  pub none_says : (config : Config) (reg : D) → (IsTrue (disk.content reg).is_observable → (disk.content reg).files RegistryName ≡ None) → SaysNothing config reg
  none_says config reg none told bytes said there is = let gone = none told in absurd (cc (gone, there))

  pub same_says : (config : Config) (reg : D) (last_read : List ℕ) (view : RegView) → (IsTrue (disk.content reg).is_observable → (disk.content reg).files RegistryName ≡ Some last_read) → view_in last_read ≡ Ok view → view.brokers ≡ config.brokers
      → SaysNothing config reg
  same_says config reg last_read view file read count told bytes said there is =
      let here = file told in
      let one : bytes ≡ last_read = cc (here, there) in
      let nothing : says config.brokers (view_in bytes) ≡ None = ap (λ (b : List ℕ). says config.brokers (view_in b)) one ∙ (ap (says config.brokers) read ∙ says_none config.brokers view count) in
      absurd (cc (nothing, is))

  module _ (config : Config) (disks : List D) (m : M) (reg : D) (nows : List D) (n : M) (r : D) where
    pub device_cause : (why : Trouble) → (why ≡ trouble.Failed → OneFailed disk.control disks nows ⊎ Rose (meta.control m).faults (meta.control n).faults) → SaysNothing config reg
        → OpeningHasCause disk meta config disks m reg nows n r (refusal_of_device why)
    device_cause trouble.Failed failed quiet = record {
      registry_fault = λ is. absurd (cc (is));
      device_fault = λ is. failed refl;
      bad_registry = λ at is. absurd (cc (is));
      brokers = λ kept asked is. absurd (cc (is));
      last_read = λ of. absurd of;
      told = λ yes bytes said there is. absurd (quiet yes bytes said there is);
    }
    device_cause trouble.NoMemory failed quiet = record {
      registry_fault = λ is. absurd (cc (is));
      device_fault = λ is. absurd (cc (is));
      bad_registry = λ at is. absurd (cc (is));
      brokers = λ kept asked is. absurd (cc (is));
      last_read = λ of. absurd of;
      told = λ yes bytes said there is. absurd (quiet yes bytes said there is);
    }

    pub world_cause : (why : WorldRefusal) → (why ≡ world.DiskFault → OneFailed disk.control disks nows) → SaysNothing config reg → OpeningHasCause disk meta config disks m reg nows n r (refusal_of_world why)
    world_cause world.DiskFault failed quiet = device_cause trouble.Failed (λ is. inl (failed refl)) quiet
    world_cause world.NoMemory failed quiet = device_cause trouble.NoMemory (λ is. absurd (cc (is))) quiet

    pub memory_cause : SaysNothing config reg → OpeningHasCause disk meta config disks m reg nows n r NoMemory
    memory_cause quiet = device_cause trouble.NoMemory (λ is. absurd (cc (is))) quiet

    pub registry_cause : (why : ColdRefusal) → (why ≡ RegistryFault) ⊎ (why ≡ NoMemory) → (why ≡ RegistryFault → Rose (disk.control reg).faults (disk.control r).faults) → SaysNothing config reg
        → OpeningHasCause disk meta config disks m reg nows n r why
    registry_cause why (inl is) failed quiet = record {
      registry_fault = failed;
      device_fault = λ other. absurd (cc (is, other));
      bad_registry = λ at other. absurd (cc (is, other));
      brokers = λ kept asked other. absurd (cc (is, other));
      last_read = λ of. absurd (subst IsRegistryRefusal is of);
      told = λ yes bytes said there so. absurd (quiet yes bytes said there so);
    }
    registry_cause why (inr is) failed quiet = record {
      registry_fault = failed;
      device_fault = λ other. absurd (cc (is, other));
      bad_registry = λ at other. absurd (cc (is, other));
      brokers = λ kept asked other. absurd (cc (is, other));
      last_read = λ of. absurd (subst IsRegistryRefusal is of);
      told = λ yes bytes said there so. absurd (quiet yes bytes said there so);
    }

  -- another count of brokers
  pub count_cause : (config : Config) (disks : List D) (m : M) (reg : D) (view : RegView) → view_in (disk.control reg).last_read ≡ Ok view
      → (IsTrue (disk.content reg).is_observable → (disk.content reg).files RegistryName ≡ Some (disk.control reg).last_read) → view.brokers ≢ config.brokers
      → OpeningHasCause disk meta config disks m reg disks m reg (Brokers view.brokers config.brokers)
  count_cause config disks m reg view read file other =
      let is : says config.brokers (view_in (disk.control reg).last_read) ≡ Some (Brokers view.brokers config.brokers) = ap (says config.brokers) read ∙ says_other config.brokers view other in
      record {
        registry_fault = λ so. absurd (cc (so));
        device_fault = λ so. absurd (cc (so));
        bad_registry = λ at so. absurd (cc (so));
        brokers = λ kept asked so. is;
        last_read = λ of. file;
        told = λ yes bytes said there so.
            let here = file yes in
            let one : bytes ≡ (disk.control reg).last_read = cc (here, there) in
            let told_so : says config.brokers (view_in (disk.control reg).last_read) ≡ Some said = subst (λ (b : List ℕ). says config.brokers (view_in b) ≡ Some said) one so in
            inl (cc (is, told_so));
      }

  -- the file couldn't be read, or says nothing
  pub find_cause : (config : Config) (disks : List D) (m : M) (reg r : D) (why : FindRefusal) → Finds (disk.content reg) (disk.control reg) (disk.control r) (Err why)
      → OpeningHasCause disk meta config disks m reg disks m r (refusal_of_find why)
  find_cause config disks m reg r find.Fault finds = record {
    registry_fault = λ is. finds;
    device_fault = λ is. absurd (cc (is));
    bad_registry = λ at is. absurd (cc (is));
    brokers = λ kept asked is. absurd (cc (is));
    last_read = λ of. absurd of;
    told = λ yes bytes said there is. inr (inl refl);
  }
  find_cause config disks m reg r (find.Bad at) finds =
      let says_so : says config.brokers (view_in (disk.control r).last_read) ≡ Some (BadRegistry at) = ap (says config.brokers) finds.0 in
      record {
        registry_fault = λ is. absurd (cc (is));
        device_fault = λ is. absurd (cc (is));
        bad_registry = λ a is. says_so;
        brokers = λ kept asked is. absurd (cc (is));
        last_read = λ of. finds.1;
        told = λ yes bytes said there is.
            let here = finds.1 yes in
            let one : bytes ≡ (disk.control r).last_read = cc (here, there) in
            let told_so : says config.brokers (view_in (disk.control r).last_read) ≡ Some said = subst (λ (b : List ℕ). says config.brokers (view_in b) ≡ Some said) one is in
            inl (cc (says_so, told_so));
      }
  find_cause config disks m reg r find.NoMemory finds = record {
    registry_fault = λ is. absurd (cc (is));
    device_fault = λ is. absurd (cc (is));
    bad_registry = λ at is. absurd (cc (is));
    brokers = λ kept asked is. absurd (cc (is));
    last_read = λ of. absurd of;
    told = λ yes bytes said there is. inr (inr refl);
  }

  -- the registry's disk was only read since
  pub cause_read : (config : Config) (disks : List D) (m : M) (old reg : D) (nows : List D) (n : M) (r : D) (why : ColdRefusal) → KeepsFiles (disk.content old) (disk.content reg) → Lasts (disk.control old) (disk.control reg)
      → OpeningHasCause disk meta config disks m reg nows n r why → OpeningHasCause disk meta config disks m old nows n r why
  cause_read config disks m old reg nows n r why k lasts h = record {
    registry_fault = λ is. (let more = lasts.never_falls in let rose = h.registry_fault is in omega (arith, more, rose));
    device_fault = h.device_fault;
    bad_registry = h.bad_registry;
    brokers = h.brokers;
    last_read = λ of yes. sym (k.files RegistryName) ∙ h.last_read of (subst IsTrue (sym k.is_observable) yes);
    told = λ yes bytes said there is. h.told (subst IsTrue (sym k.is_observable) yes) bytes said (k.files RegistryName ∙ there) is;
  }

module _ {D S M : Type 0} (disk : DiskGhosts D) (meta : MetaGhosts M) where
  pub back_read : (disks : List D) (s : S) (m : M) (old reg : D) (nows : List D) (t : S) (n : M) (r : D) (why : ColdRefusal) → Lasts (disk.control old) (disk.control reg) → DevicesComeBack disk meta disks s m reg nows t n r why
      → DevicesComeBack disk meta disks s m old nows t n r why
  back_read disks s m old reg nows t n r why lasts h = record {
    count = h.count;
    registry = lasts_then (disk.control old) (disk.control reg) (disk.control r) lasts h.registry;
    disks_last = h.disks_last;
    store_same = h.store_same;
    notes_last = h.notes_last;
  }

  -- all but the registry's disk is as it was
  pub back_same : (disks : List D) (s : S) (m : M) (reg r : D) (why : ColdRefusal) → Lasts (disk.control reg) (disk.control r) → DevicesComeBack disk meta disks s m reg disks s m r why
  back_same disks s m reg r why lasts = record {
    count = refl;
    registry = lasts;
    disks_last = λ is. last_same disk.control disks;
    store_same = λ is. refl;
    notes_last = λ is. lasts_same (meta.control m);
  }

  -- disks and metadata events some calls later
  pub back_last : (disks : List D) (s : S) (m : M) (reg : D) (nows : List D) (t : S) (n : M) (why : ColdRefusal) → length nows ≡ length disks → AllLast disk.control disks nows → t ≡ s → Lasts (meta.control m) (meta.control n)
      → DevicesComeBack disk meta disks s m reg nows t n reg why
  back_last disks s m reg nows t n why count last same notes = record {
    count = count;
    registry = lasts_same (disk.control reg);
    disks_last = λ is. last;
    store_same = λ is. same;
    notes_last = λ is. notes;
  }

  -- no device failed
  pub back_armed : (disks : List D) (s : S) (m : M) (reg : D) (nows : List D) (t : S) (n : M) (r : D) (why : ColdRefusal) → (why ≡ RegistryFault) ⊎ (why ≡ NoMemory) → length nows ≡ length disks → Lasts (disk.control reg) (disk.control r)
      → DevicesComeBack disk meta disks s m reg nows t n r why
  back_armed disks s m reg nows t n r why (inl is) count lasts =
      record { count = count; registry = lasts; disks_last = λ other. absurd (cc (is, other)); store_same = λ other. absurd (cc (is, other)); notes_last = λ other. absurd (cc (is, other)) }
  back_armed disks s m reg nows t n r why (inr is) count lasts =
      record { count = count; registry = lasts; disks_last = λ other. absurd (cc (is, other)); store_same = λ other. absurd (cc (is, other)); notes_last = λ other. absurd (cc (is, other)) }

-- a registry's fault, or running out of memory
pub registry_only : (why : Trouble) → (refusal_of_registry why ≡ RegistryFault) ⊎ (refusal_of_registry why ≡ NoMemory)
registry_only trouble.Failed = inl refl
registry_only trouble.NoMemory = inr refl

pub registry_failed : (why : Trouble) → refusal_of_registry why ≡ RegistryFault → why ≡ trouble.Failed
registry_failed trouble.Failed is = refl
registry_failed trouble.NoMemory is = absurd (cc (is))

pub registry_dry : (why : Trouble) → refusal_of_registry why ≡ NoMemory → why ≡ trouble.NoMemory
registry_dry trouble.Failed is = absurd (cc (is))
registry_dry trouble.NoMemory is = refl

module _ {D S M : Type 0} (disk : DiskGhosts D) (store : StoreGhosts S) (meta : MetaGhosts M) where
  -- what devices represent, and what an opening comes to, where the registry's disk was only read
  pub stands_read : (partition : PartitionId) (disks : List D) (s : S) (m : M) (old reg : D) (p : State) → KeepsFiles (disk.content old) (disk.content reg) → StandsFor disk store meta partition disks s m old p
      → StandsFor disk store meta partition disks s m reg p
  stands_read partition disks s m old reg p k h = record {
    file_tells = subst IsTrue (sym k.is_observable) h.file_tells;
    file = subst (λ (o : Option (List ℕ)). IsSomeAnd o (λ bytes. view_in bytes ≡ Ok (view_of p.registry))) (sym (k.files RegistryName)) h.file;
    stand = h.stand;
  }

  pub blank_read : (s : S) (m : M) (old reg : D) → KeepsFiles (disk.content old) (disk.content reg) → IsBlank disk store meta s m old → IsBlank disk store meta s m reg
  blank_read s m old reg k b = record {
    file_tells = subst IsTrue (sym k.is_observable) b.file_tells;
    file = k.files RegistryName ∙ b.file;
    store_tells = b.store_tells;
    objects = b.objects;
    meta_tells = b.meta_tells;
    notes = b.notes;
  }

  pub starts_read : (partition : PartitionId) (config : Config) (lists : List ActorList) (disks : List D) (s : S) (m : M) (old reg : D) (t : Running D S M) → KeepsFiles (disk.content old) (disk.content reg)
      → Starts disk store meta partition config lists disks s m reg t → Starts disk store meta partition config lists disks s m old t
  starts_read partition config lists disks s m old reg t k h = record {
    none = λ told. sym (k.files RegistryName) ∙ h.none (subst IsTrue (sym k.is_observable) told);
    cleared = h.cleared;
    disks_last = h.disks_last;
    recorded = h.recorded;
    notes = h.notes;
    notes_last = h.notes_last;
    fresh = h.fresh;
  }

  pub continues_read : (partition : PartitionId) (config : Config) (lists : List ActorList) (disks : List D) (s : S) (m : M) (old reg : D) (t : Running D S M) → KeepsFiles (disk.content old) (disk.content reg)
      → BeginsFromRegistry disk store meta partition config lists disks s m reg t → BeginsFromRegistry disk store meta partition config lists disks s m old t
  continues_read partition config lists disks s m old reg t k h = record {
    view = h.view;
    read = h.read;
    there = λ told. sym (k.files RegistryName) ∙ h.there (subst IsTrue (sym k.is_observable) told);
    count = h.count;
    recorded = h.recorded;
    notes = h.notes;
    notes_last = h.notes_last;
    reopened = h.reopened;
  }
