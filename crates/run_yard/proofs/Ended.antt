-- What a world that was run to its end says of its journal.
use Rattle.std.proofs.Common.{◌≡◌, inl, inr, ◌∙◌, sym, ap, subst, refl, ℕ, zero, suc, List, [], ◌∷◌, ◌++◌, length, slice_get, Some, arith}
use Rattle.std.specs.Prelude.{◌⊎◌, ◌<◌, All, IsTrue, Result, Ok, Err, OnOk, IfOk, IfErr}
use Rattle.std.proofs.lemmas.Option.{get_or_from_slice_get, slice_get_within}
use Rattle.tier_base.specs.declared.names.PartitionId.{PartitionId}
use Rattle.disk_model.specs.declared.disk.Disk.{Ghosts as DiskGhosts}
use Rattle.object_store.specs.declared.store.Store.{Ghosts as StoreGhosts}
use Rattle.meta_log.specs.declared.log.MetaLog.{Ghosts as MetaGhosts}
use Rattle.plain_log.specs.declared.command.ActorList.{ActorList}
use Rattle.plain_log.specs.declared.command.Config.{Config}
use Rattle.plain_log.specs.declared.command.Pace.{Pace}
use Rattle.plain_log.specs.declared.command.Pace.TheVariants.{Until}
use Rattle.plain_log.specs.Fresh.{fresh}
use Rattle.plain_log.specs.Orders.{AreListsFor, AreRising}
use Rattle.plain_log.specs.Runs.{IsComplete, replay}
use Rattle.plain_log.specs.Safe.{PlainSafe}
use Rattle.plain_log.specs.declared.state.State.{State}
use Rattle.plain_log.specs.Laws.{FreshIsSafe}
use Rattle.plain_log.proofs.Grows.{replay_led, replay_runs}
use Rattle.laws_answers.specs.LawsOfDamage.{RunsMeetNoDamage}
use Rattle.laws_answers.specs.LawsOfFaults.{ReachesCounted}
use Rattle.laws_answers.proofs.ToldOfJournals.{reaches_told}
use Rattle.partition_commands.specs.Fresh.{DisksTell}
use Rattle.partition_world.specs.Whole.{Whole}
use Rattle.partition_world.specs.declared.tier.Devices.{Devices}
use Rattle.partition_world.specs.Turn.{IsAtEnd}
use Rattle.partition_world.specs.Left.{IsCentralLeft}
use Rattle.partition_world.specs.Fresh.{IsNewWorld}
use Rattle.partition_world.proofs.LeftLaw.{left_is_central}
use Rattle.cold_state.specs.Cold.{cold_of}
use Rattle.cold_start.specs.ColdWorld.{plain_in}
use Rattle.cold_start.specs.Moments.{RunsThrough}
use Rattle.cold_start.specs.Opening.{IsPartitionOpened, OpeningHasCause, DevicesComeBack}
use Rattle.cold_start.specs.Stepping.{HaltsSteps}
use Rattle.cold_start.specs.declared.refusal.ColdRefusal.{ColdRefusal}
use Rattle.cold_start.specs.declared.refusal.ColdRefusal.TheVariants as cold
use Rattle.run_yard.specs.Refusals.{IsRunRefused}
use Rattle.cold_start.specs.Running.{Running}
use Rattle.cold_start.specs.Stands.{StandsFor, IsBlank}
use Rattle.partition_world.specs.InTurn.{IsInTurn}
use Rattle.partition_world.specs.Laws.{EndsAreAnswered, ReachesLater, ReachesInTurn}
use Rattle.partition_world.specs.Reaches.{GoesUntil, HasAnswered, Reaches}
use Rattle.laws_partition.proofs.Lists.{one_list}
use Rattle.partition_world.proofs.LaterLaw.{all_ended}
use Rattle.script_lang.specs.Fit.{StepsTo, StepsToEnds}
use Rattle.script_lang.specs.declared.script.PartScript.{PartScript}
use Rattle.run_yard.specs.Opens.{MayBeginIn}
use Rattle.run_yard.specs.Run.{IsSafeRun, AreDevicesOf, IsRunOver}

-- what holds of all holds of the one that is at a place
all_at : {A : Type 0} (P : A → Type 0) (xs : List A) (i : ℕ) (x : A) → All P xs → slice_get xs i ≡ Some x → P x
all_at P xs i x h at = subst P (get_or_from_slice_get xs i x x at) (h i x (slice_get_within xs i x at))

-- what an answer comes to, where two clauses say of it
pub ok_both : {T E : Type 0} (r : Result T E) (A : Type 0) (P Q : T → Type 0) → OnOk r A → IfOk r P → ((x : T) → A → P x → Q x) → IfOk r Q
ok_both (Ok x) A P Q a p both = both x a p
ok_both (Err e) A P Q a p both = tt

module _ {D S M : Type 0} (disk : DiskGhosts D) (store : StoreGhosts S) (meta : MetaGhosts M) where
  -- a schedule in two parts
  reaches_split : (w : Whole D S M) (before after : List Pace) (w' : Whole D S M) → Reaches disk store meta w (before ++ after) w' → (v : Whole D S M) × Reaches disk store meta w before v × Reaches disk store meta v after w'
  reaches_split w [] after w' r = (w, refl, r)
  reaches_split w (pace ∷ before) after w' r =
      let rest = reaches_split r.0 before after w' r.2 in
      (rest.0, (r.0, r.1, rest.1), rest.2)

  -- who was stepped until it had answered so many of its commands has
  until_answered : (w : Whole D S M) (a number turns : ℕ) (w' : Whole D S M) → GoesUntil disk store meta w a number turns w' → HasAnswered w' a number
  until_answered w a number zero w' g = subst (λ (k : Whole D S M). HasAnswered k a number) (sym g.1) g.0
  until_answered w a number (suc turns) w' g = until_answered g.1.0 a number turns w' g.1.2

  -- where the schedule steps the actor of a list to its end, it comes there
  stepped_to_end : (w : Whole D S M) (schedule : List Pace) (w' : Whole D S M) (place : ℕ) (l : ActorList) → ReachesLater disk store meta → AreRising w.lists → slice_get w.lists place ≡ Some l
      → Reaches disk store meta w schedule w' → StepsTo schedule l.actor (length l.orders) → IsAtEnd w' l.actor.0
  stepped_to_end w schedule w' place l law rising at r s =
      let parts = reaches_split w s.before (Until l.actor (length l.orders) ∷ s.after) w' (subst (λ (k : List Pace). Reaches disk store meta w k w') s.parts r) in
      let v : Whole D S M = parts.0 in
      let u : Whole D S M = parts.2.0 in
      let lists : u.lists ≡ w.lists =
      (law v (Until l.actor (length l.orders) ∷ []) u (u, parts.2.1, refl)).lists ∙ (law w s.before v parts.1).lists in
      let answered = until_answered v l.actor.0 (length l.orders) parts.2.1.0 u parts.2.1.1 in
      (law u s.after w' parts.2.2).ends l.actor.0 (λ i m actor_state is.
      let old : slice_get w.lists i ≡ Some m = ap (λ (k : List ActorList). slice_get k i) (sym lists) ∙ is.list in
      let one : i ≡ place = one_list w.lists i place m l rising old at is.actor in
      let same : m ≡ l = cc (old, at, ap (λ (k : ℕ). slice_get w.lists k) one) in
      elim (answered i m actor_state is) [
        | inl many ↦ let long : length m.orders ≡ length l.orders = ap (λ (k : ActorList). length k.orders) same in omega (arith, many, long)
        | inr many ↦ many
      ])

  -- each actor of a world that was run by its partition's schedule is at its end
  all_at_end : (config : Config) (part : PartScript) (w w' : Whole D S M) → ReachesLater disk store meta → AreListsFor config part.lists → StepsToEnds part
      → IsNewWorld part.lists w → Reaches disk store meta w part.schedule w' → (a : ℕ) → IsAtEnd w' a
  all_at_end config part w w' goes fit ends f reaches =
      let lists = part.lists in
      let later = goes w part.schedule w' reaches in
      all_ended disk store meta w' (λ place l at.
      let old : slice_get w.lists place ≡ Some l = ap (λ (k : List ActorList). slice_get k place) (sym later.lists) ∙ at in
      let here : slice_get lists place ≡ Some l = ap (λ (k : List ActorList). slice_get k place) (sym f.lists_are) ∙ old in
      stepped_to_end w part.schedule w' place l goes (subst AreRising (sym f.lists_are) fit.rising) old reaches
      (all_at (λ (m : ActorList). StepsTo part.schedule m.actor (length m.orders)) lists place l ends here))

  -- it is a run of the plain log from each state for which the world had the central fact
  log_of : (p : State) (part : PartScript) (w w' : Whole D S M) → RunsMeetNoDamage disk store meta → PlainSafe p → IsNewWorld part.lists w → IsCentralLeft disk store meta p w → (c : IsCentralLeft disk store meta p w')
      → w'.lists ≡ part.lists → Reaches disk store meta w part.schedule w' → IsSafeRun p part.lists w'.journal.items
  log_of p part w w' undamaged begun new was c its reaches =
      let last = plain_in disk store meta p w' c in
      let leads : replay part.lists p w'.journal.items ≡ Some last =
      subst (λ (k : List ActorList). replay k p w'.journal.items ≡ Some last) its (c (meta.content w'.tier.meta).notes (inl refl)).central.replays in
      record {
        last = last;
        replays = leads;
        safe = (c (meta.content w'.tier.meta).notes (inl refl)).central.safe;
        led = replay_led part.lists p w'.journal.items last leads begun;
        committed = λ clean. replay_runs part.lists p w'.journal.items last leads begun clean;
        undamaged = undamaged p part.lists w part.schedule w' new (left_is_central disk store meta p w was) reaches;
      }

  -- the partition of an open world
  pub opened_there : (partition : PartitionId) (config : Config) (lists : List ActorList) (disks : List D) (s : S) (m : M) (reg : D) (t : Running D S M) → IsPartitionOpened disk store meta partition config lists disks s m reg t
      → t.world.partition ≡ partition
  opened_there partition config lists disks s m reg t (inl starts) = starts.fresh.partition_is
  opened_there partition config lists disks s m reg t (inr goes) = goes.reopened.partition_is

  pub opened_config : (partition : PartitionId) (config : Config) (lists : List ActorList) (disks : List D) (s : S) (m : M) (reg : D) (t : Running D S M) → IsPartitionOpened disk store meta partition config lists disks s m reg t
      → t.world.config ≡ config
  opened_config partition config lists disks s m reg t (inl starts) = starts.fresh.config_is
  opened_config partition config lists disks s m reg t (inr goes) = goes.reopened.config_is

  -- a state in which a run may begin has the safety rules
  opens_safe : (config : Config) (partition : PartitionId) (devices : Devices D S M) (reg : D) (p : State) → FreshIsSafe → MayBeginIn disk store meta partition config devices reg p → PlainSafe p
  opens_safe config partition devices reg p opens (inl stands) = (stands.stand (meta.content devices.meta).notes (inl refl)).safe
  opens_safe config partition devices reg p opens (inr blank) = subst PlainSafe (sym blank.state) (opens config)

  opens_told : (config : Config) (partition : PartitionId) (devices : Devices D S M) (reg : D) (p : State) → MayBeginIn disk store meta partition config devices reg p → IsTrue (disk.content reg).is_observable
  opens_told config partition devices reg p (inl stands) = stands.file_tells
  opens_told config partition devices reg p (inr blank) = blank.blank.file_tells

  opens_central : (config : Config) (partition : PartitionId) (devices : Devices D S M) (reg : D) (w : Whole D S M) (p : State)
      → ((q : State) → StandsFor disk store meta partition devices.disks.items devices.store devices.meta reg q → IsCentralLeft disk store meta q w)
      → (DisksTell disk.content devices.disks.items → IsBlank disk store meta devices.store devices.meta reg → IsCentralLeft disk store meta (fresh config) w)
      → MayBeginIn disk store meta partition config devices reg p → IsCentralLeft disk store meta p w
  opens_central config partition devices reg w p central blank (inl stands) = central p stands
  opens_central config partition devices reg w p central blank (inr none) = subst (λ (q : State). IsCentralLeft disk store meta q w) (sym none.state) (blank none.disks_tell none.blank)

  -- the journal of a world that was run by its schedule is that of a run of its partition
  pub is_run : (config : Config) (part : PartScript) (devices back : Devices D S M) (reg kept : D) (t t' : Running D S M) → EndsAreAnswered disk store meta → ReachesLater disk store meta → ReachesInTurn disk store meta
      → FreshIsSafe → RunsMeetNoDamage disk store meta → ReachesCounted disk store meta → AreListsFor config part.lists → StepsToEnds part
      → IsPartitionOpened disk store meta part.partition config part.lists devices.disks.items devices.store devices.meta reg t → IsNewWorld part.lists t.world
      → ((p : State) → StandsFor disk store meta part.partition devices.disks.items devices.store devices.meta reg p → IsCentralLeft disk store meta p t.world)
      → (DisksTell disk.content devices.disks.items → IsBlank disk store meta devices.store devices.meta reg → IsCentralLeft disk store meta (fresh config) t.world)
      → (disk.content t'.reg).is_observable ≡ (disk.content reg).is_observable
      → Reaches disk store meta t.world part.schedule t'.world → RunsThrough disk store meta t t' → AreDevicesOf disk store meta t'.world back.disks.items back.store back.meta → kept ≡ t'.reg → length back.disks.items ≡ config.brokers
      → (IsTrue (disk.content t'.reg).is_observable → (opening : State) (c : IsCentralLeft disk store meta opening t'.world)
      → StandsFor disk store meta t'.world.partition back.disks.items back.store back.meta kept (cold_of (plain_in disk store meta opening t'.world c)))
      → IsRunOver disk store meta config part devices reg t'.world.journal.items back kept
  unfolding log_of
  is_run config part devices back reg kept t t' answers goes turns opens undamaged counted fit ends is new central blank is_observable reaches through its kept_is many closing =
      let lists = part.lists in
      let w = t.world in
      let w' = t'.world in
      let later = goes w part.schedule w' reaches in
      let same : w'.lists ≡ lists = later.lists ∙ new.lists_are in
      let there : w'.partition ≡ part.partition = later.partition ∙ opened_there part.partition config lists devices.disks.items devices.store devices.meta reg t is in
      let first : (p : State) → MayBeginIn disk store meta part.partition config devices reg p → IsCentralLeft disk store meta p w = λ p at. opens_central config part.partition devices reg w p central blank at in
      let last : (p : State) → MayBeginIn disk store meta part.partition config devices reg p → IsCentralLeft disk store meta p w' = λ p at. later.left p (first p at) in
      record {
        first = t;
        last = t';
        starts = is;
        reaches = reaches;
        through = through;
        its = refl;
        orderly = record {
          complete = subst (λ (k : List ActorList). IsComplete k w'.journal.items) same (answers config lists w part.schedule w' fit new reaches (all_at_end config part w w' goes fit ends new reaches));
          in_turn = subst (λ (k : List ActorList). IsInTurn k w'.journal.items) same (turns config lists w part.schedule w' fit new reaches);
        };
        its_devices = its;
        its_registry = kept_is;
        count = many;
        counted = counted config lists w part.schedule w' fit new reaches;
        told = reaches_told disk store meta config lists w part.schedule w' fit new reaches;
        log_run = λ p at. log_of p part w w' undamaged (opens_safe config part.partition devices reg p opens at) new (first p at) (last p at) same reaches;
        central = last;
        stand = λ p at. subst (λ (q : PartitionId). StandsFor disk store meta q back.disks.items back.store back.meta kept (cold_of (plain_in disk store meta p w' (last p at)))) there
            (closing (subst IsTrue (sym is_observable) (opens_told config part.partition devices reg p at)) p (last p at));
      }

-- what an answer comes to, where three clauses say of it
pub ok_more : {T E : Type 0} (r : Result T E) (A B : Type 0) (P Q : T → Type 0) → OnOk r A → OnOk r B → IfOk r P → ((x : T) → A → B → P x → Q x) → IfOk r Q
ok_more (Ok x) A B P Q a b p all = all x a b p
ok_more (Err e) A B P Q a b p all = tt

module _ {D S M : Type 0} (disk : DiskGhosts D) (store : StoreGhosts S) (meta : MetaGhosts M) where
  -- a run that was refused on its way
  halted : (asked : ℕ) (devices back : Devices D S M) (reg kept : D) (t t' : Running D S M) (why : ColdRefusal) → kept ≡ t'.reg → HaltsSteps disk store meta t t' why → IsRunRefused disk meta asked devices reg back kept why
  halted asked devices back reg kept t t' why is (inl none) = subst (IsRunRefused disk meta asked devices reg back kept) (sym none.0) tt
  halted asked devices back reg kept t t' why is (inr (w, later, ends, either)) = by ends.only
    where
      by : (why ≡ cold.RegistryFault) ⊎ (why ≡ cold.NoMemory) → IsRunRefused disk meta asked devices reg back kept why
      by (inl fault) =
          let rose = ends.cause fault in
          subst (IsRunRefused disk meta asked devices reg back kept) (sym fault) (subst (λ (d : D). 0 < (disk.control d).faults) (sym is) (omega (arith, rose)))
      by (inr none) = subst (IsRunRefused disk meta asked devices reg back kept) (sym none) tt

  pub refused_run : {T : Type 0} (asked : ℕ) (devices : Devices D S M) (reg : D) (back : Devices D S M) (kept : D) (t t' : Running D S M) (r : Result T ColdRefusal) → kept ≡ t'.reg
      → IfErr r (λ why. HaltsSteps disk store meta t t' why) → IfErr r (λ why. IsRunRefused disk meta asked devices reg back kept why)
  refused_run asked devices reg back kept t t' (Ok x) is h = tt
  refused_run asked devices reg back kept t t' (Err why) is h = halted asked devices back reg kept t t' why is h

  -- or that wasn't opened
  pub refused_open : (config : Config) (devices back : Devices D S M) (reg kept : D) (why : ColdRefusal) → OpeningHasCause disk meta config devices.disks.items devices.meta reg back.disks.items back.meta kept why
      → DevicesComeBack disk meta devices.disks.items devices.store devices.meta reg back.disks.items back.store back.meta kept why → IsRunRefused disk meta config.brokers devices reg back kept why
  refused_open config devices back reg kept cold.RegistryFault cause comes = let rose = cause.registry_fault refl in omega (arith, rose)
  refused_open config devices back reg kept cold.DeviceFault cause comes = record { disks = comes.disks_last refl; notes = comes.notes_last refl; one = cause.device_fault refl }
  refused_open config devices back reg kept (cold.BadRegistry at) cause comes = record { says = cause.bad_registry at refl; file = λ t. cause.last_read tt t }
  refused_open config devices back reg kept (cold.Brokers k a) cause comes = record { says = cause.brokers k a refl; file = λ t. cause.last_read tt t }
  refused_open config devices back reg kept cold.NoMemory cause comes = tt
