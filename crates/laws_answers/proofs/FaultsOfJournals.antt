-- Each fault that a journal reports has been counted by its device since the journal began.
use Rattle.std.proofs.Common.{◌≡◌, inl, inr, ◌∙◌, sym, ap, subst, refl, ℕ, zero, suc, List, [], ◌∷◌, ◌++◌, slice_get, Some, None, Option, IsSomeAnd}
use Rattle.std.specs.List.{AllByRecursion}
use Rattle.tier_base.specs.Device.{Control}
use Rattle.disk_model.specs.Call.{call_code}
use Rattle.disk_model.specs.declared.disk.Disk.{Ghosts as DiskGhosts}
use Rattle.object_store.specs.declared.store.Store.{Ghosts as StoreGhosts}
use Rattle.meta_log.specs.declared.log.MetaLog.{Ghosts as MetaGhosts}
use Rattle.plain_log.specs.declared.answer.Answer.{Answer}
use Rattle.plain_log.specs.declared.answer.Answer.TheVariants.{DiskFault, DiskFaultAt, StoreFault, MetaFault}
use Rattle.plain_log.specs.declared.command.ActorList.{ActorList}
use Rattle.plain_log.specs.declared.command.Command.{Command}
use Rattle.plain_log.specs.declared.command.Command.TheVariants.{Follow, Join}
use Rattle.plain_log.specs.declared.command.Config.{Config}
use Rattle.plain_log.specs.declared.command.Order.{Order}
use Rattle.plain_log.specs.declared.command.Pace.{Pace}
use Rattle.plain_log.specs.declared.command.Pace.TheVariants.{Until, Times}
use Rattle.plain_log.specs.declared.journal.Event.TheVariants as event
use Rattle.plain_log.specs.declared.journal.JournalEntry.{JournalEntry}
use Rattle.plain_log.specs.Orders.{AreRising, AreListsFor}
use Rattle.plain_log.specs.Runs.{orders_of, order_of}
use Rattle.laws_partition.specs.declared.start_snapshot.StartSnapshot.{StartSnapshot}
use Rattle.laws_partition.specs.declared.start_snapshot.Turned.TheVariants as turned
use Rattle.laws_partition.specs.Turn.{event_of}
use Rattle.laws_partition.proofs.Lists.{orders_at}
use Rattle.partition_commands.specs.declared.partition_state.PartitionState.{PartitionState}
use Rattle.partition_commands.specs.Disks.{DisksLast, DiskFails}
use Rattle.partition_commands.proofs.LastingDisks.{rose_from, rose_on, FailsFor, last_have, fails_after, fails_before}
use Rattle.partition_commands.proofs.Shown.{some_at}
use Rattle.partition_commands.proofs.Told.{Told, told_map}
use Rattle.partition_world.specs.Fresh.{IsNewWorld}
use Rattle.partition_world.specs.Lasting.{HaveLasted}
use Rattle.partition_world.specs.Reaches.{TakesTurn as GoesOnce, GoesTimes, GoesUntil, Paces, Reaches}
use Rattle.partition_world.specs.ActorStates.{told_of}
use Rattle.partition_world.specs.Turn.{IsTurn}
use Rattle.partition_world.specs.Whole.{Whole}
use Rattle.partition_world.specs.declared.actor_state.Outcome.{Outcome}
use Rattle.partition_world.specs.declared.actor_state.Outcome.TheVariants.{Answers, Begins, Chose, Goes, Seeks, Dates, ChoosesExpired, Deletes, Rebuilds}
use Rattle.partition_world.proofs.Begins.{IsRow, row_of}
use Rattle.partition_world.proofs.LastingRuns.{lasted_then, turn_lasted, reaches_lasting}
use Rattle.partition_world.proofs.LastingTurns.{Leaving, turn_lasts}
use Rattle.partition_world.proofs.TurnsTold.{TurnTold, StoreRose, MetaRose}
use Rattle.laws_answers.specs.Counted.{DiskFailedFor, FailedAs, IsFaultCounted, FaultsAreCounted}

-- what holds of all entries, and of one more
all_more : (P : JournalEntry → Type 0) (entries : List JournalEntry) (entry : JournalEntry) → AllByRecursion P entries → P entry → AllByRecursion P (entries ++ entry ∷ [])
all_more P [] entry all one = (one, tt)
all_more P (first ∷ entries) entry all one = (all.0, all_more P entries entry all.1 one)

all_same : (P : JournalEntry → Type 0) (entries : List JournalEntry) → AllByRecursion P entries → AllByRecursion P (entries ++ [])
all_same P [] all = tt
all_same P (first ∷ entries) all = (all.0, all_same P entries all.1)

all_map : (P Q : JournalEntry → Type 0) (entries : List JournalEntry) → ((entry : JournalEntry) → P entry → Q entry) → AllByRecursion P entries → AllByRecursion Q entries
all_map P Q [] to all = tt
all_map P Q (entry ∷ entries) to all = (to entry all.0, all_map P Q entries to all.1)

some_map : {A : Type 0} (P Q : A → Type 0) (o : Option A) → ((x : A) → P x → Q x) → IsSomeAnd o P → IsSomeAnd o Q
some_map P Q None to h = h
some_map P Q (Some x) to h = to x h

-- a command that begins isn't answered
begins_no : (g : StartSnapshot) (command : Command) (answer : Answer) → event_of (turned.Begins g) command ≡ event.Answers answer → ⊥
begins_no g Join answer is = absurd cc
begins_no g command answer is = absurd cc

module _ {D : Type 0} (control : D → Control call_code) where
  -- a fault before other calls, and after others

  for_before : (command : Command) (h h' h'' : PartitionState D) (b : ℕ) → FailsFor control command h b h' → DisksLast control h'.nodes h''.nodes → FailsFor control command h b h''
  for_before (Follow limit) h h' h'' b fails lasts = (fails.0, fails_before control fails.0 h.nodes h'.nodes h''.nodes fails.1 lasts)
  for_before command h h' h'' b fails lasts = fails_before control b h.nodes h'.nodes h''.nodes fails lasts

  for_after : (command : Command) (h h' h'' : PartitionState D) (b : ℕ) → DisksLast control h.nodes h'.nodes → FailsFor control command h' b h'' → FailsFor control command h b h''
  for_after (Follow limit) h h' h'' b lasts fails = (fails.0, fails_after control fails.0 h.nodes h'.nodes h''.nodes lasts fails.1)
  for_after command h h' h'' b lasts fails = fails_after control b h.nodes h'.nodes h''.nodes lasts fails

module _ {D S M : Type 0} (disk : DiskGhosts D) (store : StoreGhosts S) (meta : MetaGhosts M) where
  -- what is reported of a fault of a command, from the one world to the other
  abbrev Tells : Whole D S M → Whole D S M → Order → Answer → Type 0
  Tells w v order answer =
      Told (FailsFor disk.control order.command w.partition_state order.broker.0 v.partition_state) (DiskFails disk.control order.broker.0 w.partition_state v.partition_state)
      (StoreRose store w.tier.store v.tier.store) (MetaRose meta w.tier.meta v.tier.meta) answer

  -- and of an entry
  abbrev EntryTells : Whole D S M → Whole D S M → JournalEntry → Type 0
  EntryTells w v entry = IsSomeAnd (order_of w.lists entry) (λ order. (answer : Answer) → entry.event ≡ event.Answers answer → Tells w v order answer)

  -- the devices have lasted since the world before, and each fault that is reported is counted
  record IsSince (w v : Whole D S M) : Type 0 where
    lists : v.lists ≡ w.lists
    rising : AreRising v.lists
    devices : HaveLasted disk store meta w v
    journal : AllByRecursion (EntryTells w v) v.journal.items

  tells_on : (w v u : Whole D S M) (order : Order) (answer : Answer) → HaveLasted disk store meta v u → Tells w v order answer → Tells w u order answer
  tells_on w v u order answer k t =
      told_map (FailsFor disk.control order.command w.partition_state order.broker.0 v.partition_state) (DiskFails disk.control order.broker.0 w.partition_state v.partition_state)
      (StoreRose store w.tier.store v.tier.store) (MetaRose meta w.tier.meta v.tier.meta) (FailsFor disk.control order.command w.partition_state order.broker.0 u.partition_state) (DiskFails disk.control order.broker.0 w.partition_state u.partition_state)
      (StoreRose store w.tier.store u.tier.store) (MetaRose meta w.tier.meta u.tier.meta) answer
      (λ fails. for_before disk.control order.command w.partition_state v.partition_state u.partition_state order.broker.0 fails k.disks)
      (λ fails. fails_before disk.control order.broker.0 w.partition_state.nodes v.partition_state.nodes u.partition_state.nodes fails k.disks)
      (λ rose. rose_on (store.control w.tier.store).faults (store.control v.tier.store).faults (store.control u.tier.store).faults rose k.store_lasts.never_falls)
      (λ rose. rose_on (meta.control w.tier.meta).faults (meta.control v.tier.meta).faults (meta.control u.tier.meta).faults rose k.meta_lasts.never_falls) t

  tells_now : (w v u : Whole D S M) (order : Order) (answer : Answer) → HaveLasted disk store meta w v → Tells v u order answer → Tells w u order answer
  tells_now w v u order answer k t =
      told_map (FailsFor disk.control order.command v.partition_state order.broker.0 u.partition_state) (DiskFails disk.control order.broker.0 v.partition_state u.partition_state)
      (StoreRose store v.tier.store u.tier.store) (MetaRose meta v.tier.meta u.tier.meta) (FailsFor disk.control order.command w.partition_state order.broker.0 u.partition_state) (DiskFails disk.control order.broker.0 w.partition_state u.partition_state)
      (StoreRose store w.tier.store u.tier.store) (MetaRose meta w.tier.meta u.tier.meta) answer
      (λ fails. for_after disk.control order.command w.partition_state v.partition_state u.partition_state order.broker.0 k.disks fails)
      (λ fails. fails_after disk.control order.broker.0 w.partition_state.nodes v.partition_state.nodes u.partition_state.nodes k.disks fails)
      (λ rose. rose_from (store.control w.tier.store).faults (store.control v.tier.store).faults (store.control u.tier.store).faults k.store_lasts.never_falls rose)
      (λ rose. rose_from (meta.control w.tier.meta).faults (meta.control v.tier.meta).faults (meta.control u.tier.meta).faults k.meta_lasts.never_falls rose) t

  turn_since : (w v : Whole D S M) (a : ℕ) (outcome : Outcome) (u : Whole D S M) → IsTurn disk store meta v a outcome u → IsSince w v → IsSince w u
  turn_since w v a outcome u t s = record {
    lists = t.lists ∙ s.lists;
    rising = subst AreRising (sym t.lists) s.rising;
    devices = lasted_then disk store meta w v u s.devices lasts;
    journal = subst (AllByRecursion (EntryTells w u)) (sym t.entered) (told outcome k.1);
  }
    where
      r : IsRow disk store meta v.partition v.config v.partition_state v.tier t.order.broker.0 t.actor_state.in_progress t.order.command outcome u.partition_state u.tier
      r = row_of disk store meta v.partition v.config v.partition_state v.tier t.order.broker.0 t.actor_state.in_progress t.order.command outcome u.partition_state u.tier t.row

      k : Leaving disk store meta (FailsFor disk.control t.order.command v.partition_state t.order.broker.0 u.partition_state) v.partition_state t.order.broker.0 v.tier outcome u.partition_state u.tier
      k = turn_lasts disk store meta v.partition v.config v.partition_state v.tier t.order.broker.0 r.x r.broker_tier t.actor_state.in_progress t.order.command outcome u.partition_state u.tier r.at r.row

      lasts : HaveLasted disk store meta v u
      lasts = turn_lasted disk store meta v a outcome u t (last_have disk.control w.partition_state.nodes v.partition_state.nodes s.devices.disks)

      was : AllByRecursion (EntryTells w u) v.journal.items
      was = all_map (EntryTells w v) (EntryTells w u) v.journal.items
          (λ entry e. some_map _ _ (order_of w.lists entry) (λ order f answer is. tells_on w v u order answer lasts (f answer is)) e) s.journal

      order_is : slice_get (orders_of w.lists t.list.actor.0) t.actor_state.number ≡ Some t.order
      order_is =
          ap (λ (l : List ActorList). slice_get (orders_of l t.list.actor.0) t.actor_state.number) (sym s.lists)
          ∙ (ap (λ (l : List Order). slice_get l t.actor_state.number) (orders_at v.lists t.place t.list s.rising t.at.list) ∙ t.next)

      told : (o : Outcome) → TurnTold (FailsFor disk.control t.order.command v.partition_state t.order.broker.0 u.partition_state) (DiskFails disk.control t.order.broker.0 v.partition_state u.partition_state) (StoreRose store v.tier.store u.tier.store) (MetaRose meta v.tier.meta u.tier.meta) o
          → AllByRecursion (EntryTells w u) (v.journal.items ++ told_of t.list.actor t.actor_state.number t.order.command o)
      told (Answers answer) q =
          all_more (EntryTells w u) v.journal.items _ was
          (some_at (λ order. (one : Answer) → event.Answers answer ≡ event.Answers one → Tells w u order one) _ t.order order_is
          (λ one is. let same : answer ≡ one = cc (is) in subst (λ (k : Answer). Tells w u t.order k) same (tells_now w v u t.order answer s.devices q)))
      told (Begins g) q =
          all_more (EntryTells w u) v.journal.items _ was
          (some_at (λ order. (one : Answer) → event_of (turned.Begins g) t.order.command ≡ event.Answers one → Tells w u order one) _ t.order order_is
          (λ one is. absurd (begins_no g t.order.command one is)))
      told (Chose copy) q = all_same (EntryTells w u) v.journal.items was
      told (Goes next) q = all_same (EntryTells w u) v.journal.items was
      told (Seeks next) q = all_same (EntryTells w u) v.journal.items was
      told (Dates cursor next) q = all_same (EntryTells w u) v.journal.items was
      told (ChoosesExpired segment) q = all_same (EntryTells w u) v.journal.items was
      told (Deletes next) q = all_same (EntryTells w u) v.journal.items was
      told (Rebuilds next) q = all_same (EntryTells w u) v.journal.items was

  same_since : (w v u : Whole D S M) → u ≡ v → IsSince w v → IsSince w u
  same_since w v u is s = subst (IsSince w) (sym is) s

  goes_since : (w v : Whole D S M) (a : ℕ) (u : Whole D S M) → GoesOnce disk store meta v a u → IsSince w v → IsSince w u
  goes_since w v a u (inl t) s = turn_since w v a t.0 u t.1 s
  goes_since w v a u (inr e) s = same_since w v u e.1 s

  times_since : (w v : Whole D S M) (a turns : ℕ) (u : Whole D S M) → GoesTimes disk store meta v a turns u → IsSince w v → IsSince w u
  times_since w v a zero u g s = same_since w v u g s
  times_since w v a (suc turns) u g s = times_since w g.0 a turns u g.2 (goes_since w v a g.0 g.1 s)

  until_since : (w v : Whole D S M) (a number turns : ℕ) (u : Whole D S M) → GoesUntil disk store meta v a number turns u → IsSince w v → IsSince w u
  until_since w v a number zero u g s = same_since w v u g.1 s
  until_since w v a number (suc turns) u g s = until_since w g.1.0 a number turns u g.1.2 (goes_since w v a g.1.0 g.1.1 s)

  paces_since : (w v : Whole D S M) (pace : Pace) (u : Whole D S M) → Paces disk store meta v pace u → IsSince w v → IsSince w u
  paces_since w v (Until actor number) u g s = until_since w v actor.0 number g.0 u g.1 s
  paces_since w v (Times actor turns) u g s = times_since w v actor.0 turns u g s

  reaches_since : (w v : Whole D S M) (schedule : List Pace) (u : Whole D S M) → Reaches disk store meta v schedule u → IsSince w v → IsSince w u
  reaches_since w v [] u r s = same_since w v u r s
  reaches_since w v (pace ∷ schedule) u r s = reaches_since w r.0 schedule u r.2 (paces_since w v pace r.0 r.1 s)

  -- nothing has been reported in a new world

  new_since : (config : Config) (lists : List ActorList) (w : Whole D S M) → AreListsFor config lists → IsNewWorld lists w → IsSince w w
  new_since config lists w fit f = record {
    lists = refl;
    rising = subst AreRising (sym f.lists_are) fit.rising;
    devices = reaches_lasting disk store meta lists w [] w f refl;
    journal = subst (AllByRecursion (EntryTells w w)) (sym f.journal) tt;
  }

  -- what is reported is what the definitions say

  failed_as : (w v : Whole D S M) (order : Order) (answer : Answer) → Tells w v order answer → FailedAs disk store meta order answer w v
  failed_as w v order DiskFault t = go order.command t
    where
      go : (command : Command) → FailsFor disk.control command w.partition_state order.broker.0 v.partition_state → DiskFailedFor disk command order.broker.0 w v
      go (Follow limit) fails = fails
      go command fails = fails
  failed_as w v order (DiskFaultAt n) t = t
  failed_as w v order StoreFault t = t
  failed_as w v order MetaFault t = t
  failed_as w v order other t = tt

  pub reaches_counted : (config : Config) (lists : List ActorList) (w : Whole D S M) (schedule : List Pace) (w' : Whole D S M) → AreListsFor config lists → IsNewWorld lists w
      → Reaches disk store meta w schedule w' → FaultsAreCounted disk store meta w w'
  reaches_counted config lists w schedule w' fit f r =
      let k = reaches_since w w schedule w' r (new_since config lists w fit f) in
      all_map (EntryTells w w') (IsFaultCounted disk store meta w w') w'.journal.items
      (λ entry e.
      subst (λ (l : List ActorList). IsSomeAnd (order_of l entry) (λ order. (answer : Answer) → entry.event ≡ event.Answers answer → FailedAs disk store meta order answer w w')) (sym k.lists)
      (some_map _ _ (order_of w.lists entry) (λ order g answer is. failed_as w w' order answer (g answer is)) e)) k.journal
