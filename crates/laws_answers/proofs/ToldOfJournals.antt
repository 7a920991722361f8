-- A journal reports as many faults of each device as its count has risen by since the journal began.
use Rattle.std.proofs.Common.{◌≡◌, inl, inr, ◌∙◌, sym, ap, subst, refl, ℕ, zero, suc, ◌+◌, Bool, true, false, List, [], ◌∷◌, ◌++◌, slice_get, Some, None, Option, arith, eq-eqb}
use Rattle.std.specs.Prelude.{nat_eq, ◌<◌, ◌≤◌, length}
use Rattle.std.proofs.lemmas.Bool.{ne_eqb}
use Rattle.tier_base.specs.Counts.{counted}
use Rattle.tier_base.specs.Device.{Control}
use Rattle.disk_model.specs.Call.{call_code}
use Rattle.disk_model.specs.declared.disk.Disk.{Ghosts as DiskGhosts}
use Rattle.object_store.specs.declared.store.Store.{Ghosts as StoreGhosts}
use Rattle.meta_log.specs.declared.log.MetaLog.{Ghosts as MetaGhosts}
use Rattle.plain_log.specs.declared.answer.Answer.{Answer}
use Rattle.plain_log.specs.declared.command.ActorList.{ActorList}
use Rattle.plain_log.specs.declared.command.Command.{Command}
use Rattle.plain_log.specs.declared.command.Command.TheVariants.{Follow, Join}
use Rattle.plain_log.specs.declared.command.Config.{Config}
use Rattle.plain_log.specs.declared.command.Order.{Order}
use Rattle.plain_log.specs.declared.command.Pace.{Pace}
use Rattle.plain_log.specs.declared.command.Pace.TheVariants.{Until, Times}
use Rattle.plain_log.specs.declared.journal.Event.TheVariants as event
use Rattle.plain_log.specs.declared.journal.JournalEntry.{JournalEntry}
use Rattle.plain_log.specs.Orders.{AreRising, AreListsFor}
use Rattle.plain_log.specs.Runs.{orders_of, order_of}
use Rattle.broker_log.specs.Seen.{LogState, Up, Down, Away, OnDisk, NoFault, OneFault}
use Rattle.laws_partition.specs.declared.start_snapshot.StartSnapshot.{StartSnapshot}
use Rattle.laws_partition.specs.declared.start_snapshot.Turned.TheVariants as turned
use Rattle.laws_partition.specs.Turn.{event_of}
use Rattle.laws_partition.proofs.Lists.{orders_at}
use Rattle.partition_commands.specs.declared.partition_state.Node.{Node}
use Rattle.partition_commands.specs.Disks.{HaveDisks, NoneFails, OneFails, DisksCount}
use Rattle.partition_commands.specs.Faults.{is_of_disk, is_of_store, is_of_meta, after_fault}
use Rattle.partition_commands.proofs.LastingDisks.{disk_then, last_have}
use Rattle.partition_commands.proofs.Shown.{some_at}
use Rattle.partition_world.specs.Answered.{AnswersFaults}
use Rattle.partition_world.specs.Fresh.{IsNewWorld}
use Rattle.partition_world.specs.Reaches.{TakesTurn as GoesOnce, GoesTimes, GoesUntil, Paces, Reaches}
use Rattle.partition_world.specs.ActorStates.{told_of}
use Rattle.partition_world.specs.Turn.{IsTurn}
use Rattle.partition_world.specs.Whole.{Whole}
use Rattle.partition_world.specs.declared.actor_state.Outcome.{Outcome}
use Rattle.partition_world.specs.declared.actor_state.Outcome.TheVariants.{Answers, Begins, Chose, Goes, Seeks, Dates, ChoosesExpired, Deletes, Rebuilds}
use Rattle.partition_world.proofs.LastingRuns.{turn_lasted}
use Rattle.partition_world.proofs.CountingTurns.{turn_answers}
use Rattle.laws_answers.specs.Told.{after_faults, one_if, is_told, count_told, is_broker, count_of, WorksOn, NamesDisk, NameDisks, DisksTold, FaultsAreTold}

-- one entry more

count_snoc : (is : Answer → Bool) (journal : List JournalEntry) (entry : JournalEntry) → count_told is (journal ++ entry ∷ []) ≡ one_if (is_told is entry.event) + count_told is journal
count_snoc is [] entry = refl
count_snoc is (first ∷ journal) entry = let more = count_snoc is journal entry in omega (arith, more)

none_snoc : (is : Answer → Bool) (journal : List JournalEntry) → count_told is (journal ++ []) ≡ count_told is journal
none_snoc is [] = refl
none_snoc is (first ∷ journal) = ap (λ (n : ℕ). one_if (is_told is first.event) + n) (none_snoc is journal)

of_snoc : (b : ℕ) (failed : List (Option ℕ)) (o : Option ℕ) → count_of b (failed ++ o ∷ []) ≡ one_if (is_broker b o) + count_of b failed
of_snoc b [] o = refl
of_snoc b (first ∷ failed) o = let more = of_snoc b failed o in omega (arith, more)

names_snoc : (n : ℕ) (lists : List ActorList) (journal : List JournalEntry) (failed : List (Option ℕ)) (entry : JournalEntry) (o : Option ℕ) → NameDisks n lists journal failed → NamesDisk n lists entry o
    → NameDisks n lists (journal ++ entry ∷ []) (failed ++ o ∷ [])
names_snoc n lists [] [] entry o all one = (one, tt)
names_snoc n lists (first ∷ journal) (p ∷ failed) entry o all one = (all.0, names_snoc n lists journal failed entry o all.1 one)
names_snoc n lists [] (p ∷ failed) entry o all one = absurd all
names_snoc n lists (first ∷ journal) [] entry o all one = absurd all

names_same : (n : ℕ) (lists : List ActorList) (journal : List JournalEntry) (failed : List (Option ℕ)) → NameDisks n lists journal failed → NameDisks n lists (journal ++ []) failed
names_same n lists [] [] all = tt
names_same n lists (first ∷ journal) (p ∷ failed) all = (all.0, names_same n lists journal failed all.1)
names_same n lists [] (p ∷ failed) all = absurd all
names_same n lists (first ∷ journal) [] all = absurd all

-- a count that has risen by one, or not
told_more : (fault : Bool) (total c n mid now : ℕ) → mid ≡ after_faults c n → now ≡ after_fault fault mid → total ≡ one_if fault + c → now ≡ after_faults total n
told_more true total c n mid now was is all =
    let next : total ≡ suc c = omega (arith, all) in
    is ∙ (ap (λ (k : ℕ). counted k 1) was ∙ ap (λ (k : ℕ). after_faults k n) (sym next))
told_more false total c n mid now was is all =
    let same : total ≡ c = omega (arith, all) in
    is ∙ (was ∙ ap (λ (k : ℕ). after_faults k n) (sym same))

-- a broker among those whose disks failed

is_one : (b d total c : ℕ) → d ≡ b → total ≡ one_if (is_broker b (Some d)) + c → total ≡ suc c
is_one b d total c same all = let yes : one_if (nat_eq d b) ≡ 1 = ap one_if (eq-eqb d b same) in omega (arith, all, yes)

is_other : (b d total c : ℕ) → (d ≡ b → ⊥) → total ≡ one_if (is_broker b (Some d)) + c → total ≡ c
is_other b d total c other all = let no : one_if (nat_eq d b) ≡ 0 = ap one_if (ne_eqb d b other) in omega (arith, all, no)

module _ {D : Type 0} (control : D → Control call_code) where
  abbrev ToldAt : ℕ → LogState D → LogState D → Type 0
  ToldAt k x y = OnDisk x (λ d. OnDisk y (λ e. (control e).faults ≡ after_faults k (control d).faults))

  none_at : (total c : ℕ) (x y z : LogState D) → ToldAt c x y → NoFault control y z → total ≡ c → ToldAt total x z
  none_at total c x y z told quiet same =
      disk_then (λ d e. (control e).faults ≡ after_faults c (control d).faults) (λ e f. (control f).faults ≡ (control e).faults) (λ d f. (control f).faults ≡ after_faults total (control d).faults)
      x y z (λ d e f p q. q ∙ (p ∙ ap (λ (k : ℕ). after_faults k (control d).faults) (sym same))) told quiet

  one_at : (total c : ℕ) (x y z : LogState D) → ToldAt c x y → OneFault control y z → total ≡ suc c → ToldAt total x z
  one_at total c x y z told one next =
      disk_then (λ d e. (control e).faults ≡ after_faults c (control d).faults) (λ e f. (control f).faults ≡ counted (control e).faults 1) (λ d f. (control f).faults ≡ after_faults total (control d).faults)
      x y z (λ d e f p q. q ∙ (ap (λ (k : ℕ). counted k 1) p ∙ ap (λ (k : ℕ). after_faults k (control d).faults) (sym next))) told one

  -- no disk has failed since, and this is reported of a broker before these
  told_none : (b : ℕ) (failed more : List (Option ℕ)) → ((k : ℕ) → b ≤ k → count_of k more ≡ count_of k failed) → (xs ys zs : List (Node D)) → DisksTold control b failed xs ys → NoneFails control ys zs → DisksTold control b more xs zs
  told_none b failed more same [] [] [] told none = tt
  told_none b failed more same (x ∷ xs) (y ∷ ys) (z ∷ zs) told none = (
    none_at (count_of b more) (count_of b failed) x.log y.log z.log told.0 none.0 (same b (omega arith)),
    told_none (b + 1) failed more (λ k low. same k (omega (arith, low))) xs ys zs told.1 none.1,
  )
  told_none b failed more same [] [] (z ∷ zs) told none = absurd none
  told_none b failed more same (x ∷ xs) (y ∷ ys) [] told none = absurd none
  told_none b failed more same [] (y ∷ ys) zs told none = absurd told
  told_none b failed more same (x ∷ xs) [] zs told none = absurd told

  -- one has failed, of the broker at a place from this one on
  told_one : (place b d : ℕ) (failed : List (Option ℕ)) → d ≡ b + place → (xs ys zs : List (Node D)) → DisksTold control b failed xs ys → OneFails control place ys zs → DisksTold control b (failed ++ Some d ∷ []) xs zs
  told_one zero b d failed is (x ∷ xs) (y ∷ ys) (z ∷ zs) told one = (
    one_at (count_of b (failed ++ Some d ∷ [])) (count_of b failed) x.log y.log z.log told.0 one.0 (is_one b d _ _ (omega (arith, is)) (of_snoc b failed (Some d))),
    told_none (b + 1) failed (failed ++ Some d ∷ []) (λ k low. is_other k d _ _ (λ same. omega (arith, is, low, same)) (of_snoc k failed (Some d))) xs ys zs told.1 one.1,
  )
  told_one (suc place) b d failed is (x ∷ xs) (y ∷ ys) (z ∷ zs) told one = (
    none_at (count_of b (failed ++ Some d ∷ [])) (count_of b failed) x.log y.log z.log told.0 one.0 (is_other b d _ _ (λ same. omega (arith, is, same)) (of_snoc b failed (Some d))),
    told_one place (b + 1) d failed (omega (arith, is)) xs ys zs told.1 one.1,
  )
  told_one zero b d failed is [] [] zs told one = absurd one
  told_one (suc place) b d failed is [] [] zs told one = absurd one
  told_one zero b d failed is (x ∷ xs) (y ∷ ys) [] told one = absurd one
  told_one (suc place) b d failed is (x ∷ xs) (y ∷ ys) [] told one = absurd one
  told_one place b d failed is [] (y ∷ ys) zs told one = absurd told
  told_one place b d failed is (x ∷ xs) [] zs told one = absurd told

  -- nothing has been reported
  told_nothing : (b : ℕ) (xs : List (Node D)) → HaveDisks xs → DisksTold control b [] xs xs
  told_nothing b [] have = tt
  told_nothing b (x ∷ xs) have = (at x.log have.0, told_nothing (b + 1) xs have.1)
    where
      at : (k : LogState D) → OnDisk k (λ d. Unit {0}) → ToldAt 0 k k
      at (Up l) on = refl
      at (Down i d) on = refl
      at Away on = absurd on

  -- whose disk a turn of the command failed
  abbrev blamed : (command : Command) (b : ℕ) (fault : Bool) (ys zs : List (Node D)) → DisksCount control command b fault ys zs → Option ℕ
  blamed command b false ys zs k = None
  blamed (Follow limit) b true ys zs k = Some k.0
  blamed command b true ys zs k = Some b

  blamed_told : (command : Command) (b : ℕ) (fault : Bool) (failed : List (Option ℕ)) (xs ys zs : List (Node D)) → DisksTold control 0 failed xs ys → (k : DisksCount control command b fault ys zs)
      → DisksTold control 0 (failed ++ blamed command b fault ys zs k ∷ []) xs zs
  blamed_told command b false failed xs ys zs told k = told_none 0 failed (failed ++ None ∷ []) (λ n low. let more = of_snoc n failed None in omega (arith, more)) xs ys zs told k
  blamed_told (Follow limit) b true failed xs ys zs told k = told_one k.0 0 k.0 failed (omega arith) xs ys zs told k.1
  blamed_told command b true failed xs ys zs told k = told_one b 0 b failed (omega arith) xs ys zs told k

  -- it is one of the brokers
  one_within : (place : ℕ) (ys zs : List (Node D)) → OneFails control place ys zs → place < length ys
  one_within zero (y ∷ ys) (z ∷ zs) one = omega arith
  one_within (suc place) (y ∷ ys) (z ∷ zs) one = let low = one_within place ys zs one.1 in omega (arith, low)
  one_within zero [] zs one = absurd one
  one_within (suc place) [] zs one = absurd one
  one_within zero (y ∷ ys) [] one = absurd one
  one_within (suc place) (y ∷ ys) [] one = absurd one

  -- there are as many as before
  told_length : (b : ℕ) (failed : List (Option ℕ)) (xs ys : List (Node D)) → DisksTold control b failed xs ys → length ys ≡ length xs
  told_length b failed [] [] told = refl
  told_length b failed (x ∷ xs) (y ∷ ys) told = let more = told_length (b + 1) failed xs ys told.1 in omega (arith, more)
  told_length b failed [] (y ∷ ys) told = absurd told
  told_length b failed (x ∷ xs) [] told = absurd told

  blamed_names : (P : Option ℕ → Type 0) (n : ℕ) (command : Command) (b : ℕ) (fault : Bool) (ys zs : List (Node D)) → length ys ≡ n → (fault ≡ false → P None)
      → ((d : ℕ) → fault ≡ true → WorksOn n command b d → P (Some d))
      → (k : DisksCount control command b fault ys zs) → P (blamed command b fault ys zs k)
  blamed_names P n command b false ys zs long none some k = none refl
  blamed_names P n (Follow limit) b true ys zs long none some k = some k.0 refl (let low = one_within k.0 ys zs k.1 in omega (arith, low, long))
  blamed_names P n command b true ys zs long none some k = some b refl refl

-- a command that begins isn't answered
begins_told : (is : Answer → Bool) (g : StartSnapshot) (command : Command) → is_told is (event_of (turned.Begins g) command) ≡ false
begins_told is g Join = refl
begins_told is g command = refl

module _ {D S M : Type 0} (disk : DiskGhosts D) (store : StoreGhosts S) (meta : MetaGhosts M) where
  -- so it is since the world before, and each broker has its disk
  record IsSince (w v : Whole D S M) : Type 0 where
    lists : v.lists ≡ w.lists
    rising : AreRising v.lists
    have : HaveDisks v.partition_state.nodes
    told : FaultsAreTold disk store meta w v

  turn_since : (w v : Whole D S M) (a : ℕ) (outcome : Outcome) (u : Whole D S M) → IsTurn disk store meta v a outcome u → IsSince w v → IsSince w u
  turn_since w v a outcome u t s = record {
    lists = t.lists ∙ s.lists;
    rising = subst AreRising (sym t.lists) s.rising;
    have = last_have disk.control v.partition_state.nodes u.partition_state.nodes (turn_lasted disk store meta v a outcome u t s.have).disks;
    told = by outcome (turn_answers disk store meta v a outcome u t s.have) t.entered;
  }
    where
      k : FaultsAreTold disk store meta w v
      k = s.told

      command : Command
      command = t.order.command

      b : ℕ
      b = t.order.broker.0

      brokers : ℕ
      brokers = length w.partition_state.nodes

      -- an entry more, where the turn has counted so
      more : (entry : JournalEntry) (fault stored recorded : Bool) → is_told is_of_disk entry.event ≡ fault → is_told is_of_store entry.event ≡ stored → is_told is_of_meta entry.event ≡ recorded
          → order_of v.lists entry ≡ Some t.order → DisksCount disk.control command b fault v.partition_state.nodes u.partition_state.nodes
          → (store.control u.tier.store).faults ≡ after_fault stored (store.control v.tier.store).faults
          → (meta.control u.tier.meta).faults ≡ after_fault recorded (meta.control v.tier.meta).faults
          → u.journal.items ≡ v.journal.items ++ entry ∷ [] → FaultsAreTold disk store meta w u
      more entry fault stored recorded is_disk is_store is_meta there disks stores metas entered = record {
        failed = k.failed ++ blamed disk.control command b fault v.partition_state.nodes u.partition_state.nodes disks ∷ [];
        are = subst (λ (l : List ActorList). NameDisks brokers l u.journal.items (k.failed ++ blamed disk.control command b fault v.partition_state.nodes u.partition_state.nodes disks ∷ [])) (sym t.lists)
            (subst (λ (j : List JournalEntry). NameDisks brokers v.lists j (k.failed ++ blamed disk.control command b fault v.partition_state.nodes u.partition_state.nodes disks ∷ [])) (sym entered)
            (names_snoc brokers v.lists v.journal.items k.failed entry (blamed disk.control command b fault v.partition_state.nodes u.partition_state.nodes disks) k.are
            (blamed_names disk.control (λ o. NamesDisk brokers v.lists entry o) brokers command b fault v.partition_state.nodes u.partition_state.nodes
            (told_length disk.control 0 k.failed w.partition_state.nodes v.partition_state.nodes k.disks) (λ no. is_disk ∙ no)
            (λ d yes works. (is_disk ∙ yes, some_at (λ (o : Order). WorksOn brokers o.command o.broker.0 d) (order_of v.lists entry) t.order there works)) disks)));
        disks = blamed_told disk.control command b fault k.failed w.partition_state.nodes v.partition_state.nodes u.partition_state.nodes k.disks disks;
        store_told = told_more stored (count_told is_of_store u.journal.items) (count_told is_of_store v.journal.items) (store.control w.tier.store).faults (store.control v.tier.store).faults (store.control u.tier.store).faults k.store_told stores
            (ap (count_told is_of_store) entered ∙ (count_snoc is_of_store v.journal.items entry ∙ ap (λ (f : Bool). one_if f + count_told is_of_store v.journal.items) is_store));
        meta_told = told_more recorded (count_told is_of_meta u.journal.items) (count_told is_of_meta v.journal.items) (meta.control w.tier.meta).faults (meta.control v.tier.meta).faults (meta.control u.tier.meta).faults k.meta_told metas
            (ap (count_told is_of_meta) entered ∙ (count_snoc is_of_meta v.journal.items entry ∙ ap (λ (f : Bool). one_if f + count_told is_of_meta v.journal.items) is_meta));
      }

      -- none
      same : NoneFails disk.control v.partition_state.nodes u.partition_state.nodes → (store.control u.tier.store).faults ≡ (store.control v.tier.store).faults
          → (meta.control u.tier.meta).faults ≡ (meta.control v.tier.meta).faults → u.journal.items ≡ v.journal.items ++ [] → FaultsAreTold disk store meta w u
      same disks stores metas entered = record {
        failed = k.failed;
        are = subst (λ (l : List ActorList). NameDisks brokers l u.journal.items k.failed) (sym t.lists)
            (subst (λ (j : List JournalEntry). NameDisks brokers v.lists j k.failed) (sym entered) (names_same brokers v.lists v.journal.items k.failed k.are));
        disks = told_none disk.control 0 k.failed k.failed (λ n low. refl) w.partition_state.nodes v.partition_state.nodes u.partition_state.nodes k.disks disks;
        store_told = stores ∙ (k.store_told ∙ ap (λ (n : ℕ). after_faults n (store.control w.tier.store).faults) (sym (ap (count_told is_of_store) entered ∙ none_snoc is_of_store v.journal.items)));
        meta_told = metas ∙ (k.meta_told ∙ ap (λ (n : ℕ). after_faults n (meta.control w.tier.meta).faults) (sym (ap (count_told is_of_meta) entered ∙ none_snoc is_of_meta v.journal.items)));
      }

      order_is : slice_get (orders_of v.lists t.list.actor.0) t.actor_state.number ≡ Some t.order
      order_is = ap (λ (l : List Order). slice_get l t.actor_state.number) (orders_at v.lists t.place t.list s.rising t.at.list) ∙ t.next

      by : (o : Outcome) → AnswersFaults disk store meta t.order o v u → u.journal.items ≡ v.journal.items ++ told_of t.list.actor t.actor_state.number t.order.command o → FaultsAreTold disk store meta w u
      by (Answers answer) n entered =
          more (record { actor = t.list.actor; number = t.actor_state.number; event = event.Answers answer }) (is_of_disk answer) (is_of_store answer) (is_of_meta answer) refl refl refl order_is n.disks n.store_counts n.meta_counts entered
      by (Begins g) n entered =
          more (record { actor = t.list.actor; number = t.actor_state.number; event = event_of (turned.Begins g) t.order.command }) false false false
          (begins_told is_of_disk g t.order.command) (begins_told is_of_store g t.order.command) (begins_told is_of_meta g t.order.command) order_is n.disks n.store_counts n.meta_counts entered
      by (Chose copy) n entered = same n.disks n.store_counts n.meta_counts entered
      by (Goes next) n entered = same n.disks n.store_counts n.meta_counts entered
      by (Seeks next) n entered = same n.disks n.store_counts n.meta_counts entered
      by (Dates cursor next) n entered = same n.disks n.store_counts n.meta_counts entered
      by (ChoosesExpired segment) n entered = same n.disks n.store_counts n.meta_counts entered
      by (Deletes next) n entered = same n.disks n.store_counts n.meta_counts entered
      by (Rebuilds next) n entered = same n.disks n.store_counts n.meta_counts entered

  same_since : (w v u : Whole D S M) → u ≡ v → IsSince w v → IsSince w u
  same_since w v u is s = subst (IsSince w) (sym is) s

  goes_since : (w v : Whole D S M) (a : ℕ) (u : Whole D S M) → GoesOnce disk store meta v a u → IsSince w v → IsSince w u
  goes_since w v a u (inl t) s = turn_since w v a t.0 u t.1 s
  goes_since w v a u (inr e) s = same_since w v u e.1 s

  times_since : (w v : Whole D S M) (a turns : ℕ) (u : Whole D S M) → GoesTimes disk store meta v a turns u → IsSince w v → IsSince w u
  times_since w v a zero u g s = same_since w v u g s
  times_since w v a (suc turns) u g s = times_since w g.0 a turns u g.2 (goes_since w v a g.0 g.1 s)

  until_since : (w v : Whole D S M) (a number turns : ℕ) (u : Whole D S M) → GoesUntil disk store meta v a number turns u → IsSince w v → IsSince w u
  until_since w v a number zero u g s = same_since w v u g.1 s
  until_since w v a number (suc turns) u g s = until_since w g.1.0 a number turns u g.1.2 (goes_since w v a g.1.0 g.1.1 s)

  paces_since : (w v : Whole D S M) (pace : Pace) (u : Whole D S M) → Paces disk store meta v pace u → IsSince w v → IsSince w u
  paces_since w v (Until actor number) u g s = until_since w v actor.0 number g.0 u g.1 s
  paces_since w v (Times actor turns) u g s = times_since w v actor.0 turns u g s

  reaches_since : (w v : Whole D S M) (schedule : List Pace) (u : Whole D S M) → Reaches disk store meta v schedule u → IsSince w v → IsSince w u
  reaches_since w v [] u r s = same_since w v u r s
  reaches_since w v (pace ∷ schedule) u r s = reaches_since w r.0 schedule u r.2 (paces_since w v pace r.0 r.1 s)

  -- nothing has been reported in a new world
  new_since : (config : Config) (lists : List ActorList) (w : Whole D S M) → AreListsFor config lists → IsNewWorld lists w → IsSince w w
  new_since config lists w fit f = record {
    lists = refl;
    rising = subst AreRising (sym f.lists_are) fit.rising;
    have = f.disks;
    told = record {
      failed = [];
      are = subst (λ (j : List JournalEntry). NameDisks (length w.partition_state.nodes) w.lists j []) (sym f.journal) tt;
      disks = told_nothing disk.control 0 w.partition_state.nodes f.disks;
      store_told = ap (λ (j : List JournalEntry). after_faults (count_told is_of_store j) (store.control w.tier.store).faults) (sym f.journal);
      meta_told = ap (λ (j : List JournalEntry). after_faults (count_told is_of_meta j) (meta.control w.tier.meta).faults) (sym f.journal);
    };
  }

  pub reaches_told : (config : Config) (lists : List ActorList) (w : Whole D S M) (schedule : List Pace) (w' : Whole D S M) → AreListsFor config lists → IsNewWorld lists w
      → Reaches disk store meta w schedule w' → FaultsAreTold disk store meta w w'
  reaches_told config lists w schedule w' fit f r = (reaches_since w w schedule w' r (new_since config lists w fit f)).told
