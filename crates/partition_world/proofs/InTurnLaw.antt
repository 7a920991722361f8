-- Over any devices each turn continues with its actor's next command, and begins none that has begun.
use Rattle.std.proofs.Common.{◌≡◌, ◌≢◌, inl, inr, ◌⊎◌, ◌∙◌, sym, ap, subst, refl, ℕ, zero, suc, ◌+◌, ◌<◌, ◌≤◌, ◌==◌, Bool, true, false, List, [], ◌∷◌, ◌++◌, length, replicate, Some, Option, IsSomeAnd, is_some, slice_get, slice_set, if◌then◌else◌, arith}
use Rattle.log_terms.proofs.Lists.{get-set, look, within, length-slice_set}
use Rattle.tier_base.specs.declared.names.ActorId.{ActorId}
use Rattle.disk_model.specs.declared.disk.Disk.{Ghosts as DiskGhosts}
use Rattle.object_store.specs.declared.store.Store.{Ghosts as StoreGhosts}
use Rattle.meta_log.specs.declared.log.MetaLog.{Ghosts as MetaGhosts}
use Rattle.plain_log.specs.declared.command.ActorList.{ActorList}
use Rattle.plain_log.specs.declared.command.Command.{Command}
use Rattle.plain_log.specs.declared.command.Command.TheVariants.{Join}
use Rattle.plain_log.specs.declared.command.Config.{Config}
use Rattle.plain_log.specs.declared.command.Order.{Order}
use Rattle.plain_log.specs.declared.command.Pace.{Pace}
use Rattle.plain_log.specs.declared.command.Pace.TheVariants.{Until, Times}
use Rattle.plain_log.specs.declared.journal.JournalEntry.{JournalEntry}
use Rattle.plain_log.specs.Orders.{AreRising, AreListsFor}
use Rattle.plain_log.specs.Runs.{orders_of, answered, number_before, numbers_from, IsComplete}
use Rattle.plain_log.specs.declared.journal.Event.{Event}
use Rattle.plain_log.specs.declared.journal.Event.TheVariants as event
use Rattle.laws_partition.specs.declared.start_snapshot.StartSnapshot.{StartSnapshot}
use Rattle.laws_partition.specs.declared.start_snapshot.Turned.TheVariants as turned
use Rattle.laws_partition.specs.Turn.{event_of}
use Rattle.laws_partition.proofs.BoolTests.{some_of, eq_same, eq_differs}
use Rattle.laws_partition.proofs.FreshSound.{length_replicate}
use Rattle.laws_partition.proofs.Lists.{one_list, orders_at, list_or_none}
use Rattle.partition_world.specs.Fresh.{IsNewWorld, fresh_actor_state}
use Rattle.partition_world.specs.InTurn.{entries_of, next_after, AreInTurn, IsInTurn}
use Rattle.partition_world.specs.Reaches.{TakesTurn as GoesOnce, GoesTimes, GoesUntil, Paces, Reaches}
use Rattle.partition_world.specs.Turn.{IsTurn, IsAtEnd}
use Rattle.partition_world.specs.Whole.{Whole}
use Rattle.partition_world.specs.declared.actor_state.Outcome.{Outcome}
use Rattle.partition_world.specs.declared.actor_state.Outcome.TheVariants.{Answers, Begins, Chose, Goes, Seeks, Dates, ChoosesExpired, Deletes, Rebuilds}
use Rattle.partition_world.specs.declared.actor_state.ActorState.{ActorState}
use Rattle.partition_world.specs.declared.actor_state.InProgress.TheVariants.{Idle}
use Rattle.partition_world.specs.ActorStates.{actor_state_after, told_of, recorded_in}
use Rattle.partition_world.specs.Turns.{TurnRow}
use Rattle.partition_world.proofs.Begins.{begins_idle}
use Rattle.partition_world.proofs.WorldSound.{chosen_seen, moved_seen, sought_seen, dated_seen, expired_segment_seen, deleting_seen, rebuilding_seen}
use Rattle.partition_commands.proofs.Shown.{some_at}

-- the entries lead from the n-th command, which has begun or not, to the m-th one, which has or not
abbrev LeadTo : ℕ → ℕ → Bool → List JournalEntry → ℕ → Bool → Type 0
LeadTo count n snapshot [] m going = (n ≡ m) × (snapshot ≡ going)
LeadTo count n snapshot (entry ∷ entries) m going = (entry.number ≡ n) × (n < count)
    × IsSomeAnd (next_after entry.event n snapshot) (λ next. LeadTo count next.0 next.1 entries m going)

in_turn : (count n : ℕ) (snapshot : Bool) (entries : List JournalEntry) (m : ℕ) (going : Bool) → LeadTo count n snapshot entries m going → AreInTurn count n snapshot entries
in_turn count n snapshot [] m going l = tt
in_turn count n snapshot (entry ∷ entries) m going l =
    let next = some_of _ (next_after entry.event n snapshot) l.2 in
    (l.0, l.1, some_at (λ k. AreInTurn count k.0 k.1 entries) (next_after entry.event n snapshot) next.0 next.1 (in_turn count next.0.0 next.0.1 entries m going next.2))

-- one entry more
lead_more : (count n : ℕ) (snapshot : Bool) (entries : List JournalEntry) (m : ℕ) (going : Bool) (entry : JournalEntry) (k : ℕ) (left : Bool) → LeadTo count n snapshot entries m going
    → entry.number ≡ m → m < count → next_after entry.event m going ≡ Some (k, left) → LeadTo count n snapshot (entries ++ entry ∷ []) k left
lead_more count n snapshot [] m going entry k left l is low next =
    let now : next_after entry.event n snapshot ≡ Some (k, left) =
    ap (λ (i : ℕ). next_after entry.event i snapshot) l.0 ∙ (ap (λ (b : Bool). next_after entry.event m b) l.1 ∙ next) in
    (is ∙ sym l.0, omega (arith, l.0, low), some_at (λ next. (next.0 ≡ k) × (next.1 ≡ left)) (next_after entry.event n snapshot) (k, left) now (refl, refl))
lead_more count n snapshot (first ∷ entries) m going entry k left l is low next =
    let after = some_of _ (next_after first.event n snapshot) l.2 in
    (l.0, l.1, some_at (λ i. LeadTo count i.0 i.1 (entries ++ entry ∷ []) k left) (next_after first.event n snapshot) after.0 after.1 (lead_more count after.0.0 after.0.1 entries m going entry k left after.2 is low next))

-- the actor's entries with one more, and those of another
entries_more : (a : ℕ) (journal : List JournalEntry) (entry : JournalEntry) → entry.actor.0 ≡ a → entries_of a (journal ++ entry ∷ []) ≡ entries_of a journal ++ entry ∷ []
entries_more a [] entry is = rw (eq_same entry.actor.0 a is) refl
entries_more a (first ∷ journal) entry is = go (first.actor.0 == a) (entries_more a journal entry is)
  where
    go : (t : Bool) → entries_of a (journal ++ entry ∷ []) ≡ entries_of a journal ++ entry ∷ []
        → (if t then first ∷ entries_of a (journal ++ entry ∷ []) else entries_of a (journal ++ entry ∷ [])) ≡ (if t then first ∷ entries_of a journal else entries_of a journal) ++ entry ∷ []
    go true h = ap (λ (l : List JournalEntry). first ∷ l) h
    go false h = h

entries_same : (a : ℕ) (journal : List JournalEntry) (entry : JournalEntry) → entry.actor.0 ≢ a → entries_of a (journal ++ entry ∷ []) ≡ entries_of a journal
entries_same a [] entry differs = rw (eq_differs entry.actor.0 a differs) refl
entries_same a (first ∷ journal) entry differs = ap (λ (l : List JournalEntry). if first.actor.0 == a then first ∷ l else l) (entries_same a journal entry differs)

-- the actor's commands that a journal answers, from the n-th one on to below the m-th
record AnswersTo (count n m : ℕ) (numbers : List ℕ) : Type 0 where
  many : ℕ
  sum : n + many ≡ m
  low : m ≤ count
  are : numbers ≡ numbers_from n many

-- entries that lead so far answer the commands before
lead_answers : (a count n : ℕ) (snapshot : Bool) (journal : List JournalEntry) (m : ℕ) (going : Bool) → n ≤ count → LeadTo count n snapshot (entries_of a journal) m going → AnswersTo count n m (answered a journal)
lead_answers a count n snapshot [] m going low l = record { many = 0; sum = omega (arith, l.0); low = omega (arith, l.0, low); are = refl }
lead_answers a count n snapshot (entry ∷ journal) m going low l = go (entry.actor.0 == a) (λ k left le h. lead_answers a count k left journal m going le h) l
  where
    one : (e : Event) (was : Bool) (number : ℕ) → number ≡ n → n < count
        → ((k : ℕ) (left : Bool) → k ≤ count → LeadTo count k left (entries_of a journal) m going → AnswersTo count k m (answered a journal))
        → IsSomeAnd (next_after e n was) (λ next. LeadTo count next.0 next.1 (entries_of a journal) m going)
        → AnswersTo count n m (number_before e number (answered a journal))
    one (event.Begins cut) false number is lt rest h = rest n true low h
    one (event.Begins cut) true number is lt rest h = absurd h
    one (event.Answers answer) was number is lt rest h =
        let r = rest (n + 1) false (omega (arith, lt)) h in
        record { many = suc r.many; sum = omega (arith, r.sum); low = r.low; are = ap (λ (k : ℕ). k ∷ answered a journal) is ∙ ap (λ (k : List ℕ). n ∷ k) r.are }

    go : (t : Bool) → ((k : ℕ) (left : Bool) → k ≤ count → LeadTo count k left (entries_of a journal) m going → AnswersTo count k m (answered a journal))
        → LeadTo count n snapshot (if t then entry ∷ entries_of a journal else entries_of a journal) m going
        → AnswersTo count n m (if t then number_before entry.event entry.number (answered a journal) else answered a journal)
    go true rest h = one entry.event snapshot entry.number h.0 h.1 rest h.2
    go false rest h = rest n snapshot low h

-- the command has begun
abbrev is_going : ActorState → Bool
is_going actor_state = is_some (recorded_in actor_state.in_progress)

-- what a turn enters leads to what it makes of its state
record Enters (actor : ActorId) (actor_state : ActorState) (command : Command) (outcome : Outcome) : Type 0 where
  event : Event
  told : told_of actor actor_state.number command outcome ≡ record { actor = actor; number = actor_state.number; event = event } ∷ []
  next : next_after event actor_state.number (is_going actor_state) ≡ Some ((actor_state_after actor_state outcome).number, is_going (actor_state_after actor_state outcome))

-- a turn that enters nothing leaves the actor's state at its command, which continues
record IsSilent (actor : ActorId) (actor_state : ActorState) (command : Command) (outcome : Outcome) : Type 0 where
  told : told_of actor actor_state.number command outcome ≡ []
  number : (actor_state_after actor_state outcome).number ≡ actor_state.number
  going : is_going (actor_state_after actor_state outcome) ≡ is_going actor_state

begin_next : (actor_state : ActorState) (command : Command) (g : StartSnapshot) → actor_state.in_progress ≡ Idle → next_after (event_of (turned.Begins g) command) actor_state.number (is_going actor_state) ≡ Some (actor_state.number, true)
begin_next actor_state Join g idle = rw idle refl
begin_next actor_state command g idle = rw idle refl

enters : (actor : ActorId) (actor_state : ActorState) (command : Command) (outcome : Outcome) → ((g : StartSnapshot) → outcome ≡ Begins g → actor_state.in_progress ≡ Idle)
    → Enters actor actor_state command outcome ⊎ IsSilent actor actor_state command outcome
enters actor actor_state command (Answers answer) idle = inl (record { event = event.Answers answer; told = refl; next = refl })
enters actor actor_state command (Begins g) idle =
    inl (record { event = event_of (turned.Begins g) command; told = refl; next = begin_next actor_state command g (idle g refl) })
enters actor actor_state command (Chose copy) idle = inr (record { told = refl; number = refl; going = ap (λ (o : Option StartSnapshot). is_some o) (chosen_seen actor_state.in_progress copy) })
enters actor actor_state command (Goes next) idle = inr (record { told = refl; number = refl; going = ap (λ (o : Option StartSnapshot). is_some o) (moved_seen actor_state.in_progress next) })
enters actor actor_state command (Seeks next) idle = inr (record { told = refl; number = refl; going = ap (λ (o : Option StartSnapshot). is_some o) (sought_seen actor_state.in_progress next) })
enters actor actor_state command (Dates cursor next) idle =
    inr (record { told = refl; number = refl; going = ap (λ (o : Option StartSnapshot). is_some o) (dated_seen actor_state.in_progress cursor next) })
enters actor actor_state command (ChoosesExpired segment) idle = inr (record { told = refl; number = refl; going = ap (λ (o : Option StartSnapshot). is_some o) (expired_segment_seen actor_state.in_progress segment) })
enters actor actor_state command (Deletes next) idle = inr (record { told = refl; number = refl; going = ap (λ (o : Option StartSnapshot). is_some o) (deleting_seen actor_state.in_progress next) })
enters actor actor_state command (Rebuilds next) idle = inr (record { told = refl; number = refl; going = ap (λ (o : Option StartSnapshot). is_some o) (rebuilding_seen actor_state.in_progress next) })

-- each actor's entries lead to its state; one without orders has none
record IsOrderly {D S M : Type 0} (w : Whole D S M) : Type 0 where
  rising : AreRising w.lists
  actor_states : length w.desk ≡ length w.lists
  each : (place : ℕ) (l : ActorList) (actor_state : ActorState) → slice_get w.lists place ≡ Some l → slice_get w.desk place ≡ Some actor_state
      → LeadTo (length l.orders) 0 false (entries_of l.actor.0 w.journal.items) actor_state.number (is_going actor_state)
  none : (a : ℕ) → orders_of w.lists a ≡ [] → entries_of a w.journal.items ≡ []

append_none : (entries : List JournalEntry) → entries ++ [] ≡ entries
append_none [] = refl
append_none (entry ∷ entries) = ap (λ (l : List JournalEntry). entry ∷ l) (append_none entries)

module _ {D S M : Type 0} (disk : DiskGhosts D) (store : StoreGhosts S) (meta : MetaGhosts M) where
  -- what a turn does to its actor's entries, and to those of the others
  record Leads (w : Whole D S M) (outcome : Outcome) (w' : Whole D S M) (list : ActorList) (actor_state : ActorState) : Type 0 where
    mine : LeadTo (length list.orders) 0 false (entries_of list.actor.0 w'.journal.items) (actor_state_after actor_state outcome).number (is_going (actor_state_after actor_state outcome))
    others : (b : ℕ) → list.actor.0 ≢ b → entries_of b w'.journal.items ≡ entries_of b w.journal.items

  turn_leads : (w : Whole D S M) (a : ℕ) (outcome : Outcome) (w' : Whole D S M) (t : IsTurn disk store meta w a outcome w') → IsOrderly w → Leads w outcome w' t.list t.actor_state
  turn_leads w a outcome w' t o = go (enters t.list.actor t.actor_state t.order.command outcome idle)
    where
      idle : (g : StartSnapshot) → outcome ≡ Begins g → t.actor_state.in_progress ≡ Idle
      idle g is =
          begins_idle disk store meta w.partition w.config w.partition_state w.tier t.order.broker.0 t.actor_state.in_progress t.order.command g w'.partition_state w'.tier
          (subst (λ (k : Outcome). TurnRow disk store meta w.partition w.config w.partition_state w.tier t.order.broker.0 t.actor_state.in_progress t.order.command k w'.partition_state w'.tier) is t.row)

      was : LeadTo (length t.list.orders) 0 false (entries_of t.list.actor.0 w.journal.items) t.actor_state.number (is_going t.actor_state)
      was = o.each t.place t.list t.actor_state t.at.list t.at.actor_state_is

      low : t.actor_state.number < length t.list.orders
      low = within t.list.orders t.actor_state.number t.order t.next

      go : Enters t.list.actor t.actor_state t.order.command outcome ⊎ IsSilent t.list.actor t.actor_state t.order.command outcome → Leads w outcome w' t.list t.actor_state
      go (inl e) =
          let entry : JournalEntry = record { actor = t.list.actor; number = t.actor_state.number; event = e.event } in
          let entered : w'.journal.items ≡ w.journal.items ++ entry ∷ [] = t.entered ∙ ap (λ (k : List JournalEntry). w.journal.items ++ k) e.told in
          record {
            mine =
                let more = lead_more (length t.list.orders) 0 false (entries_of t.list.actor.0 w.journal.items) t.actor_state.number (is_going t.actor_state) entry (actor_state_after t.actor_state outcome).number (is_going (actor_state_after t.actor_state outcome)) was refl low e.next in
                let all : entries_of t.list.actor.0 w'.journal.items ≡ entries_of t.list.actor.0 w.journal.items ++ entry ∷ [] =
                ap (λ (k : List JournalEntry). entries_of t.list.actor.0 k) entered ∙ entries_more t.list.actor.0 w.journal.items entry refl in
                subst (λ (k : List JournalEntry). LeadTo (length t.list.orders) 0 false k (actor_state_after t.actor_state outcome).number (is_going (actor_state_after t.actor_state outcome))) (sym all) more;
            others = λ b differs. ap (λ (k : List JournalEntry). entries_of b k) entered ∙ entries_same b w.journal.items entry differs;
          }
      go (inr e) =
          let entered : w'.journal.items ≡ w.journal.items = t.entered ∙ (ap (λ (k : List JournalEntry). w.journal.items ++ k) e.told ∙ append_none w.journal.items) in
          record {
            mine = rw (entered, e.number, e.going) was;
            others = λ b differs. ap (λ (k : List JournalEntry). entries_of b k) entered;
          }

  turn_orderly : (w : Whole D S M) (a : ℕ) (outcome : Outcome) (w' : Whole D S M) → IsTurn disk store meta w a outcome w' → IsOrderly w → IsOrderly w'
  turn_orderly w a outcome w' t o = record {
    rising = subst AreRising (sym t.lists) o.rising;
    actor_states = ap (λ (k : List ActorState). length k) t.desk ∙ (length-slice_set w.desk t.place (actor_state_after t.actor_state outcome) ∙ (o.actor_states ∙ ap (λ (k : List ActorList). length k) (sym t.lists)));
    each = each;
    none = none;
  }
    where
      leads : Leads w outcome w' t.list t.actor_state
      leads = turn_leads w a outcome w' t o

      low : t.actor_state.number < length t.list.orders
      low = within t.list.orders t.actor_state.number t.order t.next

      each : (place : ℕ) (l : ActorList) (actor_state : ActorState) → slice_get w'.lists place ≡ Some l → slice_get w'.desk place ≡ Some actor_state
          → LeadTo (length l.orders) 0 false (entries_of l.actor.0 w'.journal.items) actor_state.number (is_going actor_state)
      each place l actor_state at to =
          let old : slice_get w.lists place ≡ Some l = ap (λ (k : List ActorList). slice_get k place) (sym t.lists) ∙ at in
          let new : slice_get (slice_set w.desk t.place (actor_state_after t.actor_state outcome)) place ≡ Some actor_state = ap (λ (k : List ActorState). slice_get k place) (sym t.desk) ∙ to in
          elim (get-set w.desk t.place (actor_state_after t.actor_state outcome) place actor_state new) [
            | inl one ↦
                let list : t.list ≡ l = cc (old, t.at.list, ap (λ (k : ℕ). slice_get w.lists k) one.0) in
                subst (λ (k : ActorList). LeadTo (length k.orders) 0 false (entries_of k.actor.0 w'.journal.items) actor_state.number (is_going actor_state)) list
                (subst (λ (s : ActorState). LeadTo (length t.list.orders) 0 false (entries_of t.list.actor.0 w'.journal.items) s.number (is_going s)) (sym one.1) leads.mine)
            | inr other ↦
                let differs : t.list.actor.0 ≢ l.actor.0 = λ same. other.0 (one_list w.lists place t.place l t.list o.rising old t.at.list (sym same)) in
                subst (λ (k : List JournalEntry). LeadTo (length l.orders) 0 false k actor_state.number (is_going actor_state)) (sym (leads.others l.actor.0 differs)) (o.each place l actor_state old other.1)
          ]

      none : (b : ℕ) → orders_of w'.lists b ≡ [] → entries_of b w'.journal.items ≡ []
      none b empty =
          let was : orders_of w.lists b ≡ [] = ap (λ (k : List ActorList). orders_of k b) (sym t.lists) ∙ empty in
          let differs : t.list.actor.0 ≢ b = λ same.
          let short : length t.list.orders ≡ 0 =
          ap (λ (k : List Order). length k) (sym (orders_at w.lists t.place t.list o.rising t.at.list)) ∙ (ap (λ (k : ℕ). length (orders_of w.lists k)) same ∙ ap (λ (k : List Order). length k) was) in
          absurd (omega (arith, short, low)) in
          leads.others b differs ∙ o.none b was

  same_orderly : (w w' : Whole D S M) → w' ≡ w → IsOrderly w → IsOrderly w'
  same_orderly w w' is o = subst IsOrderly (sym is) o

  goes_orderly : (w : Whole D S M) (a : ℕ) (w' : Whole D S M) → GoesOnce disk store meta w a w' → IsOrderly w → IsOrderly w'
  goes_orderly w a w' (inl t) o = turn_orderly w a t.0 w' t.1 o
  goes_orderly w a w' (inr e) o = same_orderly w w' e.1 o

  times_orderly : (w : Whole D S M) (a turns : ℕ) (w' : Whole D S M) → GoesTimes disk store meta w a turns w' → IsOrderly w → IsOrderly w'
  times_orderly w a zero w' g o = same_orderly w w' g o
  times_orderly w a (suc turns) w' g o = times_orderly g.0 a turns w' g.2 (goes_orderly w a g.0 g.1 o)

  until_orderly : (w : Whole D S M) (a number turns : ℕ) (w' : Whole D S M) → GoesUntil disk store meta w a number turns w' → IsOrderly w → IsOrderly w'
  until_orderly w a number zero w' g o = same_orderly w w' g.1 o
  until_orderly w a number (suc turns) w' g o = until_orderly g.1.0 a number turns w' g.1.2 (goes_orderly w a g.1.0 g.1.1 o)

  paces_orderly : (w : Whole D S M) (pace : Pace) (w' : Whole D S M) → Paces disk store meta w pace w' → IsOrderly w → IsOrderly w'
  paces_orderly w (Until actor number) w' g o = until_orderly w actor.0 number g.0 w' g.1 o
  paces_orderly w (Times actor turns) w' g o = times_orderly w actor.0 turns w' g o

  reaches_orderly : (w : Whole D S M) (schedule : List Pace) (w' : Whole D S M) → Reaches disk store meta w schedule w' → IsOrderly w → IsOrderly w'
  reaches_orderly w [] w' r o = same_orderly w w' r o
  reaches_orderly w (pace ∷ schedule) w' r o = reaches_orderly r.0 schedule w' r.2 (paces_orderly w pace r.0 r.1 o)

  -- a new world has no entries
  replicated : {A : Type 0} (n : ℕ) (x : A) (i : ℕ) (y : A) → slice_get (replicate n x) i ≡ Some y → x ≡ y
  replicated zero x i y e = absurd cc
  replicated (suc n) x zero y e = cc
  replicated (suc n) x (suc i) y e = replicated n x i y e

  new_orderly : (config : Config) (lists : List ActorList) (w : Whole D S M) → AreListsFor config lists → IsNewWorld lists w → IsOrderly w
  new_orderly config lists w fit f = record {
    rising = subst AreRising (sym f.lists_are) fit.rising;
    actor_states = ap (λ (k : List ActorState). length k) f.desk ∙ (length_replicate (length lists) fresh_actor_state ∙ ap (λ (k : List ActorList). length k) (sym f.lists_are));
    each = λ place l actor_state at to.
        let is : fresh_actor_state ≡ actor_state = replicated (length lists) fresh_actor_state place actor_state (ap (λ (k : List ActorState). slice_get k place) (sym f.desk) ∙ to) in
        subst (λ (s : ActorState). LeadTo (length l.orders) 0 false (entries_of l.actor.0 w.journal.items) s.number (is_going s)) is
        (subst (λ (k : List JournalEntry). LeadTo (length l.orders) 0 false (entries_of l.actor.0 k) 0 false) (sym f.journal) (refl, refl));
    none = λ a empty. ap (λ (k : List JournalEntry). entries_of a k) f.journal;
  }

  orderly_in_turn : (w : Whole D S M) → IsOrderly w → IsInTurn w.lists w.journal.items
  orderly_in_turn w o a = elim (list_or_none w.lists a) [
    | inl h ↦
        let actor_state = look w.desk h.0 (omega (arith, o.actor_states, within w.lists h.0 h.1 h.2)) in
        let lead = o.each h.0 h.1 actor_state.0 h.2 actor_state.1 in
        let mine = in_turn (length h.1.orders) 0 false (entries_of h.1.actor.0 w.journal.items) actor_state.0.number (is_going actor_state.0) lead in
        subst (λ (k : ℕ). AreInTurn (length (orders_of w.lists k)) 0 false (entries_of k w.journal.items)) h.3
        (subst (λ (k : List Order). AreInTurn (length k) 0 false (entries_of h.1.actor.0 w.journal.items)) (sym (orders_at w.lists h.0 h.1 o.rising h.2)) mine)
    | inr empty ↦ subst (λ (k : List JournalEntry). AreInTurn (length (orders_of w.lists a)) 0 false k) (sym (o.none a empty)) tt
  ]

  pub reaches_in_turn : (config : Config) (lists : List ActorList) (w : Whole D S M) (schedule : List Pace) (w' : Whole D S M) → AreListsFor config lists → IsNewWorld lists w
      → Reaches disk store meta w schedule w' → IsInTurn w'.lists w'.journal.items
  reaches_in_turn config lists w schedule w' fit n r = orderly_in_turn w' (reaches_orderly w schedule w' r (new_orderly config lists w fit n))

  ended_complete : (w : Whole D S M) → IsOrderly w → ((a : ℕ) → IsAtEnd w a) → IsComplete w.lists w.journal.items
  ended_complete w o ends a = elim (list_or_none w.lists a) [
    | inl h ↦
        let actor_state = look w.desk h.0 (omega (arith, o.actor_states, within w.lists h.0 h.1 h.2)) in
        let r = lead_answers h.1.actor.0 (length h.1.orders) 0 false w.journal.items actor_state.0.number (is_going actor_state.0) (omega arith) (o.each h.0 h.1 actor_state.0 h.2 actor_state.1) in
        let end = ends a h.0 h.1 actor_state.0 (record { list = h.2; actor = h.3; actor_state_is = actor_state.1 }) in
        let all : r.many ≡ length h.1.orders = omega (arith, r.sum, r.low, end) in
        let mine : answered h.1.actor.0 w.journal.items ≡ numbers_from 0 (length (orders_of w.lists h.1.actor.0)) =
        r.are ∙ (ap (λ (k : ℕ). numbers_from 0 k) all ∙ ap (λ (k : List Order). numbers_from 0 (length k)) (sym (orders_at w.lists h.0 h.1 o.rising h.2))) in
        subst (λ (k : ℕ). answered k w.journal.items ≡ numbers_from 0 (length (orders_of w.lists k))) h.3 mine
    | inr empty ↦
        let none : LeadTo 0 0 false (entries_of a w.journal.items) 0 false = subst (λ (k : List JournalEntry). LeadTo 0 0 false k 0 false) (sym (o.none a empty)) (refl, refl) in
        let r = lead_answers a 0 0 false w.journal.items 0 false (omega arith) none in
        let zeros : r.many ≡ 0 = omega (arith, r.sum) in
        r.are ∙ (ap (λ (k : ℕ). numbers_from 0 k) zeros ∙ ap (λ (k : List Order). numbers_from 0 (length k)) (sym empty))
  ]

  pub ends_are_answered : (config : Config) (lists : List ActorList) (w : Whole D S M) (schedule : List Pace) (w' : Whole D S M) → AreListsFor config lists → IsNewWorld lists w
      → Reaches disk store meta w schedule w' → ((a : ℕ) → IsAtEnd w' a) → IsComplete w'.lists w'.journal.items
  ends_are_answered config lists w schedule w' fit n r ends = ended_complete w' (reaches_orderly w schedule w' r (new_orderly config lists w fit n)) ends
