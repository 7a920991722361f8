-- Turns lead to later worlds.
use Rattle.std.proofs.Common.{◌≡◌, ◌≢◌, inl, inr, ◌∙◌, sym, ap, subst, refl, ℕ, ◌+◌, ◌<◌, ◌≤◌, List, length, slice_get, slice_set, Some, Bool, true, false, ◌==◌, arith}
use Rattle.std.proofs.lemmas.Bool.Decides.{nat_tests}
use Rattle.log_terms.proofs.Lists.{get-set, within}
use Rattle.plain_log.specs.declared.command.ActorList.{ActorList}
use Rattle.laws_partition.specs.declared.actor_progress.Stepped.{Stepped}
use Rattle.laws_partition.specs.declared.actor_progress.Stepped.TheVariants.{Ran, Done, Nothing, NoMemory}
use Rattle.disk_model.specs.declared.disk.Disk.{Ghosts as DiskGhosts}
use Rattle.object_store.specs.declared.store.Store.{Ghosts as StoreGhosts}
use Rattle.meta_log.specs.declared.log.MetaLog.{Ghosts as MetaGhosts}
use Rattle.partition_world.specs.Whole.{Whole}
use Rattle.partition_world.specs.declared.actor_state.Outcome.{Outcome}
use Rattle.partition_world.specs.declared.actor_state.Outcome.TheVariants.{Answers, Begins, Chose, Goes, Seeks, Dates, ChoosesExpired, Deletes, Rebuilds}
use Rattle.partition_world.specs.declared.actor_state.ActorState.{ActorState}
use Rattle.partition_world.specs.ActorStates.{actor_state_after}
use Rattle.partition_world.specs.Turn.{IsTurn, IsAtEnd, StaysWhole, Steps}
use Rattle.partition_world.proofs.Advancing.{turns_left, advances_at, turns_less}
use Rattle.partition_world.specs.Central.{KeepsCentral}
use Rattle.partition_world.specs.Later.{IsLater}
use Rattle.partition_world.proofs.LeftLaw.{turn_keeps_left, steps_keep_left}

module _ {D S M : Type 0} (disk : DiskGhosts D) (store : StoreGhosts S) (meta : MetaGhosts M) where
  pub later_same : (w : Whole D S M) → IsLater disk store meta w w
  later_same w = record { partition = refl; config = refl; lists = refl; central = λ opening c. c; left = λ opening c. c; ends = λ a e. e }

  pub later_more : (w v u : Whole D S M) → IsLater disk store meta w v → IsLater disk store meta v u → IsLater disk store meta w u
  later_more w v u a b = record {
    partition = b.partition ∙ a.partition;
    config = b.config ∙ a.config;
    lists = b.lists ∙ a.lists;
    central = λ opening c. b.central opening (a.central opening c);
    left = λ opening c. b.left opening (a.left opening c);
    ends = λ n e. b.ends n (a.ends n e);
  }

  -- an actor's state never goes back
  number_after : (actor_state : ActorState) (outcome : Outcome) → actor_state.number ≤ (actor_state_after actor_state outcome).number
  number_after actor_state (Answers answer) = omega arith
  number_after actor_state (Begins g) = omega arith
  number_after actor_state (Chose copy) = omega arith
  number_after actor_state (Goes next) = omega arith
  number_after actor_state (Seeks next) = omega arith
  number_after actor_state (Dates cursor next) = omega arith
  number_after actor_state (ChoosesExpired segment) = omega arith
  number_after actor_state (Deletes next) = omega arith
  number_after actor_state (Rebuilds next) = omega arith

  turn_ends : (w : Whole D S M) (a : ℕ) (outcome : Outcome) (w' : Whole D S M) → IsTurn disk store meta w a outcome w' → (b : ℕ) → IsAtEnd w b → IsAtEnd w' b
  turn_ends w a outcome w' t b e = λ place l actor_state s.
      let old : slice_get w.lists place ≡ Some l = ap (λ (k : List ActorList). slice_get k place) (sym t.lists) ∙ s.list in
      let new : slice_get (slice_set w.desk t.place (actor_state_after t.actor_state outcome)) place ≡ Some actor_state = ap (λ (k : List ActorState). slice_get k place) (sym t.desk) ∙ s.actor_state_is in
      elim (get-set w.desk t.place (actor_state_after t.actor_state outcome) place actor_state new) [
        | inl one ↦
            let was : slice_get w.desk place ≡ Some t.actor_state = ap (λ (k : ℕ). slice_get w.desk k) one.0 ∙ t.at.actor_state_is in
            let before = e place l t.actor_state (record { list = old; actor = s.actor; actor_state_is = was }) in
            let on = number_after t.actor_state outcome in
            omega (arith, before, on, ap (λ (k : ActorState). k.number) one.1)
        | inr other ↦ e place l actor_state (record { list = old; actor = s.actor; actor_state_is = other.1 })
      ]

  pub turn_later : (w : Whole D S M) (a : ℕ) (outcome : Outcome) (w' : Whole D S M) → IsTurn disk store meta w a outcome w' → KeepsCentral disk store meta w w' → IsLater disk store meta w w'
  turn_later w a outcome w' t keeps = record {
    partition = t.partition;
    config = t.config;
    lists = t.lists;
    central = keeps;
    left = turn_keeps_left disk store meta w a outcome w' t;
    ends = turn_ends w a outcome w' t;
  }

  pub same_later : (w w' : Whole D S M) → w' ≡ w → IsLater disk store meta w w'
  same_later w w' e = subst (λ (k : Whole D S M). IsLater disk store meta w k) (sym e) (later_same w)

  whole_later : (w : Whole D S M) (a : ℕ) (w' : Whole D S M) → StaysWhole disk store meta w a w' → KeepsCentral disk store meta w w' → IsLater disk store meta w w'
  whole_later w a w' s keeps = record {
    partition = ap (λ (k : Whole D S M). k.partition) s.fields;
    config = ap (λ (k : Whole D S M). k.config) s.fields;
    lists = ap (λ (k : Whole D S M). k.lists) s.fields;
    central = keeps;
    left = steps_keep_left disk store meta w a NoMemory w' s;
    ends = λ b e. subst (λ (k : Whole D S M). IsAtEnd k b) (sym s.fields) (λ place l actor_state at. e place l actor_state (record { list = at.list; actor = at.actor; actor_state_is = at.actor_state_is }));
  }

  pub step_later : (w : Whole D S M) (a : ℕ) (stepped : Stepped) (w' : Whole D S M) → Steps disk store meta w a stepped w' → KeepsCentral disk store meta w w' → IsLater disk store meta w w'
  step_later w a Ran w' s keeps = turn_later w a s.0 w' s.2 keeps
  step_later w a Done w' s keeps = turn_later w a (Answers s.0) w' s.1 keeps
  step_later w a Nothing w' s keeps = same_later w w' s.1
  step_later w a NoMemory w' s keeps = whole_later w a w' s keeps

  -- a turn leaves a turn less
  pub turn_left : (w : Whole D S M) (a : ℕ) (outcome : Outcome) (w' : Whole D S M) → IsTurn disk store meta w a outcome w' → turns_left w'.lists w'.desk < turns_left w.lists w.desk
  turn_left w a outcome w' t =
      let on = advances_at disk store meta w.partition w.config w.partition_state w.tier t.order.broker.0 t.actor_state.in_progress t.order.command outcome w'.partition_state w'.tier t.row in
      let less = turns_less w.lists w.desk t.place t.list t.actor_state outcome t.at.list t.at.actor_state_is (within t.list.orders t.actor_state.number t.order t.next) on in
      rw (t.lists, t.desk) (omega (arith, less))

  -- a step that continues does
  pub step_left : (w : Whole D S M) (a : ℕ) (stepped : Stepped) (w' : Whole D S M) → Steps disk store meta w a stepped w' → stepped ≢ Nothing → stepped ≢ NoMemory
      → turns_left w'.lists w'.desk < turns_left w.lists w.desk
  step_left w a Ran w' s n m = turn_left w a s.0 w' s.2
  step_left w a Done w' s n m = turn_left w a (Answers s.0) w' s.1
  step_left w a Nothing w' s n m = absurd (n refl)
  step_left w a NoMemory w' s n m = absurd (m refl)

  -- where the actor of each list is at its end, each actor is
  pub all_ended : (w : Whole D S M) → ((place : ℕ) (l : ActorList) → slice_get w.lists place ≡ Some l → IsAtEnd w l.actor.0) → (a : ℕ) → IsAtEnd w a
  all_ended w h a = λ place l actor_state s. h place l s.list place l actor_state (record { list = s.list; actor = refl; actor_state_is = s.actor_state_is })

  -- one list more is at its end
  pub place_ended : (w w' : Whole D S M) (place : ℕ) (list : ActorList) → IsLater disk store meta w w' → slice_get w.lists place ≡ Some list → IsAtEnd w' list.actor.0
      → ((i : ℕ) (l : ActorList) → i < place → slice_get w.lists i ≡ Some l → IsAtEnd w l.actor.0)
      → (i : ℕ) (l : ActorList) → i < place + 1 → slice_get w'.lists i ≡ Some l → IsAtEnd w' l.actor.0
  place_ended w w' place list later at ended h i l lt is = go (i == place) refl
    where
      old : slice_get w.lists i ≡ Some l
      old = ap (λ (k : List ActorList). slice_get k i) (sym later.lists) ∙ is

      go : (t : Bool) → (i == place) ≡ t → IsAtEnd w' l.actor.0
      go true t =
          let same : i ≡ place = grind (arith, nat_tests, t) in
          let one : list ≡ l = cc (at, old, ap (λ (k : ℕ). slice_get w.lists k) same) in
          subst (λ (k : ActorList). IsAtEnd w' k.actor.0) one ended
      go false t =
          let differs : i ≢ place = grind (arith, nat_tests, t) in
          later.ends l.actor.0 (h i l (omega (arith, lt, differs)) old)

  -- all lists are at their ends
  pub places_ended : (w : Whole D S M) (place : ℕ) → length w.lists ≤ place → ((i : ℕ) (l : ActorList) → i < place → slice_get w.lists i ≡ Some l → IsAtEnd w l.actor.0) → (a : ℕ) → IsAtEnd w a
  places_ended w place many h = all_ended w (λ i l at. h i l (let lt = within w.lists i l at in omega (arith, lt, many)) at)
