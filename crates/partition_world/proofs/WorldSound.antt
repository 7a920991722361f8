-- A world has what a turn of it needs, also after the turn.
use Rattle.std.proofs.Common.{◌≡◌, ◌⊎◌, ◌∙◌, inl, inr, sym, ap, subst, refl, Option, ℕ, ◌+◌, ◌-◌, ◌<◌, ◌≤◌, List, length, slice_get, slice_set, Some, true, arith}
use Rattle.std.specs.Prelude.{All, IsTrue, nat_le}
use Rattle.std.proofs.lemmas.Bool.{le-leb}
use Rattle.std.proofs.lemmas.Bool.Decides.{nat_tests}
use Rattle.std.proofs.lemmas.Option.{slice_get_within, get_or_from_slice_get}
use Rattle.log_terms.proofs.Lists.{get-set, length-slice_set}
use Rattle.plain_log.specs.declared.command.ActorList.{ActorList}
use Rattle.plain_log.specs.declared.command.Config.{Config}
use Rattle.plain_log.specs.declared.command.Order.{Order}
use Rattle.plain_log.specs.Orders.{AreRising, IsListFor, IsOrderFor}
use Rattle.laws_partition.proofs.Lists.{turns_some, turns_less, one_list}
use Rattle.partition_commands.specs.declared.partition_state.PartitionState.{PartitionState}
use Rattle.partition_world.specs.Sound.{AreInProgress, IsProgressOf, CanBeRun}
use Rattle.partition_world.specs.Whole.{Whole}
use Rattle.tier_base.specs.declared.names.PartitionId.{PartitionId}
use Rattle.disk_model.specs.declared.disk.Disk.{Ghosts as DiskGhosts}
use Rattle.object_store.specs.declared.store.Store.{Ghosts as StoreGhosts}
use Rattle.meta_log.specs.declared.log.MetaLog.{Ghosts as MetaGhosts}
use Rattle.copy_task.specs.Copying.{Copied}
use Rattle.copy_task.specs.declared.turn.CopyStep.{CopyStep}
use Rattle.expiry_task.specs.declared.turn.ExpiredSegment.{ExpiredSegment}
use Rattle.expiry_task.specs.declared.turn.DeletionStep.{DeletionStep as Deletion}
use Rattle.rebuild_task.specs.declared.turn.RebuildStep.{RebuildStep as Rebuild}
use Rattle.tier_fetch.specs.declared.turn.FetchStep.{FetchStep as Search}
use Rattle.time_find.specs.declared.turn.SearchStep.{SearchStep as Dating}
use Rattle.laws_partition.specs.declared.start_snapshot.StartSnapshot.{StartSnapshot}
use Rattle.laws_partition.specs.declared.start_snapshot.Turned.TheVariants as seen
use Rattle.laws_partition.specs.Sound.{turns_left}
use Rattle.laws_partition.proofs.Standing.{map_set, map_get}
use Rattle.partition_world.specs.declared.tier.BrokerTierState.{BrokerTierState}
use Rattle.partition_world.specs.declared.tier.RemoteTier.{RemoteTier}
use Rattle.partition_world.specs.declared.actor_state.Outcome.{Outcome}
use Rattle.partition_world.specs.declared.actor_state.Outcome.TheVariants.{Answers, Begins, Chose, Goes, Seeks as Sought, Dates as Dated, ChoosesExpired, Deletes, Rebuilds as Rebuilding}
use Rattle.partition_world.specs.declared.actor_state.ActorState.{ActorState}
use Rattle.partition_world.specs.declared.actor_state.InProgress.{InProgress}
use Rattle.partition_world.specs.declared.actor_state.InProgress.TheVariants.{Idle, Noted, Copies, Seeks, Dates, Expires, Rebuilds}
use Rattle.partition_world.specs.ActorStates.{actor_state_seen, desk_seen, recorded_in, chosen, moved, sought, dated, expired_segment, deleting, rebuilding, actor_state_after, told_count, stepped_of}
use Rattle.partition_world.specs.Turn.{IsActorAt, IsAtEnd, IsTurn, Steps}
use Rattle.partition_world.specs.Turns.{TurnRow}
use Rattle.partition_world.proofs.Begins.{begins_idle}
use Rattle.partition_world.proofs.TurnSound.{turn_sound, stays_sound, turn_broker_tiers, stays_broker_tiers}
use Rattle.partition_world.proofs.BrokerTierStates.{set_same}
use Rattle.partition_world.proofs.WorksInProgress.{in_progress_after}
use Rattle.partition_world.specs.Reaches.{HasAnswered}
use Rattle.partition_world.proofs.Halting.{StaysSome}

-- what was recorded stays
pub chosen_seen : (in_progress : InProgress) (copy : Copied) → recorded_in (chosen in_progress copy) ≡ recorded_in in_progress
chosen_seen Idle copy = refl
chosen_seen (Noted g) copy = refl
chosen_seen (Copies g c next) copy = refl
chosen_seen (Seeks g next) copy = refl
chosen_seen (Dates g cursor next) copy = refl
chosen_seen (Expires g segment next) copy = refl
chosen_seen (Rebuilds g next) copy = refl

pub moved_seen : (in_progress : InProgress) (next : CopyStep) → recorded_in (moved in_progress next) ≡ recorded_in in_progress
moved_seen Idle next = refl
moved_seen (Noted g) next = refl
moved_seen (Copies g c before) next = refl
moved_seen (Seeks g before) next = refl
moved_seen (Dates g cursor before) next = refl
moved_seen (Expires g segment before) next = refl
moved_seen (Rebuilds g before) next = refl

pub sought_seen : (in_progress : InProgress) (next : Search) → recorded_in (sought in_progress next) ≡ recorded_in in_progress
sought_seen Idle next = refl
sought_seen (Noted g) next = refl
sought_seen (Copies g c before) next = refl
sought_seen (Seeks g before) next = refl
sought_seen (Dates g cursor before) next = refl
sought_seen (Expires g segment before) next = refl
sought_seen (Rebuilds g before) next = refl

pub dated_seen : (in_progress : InProgress) (cursor : ℕ) (next : Dating) → recorded_in (dated in_progress cursor next) ≡ recorded_in in_progress
dated_seen Idle cursor next = refl
dated_seen (Noted g) cursor next = refl
dated_seen (Copies g c before) cursor next = refl
dated_seen (Seeks g before) cursor next = refl
dated_seen (Dates g was before) cursor next = refl
dated_seen (Expires g segment before) cursor next = refl
dated_seen (Rebuilds g before) cursor next = refl

pub expired_segment_seen : (in_progress : InProgress) (segment : ExpiredSegment) → recorded_in (expired_segment in_progress segment) ≡ recorded_in in_progress
expired_segment_seen Idle segment = refl
expired_segment_seen (Noted g) segment = refl
expired_segment_seen (Copies g c before) segment = refl
expired_segment_seen (Seeks g before) segment = refl
expired_segment_seen (Dates g cursor before) segment = refl
expired_segment_seen (Expires g before next) segment = refl
expired_segment_seen (Rebuilds g before) segment = refl

pub deleting_seen : (in_progress : InProgress) (next : Deletion) → recorded_in (deleting in_progress next) ≡ recorded_in in_progress
deleting_seen Idle next = refl
deleting_seen (Noted g) next = refl
deleting_seen (Copies g c before) next = refl
deleting_seen (Seeks g before) next = refl
deleting_seen (Dates g cursor before) next = refl
deleting_seen (Expires g segment before) next = refl
deleting_seen (Rebuilds g before) next = refl

pub rebuilding_seen : (in_progress : InProgress) (next : Rebuild) → recorded_in (rebuilding in_progress next) ≡ recorded_in in_progress
rebuilding_seen Idle next = refl
rebuilding_seen (Noted g) next = refl
rebuilding_seen (Copies g c before) next = refl
rebuilding_seen (Seeks g before) next = refl
rebuilding_seen (Dates g cursor before) next = refl
rebuilding_seen (Expires g segment before) next = refl
rebuilding_seen (Rebuilds g before) next = refl

module _ {D S M : Type 0} (disk : DiskGhosts D) (store : StoreGhosts S) (meta : MetaGhosts M) where
  -- what holds of all holds of the one that is at a place
  all_at : {A : Type 0} (P : A → Type 0) (xs : List A) (i : ℕ) (x : A) → All P xs → slice_get xs i ≡ Some x → P x
  all_at P xs i x h at = subst P (get_or_from_slice_get xs i x x at) (h i x (slice_get_within xs i x at))

  pub list_at : (config : Config) (lists : List ActorList) (h : PartitionState D) (broker_tiers : List BrokerTierState) (desk : List ActorState) (free place : ℕ) (l : ActorList) → CanBeRun config lists h broker_tiers desk free → slice_get lists place ≡ Some l → IsListFor config l
  list_at config lists h broker_tiers desk free place l s at = all_at (IsListFor config) lists place l s.fit.each at

  pub order_at : (config : Config) (lists : List ActorList) (h : PartitionState D) (broker_tiers : List BrokerTierState) (desk : List ActorState) (free place n : ℕ) (l : ActorList) (order : Order) → CanBeRun config lists h broker_tiers desk free
      → slice_get lists place ≡ Some l → slice_get l.orders n ≡ Some order → IsOrderFor config order
  order_at config lists h broker_tiers desk free place n l order s at to = all_at (IsOrderFor config) l.orders n order (list_at config lists h broker_tiers desk free place l s at).orders to

  -- there is room for the turn's entry
  pub room_at : (config : Config) (lists : List ActorList) (h : PartitionState D) (broker_tiers : List BrokerTierState) (desk : List ActorState) (free place : ℕ) (l : ActorList) (actor_state : ActorState) → CanBeRun config lists h broker_tiers desk free
      → slice_get lists place ≡ Some l → slice_get desk place ≡ Some actor_state → actor_state.number < length l.orders → 0 < free
  room_at config lists h broker_tiers desk free place l actor_state s at to lt = let some = turns_some lists (desk_seen desk) place l (actor_state_seen actor_state) at (map_get actor_state_seen desk place actor_state to) lt in omega (arith, some, s.room)

  -- the desk as it is seen after a turn that neither began a command nor answered it
  pub seen_stays : (desk : List ActorState) (place : ℕ) (actor_state after : ActorState) → slice_get desk place ≡ Some actor_state → actor_state_seen after ≡ actor_state_seen actor_state
      → desk_seen (slice_set desk place after) ≡ desk_seen desk
  seen_stays desk place actor_state after to same =
      map_set actor_state_seen desk place after ∙ (ap (λ k. slice_set (desk_seen desk) place k) same ∙ set_same (desk_seen desk) place (actor_state_seen actor_state) (map_get actor_state_seen desk place actor_state to))

  -- the entries that are left after a turn
  pub entries_after : (lists : List ActorList) (p : PartitionId) (config : Config) (h : PartitionState D) (t : RemoteTier S M) (h' : PartitionState D) (t' : RemoteTier S M) (desk : List ActorState) (place : ℕ) (l : ActorList) (actor_state : ActorState) (order : Order) (outcome : Outcome)
      → slice_get lists place ≡ Some l → slice_get desk place ≡ Some actor_state → actor_state.number < length l.orders
      → TurnRow disk store meta p config h t order.broker.0 actor_state.in_progress order.command outcome h' t'
      → turns_left lists (desk_seen (slice_set desk place (actor_state_after actor_state outcome))) + told_count outcome ≤ turns_left lists (desk_seen desk)
  entries_after lists p config h t h' t' desk place l actor_state order (Answers answer) at to lt row =
      let less = turns_less lists (desk_seen desk) place l (actor_state_seen actor_state) (seen.Answers answer) at (map_get actor_state_seen desk place actor_state to) lt tt in
      rw (map_set actor_state_seen desk place (actor_state_after actor_state (Answers answer))) less
  entries_after lists p config h t h' t' desk place l actor_state order (Begins g) at to lt row =
      let idle = begins_idle disk store meta p config h t order.broker.0 actor_state.in_progress order.command g h' t' row in
      let less = turns_less lists (desk_seen desk) place l (actor_state_seen actor_state) (seen.Begins g) at (map_get actor_state_seen desk place actor_state to) lt (ap recorded_in idle) in
      rw (map_set actor_state_seen desk place (actor_state_after actor_state (Begins g))) less
  entries_after lists p config h t h' t' desk place l actor_state order (Chose copy) at to lt row =
      let same = seen_stays desk place actor_state (actor_state_after actor_state (Chose copy)) to (ap (λ (o : Option StartSnapshot). record { number = actor_state.number; snapshot = o }) (chosen_seen actor_state.in_progress copy)) in
      omega (arith, ap (λ k. turns_left lists k) same)
  entries_after lists p config h t h' t' desk place l actor_state order (Goes next) at to lt row =
      let same = seen_stays desk place actor_state (actor_state_after actor_state (Goes next)) to (ap (λ (o : Option StartSnapshot). record { number = actor_state.number; snapshot = o }) (moved_seen actor_state.in_progress next)) in
      omega (arith, ap (λ k. turns_left lists k) same)
  entries_after lists p config h t h' t' desk place l actor_state order (Sought next) at to lt row =
      let same = seen_stays desk place actor_state (actor_state_after actor_state (Sought next)) to (ap (λ (o : Option StartSnapshot). record { number = actor_state.number; snapshot = o }) (sought_seen actor_state.in_progress next)) in
      omega (arith, ap (λ k. turns_left lists k) same)
  entries_after lists p config h t h' t' desk place l actor_state order (Dated cursor next) at to lt row =
      let same =
      seen_stays desk place actor_state (actor_state_after actor_state (Dated cursor next)) to
      (ap (λ (o : Option StartSnapshot). record { number = actor_state.number; snapshot = o }) (dated_seen actor_state.in_progress cursor next)) in
      omega (arith, ap (λ k. turns_left lists k) same)
  entries_after lists p config h t h' t' desk place l actor_state order (ChoosesExpired segment) at to lt row =
      let same = seen_stays desk place actor_state (actor_state_after actor_state (ChoosesExpired segment)) to (ap (λ (o : Option StartSnapshot). record { number = actor_state.number; snapshot = o }) (expired_segment_seen actor_state.in_progress segment)) in
      omega (arith, ap (λ k. turns_left lists k) same)
  entries_after lists p config h t h' t' desk place l actor_state order (Deletes next) at to lt row =
      let same = seen_stays desk place actor_state (actor_state_after actor_state (Deletes next)) to (ap (λ (o : Option StartSnapshot). record { number = actor_state.number; snapshot = o }) (deleting_seen actor_state.in_progress next)) in
      omega (arith, ap (λ k. turns_left lists k) same)
  entries_after lists p config h t h' t' desk place l actor_state order (Rebuilding next) at to lt row =
      let same = seen_stays desk place actor_state (actor_state_after actor_state (Rebuilding next)) to (ap (λ (o : Option StartSnapshot). record { number = actor_state.number; snapshot = o }) (rebuilding_seen actor_state.in_progress next)) in
      omega (arith, ap (λ k. turns_left lists k) same)

  -- what the actors' states keep after a turn
  works_after : (lists : List ActorList) (p : PartitionId) (config : Config) (h : PartitionState D) (t : RemoteTier S M) (h' : PartitionState D) (t' : RemoteTier S M) (desk : List ActorState) (place : ℕ) (l : ActorList) (actor_state : ActorState) (order : Order) (outcome : Outcome)
      → AreInProgress lists desk → slice_get lists place ≡ Some l → slice_get desk place ≡ Some actor_state → slice_get l.orders actor_state.number ≡ Some order
      → TurnRow disk store meta p config h t order.broker.0 actor_state.in_progress order.command outcome h' t' → AreInProgress lists (slice_set desk place (actor_state_after actor_state outcome))
  works_after lists p config h t h' t' desk place l actor_state order outcome works at to next row = λ i k s o at2 to2 next2.
      elim (get-set desk place (actor_state_after actor_state outcome) i s to2) [
        | inl one ↦
            let list : k ≡ l = cc (at2, at, ap (λ (n : ℕ). slice_get lists n) one.0) in
            let there : slice_get l.orders (actor_state_after actor_state outcome).number ≡ Some o =
            ap (λ (m : ActorList). slice_get m.orders (actor_state_after actor_state outcome).number) (sym list) ∙ (ap (λ (m : ActorState). slice_get k.orders m.number) (sym one.1) ∙ next2) in
            subst (λ (m : ActorState). IsProgressOf o.command m.in_progress) (sym one.1)
            (in_progress_after disk store meta p config h t h' t' l actor_state order outcome o next (works place l actor_state order at to next) row there)
        | inr other ↦ works i k s o at2 other.1 next2
      ]

  -- the world after the turn
  pub sound_after : (config : Config) (lists : List ActorList) (p : PartitionId) (h : PartitionState D) (t : RemoteTier S M) (h' : PartitionState D) (t' : RemoteTier S M) (desk desk' : List ActorState) (free free' place : ℕ) (l : ActorList) (actor_state : ActorState) (order : Order) (outcome : Outcome)
      → CanBeRun config lists h t.broker_tiers desk free → slice_get lists place ≡ Some l → slice_get desk place ≡ Some actor_state → slice_get l.orders actor_state.number ≡ Some order → actor_state.number < length l.orders
      → TurnRow disk store meta p config h t order.broker.0 actor_state.in_progress order.command outcome h' t' → desk' ≡ slice_set desk place (actor_state_after actor_state outcome)
      → free' ≡ free - told_count outcome → CanBeRun config lists h' t'.broker_tiers desk' free'
  sound_after config lists p h t h' t' desk desk' free free' place l actor_state order outcome s at to next lt row desk_is free_is =
      let less = entries_after lists p config h t h' t' desk place l actor_state order outcome at to lt row in
      record {
        config_fits = s.config_fits;
        fit = s.fit;
        partition_state = turn_sound disk store meta config.brokers p config h t order.broker.0 actor_state.in_progress order.command outcome h' t' s.partition_state row;
        sided = turn_broker_tiers disk store meta p config h t order.broker.0 actor_state.in_progress order.command outcome h' t' row ∙ s.sided;
        actor_states = ap (λ (k : List ActorState). length k) desk_is ∙ (length-slice_set desk place (actor_state_after actor_state outcome) ∙ s.actor_states);
        works = subst (AreInProgress lists) (sym desk_is) (works_after lists p config h t h' t' desk place l actor_state order outcome s.works at to next row);
        room = rw (desk_is, free_is) (omega (arith, less, s.room));
      }

  -- the world where there was no memory for one
  pub sound_after_none : (config : Config) (lists : List ActorList) (h : PartitionState D) (t : RemoteTier S M) (b : ℕ) (h' : PartitionState D) (t' : RemoteTier S M) (desk : List ActorState) (free : ℕ) → CanBeRun config lists h t.broker_tiers desk free
      → StaysSome disk store meta h t b h' t' → CanBeRun config lists h' t'.broker_tiers desk free
  sound_after_none config lists h t b h' t' desk free s k = record {
    config_fits = s.config_fits;
    fit = s.fit;
    partition_state = stays_sound disk store meta config.brokers h t b h' t' s.partition_state k;
    sided = stays_broker_tiers disk store meta h t b h' t' k ∙ s.sided;
    actor_states = s.actor_states;
    works = s.works;
    room = s.room;
  }

  -- a turn is a step, by what it came to
  pub steps_of : (w : Whole D S M) (a : ℕ) (outcome : Outcome) (w' : Whole D S M) → IsTurn disk store meta w a outcome w' → Steps disk store meta w a (stepped_of outcome) w'
  steps_of w a (Answers answer) w' t = (answer, t)
  steps_of w a (Begins g) w' t = (Begins g, tt, t)
  steps_of w a (Chose copy) w' t = (Chose copy, tt, t)
  steps_of w a (Goes next) w' t = (Goes next, tt, t)
  steps_of w a (Sought next) w' t = (Sought next, tt, t)
  steps_of w a (Dated cursor next) w' t = (Dated cursor next, tt, t)
  steps_of w a (ChoosesExpired segment) w' t = (ChoosesExpired segment, tt, t)
  steps_of w a (Deletes next) w' t = (Deletes next, tt, t)
  steps_of w a (Rebuilding next) w' t = (Rebuilding next, tt, t)

  -- an actor whose list is at its end is at its end
  pub at_end : (w : Whole D S M) (a place : ℕ) (l : ActorList) (actor_state : ActorState) → AreRising w.lists → IsActorAt w a place l actor_state → length l.orders ≤ actor_state.number → IsAtEnd w a
  at_end w a place l actor_state r s le = λ place2 l2 actor_state2 s2.
      let same : place2 ≡ place = one_list w.lists place2 place l2 l r s2.list s.list (s2.actor ∙ sym s.actor) in
      let one : l2 ≡ l = cc (s2.list, s.list, ap (λ (k : ℕ). slice_get w.lists k) same) in
      let two : actor_state2 ≡ actor_state = cc (s2.actor_state_is, s.actor_state_is, ap (λ (k : ℕ). slice_get w.desk k) same) in
      omega (arith, le, ap (λ (k : ActorList). length k.orders) one, ap (λ (k : ActorState). k.number) two)

  -- an actor whose list has come so far has answered
  pub answered_at : (w : Whole D S M) (a number place : ℕ) (l : ActorList) (actor_state : ActorState) → CanBeRun w.config w.lists w.partition_state w.tier.broker_tiers w.desk w.journal.room → IsActorAt w a place l actor_state
      → ◌⊎◌ (number ≤ actor_state.number) (length l.orders ≤ actor_state.number) → HasAnswered w a number
  answered_at w a number place l actor_state sound s done = λ place2 l2 actor_state2 s2.
      let same : place2 ≡ place = one_list w.lists place2 place l2 l sound.fit.rising s2.list s.list (s2.actor ∙ sym s.actor) in
      let one : l ≡ l2 = cc (s2.list, s.list, ap (λ (k : ℕ). slice_get w.lists k) same) in
      let two : actor_state ≡ actor_state2 = cc (s2.actor_state_is, s.actor_state_is, ap (λ (k : ℕ). slice_get w.desk k) same) in
      subst (λ (k : ActorState). ◌⊎◌ (number ≤ k.number) (length l2.orders ≤ k.number)) two (subst (λ (k : ActorList). ◌⊎◌ (number ≤ actor_state.number) (length k.orders ≤ actor_state.number)) one done)

  le_of : (a b : ℕ) → IsTrue (nat_le a b) → a ≤ b
  le_of a b t = let is : nat_le a b ≡ true = t in grind (arith, nat_tests, is)

  is_le : (a b : ℕ) → a ≤ b → IsTrue (nat_le a b)
  is_le a b le = le-leb a b le

  pub answers_now : (w : Whole D S M) (a number place : ℕ) (l : ActorList) (actor_state : ActorState) → CanBeRun w.config w.lists w.partition_state w.tier.broker_tiers w.desk w.journal.room → IsActorAt w a place l actor_state → number ≤ actor_state.number
      → (IsTrue (nat_le number actor_state.number) → HasAnswered w a number) × (HasAnswered w a number → IsTrue (nat_le number actor_state.number))
  answers_now w a number place l actor_state sound s le = (λ t. answered_at w a number place l actor_state sound s (inl le), λ h. is_le number actor_state.number le)

  pub answers_so_far : (w : Whole D S M) (a number place : ℕ) (l : ActorList) (actor_state : ActorState) → CanBeRun w.config w.lists w.partition_state w.tier.broker_tiers w.desk w.journal.room → IsActorAt w a place l actor_state
      → (number ≤ actor_state.number → ⊥)
      → (IsTrue (nat_le (length l.orders) actor_state.number) → HasAnswered w a number) × (HasAnswered w a number → IsTrue (nat_le (length l.orders) actor_state.number))
  answers_so_far w a number place l actor_state sound s more = (
    λ t. answered_at w a number place l actor_state sound s (inr (le_of (length l.orders) actor_state.number t)),
    λ h. (elim (h place l actor_state s) [ inl le ↦ absurd (more le) | inr le ↦ is_le (length l.orders) actor_state.number le ]),
  )
