-- A turn that is entered, and one that isn't, as the partition is seen, and what either makes of the central fact.
--
-- A turn makes some changes of the tier, and where it is entered the plain log takes a step then.
use Rattle.std.proofs.Common.{◌≡◌, ◌∙◌, sym, ap, subst, refl, ℕ, ◌+◌, ◌^◌, ◌<◌, ◌≤◌, List, [], ◌∷◌, ◌++◌, length, slice_get, slice_set, Some, false, arith}
use Rattle.std.specs.Prelude.{option_map}
use Rattle.std.proofs.lemmas.List.{length-map}
use Rattle.disk_model.specs.declared.disk.Disk.{Ghosts as DiskGhosts}
use Rattle.object_store.specs.declared.store.Store.{Ghosts as StoreGhosts}
use Rattle.meta_log.specs.declared.log.MetaLog.{Ghosts as MetaGhosts}
use Rattle.registry.specs.declared.registry.Registry.{Registry}
use Rattle.tier_base.specs.declared.names.ActorId.{ActorId}
use Rattle.plain_log.specs.declared.command.ActorList.{ActorList}
use Rattle.plain_log.specs.declared.command.Command.{Command}
use Rattle.plain_log.specs.declared.command.Order.{Order}
use Rattle.plain_log.specs.declared.journal.JournalEntry.{JournalEntry}
use Rattle.plain_log.specs.declared.state.Actor.{Actor}
use Rattle.plain_log.specs.declared.state.Broker.{Broker}
use Rattle.plain_log.specs.declared.state.State.{State}
use Rattle.plain_log.specs.Orders.{AreRising}
use Rattle.plain_log.proofs.StepsGrow.{steps_grow}
use Rattle.laws_partition.specs.declared.start_snapshot.Turned.{Turned}
use Rattle.laws_partition.specs.declared.start_snapshot.Turned.TheVariants as turned
use Rattle.laws_partition.specs.declared.actor_progress.ActorProgress as seen_actor_state
use Rattle.laws_partition.specs.Seen as seen
use Rattle.laws_partition.specs.Partition as seen_partition
use Rattle.laws_partition.specs.Rows as seen_rows
use Rattle.laws_partition.specs.Sound as seen_sound
use Rattle.laws_partition.specs.Turn as seen_turn
use Rattle.laws_partition.specs.Central as seen_central
use Rattle.laws_partition.proofs.CentralLaw as seen_law
use Rattle.laws_partition.proofs.Standing.{map_set, map_get}
use Rattle.laws_tier_turns.specs.BrokerTiers.{tier_views_of, BrokerTierModel as BrokerTierIsSeen}
use Rattle.laws_tier_turns.specs.Turns.{TurnStands, may_raise, IsTurned}
use Rattle.laws_tier_turns.proofs.Follow.{tier_views_follow}
use Rattle.partition_commands.specs.Partition.{ShowsPartition}
use Rattle.partition_commands.proofs.Shown.{some_at}
use Rattle.tier_safe.specs.Scene.{Scene, BrokerTierView}
use Rattle.tier_safe.specs.Changes.{Steps}
use Rattle.tier_safe.specs.May.{IsChanged}
use Rattle.tier_safe.specs.Safe.{BothSafe}
use Rattle.tier_safe.proofs.Kept.{all_kept}
use Rattle.partition_world.specs.declared.actor_state.Outcome.{Outcome}
use Rattle.partition_world.specs.declared.actor_state.ActorState.{ActorState}
use Rattle.partition_world.specs.ActorStates.{actor_state_seen, desk_seen, recorded_in, outcome_of, actor_state_after, told_of}
use Rattle.partition_world.specs.Central.{AreRecorded, AreDated, broker_tiers_seen, notes_left, ShowsTier, IsCentral}
use Rattle.partition_world.specs.Turn.{IsTurn}
use Rattle.partition_world.specs.Whole.{Whole, seen_as}
use Rattle.partition_world.proofs.Dating.{undated, told_undated, desk_gone, turn_dated}

-- an entry, and its state, as they are seen
pub told_as : (actor : ActorId) (number : ℕ) (command : Command) (t : Turned)
    → told_of actor number command (outcome_of t) ≡ record { actor = actor; number = number; event = seen_turn.event_of t command } ∷ []
told_as actor number command (turned.Answers answer) = refl
told_as actor number command (turned.Begins g) = refl

pub on_desk_as : (actor_state : ActorState) (t : Turned) → actor_state_seen (actor_state_after actor_state (outcome_of t)) ≡ seen_turn.actor_state_after (actor_state_seen actor_state) t
on_desk_as actor_state (turned.Answers answer) = refl
on_desk_as actor_state (turned.Begins g) = refl

-- no more tier views than tier states
tier_views_low : (nodes : List seen.Node) (broker_tiers : List BrokerTierIsSeen) → length (tier_views_of nodes broker_tiers) ≤ length broker_tiers
tier_views_low [] broker_tiers = omega arith
tier_views_low (x ∷ nodes) [] = omega arith
tier_views_low (x ∷ nodes) (broker_tier ∷ broker_tiers) = omega (arith, tier_views_low nodes broker_tiers)

-- each node has a tier state, since each broker has a tier view
pub sided : (d : Scene) (p : State) (h : seen.SeenPartition) (broker_tiers : List BrokerTierIsSeen) → BothSafe d p → seen_central.PartitionMatches h p → d.tier_views ≡ tier_views_of h.nodes broker_tiers
    → length h.nodes ≤ length broker_tiers
sided d p h broker_tiers safe stands are =
    let count = safe.tier.tier_views.count in
    let brokers : length p.brokers ≡ length h.nodes = ap (λ (k : List Broker). length k) stands.brokers ∙ length-map h.nodes seen_partition.broker_of in
    let tier_views = ap (λ (k : List BrokerTierView). length k) are in
    omega (arith, count, brokers, tier_views, tier_views_low h.nodes broker_tiers)

module _ {D S M : Type 0} (disk : DiskGhosts D) (store : StoreGhosts S) (meta : MetaGhosts M) where
  -- the rules of the plain log and of the tier hold
  pub both_of : (opening : State) (w : Whole D S M) (c : IsCentral disk store meta opening w) → BothSafe c.scene c.central.plain
  both_of opening w c = record { plain = c.central.safe; tier = c.tier }

  -- a turn that is entered, as the partition is seen
  pub record IsEntered (w : Whole D S M) (outcome : Outcome) (w' : Whole D S M) (p : seen.SeenPartition) (list : ActorList) (actor_state : ActorState) (order : Order) : Type 0 where
    pub turned : Turned
    pub after : seen.SeenPartition
    pub partition_state : ShowsPartition disk.content w'.partition_state after
    pub y : seen.Node
    pub there : slice_get p.nodes order.broker.0 ≡ Some y
    pub row : seen_rows.Row p order.broker.0 y (recorded_in actor_state.in_progress) order.command turned after
    pub told : told_of list.actor actor_state.number order.command outcome
        ≡ record { actor = list.actor; number = actor_state.number; event = seen_turn.event_of turned order.command } ∷ []
    pub on_desk : actor_state_seen (actor_state_after actor_state outcome) ≡ seen_turn.actor_state_after (actor_state_seen actor_state) turned

  -- what a turn of one row came to is entered
  abbrev pub enters : (w : Whole D S M) (outcome : Outcome) (w' : Whole D S M) (p : seen.SeenPartition) (list : ActorList) (actor_state : ActorState) (order : Order) (t : Turned) (after : seen.SeenPartition) (y : seen.Node)
      → outcome ≡ outcome_of t → ShowsPartition disk.content w'.partition_state after → slice_get p.nodes order.broker.0 ≡ Some y
      → seen_rows.Row p order.broker.0 y (recorded_in actor_state.in_progress) order.command t after → IsEntered w outcome w' p list actor_state order
  enters w outcome w' p list actor_state order t after y is partition_state there row = record {
    turned = t;
    after = after;
    partition_state = partition_state;
    y = y;
    there = there;
    row = row;
    told = ap (told_of list.actor actor_state.number order.command) is ∙ told_as list.actor actor_state.number order.command t;
    on_desk = ap (λ (o : Outcome). actor_state_seen (actor_state_after actor_state o)) is ∙ on_desk_as actor_state t;
  }

  abbrev pub seen_turn_of : (w : Whole D S M) (a : ℕ) (outcome : Outcome) (w' : Whole D S M) (p : seen.SeenPartition) (t : IsTurn disk store meta w a outcome w') (e : IsEntered w outcome w' p t.list t.actor_state t.order)
      → seen_turn.IsTurn (seen_as w p) a e.turned (seen_as w' e.after)
  seen_turn_of w a outcome w' p t e = record {
    place = t.place;
    list = t.list;
    actor_state = actor_state_seen t.actor_state;
    order = t.order;
    at = record { list = t.at.list; actor = t.at.actor; actor_state_is = map_get actor_state_seen w.desk t.place t.actor_state t.at.actor_state_is };
    next = t.next;
    row = some_at (λ (z : seen.Node). seen_rows.Row p t.order.broker.0 z (recorded_in t.actor_state.in_progress) t.order.command e.turned e.after) (slice_get p.nodes t.order.broker.0) e.y e.there e.row;
    desk = ap desk_seen t.desk ∙ (map_set actor_state_seen w.desk t.place (actor_state_after t.actor_state outcome) ∙ ap (λ (s : seen_actor_state.ActorProgress). slice_set (desk_seen w.desk) t.place s) e.on_desk);
    entered = t.entered ∙ ap (λ (more : List JournalEntry). w.journal.items ++ more) e.told;
    partition = t.partition;
    config = t.config;
    lists = t.lists;
  }

  -- the entry of such a turn
  abbrev pub entry_for : (w : Whole D S M) (outcome : Outcome) (w' : Whole D S M) (p : seen.SeenPartition) (list : ActorList) (actor_state : ActorState) (order : Order) → IsEntered w outcome w' p list actor_state order → JournalEntry
  entry_for w outcome w' p list actor_state order e = record { actor = list.actor; number = actor_state.number; event = seen_turn.event_of e.turned order.command }

  -- what is seen keeps what its turns need
  seen_sound_of : (opening : State) (w : Whole D S M) (p : seen.SeenPartition) → (c : seen_central.IsCentral opening (seen_as w p)) → seen_sound.SoundPartition (length p.nodes) p
  seen_sound_of opening w p c = record {
    count = refl;
    same =
        (let count = c.safe.same_count in
        let nodes : length c.plain.brokers ≡ length p.nodes = ap (λ (k : List Broker). length k) c.stands.partition_state.brokers ∙ length-map p.nodes seen_partition.broker_of in
        let registry : length c.plain.registry.replicas ≡ length p.registry.replicas = ap (λ (r : Registry). length r.replicas) c.stands.partition_state.registry in
        omega (arith, count, nodes, registry));
    epoch = (let low = c.safe.marks.epoch in let same = ap (λ (r : Registry). r.epoch) c.stands.partition_state.registry in omega (arith, low, same));
    nodes = λ b x at. (c.stands.lines.each b x at).sound;
  }

  -- what was recorded of the order
  recorded_before : (orders : List Order) (actor_state : seen_actor_state.ActorProgress) (order : Order) → slice_get orders actor_state.number ≡ Some order → seen_central.recorded_at orders actor_state ≡ option_map (seen_partition.recorded_of order) actor_state.snapshot
  recorded_before orders actor_state order next = rw next refl

  -- the turn beside the tier's scene
  pub stands_of : (opening : State) (w : Whole D S M) (a : ℕ) (outcome : Outcome) (w' : Whole D S M) (p : seen.SeenPartition) (t : IsTurn disk store meta w a outcome w') (e : IsEntered w outcome w' p t.list t.actor_state t.order)
      (c : seen_central.IsCentral opening (seen_as w p)) (k : seen_law.Went opening (seen_as w p) a e.turned (seen_as w' e.after) (seen_turn_of w a outcome w' p t e) c)
      → TurnStands (length p.nodes) p e.after c.plain k.central.plain e.y (recorded_in t.actor_state.in_progress) e.turned t.order (entry_for w outcome w' p t.list t.actor_state t.order e)
  stands_of opening w a outcome w' p t e c k =
      let at = c.stands.desk t.place t.list (actor_state_seen t.actor_state) t.at.list (map_get actor_state_seen w.desk t.place t.actor_state t.at.actor_state_is) in
      record {
        before = c.stands.partition_state;
        after = k.central.stands.partition_state;
        sound = seen_sound_of opening w p c;
        node = e.there;
        row = e.row;
        recorded = ap (λ (y : Actor). y.snapshot) at.actor ∙ recorded_before t.list.orders (actor_state_seen t.actor_state) t.order t.next;
        event = refl;
        is = k.step_is;
      }

  -- what searches have gone through, after it
  entered_dated : (opening : State) (w : Whole D S M) (a : ℕ) (outcome : Outcome) (w' : Whole D S M) (t : IsTurn disk store meta w a outcome w') (c : IsCentral disk store meta opening w)
      → (e : IsEntered w outcome w' c.partition t.list t.actor_state t.order)
      → (k : seen_law.Went opening (seen_as w c.partition) a e.turned (seen_as w' e.after) (seen_turn_of w a outcome w' c.partition t e) c.central) → AreDated k.central.plain w'.lists w'.desk
  entered_dated opening w a outcome w' t c e k =
      let entry = entry_for w outcome w' c.partition t.list t.actor_state t.order e in
      let grows = steps_grow c.central.plain t.order entry k.central.plain k.step_is c.central.safe in
      turn_dated disk store meta w a outcome w' t k.central.plain (desk_gone disk store meta opening w c k.central.plain grows k.central.safe)
      (undated k.central.plain (slice_get t.list.orders t.actor_state.number) t.actor_state.in_progress outcome (told_undated t.list.actor t.actor_state.number t.order.command outcome entry e.told))

  -- the tier after such a turn: changes, and then the plain log's step, in which each local start stays or falls
  pub entered_central : (opening : State) (w : Whole D S M) (a : ℕ) (outcome : Outcome) (w' : Whole D S M) (t : IsTurn disk store meta w a outcome w') (c : IsCentral disk store meta opening w)
      → (e : IsEntered w outcome w' c.partition t.list t.actor_state t.order) → (d : Scene) → IsChanged c.scene c.central.plain d → ShowsTier store meta w' c.partition d
      → may_raise (recorded_in t.actor_state.in_progress) t.order.command e.turned ≡ false
      → AreRecorded w'.desk → length d.notes + notes_left w'.lists w'.desk < 2 ^ 64 → IsCentral disk store meta opening w'
  entered_central opening w a outcome w' t c e d changed shows low recorded few =
      let p = c.central.plain in
      let turn = seen_turn_of w a outcome w' c.partition t e in
      let k = seen_law.turn_went opening (seen_as w c.partition) a e.turned (seen_as w' e.after) turn c.central in
      let q = k.central.plain in
      let stands = stands_of opening w a outcome w' c.partition t e c.central k in
      let safe : BothSafe d p = subst (λ (z : Scene). BothSafe z p) changed.is (all_kept changed.changes c.scene p p changed.may (both_of opening w c)) in
      let tier_views = tier_views_of e.after.nodes (broker_tiers_seen w'.tier.broker_tiers) in
      let follow = tier_views_follow (length c.partition.nodes) c.partition e.after p q e.y (recorded_in t.actor_state.in_progress) e.turned t.order (entry_for w outcome w' c.partition t.list t.actor_state t.order e) (broker_tiers_seen w'.tier.broker_tiers) d
      stands safe.plain (record { count = sided d p c.partition (broker_tiers_seen w'.tier.broker_tiers) safe c.central.stands.partition_state shows.tier_views; are = shows.tier_views }) low in
      let after : BothSafe (record d { tier_views = tier_views }) q =
      all_kept (Steps tier_views ∷ []) d p q (q, record { order = t.order; entry = entry_for w outcome w' c.partition t.list t.actor_state t.order e; is = k.step_is; follow = follow }, refl) safe in
      record {
        partition = e.after;
        shows = e.partition_state;
        central = k.central;
        scene = record d { tier_views = tier_views };
        shows_tier = record {
          partition = shows.partition;
          store_tells = shows.store_tells;
          objects = shows.objects;
          meta_tells = shows.meta_tells;
          notes = shows.notes;
          tier_views = refl;
          desk = shows.desk;
        };
        tier = after.tier;
        recorded = recorded;
        dated = entered_dated opening w a outcome w' t c e k;
        few = few;
      }

  -- a command that the remote tier has no part in: the changes have the plain log's step among them
  pub turned_central : (opening : State) (w : Whole D S M) (a : ℕ) (outcome : Outcome) (w' : Whole D S M) (t : IsTurn disk store meta w a outcome w') (c : IsCentral disk store meta opening w)
      → (e : IsEntered w outcome w' c.partition t.list t.actor_state t.order)
      → (k : seen_law.Went opening (seen_as w c.partition) a e.turned (seen_as w' e.after) (seen_turn_of w a outcome w' c.partition t e) c.central)
      → (d : Scene) → IsTurned c.scene c.central.plain k.central.plain d → ShowsTier store meta w' e.after d → AreRecorded w'.desk
      → length d.notes + notes_left w'.lists w'.desk < 2 ^ 64 → IsCentral disk store meta opening w'
  turned_central opening w a outcome w' t c e k d changed shows recorded few =
      let safe : BothSafe d k.central.plain = subst (λ (z : Scene). BothSafe z k.central.plain) changed.is (all_kept changed.changes c.scene c.central.plain k.central.plain changed.may (both_of opening w c)) in
      record {
        partition = e.after;
        shows = e.partition_state;
        central = k.central;
        scene = d;
        shows_tier = shows;
        tier = safe.tier;
        recorded = recorded;
        dated = entered_dated opening w a outcome w' t c e k;
        few = few;
      }

  -- a turn that is entered nowhere, or one that ran out of memory: changes of the tier alone
  pub silent_central : (opening : State) (w w' : Whole D S M) (c : IsCentral disk store meta opening w) → w'.lists ≡ w.lists → desk_seen w'.desk ≡ desk_seen w.desk
      → w'.journal.items ≡ w.journal.items → ShowsPartition disk.content w'.partition_state c.partition → (d : Scene) → IsChanged c.scene c.central.plain d → ShowsTier store meta w' c.partition d
      → AreRecorded w'.desk → AreDated c.central.plain w'.lists w'.desk → length d.notes + notes_left w'.lists w'.desk < 2 ^ 64 → IsCentral disk store meta opening w'
  silent_central opening w w' c lists desk items partition_state d changed shows recorded dated few =
      let safe : BothSafe d c.central.plain = subst (λ (z : Scene). BothSafe z c.central.plain) changed.is (all_kept changed.changes c.scene c.central.plain c.central.plain changed.may (both_of opening w c)) in
      record {
        partition = c.partition;
        shows = partition_state;
        central = record {
          plain = c.central.plain;
          replays = rw (lists, items) c.central.replays;
          safe = c.central.safe;
          stands = record {
            partition_state = c.central.stands.partition_state;
            lines = c.central.stands.lines;
            desk = λ place l actor_state at to.
                c.central.stands.desk place l actor_state (ap (λ (k : List ActorList). slice_get k place) (sym lists) ∙ at) (ap (λ (k : List seen_actor_state.ActorProgress). slice_get k place) (sym desk) ∙ to);
            rising = subst AreRising (sym lists) c.central.stands.rising;
            actor_states = ap (λ (k : List seen_actor_state.ActorProgress). length k) desk ∙ (c.central.stands.actor_states ∙ ap (λ (k : List ActorList). length k) (sym lists));
          };
        };
        scene = d;
        shows_tier = shows;
        tier = safe.tier;
        recorded = recorded;
        dated = dated;
        few = few;
      }
