-- Each turn keeps the central fact, and at the end it says that the run is complete.
use Rattle.std.proofs.Common.{◌≡◌, ◌⊎◌, ◌∙◌, ◌^◌, ◌<◌, ◌≤◌, ◌+◌, inl, inr, sym, ap, subst, refl, ℕ, zero, suc, Some, None, Option, Err, slice_get, slice_set, length, List, [], ◌∷◌, true, arith}
use Rattle.std.proofs.lemmas.List.{length-map}
use Rattle.disk_model.specs.declared.disk.Disk.{Ghosts as DiskGhosts}
use Rattle.object_store.specs.declared.store.Store.{Ghosts as StoreGhosts}
use Rattle.meta_log.specs.declared.log.MetaLog.{Ghosts as MetaGhosts}
use Rattle.segment_meta.specs.declared.note.Note.{Note}
use Rattle.registry.specs.declared.registry.Registry.{Registry}
use Rattle.registry.specs.declared.registry.Replica.{Replica}
use Rattle.log_terms.proofs.Lists.{look, within}
use Rattle.plain_log.specs.declared.answer.Answer.{Answer}
use Rattle.plain_log.specs.declared.answer.Answer.TheVariants.{Kept, StaleEpoch, Raised}
use Rattle.plain_log.specs.declared.command.ActorList.{ActorList}
use Rattle.plain_log.specs.declared.command.Command.{Command}
use Rattle.plain_log.specs.declared.command.Command.TheVariants.{Follow, Join, Trim, Copy, Expire, Fetch, Offset}
use Rattle.plain_log.specs.declared.command.Which.TheVariants.{LatestTiered, At}
use Rattle.plain_log.specs.declared.command.Order.{Order}
use Rattle.plain_log.specs.declared.state.Actor.{Actor}
use Rattle.plain_log.specs.declared.state.Broker.{Broker}
use Rattle.plain_log.specs.declared.state.State.{State}
use Rattle.plain_log.specs.State.{actor_at}
use Rattle.plain_log.specs.Fresh.{fresh}
use Rattle.plain_log.specs.Safe.{SnapshotIsSafe}
use Rattle.laws_partition.specs.declared.start_snapshot.StartSnapshot.{StartSnapshot}
use Rattle.laws_partition.specs.declared.start_snapshot.Turned.{Turned}
use Rattle.laws_partition.specs.declared.start_snapshot.Turned.TheVariants as turned
use Rattle.laws_partition.specs.declared.actor_progress.Stepped.{Stepped}
use Rattle.laws_partition.specs.declared.actor_progress.Stepped.TheVariants.{Ran, Done, Nothing, NoMemory}
use Rattle.laws_partition.specs.declared.actor_progress.ActorProgress as seen_actor_state
use Rattle.laws_partition.specs.Seen as seen
use Rattle.laws_partition.specs.Partition as seen_partition
use Rattle.laws_partition.specs.Rows as seen_rows
use Rattle.laws_partition.specs.Central as seen_central
use Rattle.laws_partition.proofs.BoolTests.{some_of}
use Rattle.laws_partition.proofs.Standing.{Standing, broker_at, map_get}
use Rattle.laws_partition.proofs.ProgressLaw.{recorded_some, going}
use Rattle.laws_partition.proofs.TurnRows.{GoingOn}
use Rattle.laws_partition.proofs.FollowRows.{meet_ends}
use Rattle.laws_partition.proofs.RebuildRows.{on_way}
use Rattle.laws_partition.proofs.CentralLaw as seen_law
use Rattle.laws_partition.proofs.CompleteLaw.{ends_complete}
use Rattle.laws_tier_turns.specs.Laws.{after_turn as after_own}
use Rattle.laws_tier_turns.specs.BrokerTiers.{tier_views_of}
use Rattle.laws_tier_turns.specs.Turns.{OwesTier}
use Rattle.laws_tier_turns.specs.TierTasks.{KeepsTask, tier_task_of as tier_task_seen, snapshot_after}
use Rattle.laws_tier_turns.proofs.OwnTurns.{own_turns}
use Rattle.partition_commands.specs.declared.partition_state.PartitionState.{PartitionState}
use Rattle.partition_commands.specs.Partition.{node_of, ShowsPartition}
use Rattle.partition_commands.specs.Shown.{Knows, KnowsSnapshot}
use Rattle.partition_commands.specs.Turns as turns
use Rattle.partition_commands.proofs.Refinement.{row_refined}
use Rattle.partition_commands.proofs.Shown.{partition_state_stays}
use Rattle.tier_safe.specs.Scene.{Scene, TierTask, Free}
use Rattle.tier_safe.specs.May.{IsChanged}
use Rattle.tier_safe.proofs.Turning.{halts, copy_dry}
use Rattle.partition_world.specs.declared.actor_state.Outcome.{Outcome}
use Rattle.partition_world.specs.declared.actor_state.Outcome.TheVariants.{Answers, ChoosesExpired}
use Rattle.partition_world.specs.declared.actor_state.ActorState.{ActorState}
use Rattle.partition_world.specs.declared.actor_state.InProgress.{InProgress}
use Rattle.partition_world.specs.declared.actor_state.InProgress.TheVariants.{Idle, Noted, Copies, Seeks, Dates, Expires, Rebuilds}
use Rattle.partition_world.specs.declared.tier.BrokerTierState.{BrokerTierState}
use Rattle.partition_world.specs.declared.tier.RemoteTier.{RemoteTier}
use Rattle.partition_world.specs.ActorStates.{recorded_in, outcome_of, actor_state_after, actor_state_seen, desk_seen}
use Rattle.partition_world.specs.TurnsOfCopy.{tiers_of, origin_of}
use Rattle.partition_world.specs.Central.{IsCentral, KeepsCentral, ShowsTier, broker_tiers_seen, tier_task_of, desk_of, notes_left}
use Rattle.partition_world.specs.Laws.{IsCompleteRun}
use Rattle.partition_world.specs.Turn.{IsTurn, IsAtEnd, StaysWhole, Steps}
use Rattle.partition_world.specs.Turns.{Row}
use Rattle.partition_world.specs.Whole.{Whole, seen_as}
use Rattle.partition_world.proofs.Begins.{row_of}
use Rattle.partition_world.proofs.CopyCentral.{copy_central}
use Rattle.partition_world.proofs.CopyEnds.{dry_tells}
use Rattle.partition_world.proofs.Entered.{both_of, sided, enters, entry_for, seen_turn_of, stands_of, turned_central, silent_central}
use Rattle.partition_world.proofs.NotesLeft.{notes_stay}
use Rattle.partition_world.proofs.SceneParts.{actor_state_set, idle_free, keeps_recorded}
use Rattle.partition_world.proofs.Scenes.{Place, place_of, tier_view, on_desk, scene_after, shows_at, shows_kept, tier_task_after, few_now, few_after}
use Rattle.index_cache.specs.Cache.{Cache}
use Rattle.remote_view.specs.Fold.{EntriesSeen as View}
use Rattle.view_refresh.specs.Refreshing.{Halted}
use Rattle.tier_fetch.specs.declared.turn.FetchStep.TheVariants.{Refresh}
use Rattle.time_find.specs.declared.turn.SearchStep.TheVariants.{Seek}
use Rattle.partition_commands.specs.declared.partition_state.Node.{Node}
use Rattle.partition_commands.specs.Shown.{StaysUp, Refines}
use Rattle.partition_commands.specs.Partition.{line_of}
use Rattle.partition_world.specs.Central.{begun_of, seeks_of}
use Rattle.partition_world.specs.Tier.{AtBrokerTier}
use Rattle.partition_world.specs.TurnsOfFetch.{wanted_of, fetch_tiers}
use Rattle.partition_world.specs.TurnsOfTrim.{TrimOnRow}
use Rattle.partition_world.specs.TurnsOfCopy.{KeepsLead}
use Rattle.partition_world.specs.TurnsOfExpiry.{ExpiresBy, ExpireOnRow, expiry_tiers}
use Rattle.partition_world.proofs.ExpiryCentral.{expire_first, expire_lost, expire_kept, expire_stale, raise_seen, chooses_expired, deletes}
use Rattle.partition_world.proofs.ExpiryEnds.{expiry_dry}
use Rattle.rebuild_task.specs.declared.turn.RebuildStep.{RebuildStep as Rebuild}
use Rattle.rebuild_task.specs.declared.turn.RebuildStep.TheVariants.{Epochs, Restart}
use Rattle.partition_commands.specs.TurnsOfFollowers.{JoinOnRow}
use Rattle.partition_world.specs.TurnsOfRebuild.{with_line, wanted_of as rebuilt_to}
use Rattle.partition_world.specs.Turns.{JoinSecondRow, RebuildingRow}
use Rattle.partition_world.specs.Central.{IsRecorded, AreRecorded, IsSearchState, AreDated, HasGone, dates_of, rebuilds_of}
use Rattle.partition_world.proofs.Recording.{own_recorded, turn_recorded}
use Rattle.partition_world.proofs.RebuildEnds.{rebuild_kept}
use Rattle.partition_world.proofs.RebuildCentral.{once_row, recorded_row, join_refreshes, join_reads}
use Rattle.partition_world.proofs.DateCentral.{none_gone, date_first, date_on}
use Rattle.partition_world.proofs.DateEnds.{date_dry}
use Rattle.partition_world.proofs.FetchCentral.{fetch_asks, fetch_on}
use Rattle.partition_world.proofs.FetchEnds.{Dries, fetch_dry}
use Rattle.partition_world.proofs.OffsetCentral.{offset_first, offset_on}
use Rattle.partition_world.proofs.LineTells.{line_tells, right_view}
use Rattle.partition_world.proofs.Scenes.{tier_view_is, same_broker_tiers, stayed}
use Rattle.partition_world.proofs.TrimCentral.{trim_first, trim_shown, trim_owes_on}
use Rattle.partition_world.proofs.Halting.{HaltsSome, StaysSome, stays_some}

-- the leader is a node
leader_in : (p : seen.SeenPartition) (q : State) (b : ℕ) (y : seen.Node) (s : Replica) → Standing p q b y s → p.registry.leader.0 < length p.nodes
leader_in p q b y s st =
    let low = st.safe.leader_within in
    let count = st.safe.same_count in
    let nodes : length q.brokers ≡ length p.nodes = ap (λ (k : List Broker). length k) st.partition_state.brokers ∙ length-map p.nodes seen_partition.broker_of in
    let leader = ap (λ (r : Registry). r.leader.0) st.partition_state.registry in
    omega (arith, low, count, nodes, leader)

-- a command that nothing is kept of shows no task
none_free : (b : ℕ) (command : Command) → tier_task_seen b command None ≡ Free
none_free b Join = refl
none_free b command = refl

keeps_none : (b : ℕ) (command : Command) → KeepsTask b command None Free
keeps_none b Join = refl
keeps_none b command = refl

-- what holds of each actor's state in its place holds of an actor's state as it is seen
seen_low : (n : ℕ) (desk : List ActorState) (place : ℕ) (actor_state : seen_actor_state.ActorProgress) → slice_get (desk_seen desk) place ≡ Some actor_state → ((s : ActorState) → slice_get desk place ≡ Some s → n ≤ s.number) → n ≤ actor_state.number
seen_low n [] place actor_state at low = absurd cc
seen_low n (s ∷ desk) zero actor_state at low = let is : actor_state_seen s ≡ actor_state = cc (at) in subst (λ (k : seen_actor_state.ActorProgress). n ≤ k.number) is (low s refl)
seen_low n (s ∷ desk) (suc place) actor_state at low = seen_low n desk place actor_state at low

-- the tier sees nothing of a command but of copies, fetches and joins
abbrev IsOwn : Command → Type 0
IsOwn (Fetch offset limit) = ⊥
IsOwn command = Unit {0}

begun_own : (b : ℕ) (g : StartSnapshot) (command : Command) → IsOwn command → begun_of b g command ≡ tier_task_seen b command (Some g)
begun_own b g (Fetch offset limit) own = elim own [ ]
begun_own b g command own = refl

begun_keeps : (b : ℕ) (command : Command) (g : StartSnapshot) → IsOwn command → KeepsTask b command (Some g) (begun_of b g command)
begun_keeps b command g own = subst (KeepsTask b command (Some g)) (sym (begun_own b g command own)) (keeps_recorded b command g)

module _ {D S M : Type 0} (disk : DiskGhosts D) (store : StoreGhosts S) (meta : MetaGhosts M) where
  -- what a turn starts from
  stands_at : (opening : State) (w : Whole D S M) (p : seen.SeenPartition) (b : ℕ) (y : seen.Node) → (c : seen_central.IsCentral opening (seen_as w p)) → slice_get p.nodes b ≡ Some y → (s : Replica) × Standing p c.plain b y s
  stands_at opening w p b y c at =
      let bx = broker_at p c.plain b y c.stands.partition_state at in
      let s = look c.plain.registry.replicas b (omega (arith, c.safe.same_count, within c.plain.brokers b (seen_partition.broker_of y) bx)) in
      (s.0, record { safe = c.safe; partition_state = c.stands.partition_state; lines = c.stands.lines; at = at; replica = s.1 })

  knows : (opening : State) (w : Whole D S M) (p : seen.SeenPartition) (b : ℕ) (y : seen.Node) → seen_central.IsCentral opening (seen_as w p) → slice_get p.nodes b ≡ Some y → Knows p y
  knows opening w p b y c at =
      let st = stands_at opening w p b y c at in
      record {
        sound = λ n z there. (c.stands.lines.each n z there).sound;
        meets = λ z m is meet. meet_ends p c.plain b y st.0 z m st.1 is meet;
      }

  -- what is known of what the turn's actor's state has
  kept_at : (opening : State) (w : Whole D S M) (a : ℕ) (outcome : Outcome) (w' : Whole D S M) (p : seen.SeenPartition) (y : seen.Node) (t : IsTurn disk store meta w a outcome w')
      → seen_central.IsCentral opening (seen_as w p) → slice_get p.nodes t.order.broker.0 ≡ Some y → (g : StartSnapshot) → recorded_in t.actor_state.in_progress ≡ Some g → KnowsSnapshot p y t.order.command g
  kept_at opening w a outcome w' p y t c at g snapshot =
      let actor_state = actor_state_seen t.actor_state in
      let st = c.stands.desk t.place t.list actor_state t.at.list (map_get actor_state_seen w.desk t.place t.actor_state t.at.actor_state_is) in
      let b = t.order.broker.0 in
      let recorded : (actor_at c.plain.actors t.list.actor.0).snapshot ≡ Some (seen_partition.recorded_of t.order g) = ap (λ (k : Actor). k.snapshot) st.actor ∙ recorded_some t.list.orders actor_state t.order g t.next snapshot in
      let k : SnapshotIsSafe c.plain.paths c.plain.registry.epoch (seen_partition.recorded_of t.order g) (seen_partition.broker_of y) =
      c.safe.recorded t.list.actor.0 (seen_partition.recorded_of t.order g) (seen_partition.broker_of y) recorded (broker_at p c.plain b y c.stands.partition_state at) in
      let going_on = going c.plain y t.order t.list actor_state g c.safe st t.next snapshot (broker_at p c.plain b y c.stands.partition_state at) in
      let s = stands_at opening w p b y c at in
      by c t.order t.order.command going_on k.up s.0 s.1
    where
      by : (c : seen_central.IsCentral opening (seen_as w p)) (order : Order) (command : Command) → GoingOn c.plain y order command g → (g.stops ≡ y.stops → y.up ≡ true) → (s : Replica)
          → Standing p c.plain t.order.broker.0 y s → KnowsSnapshot p y command g
      by c order (Follow limit) k up s st = record { recorded = up; are = k.stands.are; epochs = k.stands.epochs; small = k.stands.small }
      by c order Join k up s st =
          let there = look p.nodes p.registry.leader.0 (leader_in p c.plain t.order.broker.0 y s st) in
          record {
            recorded = up;
            way = λ on end z is.
                (let o = on_way p c.plain t.order.broker.0 y z s order g st (record { run = k.stands; recorded = k.joined refl; up = up }) on end is in
                record { leads = record { consecutive = o.whole.consecutive; ends = o.whole.ends }; begins = o.whole.begins; line = o.line });
            leader = there;
          }
      by c order Trim k up s st = up
      by c order command k up s st = tt

  -- a turn of a command that works on no remote device
  module _ (opening : State) (w : Whole D S M) (a : ℕ) (outcome : Outcome) (w' : Whole D S M) (t : IsTurn disk store meta w a outcome w') (c : IsCentral disk store meta opening w)
      (z : Place disk store meta opening w c t.place t.list t.actor_state t.order) where
    abbrev y : seen.Node
    y = node_of z.x z.s

    -- what its state shows then
    abbrev IsActorOf : Turned → Type 0
    IsActorOf turn = tier_task_after disk store meta opening w c t.place t.list t.actor_state t.order z (outcome_of turn) ≡ tier_task_seen t.order.broker.0 t.order.command (snapshot_after turn)

    actor_state_own : IsOwn t.order.command → (turn : Turned) → IsActorOf turn
    actor_state_own own (turned.Answers answer) = idle_free (slice_get t.list.orders (t.actor_state.number + 1)) ∙ sym (none_free t.order.broker.0 t.order.command)
    actor_state_own own (turned.Begins g) = ap (λ (o : Option Order). tier_task_of o (Noted g)) z.next ∙ begun_own t.order.broker.0 g t.order.command own

    actor_state_answered : (answer : Answer) → IsActorOf (turned.Answers answer)
    actor_state_answered answer = idle_free (slice_get t.list.orders (t.actor_state.number + 1)) ∙ sym (none_free t.order.broker.0 t.order.command)

    own_shows : (turn : Turned) (after : seen.SeenPartition) → outcome ≡ outcome_of turn → IsActorOf turn → w'.tier ≡ w.tier → ShowsTier store meta w' after (after_own c.scene t.place t.order turn (broker_tiers_seen w.tier.broker_tiers) after)
    own_shows turn after is actor_state same = record {
      partition = c.shows_tier.partition ∙ sym t.partition;
      store_tells = ap (λ (k : RemoteTier S M). (store.content k.store).is_observable) same ∙ c.shows_tier.store_tells;
      objects = c.shows_tier.objects ∙ sym (ap (λ (k : RemoteTier S M). (store.content k.store).objects) same);
      meta_tells = ap (λ (k : RemoteTier S M). (meta.content k.meta).is_observable) same ∙ c.shows_tier.meta_tells;
      notes = c.shows_tier.notes ∙ sym (ap (λ (k : RemoteTier S M). (meta.content k.meta).notes) same);
      tier_views = ap (λ (k : RemoteTier S M). tier_views_of after.nodes (broker_tiers_seen k.broker_tiers)) (sym same);
      desk = ap (λ (k : List TierTask). slice_set k t.place (tier_task_seen t.order.broker.0 t.order.command (snapshot_after turn))) c.shows_tier.desk
          ∙ (ap (λ (k : TierTask). slice_set (desk_of w.lists w.desk) t.place k) (sym (ap (λ (o : Outcome). tier_task_after disk store meta opening w c t.place t.list t.actor_state t.order z o) is ∙ actor_state))
          ∙ (sym (actor_state_set w.lists w.desk t.place t.list (actor_state_after t.actor_state outcome) t.at.list)
          ∙ (ap (λ (k : List ActorList). desk_of k (slice_set w.desk t.place (actor_state_after t.actor_state outcome))) (sym t.lists) ∙ ap (λ (k : List ActorState). desk_of w'.lists k) (sym t.desk))));
    }

    -- its row, as it is seen
    abbrev SeenRow : Turned → seen.SeenPartition → Type 0
    SeenRow turn h' = seen_rows.Row c.partition t.order.broker.0 y (recorded_in t.actor_state.in_progress) t.order.command turn h'

    own_refined : (turn : Turned) → outcome ≡ outcome_of turn → IsActorOf turn → (r : Refines disk.content w'.partition_state (SeenRow turn)) → w'.tier ≡ w.tier
        → KeepsTask t.order.broker.0 t.order.command (recorded_in t.actor_state.in_progress) (tier_task_of (Some t.order) t.actor_state.in_progress)
        → OwesTier c.partition t.order.broker.0 y t.order.command (broker_tiers_seen w.tier.broker_tiers) r.after → IsCentral disk store meta opening w'
    own_refined turn is actor_state r same works owes =
        let e = enters disk store meta w outcome w' c.partition t.list t.actor_state t.order turn r.after y is r.partition_state z.sees.there r.row in
        let k = seen_law.turn_went opening (seen_as w c.partition) a turn (seen_as w' r.after) (seen_turn_of disk store meta w a outcome w' c.partition t e) c.central in
        let stands = stands_of disk store meta opening w a outcome w' c.partition t e c.central k in
        let both = both_of disk store meta opening w c in
        let changed = own_turns (length c.partition.nodes) c.partition r.after c.central.plain k.central.plain y (recorded_in t.actor_state.in_progress) turn t.order
        (entry_for disk store meta w outcome w' c.partition t.list t.actor_state t.order e) (broker_tiers_seen w.tier.broker_tiers) c.scene t.place stands both
        (record { count = sided c.scene c.central.plain c.partition (broker_tiers_seen w.tier.broker_tiers) both c.central.stands.partition_state c.shows_tier.tier_views; are = c.shows_tier.tier_views })
        (record { tier_task = tier_task_of (Some t.order) t.actor_state.in_progress; actor_state = on_desk disk store meta opening w c t.place t.list t.actor_state t.order z; is = works }) owes in
        let shows = own_shows turn r.after is actor_state same in
        turned_central disk store meta opening w a outcome w' t c e k (after_own c.scene t.place t.order turn (broker_tiers_seen w.tier.broker_tiers) r.after) changed shows
        (turn_recorded disk store meta w a outcome w' t c.recorded (own_recorded t.actor_state.in_progress turn outcome is))
        (few_after disk store meta opening w a outcome w' t c r.after (after_own c.scene t.place t.order turn (broker_tiers_seen w.tier.broker_tiers) r.after) shows)

    own_central : (turn : Turned) → outcome ≡ outcome_of turn → IsActorOf turn → turns.Row disk.content disk.control w.partition_state t.order.broker.0 z.x (recorded_in t.actor_state.in_progress) t.order.command turn w'.partition_state → w'.tier ≡ w.tier
        → KeepsTask t.order.broker.0 t.order.command (recorded_in t.actor_state.in_progress) (tier_task_of (Some t.order) t.actor_state.in_progress)
        → ((h' : seen.SeenPartition) → OwesTier c.partition t.order.broker.0 y t.order.command (broker_tiers_seen w.tier.broker_tiers) h') → IsCentral disk store meta opening w'
    own_central turn is actor_state row same works owes =
        let r = row_refined disk.content disk.control w.partition_state c.partition t.order.broker.0 z.x z.s (recorded_in t.actor_state.in_progress) t.order.command turn w'.partition_state z.sees
        (knows opening w c.partition t.order.broker.0 y c.central z.sees.there) (kept_at opening w a outcome w' c.partition y t c.central z.sees.there) row in
        own_refined turn is actor_state r same works (owes r.after)

    -- at an actor's state that keeps no segment
    works_at : (in_progress : InProgress) → t.actor_state.in_progress ≡ in_progress → KeepsTask t.order.broker.0 t.order.command (recorded_in in_progress) (tier_task_of (Some t.order) in_progress)
        → KeepsTask t.order.broker.0 t.order.command (recorded_in t.actor_state.in_progress) (tier_task_of (Some t.order) t.actor_state.in_progress)
    works_at in_progress is k = subst (λ (u : InProgress). KeepsTask t.order.broker.0 t.order.command (recorded_in u) (tier_task_of (Some t.order) u)) (sym is) k

    row_at : (command : Command) → t.order.command ≡ command → (in_progress : InProgress) → t.actor_state.in_progress ≡ in_progress → (turn : Turned)
        → turns.Row disk.content disk.control w.partition_state t.order.broker.0 z.x (recorded_in in_progress) command turn w'.partition_state
        → turns.Row disk.content disk.control w.partition_state t.order.broker.0 z.x (recorded_in t.actor_state.in_progress) t.order.command turn w'.partition_state
    row_at command is in_progress keeps turn row =
        subst (λ (k : Command). turns.Row disk.content disk.control w.partition_state t.order.broker.0 z.x (recorded_in t.actor_state.in_progress) k turn w'.partition_state) (sym is)
        (subst (λ (k : InProgress). turns.Row disk.content disk.control w.partition_state t.order.broker.0 z.x (recorded_in k) command turn w'.partition_state) (sym keeps) row)

    owes_at : (command : Command) → t.order.command ≡ command → (h' : seen.SeenPartition) → OwesTier c.partition t.order.broker.0 y command (broker_tiers_seen w.tier.broker_tiers) h'
        → OwesTier c.partition t.order.broker.0 y t.order.command (broker_tiers_seen w.tier.broker_tiers) h'
    owes_at command is h' o = subst (λ (k : Command). OwesTier c.partition t.order.broker.0 y k (broker_tiers_seen w.tier.broker_tiers) h') (sym is) o

    -- the second turn of a trim
    trims_on : t.order.command ≡ Trim → (g : StartSnapshot) → t.actor_state.in_progress ≡ Noted g → (o : Outcome) → outcome ≡ o → TrimOnRow disk w.partition_state t.order.broker.0 z.x z.broker_tier g w.config.local_keep o w'.partition_state → w'.tier ≡ w.tier
        → IsCentral disk store meta opening w'
    trims_on is g recorded (Answers answer) said row same =
        let sound = (c.central.stands.lines.each t.order.broker.0 y z.sees.there).sound in
        let up : StaysUp y g = subst (λ (k : Command). KnowsSnapshot c.partition y k g) is (kept_at opening w a outcome w' c.partition y t c.central z.sees.there g (ap recorded_in recorded)) in
        let r = trim_shown disk w.partition_state c.partition t.order.broker.0 z.x z.s g answer w'.partition_state z.sees up sound row.0 in
        let view = right_view c.scene.notes c.scene.desk z.broker_tier.view c.tier.notes (c.tier.views t.order.broker.0 (tier_view disk store meta opening w c t.place t.list t.actor_state t.order z) (tier_view_is disk store meta opening w c t.place t.list t.actor_state t.order z)) in
        let owes = trim_owes_on disk w.partition_state c.partition t.order.broker.0 z.x z.s g z.broker_tier w.config.local_keep w.tier.broker_tiers answer w'.partition_state r.after z.sees z.broker_tier_at sound (line_tells y sound) view row.0 row.1 r.row.0 r.row.1 in
        own_refined (turned.Answers answer) said (actor_state_answered answer)
        (record {
          after = r.after;
          partition_state = r.partition_state;
          row = subst (λ (k : Command). seen_rows.Row c.partition t.order.broker.0 y (recorded_in t.actor_state.in_progress) k (turned.Answers answer) r.after) (sym is)
              (subst (λ (k : InProgress). seen_rows.Row c.partition t.order.broker.0 y (recorded_in k) Trim (turned.Answers answer) r.after) (sym recorded) r.row.0);
        })
        same (works_at (Noted g) recorded (subst (λ (k : Command). KeepsTask t.order.broker.0 k (Some g) (begun_of t.order.broker.0 g k)) (sym is) refl)) (owes_at Trim is r.after owes)
    trims_on is g recorded other said row same = elim row [ ]

    -- the second turn of an expiry
    expires_by : t.order.command ≡ Expire → (g : StartSnapshot) → t.actor_state.in_progress ≡ Noted g → KeepsLead z.x g → (o : Outcome) → outcome ≡ o → ExpiresBy w.partition w.partition_state z.x z.broker_tier w.config.keep o w'.partition_state → w'.tier ≡ w.tier
        → IsCentral disk store meta opening w'
    expires_by is g recorded keeps (ChoosesExpired segment) said row same = chooses_expired disk store meta opening w a outcome w' t c z is g segment recorded said row same
    expires_by is g recorded keeps (Answers Kept) said row same = expire_kept disk store meta opening w a outcome w' t c z is g recorded said keeps same row.2
    expires_by is g recorded keeps (Answers (StaleEpoch n)) said row same = expire_stale disk store meta opening w a outcome w' t c z is g recorded n said keeps same row.0 row.2
    expires_by is g recorded keeps (Answers (Raised start)) said row same =
        let r = raise_seen disk store meta opening w a outcome w' t c z is g start row.0 keeps row.2 in
        own_refined (turned.Answers (Raised start)) said (actor_state_answered (Raised start))
        (record {
          after = r.after;
          partition_state = r.partition_state;
          row = subst (λ (k : Command). seen_rows.Row c.partition t.order.broker.0 y (recorded_in t.actor_state.in_progress) k (turned.Answers (Raised start)) r.after) (sym is)
              (subst (λ (k : InProgress). seen_rows.Row c.partition t.order.broker.0 y (recorded_in k) Expire (turned.Answers (Raised start)) r.after) (sym recorded) r.row);
        })
        same (works_at (Noted g) recorded (subst (λ (k : Command). KeepsTask t.order.broker.0 k (Some g) (begun_of t.order.broker.0 g k)) (sym is) refl)) (owes_at Expire is r.after tt)
    expires_by is g recorded keeps (Answers answer) said row same = elim row.2 [ ]
    expires_by is g recorded keeps other said row same = elim row [ ]

    expires_on : t.order.command ≡ Expire → (g : StartSnapshot) → t.actor_state.in_progress ≡ Noted g → ExpireOnRow w.partition w.partition_state z.x z.broker_tier g w.config.keep outcome w'.partition_state → w'.tier ≡ w.tier → IsCentral disk store meta opening w'
    expires_on is g recorded (inl lost) same = expire_lost disk store meta opening w a outcome w' t c z is g recorded lost.1 lost.0 same lost.2
    expires_on is g recorded (inr k) same = expires_by is g recorded k.0 outcome refl k.1 same

    -- the second turn of a join, and later ones

    join_own : t.order.command ≡ Join → (in_progress : InProgress) → t.actor_state.in_progress ≡ in_progress → (g : StartSnapshot) → recorded_in in_progress ≡ Some g → KeepsTask t.order.broker.0 t.order.command (recorded_in in_progress) (tier_task_of (Some t.order) in_progress)
        → (answer : Answer) → outcome ≡ Answers answer → JoinOnRow disk.content disk.control w.partition_state t.order.broker.0 z.x g answer w'.partition_state → w'.tier ≡ w.tier → IsCentral disk store meta opening w'
    join_own is in_progress keeps g recorded works answer said row same =
        own_central (turned.Answers answer) said (actor_state_answered answer)
        (row_at Join is in_progress keeps (turned.Answers answer)
        (subst (λ (o : Option StartSnapshot). turns.Row disk.content disk.control w.partition_state t.order.broker.0 z.x o Join (turned.Answers answer) w'.partition_state) (sym recorded) row)) same (works_at in_progress keeps works)
        (λ h'. owes_at Join is h' tt)

    recorded_works : t.order.command ≡ Join → (g : StartSnapshot) → KeepsTask t.order.broker.0 t.order.command (recorded_in (Noted g)) (tier_task_of (Some t.order) (Noted g))
    recorded_works is g = begun_keeps t.order.broker.0 t.order.command g (subst IsOwn (sym is) tt)

    rebuilding_works : t.order.command ≡ Join → (g : StartSnapshot) (next : Rebuild) → KeepsTask t.order.broker.0 t.order.command (recorded_in (Rebuilds g next)) (tier_task_of (Some t.order) (Rebuilds g next))
    rebuilding_works is g next = subst (λ (k : Command). KeepsTask t.order.broker.0 k (Some g) (rebuilds_of t.order.broker.0 g k)) (sym is) (true, None, refl)

    join_on : t.order.command ≡ Join → (g : StartSnapshot) → t.actor_state.in_progress ≡ Noted g → JoinSecondRow disk meta w.partition_state w.tier t.order.broker.0 z.x z.broker_tier g outcome w'.partition_state w'.tier → IsCentral disk store meta opening w'
    join_on is g recorded (inl (low, own)) = join_own is (Noted g) recorded g refl (recorded_works is g) own.0.0 own.0.1 own.0.2 own.1
    join_on is g recorded (inr (high, inl (answer, said, once, tier), same)) =
        join_own is (Noted g) recorded g refl (recorded_works is g) answer said (once_row disk w.partition_state t.order.broker.0 z.x g answer w'.partition_state once same) tier
    join_on is g recorded (inr (high, inr (may, row), same)) = join_refreshes disk store meta opening w a outcome w' t c z is g recorded high may outcome refl row same

    join_later : t.order.command ≡ Join → (g : StartSnapshot) (next : Rebuild) → t.actor_state.in_progress ≡ Rebuilds g next → RebuildingRow disk store w.partition w.partition_state w.tier t.order.broker.0 z.x z.broker_tier g next Join outcome w'.partition_state w'.tier
        → IsCentral disk store meta opening w'
    join_later is g Epochs works (inl (answer, said, once, tier), same) =
        join_own is (Rebuilds g Epochs) works g refl (rebuilding_works is g Epochs) answer said (once_row disk w.partition_state t.order.broker.0 z.x g answer w'.partition_state once same) tier
    join_later is g Epochs works (inr (may, (turn, said, goes)), same) = join_reads disk store meta opening w a outcome w' t c z is g works may turn said goes same
    join_later is g (Restart line) works row =
        let one : line ≡ g.line = subst IsRecorded works (c.recorded t.place t.actor_state t.at.actor_state_is) in
        let own = subst (λ (l : List (ℕ × ℕ)). JoinOnRow disk.content disk.control w.partition_state t.order.broker.0 z.x (with_line g l) row.0.0 w'.partition_state) one row.0.2 in
        join_own is (Rebuilds g (Restart line)) works g refl (rebuilding_works is g (Restart line)) row.0.0 row.0.1 (recorded_row disk w.partition_state t.order.broker.0 z.x g row.0.0 w'.partition_state own) row.1

    -- the first turn of a fetch
    fetch_first : (offset limit : ℕ) → t.order.command ≡ Fetch offset limit → t.actor_state.in_progress ≡ Idle → (turn : Turned) → outcome ≡ outcome_of turn
        → turns.FirstRow disk.content disk.control w.partition_state t.order.broker.0 z.x (Fetch offset limit) turn w'.partition_state → w'.tier ≡ w.tier → IsCentral disk store meta opening w'
    fetch_first offset limit is idle (turned.Answers answer) said row same =
        own_central (turned.Answers answer) said (actor_state_answered answer) (row_at (Fetch offset limit) is Idle idle (turned.Answers answer) row) same (works_at Idle idle (keeps_none t.order.broker.0 t.order.command))
        (λ h'. owes_at (Fetch offset limit) is h' tt)
    fetch_first offset limit is idle (turned.Begins g) said row same = fetch_asks disk store meta opening w a outcome w' t c z offset limit is idle g said row same

    -- a turn of any command
    by_command : (command : Command) → t.order.command ≡ command → (in_progress : InProgress) → t.actor_state.in_progress ≡ in_progress
        → Row disk store meta w.partition w.config w.partition_state w.tier t.order.broker.0 z.x z.broker_tier in_progress command outcome w'.partition_state w'.tier → IsCentral disk store meta opening w'
    by_command Copy is in_progress keeps row = copy_central disk store meta opening w a outcome w' t c z is in_progress keeps row
    by_command Trim is Idle keeps row = trim_first disk store meta opening w a outcome w' t c z is keeps outcome refl row.0 row.1
    by_command Trim is (Noted g) keeps row = trims_on is g keeps outcome refl row.0 row.1
    by_command Trim is (Copies g copy next) keeps row = absurd row
    by_command Trim is (Seeks g next) keeps row = absurd row
    by_command Trim is (Dates g cursor next) keeps row = absurd row
    by_command Trim is (Expires g segment next) keeps row = absurd row
    by_command Trim is (Rebuilds g next) keeps row = absurd row
    by_command Expire is Idle keeps row = expire_first disk store meta opening w a outcome w' t c z is keeps outcome refl row.0 row.1
    by_command Expire is (Noted g) keeps row = expires_on is g keeps row.0 row.1
    by_command Expire is (Copies g copy next) keeps row = absurd row
    by_command Expire is (Seeks g next) keeps row = absurd row
    by_command Expire is (Dates g cursor next) keeps row = absurd row
    by_command Expire is (Expires g segment next) keeps row = deletes disk store meta opening w a outcome w' t c z is g segment next keeps row.0 row.1
    by_command Expire is (Rebuilds g next) keeps row = absurd row
    by_command Join is (Noted g) keeps row = join_on is g keeps row
    by_command Join is (Rebuilds g next) keeps row = join_later is g next keeps row
    by_command (Fetch offset limit) is Idle keeps row = fetch_first offset limit is keeps row.0.0 row.0.1 row.0.2 row.1
    by_command (Fetch offset limit) is (Noted g) keeps row =
        fetch_on disk store meta opening w a outcome w' t c z offset limit is (Noted g) keeps g refl Refresh
        (ap (begun_of t.order.broker.0 g) is ∙ sym (ap (seeks_of t.order.broker.0 g Refresh) is)) (λ later. refl) outcome refl row.0 row.1
    by_command (Fetch offset limit) is (Copies g copy next) keeps row = absurd row
    by_command (Fetch offset limit) is (Seeks g next) keeps row =
        fetch_on disk store meta opening w a outcome w' t c z offset limit is (Seeks g next) keeps g refl next refl (λ later. refl) outcome refl row.0 row.1
    by_command (Fetch offset limit) is (Dates g cursor next) keeps row = absurd row
    by_command (Fetch offset limit) is (Expires g segment next) keeps row = absurd row
    by_command (Fetch offset limit) is (Rebuilds g next) keeps row = absurd row
    by_command (Offset LatestTiered) is Idle keeps row = offset_first disk store meta opening w a outcome w' t c z is keeps outcome refl row.0 row.1
    by_command (Offset LatestTiered) is (Noted g) keeps row = offset_on disk store meta opening w a outcome w' t c z is g keeps outcome refl row.0 row.1 row.2
    by_command (Offset LatestTiered) is (Copies g copy next) keeps row = absurd row
    by_command (Offset LatestTiered) is (Seeks g next) keeps row = absurd row
    by_command (Offset LatestTiered) is (Dates g cursor next) keeps row = absurd row
    by_command (Offset LatestTiered) is (Expires g segment next) keeps row = absurd row
    by_command (Offset LatestTiered) is (Rebuilds g next) keeps row = absurd row
    by_command (Offset (At ts)) is Idle keeps row = date_first disk store meta opening w a outcome w' t c z ts is keeps outcome refl row.0 row.1
    by_command (Offset (At ts)) is (Noted g) keeps row =
        date_on disk store meta opening w a outcome w' t c z ts is (Noted g) keeps g refl 0 Seek
        (ap (begun_of t.order.broker.0 g) is ∙ sym (ap (dates_of t.order.broker.0 g 0 Seek) is)) (λ to later. refl) (λ x there stops role.
        none_gone ts c.central.plain.registry.start x.log (c.central.safe.brokers t.order.broker.0 x there).log.consecutive) tt outcome refl row
    by_command (Offset (At ts)) is (Copies g copy next) keeps row = absurd row
    by_command (Offset (At ts)) is (Seeks g next) keeps row = absurd row
    by_command (Offset (At ts)) is (Dates g cursor next) keeps row =
        let gone : IsSearchState c.central.plain (Some t.order) (Dates g cursor next) = subst (λ (k : InProgress). IsSearchState c.central.plain (Some t.order) k) keeps
        (subst (λ (o : Option Order). IsSearchState c.central.plain o t.actor_state.in_progress) t.next (c.dated t.place t.list t.actor_state t.at.list t.at.actor_state_is)) in
        date_on disk store meta opening w a outcome w' t c z ts is (Dates g cursor next) keeps g refl cursor next refl (λ to later. refl)
        (subst (λ (k : Command). HasGone c.central.plain t.order.broker.0 g k cursor next) is gone.1) gone.0 outcome refl row
    by_command (Offset (At ts)) is (Expires g segment next) keeps row = absurd row
    by_command (Offset (At ts)) is (Rebuilds g next) keeps row = absurd row
    by_command command is Idle keeps row =
        own_central row.0.0 row.0.1 (actor_state_own (subst IsOwn (sym is) tt) row.0.0) (row_at command is Idle keeps row.0.0 row.0.2) row.1 (works_at Idle keeps (keeps_none t.order.broker.0 t.order.command))
        (λ h'. owes_at command is h' tt)
    by_command command is (Noted g) keeps row =
        own_central (turned.Answers row.0.0) row.0.1 (actor_state_answered row.0.0) (row_at command is (Noted g) keeps (turned.Answers row.0.0) row.0.2) row.1
        (works_at (Noted g) keeps (begun_keeps t.order.broker.0 t.order.command g (subst IsOwn (sym is) tt))) (λ h'. owes_at command is h' tt)
    by_command command is (Copies g copy next) keeps row = elim row [ ]
    by_command command is (Seeks g next) keeps row = elim row [ ]
    by_command command is (Dates g cursor next) keeps row = elim row [ ]
    by_command command is (Expires g segment next) keeps row = elim row [ ]
    by_command command is (Rebuilds g next) keeps row = elim row [ ]

  -- a turn keeps the central fact
  pub turn_central : (opening : State) (w : Whole D S M) (a : ℕ) (outcome : Outcome) (w' : Whole D S M) → IsTurn disk store meta w a outcome w' → IsCentral disk store meta opening w → IsCentral disk store meta opening w'
  turn_central opening w a outcome w' t c =
      let r = row_of disk store meta w.partition w.config w.partition_state w.tier t.order.broker.0 t.actor_state.in_progress t.order.command outcome w'.partition_state w'.tier t.row in
      by_command opening w a outcome w' t c
      (place_of disk store meta opening w c t.place t.list t.actor_state t.order t.at.list t.at.actor_state_is t.next r.x r.at r.broker_tier r.broker_tier_at) t.order.command refl t.actor_state.in_progress refl r.row

  -- and so does running out of memory
  few_stays : (opening : State) (w : Whole D S M) (a : ℕ) (w' : Whole D S M) → StaysWhole disk store meta w a w' → (c : IsCentral disk store meta opening w) → (d : Scene)
      → ShowsTier store meta w' c.partition d → length d.notes + notes_left w'.lists w'.desk < 2 ^ 64
  few_stays opening w a w' s c d shows =
      let few = c.few in
      let left = notes_stay disk store meta w a w' s c.shows_tier.meta_tells in
      let before = ap (λ (k : List Note). length k) c.shows_tier.notes in
      let after = ap (λ (k : List Note). length k) shows.notes in
      omega (arith, few, left, before, after)

  module _ (opening : State) (w : Whole D S M) (a : ℕ) (w' : Whole D S M) (s : StaysWhole disk store meta w a w') (c : IsCentral disk store meta opening w) where
    same_part : w'.partition ≡ w.partition
    same_part = ap (λ (k : Whole D S M). k.partition) s.fields

    same_lists : w'.lists ≡ w.lists
    same_lists = ap (λ (k : Whole D S M). k.lists) s.fields

    same_desk : w'.desk ≡ w.desk
    same_desk = ap (λ (k : Whole D S M). k.desk) s.fields

    -- changes of the tier alone
    waits : ShowsPartition disk.content w'.partition_state c.partition → (d : Scene) → IsChanged c.scene c.central.plain d → ShowsTier store meta w' c.partition d → IsCentral disk store meta opening w'
    waits partition_state d changed shows =
        silent_central disk store meta opening w w' c same_lists (ap desk_seen same_desk) (ap (λ (k : Whole D S M). k.journal.items) s.fields) partition_state d changed shows (subst AreRecorded (sym same_desk) c.recorded)
        (subst (λ (l : List ActorList). AreDated c.central.plain l w'.desk) (sym same_lists) (subst (AreDated c.central.plain w.lists) (sym same_desk) c.dated))
        (few_stays opening w a w' s c d shows)

    -- nothing has changed
    rests : ShowsPartition disk.content w'.partition_state c.partition → w'.tier ≡ w.tier → IsCentral disk store meta opening w'
    rests partition_state same = waits partition_state c.scene (record { changes = []; may = refl; is = refl }) (record {
      partition = c.shows_tier.partition ∙ sym same_part;
      store_tells = ap (λ (k : RemoteTier S M). (store.content k.store).is_observable) same ∙ c.shows_tier.store_tells;
      objects = c.shows_tier.objects ∙ sym (ap (λ (k : RemoteTier S M). (store.content k.store).objects) same);
      meta_tells = ap (λ (k : RemoteTier S M). (meta.content k.meta).is_observable) same ∙ c.shows_tier.meta_tells;
      notes = c.shows_tier.notes ∙ sym (ap (λ (k : RemoteTier S M). (meta.content k.meta).notes) same);
      tier_views = c.shows_tier.tier_views ∙ ap (λ (k : RemoteTier S M). tier_views_of c.partition.nodes (broker_tiers_seen k.broker_tiers)) (sym same);
      desk = c.shows_tier.desk ∙ (ap (λ (k : List ActorList). desk_of k w.desk) (sym same_lists) ∙ ap (λ (k : List ActorState). desk_of w'.lists k) (sym same_desk));
    })

    -- a fetch or a search has read in vain
    dried : (z : Place disk store meta opening w c s.place s.list s.actor_state s.order) → w'.partition_state ≡ w.partition_state → {view : View} {cache : Cache} → w'.tier.broker_tiers ≡ slice_set w.tier.broker_tiers s.order.broker.0 (record z.broker_tier { view = view; cache = cache })
        → Dries store meta (fetch_tiers z.broker_tier.view z.broker_tier.cache w.tier) (fetch_tiers view cache w'.tier) → IsCentral disk store meta opening w'
    dried z same {view} {cache} broker_tiers d = by d.why
      where
        partition_state : ShowsPartition disk.content w'.partition_state c.partition
        partition_state = subst (λ (h : PartitionState D). ShowsPartition disk.content h c.partition) (sym same) c.shows

        seen_broker_tiers : w'.tier.broker_tiers ≡ slice_set w.tier.broker_tiers s.order.broker.0 (record z.broker_tier { view = view })
        seen_broker_tiers = broker_tiers ∙ ap (λ (k : Cache). slice_set w.tier.broker_tiers s.order.broker.0 (record z.broker_tier { view = view; cache = k })) d.cache

        by : Halted meta.content meta.control z.broker_tier.view view w.tier.meta w'.tier.meta ⊎ ((view ≡ z.broker_tier.view) × (w'.tier.meta ≡ w.tier.meta)) → IsCentral disk store meta opening w'
        by (inl k) =
            let changed = halts store.content store.control meta.content meta.control w.tier.meta view c.scene c.central.plain s.place s.order.broker.0
            (tier_view disk store meta opening w c s.place s.list s.actor_state s.order z) (tier_task_of (Some s.order) s.actor_state.in_progress) (store.content w.tier.store)
            (shows_at disk store meta opening w c s.place s.list s.actor_state s.order z) (few_now disk store meta opening w c) c.tier k.view in
            waits partition_state (scene_after disk store meta opening w c s.place s.list s.actor_state s.order z (tier_task_of (Some s.order) s.actor_state.in_progress) c.scene.objects c.scene.notes view) changed
            (shows_kept disk store meta opening w c s.place s.list s.actor_state s.order z w' c.scene.objects c.scene.notes view same_part same_lists same_desk seen_broker_tiers
            (d.store_stays.is_observable, k.content.is_observable) (c.shows_tier.objects ∙ sym d.store_stays.objects) (c.shows_tier.notes ∙ sym k.content.notes))
        by (inr k) =
            waits partition_state (scene_after disk store meta opening w c s.place s.list s.actor_state s.order z (tier_task_of (Some s.order) s.actor_state.in_progress) c.scene.objects c.scene.notes z.broker_tier.view)
            (stayed disk store meta opening w c s.place s.list s.actor_state s.order z)
            (shows_kept disk store meta opening w c s.place s.list s.actor_state s.order z w' c.scene.objects c.scene.notes z.broker_tier.view same_part same_lists same_desk
            (seen_broker_tiers ∙ ap (λ (v : View). slice_set w.tier.broker_tiers s.order.broker.0 (record z.broker_tier { view = v })) k.0)
            (d.store_stays.is_observable, ap (λ (m : M). (meta.content m).is_observable) k.1) (c.shows_tier.objects ∙ sym d.store_stays.objects) (c.shows_tier.notes ∙ sym (ap (λ (m : M). (meta.content m).notes) k.1)))

    -- a view has taken in some metadata events
    halted : (z : Place disk store meta opening w c s.place s.list s.actor_state s.order) → w'.partition_state ≡ w.partition_state → HaltsSome disk store meta w.partition_state w.tier s.order.broker.0 z.x z.broker_tier w'.tier
        → IsCentral disk store meta opening w'
    halted z same (inl k) =
        let changed = halts store.content store.control meta.content meta.control w.tier.meta k.view c.scene c.central.plain s.place s.order.broker.0
        (tier_view disk store meta opening w c s.place s.list s.actor_state s.order z) (tier_task_of (Some s.order) s.actor_state.in_progress) (store.content w.tier.store)
        (shows_at disk store meta opening w c s.place s.list s.actor_state s.order z) (few_now disk store meta opening w c) c.tier k.reads.view in
        waits (subst (λ (h : PartitionState D). ShowsPartition disk.content h c.partition) (sym same) c.shows)
        (scene_after disk store meta opening w c s.place s.list s.actor_state s.order z (tier_task_of (Some s.order) s.actor_state.in_progress) c.scene.objects c.scene.notes k.view) changed
        (shows_kept disk store meta opening w c s.place s.list s.actor_state s.order z w' c.scene.objects c.scene.notes k.view same_part same_lists same_desk (ap (λ (u : RemoteTier S M). u.broker_tiers) k.after)
        (ap (λ (u : RemoteTier S M). (store.content u.store).is_observable) k.after, k.reads.content.is_observable)
        (c.shows_tier.objects ∙ sym (ap (λ (u : RemoteTier S M). (store.content u.store).objects) k.after)) (c.shows_tier.notes ∙ sym k.reads.content.notes))
    halted z same (inr (inl (copy, next, k))) =
        let changed = copy_dry store.content store.control meta.content meta.control copy (origin_of w.partition_state s.order.broker.0) next k.error (tiers_of z.broker_tier.view w.tier) (tiers_of k.view w'.tier)
        c.scene c.central.plain s.place s.order.broker.0 (tier_view disk store meta opening w c s.place s.list s.actor_state s.order z) (tier_task_of (Some s.order) s.actor_state.in_progress) k.row
        (shows_at disk store meta opening w c s.place s.list s.actor_state s.order z) (few_now disk store meta opening w c) c.tier in
        waits (subst (λ (h : PartitionState D). ShowsPartition disk.content h c.partition) (sym same) c.shows)
        (scene_after disk store meta opening w c s.place s.list s.actor_state s.order z (tier_task_of (Some s.order) s.actor_state.in_progress) (store.content w'.tier.store).objects (meta.content w'.tier.meta).notes k.view) changed
        (shows_kept disk store meta opening w c s.place s.list s.actor_state s.order z w' (store.content w'.tier.store).objects (meta.content w'.tier.meta).notes k.view same_part same_lists same_desk
        (ap (λ (u : RemoteTier S M). u.broker_tiers) k.after)
        (dry_tells store meta copy (origin_of w.partition_state s.order.broker.0) next k.error (tiers_of z.broker_tier.view w.tier) (tiers_of k.view w'.tier) k.row) refl refl)
    halted z same (inr (inr (inr (inr (inr (p, g, k)))))) =
        let kept = rebuild_kept store (rebuilt_to p g) g.line z.broker_tier.view (Err k.error) w.tier.store w'.tier.store k.row in
        waits (subst (λ (h : PartitionState D). ShowsPartition disk.content h c.partition) (sym same) c.shows)
        (scene_after disk store meta opening w c s.place s.list s.actor_state s.order z (tier_task_of (Some s.order) s.actor_state.in_progress) c.scene.objects c.scene.notes z.broker_tier.view)
        (stayed disk store meta opening w c s.place s.list s.actor_state s.order z)
        (shows_kept disk store meta opening w c s.place s.list s.actor_state s.order z w' c.scene.objects c.scene.notes z.broker_tier.view same_part same_lists same_desk
        (ap (λ (u : RemoteTier S M). u.broker_tiers) k.after ∙ same_broker_tiers disk store meta opening w c s.place s.list s.actor_state s.order z)
        (kept.is_observable, ap (λ (u : RemoteTier S M). (meta.content u.meta).is_observable) k.after) (c.shows_tier.objects ∙ sym kept.objects)
        (c.shows_tier.notes ∙ sym (ap (λ (u : RemoteTier S M). (meta.content u.meta).notes) k.after)))
    halted z same (inr (inr (inr (inl (segment, next, k))))) =
        let d = expiry_dry store meta segment (origin_of w.partition_state s.order.broker.0) next k.error (expiry_tiers w.tier) (expiry_tiers w'.tier) k.row in
        waits (subst (λ (h : PartitionState D). ShowsPartition disk.content h c.partition) (sym same) c.shows)
        (scene_after disk store meta opening w c s.place s.list s.actor_state s.order z (tier_task_of (Some s.order) s.actor_state.in_progress) c.scene.objects c.scene.notes z.broker_tier.view)
        (stayed disk store meta opening w c s.place s.list s.actor_state s.order z)
        (shows_kept disk store meta opening w c s.place s.list s.actor_state s.order z w' c.scene.objects c.scene.notes z.broker_tier.view same_part same_lists same_desk
        (ap (λ (u : RemoteTier S M). u.broker_tiers) k.after ∙ same_broker_tiers disk store meta opening w c s.place s.list s.actor_state s.order z)
        (ap (λ (u : S). (store.content u).is_observable) d.store_is, d.is_observable) (c.shows_tier.objects ∙ sym (ap (λ (u : S). (store.content u).objects) d.store_is)) (c.shows_tier.notes ∙ sym (d.notes c.shows_tier.meta_tells)))
    halted z same (inr (inr (inl (p, offset, limit, next, k)))) =
        let d = fetch_dry store meta (wanted_of p z.x offset limit) (line_of z.x) next k.error (fetch_tiers z.broker_tier.view z.broker_tier.cache w.tier) (fetch_tiers k.view k.cache w'.tier) k.row in
        dried z same (ap (λ (u : RemoteTier S M). u.broker_tiers) k.after) d
    halted z same (inr (inr (inr (inr (inl (line, asked, cursor, next, k)))))) =
        let d = date_dry store meta asked line cursor next k.error (fetch_tiers z.broker_tier.view z.broker_tier.cache w.tier) (fetch_tiers k.view k.cache w'.tier) k.row in
        dried z same (ap (λ (u : RemoteTier S M). u.broker_tiers) k.after) d

    by_tier : StaysSome disk store meta w.partition_state w.tier s.order.broker.0 w'.partition_state w'.tier → IsCentral disk store meta opening w'
    by_tier (inl k) = rests (partition_state_stays disk.content disk.control w.partition_state c.partition w'.partition_state c.shows k.0) k.1
    by_tier (inr k) =
        let x = some_of (λ (x : Node D). AtBrokerTier w.tier s.order.broker.0 (λ broker_tier. HaltsSome disk store meta w.partition_state w.tier s.order.broker.0 x broker_tier w'.tier)) (slice_get w.partition_state.nodes s.order.broker.0) k.1 in
        let broker_tier = some_of (λ (broker_tier : BrokerTierState). HaltsSome disk store meta w.partition_state w.tier s.order.broker.0 x.0 broker_tier w'.tier) (slice_get w.tier.broker_tiers s.order.broker.0) x.2 in
        halted (place_of disk store meta opening w c s.place s.list s.actor_state s.order s.next.at.list s.next.at.actor_state_is s.next.next x.0 x.1 broker_tier.0 broker_tier.1) k.0 broker_tier.2

  whole_central : (opening : State) (w : Whole D S M) (a : ℕ) (w' : Whole D S M) → StaysWhole disk store meta w a w' → IsCentral disk store meta opening w → IsCentral disk store meta opening w'
  whole_central opening w a w' s c =
      by_tier opening w a w' s c (stays_some disk store meta w.partition w.partition_state w.tier s.order.broker.0 s.actor_state.in_progress s.order.command w'.partition_state w'.tier s.tier)

  pub step_central : (w : Whole D S M) (a : ℕ) (stepped : Stepped) (w' : Whole D S M) → Steps disk store meta w a stepped w' → KeepsCentral disk store meta w w'
  step_central w a Ran w' s = λ opening c. turn_central opening w a s.0 w' s.2 c
  step_central w a Done w' s = λ opening c. turn_central opening w a (Answers s.0) w' s.1 c
  step_central w a Nothing w' s = λ opening c. subst (IsCentral disk store meta opening) (sym s.1) c
  step_central w a NoMemory w' s = λ opening c. whole_central opening w a w' s c

  pub complete : (w : Whole D S M) → IsCentral disk store meta (fresh w.config) w → ((a : ℕ) → IsAtEnd w a) → IsCompleteRun w
  complete w c ends =
      let k = ends_complete (seen_as w c.partition) c.central (λ a place l actor_state at. seen_end a place l actor_state at.list at.actor at.actor_state_is) in
      record { run = k.run; complete = k.complete }
    where
      seen_end : (a place : ℕ) (l : ActorList) (actor_state : seen_actor_state.ActorProgress) → slice_get w.lists place ≡ Some l → l.actor.0 ≡ a → slice_get (desk_seen w.desk) place ≡ Some actor_state
          → length l.orders ≤ actor_state.number
      seen_end a place l actor_state list actor at = seen_low (length l.orders) w.desk place actor_state at (λ s to. ends a place l s (record { list = list; actor = actor; actor_state_is = to }))
