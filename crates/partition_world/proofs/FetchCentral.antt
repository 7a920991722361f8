-- Each turn of a fetch from the remote tier keeps the central fact: it makes changes of the tier, and nothing that is seen of the
-- partition changes. The run that it gives is the leader's log's.
use Rattle.std.proofs.Common.{◌≡◌, ◌∙◌, inl, inr, sym, ap, subst, refl, ℕ, ◌<◌, ◌≤◌, List, slice_get, slice_set, Some, None, Option, Ok, true, false, arith}
use Rattle.std.specs.Prelude.{unwrap_or}
use Rattle.disk_model.specs.declared.disk.Disk.{Ghosts as DiskGhosts}
use Rattle.object_store.specs.declared.store.Store.{Ghosts as StoreGhosts}
use Rattle.meta_log.specs.declared.log.MetaLog.{Ghosts as MetaGhosts}
use Rattle.log_terms.specs.Log.{end_of}
use Rattle.registry.specs.declared.registry.Registry.{Registry}
use Rattle.plain_log.specs.declared.turn.Turn.{Turn}
use Rattle.plain_log.specs.declared.turn.Turn.TheVariants.{Goes as GoesOn, Ends}
use Rattle.tier_fetch.specs.declared.turn.FetchStep.{FetchStep}
use Rattle.tier_fetch.specs.declared.turn.FetchStep.TheVariants.{Refresh}
use Rattle.plain_log.specs.declared.answer.Answer.{Answer}
use Rattle.plain_log.specs.declared.answer.Answer.TheVariants.{MetaFault, StoreFault, Damaged, Run, Stopped, NotLeader, OutOfRange, Empty}
use Rattle.plain_log.specs.declared.command.Command.TheVariants.{Fetch}
use Rattle.plain_log.specs.declared.command.Order.{Order}
use Rattle.plain_log.specs.declared.state.Role.{Role}
use Rattle.plain_log.specs.declared.state.Role.TheVariants.{Leads}
use Rattle.plain_log.specs.declared.state.State.{State}
use Rattle.plain_log.specs.State.{leading, leads}
use Rattle.plain_log.specs.Safe.{is_leaders}
use Rattle.broker_log.specs.Seen as log
use Rattle.laws_partition.specs.declared.start_snapshot.StartSnapshot.{StartSnapshot}
use Rattle.laws_partition.specs.declared.start_snapshot.Turned.{Turned}
use Rattle.laws_partition.specs.declared.start_snapshot.Turned.TheVariants as turned
use Rattle.laws_partition.specs.Partition.{broker_of}
use Rattle.laws_partition.specs.Rows as seen_rows
use Rattle.laws_partition.specs.RowsOfLog as seen_log
use Rattle.laws_partition.specs.RowsOfTiers as seen_tiers
use Rattle.laws_partition.specs.Seen as seen
use Rattle.laws_partition.proofs.ProgressLaw.{going}
use Rattle.laws_partition.proofs.Standing.{broker_at, map_get}
use Rattle.laws_tier_turns.specs.BrokerTiers.{greatest}
use Rattle.laws_tier_turns.specs.Turns.{may_raise}
use Rattle.partition_commands.specs.declared.partition_state.Node.{Node}
use Rattle.partition_commands.specs.Partition.{is_up, local_of, line_of, node_of, ShowsPartition}
use Rattle.partition_commands.specs.Partition as disk_partition
use Rattle.partition_commands.specs.TurnsOfFetch.{FetchTurn as FirstTurn}
use Rattle.partition_commands.specs.TurnsOfLog.{IsInLog}
use Rattle.partition_commands.proofs.OwnRefined.{notes_shown}
use Rattle.partition_commands.proofs.Shown.{end_shown, line_shown, local_shown}
use Rattle.tier_safe.specs.Fetches.{StillLeads}
use Rattle.tier_safe.specs.May.{IsChanged}
use Rattle.tier_safe.specs.Reads.{TellsEpochs}
use Rattle.tier_safe.specs.Scene.{Scene, BrokerTierView, TierTask, Free, Seeks as SeeksSeen}
use Rattle.tier_safe.specs.Turns.{ShowsScene}
use Rattle.laws_tier_fetch.specs.Seeking.{sought_of, fetch_tier_task, IsAtTurn, after_fetch}
use Rattle.laws_tier_fetch.proofs.Asking.{ask_changes}
use Rattle.laws_tier_fetch.proofs.Turning.{fetch_turns}
use Rattle.laws_tier_fetch.proofs.Running.{runs_are_logs}
use Rattle.partition_world.specs.declared.actor_state.Outcome.{Outcome}
use Rattle.partition_world.specs.declared.actor_state.Outcome.TheVariants.{Answers, Begins, Seeks}
use Rattle.partition_world.specs.declared.actor_state.InProgress.{InProgress}
use Rattle.partition_world.specs.declared.actor_state.InProgress.TheVariants as works
use Rattle.partition_world.specs.declared.actor_state.InProgress.TheVariants.{Idle, Noted}
use Rattle.partition_world.specs.declared.tier.RemoteTier.{RemoteTier}
use Rattle.partition_world.specs.ActorStates.{recorded_in, sought, actor_state_after, actor_state_seen, told_of}
use Rattle.partition_world.specs.Central.{IsCentral, ShowsTier, seeks_of, tier_task_of}
use Rattle.partition_world.specs.Turn.{IsTurn}
use Rattle.partition_world.specs.TurnsOfFetch.{HasStopped, MayServe, wanted_of, fetch_tiers, GoesOnFetch, FetchOnRow}
use Rattle.partition_world.specs.Whole.{Whole}
use Rattle.partition_world.proofs.CopyEnds.{keeps_seen}
use Rattle.partition_world.proofs.Entered.{both_of}
use Rattle.partition_world.proofs.FetchEnds.{MayEnd, fetch_ends, fetch_tells}
use Rattle.partition_world.proofs.LineTells.{line_tells}
use Rattle.partition_world.proofs.Scenes.{Place, tier_view, tier_view_is, on_desk, shows_at, scene_with, shows_with, tier_task_after, answered_free, few_now}
use Rattle.partition_world.proofs.Recording.{GoesAsRecorded}
use Rattle.partition_world.proofs.Dating.{IsNoDate}
use Rattle.partition_world.proofs.BrokerTierStates.{set_same}
use Rattle.partition_world.proofs.TurnCentral.{after, shown, entered, stands, partition_state_same, begun_shows, silent, untold, unseen}

-- the epoch that a leader leads
led_epoch : (r : Role) → leads r ≡ true → r ≡ Leads (unwrap_or (leading r) 0)
led_epoch (Leads e) is = refl
led_epoch other is = absurd (cc (is))

-- no local start is above what may come back
above_local : (start : ℕ) (back : Option seen.Back) → start ≤ greatest start back
above_local start None = omega arith
above_local start (Some back) = omega arith

module _ {D : Type 0} where
  -- what a turn finds of a broker holds as it is seen
  pub stopped_seen : (x : Node D) (s : log.LogSeen) (g : StartSnapshot) → HasStopped x g → (g.stops ≡ x.stops) × (is_up x ≡ true) → ⊥
  stopped_seen x s g (inl differs) k = differs k.0
  stopped_seen x s g (inr down) k = let up = k.1 in absurd (cc (down, up))

module _ {D S M : Type 0} (disk : DiskGhosts D) (store : StoreGhosts S) (meta : MetaGhosts M) where
  -- a turn of a fetch, in its place
  module _ (opening : State) (w : Whole D S M) (a : ℕ) (outcome : Outcome) (w' : Whole D S M) (t : IsTurn disk store meta w a outcome w') (c : IsCentral disk store meta opening w)
      (z : Place disk store meta opening w c t.place t.list t.actor_state t.order) (offset limit : ℕ) (fetches : t.order.command ≡ Fetch offset limit) where
    abbrev y : seen.Node
    y = node_of z.x z.s

    abbrev here : BrokerTierView
    here = tier_view disk store meta opening w c t.place t.list t.actor_state t.order z

    abbrev plain : State
    plain = c.central.plain

    same_partition_state : w'.partition_state ≡ w.partition_state → ShowsPartition disk.content w'.partition_state c.partition
    same_partition_state = partition_state_same disk store meta opening w a outcome w' t c z (Fetch offset limit) fetches

    start_seen : c.partition.registry.start ≡ w.partition_state.registry.start
    start_seen = ap (λ (r : Registry). r.start) z.sees.partition_state.registry

    start_plain : plain.registry.start ≡ w.partition_state.registry.start
    start_plain = ap (λ (r : Registry). r.start) c.central.stands.partition_state.registry ∙ start_seen

    broker : slice_get plain.brokers t.order.broker.0 ≡ Some (broker_of y)
    broker = broker_at c.partition plain t.order.broker.0 y c.central.stands.partition_state z.sees.there

    in_log : is_up z.x ≡ true → IsInLog w.partition_state z.x offset → seen_log.IsInLog c.partition y offset
    in_log up k =
        let end : disk_partition.end_of z.x ≡ end_of z.s.batches = end_shown disk.content z.x z.s up z.sees.shows in
        let low = k.0 in
        let high = k.1 in
        (omega (arith, low, start_seen), omega (arith, high, end))

    -- the first turn: what its state shows then, and the scene with it

    abbrev asked_tier_task : StartSnapshot → TierTask
    asked_tier_task g = SeeksSeen (sought_of t.order.broker.0 g.stops (unwrap_or (leading g.role) 0) offset Refresh)

    abbrev asked_scene : StartSnapshot → Scene
    asked_scene g = after disk store meta opening w a outcome w' t c z (Fetch offset limit) fetches (asked_tier_task g) c.scene.objects c.scene.notes z.broker_tier.view

    -- asking is a change of the tier
    asked : t.actor_state.in_progress ≡ Idle → (g : StartSnapshot) → seen_log.Notes c.partition y g → is_up z.x ≡ true → leads z.x.role ≡ true → offset < local_of z.x → IsChanged c.scene plain (asked_scene g)
    asked idle g notes up is_leader below =
        let local : local_of z.x ≡ z.s.local = local_shown disk.content z.x z.s up z.sees.shows in
        let above = above_local z.s.local z.s.loose in
        let free : slice_get c.scene.desk t.place ≡ Some Free =
        on_desk disk store meta opening w c t.place t.list t.actor_state t.order z ∙ ap (λ (k : InProgress). Some (tier_task_of (Some t.order) k)) idle in
        let leads_on : StillLeads (sought_of t.order.broker.0 g.stops (unwrap_or (leading g.role) 0) offset Refresh) (broker_of y) =
        record { stops = sym notes.stops; role = sym notes.role ∙ led_epoch g.role (ap leads notes.role ∙ is_leader) } in
        let k = ask_changes c.scene plain t.place t.order.broker.0 here (broker_of y) g.stops (unwrap_or (leading g.role) 0) offset c.central.safe free
        (tier_view_is disk store meta opening w c t.place t.list t.actor_state t.order z) broker leads_on (omega (arith, local, below, above)) in
        record {
          changes = k.changes;
          may = k.may;
          is = k.is ∙ ap (λ (u : List BrokerTierView). record c.scene { tier_views = u; desk = slice_set c.scene.desk t.place (asked_tier_task g) })
              (sym (set_same c.scene.tier_views t.order.broker.0 here (tier_view_is disk store meta opening w c t.place t.list t.actor_state t.order z)));
        }

    asks : t.actor_state.in_progress ≡ Idle → (g : StartSnapshot) → outcome ≡ Begins g → FirstTurn disk.content disk.control w.partition_state t.order.broker.0 z.x offset limit (turned.Begins g) w'.partition_state → w'.tier ≡ w.tier
        → IsCentral disk store meta opening w'
    asks idle g is row same =
        let up = row.0 in
        let below = row.4 in
        let local : local_of z.x ≡ z.s.local = local_shown disk.content z.x z.s up z.sees.shows in
        let notes = notes_shown disk.content disk.control w.partition_state c.partition t.order.broker.0 z.x z.s g z.sees up row.5 in
        entered disk store meta opening w a outcome w' t c z (Fetch offset limit) fetches Idle idle (turned.Begins g) (asked_scene g) is refl (same_partition_state row.6)
        (up, row.1, in_log up row.2, row.3, omega (arith, local, below), notes, refl) (asked idle g notes up row.1 below)
        (shown disk store meta opening w a outcome w' t c z (Fetch offset limit) fetches (asked_tier_task g) c.scene.objects c.scene.notes z.broker_tier.view
        (ap (λ (k : RemoteTier S M). k.broker_tiers) same ∙ sym (set_same w.tier.broker_tiers t.order.broker.0 z.broker_tier z.broker_tier_at))
        (ap (λ (k : RemoteTier S M). (store.content k.store).is_observable) same, ap (λ (k : RemoteTier S M). (meta.content k.meta).is_observable) same)
        (c.shows_tier.objects ∙ sym (ap (λ (k : RemoteTier S M). (store.content k.store).objects) same)) (c.shows_tier.notes ∙ sym (ap (λ (k : RemoteTier S M). (meta.content k.meta).notes) same))
        (begun_shows disk store meta opening w a outcome w' t c z (Fetch offset limit) fetches g is))

    pub fetch_asks : t.actor_state.in_progress ≡ Idle → (g : StartSnapshot) → outcome ≡ Begins g → FirstTurn disk.content disk.control w.partition_state t.order.broker.0 z.x offset limit (turned.Begins g) w'.partition_state → w'.tier ≡ w.tier
        → IsCentral disk store meta opening w'
    fetch_asks idle g is row same = asks idle g is row same

    -- a later turn, of an actor's state that keeps this
    module _ (in_progress : InProgress) (keeps : t.actor_state.in_progress ≡ in_progress) (g : StartSnapshot) (recorded : recorded_in in_progress ≡ Some g) (next : FetchStep)
        (seeks : tier_task_of (Some t.order) in_progress ≡ seeks_of t.order.broker.0 g next t.order.command) (moved : (later : FetchStep) → sought in_progress later ≡ works.Seeks g later) where
      abbrev epoch : ℕ
      epoch = unwrap_or (leading g.role) 0

      -- the row of an answer, as it is seen
      abbrev SeenOn : Answer → Type 0
      SeenOn answer = seen_tiers.FetchOnRow c.partition y offset limit g answer c.partition

      lift : (answer : Answer) → SeenOn answer → seen_rows.Row c.partition t.order.broker.0 y (recorded_in in_progress) (Fetch offset limit) (turned.Answers answer) c.partition
      lift answer row = subst (λ (o : Option StartSnapshot). seen_rows.Row c.partition t.order.broker.0 y o (Fetch offset limit) (turned.Answers answer) c.partition) (sym recorded) row

      low : (turn : Turned) → may_raise (recorded_in in_progress) (Fetch offset limit) turn ≡ false
      low turn = ap (λ (o : Option StartSnapshot). may_raise o (Fetch offset limit) turn) recorded

      -- an answer that leaves all as it was
      answers : (answer : Answer) → outcome ≡ Answers answer → SeenOn answer → w'.tier ≡ w.tier → w'.partition_state ≡ w.partition_state → IsCentral disk store meta opening w'
      answers answer is row tier partition_state =
          stands disk store meta opening w a outcome w' t c z (Fetch offset limit) fetches in_progress keeps answer is (low (turned.Answers answer)) tier (same_partition_state partition_state) (lift answer row)

      serves_seen : MayServe w.partition_state z.x g offset → seen_tiers.ServesCommitted c.partition y g offset
      serves_seen k = record { keeps = keeps_seen z.x z.s g k.keeps; within = in_log k.keeps.up k.within; below = k.below }

      -- the fetch as the tier shows it
      shows_seek : tier_task_of (Some t.order) t.actor_state.in_progress ≡ SeeksSeen (sought_of t.order.broker.0 g.stops epoch offset next)
      shows_seek = ap (tier_task_of (Some t.order)) keeps ∙ (seeks ∙ ap (seeks_of t.order.broker.0 g next) fetches)

      role_led : g.role ≡ Leads epoch
      role_led =
          let actor_states = c.central.stands.desk t.place t.list (actor_state_seen t.actor_state) z.list (map_get actor_state_seen w.desk t.place t.actor_state z.actor_state_is) in
          let on = going plain y t.order t.list (actor_state_seen t.actor_state) g c.central.safe actor_states z.next (ap recorded_in keeps ∙ recorded) broker in
          let leads = on.leads (ap is_leaders fetches) in
          leads.1 ∙ ap Leads (sym (ap (λ (r : Role). unwrap_or (leading r) 0) leads.1))

      turn_at : MayServe w.partition_state z.x g offset → IsAtTurn c.scene plain t.place t.order.broker.0 here (broker_of y) g.stops epoch (wanted_of w.partition z.x offset limit) (line_of z.x) next
          (store.content w.tier.store) (meta.content w.tier.meta) z.broker_tier.view z.broker_tier.cache
      turn_at k =
          let up = k.keeps.up in
          let from = k.within.0 in
          let sound = (c.central.stands.lines.each t.order.broker.0 y z.sees.there).sound in
          record {
            safe = both_of disk store meta opening w c;
            few = few_now disk store meta opening w c;
            shows = subst (λ (u : TierTask). ShowsScene c.scene t.place t.order.broker.0 here u (store.content w.tier.store) (meta.content w.tier.meta) z.broker_tier.view) shows_seek
                (shows_at disk store meta opening w c t.place t.list t.actor_state t.order z);
            cache_is = refl;
            partition = sym c.shows_tier.partition;
            broker_is = broker;
            leads = record { stops = sym k.keeps.stops; role = sym k.keeps.role ∙ role_led };
            past = omega (arith, from, start_plain);
            end_is = end_shown disk.content z.x z.s up z.sees.shows;
            is_observable = subst (λ (l : List (ℕ × ℕ)). TellsEpochs l z.s.batches) (sym (line_shown disk.content z.x z.s up z.sees.shows)) (line_tells y sound);
          }

      -- what such a turn answers, as it is seen
      ends_row : (answer : Answer) (goes : GoesOnFetch store meta w.partition w.tier t.order.broker.0 z.x z.broker_tier offset limit next (Ends answer) w'.tier) → MayEnd answer → MayServe w.partition_state z.x g offset → SeenOn answer
      ends_row MetaFault goes may k = (serves_seen k, refl)
      ends_row StoreFault goes may k = (serves_seen k, refl)
      ends_row (Damaged place at) goes may k = (serves_seen k, refl)
      ends_row (Run tier size stop bytes) goes may k =
          let r = runs_are_logs store.content store.control meta.content meta.control (wanted_of w.partition z.x offset limit) (line_of z.x) next tier size stop bytes (fetch_tiers z.broker_tier.view z.broker_tier.cache w.tier)
          (fetch_tiers goes.view goes.cache w'.tier) c.scene plain t.place t.order.broker.0 here (broker_of y) g.stops epoch goes.row (turn_at k) in
          (serves_seen k, record { run = r.run.run; is = r.run.is; spelled = r.run.spelled; size_is = r.run.size_is }, refl)
      ends_row other goes may k = elim may [ ]

      changed : (turn : Turn FetchStep) (goes : GoesOnFetch store meta w.partition w.tier t.order.broker.0 z.x z.broker_tier offset limit next turn w'.tier) → MayServe w.partition_state z.x g offset
          → IsChanged c.scene plain (after_fetch c.scene t.place t.order.broker.0 here (fetch_tier_task t.order.broker.0 g.stops epoch offset turn) (store.content w'.tier.store).objects (meta.content w'.tier.meta).notes
          goes.view goes.cache)
      changed turn goes k =
          fetch_turns store.content store.control meta.content meta.control (wanted_of w.partition z.x offset limit) (line_of z.x) next (Ok turn) (fetch_tiers z.broker_tier.view z.broker_tier.cache w.tier)
          (fetch_tiers goes.view goes.cache w'.tier) c.scene plain t.place t.order.broker.0 here (broker_of y) g.stops epoch goes.row (turn_at k)

      shows_then : (turn : Turn FetchStep) (goes : GoesOnFetch store meta w.partition w.tier t.order.broker.0 z.x z.broker_tier offset limit next turn w'.tier) (shows : TierTask)
          → tier_task_after disk store meta opening w c t.place t.list t.actor_state t.order z outcome ≡ shows
          → ShowsTier store meta w' c.partition (scene_with disk store meta opening w c t.place t.list t.actor_state t.order z shows (store.content w'.tier.store).objects (meta.content w'.tier.meta).notes
          (record z.broker_tier { view = goes.view; cache = goes.cache }))
      shows_then turn goes shows is =
          shows_with disk store meta opening w c t.place t.list t.actor_state t.order z w' outcome shows (store.content w'.tier.store).objects (meta.content w'.tier.meta).notes
          (record z.broker_tier { view = goes.view; cache = goes.cache }) t.partition t.lists t.desk (ap (λ (u : RemoteTier S M). u.broker_tiers) goes.after)
          (fetch_tells store meta (wanted_of w.partition z.x offset limit) (line_of z.x) next turn (fetch_tiers z.broker_tier.view z.broker_tier.cache w.tier) (fetch_tiers goes.view goes.cache w'.tier) goes.row) refl refl is

      ends : (answer : Answer) → outcome ≡ Answers answer → MayServe w.partition_state z.x g offset → GoesOnFetch store meta w.partition w.tier t.order.broker.0 z.x z.broker_tier offset limit next (Ends answer) w'.tier
          → w'.partition_state ≡ w.partition_state → IsCentral disk store meta opening w'
      ends answer is k goes partition_state =
          let may = fetch_ends store meta (wanted_of w.partition z.x offset limit) (line_of z.x) next answer (fetch_tiers z.broker_tier.view z.broker_tier.cache w.tier) (fetch_tiers goes.view goes.cache w'.tier) goes.row in
          entered disk store meta opening w a outcome w' t c z (Fetch offset limit) fetches in_progress keeps (turned.Answers answer) _ is (low (turned.Answers answer)) (same_partition_state partition_state)
          (lift answer (ends_row answer goes may k)) (changed (Ends answer) goes k)
          (shows_then (Ends answer) goes Free (answered_free disk store meta opening w c t.place t.list t.actor_state t.order z outcome answer is))

      goes_on : (later : FetchStep) → outcome ≡ Seeks later → MayServe w.partition_state z.x g offset → GoesOnFetch store meta w.partition w.tier t.order.broker.0 z.x z.broker_tier offset limit next (GoesOn later) w'.tier
          → w'.partition_state ≡ w.partition_state → IsCentral disk store meta opening w'
      goes_on later is k goes partition_state =
          silent disk store meta opening w a outcome w' t c z (Fetch offset limit) fetches (subst (GoesAsRecorded t.actor_state.in_progress) (sym is) tt) (subst IsNoDate (sym is) tt)
          (unseen disk store meta opening w a outcome w' t c z (Fetch offset limit) fetches
          (ap (λ (o : Outcome). actor_state_seen (actor_state_after t.actor_state o)) is
          ∙ ap (λ (o : Option StartSnapshot). record { number = t.actor_state.number; snapshot = o })
          (ap (λ (k : InProgress). recorded_in (sought k later)) keeps ∙ (ap recorded_in (moved later) ∙ (sym recorded ∙ sym (ap recorded_in keeps))))))
          (untold disk store meta opening w a outcome w' t c z (Fetch offset limit) fetches (ap (told_of t.list.actor t.actor_state.number t.order.command) is)) (same_partition_state partition_state) _ (changed (GoesOn later) goes k)
          (shows_then (GoesOn later) goes (SeeksSeen (sought_of t.order.broker.0 g.stops epoch offset later))
          (ap (λ (o : Outcome). tier_task_after disk store meta opening w c t.place t.list t.actor_state t.order z o) is
          ∙ (ap (λ (k : InProgress). tier_task_of (slice_get t.list.orders t.actor_state.number) (sought k later)) keeps
          ∙ (ap (tier_task_of (slice_get t.list.orders t.actor_state.number)) (moved later)
          ∙ (ap (λ (o : Option Order). tier_task_of o (works.Seeks g later)) z.next ∙ ap (seeks_of t.order.broker.0 g later) fetches)))))

      pub fetch_on : (o : Outcome) → outcome ≡ o → FetchOnRow store meta w.partition w.partition_state w.tier t.order.broker.0 z.x z.broker_tier g offset limit next o w'.tier → w'.partition_state ≡ w.partition_state
          → IsCentral disk store meta opening w'
      fetch_on (Answers Stopped) is row partition_state = answers Stopped is (stopped_seen z.x z.s g row.0, refl) row.1 partition_state
      fetch_on (Answers NotLeader) is row partition_state = answers NotLeader is (row.0, row.1, row.2, refl) row.3 partition_state
      fetch_on (Answers (OutOfRange start end)) is row partition_state =
          answers (OutOfRange start end) is
          (keeps_seen z.x z.s g row.0, row.1, row.2 ∙ sym start_seen, row.3 ∙ end_shown disk.content z.x z.s row.0.up z.sees.shows, refl) row.4 partition_state
      fetch_on (Answers Empty) is row partition_state = answers Empty is (keeps_seen z.x z.s g row.0, in_log row.0.up row.1, row.2, refl) row.3 partition_state
      fetch_on (Answers answer) is row partition_state = ends answer is row.0 row.1 partition_state
      fetch_on (Seeks later) is row partition_state = goes_on later is row.0 row.1 partition_state
      fetch_on other is row partition_state = elim row [ ]
