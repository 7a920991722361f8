-- A later turn of a fetch, in its place in the world and in the tier.
use Rattle.std.proofs.Common.{◌≡◌, ◌∙◌, sym, ap, subst, refl, ℕ, List, Some, slice_get, arith}
use Rattle.std.specs.Prelude.{unwrap_or}
use Rattle.disk_model.specs.declared.disk.Disk.{Ghosts as DiskGhosts}
use Rattle.object_store.specs.declared.store.Store.{Ghosts as StoreGhosts}
use Rattle.meta_log.specs.declared.log.MetaLog.{Ghosts as MetaGhosts}
use Rattle.log_terms.specs.Log.{EndsAt}
use Rattle.registry.specs.declared.registry.Registry.{Registry}
use Rattle.tier_fetch.specs.declared.turn.FetchStep.{FetchStep}
use Rattle.plain_log.specs.declared.command.ActorList.{ActorList}
use Rattle.plain_log.specs.declared.command.Command.TheVariants.{Fetch}
use Rattle.plain_log.specs.declared.command.Order.{Order}
use Rattle.plain_log.specs.declared.state.Role.{Role}
use Rattle.plain_log.specs.declared.state.Role.TheVariants.{Leads}
use Rattle.plain_log.specs.declared.state.State.{State}
use Rattle.plain_log.specs.State.{leading}
use Rattle.plain_log.specs.Safe.{is_leaders}
use Rattle.laws_partition.specs.declared.start_snapshot.StartSnapshot.{StartSnapshot}
use Rattle.laws_partition.specs.Partition.{broker_of}
use Rattle.laws_partition.specs.Seen as seen
use Rattle.laws_partition.specs.Sound.{NodeSound}
use Rattle.laws_partition.proofs.ProgressLaw.{going}
use Rattle.laws_partition.proofs.Standing.{broker_at, map_get}
use Rattle.partition_commands.specs.Partition.{line_of, node_of}
use Rattle.partition_commands.proofs.Shown.{end_shown, line_shown}
use Rattle.tier_safe.specs.Reads.{TellsEpochs}
use Rattle.tier_safe.specs.Scene.{TierTask, Seeks as SeeksSeen}
use Rattle.tier_safe.specs.Turns.{ShowsScene}
use Rattle.laws_tier_fetch.specs.Seeking.{sought_of, IsAtTurn}
use Rattle.partition_world.specs.declared.actor_state.ActorState.{ActorState}
use Rattle.partition_world.specs.ActorStates.{recorded_in, actor_state_seen}
use Rattle.partition_world.specs.Central.{IsCentral, seeks_of, tier_task_of}
use Rattle.partition_world.specs.TurnsOfFetch.{MayServe, wanted_of}
use Rattle.partition_world.specs.Whole.{Whole}
use Rattle.partition_world.proofs.Entered.{both_of}
use Rattle.partition_world.proofs.LineTells.{line_tells}
use Rattle.partition_world.proofs.Scenes.{Place, tier_view, shows_at, few_now}

module _ {D S M : Type 0} (disk : DiskGhosts D) (store : StoreGhosts S) (meta : MetaGhosts M) where
  module _ (opening : State) (w : Whole D S M) (c : IsCentral disk store meta opening w) (place : ℕ) (l : ActorList) (actor_state : ActorState) (order : Order) (z : Place disk store meta opening w c place l actor_state order) where
    -- the broker as it is seen
    abbrev pub y : seen.Node
    y = node_of z.x z.s

    pub broker : slice_get c.central.plain.brokers order.broker.0 ≡ Some (broker_of y)
    broker = broker_at c.partition c.central.plain order.broker.0 y c.central.stands.partition_state z.sees.there

    pub sound : NodeSound y
    sound = (c.central.stands.lines.each order.broker.0 y z.sees.there).sound

    -- the high watermark that the broker knows is an end of its log
    pub marked : EndsAt z.x.known_high_watermark z.s.batches
    marked = sound.known_high_watermark

    pub start_plain : c.central.plain.registry.start ≡ w.partition_state.registry.start
    start_plain = ap (λ (r : Registry). r.start) (c.central.stands.partition_state.registry ∙ z.sees.partition_state.registry)

    -- a fetch of which this is kept, and that has this next
    module _ (offset limit : ℕ) (fetches : order.command ≡ Fetch offset limit) (g : StartSnapshot) (next : FetchStep) (recorded : recorded_in actor_state.in_progress ≡ Some g)
        (seeks : tier_task_of (Some order) actor_state.in_progress ≡ seeks_of order.broker.0 g next order.command) where
      -- the epoch that its broker led when it began
      abbrev pub epoch : ℕ
      epoch = unwrap_or (leading g.role) 0

      shows_seek : tier_task_of (Some order) actor_state.in_progress ≡ SeeksSeen (sought_of order.broker.0 g.stops epoch offset next)
      shows_seek = seeks ∙ ap (seeks_of order.broker.0 g next) fetches

      role_led : g.role ≡ Leads epoch
      role_led =
          let actor_states = c.central.stands.desk place l (actor_state_seen actor_state) z.list (map_get actor_state_seen w.desk place actor_state z.actor_state_is) in
          let on = going c.central.plain y order l (actor_state_seen actor_state) g c.central.safe actor_states z.next recorded broker in
          let leads = on.leads (ap is_leaders fetches) in
          leads.1 ∙ ap Leads (sym (ap (λ (r : Role). unwrap_or (leading r) 0) leads.1))

      -- the tier at its turn
      pub turn_at : MayServe w.partition_state z.x g offset → IsAtTurn c.scene c.central.plain place order.broker.0 (tier_view disk store meta opening w c place l actor_state order z) (broker_of y) g.stops epoch
          (wanted_of w.partition z.x offset limit) (line_of z.x) next (store.content w.tier.store) (meta.content w.tier.meta) z.broker_tier.view z.broker_tier.cache
      turn_at k =
          let up = k.keeps.up in
          let from = k.within.0 in
          record {
            safe = both_of disk store meta opening w c;
            few = few_now disk store meta opening w c;
            shows = subst (λ (u : TierTask). ShowsScene c.scene place order.broker.0 (tier_view disk store meta opening w c place l actor_state order z) u (store.content w.tier.store) (meta.content w.tier.meta) z.broker_tier.view) shows_seek
                (shows_at disk store meta opening w c place l actor_state order z);
            cache_is = refl;
            partition = sym c.shows_tier.partition;
            broker_is = broker;
            leads = record { stops = sym k.keeps.stops; role = sym k.keeps.role ∙ role_led };
            past = omega (arith, from, start_plain);
            end_is = end_shown disk.content z.x z.s up z.sees.shows;
            is_observable = subst (λ (line : List (ℕ × ℕ)). TellsEpochs line z.s.batches) (sym (line_shown disk.content z.x z.s up z.sees.shows)) (line_tells y sound);
          }
