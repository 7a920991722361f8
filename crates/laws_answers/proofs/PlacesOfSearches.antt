-- A later turn of a timestamp lookup, in its place in the world and in the tier.
use Rattle.std.proofs.Common.{◌≡◌, ◌∙◌, sym, ap, subst, refl, ℕ, ◌<◌, ◌≤◌, ◌^◌, Bool, true, false, max, nat_lt, List, [], ◌∷◌, length, Some, Option, slice_get, arith}
use Rattle.std.specs.Prelude.{ℤ, unwrap_or}
use Rattle.disk_model.specs.declared.disk.Disk.{Ghosts as DiskGhosts}
use Rattle.object_store.specs.declared.store.Store.{Ghosts as StoreGhosts}
use Rattle.meta_log.specs.declared.log.MetaLog.{Ghosts as MetaGhosts}
use Rattle.time_find.specs.declared.turn.Asked.{Asked}
use Rattle.time_find.specs.declared.turn.SearchStep.{SearchStep}
use Rattle.time_find.specs.declared.turn.SearchStep.TheVariants.{Seek}
use Rattle.time_find.specs.Turns.{IsSet}
use Rattle.plain_log.specs.declared.turn.Turn.{Turn}
use Rattle.plain_log.specs.declared.command.ActorList.{ActorList}
use Rattle.plain_log.specs.declared.command.Command.{Command}
use Rattle.plain_log.specs.declared.command.Command.TheVariants.{Offset}
use Rattle.plain_log.specs.declared.command.Which.TheVariants.{At}
use Rattle.plain_log.specs.declared.command.Order.{Order}
use Rattle.plain_log.specs.declared.state.Role.{Role}
use Rattle.plain_log.specs.declared.state.Role.TheVariants.{Leads}
use Rattle.plain_log.specs.declared.state.State.{State}
use Rattle.plain_log.specs.State.{leading}
use Rattle.plain_log.specs.Safe.{is_leaders}
use Rattle.laws_partition.specs.declared.start_snapshot.StartSnapshot.{StartSnapshot}
use Rattle.laws_partition.specs.Partition.{broker_of}
use Rattle.laws_partition.proofs.ProgressLaw.{going}
use Rattle.laws_partition.proofs.Standing.{map_get}
use Rattle.laws_tier_turns.specs.BrokerTiers.{greatest}
use Rattle.partition_commands.specs.declared.partition_state.PartitionState.{PartitionState}
use Rattle.partition_commands.specs.Partition.{line_of, node_of}
use Rattle.partition_commands.proofs.Shown.{end_shown, line_shown, local_shown}
use Rattle.laws_time_find.specs.Passed.{IsDatedTo}
use Rattle.laws_time_find.specs.Searching.{search_of, IsAtSearch}
use Rattle.tier_safe.specs.Changes.{Moves, Leaves, effect}
use Rattle.tier_safe.specs.Reads.{TellsEpochs}
use Rattle.tier_safe.specs.Safe.{BothSafe}
use Rattle.tier_safe.specs.Scene.{Scene, BrokerTierView, TierTask, Free}
use Rattle.tier_safe.specs.Turns.{ShowsScene}
use Rattle.tier_safe.proofs.Kept.{all_kept}
use Rattle.tier_safe.proofs.Turning.{set_get}
use Rattle.partition_world.specs.declared.actor_state.ActorState.{ActorState}
use Rattle.partition_world.specs.declared.actor_state.InProgress.{InProgress}
use Rattle.partition_world.specs.declared.actor_state.InProgress.TheVariants.{Noted, Dates}
use Rattle.partition_world.specs.ActorStates.{recorded_in, actor_state_seen}
use Rattle.partition_world.specs.Central.{HasGone, IsSearchState, IsCentral, begun_of, dates_of, tier_task_of}
use Rattle.partition_world.specs.TurnsOfCopy.{KeepsLead}
use Rattle.partition_world.specs.TurnsOfDate.{resumed_at, resumed_with, asked_of, SearchesOwn}
use Rattle.partition_world.specs.Whole.{Whole}
use Rattle.partition_world.proofs.DateCentral.{at_cursor, resumed_dated, none_gone}
use Rattle.partition_world.proofs.Entered.{both_of}
use Rattle.partition_world.proofs.LineTells.{line_tells}
use Rattle.partition_world.proofs.Passing.{OwnComes, own_comes}
use Rattle.partition_world.proofs.Scenes.{Place, tier_view, shows_at, few_now}
use Rattle.laws_answers.proofs.PlacesOfFetches.{broker, sound, start_plain}

module _ {D S M : Type 0} (disk : DiskGhosts D) (store : StoreGhosts S) (meta : MetaGhosts M) where
  module _ (opening : State) (w : Whole D S M) (c : IsCentral disk store meta opening w) (place : ℕ) (l : ActorList) (actor_state : ActorState)
      (order : Order)
      (z : Place disk store meta opening w c place l actor_state order) (ts : ℤ) (asks : order.command ≡ Offset (At ts)) where
    -- what the actor's state has of a search
    pub record Keeps (g : StartSnapshot) (cursor : ℕ) (next : SearchStep) : Type 0 where
      pub recorded : recorded_in actor_state.in_progress ≡ Some g
      pub seeks : tier_task_of (Some order) actor_state.in_progress ≡ dates_of order.broker.0 g cursor next order.command
      pub set : IsSet cursor next
      pub gone : HasGone c.central.plain order.broker.0 g (Offset (At ts)) cursor next

    -- of one that has recorded only where it began
    pub keeps_recorded : (g : StartSnapshot) → actor_state.in_progress ≡ Noted g → Keeps g 0 Seek
    keeps_recorded g is = record {
      recorded = ap recorded_in is;
      seeks = ap (tier_task_of (Some order)) is ∙ (ap (begun_of order.broker.0 g) asks ∙ sym (ap (dates_of order.broker.0 g 0 Seek) asks));
      set = tt;
      gone = λ x there stops role.
          none_gone ts c.central.plain.registry.start x.log (c.central.safe.brokers order.broker.0 x there).log.consecutive;
    }

    -- of one that has come to a cursor
    pub keeps_dates : (g : StartSnapshot) (cursor : ℕ) (next : SearchStep) → actor_state.in_progress ≡ Dates g cursor next → Keeps g cursor next
    keeps_dates g cursor next is =
        let has : IsSearchState c.central.plain (Some order) (Dates g cursor next) =
        subst (λ (k : InProgress). IsSearchState c.central.plain (Some order) k) is
        (subst (λ (o : Option Order). IsSearchState c.central.plain o actor_state.in_progress) z.next (c.dated place l actor_state z.list z.actor_state_is)) in
        record {
          recorded = ap recorded_in is;
          seeks = ap (tier_task_of (Some order)) is;
          set = has.0;
          gone = subst (λ (k : Command). HasGone c.central.plain order.broker.0 g k cursor next) asks has.1;
        }

    -- a later turn of it
    module _ (g : StartSnapshot) (cursor : ℕ) (next : SearchStep) (k : Keeps g cursor next) where
      abbrev pub epoch : ℕ
      epoch = unwrap_or (leading g.role) 0

      abbrev start : ℕ
      start = w.partition_state.registry.start

      -- where it continues, with what, and what it asks for
      abbrev pub at : ℕ
      at = resumed_at w.partition_state.registry.start cursor

      abbrev pub on : SearchStep
      on = resumed_with w.partition_state.registry.start cursor next

      abbrev pub asked : Asked
      asked = asked_of w.partition w.partition_state z.x ts

      abbrev here : BrokerTierView
      here = tier_view disk store meta opening w c place l actor_state order z

      started : c.central.plain.registry.start ≡ w.partition_state.registry.start
      started = start_plain disk store meta opening w c place l actor_state order z

      there : slice_get c.central.plain.brokers order.broker.0 ≡ Some (broker_of (node_of z.x z.s))
      there = broker disk store meta opening w c place l actor_state order z

      role_led : g.role ≡ Leads epoch
      role_led =
          let actor_states = c.central.stands.desk place l (actor_state_seen actor_state) z.list (map_get actor_state_seen w.desk place actor_state z.actor_state_is) in
          let going_on = going c.central.plain (node_of z.x z.s) order l (actor_state_seen actor_state) g c.central.safe actor_states z.next k.recorded there in
          let leads = going_on.leads (ap is_leaders asks) in
          leads.1 ∙ ap Leads (sym (ap (λ (r : Role). unwrap_or (leading r) 0) leads.1))

      -- all before where it continues is too early
      pub gone_at : KeepsLead z.x g → IsDatedTo ts start z.s.batches at on
      gone_at lead =
          resumed_dated ts start z.s.batches cursor next
          (subst (λ (n : ℕ). IsDatedTo ts n z.s.batches cursor next) started
          (k.gone (broker_of (node_of z.x z.s)) there lead.stops lead.role))

      start_low : start ≤ at
      start_low = go start cursor
        where
          go : (n m : ℕ) → n ≤ max n m
          go n m = omega arith

      -- a turn in the local log
      pub own_at : (turn : Turn (ℕ × SearchStep)) (h' : PartitionState D) → KeepsLead z.x g → SearchesOwn disk w.partition_state order.broker.0 z.x asked at turn h'
          → OwnComes asked z.s.batches turn
      own_at turn h' lead r =
          let whole = sound disk store meta opening w c place l actor_state order z in
          own_comes disk.content disk.control asked z.x.log r.kept z.s lead.up z.sees.shows whole.log.consecutive whole.log.line_is
          whole.known_high_watermark at turn start_low (gone_at lead).cursor r.row

      -- the tier at a turn among the remote segments
      abbrev pub IsAt : Scene → Type 0
      IsAt d =
          IsAtSearch d c.central.plain place order.broker.0 here (broker_of (node_of z.x z.s)) g.stops epoch asked (line_of z.x) at on
          (store.content w.tier.store) (meta.content w.tier.meta)
          z.broker_tier.view z.broker_tier.cache

      in_scene : (d : Scene) → BothSafe d c.central.plain → length d.notes < 2 ^ 64 → d.partition ≡ w.partition
          → ShowsScene d place order.broker.0 here (search_of order.broker.0 g.stops epoch at on) (store.content w.tier.store)
          (meta.content w.tier.meta) z.broker_tier.view → KeepsLead z.x g → at < z.x.known_high_watermark
          → IsAt d
      in_scene d safe few part shows lead below =
          let whole = sound disk store meta opening w c place l actor_state order z in
          record {
            safe = safe;
            few = few;
            shows = shows;
            cache_is = refl;
            partition = sym part;
            broker_is = there;
            stopped = sym lead.stops;
            leads = sym lead.role ∙ role_led;
            start_is = sym started;
            local_is = local_shown disk.content z.x z.s lead.up z.sees.shows ∙ ap (greatest z.s.local) (sym (whole.tight lead.up));
            end_is = end_shown disk.content z.x z.s lead.up z.sees.shows;
            mark_is = refl;
            mark_ends = whole.known_high_watermark;
            past = (let far = start_low in let same = started in omega (arith, far, same));
            below = below;
            is_observable = subst (λ (line : List (ℕ × ℕ)). TellsEpochs line z.s.batches)
                (sym (line_shown disk.content z.x z.s lead.up z.sees.shows)) (line_tells (node_of z.x z.s) whole);
            dated = subst (λ (n : ℕ). IsDatedTo ts n z.s.batches at on) (sym started) (gone_at lead);
          }

      -- where the log start offset has passed its cursor, its state has dropped what was found
      pub search_at : KeepsLead z.x g → at < z.x.known_high_watermark → (d : Scene) × (d.notes ≡ c.scene.notes) × IsAt d
      search_at lead below = by (nat_lt cursor start) refl
        where
          safe_now : BothSafe c.scene c.central.plain
          safe_now = both_of disk store meta opening w c

          left : Scene
          left = effect (Moves place Leaves) c.scene

          by : (u : Bool) → nat_lt cursor start ≡ u → (d : Scene) × (d.notes ≡ c.scene.notes) × IsAt d
          by false is =
              let same_at = at_cursor start cursor is in
              let same_on : on ≡ next = rw is refl in
              let shows = subst (λ (u : TierTask). ShowsScene c.scene place order.broker.0 here u (store.content w.tier.store)
              (meta.content w.tier.meta) z.broker_tier.view)
              (k.seeks ∙ (ap (dates_of order.broker.0 g cursor next) asks
              ∙ (ap (λ (n : ℕ). search_of order.broker.0 g.stops epoch n next) (sym same_at)
              ∙ ap (search_of order.broker.0 g.stops epoch at) (sym same_on))))
              (shows_at disk store meta opening w c place l actor_state order z) in
              (c.scene, refl, in_scene c.scene safe_now (few_now disk store meta opening w c) c.shows_tier.partition shows lead below)
          by true is =
              let same_on : on ≡ Seek = rw is refl in
              let at_actor_state = shows_at disk store meta opening w c place l actor_state order z in
              let safe : BothSafe left c.central.plain = all_kept (Moves place Leaves ∷ []) c.scene c.central.plain c.central.plain
              (c.central.plain, (refl, tt), refl) safe_now in
              let shows : ShowsScene left place order.broker.0 here (search_of order.broker.0 g.stops epoch at on) (store.content w.tier.store)
              (meta.content w.tier.meta) z.broker_tier.view = record {
                objects_are = at_actor_state.objects_are;
                notes_are = at_actor_state.notes_are;
                store_tells = at_actor_state.store_tells;
                meta_tells = at_actor_state.meta_tells;
                tier_view_is = at_actor_state.tier_view_is;
                view_is = at_actor_state.view_is;
                actor_state = set_get c.scene.desk place _ Free at_actor_state.actor_state ∙ ap (λ (n : SearchStep). Some
                    (search_of order.broker.0 g.stops epoch at n)) (sym same_on);
              } in
              (left, refl, in_scene left safe (few_now disk store meta opening w c) c.shows_tier.partition shows lead below)
