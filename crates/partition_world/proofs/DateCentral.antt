-- Each turn of a timestamp lookup keeps the central fact: it is a change of the tier, or reads a broker's log alone,
-- and goes through that log batch by batch.
use Rattle.std.proofs.Common.{◌≡◌, ◌∙◌, ◌⊎◌, inl, inr, sym, ap, subst, refl, ℕ, ◌<◌, ◌≤◌, ◌^◌, Bool, nat_lt, max, List, [], ◌∷◌, length, slice_get, Some, None, Option, Ok, true, false, arith}
use Rattle.std.specs.Prelude.{ℤ, unwrap_or}
use Rattle.std.proofs.lemmas.Bool.Decides.{nat_tests}
use Rattle.disk_model.specs.declared.disk.Disk.{Ghosts as DiskGhosts}
use Rattle.object_store.specs.declared.store.Store.{Ghosts as StoreGhosts}
use Rattle.meta_log.specs.declared.log.MetaLog.{Ghosts as MetaGhosts}
use Rattle.log_terms.specs.Log.{IsConsecutive, up_to, from_offset}
use Rattle.registry.specs.declared.registry.Registry.{Registry}
use Rattle.time_find.specs.declared.turn.Asked.{Asked}
use Rattle.time_find.specs.declared.turn.SearchStep.{SearchStep}
use Rattle.time_find.specs.declared.turn.SearchStep.TheVariants.{Seek}
use Rattle.plain_log.specs.declared.turn.Turn.{Turn}
use Rattle.plain_log.specs.declared.turn.Turn.TheVariants.{Goes, Ends}
use Rattle.time_find.specs.Turns.{IsSet, IsBelowLocal, SearchContinues, TimeRow}
use Rattle.plain_log.specs.declared.answer.Answer.{Answer}
use Rattle.plain_log.specs.declared.answer.Answer.TheVariants.{MetaFault, StoreFault, Damaged, Stopped, NotLeader, Offset as OffsetAnswer, NoOffset}
use Rattle.plain_log.specs.declared.command.Command.{Command}
use Rattle.plain_log.specs.declared.command.Command.TheVariants.{Offset}
use Rattle.plain_log.specs.declared.command.Which.TheVariants.{At}
use Rattle.plain_log.specs.declared.command.Order.{Order}
use Rattle.plain_log.specs.declared.state.Broker.{Broker}
use Rattle.plain_log.specs.declared.state.Role.{Role}
use Rattle.plain_log.specs.declared.state.Role.TheVariants.{Leads}
use Rattle.plain_log.specs.declared.state.State.{State}
use Rattle.plain_log.specs.State.{leading}
use Rattle.plain_log.specs.RowsOfReads.{first_at, offset_at}
use Rattle.plain_log.specs.Safe.{is_leaders}
use Rattle.broker_log.specs.Seen as log
use Rattle.laws_partition.specs.declared.start_snapshot.StartSnapshot.{StartSnapshot}
use Rattle.laws_partition.specs.declared.start_snapshot.Turned.{Turned}
use Rattle.laws_partition.specs.declared.start_snapshot.Turned.TheVariants as turned
use Rattle.laws_partition.specs.Partition.{broker_of}
use Rattle.laws_partition.specs.Rows as seen_rows
use Rattle.laws_partition.specs.RowsOfOffsets as seen_offsets
use Rattle.laws_partition.specs.Seen as seen
use Rattle.laws_partition.specs.Sound.{NodeSound}
use Rattle.laws_partition.proofs.ProgressLaw.{going}
use Rattle.laws_partition.proofs.Standing.{broker_at, map_get}
use Rattle.laws_tier_turns.specs.BrokerTiers.{greatest}
use Rattle.laws_tier_turns.specs.Turns.{may_raise}
use Rattle.partition_commands.specs.declared.partition_state.Node.{Node}
use Rattle.partition_commands.specs.Partition.{local_of, line_of, node_of, put_node, ShowsPartition}
use Rattle.partition_commands.proofs.Shown.{end_shown, line_shown, local_shown, partition_state_looks, partition_state_stays}
use Rattle.laws_time_find.specs.Passed.{HasPassed, IsDatedTo, read_from}
use Rattle.laws_time_find.specs.Searching.{search_of, search_tier_task, IsAtSearch}
use Rattle.laws_time_find.proofs.Dates.{start_has_passed, passed_has_none}
use Rattle.laws_time_find.proofs.Early.{passed_less}
use Rattle.laws_time_find.proofs.Turning.{search_turns}
use Rattle.laws_time_find.proofs.GoingOn.{searches_go_on, searches_are_right}
use Rattle.tier_safe.specs.Changes.{Change, Moves, Leaves, effect}
use Rattle.tier_safe.specs.May.{May, IsChanged}
use Rattle.tier_safe.specs.Reads.{TellsEpochs}
use Rattle.tier_safe.specs.Safe.{BothSafe}
use Rattle.tier_safe.specs.Scene.{Scene, BrokerTierView, TierTask, Free}
use Rattle.tier_safe.specs.Turns.{ShowsScene}
use Rattle.tier_safe.proofs.Kept.{all_kept}
use Rattle.tier_safe.proofs.Turning.{set_set, set_get, scene_same, as_scene}
use Rattle.laws_tier_fetch.specs.Seeking.{after_fetch}
use Rattle.partition_world.specs.declared.actor_state.Outcome.{Outcome}
use Rattle.partition_world.specs.declared.actor_state.Outcome.TheVariants.{Answers, Dates}
use Rattle.partition_world.specs.declared.actor_state.InProgress.{InProgress}
use Rattle.partition_world.specs.declared.actor_state.InProgress.TheVariants as works
use Rattle.partition_world.specs.declared.actor_state.InProgress.TheVariants.{Idle}
use Rattle.partition_world.specs.declared.tier.RemoteTier.{RemoteTier}
use Rattle.partition_world.specs.ActorStates.{recorded_in, dated, actor_state_after, actor_state_seen, desk_seen, told_of}
use Rattle.partition_world.specs.Central.{HasGone, IsSearchState, IsCentral, ShowsTier, dates_of, tier_task_of}
use Rattle.partition_world.specs.Turn.{IsTurn}
use Rattle.partition_world.specs.TurnsOfCopy.{KeepsLead}
use Rattle.partition_world.specs.TurnsOfDate.{resumed_at, resumed_with, is_own, asked_of, SearchesOwn, SearchesRemote, SearchRow, SearchesOn, DateOnRow}
use Rattle.partition_world.specs.TurnsOfFetch.{fetch_tiers}
use Rattle.partition_world.specs.TurnsOfOffset.{OffsetFirstRow}
use Rattle.partition_world.specs.Whole.{Whole}
use Rattle.partition_world.proofs.CopyEnds.{keeps_seen}
use Rattle.partition_world.proofs.Dating.{GoesAsDated}
use Rattle.partition_world.proofs.DateEnds.{MayEnd, date_ends, date_tells}
use Rattle.partition_world.proofs.Entered.{both_of}
use Rattle.partition_world.proofs.FetchCentral.{stopped_seen}
use Rattle.partition_world.proofs.LineTells.{line_tells}
use Rattle.partition_world.proofs.Recording.{GoesAsRecorded}
use Rattle.partition_world.proofs.Passing.{OwnComes, own_comes, own_rests}
use Rattle.partition_world.proofs.Scenes.{Place, tier_view, shows_at, scene_with, shows_with, tier_task_after, answered_free, left_changed, same_broker_tiers, few_now}
use Rattle.partition_world.proofs.BrokerTierStates.{set_same}
use Rattle.partition_world.proofs.TurnCentral.{after, shown, entered, stands, partition_state_same, leads_first, silent_dated, untold, unseen}

-- where a search is resumed

over_cursor : (start cursor : ℕ) → nat_lt cursor start ≡ true → max start cursor ≡ start
over_cursor start cursor is = let low : cursor < start = grind (arith, nat_tests, is) in omega (arith, low)

pub at_cursor : (start cursor : ℕ) → nat_lt cursor start ≡ false → max start cursor ≡ cursor
at_cursor start cursor is = let low : start ≤ cursor = grind (arith, nat_tests, is) in omega (arith, low)

-- all before it is too early
pub resumed_dated : (ts : ℤ) (start : ℕ) (batches : List (List ℕ)) (cursor : ℕ) (next : SearchStep) → IsDatedTo ts start batches cursor next
    → IsDatedTo ts start batches (resumed_at start cursor) (resumed_with start cursor next)
resumed_dated ts start batches cursor next k = by (nat_lt cursor start) refl
  where
    by : (t : Bool) → nat_lt cursor start ≡ t → IsDatedTo ts start batches (resumed_at start cursor) (resumed_with start cursor next)
    by true is =
        let here = subst (HasPassed ts start batches) (sym (over_cursor start cursor is)) (start_has_passed ts start batches) in
        rw is (record { cursor = here; read = here })
    by false is =
        let same = sym (at_cursor start cursor is) in
        rw is (record {
          cursor = subst (HasPassed ts start batches) same k.cursor;
          read = subst (λ (n : ℕ). HasPassed ts start batches (read_from n next)) same k.read;
        })

pub resumed_set : (start cursor : ℕ) (next : SearchStep) → IsSet cursor next → IsSet (resumed_at start cursor) (resumed_with start cursor next)
resumed_set start cursor next k = by (nat_lt cursor start) refl
  where
    by : (t : Bool) → nat_lt cursor start ≡ t → IsSet (resumed_at start cursor) (resumed_with start cursor next)
    by true is = rw is tt
    by false is = rw is (subst (λ (n : ℕ). IsSet n next) (sym (at_cursor start cursor is)) k)

-- what isn't a turn in the local log is one below it
pub below_local : (asked : Asked) (cursor : ℕ) (next : SearchStep) → is_own asked.local cursor next ≡ false → IsBelowLocal asked cursor next
below_local asked cursor Seek is = grind (arith, nat_tests, is)
below_local asked cursor other is = tt

-- a search that continues is set where it goes
goes_set : (cursor at : ℕ) (later : SearchStep) → SearchContinues cursor (Goes (at, later)) → IsSet at later
goes_set cursor at Seek k = tt
goes_set cursor at other k = k.1

-- a change comes first
first_change : (c e : Scene) (p : State) (k : Change) → May k c p p → IsChanged (effect k c) p e → IsChanged c p e
first_change c e p k may r = record { changes = k ∷ r.changes; may = (p, may, r.may); is = r.is }

-- all before offset 0 is too early
pub none_gone : (ts : ℤ) (start : ℕ) (batches : List (List ℕ)) → IsConsecutive 0 batches → IsDatedTo ts start batches 0 Seek
none_gone ts start batches c =
    let here = passed_less ts start start 0 batches c (start_has_passed ts start batches) (omega arith) in
    record { cursor = here; read = here }

module _ {D S M : Type 0} (disk : DiskGhosts D) (store : StoreGhosts S) (meta : MetaGhosts M) where
  -- a turn of a search, in its place
  module _ (opening : State) (w : Whole D S M) (a : ℕ) (outcome : Outcome) (w' : Whole D S M) (t : IsTurn disk store meta w a outcome w') (c : IsCentral disk store meta opening w)
      (z : Place disk store meta opening w c t.place t.list t.actor_state t.order) (ts : ℤ) (asks : t.order.command ≡ Offset (At ts)) where
    abbrev y : seen.Node
    y = node_of z.x z.s

    abbrev here : BrokerTierView
    here = tier_view disk store meta opening w c t.place t.list t.actor_state t.order z

    abbrev plain : State
    plain = c.central.plain

    abbrev start : ℕ
    start = w.partition_state.registry.start

    same_partition_state : w'.partition_state ≡ w.partition_state → ShowsPartition disk.content w'.partition_state c.partition
    same_partition_state = partition_state_same disk store meta opening w a outcome w' t c z (Offset (At ts)) asks

    start_seen : c.partition.registry.start ≡ start
    start_seen = ap (λ (r : Registry). r.start) z.sees.partition_state.registry

    start_plain : plain.registry.start ≡ start
    start_plain = ap (λ (r : Registry). r.start) c.central.stands.partition_state.registry ∙ start_seen

    broker : slice_get plain.brokers t.order.broker.0 ≡ Some (broker_of y)
    broker = broker_at c.partition plain t.order.broker.0 y c.central.stands.partition_state z.sees.there

    sound : NodeSound y
    sound = (c.central.stands.lines.each t.order.broker.0 y z.sees.there).sound

    -- the first turn refreshes the broker's view
    pub date_first : t.actor_state.in_progress ≡ Idle → (o : Outcome) → outcome ≡ o → OffsetFirstRow meta w.partition_state w.tier t.order.broker.0 z.x z.broker_tier o w'.tier → w'.partition_state ≡ w.partition_state → IsCentral disk store meta opening w'
    date_first idle o is row same =
        leads_first disk store meta opening w a outcome w' t c z (Offset (At ts)) asks idle (λ turn. refl) (λ g. refl) (λ turn r. r) o is row same

    -- a later turn, of an actor's state that keeps this
    module _ (in_progress : InProgress) (keeps : t.actor_state.in_progress ≡ in_progress) (g : StartSnapshot) (recorded : recorded_in in_progress ≡ Some g) (cursor : ℕ) (next : SearchStep)
        (seeks : tier_task_of (Some t.order) in_progress ≡ dates_of t.order.broker.0 g cursor next t.order.command) (moved : (to : ℕ) (later : SearchStep) → dated in_progress to later ≡ works.Dates g to later)
        (gone : HasGone plain t.order.broker.0 g (Offset (At ts)) cursor next) (set : IsSet cursor next) where
      abbrev epoch : ℕ
      epoch = unwrap_or (leading g.role) 0

      abbrev at : ℕ
      at = resumed_at start cursor

      abbrev on : SearchStep
      on = resumed_with start cursor next

      abbrev asked : Asked
      asked = asked_of w.partition w.partition_state z.x ts

      -- the row of an answer, as it is seen
      abbrev SeenOn : Answer → Type 0
      SeenOn answer = seen_offsets.OffsetAtRow c.partition y ts g answer c.partition

      lift : (answer : Answer) → SeenOn answer → seen_rows.Row c.partition t.order.broker.0 y (recorded_in in_progress) (Offset (At ts)) (turned.Answers answer) c.partition
      lift answer row = subst (λ (o : Option StartSnapshot). seen_rows.Row c.partition t.order.broker.0 y o (Offset (At ts)) (turned.Answers answer) c.partition) (sym recorded) row

      low : (turn : Turned) → may_raise (recorded_in in_progress) (Offset (At ts)) turn ≡ false
      low turn = ap (λ (o : Option StartSnapshot). may_raise o (Offset (At ts)) turn) recorded

      -- an answer that leaves the tier as it was
      answers : (answer : Answer) → outcome ≡ Answers answer → SeenOn answer → w'.tier ≡ w.tier → ShowsPartition disk.content w'.partition_state c.partition → IsCentral disk store meta opening w'
      answers answer is row tier partition_state =
          stands disk store meta opening w a outcome w' t c z (Offset (At ts)) asks in_progress keeps answer is (low (turned.Answers answer)) tier partition_state (lift answer row)

      role_led : g.role ≡ Leads epoch
      role_led =
          let actor_states = c.central.stands.desk t.place t.list (actor_state_seen t.actor_state) z.list (map_get actor_state_seen w.desk t.place t.actor_state z.actor_state_is) in
          let going_on = going plain y t.order t.list (actor_state_seen t.actor_state) g c.central.safe actor_states z.next (ap recorded_in keeps ∙ recorded) broker in
          let leads = going_on.leads (ap is_leaders asks) in
          leads.1 ∙ ap Leads (sym (ap (λ (r : Role). unwrap_or (leading r) 0) leads.1))

      -- all before where it is resumed is too early
      gone_at : KeepsLead z.x g → IsDatedTo ts start z.s.batches at on
      gone_at k = resumed_dated ts start z.s.batches cursor next (subst (λ (n : ℕ). IsDatedTo ts n z.s.batches cursor next) start_plain (gone (broker_of y) broker k.stops k.role))

      start_low : start ≤ at
      start_low = go start cursor
        where
          go : (n m : ℕ) → n ≤ max n m
          go n m = omega arith

      -- the offset of the timestamp, as it is seen
      found : (o : Option ℕ) → first_at ts start (from_offset start (up_to z.x.known_high_watermark z.s.batches)) ≡ o → seen_offsets.dated_offset c.partition y ts ≡ o
      found o is = subst (λ (n : ℕ). first_at ts n (from_offset n (up_to z.x.known_high_watermark z.s.batches)) ≡ o) (sym start_seen) is

      -- what the actor's state has then

      goes_recorded : (to : ℕ) (later : SearchStep) → outcome ≡ Dates to later → GoesAsRecorded t.actor_state.in_progress outcome
      goes_recorded to later is = subst (GoesAsRecorded t.actor_state.in_progress) (sym is) tt

      goes_dated : (to : ℕ) (later : SearchStep) → outcome ≡ Dates to later → IsSet to later → IsDatedTo ts plain.registry.start z.s.batches to later
          → GoesAsDated plain (slice_get t.list.orders t.actor_state.number) t.actor_state.in_progress outcome
      goes_dated to later is fits far = subst (GoesAsDated plain (slice_get t.list.orders t.actor_state.number) t.actor_state.in_progress) (sym is) (λ f k.
          (let one : g ≡ f = cc (sym (ap recorded_in keeps ∙ recorded) ∙ k) in
          subst (λ (h : StartSnapshot). IsSearchState plain (slice_get t.list.orders t.actor_state.number) (works.Dates h to later)) one
          (subst (λ (o : Option Order). IsSearchState plain o (works.Dates g to later)) (sym z.next) (
            fits,
            subst (λ (command : Command). HasGone plain t.order.broker.0 g command to later) (sym asks) (λ x there stops role.
                (let same : broker_of y ≡ x = cc (broker, there) in subst (λ (v : Broker). IsDatedTo ts plain.registry.start v.log to later) same far)),
          ))))

      goes_unseen : (to : ℕ) (later : SearchStep) → outcome ≡ Dates to later → desk_seen w'.desk ≡ desk_seen w.desk
      goes_unseen to later is =
          unseen disk store meta opening w a outcome w' t c z (Offset (At ts)) asks
          (ap (λ (o : Outcome). actor_state_seen (actor_state_after t.actor_state o)) is
          ∙ ap (λ (o : Option StartSnapshot). record { number = t.actor_state.number; snapshot = o })
          (ap (λ (k : InProgress). recorded_in (dated k to later)) keeps ∙ (ap recorded_in (moved to later) ∙ (sym recorded ∙ sym (ap recorded_in keeps)))))

      goes_untold : (to : ℕ) (later : SearchStep) → outcome ≡ Dates to later → w'.journal.items ≡ w.journal.items
      goes_untold to later is = untold disk store meta opening w a outcome w' t c z (Offset (At ts)) asks (ap (told_of t.list.actor t.actor_state.number t.order.command) is)

      goes_shown : (to : ℕ) (later : SearchStep) → outcome ≡ Dates to later
          → tier_task_after disk store meta opening w c t.place t.list t.actor_state t.order z outcome ≡ search_of t.order.broker.0 g.stops epoch to later
      goes_shown to later is =
          ap (λ (o : Outcome). tier_task_after disk store meta opening w c t.place t.list t.actor_state t.order z o) is
          ∙ (ap (λ (k : InProgress). tier_task_of (slice_get t.list.orders t.actor_state.number) (dated k to later)) keeps
          ∙ (ap (tier_task_of (slice_get t.list.orders t.actor_state.number)) (moved to later)
          ∙ (ap (λ (o : Option Order). tier_task_of o (works.Dates g to later)) z.next ∙ ap (dates_of t.order.broker.0 g to later) asks)))

      -- a turn in the local log

      own_partition_state : (turn : Turn (ℕ × SearchStep)) → SearchesOwn disk w.partition_state t.order.broker.0 z.x asked at turn w'.partition_state → ShowsPartition disk.content w'.partition_state c.partition
      own_partition_state turn r = by (own_rests disk.content disk.control z.x.log r.kept asked at turn r.row)
        where
          by : (r.kept ≡ z.x.log) ⊎ log.LogStays disk.content z.x.log r.kept → ShowsPartition disk.content w'.partition_state c.partition
          by (inl same) =
              partition_state_stays disk.content disk.control w.partition_state c.partition w'.partition_state c.shows
              (inl (r.after ∙ (ap (λ (k : log.LogState D). put_node w.partition_state t.order.broker.0 (record z.x { log = k })) same
              ∙ ap (λ (u : List (Node D)). record w.partition_state { nodes = u }) (set_same w.partition_state.nodes t.order.broker.0 z.x z.at))))
          by (inr stays) =
              partition_state_looks disk.content disk.control w.partition_state c.partition t.order.broker.0 z.x r.kept w'.partition_state c.shows z.at stays r.after

      comes : (turn : Turn (ℕ × SearchStep)) → KeepsLead z.x g → SearchesOwn disk w.partition_state t.order.broker.0 z.x asked at turn w'.partition_state → OwnComes asked z.s.batches turn
      comes turn k r =
          own_comes disk.content disk.control asked z.x.log r.kept z.s k.up z.sees.shows sound.log.consecutive sound.log.line_is sound.known_high_watermark at turn start_low (gone_at k).cursor r.row

      own_ends : (answer : Answer) → outcome ≡ Answers answer → KeepsLead z.x g → SearchesOwn disk w.partition_state t.order.broker.0 z.x asked at (Ends answer) w'.partition_state → w'.tier ≡ w.tier
          → IsCentral disk store meta opening w'
      own_ends answer is k r tier = elim ((comes (Ends answer) k r).ends answer refl) [
        | inl fault ↦ answers answer is (subst SeenOn (sym fault) (keeps_seen z.x z.s g k, refl)) tier (own_partition_state (Ends answer) r)
        | inr (n, offset, right) ↦ answers answer is (subst SeenOn (sym offset) (found (Some n) right, (keeps_seen z.x z.s g k, refl))) tier (own_partition_state (Ends answer) r)
      ]

      own_goes : (to : ℕ) (later : SearchStep) → outcome ≡ Dates to later → KeepsLead z.x g → SearchesOwn disk w.partition_state t.order.broker.0 z.x asked at (Goes (to, later)) w'.partition_state → w'.tier ≡ w.tier
          → IsCentral disk store meta opening w'
      own_goes to later is k r tier =
          let to_there = (comes (Goes (to, later)) k r).goes to later refl in
          let passed = subst (λ (n : ℕ). HasPassed ts n z.s.batches to) (sym start_plain) to_there.1 in
          let seek = to_there.0 in
          silent_dated disk store meta opening w a outcome w' t c z (Offset (At ts)) asks (goes_recorded to later is)
          (goes_dated to later is (subst (IsSet to) (sym seek) tt) (subst (IsDatedTo ts plain.registry.start z.s.batches to) (sym seek) (record { cursor = passed; read = passed })))
          (goes_unseen to later is) (goes_untold to later is) (own_partition_state (Goes (to, later)) r)
          (after disk store meta opening w a outcome w' t c z (Offset (At ts)) asks Free c.scene.objects c.scene.notes z.broker_tier.view)
          (left_changed disk store meta opening w c t.place t.list t.actor_state t.order z)
          (shown disk store meta opening w a outcome w' t c z (Offset (At ts)) asks Free c.scene.objects c.scene.notes z.broker_tier.view
          (ap (λ (u : RemoteTier S M). u.broker_tiers) tier ∙ same_broker_tiers disk store meta opening w c t.place t.list t.actor_state t.order z)
          (ap (λ (u : RemoteTier S M). (store.content u.store).is_observable) tier, ap (λ (u : RemoteTier S M). (meta.content u.meta).is_observable) tier)
          (c.shows_tier.objects ∙ sym (ap (λ (u : RemoteTier S M). (store.content u.store).objects) tier)) (c.shows_tier.notes ∙ sym (ap (λ (u : RemoteTier S M). (meta.content u.meta).notes) tier))
          (goes_shown to later is ∙ ap (search_of t.order.broker.0 g.stops epoch to) seek))

      -- a turn among the remote segments

      -- a scene of the tier at it
      at_search : (d : Scene) → BothSafe d plain → length d.notes < 2 ^ 64 → d.partition ≡ w.partition
          → ShowsScene d t.place t.order.broker.0 here (search_of t.order.broker.0 g.stops epoch at on) (store.content w.tier.store) (meta.content w.tier.meta) z.broker_tier.view
          → KeepsLead z.x g → at < z.x.known_high_watermark
          → IsAtSearch d plain t.place t.order.broker.0 here (broker_of y) g.stops epoch asked (line_of z.x) at on (store.content w.tier.store) (meta.content w.tier.meta) z.broker_tier.view z.broker_tier.cache
      at_search d safe few part shows k below = record {
        safe = safe;
        few = few;
        shows = shows;
        cache_is = refl;
        partition = sym part;
        broker_is = broker;
        stopped = sym k.stops;
        leads = sym k.role ∙ role_led;
        start_is = sym start_plain;
        local_is = local_shown disk.content z.x z.s k.up z.sees.shows ∙ ap (greatest z.s.local) (sym (sound.tight k.up));
        end_is = end_shown disk.content z.x z.s k.up z.sees.shows;
        mark_is = refl;
        mark_ends = sound.known_high_watermark;
        past = (let far = start_low in omega (arith, far, start_plain));
        below = below;
        is_observable = subst (λ (l : List (ℕ × ℕ)). TellsEpochs l z.s.batches) (sym (line_shown disk.content z.x z.s k.up z.sees.shows)) (line_tells y sound);
        dated = subst (λ (n : ℕ). IsDatedTo ts n z.s.batches at on) (sym start_plain) (gone_at k);
      }

      -- what its turn comes to in such a scene
      record Comes (turn : Turn (ℕ × SearchStep)) (r : SearchesRemote store meta w.tier t.order.broker.0 z.broker_tier (line_of z.x) asked at on turn w'.tier) : Type 0 where
        pub changed : IsChanged c.scene plain (after_fetch c.scene t.place t.order.broker.0 here (search_tier_task t.order.broker.0 g.stops epoch turn) (store.content w'.tier.store).objects
            (meta.content w'.tier.meta).notes r.view r.cache)
        pub goes : (to : ℕ) (later : SearchStep) → turn ≡ Goes (to, later) → IsDatedTo ts plain.registry.start z.s.batches to later
        pub right : (n : ℕ) → turn ≡ Ends (OffsetAnswer n) → offset_at plain (broker_of y) ts ≡ Some n

      comes_in : (d : Scene) (turn : Turn (ℕ × SearchStep)) (r : SearchesRemote store meta w.tier t.order.broker.0 z.broker_tier (line_of z.x) asked at on turn w'.tier) → is_own (local_of z.x) at on ≡ false
          → IsAtSearch d plain t.place t.order.broker.0 here (broker_of y) g.stops epoch asked (line_of z.x) at on (store.content w.tier.store) (meta.content w.tier.meta) z.broker_tier.view z.broker_tier.cache
          → (IsChanged d plain (after_fetch d t.place t.order.broker.0 here (search_tier_task t.order.broker.0 g.stops epoch turn) (store.content w'.tier.store).objects
          (meta.content w'.tier.meta).notes r.view r.cache)
          → IsChanged c.scene plain (after_fetch c.scene t.place t.order.broker.0 here (search_tier_task t.order.broker.0 g.stops epoch turn) (store.content w'.tier.store).objects
          (meta.content w'.tier.meta).notes r.view r.cache))
          → Comes turn r
      comes_in d turn r own h on_scene =
          let old = fetch_tiers z.broker_tier.view z.broker_tier.cache w.tier in
          let new = fetch_tiers r.view r.cache w'.tier in
          let is_below = below_local asked at on own in
          let is_set = resumed_set start cursor next set in
          record {
            changed = on_scene (search_turns store.content store.control meta.content meta.control asked (line_of z.x) at on (Ok turn) old new d plain t.place t.order.broker.0 here (broker_of y) g.stops epoch
                r.row is_below is_set h);
            goes = λ to later is.
                (searches_go_on store.content store.control meta.content meta.control asked (line_of z.x) at to on later old new d plain t.place t.order.broker.0 here (broker_of y) g.stops epoch
                (subst (λ (u : Turn (ℕ × SearchStep)). TimeRow store.content store.control meta.content meta.control asked (line_of z.x) at on (Ok u) old new) is r.row) is_below is_set h).0;
            right = λ n is.
                searches_are_right store.content store.control meta.content meta.control asked (line_of z.x) at n on old new d plain t.place t.order.broker.0 here (broker_of y) g.stops epoch
                (subst (λ (u : Turn (ℕ × SearchStep)). TimeRow store.content store.control meta.content meta.control asked (line_of z.x) at on (Ok u) old new) is r.row) is_below is_set h;
          }

      actor_state_now : t.actor_state.in_progress ≡ in_progress → tier_task_of (Some t.order) t.actor_state.in_progress ≡ search_of t.order.broker.0 g.stops epoch cursor next
      actor_state_now is = ap (tier_task_of (Some t.order)) is ∙ (seeks ∙ ap (dates_of t.order.broker.0 g cursor next) asks)

      remote : (turn : Turn (ℕ × SearchStep)) (r : SearchesRemote store meta w.tier t.order.broker.0 z.broker_tier (line_of z.x) asked at on turn w'.tier) → is_own (local_of z.x) at on ≡ false → KeepsLead z.x g
          → at < z.x.known_high_watermark → Comes turn r
      remote turn r own k below = by (nat_lt cursor start) refl
        where
          both : BothSafe c.scene plain
          both = both_of disk store meta opening w c

          left : Scene
          left = effect (Moves t.place Leaves) c.scene

          by : (u : Bool) → nat_lt cursor start ≡ u → Comes turn r
          by false is =
              let same_at = at_cursor start cursor is in
              let same_on : on ≡ next = rw is refl in
              let shows = subst (λ (u : TierTask). ShowsScene c.scene t.place t.order.broker.0 here u (store.content w.tier.store) (meta.content w.tier.meta) z.broker_tier.view)
              (actor_state_now keeps ∙ (ap (λ (n : ℕ). search_of t.order.broker.0 g.stops epoch n next) (sym same_at) ∙ ap (search_of t.order.broker.0 g.stops epoch at) (sym same_on)))
              (shows_at disk store meta opening w c t.place t.list t.actor_state t.order z) in
              comes_in c.scene turn r own (at_search c.scene both (few_now disk store meta opening w c) c.shows_tier.partition shows k below) (λ e. e)
          by true is =
              let same_on : on ≡ Seek = rw is refl in
              let at_actor_state = shows_at disk store meta opening w c t.place t.list t.actor_state t.order z in
              let safe : BothSafe left plain = all_kept (Moves t.place Leaves ∷ []) c.scene plain plain (plain, (refl, tt), refl) both in
              let shows : ShowsScene left t.place t.order.broker.0 here (search_of t.order.broker.0 g.stops epoch at on) (store.content w.tier.store) (meta.content w.tier.meta) z.broker_tier.view = record {
                objects_are = at_actor_state.objects_are;
                notes_are = at_actor_state.notes_are;
                store_tells = at_actor_state.store_tells;
                meta_tells = at_actor_state.meta_tells;
                tier_view_is = at_actor_state.tier_view_is;
                view_is = at_actor_state.view_is;
                actor_state = set_get c.scene.desk t.place _ Free at_actor_state.actor_state ∙ ap (λ (n : SearchStep). Some (search_of t.order.broker.0 g.stops epoch at n)) (sym same_on);
              } in
              comes_in left turn r own (at_search left safe (few_now disk store meta opening w c) c.shows_tier.partition shows k below)
              (λ e. first_change c.scene _ plain (Moves t.place Leaves) (refl, tt)
              (as_scene left _ _ plain (scene_same _ _ refl refl refl refl (set_set c.scene.desk t.place Free (search_tier_task t.order.broker.0 g.stops epoch turn))) e))

      shows_then : (turn : Turn (ℕ × SearchStep)) (r : SearchesRemote store meta w.tier t.order.broker.0 z.broker_tier (line_of z.x) asked at on turn w'.tier) (shows : TierTask)
          → tier_task_after disk store meta opening w c t.place t.list t.actor_state t.order z outcome ≡ shows
          → ShowsTier store meta w' c.partition (scene_with disk store meta opening w c t.place t.list t.actor_state t.order z shows (store.content w'.tier.store).objects (meta.content w'.tier.meta).notes
          (record z.broker_tier { view = r.view; cache = r.cache }))
      shows_then turn r shows is =
          shows_with disk store meta opening w c t.place t.list t.actor_state t.order z w' outcome shows (store.content w'.tier.store).objects (meta.content w'.tier.meta).notes
          (record z.broker_tier { view = r.view; cache = r.cache }) t.partition t.lists t.desk (ap (λ (u : RemoteTier S M). u.broker_tiers) r.after)
          (date_tells store meta asked (line_of z.x) at on turn (fetch_tiers z.broker_tier.view z.broker_tier.cache w.tier) (fetch_tiers r.view r.cache w'.tier) r.row) refl refl is

      ends_row : (answer : Answer) → MayEnd answer → KeepsLead z.x g → ((n : ℕ) → answer ≡ OffsetAnswer n → offset_at plain (broker_of y) ts ≡ Some n) → SeenOn answer
      ends_row MetaFault may k right = (keeps_seen z.x z.s g k, refl)
      ends_row StoreFault may k right = (keeps_seen z.x z.s g k, refl)
      ends_row (Damaged place to) may k right = (keeps_seen z.x z.s g k, refl)
      ends_row (OffsetAnswer n) may k right =
          (found (Some n) (subst (λ (m : ℕ). first_at ts m (from_offset m (up_to z.x.known_high_watermark z.s.batches)) ≡ Some n) start_plain (right n refl)), (keeps_seen z.x z.s g k, refl))
      ends_row other may k right = elim may [ ]

      remote_ends : (answer : Answer) → outcome ≡ Answers answer → KeepsLead z.x g → at < z.x.known_high_watermark → is_own (local_of z.x) at on ≡ false
          → (r : SearchesRemote store meta w.tier t.order.broker.0 z.broker_tier (line_of z.x) asked at on (Ends answer) w'.tier) → w'.partition_state ≡ w.partition_state → IsCentral disk store meta opening w'
      remote_ends answer is k below own r partition_state =
          let come = remote (Ends answer) r own k below in
          let may = date_ends store meta asked (line_of z.x) at on answer (fetch_tiers z.broker_tier.view z.broker_tier.cache w.tier) (fetch_tiers r.view r.cache w'.tier) r.row in
          entered disk store meta opening w a outcome w' t c z (Offset (At ts)) asks in_progress keeps (turned.Answers answer) _ is (low (turned.Answers answer)) (same_partition_state partition_state)
          (lift answer (ends_row answer may k (λ n e. come.right n (ap (λ (o : Answer). Ends o) e)))) come.changed
          (shows_then (Ends answer) r Free (answered_free disk store meta opening w c t.place t.list t.actor_state t.order z outcome answer is))

      remote_goes : (to : ℕ) (later : SearchStep) → outcome ≡ Dates to later → KeepsLead z.x g → at < z.x.known_high_watermark → is_own (local_of z.x) at on ≡ false
          → (r : SearchesRemote store meta w.tier t.order.broker.0 z.broker_tier (line_of z.x) asked at on (Goes (to, later)) w'.tier) → w'.partition_state ≡ w.partition_state → SearchContinues at (Goes (to, later))
          → IsCentral disk store meta opening w'
      remote_goes to later is k below own r partition_state goes =
          let come = remote (Goes (to, later)) r own k below in
          silent_dated disk store meta opening w a outcome w' t c z (Offset (At ts)) asks (goes_recorded to later is)
          (goes_dated to later is (goes_set at to later goes) (come.goes to later refl)) (goes_unseen to later is) (goes_untold to later is) (same_partition_state partition_state) _ come.changed
          (shows_then (Goes (to, later)) r (search_of t.order.broker.0 g.stops epoch to later) (goes_shown to later is))

      -- a turn in either

      ends : (answer : Answer) → outcome ≡ Answers answer → SearchesOn disk store meta w.partition w.partition_state w.tier t.order.broker.0 z.x z.broker_tier g ts cursor next (Ends answer) w'.partition_state w'.tier
          → IsCentral disk store meta opening w'
      ends answer is s = by (is_own (local_of z.x) at on) refl s.row
        where
          by : (own : Bool) → is_own (local_of z.x) at on ≡ own
              → SearchRow disk store meta w.partition_state w.tier t.order.broker.0 z.x z.broker_tier asked at on own (Ends answer) w'.partition_state w'.tier → IsCentral disk store meta opening w'
          by true own row = own_ends answer is s.keeps row.0 row.1
          by false own row = remote_ends answer is s.keeps s.below own row.0 row.1

      goes : (to : ℕ) (later : SearchStep) → outcome ≡ Dates to later
          → SearchesOn disk store meta w.partition w.partition_state w.tier t.order.broker.0 z.x z.broker_tier g ts cursor next (Goes (to, later)) w'.partition_state w'.tier → SearchContinues at (Goes (to, later))
          → IsCentral disk store meta opening w'
      goes to later is s on_far = by (is_own (local_of z.x) at on) refl s.row
        where
          by : (own : Bool) → is_own (local_of z.x) at on ≡ own
              → SearchRow disk store meta w.partition_state w.tier t.order.broker.0 z.x z.broker_tier asked at on own (Goes (to, later)) w'.partition_state w'.tier → IsCentral disk store meta opening w'
          by true own row = own_goes to later is s.keeps row.0 row.1
          by false own row = remote_goes to later is s.keeps s.below own row.0 row.1 on_far

      pub date_on : (o : Outcome) → outcome ≡ o → DateOnRow disk store meta w.partition w.partition_state w.tier t.order.broker.0 z.x z.broker_tier g ts cursor next o w'.partition_state w'.tier
          → IsCentral disk store meta opening w'
      date_on (Answers Stopped) is row = answers Stopped is (stopped_seen z.x z.s g row.0, refl) row.2 (same_partition_state row.1)
      date_on (Answers NotLeader) is row = answers NotLeader is (row.0, row.1, row.2, refl) row.4 (same_partition_state row.3)
      date_on (Answers NoOffset) is row =
          answers NoOffset is (found None (passed_has_none ts start z.x.known_high_watermark at z.s.batches (gone_at row.0).cursor row.1), (keeps_seen z.x z.s g row.0, refl)) row.3 (same_partition_state row.2)
      date_on (Answers answer) is row = ends answer is row
      date_on (Dates to later) is row = goes to later is row.0 row.1
      date_on other is row = elim row [ ]
