-- Each turn keeps what is known of what fetches have found, and nothing is to be known of a fresh world.
use Rattle.std.proofs.Common.{◌≡◌, ◌∙◌, inl, inr, sym, ap, subst, refl, ℕ, zero, suc, ◌<◌, List, length, Some, slice_get, slice_set, arith}
use Rattle.std.specs.Prelude.{replicate, unwrap_or}
use Rattle.disk_model.specs.declared.disk.Disk.{Ghosts as DiskGhosts}
use Rattle.object_store.specs.declared.store.Store.{Ghosts as StoreGhosts}
use Rattle.meta_log.specs.declared.log.MetaLog.{Ghosts as MetaGhosts}
use Rattle.index_cache.specs.Cache.{found}
use Rattle.segment_meta.specs.declared.note.Note.{Note}
use Rattle.plain_log.specs.declared.turn.Turn.TheVariants as fetch
use Rattle.tier_fetch.specs.declared.turn.FetchStep.{FetchStep}
use Rattle.tier_fetch.specs.declared.turn.FetchStep.TheVariants.{Refresh, Index, Log}
use Rattle.plain_log.specs.declared.command.ActorList.{ActorList}
use Rattle.plain_log.specs.declared.command.Command.{Command}
use Rattle.plain_log.specs.declared.command.Command.TheVariants.{Fetch}
use Rattle.plain_log.specs.declared.command.Order.{Order}
use Rattle.plain_log.specs.declared.state.State.{State}
use Rattle.plain_log.specs.State.{leading}
use Rattle.laws_partition.specs.declared.start_snapshot.StartSnapshot.{StartSnapshot}
use Rattle.laws_partition.specs.Partition.{broker_of}
use Rattle.laws_partition.proofs.Standing.{get_put}
use Rattle.partition_commands.specs.declared.partition_state.Node.{Node}
use Rattle.partition_commands.specs.Partition.{line_of, node_of}
use Rattle.tier_safe.proofs.Basics.{nat_cases, one_some}
use Rattle.partition_world.specs.declared.tier.BrokerTierState.{BrokerTierState}
use Rattle.partition_world.specs.declared.actor_state.Outcome.{Outcome}
use Rattle.partition_world.specs.declared.actor_state.Outcome.TheVariants.{Answers, Begins, Seeks as Sought}
use Rattle.partition_world.specs.declared.actor_state.ActorState.{ActorState}
use Rattle.partition_world.specs.declared.actor_state.InProgress.{InProgress}
use Rattle.partition_world.specs.declared.actor_state.InProgress.TheVariants.{Idle, Noted, Seeks}
use Rattle.partition_world.specs.Central.{IsCentral, seeks_of, begun_of, tier_task_of}
use Rattle.partition_world.specs.Fresh.{IsNewWorld, fresh_actor_state}
use Rattle.partition_world.specs.ActorStates.{recorded_in, actor_state_after}
use Rattle.partition_world.specs.Turn.{IsNextOrder, IsTurn}
use Rattle.partition_world.specs.TurnsOfFetch.{GoesOnFetch, MayServe, fetch_tiers, wanted_of}
use Rattle.partition_world.specs.Turns.{Row}
use Rattle.partition_world.specs.Whole.{Whole}
use Rattle.partition_world.proofs.Begins.{MayComeTo, row_of, row_may}
use Rattle.partition_world.proofs.FetchAdvances.{sought_before, fetch_advances}
use Rattle.partition_world.proofs.Scenes.{Place, place_of, tier_view}
use Rattle.laws_answers.proofs.Progress.{others_stay}
use Rattle.laws_answers.specs.Found.{FetchHasFound, SpansKnown}
use Rattle.laws_answers.proofs.GrowsOfFetches.{found_grows, paths_later}
use Rattle.laws_answers.proofs.NotesOfFetches.{row_notes}
use Rattle.laws_answers.proofs.PlacesOfFetches.{turn_at}
use Rattle.laws_answers.proofs.ReadingOfFetches.{refresh_found, index_found}

pub rep_get : {A : Type 0} (n i : ℕ) (x y : A) → slice_get (replicate n x) i ≡ Some y → y ≡ x
rep_get zero i x y at = absurd cc
rep_get (suc n) zero x y at = cc
rep_get (suc n) (suc i) x y at = rep_get n i x y at

-- the last of its turns isn't followed by another
last_turn : (later : FetchStep) → 3 < sought_before later → ⊥
last_turn Refresh lt = omega (arith, lt)
last_turn (Index piece) lt = omega (arith, lt)
last_turn (Log piece span) lt = omega (arith, lt)

-- an actor's state that keeps what a fetch has found is at the order that it was at
number_kept : (actor_state : ActorState) (o : Outcome) (g : StartSnapshot) (next : FetchStep) → (actor_state_after actor_state o).in_progress ≡ Seeks g next → (actor_state_after actor_state o).number ≡ actor_state.number
number_kept actor_state (Answers answer) g next is = absurd (cc (is))
number_kept actor_state other g next is = refl

module _ {D S M : Type 0} (disk : DiskGhosts D) (store : StoreGhosts S) (meta : MetaGhosts M) where
  module _ (opening : State) (w : Whole D S M) (a : ℕ) (outcome : Outcome) (w' : Whole D S M) (t : IsTurn disk store meta w a outcome w') (c : IsCentral disk store meta opening w)
      (known : SpansKnown meta opening w) (z : Place disk store meta opening w c t.place t.list t.actor_state t.order) (offset limit : ℕ) (fetches : t.order.command ≡ Fetch offset limit) where
    abbrev b : ℕ
    b = t.order.broker.0

    abbrev told : List Note
    told = (meta.content w.tier.meta).notes

    abbrev Found : StartSnapshot → FetchStep → Type 0
    Found g next = FetchHasFound c.central.plain.paths told (unwrap_or (leading g.role) 0) offset limit next

    -- what the actor's state's fetch had found
    before : (g : StartSnapshot) (next : FetchStep) → t.actor_state.in_progress ≡ Seeks g next → Found g next
    before g next works =
        known c.central.plain c.central.replays t.list.actor.0 t.place t.list t.actor_state t.order offset limit g next
        (record { at = record { list = t.at.list; actor = refl; actor_state_is = t.at.actor_state_is }; next = t.next }) fetches works

    -- and what it has found with its turn
    on : (g : StartSnapshot) (next later : FetchStep) → recorded_in t.actor_state.in_progress ≡ Some g → tier_task_of (Some t.order) t.actor_state.in_progress ≡ seeks_of b g next t.order.command → Found g next → MayServe w.partition_state z.x g offset
        → GoesOnFetch store meta w.partition w.tier b z.x z.broker_tier offset limit next (fetch.Goes later) w'.tier → Found g later
    on g Refresh later recorded seeks f serves goes =
        refresh_found c.scene c.central.plain t.place b (tier_view disk store meta opening w c t.place t.list t.actor_state t.order z) (broker_of (node_of z.x z.s)) g.stops (unwrap_or (leading g.role) 0)
        (wanted_of w.partition z.x offset limit) (line_of z.x) store.content store.control meta.content meta.control (store.content w.tier.store) z.broker_tier.cache z.broker_tier.view goes.view w.tier.meta w'.tier.meta later told
        (turn_at disk store meta opening w c t.place t.list t.actor_state t.order z offset limit fetches g Refresh recorded seeks serves) goes.row.1
    on g (Index piece) later recorded seeks f serves goes =
        subst (λ (notes : List Note). FetchHasFound c.central.plain.paths notes (unwrap_or (leading g.role) 0) offset limit later) c.shows_tier.notes
        (index_found c.scene c.central.plain t.place b (tier_view disk store meta opening w c t.place t.list t.actor_state t.order z) (broker_of (node_of z.x z.s)) g.stops (unwrap_or (leading g.role) 0)
        (wanted_of w.partition z.x offset limit) (line_of z.x) store.content store.control meta.content meta.control (meta.content w.tier.meta) z.broker_tier.view z.broker_tier.cache goes.cache w.tier.store w'.tier.store piece
        (found piece.id.0 z.broker_tier.cache.pairs) later (turn_at disk store meta opening w c t.place t.list t.actor_state t.order z offset limit fetches g (Index piece) recorded seeks serves) refl goes.row.1 f)
    on g (Log piece span) later recorded seeks f serves goes =
        absurd
        (last_turn later
        (fetch_advances store meta (wanted_of w.partition z.x offset limit) (line_of z.x) (Log piece span) later (fetch_tiers z.broker_tier.view z.broker_tier.cache w.tier) (fetch_tiers goes.view goes.cache w'.tier) goes.row))

    own : (in_progress : InProgress) → t.actor_state.in_progress ≡ in_progress → (o : Outcome) → Row disk store meta w.partition w.config w.partition_state w.tier b z.x z.broker_tier in_progress (Fetch offset limit) o w'.partition_state w'.tier → MayComeTo in_progress o
        → (g : StartSnapshot) (next : FetchStep) → (actor_state_after (record t.actor_state { in_progress = in_progress }) o).in_progress ≡ Seeks g next → Found g next
    own Idle works (Answers answer) row may g next is = absurd (cc (is))
    own Idle works (Begins f) row may g next is = absurd (cc (is))
    own Idle works other row may g next is = elim may [ ]
    own (Noted f) works (Sought later) row may g next is =
        let same : f ≡ g = cc (is) in
        let last : later ≡ next = cc (is) in
        subst (λ (k : StartSnapshot). Found k next) same
        (subst (Found f) last
        (on f Refresh later (ap recorded_in works)
        (ap (tier_task_of (Some t.order)) works ∙ (ap (begun_of b f) fetches ∙ sym (ap (seeks_of b f Refresh) fetches))) tt row.0.0 row.0.1))
    own (Noted f) works other row may g next is = absurd (cc (is))
    own (Seeks f was) works (Answers answer) row may g next is = absurd (cc (is))
    own (Seeks f was) works (Sought later) row may g next is =
        let same : f ≡ g = cc (is) in
        let last : later ≡ next = cc (is) in
        subst (λ (k : StartSnapshot). Found k next) same
        (subst (Found f) last
        (on f was later (ap recorded_in works) (ap (tier_task_of (Some t.order)) works) (before f was works) row.0.0 row.0.1))
    own (Seeks f was) works other row may g next is = elim may [ ]
    own other works o row may g next is = elim row [ ]

    pub own_found : Row disk store meta w.partition w.config w.partition_state w.tier b z.x z.broker_tier t.actor_state.in_progress t.order.command outcome w'.partition_state w'.tier → (g : StartSnapshot) (next : FetchStep)
        → (actor_state_after t.actor_state outcome).in_progress ≡ Seeks g next → Found g next
    own_found row g next is =
        let may = row_may disk store meta w.partition w.config w.partition_state w.tier b z.x z.broker_tier t.actor_state.in_progress t.order.command outcome w'.partition_state w'.tier row in
        own t.actor_state.in_progress refl outcome
        (subst (λ (k : Command). Row disk store meta w.partition w.config w.partition_state w.tier b z.x z.broker_tier t.actor_state.in_progress k outcome w'.partition_state w'.tier) fetches row) may g next is

  module _ (opening : State) (w : Whole D S M) (a : ℕ) (outcome : Outcome) (w' : Whole D S M) (t : IsTurn disk store meta w a outcome w') (c : IsCentral disk store meta opening w)
      (known : SpansKnown meta opening w) (x : Node D) (at : slice_get w.partition_state.nodes t.order.broker.0 ≡ Some x) (broker_tier : BrokerTierState) (broker_tier_at : slice_get w.tier.broker_tiers t.order.broker.0 ≡ Some broker_tier)
      (row : Row disk store meta w.partition w.config w.partition_state w.tier t.order.broker.0 x broker_tier t.actor_state.in_progress t.order.command outcome w'.partition_state w'.tier) where
    -- what the state of the turn keeps
    at_place : (place : ℕ) → t.place ≡ place → (d : ℕ) (l : ActorList) (actor_state : ActorState) (order : Order) (offset limit : ℕ) (g : StartSnapshot) (next : FetchStep) → IsNextOrder w' d place l actor_state order
        → order.command ≡ Fetch offset limit → actor_state.in_progress ≡ Seeks g next → FetchHasFound c.central.plain.paths (meta.content w.tier.meta).notes (unwrap_or (leading g.role) 0) offset limit next
    at_place place same d l actor_state order offset limit g next nx fetches works =
        let after = actor_state_after t.actor_state outcome in
        let list_is : t.list ≡ l =
        one_some (slice_get w.lists t.place) t.list l t.at.list (ap (λ (k : ℕ). slice_get w.lists k) same ∙ (ap (λ (k : List ActorList). slice_get k place) (sym t.lists) ∙ nx.at.list)) in
        let there : slice_get w'.desk place ≡ Some after =
        ap (λ (k : List ActorState). slice_get k place) t.desk ∙ (ap (λ (k : ℕ). slice_get (slice_set w.desk t.place after) k) (sym same) ∙ get_put w.desk t.place t.actor_state after t.at.actor_state_is) in
        let actor_state_is : after ≡ actor_state = one_some (slice_get w'.desk place) after actor_state there nx.at.actor_state_is in
        let is : after.in_progress ≡ Seeks g next = ap (λ (k : ActorState). k.in_progress) actor_state_is ∙ works in
        let number : t.actor_state.number ≡ actor_state.number = sym (number_kept t.actor_state outcome g next is) ∙ ap (λ (k : ActorState). k.number) actor_state_is in
        let order_is : t.order ≡ order =
        one_some (slice_get t.list.orders t.actor_state.number) t.order order t.next
        (ap (λ (k : ActorList). slice_get k.orders t.actor_state.number) list_is ∙ (ap (λ (k : ℕ). slice_get l.orders k) number ∙ nx.next)) in
        own_found opening w a outcome w' t c known (place_of disk store meta opening w c t.place t.list t.actor_state t.order t.at.list t.at.actor_state_is t.next x at broker_tier broker_tier_at) offset limit
        (ap (λ (o : Order). o.command) order_is ∙ fetches) row g next is

    pub keeps : SpansKnown meta opening w'
    keeps q replays d place l actor_state order offset limit g next nx fetches works =
        let notes = row_notes disk store meta w.partition w.config w.partition_state w.tier t.order.broker.0 x broker_tier t.actor_state.in_progress t.order.command outcome w'.partition_state w'.tier c.shows_tier.meta_tells row in
        let paths = paths_later disk store meta opening w a outcome w' q t c replays in
        found_grows c.central.plain.paths q.paths (meta.content w.tier.meta).notes (meta.content w'.tier.meta).notes (unwrap_or (leading g.role) 0) offset limit next paths notes
        (elim (nat_cases t.place place) [
          | inl same ↦ at_place place same d l actor_state order offset limit g next nx fetches works
          | inr other ↦
              let before : IsNextOrder w d place l actor_state order = record {
                at = record {
                  list = ap (λ (k : List ActorList). slice_get k place) (sym t.lists) ∙ nx.at.list;
                  actor = nx.at.actor;
                  actor_state_is = sym (others_stay disk store meta w a outcome w' t place (λ e. other (sym e))) ∙ nx.at.actor_state_is;
                };
                next = nx.next;
              } in
              known c.central.plain c.central.replays d place l actor_state order offset limit g next before fetches works
        ])

  pub keep_spans : (opening : State) (w : Whole D S M) (a : ℕ) (outcome : Outcome) (w' : Whole D S M) → IsCentral disk store meta opening w → SpansKnown meta opening w → IsTurn disk store meta w a outcome w'
      → SpansKnown meta opening w'
  keep_spans opening w a outcome w' c known t =
      let r = row_of disk store meta w.partition w.config w.partition_state w.tier t.order.broker.0 t.actor_state.in_progress t.order.command outcome w'.partition_state w'.tier t.row in
      keeps opening w a outcome w' t c known r.x r.at r.broker_tier r.broker_tier_at r.row

  pub new_spans : (opening : State) (lists : List ActorList) (w : Whole D S M) → IsNewWorld lists w → SpansKnown meta opening w
  new_spans opening lists w f p replays a place l actor_state order offset limit g next nx fetches works =
      absurd
      (let is = ap (λ (k : ActorState). k.in_progress) (rep_get (length lists) place fresh_actor_state actor_state (ap (λ (d : List ActorState). slice_get d place) (sym f.desk) ∙ nx.at.actor_state_is)) in
      cc (works, is))
