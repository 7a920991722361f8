-- Each turn keeps what is known of what timestamp lookups have found, and nothing is to be known of a fresh world.
use Rattle.std.proofs.Common.{◌≡◌, ◌∙◌, inl, inr, sym, ap, subst, refl, ℕ, ◌<◌, Bool, true, false, List, length, Some, slice_get, slice_set}
use Rattle.std.specs.Prelude.{ℤ, unwrap_or}
use mathlib.Core.List.{IsPrefix}
use Rattle.disk_model.specs.declared.disk.Disk.{Ghosts as DiskGhosts}
use Rattle.object_store.specs.declared.store.Store.{Ghosts as StoreGhosts}
use Rattle.meta_log.specs.declared.log.MetaLog.{Ghosts as MetaGhosts}
use Rattle.segment_meta.specs.declared.note.Note.{Note}
use Rattle.time_find.specs.declared.turn.Asked.{Asked}
use Rattle.time_find.specs.declared.turn.SearchStep.{SearchStep}
use Rattle.time_find.specs.declared.turn.SearchStep.TheVariants.{Seek, Times, Index, Log}
use Rattle.plain_log.specs.declared.turn.Turn.TheVariants.{Goes}
use Rattle.time_find.specs.Passing.{passed_over}
use Rattle.time_find.specs.Turns.{LocalSearchRow}
use Rattle.plain_log.specs.declared.command.ActorList.{ActorList}
use Rattle.plain_log.specs.declared.command.Command.{Command}
use Rattle.plain_log.specs.declared.command.Command.TheVariants.{Offset}
use Rattle.plain_log.specs.declared.command.Which.TheVariants.{At}
use Rattle.plain_log.specs.declared.command.Order.{Order}
use Rattle.plain_log.specs.declared.state.Path.{Path}
use Rattle.plain_log.specs.declared.state.State.{State}
use Rattle.plain_log.specs.Grows.{PathsGrow}
use Rattle.plain_log.specs.State.{leading}
use Rattle.broker_log.specs.Seen.{LogState, closed_in}
use Rattle.laws_partition.specs.declared.start_snapshot.StartSnapshot.{StartSnapshot}
use Rattle.laws_partition.specs.Partition.{broker_of}
use Rattle.laws_partition.proofs.Standing.{get_put}
use Rattle.partition_commands.specs.declared.partition_state.Node.{Node}
use Rattle.partition_commands.specs.Partition.{line_of, local_of, node_of}
use Rattle.tier_safe.proofs.Basics.{nat_cases, one_some}
use Rattle.partition_world.specs.declared.tier.BrokerTierState.{BrokerTierState}
use Rattle.partition_world.specs.declared.actor_state.Outcome.{Outcome}
use Rattle.partition_world.specs.declared.actor_state.Outcome.TheVariants.{Answers, Begins, Dates as Dated}
use Rattle.partition_world.specs.declared.actor_state.ActorState.{ActorState}
use Rattle.partition_world.specs.declared.actor_state.InProgress.{InProgress}
use Rattle.partition_world.specs.declared.actor_state.InProgress.TheVariants.{Idle, Noted, Dates}
use Rattle.partition_world.specs.Central.{IsCentral}
use Rattle.partition_world.specs.Fresh.{IsNewWorld, fresh_actor_state}
use Rattle.partition_world.specs.ActorStates.{actor_state_after}
use Rattle.partition_world.specs.Turn.{IsNextOrder, IsTurn}
use Rattle.partition_world.specs.TurnsOfCopy.{KeepsLead}
use Rattle.partition_world.specs.TurnsOfDate.{is_own, SearchRow, DateOnRow}
use Rattle.partition_world.specs.TurnsOfFetch.{fetch_tiers}
use Rattle.partition_world.specs.Turns.{Row}
use Rattle.partition_world.specs.Whole.{Whole}
use Rattle.partition_world.proofs.Begins.{MayComeTo, row_of, row_may}
use Rattle.partition_world.proofs.DateCentral.{resumed_set}
use Rattle.partition_world.proofs.Scenes.{Place, place_of, tier_view}
use Rattle.laws_answers.specs.FoundByTime.{IsFoundByTime, SearchesKnown}
use Rattle.laws_answers.proofs.Progress.{others_stay}
use Rattle.laws_answers.proofs.GrowsOfFetches.{ends_grow, span_grows, paths_later}
use Rattle.laws_answers.proofs.KnownOfFetches.{rep_get}
use Rattle.laws_answers.proofs.NotesOfFetches.{row_notes}
use Rattle.laws_answers.proofs.PlacesOfSearches.{Keeps, epoch, at as at_of, on as on_of, asked as asked_for, keeps_recorded, keeps_dates, search_at}
use Rattle.laws_answers.proofs.ReadingOfSearches.{searched_on, time_found}
use Rattle.laws_answers.proofs.SearchesTell.{resumed_found}
use Rattle.partition_world.proofs.GoingOn.{same_step}

-- what was found exists over paths that grow and with more metadata events
found_grows : (ps qs : List Path) (notes more : List Note) (led : ℕ) (next : SearchStep) → PathsGrow ps qs → IsPrefix notes more
    → IsFoundByTime ps notes led next → IsFoundByTime qs more led next
found_grows ps qs notes more led Seek w pre f = tt
found_grows ps qs notes more led (Times piece) w pre f = ends_grow ps qs led piece w f
found_grows ps qs notes more led (Index piece from) w pre f = ends_grow ps qs led piece w f
found_grows ps qs notes more led (Log piece from span) w pre f =
    (ends_grow ps qs led piece w f.0, span_grows ps qs notes more from 4294967295 piece span w pre f.1)

-- an actor's state that keeps what a search has found is at the order that it was at
number_kept : (actor_state : ActorState) (o : Outcome) (g : StartSnapshot) (cursor : ℕ) (next : SearchStep) → (actor_state_after actor_state o).in_progress ≡ Dates g cursor next
    → (actor_state_after actor_state o).number ≡ actor_state.number
number_kept actor_state (Answers answer) g cursor next is = absurd (cc (is))
number_kept actor_state other g cursor next is = refl

-- a turn in the local log continues without a piece
own_seeks : {D : Type 0} (disk : DiskGhosts D) (old : LogState D) (asked : Asked) (cursor at : ℕ) (later : SearchStep) (new : LogState D)
    → LocalSearchRow disk.content disk.control old asked cursor (Goes (at, later)) new → later ≡ Seek
own_seeks disk old asked cursor at later new (inl (past, is, same)) = same_step at _ later Seek is
own_seeks disk old asked cursor at later new (inr (below, row)) = searched_on asked (passed_over asked.ts cursor (closed_in old))
    row.out.bytes at later row.searched

module _ {D S M : Type 0} (disk : DiskGhosts D) (store : StoreGhosts S) (meta : MetaGhosts M) where
  module _ (opening : State) (w : Whole D S M) (a : ℕ) (outcome : Outcome) (w' : Whole D S M) (t : IsTurn disk store meta w a outcome w')
      (c : IsCentral disk store meta opening w)
      (known : SearchesKnown meta opening w) (z : Place disk store meta opening w c t.place t.list t.actor_state t.order) (ts : ℤ)
      (asks : t.order.command ≡ Offset (At ts)) where
    abbrev b : ℕ
    b = t.order.broker.0

    abbrev told : List Note
    told = (meta.content w.tier.meta).notes

    abbrev Found : StartSnapshot → SearchStep → Type 0
    Found g next = IsFoundByTime c.central.plain.paths told (unwrap_or (leading g.role) 0) next

    -- what the actor's state's search had found
    before : (g : StartSnapshot) (cursor : ℕ) (next : SearchStep) → t.actor_state.in_progress ≡ Dates g cursor next → Found g next
    before g cursor next works =
        known c.central.plain c.central.replays t.list.actor.0 t.place t.list t.actor_state t.order ts g cursor next
        (record { at = record { list = t.at.list; actor = refl; actor_state_is = t.at.actor_state_is }; next = t.next }) asks works

    -- and what it has found with its turn
    module _ (g : StartSnapshot) (cursor : ℕ) (next : SearchStep) (k : Keeps disk store meta opening w c t.place t.list t.actor_state t.order z ts asks g cursor
        next) where
      abbrev at : ℕ
      at = at_of disk store meta opening w c t.place t.list t.actor_state t.order z ts asks g cursor next k

      abbrev on : SearchStep
      on = on_of disk store meta opening w c t.place t.list t.actor_state t.order z ts asks g cursor next k

      abbrev asked : Asked
      asked = asked_for disk store meta opening w c t.place t.list t.actor_state t.order z ts asks g cursor next k

      finds : (to : ℕ) (later : SearchStep) → KeepsLead z.x g → at < z.x.known_high_watermark → Found g next → (own : Bool)
          → SearchRow disk store meta w.partition_state w.tier b z.x z.broker_tier asked at on own (Goes (to, later)) w'.partition_state w'.tier → Found g later
      finds to later keeps below f true row = subst (Found g) (sym (own_seeks disk z.x.log asked at to later row.0.kept row.0.row)) tt
      finds to later keeps below f false row =
          let r = row.0 in
          let led = epoch disk store meta opening w c t.place t.list t.actor_state t.order z ts asks g cursor next k in
          let d = search_at disk store meta opening w c t.place t.list t.actor_state t.order z ts asks g cursor next k keeps below in
          let notes = d.1 ∙ c.shows_tier.notes in
          let found = subst (λ (ns : List Note). IsFoundByTime c.central.plain.paths ns led on) (sym notes)
          (resumed_found c.central.plain.paths told led w.partition_state.registry.start cursor next f) in
          subst (λ (ns : List Note). IsFoundByTime c.central.plain.paths ns led later) notes
          (time_found d.0 c.central.plain t.place b (tier_view disk store meta opening w c t.place t.list t.actor_state t.order z)
          (broker_of (node_of z.x z.s)) g.stops led asked (line_of z.x) at
          store.content store.control meta.content meta.control on to later (fetch_tiers z.broker_tier.view z.broker_tier.cache w.tier)
          (fetch_tiers r.view r.cache w'.tier) d.2
          (resumed_set w.partition_state.registry.start cursor next k.set) r.row found)

      goes : (to : ℕ) (later : SearchStep) → Found g next → DateOnRow disk store meta w.partition w.partition_state w.tier b z.x z.broker_tier g ts cursor next
          (Dated to later) w'.partition_state w'.tier → Found g later
      goes to later f row = finds to later row.0.keeps row.0.below f (is_own (local_of z.x) at on) row.0.row

    own : (in_progress : InProgress) → t.actor_state.in_progress ≡ in_progress → (o : Outcome) → Row disk store meta w.partition w.config w.partition_state w.tier b z.x z.broker_tier in_progress
        (Offset (At ts)) o w'.partition_state w'.tier → MayComeTo in_progress o
        → (g : StartSnapshot) (cursor : ℕ) (next : SearchStep) → (actor_state_after (record t.actor_state { in_progress = in_progress }) o).in_progress ≡ Dates g cursor next → Found g next
    own Idle works (Answers answer) row may g cursor next is = absurd (cc (is))
    own Idle works (Begins f) row may g cursor next is = absurd (cc (is))
    own Idle works other row may g cursor next is = elim may [ ]
    own (Noted f) works (Dated to later) row may g cursor next is =
        let same : f ≡ g = cc (is) in
        let last : later ≡ next = cc (is) in
        subst (λ (k : StartSnapshot). Found k next) same
        (subst (Found f) last (goes f 0 Seek (keeps_recorded disk store meta opening w c t.place t.list t.actor_state t.order z ts asks f works) to
        later tt row))
    own (Noted f) works other row may g cursor next is = absurd (cc (is))
    own (Dates f from was) works (Answers answer) row may g cursor next is = absurd (cc (is))
    own (Dates f from was) works (Dated to later) row may g cursor next is =
        let same : f ≡ g = cc (is) in
        let last : later ≡ next = cc (is) in
        subst (λ (k : StartSnapshot). Found k next) same
        (subst (Found f) last
        (goes f from was (keeps_dates disk store meta opening w c t.place t.list t.actor_state t.order z ts asks f from was works) to later
        (before f from was works) row))
    own (Dates f from was) works other row may g cursor next is = elim may [ ]
    own other works o row may g cursor next is = elim row [ ]

    pub own_found : Row disk store meta w.partition w.config w.partition_state w.tier b z.x z.broker_tier t.actor_state.in_progress t.order.command outcome w'.partition_state w'.tier
        → (g : StartSnapshot) (cursor : ℕ) (next : SearchStep)
        → (actor_state_after t.actor_state outcome).in_progress ≡ Dates g cursor next → Found g next
    own_found row g cursor next is =
        let may = row_may disk store meta w.partition w.config w.partition_state w.tier b z.x z.broker_tier t.actor_state.in_progress t.order.command outcome w'.partition_state
        w'.tier row in
        own t.actor_state.in_progress refl outcome
        (subst (λ (k : Command). Row disk store meta w.partition w.config w.partition_state w.tier b z.x z.broker_tier t.actor_state.in_progress k outcome w'.partition_state w'.tier)
        asks row) may g cursor next is

  module _ (opening : State) (w : Whole D S M) (a : ℕ) (outcome : Outcome) (w' : Whole D S M) (t : IsTurn disk store meta w a outcome w')
      (c : IsCentral disk store meta opening w)
      (known : SearchesKnown meta opening w) (x : Node D) (at : slice_get w.partition_state.nodes t.order.broker.0 ≡ Some x) (broker_tier : BrokerTierState)
      (broker_tier_at : slice_get w.tier.broker_tiers t.order.broker.0 ≡ Some broker_tier)
      (row : Row disk store meta w.partition w.config w.partition_state w.tier t.order.broker.0 x broker_tier t.actor_state.in_progress t.order.command outcome w'.partition_state
      w'.tier) where
    -- what the state of the turn keeps
    at_place : (place : ℕ) → t.place ≡ place → (d : ℕ) (l : ActorList) (actor_state : ActorState) (order : Order) (ts : ℤ) (g : StartSnapshot) (cursor : ℕ)
        (next : SearchStep) → IsNextOrder w' d place l actor_state order
        → order.command ≡ Offset (At ts) → actor_state.in_progress ≡ Dates g cursor next
        → IsFoundByTime c.central.plain.paths (meta.content w.tier.meta).notes (unwrap_or (leading g.role) 0) next
    at_place place same d l actor_state order ts g cursor next nx asks works =
        let after = actor_state_after t.actor_state outcome in
        let list_is : t.list ≡ l =
        one_some (slice_get w.lists t.place) t.list l t.at.list (ap (λ (k : ℕ). slice_get w.lists k) same
        ∙ (ap (λ (k : List ActorList). slice_get k place) (sym t.lists) ∙ nx.at.list)) in
        let there : slice_get w'.desk place ≡ Some after =
        ap (λ (k : List ActorState). slice_get k place) t.desk ∙ (ap (λ (k : ℕ). slice_get (slice_set w.desk t.place after) k) (sym same)
        ∙ get_put w.desk t.place t.actor_state after t.at.actor_state_is) in
        let actor_state_is : after ≡ actor_state = one_some (slice_get w'.desk place) after actor_state there nx.at.actor_state_is in
        let is : after.in_progress ≡ Dates g cursor next = ap (λ (k : ActorState). k.in_progress) actor_state_is ∙ works in
        let number : t.actor_state.number ≡ actor_state.number = sym (number_kept t.actor_state outcome g cursor next is)
        ∙ ap (λ (k : ActorState). k.number) actor_state_is in
        let order_is : t.order ≡ order =
        one_some (slice_get t.list.orders t.actor_state.number) t.order order t.next
        (ap (λ (k : ActorList). slice_get k.orders t.actor_state.number) list_is ∙ (ap (λ (k : ℕ). slice_get l.orders k) number ∙ nx.next)) in
        own_found opening w a outcome w' t c known (place_of disk store meta opening w c t.place t.list t.actor_state t.order t.at.list
        t.at.actor_state_is t.next x at broker_tier broker_tier_at) ts
        (ap (λ (o : Order). o.command) order_is ∙ asks) row g cursor next is

    pub keeps : SearchesKnown meta opening w'
    keeps q replays d place l actor_state order ts g cursor next nx asks works =
        let notes = row_notes disk store meta w.partition w.config w.partition_state w.tier t.order.broker.0 x broker_tier t.actor_state.in_progress t.order.command
        outcome w'.partition_state w'.tier c.shows_tier.meta_tells row in
        let paths = paths_later disk store meta opening w a outcome w' q t c replays in
        found_grows c.central.plain.paths q.paths (meta.content w.tier.meta).notes (meta.content w'.tier.meta).notes
        (unwrap_or (leading g.role) 0) next paths notes
        (elim (nat_cases t.place place) [
          | inl same ↦ at_place place same d l actor_state order ts g cursor next nx asks works
          | inr other ↦
              let before : IsNextOrder w d place l actor_state order = record {
                at = record {
                  list = ap (λ (k : List ActorList). slice_get k place) (sym t.lists) ∙ nx.at.list;
                  actor = nx.at.actor;
                  actor_state_is = sym (others_stay disk store meta w a outcome w' t place (λ e. other (sym e))) ∙ nx.at.actor_state_is;
                };
                next = nx.next;
              } in
              known c.central.plain c.central.replays d place l actor_state order ts g cursor next before asks works
        ])

  pub keep_searches : (opening : State) (w : Whole D S M) (a : ℕ) (outcome : Outcome) (w' : Whole D S M)
      → IsCentral disk store meta opening w → SearchesKnown meta opening w
      → IsTurn disk store meta w a outcome w' → SearchesKnown meta opening w'
  keep_searches opening w a outcome w' c known t =
      let r = row_of disk store meta w.partition w.config w.partition_state w.tier t.order.broker.0 t.actor_state.in_progress t.order.command outcome w'.partition_state
      w'.tier t.row in
      keeps opening w a outcome w' t c known r.x r.at r.broker_tier r.broker_tier_at r.row

  pub new_searches : (opening : State) (lists : List ActorList) (w : Whole D S M) → IsNewWorld lists w → SearchesKnown meta opening w
  new_searches opening lists w f p replays a place l actor_state order ts g cursor next nx asks works =
      absurd
      (let is = ap (λ (k : ActorState). k.in_progress) (rep_get (length lists) place fresh_actor_state actor_state
      (ap (λ (d : List ActorState). slice_get d place) (sym f.desk) ∙ nx.at.actor_state_is)) in
      cc (works, is))
