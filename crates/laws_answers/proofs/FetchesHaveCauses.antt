-- Each answer of a fetch has its cause.
use Rattle.std.proofs.Common.{◌≡◌, ◌∙◌, sym, ap, subst, refl, ℕ, List, Some, None, Option, Result, Ok, Err, slice_get}
use Rattle.std.specs.Prelude.{unwrap_or}
use Rattle.tier_base.specs.declared.fault.Trouble.{Trouble}
use Rattle.tier_base.specs.declared.fault.Trouble.TheVariants.{Failed, NoMemory}
use Rattle.tier_base.specs.Counts.{Rose}
use Rattle.tier_base.specs.Device.{Ran, fate_of}
use Rattle.tier_base.specs.declared.plain.Stop.{Stop}
use Rattle.tier_base.specs.declared.plain.Part.TheVariants as part
use Rattle.disk_model.specs.declared.disk.Disk.{Ghosts as DiskGhosts}
use Rattle.object_store.specs.declared.store.Store.{Ghosts as StoreGhosts}
use Rattle.object_store.specs.declared.call.StoreCall.TheVariants.{Get}
use Rattle.object_store.specs.declared.placing.Spot.{Spot}
use Rattle.object_store.specs.Place.{short_of, short_in}
use Rattle.meta_log.specs.declared.log.MetaLog.{Ghosts as MetaGhosts}
use Rattle.sparse_index.specs.Offsets.{OffsetTable}
use Rattle.index_cache.specs.Cache.{Cache, found}
use Rattle.segment_meta.specs.declared.note.Note.{Note}
use Rattle.remote_view.specs.Fold.{EntriesSeen as View, entry_of}
use Rattle.remote_find.specs.declared.piece.Piece.{Piece}
use Rattle.remote_find.specs.Pieces.{piece_at}
use Rattle.plain_log.specs.declared.turn.Turn.TheVariants.{Ends}
use Rattle.tier_fetch.specs.declared.turn.FetchStep.{FetchStep}
use Rattle.tier_fetch.specs.declared.turn.FetchStep.TheVariants.{Refresh, Index, Log}
use Rattle.tier_fetch.specs.declared.turn.Span.{Span}
use Rattle.tier_fetch.specs.declared.turn.FetchRequest.{FetchRequest}
use Rattle.tier_fetch.specs.Turns.{chosen, spot_in, LoadsBytes, Loads, CutsBytes, CutsRunOut, RefreshRow, IndexRow, LoadRow, LogRow}
use Rattle.plain_log.specs.declared.answer.Answer.{Answer}
use Rattle.plain_log.specs.declared.answer.Answer.TheVariants.{Down, NotLeader, OutOfRange, Empty, DiskFault, MetaFault, StoreFault, Damaged, Stopped, Run}
use Rattle.plain_log.specs.declared.answer.Place.{Place as Spoiled}
use Rattle.plain_log.specs.declared.answer.Place.TheVariants.{File, Key, Meta}
use Rattle.plain_log.specs.declared.answer.Tier.{Tier}
use Rattle.plain_log.specs.declared.answer.Tier.TheVariants.{Remote}
use Rattle.plain_log.specs.declared.command.Command.{Command}
use Rattle.plain_log.specs.declared.command.Command.TheVariants.{Fetch}
use Rattle.plain_log.specs.declared.state.State.{State}
use Rattle.plain_log.specs.State.{leading}
use Rattle.broker_log.specs.Seen.{Faulted}
use Rattle.partition_commands.proofs.LastingDisks.{one_faulted}
use Rattle.laws_partition.specs.declared.start_snapshot.StartSnapshot.{StartSnapshot}
use Rattle.laws_partition.specs.declared.start_snapshot.Turned.{Turned}
use Rattle.laws_partition.specs.declared.start_snapshot.Turned.TheVariants as turned
use Rattle.laws_partition.specs.Partition.{broker_of}
use Rattle.laws_partition.specs.Log.{IsRunOf}
use Rattle.laws_partition.proofs.Standing.{get_put}
use Rattle.partition_commands.specs.declared.partition_state.Node.{Node}
use Rattle.partition_commands.specs.declared.partition_state.PartitionState.{PartitionState}
use Rattle.partition_commands.specs.Partition.{AtNode, line_of, node_of}
use Rattle.partition_commands.specs.TurnsOfFetch.{FetchRow as LocalRow, FetchTurn as LocalTurn}
use Rattle.partition_commands.proofs.RunsShown.{run_shown}
use Rattle.partition_commands.proofs.Shown.{some_at}
use Rattle.tier_safe.proofs.Basics.{one_some}
use Rattle.laws_tier_fetch.specs.Seeking.{piece_of}
use Rattle.laws_tier_fetch.proofs.Running.{runs_are_logs}
use Rattle.partition_world.specs.declared.actor_state.Outcome.TheVariants.{Answers}
use Rattle.partition_world.specs.declared.actor_state.InProgress.{InProgress}
use Rattle.partition_world.specs.declared.actor_state.InProgress.TheVariants.{Idle, Noted, Seeks}
use Rattle.partition_world.specs.Central.{IsCentral, seeks_of, begun_of, tier_task_of}
use Rattle.partition_world.specs.ActorStates.{recorded_in, outcome_of}
use Rattle.partition_world.specs.Turn.{IsTurn}
use Rattle.partition_world.specs.TurnsOfFetch.{AnswersAtOnce, GoesOnFetch, MayServe, FetchOnRow, fetch_tiers, wanted_of}
use Rattle.partition_world.specs.Turns.{Row}
use Rattle.partition_world.specs.Whole.{Whole}
use Rattle.partition_world.proofs.Begins.{row_of}
use Rattle.partition_world.proofs.Scenes.{Place, place_of, tier_view}
use Rattle.laws_answers.specs.CausesOfFetches.{IsLogsRun, FetchFirstCause, FetchLaterCause, FetchHasCause}
use Rattle.laws_answers.specs.Found.{FetchHasFound, SpansKnown}
use Rattle.laws_answers.proofs.PlacesOfFetches.{sound, marked, turn_at}
use Rattle.laws_answers.proofs.ReadingOfFetches.{not_damaged}

-- what a turn may answer, of devices before and after it

module _ {M : Type 0} (meta : MetaGhosts M) where
  -- a refresh: a fault of the metadata log that was met, or damage
  abbrev pub RefreshTells : Answer → M → M → Type 0
  RefreshTells MetaFault old new = Rose (meta.control old).faults (meta.control new).faults
  RefreshTells (Damaged place at) old new = Unit {0}
  RefreshTells other old new = ⊥

  chosen_tells : (seen : ℕ) (piece : Option Piece) (answer : Answer) (old new : M) → Ends answer ≡ chosen seen piece → RefreshTells answer old new
  chosen_tells seen None answer old new is = let e : Damaged Meta seen ≡ answer = cc (is) in subst (λ (k : Answer). RefreshTells k old new) e tt
  chosen_tells seen (Some piece) answer old new is = absurd (cc (is))

  refresh_tells : (wanted : FetchRequest) (line : List (ℕ × ℕ)) (answer : Answer) (before after : View) (old new : M) → RefreshRow meta.content meta.control wanted line (Ok (Ends answer)) before after old new
      → RefreshTells answer old new
  refresh_tells wanted line MetaFault before after old new row = row.control.ran.cause refl
  refresh_tells wanted line answer before after old new row = chosen_tells after.notes (piece_at after.entries line wanted.log_end wanted.offset) _ old new row.0

module _ {S : Type 0} (store : StoreGhosts S) where
  -- the index: a fault of the store that was met, or damage
  abbrev pub IndexTells : Answer → S → S → Type 0
  IndexTells StoreFault old new = Rose (store.control old).faults (store.control new).faults
  IndexTells (Damaged place at) old new = Unit {0}
  IndexTells other old new = ⊥

  loads_tells : (wanted : FetchRequest) (piece : Piece) (base : ℕ) (spot : Spot) (given : Result (Option (List ℕ)) Trouble) (answer : Answer) (cache cache' : Cache) (old new : S)
      → Ran Get (fate_of given) (store.control old) (store.control new) → Loads wanted piece base spot given (Ok (Ends answer)) cache cache' → IndexTells answer old new
  loads_tells wanted piece base spot (Err Failed) answer cache cache' old new ran k = let f = k.0 in let e : StoreFault ≡ answer = cc (f) in subst (λ (n : Answer). IndexTells n old new) e (ran.cause refl)
  loads_tells wanted piece base spot (Err NoMemory) answer cache cache' old new ran k = let e = k.0 in absurd (cc (e))
  loads_tells wanted piece base spot (Ok None) answer cache cache' old new ran k = let f = k.0 in let e : Damaged (Key spot.key) 0 ≡ answer = cc (f) in subst (λ (n : Answer). IndexTells n old new) e tt
  loads_tells wanted piece base spot (Ok (Some bytes)) answer cache cache' old new ran k = by (short_of spot bytes) k
    where
      by : (end : Option ℕ) → LoadsBytes end wanted piece base spot bytes (Ok (Ends answer)) cache cache' → IndexTells answer old new
      by (Some end) k = let f = k.0 in let e : Damaged (Key spot.key) end ≡ answer = cc (f) in subst (λ (n : Answer). IndexTells n old new) e tt
      by None k = subst (λ (n : Answer). IndexTells n old new) (sym k.0) tt

  load_tells : (wanted : FetchRequest) (piece : Piece) (view : View) (place : Option (ℕ × Spot)) (answer : Answer) (cache cache' : Cache) (old new : S)
      → LoadRow store.content store.control wanted piece view place (Ok (Ends answer)) cache cache' old new → IndexTells answer old new
  load_tells wanted piece view None answer cache cache' old new row = let f = row.0 in let e : Damaged Meta view.notes ≡ answer = cc (f) in subst (λ (n : Answer). IndexTells n old new) e tt
  load_tells wanted piece view (Some place) answer cache cache' old new row = loads_tells wanted piece place.0 place.1 row.answer answer cache cache' old new row.gets.control row.loads

  index_tells : (wanted : FetchRequest) (piece : Piece) (view : View) (there : Option OffsetTable) (answer : Answer) (cache cache' : Cache) (old new : S)
      → IndexRow store.content store.control wanted piece view (Ok (Ends answer)) there cache cache' old new → IndexTells answer old new
  index_tells wanted piece view (Some index) answer cache cache' old new row = let e = row.0 in absurd (cc (e))
  index_tells wanted piece view None answer cache cache' old new row =
      load_tells wanted piece view (spot_in wanted.partition piece.id part.Index (entry_of piece.id view.entries)) answer cache cache' old new row

  -- the log: or a run
  abbrev pub LogTells : Answer → S → S → Type 0
  LogTells (Run tier size stop bytes) old new = Unit {0}
  LogTells other old new = IndexTells other old new

  cuts_tells : (wanted : FetchRequest) (piece : Piece) (spot : Spot) (span : Span) (given : Result (Option (List ℕ)) Trouble) (answer : Answer) (old new : S)
      → Ran Get (fate_of given) (store.control old) (store.control new) → CutsRunOut wanted piece spot span given (Ok (Ends answer)) → LogTells answer old new
  cuts_tells wanted piece spot span (Err Failed) answer old new ran k = let e : StoreFault ≡ answer = cc (k) in subst (λ (n : Answer). LogTells n old new) e (ran.cause refl)
  cuts_tells wanted piece spot span (Err NoMemory) answer old new ran k = absurd (cc (k))
  cuts_tells wanted piece spot span (Ok None) answer old new ran k = let e : Damaged (Key spot.key) 0 ≡ answer = cc (k) in subst (λ (n : Answer). LogTells n old new) e tt
  cuts_tells wanted piece spot span (Ok (Some bytes)) answer old new ran k = by (short_in spot span.from span.most bytes) answer k
    where
      by : (end : Option ℕ) (answer : Answer) → CutsBytes end wanted piece spot span bytes (Ok (Ends answer)) → LogTells answer old new
      by (Some end) answer k = let e : Damaged (Key spot.key) end ≡ answer = cc (k) in subst (λ (n : Answer). LogTells n old new) e tt
      by None (Run tier size stop run) k = tt
      by None (Damaged place at) k = tt
      by None answer k = elim k [ ]

  log_tells : (wanted : FetchRequest) (piece : Piece) (span : Span) (view : View) (place : Option (ℕ × Spot)) (answer : Answer) (old new : S)
      → LogRow store.content store.control wanted piece span view place (Ok (Ends answer)) old new → LogTells answer old new
  log_tells wanted piece span view None answer old new row = let f = row.0 in let e : Damaged Meta view.notes ≡ answer = cc (f) in subst (λ (n : Answer). LogTells n old new) e tt
  log_tells wanted piece span view (Some place) answer old new row = cuts_tells wanted piece place.1 span row.answer answer old new row.gets.control row.cuts

module _ {D S M : Type 0} (disk : DiskGhosts D) (store : StoreGhosts S) (meta : MetaGhosts M) where
  module _ (opening : State) (w : Whole D S M) (a : ℕ) (answer : Answer) (w' : Whole D S M) (t : IsTurn disk store meta w a (Answers answer) w')
      (c : IsCentral disk store meta opening w) (known : SpansKnown meta opening w) (z : Place disk store meta opening w c t.place t.list t.actor_state t.order)
      (offset limit : ℕ) (fetches : t.order.command ≡ Fetch offset limit) where
    abbrev b : ℕ
    b = t.order.broker.0

    -- the first turn
    first : (k : Answer) → LocalRow disk.content disk.control w.partition_state b z.x offset limit k w'.partition_state → FetchFirstCause disk store meta w b z.x offset limit k w'
    first Down row = row.0
    first NotLeader row = row.1
    first (OutOfRange start end) row = record { outside = row.2; start_is = row.3; end_is = row.4 }
    first Empty row = row.3
    first DiskFault row =
        let f = row.4 in
        let there : slice_get w'.partition_state.nodes b ≡ Some (record z.x { log = f.0 }) =
        ap (λ (h : PartitionState D). slice_get h.nodes b) f.4 ∙ get_put w.partition_state.nodes b z.x (record z.x { log = f.0 }) z.at in
        some_at (λ (x : Node D). AtNode w'.partition_state b (λ y. Faulted disk.control x.log y.log)) (slice_get w.partition_state.nodes b) z.x z.at
        (some_at (λ (y : Node D). Faulted disk.control z.x.log y.log) (slice_get w'.partition_state.nodes b) (record z.x { log = f.0 }) there (one_faulted disk.control z.x.log f.0 f.2 f.3))
    first (Damaged (File name) at) row = absurd (row.4.misreads.unmarked z.s z.sees.shows (marked disk store meta opening w c t.place t.list t.actor_state t.order z))
    first (Run tier size stop bytes) row =
        let g = row.4 in
        let r = g.reads.run z.s z.sees.shows (marked disk store meta opening w c t.place t.list t.actor_state t.order z) in
        let k = sound disk store meta opening w c t.place t.list t.actor_state t.order z in (
          (g.out.base, g.tier_is),
          record {
            seen = z.s;
            shows = z.sees.shows;
            gives = record {
              run = r.run;
              is = subst (λ (why : Stop). IsRunOf z.s.batches offset limit z.x.known_high_watermark why r.run) (sym g.stop_is) (run_shown z.x.log z.s offset limit z.x.known_high_watermark g.out k.log.consecutive k.log.line_is r);
              spelled = g.bytes_are ∙ r.bytes;
              size_is = g.size_is;
            };
          },
        )
    first other row = elim row [ ]

    -- a later one, of an actor's state that keeps what was recorded, and has this next
    module _ (g : StartSnapshot) (next : FetchStep) (recorded : recorded_in t.actor_state.in_progress ≡ Some g) (seeks : tier_task_of (Some t.order) t.actor_state.in_progress ≡ seeks_of b g next t.order.command)
        (so_far : FetchHasFound c.central.plain.paths (meta.content w.tier.meta).notes (unwrap_or (leading g.role) 0) offset limit next) where
      abbrev wanted : FetchRequest
      wanted = wanted_of w.partition z.x offset limit

      -- it met no damage
      undamaged : (place : Spoiled) (at : ℕ) → MayServe w.partition_state z.x g offset → GoesOnFetch store meta w.partition w.tier b z.x z.broker_tier offset limit next (Ends (Damaged place at)) w'.tier → ⊥
      undamaged place at serves goes =
          let below = serves.below in
          not_damaged c.scene c.central.plain t.place b (tier_view disk store meta opening w c t.place t.list t.actor_state t.order z) (broker_of (node_of z.x z.s)) g.stops (unwrap_or (leading g.role) 0) wanted (line_of z.x)
          store.content store.control meta.content meta.control next place at (fetch_tiers z.broker_tier.view z.broker_tier.cache w.tier) (fetch_tiers goes.view goes.cache w'.tier)
          (turn_at disk store meta opening w c t.place t.list t.actor_state t.order z offset limit fetches g next recorded seeks serves) goes.row
          (subst (λ (notes : List Note). FetchHasFound c.central.plain.paths notes (unwrap_or (leading g.role) 0) offset limit next) (sym c.shows_tier.notes) so_far) below
          (marked disk store meta opening w c t.place t.list t.actor_state t.order z)

      -- a run is the log's
      runs : (tier : Tier) (size : ℕ) (stop : Stop) (bytes : List ℕ) (piece : Piece) → piece_of next ≡ Some piece → MayServe w.partition_state z.x g offset
          → GoesOnFetch store meta w.partition w.tier b z.x z.broker_tier offset limit next (Ends (Run tier size stop bytes)) w'.tier → (tier ≡ Remote piece.id) × IsLogsRun disk z.x offset limit size stop bytes
      runs tier size stop bytes piece is serves goes =
          let r = runs_are_logs store.content store.control meta.content meta.control wanted (line_of z.x) next tier size stop bytes (fetch_tiers z.broker_tier.view z.broker_tier.cache w.tier)
          (fetch_tiers goes.view goes.cache w'.tier) c.scene c.central.plain t.place b (tier_view disk store meta opening w c t.place t.list t.actor_state t.order z) (broker_of (node_of z.x z.s)) g.stops
          (unwrap_or (leading g.role) 0) goes.row (turn_at disk store meta opening w c t.place t.list t.actor_state t.order z offset limit fetches g next recorded seeks serves) in
          let same : r.piece ≡ piece = one_some (piece_of next) r.piece piece r.found is in (
            r.tier_is ∙ ap (λ (p : Piece). Remote p.id) same,
            record { seen = z.s; shows = z.sees.shows; gives = record { run = r.run.run; is = r.run.is; spelled = r.run.spelled; size_is = r.run.size_is } },
          )

    -- such a turn, by what is next
    module _ (g : StartSnapshot) (recorded : recorded_in t.actor_state.in_progress ≡ Some g) where
      abbrev Cause : FetchStep → Answer → Type 0
      Cause next k = FetchLaterCause disk store meta w z.x g offset limit next k w'

      abbrev Shown : FetchStep → Type 0
      Shown next = tier_task_of (Some t.order) t.actor_state.in_progress ≡ seeks_of b g next t.order.command

      abbrev So : FetchStep → Type 0
      So next = FetchHasFound c.central.plain.paths (meta.content w.tier.meta).notes (unwrap_or (leading g.role) 0) offset limit next

      abbrev On : FetchStep → Answer → Type 0
      On next k = GoesOnFetch store meta w.partition w.tier b z.x z.broker_tier offset limit next (Ends k) w'.tier

      refreshed : (k : Answer) → RefreshTells meta k w.tier.meta w'.tier.meta → Shown Refresh → MayServe w.partition_state z.x g offset → On Refresh k → Cause Refresh k
      refreshed MetaFault is_observable shows serves goes = is_observable
      refreshed (Damaged place at) is_observable shows serves goes = absurd (undamaged g Refresh recorded shows tt place at serves goes)
      refreshed other is_observable shows serves goes = elim is_observable [ ]

      indexed : (piece : Piece) (k : Answer) → IndexTells store k w.tier.store w'.tier.store → Shown (Index piece) → So (Index piece) → MayServe w.partition_state z.x g offset → On (Index piece) k → Cause (Index piece) k
      indexed piece StoreFault is_observable shows so serves goes = is_observable
      indexed piece (Damaged place at) is_observable shows so serves goes = absurd (undamaged g (Index piece) recorded shows so place at serves goes)
      indexed piece other is_observable shows so serves goes = elim is_observable [ ]

      logged : (piece : Piece) (span : Span) (k : Answer) → LogTells store k w.tier.store w'.tier.store → Shown (Log piece span) → So (Log piece span) → MayServe w.partition_state z.x g offset → On (Log piece span) k
          → Cause (Log piece span) k
      logged piece span StoreFault is_observable shows so serves goes = is_observable
      logged piece span (Damaged place at) is_observable shows so serves goes = absurd (undamaged g (Log piece span) recorded shows so place at serves goes)
      logged piece span (Run tier size stop bytes) is_observable shows so serves goes = runs g (Log piece span) recorded shows so tier size stop bytes piece refl serves goes
      logged piece span other is_observable shows so serves goes = elim is_observable [ ]

      ended : (next : FetchStep) (k : Answer) → Shown next → So next → MayServe w.partition_state z.x g offset → On next k → Cause next k
      ended Refresh k shows so serves goes = refreshed k (refresh_tells meta (wanted_of w.partition z.x offset limit) (line_of z.x) k z.broker_tier.view goes.view w.tier.meta w'.tier.meta goes.row.1) shows serves goes
      ended (Index piece) k shows so serves goes =
          indexed piece k
          (index_tells store (wanted_of w.partition z.x offset limit) piece z.broker_tier.view (found piece.id.0 z.broker_tier.cache.pairs) k z.broker_tier.cache goes.cache w.tier.store w'.tier.store goes.row.1) shows so serves goes
      ended (Log piece span) k shows so serves goes =
          logged piece span k
          (log_tells store (wanted_of w.partition z.x offset limit) piece span z.broker_tier.view (spot_in w.partition piece.id part.Log (entry_of piece.id z.broker_tier.view.entries)) k w.tier.store w'.tier.store goes.row.1)
          shows so serves goes

      -- what it is answered before it reads
      at_once : (next : FetchStep) (k : Answer) → AnswersAtOnce w.partition_state z.x g offset k → Cause next k
      at_once Refresh Stopped is = is
      at_once Refresh NotLeader is = is
      at_once Refresh (OutOfRange start end) is = is
      at_once Refresh Empty is = is
      at_once (Index piece) Stopped is = is
      at_once (Index piece) NotLeader is = is
      at_once (Index piece) (OutOfRange start end) is = is
      at_once (Index piece) Empty is = is
      at_once (Log piece span) Stopped is = is
      at_once (Log piece span) NotLeader is = is
      at_once (Log piece span) (OutOfRange start end) is = is
      at_once (Log piece span) Empty is = is
      at_once next other is = elim is [ ]

      later : (next : FetchStep) (k : Answer) → Shown next → So next → FetchOnRow store meta w.partition w.partition_state w.tier b z.x z.broker_tier g offset limit next (Answers k) w'.tier → Cause next k
      later next Stopped shows so row = at_once next Stopped row.0
      later next NotLeader shows so row = at_once next NotLeader (row.0, row.1, row.2)
      later next (OutOfRange start end) shows so row = at_once next (OutOfRange start end) (row.0, row.1, row.2, row.3)
      later next Empty shows so row = at_once next Empty (row.0, row.1, row.2)
      later next k shows so row = ended next _ shows so row.0 row.1

    by_in_progress : (in_progress : InProgress) → t.actor_state.in_progress ≡ in_progress → Row disk store meta w.partition w.config w.partition_state w.tier b z.x z.broker_tier in_progress (Fetch offset limit) (Answers answer) w'.partition_state w'.tier
        → FetchHasCause disk store meta w b z.x in_progress offset limit answer w'
    by_in_progress Idle is row = by row.0.0 row.0.1 row.0.2
      where
        by : (turned : Turned) → Answers answer ≡ outcome_of turned → LocalTurn disk.content disk.control w.partition_state b z.x offset limit turned w'.partition_state → FetchHasCause disk store meta w b z.x Idle offset limit answer w'
        by (turned.Answers k) is turn = let same : k ≡ answer = cc (is) in subst (λ (j : Answer). FetchFirstCause disk store meta w b z.x offset limit j w') same (first k turn)
        by (turned.Begins g) is turn = absurd (cc (is))
    by_in_progress (Noted g) is row =
        later g (ap recorded_in is) Refresh answer (ap (tier_task_of (Some t.order)) is ∙ (ap (begun_of b g) fetches ∙ sym (ap (seeks_of b g Refresh) fetches))) tt row.0
    by_in_progress (Seeks g next) is row =
        later g (ap recorded_in is) next answer (ap (tier_task_of (Some t.order)) is)
        (known c.central.plain c.central.replays t.list.actor.0 t.place t.list t.actor_state t.order offset limit g next
        (record { at = record { list = t.at.list; actor = refl; actor_state_is = t.at.actor_state_is }; next = t.next }) fetches is) row.0
    by_in_progress other is row = elim row [ ]

  pub have_causes : (opening : State) (w : Whole D S M) (a : ℕ) (answer : Answer) (w' : Whole D S M) (offset limit : ℕ) → IsCentral disk store meta opening w → SpansKnown meta opening w
      → (t : IsTurn disk store meta w a (Answers answer) w') → t.order.command ≡ Fetch offset limit
      → AtNode w.partition_state t.order.broker.0 (λ x. FetchHasCause disk store meta w t.order.broker.0 x t.actor_state.in_progress offset limit answer w')
  have_causes opening w a answer w' offset limit c known t fetches =
      let b = t.order.broker.0 in
      let r = row_of disk store meta w.partition w.config w.partition_state w.tier b t.actor_state.in_progress t.order.command (Answers answer) w'.partition_state w'.tier t.row in
      let z = place_of disk store meta opening w c t.place t.list t.actor_state t.order t.at.list t.at.actor_state_is t.next r.x r.at r.broker_tier r.broker_tier_at in
      let row = subst (λ (k : Command). Row disk store meta w.partition w.config w.partition_state w.tier b r.x r.broker_tier t.actor_state.in_progress k (Answers answer) w'.partition_state w'.tier) fetches r.row in
      some_at (λ (x : Node D). FetchHasCause disk store meta w b x t.actor_state.in_progress offset limit answer w') (slice_get w.partition_state.nodes b) r.x r.at
      (by_in_progress opening w a answer w' t c known z offset limit fetches t.actor_state.in_progress refl row)
