-- A fetch reports damage in its last turn alone.
use Rattle.std.proofs.Common.{◌≡◌, ◌⊎◌, ◌∙◌, sym, ap, subst, refl, ℕ, List, take, drop, Option, Some, None, Result, Ok, Err}
use Rattle.tier_base.specs.declared.fault.Trouble.{Trouble}
use Rattle.tier_base.specs.declared.fault.Trouble.TheVariants.{Failed, NoMemory}
use Rattle.tier_base.specs.declared.plain.Part.{Part}
use Rattle.tier_base.specs.declared.plain.Part.TheVariants as part
use Rattle.tier_base.specs.Device.{Control}
use Rattle.sparse_index.specs.Bytes.{bytes_of}
use Rattle.sparse_index.specs.Offsets.{OffsetTable, entry_bytes}
use Rattle.index_cache.specs.Cache.{Cache, found}
use Rattle.segment_bundle.specs.Parts.{parts_of, part_in, first_offset}
use Rattle.segment_file.specs.Index.{placed_from, index_of}
use Rattle.object_store.specs.Call as store_call
use Rattle.object_store.specs.Content as store
use Rattle.object_store.specs.Calls.{Gets}
use Rattle.object_store.specs.Place.{key_of, all_of, some_of, short_of, short_in}
use Rattle.object_store.proofs.Parts.{not_short}
use Rattle.object_store.specs.declared.placing.Spot.{Spot}
use Rattle.meta_log.specs.Call as meta_call
use Rattle.meta_log.specs.Content as meta
use Rattle.view_refresh.specs.Refreshing.{Refreshes}
use Rattle.plain_log.specs.declared.state.State.{State as Plain}
use Rattle.plain_log.specs.declared.state.Broker.{Broker}
use Rattle.plain_log.specs.declared.answer.Answer.TheVariants.{Damaged}
use Rattle.plain_log.specs.declared.answer.Place.{Place}
use Rattle.plain_log.specs.declared.answer.Place.TheVariants.{Key}
use Rattle.remote_view.specs.Fold.{EntriesSeen, entry_of, view_of}
use Rattle.remote_find.specs.declared.piece.Piece.{Piece}
use Rattle.remote_find.specs.Pieces.{piece_at}
use Rattle.tier_fetch.specs.declared.turn.FetchRequest.{FetchRequest}
use Rattle.tier_fetch.specs.declared.turn.Span.{Span}
use Rattle.tier_fetch.specs.declared.turn.FetchStep.TheVariants.{Refresh, Index, Log}
use Rattle.plain_log.specs.declared.turn.Turn.TheVariants.{Ends}
use Rattle.tier_fetch.specs.Turns.{spot_in, chosen, LoadsBytes, Loads, CutsBytes, CutsRunOut, RefreshRow, LoadRow, IndexRow, LogRow}
use Rattle.tier_safe.specs.Scene.{BrokerTierView, Seeks, Scene}
use Rattle.tier_safe.specs.Safe.{BothSafe}
use Rattle.tier_safe.specs.May.{IsChanged}
use Rattle.tier_safe.specs.Turns.{after_turn}
use Rattle.tier_safe.proofs.Basics.{one_some}
use Rattle.tier_safe.proofs.Kept.{all_kept}
use Rattle.tier_safe.proofs.Lookups.{asked_is_found}
use Rattle.tier_safe.proofs.Turning.{set_get, sees_all}
use Rattle.laws_tier_fetch.specs.Seeking.{sought_of, IsAtTurn}
use Rattle.laws_tier_fetch.specs.Damage.{IsOfLog, DamageIsOfLogs}
use Rattle.laws_tier_fetch.proofs.Entries.{index_rises}
use Rattle.laws_tier_fetch.proofs.Reading.{copy_of, at_spot, gives, first_is}
use Rattle.laws_tier_fetch.proofs.Turning.{shown}

-- a scene that changes lead to is safe
pub kept_safe : (c d : Scene) (p : Plain) → IsChanged c p d → BothSafe c p → BothSafe d p
kept_safe c d p h safe = subst (λ (e : Scene). BothSafe e p) h.is (all_kept h.changes c p p h.may safe)

-- the piece is found in a view of all metadata events
piece_there : (c : Scene) (p : Plain) (a b : ℕ) (tier_view : BrokerTierView) (x : Broker) (stops epoch : ℕ) (wanted : FetchRequest) (line : List (ℕ × ℕ)) (s : store.Content) (n : meta.Content) (view : EntriesSeen) (cache : Cache)
    (after : EntriesSeen) → IsAtTurn c p a b tier_view x stops epoch wanted line Refresh s n view cache → after ≡ view_of c.notes
    → IsChanged c p (after_turn c a b tier_view (Seeks (sought_of b stops epoch wanted.offset Refresh)) c.objects c.notes after)
    → (piece : Piece) × (piece_at after.entries line wanted.log_end wanted.offset ≡ Some piece)
piece_there c p a b tier_view x stops epoch wanted line s n view cache after h all change =
    let tier_task = Seeks (sought_of b stops epoch wanted.offset Refresh) in
    let d = after_turn c a b tier_view tier_task c.objects c.notes after in
    let safe = kept_safe c d p change h.safe in
    let new : BrokerTierView = record tier_view { view = after } in
    let k = asked_is_found d p a (sought_of b stops epoch wanted.offset Refresh) new x line safe.tier (set_get c.desk a tier_task tier_task h.shows.actor_state) refl
    (set_get c.tier_views b tier_view new h.shows.tier_view_is) h.broker_is h.leads h.past all h.is_observable in
    (k.0, subst (λ (e : ℕ). piece_at after.entries line e wanted.offset ≡ Some k.0) (sym h.end_is) k.1)

chosen_damage : (place : Place) (at notes : ℕ) (o : Option Piece) (piece : Piece) → o ≡ Some piece → Ends (Damaged place at) ≡ chosen notes o → ⊥
chosen_damage place at notes None piece is h = cc (is)
chosen_damage place at notes (Some other) piece is h = cc (h)

module _ {S M : Type 0} (objects : S → store.Content) (calls : S → Control store_call.call_code)
    (notes : M → meta.Content) (notings : M → Control meta_call.call_code) where
  refresh_damage : (c : Scene) (p : Plain) (a b : ℕ) (tier_view : BrokerTierView) (x : Broker) (stops epoch : ℕ) (wanted : FetchRequest) (line : List (ℕ × ℕ)) (s : store.Content) (cache : Cache) (view after : EntriesSeen)
      (old new : M) (place : Place) (at : ℕ) → IsAtTurn c p a b tier_view x stops epoch wanted line Refresh s (notes old) view cache
      → RefreshRow notes notings wanted line (Ok (Ends (Damaged place at))) view after old new → ⊥
  refresh_damage c p a b tier_view x stops epoch wanted line s cache view after old new place at h row =
      let tier_task = Seeks (sought_of b stops epoch wanted.offset Refresh) in
      let r : Refreshes (notes old) tier_view.view after = subst (λ (v : EntriesSeen). Refreshes (notes old) v after) (sym h.shows.view_is) row.1.view in
      let all = sees_all objects calls notes notings c p a b tier_view tier_task s old after (shown c a b tier_view tier_task s (notes old) view h.shows) h.few (h.safe.tier.views b tier_view h.shows.tier_view_is) r in
      let k = piece_there c p a b tier_view x stops epoch wanted line s (notes old) view cache after h all.0 all.1 in
      chosen_damage place at after.notes (piece_at after.entries line wanted.log_end wanted.offset) k.0 k.1 row.0

  loads_damage : (c : Scene) (p : Plain) (a b : ℕ) (tier_view : BrokerTierView) (x : Broker) (stops epoch : ℕ) (wanted : FetchRequest) (line : List (ℕ × ℕ)) (piece : Piece) (ns : meta.Content) (view : EntriesSeen)
      (cache cache' : Cache) (old new : S) (spot : ℕ × Spot) (place : Place) (at : ℕ) (answer : Result (Option (List ℕ)) Trouble)
      → IsAtTurn c p a b tier_view x stops epoch wanted line (Index piece) (objects old) ns view cache
      → spot_in wanted.partition piece.id part.Index (entry_of piece.id view.entries) ≡ Some spot → Gets objects calls spot.1.key (all_of spot.1) answer old new
      → Loads wanted piece spot.0 spot.1 answer (Ok (Ends (Damaged place at))) cache cache' → ⊥
  loads_damage c p a b tier_view x stops epoch wanted line piece ns view cache cache' old new spot place at (Err Failed) h stood gets k = cc (k.0)
  loads_damage c p a b tier_view x stops epoch wanted line piece ns view cache cache' old new spot place at (Err NoMemory) h stood gets k = cc (k.0)
  loads_damage c p a b tier_view x stops epoch wanted line piece ns view cache cache' old new spot place at (Ok None) h stood gets k =
      let r = copy_of c p a b tier_view x stops epoch wanted line (Index piece) (objects old) ns view cache piece h refl in
      let g = gives c p a b tier_view x stops epoch wanted line (Index piece) (objects old) ns view cache piece part.Index spot (λ b. b) None tt h refl stood (gets.bytes h.shows.store_tells) r in
      cc (g.given_is)
  loads_damage c p a b tier_view x stops epoch wanted line piece ns view cache cache' old new spot place at (Ok (Some bytes)) h stood gets k =
      let r = copy_of c p a b tier_view x stops epoch wanted line (Index piece) (objects old) ns view cache piece h refl in
      let g = gives c p a b tier_view x stops epoch wanted line (Index piece) (objects old) ns view cache piece part.Index spot (λ b. b) (Some bytes) tt h refl stood (gets.bytes h.shows.store_tells) r in
      let d = r.stored_whole.describes in
      let index = part_in (parts_of r.stored_whole.batches r.stored_whole.line r.stored_whole.interval) part.Index in
      let first : first_offset r.stored_whole.batches ≡ r.entry.start = first_is r.entry.start r.stored_whole.batches d.some d.is.consecutive in
      let same : bytes ≡ index = one_some (Some bytes) bytes index refl g.given_is in
      let all : short_of spot.1 bytes ≡ None = ap (short_of spot.1) same ∙ not_short spot.1.at spot.1.len index g.whole in
      let none = subst (λ (end : Option ℕ). LoadsBytes end wanted piece spot.0 spot.1 bytes (Ok (Ends (Damaged place at))) cache cache') all k in
      none.1 (index_of r.entry.start r.stored_whole.interval (placed_from 0 r.stored_whole.batches)).entries (index_rises r.entry.start r.stored_whole.interval r.stored_whole.batches d.is)
      (same ∙ ap (λ (m : ℕ). bytes_of entry_bytes (index_of m r.stored_whole.interval (placed_from 0 r.stored_whole.batches)).entries) first)

  load_damage : (c : Scene) (p : Plain) (a b : ℕ) (tier_view : BrokerTierView) (x : Broker) (stops epoch : ℕ) (wanted : FetchRequest) (line : List (ℕ × ℕ)) (piece : Piece) (ns : meta.Content) (view : EntriesSeen)
      (cache cache' : Cache) (old new : S) (spot : Option (ℕ × Spot)) (place : Place) (at : ℕ) → IsAtTurn c p a b tier_view x stops epoch wanted line (Index piece) (objects old) ns view cache
      → spot_in wanted.partition piece.id part.Index (entry_of piece.id view.entries) ≡ spot → LoadRow objects calls wanted piece view spot (Ok (Ends (Damaged place at))) cache cache' old new → ⊥
  load_damage c p a b tier_view x stops epoch wanted line piece ns view cache cache' old new None place at h stood row =
      let r = copy_of c p a b tier_view x stops epoch wanted line (Index piece) (objects old) ns view cache piece h refl in
      let k = at_spot c p a b tier_view x stops epoch wanted line (Index piece) (objects old) ns view cache piece part.Index tt h refl r in
      let there = sym stood ∙ k.is in
      cc (there)
  load_damage c p a b tier_view x stops epoch wanted line piece ns view cache cache' old new (Some spot) place at h stood row =
      loads_damage c p a b tier_view x stops epoch wanted line piece ns view cache cache' old new spot place at row.answer h stood row.gets row.loads

  index_damage : (c : Scene) (p : Plain) (a b : ℕ) (tier_view : BrokerTierView) (x : Broker) (stops epoch : ℕ) (wanted : FetchRequest) (line : List (ℕ × ℕ)) (piece : Piece) (ns : meta.Content) (view : EntriesSeen)
      (cache cache' : Cache) (old new : S) (there : Option OffsetTable) (place : Place) (at : ℕ) → IsAtTurn c p a b tier_view x stops epoch wanted line (Index piece) (objects old) ns view cache
      → IndexRow objects calls wanted piece view (Ok (Ends (Damaged place at))) there cache cache' old new → ⊥
  index_damage c p a b tier_view x stops epoch wanted line piece ns view cache cache' old new (Some index) place at h row = cc (row.0)
  index_damage c p a b tier_view x stops epoch wanted line piece ns view cache cache' old new None place at h row =
      load_damage c p a b tier_view x stops epoch wanted line piece ns view cache cache' old new (spot_in wanted.partition piece.id part.Index (entry_of piece.id view.entries)) place at h refl row

  cuts_damage : (c : Scene) (p : Plain) (a b : ℕ) (tier_view : BrokerTierView) (x : Broker) (stops epoch : ℕ) (wanted : FetchRequest) (line : List (ℕ × ℕ)) (piece : Piece) (span : Span) (ns : meta.Content) (view : EntriesSeen)
      (cache : Cache) (old new : S) (spot : ℕ × Spot) (place : Place) (at : ℕ) (answer : Result (Option (List ℕ)) Trouble)
      → IsAtTurn c p a b tier_view x stops epoch wanted line (Log piece span) (objects old) ns view cache
      → spot_in wanted.partition piece.id part.Log (entry_of piece.id view.entries) ≡ Some spot
      → Gets objects calls spot.1.key (some_of spot.1 span.from span.most) answer old new
      → CutsRunOut wanted piece spot.1 span answer (Ok (Ends (Damaged place at))) → IsOfLog wanted (Log piece span) place
  cuts_damage c p a b tier_view x stops epoch wanted line piece span ns view cache old new spot place at (Err Failed) h stood gets k = absurd (cc (k))
  cuts_damage c p a b tier_view x stops epoch wanted line piece span ns view cache old new spot place at (Err NoMemory) h stood gets k = absurd (cc (k))
  cuts_damage c p a b tier_view x stops epoch wanted line piece span ns view cache old new spot place at (Ok None) h stood gets k =
      let r = copy_of c p a b tier_view x stops epoch wanted line (Log piece span) (objects old) ns view cache piece h refl in
      let g = gives c p a b tier_view x stops epoch wanted line (Log piece span) (objects old) ns view cache piece part.Log spot (λ b. take span.most (drop span.from b)) None
      tt h refl stood (gets.bytes h.shows.store_tells) r in
      absurd (cc (g.given_is))
  cuts_damage c p a b tier_view x stops epoch wanted line piece span ns view cache old new spot place at (Ok (Some bytes)) h stood gets k =
      let r = copy_of c p a b tier_view x stops epoch wanted line (Log piece span) (objects old) ns view cache piece h refl in
      let s = at_spot c p a b tier_view x stops epoch wanted line (Log piece span) (objects old) ns view cache piece part.Log tt h refl r in
      let same : spot ≡ (r.entry.start, s.spot) =
      one_some (spot_in wanted.partition piece.id part.Log (entry_of piece.id view.entries)) spot (r.entry.start, s.spot) stood s.is in
      let key : spot.1.key ≡ key_of wanted.partition piece.id s.home = ap (λ (q : ℕ × Spot). q.1.key) same ∙ s.home_is in
      by (short_in spot.1 span.from span.most bytes) s.home s.own key k
    where
      by : (end : Option ℕ) (home : Part) → (home ≡ part.Log) ⊎ (home ≡ part.Pack) → spot.1.key ≡ key_of wanted.partition piece.id home → CutsBytes end wanted piece spot.1 span bytes (Ok (Ends (Damaged place at)))
          → IsOfLog wanted (Log piece span) place
      by (Some end) home own key k =
          let told : Damaged (Key spot.1.key) end ≡ Damaged place at = cc (k) in
          let is : Key spot.1.key ≡ place = cc (told) in
          record { piece = piece; span = span; next_is = refl; home = home; own = own; place_is = sym is ∙ ap Key key }
      by None home own key k = record { piece = piece; span = span; next_is = refl; home = home; own = own; place_is = k.place_is ∙ ap Key key }

  log_damage : (c : Scene) (p : Plain) (a b : ℕ) (tier_view : BrokerTierView) (x : Broker) (stops epoch : ℕ) (wanted : FetchRequest) (line : List (ℕ × ℕ)) (piece : Piece) (span : Span) (ns : meta.Content) (view : EntriesSeen)
      (cache : Cache) (old new : S) (spot : Option (ℕ × Spot)) (place : Place) (at : ℕ) → IsAtTurn c p a b tier_view x stops epoch wanted line (Log piece span) (objects old) ns view cache
      → spot_in wanted.partition piece.id part.Log (entry_of piece.id view.entries) ≡ spot → LogRow objects calls wanted piece span view spot (Ok (Ends (Damaged place at))) old new
      → IsOfLog wanted (Log piece span) place
  log_damage c p a b tier_view x stops epoch wanted line piece span ns view cache old new None place at h stood row =
      let r = copy_of c p a b tier_view x stops epoch wanted line (Log piece span) (objects old) ns view cache piece h refl in
      let k = at_spot c p a b tier_view x stops epoch wanted line (Log piece span) (objects old) ns view cache piece part.Log tt h refl r in
      let there = sym stood ∙ k.is in
      absurd (cc (there))
  log_damage c p a b tier_view x stops epoch wanted line piece span ns view cache old new (Some spot) place at h stood row =
      cuts_damage c p a b tier_view x stops epoch wanted line piece span ns view cache old new spot place at row.answer h stood row.gets row.cuts

  pub damage_is_of_logs : DamageIsOfLogs objects calls notes notings
  damage_is_of_logs wanted line Refresh place at old new c p a b tier_view x stops epoch row h =
      absurd (refresh_damage c p a b tier_view x stops epoch wanted line (objects old.store) old.cache old.view new.view old.meta new.meta place at h row.1)
  damage_is_of_logs wanted line (Index piece) place at old new c p a b tier_view x stops epoch row h =
      absurd (index_damage c p a b tier_view x stops epoch wanted line piece (notes old.meta) old.view old.cache new.cache old.store new.store (found piece.id.0 old.cache.pairs) place at h row.1)
  damage_is_of_logs wanted line (Log piece span) place at old new c p a b tier_view x stops epoch row h =
      log_damage c p a b tier_view x stops epoch wanted line piece span (notes old.meta) old.view old.cache old.store new.store
      (spot_in wanted.partition piece.id part.Log (entry_of piece.id old.view.entries)) place at h refl row.1
