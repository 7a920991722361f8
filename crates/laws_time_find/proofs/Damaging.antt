-- A search among the remote segments reports damage where it reads a segment's log alone.
use Rattle.std.proofs.Common.{◌≡◌, inl, inr, ◌∙◌, sym, ap, subst, refl, ℕ, ◌<◌, ◌≤◌, List, Option, Some, None, Ok, Err, arith}
use Rattle.std.specs.declared.result.Result.{Result}
use Rattle.std.specs.declared.alloc.AllocError.{AllocError}
use Rattle.tier_base.specs.declared.fault.Trouble.{Trouble}
use Rattle.tier_base.specs.declared.fault.Trouble.TheVariants.{Failed, NoMemory}
use Rattle.tier_base.specs.declared.plain.Part.TheVariants as part
use Rattle.tier_base.specs.Device.{Control}
use Rattle.log_terms.proofs.Lists.{prefix_self}
use Rattle.sparse_index.specs.Bytes.{bytes_of}
use Rattle.sparse_index.specs.Times.{moment_bytes}
use Rattle.index_cache.specs.Cache.{Cache}
use Rattle.segment_bundle.specs.Parts.{parts_of, part_in, first_offset}
use Rattle.segment_file.specs.Index.{placed_from, time_index_of}
use Rattle.segment_meta.specs.declared.note.Entry.{Entry}
use Rattle.object_store.specs.Call as store_call
use Rattle.object_store.specs.Content as store
use Rattle.object_store.specs.Calls.{Gets}
use Rattle.object_store.specs.Place.{key_of, all_of, short_of}
use Rattle.object_store.proofs.Parts.{not_short}
use Rattle.object_store.specs.declared.placing.Spot.{Spot}
use Rattle.meta_log.specs.Call as meta_call
use Rattle.meta_log.specs.Content as meta
use Rattle.view_refresh.specs.Refreshing.{Refreshes}
use Rattle.plain_log.specs.declared.state.State.{State as Plain}
use Rattle.plain_log.specs.declared.state.Broker.{Broker}
use Rattle.plain_log.specs.declared.answer.Answer.{Answer}
use Rattle.plain_log.specs.declared.answer.Answer.TheVariants.{Damaged}
use Rattle.plain_log.specs.declared.answer.Place.{Place}
use Rattle.plain_log.specs.declared.answer.Place.TheVariants.{Key, File, Meta}
use Rattle.remote_view.specs.Fold.{EntriesSeen, entry_of, view_of, AreEntriesValid, AreDistinct}
use Rattle.remote_find.specs.declared.piece.Piece.{Piece}
use Rattle.remote_find.specs.Pieces.{piece_at}
use Rattle.remote_find.proofs.Clipping.{piece_lies}
use Rattle.tier_fetch.specs.declared.turn.Span.{Span}
use Rattle.tier_fetch.specs.declared.turn.FetchStep.TheVariants as fetch
use Rattle.tier_fetch.specs.declared.turn.FetchStep.{FetchStep}
use Rattle.plain_log.specs.declared.turn.Turn.{Turn}
use Rattle.plain_log.specs.declared.turn.Turn.TheVariants.{Ends}
use Rattle.tier_fetch.specs.declared.refusal.RemoteRefusal.{RemoteRefusal}
use Rattle.tier_fetch.specs.declared.refusal.RemoteRefusal.TheVariants as refusal
use Rattle.tier_fetch.specs.declared.reading.RemoteRun.{RemoteRun}
use Rattle.tier_fetch.specs.Turns.{spot_in, Tiers, RemoteFetchRow, refused, goes_with, ends_with}
use Rattle.tier_safe.specs.Scene.{BrokerTierView, Free, Scene}
use Rattle.tier_safe.specs.May.{IsChanged}
use Rattle.tier_safe.specs.Turns.{after_turn}
use Rattle.tier_safe.proofs.Basics.{one_some}
use Rattle.tier_safe.proofs.Lookups.{lacking_is_found}
use Rattle.tier_safe.proofs.Rules.{seen_kept}
use Rattle.tier_safe.proofs.Turning.{set_get, sees_all}
use Rattle.laws_tier_fetch.specs.Seeking.{IsAtTurn}
use Rattle.laws_tier_fetch.specs.Damage.{IsOfLog as IsOfFetched}
use Rattle.laws_tier_fetch.proofs.Damaging.{kept_safe, damage_is_of_logs}
use Rattle.laws_tier_fetch.proofs.Reading.{copy_of, at_spot, gives, first_is}
use Rattle.laws_tier_fetch.proofs.Turning.{shown}
use Rattle.time_find.specs.declared.turn.Asked.{Asked}
use Rattle.time_find.specs.declared.turn.SearchStep.{SearchStep}
use Rattle.time_find.specs.declared.turn.SearchStep.TheVariants.{Seek, Times, Index, Log}
use Rattle.time_find.specs.Passing.{Passes, Stays, Over, SeeksNothing, Seeks}
use Rattle.time_find.specs.Turns.{TimesBytes, Times as Timed, wanted_at, Indexes, SearchTakes, SeekRow, TimesRow, SearchIndexRow, SearchLogRow}
use Rattle.laws_time_find.specs.Searching.{IsAtSearch}
use Rattle.laws_time_find.specs.Answers.{IsOfLog, SearchDamageIsOfLogs}
use Rattle.laws_time_find.proofs.Timing.{times_rise}
use Rattle.laws_time_find.proofs.Turning.{as_turn}

-- a pass over pieces that hold their offsets doesn't fall
passes_up : (asked : Asked) (line : List (ℕ × ℕ)) (entries : List Entry) (cursor at : ℕ)
    → ((o : ℕ) (piece : Piece) → piece_at entries line asked.log_end o ≡ Some piece → o < piece.to) → Passes asked line entries cursor at → cursor ≤ at
passes_up asked line entries cursor at holds (Stays same) = omega arith
passes_up asked line entries cursor at holds (Over start before piece passes below found early) =
    let up = passes_up asked line entries start before holds passes in
    let on = holds before piece found in
    omega (arith, up, on)

-- the view of all metadata events has a piece wherever a pass ends below the top
none_lacks : (c : Scene) (p : Plain) (a b : ℕ) (tier_view : BrokerTierView) (x : Broker) (stops epoch : ℕ) (asked : Asked) (line : List (ℕ × ℕ)) (cursor : ℕ) (s : store.Content) (n : meta.Content) (view : EntriesSeen)
    (cache : Cache) (after : EntriesSeen) → IsAtSearch c p a b tier_view x stops epoch asked line cursor Seek s n view cache → after ≡ view_of c.notes
    → IsChanged c p (after_turn c a b tier_view Free c.objects c.notes after) → SeeksNothing asked line after.entries cursor → ⊥
none_lacks c p a b tier_view x stops epoch asked line cursor s n view cache after h all change k =
    let d = after_turn c a b tier_view Free c.objects c.notes after in
    let safe = kept_safe c d p change h.safe in
    let new : BrokerTierView = record tier_view { view = after } in
    let kept = seen_kept c.notes c.notes c.desk h.safe.tier.notes (prefix_self c.notes) in
    let up = passes_up asked line after.entries cursor k.at
    (λ o piece made. (piece_lies after.entries line asked.log_end o piece (subst (λ (v : EntriesSeen). AreEntriesValid v.entries) (sym all) kept.0) (subst (λ (v : EntriesSeen). AreDistinct v.entries) (sym all) kept.1)
    h.is_observable.rises made).2.holds.1) k.passes in
    let past = h.past in
    let below = k.below in
    let local = h.local_is in
    let found = lacking_is_found d p b new x line k.at safe.tier (set_get c.tier_views b tier_view new h.shows.tier_view_is) h.broker_is (omega (arith, past, up)) (omega (arith, below, local)) all h.is_observable in
    let there : piece_at after.entries line asked.log_end k.at ≡ Some found.0 = subst (λ (e : ℕ). piece_at after.entries line e k.at ≡ Some found.0) (sym h.end_is) found.1 in
    let none = k.none in
    cc (there, none)

abbrev ended : Answer → Result (Turn FetchStep) AllocError
ended answer = Ok (Ends answer)

-- a fetch that couldn't read either reports the same damage
pub damaged_same : (why : RemoteRefusal) (place : Place) (at : ℕ) → ◌≡◌ {A = Result (Turn (ℕ × SearchStep)) AllocError} (Ok (Ends (Damaged place at))) (refused why)
    → ◌≡◌ {A = Result (Turn FetchStep) AllocError} (refused why) (Ok (Ends (Damaged place at)))
damaged_same (refusal.Damaged home n) place at is =
    let same : Damaged home n ≡ Damaged place at = cc (is) in
    ap ended same
damaged_same refusal.StoreFault place at is = absurd (cc (is))
damaged_same refusal.NoMemory place at is = absurd (cc (is))

module _ {S M : Type 0} (objects : S → store.Content) (calls : S → Control store_call.call_code)
    (notes : M → meta.Content) (notings : M → Control meta_call.call_code) where
  -- no refresh shows damage
  seek_damage : (c : Scene) (p : Plain) (a b : ℕ) (tier_view : BrokerTierView) (x : Broker) (stops epoch : ℕ) (asked : Asked) (line : List (ℕ × ℕ)) (cursor : ℕ) (s : store.Content) (cache : Cache)
      (view after : EntriesSeen) (old new : M) (place : Place) (at : ℕ) → IsAtSearch c p a b tier_view x stops epoch asked line cursor Seek s (notes old) view cache
      → SeekRow notes notings asked line cursor (Ok (Ends (Damaged place at))) view after old new → ⊥
  seek_damage c p a b tier_view x stops epoch asked line cursor s cache view after old new place at h row =
      let r : Refreshes (notes old) tier_view.view after = subst (λ (v : EntriesSeen). Refreshes (notes old) v after) (sym h.shows.view_is) row.1.view in
      let all = sees_all objects calls notes notings c p a b tier_view Free s old after (shown c a b tier_view Free s (notes old) view h.shows) h.few (h.safe.tier.views b tier_view h.shows.tier_view_is) r in
      by place row.0 (none_lacks c p a b tier_view x stops epoch asked line cursor s (notes old) view cache after h all.0 all.1)
    where
      by : (q : Place) → Seeks asked line after cursor (Ends (Damaged q at)) → (SeeksNothing asked line after.entries cursor → ⊥) → ⊥
      by (Key key) k none = k
      by (File name) k none = k
      by Meta k none = none k.0

  -- nor does a time index
  reads_damage : (c : Scene) (p : Plain) (a b : ℕ) (tier_view : BrokerTierView) (x : Broker) (stops epoch : ℕ) (asked : Asked) (line : List (ℕ × ℕ)) (cursor : ℕ) (piece : Piece) (ns : meta.Content) (view : EntriesSeen)
      (cache : Cache) (old new : S) (spot : ℕ × Spot) (place : Place) (at : ℕ) (answer : Result (Option (List ℕ)) Trouble)
      → IsAtTurn c p a b tier_view x stops epoch (wanted_at asked cursor) line (fetch.Index piece) (objects old) ns view cache
      → spot_in asked.partition piece.id part.TimeIndex (entry_of piece.id view.entries) ≡ Some spot → Gets objects calls spot.1.key (all_of spot.1) answer old new
      → Timed asked cursor piece spot.0 spot.1 answer (Ok (Ends (Damaged place at))) → ⊥
  reads_damage c p a b tier_view x stops epoch asked line cursor piece ns view cache old new spot place at (Err Failed) h stood got k = cc (k)
  reads_damage c p a b tier_view x stops epoch asked line cursor piece ns view cache old new spot place at (Err NoMemory) h stood got k = cc (k)
  reads_damage c p a b tier_view x stops epoch asked line cursor piece ns view cache old new spot place at (Ok None) h stood got k =
      let r = copy_of c p a b tier_view x stops epoch (wanted_at asked cursor) line (fetch.Index piece) (objects old) ns view cache piece h refl in
      let g = gives c p a b tier_view x stops epoch (wanted_at asked cursor) line (fetch.Index piece) (objects old) ns view cache piece part.TimeIndex spot (λ b. b) None
      tt h refl stood (got.bytes h.shows.store_tells) r in
      cc (g.given_is)
  reads_damage c p a b tier_view x stops epoch asked line cursor piece ns view cache old new spot place at (Ok (Some bytes)) h stood got k =
      let r = copy_of c p a b tier_view x stops epoch (wanted_at asked cursor) line (fetch.Index piece) (objects old) ns view cache piece h refl in
      let g = gives c p a b tier_view x stops epoch (wanted_at asked cursor) line (fetch.Index piece) (objects old) ns view cache piece part.TimeIndex spot (λ b. b) (Some bytes)
      tt h refl stood (got.bytes h.shows.store_tells) r in
      let d = r.stored_whole.describes in
      let times = part_in (parts_of r.stored_whole.batches r.stored_whole.line r.stored_whole.interval) part.TimeIndex in
      let first : first_offset r.stored_whole.batches ≡ r.entry.start = first_is r.entry.start r.stored_whole.batches d.some d.is.consecutive in
      let same : bytes ≡ times = one_some (Some bytes) bytes times refl g.given_is in
      let all : short_of spot.1 bytes ≡ None = ap (short_of spot.1) same ∙ not_short spot.1.at spot.1.len times g.whole in
      let none = subst (λ (end : Option ℕ). TimesBytes end asked cursor piece spot.0 spot.1 bytes (Ok (Ends (Damaged place at)))) all k in
      none.1 (time_index_of r.entry.start r.stored_whole.interval (placed_from 0 r.stored_whole.batches)).entries (times_rise r.entry.start r.stored_whole.interval r.stored_whole.batches d.is)
      (same ∙ ap (λ (m : ℕ). bytes_of moment_bytes (time_index_of m r.stored_whole.interval (placed_from 0 r.stored_whole.batches)).entries) first)

  times_damage : (c : Scene) (p : Plain) (a b : ℕ) (tier_view : BrokerTierView) (x : Broker) (stops epoch : ℕ) (asked : Asked) (line : List (ℕ × ℕ)) (cursor : ℕ) (piece : Piece) (ns : meta.Content) (view : EntriesSeen)
      (cache : Cache) (old new : S) (spot : Option (ℕ × Spot)) (place : Place) (at : ℕ)
      → IsAtTurn c p a b tier_view x stops epoch (wanted_at asked cursor) line (fetch.Index piece) (objects old) ns view cache
      → spot_in asked.partition piece.id part.TimeIndex (entry_of piece.id view.entries) ≡ spot → TimesRow objects calls asked cursor piece view spot (Ok (Ends (Damaged place at))) old new → ⊥
  times_damage c p a b tier_view x stops epoch asked line cursor piece ns view cache old new None place at h stood row =
      let r = copy_of c p a b tier_view x stops epoch (wanted_at asked cursor) line (fetch.Index piece) (objects old) ns view cache piece h refl in
      let k = at_spot c p a b tier_view x stops epoch (wanted_at asked cursor) line (fetch.Index piece) (objects old) ns view cache piece part.TimeIndex tt h refl r in
      let there = sym stood ∙ k.is in
      cc (there)
  times_damage c p a b tier_view x stops epoch asked line cursor piece ns view cache old new (Some spot) place at h stood row =
      reads_damage c p a b tier_view x stops epoch asked line cursor piece ns view cache old new spot place at row.answer h stood row.gets row.times

  -- what a fetch there says of

  indexes_damage : (asked : Asked) (line : List (ℕ × ℕ)) (cursor from : ℕ) (piece : Piece) (place : Place) (at : ℕ) (read : Result Span RemoteRefusal) (old new : Tiers S M)
      (c : Scene) (p : Plain) (a b : ℕ) (tier_view : BrokerTierView) (x : Broker) (stops epoch : ℕ)
      → RemoteFetchRow objects calls notes notings (wanted_at asked from) line (fetch.Index piece) (goes_with piece read) old new
      → Indexes cursor piece from read (Ok (Ends (Damaged place at)))
      → IsAtTurn c p a b tier_view x stops epoch (wanted_at asked from) line (fetch.Index piece) (objects old.store) (notes old.meta) old.view old.cache → ⊥
  indexes_damage asked line cursor from piece place at (Ok span) old new c p a b tier_view x stops epoch row k h = cc (k)
  indexes_damage asked line cursor from piece place at (Err why) old new c p a b tier_view x stops epoch row k h =
      let told : RemoteFetchRow objects calls notes notings (wanted_at asked from) line (fetch.Index piece) (Ok (Ends (Damaged place at))) old new =
      subst (λ (r : Result (Turn FetchStep) AllocError). RemoteFetchRow objects calls notes notings (wanted_at asked from) line (fetch.Index piece) r old new) (damaged_same why place at k) row in
      let is = (damage_is_of_logs objects calls notes notings (wanted_at asked from) line (fetch.Index piece) place at old new c p a b tier_view x stops epoch told h).next_is in
      cc (is)

  searches_damage : (asked : Asked) (line : List (ℕ × ℕ)) (from : ℕ) (piece : Piece) (span : Span) (place : Place) (at : ℕ) (read : Result RemoteRun RemoteRefusal) (old new : Tiers S M)
      (c : Scene) (p : Plain) (a b : ℕ) (tier_view : BrokerTierView) (x : Broker) (stops epoch : ℕ)
      → RemoteFetchRow objects calls notes notings (wanted_at asked from) line (fetch.Log piece span) (ends_with piece read) old new
      → SearchTakes asked from read (Ok (Ends (Damaged place at)))
      → IsAtTurn c p a b tier_view x stops epoch (wanted_at asked from) line (fetch.Log piece span) (objects old.store) (notes old.meta) old.view old.cache
      → IsOfFetched (wanted_at asked from) (fetch.Log piece span) place
  searches_damage asked line from piece span place at (Ok run) old new c p a b tier_view x stops epoch row k h = absurd k
  searches_damage asked line from piece span place at (Err why) old new c p a b tier_view x stops epoch row k h =
      let told : RemoteFetchRow objects calls notes notings (wanted_at asked from) line (fetch.Log piece span) (Ok (Ends (Damaged place at))) old new =
      subst (λ (r : Result (Turn FetchStep) AllocError). RemoteFetchRow objects calls notes notings (wanted_at asked from) line (fetch.Log piece span) r old new) (damaged_same why place at k) row in
      damage_is_of_logs objects calls notes notings (wanted_at asked from) line (fetch.Log piece span) place at old new c p a b tier_view x stops epoch told h

  index_damage : (asked : Asked) (line : List (ℕ × ℕ)) (cursor from : ℕ) (piece : Piece) (place : Place) (at : ℕ) (old new : Tiers S M) (c : Scene) (p : Plain) (a b : ℕ) (tier_view : BrokerTierView)
      (x : Broker) (stops epoch : ℕ) → new ≡ record old { cache = new.cache; store = new.store }
      → SearchIndexRow objects calls asked cursor piece from old.view (Ok (Ends (Damaged place at))) old.cache new.cache old.store new.store
      → IsAtTurn c p a b tier_view x stops epoch (wanted_at asked from) line (fetch.Index piece) (objects old.store) (notes old.meta) old.view old.cache → ⊥
  index_damage asked line cursor from piece place at old new c p a b tier_view x stops epoch same (inl row) h = (let is = row.1 in cc (is))
  index_damage asked line cursor from piece place at old new c p a b tier_view x stops epoch same (inr row) h =
      indexes_damage asked line cursor from piece place at row.1.0 old new c p a b tier_view x stops epoch (same, row.1.1) row.1.2 h

  log_damage : (asked : Asked) (line : List (ℕ × ℕ)) (from : ℕ) (piece : Piece) (span : Span) (place : Place) (at : ℕ) (old new : Tiers S M) (c : Scene) (p : Plain) (a b : ℕ) (tier_view : BrokerTierView)
      (x : Broker) (stops epoch : ℕ) → new ≡ record old { store = new.store }
      → SearchLogRow objects calls asked piece from span old.view (Ok (Ends (Damaged place at))) old.store new.store
      → IsAtTurn c p a b tier_view x stops epoch (wanted_at asked from) line (fetch.Log piece span) (objects old.store) (notes old.meta) old.view old.cache
      → IsOfLog asked (Log piece from span) place
  log_damage asked line from piece span place at old new c p a b tier_view x stops epoch same (inl row) h = absurd (let is = row.1 in cc (is))
  log_damage asked line from piece span place at old new c p a b tier_view x stops epoch same (inr row) h =
      let k = searches_damage asked line from piece span place at row.1.0 old new c p a b tier_view x stops epoch (same, row.1.1) row.1.2 h in
      let is = k.next_is in
      let same : k.piece ≡ piece = cc (is) in
      record { piece = piece; from = from; span = span; next_is = refl; home = k.home; own = k.own; place_is = k.place_is ∙ ap (λ (q : Piece). Key (key_of asked.partition q.id k.home)) same }

  pub search_damage : SearchDamageIsOfLogs objects calls notes notings
  search_damage asked line cursor at Seek place old new c p a b tier_view x stops epoch row below set h =
      absurd (seek_damage c p a b tier_view x stops epoch asked line cursor (objects old.store) old.cache old.view new.view old.meta new.meta place at h row.1)
  search_damage asked line cursor at (Times piece) place old new c p a b tier_view x stops epoch row below set h =
      let t = as_turn c p a b tier_view x stops epoch asked line cursor (Times piece) (objects old.store) (notes old.meta) old.view old.cache cursor (fetch.Index piece) h refl (omega arith) in
      absurd (times_damage c p a b tier_view x stops epoch asked line cursor piece (notes old.meta) old.view old.cache old.store new.store _ place at t refl row.1)
  search_damage asked line cursor at (Index piece from) place old new c p a b tier_view x stops epoch row below set h =
      let t = as_turn c p a b tier_view x stops epoch asked line cursor (Index piece from) (objects old.store) (notes old.meta) old.view old.cache from (fetch.Index piece) h refl set.0 in
      absurd (index_damage asked line cursor from piece place at old new c p a b tier_view x stops epoch row.0 row.1 t)
  search_damage asked line cursor at (Log piece from span) place old new c p a b tier_view x stops epoch row below set h =
      let t = as_turn c p a b tier_view x stops epoch asked line cursor (Log piece from span) (objects old.store) (notes old.meta) old.view old.cache from (fetch.Log piece span) h refl set.0 in
      log_damage asked line from piece span place at old new c p a b tier_view x stops epoch row.0 row.1 t
