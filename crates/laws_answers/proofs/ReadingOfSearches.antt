-- What a turn of a timestamp lookup finds exists, and its last one finds no damage in what it reads.
use Rattle.std.proofs.Common.{◌≡◌, inl, inr, sym, ap, subst, refl, ℕ, ◌<◌, Bool, true, false, List, Option, Some, None, Result, Ok, Err}
use Rattle.std.specs.Prelude.{nat_lt, if◌then◌else◌}
use Rattle.std.specs.declared.alloc.AllocError.{AllocError}
use Rattle.tier_base.specs.declared.fault.Trouble.{Trouble}
use Rattle.tier_base.specs.declared.fault.Trouble.TheVariants.{Failed, NoMemory}
use Rattle.tier_base.specs.declared.plain.Part.TheVariants as part
use Rattle.tier_base.specs.Device.{Control}
use Rattle.log_terms.specs.Log.{end_of, EndsAt}
use Rattle.log_terms.proofs.Lists.{prefix_self}
use Rattle.index_cache.specs.Cache.{Cache, found as in_cache}
use Rattle.segment_meta.specs.declared.note.Entry.{Entry}
use Rattle.segment_meta.specs.declared.note.Note.{Note}
use Rattle.object_store.specs.Call as store_call
use Rattle.object_store.specs.Content as store
use Rattle.object_store.specs.declared.placing.Spot.{Spot}
use Rattle.object_store.specs.Place.{short_of}
use Rattle.meta_log.specs.Call as meta_call
use Rattle.meta_log.specs.Content as meta
use Rattle.view_refresh.specs.Refreshing.{Refreshes}
use Rattle.plain_log.specs.declared.state.Path.{Path}
use Rattle.plain_log.specs.declared.state.State.{State as Plain}
use Rattle.plain_log.specs.declared.state.Broker.{Broker}
use Rattle.plain_log.specs.declared.state.Role.{Role}
use Rattle.plain_log.specs.declared.answer.Answer.TheVariants.{Damaged}
use Rattle.plain_log.specs.declared.answer.Place.{Place}
use Rattle.plain_log.specs.Safe.{RoleSafe}
use Rattle.plain_log.specs.State.{path_of}
use Rattle.remote_view.specs.Fold.{EntriesSeen, entry_of, fold}
use Rattle.remote_find.specs.declared.piece.Piece.{Piece}
use Rattle.remote_find.specs.Pieces.{piece_at}
use Rattle.tier_fetch.specs.declared.turn.Span.{Span}
use Rattle.tier_fetch.specs.declared.turn.FetchStep.{FetchStep}
use Rattle.plain_log.specs.declared.turn.Turn.{Turn}
use Rattle.plain_log.specs.declared.turn.Turn.TheVariants.{Goes, Ends}
use Rattle.tier_fetch.specs.declared.turn.FetchStep.TheVariants as fetching
use Rattle.tier_fetch.specs.declared.refusal.RemoteRefusal.{RemoteRefusal}
use Rattle.tier_fetch.specs.declared.reading.RemoteRun.{RemoteRun}
use Rattle.tier_fetch.specs.Turns.{Tiers, RemoteFetchRow, spot_in, goes_with, ends_with}
use Rattle.tier_safe.specs.Scene.{BrokerTierView, Free, Scene}
use Rattle.tier_safe.proofs.Rules.{seen_kept}
use Rattle.tier_safe.proofs.Turning.{sees_all}
use Rattle.laws_tier_fetch.specs.Seeking.{IsAtTurn}
use Rattle.laws_tier_fetch.proofs.Turning.{shown}
use Rattle.time_find.specs.declared.turn.Asked.{Asked}
use Rattle.time_find.specs.declared.turn.SearchStep.{SearchStep}
use Rattle.time_find.specs.declared.turn.SearchStep.TheVariants.{Seek, Times, Index, Log}
use Rattle.time_find.specs.Passing.{SeeksPiece, top_of}
use Rattle.time_find.specs.Turns.{IsBelowLocal, IsSet, IsSearched, TimesBytes, Times as Timed, Indexes, SearchTakes, SeekRow, TimesRow, SearchIndexRow, SearchLogRow, TimeRow, wanted_at}
use Rattle.time_find.proofs.Outcomes.{never_goes}
use Rattle.laws_time_find.specs.Searching.{IsAtSearch}
use Rattle.laws_time_find.proofs.Damaging.{search_damage, damaged_same}
use Rattle.laws_time_find.proofs.Turning.{as_turn}
use Rattle.laws_answers.specs.Found.{PieceEnds}
use Rattle.laws_answers.specs.FoundByTime.{IsFoundByTime}
use Rattle.laws_answers.proofs.EndsOfPieces.{piece_ends}
use Rattle.laws_answers.proofs.ReadingOfFetches.{index_found, not_damaged}
use Rattle.partition_world.proofs.GoingOn.{same_step}

-- where a run was searched, and the search continues, it has no piece
pub searched_on : (asked : Asked) (offset : ℕ) (run : List ℕ) (at : ℕ) (later : SearchStep) → IsSearched asked offset run (Goes (at, later))
    → later ≡ Seek
searched_on asked offset run at Seek w = refl
searched_on asked offset run at (Times piece) w = elim w [ ]
searched_on asked offset run at (Index piece from) w = elim w [ ]
searched_on asked offset run at (Log piece from span) w = elim w [ ]

-- two turns that continue and are one continue with the same
on_same : (at to : ℕ) (next later : SearchStep)
    → ◌≡◌ {A = Result (Turn (ℕ × SearchStep)) AllocError} (Ok (Goes (at, next))) (Ok (Goes (to, later))) → next ≡ later
on_same at to next later is =
    let turn : ◌≡◌ {A = Turn (ℕ × SearchStep)} (Goes (at, next)) (Goes (to, later)) = cc (is) in same_step at to next later turn

module _ (paths : List Path) (notes : List Note) (epoch : ℕ) where
  -- of what it continues with
  none_found : (later : SearchStep) (at to : ℕ) → ◌≡◌ {A = Result (Turn (ℕ × SearchStep)) AllocError} (Ok (Goes (at, later))) (Ok (Goes (to, Seek)))
      → IsFoundByTime paths notes epoch later
  none_found later at to is =
      subst (IsFoundByTime paths notes epoch) (sym (on_same at to later Seek is)) tt

  -- the piece stays, as its time index shows
  shown_found : (more : Bool) (piece : Piece) (from cursor top at : ℕ) (later : SearchStep)
      → ◌≡◌ {A = Turn (ℕ × SearchStep)} (Goes (at, later)) (if more then Goes (cursor, Index piece from) else Goes (top, Seek))
      → PieceEnds paths epoch piece → IsFoundByTime paths notes epoch later
  shown_found true piece from cursor top at later is ends =
      subst (IsFoundByTime paths notes epoch) (sym (same_step at cursor later (Index piece from) is)) ends
  shown_found false piece from cursor top at later is ends =
      subst (IsFoundByTime paths notes epoch) (sym (same_step at top later Seek is)) tt

  timed_found : (asked : Asked) (cursor : ℕ) (piece : Piece) (base : ℕ) (spot : Spot) (answer : Result (Option (List ℕ)) Trouble) (at : ℕ)
      (later : SearchStep)
      → Timed asked cursor piece base spot answer (Ok (Goes (at, later))) → PieceEnds paths epoch piece → IsFoundByTime paths notes epoch later
  timed_found asked cursor piece base spot (Err Failed) at later w ends = absurd (cc (w))
  timed_found asked cursor piece base spot (Err NoMemory) at later w ends = absurd (let no : false ≡ true = w in cc)
  timed_found asked cursor piece base spot (Ok None) at later w ends = absurd (cc (w))
  timed_found asked cursor piece base spot (Ok (Some bytes)) at later w ends = by (short_of spot bytes) w
    where
      by : (end : Option ℕ) → TimesBytes end asked cursor piece base spot bytes (Ok (Goes (at, later))) → IsFoundByTime paths notes epoch later
      by (Some end) w = absurd (cc (w))
      by None w = shown_found (nat_lt _ (top_of asked piece)) piece _ cursor (top_of asked piece) at later w.turn_is ends

  module _ {S : Type 0} (objects : S → store.Content) (calls : S → Control store_call.call_code) where
    times_found : (asked : Asked) (cursor : ℕ) (piece : Piece) (view : EntriesSeen) (place : Option (ℕ × Spot)) (at : ℕ) (later : SearchStep)
        (old new : S)
        → TimesRow objects calls asked cursor piece view place (Ok (Goes (at, later))) old new → PieceEnds paths epoch piece
        → IsFoundByTime paths notes epoch later
    times_found asked cursor piece view None at later old new w ends = let e = w.0 in absurd (cc (e))
    times_found asked cursor piece view (Some place) at later old new w ends = timed_found asked cursor piece place.0 place.1 w.answer at
        later w.times ends

module _ (c : Scene) (p : Plain) (a b : ℕ) (tier_view : BrokerTierView) (x : Broker) (stops epoch : ℕ) (asked : Asked) (line : List (ℕ × ℕ)) (cursor : ℕ)
  where
    -- a turn of the search, before which it has this next
    abbrev At : SearchStep → store.Content → meta.Content → EntriesSeen → Cache → Type 0
    At next s n view cache = IsAtSearch c p a b tier_view x stops epoch asked line cursor next s n view cache

    -- its broker's log is the path of its epoch
    led : (next : SearchStep) (s : store.Content) (n : meta.Content) (view : EntriesSeen) (cache : Cache) → At next s n view cache
        → path_of p.paths epoch ≡ Some x.log
    led next s n view cache h = (subst (λ (r : Role). RoleSafe p.paths p.registry.epoch r x.log) h.leads
        (h.safe.plain.brokers b x h.broker_is).role).1

    -- the high watermark is an end of it
    marked : (next : SearchStep) (s : store.Content) (n : meta.Content) (view : EntriesSeen) (cache : Cache) → At next s n view cache
        → EndsAt asked.mark x.log
    marked next s n view cache h = subst (λ (m : ℕ). EndsAt m x.log) (sym h.mark_is) h.mark_ends

    module _ {S M : Type 0} (objects : S → store.Content) (calls : S → Control store_call.call_code)
        (notes : M → meta.Content) (notings : M → Control meta_call.call_code) where
      -- what a refresh finds ends where a batch does
      piece_found : (s : store.Content) (cache : Cache) (view after : EntriesSeen) (old new : M) (at : ℕ) (piece : Piece)
          → At Seek s (notes old) view cache
          → SeekRow notes notings asked line cursor (Ok (Goes (at, Times piece))) view after old new → PieceEnds p.paths epoch piece
      piece_found s cache view after old new at piece h row =
          let r : Refreshes (notes old) tier_view.view after = subst (λ (v : EntriesSeen). Refreshes (notes old) v after) (sym h.shows.view_is)
          row.1.view in
          let all = sees_all objects calls notes notings c p a b tier_view Free s old after (shown c a b tier_view Free s (notes old) view h.shows)
          h.few (h.safe.tier.views b tier_view h.shows.tier_view_is) r in
          let kept = seen_kept c.notes c.notes c.desk h.safe.tier.notes (prefix_self c.notes) in
          let entries : after.entries ≡ fold c.notes = ap (λ (v : EntriesSeen). v.entries) all.0 in
          let found : SeeksPiece asked line after.entries cursor at piece = row.0 in
          let made : piece_at after.entries line (end_of x.log) at ≡ Some piece =
          subst (λ (e : ℕ). piece_at after.entries line e at ≡ Some piece) h.end_is found.found in
          let e = piece_ends p c.objects (fold c.notes) line x.log at piece h.safe.plain h.safe.tier.finished kept.0 kept.1 h.is_observable
          (h.safe.plain.brokers b x h.broker_is).log
          (subst (λ (es : List Entry). piece_at es line (end_of x.log) at ≡ Some piece) entries made) in
          record { front = e.0; begins = (x.log, led Seek s (notes old) view cache h, e.1); ends = e.2 }

      seek_found : (s : store.Content) (cache : Cache) (view after : EntriesSeen) (old new : M) (at : ℕ) (later : SearchStep)
          → At Seek s (notes old) view cache
          → SeekRow notes notings asked line cursor (Ok (Goes (at, later))) view after old new → IsFoundByTime p.paths c.notes epoch later
      seek_found s cache view after old new at Seek h row = tt
      seek_found s cache view after old new at (Times piece) h row = piece_found s cache view after old new at piece h row
      seek_found s cache view after old new at (Index piece from) h row = absurd row.0
      seek_found s cache view after old new at (Log piece from span) h row = absurd row.0

      -- so does what an offset index shows
      indexed : (from : ℕ) (piece : Piece) (read : Result Span RemoteRefusal) (at : ℕ) (later : SearchStep) (old new : Tiers S M)
          → IsAtTurn c p a b tier_view x stops epoch (wanted_at asked from) line (fetching.Index piece) (objects old.store) (notes old.meta)
          old.view old.cache
          → RemoteFetchRow objects calls notes notings (wanted_at asked from) line (fetching.Index piece) (goes_with piece read) old new
          → Indexes cursor piece from read (Ok (Goes (at, later))) → PieceEnds p.paths epoch piece
          → IsFoundByTime p.paths c.notes epoch later
      indexed from piece (Ok span) at later old new h row k ends =
          let f = index_found c p a b tier_view x stops epoch (wanted_at asked from) line objects calls notes notings (notes old.meta) old.view
          old.cache new.cache old.store new.store piece
          (in_cache piece.id.0 old.cache.pairs) (fetching.Log piece span) h refl row.1 ends in
          subst (IsFoundByTime p.paths c.notes epoch) (sym (on_same at _ later (Log piece from span) k)) f
      indexed from piece (Err why) at later old new h row k ends = absurd (never_goes why at later k)

      index_on : (from : ℕ) (piece : Piece) (at : ℕ) (later : SearchStep) (old new : Tiers S M)
          → IsAtTurn c p a b tier_view x stops epoch (wanted_at asked from) line (fetching.Index piece) (objects old.store) (notes old.meta)
          old.view old.cache
          → new ≡ record old { cache = new.cache; store = new.store }
          → SearchIndexRow objects calls asked cursor piece from old.view (Ok (Goes (at, later))) old.cache new.cache old.store new.store
          → PieceEnds p.paths epoch piece → IsFoundByTime p.paths c.notes epoch later
      index_on from piece at later old new h same (inl w) ends = none_found p.paths c.notes epoch later at (top_of asked piece) w.1
      index_on from piece at later old new h same (inr w) ends = indexed from piece w.1.0 at later old new h (same, w.1.1) w.1.2 ends

      -- after the log there is no piece
      searched_found : (from : ℕ) (read : Result RemoteRun RemoteRefusal) (at : ℕ) (later : SearchStep)
          → SearchTakes asked from read (Ok (Goes (at, later))) → IsFoundByTime p.paths c.notes epoch later
      searched_found from (Ok run) at later k =
          subst (IsFoundByTime p.paths c.notes epoch) (sym (searched_on asked from run.bytes at later k)) tt
      searched_found from (Err why) at later k = absurd (never_goes why at later k)

      log_on : (from : ℕ) (piece : Piece) (span : Span) (view : EntriesSeen) (at : ℕ) (later : SearchStep) (old new : S)
          → SearchLogRow objects calls asked piece from span view (Ok (Goes (at, later))) old new → IsFoundByTime p.paths c.notes epoch later
      log_on from piece span view at later old new (inl w) = none_found p.paths c.notes epoch later at (top_of asked piece) w.1
      log_on from piece span view at later old new (inr w) = searched_found from w.1.0 at later w.1.2

      -- a turn finds what is there
      pub time_found : (next : SearchStep) (at : ℕ) (later : SearchStep) (old new : Tiers S M)
          → At next (objects old.store) (notes old.meta) old.view old.cache → IsSet cursor next
          → TimeRow objects calls notes notings asked line cursor next (Ok (Goes (at, later))) old new
          → IsFoundByTime p.paths c.notes epoch next → IsFoundByTime p.paths c.notes epoch later
      time_found Seek at later old new h set row f = seek_found (objects old.store) old.cache old.view new.view old.meta new.meta at later h
          row.1
      time_found (Times piece) at later old new h set row f =
          times_found p.paths c.notes epoch objects calls asked cursor piece old.view
          (spot_in asked.partition piece.id part.TimeIndex (entry_of piece.id old.view.entries)) at later old.store new.store row.1 f
      time_found (Index piece from) at later old new h set row f =
          index_on from piece at later old new
          (as_turn c p a b tier_view x stops epoch asked line cursor (Index piece from) (objects old.store) (notes old.meta) old.view old.cache
          from (fetching.Index piece) h refl set.0) row.0 row.1 f
      time_found (Log piece from span) at later old new h set row f = log_on from piece span old.view at later old.store new.store row.1

      -- and meets no damage
      searched_whole : (from : ℕ) (piece : Piece) (span : Span) (read : Result RemoteRun RemoteRefusal) (place : Place) (at : ℕ)
          (old new : Tiers S M)
          → IsAtTurn c p a b tier_view x stops epoch (wanted_at asked from) line (fetching.Log piece span) (objects old.store) (notes old.meta)
          old.view old.cache
          → RemoteFetchRow objects calls notes notings (wanted_at asked from) line (fetching.Log piece span) (ends_with piece read) old new
          → SearchTakes asked from read (Ok (Ends (Damaged place at)))
          → IsFoundByTime p.paths c.notes epoch (Log piece from span) → from < asked.mark → EndsAt asked.mark x.log → ⊥
      searched_whole from piece span (Ok run) place at old new h row k f below ends = k
      searched_whole from piece span (Err why) place at old new h row k f below ends =
          let told : RemoteFetchRow objects calls notes notings (wanted_at asked from) line (fetching.Log piece span)
          (Ok (Ends (Damaged place at))) old new =
          subst (λ (r : Result (Turn FetchStep) AllocError). RemoteFetchRow objects calls notes notings (wanted_at asked from) line
          (fetching.Log piece span) r old new) (damaged_same why place at k) row in
          not_damaged c p a b tier_view x stops epoch (wanted_at asked from) line objects calls notes notings (fetching.Log piece span) place at
          old new h told f below ends

      log_whole : (from : ℕ) (piece : Piece) (span : Span) (place : Place) (at : ℕ) (old new : Tiers S M)
          → IsAtTurn c p a b tier_view x stops epoch (wanted_at asked from) line (fetching.Log piece span) (objects old.store) (notes old.meta)
          old.view old.cache
          → new ≡ record old { store = new.store }
          → SearchLogRow objects calls asked piece from span old.view (Ok (Ends (Damaged place at))) old.store new.store
          → IsFoundByTime p.paths c.notes epoch (Log piece from span)
          → EndsAt asked.mark x.log → ⊥
      log_whole from piece span place at old new h same (inl w) f ends = let is = w.1 in cc (is)
      log_whole from piece span place at old new h same (inr w) f ends = searched_whole from piece span w.1.0 place at old new h
          (same, w.1.1) w.1.2 f w.0 ends

      pub time_undamaged : (next : SearchStep) (place : Place) (at : ℕ) (old new : Tiers S M)
          → At next (objects old.store) (notes old.meta) old.view old.cache → IsBelowLocal asked cursor next → IsSet cursor next
          → TimeRow objects calls notes notings asked line cursor next (Ok (Ends (Damaged place at))) old new
          → IsFoundByTime p.paths c.notes epoch next → ⊥
      time_undamaged Seek place at old new h below set row f =
          let k = search_damage objects calls notes notings asked line cursor at Seek place old new c p a b tier_view x stops epoch row below set
          h in let e = k.next_is in cc (e)
      time_undamaged (Times piece) place at old new h below set row f =
          let k = search_damage objects calls notes notings asked line cursor at (Times piece) place old new c p a b tier_view x stops epoch row
          below set h in let e = k.next_is in cc (e)
      time_undamaged (Index piece from) place at old new h below set row f =
          let k = search_damage objects calls notes notings asked line cursor at (Index piece from) place old new c p a b tier_view x stops epoch
          row below set h in let e = k.next_is in cc (e)
      time_undamaged (Log piece from span) place at old new h below set row f =
          log_whole from piece span place at old new
          (as_turn c p a b tier_view x stops epoch asked line cursor (Log piece from span) (objects old.store) (notes old.meta) old.view old.cache
          from (fetching.Log piece span) h refl set.0) row.0 row.1 f
          (marked (Log piece from span) (objects old.store) (notes old.meta) old.view old.cache h)
