-- Where a search continues, all before its cursor is too early, and the offset that it answers is the log's.
use Rattle.std.proofs.Common.{◌≡◌, inl, inr, ◌∙◌, sym, ap, subst, refl, ℕ, ◌+◌, ◌<◌, ◌≤◌, min, max, Bool, true, false, cond, nat_lt, List, length, Some, None, Option, Ok, Err, arith}
use Rattle.std.specs.Prelude.{ℤ}
use Rattle.std.specs.declared.result.Result.{Result}
use Rattle.std.specs.declared.alloc.AllocError.{AllocError}
use Rattle.std.proofs.lemmas.Bool.{ltb-true, ltb-false}
use Rattle.tier_base.specs.declared.fault.Trouble.{Trouble}
use Rattle.tier_base.specs.declared.fault.Trouble.TheVariants.{Failed, NoMemory}
use Rattle.tier_base.specs.declared.plain.Part.TheVariants as part
use Rattle.tier_base.specs.declared.plain.Stop.{Stop}
use Rattle.tier_base.specs.Device.{Control}
use Rattle.log_terms.specs.Batch.{last_of}
use Rattle.log_terms.specs.Log.{up_to, from_offset}
use Rattle.log_terms.proofs.Lists.{prefix_self}
use Rattle.sparse_index.specs.Bytes.{bytes_of}
use Rattle.sparse_index.specs.Times.{TimeTable, moment_bytes, below_time}
use Rattle.segment_bundle.specs.Parts.{first_offset, parts_of, part_in}
use Rattle.segment_file.specs.Index.{placed_from, time_index_of}
use Rattle.object_store.specs.Call as store_call
use Rattle.object_store.specs.Content as store
use Rattle.object_store.specs.Calls.{Gets}
use Rattle.object_store.specs.Place.{all_of, short_of}
use Rattle.object_store.specs.declared.placing.Spot.{Spot}
use Rattle.meta_log.specs.Call as meta_call
use Rattle.meta_log.specs.Content as meta
use Rattle.index_cache.specs.Cache.{Cache}
use Rattle.view_refresh.specs.Refreshing.{Refreshes, Refreshed}
use Rattle.plain_log.specs.declared.state.State.{State as Plain}
use Rattle.plain_log.specs.declared.state.Broker.{Broker}
use Rattle.plain_log.specs.declared.answer.Answer.TheVariants.{Offset}
use Rattle.plain_log.specs.declared.answer.Tier.{Tier}
use Rattle.plain_log.specs.declared.answer.Tier.TheVariants.{Remote}
use Rattle.plain_log.specs.RowsOfReads.{first_at, offset_at}
use Rattle.remote_view.specs.Fold.{EntriesSeen, entry_of, view_of}
use Rattle.remote_find.specs.declared.piece.Piece.{Piece}
use Rattle.tier_fetch.specs.declared.turn.Span.{Span}
use Rattle.plain_log.specs.declared.turn.Turn.{Turn}
use Rattle.plain_log.specs.declared.turn.Turn.TheVariants.{Goes, Ends}
use Rattle.tier_fetch.specs.declared.turn.FetchStep.{FetchStep as FetchNext}
use Rattle.tier_fetch.specs.declared.turn.FetchStep.TheVariants as fetching
use Rattle.tier_fetch.specs.declared.refusal.RemoteRefusal.{RemoteRefusal}
use Rattle.tier_fetch.specs.declared.reading.RemoteRun.{RemoteRun}
use Rattle.tier_fetch.specs.Turns.{Tiers, RemoteFetchRow, spot_in, ends_with}
use Rattle.tier_safe.specs.Scene.{BrokerTierView, Free, Seeks, Scene}
use Rattle.tier_safe.specs.Views.{IsViewOf}
use Rattle.tier_safe.specs.Reads.{IsRightView}
use Rattle.tier_safe.specs.Turns.{ShowsScene}
use Rattle.tier_safe.proofs.Basics.{one_some}
use Rattle.tier_safe.proofs.Rules.{seen_kept}
use Rattle.tier_safe.proofs.Serving.{FetchReads}
use Rattle.tier_safe.proofs.Turning.{sees_all}
use Rattle.laws_tier_fetch.specs.Seeking.{sought_of, IsAtTurn}
use Rattle.laws_tier_fetch.proofs.Reading.{copy_of, gives, first_is}
use Rattle.laws_tier_fetch.proofs.Running.{ServesChecked, runs_are_checked}
use Rattle.laws_tier_fetch.proofs.Turning.{shown as own_view}
use Rattle.time_find.specs.declared.turn.Asked.{Asked}
use Rattle.time_find.specs.declared.turn.SearchStep.{SearchStep}
use Rattle.time_find.specs.declared.turn.SearchStep.TheVariants.{Seek, Times as ReadsTimes, Index, Log}
use Rattle.time_find.specs.Passing.{top_of, Passes, Seeks as SeeksIn}
use Rattle.time_find.specs.Turns.{IsSet, IsSearched, from_of, shown, IsTimeIndexRead, TimesBytes, Times, wanted_at, Indexes, SearchTakes, TimesRow, SearchIndexRow, SearchLogRow}
use Rattle.time_find.proofs.Outcomes.{never_goes, never_found}
use Rattle.laws_time_find.specs.Passed.{HasPassed, IsDatedTo, read_from}
use Rattle.laws_time_find.specs.Searching.{IsAtSearch}
use Rattle.laws_time_find.specs.Answers.{SearchesGoOn, SearchesAreRight}
use Rattle.laws_time_find.proofs.Early.{of_piece, piece_within, passed_more, passed_less, over_all}
use Rattle.laws_time_find.proofs.Moments.{shown_early, times_read}
use Rattle.laws_time_find.proofs.Searched.{runs_are_searched}

-- a search that has taken up a piece is a fetch there
at_turn : (c : Scene) (p : Plain) (a b : ℕ) (tier_view : BrokerTierView) (x : Broker) (stops epoch : ℕ) (asked : Asked) (line : List (ℕ × ℕ)) (cursor : ℕ) (next : SearchStep) (s : store.Content) (n : meta.Content)
    (view : EntriesSeen) (cache : Cache) (from : ℕ) (turn : FetchNext) → IsAtSearch c p a b tier_view x stops epoch asked line cursor next s n view cache
    → ShowsScene c a b tier_view (Seeks (sought_of b stops epoch from turn)) s n view → cursor ≤ from → IsAtTurn c p a b tier_view x stops epoch (wanted_at asked from) line turn s n view cache
at_turn c p a b tier_view x stops epoch asked line cursor next s n view cache from turn h shows le =
    let past = h.past in record {
      safe = h.safe;
      few = h.few;
      shows = shows;
      cache_is = h.cache_is;
      partition = h.partition;
      broker_is = h.broker_is;
      leads = record { stops = h.stopped; role = h.leads };
      past = omega (arith, past, le);
      end_is = h.end_is;
      is_observable = h.is_observable;
    }

-- what a turn that continues has: all before the cursor, and before where it reads on, is too early
abbrev Dated : Plain → Broker → Asked → ℕ → ℕ → SearchStep → Type 0
Dated p x asked cursor at then = IsDatedTo asked.ts p.registry.start x.log at then × (cursor ≤ at) × (then ≡ Seek → cursor < at)

-- the top of a piece is past the cursor
over_top : (asked : Asked) (piece : Piece) (cursor : ℕ) → cursor < piece.to → cursor < asked.mark → cursor < top_of asked piece
over_top asked piece cursor low marked = go piece.to asked.mark low marked
  where
    go : (a b : ℕ) → cursor < a → cursor < b → cursor < min a b
    go a b h k = omega (arith, h, k)

top_below : (asked : Asked) (piece : Piece) → (top_of asked piece ≤ piece.to) × (top_of asked piece ≤ asked.mark)
top_below asked piece = (left piece.to asked.mark, right piece.to asked.mark)
  where
    left : (a b : ℕ) → min a b ≤ a
    left a b = omega arith

    right : (a b : ℕ) → min a b ≤ b
    right a b = omega arith

-- what is in front of the batch that the time index shows
front_of : (asked : Asked) (base interval : ℕ) (cursor end : ℕ) (found : Option (ℤ × ℕ)) → cursor ≤ end → end < from_of cursor found → (moment : ℤ × ℕ) × (found ≡ Some moment) × (end ≤ moment.1)
front_of asked base interval cursor end None low high = absurd (omega (arith, low, high))
front_of asked base interval cursor end (Some moment) low high = (moment, refl, go cursor moment.1 low high)
  where
    go : (c m : ℕ) → c ≤ end → end < max c (m + 1) → end ≤ m
    go c m h k = omega (arith, h, k)

cursor_below : (cursor : ℕ) (found : Option (ℤ × ℕ)) → cursor ≤ from_of cursor found
cursor_below cursor None = omega arith
cursor_below cursor (Some moment) = go cursor (moment.1 + 1)
  where
    go : (a b : ℕ) → a ≤ max a b
    go a b = omega arith

-- where a search has come to, and what its next turn does
abbrev going : Turn (ℕ × SearchStep) → ℕ × SearchStep
going (Goes next) = next
going (Ends answer) = (0, Seek)

-- the same of a turn that may have run out of memory
abbrev gone_on : Result (Turn (ℕ × SearchStep)) AllocError → ℕ × SearchStep
gone_on (Ok turn) = going turn
gone_on (Err e) = (0, Seek)

-- a piece whose time index was read
timed : (c : Scene) (p : Plain) (a b : ℕ) (tier_view : BrokerTierView) (x : Broker) (stops epoch : ℕ) (asked : Asked) (line : List (ℕ × ℕ)) (cursor at : ℕ) (piece : Piece) (then : SearchStep) (s : store.Content)
    (n : meta.Content) (view : EntriesSeen) (cache : Cache) (index : TimeTable) → IsAtSearch c p a b tier_view x stops epoch asked line cursor (ReadsTimes piece) s n view cache → cursor < piece.to
    → (r : FetchReads c p x piece) → piece.from ≤ cursor → index ≡ time_index_of r.entry.start r.stored_whole.interval (placed_from 0 r.stored_whole.batches)
    → Goes (at, then) ≡ shown asked cursor piece (from_of cursor (below_time index asked.ts)) → Dated p x asked cursor at then
timed c p a b tier_view x stops epoch asked line cursor at piece then s n view cache index h set r first is turn = by (nat_lt from top) refl turn
  where
    from : ℕ
    from = from_of cursor (below_time index asked.ts)

    top : ℕ
    top = top_of asked piece

    -- up to there all are too early
    front : (to : ℕ) → to ≤ from → to ≤ piece.to → HasPassed asked.ts p.registry.start x.log to
    front to low within =
        let inside = piece_within c p b x piece h.safe.plain h.broker_is r in
        passed_more asked.ts p.registry.start cursor to x.log (h.safe.plain.brokers b x h.broker_is).log.consecutive h.dated.cursor (omega (arith, within, inside)) (λ batch there behind before.
        (let k = front_of asked 0 0 cursor (last_of batch) (below_time index asked.ts) behind (omega (arith, before, low)) in
        let found : below_time (time_index_of r.entry.start r.stored_whole.interval (placed_from 0 r.stored_whole.batches)) asked.ts ≡ Some k.0 = ap (λ (t : TimeTable). below_time t asked.ts) (sym is) ∙ k.1 in
        shown_early asked.ts r.entry.start r.stored_whole.interval r.stored_whole.batches k.0 r.stored_whole.describes.is found batch
        (of_piece c p b x piece h.safe.plain h.broker_is r batch there (omega (arith, first, behind)) (omega (arith, before, within))) k.2))

    by : (t : Bool) → nat_lt from top ≡ t → ◌≡◌ {A = Turn (ℕ × SearchStep)} (Goes (at, then)) (cond t (Goes (cursor, Index piece from)) (Goes (top, Seek))) → Dated p x asked cursor at then
    by true low turn =
        let at_is : at ≡ cursor = ap (λ (t : Turn (ℕ × SearchStep)). (going t).0) turn in
        let then_is : then ≡ Index piece from = ap (λ (t : Turn (ℕ × SearchStep)). (going t).1) turn in
        let below = ltb-true from top low in
        let tops = top_below asked piece in
        let all = front from (omega arith) (omega (arith, below, tops.0)) in
        subst (λ (m : ℕ). Dated p x asked cursor m then) (sym at_is) (subst (λ (m : SearchStep). Dated p x asked cursor cursor m) (sym then_is)
        (record { cursor = h.dated.cursor; read = all }, omega arith, λ no. absurd (cc (no))))
    by false low turn =
        let at_is : at ≡ top = ap (λ (t : Turn (ℕ × SearchStep)). (going t).0) turn in
        let then_is : then ≡ Seek = ap (λ (t : Turn (ℕ × SearchStep)). (going t).1) turn in
        let below = ltb-false from top low in
        let tops = top_below asked piece in
        let all = front top below tops.0 in
        let known = h.below in
        let mark = h.mark_is in
        let over = over_top asked piece cursor set (omega (arith, known, mark)) in
        subst (λ (m : ℕ). Dated p x asked cursor m then) (sym at_is) (subst (λ (m : SearchStep). Dated p x asked cursor top m) (sym then_is)
        (record { cursor = all; read = all }, omega (arith, over), λ yes. over))

-- a piece of which nothing is below the known high watermark any more
topped : (c : Scene) (p : Plain) (a b : ℕ) (tier_view : BrokerTierView) (x : Broker) (stops epoch : ℕ) (asked : Asked) (line : List (ℕ × ℕ)) (cursor at : ℕ) (next then : SearchStep) (piece : Piece) (from : ℕ)
    (s : store.Content) (n : meta.Content) (view : EntriesSeen) (cache : Cache) → IsAtSearch c p a b tier_view x stops epoch asked line cursor next s n view cache → read_from cursor next ≡ from
    → cursor < piece.to → asked.mark ≤ from → ◌≡◌ {A = Turn (ℕ × SearchStep)} (Goes (at, then)) (Goes (top_of asked piece, Seek)) → Dated p x asked cursor at then
topped c p a b tier_view x stops epoch asked line cursor at next then piece from s n view cache h reads set marked is =
    let at_is : at ≡ top_of asked piece = ap (λ (t : Turn (ℕ × SearchStep)). (going t).0) is in
    let then_is : then ≡ Seek = ap (λ (t : Turn (ℕ × SearchStep)). (going t).1) is in
    let tops = top_below asked piece in
    let known = h.below in
    let mark = h.mark_is in
    let over = over_top asked piece cursor set (omega (arith, known, mark)) in
    let read : HasPassed asked.ts p.registry.start x.log from = subst (HasPassed asked.ts p.registry.start x.log) reads h.dated.read in
    let all = passed_less asked.ts p.registry.start from (top_of asked piece) x.log (h.safe.plain.brokers b x h.broker_is).log.consecutive read (omega (arith, tops.1, marked)) in
    subst (λ (m : ℕ). Dated p x asked cursor m then) (sym at_is) (subst (λ (m : SearchStep). Dated p x asked cursor (top_of asked piece) m) (sym then_is)
    (record { cursor = all; read = all }, omega (arith, over), λ yes. over))

-- a run that was read and searched
searched_on : (c : Scene) (p : Plain) (a b : ℕ) (tier_view : BrokerTierView) (x : Broker) (stops epoch : ℕ) (asked : Asked) (line : List (ℕ × ℕ)) (cursor from at size : ℕ) (next then : SearchStep) (turn : FetchNext)
    (stop : Stop) (bytes : List ℕ) (s : store.Content) (n : meta.Content) (view : EntriesSeen) (cache : Cache) (tier : Tier)
    → IsAtSearch c p a b tier_view x stops epoch asked line cursor next s n view cache → read_from cursor next ≡ from → cursor ≤ from
    → ServesChecked x.log (wanted_at asked from) turn tier size stop bytes → IsSearched asked from bytes (Goes (at, then)) → Dated p x asked cursor at then
searched_on c p a b tier_view x stops epoch asked line cursor from at size next Seek turn stop bytes s n view cache tier h reads low served searched =
    let run = served.0.run in
    let read : HasPassed asked.ts p.registry.start x.log from = subst (HasPassed asked.ts p.registry.start x.log) reads h.dated.read in
    let own : HasPassed asked.ts asked.start x.log from = subst (λ (m : ℕ). HasPassed asked.ts m x.log from) (sym h.start_is) read in
    let past = h.past in
    let start = h.start_is in
    let k = (runs_are_searched asked from at (wanted_at asked from).limit x.log run.run stop (h.safe.plain.brokers b x h.broker_is).log.consecutive own (omega (arith, past, start, low)) run.is served.1).1
    (subst (λ (l : List ℕ). IsSearched asked from l (Goes (at, Seek))) run.spelled searched) in
    let up = k.1 in
    let all : HasPassed asked.ts p.registry.start x.log at = subst (λ (m : ℕ). HasPassed asked.ts m x.log at) h.start_is k.0 in
    (record { cursor = all; read = all }, omega (arith, up, low), λ yes. omega (arith, up, low))
searched_on c p a b tier_view x stops epoch asked line cursor from at size next other turn stop bytes s n view cache tier h reads low served searched = absurd searched

-- its first batch that isn't too early
searched_at : (c : Scene) (p : Plain) (a b : ℕ) (tier_view : BrokerTierView) (x : Broker) (stops epoch : ℕ) (asked : Asked) (line : List (ℕ × ℕ)) (cursor from at size : ℕ) (next : SearchStep) (turn : FetchNext)
    (stop : Stop) (bytes : List ℕ) (s : store.Content) (n : meta.Content) (view : EntriesSeen) (cache : Cache) (tier : Tier)
    → IsAtSearch c p a b tier_view x stops epoch asked line cursor next s n view cache → read_from cursor next ≡ from → cursor ≤ from
    → ServesChecked x.log (wanted_at asked from) turn tier size stop bytes → IsSearched asked from bytes (Ends (Offset at)) → offset_at p x asked.ts ≡ Some at
searched_at c p a b tier_view x stops epoch asked line cursor from at size next turn stop bytes s n view cache tier h reads low served searched =
    let run = served.0.run in
    let read : HasPassed asked.ts p.registry.start x.log from = subst (HasPassed asked.ts p.registry.start x.log) reads h.dated.read in
    let own : HasPassed asked.ts asked.start x.log from = subst (λ (m : ℕ). HasPassed asked.ts m x.log from) (sym h.start_is) read in
    let past = h.past in
    let start = h.start_is in
    let k = (runs_are_searched asked from at (wanted_at asked from).limit x.log run.run stop (h.safe.plain.brokers b x h.broker_is).log.consecutive own (omega (arith, past, start, low)) run.is served.1).0
    (subst (λ (l : List ℕ). IsSearched asked from l (Ends (Offset at))) run.spelled searched) in
    ap (λ (m : ℕ). first_at asked.ts p.registry.start (from_offset p.registry.start (up_to m x.log))) (sym h.mark_is)
    ∙ ap (λ (m : ℕ). first_at asked.ts m (from_offset m (up_to asked.mark x.log))) (sym h.start_is)
    ∙ k

module _ {S M : Type 0} (objects : S → store.Content) (calls : S → Control store_call.call_code)
    (notes : M → meta.Content) (notings : M → Control meta_call.call_code) where
  -- remote segments

  seek_on : (c : Scene) (p : Plain) (a b : ℕ) (tier_view : BrokerTierView) (x : Broker) (stops epoch : ℕ) (asked : Asked) (line : List (ℕ × ℕ)) (cursor at : ℕ) (then : SearchStep) (s : store.Content) (cache : Cache)
      (before after : EntriesSeen) (old new : M) → IsAtSearch c p a b tier_view x stops epoch asked line cursor Seek s (notes old) before cache → cursor < asked.local
      → SeeksIn asked line after cursor (Goes (at, then)) → Refreshed notes notings before after old new → Dated p x asked cursor at then
  seek_on c p a b tier_view x stops epoch asked line cursor at then s cache before after old new h local seeks fresh = by then seeks
    where
      all : after ≡ view_of c.notes
      all =
          let r : Refreshes (notes old) tier_view.view after = subst (λ (v : EntriesSeen). Refreshes (notes old) v after) (sym h.shows.view_is) fresh.view in
          (sees_all objects calls notes notings c p a b tier_view Free s old after (own_view c a b tier_view Free s (notes old) before h.shows) h.few (h.safe.tier.views b tier_view h.shows.tier_view_is) r).0

      over : Passes asked line after.entries cursor at → (cursor ≤ at) × HasPassed asked.ts p.registry.start x.log at
      over passes =
          let kept = seen_kept c.notes c.notes c.desk h.safe.tier.notes (prefix_self c.notes) in
          let right : IsRightView (view_of c.notes) = record { kept = kept.0; distinct = kept.1 } in
          let of : IsViewOf c.notes after = record { before = c.notes; begins = prefix_self c.notes; is = all } in
          over_all c p b x after asked line h.safe.plain h.safe.tier h.broker_is of (subst IsRightView (sym all) right) h.is_observable h.end_is cursor at passes h.past h.dated.cursor

      by : (then : SearchStep) → SeeksIn asked line after cursor (Goes (at, then)) → Dated p x asked cursor at then
      by Seek seeks =
          let k = over seeks.passes in
          let known = h.below in
          let mark = h.mark_is in
          let far = seeks.far in
          (record { cursor = k.1; read = k.1 }, k.0, λ yes. past_top asked.local asked.mark local (omega (arith, known, mark)) far)
        where
          past_top : (l m : ℕ) → cursor < l → cursor < m → min l m ≤ at → cursor < at
          past_top l m low marked far = omega (arith, low, marked, far)
      by (ReadsTimes piece) seeks = (let k = over seeks.passes in (record { cursor = k.1; read = k.1 }, k.0, λ no. absurd (cc (no))))
      by (Index piece from) seeks = absurd seeks
      by (Log piece from span) seeks = absurd seeks

  -- time indexes

  -- where a search continues, none of the bytes are lacking
  none_lack : (end : Option ℕ) (asked : Asked) (cursor at : ℕ) (piece : Piece) (base : ℕ) (spot : Spot) (bytes : List ℕ) (then : SearchStep)
      → TimesBytes end asked cursor piece base spot bytes (Ok (Goes (at, then))) → IsTimeIndexRead asked cursor piece base bytes (Goes (at, then))
  none_lack (Some end) asked cursor at piece base spot bytes then k = absurd (cc (k))
  none_lack None asked cursor at piece base spot bytes then k = k

  times_on : (c : Scene) (p : Plain) (a b : ℕ) (tier_view : BrokerTierView) (x : Broker) (stops epoch : ℕ) (asked : Asked) (line : List (ℕ × ℕ)) (cursor at : ℕ) (piece : Piece) (then : SearchStep) (ns : meta.Content)
      (view : EntriesSeen) (cache : Cache) (old new : S) (place : Option (ℕ × Spot)) → IsAtSearch c p a b tier_view x stops epoch asked line cursor (ReadsTimes piece) (objects old) ns view cache
      → cursor < piece.to → spot_in asked.partition piece.id part.TimeIndex (entry_of piece.id view.entries) ≡ place
      → TimesRow objects calls asked cursor piece view place (Ok (Goes (at, then))) old new → Dated p x asked cursor at then
  times_on c p a b tier_view x stops epoch asked line cursor at piece then ns view cache old new None h set there row = absurd (cc (row.0))
  times_on c p a b tier_view x stops epoch asked line cursor at piece then ns view cache old new (Some place) h set there row = by row.answer row.gets row.times
    where
      by : (answer : Result (Option (List ℕ)) Trouble) → Gets objects calls place.1.key (all_of place.1) answer old new
          → Times asked cursor piece place.0 place.1 answer (Ok (Goes (at, then))) → Dated p x asked cursor at then
      by (Err Failed) gets k = absurd (cc (k))
      by (Err NoMemory) gets k = absurd (cc (k))
      by (Ok None) gets k = absurd (cc (k))
      by (Ok (Some bytes)) gets k =
          let t = none_lack (short_of place.1 bytes) asked cursor at piece place.0 place.1 bytes then k in
          let turn = at_turn c p a b tier_view x stops epoch asked line cursor (ReadsTimes piece) (objects old) ns view cache cursor (fetching.Index piece) h h.shows (omega arith) in
          let r = copy_of c p a b tier_view x stops epoch (wanted_at asked cursor) line (fetching.Index piece) (objects old) ns view cache piece turn refl in
          let g = gives c p a b tier_view x stops epoch (wanted_at asked cursor) line (fetching.Index piece) (objects old) ns view cache piece part.TimeIndex place (λ b. b) (Some bytes)
          tt turn refl there (gets.bytes h.shows.store_tells) r in
          let spelled : bytes ≡ part_in (parts_of r.stored_whole.batches r.stored_whole.line r.stored_whole.interval) part.TimeIndex =
          one_some (Some bytes) bytes (part_in (parts_of r.stored_whole.batches r.stored_whole.line r.stored_whole.interval) part.TimeIndex) refl g.given_is in
          let first : first_offset r.stored_whole.batches ≡ r.entry.start = first_is r.entry.start r.stored_whole.batches r.stored_whole.describes.some r.stored_whole.describes.is.consecutive in
          let same : bytes_of moment_bytes t.index.entries ≡ bytes_of moment_bytes (time_index_of r.entry.start r.stored_whole.interval (placed_from 0 r.stored_whole.batches)).entries =
          sym t.bytes_are ∙ spelled ∙ ap (λ (n : ℕ). bytes_of moment_bytes (time_index_of n r.stored_whole.interval (placed_from 0 r.stored_whole.batches)).entries) first in
          let index = times_read t.index r.entry.start r.stored_whole.interval r.stored_whole.batches r.stored_whole.describes.is (t.base_is ∙ g.start_is) t.rises same in
          let stood = (h.safe.tier.fetches a (sought_of b stops epoch cursor (fetching.Index piece)) tier_view x turn.shows.actor_state turn.shows.tier_view_is turn.broker_is).piece piece refl turn.leads turn.past in
          timed c p a b tier_view x stops epoch asked line cursor at piece then (objects old) ns view cache t.index h set r stood.holds.0 index t.turn_is

  -- offset indexes

  index_on : (c : Scene) (p : Plain) (a b : ℕ) (tier_view : BrokerTierView) (x : Broker) (stops epoch : ℕ) (asked : Asked) (line : List (ℕ × ℕ)) (cursor at : ℕ) (piece : Piece) (from : ℕ) (then : SearchStep)
      (old new : Tiers S M) → IsAtSearch c p a b tier_view x stops epoch asked line cursor (Index piece from) (objects old.store) (notes old.meta) old.view old.cache
      → IsSet cursor (Index piece from) → SearchIndexRow objects calls asked cursor piece from old.view (Ok (Goes (at, then))) old.cache new.cache old.store new.store → Dated p x asked cursor at then
  index_on c p a b tier_view x stops epoch asked line cursor at piece from then old new h set (inl k) =
      let low = set.0 in
      let high = set.1 in
      topped c p a b tier_view x stops epoch asked line cursor at (Index piece from) then piece from (objects old.store) (notes old.meta) old.view old.cache h refl (omega (arith, low, high)) k.0 (cc (k.1))
  index_on c p a b tier_view x stops epoch asked line cursor at piece from then old new h set (inr k) = by k.1.0 k.1.2
    where
      by : (read : Result Span RemoteRefusal) → Indexes cursor piece from read (Ok (Goes (at, then))) → Dated p x asked cursor at then
      by (Ok span) k =
          let at_is : at ≡ cursor = ap (λ (r : Result (Turn (ℕ × SearchStep)) AllocError). (gone_on r).0) k in
          let then_is : then ≡ Log piece from span = ap (λ (r : Result (Turn (ℕ × SearchStep)) AllocError). (gone_on r).1) k in
          subst (λ (m : ℕ). Dated p x asked cursor m then) (sym at_is) (subst (λ (m : SearchStep). Dated p x asked cursor cursor m) (sym then_is)
          (record { cursor = h.dated.cursor; read = h.dated.read }, omega arith, λ no. absurd (cc (no))))
      by (Err why) k = absurd (never_goes why at then k)

  -- logs

  log_on : (c : Scene) (p : Plain) (a b : ℕ) (tier_view : BrokerTierView) (x : Broker) (stops epoch : ℕ) (asked : Asked) (line : List (ℕ × ℕ)) (cursor at : ℕ) (piece : Piece) (from : ℕ) (span : Span) (then : SearchStep)
      (old new : Tiers S M) → IsAtSearch c p a b tier_view x stops epoch asked line cursor (Log piece from span) (objects old.store) (notes old.meta) old.view old.cache
      → IsSet cursor (Log piece from span) → new ≡ record old { store = new.store } → SearchLogRow objects calls asked piece from span old.view (Ok (Goes (at, then))) old.store new.store
      → Dated p x asked cursor at then
  log_on c p a b tier_view x stops epoch asked line cursor at piece from span then old new h set same (inl k) =
      let low = set.0 in
      let high = set.1 in
      topped c p a b tier_view x stops epoch asked line cursor at (Log piece from span) then piece from (objects old.store) (notes old.meta) old.view old.cache h refl (omega (arith, low, high)) k.0 (cc (k.1))
  log_on c p a b tier_view x stops epoch asked line cursor at piece from span then old new h set same (inr k) = by k.1.0 (same, k.1.1) k.1.2
    where
      by : (read : Result RemoteRun RemoteRefusal) → RemoteFetchRow objects calls notes notings (wanted_at asked from) line (fetching.Log piece span) (ends_with piece read) old new
          → SearchTakes asked from read (Ok (Goes (at, then))) → Dated p x asked cursor at then
      by (Ok run) row k =
          let turn = at_turn c p a b tier_view x stops epoch asked line cursor (Log piece from span) (objects old.store) (notes old.meta) old.view old.cache from (fetching.Log piece span) h h.shows set.0 in
          searched_on c p a b tier_view x stops epoch asked line cursor from at (length run.bytes) (Log piece from span) then (fetching.Log piece span) run.stop run.bytes (objects old.store) (notes old.meta) old.view old.cache (Remote piece.id) h refl set.0
          (runs_are_checked objects calls notes notings (wanted_at asked from) line (fetching.Log piece span) (Remote piece.id) (length run.bytes) run.stop run.bytes old new c p a b tier_view x stops epoch row turn) k
      by (Err why) row k = absurd (never_goes why at then k)

  -- where a search continues, all before its cursor is too early
  pub searches_go_on : SearchesGoOn objects calls notes notings
  searches_go_on asked line cursor at Seek then old new c p a b tier_view x stops epoch row below set h =
      seek_on c p a b tier_view x stops epoch asked line cursor at then (objects old.store) old.cache old.view new.view old.meta new.meta h below row.1.0 row.1.1
  searches_go_on asked line cursor at (ReadsTimes piece) then old new c p a b tier_view x stops epoch row below set h =
      times_on c p a b tier_view x stops epoch asked line cursor at piece then (notes old.meta) old.view old.cache old.store new.store
      (spot_in asked.partition piece.id part.TimeIndex (entry_of piece.id old.view.entries)) h set refl row.1
  searches_go_on asked line cursor at (Index piece from) then old new c p a b tier_view x stops epoch row below set h =
      index_on c p a b tier_view x stops epoch asked line cursor at piece from then old new h set row.1
  searches_go_on asked line cursor at (Log piece from span) then old new c p a b tier_view x stops epoch row below set h =
      log_on c p a b tier_view x stops epoch asked line cursor at piece from span then old new h set row.0 row.1

  -- offsets

  -- no read of a time index answers one
  no_offset_timed : (asked : Asked) (cursor n : ℕ) (piece : Piece) (view : EntriesSeen) (place : Option (ℕ × Spot)) (old new : S) → TimesRow objects calls asked cursor piece view place (Ok (Ends (Offset n))) old new → ⊥
  no_offset_timed asked cursor n piece view None old new row = cc (row.0)
  no_offset_timed asked cursor n piece view (Some place) old new row = by row.answer row.times
    where
      lacks : (bytes : List ℕ) (end : Option ℕ) → TimesBytes end asked cursor piece place.0 place.1 bytes (Ok (Ends (Offset n))) → ⊥
      lacks bytes (Some end) k = cc (k)
      lacks bytes None k = cc (k.0)

      by : (answer : Result (Option (List ℕ)) Trouble) → Times asked cursor piece place.0 place.1 answer (Ok (Ends (Offset n))) → ⊥
      by (Err Failed) k = cc (k)
      by (Err NoMemory) k = cc (k)
      by (Ok None) k = cc (k)
      by (Ok (Some bytes)) k = lacks bytes (short_of place.1 bytes) k

  -- nor does one of an offset index
  index_at : (asked : Asked) (cursor at : ℕ) (piece : Piece) (from : ℕ) (view : EntriesSeen) (cache cache' : Cache) (old new : S)
      → SearchIndexRow objects calls asked cursor piece from view (Ok (Ends (Offset at))) cache cache' old new → ⊥
  index_at asked cursor at piece from view cache cache' old new (inl k) = cc (k.1)
  index_at asked cursor at piece from view cache cache' old new (inr k) = by k.1.0 k.1.2
    where
      by : (read : Result Span RemoteRefusal) → Indexes cursor piece from read (Ok (Ends (Offset at))) → ⊥
      by (Ok span) k = cc (k)
      by (Err why) k = never_found why at k

  log_at : (c : Scene) (p : Plain) (a b : ℕ) (tier_view : BrokerTierView) (x : Broker) (stops epoch : ℕ) (asked : Asked) (line : List (ℕ × ℕ)) (cursor at : ℕ) (piece : Piece) (from : ℕ) (span : Span)
      (old new : Tiers S M) → IsAtSearch c p a b tier_view x stops epoch asked line cursor (Log piece from span) (objects old.store) (notes old.meta) old.view old.cache
      → IsSet cursor (Log piece from span) → new ≡ record old { store = new.store } → SearchLogRow objects calls asked piece from span old.view (Ok (Ends (Offset at))) old.store new.store
      → offset_at p x asked.ts ≡ Some at
  log_at c p a b tier_view x stops epoch asked line cursor at piece from span old new h set same (inl k) = absurd (cc (k.1))
  log_at c p a b tier_view x stops epoch asked line cursor at piece from span old new h set same (inr k) = by k.1.0 (same, k.1.1) k.1.2
    where
      by : (read : Result RemoteRun RemoteRefusal) → RemoteFetchRow objects calls notes notings (wanted_at asked from) line (fetching.Log piece span) (ends_with piece read) old new
          → SearchTakes asked from read (Ok (Ends (Offset at))) → offset_at p x asked.ts ≡ Some at
      by (Ok run) row k =
          let turn = at_turn c p a b tier_view x stops epoch asked line cursor (Log piece from span) (objects old.store) (notes old.meta) old.view old.cache from (fetching.Log piece span) h h.shows set.0 in
          searched_at c p a b tier_view x stops epoch asked line cursor from at (length run.bytes) (Log piece from span) (fetching.Log piece span) run.stop run.bytes (objects old.store) (notes old.meta) old.view old.cache (Remote piece.id) h refl set.0
          (runs_are_checked objects calls notes notings (wanted_at asked from) line (fetching.Log piece span) (Remote piece.id) (length run.bytes) run.stop run.bytes old new c p a b tier_view x stops epoch row turn) k
      by (Err why) row k = absurd (never_found why at k)

  -- an offset that is answered is the log's
  pub searches_are_right : SearchesAreRight objects calls notes notings
  searches_are_right asked line cursor at Seek old new c p a b tier_view x stops epoch row below set h = absurd row.1.0
  searches_are_right asked line cursor at (ReadsTimes piece) old new c p a b tier_view x stops epoch row below set h =
      absurd (no_offset_timed asked cursor at piece old.view (spot_in asked.partition piece.id part.TimeIndex (entry_of piece.id old.view.entries)) old.store new.store row.1)
  searches_are_right asked line cursor at (Index piece from) old new c p a b tier_view x stops epoch row below set h = absurd (index_at asked cursor at piece from old.view old.cache new.cache old.store new.store row.1)
  searches_are_right asked line cursor at (Log piece from span) old new c p a b tier_view x stops epoch row below set h = log_at c p a b tier_view x stops epoch asked line cursor at piece from span old new h set row.0 row.1
