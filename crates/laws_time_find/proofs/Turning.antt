-- The turns of a timestamp lookup as changes.
use Rattle.std.proofs.Common.{◌≡◌, inl, inr, ◌∙◌, sym, ap, subst, refl, ℕ, ◌<◌, ◌≤◌, Bool, true, false, cond, List, Option, Some, None, Ok, Err, slice_get, arith}
use Rattle.std.specs.Prelude.{ℤ, nat_lt}
use Rattle.std.proofs.lemmas.Bool.{ltb-true}
use Rattle.std.specs.declared.result.Result.{Result}
use Rattle.std.specs.declared.alloc.AllocError.{AllocError}
use mathlib.Core.Path.{fun_ext}
use Rattle.tier_base.specs.declared.fault.Trouble.{Trouble}
use Rattle.tier_base.specs.declared.fault.Trouble.TheVariants.{Failed, NoMemory}
use Rattle.tier_base.specs.Device.{Control}
use Rattle.log_terms.proofs.Lists.{set-same}
use Rattle.sparse_index.specs.Times.{below_time}
use Rattle.index_cache.specs.Cache.{Cache}
use Rattle.object_store.specs.Call as store_call
use Rattle.object_store.specs.Content as store
use Rattle.object_store.specs.Place.{short_of}
use Rattle.object_store.specs.declared.placing.Spot.{Spot}
use Rattle.meta_log.specs.Call as meta_call
use Rattle.meta_log.specs.Content as meta
use Rattle.view_refresh.specs.Refreshing.{Refreshes, Advances}
use Rattle.plain_log.specs.declared.state.State.{State as Plain}
use Rattle.plain_log.specs.declared.state.Broker.{Broker}
use Rattle.plain_log.specs.declared.state.Role.{Role}
use Rattle.plain_log.specs.declared.answer.Answer.TheVariants.{MetaFault, StoreFault, Damaged}
use Rattle.plain_log.specs.declared.answer.Place.TheVariants.{Key, Meta}
use Rattle.plain_log.specs.Safe.{RoleSafe}
use Rattle.remote_view.specs.Fold.{EntriesSeen, view_of}
use Rattle.remote_find.specs.declared.piece.Piece.{Piece}
use Rattle.tier_fetch.specs.declared.turn.Span.{Span}
use Rattle.tier_fetch.specs.declared.turn.FetchStep.{FetchStep as Fetch}
use Rattle.tier_fetch.specs.declared.turn.FetchStep.TheVariants as fetch
use Rattle.plain_log.specs.declared.turn.Turn.{Turn}
use Rattle.plain_log.specs.declared.turn.Turn.TheVariants.{Goes, Ends}
use Rattle.tier_fetch.specs.declared.refusal.RemoteRefusal.{RemoteRefusal}
use Rattle.tier_fetch.specs.declared.refusal.RemoteRefusal.TheVariants as refusal
use Rattle.tier_fetch.specs.declared.reading.RemoteRun.{RemoteRun}
use Rattle.tier_fetch.specs.Turns.{Tiers, RemoteFetchRow, goes_with, ends_with}
use Rattle.tier_safe.specs.Scene.{BrokerTierView, TierTask, Free, Seeks as Fetches, Scene}
use Rattle.tier_safe.specs.Changes.{Moves, Asks, Skips, effect}
use Rattle.tier_safe.specs.Fetches.{PieceStands}
use Rattle.tier_safe.specs.Moves.{MayAsk, MaySkip}
use Rattle.tier_safe.specs.May.{IsChanged}
use Rattle.tier_safe.specs.Turns.{after_turn}
use Rattle.tier_safe.proofs.Basics.{one_some}
use Rattle.tier_safe.proofs.Turning.{set_set, set_get, scene_same, goes_on, one_change, as_scene, left, sees_all, sees_some}
use Rattle.laws_tier_fetch.specs.Seeking.{sought_of, fetch_after, IsAtTurn, after_fetch}
use Rattle.laws_tier_fetch.proofs.Turning.{as_fetch, named, quiet, shown as shows, takes_up, ended, halted, fetch_turns}
use Rattle.time_find.specs.declared.turn.Asked.{Asked}
use Rattle.time_find.specs.declared.turn.SearchStep.{SearchStep}
use Rattle.time_find.specs.declared.turn.SearchStep.TheVariants.{Seek, Times, Index, Log}
use Rattle.time_find.specs.Passing.{top_in, top_of, SeeksPiece, Seeks}
use Rattle.time_find.specs.Turns.{from_of, shown, TimesBytes, Times as Timed, wanted_at, Indexes, SearchTakes, SeekRow, TimesRow, SearchIndexRow, SearchLogRow}
use Rattle.time_find.proofs.Outcomes.{store_left, cache_left}
use Rattle.laws_time_find.specs.Searching.{search_of, search_tier_task, search_after, IsAtSearch}
use Rattle.laws_time_find.specs.Turns.{SearchTurnsChange}

-- a search that has taken up a piece is a fetch there
pub as_turn : (c : Scene) (p : Plain) (a b : ℕ) (tier_view : BrokerTierView) (x : Broker) (stops epoch : ℕ) (asked : Asked) (line : List (ℕ × ℕ)) (cursor : ℕ) (next : SearchStep) (s : store.Content) (n : meta.Content)
    (view : EntriesSeen) (cache : Cache) (offset : ℕ) (turn : Fetch) → IsAtSearch c p a b tier_view x stops epoch asked line cursor next s n view cache
    → search_of b stops epoch cursor next ≡ Fetches (sought_of b stops epoch offset turn) → cursor ≤ offset
    → IsAtTurn c p a b tier_view x stops epoch (wanted_at asked offset) line turn s n view cache
as_turn c p a b tier_view x stops epoch asked line cursor next s n view cache offset turn h is up = record {
  safe = h.safe;
  few = h.few;
  shows = record {
    objects_are = h.shows.objects_are;
    notes_are = h.shows.notes_are;
    store_tells = h.shows.store_tells;
    meta_tells = h.shows.meta_tells;
    tier_view_is = h.shows.tier_view_is;
    view_is = h.shows.view_is;
    actor_state = h.shows.actor_state ∙ ap (λ (w : TierTask). Some w) is;
  };
  cache_is = h.cache_is;
  partition = h.partition;
  broker_is = h.broker_is;
  leads = record { stops = h.stopped; role = h.leads };
  past = (let past = h.past in omega (arith, past, up));
  end_is = h.end_is;
  is_observable = h.is_observable;
}

-- a piece is taken up

-- a search in a free actor's state may ask for an offset that its local log lacks
may_ask : (c : Scene) (p : Plain) (a b : ℕ) (tier_view : BrokerTierView) (x : Broker) (stops epoch : ℕ) (asked : Asked) (line : List (ℕ × ℕ)) (cursor : ℕ) (s : store.Content) (n : meta.Content) (view : EntriesSeen)
    (cache : Cache) (after : EntriesSeen) (at : ℕ) → IsAtSearch c p a b tier_view x stops epoch asked line cursor Seek s n view cache → at < top_in asked
    → MayAsk a (sought_of b stops epoch at fetch.Refresh) (after_turn c a b tier_view Free c.objects c.notes after) p
may_ask c p a b tier_view x stops epoch asked line cursor s n view cache after at h below = record {
  actor_state = set_get c.desk a Free Free h.shows.actor_state;
  unread = (refl, refl);
  tier_view = record tier_view { view = after };
  tier_view_is = set_get c.tier_views b tier_view (record tier_view { view = after }) h.shows.tier_view_is;
  x = x;
  broker_is = h.broker_is;
  leads = record { stops = h.stopped; role = h.leads };
  path = (subst (λ (r : Role). RoleSafe p.paths p.registry.epoch r x.log) h.leads (h.safe.plain.brokers b x h.broker_is).role).1;
  below = (let local = h.local_is in omega (arith, below, local));
}

-- and takes up what is found there
takes : (c : Scene) (p : Plain) (a b : ℕ) (tier_view : BrokerTierView) (x : Broker) (stops epoch : ℕ) (asked : Asked) (line : List (ℕ × ℕ)) (cursor : ℕ) (s : store.Content) (n : meta.Content) (view : EntriesSeen)
    (cache : Cache) (after : EntriesSeen) (at : ℕ) (piece : Piece) → IsAtSearch c p a b tier_view x stops epoch asked line cursor Seek s n view cache → after ≡ view_of c.notes
    → SeeksPiece asked line after.entries cursor at piece → IsChanged c p (after_turn c a b tier_view Free c.objects c.notes after)
    → IsChanged c p (after_turn c a b tier_view (Fetches (sought_of b stops epoch at (fetch.Index piece))) c.objects c.notes after)
takes c p a b tier_view x stops epoch asked line cursor s n view cache after at piece h all k base =
    let sought = sought_of b stops epoch at fetch.Refresh in
    let d = after_turn c a b tier_view Free c.objects c.notes after in
    let may = may_ask c p a b tier_view x stops epoch asked line cursor s n view cache after at h k.below in
    takes_up c p a b tier_view x stops epoch at asked.log_end line Free after piece h.safe.tier h.shows.tier_view_is h.shows.actor_state h.broker_is h.end_is h.is_observable all k.found
    (as_scene c (effect (Moves a (Asks sought)) d) (after_turn c a b tier_view (Fetches sought) c.objects c.notes after) p
    (scene_same _ _ refl refl refl refl (set_set c.desk a Free (Fetches sought)))
    (goes_on c d p (Moves a (Asks sought)) base (refl, may)))

-- what a refreshed view shows
seeks : (c : Scene) (p : Plain) (a b : ℕ) (tier_view : BrokerTierView) (x : Broker) (stops epoch : ℕ) (asked : Asked) (line : List (ℕ × ℕ)) (cursor : ℕ) (s : store.Content) (n : meta.Content) (view : EntriesSeen)
    (cache : Cache) (after : EntriesSeen) (turn : Turn (ℕ × SearchStep)) → IsAtSearch c p a b tier_view x stops epoch asked line cursor Seek s n view cache → after ≡ view_of c.notes
    → Seeks asked line after cursor turn → IsChanged c p (after_turn c a b tier_view Free c.objects c.notes after)
    → IsChanged c p (after_turn c a b tier_view (search_tier_task b stops epoch turn) c.objects c.notes after)
seeks c p a b tier_view x stops epoch asked line cursor s n view cache after (Goes (at, Seek)) h all k base = base
seeks c p a b tier_view x stops epoch asked line cursor s n view cache after (Goes (at, Times piece)) h all k base =
    takes c p a b tier_view x stops epoch asked line cursor s n view cache after at piece h all k base
seeks c p a b tier_view x stops epoch asked line cursor s n view cache after (Goes (at, Index piece from)) h all k base = absurd k
seeks c p a b tier_view x stops epoch asked line cursor s n view cache after (Goes (at, Log piece from span)) h all k base = absurd k
seeks c p a b tier_view x stops epoch asked line cursor s n view cache after (Ends answer) h all k base = base

-- a later offset of the piece

-- a piece that was found represents each later offset in it
may_skip : (c : Scene) (p : Plain) (a b : ℕ) (tier_view : BrokerTierView) (x : Broker) (stops epoch : ℕ) (asked : Asked) (line : List (ℕ × ℕ)) (cursor : ℕ) (piece : Piece) (s : store.Content) (n : meta.Content)
    (view : EntriesSeen) (cache : Cache) (from : ℕ) → IsAtSearch c p a b tier_view x stops epoch asked line cursor (Times piece) s n view cache → cursor ≤ from → from < piece.to
    → MaySkip a (sought_of b stops epoch cursor (fetch.Index piece)) from c p
may_skip c p a b tier_view x stops epoch asked line cursor piece s n view cache from h up low = record {
  actor_state = h.shows.actor_state;
  unread = refl;
  piece = piece;
  found = refl;
  gives = λ y y_is leads past.
      (let same = one_some (slice_get p.brokers b) x y h.broker_is y_is in
      let f = h.safe.tier.fetches a (sought_of b stops epoch cursor (fetch.Index piece)) tier_view x h.shows.actor_state h.shows.tier_view_is h.broker_is in
      let q = f.piece piece refl (record { stops = h.stopped; role = h.leads }) h.past in
      let holds = q.holds.0 in
      subst (λ (z : Broker). PieceStands c.notes z.log from piece) same (record {
        before = q.before;
        begins = q.begins;
        entry = q.entry;
        there = q.there;
        finished = q.finished;
        holds = (omega (arith, holds, up), low);
        within = q.within;
        epoch = q.epoch;
        of_log = q.of_log;
        of_copy = q.of_copy;
      }));
}

skips : (c : Scene) (p : Plain) (a b : ℕ) (tier_view : BrokerTierView) (x : Broker) (stops epoch : ℕ) (asked : Asked) (line : List (ℕ × ℕ)) (cursor : ℕ) (piece : Piece) (s : store.Content) (n : meta.Content)
    (view : EntriesSeen) (cache : Cache) (from : ℕ) → IsAtSearch c p a b tier_view x stops epoch asked line cursor (Times piece) s n view cache → cursor ≤ from → from < piece.to
    → IsChanged c p (after_turn c a b tier_view (Fetches (sought_of b stops epoch from (fetch.Index piece))) c.objects c.notes tier_view.view)
skips c p a b tier_view x stops epoch asked line cursor piece s n view cache from h up low =
    let sought = sought_of b stops epoch cursor (fetch.Index piece) in
    let may = may_skip c p a b tier_view x stops epoch asked line cursor piece s n view cache from h up low in
    as_scene c (effect (Moves a (Skips sought from)) c) (after_turn c a b tier_view (Fetches (sought_of b stops epoch from (fetch.Index piece))) c.objects c.notes tier_view.view) p
    (scene_same _ _ refl refl refl (sym (set-same c.tier_views b tier_view h.shows.tier_view_is)) refl)
    (one_change c p (Moves a (Skips sought from)) (refl, may))

-- an index shows no offset before the cursor
from_up : (cursor : ℕ) (moment : Option (ℤ × ℕ)) → cursor ≤ from_of cursor moment
from_up cursor None = omega arith
from_up cursor (Some moment) = omega arith

-- what an index shows
shows_on : (c : Scene) (p : Plain) (a b : ℕ) (tier_view : BrokerTierView) (x : Broker) (stops epoch : ℕ) (asked : Asked) (line : List (ℕ × ℕ)) (cursor : ℕ) (piece : Piece) (s : store.Content) (n : meta.Content)
    (view : EntriesSeen) (cache : Cache) (from : ℕ) → IsAtSearch c p a b tier_view x stops epoch asked line cursor (Times piece) s n view cache → cursor ≤ from
    → IsChanged c p (after_turn c a b tier_view (search_tier_task b stops epoch (shown asked cursor piece from)) c.objects c.notes tier_view.view)
shows_on c p a b tier_view x stops epoch asked line cursor piece s n view cache from h up = by (nat_lt from (top_of asked piece)) refl
  where
    by : (t : Bool) → nat_lt from (top_of asked piece) ≡ t
        → IsChanged c p (after_turn c a b tier_view (search_tier_task b stops epoch (cond t (Goes (cursor, Index piece from)) (Goes (top_of asked piece, Seek)))) c.objects c.notes tier_view.view)
    by true is =
        let low : from < top_of asked piece = ltb-true from (top_of asked piece) is in
        skips c p a b tier_view x stops epoch asked line cursor piece s n view cache from h up (omega (arith, low))
    by false is = left c p a b tier_view h.shows.tier_view_is

-- what was read

-- the actor's state has of the search what it has of a fetch that reads the same
indexes_same : (b stops epoch cursor from : ℕ) (piece : Piece) (read : Result Span RemoteRefusal) (result : Result (Turn (ℕ × SearchStep)) AllocError) → Indexes cursor piece from read result
    → fetch_after b stops epoch from (fetch.Index piece) (goes_with piece read) ≡ search_after b stops epoch cursor (Index piece from) result
indexes_same b stops epoch cursor from piece (Ok span) result k = ap (search_after b stops epoch cursor (Index piece from)) (sym k)
indexes_same b stops epoch cursor from piece (Err (refusal.Damaged place at)) result k = ap (search_after b stops epoch cursor (Index piece from)) (sym k)
indexes_same b stops epoch cursor from piece (Err refusal.StoreFault) result k = ap (search_after b stops epoch cursor (Index piece from)) (sym k)
indexes_same b stops epoch cursor from piece (Err refusal.NoMemory) result k = ap (search_after b stops epoch cursor (Index piece from)) (sym k)

searched_same : (b stops epoch cursor from : ℕ) (piece : Piece) (span : Span) (asked : Asked) (read : Result RemoteRun RemoteRefusal) (result : Result (Turn (ℕ × SearchStep)) AllocError) → SearchTakes asked from read result
    → fetch_after b stops epoch from (fetch.Log piece span) (ends_with piece read) ≡ search_after b stops epoch cursor (Log piece from span) result
searched_same b stops epoch cursor from piece span asked (Ok run) (Ok (Ends answer)) k = refl
searched_same b stops epoch cursor from piece span asked (Ok run) (Ok (Goes (at, Seek))) k = refl
searched_same b stops epoch cursor from piece span asked (Ok run) (Ok (Goes (at, next))) k = absurd k
searched_same b stops epoch cursor from piece span asked (Ok run) (Err e) k = absurd k
searched_same b stops epoch cursor from piece span asked (Err (refusal.Damaged place at)) result k = ap (search_after b stops epoch cursor (Log piece from span)) (sym k)
searched_same b stops epoch cursor from piece span asked (Err refusal.StoreFault) result k = ap (search_after b stops epoch cursor (Log piece from span)) (sym k)
searched_same b stops epoch cursor from piece span asked (Err refusal.NoMemory) result k = ap (search_after b stops epoch cursor (Log piece from span)) (sym k)

module _ {S M : Type 0} (objects : S → store.Content) (calls : S → Control store_call.call_code)
    (notes : M → meta.Content) (notings : M → Control meta_call.call_code) where
  -- refreshes

  seek_turn : (c : Scene) (p : Plain) (a b : ℕ) (tier_view : BrokerTierView) (x : Broker) (stops epoch : ℕ) (asked : Asked) (line : List (ℕ × ℕ)) (cursor : ℕ) (result : Result (Turn (ℕ × SearchStep)) AllocError) (s : store.Content)
      (cache : Cache) (view after : EntriesSeen) (old new : M) → IsAtSearch c p a b tier_view x stops epoch asked line cursor Seek s (notes old) view cache
      → SeekRow notes notings asked line cursor result view after old new
      → IsChanged c p (after_fetch c a b tier_view (search_after b stops epoch cursor Seek result) s.objects (notes new).notes after cache)
  seek_turn c p a b tier_view x stops epoch asked line cursor (Ok (Ends MetaFault)) s cache view after old new h row =
      quiet c p a b tier_view _ Free s (notes old) view cache s.objects (notes new).notes after cache h.shows h.cache_is (left c p a b tier_view h.shows.tier_view_is) refl row.content.notes row.view refl
  seek_turn c p a b tier_view x stops epoch asked line cursor (Ok turn) s cache view after old new h row =
      let r : Refreshes (notes old) tier_view.view after = subst (λ (v : EntriesSeen). Refreshes (notes old) v after) (sym h.shows.view_is) row.1.view in
      let all = sees_all objects calls notes notings c p a b tier_view Free s old after (shows c a b tier_view Free s (notes old) view h.shows) h.few (h.safe.tier.views b tier_view h.shows.tier_view_is) r in
      named c p a b tier_view _ _ c.objects s.objects c.notes (notes new).notes after after cache cache refl h.shows.objects_are (h.shows.notes_are ∙ sym row.1.content.notes) refl refl
      (as_fetch c p a b tier_view _ c.objects c.notes after cache h.cache_is
      (seeks c p a b tier_view x stops epoch asked line cursor s (notes old) view cache after turn h all.0 row.0 all.1))
  seek_turn c p a b tier_view x stops epoch asked line cursor (Err e) s cache view after old new h row =
      let r : Advances (notes old) tier_view.view after = subst (λ (v : EntriesSeen). Advances (notes old) v after) (sym h.shows.view_is) row.view in
      named c p a b tier_view Free Free c.objects s.objects c.notes (notes new).notes after after cache cache refl h.shows.objects_are (h.shows.notes_are ∙ sym row.content.notes) refl refl
      (as_fetch c p a b tier_view Free c.objects c.notes after cache h.cache_is
      (sees_some objects calls notes notings c p a b tier_view Free s old after (shows c a b tier_view Free s (notes old) view h.shows) h.few (h.safe.tier.views b tier_view h.shows.tier_view_is) r))

  -- reads of a time index

  -- a turn that was answered, or ran out of memory
  ends : (c : Scene) (p : Plain) (a b : ℕ) (tier_view : BrokerTierView) (x : Broker) (stops epoch : ℕ) (asked : Asked) (line : List (ℕ × ℕ)) (cursor : ℕ) (piece : Piece) (ns : meta.Content) (view : EntriesSeen)
      (cache : Cache) (old new : S) → IsAtSearch c p a b tier_view x stops epoch asked line cursor (Times piece) (objects old) ns view cache → (objects new).objects ≡ (objects old).objects
      → IsChanged c p (after_fetch c a b tier_view Free (objects new).objects ns.notes view cache)
  ends c p a b tier_view x stops epoch asked line cursor piece ns view cache old new h same =
      let t = as_turn c p a b tier_view x stops epoch asked line cursor (Times piece) (objects old) ns view cache cursor (fetch.Index piece) h refl (omega arith) in
      ended objects calls notes notings c p a b tier_view x stops epoch (wanted_at asked cursor) line (fetch.Index piece) ns view cache cache old new t same refl

  halts : (c : Scene) (p : Plain) (a b : ℕ) (tier_view : BrokerTierView) (x : Broker) (stops epoch : ℕ) (asked : Asked) (line : List (ℕ × ℕ)) (cursor : ℕ) (piece : Piece) (ns : meta.Content) (view : EntriesSeen)
      (cache : Cache) (old new : S) → IsAtSearch c p a b tier_view x stops epoch asked line cursor (Times piece) (objects old) ns view cache → (objects new).objects ≡ (objects old).objects
      → IsChanged c p (after_fetch c a b tier_view (Fetches (sought_of b stops epoch cursor (fetch.Index piece))) (objects new).objects ns.notes view cache)
  halts c p a b tier_view x stops epoch asked line cursor piece ns view cache old new h same =
      let t = as_turn c p a b tier_view x stops epoch asked line cursor (Times piece) (objects old) ns view cache cursor (fetch.Index piece) h refl (omega arith) in
      halted objects calls notes notings c p a b tier_view x stops epoch (wanted_at asked cursor) line (fetch.Index piece) ns view cache cache old new t same refl

  -- one whose answer is reported
  ends_as : (c : Scene) (p : Plain) (a b : ℕ) (tier_view : BrokerTierView) (x : Broker) (stops epoch : ℕ) (asked : Asked) (line : List (ℕ × ℕ)) (cursor : ℕ) (piece : Piece) (result : Result (Turn (ℕ × SearchStep)) AllocError)
      (turn : Turn (ℕ × SearchStep)) (ns : meta.Content) (view : EntriesSeen) (cache : Cache) (old new : S) → IsAtSearch c p a b tier_view x stops epoch asked line cursor (Times piece) (objects old) ns view cache
      → (objects new).objects ≡ (objects old).objects → search_tier_task b stops epoch turn ≡ Free → result ≡ Ok turn
      → IsChanged c p (after_fetch c a b tier_view (search_after b stops epoch cursor (Times piece) result) (objects new).objects ns.notes view cache)
  ends_as c p a b tier_view x stops epoch asked line cursor piece result turn ns view cache old new h same free is =
      named c p a b tier_view _ _ (objects new).objects (objects new).objects ns.notes ns.notes view view cache cache
      (sym free ∙ ap (search_after b stops epoch cursor (Times piece)) (sym is)) refl refl refl refl
      (ends c p a b tier_view x stops epoch asked line cursor piece ns view cache old new h same)

  -- by where bytes are lacking
  bytes_turn : (end : Option ℕ) (c : Scene) (p : Plain) (a b : ℕ) (tier_view : BrokerTierView) (x : Broker) (stops epoch : ℕ) (asked : Asked) (line : List (ℕ × ℕ)) (cursor : ℕ) (piece : Piece)
      (result : Result (Turn (ℕ × SearchStep)) AllocError) (ns : meta.Content) (view : EntriesSeen) (cache : Cache) (old new : S) (base : ℕ) (spot : Spot) (bytes : List ℕ)
      → IsAtSearch c p a b tier_view x stops epoch asked line cursor (Times piece) (objects old) ns view cache → (objects new).objects ≡ (objects old).objects
      → TimesBytes end asked cursor piece base spot bytes result
      → IsChanged c p (after_fetch c a b tier_view (search_after b stops epoch cursor (Times piece) result) (objects new).objects ns.notes view cache)
  bytes_turn (Some end) c p a b tier_view x stops epoch asked line cursor piece result ns view cache old new base spot bytes h same k =
      ends_as c p a b tier_view x stops epoch asked line cursor piece result (Ends (Damaged (Key spot.key) end)) ns view cache old new h same refl k
  bytes_turn None c p a b tier_view x stops epoch asked line cursor piece (Ok (Goes (at, next))) ns view cache old new base spot bytes h same k =
      let from = from_of cursor (below_time k.index asked.ts) in
      quiet c p a b tier_view (Fetches (sought_of b stops epoch cursor (fetch.Index piece))) (search_tier_task b stops epoch (Goes (at, next))) (objects old) ns view cache (objects new).objects ns.notes view cache
      h.shows h.cache_is
      (subst (λ (turn : Turn (ℕ × SearchStep)). IsChanged c p (after_turn c a b tier_view (search_tier_task b stops epoch turn) c.objects c.notes tier_view.view)) (sym k.turn_is)
      (shows_on c p a b tier_view x stops epoch asked line cursor piece (objects old) ns view cache from h (from_up cursor (below_time k.index asked.ts))))
      same refl refl refl
  bytes_turn None c p a b tier_view x stops epoch asked line cursor piece (Ok (Ends answer)) ns view cache old new base spot bytes h same k =
      ends c p a b tier_view x stops epoch asked line cursor piece ns view cache old new h same
  bytes_turn None c p a b tier_view x stops epoch asked line cursor piece (Err e) ns view cache old new base spot bytes h same k =
      halts c p a b tier_view x stops epoch asked line cursor piece ns view cache old new h same

  read_turn : (c : Scene) (p : Plain) (a b : ℕ) (tier_view : BrokerTierView) (x : Broker) (stops epoch : ℕ) (asked : Asked) (line : List (ℕ × ℕ)) (cursor : ℕ) (piece : Piece) (result : Result (Turn (ℕ × SearchStep)) AllocError)
      (ns : meta.Content) (view : EntriesSeen) (cache : Cache) (old new : S) (base : ℕ) (spot : Spot) (answer : Result (Option (List ℕ)) Trouble)
      → IsAtSearch c p a b tier_view x stops epoch asked line cursor (Times piece) (objects old) ns view cache → (objects new).objects ≡ (objects old).objects
      → Timed asked cursor piece base spot answer result
      → IsChanged c p (after_fetch c a b tier_view (search_after b stops epoch cursor (Times piece) result) (objects new).objects ns.notes view cache)
  read_turn c p a b tier_view x stops epoch asked line cursor piece result ns view cache old new base spot (Err Failed) h same k =
      ends_as c p a b tier_view x stops epoch asked line cursor piece result (Ends StoreFault) ns view cache old new h same refl k
  read_turn c p a b tier_view x stops epoch asked line cursor piece (Ok turn) ns view cache old new base spot (Err NoMemory) h same k = absurd (cc (k))
  read_turn c p a b tier_view x stops epoch asked line cursor piece (Err e) ns view cache old new base spot (Err NoMemory) h same k =
      halts c p a b tier_view x stops epoch asked line cursor piece ns view cache old new h same
  read_turn c p a b tier_view x stops epoch asked line cursor piece result ns view cache old new base spot (Ok None) h same k =
      ends_as c p a b tier_view x stops epoch asked line cursor piece result (Ends (Damaged (Key spot.key) 0)) ns view cache old new h same refl k
  read_turn c p a b tier_view x stops epoch asked line cursor piece result ns view cache old new base spot (Ok (Some bytes)) h same k =
      bytes_turn (short_of spot bytes) c p a b tier_view x stops epoch asked line cursor piece result ns view cache old new base spot bytes h same k

  times_turn : (c : Scene) (p : Plain) (a b : ℕ) (tier_view : BrokerTierView) (x : Broker) (stops epoch : ℕ) (asked : Asked) (line : List (ℕ × ℕ)) (cursor : ℕ) (piece : Piece) (result : Result (Turn (ℕ × SearchStep)) AllocError)
      (ns : meta.Content) (view : EntriesSeen) (cache : Cache) (old new : S) (place : Option (ℕ × Spot))
      → IsAtSearch c p a b tier_view x stops epoch asked line cursor (Times piece) (objects old) ns view cache → TimesRow objects calls asked cursor piece view place result old new
      → IsChanged c p (after_fetch c a b tier_view (search_after b stops epoch cursor (Times piece) result) (objects new).objects ns.notes view cache)
  times_turn c p a b tier_view x stops epoch asked line cursor piece result ns view cache old new None h row =
      ends_as c p a b tier_view x stops epoch asked line cursor piece result (Ends (Damaged Meta view.notes)) ns view cache old new h (ap (λ (t : S). (objects t).objects) row.1) refl row.0
  times_turn c p a b tier_view x stops epoch asked line cursor piece result ns view cache old new (Some place) h row =
      read_turn c p a b tier_view x stops epoch asked line cursor piece result ns view cache old new place.0 place.1 row.answer h (fun_ext row.gets.content.objects) row.times

  -- what a fetch reads

  -- nothing is read where the known high watermark isn't past the offset
  turns_back : (c : Scene) (p : Plain) (a b : ℕ) (tier_view : BrokerTierView) (x : Broker) (stops epoch : ℕ) (asked : Asked) (line : List (ℕ × ℕ)) (cursor at : ℕ) (next : SearchStep) (result : Result (Turn (ℕ × SearchStep)) AllocError)
      (old new : Tiers S M) → IsAtSearch c p a b tier_view x stops epoch asked line cursor next (objects old.store) (notes old.meta) old.view old.cache → result ≡ Ok (Goes (at, Seek)) → new ≡ old
      → IsChanged c p (after_fetch c a b tier_view (search_after b stops epoch cursor next result) (objects new.store).objects (notes new.meta).notes new.view new.cache)
  turns_back c p a b tier_view x stops epoch asked line cursor at next result old new h is same =
      quiet c p a b tier_view _ _ (objects old.store) (notes old.meta) old.view old.cache (objects new.store).objects (notes new.meta).notes new.view new.cache h.shows h.cache_is
      (subst (λ (r : Result (Turn (ℕ × SearchStep)) AllocError). IsChanged c p (after_turn c a b tier_view (search_after b stops epoch cursor next r) c.objects c.notes tier_view.view)) (sym is) (left c p a b tier_view h.shows.tier_view_is))
      (ap (λ (t : Tiers S M). (objects t.store).objects) same) (ap (λ (t : Tiers S M). (notes t.meta).notes) same) (ap (λ (t : Tiers S M). t.view) same) (ap (λ (t : Tiers S M). t.cache) same)

  -- else the turn changes what that fetch's would
  fetches : (c : Scene) (p : Plain) (a b : ℕ) (tier_view : BrokerTierView) (x : Broker) (stops epoch : ℕ) (asked : Asked) (line : List (ℕ × ℕ)) (cursor from : ℕ) (next : SearchStep) (turn : Fetch)
      (found : Result (Turn Fetch) AllocError) (result : Result (Turn (ℕ × SearchStep)) AllocError) (old new : Tiers S M)
      → IsAtSearch c p a b tier_view x stops epoch asked line cursor next (objects old.store) (notes old.meta) old.view old.cache
      → search_of b stops epoch cursor next ≡ Fetches (sought_of b stops epoch from turn) → cursor ≤ from
      → RemoteFetchRow objects calls notes notings (wanted_at asked from) line turn found old new
      → fetch_after b stops epoch from turn found ≡ search_after b stops epoch cursor next result
      → IsChanged c p (after_fetch c a b tier_view (search_after b stops epoch cursor next result) (objects new.store).objects (notes new.meta).notes new.view new.cache)
  fetches c p a b tier_view x stops epoch asked line cursor from next turn found result old new h is up row same =
      let t = as_turn c p a b tier_view x stops epoch asked line cursor next (objects old.store) (notes old.meta) old.view old.cache from turn h is up in
      subst (λ (w : TierTask). IsChanged c p (after_fetch c a b tier_view w (objects new.store).objects (notes new.meta).notes new.view new.cache)) same
      (fetch_turns objects calls notes notings (wanted_at asked from) line turn found old new c p a b tier_view x stops epoch row t)

  index_turn : (c : Scene) (p : Plain) (a b : ℕ) (tier_view : BrokerTierView) (x : Broker) (stops epoch : ℕ) (asked : Asked) (line : List (ℕ × ℕ)) (cursor from : ℕ) (piece : Piece)
      (result : Result (Turn (ℕ × SearchStep)) AllocError) (old new : Tiers S M)
      → IsAtSearch c p a b tier_view x stops epoch asked line cursor (Index piece from) (objects old.store) (notes old.meta) old.view old.cache → cursor ≤ from
      → new ≡ record old { cache = new.cache; store = new.store }
      → SearchIndexRow objects calls asked cursor piece from old.view result old.cache new.cache old.store new.store
      → IsChanged c p (after_fetch c a b tier_view (search_after b stops epoch cursor (Index piece from) result) (objects new.store).objects (notes new.meta).notes new.view new.cache)
  index_turn c p a b tier_view x stops epoch asked line cursor from piece result old new h up same (inl row) =
      turns_back c p a b tier_view x stops epoch asked line cursor (top_of asked piece) (Index piece from) result old new h row.1 (cache_left old new same row.2 row.3)
  index_turn c p a b tier_view x stops epoch asked line cursor from piece result old new h up same (inr row) =
      fetches c p a b tier_view x stops epoch asked line cursor from (Index piece from) (fetch.Index piece) (goes_with piece row.1.0) result old new h refl up (same, row.1.1)
      (indexes_same b stops epoch cursor from piece row.1.0 result row.1.2)

  log_turn : (c : Scene) (p : Plain) (a b : ℕ) (tier_view : BrokerTierView) (x : Broker) (stops epoch : ℕ) (asked : Asked) (line : List (ℕ × ℕ)) (cursor from : ℕ) (piece : Piece) (span : Span)
      (result : Result (Turn (ℕ × SearchStep)) AllocError) (old new : Tiers S M)
      → IsAtSearch c p a b tier_view x stops epoch asked line cursor (Log piece from span) (objects old.store) (notes old.meta) old.view old.cache → cursor ≤ from
      → new ≡ record old { store = new.store }
      → SearchLogRow objects calls asked piece from span old.view result old.store new.store
      → IsChanged c p (after_fetch c a b tier_view (search_after b stops epoch cursor (Log piece from span) result) (objects new.store).objects (notes new.meta).notes new.view new.cache)
  log_turn c p a b tier_view x stops epoch asked line cursor from piece span result old new h up same (inl row) =
      turns_back c p a b tier_view x stops epoch asked line cursor (top_of asked piece) (Log piece from span) result old new h row.1 (store_left old new same row.2)
  log_turn c p a b tier_view x stops epoch asked line cursor from piece span result old new h up same (inr row) =
      fetches c p a b tier_view x stops epoch asked line cursor from (Log piece from span) (fetch.Log piece span) (ends_with piece row.1.0) result old new h refl up (same, row.1.1)
      (searched_same b stops epoch cursor from piece span asked row.1.0 result row.1.2)

  -- all of them

  pub search_turns : SearchTurnsChange objects calls notes notings
  search_turns asked line cursor Seek result old new c p a b tier_view x stops epoch row below set h =
      named c p a b tier_view _ _ (objects old.store).objects (objects new.store).objects (notes new.meta).notes (notes new.meta).notes new.view new.view old.cache new.cache refl
      (ap (λ (t : Tiers S M). (objects t.store).objects) (sym row.0)) refl refl (ap (λ (t : Tiers S M). t.cache) (sym row.0))
      (seek_turn c p a b tier_view x stops epoch asked line cursor result (objects old.store) old.cache old.view new.view old.meta new.meta h row.1)
  search_turns asked line cursor (Times piece) result old new c p a b tier_view x stops epoch row below set h =
      named c p a b tier_view _ _ (objects new.store).objects (objects new.store).objects (notes old.meta).notes (notes new.meta).notes old.view new.view old.cache new.cache refl refl
      (ap (λ (t : Tiers S M). (notes t.meta).notes) (sym row.0)) (ap (λ (t : Tiers S M). t.view) (sym row.0)) (ap (λ (t : Tiers S M). t.cache) (sym row.0))
      (times_turn c p a b tier_view x stops epoch asked line cursor piece result (notes old.meta) old.view old.cache old.store new.store _ h row.1)
  search_turns asked line cursor (Index piece from) result old new c p a b tier_view x stops epoch row below set h =
      index_turn c p a b tier_view x stops epoch asked line cursor from piece result old new h set.0 row.0 row.1
  search_turns asked line cursor (Log piece from span) result old new c p a b tier_view x stops epoch row below set h =
      log_turn c p a b tier_view x stops epoch asked line cursor from piece span result old new h set.0 row.0 row.1
