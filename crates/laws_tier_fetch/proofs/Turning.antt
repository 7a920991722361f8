-- The turns of a fetch as changes.
use Rattle.std.proofs.Common.{◌≡◌, ◌⊎◌, inl, inr, ◌∙◌, sym, ap, subst, refl, ℕ, List, [], Option, Some, None, Ok, Err, slice_get, slice_set}
use Rattle.std.specs.declared.result.Result.{Result}
use Rattle.std.specs.declared.alloc.AllocError.{AllocError}
use mathlib.Core.Path.{fun_ext}
use Rattle.tier_base.specs.declared.fault.Trouble.{Trouble}
use Rattle.tier_base.specs.declared.fault.Trouble.TheVariants.{Failed, NoMemory}
use Rattle.tier_base.specs.declared.names.SegmentId.{SegmentId}
use Rattle.tier_base.specs.declared.plain.Part.TheVariants as part
use Rattle.tier_base.specs.Device.{Control}
use Rattle.tier_base.specs.Told.{In}
use Rattle.log_terms.specs.Log.{end_of}
use Rattle.log_terms.proofs.Lists.{prefix_self, set-same}
use Rattle.sparse_index.specs.Offsets.{OffsetTable, find}
use Rattle.index_cache.specs.Cache.{Cache, found, kept}
use Rattle.segment_meta.specs.declared.note.Note.{Note}
use Rattle.object_store.specs.Call as store_call
use Rattle.object_store.specs.Content as store
use Rattle.object_store.specs.Calls.{Gets}
use Rattle.object_store.specs.Place.{all_of, short_of, short_in}
use Rattle.object_store.specs.declared.placing.Spot.{Spot}
use Rattle.meta_log.specs.Call as meta_call
use Rattle.meta_log.specs.Content as meta
use Rattle.view_refresh.specs.Refreshing.{Refreshes, Advances}
use Rattle.plain_log.specs.declared.state.State.{State as Plain}
use Rattle.plain_log.specs.declared.state.Broker.{Broker}
use Rattle.plain_log.specs.declared.answer.Answer.TheVariants.{MetaFault}
use Rattle.remote_view.specs.Fold.{EntriesSeen, entry_of, fold, view_of, AreEntriesValid, AreDistinct}
use Rattle.remote_find.specs.declared.piece.Piece.{Piece}
use Rattle.remote_find.specs.Pieces.{piece_at}
use Rattle.remote_find.proofs.Clipping.{piece_lies}
use Rattle.tier_fetch.specs.declared.turn.FetchRequest.{FetchRequest}
use Rattle.tier_fetch.specs.declared.turn.Span.{Span}
use Rattle.tier_fetch.specs.declared.turn.FetchStep.{FetchStep}
use Rattle.tier_fetch.specs.declared.turn.FetchStep.TheVariants.{Refresh, Index, Log}
use Rattle.plain_log.specs.declared.turn.Turn.{Turn}
use Rattle.plain_log.specs.declared.turn.Turn.TheVariants.{Goes, Ends}
use Rattle.tier_fetch.specs.Turns.{chosen, spot_in, reads_by, IsLoaded, LoadsBytes, Loads, CutsBytes, CutsRunOut, RefreshRow, LoadRow, IndexRow, LogRow, Tiers}
use Rattle.tier_safe.specs.Scene.{BrokerTierView, TierTask, Free, Seeks, Scene}
use Rattle.tier_safe.specs.Changes.{Moves, Finds, Reads, Caches, effect}
use Rattle.tier_safe.specs.Views.{IsViewOf}
use Rattle.tier_safe.specs.Fetches.{PieceStands, PositionStands, IndexStands, CachedStands}
use Rattle.tier_safe.specs.Moves.{MayFind, MayRead}
use Rattle.tier_safe.specs.May.{IsChanged}
use Rattle.tier_safe.specs.Reads.{TellsEpochs, IsRightView}
use Rattle.tier_safe.specs.Safe.{TierSafe}
use Rattle.tier_safe.specs.Turns.{ShowsScene, after_turn}
use Rattle.tier_safe.proofs.Basics.{one_some}
use Rattle.tier_safe.proofs.Covering.{readable}
use Rattle.tier_safe.proofs.Lookups.{found_stands}
use Rattle.tier_safe.proofs.Rules.{seen_kept}
use Rattle.tier_safe.proofs.Turning.{set_set, set_get, scene_same, goes_on, one_change, as_scene, leaves, left, renamed, sees_all, sees_some}
use Rattle.laws_tier_fetch.specs.Seeking.{sought_of, fetch_tier_task, fetch_after, indexes_in, IsAtTurn, after_fetch}
use Rattle.laws_tier_fetch.specs.Turns.{FetchTurnsChange}
use Rattle.laws_tier_fetch.proofs.Pairs.{found_in, brought_in, kept_in}
use Rattle.laws_tier_fetch.proofs.Reading.{copy_of, gives, index_read, index_cached}

-- scenes

-- a cache that stays
pub as_fetch : (c : Scene) (p : Plain) (a b : ℕ) (tier_view : BrokerTierView) (tier_task : TierTask) (o : store.Objects) (n : List Note) (v : EntriesSeen) (cache : Cache) → tier_view.cache ≡ indexes_in cache
    → IsChanged c p (after_turn c a b tier_view tier_task o n v) → IsChanged c p (after_fetch c a b tier_view tier_task o n v cache)
as_fetch c p a b tier_view tier_task o n v cache same h =
    as_scene c (after_turn c a b tier_view tier_task o n v) (after_fetch c a b tier_view tier_task o n v cache) p
    (scene_same _ _ refl refl refl (ap (λ (k : List (SegmentId × OffsetTable)). slice_set c.tier_views b (record tier_view { view = v; cache = k })) same) refl) h

-- what a turn leaves is said of other names
pub named : (c : Scene) (p : Plain) (a b : ℕ) (tier_view : BrokerTierView) (tier_task other : TierTask) (o o2 : store.Objects) (n n2 : List Note) (v v2 : EntriesSeen) (k k2 : Cache) → tier_task ≡ other → o ≡ o2 → n ≡ n2 → v ≡ v2 → k ≡ k2
    → IsChanged c p (after_fetch c a b tier_view tier_task o n v k) → IsChanged c p (after_fetch c a b tier_view other o2 n2 v2 k2)
named c p a b tier_view tier_task other o o2 n n2 v v2 k k2 ew eo en ev ek h =
    as_scene c (after_fetch c a b tier_view tier_task o n v k) (after_fetch c a b tier_view other o2 n2 v2 k2) p
    (scene_same _ _ refl eo en
    (ap (λ (x : EntriesSeen). slice_set c.tier_views b (record tier_view { view = x; cache = indexes_in k })) ev ∙ ap (λ (x : Cache). slice_set c.tier_views b (record tier_view { view = v2; cache = indexes_in x })) ek)
    (ap (slice_set c.desk a) ew)) h

-- a turn that left the view, the cache and the devices as they were
pub quiet : (c : Scene) (p : Plain) (a b : ℕ) (tier_view : BrokerTierView) (before tier_task : TierTask) (s : store.Content) (ns : meta.Content) (view : EntriesSeen) (cache : Cache) (o : store.Objects) (n : List Note) (v : EntriesSeen) (k : Cache)
    → ShowsScene c a b tier_view before s ns view → tier_view.cache ≡ indexes_in cache → IsChanged c p (after_turn c a b tier_view tier_task c.objects c.notes tier_view.view)
    → o ≡ s.objects → n ≡ ns.notes → v ≡ view → k ≡ cache → IsChanged c p (after_fetch c a b tier_view tier_task o n v k)
quiet c p a b tier_view before tier_task s ns view cache o n v k h same base eo en ev ek =
    as_fetch c p a b tier_view tier_task o n v k (same ∙ ap indexes_in (sym ek))
    (renamed c p a b tier_view tier_task tier_task c.objects o c.notes n tier_view.view v refl (h.objects_are ∙ sym eo) (h.notes_are ∙ sym en) (h.view_is ∙ sym ev) base)

-- nothing
none : (c : Scene) (p : Plain) (a b : ℕ) (tier_view : BrokerTierView) (tier_task : TierTask) → slice_get c.tier_views b ≡ Some tier_view → slice_get c.desk a ≡ Some tier_task → IsChanged c p (after_turn c a b tier_view tier_task c.objects c.notes tier_view.view)
none c p a b tier_view tier_task at actor_state =
    as_scene c c (after_turn c a b tier_view tier_task c.objects c.notes tier_view.view) p
    (scene_same _ _ refl refl refl (sym (set-same c.tier_views b tier_view at)) (sym (set-same c.desk a tier_task actor_state)))
    (record { changes = []; may = refl; is = refl })

-- the tier shows its own view
pub shown : (c : Scene) (a b : ℕ) (tier_view : BrokerTierView) (tier_task : TierTask) (s : store.Content) (n : meta.Content) (view : EntriesSeen) → ShowsScene c a b tier_view tier_task s n view → ShowsScene c a b tier_view tier_task s n tier_view.view
shown c a b tier_view tier_task s n view h = record {
  objects_are = h.objects_are;
  notes_are = h.notes_are;
  store_tells = h.store_tells;
  meta_tells = h.meta_tells;
  tier_view_is = h.tier_view_is;
  view_is = refl;
  actor_state = h.actor_state;
}

-- the piece

-- what is found in a view of all metadata events may be taken, whatever the actor's state kept before
may_find : (c : Scene) (p : Plain) (a b : ℕ) (tier_view : BrokerTierView) (x : Broker) (stops epoch offset log_end : ℕ) (line : List (ℕ × ℕ)) (before : TierTask) (after : EntriesSeen) (piece : Piece)
    → TierSafe c p → slice_get c.tier_views b ≡ Some tier_view → slice_get c.desk a ≡ Some before → slice_get p.brokers b ≡ Some x → log_end ≡ end_of x.log → TellsEpochs line x.log
    → after ≡ view_of c.notes → piece_at after.entries line log_end offset ≡ Some piece
    → MayFind a (sought_of b stops epoch offset Refresh) piece (after_turn c a b tier_view (Seeks (sought_of b stops epoch offset Refresh)) c.objects c.notes after) p
may_find c p a b tier_view x stops epoch offset log_end line before after piece safe tier_view_is actor_state x_is end_is is_observable all made = record {
  actor_state = set_get c.desk a before (Seeks (sought_of b stops epoch offset Refresh)) actor_state;
  unread = refl;
  seen = λ other at.
      (let new : BrokerTierView = record tier_view { view = after } in
      let same : new ≡ other = one_some (slice_get (slice_set c.tier_views b new) b) new other (set_get c.tier_views b tier_view new tier_view_is) at in
      let kept = seen_kept c.notes c.notes c.desk safe.notes (prefix_self c.notes) in
      let k = piece_lies after.entries line log_end offset piece (subst (λ (v : EntriesSeen). AreEntriesValid v.entries) (sym all) kept.0) (subst (λ (v : EntriesSeen). AreDistinct v.entries) (sym all) kept.1)
      is_observable.rises made in
      let done = readable k.1.state k.2.readable in
      (k.1, subst (λ (t : BrokerTierView). entry_of piece.id t.view.entries ≡ Some k.1) same k.2.copy, λ e. absurd (cc (done, e))));
  gives = λ y y_is leads past.
      (let same = one_some (slice_get p.brokers b) x y x_is y_is in
      let kept = seen_kept c.notes c.notes c.desk safe.notes (prefix_self c.notes) in
      let right : IsRightView (view_of c.notes) = record { kept = kept.0; distinct = kept.1 } in
      let of : IsViewOf c.notes after = record { before = c.notes; begins = prefix_self c.notes; is = all } in
      let at : piece_at after.entries line (end_of x.log) offset ≡ Some piece = subst (λ (e : ℕ). piece_at after.entries line e offset ≡ Some piece) end_is made in
      subst (λ (z : Broker). PieceStands c.notes z.log offset piece) same
      (found_stands c.notes after line x.log offset piece of (subst IsRightView (sym all) right) is_observable at));
}

-- and is taken up
pub takes_up : (c : Scene) (p : Plain) (a b : ℕ) (tier_view : BrokerTierView) (x : Broker) (stops epoch offset log_end : ℕ) (line : List (ℕ × ℕ)) (before : TierTask) (after : EntriesSeen) (piece : Piece)
    → TierSafe c p → slice_get c.tier_views b ≡ Some tier_view → slice_get c.desk a ≡ Some before → slice_get p.brokers b ≡ Some x → log_end ≡ end_of x.log → TellsEpochs line x.log
    → after ≡ view_of c.notes → piece_at after.entries line log_end offset ≡ Some piece
    → IsChanged c p (after_turn c a b tier_view (Seeks (sought_of b stops epoch offset Refresh)) c.objects c.notes after)
    → IsChanged c p (after_turn c a b tier_view (Seeks (sought_of b stops epoch offset (Index piece))) c.objects c.notes after)
takes_up c p a b tier_view x stops epoch offset log_end line before after piece safe tier_view_is actor_state x_is end_is is_observable all made base =
    let sought = sought_of b stops epoch offset Refresh in
    let d = after_turn c a b tier_view (Seeks sought) c.objects c.notes after in
    let may = may_find c p a b tier_view x stops epoch offset log_end line before after piece safe tier_view_is actor_state x_is end_is is_observable all made in
    as_scene c (effect (Moves a (Finds sought piece)) d) (after_turn c a b tier_view (Seeks (sought_of b stops epoch offset (Index piece))) c.objects c.notes after) p
    (scene_same _ _ refl refl refl refl (set_set c.desk a (Seeks sought) (Seeks (sought_of b stops epoch offset (Index piece)))))
    (goes_on c d p (Moves a (Finds sought piece)) base (refl, may))

chooses : (c : Scene) (p : Plain) (a b : ℕ) (tier_view : BrokerTierView) (x : Broker) (stops epoch : ℕ) (wanted : FetchRequest) (line : List (ℕ × ℕ)) (s : store.Content) (n : meta.Content) (view : EntriesSeen) (cache : Cache)
    (after : EntriesSeen) (piece : Option Piece) → IsAtTurn c p a b tier_view x stops epoch wanted line Refresh s n view cache → after ≡ view_of c.notes
    → piece_at after.entries line wanted.log_end wanted.offset ≡ piece
    → IsChanged c p (after_turn c a b tier_view (Seeks (sought_of b stops epoch wanted.offset Refresh)) c.objects c.notes after)
    → IsChanged c p (after_turn c a b tier_view (fetch_tier_task b stops epoch wanted.offset (chosen after.notes piece)) c.objects c.notes after)
chooses c p a b tier_view x stops epoch wanted line s n view cache after None h all made base =
    leaves c p a b tier_view (Seeks (sought_of b stops epoch wanted.offset Refresh)) c.objects c.notes after base
chooses c p a b tier_view x stops epoch wanted line s n view cache after (Some piece) h all made base =
    takes_up c p a b tier_view x stops epoch wanted.offset wanted.log_end line (Seeks (sought_of b stops epoch wanted.offset Refresh)) after piece h.safe.tier h.shows.tier_view_is h.shows.actor_state h.broker_is h.end_is
    h.is_observable all made base

-- the index

-- an index that is is read on by, in a cache that has no other new one
reads_on : (c : Scene) (p : Plain) (a b : ℕ) (tier_view : BrokerTierView) (stops epoch : ℕ) (wanted : FetchRequest) (piece : Piece) (index : OffsetTable) (cache : Cache)
    → slice_get c.tier_views b ≡ Some tier_view → slice_get c.desk a ≡ Some (Seeks (sought_of b stops epoch wanted.offset (Index piece)))
    → ((id : SegmentId) (t : OffsetTable) → In (id, t) (indexes_in cache) → In (id, t) tier_view.cache ⊎ CachedStands p.paths c.notes id t)
    → IndexStands p.paths (fold c.notes) piece.id index
    → IsChanged c p (after_fetch c a b tier_view (fetch_tier_task b stops epoch wanted.offset (reads_by wanted piece index)) c.objects c.notes tier_view.view cache)
reads_on c p a b tier_view stops epoch wanted piece index cache at actor_state are is =
    let sought = sought_of b stops epoch wanted.offset (Index piece) in
    let from = (find index wanted.offset).1 in
    let d = effect (Caches b tier_view (indexes_in cache)) c in
    let may : MayRead a sought from d p = record {
      actor_state = actor_state;
      piece = piece;
      found = refl;
      is = λ entry there done. (index, is entry there done, refl);
    } in
    as_scene c (effect (Moves a (Reads sought from)) d) (after_fetch c a b tier_view (fetch_tier_task b stops epoch wanted.offset (reads_by wanted piece index)) c.objects c.notes tier_view.view cache) p
    (scene_same _ _ refl refl refl refl refl)
    (goes_on c d p (Moves a (Reads sought from)) (one_change c p (Caches b tier_view (indexes_in cache)) (refl, record { tier_view_is = at; are = are })) (refl, may))

module _ {S M : Type 0} (objects : S → store.Content) (calls : S → Control store_call.call_code)
    (notes : M → meta.Content) (notings : M → Control meta_call.call_code) where
  -- refreshes

  refresh_turn : (c : Scene) (p : Plain) (a b : ℕ) (tier_view : BrokerTierView) (x : Broker) (stops epoch : ℕ) (wanted : FetchRequest) (line : List (ℕ × ℕ)) (result : Result (Turn FetchStep) AllocError) (s : store.Content)
      (cache : Cache) (view after : EntriesSeen) (old new : M) → IsAtTurn c p a b tier_view x stops epoch wanted line Refresh s (notes old) view cache
      → RefreshRow notes notings wanted line result view after old new
      → IsChanged c p (after_fetch c a b tier_view (fetch_after b stops epoch wanted.offset Refresh result) s.objects (notes new).notes after cache)
  refresh_turn c p a b tier_view x stops epoch wanted line (Ok (Ends MetaFault)) s cache view after old new h row =
      quiet c p a b tier_view _ Free s (notes old) view cache s.objects (notes new).notes after cache h.shows h.cache_is (left c p a b tier_view h.shows.tier_view_is) refl row.content.notes row.view refl
  refresh_turn c p a b tier_view x stops epoch wanted line (Ok turn) s cache view after old new h row =
      let tier_task = Seeks (sought_of b stops epoch wanted.offset Refresh) in
      let r : Refreshes (notes old) tier_view.view after = subst (λ (v : EntriesSeen). Refreshes (notes old) v after) (sym h.shows.view_is) row.1.view in
      let all = sees_all objects calls notes notings c p a b tier_view tier_task s old after (shown c a b tier_view tier_task s (notes old) view h.shows) h.few (h.safe.tier.views b tier_view h.shows.tier_view_is) r in
      named c p a b tier_view _ _ c.objects s.objects c.notes (notes new).notes after after cache cache (ap (fetch_tier_task b stops epoch wanted.offset) (sym row.0)) h.shows.objects_are
      (h.shows.notes_are ∙ sym row.1.content.notes) refl refl
      (as_fetch c p a b tier_view _ c.objects c.notes after cache h.cache_is
      (chooses c p a b tier_view x stops epoch wanted line s (notes old) view cache after (piece_at after.entries line wanted.log_end wanted.offset) h all.0 refl all.1))
  refresh_turn c p a b tier_view x stops epoch wanted line (Err e) s cache view after old new h row =
      let tier_task = Seeks (sought_of b stops epoch wanted.offset Refresh) in
      let r : Advances (notes old) tier_view.view after = subst (λ (v : EntriesSeen). Advances (notes old) v after) (sym h.shows.view_is) row.view in
      named c p a b tier_view tier_task tier_task c.objects s.objects c.notes (notes new).notes after after cache cache refl h.shows.objects_are (h.shows.notes_are ∙ sym row.content.notes) refl refl
      (as_fetch c p a b tier_view tier_task c.objects c.notes after cache h.cache_is
      (sees_some objects calls notes notings c p a b tier_view tier_task s old after (shown c a b tier_view tier_task s (notes old) view h.shows) h.few (h.safe.tier.views b tier_view h.shows.tier_view_is) r))

  -- reads of the store

  -- a turn that was answered, or ran out of memory, and left the cache
  pub ended : (c : Scene) (p : Plain) (a b : ℕ) (tier_view : BrokerTierView) (x : Broker) (stops epoch : ℕ) (wanted : FetchRequest) (line : List (ℕ × ℕ)) (next : FetchStep) (ns : meta.Content) (view : EntriesSeen) (cache cache' : Cache)
      (old new : S) → IsAtTurn c p a b tier_view x stops epoch wanted line next (objects old) ns view cache → (objects new).objects ≡ (objects old).objects → cache' ≡ cache
      → IsChanged c p (after_fetch c a b tier_view Free (objects new).objects ns.notes view cache')
  ended c p a b tier_view x stops epoch wanted line next ns view cache cache' old new h same kept =
      quiet c p a b tier_view _ Free (objects old) ns view cache (objects new).objects ns.notes view cache' h.shows h.cache_is (left c p a b tier_view h.shows.tier_view_is) same refl refl kept

  pub halted : (c : Scene) (p : Plain) (a b : ℕ) (tier_view : BrokerTierView) (x : Broker) (stops epoch : ℕ) (wanted : FetchRequest) (line : List (ℕ × ℕ)) (next : FetchStep) (ns : meta.Content) (view : EntriesSeen) (cache cache' : Cache)
      (old new : S) → IsAtTurn c p a b tier_view x stops epoch wanted line next (objects old) ns view cache → (objects new).objects ≡ (objects old).objects → cache' ≡ cache
      → IsChanged c p (after_fetch c a b tier_view (Seeks (sought_of b stops epoch wanted.offset next)) (objects new).objects ns.notes view cache')
  halted c p a b tier_view x stops epoch wanted line next ns view cache cache' old new h same kept =
      quiet c p a b tier_view _ _ (objects old) ns view cache (objects new).objects ns.notes view cache' h.shows h.cache_is
      (none c p a b tier_view (Seeks (sought_of b stops epoch wanted.offset next)) h.shows.tier_view_is h.shows.actor_state) same refl refl kept

  -- a turn with the index continues
  went : (c : Scene) (p : Plain) (a b : ℕ) (tier_view : BrokerTierView) (x : Broker) (stops epoch : ℕ) (wanted : FetchRequest) (line : List (ℕ × ℕ)) (piece : Piece) (ns : meta.Content) (view : EntriesSeen) (cache cache' : Cache)
      (old new : S) (turn : Turn FetchStep) (index : OffsetTable) → IsAtTurn c p a b tier_view x stops epoch wanted line (Index piece) (objects old) ns view cache → (objects new).objects ≡ (objects old).objects
      → turn ≡ reads_by wanted piece index
      → ((id : SegmentId) (t : OffsetTable) → In (id, t) (indexes_in cache') → In (id, t) tier_view.cache ⊎ CachedStands p.paths c.notes id t)
      → IndexStands p.paths (fold c.notes) piece.id index
      → IsChanged c p (after_fetch c a b tier_view (fetch_tier_task b stops epoch wanted.offset turn) (objects new).objects ns.notes view cache')
  went c p a b tier_view x stops epoch wanted line piece ns view cache cache' old new turn index h same is are stand =
      named c p a b tier_view _ _ c.objects (objects new).objects c.notes ns.notes tier_view.view view cache' cache' (ap (fetch_tier_task b stops epoch wanted.offset) (sym is)) (h.shows.objects_are ∙ sym same)
      h.shows.notes_are h.shows.view_is refl
      (reads_on c p a b tier_view stops epoch wanted piece index cache' h.shows.tier_view_is h.shows.actor_state are stand)

  -- it was in the cache
  cached_turn : (c : Scene) (p : Plain) (a b : ℕ) (tier_view : BrokerTierView) (x : Broker) (stops epoch : ℕ) (wanted : FetchRequest) (line : List (ℕ × ℕ)) (piece : Piece) (result : Result (Turn FetchStep) AllocError)
      (ns : meta.Content) (view : EntriesSeen) (cache cache' : Cache) (old new : S) (index : OffsetTable) → IsAtTurn c p a b tier_view x stops epoch wanted line (Index piece) (objects old) ns view cache
      → found piece.id.0 cache.pairs ≡ Some index → IndexRow objects calls wanted piece view result (Some index) cache cache' old new
      → IsChanged c p (after_fetch c a b tier_view (fetch_after b stops epoch wanted.offset (Index piece) result) (objects new).objects ns.notes view cache')
  cached_turn c p a b tier_view x stops epoch wanted line piece result ns view cache cache' old new index h is row =
      let there : In (piece.id, index) tier_view.cache = subst (In (piece.id, index)) (sym h.cache_is) (found_in piece.id index cache.pairs is) in
      let stand = (h.safe.tier.caches b tier_view h.shows.tier_view_is piece.id index there).is in
      named c p a b tier_view _ _ (objects new).objects (objects new).objects ns.notes ns.notes view view cache' cache'
      (ap (fetch_after b stops epoch wanted.offset (Index piece)) (sym row.0)) refl refl refl refl
      (went c p a b tier_view x stops epoch wanted line piece ns view cache cache' old new (reads_by wanted piece index) index h (ap (λ (t : S). (objects t).objects) row.2) refl
      (λ id t has. inl (subst (In (id, t)) (sym h.cache_is) (brought_in piece.id index cache is (id, t) (subst (λ (k : Cache). In (id, t) (indexes_in k)) row.1 has)))) stand)

  -- it was read
  loaded_turn : (c : Scene) (p : Plain) (a b : ℕ) (tier_view : BrokerTierView) (x : Broker) (stops epoch : ℕ) (wanted : FetchRequest) (line : List (ℕ × ℕ)) (piece : Piece) (next : FetchStep) (ns : meta.Content) (view : EntriesSeen)
      (cache cache' : Cache) (old new : S) (place : ℕ × Spot) (bytes : List ℕ) → IsAtTurn c p a b tier_view x stops epoch wanted line (Index piece) (objects old) ns view cache
      → spot_in wanted.partition piece.id part.Index (entry_of piece.id view.entries) ≡ Some place → Gets objects calls place.1.key (all_of place.1) (Ok (Some bytes)) old new
      → IsLoaded wanted piece place.0 bytes (Goes next) cache cache'
      → IsChanged c p (after_fetch c a b tier_view (fetch_tier_task b stops epoch wanted.offset (Goes next)) (objects new).objects ns.notes view cache')
  loaded_turn c p a b tier_view x stops epoch wanted line piece next ns view cache cache' old new place bytes h at gets k =
      let r = copy_of c p a b tier_view x stops epoch wanted line (Index piece) (objects old) ns view cache piece h refl in
      let g = gives c p a b tier_view x stops epoch wanted line (Index piece) (objects old) ns view cache piece part.Index place (λ b. b) (Some bytes) tt h refl at (gets.bytes h.shows.store_tells) r in
      let is = index_read c p x piece k.index bytes r (k.base_is ∙ g.start_is) k.rises k.bytes_are g.given_is in
      let cached = index_cached c p x piece k.index r is in
      went c p a b tier_view x stops epoch wanted line piece ns view cache cache' old new (Goes next) k.index h (fun_ext gets.content.objects) k.turn_is
      (λ id t has. elim (kept_in piece.id k.index cache (id, t) (subst (λ (m : Cache). In (id, t) (indexes_in m)) k.kept_is has)) [
        | inl was ↦ inl (subst (In (id, t)) (sym h.cache_is) was)
        | inr own ↦ inr (subst (λ (q : SegmentId × OffsetTable). CachedStands p.paths c.notes q.0 q.1) (sym own) cached)
      ]) cached.is

  -- by where bytes are lacking
  bytes_turn : (end : Option ℕ) (c : Scene) (p : Plain) (a b : ℕ) (tier_view : BrokerTierView) (x : Broker) (stops epoch : ℕ) (wanted : FetchRequest) (line : List (ℕ × ℕ)) (piece : Piece)
      (result : Result (Turn FetchStep) AllocError) (ns : meta.Content) (view : EntriesSeen) (cache cache' : Cache) (old new : S) (place : ℕ × Spot) (bytes : List ℕ)
      → IsAtTurn c p a b tier_view x stops epoch wanted line (Index piece) (objects old) ns view cache
      → spot_in wanted.partition piece.id part.Index (entry_of piece.id view.entries) ≡ Some place → Gets objects calls place.1.key (all_of place.1) (Ok (Some bytes)) old new
      → LoadsBytes end wanted piece place.0 place.1 bytes result cache cache'
      → IsChanged c p (after_fetch c a b tier_view (fetch_after b stops epoch wanted.offset (Index piece) result) (objects new).objects ns.notes view cache')
  bytes_turn (Some end) c p a b tier_view x stops epoch wanted line piece result ns view cache cache' old new place bytes h at gets k =
      named c p a b tier_view _ _ (objects new).objects (objects new).objects ns.notes ns.notes view view cache' cache' (ap (fetch_after b stops epoch wanted.offset (Index piece)) (sym k.0)) refl refl refl refl
      (ended c p a b tier_view x stops epoch wanted line (Index piece) ns view cache cache' old new h (fun_ext gets.content.objects) k.1)
  bytes_turn None c p a b tier_view x stops epoch wanted line piece (Ok (Goes next)) ns view cache cache' old new place bytes h at gets k =
      loaded_turn c p a b tier_view x stops epoch wanted line piece next ns view cache cache' old new place bytes h at gets k
  bytes_turn None c p a b tier_view x stops epoch wanted line piece (Ok (Ends answer)) ns view cache cache' old new place bytes h at gets k =
      ended c p a b tier_view x stops epoch wanted line (Index piece) ns view cache cache' old new h (fun_ext gets.content.objects) k.2
  bytes_turn None c p a b tier_view x stops epoch wanted line piece (Err e) ns view cache cache' old new place bytes h at gets k =
      halted c p a b tier_view x stops epoch wanted line (Index piece) ns view cache cache' old new h (fun_ext gets.content.objects) k

  read_turn : (c : Scene) (p : Plain) (a b : ℕ) (tier_view : BrokerTierView) (x : Broker) (stops epoch : ℕ) (wanted : FetchRequest) (line : List (ℕ × ℕ)) (piece : Piece) (result : Result (Turn FetchStep) AllocError) (ns : meta.Content)
      (view : EntriesSeen) (cache cache' : Cache) (old new : S) (place : ℕ × Spot) (answer : Result (Option (List ℕ)) Trouble)
      → IsAtTurn c p a b tier_view x stops epoch wanted line (Index piece) (objects old) ns view cache
      → spot_in wanted.partition piece.id part.Index (entry_of piece.id view.entries) ≡ Some place → Gets objects calls place.1.key (all_of place.1) answer old new
      → Loads wanted piece place.0 place.1 answer result cache cache'
      → IsChanged c p (after_fetch c a b tier_view (fetch_after b stops epoch wanted.offset (Index piece) result) (objects new).objects ns.notes view cache')
  read_turn c p a b tier_view x stops epoch wanted line piece result ns view cache cache' old new place (Err Failed) h at gets k =
      named c p a b tier_view _ _ (objects new).objects (objects new).objects ns.notes ns.notes view view cache' cache' (ap (fetch_after b stops epoch wanted.offset (Index piece)) (sym k.0)) refl refl refl refl
      (ended c p a b tier_view x stops epoch wanted line (Index piece) ns view cache cache' old new h (fun_ext gets.content.objects) k.1)
  read_turn c p a b tier_view x stops epoch wanted line piece (Ok turn) ns view cache cache' old new place (Err NoMemory) h at gets k = absurd (cc (k.0))
  read_turn c p a b tier_view x stops epoch wanted line piece (Err e) ns view cache cache' old new place (Err NoMemory) h at gets k =
      halted c p a b tier_view x stops epoch wanted line (Index piece) ns view cache cache' old new h (fun_ext gets.content.objects) k.1
  read_turn c p a b tier_view x stops epoch wanted line piece result ns view cache cache' old new place (Ok None) h at gets k =
      named c p a b tier_view _ _ (objects new).objects (objects new).objects ns.notes ns.notes view view cache' cache' (ap (fetch_after b stops epoch wanted.offset (Index piece)) (sym k.0)) refl refl refl refl
      (ended c p a b tier_view x stops epoch wanted line (Index piece) ns view cache cache' old new h (fun_ext gets.content.objects) k.1)
  read_turn c p a b tier_view x stops epoch wanted line piece result ns view cache cache' old new place (Ok (Some bytes)) h at gets k =
      bytes_turn (short_of place.1 bytes) c p a b tier_view x stops epoch wanted line piece result ns view cache cache' old new place bytes h at gets k

  load_turn : (c : Scene) (p : Plain) (a b : ℕ) (tier_view : BrokerTierView) (x : Broker) (stops epoch : ℕ) (wanted : FetchRequest) (line : List (ℕ × ℕ)) (piece : Piece) (result : Result (Turn FetchStep) AllocError) (ns : meta.Content)
      (view : EntriesSeen) (cache cache' : Cache) (old new : S) (place : Option (ℕ × Spot)) → IsAtTurn c p a b tier_view x stops epoch wanted line (Index piece) (objects old) ns view cache
      → spot_in wanted.partition piece.id part.Index (entry_of piece.id view.entries) ≡ place → LoadRow objects calls wanted piece view place result cache cache' old new
      → IsChanged c p (after_fetch c a b tier_view (fetch_after b stops epoch wanted.offset (Index piece) result) (objects new).objects ns.notes view cache')
  load_turn c p a b tier_view x stops epoch wanted line piece result ns view cache cache' old new None h at row =
      named c p a b tier_view _ _ (objects new).objects (objects new).objects ns.notes ns.notes view view cache' cache' (ap (fetch_after b stops epoch wanted.offset (Index piece)) (sym row.0)) refl refl refl refl
      (ended c p a b tier_view x stops epoch wanted line (Index piece) ns view cache cache' old new h (ap (λ (t : S). (objects t).objects) row.2) row.1)
  load_turn c p a b tier_view x stops epoch wanted line piece result ns view cache cache' old new (Some place) h at row =
      read_turn c p a b tier_view x stops epoch wanted line piece result ns view cache cache' old new place row.answer h at row.gets row.loads

  index_turn : (c : Scene) (p : Plain) (a b : ℕ) (tier_view : BrokerTierView) (x : Broker) (stops epoch : ℕ) (wanted : FetchRequest) (line : List (ℕ × ℕ)) (piece : Piece) (result : Result (Turn FetchStep) AllocError) (ns : meta.Content)
      (view : EntriesSeen) (cache cache' : Cache) (old new : S) (there : Option OffsetTable) → IsAtTurn c p a b tier_view x stops epoch wanted line (Index piece) (objects old) ns view cache
      → found piece.id.0 cache.pairs ≡ there → IndexRow objects calls wanted piece view result there cache cache' old new
      → IsChanged c p (after_fetch c a b tier_view (fetch_after b stops epoch wanted.offset (Index piece) result) (objects new).objects ns.notes view cache')
  index_turn c p a b tier_view x stops epoch wanted line piece result ns view cache cache' old new (Some index) h is row =
      cached_turn c p a b tier_view x stops epoch wanted line piece result ns view cache cache' old new index h is row
  index_turn c p a b tier_view x stops epoch wanted line piece result ns view cache cache' old new None h is row =
      load_turn c p a b tier_view x stops epoch wanted line piece result ns view cache cache' old new (spot_in wanted.partition piece.id part.Index (entry_of piece.id view.entries)) h refl row

  -- the last turn changes nothing, and goes no further

  log_keeps : (wanted : FetchRequest) (piece : Piece) (span : Span) (view : EntriesSeen) (place : Option (ℕ × Spot)) (result : Result (Turn FetchStep) AllocError) (old new : S)
      → LogRow objects calls wanted piece span view place result old new → (objects new).objects ≡ (objects old).objects
  log_keeps wanted piece span view None result old new row = ap (λ (t : S). (objects t).objects) row.1
  log_keeps wanted piece span view (Some place) result old new row = fun_ext row.gets.content.objects

  cuts_end : (wanted : FetchRequest) (piece : Piece) (spot : Spot) (span : Span) (answer : Result (Option (List ℕ)) Trouble) (next : FetchStep) → CutsRunOut wanted piece spot span answer (Ok (Goes next)) → ⊥
  cuts_end wanted piece spot span (Err Failed) next k = cc (k)
  cuts_end wanted piece spot span (Err NoMemory) next k = cc (k)
  cuts_end wanted piece spot span (Ok None) next k = cc (k)
  cuts_end wanted piece spot span (Ok (Some bytes)) next k = by (short_in spot span.from span.most bytes) k
    where
      by : (end : Option ℕ) → CutsBytes end wanted piece spot span bytes (Ok (Goes next)) → ⊥
      by (Some end) k = cc (k)
      by None k = k

  log_ends : (wanted : FetchRequest) (piece : Piece) (span : Span) (view : EntriesSeen) (place : Option (ℕ × Spot)) (next : FetchStep) (old new : S)
      → LogRow objects calls wanted piece span view place (Ok (Goes next)) old new → ⊥
  log_ends wanted piece span view None next old new row = cc (row.0)
  log_ends wanted piece span view (Some place) next old new row = cuts_end wanted piece place.1 span row.answer next row.cuts

  log_turn : (c : Scene) (p : Plain) (a b : ℕ) (tier_view : BrokerTierView) (x : Broker) (stops epoch : ℕ) (wanted : FetchRequest) (line : List (ℕ × ℕ)) (piece : Piece) (span : Span) (result : Result (Turn FetchStep) AllocError)
      (ns : meta.Content) (view : EntriesSeen) (cache : Cache) (old new : S) (place : Option (ℕ × Spot)) → IsAtTurn c p a b tier_view x stops epoch wanted line (Log piece span) (objects old) ns view cache
      → LogRow objects calls wanted piece span view place result old new
      → IsChanged c p (after_fetch c a b tier_view (fetch_after b stops epoch wanted.offset (Log piece span) result) (objects new).objects ns.notes view cache)
  log_turn c p a b tier_view x stops epoch wanted line piece span (Ok (Goes next)) ns view cache old new place h row = absurd (log_ends wanted piece span view place next old new row)
  log_turn c p a b tier_view x stops epoch wanted line piece span (Ok (Ends answer)) ns view cache old new place h row =
      ended c p a b tier_view x stops epoch wanted line (Log piece span) ns view cache cache old new h (log_keeps wanted piece span view place (Ok (Ends answer)) old new row) refl
  log_turn c p a b tier_view x stops epoch wanted line piece span (Err e) ns view cache old new place h row =
      halted c p a b tier_view x stops epoch wanted line (Log piece span) ns view cache cache old new h (log_keeps wanted piece span view place (Err e) old new row) refl

  -- all of them

  pub fetch_turns : FetchTurnsChange objects calls notes notings
  fetch_turns wanted line Refresh result old new c p a b tier_view x stops epoch row h =
      named c p a b tier_view _ _ (objects old.store).objects (objects new.store).objects (notes new.meta).notes (notes new.meta).notes new.view new.view old.cache new.cache refl
      (ap (λ (t : Tiers S M). (objects t.store).objects) (sym row.0)) refl refl (ap (λ (t : Tiers S M). t.cache) (sym row.0))
      (refresh_turn c p a b tier_view x stops epoch wanted line result (objects old.store) old.cache old.view new.view old.meta new.meta h row.1)
  fetch_turns wanted line (Index piece) result old new c p a b tier_view x stops epoch row h =
      named c p a b tier_view _ _ (objects new.store).objects (objects new.store).objects (notes old.meta).notes (notes new.meta).notes old.view new.view new.cache new.cache refl refl
      (ap (λ (t : Tiers S M). (notes t.meta).notes) (sym row.0)) (ap (λ (t : Tiers S M). t.view) (sym row.0)) refl
      (index_turn c p a b tier_view x stops epoch wanted line piece result (notes old.meta) old.view old.cache new.cache old.store new.store (found piece.id.0 old.cache.pairs) h refl row.1)
  fetch_turns wanted line (Log piece span) result old new c p a b tier_view x stops epoch row h =
      named c p a b tier_view _ _ (objects new.store).objects (objects new.store).objects (notes old.meta).notes (notes new.meta).notes old.view new.view old.cache new.cache refl refl
      (ap (λ (t : Tiers S M). (notes t.meta).notes) (sym row.0)) (ap (λ (t : Tiers S M). t.view) (sym row.0)) (ap (λ (t : Tiers S M). t.cache) (sym row.0))
      (log_turn c p a b tier_view x stops epoch wanted line piece span result (notes old.meta) old.view old.cache old.store new.store _ h row.1)
