-- What a turn of a fetch from the remote tier finds exists, and the last one finds a run in what it reads.
use Rattle.std.proofs.Common.{◌≡◌, ◌∙◌, inl, inr, sym, ap, subst, refl, ℕ, ◌-◌, ◌<◌, ◌≤◌, min, List, take, drop, Option, Some, None, Result, Ok, Err, arith}
use Rattle.std.specs.Prelude.{option_map, IfOk}
use mathlib.Core.List.{IsPrefix}
use Rattle.tier_base.specs.declared.fault.Trouble.{Trouble}
use Rattle.tier_base.specs.declared.fault.Trouble.TheVariants.{Failed, NoMemory}
use Rattle.tier_base.specs.declared.plain.Part.{Part}
use Rattle.tier_base.specs.declared.plain.Part.TheVariants as part
use Rattle.tier_base.specs.Device.{Control}
use Rattle.tier_base.specs.Told.{In}
use Rattle.log_terms.specs.Log.{joined, end_of, end_from, EndsAt}
use Rattle.log_terms.proofs.Lists.{prefix_self}
use Rattle.sparse_index.specs.Offsets.{OffsetTable}
use Rattle.index_cache.specs.Cache.{Cache, found}
use Rattle.segment_file.specs.Index.{placed_from, index_of}
use Rattle.segment_file.specs.Run.{IsBadAt}
use Rattle.segment_meta.specs.declared.note.Entry.{Entry}
use Rattle.segment_meta.specs.declared.note.Note.{Note}
use Rattle.object_store.specs.Call as store_call
use Rattle.object_store.specs.Content as store
use Rattle.object_store.specs.Calls.{Gets}
use Rattle.object_store.specs.Place.{key_of, all_of, some_of, short_of, short_in}
use Rattle.object_store.proofs.Parts.{piece_not_short}
use Rattle.object_store.specs.declared.placing.Spot.{Spot}
use Rattle.meta_log.specs.Call as meta_call
use Rattle.meta_log.specs.Content as meta
use Rattle.view_refresh.specs.Refreshing.{Refreshes}
use Rattle.plain_log.specs.declared.state.State.{State as Plain}
use Rattle.plain_log.specs.declared.state.Broker.{Broker}
use Rattle.plain_log.specs.declared.state.Role.{Role}
use Rattle.plain_log.specs.declared.answer.Answer.TheVariants.{Damaged}
use Rattle.plain_log.specs.declared.answer.Place.{Place}
use Rattle.plain_log.specs.declared.answer.Place.TheVariants.{Key}
use Rattle.plain_log.specs.Safe.{RoleSafe}
use Rattle.plain_log.specs.State.{path_of}
use Rattle.remote_view.specs.Fold.{EntriesSeen, entry_of, fold}
use Rattle.remote_find.specs.declared.piece.Piece.{Piece}
use Rattle.remote_find.specs.Pieces.{piece_at}
use Rattle.tier_fetch.specs.declared.turn.FetchRequest.{FetchRequest}
use Rattle.tier_fetch.specs.declared.turn.Span.{Span}
use Rattle.tier_fetch.specs.declared.turn.FetchStep.{FetchStep}
use Rattle.tier_fetch.specs.declared.turn.FetchStep.TheVariants.{Refresh, Index, Log}
use Rattle.plain_log.specs.declared.turn.Turn.TheVariants.{Goes, Ends}
use Rattle.tier_fetch.specs.Span.{span_of}
use Rattle.tier_fetch.specs.Turns.{Tiers, spot_in, chosen, LoadsBytes, Loads, CutsBytes, CutsRunOut, RefreshRow, LoadRow, IndexRow, LogRow, RemoteFetchRow}
use Rattle.tier_safe.specs.Fetches.{IsIndexOf}
use Rattle.tier_safe.specs.Kept.{whole_of}
use Rattle.tier_safe.specs.Scene.{BrokerTierView, Seeks, Scene}
use Rattle.tier_safe.proofs.Agreeing.{has_safe, describes_one}
use Rattle.tier_safe.proofs.Basics.{one_some}
use Rattle.tier_safe.proofs.Entries.{prefix_goes}
use Rattle.tier_safe.proofs.Fetching.{index_follows}
use Rattle.tier_safe.proofs.Rules.{seen_kept}
use Rattle.tier_safe.proofs.Serving.{FetchReads}
use Rattle.tier_safe.proofs.Turning.{sees_all}
use Rattle.laws_tier_fetch.specs.Seeking.{sought_of, IsAtTurn}
use Rattle.laws_tier_fetch.specs.Spans.{EndsIn, read_in}
use Rattle.laws_tier_fetch.proofs.Damaging.{damage_is_of_logs}
use Rattle.laws_tier_fetch.proofs.Pairs.{found_in}
use Rattle.laws_tier_fetch.proofs.Reading.{copy_of, IsGiven, gives, index_read}
use Rattle.laws_tier_fetch.proofs.Spanning.{spans_hold}
use Rattle.laws_tier_fetch.proofs.Turning.{shown}
use Rattle.laws_answers.specs.Found.{PieceEnds, FetchHasFound}
use Rattle.laws_answers.proofs.EndsOfPieces.{piece_ends, shared_end, turned, end_behind, one_of_both}

module _ (c : Scene) (p : Plain) (a b : ℕ) (tier_view : BrokerTierView) (x : Broker) (stops epoch : ℕ) (wanted : FetchRequest) (line : List (ℕ × ℕ)) where
  -- a turn of the fetch, before which it has this next
  abbrev At : FetchStep → store.Content → meta.Content → EntriesSeen → Cache → Type 0
  At next s n view cache = IsAtTurn c p a b tier_view x stops epoch wanted line next s n view cache

  -- its broker's log is the path of its epoch
  led : (next : FetchStep) (s : store.Content) (n : meta.Content) (view : EntriesSeen) (cache : Cache) → At next s n view cache → path_of p.paths epoch ≡ Some x.log
  led next s n view cache h = (subst (λ (r : Role). RoleSafe p.paths p.registry.epoch r x.log) h.leads.role (h.safe.plain.brokers b x h.broker_is).role).1

  -- so an end of that path's is one of the log
  log_end : (next : FetchStep) (s : store.Content) (n : meta.Content) (view : EntriesSeen) (cache : Cache) (piece : Piece) → At next s n view cache → PieceEnds p.paths epoch piece → EndsAt piece.to x.log
  log_end next s n view cache piece h e =
      let same : e.begins.0 ≡ x.log = one_some (path_of p.paths epoch) e.begins.0 x.log e.begins.1 (led next s n view cache h) in
      (e.front, subst (IsPrefix e.front) same e.begins.2, e.ends)

  -- and of the copy's batches, up to the piece's end
  copy_end : (next : FetchStep) (s : store.Content) (n : meta.Content) (view : EntriesSeen) (cache : Cache) (piece : Piece) (m : ℕ) → At next s n view cache → (r : FetchReads c p x piece)
      → r.entry.start ≤ m → m ≤ piece.to → 0 < piece.to → EndsAt m x.log → EndsIn r.entry.start r.stored_whole.batches m
  copy_end next s n view cache piece m h r low high some e =
      let part = r.stored_whole.describes.part in
      let whole = whole_of r.stored_whole in
      let safe = has_safe p part.epoch whole h.safe.plain part.begins in
      let log = (h.safe.plain.brokers b x h.broker_is).log in
      let ends = shared_end x.log whole m (piece.to - 1) log.consecutive e (turned whole x.log (piece.to - 1) r.shares) (omega (arith, high, some)) in
      let k = end_behind part.front r.stored_whole.batches m safe.consecutive (omega (arith, part.ends, low)) ends in
      (k.0, k.1, ap (λ (f : ℕ). end_from f k.0) (sym part.ends) ∙ k.2)

  -- no place is bad in the bytes that the last turn reads
  none_bad : (s : store.Content) (n : meta.Content) (view : EntriesSeen) (cache : Cache) (piece : Piece) (span : Span) (at : ℕ) → At (Log piece span) s n view cache → (r : FetchReads c p x piece)
      → FetchHasFound p.paths c.notes epoch wanted.offset wanted.limit (Log piece span) → wanted.offset < wanted.mark → EndsAt wanted.mark x.log
      → IsBadAt (take span.most (drop span.from (joined r.stored_whole.batches))) wanted.offset wanted.limit (min wanted.mark piece.to) at → ⊥
  none_bad s n view cache piece span at h r f below marked bad =
      let next = Log piece span in
      let k = (h.safe.tier.fetches a (sought_of b stops epoch wanted.offset next) tier_view x h.shows.actor_state h.shows.tier_view_is h.broker_is).piece piece refl h.leads h.past in
      let holds = k.holds in
      let from = holds.0 in
      let to = holds.1 in
      let start = r.within.0 in
      let low : r.entry.start ≤ wanted.offset = omega (arith, from, start) in
      let piece_end = log_end next s n view cache piece h f.0 in
      let bound = min wanted.mark piece.to in
      let past : wanted.offset < bound = omega (arith, below, to) in
      let bound_end : EndsAt bound x.log = elim (one_of_both wanted.mark piece.to bound refl) [
        | inl mark ↦ subst (λ (m : ℕ). EndsAt m x.log) (sym mark) marked
        | inr end ↦ subst (λ (m : ℕ). EndsAt m x.log) (sym end) piece_end
      ] in
      let one = copy_end next s n view cache piece bound h r (omega (arith, low, past)) (omega arith) (omega (arith, to)) bound_end in
      let two = copy_end next s n view cache piece piece.to h r (omega (arith, low, to)) (omega arith) (omega (arith, to)) piece_end in
      -- the span is the one of its batches' index
      let q = f.1 in
      let y = prefix_goes q.before c.notes piece.id q.entry q.begins q.there in
      let same : y.0 ≡ r.entry = one_some (entry_of piece.id (fold c.notes)) y.0 r.entry y.1 r.there in
      let index : IsIndexOf p.paths r.entry q.index = subst (λ (e : Entry). IsIndexOf p.paths e q.index) same (index_follows p.paths q.entry y.0 q.index y.2 q.is) in
      let batches = describes_one p r.entry index.batches r.stored_whole.batches index.line r.stored_whole.line h.safe.plain index.describes r.stored_whole.describes in
      let own : q.index ≡ index_of r.entry.start index.interval (placed_from 0 r.stored_whole.batches) =
      index.is ∙ ap (λ (bs : List (List ℕ)). index_of r.entry.start index.interval (placed_from 0 bs)) batches in
      let span_is : span ≡ span_of (index_of r.entry.start index.interval (placed_from 0 r.stored_whole.batches)) wanted.offset wanted.limit piece.to =
      q.span_is ∙ ap (λ (t : OffsetTable). span_of t wanted.offset wanted.limit piece.to) own in
      spans_hold r.entry.start index.interval r.stored_whole.batches wanted.offset wanted.limit wanted.mark piece.to at r.stored_whole.describes.is low past one two
      (subst (λ (k : Span). IsBadAt (read_in r.stored_whole.batches k) wanted.offset wanted.limit bound at) span_is bad)

  -- an index of the copy's batches shows such a span
  spanned : (piece : Piece) (index : OffsetTable) → PieceEnds p.paths epoch piece → (r : FetchReads c p x piece) → IsIndexOf p.paths r.entry index
      → FetchHasFound p.paths c.notes epoch wanted.offset wanted.limit (Log piece (span_of index wanted.offset wanted.limit piece.to))
  spanned piece index ends r is = (ends, record { before = c.notes; begins = prefix_self c.notes; entry = r.entry; there = r.there; finished = r.finished; index = index; is = is; span_is = refl })

  module _ {S M : Type 0} (objects : S → store.Content) (calls : S → Control store_call.call_code)
      (notes : M → meta.Content) (notings : M → Control meta_call.call_code) where
    -- what a refresh finds ends where a batch does
    chosen_found : (seen : ℕ) (after : EntriesSeen) (piece : Option Piece) (later : FetchStep) (more : List Note) → piece_at after.entries line (end_of x.log) wanted.offset ≡ piece → Goes later ≡ chosen seen piece
        → ((found : Piece) → piece_at after.entries line (end_of x.log) wanted.offset ≡ Some found → PieceEnds p.paths epoch found) → FetchHasFound p.paths more epoch wanted.offset wanted.limit later
    chosen_found seen after None later more made is ends = absurd (cc (is))
    chosen_found seen after (Some piece) later more made is ends =
        let same : Index piece ≡ later = cc (is) in
        subst (FetchHasFound p.paths more epoch wanted.offset wanted.limit) same (ends piece made)

    pub refresh_found : (s : store.Content) (cache : Cache) (view after : EntriesSeen) (old new : M) (later : FetchStep) (more : List Note) → At Refresh s (notes old) view cache
        → RefreshRow notes notings wanted line (Ok (Goes later)) view after old new → FetchHasFound p.paths more epoch wanted.offset wanted.limit later
    refresh_found s cache view after old new later more h row =
        let r : Refreshes (notes old) tier_view.view after = subst (λ (v : EntriesSeen). Refreshes (notes old) v after) (sym h.shows.view_is) row.1.view in
        let all = sees_all objects calls notes notings c p a b tier_view (Seeks (sought_of b stops epoch wanted.offset Refresh)) s old after
        (shown c a b tier_view (Seeks (sought_of b stops epoch wanted.offset Refresh)) s (notes old) view h.shows) h.few (h.safe.tier.views b tier_view h.shows.tier_view_is) r in
        let kept = seen_kept c.notes c.notes c.desk h.safe.tier.notes (prefix_self c.notes) in
        let entries : after.entries ≡ fold c.notes = ap (λ (v : EntriesSeen). v.entries) all.0 in
        let ends : (found : Piece) → piece_at after.entries line (end_of x.log) wanted.offset ≡ Some found → PieceEnds p.paths epoch found = λ found made.
        (let e = piece_ends p c.objects (fold c.notes) line x.log wanted.offset found h.safe.plain h.safe.tier.finished kept.0 kept.1 h.is_observable (h.safe.plain.brokers b x h.broker_is).log
        (subst (λ (es : List Entry). piece_at es line (end_of x.log) wanted.offset ≡ Some found) entries made) in
        record { front = e.0; begins = (x.log, led Refresh s (notes old) view cache h, e.1); ends = e.2 }) in
        chosen_found after.notes after (piece_at after.entries line (end_of x.log) wanted.offset) later more refl
        (row.0 ∙ ap (λ (e : ℕ). chosen after.notes (piece_at after.entries line e wanted.offset)) h.end_is) ends

    -- so does what an index shows
    loads_found : (ns : meta.Content) (view : EntriesSeen) (cache cache' : Cache) (old new : S) (piece : Piece) (place : ℕ × Spot) (later : FetchStep) (answer : Result (Option (List ℕ)) Trouble)
        → At (Index piece) (objects old) ns view cache → spot_in wanted.partition piece.id part.Index (entry_of piece.id view.entries) ≡ Some place
        → Gets objects calls place.1.key (all_of place.1) answer old new → Loads wanted piece place.0 place.1 answer (Ok (Goes later)) cache cache' → PieceEnds p.paths epoch piece
        → FetchHasFound p.paths c.notes epoch wanted.offset wanted.limit later
    loads_found ns view cache cache' old new piece place later (Err Failed) h at gets k ends = let e = k.0 in absurd (cc (e))
    loads_found ns view cache cache' old new piece place later (Err NoMemory) h at gets k ends = let e = k.0 in absurd (cc (e))
    loads_found ns view cache cache' old new piece place later (Ok None) h at gets k ends = let e = k.0 in absurd (cc (e))
    loads_found ns view cache cache' old new piece place later (Ok (Some bytes)) h at gets k ends = by (short_of place.1 bytes) k
      where
        by : (end : Option ℕ) → LoadsBytes end wanted piece place.0 place.1 bytes (Ok (Goes later)) cache cache' → FetchHasFound p.paths c.notes epoch wanted.offset wanted.limit later
        by (Some end) k = let e = k.0 in absurd (cc (e))
        by None k =
            let r = copy_of c p a b tier_view x stops epoch wanted line (Index piece) (objects old) ns view cache piece h refl in
            let g = gives c p a b tier_view x stops epoch wanted line (Index piece) (objects old) ns view cache piece part.Index place (λ bytes. bytes) (Some bytes) tt h refl at
            (gets.bytes h.shows.store_tells) r in
            let is = index_read c p x piece k.index bytes r (k.base_is ∙ g.start_is) k.rises k.bytes_are g.given_is in
            let same : Log piece (span_of k.index wanted.offset wanted.limit piece.to) ≡ later = (let e = k.turn_is in cc (e)) in
            subst (FetchHasFound p.paths c.notes epoch wanted.offset wanted.limit) same
            (spanned piece k.index ends r (record { batches = r.stored_whole.batches; line = r.stored_whole.line; interval = r.stored_whole.interval; describes = r.stored_whole.describes; is = is }))

    load_found : (ns : meta.Content) (view : EntriesSeen) (cache cache' : Cache) (old new : S) (piece : Piece) (place : Option (ℕ × Spot)) (later : FetchStep) → At (Index piece) (objects old) ns view cache
        → spot_in wanted.partition piece.id part.Index (entry_of piece.id view.entries) ≡ place → LoadRow objects calls wanted piece view place (Ok (Goes later)) cache cache' old new
        → PieceEnds p.paths epoch piece → FetchHasFound p.paths c.notes epoch wanted.offset wanted.limit later
    load_found ns view cache cache' old new piece None later h at row ends = let e = row.0 in absurd (cc (e))
    load_found ns view cache cache' old new piece (Some place) later h at row ends = loads_found ns view cache cache' old new piece place later row.answer h at row.gets row.loads ends

    pub index_found : (ns : meta.Content) (view : EntriesSeen) (cache cache' : Cache) (old new : S) (piece : Piece) (there : Option OffsetTable) (later : FetchStep) → At (Index piece) (objects old) ns view cache
        → found piece.id.0 cache.pairs ≡ there → IndexRow objects calls wanted piece view (Ok (Goes later)) there cache cache' old new → PieceEnds p.paths epoch piece
        → FetchHasFound p.paths c.notes epoch wanted.offset wanted.limit later
    index_found ns view cache cache' old new piece (Some index) later h at row ends =
        let r = copy_of c p a b tier_view x stops epoch wanted line (Index piece) (objects old) ns view cache piece h refl in
        let has : In (piece.id, index) tier_view.cache = subst (In (piece.id, index)) (sym h.cache_is) (found_in piece.id index cache.pairs at) in
        let is = (h.safe.tier.caches b tier_view h.shows.tier_view_is piece.id index has).is r.entry r.there r.finished in
        let same : Log piece (span_of index wanted.offset wanted.limit piece.to) ≡ later = (let e = row.0 in cc (e)) in
        subst (FetchHasFound p.paths c.notes epoch wanted.offset wanted.limit) same (spanned piece index ends r is)
    index_found ns view cache cache' old new piece None later h at row ends =
        load_found ns view cache cache' old new piece (spot_in wanted.partition piece.id part.Index (entry_of piece.id view.entries)) later h refl row ends

    -- the last turn isn't damaged
    cuts_whole : (ns : meta.Content) (view : EntriesSeen) (cache : Cache) (old new : S) (piece : Piece) (span : Span) (spot : ℕ × Spot) (place : Place) (at : ℕ) (answer : Result (Option (List ℕ)) Trouble)
        → At (Log piece span) (objects old) ns view cache → spot_in wanted.partition piece.id part.Log (entry_of piece.id view.entries) ≡ Some spot
        → Gets objects calls spot.1.key (some_of spot.1 span.from span.most) answer old new → CutsRunOut wanted piece spot.1 span answer (Ok (Ends (Damaged place at)))
        → FetchHasFound p.paths c.notes epoch wanted.offset wanted.limit (Log piece span) → wanted.offset < wanted.mark → EndsAt wanted.mark x.log → ⊥
    cuts_whole ns view cache old new piece span spot place at answer h stood gets k f below marked = by answer (gets.bytes h.shows.store_tells) k
      where
        r : FetchReads c p x piece
        r = copy_of c p a b tier_view x stops epoch wanted line (Log piece span) (objects old) ns view cache piece h refl

        -- what is read is of the copy's batches, and all of it that is owed
        read : (given : Option (List ℕ)) → given ≡ option_map (some_of spot.1 span.from span.most) ((objects old).objects spot.1.key)
            → IsGiven spot r.entry.start (joined r.stored_whole.batches) (λ bytes. take span.most (drop span.from bytes)) given
        read given is = gives c p a b tier_view x stops epoch wanted line (Log piece span) (objects old) ns view cache piece part.Log spot (λ bytes. take span.most (drop span.from bytes)) given tt h refl stood is r

        by : (answer : Result (Option (List ℕ)) Trouble)
            → IfOk answer (λ (given : Option (List ℕ)). given ≡ option_map (some_of spot.1 span.from span.most) ((objects old).objects spot.1.key))
            → CutsRunOut wanted piece spot.1 span answer (Ok (Ends (Damaged place at))) → ⊥
        by (Err Failed) is k = cc (k)
        by (Err NoMemory) is k = cc (k)
        by (Ok None) is k = let g = read None is in let e = g.given_is in cc (e)
        by (Ok (Some bytes)) is k =
            let g = read (Some bytes) is in
            let e : bytes ≡ take span.most (drop span.from (joined r.stored_whole.batches)) =
            one_some (Some bytes) bytes (take span.most (drop span.from (joined r.stored_whole.batches))) refl g.given_is in
            let all : short_in spot.1 span.from span.most bytes ≡ None =
            ap (short_in spot.1 span.from span.most) e ∙ piece_not_short spot.1 span.from span.most (joined r.stored_whole.batches) g.whole in
            let bad = subst (λ (end : Option ℕ). CutsBytes end wanted piece spot.1 span bytes (Ok (Ends (Damaged place at)))) all k in
            none_bad (objects old) ns view cache piece span bad.found h r f below marked
            (subst (λ (given : List ℕ). IsBadAt given wanted.offset wanted.limit (min wanted.mark piece.to) bad.found) e bad.bad)

    log_whole : (ns : meta.Content) (view : EntriesSeen) (cache : Cache) (old new : S) (piece : Piece) (span : Span) (spot : Option (ℕ × Spot)) (place : Place) (at : ℕ) (home : Part)
        → At (Log piece span) (objects old) ns view cache → spot_in wanted.partition piece.id part.Log (entry_of piece.id view.entries) ≡ spot
        → LogRow objects calls wanted piece span view spot (Ok (Ends (Damaged place at))) old new → place ≡ Key (key_of wanted.partition piece.id home)
        → FetchHasFound p.paths c.notes epoch wanted.offset wanted.limit (Log piece span) → wanted.offset < wanted.mark → EndsAt wanted.mark x.log → ⊥
    log_whole ns view cache old new piece span None place at home h stood row is f below marked = let e = row.0 in cc (e, is)
    log_whole ns view cache old new piece span (Some spot) place at home h stood row is f below marked =
        cuts_whole ns view cache old new piece span spot place at row.answer h stood row.gets row.cuts f below marked

    pub not_damaged : (next : FetchStep) (place : Place) (at : ℕ) (old new : Tiers S M) → At next (objects old.store) (notes old.meta) old.view old.cache
        → RemoteFetchRow objects calls notes notings wanted line next (Ok (Ends (Damaged place at))) old new → FetchHasFound p.paths c.notes epoch wanted.offset wanted.limit next
        → wanted.offset < wanted.mark → EndsAt wanted.mark x.log → ⊥
    not_damaged Refresh place at old new h row f below marked =
        let k = damage_is_of_logs objects calls notes notings wanted line Refresh place at old new c p a b tier_view x stops epoch row h in let e = k.next_is in cc (e)
    not_damaged (Index piece) place at old new h row f below marked =
        let k = damage_is_of_logs objects calls notes notings wanted line (Index piece) place at old new c p a b tier_view x stops epoch row h in let e = k.next_is in cc (e)
    not_damaged (Log piece span) place at old new h row f below marked =
        let k = damage_is_of_logs objects calls notes notings wanted line (Log piece span) place at old new c p a b tier_view x stops epoch row h in
        let same : k.piece ≡ piece = (let e = k.next_is in cc (e)) in
        log_whole (notes old.meta) old.view old.cache old.store new.store piece span (spot_in wanted.partition piece.id part.Log (entry_of piece.id old.view.entries)) place at k.home h refl row.1
        (k.place_is ∙ ap (λ (q : Piece). Key (key_of wanted.partition q.id k.home)) same) f below marked
