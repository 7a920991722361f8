-- A run that is cut out of a copy's log is the log's own run.
use Rattle.std.proofs.Common.{◌≡◌, ◌∙◌, sym, ap, subst, refl, ℕ, ◌+◌, ◌<◌, ◌≤◌, min, Bool, true, false, cond, nat_lt, List, [], ◌∷◌, ◌++◌, length, take, drop, Option, Some, None, Result, Ok, Err, IsOk, arith, append_assoc}
use Rattle.std.specs.List.{AllByRecursion}
use Rattle.std.proofs.Math.Nat.{min-le_left, min-le_right}
use Rattle.std.proofs.lemmas.List.Elements.{All-from_recursion}
use Rattle.tier_base.specs.declared.fault.Trouble.{Trouble}
use Rattle.tier_base.specs.declared.fault.Trouble.TheVariants.{Failed, NoMemory}
use Rattle.tier_base.specs.declared.plain.Part.TheVariants as part
use Rattle.tier_base.specs.declared.plain.Stop.{Stop}
use Rattle.tier_base.specs.declared.plain.Stop.TheVariants.{Mark, Piece as PieceEnd, Limit}
use Rattle.tier_base.specs.Device.{Control}
use Rattle.log_terms.specs.Batch.{field_at, base_of, epoch_of, last_of}
use Rattle.log_terms.specs.Line.{epoch_holding}
use Rattle.log_terms.specs.Log.{IsConsecutive, joined, from_offset, end_from, end_of}
use Rattle.log_terms.proofs.Logs.{lt_false, end_append, end_above}
use Rattle.record_batch.specs.Check.{checked, headed}
use Rattle.segment_file.specs.declared.taking.Cutout.{Cutout}
use Rattle.segment_file.specs.Run.{Fits}
use Rattle.segment_file.specs.Run as cutting
use Rattle.segment_file.proofs.Joining.{consecutive_parts}
use Rattle.object_store.specs.Call as store_call
use Rattle.object_store.specs.Content as store
use Rattle.object_store.specs.Calls.{Gets}
use Rattle.object_store.specs.Place.{some_of, short_of, short_in}
use Rattle.object_store.specs.declared.placing.Spot.{Spot}
use Rattle.meta_log.specs.Call as meta_call
use Rattle.meta_log.specs.Content as meta
use Rattle.index_cache.specs.Cache.{Cache, found}
use Rattle.sparse_index.specs.Offsets.{OffsetTable}
use Rattle.plain_log.specs.declared.state.State.{State as Plain}
use Rattle.plain_log.specs.declared.state.Broker.{Broker}
use Rattle.plain_log.specs.declared.answer.Answer.TheVariants.{Run}
use Rattle.plain_log.specs.declared.answer.Tier.{Tier}
use Rattle.plain_log.specs.Fetch.{is_within}
use Rattle.laws_partition.specs.Log.{HasBytes, WouldPass, IsRunOf}
use Rattle.laws_partition.specs.Log as seen
use Rattle.laws_partition.proofs.BoolTests.{le_true}
use Rattle.remote_view.specs.Fold.{EntriesSeen, entry_of}
use Rattle.remote_find.specs.declared.piece.Piece.{Piece}
use Rattle.remote_find.specs.Pieces.{piece_at}
use Rattle.tier_fetch.specs.declared.turn.FetchRequest.{FetchRequest}
use Rattle.tier_fetch.specs.declared.turn.Span.{Span}
use Rattle.tier_fetch.specs.declared.turn.FetchStep.{FetchStep}
use Rattle.tier_fetch.specs.declared.turn.FetchStep.TheVariants.{Refresh, Index, Log}
use Rattle.plain_log.specs.declared.turn.Turn.TheVariants.{Ends}
use Rattle.tier_fetch.specs.Turns.{spot_in, chosen, LoadsBytes, Loads, CutsBytes, CutsRunOut, LoadRow, IndexRow, LogRow}
use Rattle.tier_fetch.specs.Turns as fetch
use Rattle.tier_safe.specs.Scene.{BrokerTierView, Scene}
use Rattle.tier_safe.proofs.Agreeing.{back_at}
use Rattle.tier_safe.proofs.Basics.{one_some}
use Rattle.tier_safe.proofs.Serving.{FetchReads, fetch_from, fetch_runs, fetch_next}
use Rattle.laws_tier_fetch.specs.Seeking.{sought_of, IsAtTurn}
use Rattle.laws_tier_fetch.specs.Runs.{IsRunBytes, ServesRun, FetchRunsAreLogs}
use Rattle.laws_tier_fetch.proofs.Cutting.{parted, past_first, cut_run}
use Rattle.laws_tier_fetch.proofs.Reading.{copy_of, gives}

-- what is seen of a run

none_base : base_of [] ≡ 0
unfolding base_of field_at
none_base = refl

has_bytes : (n : ℕ) (rest : List (List ℕ)) → IsConsecutive n rest → 0 < n → HasBytes rest
has_bytes n [] c some = tt
has_bytes n ([] ∷ rest) c some = absurd (let zero_is = none_base in omega (arith, c.0, zero_is, some))
has_bytes n ((byte ∷ batch) ∷ rest) c some = omega arith

within_of : (limit : ℕ) (first : List ℕ) (run : List (List ℕ)) → Fits limit (first ∷ run) → is_within limit (first ∷ run) ≡ true
within_of limit first [] fits = refl
within_of limit first (next ∷ run) fits = le_true (length (joined (first ∷ next ∷ run))) limit fits

-- a log has the epoch of its batch at the batch's last offset
holding_last : (batch : List ℕ) (rest : List (List ℕ)) → epoch_holding (batch ∷ rest) (last_of batch) ≡ Some (epoch_of batch)
holding_last batch rest = rw (lt_false (last_of batch) (base_of batch) (omega arith), le_true (last_of batch) (last_of batch) (omega arith)) refl

-- so batches in a part that is of one epoch are of that epoch
one_epoch : (log front run rest : List (List ℕ)) (epoch from to n : ℕ) → front ++ (run ++ rest) ≡ log → IsConsecutive 0 log → IsConsecutive n (run ++ rest) → end_of front ≡ n
    → ((o : ℕ) → from ≤ o → o < to → epoch_holding log o ≡ Some epoch) → from ≤ n → end_from n run ≤ to → AllByRecursion (λ (b : List ℕ). Some (epoch_of b) ≡ Some epoch) run
one_epoch log front [] rest epoch from to n is c k end of low high = tt
one_epoch log front (b ∷ run) rest epoch from to n is c k end of low high =
    let up = end_above (last_of b + 1) run (consecutive_parts (last_of b + 1) run rest k.1).0 in
    let base = k.0 in
    let here : epoch_holding log (last_of b) ≡ Some (epoch_of b) =
    ap (λ (l : List (List ℕ)). epoch_holding l (last_of b)) (sym is)
    ∙ back_at 0 front ((b ∷ run) ++ rest) (last_of b) (subst (IsConsecutive 0) (sym is) c) (omega (arith, end, base))
    ∙ holding_last b (run ++ rest) in (
      sym here ∙ of (last_of b) (omega (arith, low, base)) (omega (arith, up, high)),
      one_epoch log (front ++ b ∷ []) run rest epoch from to (last_of b + 1) (append_assoc front (b ∷ []) (run ++ rest) ∙ is) c k.1 (end_append 0 front (b ∷ [])) of
          (omega (arith, low, base)) high,
    )

-- first batches of a log from an offset on, which end within a part of one epoch, are a run of it
shown : (log : List (List ℕ)) (offset limit mark from to epoch : ℕ) (stop : Stop) (first : List ℕ) (others rest : List (List ℕ)) → IsConsecutive 0 log
    → from_offset offset log ≡ (first ∷ others) ++ rest → from ≤ offset → end_of (first ∷ others) ≤ to → ((o : ℕ) → from ≤ o → o < to → epoch_holding log o ≡ Some epoch)
    → Fits limit (first ∷ others) → end_of (first ∷ others) ≤ mark → seen.StopIs stop (first ∷ others) rest limit mark → IsRunOf log offset limit mark stop (first ∷ others)
shown log offset limit mark from to epoch stop first others rest c parts low high of fits below stop_is =
    let front = parted offset log in
    let whole : log ≡ front.0 ++ ((first ∷ others) ++ rest) = front.1 ∙ ap (λ (l : List (List ℕ)). front.0 ++ l) parts in
    let back = (consecutive_parts 0 front.0 ((first ∷ others) ++ rest) (subst (IsConsecutive 0) whole c)).1 in
    let past = past_first offset log first (others ++ rest) parts in
    let behind = (consecutive_parts (last_of first + 1) others rest back.1) in
    let up = end_above (last_of first + 1) others behind.0 in
    let here : epoch_holding log (last_of first) ≡ Some (epoch_of first) =
    ap (λ (l : List (List ℕ)). epoch_holding l (last_of first)) whole
    ∙ back_at 0 front.0 ((first ∷ others) ++ rest) (last_of first) (subst (IsConsecutive 0) whole c) (let base = back.0 in omega (arith, base))
    ∙ holding_last first (others ++ rest) in
    let one : Some (epoch_of first) ≡ Some epoch = sym here ∙ of (last_of first) (omega (arith, low, past)) (omega (arith, up, high)) in
    let more = one_epoch log (front.0 ++ first ∷ []) others rest epoch from to (last_of first + 1) (append_assoc front.0 (first ∷ []) (others ++ rest) ∙ sym whole) c back.1
    (end_append 0 front.0 (first ∷ [])) of (omega (arith, low, past)) high in
    record {
      rest = rest;
      parts = parts;
      next = has_bytes (end_from (last_of first + 1) others) rest behind.1 (omega (arith, up));
      within = within_of limit first others fits;
      epochs = All-from_recursion (λ (b : List ℕ). Some (epoch_of b) ≡ Some (epoch_of first)) (first ∷ others)
          (subst (λ (e : Option ℕ). AllByRecursion (λ (b : List ℕ). Some (epoch_of b) ≡ e) (first ∷ others)) (sym one) (one, more));
      below = below;
      stop_is = stop_is;
    }

-- why the run ends, and what is after it in the log
record Stops (log : List (List ℕ)) (offset limit mark : ℕ) (stop : Stop) (run : List (List ℕ)) : Type 0 where
  pub rest : List (List ℕ)
  pub parts : from_offset offset log ≡ run ++ rest
  pub is : seen.StopIs stop run rest limit mark

-- a run out of the copy that a fetch has found is the log's
copied_run : (c : Scene) (p : Plain) (a b : ℕ) (tier_view : BrokerTierView) (x : Broker) (stops epoch : ℕ) (wanted : FetchRequest) (line : List (ℕ × ℕ)) (piece : Piece) (span : Span) (s : store.Content) (n : meta.Content)
    (view : EntriesSeen) (cache : Cache) (given : List ℕ) (tier : Tier) (size : ℕ) (stop : Stop) (bytes : List ℕ) → IsAtTurn c p a b tier_view x stops epoch wanted line (Log piece span) s n view cache
    → (r : FetchReads c p x piece) → given ≡ take span.most (drop span.from (joined r.stored_whole.batches)) → fetch.IsCutRun wanted piece given tier size stop bytes
    → IsRunBytes x.log wanted.offset wanted.limit wanted.mark size stop bytes
copied_run c p a b tier_view x stops epoch wanted line piece span s n view cache given tier size stop bytes h r given_is m =
    let sought = sought_of b stops epoch wanted.offset (Log piece span) in
    let k = (h.safe.tier.fetches a sought tier_view x h.shows.actor_state h.shows.tier_view_is h.broker_is).piece piece refl h.leads h.past in
    let f = fetch_from a sought piece span.from c p tier_view x h.safe.plain h.safe.tier h.shows.actor_state h.shows.tier_view_is h.broker_is refl refl h.leads h.past r in
    let holds = k.holds in
    let within = r.within in
    let low : r.entry.start ≤ wanted.offset = omega (arith, holds.0, within.0) in
    let q = cut_run r.stored_whole.batches r.entry.start f.0 wanted.offset wanted.limit wanted.mark piece.to span.from span.most given m.cut r.stored_whole.describes.is low f.1 given_is m.is in
    let ends = q.ends in
    let below = q.below in
    let marked : m.cut.next ≤ wanted.mark = (let le = min-le_left wanted.mark piece.to in omega (arith, below, le)) in
    let high : m.cut.next ≤ piece.to = (let le = min-le_right wanted.mark piece.to in omega (arith, below, le)) in
    let same = fetch_runs c p x piece wanted.offset (m.is.first ∷ m.is.others) h.safe.plain r holds.0 holds.1 (q.rest, sym q.parts) (omega (arith, ends, high)) in
    let t = by m.cut.stop q.rest q.parts q.passing m.is.stop_is ends high (same.0, sym same.1) in
    record {
      run = m.is.first ∷ m.is.others;
      is = shown x.log wanted.offset wanted.limit wanted.mark piece.from piece.to k.epoch stop m.is.first m.is.others t.rest (h.safe.plain.brokers b x h.broker_is).log.consecutive t.parts holds.0
          (omega (arith, ends, high)) k.of_log m.is.fits (omega (arith, ends, marked)) (subst (λ (why : Stop). seen.StopIs why (m.is.first ∷ m.is.others) t.rest wanted.limit wanted.mark) (sym m.stop_is) t.is);
      spelled = m.part ∙ q.spelled;
      size_is = m.size_is;
    }
  where
    by : (why : Stop) (rest : List (List ℕ)) → from_offset wanted.offset r.stored_whole.batches ≡ (m.is.first ∷ m.is.others) ++ rest → (cutting.would_pass wanted.limit (length (joined (m.is.first ∷ m.is.others))) (headed m.is.rest) ≡ true → WouldPass (m.is.first ∷ m.is.others) rest wanted.limit)
        → cutting.StopIs why m.cut.next wanted.mark piece.to (cutting.would_pass wanted.limit (length (joined (m.is.first ∷ m.is.others))) (headed m.is.rest)) → end_of (m.is.first ∷ m.is.others) ≡ m.cut.next → m.cut.next ≤ piece.to
        → ((more : List (List ℕ)) × (from_offset wanted.offset x.log ≡ (m.is.first ∷ m.is.others) ++ more)) → Stops x.log wanted.offset wanted.limit wanted.mark why (m.is.first ∷ m.is.others)
    by Mark rest parts passing is ends high log = record { rest = log.0; parts = log.1; is = ends ∙ is }
    by PieceEnd rest parts passing is ends high log = record { rest = log.0; parts = log.1; is = λ e. is.0 (sym ends ∙ e) }
    by Limit [] parts passing is ends high log = absurd (passing is.2)
    by Limit (next ∷ rest) parts passing is ends high log =
        let k = (h.safe.tier.fetches a (sought_of b stops epoch wanted.offset (Log piece span)) tier_view x h.shows.actor_state h.shows.tier_view_is h.broker_is).piece piece refl h.leads h.past in
        let other = is.1 in
        let more = fetch_next c p x piece wanted.offset m.is.first next m.is.others rest h.safe.plain r k.holds.0 k.holds.1 parts (omega (arith, ends, high, other)) in
        record { rest = next ∷ more.0; parts = more.1; is = (λ e. is.0 (sym ends ∙ e), passing is.2) }

-- batches that follow one another are checked
follow_checked : (last : Option ℕ) (offset bound : ℕ) (batches : List (List ℕ)) → cutting.AreBatches last offset bound batches → AllByRecursion (λ (b : List ℕ). IsOk (checked b)) batches
follow_checked last offset bound [] h = tt
follow_checked last offset bound (b ∷ batches) h = (h.0.is, follow_checked (Some (last_of b + 1)) offset bound batches h.1)

from_checked : (offset : ℕ) (batches : List (List ℕ)) → AllByRecursion (λ (b : List ℕ). IsOk (checked b)) batches → AllByRecursion (λ (b : List ℕ). IsOk (checked b)) (from_offset offset batches)
from_checked offset [] all = tt
from_checked offset (b ∷ batches) all = by (nat_lt (last_of b) offset) (from_checked offset batches all.1)
  where
    by : (t : Bool) → AllByRecursion (λ (b : List ℕ). IsOk (checked b)) (from_offset offset batches) → AllByRecursion (λ (b : List ℕ). IsOk (checked b)) (cond t (from_offset offset batches) (b ∷ batches))
    by true rest = rest
    by false rest = all

-- so those of a run are
run_checked : {bytes : List ℕ} {limit mark piece_end : ℕ} {cut : Cutout} (offset : ℕ) (m : cutting.IsRunCutAt bytes offset limit mark piece_end cut) → AllByRecursion (λ (b : List ℕ). IsOk (checked b)) (m.first ∷ m.others)
run_checked {bytes} {limit} {mark} {piece_end} offset m =
    subst (AllByRecursion (λ (b : List ℕ). IsOk (checked b))) m.run (from_checked offset m.batches (follow_checked None offset (min mark piece_end) m.batches m.stand.follow))

-- the run, and that its batches are checked
abbrev pub ServesChecked : List (List ℕ) → FetchRequest → FetchStep → Tier → ℕ → Stop → List ℕ → Type 0
ServesChecked log wanted next tier size stop bytes = (s : ServesRun log wanted next tier size stop bytes) × AllByRecursion (λ (batch : List ℕ). IsOk (checked batch)) s.run.run

module _ {S M : Type 0} (objects : S → store.Content) (calls : S → Control store_call.call_code)
    (notes : M → meta.Content) (notings : M → Control meta_call.call_code) where
  log_run : (c : Scene) (p : Plain) (a b : ℕ) (tier_view : BrokerTierView) (x : Broker) (stops epoch : ℕ) (wanted : FetchRequest) (line : List (ℕ × ℕ)) (piece : Piece) (span : Span) (ns : meta.Content) (view : EntriesSeen)
      (cache : Cache) (old new : S) (tier : Tier) (size : ℕ) (stop : Stop) (bytes : List ℕ) (place : Option (ℕ × Spot))
      → IsAtTurn c p a b tier_view x stops epoch wanted line (Log piece span) (objects old) ns view cache
      → spot_in wanted.partition piece.id part.Log (entry_of piece.id view.entries) ≡ place
      → LogRow objects calls wanted piece span view place (Ok (Ends (Run tier size stop bytes))) old new → ServesChecked x.log wanted (Log piece span) tier size stop bytes
  unfolding copied_run
  log_run c p a b tier_view x stops epoch wanted line piece span ns view cache old new tier size stop bytes None h at row = absurd (cc (row.0))
  log_run c p a b tier_view x stops epoch wanted line piece span ns view cache old new tier size stop bytes (Some place) h at row = by row.answer row.gets row.cuts
    where
      cut : (end : Option ℕ) (given : List ℕ) → Gets objects calls place.1.key (some_of place.1 span.from span.most) (Ok (Some given)) old new
          → CutsBytes end wanted piece place.1 span given (Ok (Ends (Run tier size stop bytes))) → ServesChecked x.log wanted (Log piece span) tier size stop bytes
      cut (Some end) given gets cuts = absurd (cc (cuts))
      cut None given gets cuts =
          let r = copy_of c p a b tier_view x stops epoch wanted line (Log piece span) (objects old) ns view cache piece h refl in
          let piece_bytes = take span.most (drop span.from (joined r.stored_whole.batches)) in
          let g = gives c p a b tier_view x stops epoch wanted line (Log piece span) (objects old) ns view cache piece part.Log place (λ b. take span.most (drop span.from b)) (Some given)
          tt h refl at (gets.bytes h.shows.store_tells) r in
          let same : given ≡ piece_bytes = one_some (Some given) given piece_bytes refl g.given_is in (
            record {
              piece = piece;
              found = refl;
              tier_is = cuts.tier_is;
              run = copied_run c p a b tier_view x stops epoch wanted line piece span (objects old) ns view cache given tier size stop bytes h r same cuts;
            },
            run_checked wanted.offset cuts.is,
          )

      by : (answer : Result (Option (List ℕ)) Trouble) → Gets objects calls place.1.key (some_of place.1 span.from span.most) answer old new
          → CutsRunOut wanted piece place.1 span answer (Ok (Ends (Run tier size stop bytes))) → ServesChecked x.log wanted (Log piece span) tier size stop bytes
      by (Err Failed) gets cuts = absurd (cc (cuts))
      by (Err NoMemory) gets cuts = absurd (cc (cuts))
      by (Ok None) gets cuts = absurd (cc (cuts))
      by (Ok (Some given)) gets cuts = cut (short_in place.1 span.from span.most given) given gets cuts

  -- no other turn answers a run

  chosen_run : (wanted : FetchRequest) (seen_notes : ℕ) (o : Option Piece) (tier : Tier) (size : ℕ) (stop : Stop) (bytes : List ℕ) → Ends (Run tier size stop bytes) ≡ chosen seen_notes o → ⊥
  chosen_run wanted seen_notes None tier size stop bytes is = cc (is)
  chosen_run wanted seen_notes (Some piece) tier size stop bytes is = cc (is)

  loads_run : (wanted : FetchRequest) (piece : Piece) (base : ℕ) (spot : Spot) (answer : Result (Option (List ℕ)) Trouble) (cache cache' : Cache) (tier : Tier) (size : ℕ) (stop : Stop) (bytes : List ℕ)
      → Loads wanted piece base spot answer (Ok (Ends (Run tier size stop bytes))) cache cache' → ⊥
  loads_run wanted piece base spot (Err Failed) cache cache' tier size stop bytes k = cc (k.0)
  loads_run wanted piece base spot (Err NoMemory) cache cache' tier size stop bytes k = cc (k.0)
  loads_run wanted piece base spot (Ok None) cache cache' tier size stop bytes k = cc (k.0)
  loads_run wanted piece base spot (Ok (Some given)) cache cache' tier size stop bytes k = by (short_of spot given) k
    where
      by : (end : Option ℕ) → LoadsBytes end wanted piece base spot given (Ok (Ends (Run tier size stop bytes))) cache cache' → ⊥
      by (Some end) k = cc (k.0)
      by None k = cc (k.0)

  load_run : (wanted : FetchRequest) (piece : Piece) (view : EntriesSeen) (place : Option (ℕ × Spot)) (cache cache' : Cache) (old new : S) (tier : Tier) (size : ℕ) (stop : Stop) (bytes : List ℕ)
      → LoadRow objects calls wanted piece view place (Ok (Ends (Run tier size stop bytes))) cache cache' old new → ⊥
  load_run wanted piece view None cache cache' old new tier size stop bytes row = cc (row.0)
  load_run wanted piece view (Some place) cache cache' old new tier size stop bytes row = loads_run wanted piece place.0 place.1 row.answer cache cache' tier size stop bytes row.loads

  index_run : (wanted : FetchRequest) (piece : Piece) (view : EntriesSeen) (there : Option OffsetTable) (cache cache' : Cache) (old new : S) (tier : Tier) (size : ℕ) (stop : Stop) (bytes : List ℕ)
      → IndexRow objects calls wanted piece view (Ok (Ends (Run tier size stop bytes))) there cache cache' old new → ⊥
  index_run wanted piece view (Some index) cache cache' old new tier size stop bytes row = cc (row.0)
  index_run wanted piece view None cache cache' old new tier size stop bytes row =
      load_run wanted piece view (spot_in wanted.partition piece.id part.Index (entry_of piece.id view.entries)) cache cache' old new tier size stop bytes row

  pub runs_are_checked : (wanted : FetchRequest) (line : List (ℕ × ℕ)) (next : FetchStep) (tier : Tier) (size : ℕ) (stop : Stop) (bytes : List ℕ) (old new : fetch.Tiers S M) (c : Scene) (p : Plain)
      (a b : ℕ) (tier_view : BrokerTierView) (x : Broker) (stops epoch : ℕ) → fetch.RemoteFetchRow objects calls notes notings wanted line next (Ok (Ends (Run tier size stop bytes))) old new
      → IsAtTurn c p a b tier_view x stops epoch wanted line next (objects old.store) (notes old.meta) old.view old.cache → ServesChecked x.log wanted next tier size stop bytes
  runs_are_checked wanted line Refresh tier size stop bytes old new c p a b tier_view x stops epoch row h =
      absurd (chosen_run wanted new.view.notes (piece_at new.view.entries line wanted.log_end wanted.offset) tier size stop bytes row.1.0)
  runs_are_checked wanted line (Index piece) tier size stop bytes old new c p a b tier_view x stops epoch row h =
      absurd (index_run wanted piece old.view (found piece.id.0 old.cache.pairs) old.cache new.cache old.store new.store tier size stop bytes row.1)
  runs_are_checked wanted line (Log piece span) tier size stop bytes old new c p a b tier_view x stops epoch row h =
      log_run c p a b tier_view x stops epoch wanted line piece span (notes old.meta) old.view old.cache old.store new.store tier size stop bytes
      (spot_in wanted.partition piece.id part.Log (entry_of piece.id old.view.entries)) h refl row.1

  -- it is the log's
  pub runs_are_logs : FetchRunsAreLogs objects calls notes notings
  runs_are_logs wanted line next tier size stop bytes old new c p a b tier_view x stops epoch row h =
      (runs_are_checked wanted line next tier size stop bytes old new c p a b tier_view x stops epoch row h).0
