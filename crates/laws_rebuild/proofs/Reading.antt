-- What a rebuild reads is of the path that its follower has joined.
use Rattle.std.proofs.Common.{◌≡◌, ◌≢◌, ◌∙◌, inl, sym, ap, subst, refl, ℕ, ◌-◌, ◌^◌, ◌≤◌, true, List, Option, Some, None, Ok, Err, slice_get, arith}
use Rattle.std.specs.Prelude.{option_map}
use Rattle.std.specs.declared.result.Result.{Result}
use Rattle.std.specs.declared.alloc.AllocError.{AllocError}
use Rattle.std.proofs.lemmas.Bool.{le-leb, eq-eqb}
use mathlib.Core.List.{IsPrefix}
use Rattle.tier_base.specs.declared.fault.Trouble.{Trouble}
use Rattle.tier_base.specs.declared.fault.Trouble.TheVariants.{Failed, NoMemory}
use Rattle.tier_base.specs.declared.names.PartitionId.{PartitionId}
use Rattle.tier_base.specs.declared.names.SegmentId.{SegmentId}
use Rattle.tier_base.specs.declared.plain.Part.TheVariants.{Epochs as EpochsPart}
use Rattle.tier_base.specs.declared.plain.State.TheVariants.{CopyStarted}
use Rattle.tier_base.specs.Device.{Control}
use Rattle.log_terms.specs.Line.{line_of, epoch_at, epoch_holding}
use Rattle.log_terms.specs.Log.{end_of, up_to, IsConsecutive}
use Rattle.log_terms.proofs.Logs.{up_to_is}
use Rattle.epoch_line.specs.Line.{IsLine, cut_end}
use Rattle.epoch_line.specs.Text.{text_of}
use Rattle.segment_meta.specs.declared.note.Entry.{Entry}
use Rattle.object_store.specs.Call as store_call
use Rattle.object_store.specs.Content as store
use Rattle.object_store.specs.Calls.{Gets}
use Rattle.object_store.specs.Place.{spot_of, all_of, short_of}
use Rattle.object_store.proofs.Parts.{not_short}
use Rattle.object_store.specs.declared.placing.Spot.{Spot}
use Rattle.plain_log.specs.declared.state.State.{State as Plain}
use Rattle.plain_log.specs.declared.answer.Answer.TheVariants.{Damaged}
use Rattle.plain_log.specs.declared.answer.Place.{Place}
use Rattle.plain_log.specs.Safe.{PlainSafe}
use Rattle.plain_log.specs.State.{path_of}
use Rattle.laws_partition.proofs.Lines.{cut_line}
use Rattle.remote_view.specs.Fold.{EntriesSeen, entry_of, fold, AreEntriesValid, AreDistinct}
use Rattle.remote_view.specs.Lookup.{is_readable, is_epoch, covers}
use Rattle.remote_view.proofs.Changes.{found_id}
use Rattle.remote_find.specs.declared.piece.Piece.{Piece}
use Rattle.remote_find.specs.Pieces.{piece_at}
use Rattle.remote_find.proofs.Clipping.{piece_lies}
use Rattle.rebuild_task.specs.declared.turn.RebuildRequest.{RebuildRequest}
use Rattle.rebuild_task.specs.declared.turn.RebuildStep.TheVariants.{Restart}
use Rattle.rebuild_task.specs.declared.turn.RebuildStep.{RebuildStep}
use Rattle.plain_log.specs.declared.turn.Turn.{Turn}
use Rattle.plain_log.specs.declared.turn.Turn.TheVariants.{Goes, Ends}
use Rattle.rebuild_task.specs.Turns.{spot_in, epochs_of, TakesBytes, TakesEpochs, ReadsEpochs, EpochsRow, RebuildRow}
use Rattle.tier_safe.specs.Scene.{BrokerTierView, Rebuild, Rebuilds, Scene}
use Rattle.tier_safe.specs.Safe.{TierSafe}
use Rattle.tier_safe.specs.Kept.{whole_of}
use Rattle.tier_safe.specs.Reads.{RebuildReads}
use Rattle.tier_safe.proofs.Agreeing.{has_safe, map_at}
use Rattle.tier_safe.proofs.Basics.{one_some}
use Rattle.tier_safe.proofs.Covering.{readable, covers_is}
use Rattle.tier_safe.proofs.Entries.{Follows, prefix_goes}
use Rattle.tier_safe.proofs.Lookups.{wanted_is_found}
use Rattle.tier_safe.proofs.Placed.{IsPlaced, stored_whole_placed}
use Rattle.tier_safe.proofs.Rules.{seen_kept}
use Rattle.tier_safe.proofs.Serving.{rebuilds_served}
use Rattle.laws_rebuild.specs.Reading.{IsToRead}
use Rattle.laws_rebuild.specs.Laws.{LinesArePaths, NothingIsDamaged}
use Rattle.laws_rebuild.proofs.Lines.{one_text, safe_rises, whole_rises, epochs_are}

-- the path

-- the batches that a rebuild is to have are its path's up to the wanted offset
front_is : (a : ℕ) (r : Rebuild) (c : Scene) (p : Plain) (path : List (List ℕ)) → PlainSafe p → (h : TierSafe c p) → (actor_state : slice_get c.desk a ≡ Some (Rebuilds r))
    → path_of p.paths r.epoch ≡ Some path → up_to r.wanted path ≡ (h.rebuilds a r actor_state).front
front_is a r c p path s h actor_state is =
    let k = h.rebuilds a r actor_state in
    let same : k.begins.0 ≡ path = one_some (path_of p.paths r.epoch) k.begins.0 path k.begins.1 is in
    let pre : IsPrefix k.front path = subst (λ (l : List (List ℕ)). IsPrefix k.front l) same k.begins.2 in
    up_to_is 0 r.wanted k.front path (s.paths r.epoch path is).log_safe.consecutive pre k.ends

-- what the turn goes by: the line is that of these batches
pub record Going (c : Scene) (p : Plain) (rebuild : Rebuild) (line : List (ℕ × ℕ)) (front : List (List ℕ)) : Type 0 where
  pub consecutive : IsConsecutive 0 front
  pub ends : end_of front ≡ rebuild.wanted
  pub line_is : line ≡ line_of front
  pub last : epoch_at line (rebuild.wanted - 1) ≡ epoch_holding front (rebuild.wanted - 1)

going : (c : Scene) (p : Plain) (a : ℕ) (rebuild : Rebuild) (tier_view : BrokerTierView) (wanted : RebuildRequest) (line : List (ℕ × ℕ)) (objects : store.Content) (view : EntriesSeen)
    → (h : IsToRead c p a rebuild tier_view wanted line objects view) → Going c p rebuild line (h.safe.tier.rebuilds a rebuild h.actor_state).front
going c p a rebuild tier_view wanted line objects view h =
    let k = h.safe.tier.rebuilds a rebuild h.actor_state in
    let safe = has_safe p rebuild.epoch k.front h.safe.plain k.begins in
    let is : line ≡ line_of k.front = h.line_is ∙ ap line_of (front_is a rebuild c p h.path h.safe.plain h.safe.tier h.actor_state h.path_is) in
    let ends = k.ends in
    let below = h.below in
    record {
      consecutive = safe.consecutive;
      ends = ends;
      line_is = is;
      last = ap (λ (l : List (ℕ × ℕ)). epoch_at l (rebuild.wanted - 1)) is ∙ map_at 0 k.front (rebuild.wanted - 1) safe.consecutive (omega arith) (omega (arith, ends, below));
    }

-- the segment

-- an entry whose map has an epoch at an offset within it
covers_so : (e o : ℕ) (entry : Entry) → is_readable entry.state ≡ true → entry.start ≤ o → o ≤ entry.end → epoch_at entry.map o ≡ Some e → covers e o entry ≡ true
covers_so e o entry done low high at =
    let here : is_epoch e (epoch_at entry.map o) ≡ true = ap (is_epoch e) at ∙ eq-eqb e e refl in
    rw (done, le-leb entry.start o low, le-leb o entry.end high) here

-- the rebuild's piece is found in its broker's view, and is of a copy that reads so, whose epochs exist where the view
-- places them
pub record Found (c : Scene) (p : Plain) (rebuild : Rebuild) (wanted : RebuildRequest) (line : List (ℕ × ℕ)) (view : EntriesSeen) (front : List (List ℕ)) : Type 0 where
  pub piece : Piece
  pub there : piece_at view.entries line wanted.offset (wanted.offset - 1) ≡ Some piece
  pub reads : RebuildReads c p front rebuild.wanted piece.id
  pub spot : Spot
  pub place : epochs_of wanted.partition view.entries (Some piece) ≡ Some spot
  pub placed : IsPlaced c.objects spot (text_of (line_of (whole_of reads.stored_whole)))

-- the view's entry of a copy that isn't in progress places its epochs as its entry does
seen_spot : (partition : PartitionId) (id : SegmentId) (seen entry : Entry) (spot : Spot) → Follows seen entry → seen.state ≢ CopyStarted → entry.partition ≡ partition → entry.id ≡ id
    → spot_of entry.partition entry.id entry.packed entry.custom EpochsPart ≡ Some spot → spot_of partition id seen.packed seen.custom EpochsPart ≡ Some spot
seen_spot partition id seen entry spot f done of is at =
    let packed : seen.packed ≡ entry.packed = sym f.packed in
    let custom : seen.custom ≡ entry.custom = sym (f.custom done) in
    rw (packed, custom, ← of, ← is) at

-- the wanted offset is at most 2^62: a finished copy has the one before
wanted_low : (c : Scene) (p : Plain) (a : ℕ) (rebuild : Rebuild) (tier_view : BrokerTierView) (wanted : RebuildRequest) (line : List (ℕ × ℕ)) (objects : store.Content) (view : EntriesSeen)
    → IsToRead c p a rebuild tier_view wanted line objects view → rebuild.wanted ≤ 2 ^ 62
wanted_low c p a rebuild tier_view wanted line objects view h =
    let k = h.safe.tier.rebuilds a rebuild h.actor_state in
    let below = h.below in
    let there = k.covered (rebuild.wanted - 1) (omega (arith, below)) (omega (arith, below)) in
    let t = covers_is there.epoch (rebuild.wanted - 1) there.covers.entry there.covers.gives in
    let d = (h.safe.tier.finished there.covers.id there.covers.entry there.covers.there t.finished).describes in
    omega (arith, below, t.to, d.last_is, d.is.low)

found : (c : Scene) (p : Plain) (a : ℕ) (rebuild : Rebuild) (tier_view : BrokerTierView) (wanted : RebuildRequest) (line : List (ℕ × ℕ)) (objects : store.Content) (view : EntriesSeen)
    → (h : IsToRead c p a rebuild tier_view wanted line objects view) → Found c p rebuild wanted line view (h.safe.tier.rebuilds a rebuild h.actor_state).front
found c p a rebuild tier_view wanted line objects view h =
    let tier = h.safe.tier in
    let k = tier.rebuilds a rebuild h.actor_state in
    let g = going c p a rebuild tier_view wanted line objects view h in
    let f = wanted_is_found c p a rebuild tier_view line tier h.actor_state h.tier_view_is h.refreshed h.below g.last in
    let v = tier.views rebuild.broker tier_view h.tier_view_is in
    let right = seen_kept c.notes v.before c.desk tier.notes v.begins in
    let safe = has_safe p rebuild.epoch k.front h.safe.plain k.begins in
    let low = wanted_low c p a rebuild tier_view wanted line objects view h in
    let rises : IsLine line = subst IsLine (sym g.line_is) (safe_rises p k.front h.safe.plain safe (omega (arith, k.ends, low))) in
    let lies = piece_lies tier_view.view.entries line rebuild.wanted (rebuild.wanted - 1) f.0
    (subst (λ (w : EntriesSeen). AreEntriesValid w.entries) (sym v.is) right.0) (subst (λ (w : EntriesSeen). AreDistinct w.entries) (sym v.is) right.1) rises f.1 in
    let e = lies.0 in
    let entry = lies.1 in
    let of = lies.2 in
    let last = rebuild.wanted - 1 in
    let here = covers_so e last entry of.readable (omega (arith, of.within.0, of.holds.0)) (omega (arith, of.within.1, of.holds.1)) (of.of_copy last of.holds.0 of.holds.1) in
    let reads = rebuilds_served c p a rebuild tier_view f.0.id entry e h.safe h.actor_state h.tier_view_is h.below of.copy here (sym g.last ∙ of.of_line last of.holds.0 of.holds.1) in
    let own = reads.entry in
    let y = prefix_goes v.before c.notes f.0.id entry v.begins (subst (λ (w : EntriesSeen). entry_of f.0.id w.entries ≡ Some entry) v.is of.copy) in
    let one : y.0 ≡ own = one_some (entry_of f.0.id (fold c.notes)) y.0 own y.1 reads.there in
    let done = readable entry.state of.readable in
    let has = stored_whole_placed c.objects p.paths own EpochsPart tt reads.stored_whole in
    let at : spot_of wanted.partition f.0.id entry.packed entry.custom EpochsPart ≡ Some has.spot =
    seen_spot wanted.partition f.0.id entry own has.spot (subst (Follows entry) one y.2) (λ snapshot. absurd (cc (done, snapshot))) (reads.partition ∙ sym h.partition) (found_id f.0.id (fold c.notes) own reads.there) has.is in
    record {
      piece = f.0;
      there = subst (λ (n : ℕ). piece_at view.entries line n (n - 1) ≡ Some f.0) (sym h.offset) (subst (λ (w : EntriesSeen). piece_at w.entries line rebuild.wanted last ≡ Some f.0) h.view_is f.1);
      reads = reads;
      spot = has.spot;
      place = subst (λ (w : EntriesSeen). epochs_of wanted.partition w.entries (Some f.0) ≡ Some has.spot) h.view_is (ap (spot_in wanted.partition f.0.id) of.copy ∙ at);
      placed = subst (IsPlaced c.objects has.spot) (epochs_are c.objects p own reads.stored_whole) has.placed;
    }

-- its epochs

-- what is given of them is their text
given_text : (objects : store.Objects) (spot : Spot) (text : List ℕ) (given : Option (List ℕ)) → given ≡ option_map (all_of spot) (objects spot.key) → IsPlaced objects spot text → given ≡ Some text
given_text objects spot text given is k = is ∙ (ap (option_map (all_of spot)) k.there ∙ ap (λ (bytes : List ℕ). Some bytes) k.all)

-- and nothing of it is lacking
none_lacks : (objects : store.Objects) (spot : Spot) (text bytes : List ℕ) → bytes ≡ text → IsPlaced objects spot text → short_of spot bytes ≡ None
none_lacks objects spot text bytes is k = ap (short_of spot) is ∙ not_short spot.at spot.len text k.whole

module _ {S : Type 0} (objects : S → store.Content) (calls : S → Control store_call.call_code) where
  -- the row, of the place where they are
  at_place : (c : Scene) (p : Plain) (rebuild : Rebuild) (wanted : RebuildRequest) (line : List (ℕ × ℕ)) (view : EntriesSeen) (front : List (List ℕ)) (turn : Turn RebuildStep) (old new : S)
      → (f : Found c p rebuild wanted line view front) → RebuildRow objects calls wanted line view (Ok turn) old new → ReadsEpochs objects calls wanted.offset f.spot (Ok turn) old new
  at_place c p rebuild wanted line view front turn old new f row =
      subst (λ (o : Option Spot). EpochsRow objects calls wanted.offset view o (Ok turn) old new) (ap (epochs_of wanted.partition view.entries) f.there ∙ f.place) row

  -- what a store gives of them
  text_given : (c : Scene) (p : Plain) (a : ℕ) (rebuild : Rebuild) (tier_view : BrokerTierView) (wanted : RebuildRequest) (line : List (ℕ × ℕ)) (view : EntriesSeen) (front : List (List ℕ)) (given : Option (List ℕ)) (old new : S)
      → IsToRead c p a rebuild tier_view wanted line (objects old) view → (f : Found c p rebuild wanted line view front) → Gets objects calls f.spot.key (all_of f.spot) (Ok given) old new
      → given ≡ Some (text_of (line_of (whole_of f.reads.stored_whole)))
  text_given c p a rebuild tier_view wanted line view front given old new h f gets =
      let text = text_of (line_of (whole_of f.reads.stored_whole)) in
      given_text (objects old).objects f.spot text given (gets.bytes h.is_observable) (subst (λ (o : store.Objects). IsPlaced o f.spot text) h.objects_are f.placed)

  -- of bytes that are given none are lacking
  taken : (c : Scene) (p : Plain) (rebuild : Rebuild) (wanted : RebuildRequest) (line : List (ℕ × ℕ)) (view : EntriesSeen) (front : List (List ℕ)) (given : List ℕ) (result : Result (Turn RebuildStep) AllocError)
      → (f : Found c p rebuild wanted line view front) → given ≡ text_of (line_of (whole_of f.reads.stored_whole)) → TakesEpochs wanted.offset f.spot (Ok (Some given)) result
      → TakesBytes None wanted.offset f.spot given result
  taken c p rebuild wanted line view front given result f is k =
      subst (λ (end : Option ℕ). TakesBytes end wanted.offset f.spot given result) (none_lacks c.objects f.spot (text_of (line_of (whole_of f.reads.stored_whole))) given is f.placed) k

  -- what is taken of it
  reads_path : (c : Scene) (p : Plain) (a : ℕ) (rebuild : Rebuild) (tier_view : BrokerTierView) (wanted : RebuildRequest) (line read : List (ℕ × ℕ)) (view : EntriesSeen) (old new : S)
      → (h : IsToRead c p a rebuild tier_view wanted line (objects old) view) → (f : Found c p rebuild wanted line view (h.safe.tier.rebuilds a rebuild h.actor_state).front)
      → (answer : Result (Option (List ℕ)) Trouble) → Gets objects calls f.spot.key (all_of f.spot) answer old new → TakesEpochs wanted.offset f.spot answer (Ok (Goes (Restart read))) → read ≡ line
  reads_path c p a rebuild tier_view wanted line read view old new h f (Err Failed) gets k = absurd (cc (k))
  reads_path c p a rebuild tier_view wanted line read view old new h f (Err NoMemory) gets k = absurd (cc (k))
  reads_path c p a rebuild tier_view wanted line read view old new h f (Ok None) gets k = absurd (cc (k))
  reads_path c p a rebuild tier_view wanted line read view old new h f (Ok (Some given)) gets k =
      let front = (h.safe.tier.rebuilds a rebuild h.actor_state).front in
      let r = f.reads in
      let all = whole_of r.stored_whole in
      let safe = has_safe p r.stored_whole.describes.part.epoch all h.safe.plain r.stored_whole.describes.part.begins in
      let g = going c p a rebuild tier_view wanted line (objects old) view h in
      let text : given ≡ text_of (line_of all) =
      one_some (Some given) given (text_of (line_of all)) refl (text_given c p a rebuild tier_view wanted line view front (Some given) old new h f gets) in
      let t = taken c p rebuild wanted line view front given (Ok (Goes (Restart read))) f text k in
      let is : t.whole ≡ line_of all = one_text t.whole (line_of all) t.rises (whole_rises c.objects p r.entry h.safe.plain r.stored_whole) (sym t.bytes_are ∙ text) in
      t.line_is
      ∙ ap (λ (l : List (ℕ × ℕ)). cut_end l wanted.offset) is
      ∙ ap (cut_end (line_of all)) (h.offset ∙ sym g.ends)
      ∙ cut_line (line_of all) front all safe.consecutive (inl refl) r.begins
      ∙ sym g.line_is

  pub lines_are_paths : LinesArePaths objects calls
  lines_are_paths wanted line read view old new c p a rebuild tier_view row h =
      let f = found c p a rebuild tier_view wanted line (objects old) view h in
      let reads = at_place c p rebuild wanted line view (h.safe.tier.rebuilds a rebuild h.actor_state).front (Goes (Restart read)) old new f row in
      reads_path c p a rebuild tier_view wanted line read view old new h f reads.answer reads.gets reads.takes

  -- what is invalid isn't it
  no_damage : (c : Scene) (p : Plain) (a : ℕ) (rebuild : Rebuild) (tier_view : BrokerTierView) (wanted : RebuildRequest) (line : List (ℕ × ℕ)) (view : EntriesSeen) (place : Place) (at : ℕ) (old new : S)
      → (h : IsToRead c p a rebuild tier_view wanted line (objects old) view) → (f : Found c p rebuild wanted line view (h.safe.tier.rebuilds a rebuild h.actor_state).front)
      → (answer : Result (Option (List ℕ)) Trouble) → Gets objects calls f.spot.key (all_of f.spot) answer old new → TakesEpochs wanted.offset f.spot answer (Ok (Ends (Damaged place at))) → ⊥
  no_damage c p a rebuild tier_view wanted line view place at old new h f (Err Failed) gets k = absurd (cc (k))
  no_damage c p a rebuild tier_view wanted line view place at old new h f (Err NoMemory) gets k = absurd (cc (k))
  no_damage c p a rebuild tier_view wanted line view place at old new h f (Ok None) gets k =
      let front = (h.safe.tier.rebuilds a rebuild h.actor_state).front in
      let none = text_given c p a rebuild tier_view wanted line view front None old new h f gets in
      absurd (cc (none))
  no_damage c p a rebuild tier_view wanted line view place at old new h f (Ok (Some given)) gets k =
      let front = (h.safe.tier.rebuilds a rebuild h.actor_state).front in
      let all = whole_of f.reads.stored_whole in
      let text : given ≡ text_of (line_of all) =
      one_some (Some given) given (text_of (line_of all)) refl (text_given c p a rebuild tier_view wanted line view front (Some given) old new h f gets) in
      let t = taken c p rebuild wanted line view front given (Ok (Ends (Damaged place at))) f text k in
      t.1 (line_of all) (whole_rises c.objects p f.reads.entry h.safe.plain f.reads.stored_whole) text

  pub nothing_is_damaged : NothingIsDamaged objects calls
  nothing_is_damaged wanted line view place at old new c p a rebuild tier_view row h =
      let f = found c p a rebuild tier_view wanted line (objects old) view h in
      let reads = at_place c p rebuild wanted line view (h.safe.tier.rebuilds a rebuild h.actor_state).front (Ends (Damaged place at)) old new f row in
      no_damage c p a rebuild tier_view wanted line view place at old new h f reads.answer reads.gets reads.takes
