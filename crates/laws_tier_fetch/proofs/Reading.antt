-- What a fetch reads in the store is what its copy's entry says of: the index of its batches, and their bytes.
use Rattle.std.proofs.Common.{◌≡◌, ◌≢◌, ◌⊎◌, inl, inr, ◌∙◌, sym, ap, subst, refl, ℕ, Bool, true, false, List, [], ◌∷◌, Option, Some, None}
use Rattle.std.specs.Prelude.{option_map}
use Rattle.tier_base.specs.declared.names.PartitionId.{PartitionId}
use Rattle.tier_base.specs.declared.names.SegmentId.{SegmentId}
use Rattle.tier_base.specs.declared.object_key.ObjectKey.{ObjectKey}
use Rattle.tier_base.specs.declared.layout.Layout.{Layout}
use Rattle.tier_base.specs.declared.plain.Part.{Part}
use Rattle.tier_base.specs.declared.plain.Part.TheVariants as part
use Rattle.log_terms.specs.Log.{IsConsecutive}
use Rattle.log_terms.proofs.Lists.{prefix_self}
use Rattle.sparse_index.specs.Bytes.{bytes_of}
use Rattle.sparse_index.specs.Offsets.{OffsetTable, AreOffsets, entry_bytes}
use Rattle.segment_file.specs.Index.{placed_from, index_of}
use Rattle.segment_meta.specs.declared.note.Entry.{Entry}
use Rattle.segment_bundle.specs.Parts.{first_offset, parts_of, part_in}
use Rattle.object_store.specs.Content as store
use Rattle.object_store.specs.Place.{key_of, whole, spot_of, told_layout, part_of, all_of}
use Rattle.object_store.proofs.Parts.{AreAll}
use Rattle.object_store.specs.declared.placing.Spot.{Spot}
use Rattle.meta_log.specs.Content as meta
use Rattle.index_cache.specs.Cache.{Cache}
use Rattle.plain_log.specs.declared.state.State.{State as Plain}
use Rattle.plain_log.specs.declared.state.Broker.{Broker}
use Rattle.remote_view.specs.Fold.{EntriesSeen, entry_of, fold}
use Rattle.remote_view.proofs.Changes.{found_id}
use Rattle.remote_find.specs.declared.piece.Piece.{Piece}
use Rattle.tier_fetch.specs.declared.turn.FetchRequest.{FetchRequest}
use Rattle.tier_fetch.specs.declared.turn.FetchStep.{FetchStep}
use Rattle.tier_fetch.specs.Turns.{spot_in}
use Rattle.tier_safe.specs.Scene.{BrokerTierView, Scene}
use Rattle.tier_safe.specs.Fetches.{IsIndexOf, CachedStands}
use Rattle.tier_safe.proofs.Basics.{one_some}
use Rattle.tier_safe.proofs.Entries.{prefix_goes}
use Rattle.tier_safe.proofs.Placed.{IsRead, IsPlaced, stored_whole_placed}
use Rattle.tier_safe.proofs.Serving.{FetchReads, fetch_reads}
use Rattle.laws_tier_fetch.specs.Seeking.{piece_of, sought_of, IsAtTurn}
use Rattle.laws_tier_fetch.proofs.Entries.{entries_same, index_rises}

-- what is there

pub first_is : (n : ℕ) (xs : List (List ℕ)) → xs ≢ [] → IsConsecutive n xs → first_offset xs ≡ n
first_is n [] some c = absurd (some refl)
first_is n (x ∷ xs) some c = c.0

-- the copy that a fetch has found
pub copy_of : (c : Scene) (p : Plain) (a b : ℕ) (tier_view : BrokerTierView) (x : Broker) (stops epoch : ℕ) (wanted : FetchRequest) (line : List (ℕ × ℕ)) (next : FetchStep) (s : store.Content) (n : meta.Content) (view : EntriesSeen)
    (cache : Cache) (piece : Piece) → IsAtTurn c p a b tier_view x stops epoch wanted line next s n view cache → piece_of next ≡ Some piece → FetchReads c p x piece
copy_of c p a b tier_view x stops epoch wanted line next s n view cache piece h is =
    fetch_reads a (sought_of b stops epoch wanted.offset next) piece c p tier_view x h.safe.plain h.safe.tier h.shows.actor_state h.shows.tier_view_is h.broker_is is h.leads h.past

-- where a part of it is, as the broker's view says
pub record IsAtSpot (partition : PartitionId) (id : SegmentId) (kind : Part) (found : Option Entry) (start : ℕ) (objects : store.Objects) (bytes : List ℕ) : Type 0 where
  pub spot : Spot
  pub is : spot_in partition id kind found ≡ Some (start, spot)
  pub home : Part
  pub own : (home ≡ kind) ⊎ (home ≡ part.Pack)
  pub home_is : spot.key ≡ key_of partition id home
  pub placed : IsPlaced objects spot bytes

-- it is under the key of the part, or that of the pack
own_home : (partition : PartitionId) (id : SegmentId) (packed : Bool) (custom : Option (List ℕ)) (kind home : Part) (spot : Spot) → spot_of partition id packed custom kind ≡ Some spot
    → spot.key ≡ key_of partition id home → (home ≡ kind) ⊎ (home ≡ part.Pack)
own_home partition id false custom kind home spot is key =
    let same : whole (key_of partition id kind) ≡ spot = cc (is) in
    inl (sym (ap (λ (s : Spot). s.key.part) same ∙ ap (λ (k : ObjectKey). k.part) key))
own_home partition id true custom kind home spot is key = by (told_layout custom) is
  where
    by : (told : Option Layout) → option_map (λ (l : Layout). part_of (key_of partition id part.Pack) l kind) told ≡ Some spot → (home ≡ kind) ⊎ (home ≡ part.Pack)
    by None is = absurd (cc (is))
    by (Some l) is =
        let same : part_of (key_of partition id part.Pack) l kind ≡ spot = cc (is) in
        inr (sym (ap (λ (s : Spot). s.key.part) same ∙ ap (λ (k : ObjectKey). k.part) key))

-- the view's entry of it places its parts as its entry does
pub at_spot : (c : Scene) (p : Plain) (a b : ℕ) (tier_view : BrokerTierView) (x : Broker) (stops epoch : ℕ) (wanted : FetchRequest) (line : List (ℕ × ℕ)) (next : FetchStep) (s : store.Content) (n : meta.Content) (view : EntriesSeen)
    (cache : Cache) (piece : Piece) (kind : Part) → IsRead kind → IsAtTurn c p a b tier_view x stops epoch wanted line next s n view cache → piece_of next ≡ Some piece → (r : FetchReads c p x piece)
    → IsAtSpot wanted.partition piece.id kind (entry_of piece.id view.entries) r.entry.start s.objects (part_in (parts_of r.stored_whole.batches r.stored_whole.line r.stored_whole.interval) kind)
at_spot c p a b tier_view x stops epoch wanted line next s n view cache piece kind read h is r =
    let k = (h.safe.tier.fetches a (sought_of b stops epoch wanted.offset next) tier_view x h.shows.actor_state h.shows.tier_view_is h.broker_is).seen piece is in
    let v = h.safe.tier.views b tier_view h.shows.tier_view_is in
    let y = prefix_goes v.before c.notes piece.id k.0 v.begins (subst (λ (w : EntriesSeen). entry_of piece.id w.entries ≡ Some k.0) v.is k.1) in
    let same : y.0 ≡ r.entry = one_some (entry_of piece.id (fold c.notes)) y.0 r.entry y.1 r.there in
    let packed : k.0.packed ≡ r.entry.packed = sym y.2.packed ∙ ap (λ (e : Entry). e.packed) same in
    let custom : k.0.custom ≡ r.entry.custom = sym (y.2.custom k.2) ∙ ap (λ (e : Entry). e.custom) same in
    let start : k.0.start ≡ r.entry.start = sym y.2.start ∙ ap (λ (e : Entry). e.start) same in
    let of : r.entry.partition ≡ wanted.partition = h.safe.tier.partition.told piece.id r.entry r.there ∙ sym h.partition in
    let id : r.entry.id ≡ piece.id = found_id piece.id (fold c.notes) r.entry r.there in
    let has = stored_whole_placed c.objects p.paths r.entry kind read r.stored_whole in
    let placed : spot_of wanted.partition piece.id k.0.packed k.0.custom kind ≡ Some has.spot = rw (packed, custom, ← of, ← id) has.is in
    let there : entry_of piece.id view.entries ≡ Some k.0 = subst (λ (w : EntriesSeen). entry_of piece.id w.entries ≡ Some k.0) h.shows.view_is k.1 in
    record {
      spot = has.spot;
      is = ap (spot_in wanted.partition piece.id kind) there ∙ (ap (option_map (λ (spot : Spot). (k.0.start, spot))) placed ∙ ap (λ (m : ℕ). Some (m, has.spot)) start);
      home = has.home;
      own = own_home r.entry.partition r.entry.id r.entry.packed r.entry.custom kind has.home has.spot has.is has.home_is;
      home_is = rw (← of, ← id) has.home_is;
      placed = subst (λ (o : store.Objects). IsPlaced o has.spot (part_in (parts_of r.stored_whole.batches r.stored_whole.line r.stored_whole.interval) kind)) h.shows.objects_are has.placed;
    }

-- what a store gives of a part, all of it or some
pub record IsGiven (place : ℕ × Spot) (start : ℕ) (bytes : List ℕ) (some : List ℕ → List ℕ) (given : Option (List ℕ)) : Type 0 where
  pub start_is : place.0 ≡ start
  pub given_is : given ≡ Some (some bytes)
  pub whole : AreAll place.1.len bytes

placed_given : (objects : store.Objects) (spot : Spot) (bytes : List ℕ) (some : List ℕ → List ℕ) → (k : IsPlaced objects spot bytes)
    → option_map (λ (object : List ℕ). some (all_of spot object)) (objects spot.key) ≡ Some (some bytes)
placed_given objects spot bytes some k = ap (option_map (λ (object : List ℕ). some (all_of spot object))) k.there ∙ ap (λ (b : List ℕ). Some (some b)) k.all

-- it is of the part
pub gives : (c : Scene) (p : Plain) (a b : ℕ) (tier_view : BrokerTierView) (x : Broker) (stops epoch : ℕ) (wanted : FetchRequest) (line : List (ℕ × ℕ)) (next : FetchStep) (s : store.Content) (n : meta.Content) (view : EntriesSeen)
    (cache : Cache) (piece : Piece) (kind : Part) (place : ℕ × Spot) (some : List ℕ → List ℕ) (given : Option (List ℕ)) → IsRead kind
    → IsAtTurn c p a b tier_view x stops epoch wanted line next s n view cache → piece_of next ≡ Some piece
    → spot_in wanted.partition piece.id kind (entry_of piece.id view.entries) ≡ Some place → given ≡ option_map (λ (object : List ℕ). some (all_of place.1 object)) (s.objects place.1.key)
    → (r : FetchReads c p x piece) → IsGiven place r.entry.start (part_in (parts_of r.stored_whole.batches r.stored_whole.line r.stored_whole.interval) kind) some given
gives c p a b tier_view x stops epoch wanted line next s n view cache piece kind place some given read h is at given_is r =
    let k = at_spot c p a b tier_view x stops epoch wanted line next s n view cache piece kind read h is r in
    let bytes = part_in (parts_of r.stored_whole.batches r.stored_whole.line r.stored_whole.interval) kind in
    let same : place ≡ (r.entry.start, k.spot) =
    one_some (spot_in wanted.partition piece.id kind (entry_of piece.id view.entries)) place (r.entry.start, k.spot) at k.is in
    record {
      start_is = ap (λ (q : ℕ × Spot). q.0) same;
      given_is = given_is
          ∙ (ap (λ (q : ℕ × Spot). option_map (λ (object : List ℕ). some (all_of q.1 object)) (s.objects q.1.key)) same
          ∙ placed_given s.objects k.spot bytes some k.placed);
      whole = subst (λ (q : ℕ × Spot). AreAll q.1.len bytes) (sym same) k.placed.whole;
    }

-- the bytes of its index are read as that index
pub index_read : (c : Scene) (p : Plain) (x : Broker) (piece : Piece) (index : OffsetTable) (bytes : List ℕ) → (r : FetchReads c p x piece)
    → index.base ≡ r.entry.start → AreOffsets index.entries → bytes ≡ bytes_of entry_bytes index.entries
    → Some bytes ≡ Some (part_in (parts_of r.stored_whole.batches r.stored_whole.line r.stored_whole.interval) part.Index)
    → index ≡ index_of r.entry.start r.stored_whole.interval (placed_from 0 r.stored_whole.batches)
index_read c p x piece index bytes r base rises spelled stand =
    let d = r.stored_whole.describes in
    let first : first_offset r.stored_whole.batches ≡ r.entry.start = first_is r.entry.start r.stored_whole.batches d.some d.is.consecutive in
    let whole : bytes ≡ part_in (parts_of r.stored_whole.batches r.stored_whole.line r.stored_whole.interval) part.Index = one_some (Some bytes) bytes (part_in (parts_of r.stored_whole.batches r.stored_whole.line r.stored_whole.interval) part.Index) refl stand in
    let same : bytes_of entry_bytes index.entries ≡ bytes_of entry_bytes (index_of r.entry.start r.stored_whole.interval (placed_from 0 r.stored_whole.batches)).entries =
    sym spelled ∙ whole ∙ ap (λ (n : ℕ). bytes_of entry_bytes (index_of n r.stored_whole.interval (placed_from 0 r.stored_whole.batches)).entries) first in
    let entries = entries_same index.entries (index_of r.entry.start r.stored_whole.interval (placed_from 0 r.stored_whole.batches)).entries rises (index_rises r.entry.start r.stored_whole.interval r.stored_whole.batches d.is) same in
    ap (λ (n : ℕ). (let t : OffsetTable = record { base = n; entries = index.entries } in t)) base
    ∙ ap (λ (es : List (ℕ × ℕ)). (let t : OffsetTable = record { base = r.entry.start; entries = es } in t)) entries

-- and may be kept
pub index_cached : (c : Scene) (p : Plain) (x : Broker) (piece : Piece) (index : OffsetTable) → (r : FetchReads c p x piece)
    → index ≡ index_of r.entry.start r.stored_whole.interval (placed_from 0 r.stored_whole.batches) → CachedStands p.paths c.notes piece.id index
index_cached c p x piece index r is = record {
  before = c.notes;
  begins = prefix_self c.notes;
  entry = r.entry;
  there = r.there;
  finished = r.finished;
  is = λ entry there done.
      (let one : r.entry ≡ entry = one_some (entry_of piece.id (fold c.notes)) r.entry entry r.there there in
      subst (λ (e : Entry). IsIndexOf p.paths e index) one
      (record { batches = r.stored_whole.batches; line = r.stored_whole.line; interval = r.stored_whole.interval; describes = r.stored_whole.describes; is = is }));
}
