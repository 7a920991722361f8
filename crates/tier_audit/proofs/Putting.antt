-- The parts that a copy puts are right.
use Rattle.std.proofs.Common.{◌≡◌, ◌≢◌, ◌⊎◌, ◌∙◌, ap, sym, refl, subst, inl, inr, ℕ, ◌+◌, ◌-◌, ◌^◌, ◌<◌, ◌≤◌, Bool, true, false, ◌&&◌, ℤ, List, [], ◌∷◌, ◌++◌, length, Some, None, arith, FitsSigned}
use Rattle.std.specs.Prelude.{int_lt, pos, negsuc, ◌≤ℤ◌, ◌<ℤ◌, filter, nat_lt, nat_le, slice_get}
use Rattle.std.specs.Int.{w64}
use Rattle.std.specs.List.{AllByRecursion}
use Rattle.std.specs.Option.{ForSome}
use Rattle.std.proofs.lemmas.Bool.Decides.{nat_tests}
use Rattle.std.proofs.lemmas.Int.{ints}
use Rattle.std.proofs.lemmas.List.Elements.{filter_agree}
use Rattle.tier_base.specs.declared.plain.Part.{Part}
use Rattle.tier_base.specs.declared.plain.Part.TheVariants.{Log, Index, TimeIndex, Epochs, Pack}
use Rattle.tier_base.specs.declared.object_key.ObjectKey.{ObjectKey}
use Rattle.tier_base.proofs.Layouts.{layout_again}
use Rattle.tier_base.specs.Told.{In}
use Rattle.log_terms.specs.Batch.{last_of, max_ts_of}
use Rattle.log_terms.specs.Line.{epoch_at}
use Rattle.log_terms.specs.Log.{end_from}
use Rattle.sparse_index.specs.Entries as sparse
use Rattle.sparse_index.specs.Offsets.{FitsEntry, Rises}
use Rattle.sparse_index.specs.Times.{FitsMoment, RisesInTime, AreMoments}
use Rattle.sparse_index.proofs.Chains.{chain-push}
use Rattle.epoch_line.specs.Line.{IsLine, last_epoch, at_base, cut_end, within}
use Rattle.epoch_line.proofs.Holding.{started, epoch_at-started}
use Rattle.epoch_line.proofs.Parts.{filter-filter, IsLine-filter}
use Rattle.segment_file.specs.declared.placed.Placed.{Placed}
use Rattle.segment_file.specs.Growing.{end_after}
use Rattle.segment_file.specs.Index.{Marks, placed_from, is_due, with_offset, with_time, time_of, raised, unmarked, marked, marked_by, index_of, time_index_of}
use Rattle.segment_file.proofs.Joining.{consecutive_up}
use Rattle.segment_file.proofs.Laying.{LastBelow, last_below, none_below}
use Rattle.segment_file.proofs.Tracking.{Tops, tops_by, tops_first}
use Rattle.segment_bundle.specs.Parts.{Parts, first_offset, parts_of, part_in, layout_of}
use Rattle.segment_bundle.proofs.Packing.{pack_fits}
use Rattle.segment_meta.specs.declared.note.Entry.{Entry}
use Rattle.object_store.specs.Content.{Objects}
use Rattle.object_store.specs.declared.placing.Spot.{Spot}
use Rattle.object_store.specs.Place.{key_of, own_keys, whole, at_in, length_in, part_of, told_layout, all_of, short_of}
use Rattle.object_store.proofs.Parts.{parts_stand, parts_whole, not_short}
use Rattle.tier_audit.specs.Whole.{Describes, marks_of, heights_of, AreEntriesOf, AreTimesOf, AreMarks, AreHeights, IsPartRight, place_of, IsPartStored, IsReadable, ArePut}
use Rattle.tier_audit.proofs.Fronts.{each_up}
use Rattle.tier_audit.proofs.Marks.{AreNear, IsNearOne, near_one, near_rest, placed_near}

all_push : {X : Type 0} (P : X → Type 0) (xs : List X) (x : X) → AllByRecursion P xs → P x → AllByRecursion P (xs ++ x ∷ [])
all_push P [] x all one = (one, tt)
all_push P (y ∷ xs) x all one = (all.0, all_push P xs x all.1 one)

-- each of the one list is in the other
abbrev AllIn : {X : Type 0} → List X → List X → Type 0
AllIn {X} items all = (item : X) → In item items → In item all

all_in : {X : Type 0} (items : List X) → AllIn items items
all_in items item there = there

module _ (base interval : ℕ) (all : List (ℕ × ℕ)) where
  -- the entries with that of a batch more
  offset_more : (first : ℕ) (marks : Marks) (batch : Placed) → IsNearOne base first marks.size batch → In (batch.last - base, marks.size) all → LastBelow base marks.entries first marks.size → AreEntriesOf all marks.entries
      → AreEntriesOf all (with_offset base interval marks.entries marks.size batch.last)
  offset_more first marks batch n there below are = go (is_due interval marks.entries marks.size) refl
    where
      go : (t : Bool) → is_due interval marks.entries marks.size ≡ t → AreEntriesOf all (with_offset base interval marks.entries marks.size batch.last)
      go true t =
          let from = n.from in
          let up = n.up in
          let near = n.near in
          let under = n.below in
          let small = n.small in
          rw t (
            chain-push FitsEntry Rises marks.entries (batch.last - base, marks.size) are.0 (omega (arith, near, from), omega (arith, under, small))
                (λ entry e. (let b = below entry e in (omega (arith, b.0, up), b.1))),
            all_push (λ entry. In entry all) marks.entries (batch.last - base, marks.size) are.1 there,
          )
      go false t = rw t are

  -- and with those of all batches more
  offsets_by : (first : ℕ) (marks : Marks) (batches : List Placed) → AreNear base first marks.size batches → AllIn (marks_of base marks.size batches) all → LastBelow base marks.entries first marks.size → AreEntriesOf all marks.entries
      → AreEntriesOf all (marked_by base interval marks batches).entries
  offsets_by first marks [] n there below are = are
  offsets_by first marks (batch ∷ batches) n there below are =
      let one = near_one base first marks.size batch batches n in
      let from = n.from in
      let up = one.up in
      let under = one.below in
      offsets_by (batch.last + 1) (marked base interval marks batch) batches (near_rest base first marks.size batch batches n) (λ item h. there item (inr h))
      (last_below base interval first marks (batch ∷ []) from (up, under, tt) below)
      (offset_more first marks batch one (there (batch.last - base, marks.size) (inl refl)) below are)

module _ (base interval : ℕ) (all : List (ℤ × ℕ)) (limit : ℤ) (fits : FitsSigned w64 limit) where
  -- the greatest timestamp so far, with its batch: none, or one of these
  abbrev IsTop : ℤ × ℕ → Type 0
  IsTop top = (top.0 ≡ negsuc 0) ⊎ (In (top.0, top.1 - base) all × (top.0 ≤ℤ limit))

  not_less : (a : ℤ) → a ≡ negsuc 0 → pos 0 ≤ℤ a → ⊥
  not_less a e h = (let b : pos 0 ≤ℤ negsuc 0 = subst (λ z. pos 0 ≤ℤ z) e h in grind (arith, ints, b))

  between : (a : ℤ) → pos 0 ≤ℤ a → a ≤ℤ limit → FitsSigned w64 a
  between a low high = grind (arith, ints, fits)

  up_from : (a b : ℤ) → negsuc 0 ≤ℤ a → a <ℤ b → pos 0 ≤ℤ b
  up_from a b h k = grind (arith, ints)

  tested : (a b : ℤ) → int_lt a b ≡ true → a <ℤ b
  tested a b t = grind (arith, ints)

  last_up : (moments : List (ℤ × ℕ)) → AreMoments moments → negsuc 0 ≤ℤ time_of (sparse.last_of moments)
  last_up [] are = self (negsuc 0)
    where
      self : (a : ℤ) → a ≤ℤ a
      self a = grind (arith, ints)
  last_up (x ∷ []) are = low x.0 are.0.1
    where
      low : (a : ℤ) → pos 0 ≤ℤ a → negsuc 0 ≤ℤ a
      low a h = grind (arith, ints)
  last_up (x ∷ y ∷ moments) are = last_up (y ∷ moments) are.2

  last_time : (moments : List (ℤ × ℕ)) (last : ℤ × ℕ) → sparse.last_of moments ≡ Some last → time_of (sparse.last_of moments) ≡ last.0
  last_time moments last e = ap time_of e

  -- the moments with that of the greatest timestamp
  time_more : (moments : List (ℤ × ℕ)) (top : ℤ × ℕ) → IsTop top → base ≤ top.1 → top.1 < base + 2 ^ 31 → ForSome (sparse.last_of moments) (λ moment. base + moment.1 ≤ top.1) → AreTimesOf all moments
      → AreTimesOf all (with_time base moments top)
  time_more moments top is from near above are = go (int_lt (time_of (sparse.last_of moments)) top.0) refl
    where
      go : (t : Bool) → int_lt (time_of (sparse.last_of moments)) top.0 ≡ t → AreTimesOf all (with_time base moments top)
      go true t =
          let past = tested (time_of (sparse.last_of moments)) top.0 t in
          let low = up_from (time_of (sparse.last_of moments)) top.0 (last_up moments are.0) past in
          let there : In (top.0, top.1 - base) all × (top.0 ≤ℤ limit) = elim is [ inl e ↦ absurd (not_less top.0 e low) | inr h ↦ h ] in
          rw t (
            chain-push FitsMoment RisesInTime moments (top.0, top.1 - base) are.0 (between top.0 low there.1, low, omega (arith, near, from))
                (λ last e. (subst (λ z. z <ℤ top.0) (last_time moments last e) past, (let a = above last e in omega (arith, a)))),
            all_push (λ moment. In moment all) moments (top.0, top.1 - base) are.1 there.0,
          )
      go false t = rw t are

  -- what holds of the times so far
  record AreTimed (first : ℕ) (marks : Marks) : Type 0 where
    tops : Tops base first marks
    top : IsTop marks.top
    are : AreTimesOf all marks.moments

  rest_in : (ts : ℤ) (batch : Placed) (batches : List Placed) → AllIn (heights_of base ts (batch ∷ batches)) all → AllIn (heights_of base (raised (ts, 0) batch).0 batches) all
  rest_in ts batch batches there = go (int_lt ts batch.max_ts) refl
    where
      go : (t : Bool) → int_lt ts batch.max_ts ≡ t → AllIn (heights_of base (raised (ts, 0) batch).0 batches) all
      go true t = rw t (λ item h. there item (rw t (inr h)))
      go false t = rw t (λ item h. there item (rw t h))

  same_top : (top : ℤ × ℕ) (batch : Placed) → (raised (top.0, 0) batch).0 ≡ (raised top batch).0
  same_top top batch = go (int_lt top.0 batch.max_ts) refl
    where
      go : (t : Bool) → int_lt top.0 batch.max_ts ≡ t → (raised (top.0, 0) batch).0 ≡ (raised top batch).0
      go true t = rw t refl
      go false t = rw t refl

  top_more : (top : ℤ × ℕ) (batch : Placed) (batches : List Placed) → AllIn (heights_of base top.0 (batch ∷ batches)) all → batch.max_ts ≤ℤ limit → IsTop top → IsTop (raised top batch)
  top_more top batch batches there low is = go (int_lt top.0 batch.max_ts) refl
    where
      go : (t : Bool) → int_lt top.0 batch.max_ts ≡ t → IsTop (raised top batch)
      go true t = rw t (inr (there (batch.max_ts, batch.last - base) (rw t (inl refl)), low))
      go false t = rw t is

  timed_by : (first : ℕ) (marks : Marks) (batches : List Placed) → AreNear base first marks.size batches → AllIn (heights_of base marks.top.0 batches) all → AllByRecursion (λ (batch : Placed). batch.max_ts ≤ℤ limit) batches → AreTimed first marks
      → AreTimed (end_after first batches) (marked_by base interval marks batches)
  timed_by first marks [] n there low t = t
  timed_by first marks (batch ∷ batches) n there low t =
      let one = near_one base first marks.size batch batches n in
      let up = one.up in
      let near = one.near in
      let under = one.below in
      let tops : Tops base (batch.last + 1) (marked base interval marks batch) = tops_by base interval first marks.size marks (batch ∷ []) t.tops (up, under, tt) (omega (arith, near)) in
      let top = top_more marks.top batch batches there low.0 t.top in
      timed_by (batch.last + 1) (marked base interval marks batch) batches (near_rest base first marks.size batch batches n)
      (subst (λ z. AllIn (heights_of base z batches) all) (same_top marks.top batch) (rest_in marks.top.0 batch batches there)) low.1
      (record { tops = tops; top = top; are = moments one tops top })
    where
      moments : IsNearOne base first marks.size batch → Tops base (batch.last + 1) (marked base interval marks batch) → IsTop (raised marks.top batch) → AreTimesOf all (marked base interval marks batch).moments
      moments one tops top = go (is_due interval marks.entries marks.size) refl
        where
          from : base ≤ (raised marks.top batch).1
          from = tops.from_base

          near : (raised marks.top batch).1 < base + 2 ^ 31
          near = tops.near

          later : marks.top.1 ≤ (raised marks.top batch).1
          later = by (int_lt marks.top.0 batch.max_ts) refl
            where
              by : (b : Bool) → int_lt marks.top.0 batch.max_ts ≡ b → marks.top.1 ≤ (raised marks.top batch).1
              by true e = rw e (let before = t.tops.before in let up = one.up in omega (arith, before, up))
              by false e = rw e (omega arith)

          go : (b : Bool) → is_due interval marks.entries marks.size ≡ b → AreTimesOf all (marked base interval marks batch).moments
          go true b = rw b (time_more marks.moments (raised marks.top batch) top from near (λ moment e. (let a = t.tops.above moment e in let l = later in omega (arith, a, l))) t.are)
          go false b = rw b t.are

-- batches that are no later than the greatest timestamp, as they are placed
placed_low : (at : ℕ) (limit : ℤ) (batches : List (List ℕ)) → AllByRecursion (λ (batch : List ℕ). max_ts_of batch ≤ℤ limit) batches → AllByRecursion (λ (batch : Placed). batch.max_ts ≤ℤ limit) (placed_from at batches)
placed_low at limit [] all = tt
placed_low at limit (batch ∷ batches) all = (all.0, placed_low (at + length batch) limit batches all.1)

-- the first batch begins at the segment's base
first_is : (entry : Entry) (batches : List (List ℕ)) → Describes entry batches → first_offset batches ≡ entry.start
first_is entry [] d = absurd (d.some refl)
first_is entry (batch ∷ batches) d = d.is.consecutive.0

-- the part of a line within a segment is that of what starts up to the segment's end
within_same : (line : List (ℕ × ℕ)) (base last : ℕ) → IsLine line → base ≤ last → within (cut_end line (last + 1)) base last ≡ within line base last
within_same line base last is up =
    let snapshot = λ (e : ℕ × ℕ). nat_lt e.1 (last + 1) in
    let past = λ (e : ℕ × ℕ). nat_lt base e.1 && nat_le e.1 last in
    let started-same : started base (cut_end line (last + 1)) ≡ started base line =
    filter-filter (λ (e : ℕ × ℕ). nat_le e.1 base) snapshot line ∙ filter_agree (λ (e : ℕ × ℕ). nat_le e.1 base && nat_lt e.1 (last + 1)) (λ (e : ℕ × ℕ). nat_le e.1 base) (λ e. both e.1) line in
    let at : epoch_at (cut_end line (last + 1)) base ≡ epoch_at line base =
    epoch_at-started (cut_end line (last + 1)) base (IsLine-filter snapshot line is) ∙ (ap last_epoch started-same ∙ sym (epoch_at-started line base is)) in
    let rest : filter past (cut_end line (last + 1)) ≡ filter past line =
    filter-filter past snapshot line ∙ filter_agree (λ (e : ℕ × ℕ). (nat_lt base e.1 && nat_le e.1 last) && nat_lt e.1 (last + 1)) past (λ e. inside e.1) line in
    ap (λ o. at_base o base ++ filter past (cut_end line (last + 1))) at ∙ ap (λ xs. at_base (epoch_at line base) base ++ xs) rest
  where
    both : (n : ℕ) → (nat_le n base && nat_lt n (last + 1)) ≡ nat_le n base
    both n = grind (arith, nat_tests, up)

    inside : (n : ℕ) → ((nat_lt base n && nat_le n last) && nat_lt n (last + 1)) ≡ (nat_lt base n && nat_le n last)
    inside n = grind (arith, nat_tests)

module _ (entry : Entry) (batches : List (List ℕ)) (line : List (ℕ × ℕ)) (interval : ℕ) (d : Describes entry batches) (fits : FitsSigned w64 entry.max_ts) (rises : IsLine line) (map : within line entry.start entry.end ≡ entry.map) where
  ordered : entry.start ≤ entry.end
  ordered = by batches d
    where
      by : (bs : List (List ℕ)) → Describes entry bs → entry.start ≤ entry.end
      by [] d = absurd (d.some refl)
      by (batch ∷ bs) d =
          let row = d.is.consecutive in
          let up = consecutive_up (last_of batch + 1) bs row.1 in
          let last = d.last_is in
          omega (arith, row.0, up, last)

  near_all : AreNear entry.start entry.start 0 (placed_from 0 batches)
  near_all = placed_near entry.start (placed_from 0 batches) (record { batches = batches; is = d.is; found_are = refl })

  index_right : AreMarks entry.start batches (index_of entry.start interval (placed_from 0 batches)).entries
  index_right = offsets_by entry.start interval (marks_of entry.start 0 (placed_from 0 batches)) entry.start (unmarked entry.start) (placed_from 0 batches) near_all (all_in (marks_of entry.start 0 (placed_from 0 batches))) (none_below entry.start) (tt, tt)

  low_all : AllByRecursion (λ (batch : Placed). batch.max_ts ≤ℤ entry.max_ts) (placed_from 0 batches)
  low_all = placed_low 0 entry.max_ts batches (subst (λ z. AllByRecursion (λ (batch : List ℕ). max_ts_of batch ≤ℤ z) batches) (sym d.max_ts_is) (each_up batches))

  times_right : AreHeights entry.start batches (time_index_of entry.start interval (placed_from 0 batches)).entries
  times_right =
      let all = heights_of entry.start (negsuc 0) (placed_from 0 batches) in
      let t = timed_by entry.start interval all entry.max_ts fits entry.start (unmarked entry.start) (placed_from 0 batches) near_all (all_in all) low_all (record { tops = tops_first entry.start; top = inl refl; are = (tt, tt) }) in
      let marks = marked_by entry.start interval (unmarked entry.start) (placed_from 0 batches) in
      time_more entry.start interval all entry.max_ts fits marks.moments marks.top t.top t.tops.from_base t.tops.near t.tops.above t.are

  -- each part is right
  pub part_right : (part : Part) → part ≢ Pack → IsPartRight entry batches part (part_in (parts_of batches line interval) part)
  part_right Pack own = absurd (own refl)
  part_right Log own = refl
  part_right Index own = (
    (index_of (first_offset batches) interval (placed_from 0 batches)).entries,
    subst (λ n. AreMarks entry.start batches (index_of n interval (placed_from 0 batches)).entries) (sym (first_is entry batches d)) index_right,
    refl,
  )
  part_right TimeIndex own = (
    (time_index_of (first_offset batches) interval (placed_from 0 batches)).entries,
    subst (λ n. AreHeights entry.start batches (time_index_of n interval (placed_from 0 batches)).entries) (sym (first_is entry batches d)) times_right,
    refl,
  )
  part_right Epochs own =
      let end : end_from (first_offset batches) batches ≡ entry.end + 1 = ap (λ n. end_from n batches) (first_is entry batches d) ∙ sym d.last_is in (
        cut_end line (end_from (first_offset batches) batches),
        IsLine-filter (λ (e : ℕ × ℕ). nat_lt e.1 (end_from (first_offset batches) batches)) line rises,
        refl,
        ap (λ n. within (cut_end line n) entry.start entry.end) end ∙ (within_same line entry.start entry.end rises ordered ∙ map),
      )

-- so a copy whose objects are these is readable
pub copy_readable : (objects : Objects) (entry : Entry) (batches : List (List ℕ)) (line : List (ℕ × ℕ)) (interval : ℕ) → Describes entry batches → FitsSigned w64 entry.max_ts → IsLine line
    → within line entry.start entry.end ≡ entry.map → ArePut objects entry (parts_of batches line interval) → IsReadable objects entry
copy_readable objects entry batches line interval d fits rises map put =
    λ finished. (batches, d, (one Log (λ e. absurd (cc (e))), (one Index (λ e. absurd (cc (e))), (one TimeIndex (λ e. absurd (cc (e))), (one Epochs (λ e. absurd (cc (e))), tt)))))
  where
    parts : Parts
    parts = parts_of batches line interval

    key : ObjectKey
    key = key_of entry.partition entry.id Pack

    at : (spot : Spot) (part : Part) → part ≢ Pack → (object : List ℕ) → place_of entry part ≡ Some spot → objects spot.key ≡ Some object → short_of spot (all_of spot object) ≡ None → all_of spot object ≡ part_in parts part → IsPartStored objects entry batches part
    at spot part other object place there whole is = record {
      spot = spot;
      place = place;
      object = object;
      there = there;
      whole = whole;
      right = subst (IsPartRight entry batches part) (sym is) (part_right entry batches line interval d fits rises map part other);
    }

    -- each has an object of its own
    own : entry.packed ≡ false → (part : Part) → part ≢ Pack → IsPartStored objects entry batches part
    own is part other = at (whole (key_of entry.partition entry.id part)) part other (part_in parts part) (rw is refl) (by part other) refl refl
      where
        nth : (n : ℕ) (part : Part) → slice_get (own_keys entry.partition entry.id) n ≡ Some (key_of entry.partition entry.id part) → objects (key_of entry.partition entry.id part) ≡ Some (part_in parts part)
        nth n part e = put.stand n (key_of entry.partition entry.id part) (rw is e)

        by : (part : Part) → part ≢ Pack → objects (key_of entry.partition entry.id part) ≡ Some (part_in parts part)
        by Log other = nth 0 Log refl
        by Index other = nth 1 Index refl
        by TimeIndex other = nth 2 TimeIndex refl
        by Epochs other = nth 3 Epochs refl
        by Pack other = absurd (other refl)

    -- or all have one
    pack : entry.packed ≡ true → (part : Part) → part ≢ Pack → IsPartStored objects entry batches part
    pack is part other = at (part_of key (layout_of parts) part) part other (part_in parts Pack) place there whole (bytes part other)
      where
        told : told_layout entry.custom ≡ Some (layout_of parts)
        told = ap told_layout (put.custom is).0 ∙ layout_again (layout_of parts) (pack_fits parts (put.custom is).1)

        place : place_of entry part ≡ Some (part_of key (layout_of parts) part)
        place = rw (is, told) refl

        there : objects key ≡ Some (part_in parts Pack)
        there = put.stand 0 key (rw is refl)

        bytes : (part : Part) → part ≢ Pack → all_of (part_of key (layout_of parts) part) (part_in parts Pack) ≡ part_in parts part
        bytes Log other = parts_stand key parts.log parts.index parts.times parts.epochs Log
        bytes Index other = parts_stand key parts.log parts.index parts.times parts.epochs Index
        bytes TimeIndex other = parts_stand key parts.log parts.index parts.times parts.epochs TimeIndex
        bytes Epochs other = parts_stand key parts.log parts.index parts.times parts.epochs Epochs
        bytes Pack other = absurd (other refl)

        whole : short_of (part_of key (layout_of parts) part) (all_of (part_of key (layout_of parts) part) (part_in parts Pack)) ≡ None
        whole = not_short (at_in (layout_of parts) part) (Some (length_in (layout_of parts) part)) (all_of (part_of key (layout_of parts) part) (part_in parts Pack))
            (subst (λ (bytes : List ℕ). length_in (layout_of parts) part ≡ length bytes) (sym (parts_stand key parts.log parts.index parts.times parts.epochs part)) (parts_whole key parts.log parts.index parts.times parts.epochs part))

    one : (part : Part) → part ≢ Pack → IsPartStored objects entry batches part
    one part other = by entry.packed refl
      where
        by : (packed : Bool) → entry.packed ≡ packed → IsPartStored objects entry batches part
        by false is = own is part other
        by true is = pack is part other
