-- Where the entries of a segment's offset index are among its batches.
use Rattle.std.proofs.Common.{◌≡◌, ◌⊎◌, inl, inr, ◌∙◌, sym, ap, subst, refl, ℕ, ◌+◌, ◌-◌, ◌<◌, ◌≤◌, min, Bool, true, false, cond, nat_lt, List, [], ◌∷◌, ◌++◌, length, map, filter, Option, Some, None, slice_get, arith, append_assoc, length-append}
use Rattle.std.specs.Prelude.{◌^◌, nat_le}
use Rattle.std.specs.List.{AllByRecursion}
use Rattle.std.proofs.Math.Nat.{min-eq_left}
use Rattle.std.proofs.lemmas.Bool.{le-leb, leb-true, ltb-true, ltb-false}
use mathlib.Core.List.{IsPrefix}
use Rattle.tier_base.specs.Told.{In}
use Rattle.log_terms.specs.Batch.{base_of, last_of}
use Rattle.log_terms.specs.Log.{IsConsecutive, joined, end_from}
use Rattle.log_terms.proofs.Lists.{prefix_snoc}
use Rattle.log_terms.proofs.Logs.{end_append, nested}
use Rattle.sparse_index.specs.Entries.{last_of as last_entry, last_passing}
use Rattle.sparse_index.specs.Offsets.{OffsetTable, AreOffsets, is_up_to, place_of, find}
use Rattle.segment_file.specs.declared.placed.Placed.{Placed}
use Rattle.segment_file.specs.Index.{Marks, placed, placed_from, is_due, with_offset, unmarked, marked, marked_by, index_of}
use Rattle.segment_file.specs.Growing.{size_after}
use Rattle.segment_file.specs.Segment.{IsSegment}
use Rattle.segment_file.proofs.Joining.{consecutive_parts}
use Rattle.segment_file.proofs.Laying.{size_append}
use Rattle.segment_file.proofs.Placing.{placed_parts}
use Rattle.segment_file.proofs.Runs.{joined_append}
use Rattle.segment_file.proofs.Searching.{IsPlaced}
use Rattle.tier_fetch.specs.Span.{past, begin_at, first_begin}
use Rattle.laws_tier_fetch.proofs.Entries.{index_rises}

-- each entry is a batch's

all_push : {X : Type 0} (P : X → Type 0) (xs : List X) (x : X) → AllByRecursion P xs → P x → AllByRecursion P (xs ++ x ∷ [])
all_push P [] x all one = (one, tt)
all_push P (y ∷ xs) x all one = (all.0, all_push P xs x all.1 one)

all_offsets : (P : ℕ × ℕ → Type 0) (base interval : ℕ) (entries : List (ℕ × ℕ)) (size last : ℕ) (t : Bool) → is_due interval entries size ≡ t → AllByRecursion P entries → P (last - base, size)
    → AllByRecursion P (with_offset base interval entries size last)
all_offsets P base interval entries size last true is all one = rw is (all_push P entries (last - base, size) all one)
all_offsets P base interval entries size last false is all one = rw is all

all_placed : (base interval : ℕ) (whole front rest : List Placed) (marks : Marks) → whole ≡ front ++ rest → marks.size ≡ size_after 0 front → AllByRecursion (IsPlaced base whole) marks.entries
    → AllByRecursion (IsPlaced base whole) (marked_by base interval marks rest).entries
all_placed base interval whole front [] marks parts size all = all
all_placed base interval whole front (one ∷ rest) marks parts size all =
    let this : IsPlaced base whole (one.last - base, marks.size) = record { front = front; one = one; rest = rest; parts = parts; offset = refl; position = size } in
    all_placed base interval whole (front ++ one ∷ []) rest (marked base interval marks one)
    (parts ∙ sym (append_assoc front (one ∷ []) rest))
    (sym (size_append 0 front (one ∷ [])))
    (all_offsets (IsPlaced base whole) base interval marks.entries marks.size one.last (is_due interval marks.entries marks.size) refl all this)

all_in : {X : Type 0} (P : X → Type 0) (xs : List X) (x : X) → AllByRecursion P xs → In x xs → P x
all_in P [] x all there = absurd there
all_in P (y ∷ xs) x all (inl here) = subst P (sym here) all.0
all_in P (y ∷ xs) x all (inr there) = all_in P xs x all.1 there

-- the batch of an entry, and those before it
pub record Placing (base : ℕ) (batches : List (List ℕ)) (entry : ℕ × ℕ) : Type 0 where
  pub front : List (List ℕ)
  pub batch : List ℕ
  pub rest : List (List ℕ)
  pub parts : batches ≡ front ++ batch ∷ rest
  pub last : base + entry.0 ≡ last_of batch
  pub position : entry.1 ≡ length (joined front)

placing : (base : ℕ) (batches : List (List ℕ)) (entry : ℕ × ℕ) → IsConsecutive base batches → IsPlaced base (placed_from 0 batches) entry → Placing base batches entry
placing base batches entry c k =
    let q = placed_parts 0 batches k.front (k.one ∷ k.rest) k.parts in
    by q.former q.latter q.parts q.size q.rest_is
  where
    by : (former latter : List (List ℕ)) → batches ≡ former ++ latter → size_after 0 k.front ≡ 0 + length (joined former) → placed_from (0 + length (joined former)) latter ≡ k.one ∷ k.rest
        → Placing base batches entry
    by former [] parts size rest = absurd (cc (rest))
    by former (b ∷ latter) parts size rest =
        let one : placed (0 + length (joined former)) b ≡ k.one = cc (rest) in
        let last : last_of b ≡ k.one.last = ap (λ (o : Placed). o.last) one in
        let row = consecutive_parts base former (b ∷ latter) (subst (IsConsecutive base) parts c) in
        let low = up base former row.0 in
        let first : base_of b ≡ end_from base former = row.1.0 in
        let offset : entry.0 ≡ k.one.last - base = k.offset in
        let at : entry.1 ≡ size_after 0 k.front = k.position in
        record { front = former; batch = b; rest = latter; parts = parts; last = omega (arith, offset, last, low, first); position = omega (arith, at, size) }
      where
        up : (n : ℕ) (xs : List (List ℕ)) → IsConsecutive n xs → n ≤ end_from n xs
        up n [] c = omega arith
        up n (x ∷ xs) c = (let more = up (last_of x + 1) xs c.1 in omega (arith, more, c.0))

pub entry_placed : (base interval : ℕ) (batches : List (List ℕ)) (entry : ℕ × ℕ) → IsConsecutive base batches → In entry (index_of base interval (placed_from 0 batches)).entries → Placing base batches entry
entry_placed base interval batches entry c there =
    placing base batches entry c (all_in (IsPlaced base (placed_from 0 batches)) (index_of base interval (placed_from 0 batches)).entries entry
    (all_placed base interval (placed_from 0 batches) [] (placed_from 0 batches) (unmarked base) refl refl tt) there)

-- two batches

-- the size of a beginning
size_in : (xs ys : List (List ℕ)) → IsPrefix xs ys → length (joined xs) ≤ length (joined ys)
size_in xs ys p =
    let is : length (joined ys) ≡ length (joined xs) + length (joined p.0) = ap (λ (l : List (List ℕ)). length (joined l)) (sym p.1) ∙ ap length (joined_append xs p.0) ∙ length-append (joined xs) (joined p.0) in
    omega (arith, is)

end_snoc : (n : ℕ) (xs : List (List ℕ)) (b : List ℕ) → end_from n (xs ++ b ∷ []) ≡ last_of b + 1
end_snoc n xs b = end_append n xs (b ∷ [])

one_of : (xs : List (List ℕ)) (b : List ℕ) (rest ys : List (List ℕ)) → ys ≡ xs ++ b ∷ rest → IsPrefix (xs ++ b ∷ []) ys
one_of xs b rest ys is = (rest, append_assoc xs (b ∷ []) rest ∙ sym is)

-- one that ends before the other does precedes it
pub before : (base : ℕ) (batches pre post former latter : List (List ℕ)) (m b : List ℕ) → IsConsecutive base batches → batches ≡ pre ++ m ∷ post → batches ≡ former ++ b ∷ latter
    → last_of m < last_of b → IsPrefix (pre ++ m ∷ []) former
before base batches pre post former latter m b c one two less =
    let k = nested base (pre ++ m ∷ []) (former ++ b ∷ []) batches c (one_of pre m post batches one) (one_of former b latter batches two)
    (let x = end_snoc base pre m in let y = end_snoc base former b in omega (arith, x, y, less)) in
    elim (prefix_snoc (pre ++ m ∷ []) former b k) [
      | inl whole ↦ whole
      | inr same ↦ absurd (let x = end_snoc base pre m in let y = end_snoc base former b in let z = ap (end_from base) same in omega (arith, x, y, z, less))
    ]

-- one that doesn't begin past the other's last offset doesn't follow it
pub not_behind : (base : ℕ) (batches pre post former latter : List (List ℕ)) (m b : List ℕ) → IsConsecutive base batches → batches ≡ pre ++ m ∷ post → batches ≡ former ++ b ∷ latter
    → base_of m ≤ last_of b → IsPrefix pre former
not_behind base batches pre post former latter m b c one two low =
    let first : base_of m ≡ end_from base pre = (consecutive_parts base pre (m ∷ post) (subst (IsConsecutive base) one c)).1.0 in
    let k = nested base pre (former ++ b ∷ []) batches c (m ∷ post, sym one) (one_of former b latter batches two)
    (let y = end_snoc base former b in omega (arith, first, y, low)) in
    elim (prefix_snoc pre former b k) [
      | inl whole ↦ whole
      | inr same ↦ absurd (let y = end_snoc base former b in let z = ap (end_from base) same in omega (arith, first, y, z, low))
    ]

-- entries by their offsets

later : (x : ℕ × ℕ) (xs : List (ℕ × ℕ)) (e : ℕ × ℕ) → AreOffsets (x ∷ xs) → In e xs → x.0 < e.0
later x [] e h there = absurd there
later x (y ∷ xs) e h (inl here) = (let r = h.1.0 in subst (λ (z : ℕ × ℕ). x.0 < z.0) (sym here) r)
later x (y ∷ xs) e h (inr there) = (let r = h.1.0 in let more = later y xs e h.2 there in omega (arith, r, more))

none_up : (base : ℕ) (o : ℕ) (xs : List (ℕ × ℕ)) → ((e : ℕ × ℕ) → In e xs → o < base + e.0) → filter (is_up_to base o) xs ≡ []
none_up base o [] all = refl
none_up base o (x ∷ xs) all = rw (lt_false_le (base + x.0) o (all x (inl refl))) (none_up base o xs (λ e there. all e (inr there)))
  where
    lt_false_le : (a b : ℕ) → b < a → nat_le a b ≡ false
    lt_false_le a b h = by (nat_le a b) refl
      where
        by : (t : Bool) → nat_le a b ≡ t → nat_le a b ≡ false
        by false e = e
        by true e = absurd (let le : a ≤ b = leb-true a b e in omega (arith, le, h))

last_behind : (x : ℕ × ℕ) (ys : List (ℕ × ℕ)) (e : ℕ × ℕ) → last_entry ys ≡ Some e → last_entry (x ∷ ys) ≡ Some e
last_behind x [] e is = absurd (cc (is))
last_behind x (y ∷ ys) e is = is

-- the floor of an entry's own offset is the entry
floor_own : (base : ℕ) (es : List (ℕ × ℕ)) (e : ℕ × ℕ) → AreOffsets es → In e es → last_passing (is_up_to base (base + e.0)) es ≡ Some e
floor_own base [] e h there = absurd there
floor_own base (x ∷ xs) e h (inl here) =
    let own : nat_le (base + x.0) (base + e.0) ≡ true = le-leb (base + x.0) (base + e.0) (let same = ap (λ (z : ℕ × ℕ). z.0) here in omega (arith, same)) in
    let none = none_up base (base + e.0) xs (λ y there. (let up = later x xs y h there in let same = ap (λ (z : ℕ × ℕ). z.0) here in omega (arith, up, same))) in
    rw (own, none) (ap (λ (z : ℕ × ℕ). Some z) (sym here))
floor_own base (x ∷ xs) e h (inr there) =
    let up = later x xs e h there in
    let own : nat_le (base + x.0) (base + e.0) ≡ true = le-leb (base + x.0) (base + e.0) (omega (arith, up)) in
    rw own (last_behind x (filter (is_up_to base (base + e.0)) xs) e (floor_own base xs e h.2 there))

-- the first entries past an offset
pub record FirstPast (base : ℕ) (es : List (ℕ × ℕ)) (offset last : ℕ) : Type 0 where
  pub entry : ℕ × ℕ
  pub there : In entry es
  pub is : entry.0 ≡ last
  pub above : offset < base + entry.0

first_past : (base : ℕ) (es : List (ℕ × ℕ)) (offset last : ℕ) → slice_get (filter (λ (l : ℕ). nat_lt offset (base + l)) (map (λ (e : ℕ × ℕ). e.0) es)) 0 ≡ Some last → FirstPast base es offset last
first_past base [] offset last is = absurd (cc (is))
first_past base (x ∷ es) offset last is = by (nat_lt offset (base + x.0)) refl is (first_past base es offset last)
  where
    by : (t : Bool) → nat_lt offset (base + x.0) ≡ t
        → slice_get (cond t (x.0 ∷ filter (λ (l : ℕ). nat_lt offset (base + l)) (map (λ (e : ℕ × ℕ). e.0) es)) (filter (λ (l : ℕ). nat_lt offset (base + l)) (map (λ (e : ℕ × ℕ). e.0) es))) 0 ≡ Some last
        → (slice_get (filter (λ (l : ℕ). nat_lt offset (base + l)) (map (λ (e : ℕ × ℕ). e.0) es)) 0 ≡ Some last → FirstPast base es offset last) → FirstPast base (x ∷ es) offset last
    by true t is more = record { entry = x; there = inl refl; is = cc (is); above = ltb-true offset (base + x.0) t }
    by false t is more = (let k = more is in record { entry = k.entry; there = inr k.there; is = k.is; above = k.above })

pub record SecondPast (base : ℕ) (es : List (ℕ × ℕ)) (offset last : ℕ) : Type 0 where
  pub first : ℕ × ℕ
  pub first_there : In first es
  pub above : offset < base + first.0
  pub entry : ℕ × ℕ
  pub there : In entry es
  pub is : entry.0 ≡ last
  pub later : first.0 < entry.0

second_past : (base : ℕ) (es : List (ℕ × ℕ)) (offset last : ℕ) → AreOffsets es → slice_get (filter (λ (l : ℕ). nat_lt offset (base + l)) (map (λ (e : ℕ × ℕ). e.0) es)) 1 ≡ Some last
    → SecondPast base es offset last
second_past base [] offset last h is = absurd (cc (is))
second_past base (x ∷ es) offset last h is = by (nat_lt offset (base + x.0)) refl is (second_past base es offset last h.2)
  where
    by : (t : Bool) → nat_lt offset (base + x.0) ≡ t
        → slice_get (cond t (x.0 ∷ filter (λ (l : ℕ). nat_lt offset (base + l)) (map (λ (e : ℕ × ℕ). e.0) es)) (filter (λ (l : ℕ). nat_lt offset (base + l)) (map (λ (e : ℕ × ℕ). e.0) es))) 1 ≡ Some last
        → (slice_get (filter (λ (l : ℕ). nat_lt offset (base + l)) (map (λ (e : ℕ × ℕ). e.0) es)) 1 ≡ Some last → SecondPast base es offset last) → SecondPast base (x ∷ es) offset last
    by true t is more =
        (let k = first_past base es offset last is in
        record { first = x; first_there = inl refl; above = ltb-true offset (base + x.0) t; entry = k.entry; there = inr k.there; is = k.is; later = later x es k.entry h k.there })
    by false t is more =
        (let k = more is in
        record { first = k.first; first_there = inr k.first_there; above = k.above; entry = k.entry; there = inr k.there; is = k.is; later = k.later })

-- where the batches of entries begin

module _ (base interval : ℕ) (batches : List (List ℕ)) (s : IsSegment base batches) where
  abbrev index : OffsetTable
  index = index_of base interval (placed_from 0 batches)

  own_begin : (entry : ℕ × ℕ) → In entry index.entries → begin_at index (Some entry.0) ≡ entry.1
  own_begin entry there =
      let k = entry_placed base interval batches entry s.consecutive there in
      let low = s.low in
      let last = k.last in
      let end : last_of k.batch + 1 ≤ end_from base batches = within k.front k.batch k.rest k.parts in
      let cap : min (base + entry.0) (2 ^ 64 - 1) ≡ base + entry.0 = min-eq_left (omega (arith, low, last, end)) in
      ap (λ (n : ℕ). (find index n).1) cap ∙ ap (λ (o : Option (ℕ × ℕ)). (place_of base o).1) (floor_own base index.entries entry (index_rises base interval batches s) there)
    where
      up : (n : ℕ) (xs : List (List ℕ)) → IsConsecutive n xs → n ≤ end_from n xs
      up n [] c = omega arith
      up n (x ∷ xs) c = (let more = up (last_of x + 1) xs c.1 in omega (arith, more, c.0))

      within : (front : List (List ℕ)) (b : List ℕ) (rest : List (List ℕ)) → batches ≡ front ++ b ∷ rest → last_of b + 1 ≤ end_from base batches
      within front b rest parts =
          let row = consecutive_parts base front (b ∷ rest) (subst (IsConsecutive base) parts s.consecutive) in
          let more = up (last_of b + 1) rest row.1.1 in
          let end : end_from base batches ≡ end_from (last_of b + 1) rest = ap (end_from base) parts ∙ end_append base front (b ∷ rest) in
          omega (arith, more, end)

  total : (pre : List (List ℕ)) → IsPrefix pre batches → length (joined pre) < 2 ^ 31
  total pre p = (let le = size_in pre batches p in let small = s.small in omega (arith, le, small))

  -- a batch that ends by an offset ends by where the first entry past it begins
  pub ends_by : (offset : ℕ) (pre post : List (List ℕ)) (m : List ℕ) → batches ≡ pre ++ m ∷ post → last_of m ≤ offset → length (joined (pre ++ m ∷ [])) ≤ first_begin index offset
  ends_by offset pre post m parts low = by (slice_get (past index offset) 0) refl
    where
      by : (o : Option ℕ) → slice_get (past index offset) 0 ≡ o → length (joined (pre ++ m ∷ [])) ≤ begin_at index o
      by None is = (let t = total (pre ++ m ∷ []) (one_of pre m post batches parts) in omega (arith, t))
      by (Some last) is =
          let k = first_past base index.entries offset last is in
          let e = entry_placed base interval batches k.entry s.consecutive k.there in
          let above = k.above in
          let at = e.last in
          let p = before base batches pre post e.front e.rest m e.batch s.consecutive parts e.parts (omega (arith, low, above, at)) in
          let le = size_in (pre ++ m ∷ []) e.front p in
          let position = e.position in
          let begin : begin_at index (Some last) ≡ k.entry.1 = ap (λ (l : ℕ). begin_at index (Some l)) (sym k.is) ∙ own_begin k.entry k.there in
          omega (arith, le, position, begin)

  -- one that begins by an offset begins by there
  pub begins_by : (offset : ℕ) (pre post : List (List ℕ)) (m : List ℕ) → batches ≡ pre ++ m ∷ post → base_of m ≤ offset → length (joined pre) ≤ first_begin index offset
  begins_by offset pre post m parts low = by (slice_get (past index offset) 0) refl
    where
      by : (o : Option ℕ) → slice_get (past index offset) 0 ≡ o → length (joined pre) ≤ begin_at index o
      by None is = (let t = total pre (m ∷ post, sym parts) in omega (arith, t))
      by (Some last) is =
          let k = first_past base index.entries offset last is in
          let e = entry_placed base interval batches k.entry s.consecutive k.there in
          let above = k.above in
          let at = e.last in
          let p = not_behind base batches pre post e.front e.rest m e.batch s.consecutive parts e.parts (omega (arith, low, above, at)) in
          let le = size_in pre e.front p in
          let position = e.position in
          let begin : begin_at index (Some last) ≡ k.entry.1 = ap (λ (l : ℕ). begin_at index (Some l)) (sym k.is) ∙ own_begin k.entry k.there in
          omega (arith, le, position, begin)

  -- and ends by where the second one begins
  pub ends_by_second : (offset : ℕ) (pre post : List (List ℕ)) (m : List ℕ) → batches ≡ pre ++ m ∷ post → base_of m ≤ offset
      → length (joined (pre ++ m ∷ [])) ≤ begin_at index (slice_get (past index offset) 1)
  ends_by_second offset pre post m parts low = by (slice_get (past index offset) 1) refl
    where
      by : (o : Option ℕ) → slice_get (past index offset) 1 ≡ o → length (joined (pre ++ m ∷ [])) ≤ begin_at index o
      by None is = (let t = total (pre ++ m ∷ []) (one_of pre m post batches parts) in omega (arith, t))
      by (Some last) is =
          let k = second_past base index.entries offset last (index_rises base interval batches s) is in
          let d = entry_placed base interval batches k.first s.consecutive k.first_there in
          let e = entry_placed base interval batches k.entry s.consecutive k.there in
          let above = k.above in
          let rises = k.later in
          let at = e.last in
          let first = d.last in
          let less : last_of m < last_of e.batch = (elim (order (last_of m) (last_of d.batch)) [
            | inl le ↦ omega (arith, le, rises, at, first)
            | inr gt ↦ absurd (
                let p = before base batches d.front d.rest pre post d.batch m s.consecutive d.parts parts gt in
                let row = consecutive_parts base pre (m ∷ post) (subst (IsConsecutive base) parts s.consecutive) in
                let end : end_from base pre ≡ end_from (last_of d.batch + 1) p.0 = ap (end_from base) (sym p.1) ∙ end_append base (d.front ++ d.batch ∷ []) p.0 ∙ ap (λ (n : ℕ). end_from n p.0) (end_snoc base d.front d.batch) in
                let tail = consecutive_parts base (d.front ++ d.batch ∷ []) p.0 (subst (IsConsecutive base) (sym p.1) row.0) in
                let more = up (last_of d.batch + 1) p.0 (subst (λ (n : ℕ). IsConsecutive n p.0) (end_snoc base d.front d.batch) tail.1) in
                let start : base_of m ≡ end_from base pre = row.1.0 in
                omega (arith, start, end, more, first, above, low))
          ]) in
          let p = before base batches pre post e.front e.rest m e.batch s.consecutive parts e.parts less in
          let le = size_in (pre ++ m ∷ []) e.front p in
          let position = e.position in
          let begin : begin_at index (Some last) ≡ k.entry.1 = ap (λ (l : ℕ). begin_at index (Some l)) (sym k.is) ∙ own_begin k.entry k.there in
          omega (arith, le, position, begin)
        where
          order : (x y : ℕ) → (x ≤ y) ⊎ (y < x)
          order x y = by_lt (nat_lt y x) refl
            where
              by_lt : (t : Bool) → nat_lt y x ≡ t → (x ≤ y) ⊎ (y < x)
              by_lt true t = inr (ltb-true y x t)
              by_lt false t = inl (ltb-false y x t)

          up : (n : ℕ) (xs : List (List ℕ)) → IsConsecutive n xs → n ≤ end_from n xs
          up n [] c = omega arith
          up n (x ∷ xs) c = (let more = up (last_of x + 1) xs c.1 in omega (arith, more, c.0))
