-- The part of a segment's log that its index shows to be needed holds the run.
use Rattle.std.proofs.Common.{◌≡◌, ◌∙◌, sym, ap, subst, refl, ℕ, zero, suc, ◌+◌, ◌-◌, ◌<◌, ◌≤◌, min, max, Bool, true, false, cond, nat_lt, List, [], ◌∷◌, ◌++◌, length, take, drop, Option, Some, None, IsOk, slice_get, arith, append_assoc, append-nil, length-append}
use Rattle.std.specs.Prelude.{◌^◌}
use Rattle.std.specs.List.{AllByRecursion}
use Rattle.std.proofs.Math.Nat.{min-le_right, le-min}
use Rattle.std.proofs.lemmas.Bool.{ltb-true, ltb-false}
use mathlib.Core.List.{IsPrefix}
use Rattle.log_terms.specs.Batch.{base_of, last_of}
use Rattle.log_terms.specs.Log.{IsConsecutive, joined, from_offset, end_from}
use Rattle.log_terms.proofs.Logs.{end_append, end_above, nested}
use Rattle.record_batch.specs.Check.{checked}
use Rattle.record_batch.proofs.Passing.{checked_long}
use Rattle.sparse_index.specs.Offsets.{OffsetTable}
use Rattle.segment_file.specs.Index.{placed_from, index_of}
use Rattle.segment_file.specs.Run.{end_after, MayBeginAt, would_pass, Fits, RunContinues}
use Rattle.segment_file.specs.Segment.{IsSegment}
use Rattle.segment_file.proofs.Joining.{all_parts, consecutive_parts}
use Rattle.segment_file.proofs.Runs.{joined_append}
use Rattle.tier_fetch.specs.Span.{capped, past as entries_past, begin_at, first_begin, limit_end, needed_end, span_of}
use Rattle.laws_tier_fetch.specs.Spans.{EndsIn, SpansHoldRuns}
use Rattle.laws_tier_fetch.proofs.Cutting.{checked_all, read_from, IsReadFrom, part_head}
use Rattle.laws_tier_fetch.proofs.Places.{ends_by, begins_by, ends_by_second}

-- numbers

max_left : (a b : ℕ) → a ≤ max a b
max_left a b = grind arith

max_right : (a b : ℕ) → b ≤ max a b
max_right a b = grind arith

-- bytes

length_take : (n : ℕ) (xs : List ℕ) → n ≤ length xs → length (take n xs) ≡ n
length_take zero xs h = refl
length_take (suc n) [] h = absurd (omega (arith, h))
length_take (suc n) (x ∷ xs) h = ap suc (length_take n xs (omega (arith, h)))

-- at least so many are taken
taken_long : (n k : ℕ) (xs : List ℕ) → k ≤ n → k ≤ length xs → k ≤ length (take n xs)
taken_long n zero xs h l = omega arith
taken_long zero (suc k) xs h l = absurd (omega (arith, h))
taken_long (suc n) (suc k) [] h l = absurd (omega (arith, l))
taken_long (suc n) (suc k) (x ∷ xs) h l = (let more = taken_long n k xs (omega (arith, h)) (omega (arith, l)) in omega (arith, more))

front_in : (xs ys ms zs : List ℕ) → xs ++ ys ≡ ms ++ zs → length ms ≤ length xs → (r : List ℕ) × (xs ≡ ms ++ r)
front_in xs ys [] zs is le = (xs, refl)
front_in [] ys (m ∷ ms) zs is le = absurd (omega (arith, le))
front_in (x ∷ xs) ys (m ∷ ms) zs is le =
    let first : x ≡ m = cc (is) in
    let rest : xs ++ ys ≡ ms ++ zs = cc (is) in
    let more = front_in xs ys ms zs rest (omega (arith, le)) in
    (more.0, ap (λ (y : ℕ). y ∷ xs) first ∙ ap (λ (l : List ℕ). m ∷ l) more.1)

-- batches

-- those before the one that holds an offset end by it
gone_low : (offset n : ℕ) (bs : List (List ℕ)) → n ≤ offset → (front : List (List ℕ)) × (bs ≡ front ++ from_offset offset bs) × (end_from n front ≤ offset)
gone_low offset n [] low = ([], refl, low)
gone_low offset n (b ∷ bs) low = by (nat_lt (last_of b) offset) refl (λ less. gone_low offset (last_of b + 1) bs less)
  where
    by : (t : Bool) → nat_lt (last_of b) offset ≡ t → (last_of b + 1 ≤ offset → (front : List (List ℕ)) × (bs ≡ front ++ from_offset offset bs) × (end_from (last_of b + 1) front ≤ offset))
        → (front : List (List ℕ)) × (b ∷ bs ≡ front ++ cond t (from_offset offset bs) (b ∷ bs)) × (end_from n front ≤ offset)
    by true t more = (let less : last_of b < offset = ltb-true (last_of b) offset t in let k = more (omega (arith, less)) in (b ∷ k.0, ap (λ (l : List (List ℕ)). b ∷ l) k.1, k.2))
    by false t more = ([], refl, low)

after_end : (n : ℕ) (bs : List (List ℕ)) → end_after (Some n) bs ≡ Some (end_from n bs)
after_end n [] = refl
after_end n (b ∷ bs) = after_end (last_of b + 1) bs

behind : (xs ys zs : List (List ℕ)) → xs ++ ys ≡ xs ++ zs → ys ≡ zs
behind [] ys zs is = is
behind (x ∷ xs) ys zs is = behind xs ys zs (cc (is))

-- a beginning of batches that ends before a bound which ends one of them has a next batch, which ends by the bound
record NextIs (bound : ℕ) (more : List (List ℕ)) : Type 0 where
  pub batch : List ℕ
  pub rest : List (List ℕ)
  pub is : more ≡ batch ∷ rest
  pub below : last_of batch + 1 ≤ bound

next_is : (base bound : ℕ) (batches pre more : List (List ℕ)) → IsConsecutive base batches → batches ≡ pre ++ more → end_from base pre < bound → EndsIn base batches bound → NextIs bound more
next_is base bound batches pre more c parts less ends = go k.0 k.1
  where
    k : IsPrefix pre ends.0
    k = nested base pre ends.0 batches c (more, sym parts) ends.1 (let is = ends.2 in omega (arith, less, is))

    go : (d : List (List ℕ)) → pre ++ d ≡ ends.0 → NextIs bound more
    go [] is = absurd (let same : pre ≡ ends.0 = sym (append-nil pre) ∙ is in let e = ap (end_from base) same in let at = ends.2 in omega (arith, less, e, at))
    go (m ∷ d) is =
        let whole : pre ++ more ≡ pre ++ (m ∷ (d ++ ends.1.0)) = sym parts ∙ sym ends.1.1 ∙ ap (λ (l : List (List ℕ)). l ++ ends.1.0) (sym is) ∙ append_assoc pre (m ∷ d) ends.1.0 in
        let row = consecutive_parts base pre more (subst (IsConsecutive base) parts c) in
        let next : more ≡ m ∷ (d ++ ends.1.0) = behind pre more (m ∷ (d ++ ends.1.0)) whole in
        let tail = (subst (IsConsecutive (end_from base pre)) next row.1).1 in
        let up = end_above (last_of m + 1) d (consecutive_parts (last_of m + 1) d ends.1.0 tail).0 in
        let e : end_from base ends.0 ≡ end_from (last_of m + 1) d = ap (end_from base) (sym is) ∙ end_append base pre (m ∷ d) in
        let at = ends.2 in
        record { batch = m; rest = d ++ ends.1.0; is = next; below = omega (arith, up, e, at) }

-- sizes

size_snoc : (pre : List (List ℕ)) (m : List ℕ) → length (joined (pre ++ m ∷ [])) ≡ length (joined pre) + length m
size_snoc pre m = ap length (joined_append pre (m ∷ []) ∙ ap (λ (l : List ℕ). joined pre ++ l) (append-nil m)) ∙ length-append (joined pre) m

size_both : (xs ys : List (List ℕ)) → length (joined (xs ++ ys)) ≡ length (joined xs) + length (joined ys)
size_both xs ys = ap length (joined_append xs ys) ∙ length-append (joined xs) (joined ys)

-- what fits the room that is needed, and 61 bytes more
in_needed : (n limit_at piece_at : ℕ) → n < 2 ^ 31 → n ≤ limit_at → n ≤ piece_at → n + 61 ≤ min (min limit_at piece_at + 61) (2 ^ 64 - 1)
in_needed n limit_at piece_at small low high = (let le = le-min low high in le-min (omega (arith, le)) (omega (arith, small)))

module _ (base interval : ℕ) (batches : List (List ℕ)) (offset limit end : ℕ) (s : IsSegment base batches) where
  abbrev index : OffsetTable
  index = index_of base interval (placed_from 0 batches)

  small : (pre rest : List (List ℕ)) (m : List ℕ) → batches ≡ pre ++ m ∷ rest → length (joined pre) + length m < 2 ^ 31
  small pre rest m parts =
      let whole : length (joined batches) ≡ length (joined pre) + (length m + length (joined rest)) =
      ap (λ (l : List (List ℕ)). length (joined l)) parts ∙ size_both pre (m ∷ rest) ∙ ap (λ (n : ℕ). length (joined pre) + n) (length-append m (joined rest)) in
      let few = s.small in
      omega (arith, whole, few)

  -- up to the limit's end
  limit_room : (pre rest : List (List ℕ)) (m : List ℕ) (n : ℕ) → n < 2 ^ 31 → batches ≡ pre ++ m ∷ rest → base_of m ≤ offset → n ≤ length (joined pre) + limit → n ≤ limit_end index offset limit
  limit_room pre rest m n few parts low le =
      let begin = begins_by base interval batches s offset pre rest m parts low in
      let cap : n ≤ min (first_begin index offset + limit) (2 ^ 64 - 1) = le-min (omega (arith, begin, le)) (omega (arith, few)) in
      let up = max_left (capped (first_begin index offset + limit)) (begin_at index (slice_get (entries_past index offset) 1)) in
      omega (arith, cap, up)

  second_room : (pre rest : List (List ℕ)) (m : List ℕ) → batches ≡ pre ++ m ∷ rest → base_of m ≤ offset → length (joined pre) + length m ≤ limit_end index offset limit
  second_room pre rest m parts low =
      let le = ends_by_second base interval batches s offset pre rest m parts low in
      let size = size_snoc pre m in
      let up = max_right (capped (first_begin index offset + limit)) (begin_at index (slice_get (entries_past index offset) 1)) in
      omega (arith, le, size, up)

  -- up to the piece's end
  piece_room : (pre rest : List (List ℕ)) (m : List ℕ) → batches ≡ pre ++ m ∷ rest → last_of m + 1 ≤ end → length (joined pre) + length m ≤ first_begin index (end - 1)
  piece_room pre rest m parts low =
      let le = ends_by base interval batches s (end - 1) pre rest m parts (omega (arith, low)) in
      let size = size_snoc pre m in
      omega (arith, le, size)

  -- where so many bytes after what was read are needed, so many are read
  rest_long : (from most j : ℕ) (given : List ℕ) (bs : List (List ℕ)) (rest : List ℕ) (k : IsReadFrom base batches offset from most given bs rest) (m : List ℕ) (others : List (List ℕ))
      → most ≡ needed_end index offset limit end - from → given ≡ joined bs ++ rest → k.more ≡ m ∷ others → j ≤ length m
      → length (joined (k.former ++ bs)) + j ≤ needed_end index offset limit end → j ≤ length rest
  rest_long from most j given bs rest k m others most_is stand more le room =
      let size : length (joined (k.former ++ bs)) ≡ length (joined k.former) + length (joined bs) = size_both k.former bs in
      let first = k.size in
      let enough : length (joined bs) + j ≤ most = omega (arith, most_is, room, size, first) in
      let there : length (joined (bs ++ k.more)) ≡ length (joined bs) + (length m + length (joined others)) =
      size_both bs k.more ∙ ap (λ (n : ℕ). length (joined bs) + n) (ap (λ (l : List (List ℕ)). length (joined l)) more ∙ length-append m (joined others)) in
      let long = taken_long most (length (joined bs) + j) (joined (bs ++ k.more)) enough (omega (arith, there, le)) in
      let is : length (take most (joined (bs ++ k.more))) ≡ length (joined bs) + length rest = ap length (sym k.given_is ∙ stand) ∙ length-append (joined bs) rest in
      omega (arith, long, is)

  -- the next batch lies in the bytes that are needed, where no run has begun
  room_before : (pre rest : List (List ℕ)) (m : List ℕ) → batches ≡ pre ++ m ∷ rest → base_of m ≤ offset → last_of m + 1 ≤ end → length (joined pre) + length m + 61 ≤ needed_end index offset limit end
  room_before pre rest m parts low high =
      in_needed (length (joined pre) + length m) (limit_end index offset limit) (first_begin index (end - 1)) (small pre rest m parts) (second_room pre rest m parts low) (piece_room pre rest m parts high)

  -- where one has, the next head does
  room_head : (pre rest : List (List ℕ)) (first m : List ℕ) (others : List (List ℕ)) → batches ≡ pre ++ first ∷ (others ++ m ∷ rest) → base_of first ≤ offset → last_of m + 1 ≤ end → Fits limit (first ∷ others)
      → length (joined pre) + length (joined (first ∷ others)) + 61 ≤ needed_end index offset limit end
  room_head pre rest first m others parts low high fits =
      let whole : batches ≡ (pre ++ first ∷ others) ++ m ∷ rest = parts ∙ sym (append_assoc pre (first ∷ others) (m ∷ rest)) in
      let few = small (pre ++ first ∷ others) rest m whole in
      let piece = piece_room (pre ++ first ∷ others) rest m whole high in
      let size : length (joined (pre ++ first ∷ others)) ≡ length (joined pre) + length (joined (first ∷ others)) = size_both pre (first ∷ others) in
      in_needed (length (joined pre) + length (joined (first ∷ others))) (limit_end index offset limit) (first_begin index (end - 1)) (omega (arith, few, size))
      (by others parts fits (omega (arith, few, size))) (omega (arith, piece, size))
    where
      by : (others : List (List ℕ)) → batches ≡ pre ++ first ∷ (others ++ m ∷ rest) → Fits limit (first ∷ others) → length (joined pre) + length (joined (first ∷ others)) < 2 ^ 31
          → length (joined pre) + length (joined (first ∷ others)) ≤ limit_end index offset limit
      by [] parts fits few = (let le = second_room pre (m ∷ rest) first parts low in let own : length (joined (first ∷ [])) ≡ length first = ap length (append-nil first) in omega (arith, le, own))
      by (next ∷ others) parts fits few = limit_room pre (next ∷ (others ++ m ∷ rest)) first (length (joined pre) + length (joined (first ∷ next ∷ others))) few parts low (omega (arith, fits))

  -- and so does the next batch, where it fits
  room_behind : (pre rest : List (List ℕ)) (first m : List ℕ) (others : List (List ℕ)) → batches ≡ pre ++ first ∷ (others ++ m ∷ rest) → base_of first ≤ offset → last_of m + 1 ≤ end
      → length (joined (first ∷ others)) + length m ≤ limit → length (joined pre) + length (joined (first ∷ others)) + length m + 61 ≤ needed_end index offset limit end
  room_behind pre rest first m others parts low high fits =
      let whole : batches ≡ (pre ++ first ∷ others) ++ m ∷ rest = parts ∙ sym (append_assoc pre (first ∷ others) (m ∷ rest)) in
      let few = small (pre ++ first ∷ others) rest m whole in
      let piece = piece_room (pre ++ first ∷ others) rest m whole high in
      let size : length (joined (pre ++ first ∷ others)) ≡ length (joined pre) + length (joined (first ∷ others)) = size_both pre (first ∷ others) in
      let n = length (joined pre) + length (joined (first ∷ others)) + length m in
      in_needed n (limit_end index offset limit) (first_begin index (end - 1)) (omega (arith, few, size))
      (limit_room pre (others ++ m ∷ rest) first n (omega (arith, few, size)) parts low (omega (arith, fits))) (omega (arith, piece, size))

  -- what was read, and the batch after it
  record Behind (from most : ℕ) (given : List ℕ) (bs : List (List ℕ)) (rest : List ℕ) : Type 0 where
    pub k : IsReadFrom base batches offset from most given bs rest
    pub most_is : most ≡ needed_end index offset limit end - from
    pub stand : given ≡ joined bs ++ rest
    pub m : List ℕ
    pub others : List (List ℕ)
    pub more : k.more ≡ m ∷ others
    pub ok : IsOk (checked m)
    pub high : last_of m + 1 ≤ end
    pub base_is : base_of m ≡ end_from base (k.former ++ bs)

  split_at : (from most : ℕ) (given : List ℕ) (bs : List (List ℕ)) (rest : List ℕ) (x : Behind from most given bs rest) → batches ≡ (x.k.former ++ bs) ++ x.m ∷ x.others
  split_at from most given bs rest x = x.k.parts ∙ ap (λ (l : List (List ℕ)). x.k.former ++ (bs ++ l)) x.more ∙ sym (append_assoc x.k.former bs (x.m ∷ x.others))

  -- it is read
  is_read : (from most : ℕ) (given : List ℕ) (bs : List (List ℕ)) (rest : List ℕ) (x : Behind from most given bs rest) (bound : ℕ) (run : List (List ℕ)) → from_offset offset bs ≡ run
      → Fits limit run → RunContinues limit bound (end_after None bs) run rest → length x.m ≤ length rest
  is_read from most given bs rest x bound [] run_is fits goes =
      let g = gone_low offset (end_from base x.k.former) bs x.k.ends in
      let all : bs ≡ g.0 = g.1 ∙ ap (λ (l : List (List ℕ)). g.0 ++ l) run_is ∙ append-nil g.0 in
      let end_is : end_from base (x.k.former ++ bs) ≡ end_from (end_from base x.k.former) g.0 = end_append base x.k.former bs ∙ ap (end_from (end_from base x.k.former)) all in
      let low : base_of x.m ≤ offset = (let start = x.base_is in let by = g.2 in omega (arith, start, by, end_is)) in
      let room = room_before (x.k.former ++ bs) x.others x.m (split_at from most given bs rest x) low x.high in
      rest_long from most (length x.m) given bs rest x.k x.m x.others x.most_is x.stand x.more (omega arith) (omega (arith, room))
  is_read from most given bs rest x bound (first ∷ run) run_is fits goes =
      let g = gone_low offset (end_from base x.k.former) bs x.k.ends in
      let all : bs ≡ g.0 ++ first ∷ run = g.1 ∙ ap (λ (l : List (List ℕ)). g.0 ++ l) run_is in
      let pre = x.k.former ++ g.0 in
      let front : x.k.former ++ bs ≡ pre ++ first ∷ run = ap (λ (l : List (List ℕ)). x.k.former ++ l) all ∙ sym (append_assoc x.k.former g.0 (first ∷ run)) in
      let parts : batches ≡ pre ++ first ∷ (run ++ x.m ∷ x.others) =
      split_at from most given bs rest x ∙ ap (λ (l : List (List ℕ)). l ++ x.m ∷ x.others) front ∙ append_assoc pre (first ∷ run) (x.m ∷ x.others) in
      let start : base_of first ≡ end_from base pre = (consecutive_parts base pre (first ∷ (run ++ x.m ∷ x.others)) (subst (IsConsecutive base) parts s.consecutive)).1.0 in
      let end_is : end_from base pre ≡ end_from (end_from base x.k.former) g.0 = end_append base x.k.former g.0 in
      let low : base_of first ≤ offset = (let by = g.2 in omega (arith, start, by, end_is)) in
      let size : length (joined (x.k.former ++ bs)) ≡ length (joined pre) + length (joined (first ∷ run)) = ap (λ (l : List (List ℕ)). length (joined l)) front ∙ size_both pre (first ∷ run) in
      let head = room_head pre x.others first x.m run parts low x.high fits in
      let long = rest_long from most 61 given bs rest x.k x.m x.others x.most_is x.stand x.more (checked_long x.m x.ok) (omega (arith, head, size)) in
      let h = part_head rest x.k.behind x.m (joined x.others) x.ok (x.k.rests ∙ ap joined x.more) long in
      let passes : nat_lt limit (length (joined (first ∷ run)) + length x.m) ≡ false =
      ap (λ (n : ℕ). nat_lt limit (length (joined (first ∷ run)) + n)) (sym h.2) ∙ ap (would_pass limit (length (joined (first ∷ run)))) (sym h.1) ∙ goes.1 in
      let fit : length (joined (first ∷ run)) + length x.m ≤ limit = ltb-false limit (length (joined (first ∷ run)) + length x.m) passes in
      let room = room_behind pre x.others first x.m run parts low x.high fit in
      rest_long from most (length x.m) given bs rest x.k x.m x.others x.most_is x.stand x.more (omega arith) (omega (arith, room, size))

-- a run that continues ends below its bound
goes_low : (offset n limit bound : ℕ) (bs run : List (List ℕ)) (rest : List ℕ) → n ≤ offset → offset < bound → from_offset offset bs ≡ run → RunContinues limit bound (end_after None bs) run rest → end_from n bs < bound
goes_low offset n limit bound bs [] rest low past is goes =
    let g = gone_low offset n bs low in
    let all : bs ≡ g.0 = g.1 ∙ ap (λ (l : List (List ℕ)). g.0 ++ l) is ∙ append-nil g.0 in
    let same = ap (end_from n) all in
    let by = g.2 in
    omega (arith, same, by, past)
goes_low offset n limit bound [] (first ∷ run) rest low past is goes = absurd (cc (is))
goes_low offset n limit bound (b ∷ bs) (first ∷ run) rest low past is goes = goes.0 (end_from (last_of b + 1) bs) (after_end (last_of b + 1) bs)

begins_next : (offset n base : ℕ) (bs : List (List ℕ)) → n ≤ offset → base ≡ end_from n bs → MayBeginAt (end_after None bs) offset base
begins_next offset n base [] low is = omega (arith, low, is)
begins_next offset n base (b ∷ bs) low is = subst (λ (o : Option ℕ). MayBeginAt o offset base) (sym (after_end (last_of b + 1) bs)) is

pub spans_hold : SpansHoldRuns
spans_hold base interval batches offset limit mark end at s low past bound piece bad =
    let index = index_of base interval (placed_from 0 batches) in
    let span = span_of index offset limit end in
    let given = take span.most (drop span.from (joined batches)) in
    let k = read_from base interval batches offset span.from span.most given bad.batches bad.rest s low refl refl bad.stand.parts (checked_all None offset (min mark end) bad.batches bad.stand.follow) in
    let parts : batches ≡ (k.former ++ bad.batches) ++ k.more = k.parts ∙ sym (append_assoc k.former bad.batches k.more) in
    let end_is : end_from base (k.former ++ bad.batches) ≡ end_from (end_from base k.former) bad.batches = end_append base k.former bad.batches in
    let less = goes_low offset (end_from base k.former) limit (min mark end) bad.batches (from_offset offset bad.batches) bad.rest k.ends past refl bad.goes_on in
    let next = next_is base (min mark end) batches (k.former ++ bad.batches) k.more s.consecutive parts (omega (arith, less, end_is)) bound in
    let all = (all_parts (λ (b : List ℕ). IsOk (checked b)) (k.former ++ bad.batches) k.more (subst (AllByRecursion (λ (b : List ℕ). IsOk (checked b))) parts s.checked)).1 in
    let ok : IsOk (checked next.batch) = (subst (AllByRecursion (λ (b : List ℕ). IsOk (checked b))) next.is all).0 in
    let row = (consecutive_parts base (k.former ++ bad.batches) k.more (subst (IsConsecutive base) parts s.consecutive)).1 in
    let start : base_of next.batch ≡ end_from base (k.former ++ bad.batches) = (subst (IsConsecutive (end_from base (k.former ++ bad.batches))) next.is row).0 in
    let below = next.below in
    let within = min-le_right mark end in
    let long = is_read base interval batches offset limit end s span.from span.most given bad.batches bad.rest
    (record {
      k = k;
      most_is = refl;
      stand = bad.stand.parts;
      m = next.batch;
      others = next.rest;
      more = next.is;
      ok = ok;
      high = omega (arith, below, within);
      base_is = start;
    })
    (min mark end) (from_offset offset bad.batches) refl bad.fits bad.goes_on in
    let front = front_in bad.rest k.behind next.batch (joined next.rest) (k.rests ∙ ap joined next.is) long in
    bad.nothing next.batch front.0 front.1 (record { is = ok; begins = begins_next offset (end_from base k.former) (base_of next.batch) bad.batches k.ends (start ∙ end_is); below = below })
