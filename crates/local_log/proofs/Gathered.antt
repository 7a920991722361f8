-- A run goes into a segment, batch by batch.
use Rattle.std.proofs.Common.{◌≡◌, ◌^◌, ◌∙◌, ap, sym, subst, refl, inl, inr, ℕ, ◌+◌, ◌-◌, ◌≤◌, ◌<◌, Bool, true, false, cond, List, [], ◌∷◌, ◌++◌, length, drop, Option, Some, None, Ok, IsOk, arith, append_assoc, length-append, lt-ltb}
use Rattle.std.specs.Prelude.{nat_lt, nat_le, ◌&&◌, ◌||◌, unwrap_or}
use Rattle.std.proofs.lemmas.Bool.{ltb-false, cases_lt, le-leb}
use Rattle.std.proofs.lemmas.Bool.Decides.{nat_tests}
use Rattle.std.proofs.lemmas.List.{append-nil}
use Rattle.log_terms.specs.Batch.{base_of, last_of, epoch_of}
use Rattle.log_terms.specs.Log.{joined, IsConsecutive, end_from}
use Rattle.record_batch.specs.declared.head.Head.{Head}
use Rattle.record_batch.specs.Check.{checked, headed}
use Rattle.record_batch.specs.Head.{head_of}
use Rattle.epoch_line.specs.Line.{last_epoch, assign, cut_end}
use Rattle.segment_file.specs.declared.placed.Placed.{Placed}
use Rattle.segment_file.specs.Gathering.{HeadDescribes}
use Rattle.segment_file.specs.Segment.{EpochsRise}
use Rattle.segment_file.specs.Index.{placed, placed_in, placed_from}
use Rattle.segment_file.specs.Growing.{Grown, end_after, size_after, AreBatchesLaid, MayPush, with_batch}
use Rattle.segment_file.proofs.Joining.{consecutive_parts}
use Rattle.segment_file.proofs.Laying.{end_append, size_append, size_up, end_up, laid_push}
use Rattle.segment_file.proofs.Standing.{AreBytes, bytes_drop}
use Rattle.segment_file.proofs.Telling.{placed_same}
use Rattle.log_steps.specs.Fronts.{Each}
use Rattle.log_steps.proofs.Lists.{each_right}
use Rattle.local_log.specs.Stored.{size_of, end_of}
use Rattle.local_log.specs.Listing.{IsLaidOut}
use Rattle.local_log.specs.Run.{IsRunFor, rolls_before, taking, snapshot, lined, is_last}
use Rattle.local_log.specs.Taking.{head_asks, AsksOf, line_or, grown_by, IsGathering, IsTakenIn}
use Rattle.local_log.proofs.Pieces.{joined_append, size_placed, end_placed, placed_append}
use Rattle.local_log.proofs.Heads.{headed_batch, front_tells, short_batch, long_batch, asks}

drop_at : (xs ys : List ℕ) → drop (length xs) (xs ++ ys) ≡ ys
drop_at [] ys = refl
drop_at (x ∷ xs) ys = drop_at xs ys

last_pushed : (xs : List (ℕ × ℕ)) (e : ℕ × ℕ) → last_epoch (xs ++ e ∷ []) ≡ Some e.0
last_pushed [] e = refl
last_pushed (x ∷ []) e = refl
last_pushed (x ∷ y ∷ xs) e = last_pushed (y ∷ xs) e

eq_of : (a b : ℕ) (line : List (ℕ × ℕ)) (o : Option ℕ) → last_epoch line ≡ o → (t : Bool) → is_last o b ≡ t → last_epoch (cond t line (assign line b a)) ≡ Some b
eq_of a b line o is false e = last_pushed (cut_end line a) (b, a)
eq_of a b line None is true e = absurd (cc (e))
eq_of a b line (Some x) is true e = let same : x ≡ b = grind (arith, nat_tests, e) in is ∙ ap (λ (n : ℕ). Some n) same

-- the epoch has begun
pub begun_last : (line : List (ℕ × ℕ)) (epoch start : ℕ) → last_epoch (snapshot line epoch start) ≡ Some epoch
begun_last line epoch start = eq_of start epoch line (last_epoch line) refl (is_last (last_epoch line) epoch) refl

pub lined_snoc : (line : List (ℕ × ℕ)) (bs : List (List ℕ)) (b : List ℕ) → lined line (bs ++ b ∷ []) ≡ snapshot (lined line bs) (epoch_of b) (base_of b)
lined_snoc line [] b = refl
lined_snoc line (x ∷ bs) b = lined_snoc (snapshot line (epoch_of x) (base_of x)) bs b

-- the epochs after the front don't fall
pub lined_rise : (line : List (ℕ × ℕ)) (front rest : List (List ℕ)) → EpochsRise (unwrap_or (last_epoch line) 0) (front ++ rest) → EpochsRise (unwrap_or (last_epoch (lined line front)) 0) rest
lined_rise line [] rest h = h
lined_rise line (b ∷ front) rest h =
    lined_rise (snapshot line (epoch_of b) (base_of b)) front rest
    (subst (λ (o : Option ℕ). EpochsRise (unwrap_or o 0) (front ++ rest)) (sym (begun_last line (epoch_of b) (base_of b))) h.2)

or_false : (a b : Bool) → (a || b) ≡ false → (a ≡ false) × (b ≡ false)
or_false true b e = absurd (cc (e))
or_false false b e = (refl, e)

and_false : (a b : Bool) → (a && b) ≡ false → a ≡ true → b ≡ false
and_false true b e t = e
and_false false b e t = absurd (cc (t))

leb_false : (a b : ℕ) → nat_le a b ≡ false → b < a
leb_false a b e = elim (cases_lt b a) [
  | inl lt ↦ lt
  | inr le ↦ absurd (cc (e, le-leb a b le))
]

-- what the test says where it doesn't stop
pub record GoesIn (most base size len last : ℕ) : Type 0 where
  pub fits : 0 < size → (size + len ≤ most) × (last - base < 2 ^ 31)
  pub low : last < 2 ^ 62

pub goes_in : (most base size len last : ℕ) → (rolls_before most base size len last || nat_le (2 ^ 62) last) ≡ false → GoesIn most base size len last
goes_in most base size len last e =
    let both = or_false (rolls_before most base size len last) (nat_le (2 ^ 62) last) e in
    record {
      fits = λ some. (
          let inner = and_false (nat_lt 0 size) (nat_lt most (size + len) || nat_le (2 ^ 31) (last - base)) both.0 (lt-ltb 0 size some) in
          let parts = or_false (nat_lt most (size + len)) (nat_le (2 ^ 31) (last - base)) inner in
          (ltb-false most (size + len) parts.0, leb_false (2 ^ 31) (last - base) parts.1)
          );
      low = leb_false (2 ^ 62) last both.1;
    }

empty_end : (base : ℕ) (bs : List Placed) → AreBatchesLaid base 0 bs → size_after 0 bs ≡ 0 → end_after base bs ≡ base
empty_end base [] laid e = refl
empty_end base (x ∷ xs) laid e = let up = size_up (x.last + 1) x.to xs laid.2 in absurd (omega (arith, up, e, laid.1))

module _ (old : Grown) (line : List (ℕ × ℕ)) (run : List ℕ) (most at : ℕ) (segment : Grown) (newer : Option (List (ℕ × ℕ))) (few : most ≤ 16777216) (low : end_of old ≤ 2 ^ 62) (g : IsGathering old line run most at segment newer) (laid : IsLaidOut segment) where
  end_seg : end_of segment ≡ end_from (end_of old) g.front
  end_seg =
      ap end_of g.segment_is
      ∙ end_append old.base old.batches (placed_from (size_of old) g.front)
      ∙ end_placed (end_of old) (size_of old) g.front

  pub base_seg : segment.base ≡ old.base
  base_seg = ap (λ (s : Grown). s.base) g.segment_is

  all_rest : drop at run ≡ joined g.rest
  all_rest =
      ap (drop at) (g.is.bytes ∙ ap joined g.parts ∙ joined_append g.front g.rest)
      ∙ ap (λ (n : ℕ). drop n (joined g.front ++ joined g.rest)) g.place
      ∙ drop_at (joined g.front) (joined g.rest)

  run_size : length run ≡ at + length (joined g.rest)
  run_size = ap length (g.is.bytes ∙ ap joined g.parts ∙ joined_append g.front g.rest) ∙ length-append (joined g.front) (joined g.rest) ∙ ap (λ (n : ℕ). n + length (joined g.rest)) (sym g.place)

  -- the batch that comes next
  pub record Coming : Type 0 where
    pub batch : List ℕ
    pub more : List (List ℕ)
    pub rest_is : g.rest ≡ batch ∷ more
    pub parts : drop at run ≡ batch ++ joined more
    pub ok : IsOk (checked batch)
    pub base : base_of batch ≡ end_of segment
    pub rises : unwrap_or (last_epoch (line_or line newer)) 0 ≤ epoch_of batch
    pub epoch_fits : epoch_of batch < 2 ^ 31
    pub from_base : segment.base ≤ last_of batch
    pub near_end : last_of batch < end_of segment + 2 ^ 31
    pub size : length batch ≤ 1048576
    pub inside : at + length batch ≤ length run

  pub coming : at < length run → Coming
  coming lt = go g.rest refl
    where
      go : (rest : List (List ℕ)) → g.rest ≡ rest → Coming
      go [] is = absurd (let e = ap (λ (l : List (List ℕ)). length (joined l)) is in omega (arith, lt, run_size, e))
      go (b ∷ more) is =
          let both = consecutive_parts (end_of old) g.front g.rest (subst (IsConsecutive (end_of old)) g.parts g.is.consecutive) in
          let here = subst (IsConsecutive (end_from (end_of old) g.front)) is both.1 in
          let oks = subst (Each (λ (x : List ℕ). IsOk (checked x))) is (each_right (λ (x : List ℕ). IsOk (checked x)) g.front g.rest (subst (Each (λ (x : List ℕ). IsOk (checked x))) g.parts g.is.are)) in
          let rises = subst (EpochsRise (unwrap_or (last_epoch (lined line g.front)) 0)) is (lined_rise line g.front g.rest (subst (EpochsRise (unwrap_or (last_epoch line) 0)) g.parts g.is.epochs)) in
          let short = short_batch b oks.0 in
          let up = end_up segment.base 0 segment.batches laid.laid in
          let size = run_size ∙ ap (λ (l : List (List ℕ)). at + length (joined l)) is in
          record {
            batch = b;
            more = more;
            rest_is = is;
            parts = all_rest ∙ ap joined is;
            ok = oks.0;
            base = here.0 ∙ sym end_seg;
            rises = subst (λ (l : List (ℕ × ℕ)). unwrap_or (last_epoch l) 0 ≤ epoch_of b) (sym g.line_is) rises.0;
            epoch_fits = rises.1;
            from_base = omega (arith, here.0, end_seg, up);
            near_end = omega (arith, here.0, end_seg, short.1);
            size = short.0;
            inside = omega (arith, size, length-append b (joined more));
          }

  module _ (k : Coming) (clean : AreBytes run) where
    pub coming_headed : headed (drop at run) ≡ Ok (head_of k.batch)
    coming_headed = ap headed k.parts ∙ headed_batch k.batch (joined k.more) k.ok

    module _ (head : Head) (is : headed (drop at run) ≡ Ok head) where
      pub coming_tells : HeadDescribes k.batch head
      coming_tells = front_tells k.batch (joined k.more) head (subst AreBytes k.parts (bytes_drop at run clean)) k.ok (ap headed (sym k.parts) ∙ is)

      pub coming_asks : AsksOf k.batch (head_asks head)
      coming_asks = asks k.batch head coming_tells

      module _ (goes : GoesIn most segment.base (size_of segment) (length k.batch) (last_of k.batch)) where
        near : last_of k.batch < segment.base + 2 ^ 31
        near = elim (cases_lt 0 (size_of segment)) [
          | inl some ↦ (let h = (goes.fits some).1 in omega (arith, h, k.from_base))
          | inr none ↦ (let e = empty_end segment.base segment.batches laid.laid (omega (arith, none)) in omega (arith, e, k.near_end))
        ]

        small : size_of segment + length k.batch < 2 ^ 31
        small = elim (cases_lt 0 (size_of segment)) [
          | inl some ↦ (let h = (goes.fits some).0 in omega (arith, h, few))
          | inr none ↦ omega (arith, none, k.size)
        ]

        pub may_push : MayPush segment head
        may_push = (let t = coming_tells in record {
          begins = t.base ∙ k.base;
          near = omega (arith, t.base, t.delta, near);
          small = omega (arith, t.size, small);
        })

        module _ (test : (rolls_before most segment.base (size_of segment) (length k.batch) (last_of k.batch) || nat_le (2 ^ 62) (last_of k.batch)) ≡ false)
            (new : Grown) (pushed : new ≡ with_batch segment (placed_in (size_of segment) head))
            (next : Option (List (ℕ × ℕ))) (entered : line_or line next ≡ snapshot (line_or line newer) (epoch_of k.batch) (base_of k.batch)) where
          front' : List (List ℕ)
          front' = g.front ++ k.batch ∷ []

          size_seg : size_of segment ≡ size_of old + length (joined g.front)
          size_seg =
              ap size_of g.segment_is
              ∙ size_append 0 old.batches (placed_from (size_of old) g.front)
              ∙ size_placed (size_of old) g.front

          new_is : new ≡ with_batch segment (placed (size_of segment) k.batch)
          new_is = pushed ∙ ap (with_batch segment) (placed_same (size_of segment) k.batch head coming_tells)

          size_new : size_of new ≡ size_of segment + length k.batch
          size_new = ap size_of new_is ∙ size_append 0 segment.batches (placed (size_of segment) k.batch ∷ [])

          grown_more : new ≡ grown_by old (g.front ++ k.batch ∷ [])
          grown_more =
              new_is
              ∙ ap (λ (s : Grown). record s { batches = s.batches ++ placed (size_of segment) k.batch ∷ [] }) g.segment_is
              ∙ ap (λ (l : List Placed). record old { batches = l }) (append_assoc old.batches (placed_from (size_of old) g.front) (placed (size_of segment) k.batch ∷ []))
              ∙ ap (λ (n : ℕ). record old { batches = old.batches ++ (placed_from (size_of old) g.front ++ placed n k.batch ∷ []) }) size_seg
              ∙ ap (λ (l : List Placed). record old { batches = old.batches ++ l }) (sym (placed_append (size_of old) g.front (k.batch ∷ [])))

          taking_more : taking most old.base (size_of segment) (k.batch ∷ k.more) ≡ k.batch ∷ taking most old.base (size_of new) k.more
          taking_more =
              let t = subst (λ (b : ℕ). (rolls_before most b (size_of segment) (length k.batch) (last_of k.batch) || nat_le (2 ^ 62) (last_of k.batch)) ≡ false) base_seg test in
              ap (λ (b : Bool). cond b [] (k.batch ∷ taking most old.base (size_of segment + length k.batch) k.more)) t
              ∙ ap (λ (n : ℕ). k.batch ∷ taking most old.base n k.more) (sym size_new)

          pub gathered_more : IsGathering old line run most (at + length k.batch) new next
          gathered_more = record {
            is = g.is;
            front = g.front ++ k.batch ∷ [];
            rest = k.more;
            parts = g.parts ∙ ap (λ (l : List (List ℕ)). g.front ++ l) k.rest_is ∙ sym (append_assoc g.front (k.batch ∷ []) k.more);
            taken =
                g.taken
                ∙ ap (λ (l : List (List ℕ)). g.front ++ taking most old.base (size_of segment) l) k.rest_is
                ∙ ap (λ (l : List (List ℕ)). g.front ++ l) taking_more
                ∙ sym (append_assoc g.front (k.batch ∷ []) (taking most old.base (size_of new) k.more));
            place = place_more;
            segment_is = grown_more;
            line_is =
                entered
                ∙ ap (λ (l : List (ℕ × ℕ)). snapshot l (epoch_of k.batch) (base_of k.batch)) g.line_is
                ∙ sym (lined_snoc line g.front k.batch);
          }
            where
              place_more : at + length k.batch ≡ length (joined (g.front ++ k.batch ∷ []))
              place_more =
                  let e = ap length (joined_append g.front (k.batch ∷ [])) ∙ length-append (joined g.front) (k.batch ++ []) in
                  let f = ap length (append-nil k.batch) in
                  omega (arith, e, f, g.place)

          pub laid_more : IsLaidOut new
          laid_more =
              subst IsLaidOut (sym new_is) (record {
                laid = laid_push segment.base 0 segment.batches (placed (size_of segment) k.batch) laid.laid (omega (arith, k.base)) (let l = long_batch k.batch k.ok in omega (arith, l));
                near = (let e = end_append segment.base segment.batches (placed (size_of segment) k.batch ∷ []) in omega (arith, e, near));
                small = (let e = size_append 0 segment.batches (placed (size_of segment) k.batch ∷ []) in omega (arith, e, small));
              })

          pub low_more : end_of new ≤ 2 ^ 62
          low_more = (let e = ap end_of new_is ∙ end_append segment.base segment.batches (placed (size_of segment) k.batch ∷ []) in omega (arith, e, goes.low))

  -- nothing comes, or what comes stops it
  pub gathered_all : end_of segment ≤ 2 ^ 62 → length run ≤ at → IsTakenIn old segment line run most (at, newer)
  gathered_all low_now le = go g.rest refl
    where
      go : (rest : List (List ℕ)) → g.rest ≡ rest → IsTakenIn old segment line run most (at, newer)
      go [] is =
          let all : taking most old.base (size_of old) g.is.batches ≡ g.front = g.taken ∙ ap (λ (l : List (List ℕ)). g.front ++ taking most old.base (size_of segment) l) is ∙ append-nil g.front in
          record {
            is = g.is;
            segment_is = g.segment_is ∙ ap (grown_by old) (sym all);
            len_is = g.place ∙ ap (λ (l : List (List ℕ)). length (joined l)) (sym all);
            line_is = g.line_is ∙ ap (lined line) (sym all);
            laid = laid;
            low = low_now;
          }
      go (b ∷ more) is =
          let oks = subst (Each (λ (x : List ℕ). IsOk (checked x))) is (each_right (λ (x : List ℕ). IsOk (checked x)) g.front g.rest (subst (Each (λ (x : List ℕ). IsOk (checked x))) g.parts g.is.are)) in
          let long = long_batch b oks.0 in
          let size = run_size ∙ ap (λ (l : List (List ℕ)). at + length (joined l)) is in
          absurd (omega (arith, le, size, length-append b (joined more), long))

  pub gathered_stop : (k : Coming) → (rolls_before most segment.base (size_of segment) (length k.batch) (last_of k.batch) || nat_le (2 ^ 62) (last_of k.batch)) ≡ true → end_of segment ≤ 2 ^ 62 → IsTakenIn old segment line run most (at, newer)
  gathered_stop k test low_now =
      let t = subst (λ (b : ℕ). (rolls_before most b (size_of segment) (length k.batch) (last_of k.batch) || nat_le (2 ^ 62) (last_of k.batch)) ≡ true) base_seg test in
      let none : taking most old.base (size_of segment) g.rest ≡ [] =
      ap (taking most old.base (size_of segment)) k.rest_is ∙ ap (λ (b : Bool). cond b [] (k.batch ∷ taking most old.base (size_of segment + length k.batch) k.more)) t in
      let all : taking most old.base (size_of old) g.is.batches ≡ g.front = g.taken ∙ ap (λ (l : List (List ℕ)). g.front ++ l) none ∙ append-nil g.front in
      record {
        is = g.is;
        segment_is = g.segment_is ∙ ap (grown_by old) (sym all);
        len_is = g.place ∙ ap (λ (l : List (List ℕ)). length (joined l)) (sym all);
        line_is = g.line_is ∙ ap (lined line) (sym all);
        laid = laid;
        low = low_now;
      }

-- before the first
pub nothing_gathered : (old : Grown) (line : List (ℕ × ℕ)) (run : List ℕ) (most : ℕ) → IsRunFor (end_of old) line run → IsGathering old line run most 0 old None
nothing_gathered old line run most is = record {
  is = is;
  front = [];
  rest = is.batches;
  parts = refl;
  taken = refl;
  place = refl;
  segment_is = ap (λ (l : List Placed). record old { batches = l }) (sym (append-nil old.batches));
  line_is = refl;
}
