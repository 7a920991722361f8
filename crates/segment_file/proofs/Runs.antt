-- A run that begins, grows and ends.
use Rattle.std.proofs.Common.{◌≡◌, ◌∙◌, ap, sym, refl, ℕ, ◌+◌, ◌-◌, ◌==◌, ◌<◌, ◌≤◌, ◌≢◌, min, nat_lt, Bool, true, false, List, [], ◌∷◌, ◌++◌, length, drop, Option, Some, None, Result, Ok, Err, IsOk, arith, append_assoc, append-nil, length-append, eq-eqb}
use Rattle.std.specs.Option.{ForSome}
use Rattle.std.proofs.lemmas.Bool.{lt-ltb, ltb-false, ltb-true, eqb-true}
use Rattle.log_terms.specs.Batch.{last_of}
use Rattle.log_terms.specs.Log.{joined, from_offset}
use Rattle.record_batch.specs.Head.{head_of}
use Rattle.record_batch.specs.declared.refusal.BatchRefusal.{BatchRefusal}
use Rattle.record_batch.specs.Check.{Batch, checked, headed}
use Rattle.record_batch.proofs.Passing.{is_batch_of}
use Rattle.tier_base.specs.declared.plain.Stop.{Stop}
use Rattle.tier_base.specs.declared.plain.Stop.TheVariants.{Mark, Piece, Limit}
use Rattle.segment_file.specs.declared.taking.Cutout.{Cutout}
use Rattle.segment_file.specs.declared.taking.Going.{Going}
use Rattle.segment_file.specs.Walk.{size_in}
use Rattle.segment_file.specs.Run.{end_after, MayBeginAt, Follows, AreBatches, HasBatchesUpTo, NoBatch, would_pass, Fits, RunContinues, StopIs, IsRunCutAt, IsBadAt}
use Rattle.segment_file.specs.Going.{IsNextBatch, IsGoing, HasEnded}
use Rattle.segment_file.proofs.Finding.{size_told, size_kept, headed_front}

pub joined_append : (xs ys : List (List ℕ)) → joined (xs ++ ys) ≡ joined xs ++ joined ys
joined_append [] ys = refl
joined_append (x ∷ xs) ys = ap (λ (t : List ℕ). x ++ t) (joined_append xs ys) ∙ sym (append_assoc x (joined xs) (joined ys))

pub joined_push : (xs : List (List ℕ)) (batch : List ℕ) → joined (xs ++ batch ∷ []) ≡ joined xs ++ batch
joined_push xs batch = joined_append xs (batch ∷ []) ∙ ap (λ (t : List ℕ). joined xs ++ t) (append-nil batch)

end_push : (last : Option ℕ) (xs : List (List ℕ)) (batch : List ℕ) → end_after last (xs ++ batch ∷ []) ≡ Some (last_of batch + 1)
end_push last [] batch = refl
end_push last (x ∷ xs) batch = end_push (Some (last_of x + 1)) xs batch

are_push : (last : Option ℕ) (offset bound : ℕ) (xs : List (List ℕ)) (batch : List ℕ) → AreBatches last offset bound xs
    → Follows (end_after last xs) offset bound batch → AreBatches last offset bound (xs ++ batch ∷ [])
are_push last offset bound [] batch are follows = (follows, tt)
are_push last offset bound (x ∷ xs) batch are follows = (are.0, are_push (Some (last_of x + 1)) offset bound xs batch are.1 follows)

-- the batches before the offset, and those from it on
none_by : (n : ℕ) (x : List ℕ) (xs ys : List (List ℕ)) (t : Bool) → nat_lt (last_of x) n ≡ t → from_offset n (x ∷ xs) ≡ []
    → (from_offset n xs ≡ [] → from_offset n (xs ++ ys) ≡ from_offset n ys) → from_offset n (x ∷ xs ++ ys) ≡ from_offset n ys
none_by n x xs ys true is e then = rw is (then (rw is at e))
none_by n x xs ys false is e then = let left : x ∷ xs ≡ [] = rw is at e in absurd (cc (left))

from_none : (n : ℕ) (xs ys : List (List ℕ)) → from_offset n xs ≡ [] → from_offset n (xs ++ ys) ≡ from_offset n ys
from_none n [] ys e = refl
from_none n (x ∷ xs) ys e = none_by n x xs ys (nat_lt (last_of x) n) refl e (λ e'. from_none n xs ys e')

some_by : (n : ℕ) (x : List ℕ) (xs ys : List (List ℕ)) (f : List ℕ) (r : List (List ℕ)) (t : Bool) → nat_lt (last_of x) n ≡ t → from_offset n (x ∷ xs) ≡ f ∷ r
    → (from_offset n xs ≡ f ∷ r → from_offset n (xs ++ ys) ≡ f ∷ (r ++ ys)) → from_offset n (x ∷ xs ++ ys) ≡ f ∷ (r ++ ys)
some_by n x xs ys f r true is e then = rw is (then (rw is at e))
some_by n x xs ys f r false is e then = let same : x ∷ xs ≡ f ∷ r = rw is at e in rw is (ap (λ (t : List (List ℕ)). t ++ ys) same)

from_some : (n : ℕ) (xs ys : List (List ℕ)) (f : List ℕ) (r : List (List ℕ)) → from_offset n xs ≡ f ∷ r → from_offset n (xs ++ ys) ≡ f ∷ (r ++ ys)
from_some n [] ys f r e = absurd (cc)
from_some n (x ∷ xs) ys f r e = some_by n x xs ys f r (nat_lt (last_of x) n) refl e (λ e'. from_some n xs ys f r e')

from_below : (n : ℕ) (batch : List ℕ) → last_of batch < n → from_offset n (batch ∷ []) ≡ []
from_below n batch h = rw (lt-ltb (last_of batch) n h) refl

from_above : (n : ℕ) (batch : List ℕ) → n ≤ last_of batch → from_offset n (batch ∷ []) ≡ batch ∷ []
from_above n batch h = go (nat_lt (last_of batch) n) refl
  where
    go : (t : Bool) → nat_lt (last_of batch) n ≡ t → from_offset n (batch ∷ []) ≡ batch ∷ []
    go true is = let below : last_of batch < n = ltb-true (last_of batch) n is in absurd (omega (arith, h, below))
    go false is = rw is refl

-- one batch more exists
stand_push : (offset bound : ℕ) (bytes : List ℕ) (batches : List (List ℕ)) (at to end : ℕ) (last : Option ℕ) → HasBatchesUpTo offset bound bytes batches (drop at bytes) at
    → end_after None batches ≡ last → (n : IsNextBatch last offset bound bytes at to end) → HasBatchesUpTo offset bound bytes (batches ++ n.batch ∷ []) (drop to bytes) to
stand_push offset bound bytes batches at to end last s ends n =
    let more = joined_push batches n.batch in
    let follows : Follows (end_after None batches) offset bound n.batch = rw ends n.follows in record {
      parts = s.parts ∙ (ap (λ (t : List ℕ). joined batches ++ t) n.parts ∙ (sym (append_assoc (joined batches) n.batch (drop to bytes)) ∙ ap (λ (t : List ℕ). t ++ drop to bytes) (sym more)));
      follow = are_push None offset bound batches n.batch s.follow follows;
      place = rw (more, length-append) (n.place ∙ ap (λ k. k + length n.batch) s.place);
    }

-- batches that all end at or below the offset
pub record Passed (offset bound : ℕ) (bytes : List ℕ) (at : ℕ) (last : Option ℕ) : Type 0 where
  pub batches : List (List ℕ)
  pub stand : HasBatchesUpTo offset bound bytes batches (drop at bytes) at
  pub none : from_offset offset batches ≡ []
  pub ends : end_after None batches ≡ last
  pub inside : at ≤ length bytes
  pub low : ForSome last (λ end. end ≤ offset)

pub passed_none : (offset bound : ℕ) (bytes : List ℕ) → Passed offset bound bytes 0 None
passed_none offset bound bytes = record {
  batches = [];
  stand = record { parts = refl; follow = tt; place = refl };
  none = refl;
  ends = refl;
  inside = omega arith;
  low = λ end is. absurd (cc);
}

pub passed_low : (offset bound : ℕ) (last : Option ℕ) → offset < bound → ForSome last (λ end. end ≤ offset) → ForSome last (λ end. end < bound)
passed_low offset bound last h low = λ end is. let l : end ≤ offset = low end is in omega (arith, l, h)

pub passed_more : (offset bound : ℕ) (bytes : List ℕ) (at to end : ℕ) (last : Option ℕ) → Passed offset bound bytes at last → IsNextBatch last offset bound bytes at to end
    → end ≤ offset → Passed offset bound bytes to (Some end)
passed_more offset bound bytes at to end last p n below =
    let is : end ≡ last_of n.batch + 1 = n.end_is in record {
      batches = p.batches ++ n.batch ∷ [];
      stand = stand_push offset bound bytes p.batches at to end last p.stand p.ends n;
      none = from_none offset p.batches (n.batch ∷ []) p.none ∙ from_below offset n.batch (omega (arith, is, below));
      ends = end_push None p.batches n.batch ∙ ap Some (sym is);
      inside = n.inside;
      low = λ e same. let is' : end ≡ e = cc in omega (arith, is', below);
    }

-- none follows before the offset
pub passed_bad : (offset bound limit : ℕ) (bytes : List ℕ) (at : ℕ) (last : Option ℕ) → Passed offset bound bytes at last → NoBatch last offset bound (drop at bytes)
    → IsBadAt bytes offset limit bound at
passed_bad offset bound limit bytes at last p nothing = record {
  batches = p.batches;
  rest = drop at bytes;
  stand = p.stand;
  fits = rw p.none tt;
  goes_on = rw p.none tt;
  nothing = rw p.ends nothing;
}

-- the batch that holds the offset
pub begun_here : (offset bound limit : ℕ) (bytes : List ℕ) (at to end : ℕ) (last : Option ℕ) (going : Going) → Passed offset bound bytes at last → IsNextBatch last offset bound bytes at to end
    → offset < end → going.from ≡ at → going.to ≡ to → going.end ≡ end → IsGoing bytes offset limit bound going
begun_here offset bound limit bytes at to end last going p n holds from-is to-is end-is =
    let is : end ≡ last_of n.batch + 1 = n.end_is in
    let one : joined (n.batch ∷ []) ≡ n.batch = append-nil n.batch in
    let stand = stand_push offset bound bytes p.batches at to end last p.stand p.ends n in
    let below : last_of n.batch + 1 ≤ bound = n.follows.below in record {
      batches = p.batches ++ n.batch ∷ [];
      stand = rw to-is stand;
      first = n.batch;
      others = [];
      run = from_none offset p.batches (n.batch ∷ []) p.none ∙ from_above offset n.batch (omega (arith, is, holds));
      from = rw (one, from-is, to-is) (sym n.place);
      fits = tt;
      ends = rw end-is (end_push None p.batches n.batch ∙ ap Some (sym is));
      inside = rw to-is n.inside;
      below = rw (end-is, is) below;
    }

-- a base that may be there is below the bound
pub begins_low : (last : Option ℕ) (offset bound base : ℕ) → offset < bound → ForSome last (λ end. end < bound) → MayBeginAt last offset base → base < bound
begins_low None offset bound base h low b = omega (arith, h, b)
begins_low (Some end) offset bound base h low b = let l : end < bound = low end refl in omega (arith, l, b)

-- the head of a batch that is there reports its size
pass_of : (limit size : ℕ) (batch more : List ℕ) → IsOk (checked batch) → would_pass limit size (headed (batch ++ more)) ≡ nat_lt limit (size + length batch)
pass_of limit size batch more ok = go (checked batch) refl ok
  where
    go : (r : Result Batch BatchRefusal) → checked batch ≡ r → IsOk r → would_pass limit size (headed (batch ++ more)) ≡ nat_lt limit (size + length batch)
    go (Ok b) e ok =
        let told : size_in (head_of (batch ++ more)) ≡ length batch = size_kept batch more (is_batch_of batch b e).long ∙ size_told batch b e in
        rw (headed_front batch more b e, told) refl
    go (Err why) e ok = absurd (cc)

fits_of : (limit : ℕ) (run : List (List ℕ)) → length (joined run) ≤ limit → Fits limit run
fits_of limit [] h = tt
fits_of limit (batch ∷ []) h = tt
fits_of limit (batch ∷ next ∷ run) h = h

-- a run that continues by a batch
pub going_more : (bytes : List ℕ) (offset limit bound to end : ℕ) (going more : Going) → IsGoing bytes offset limit bound going
    → IsNextBatch (Some going.end) offset bound bytes going.to to end → would_pass limit (going.to - going.from) (headed (drop going.to bytes)) ≡ false
    → more.from ≡ going.from → more.to ≡ to → more.end ≡ end → IsGoing bytes offset limit bound more
going_more bytes offset limit bound to end going more g n passes from-is to-is end-is =
    let run = g.first ∷ g.others in
    let size : going.to - going.from ≡ length (joined (g.first ∷ g.others)) = omega (arith, g.from) in
    let test : nat_lt limit (length (joined (g.first ∷ g.others)) + length n.batch) ≡ false =
    sym (pass_of limit (length (joined (g.first ∷ g.others))) n.batch (drop to bytes) n.follows.is) ∙ rw (size, n.parts) at passes in
    let small : length (joined (g.first ∷ g.others)) + length n.batch ≤ limit = ltb-false limit (length (joined (g.first ∷ g.others)) + length n.batch) test in
    let long : length (joined (g.first ∷ (g.others ++ n.batch ∷ []))) ≡ length (joined (g.first ∷ g.others)) + length n.batch =
    ap length (joined_push (g.first ∷ g.others) n.batch) ∙ length-append (joined (g.first ∷ g.others)) n.batch in
    let is : end ≡ last_of n.batch + 1 = n.end_is in
    let below : last_of n.batch + 1 ≤ bound = n.follows.below in record {
      batches = g.batches ++ n.batch ∷ [];
      stand = rw to-is (stand_push offset bound bytes g.batches going.to to end (Some going.end) g.stand g.ends n);
      first = g.first;
      others = g.others ++ n.batch ∷ [];
      run = from_some offset g.batches (n.batch ∷ []) g.first g.others g.run;
      from = rw (from-is, to-is) (omega (arith, long, g.from, n.place));
      fits = fits_of limit (g.first ∷ (g.others ++ n.batch ∷ [])) (omega (arith, long, small));
      ends = rw end-is (end_push None g.batches n.batch ∙ ap Some (sym is));
      inside = rw to-is n.inside;
      below = rw (end-is, is) below;
    }

-- none follows after a run that hasn't ended
pub going_bad : (bytes : List ℕ) (offset limit bound : ℕ) (going : Going) → IsGoing bytes offset limit bound going → going.end < bound
    → would_pass limit (going.to - going.from) (headed (drop going.to bytes)) ≡ false → NoBatch (Some going.end) offset bound (drop going.to bytes)
    → IsBadAt bytes offset limit bound going.to
going_bad bytes offset limit bound going g below passes nothing =
    let size : going.to - going.from ≡ length (joined (g.first ∷ g.others)) = omega (arith, g.from) in
    let open-end : ForSome (Some going.end) (λ end. end < bound) = λ end is. let same : going.end ≡ end = cc in omega (arith, same, below) in
    let goes : RunContinues limit bound (Some going.end) (g.first ∷ g.others) (drop going.to bytes) = (open-end, (rw size at passes)) in record {
      batches = g.batches;
      rest = drop going.to bytes;
      stand = g.stand;
      fits = rw g.run g.fits;
      goes_on = rw (g.run, g.ends) goes;
      nothing = rw g.ends nothing;
    }

-- a run that has ended
pub going_done : (bytes : List ℕ) (offset limit bound : ℕ) (going : Going) → IsGoing bytes offset limit bound going
    → (going.end < bound → would_pass limit (going.to - going.from) (headed (drop going.to bytes)) ≡ true) → HasEnded bytes offset limit bound going
going_done bytes offset limit bound going g stops =
    let size : going.to - going.from ≡ length (joined (g.first ∷ g.others)) = omega (arith, g.from) in
    record { is = g; stops = λ below. rw size at (stops below) }

-- why it ends, by the high watermarks that it ends at
less_of : (end mark piece_end : ℕ) → end ≢ mark → end ≢ piece_end → end ≤ min mark piece_end → end < min mark piece_end
less_of end mark piece_end h h' below = grind (arith, h, h', below)

by_piece : (end mark piece_end : ℕ) (passes : Bool) (stop : Stop) (t : Bool) → (end == piece_end) ≡ t → end ≢ mark → end ≤ min mark piece_end
    → (end < min mark piece_end → passes ≡ true) → (end ≢ mark → end ≡ piece_end → stop ≡ Piece) → (end ≢ mark → end ≢ piece_end → stop ≡ Limit)
    → StopIs stop end mark piece_end passes
by_piece end mark piece_end passes stop true e h below stops is-piece is-limit =
    let same : end ≡ piece_end = eqb-true end piece_end e in
    let told : stop ≡ Piece = is-piece h same in
    rw told (h, same)
by_piece end mark piece_end passes stop false e h below stops is-piece is-limit =
    let h' : end ≢ piece_end = λ same. absurd (cc (eq-eqb end piece_end same, e)) in
    let told : stop ≡ Limit = is-limit h h' in
    rw told (h, h', stops (less_of end mark piece_end h h' below))

by_mark : (end mark piece_end : ℕ) (passes : Bool) (stop : Stop) (t : Bool) → (end == mark) ≡ t → end ≤ min mark piece_end
    → (end < min mark piece_end → passes ≡ true) → (end ≡ mark → stop ≡ Mark) → (end ≢ mark → end ≡ piece_end → stop ≡ Piece)
    → (end ≢ mark → end ≢ piece_end → stop ≡ Limit) → StopIs stop end mark piece_end passes
by_mark end mark piece_end passes stop true e below stops is-mark is-piece is-limit =
    let same : end ≡ mark = eqb-true end mark e in
    let told : stop ≡ Mark = is-mark same in
    rw told same
by_mark end mark piece_end passes stop false e below stops is-mark is-piece is-limit =
    by_piece end mark piece_end passes stop (end == piece_end) refl (λ same. absurd (cc (eq-eqb end mark same, e))) below stops is-piece is-limit

-- it is the run
pub run_of : (bytes : List ℕ) (offset limit mark piece_end : ℕ) (going : Going) (cut : Cutout) → HasEnded bytes offset limit (min mark piece_end) going
    → cut.from ≡ going.from → cut.to ≡ going.to → cut.next ≡ going.end
    → (going.end ≡ mark → cut.stop ≡ Mark) → (going.end ≢ mark → going.end ≡ piece_end → cut.stop ≡ Piece) → (going.end ≢ mark → going.end ≢ piece_end → cut.stop ≡ Limit)
    → IsRunCutAt bytes offset limit mark piece_end cut
run_of bytes offset limit mark piece_end going cut d from-is to-is next-is is-mark is-piece is-limit =
    let g = d.is in
    let passes = would_pass limit (length (joined (g.first ∷ g.others))) (headed (drop going.to bytes)) in record {
      batches = g.batches;
      rest = drop going.to bytes;
      stand = rw to-is g.stand;
      first = g.first;
      others = g.others;
      run = g.run;
      from = rw (from-is, to-is) g.from;
      fits = g.fits;
      ends = rw next-is g.ends;
      stop_is = rw next-is (by_mark going.end mark piece_end passes cut.stop (going.end == mark) refl g.below d.stops is-mark is-piece is-limit);
    }
