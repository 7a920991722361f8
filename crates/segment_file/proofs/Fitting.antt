-- How far a run is needed, by the batches in front that fit.
use Rattle.std.proofs.Common.{◌≡◌, ◌∙◌, ap, sym, refl, ℕ, zero, suc, ◌+◌, ◌<◌, ◌≤◌, nat_lt, nat_le, Bool, true, false, lt-ltb, ltb-true, List, [], ◌∷◌, ◌++◌, length, take, drop, get_or, add-one, arith, subst}
use Rattle.std.specs.Prelude.{◌&&◌}
use Rattle.std.specs.List.Sorted.{IsPartitionPoint, IsPartitionedBy, IsNonDecreasingBy}
use Rattle.std.proofs.lemmas.List.{take-append-drop}
use Rattle.std.proofs.lemmas.List.Sorted.{IsPartitionedBy-ltb, IsPartitionedBy-leb, IsNonDecreasingBy-from_all_adjacent}
use Rattle.segment_file.specs.declared.placed.Placed.{Placed}
use Rattle.segment_file.specs.Growing.{end_after, size_after, ending_by, AreBatchesLaid}
use Rattle.segment_file.specs.Reach.{fitting, run_reach}
use Rattle.segment_file.proofs.Laying.{lasts-rise, rest-point, laid_parts, end_up, size_up, end_append, size_append}

-- a batch ends at or below a bound and a position
abbrev pub fits : ℕ → ℕ → Placed → Bool
fits bound top batch = nat_lt batch.last bound && nat_le batch.to top

and_both : (a b : Bool) → (a && b) ≡ true → (a ≡ true) × (b ≡ true)
and_both true true e = (refl, refl)
and_both true false e = absurd (cc (e))
and_both false b e = absurd (cc (e))

both_true : (a b : Bool) → a ≡ true → b ≡ true → (a && b) ≡ true
both_true true b h k = k
both_true false b h k = absurd (cc (h))

tos-adjacent : (first at : ℕ) (batches : List Placed) (k : ℕ) (d : Placed) → AreBatchesLaid first at batches → suc k < length batches → (get_or batches k d).to ≤ (get_or batches (suc k) d).to
tos-adjacent first at [] k d laid l = absurd (omega (arith, l))
tos-adjacent first at (one ∷ []) k d laid l = absurd (omega (arith, l))
tos-adjacent first at (one ∷ two ∷ batches) zero d laid l = omega (arith, laid.2.1)
tos-adjacent first at (one ∷ two ∷ batches) (suc k) d laid l = tos-adjacent (one.last + 1) one.to (two ∷ batches) k d laid.2 (omega (arith, l))

tos-rise : (first at : ℕ) (batches : List Placed) → AreBatchesLaid first at batches → IsNonDecreasingBy (λ (b : Placed). b.to) batches
tos-rise first at batches laid = IsNonDecreasingBy-from_all_adjacent (λ (b : Placed). b.to) batches (λ k d l. rw add-one (tos-adjacent first at batches k d laid (omega (arith, l))))

-- those that fit come first
pub fits-parted : (first at bound top : ℕ) (batches : List Placed) → AreBatchesLaid first at batches → IsPartitionedBy (fits bound top) batches
fits-parted first at bound top batches laid = λ i j d le lt both.
    let b = and_both _ _ both in
    both_true _ _
    (IsPartitionedBy-ltb (λ (x : Placed). x.last) batches bound (lasts-rise first at batches laid) i j d le lt b.0)
    (IsPartitionedBy-leb (λ (x : Placed). x.to) batches top (tos-rise first at batches laid) i j d le lt b.1)

pub front_fitting : (bound top : ℕ) (batches : List Placed) (i : ℕ) → i ≤ length batches → IsPartitionPoint (λ y. fits bound top y ≡ true) (λ y. fits bound top y ≡ false) batches i → take i batches ≡ fitting bound top batches
front_fitting bound top [] zero l h = refl
front_fitting bound top [] (suc i) l h = absurd (omega (arith, l))
front_fitting bound top (x ∷ xs) zero l h = let no : fits bound top x ≡ false = h.1 0 x (omega arith) (omega arith) in rw no refl
front_fitting bound top (x ∷ xs) (suc i) l h =
    let yes : fits bound top x ≡ true = h.0 0 x (omega arith) (omega arith) in
    rw yes (ap (λ ys. x ∷ ys) (front_fitting bound top xs i (omega (arith, l)) (rest-point (fits bound top) x xs i h)))

-- a front of so many
pub front_length : (i : ℕ) (xs : List Placed) → i ≤ length xs → length (take i xs) ≡ i
front_length zero xs l = refl
front_length (suc i) [] l = absurd (omega (arith, l))
front_length (suc i) (x ∷ xs) l = let more = front_length i xs (omega (arith, l)) in omega (arith, more)

-- a run that ends with them is needed up to their end
pub reach_stops : (bound top end at : ℕ) (batches : List Placed) → (length (fitting bound top batches) < length batches → bound ≤ end_after end (fitting bound top batches))
    → run_reach bound top end at batches ≡ size_after at (fitting bound top batches)
reach_stops bound top end at [] stop = refl
reach_stops bound top end at (b ∷ bs) stop = go (fits bound top b) refl (reach_stops bound top (b.last + 1) b.to bs)
  where
    ended : (t : Bool) → fits bound top b ≡ false → nat_lt end bound ≡ t → run_reach bound top end at (b ∷ bs) ≡ size_after at (fitting bound top (b ∷ bs))
    ended true e lt = (
        let up : bound ≤ end_after end (fitting bound top (b ∷ bs)) = stop (rw e (omega arith)) in
        let up' : bound ≤ end = rw e at up in
        let less : end < bound = ltb-true end bound lt in
        absurd (omega (arith, up', less)))
    ended false e lt = rw (e, lt) refl

    go : (t : Bool) → fits bound top b ≡ t → ((length (fitting bound top bs) < length bs → bound ≤ end_after (b.last + 1) (fitting bound top bs)) → run_reach bound top (b.last + 1) b.to bs ≡ size_after b.to (fitting bound top bs))
        → run_reach bound top end at (b ∷ bs) ≡ size_after at (fitting bound top (b ∷ bs))
    go true e more = rw e (more (λ l. (let up : bound ≤ end_after end (fitting bound top (b ∷ bs)) = stop (rw e (omega (arith, l))) in rw e at up)))
    go false e more = ended (nat_lt end bound) e refl

-- and one that ends below the bound to the end of the next head
pub reach_on : (bound top end at : ℕ) (batches : List Placed) → length (fitting bound top batches) < length batches → end_after end (fitting bound top batches) < bound
    → run_reach bound top end at batches ≡ size_after at (fitting bound top batches) + 61
reach_on bound top end at [] l lt = absurd (omega (arith, l))
reach_on bound top end at (b ∷ bs) l lt = go (fits bound top b) refl (reach_on bound top (b.last + 1) b.to bs)
  where
    go : (t : Bool) → fits bound top b ≡ t → (length (fitting bound top bs) < length bs → end_after (b.last + 1) (fitting bound top bs) < bound → run_reach bound top (b.last + 1) b.to bs ≡ size_after b.to (fitting bound top bs) + 61)
        → run_reach bound top end at (b ∷ bs) ≡ size_after at (fitting bound top (b ∷ bs)) + 61
    go true e more =
        let l' : length (b ∷ fitting bound top bs) < length (b ∷ bs) = rw e at l in
        rw e (more (omega (arith, l')) (rw e at lt))
    go false e more =
        let lt' : end < bound = rw e at lt in
        let t : nat_lt end bound ≡ true = lt-ltb end bound lt' in
        rw (e, t) refl

-- what is needed doesn't end before it begins
pub run_up : (bound top end at : ℕ) (batches : List Placed) → AreBatchesLaid end at batches → at ≤ run_reach bound top end at batches
run_up bound top end at [] laid = omega arith
run_up bound top end at (b ∷ bs) laid = go (fits bound top b) refl (run_up bound top (b.last + 1) b.to bs laid.2)
  where
    ended : (t : Bool) → fits bound top b ≡ false → nat_lt end bound ≡ t → at ≤ run_reach bound top end at (b ∷ bs)
    ended true e lt = rw (e, lt) (omega arith)
    ended false e lt = rw (e, lt) (omega arith)

    go : (t : Bool) → fits bound top b ≡ t → b.to ≤ run_reach bound top (b.last + 1) b.to bs → at ≤ run_reach bound top end at (b ∷ bs)
    go true e more = rw e (omega (arith, more, laid.1))
    go false e more = ended (nat_lt end bound) e refl

-- what follows the batches that end by an offset
pub record Behind (base end : ℕ) (batches rest : List Placed) : Type 0 where
  pub laid : AreBatchesLaid (end_after base (ending_by end batches)) (size_after 0 (ending_by end batches)) rest
  pub end_is : end_after (end_after base (ending_by end batches)) rest ≡ end_after base batches
  pub size_is : size_after (size_after 0 (ending_by end batches)) rest ≡ size_after 0 batches

pub behind : (base end kept : ℕ) (batches : List Placed) → AreBatchesLaid base 0 batches → take kept batches ≡ ending_by end batches → Behind base end batches (drop kept batches)
behind base end kept batches laid front =
    let parts : batches ≡ ending_by end batches ++ drop kept batches = sym (take-append-drop kept batches) ∙ ap (λ (l : List Placed). l ++ drop kept batches) front in
    let both = laid_parts base 0 (ending_by end batches) (drop kept batches) (subst (AreBatchesLaid base 0) parts laid) in
    record {
      laid = both.1;
      end_is = sym (ap (end_after base) parts ∙ end_append base (ending_by end batches) (drop kept batches));
      size_is = sym (ap (size_after 0) parts ∙ size_append 0 (ending_by end batches) (drop kept batches));
    }

-- what a front keeps of the whole
pub record IsFront (first at : ℕ) (front whole : List Placed) : Type 0 where
  pub end : end_after first front ≤ end_after first whole
  pub size : size_after at front ≤ size_after at whole
  pub up : at ≤ size_after at front

pub front_of : (first at i : ℕ) (batches : List Placed) → AreBatchesLaid first at batches → IsFront first at (take i batches) batches
front_of first at i batches laid =
    let parts : batches ≡ take i batches ++ drop i batches = sym (take-append-drop i batches) in
    let both = laid_parts first at (take i batches) (drop i batches) (subst (AreBatchesLaid first at) parts laid) in
    let end-is : end_after first batches ≡ end_after (end_after first (take i batches)) (drop i batches) = ap (end_after first) parts ∙ end_append first (take i batches) (drop i batches) in
    let size-is : size_after at batches ≡ size_after (size_after at (take i batches)) (drop i batches) = ap (size_after at) parts ∙ size_append at (take i batches) (drop i batches) in
    let end-up = end_up (end_after first (take i batches)) (size_after at (take i batches)) (drop i batches) both.1 in
    let size-up = size_up (end_after first (take i batches)) (size_after at (take i batches)) (drop i batches) both.1 in
    record { end = omega (arith, end-is, end-up); size = omega (arith, size-is, size-up); up = size_up first at (take i batches) both.0 }
