-- Records that are copied one by one.
use Rattle.std.proofs.Common.{◌≡◌, ◌∙◌, ap, refl, ℕ, suc, ◌-◌, ◌<◌, ◌+◌, List, [], ◌∷◌, ◌++◌, Option, Some, None, IsSome, Result, Ok, Err, Bool, true, false, cond, length, map, arith, append_assoc}
use Rattle.std.specs.Option.{option_map}
use Rattle.record_batch.specs.declared.head.Head.{Head}
use Rattle.record_batch.specs.declared.rec.Rec.{Rec}
use Rattle.record_batch.specs.Record.{DeltaRec, record_at}
use Rattle.record_batch.specs.Check.{rec_in, rec_shown, records_from, with_number, is_number, ◌>>=◌}
use Rattle.record_batch.specs.Read.{all_read}

-- records after those that were read before
abbrev pub joined : List Rec → Option (List Rec) → Option (List Rec)
joined front None = None
joined front (Some recs) = Some (front ++ recs)

-- nothing was read before
pub joined_none : (o : Option (List Rec)) → joined [] o ≡ o
joined_none None = refl
joined_none (Some recs) = refl

-- a record that was read, and the others
others : (head : Head) (front : List Rec) (r : DeltaRec) (o : Result (List DeltaRec) ℕ)
    → joined (front ++ rec_in head r ∷ []) (all_read head o) ≡ joined front (all_read head (o >>= λ rs. Ok (r ∷ rs)))
others head front r (Ok rs) = ap (λ (t : List Rec). Some t) (append_assoc front (rec_in head r ∷ []) (map (rec_in head) rs))
others head front r (Err left) = refl

-- a record that was read, and whose number was looked at
tested : (head : Head) (n i left : ℕ) (front : List Rec) (t : Bool) (x : DeltaRec × List ℕ)
    → IsSome (joined front (all_read head ((cond t (Ok x) (Err left)) >>= λ y. (records_from n (i + 1) y.1 >>= λ rs. Ok (y.0 ∷ rs)))))
    → joined (front ++ rec_in head x.0 ∷ []) (all_read head (records_from n (i + 1) x.1))
    ≡ joined front (all_read head ((cond t (Ok x) (Err left)) >>= λ y. (records_from n (i + 1) y.1 >>= λ rs. Ok (y.0 ∷ rs))))
tested head n i left front true x some = others head front x.0 (records_from n (i + 1) x.1)
tested head n i left front false x some = absurd (cc)

-- a first record that was read
one-copied : (head : Head) (n i left : ℕ) (front : List Rec) (r : Rec) (after : List ℕ) (o : Option (DeltaRec × List ℕ))
    → option_map (rec_shown head) o ≡ Some (r, after)
    → IsSome (joined front (all_read head (with_number i left o >>= λ y. (records_from n (i + 1) y.1 >>= λ rs. Ok (y.0 ∷ rs)))))
    → joined (front ++ r ∷ []) (all_read head (records_from n (i + 1) after))
    ≡ joined front (all_read head (with_number i left o >>= λ y. (records_from n (i + 1) y.1 >>= λ rs. Ok (y.0 ∷ rs))))
one-copied head n i left front r after None e some = absurd (cc)
one-copied head n i left front r after (Some x) e some =
    let same : (r, after) ≡ rec_shown head x = cc in
    ap (λ (y : Rec × List ℕ). joined (front ++ y.0 ∷ []) (all_read head (records_from n (i + 1) y.1))) same
    ∙ tested head n i left front (is_number x.0.offset_delta i) x some

-- one record copied
pub record-copied : (head : Head) (count i : ℕ) (front : List Rec) (rest after : List ℕ) (r : Rec) (all : Option (List Rec)) → i < count
    → option_map (rec_shown head) (record_at rest) ≡ Some (r, after)
    → joined front (all_read head (records_from (count - i) i rest)) ≡ all → IsSome all
    → joined (front ++ r ∷ []) (all_read head (records_from (count - (i + 1)) (i + 1) after)) ≡ all
record-copied head count i front rest after r all below e whole some =
    let left : count - i ≡ suc (count - (i + 1)) = omega arith in
    let now : joined front (all_read head (records_from (suc (count - (i + 1))) i rest)) ≡ all = rw left at whole in
    let there : IsSome (joined front (all_read head (records_from (suc (count - (i + 1))) i rest))) = rw now some in
    one-copied head (count - (i + 1)) i (length rest) front r after (record_at rest) e there ∙ now
