-- Where the batches of a log begin and end, as memory and the disk's files have them.
use Rattle.std.proofs.Common.{◌≡◌, ◌⊎◌, ℕ, ◌+◌, ◌≤◌, ◌<◌, min, nat_lt, Bool, true, false, List, [], ◌∷◌, ◌++◌, refl, sym, ◌∙◌, ap, subst, inl, inr, arith}
use Rattle.std.specs.Prelude.{◌&&◌, unwrap_or}
use Rattle.std.proofs.lemmas.Bool.{cases_lt, ltb-true, ltb-false, eqb-true}
use Rattle.std.proofs.lemmas.List.{append-nil}
use mathlib.Core.List.{IsPrefix}
use Rattle.disk_model.specs.Content.{Files}
use Rattle.log_terms.specs.Batch.{last_of}
use Rattle.log_terms.specs.Log.{IsConsecutive, end_from, up_to, from_offset}
use Rattle.log_terms.proofs.Logs.{lt_true, lt_false, end_append, end_above, up_to_prefix}
use Rattle.log_terms.proofs.Lists.{prefix_self}
use Rattle.segment_file.specs.declared.placed.Placed.{Placed}
use Rattle.segment_file.specs.Growing.{Grown, end_after, ending_by, AreBatchesLaid}
use Rattle.segment_file.proofs.Laying.{end_up}
use Rattle.segment_file.proofs.Placing.{placed_up_to}
use Rattle.log_steps.specs.Fronts.{Each}
use Rattle.local_log.specs.Stored.{batches_of, all_batches, end_of, AreChained, IsStored}
use Rattle.local_log.specs.Listing.{IsLaidOut}
use Rattle.local_log.specs.Reading.{first_past, begin_of, is_edge, piece_end}
use Rattle.local_log.proofs.Pieces.{stored_batches, stored_end, end_placed}

pub and_both : (a b : Bool) → (a && b) ≡ true → (a ≡ true) × (b ≡ true)
and_both true true e = (refl, refl)
and_both true false e = absurd (cc (e))
and_both false b e = absurd (cc (e))

-- some batches end before all do
pub ending_below : (first at end : ℕ) (batches : List Placed) → AreBatchesLaid first at batches → end_after first (ending_by end batches) ≤ end_after first batches
ending_below first at end [] laid = omega arith
ending_below first at end (b ∷ batches) laid = go (nat_lt b.last end) refl (ending_below (b.last + 1) b.to end batches laid.2)
  where
    go : (t : Bool) → nat_lt b.last end ≡ t → end_after (b.last + 1) (ending_by end batches) ≤ end_after (b.last + 1) batches → end_after first (ending_by end (b ∷ batches)) ≤ end_after first (b ∷ batches)
    go true e more = rw e more
    go false e more = let up = end_up (b.last + 1) b.to batches laid.2 in rw e (omega (arith, up, laid.0))

pub edge_is : (segment : Grown) (n : ℕ) → is_edge segment n ≡ true → begin_of segment n ≡ n
edge_is segment n e = eqb-true (begin_of segment n) n e

pub edge_below : (segment : Grown) (n : ℕ) → IsLaidOut segment → is_edge segment n ≡ true → n ≤ end_of segment
edge_below segment n laid e =
    let below = ending_below segment.base 0 n segment.batches laid.laid in
    let is = edge_is segment n e in
    omega (arith, below, is)

-- a piece ends with its segment, or at an edge of it
pub record IsPieceEnd (segment : Grown) (offset end : ℕ) : Type 0 where
  pub above : offset < end
  pub below : end ≤ end_of segment
  pub edge : (end ≡ end_of segment) ⊎ (is_edge segment end ≡ true)

pub piece_ends : (line : List (ℕ × ℕ)) (segment : Grown) (offset : ℕ) → IsLaidOut segment → offset < end_of segment → IsPieceEnd segment offset (piece_end line segment offset)
piece_ends [] segment offset laid inside = record { above = inside; below = omega arith; edge = inl refl }
piece_ends (entry ∷ line) segment offset laid inside = go (nat_lt offset entry.1 && is_edge segment entry.1) refl (piece_ends line segment offset laid inside)
  where
    go : (t : Bool) → (nat_lt offset entry.1 && is_edge segment entry.1) ≡ t → IsPieceEnd segment offset (piece_end line segment offset) → IsPieceEnd segment offset (piece_end (entry ∷ line) segment offset)
    go true e more =
        let both = and_both (nat_lt offset entry.1) (is_edge segment entry.1) e in
        rw e (record { above = ltb-true offset entry.1 both.0; below = edge_below segment entry.1 laid both.1; edge = inr both.1 })
    go false e more = rw e more

-- the segment that holds an offset
abbrev pub holder : ℕ → List Grown → Grown → Grown
holder offset closed active = unwrap_or (first_past offset closed) active

pub holder_each : (P : Grown → Type 0) (offset : ℕ) (closed : List Grown) (active : Grown) → Each P (closed ++ active ∷ []) → P (holder offset closed active)
holder_each P offset [] active each = each.0
holder_each P offset (s ∷ closed) active each = go (nat_lt offset (end_of s)) refl (holder_each P offset closed active each.1)
  where
    go : (t : Bool) → nat_lt offset (end_of s) ≡ t → P (holder offset closed active) → P (holder offset (s ∷ closed) active)
    go true e more = rw e each.0
    go false e more = rw e more

pub holder_base : (first offset : ℕ) (closed : List Grown) (active : Grown) → AreChained first (closed ++ active ∷ []) → first ≤ offset → (holder offset closed active).base ≤ offset
holder_base first offset [] active chained le = omega (arith, chained.0, le)
holder_base first offset (s ∷ closed) active chained le = go (nat_lt offset (end_of s)) refl (holder_base (end_of s) offset closed active chained.1)
  where
    go : (t : Bool) → nat_lt offset (end_of s) ≡ t → (end_of s ≤ offset → (holder offset closed active).base ≤ offset) → (holder offset (s ∷ closed) active).base ≤ offset
    go true e more = rw e (omega (arith, chained.0, le))
    go false e more = rw e (more (ltb-false offset (end_of s) e))

-- an offset below an edge of the log is below the end of its segment
pub holder_end : (offset mark : ℕ) (closed : List Grown) (active : Grown) → IsLaidOut active → offset < mark → is_edge (holder mark closed active) mark ≡ true → offset < end_of (holder offset closed active)
holder_end offset mark [] active laid lt edge = let below = edge_below active mark laid edge in omega (arith, below, lt)
holder_end offset mark (s ∷ closed) active laid lt edge = go (nat_lt offset (end_of s)) refl (holder_end offset mark closed active laid lt)
  where
    go : (t : Bool) → nat_lt offset (end_of s) ≡ t → (is_edge (holder mark closed active) mark ≡ true → offset < end_of (holder offset closed active)) → offset < end_of (holder offset (s ∷ closed) active)
    go true e more = rw e (ltb-true offset (end_of s) e)
    go false e more =
        let out : end_of s ≤ offset = ltb-false offset (end_of s) e in
        let f : nat_lt mark (end_of s) ≡ false = lt_false mark (end_of s) (omega (arith, out, lt)) in
        rw e (more (rw f at edge))

-- offsets of one segment
pub holder_same : (offset mark : ℕ) (closed : List Grown) (active : Grown) → offset ≤ mark → mark < end_of (holder offset closed active) → holder mark closed active ≡ holder offset closed active
holder_same offset mark [] active le lt = refl
holder_same offset mark (s ∷ closed) active le lt = go (nat_lt offset (end_of s)) refl (holder_same offset mark closed active le)
  where
    go : (t : Bool) → nat_lt offset (end_of s) ≡ t → (mark < end_of (holder offset closed active) → holder mark closed active ≡ holder offset closed active) → holder mark (s ∷ closed) active ≡ holder offset (s ∷ closed) active
    go true e more =
        let t : nat_lt mark (end_of s) ≡ true = lt_true mark (end_of s) (rw e at lt) in
        rw (e, t) refl
    go false e more =
        let out : end_of s ≤ offset = ltb-false offset (end_of s) e in
        let f : nat_lt mark (end_of s) ≡ false = lt_false mark (end_of s) (omega (arith, out, le)) in
        rw (e, f) (more (rw e at lt))

-- a segment's batches end there
pub begin_is : (f : Files) (line : List (ℕ × ℕ)) (segment : Grown) (n : ℕ) (s : IsStored f line segment) → begin_of segment n ≡ end_from segment.base (up_to n s.batches)
begin_is f line segment n s =
    ap (λ (l : List Placed). end_after segment.base (ending_by n l)) s.placed
    ∙ ap (end_after segment.base) (placed_up_to 0 n s.batches)
    ∙ end_placed segment.base 0 (up_to n s.batches)

-- some of a segment's batches end there
abbrev pub Ends : ℕ → List (List ℕ) → ℕ → Type 0
Ends base batches n = (front : List (List ℕ)) × IsPrefix front batches × (end_from base front ≡ n)

pub edge_ends : (f : Files) (line : List (ℕ × ℕ)) (segment : Grown) (n : ℕ) (s : IsStored f line segment) → is_edge segment n ≡ true → Ends segment.base s.batches n
edge_ends f line segment n s e = (up_to n s.batches, up_to_prefix n s.batches, sym (begin_is f line segment n s) ∙ edge_is segment n e)

pub piece_edge : (f : Files) (line : List (ℕ × ℕ)) (segment : Grown) (offset end : ℕ) (s : IsStored f line segment) → IsPieceEnd segment offset end → Ends segment.base s.batches end
piece_edge f line segment offset end s p = elim p.edge [
  | inl all ↦ (s.batches, prefix_self s.batches, sym (stored_end f line segment s) ∙ sym all)
  | inr some ↦ edge_ends f line segment end s some
]

-- the run's bound is an edge of its segment
pub bound_ends : (f : Files) (line : List (ℕ × ℕ)) (offset mark end : ℕ) (closed : List Grown) (active : Grown) (s : IsStored f line (holder offset closed active))
    → offset ≤ mark → is_edge (holder mark closed active) mark ≡ true → IsPieceEnd (holder offset closed active) offset end → Ends (holder offset closed active).base s.batches (min mark end)
bound_ends f line offset mark end closed active s le edge p = elim (cases_lt mark end) [
  | inl lt ↦ (
      let m : min mark end ≡ mark = omega (arith, lt) in
      let same = holder_same offset mark closed active le (omega (arith, lt, p.below)) in
      let here : is_edge (holder offset closed active) mark ≡ true = subst (λ (g : Grown). is_edge g mark ≡ true) same edge in
      rw m (edge_ends f line (holder offset closed active) mark s here))
  | inr ge ↦ (
      let m : min mark end ≡ end = omega (arith, ge) in
      rw m (piece_edge f line (holder offset closed active) offset end s p))
]

-- batches that end at or below an offset are passed over
pub from_skip : (n offset : ℕ) (xs ys : List (List ℕ)) → IsConsecutive n xs → end_from n xs ≤ offset → from_offset offset (xs ++ ys) ≡ from_offset offset ys
from_skip n offset [] ys c le = refl
from_skip n offset (x ∷ xs) ys c le =
    let up = end_above (last_of x + 1) xs c.1 in
    let t = lt_true (last_of x) offset (omega (arith, up, le)) in
    rw t (from_skip (last_of x + 1) offset xs ys c.1 le)

-- the batches of a log from an offset on are those of its segment, and more
pub holder_from : (f : Files) (line : List (ℕ × ℕ)) (offset : ℕ) (closed : List Grown) (active : Grown) → Each (IsStored f line) (closed ++ active ∷ [])
    → (beyond : List (List ℕ)) × (from_offset offset (all_batches f (closed ++ active ∷ [])) ≡ from_offset offset (batches_of f (holder offset closed active) ++ beyond))
holder_from f line offset [] active each = ([], refl)
holder_from f line offset (s ∷ closed) active each = go (nat_lt offset (end_of s)) refl (holder_from f line offset closed active each.1)
  where
    go : (t : Bool) → nat_lt offset (end_of s) ≡ t → ((beyond : List (List ℕ)) × (from_offset offset (all_batches f (closed ++ active ∷ [])) ≡ from_offset offset (batches_of f (holder offset closed active) ++ beyond))) → (beyond : List (List ℕ)) × (from_offset offset (all_batches f (s ∷ closed ++ active ∷ [])) ≡ from_offset offset (batches_of f (holder offset (s ∷ closed) active) ++ beyond))
    go true e rest = rw e (all_batches f (closed ++ active ∷ []), refl)
    go false e rest =
        let out : end_of s ≤ offset = ltb-false offset (end_of s) e in
        let k = each.0 in
        let end = stored_end f line s k in
        rw e (
          rest.0,
          ap (λ (l : List (List ℕ)). from_offset offset (l ++ all_batches f (closed ++ active ∷ []))) (stored_batches f line s k)
              ∙ from_skip s.base offset k.batches (all_batches f (closed ++ active ∷ [])) k.stands.consecutive (omega (arith, end, out))
              ∙ rest.1,
        )

-- batches past an end are none of those up to it
up_to_stop : (n mark : ℕ) (xs ys : List (List ℕ)) → n ≤ mark → mark < end_from n xs → up_to mark (xs ++ ys) ≡ up_to mark xs
up_to_stop n mark [] ys le lt = absurd (omega (arith, le, lt))
up_to_stop n mark (x ∷ xs) ys le lt = go (nat_lt (last_of x) mark) refl (λ h. up_to_stop (last_of x + 1) mark xs ys h lt)
  where
    go : (t : Bool) → nat_lt (last_of x) mark ≡ t → (last_of x + 1 ≤ mark → up_to mark (xs ++ ys) ≡ up_to mark xs) → up_to mark (x ∷ xs ++ ys) ≡ up_to mark (x ∷ xs)
    go true e more =
        let h : last_of x < mark = ltb-true (last_of x) mark e in
        rw e (ap (λ (l : List (List ℕ)). x ∷ l) (more (omega (arith, h))))
    go false e more = rw e refl

pub up_to_past : (n mark : ℕ) (xs ys : List (List ℕ)) → IsConsecutive n xs → end_from n xs ≤ mark → up_to mark (xs ++ ys) ≡ xs ++ up_to mark ys
up_to_past n mark [] ys c le = refl
up_to_past n mark (x ∷ xs) ys c le =
    let up = end_above (last_of x + 1) xs c.1 in
    let t = lt_true (last_of x) mark (omega (arith, up, le)) in
    rw t (ap (λ (l : List (List ℕ)). x ∷ l) (up_to_past (last_of x + 1) mark xs ys c.1 le))

-- where the log's batches up to an offset end, memory says too
pub log_begin : (f : Files) (line : List (ℕ × ℕ)) (first mark : ℕ) (closed : List Grown) (active : Grown) → AreChained first (closed ++ active ∷ []) → Each (IsStored f line) (closed ++ active ∷ []) → first ≤ mark
    → end_from first (up_to mark (all_batches f (closed ++ active ∷ []))) ≡ begin_of (holder mark closed active) mark
log_begin f line first mark [] active chained each le =
    let k = each.0 in
    ap (λ (l : List (List ℕ)). end_from first (up_to mark l)) (append-nil (batches_of f active) ∙ stored_batches f line active k)
    ∙ ap (λ (n : ℕ). end_from n (up_to mark k.batches)) (sym chained.0)
    ∙ sym (begin_is f line active mark k)
log_begin f line first mark (s ∷ closed) active chained each le = go (nat_lt mark (end_of s)) refl (log_begin f line (end_of s) mark closed active chained.1 each.1)
  where
    others : List (List ℕ)
    others = all_batches f (closed ++ active ∷ [])

    k : IsStored f line s
    k = each.0

    end : end_of s ≡ end_from first k.batches
    end = stored_end f line s k ∙ ap (λ (n : ℕ). end_from n k.batches) chained.0

    row : IsConsecutive first k.batches
    row = subst (λ (n : ℕ). IsConsecutive n k.batches) chained.0 k.stands.consecutive

    all : batches_of f s ++ others ≡ k.batches ++ others
    all = ap (λ (l : List (List ℕ)). l ++ others) (stored_batches f line s k)

    go : (t : Bool) → nat_lt mark (end_of s) ≡ t → (end_of s ≤ mark → end_from (end_of s) (up_to mark others) ≡ begin_of (holder mark closed active) mark) → end_from first (up_to mark (all_batches f (s ∷ closed ++ active ∷ []))) ≡ begin_of (holder mark (s ∷ closed) active) mark
    go true e more =
        let h : mark < end_of s = ltb-true mark (end_of s) e in
        rw e (
        ap (λ (l : List (List ℕ)). end_from first (up_to mark l)) all
        ∙ ap (end_from first) (up_to_stop first mark k.batches others le (omega (arith, end, h)))
        ∙ ap (λ (n : ℕ). end_from n (up_to mark k.batches)) (sym chained.0)
        ∙ sym (begin_is f line s mark k))
    go false e more =
        let h : end_of s ≤ mark = ltb-false mark (end_of s) e in
        rw e (
        ap (λ (l : List (List ℕ)). end_from first (up_to mark l)) all
        ∙ ap (end_from first) (up_to_past first mark k.batches others row (omega (arith, end, h)))
        ∙ end_append first k.batches (up_to mark others)
        ∙ ap (λ (n : ℕ). end_from n (up_to mark others)) (sym end)
        ∙ more h)
