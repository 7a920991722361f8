-- A batch that is shown is reported by its own bytes: whatever follows them, it is found again.
use Rattle.std.proofs.Common.{◌≡◌, ◌∙◌, ap, sym, refl, subst, ℕ, ◌+◌, ◌==◌, ◌^◌, ◌<◌, ◌≤◌, nat_lt, not, Bool, true, false, cond, List, ◌++◌, length, take, drop, slice_index, Option, Some, None, Result, Ok, Err, arith, length-append, le-ltb}
use Rattle.std.specs.Int.{w32}
use Rattle.std.proofs.lemmas.Bool.{ltb-false}
use Rattle.std.proofs.lemmas.Int.{of_z-to_z}
use Rattle.std.proofs.lemmas.List.{take-append-le, take-append-drop, length-take-le}
use Rattle.log_terms.specs.Batch.{field_at}
use Rattle.record_batch.specs.declared.head.Head.{Head}
use Rattle.record_batch.specs.declared.refusal.HeadRefusal.{HeadRefusal}
use Rattle.record_batch.specs.declared.refusal.BatchRefusal.{BatchRefusal}
use Rattle.record_batch.specs.Head.{head_of}
use Rattle.record_batch.specs.Check.{head_refusal, head_in, checked, headed}
use Rattle.segment_file.specs.Walk.{size_in}
use Rattle.segment_file.proofs.Finding.{head_kept, not_empty}
use Rattle.segment_file.proofs.Tracking.{head_front}
use Rattle.dump_lines.specs.declared.seeing.Shown.{Shown}
use Rattle.dump_lines.specs.declared.seeing.Seen.TheVariants.{Batch}
use Rattle.dump_lines.specs.Seen.{is_kind, judged_at, seen_at}
use Rattle.dump_lines.proofs.Lists.{take_twice}

-- a head is identified by the bytes in front alone
pub headed_kept : (xs ys : List ℕ) → 61 ≤ length xs → headed (xs ++ ys) ≡ headed xs
unfolding headed
headed_kept xs ys long = rw (head_kept xs ys long, head_front xs ys long) refl

pub headed_is : (bytes : List ℕ) (head : Head) → headed bytes ≡ Ok head → (head_refusal bytes ≡ None) × (head_of bytes ≡ head)
unfolding headed
headed_is bytes head e = go (head_refusal bytes) refl
  where
    go : (r : Option HeadRefusal) → head_refusal bytes ≡ r → (head_refusal bytes ≡ None) × (head_of bytes ≡ head)
    go None r = (r, cc (rw r at e))
    go (Some why) r = absurd (cc (rw r at e))

-- four tests that pass
four : {E : Type 0} (a b c d : Bool) (w x y z : E) → cond a (Some w) (cond b (Some x) (cond c (Some y) (cond d (Some z) None))) ≡ None
    → (c ≡ false) × (d ≡ false)
four true b c d w x y z e = absurd (cc)
four false true c d w x y z e = absurd (cc)
four false false true d w x y z e = absurd (cc)
four false false false true w x y z e = absurd (cc)
four false false false false w x y z e = (refl, refl)

length_in : (bytes : List ℕ) → head_refusal bytes ≡ None → (49 ≤ field_at w32 8 bytes) × (field_at w32 8 bytes ≤ 1048564)
unfolding head_refusal
length_in bytes e =
    let p = four (nat_lt (length bytes) 61) (not (slice_index bytes 16 == 2)) (nat_lt (field_at w32 8 bytes) 49) (nat_lt 1048564 (field_at w32 8 bytes)) _ _ _ _ e in
    (ltb-false (field_at w32 8 bytes) 49 p.0, ltb-false 1048564 (field_at w32 8 bytes) p.1)

sized : (bytes : List ℕ) → 49 ≤ field_at w32 8 bytes → field_at w32 8 bytes ≤ 1048564 → 61 ≤ size_in (head_of bytes)
unfolding head_of
sized bytes low high =
    let few : field_at w32 8 bytes < 2 ^ 32 = omega (arith, high) in
    rw (of_z-to_z w32 (field_at w32 8 bytes) few) (omega (arith, low))

-- a batch is no shorter than its head
pub size_long : (bytes : List ℕ) (head : Head) → headed bytes ≡ Ok head → 61 ≤ size_in head
size_long bytes head e =
    let is = headed_is bytes head e in
    let l = length_in bytes is.0 in
    subst (λ (h : Head). 61 ≤ size_in h) is.1 (sized bytes l.0 l.1)

-- what a batch that is shown says of the bytes that it is found in
record Found (at : ℕ) (bytes : List ℕ) (one : Shown) : Type 0 where
  pub head : headed bytes ≡ Ok one.head
  pub there : size_in one.head ≤ length bytes
  pub judged : judged_at at one.head (head_in (checked (take (size_in one.head) bytes))) ≡ Batch one

-- a batch is shown with the head that it was judged by
judged_head : (at : ℕ) (head : Head) (r : Result Head BatchRefusal) (one : Shown) → judged_at at head r ≡ Batch one → one.head ≡ head
judged_head at head (Ok same) one e = cc (e)
judged_head at head (Err why) one e = go (is_kind why) refl
  where
    go : (t : Bool) → is_kind why ≡ t → one.head ≡ head
    go true t = cc (rw t at e)
    go false t = absurd (cc (rw t at e))

found : (at : ℕ) (bytes : List ℕ) (one : Shown) → seen_at at bytes ≡ Batch one → Found at bytes one
unfolding seen_at
found at bytes one e = go (length bytes == 0) refl
  where
    sizes : (head : Head) (z : (length bytes == 0) ≡ false) (h : headed bytes ≡ Ok head) (u : Bool) → nat_lt (length bytes) (size_in head) ≡ u → Found at bytes one
    sizes head z h true u = absurd (cc (rw (z, h, u) at e))
    sizes head z h false u =
        let j : judged_at at head (head_in (checked (take (size_in head) bytes))) ≡ Batch one = rw (z, h, u) at e in
        let same : head ≡ one.head = sym (judged_head at head (head_in (checked (take (size_in head) bytes))) one j) in
        record {
          head = h ∙ ap (λ (x : Head). Ok x) same;
          there = subst (λ (x : Head). size_in x ≤ length bytes) same (ltb-false (length bytes) (size_in head) u);
          judged = subst (λ (x : Head). judged_at at x (head_in (checked (take (size_in x) bytes))) ≡ Batch one) same j;
        }

    heads : (z : (length bytes == 0) ≡ false) (r : Result Head HeadRefusal) → headed bytes ≡ r → Found at bytes one
    heads z (Ok head) h = sizes head z h (nat_lt (length bytes) (size_in head)) refl
    heads z (Err why) h = absurd (cc (rw (z, h) at e))

    go : (t : Bool) → (length bytes == 0) ≡ t → Found at bytes one
    go true t = absurd (cc (rw t at e))
    go false t = heads t (headed bytes) refl

-- bytes with such a head are judged
again : (at : ℕ) (bytes : List ℕ) (head : Head) → (length bytes == 0) ≡ false → headed bytes ≡ Ok head → nat_lt (length bytes) (size_in head) ≡ false
    → seen_at at bytes ≡ judged_at at head (head_in (checked (take (size_in head) bytes)))
unfolding seen_at
again at bytes head z h u = rw (z, h, u) refl

pub seen_kept : (at : ℕ) (bytes behind : List ℕ) (one : Shown) → seen_at at bytes ≡ Batch one
    → seen_at at (take (size_in one.head) bytes ++ behind) ≡ Batch one
seen_kept at bytes behind one e =
    let f = found at bytes one e in
    let long : 61 ≤ size_in one.head = size_long bytes one.head f.head in
    let len : length (take (size_in one.head) bytes) ≡ size_in one.head = length-take-le (size_in one.head) bytes f.there in
    let far : 61 ≤ length (take (size_in one.head) bytes) = omega (arith, long, len) in
    let whole : length (take (size_in one.head) bytes ++ behind) ≡ length (take (size_in one.head) bytes) + length behind = length-append (take (size_in one.head) bytes) behind in
    let heads : headed (take (size_in one.head) bytes ++ behind) ≡ Ok one.head =
    headed_kept (take (size_in one.head) bytes) behind far
    ∙ sym (headed_kept (take (size_in one.head) bytes) (drop (size_in one.head) bytes) far)
    ∙ ap headed (take-append-drop (size_in one.head) bytes) ∙ f.head in
    let enough : nat_lt (length (take (size_in one.head) bytes ++ behind)) (size_in one.head) ≡ false =
    le-ltb (length (take (size_in one.head) bytes ++ behind)) (size_in one.head) (omega (arith, whole, len)) in
    let some : (length (take (size_in one.head) bytes ++ behind) == 0) ≡ false =
    not_empty (length (take (size_in one.head) bytes ++ behind)) (omega (arith, whole, far)) in
    let cut : take (size_in one.head) (take (size_in one.head) bytes ++ behind) ≡ take (size_in one.head) bytes =
    take-append-le (size_in one.head) (take (size_in one.head) bytes) behind (omega (arith, len)) ∙ take_twice (size_in one.head) bytes in
    again at (take (size_in one.head) bytes ++ behind) one.head some heads enough
    ∙ ap (λ (b : List ℕ). judged_at at one.head (head_in (checked b))) cut ∙ f.judged
