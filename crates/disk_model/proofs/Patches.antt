-- Files as patches of those that was there before.
use Rattle.std.proofs.Common.{◌≡◌, ◌≤◌, ◌∙◌, sym, ap, refl, arith, ℕ, ◌+◌, ◌*◌, ◌-◌, Bool, true, false, List, ◌++◌, take, drop, length, take-append-drop, length-drop, length-take, take_all, take-add, drop-drop, append_assoc}
use Rattle.std.specs.Prelude.{not}
use Rattle.std.specs.Cmp.Lexicographic.{same_text}
use Rattle.std.specs.Str.{bytes_eq}
use Rattle.std.proofs.lemmas.List.{take-append-le, drop-append-le}
use Rattle.std.proofs.Math.Seq.{take-append_seam, drop-append_seam}

not_false : (b : Bool) → false ≡ not b → true ≡ b
not_false true e = refl
not_false false e = absurd (cc e)

-- what a slice from a place on has
pub rest_of : (n : ℕ) (l : List ℕ) → take (length l - n) (drop n l) ≡ drop n l
rest_of n l = take_all (length l - n) (drop n l) (omega (arith, length-drop n l))

-- a block more that is the same
pub block_more : (old new : List ℕ) (b : ℕ) → take (b * 128) old ≡ take (b * 128) new
    → false ≡ not (bytes_eq (take (b * 128 + 128 - b * 128) (drop (b * 128) old)) (take (b * 128 + 128 - b * 128) (drop (b * 128) new)))
    → take ((b + 1) * 128) old ≡ take ((b + 1) * 128) new
block_more old new b before test =
    let n = b * 128 in
    let further : (b + 1) * 128 ≡ n + 128 = omega arith in
    let block : n + 128 - n ≡ 128 = omega arith in
    let same = same_text _ _ (not_false _ test) in
    ap (λ (m : ℕ). take m old) further ∙ take-add n 128 old
    ∙ ap (λ (xs : List ℕ). xs ++ take 128 (drop n old)) before
    ∙ ap (λ (xs : List ℕ). take n new ++ xs) (sym (ap (λ (m : ℕ). take m (drop n old)) block) ∙ same ∙ ap (λ (m : ℕ). take m (drop n new)) block)
    ∙ sym (take-add n 128 new) ∙ sym (ap (λ (m : ℕ). take m new) further)

-- the head, what is the same, and what follows it
pub put_together : (old new : List ℕ) (same : ℕ) → 32 + same ≤ length new → take same (drop 32 old) ≡ take same (drop 32 new)
    → take 32 (take 32 new ++ drop (32 + same) new) ++ take same (drop 32 old) ++ drop 32 (take 32 new ++ drop (32 + same) new) ≡ new
put_together old new same fits e =
    let head : length (take 32 new) ≡ 32 = length-take 32 new ∙ omega (arith, fits) in
    let first : take 32 (take 32 new ++ drop (32 + same) new) ≡ take 32 new =
    sym (ap (λ (n : ℕ). take n (take 32 new ++ drop (32 + same) new)) head) ∙ take-append_seam (take 32 new) (drop (32 + same) new) in
    let last : drop 32 (take 32 new ++ drop (32 + same) new) ≡ drop same (drop 32 new) =
    sym (ap (λ (n : ℕ). drop n (take 32 new ++ drop (32 + same) new)) head) ∙ drop-append_seam (take 32 new) (drop (32 + same) new) ∙ sym (drop-drop same 32 new) in
    ap (λ (xs : List ℕ). xs ++ take same (drop 32 old) ++ drop 32 (take 32 new ++ drop (32 + same) new)) first
    ∙ ap (λ (xs : List ℕ). take 32 new ++ xs ++ drop 32 (take 32 new ++ drop (32 + same) new)) e
    ∙ ap (λ (xs : List ℕ). take 32 new ++ take same (drop 32 new) ++ xs) last
    ∙ append_assoc (take 32 new) (take same (drop 32 new)) (drop same (drop 32 new))
    ∙ ap (λ (xs : List ℕ). take 32 new ++ xs) (take-append-drop same (drop 32 new))
    ∙ take-append-drop 32 new

-- what is the same of the front is so of the whole
pub of_front : (front rest new : List ℕ) (same : ℕ) → 32 ≤ length front → same ≤ length (drop 32 front) → take same (drop 32 front) ≡ take same (drop 32 new)
    → take same (drop 32 (front ++ rest)) ≡ take same (drop 32 new)
of_front front rest new same long within e =
    ap (take same) (drop-append-le 32 front rest long) ∙ take-append-le same (drop 32 front) rest within ∙ e
