-- Bytes in pieces: one piece more, bytes that are dropped from the end, and where each piece ends.
use Rattle.std.specs.Prelude.{◌≡◌, ℕ, ◌+◌, ◌-◌, ◌<◌, ◌≤◌, List, [], ◌∷◌, ◌++◌, length, take, drop, map}
use Rattle.std.specs.List.{concat}
use Rattle.std.proofs.Common.{sym, ◌∙◌, ap, subst, arith, append-nil, length-append, zero, suc, true, false, nat_le, add-one, get_or, min, length-drop, take-add, take-append-drop}
use Rattle.std.proofs.Math.Seq.{take-append-add, drop-append-add}
use Rattle.std.proofs.lemmas.Bool.Decides.{nat_tests}
use Rattle.std.proofs.lemmas.List.{take_all, take_more, take_min, take-append-le, drop-append-le, map-append}
use Rattle.std.proofs.lemmas.List.Folds.{concat-append}
use Rattle.std.specs.List.Sorted.{IsNonDecreasingBy, IsPartitionPoint}
use Rattle.std.proofs.lemmas.List.Sorted.{IsNonDecreasingBy-from_all_adjacent}
use Rattle.disk_model.specs.declared.pieces.Chunk.{Chunk}
use Rattle.disk_model.specs.Pieces.{joined, AreEnded}

pub joined-append : (xs ys : List Chunk) → joined (xs ++ ys) ≡ joined xs ++ joined ys
joined-append xs ys = ap concat (map-append (λ (p : Chunk). p.bytes) xs ys) ∙ concat-append (map (λ (p : Chunk). p.bytes) xs) (map (λ (p : Chunk). p.bytes) ys)

-- one piece more
pub joined-push : (pieces : List Chunk) (last : Chunk) → joined (pieces ++ last ∷ []) ≡ joined pieces ++ last.bytes
joined-push pieces last = joined-append pieces (last ∷ []) ∙ ap (λ (bytes : List ℕ). joined pieces ++ bytes) (append-nil last.bytes)

-- where no fewer bytes are dropped than the last piece has, it goes whole
pub drops_whole : (pieces front : List Chunk) (last : Chunk) (len count : ℕ) → pieces ≡ front ++ last ∷ [] → len ≡ length last.bytes → len ≤ count
    → take (length (joined front) - (count - len)) (joined front) ≡ take (length (joined pieces) - count) (joined pieces)
drops_whole pieces front last len count is counted some =
    let n : length (joined front) - (count - len) ≡ length (joined front ++ last.bytes) - count = omega (arith, some, counted, length-append (joined front) last.bytes) in
    let fits : length (joined front) - (count - len) ≤ length (joined front) = omega arith in
    sym (take-append-le (length (joined front) - (count - len)) (joined front) last.bytes fits)
    ∙ ap (λ (k : ℕ). take k (joined front ++ last.bytes)) n
    ∙ ap (λ (bytes : List ℕ). take (length bytes - count) bytes) (sym (ap joined is ∙ joined-push front last))

-- where fewer are dropped, it is cut
pub drops_part : (pieces front : List Chunk) (last cut : Chunk) (len count : ℕ) → pieces ≡ front ++ last ∷ [] → len ≡ length last.bytes → count < len → cut.bytes ≡ take (len - count) last.bytes
    → joined (front ++ cut ∷ []) ≡ take (length (joined pieces) - count) (joined pieces)
drops_part pieces front last cut len count is counted some cuts =
    let n : length (joined front) + (len - count) ≡ length (joined front ++ last.bytes) - count = omega (arith, some, counted, length-append (joined front) last.bytes) in
    joined-push front cut
    ∙ ap (λ (bytes : List ℕ). joined front ++ bytes) cuts
    ∙ sym (take-append-add (joined front) last.bytes (len - count))
    ∙ ap (λ (k : ℕ). take k (joined front ++ last.bytes)) n
    ∙ ap (λ (bytes : List ℕ). take (length bytes - count) bytes) (sym (ap joined is ∙ joined-push front last))

-- each of two runs of pieces has its ends
pub ended-append : (from : ℕ) (xs ys : List Chunk) → AreEnded from (xs ++ ys) → AreEnded from xs × AreEnded (from + length (joined xs)) ys
ended-append from [] ys ends = (tt, subst (λ (n : ℕ). AreEnded n ys) (omega arith) ends)
ended-append from (x ∷ xs) ys ends =
    let more = ended-append x.end xs ys ends.1 in
    let n : x.end + length (joined xs) ≡ from + length (x.bytes ++ joined xs) = omega (arith, ends.0, length-append x.bytes (joined xs)) in
    ((ends.0, more.0), subst (λ (n : ℕ). AreEnded n ys) n more.1)

-- one piece more, after the others
pub ended-push : (from : ℕ) (xs : List Chunk) (last : Chunk) → AreEnded from xs → last.end ≡ from + length (joined xs) + length last.bytes → AreEnded from (xs ++ last ∷ [])
ended-push from [] last ends is = (omega (arith, is), tt)
ended-push from (x ∷ xs) last ends is = (ends.0, ended-push x.end xs last ends.1 (omega (arith, is, ends.0, length-append x.bytes (joined xs))))

ends-adjacent : (from : ℕ) (xs : List Chunk) (k : ℕ) (d : Chunk) → AreEnded from xs → suc k < length xs → (get_or xs k d).end ≤ (get_or xs (suc k) d).end
ends-adjacent from [] k d ends lt = absurd (omega (arith, lt))
ends-adjacent from (x ∷ []) k d ends lt = absurd (omega (arith, lt))
ends-adjacent from (x ∷ y ∷ xs) zero d ends lt = omega (arith, ends.1.0)
ends-adjacent from (x ∷ y ∷ xs) (suc k) d ends lt = ends-adjacent x.end (y ∷ xs) k d ends.1 (omega (arith, lt))

-- the ends rise
pub ends-rise : (xs : List Chunk) → AreEnded 0 xs → IsNonDecreasingBy (λ p. p.end) xs
ends-rise xs ends = IsNonDecreasingBy-from_all_adjacent (λ p. p.end) xs (λ k d l. rw add-one (ends-adjacent 0 xs k d ends (omega (arith, l))))

-- what precedes a place, and what reaches past it
pub passed_at : (from at : ℕ) (xs : List Chunk) (i : ℕ) → AreEnded from xs → from ≤ at → i ≤ length xs → IsPartitionPoint (λ y. nat_le y.end at ≡ true) (λ y. nat_le y.end at ≡ false) xs i
    → (from + length (joined (take i xs)) ≤ at) × (i < length xs → at < from + length (joined (take (i + 1) xs)))
passed_at from at [] zero ends le l h = (omega (arith, le), λ lt. absurd (omega (arith, lt)))
passed_at from at [] (suc i) ends le l h = absurd (omega (arith, l))
passed_at from at (x ∷ xs) zero ends le l h =
    let no : nat_le x.end at ≡ false = h.1 0 x (omega arith) (omega arith) in
    (omega (arith, le), λ lt. (let past : at < x.end = grind (arith, nat_tests, no) in omega (arith, past, ends.0, ap length (append-nil x.bytes))))
passed_at from at (x ∷ xs) (suc i) ends le l h =
    let yes : nat_le x.end at ≡ true = h.0 0 x (omega arith) (omega arith) in
    let by : x.end ≤ at = grind (arith, nat_tests, yes) in
    let rest : IsPartitionPoint (λ y. nat_le y.end at ≡ true) (λ y. nat_le y.end at ≡ false) xs i = (λ k d low high. h.0 (suc k) d (omega arith) (omega (arith, high)), λ k d low high. h.1 (suc k) d (omega (arith, low)) (omega (arith, high))) in
    let more = passed_at x.end at xs i ends.1 by (omega (arith, l)) rest in (
      omega (arith, more.0, ends.0, length-append x.bytes (joined (take i xs))),
      λ lt. (let further = more.1 (omega (arith, lt)) in rw add-one (let f = rw add-one at further in omega (arith, f, ends.0, length-append x.bytes (joined (take (suc i) xs))))),
    )

-- the pieces up to one, and that one
pub joined-take_more : (pieces : List Chunk) (i : ℕ) (piece : Chunk) → i < length pieces → piece ≡ get_or pieces i piece → joined (take (i + 1) pieces) ≡ joined (take i pieces) ++ piece.bytes
joined-take_more pieces i piece within is =
    ap joined (take_more pieces i piece within) ∙ joined-push (take i pieces) (get_or pieces i piece) ∙ ap (λ (p : Chunk). joined (take i pieces) ++ p.bytes) (sym is)

-- the first bytes of two runs are those of the first one, and then those of the second one
pub take-over : (n : ℕ) (xs ys : List ℕ) → take n (xs ++ ys) ≡ take n xs ++ take (n - length xs) ys
take-over zero xs ys = let e : 0 - length xs ≡ 0 = omega arith in sym (ap (λ (k : ℕ). take k ys) e)
take-over (suc n) [] ys = let e : suc n - 0 ≡ suc n = omega arith in sym (ap (λ (k : ℕ). take k ys) e)
take-over (suc n) (x ∷ xs) ys =
    let e : n - length xs ≡ suc n - length (x ∷ xs) = omega arith in
    ap (λ (l : List ℕ). x ∷ l) (take-over n xs ys) ∙ ap (λ (k : ℕ). x ∷ take n xs ++ take k ys) e

-- so many of the first bytes with those of one piece more
pub copied : (most left here : ℕ) (front bytes part : List ℕ) → left ≡ most - length front → here ≡ min left (length bytes) → part ≡ take here bytes → take most front ++ part ≡ take most (front ++ bytes)
copied most left here front bytes part leaves is parts =
    ap (λ (p : List ℕ). take most front ++ p) (parts ∙ ap (λ (k : ℕ). take k bytes) is ∙ take_min left bytes ∙ ap (λ (k : ℕ). take k bytes) leaves)
    ∙ sym (take-over most front bytes)

-- what follows so many bytes isn't wanted
pub enough : (most i : ℕ) (pieces : List Chunk) → most ≤ length (joined (take i pieces)) → take most (joined (take i pieces)) ≡ take most (joined pieces)
enough most i pieces has =
    sym (take-append-le most (joined (take i pieces)) (joined (drop i pieces)) has)
    ∙ ap (take most) (sym (joined-append (take i pieces) (drop i pieces)) ∙ ap joined (take-append-drop i pieces))

-- a part that begins in a piece
pub part-in : (front behind : List Chunk) (piece : Chunk) (at here most : ℕ) → length (joined front) ≤ at → at + here ≡ length (joined front) + length piece.bytes
    → take most (drop (length piece.bytes - here) piece.bytes ++ joined behind) ≡ take most (drop at (joined (front ++ piece ∷ behind)))
part-in front behind piece at here most some is =
    let from : ℕ = length piece.bytes - here in
    let n : length (joined front) + from ≡ at = omega (arith, some, is) in
    let within : from ≤ length piece.bytes = omega arith in
    ap (take most) (
    sym (drop-append-le from piece.bytes (joined behind) within)
    ∙ sym (drop-append-add (joined front) (piece.bytes ++ joined behind) from)
    ∙ ap (λ (k : ℕ). drop k (joined front ++ (piece.bytes ++ joined behind))) n
    ∙ ap (drop at) (sym (joined-append front (piece ∷ behind)))
    )

-- the piece at which what precedes a place ends: all pieces, where it ends, and that it reaches past the place
pub stands : (items passed rest : List Chunk) (i at : ℕ) (piece : Chunk) (behind : List Chunk) → AreEnded 0 items → passed ≡ items → rest ≡ items → take (length rest - i) (drop i rest) ≡ piece ∷ behind
    → (i < length passed → at < length (joined (take (i + 1) passed)))
    → (items ≡ take i items ++ piece ∷ behind) × ((piece.end ≡ length (joined (take i items)) + length piece.bytes) × (at < piece.end))
stands items passed rest i at piece behind ends passed_is rest_is found past =
    let front : List Chunk = take i items in
    let found' : take (length items - i) (drop i items) ≡ piece ∷ behind = subst (λ (l : List Chunk). take (length l - i) (drop i l) ≡ piece ∷ behind) rest_is found in
    let dropped : drop i items ≡ piece ∷ behind = sym (take_all (length items - i) (drop i items) (omega (arith, length-drop i items))) ∙ found' in
    let split : items ≡ front ++ piece ∷ behind = sym (take-append-drop i items) ∙ ap (λ (l : List Chunk). front ++ l) dropped in
    let within : i < length items = omega (arith, length-drop i items, ap length dropped) in
    let past' : i < length items → at < length (joined (take (i + 1) items)) = subst (λ (l : List Chunk). i < length l → at < length (joined (take (i + 1) l))) passed_is past in
    let more : joined (take (i + 1) items) ≡ joined front ++ piece.bytes = ap joined (take-add i 1 items ∙ ap (λ (l : List Chunk). front ++ take 1 l) dropped) ∙ joined-push front piece in
    let ended = (ended-append 0 front (piece ∷ behind) (subst (AreEnded 0) split ends)).1 in
    let is : piece.end ≡ length (joined front) + length piece.bytes = omega (arith, ended.0) in
    (split, (is, omega (arith, is, past' within, ap (length {A = ℕ}) more, length-append (joined front) piece.bytes)))
