-- The parts of an object that has four of them one after another, and reads of a part that exists.
use Rattle.std.proofs.Common.{◌≡◌, refl, sym, ap, ◌∙◌, ℕ, ◌+◌, ◌-◌, min, List, [], ◌++◌, length, take, drop, Option, Some, None, append-nil, length-append, arith}
use Rattle.std.proofs.lemmas.Bool.{le-ltb}
use Rattle.std.proofs.lemmas.List.{take_at, drop_at, take_all, append_assoc, length-take, length-drop}
use Rattle.tier_base.specs.declared.plain.Part.{Part}
use Rattle.tier_base.specs.declared.plain.Part.TheVariants.{Log, Index, TimeIndex, Epochs, Pack}
use Rattle.tier_base.specs.declared.object_key.ObjectKey.{ObjectKey}
use Rattle.tier_base.specs.declared.layout.Layout.{Layout}
use Rattle.object_store.specs.declared.placing.Spot.{Spot}
use Rattle.object_store.specs.Place.{part_of, all_of, short_at, short_in}

-- the lengths of four parts
abbrev pub lengths : List ℕ → List ℕ → List ℕ → List ℕ → Layout
lengths a b c d = record { log = length a; index = length b; times = length c; epochs = length d }

-- the four, and all
abbrev pub one_of : List ℕ → List ℕ → List ℕ → List ℕ → Part → List ℕ
one_of a b c d Log = a
one_of a b c d Index = b
one_of a b c d TimeIndex = c
one_of a b c d Epochs = d
one_of a b c d Pack = a ++ (b ++ (c ++ d))

-- what follows a front
stands : (front part rest : List ℕ) (at : ℕ) → length front ≡ at → take (length part) (drop at (front ++ (part ++ rest))) ≡ part
stands front part rest at is = ap (take (length part)) (drop_at front (part ++ rest) at is) ∙ take_at part rest (length part) refl

-- each part is read where the layout has it
pub parts_stand : (key : ObjectKey) (a b c d : List ℕ) (part : Part) → all_of (part_of key (lengths a b c d) part) (a ++ (b ++ (c ++ d))) ≡ one_of a b c d part
parts_stand key a b c d Log = take_at a (b ++ (c ++ d)) (length a) refl
parts_stand key a b c d Index = stands a b (c ++ d) (length a) refl
parts_stand key a b c d TimeIndex =
    ap (λ (object : List ℕ). take (length c) (drop (length a + length b) object)) (sym (append_assoc a b (c ++ d)))
    ∙ stands (a ++ b) c d (length a + length b) (length-append a b)
parts_stand key a b c d Epochs =
    let front : a ++ (b ++ (c ++ d)) ≡ (a ++ b ++ c) ++ (d ++ []) =
    sym (append_assoc a b (c ++ d)) ∙ (sym (append_assoc (a ++ b) c d) ∙ ap (λ (e : List ℕ). (a ++ b ++ c) ++ e) (sym (append-nil d))) in
    ap (λ (object : List ℕ). take (length d) (drop (length a + length b + length c) object)) front
    ∙ stands (a ++ b ++ c) d [] (length a + length b + length c) (length-append (a ++ b) c ∙ ap (λ n. n + length c) (length-append a b))
parts_stand key a b c d Pack =
    let long = length-append a (b ++ (c ++ d)) in
    let behind = length-append b (c ++ d) in
    let last = length-append c d in
    take_all (length a + length b + length c + length d) (a ++ (b ++ (c ++ d))) (omega (arith, long, behind, last))

-- these are all bytes of a part whose length is reported, or it isn't reported
abbrev pub AreAll : Option ℕ → List ℕ → Type 0
AreAll None bytes = Unit {0}
AreAll (Some len) bytes = len ≡ length bytes

-- a part of the object has the length that the layout gives
pub parts_whole : (key : ObjectKey) (a b c d : List ℕ) (part : Part) → AreAll (part_of key (lengths a b c d) part).len (one_of a b c d part)
parts_whole key a b c d Log = refl
parts_whole key a b c d Index = refl
parts_whole key a b c d TimeIndex = refl
parts_whole key a b c d Epochs = refl
parts_whole key a b c d Pack =
    let long = length-append a (b ++ (c ++ d)) in
    let behind = length-append b (c ++ d) in
    let last = length-append c d in
    omega (arith, long, behind, last)

-- what is whole isn't short
pub not_short : (at : ℕ) (owed : Option ℕ) (bytes : List ℕ) → AreAll owed bytes → short_at at owed (length bytes) ≡ None
not_short at None bytes all = refl
not_short at (Some owed) bytes all = rw (le-ltb (length bytes) owed (omega (arith, all))) refl

-- and so is no piece of it
pub piece_not_short : (spot : Spot) (from most : ℕ) (bytes : List ℕ) → AreAll spot.len bytes → short_in spot from most (take most (drop from bytes)) ≡ None
piece_not_short spot from most bytes all = by spot.len all
  where
    by : (len : Option ℕ) → AreAll len bytes → short_in (record spot { len = len }) from most (take most (drop from bytes)) ≡ None
    by None all = refl
    by (Some len) all =
        let piece = length-take most (drop from bytes) in
        let left = length-drop from bytes in
        rw (le-ltb (length (take most (drop from bytes))) (min most (len - from)) (omega (arith, all, piece, left))) refl
