-- Why no number is at the front of the bytes.
use Rattle.std.proofs.Common.{◌≡◌, refl, ℕ, zero, suc, ◌<◌, ◌≤◌, ◌↔◌, nat_lt, true, false, List, [], ◌∷◌, take, Result, Ok, Err, inl, inr, arith}
use Rattle.std.proofs.lemmas.Bool.{le-ltb, lt-ltb, cases_lt}
use Rattle.std.proofs.lemmas.List.Elements.{All-nil, All-cons, All-head, All-tail}
use Rattle.batch_prims.specs.declared.refusal.VarRefusal.{VarRefusal}
use Rattle.batch_prims.specs.declared.refusal.VarRefusal.TheVariants.{Short, TooLong}
use Rattle.batch_prims.specs.Varint.{seen, above_group, groups_at, IsFollowed, EndsInside, HasNoLast}

-- an error is seen as it is
seen_err : {A B E : Type 0} (f : A → B) (r : Result A E) (d : E) → (seen f r ≡ Err d) ↔ (r ≡ Err d)
seen_err f (Ok x) d = (λ h. cc, λ h. cc)
seen_err f (Err e) d = (λ h. cc, λ h. cc)

-- where the first byte is followed, what is after it has the cause
behind_first : (most b : ℕ) (bytes : List ℕ) (why : VarRefusal) → 128 ≤ b
    → (groups_at (suc most) (b ∷ bytes) ≡ Err why) ↔ (groups_at most bytes ≡ Err why)
behind_first most b bytes why high =
    let more : nat_lt b 128 ≡ false = le-ltb b 128 high in
    rw more (seen_err (above_group b) (groups_at most bytes) why)

-- where the first byte is the last, there is a number
no_cause : (most b : ℕ) (bytes : List ℕ) (why : VarRefusal) → b < 128 → (groups_at (suc most) (b ∷ bytes) ≡ Err why) → ⊥
no_cause most b bytes why low = let last : nat_lt b 128 ≡ true = lt-ltb b 128 low in rw last (λ h. cc)

pub ends_inside : (most : ℕ) (bytes : List ℕ) → (groups_at most bytes ≡ Err Short) ↔ EndsInside most bytes
ends_inside zero bytes = (λ h. cc, λ h. absurd (omega arith))
ends_inside (suc most) [] = (λ _. record { fewer = omega arith; followed = All-nil IsFollowed }, λ _. refl)
ends_inside (suc most) (b ∷ bytes) = elim (cases_lt b 128) [
  | inl low ↦ (
    λ h. absurd (no_cause most b bytes Short low h),
    λ h. let first : 128 ≤ b = All-head IsFollowed b bytes h.followed in absurd (omega arith),
  )
  | inr high ↦ (
    λ h.
        let rest : EndsInside most bytes = (ends_inside most bytes).0 ((behind_first most b bytes Short high).0 h) in
        record { fewer = omega arith; followed = All-cons IsFollowed b bytes high rest.followed },
    λ h.
        let rest : EndsInside most bytes = record { fewer = omega arith; followed = All-tail IsFollowed b bytes h.followed } in
        (behind_first most b bytes Short high).1 ((ends_inside most bytes).1 rest),
  )
]

pub has_no_last : (most : ℕ) (bytes : List ℕ) → (groups_at most bytes ≡ Err TooLong) ↔ HasNoLast most bytes
has_no_last zero bytes = (λ _. record { enough = omega arith; followed = All-nil IsFollowed }, λ _. refl)
has_no_last (suc most) [] = (λ h. cc, λ h. absurd (omega arith))
has_no_last (suc most) (b ∷ bytes) = elim (cases_lt b 128) [
  | inl low ↦ (
    λ h. absurd (no_cause most b bytes TooLong low h),
    λ h. let first : 128 ≤ b = All-head IsFollowed b (take most bytes) h.followed in absurd (omega arith),
  )
  | inr high ↦ (
    λ h.
        let rest : HasNoLast most bytes = (has_no_last most bytes).0 ((behind_first most b bytes TooLong high).0 h) in
        record { enough = omega arith; followed = All-cons IsFollowed b (take most bytes) high rest.followed },
    λ h.
        let rest : HasNoLast most bytes
        = record { enough = omega arith; followed = All-tail IsFollowed b (take most bytes) h.followed } in
        (behind_first most b bytes TooLong high).1 ((has_no_last most bytes).1 rest),
  )
]

-- where a number was read, no cause holds
nothing_refused : {B C D : Type 0} {P : Type 0} (g : C → B) (q : Result C VarRefusal) (x : B) (y : D) (why : VarRefusal)
    → Ok x ≡ seen g q → ((q ≡ Err why) ↔ P) → ◌≡◌ {A = Result D VarRefusal} (Ok y) (Err why) ↔ P
nothing_refused g q x y why read cause = (λ h. cc, λ p. let refused : q ≡ Err why = cause.1 p in cc)

pub not_short : {B D : Type 0} (g : ℕ × List ℕ → B) (most : ℕ) (bytes : List ℕ) (x : B) (y : D)
    → Ok x ≡ seen g (groups_at most bytes)
    → ◌≡◌ {A = Result D VarRefusal} (Ok y) (Err Short) ↔ EndsInside most bytes
not_short g most bytes x y read = nothing_refused g (groups_at most bytes) x y Short read (ends_inside most bytes)

pub not_too_long : {B D : Type 0} (g : ℕ × List ℕ → B) (most : ℕ) (bytes : List ℕ) (x : B) (y : D)
    → Ok x ≡ seen g (groups_at most bytes)
    → ◌≡◌ {A = Result D VarRefusal} (Ok y) (Err TooLong) ↔ HasNoLast most bytes
not_too_long g most bytes x y read = nothing_refused g (groups_at most bytes) x y TooLong read (has_no_last most bytes)
