-- The marks of a segment's batches rise, and so do the moments of those that are later than all before them.
use Rattle.std.proofs.Common.{◌≡◌, sym, refl, subst, ℕ, ◌+◌, ◌-◌, ◌^◌, ◌<◌, ◌≤◌, Bool, true, false, ℤ, List, [], ◌∷◌, arith, FitsSigned}
use Rattle.std.specs.Prelude.{int_lt, pos, negsuc, ◌≤ℤ◌, ◌<ℤ◌}
use Rattle.std.specs.Int.{w64}
use Rattle.std.specs.List.{AllByRecursion}
use Rattle.std.proofs.lemmas.Int.{ints}
use Rattle.sparse_index.specs.Entries.{IsChain, StandsBefore}
use Rattle.sparse_index.specs.Offsets.{AreOffsets}
use Rattle.sparse_index.specs.Times.{RisesInTime, AreMoments}
use Rattle.segment_file.specs.declared.placed.Placed.{Placed}
use Rattle.segment_file.specs.Growing.{AreBatchesLaid, end_after, size_after}
use Rattle.segment_file.proofs.Laying.{end_up, size_up}
use Rattle.segment_file.proofs.Placing.{placed_end, placed_size}
use Rattle.segment_file.proofs.Tracking.{placed_laid}
use Rattle.tier_audit.specs.Whole.{marks_of, heights_of}
use Rattle.tier_audit.specs.Entries.{ArePlaced}

-- batches that are laid as far as a segment reaches
pub record AreNear (base first at : ℕ) (batches : List Placed) : Type 0 where
  pub from : base ≤ first
  pub laid : AreBatchesLaid first at batches
  pub near : end_after first batches ≤ base + 2 ^ 31
  pub small : size_after at batches < 2 ^ 31

-- so are those after the first
pub near_rest : (base first at : ℕ) (batch : Placed) (batches : List Placed) → AreNear base first at (batch ∷ batches) → AreNear base (batch.last + 1) batch.to batches
near_rest base first at batch batches n =
    let from = n.from in
    let laid = n.laid in
    record { from = omega (arith, from, laid.0); laid = laid.2; near = n.near; small = n.small }

pub record IsNearOne (base first at : ℕ) (batch : Placed) : Type 0 where
  pub from : base ≤ batch.last
  pub up : first ≤ batch.last
  pub near : batch.last < base + 2 ^ 31
  pub below : at < batch.to
  pub small : batch.to < 2 ^ 31

pub near_one : (base first at : ℕ) (batch : Placed) (batches : List Placed) → AreNear base first at (batch ∷ batches) → IsNearOne base first at batch
near_one base first at batch batches n =
    let from = n.from in
    let laid = n.laid in
    let near = n.near in
    let small = n.small in
    let end = end_up (batch.last + 1) batch.to batches laid.2 in
    let size = size_up (batch.last + 1) batch.to batches laid.2 in
    record { from = omega (arith, from, laid.0); up = laid.0; near = omega (arith, end, near); below = laid.1; small = omega (arith, size, small) }

-- the marks rise
pub marks_rise : (base first at : ℕ) (batches : List Placed) → AreNear base first at batches → AreOffsets (marks_of base at batches)
marks_rise base first at [] n = tt
marks_rise base first at (batch ∷ []) n = let one = near_one base first at batch [] n in ((omega (arith, one.near, one.from), omega (arith, one.below, one.small)), tt, tt)
marks_rise base first at (batch ∷ next ∷ batches) n =
    let one = near_one base first at batch (next ∷ batches) n in
    let rest = near_rest base first at batch (next ∷ batches) n in
    let two = near_one base (batch.last + 1) batch.to next batches rest in (
      (omega (arith, one.near, one.from), omega (arith, one.below, one.small)),
      (omega (arith, one.from, two.up), one.below),
      marks_rise base (batch.last + 1) batch.to (next ∷ batches) rest,
    )

-- what fits a moment, but for the width of its timestamp
abbrev pub FitsBare : ℤ × ℕ → Type 0
FitsBare moment = (pos 0 ≤ℤ moment.0) × (moment.1 < 2 ^ 31)

-- the moments rise, and follow one that is no later and no further
abbrev pub Rising : ℕ → ℕ → ℤ → List Placed → Type 0
Rising base first ts batches =
    IsChain FitsBare RisesInTime (heights_of base ts batches)
    × ((last : ℤ × ℕ) → last.0 ≤ℤ ts → last.1 ≤ first - base → StandsBefore RisesInTime last (heights_of base ts batches))

not_negative : (a b : ℤ) → negsuc 0 ≤ℤ a → a <ℤ b → pos 0 ≤ℤ b
not_negative a b h k = grind (arith, ints)

no_lower : (a b : ℤ) → negsuc 0 ≤ℤ a → a <ℤ b → negsuc 0 ≤ℤ b
no_lower a b h k = grind (arith, ints)

le_lt : (a b c : ℤ) → a ≤ℤ b → b <ℤ c → a <ℤ c
le_lt a b c h k = grind (arith, ints)

le_self : (a : ℤ) → a ≤ℤ a
le_self a = grind (arith, ints)

tested : (a b : ℤ) → int_lt a b ≡ true → a <ℤ b
tested a b t = grind (arith, ints)

pub heights_rise : (base first at : ℕ) (ts : ℤ) (batches : List Placed) → AreNear base first at batches → negsuc 0 ≤ℤ ts → Rising base first ts batches
heights_rise base first at ts [] n low = (tt, λ last under near. tt)
heights_rise base first at ts (batch ∷ batches) n low =
    let one = near_one base first at batch batches n in
    let rest = near_rest base first at batch batches n in
    go one (int_lt ts batch.max_ts) refl (heights_rise base (batch.last + 1) batch.to ts batches rest low)
    (λ up. heights_rise base (batch.last + 1) batch.to batch.max_ts batches rest up)
  where
    go : IsNearOne base first at batch → (t : Bool) → int_lt ts batch.max_ts ≡ t → Rising base (batch.last + 1) ts batches → (negsuc 0 ≤ℤ batch.max_ts → Rising base (batch.last + 1) batch.max_ts batches)
        → Rising base first ts (batch ∷ batches)
    go one true t same later =
        let above = tested ts batch.max_ts t in
        let more = later (no_lower ts batch.max_ts low above) in
        let from = one.from in
        let up = one.up in
        let near = one.near in
        rw t (
          ((not_negative ts batch.max_ts low above, omega (arith, near, from)), more.1 (batch.max_ts, batch.last - base) (le_self batch.max_ts) (omega arith), more.0),
          λ last under far. (le_lt last.0 ts batch.max_ts under above, omega (arith, far, up)),
        )
    go one false t same later =
        let up = one.up in
        rw t (same.0, λ last under far. same.1 last under (omega (arith, far, up)))

-- the batches of a segment are laid so
pub placed_near : (base : ℕ) (found : List Placed) → ArePlaced base found → AreNear base base 0 found
placed_near base found p =
    let is = p.is in
    let near = is.near in
    let small = is.small in
    let end = placed_end base 0 p.batches in
    let size = placed_size 0 p.batches in
    subst (AreNear base base 0) (sym p.found_are) (record {
      from = omega arith;
      laid = placed_laid base 0 p.batches is.checked is.consecutive;
      near = omega (arith, end, near);
      small = omega (arith, size, small);
    })

fit_all : (moments : List (ℤ × ℕ)) → IsChain FitsBare RisesInTime moments → AllByRecursion (λ (moment : ℤ × ℕ). FitsSigned w64 moment.0) moments → AreMoments moments
fit_all [] h fits = tt
fit_all (x ∷ []) h fits = ((fits.0, h.0.0, h.0.1), tt, tt)
fit_all (x ∷ y ∷ moments) h fits = ((fits.0, h.0.0, h.0.1), h.1, fit_all (y ∷ moments) h.2 fits.1)

-- the moments of a segment's batches
pub are_moments : (base : ℕ) (found : List Placed) (moments : List (ℤ × ℕ)) → ArePlaced base found → moments ≡ heights_of base (negsuc 0) found → AllByRecursion (λ (moment : ℤ × ℕ). FitsSigned w64 moment.0) moments → AreMoments moments
are_moments base found moments p is fits =
    fit_all moments (subst (IsChain FitsBare RisesInTime) (sym is) (heights_rise base base 0 (negsuc 0) found (placed_near base found p) (low (negsuc 0))).0) fits
  where
    low : (a : ℤ) → a ≤ℤ a
    low a = grind (arith, ints)
