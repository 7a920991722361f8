-- The manifest of a whole log keeps the rules.
use Rattle.std.proofs.Common.{◌≡◌, ℕ, ◌+◌, ◌^◌, ◌≤◌, ◌<◌, List, [], ◌∷◌, ◌++◌, length, map, sym, ◌∙◌, arith, length-append}
use Rattle.std.proofs.lemmas.List.{length-map}
use Rattle.epoch_line.specs.Line.{IsLine}
use Rattle.log_manifest.specs.Rules.{BeginsAt, AreSegments, IsManifest}
use Rattle.segment_file.specs.declared.placed.Placed.{Placed}
use Rattle.segment_file.specs.Growing.{Grown, end_after, size_after, AreBatchesLaid}
use Rattle.segment_file.proofs.Laying.{end_up}
use Rattle.log_steps.specs.Fronts.{Each}
use Rattle.log_steps.proofs.Lists.{each_join}
use Rattle.local_log.proofs.Pieces.{chained_snoc, chain_snoc}
use Rattle.local_log.specs.Stored.{size_of, end_of, extent_of, AreChained, chain_end}
use Rattle.local_log.specs.Listing.{IsLaidOut, AreSegmentsOf, manifest_of}

-- a segment that holds a batch ends past its base
pub base_below : (base : ℕ) (batches : List Placed) → AreBatchesLaid base 0 batches → 0 < size_after 0 batches → base < end_after base batches
base_below base [] laid some = absurd (omega (arith, some))
base_below base (b ∷ bs) laid some = let up = end_up (b.last + 1) b.to bs laid.2 in omega (arith, up, laid.0)

begins : (n : ℕ) (closed : List Grown) (active : Grown) → AreChained n (closed ++ active ∷ []) → BeginsAt n (map extent_of (closed ++ active ∷ []))
begins n [] active c = c.0
begins n (g ∷ gs) active c = c.0

are_segments : (n : ℕ) (closed : List Grown) (active : Grown) → AreChained n (closed ++ active ∷ []) → Each IsLaidOut closed → Each (λ g. 0 < size_of g) closed → IsLaidOut active → end_of active ≤ 2 ^ 62
    → AreSegments (map extent_of (closed ++ active ∷ []))
are_segments n [] active c laid some last low =
    let up = end_up active.base 0 active.batches last.laid in
    (omega (arith, up, low), last.small)
are_segments n (g ∷ []) active c laid some last low =
    let below = base_below g.base g.batches laid.0.laid some.0 in
    let next : active.base ≡ end_of g = c.1.0 in
    (omega (arith, below, next), some.0, laid.0.small, are_segments (end_of g) [] active c.1 tt tt last low)
are_segments n (g ∷ h ∷ gs) active c laid some last low =
    let below = base_below g.base g.batches laid.0.laid some.0 in
    let next : h.base ≡ end_of g = c.1.0 in
    (omega (arith, below, next), some.0, laid.0.small, are_segments (end_of g) (h ∷ gs) active c.1 laid.1 some.1 last low)

pub rules_of : (incarnation local_start : ℕ) (closed : List Grown) (active : Grown) (line : List (ℕ × ℕ)) → 1 ≤ incarnation → AreSegmentsOf local_start closed active → IsLine line
    → IsManifest (manifest_of incarnation local_start closed active line)
rules_of incarnation local_start closed active line one are is = record {
  opened = one;
  begins = begins local_start closed active are.chained;
  segments = are_segments local_start closed active are.chained are.laid are.some are.active_laid are.low;
  few = omega (arith, length-map (closed ++ active ∷ []) extent_of, length-append closed (active ∷ []), are.few);
  line = is;
}

-- the chain goes up
pub chain_le : (n : ℕ) (gs : List Grown) → AreChained n gs → Each IsLaidOut gs → n ≤ chain_end n gs
chain_le n [] c laid = omega arith
chain_le n (g ∷ gs) c laid =
    let up = end_up g.base 0 g.batches laid.0.laid in
    let rest = chain_le (end_of g) gs c.1 laid.1 in
    omega (arith, up, rest, c.0)

pub chain_up : (n : ℕ) (gs : List Grown) → AreChained n gs → Each IsLaidOut gs → Each (λ g. end_of g ≤ chain_end n gs) gs
chain_up n [] c laid = tt
chain_up n (g ∷ gs) c laid = (chain_le (end_of g) gs c.1 laid.1, chain_up (end_of g) gs c.1 laid.1)

-- after a roll
pub are_rolled : (local_start interval : ℕ) (closed : List Grown) (active : Grown) → AreSegmentsOf local_start closed active → 0 < size_of active → length closed + 1 < 4096
    → AreSegmentsOf local_start (closed ++ active ∷ []) (record { base = end_of active; interval = interval; batches = [] })
are_rolled local_start interval closed active are some few = record {
  chained = chained_snoc local_start (closed ++ active ∷ []) (record { base = end_of active; interval = interval; batches = [] }) are.chained (sym (chain_snoc local_start closed active));
  laid = each_join IsLaidOut closed (active ∷ []) are.laid (are.active_laid, tt);
  some = each_join (λ g. 0 < size_of g) closed (active ∷ []) are.some (some, tt);
  active_laid = record { laid = tt; near = omega arith; small = omega arith };
  low = are.low;
  few = omega (arith, length-append closed (active ∷ []), few);
}

chain_to : (n : ℕ) (gs : List Grown) (a : Grown) → AreChained n (gs ++ a ∷ []) → Each IsLaidOut gs → n ≤ a.base
chain_to n [] a c laid = omega (arith, c.0)
chain_to n (g ∷ gs) a c laid =
    let up = end_up g.base 0 g.batches laid.0.laid in
    let rest = chain_to (end_of g) gs a c.1 laid.1 in
    omega (arith, up, rest, c.0)

-- each closed segment begins below the open one
pub bases_below : (n : ℕ) (gs : List Grown) (a : Grown) → AreChained n (gs ++ a ∷ []) → Each IsLaidOut gs → Each (λ g. 0 < size_of g) gs → Each (λ g. g.base < a.base) gs
bases_below n [] a c laid some = tt
bases_below n (g ∷ gs) a c laid some =
    let below = base_below g.base g.batches laid.0.laid some.0 in
    let rest = chain_to (end_of g) gs a c.1 laid.1 in
    (omega (arith, below, rest), bases_below (end_of g) gs a c.1 laid.1 some.1)

-- another open segment at the same base
pub chained_last : (n : ℕ) (gs : List Grown) (a b : Grown) → b.base ≡ a.base → AreChained n (gs ++ a ∷ []) → AreChained n (gs ++ b ∷ [])
chained_last n [] a b is c = (is ∙ c.0, tt)
chained_last n (g ∷ gs) a b is c = (c.0, chained_last (end_of g) gs a b is c.1)
