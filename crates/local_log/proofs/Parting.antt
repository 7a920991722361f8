-- The segments of a log before and after a cut.
use Rattle.std.proofs.Common.{◌≡◌, ◌∙◌, ap, subst, refl, inl, inr, ℕ, suc, ◌+◌, ◌^◌, ◌≤◌, ◌<◌, Bool, true, false, cond, List, [], ◌∷◌, ◌++◌, length, drop, take, get_or, arith, lt-ltb, le-ltb, Some, None, length-append}
use Rattle.std.specs.Prelude.{nat_le}
use Rattle.std.specs.List.{slice_get}
use Rattle.std.proofs.lemmas.Bool.{cases_lt}
use Rattle.std.proofs.lemmas.Bool.Decides.{nat_tests}
use Rattle.std.proofs.lemmas.Option.{same_Some, slice_get_read}
use Rattle.segment_file.specs.declared.placed.Placed.{Placed}
use Rattle.segment_file.specs.Growing.{Grown, end_after, size_after, ending_by, AreBatchesLaid}
use Rattle.segment_file.proofs.Laying.{end_up}
use Rattle.segment_file.proofs.Searching.{ending_kept}
use Rattle.log_steps.specs.Fronts.{Each}
use Rattle.log_steps.proofs.Lists.{each_join, each_map, each_left, each_right}
use Rattle.local_log.specs.Stored.{size_of, end_of, AreChained}
use Rattle.local_log.specs.Listing.{IsLaidOut, AreSegmentsOf, front_to}
use Rattle.local_log.specs.Cutting.{closed_by, open_by, behind}
use Rattle.local_log.proofs.Listed.{bases_below, chained_last}

pub le_of : (a b : ℕ) → nat_le a b ≡ true → a ≤ b
le_of a b h = grind (arith, nat_tests, h)

pub lt_of : (a b : ℕ) → nat_le a b ≡ false → b < a
lt_of a b h = grind (arith, nat_tests, h)

-- all segments, parted by the cut
pub parted : (n : ℕ) (closed : List Grown) (active : Grown) → closed ++ active ∷ [] ≡ closed_by n closed ++ open_by n closed active ∷ behind n closed active
parted n [] active = refl
parted n (g ∷ gs) active = go (nat_le (end_of g) n) (parted n gs active)
  where
    go : (t : Bool) → gs ++ active ∷ [] ≡ closed_by n gs ++ open_by n gs active ∷ behind n gs active → g ∷ (gs ++ active ∷ []) ≡ cond t (g ∷ closed_by n gs) [] ++ cond t (open_by n gs active) g ∷ cond t (behind n gs active) (gs ++ active ∷ [])
    go true h = ap (λ (l : List Grown). g ∷ l) h
    go false h = refl

-- the closed ones are a front
pub closed_front : (n : ℕ) (closed : List Grown) → (rest : List Grown) × (closed ≡ closed_by n closed ++ rest)
closed_front n [] = ([], refl)
closed_front n (g ∷ gs) = go (nat_le (end_of g) n) (closed_front n gs)
  where
    go : (t : Bool) → (rest : List Grown) × (gs ≡ closed_by n gs ++ rest) → (rest : List Grown) × (g ∷ gs ≡ cond t (g ∷ closed_by n gs) [] ++ rest)
    go true h = (h.0, ap (λ (l : List Grown). g ∷ l) h.1)
    go false h = (g ∷ gs, refl)

pub each_closed : (P : Grown → Type 0) (n : ℕ) (closed : List Grown) → Each P closed → Each P (closed_by n closed)
each_closed P n closed h = let f = closed_front n closed in each_left P (closed_by n closed) f.0 (subst (Each P) f.1 h)

-- the closed ones end at or below the cut
pub closed_low : (n : ℕ) (closed : List Grown) → Each (λ g. end_of g ≤ n) (closed_by n closed)
closed_low n [] = tt
closed_low n (g ∷ gs) = go (nat_le (end_of g) n) refl (closed_low n gs)
  where
    go : (t : Bool) → nat_le (end_of g) n ≡ t → Each (λ (x : Grown). end_of x ≤ n) (closed_by n gs) → Each (λ (x : Grown). end_of x ≤ n) (cond t (g ∷ closed_by n gs) [])
    go true is h = (le_of (end_of g) n is, h)
    go false is h = tt

-- the open one begins at or below it
pub open_low : (first n : ℕ) (closed : List Grown) (active : Grown) → AreChained first (closed ++ active ∷ []) → first ≤ n → (open_by n closed active).base ≤ n
open_low first n [] active c le = omega (arith, c.0, le)
open_low first n (g ∷ gs) active c le = go (nat_le (end_of g) n) refl (λ up. open_low (end_of g) n gs active c.1 up)
  where
    go : (t : Bool) → nat_le (end_of g) n ≡ t → (end_of g ≤ n → (open_by n gs active).base ≤ n) → (cond t (open_by n gs active) g).base ≤ n
    go true is h = h (le_of (end_of g) n is)
    go false is h = omega (arith, c.0, le)

-- a chain's bases are at or past its beginning
pub chain_from : (first : ℕ) (gs : List Grown) → AreChained first gs → Each IsLaidOut gs → Each (λ g. first ≤ g.base) gs
chain_from first [] c laid = tt
chain_from first (g ∷ gs) c laid =
    let up = end_up g.base 0 g.batches laid.0.laid in
    (omega (arith, c.0), each_map (λ x le. omega (arith, le, up, c.0)) gs (chain_from (end_of g) gs c.1 laid.1))

-- those after begin past it
pub behind_high : (first n : ℕ) (closed : List Grown) (active : Grown) → AreChained first (closed ++ active ∷ []) → Each IsLaidOut (closed ++ active ∷ []) → Each (λ g. n < g.base) (behind n closed active)
behind_high first n [] active c laid = tt
behind_high first n (g ∷ gs) active c laid = go (nat_le (end_of g) n) refl (behind_high (end_of g) n gs active c.1 laid.1)
  where
    go : (t : Bool) → nat_le (end_of g) n ≡ t → Each (λ (x : Grown). n < x.base) (behind n gs active) → Each (λ (x : Grown). n < x.base) (cond t (behind n gs active) (gs ++ active ∷ []))
    go true is h = h
    go false is h = (let lt = lt_of (end_of g) n is in each_map (λ x le. omega (arith, le, lt)) (gs ++ active ∷ []) (chain_from (end_of g) (gs ++ active ∷ []) c.1 laid.1))

pub chained_left : (first : ℕ) (gs : List Grown) (g : Grown) (hs : List Grown) → AreChained first (gs ++ g ∷ hs) → AreChained first (gs ++ g ∷ [])
chained_left first [] g hs c = (c.0, tt)
chained_left first (x ∷ gs) g hs c = (c.0, chained_left (end_of x) gs g hs c.1)

-- where memory finds the open one
pub open_some : (n : ℕ) (closed : List Grown) (active s : Grown) → slice_get closed (length (closed_by n closed)) ≡ Some s → open_by n closed active ≡ s
open_some n [] active s e = absurd (cc)
open_some n (g ∷ gs) active s e = go (nat_le (end_of g) n) (λ there. open_some n gs active s there) e
  where
    go : (t : Bool) → (slice_get gs (length (closed_by n gs)) ≡ Some s → open_by n gs active ≡ s) → slice_get (g ∷ gs) (length (cond t (g ∷ closed_by n gs) [])) ≡ Some s → cond t (open_by n gs active) g ≡ s
    go true h e = h e
    go false h e = same_Some g s e

pub open_none : (n : ℕ) (closed : List Grown) (active : Grown) → slice_get closed (length (closed_by n closed)) ≡ None → open_by n closed active ≡ active
open_none n [] active e = refl
open_none n (g ∷ gs) active e = go (nat_le (end_of g) n) (λ there. open_none n gs active there) e
  where
    go : (t : Bool) → (slice_get gs (length (closed_by n gs)) ≡ None → open_by n gs active ≡ active) → slice_get (g ∷ gs) (length (cond t (g ∷ closed_by n gs) [])) ≡ None → cond t (open_by n gs active) g ≡ active
    go true h e = h e
    go false h e = absurd (cc)

pub open_at : (n : ℕ) (closed : List Grown) (active s : Grown) → length (closed_by n closed) < length closed → s ≡ get_or closed (length (closed_by n closed)) s → open_by n closed active ≡ s
open_at n closed active s lt is = open_some n closed active s (slice_get_read closed (length closed) (length (closed_by n closed)) s refl lt is)

pub closed_take : (n : ℕ) (closed : List Grown) → take (length (closed_by n closed)) closed ≡ closed_by n closed
closed_take n [] = refl
closed_take n (g ∷ gs) = go (nat_le (end_of g) n) (closed_take n gs)
  where
    go : (t : Bool) → take (length (closed_by n gs)) gs ≡ closed_by n gs → take (length (cond t (g ∷ closed_by n gs) [])) (g ∷ gs) ≡ cond t (g ∷ closed_by n gs) []
    go true h = ap (λ (l : List Grown). g ∷ l) h
    go false h = refl

-- lists that end alike
pub snoc_same : {X : Type 0} (xs ys : List X) (x y : X) → xs ++ x ∷ [] ≡ ys ++ y ∷ [] → (xs ≡ ys) × (x ≡ y)
snoc_same {X = X} [] [] x y e = (refl, cc)
snoc_same {X = X} [] (z ∷ []) x y e = absurd (cc)
snoc_same {X = X} [] (z ∷ w ∷ ys) x y e = absurd (cc)
snoc_same {X = X} (z ∷ []) [] x y e = absurd (cc)
snoc_same {X = X} (z ∷ w ∷ xs) [] x y e = absurd (cc)
snoc_same {X = X} (z ∷ xs) (w ∷ ys) x y e = let h = snoc_same xs ys x y (cc) in let f : z ≡ w = cc in (ap (λ (a : X). a ∷ xs) f ∙ ap (λ (l : List X). w ∷ l) h.0, h.1)

-- where all are closed
pub all_closed : (n : ℕ) (closed : List Grown) (active : Grown) → length closed ≤ length (closed_by n closed) → (closed_by n closed ≡ closed) × (open_by n closed active ≡ active) × (behind n closed active ≡ [])
all_closed n [] active le = (refl, refl, refl)
all_closed n (g ∷ gs) active le = go (nat_le (end_of g) n) (λ less. all_closed n gs active less) le
  where
    go : (t : Bool) → (length gs ≤ length (closed_by n gs) → (closed_by n gs ≡ gs) × (open_by n gs active ≡ active) × (behind n gs active ≡ [])) → length (g ∷ gs) ≤ length (cond t (g ∷ closed_by n gs) []) → (cond t (g ∷ closed_by n gs) [] ≡ g ∷ gs) × (cond t (open_by n gs active) g ≡ active) × (cond t (behind n gs active) (gs ++ active ∷ []) ≡ [])
    go true all le = (let h = all (omega (arith, le)) in (ap (λ (l : List Grown). g ∷ l) h.0, h.1, h.2))
    go false all le = absurd (omega (arith, le))

-- where one is opened again
pub some_behind : (n : ℕ) (closed : List Grown) (active : Grown) → length (closed_by n closed) < length closed
    → (take (length (closed_by n closed) + 1) closed ≡ closed_by n closed ++ open_by n closed active ∷ []) × (behind n closed active ≡ drop (length (closed_by n closed) + 1) closed ++ active ∷ [])
some_behind n [] active lt = absurd (omega (arith, lt))
some_behind n (g ∷ gs) active lt = go (nat_le (end_of g) n) (λ less. some_behind n gs active less) lt
  where
    go : (t : Bool)
        → (length (closed_by n gs) < length gs → (take (length (closed_by n gs) + 1) gs ≡ closed_by n gs ++ open_by n gs active ∷ []) × (behind n gs active ≡ drop (length (closed_by n gs) + 1) gs ++ active ∷ []))
        → length (cond t (g ∷ closed_by n gs) []) < length (g ∷ gs)
        → (take (length (cond t (g ∷ closed_by n gs) []) + 1) (g ∷ gs) ≡ cond t (g ∷ closed_by n gs) [] ++ cond t (open_by n gs active) g ∷ [])
        × (cond t (behind n gs active) (gs ++ active ∷ []) ≡ drop (length (cond t (g ∷ closed_by n gs) []) + 1) (g ∷ gs) ++ active ∷ [])
    go true some lt =
        let h = some (omega (arith, lt)) in
        let e : suc (length (closed_by n gs)) + 1 ≡ suc (length (closed_by n gs) + 1) = omega arith in
        rw e (ap (λ (l : List Grown). g ∷ l) h.0, h.1)
    go false some lt = (refl, refl)

-- one cut after a longer one
pub ending_ending : (m n : ℕ) (bs : List Placed) → m ≤ n → ending_by m (ending_by n bs) ≡ ending_by m bs
ending_ending m n [] le = refl
ending_ending m n (x ∷ bs) le = elim (cases_lt x.last n) [
  | inl lt ↦ elim (cases_lt x.last m) [
    | inl lt2 ↦ rw (lt-ltb x.last n lt, lt-ltb x.last m lt2) (ap (λ (l : List Placed). x ∷ l) (ending_ending m n bs le))
    | inr ge2 ↦ rw (lt-ltb x.last n lt, le-ltb x.last m ge2) refl
  ]
  | inr ge ↦ rw (le-ltb x.last n ge, le-ltb x.last m (omega (arith, ge, le))) refl
]

pub front_less : (m n : ℕ) (g : Grown) → AreBatchesLaid g.base 0 g.batches → m ≤ n → size_of (front_to m g) ≤ size_of (front_to n g)
front_less m n g laid le =
    let k = ending_kept g.base n g.batches laid in
    let h = ending_kept g.base m (ending_by n g.batches) k.laid in
    let e = ap (λ (l : List Placed). size_after 0 l) (ending_ending m n g.batches le) in
    omega (arith, h.size, e)

-- the end of a front is at or below the cut, if the segment begins there
pub front_end : (base at n : ℕ) (bs : List Placed) → base ≤ n → end_after base (ending_by n bs) ≤ n
front_end base at n [] le = le
front_end base at n (x ∷ bs) le = elim (cases_lt x.last n) [
  | inl lt ↦ rw (lt-ltb x.last n lt) (front_end (x.last + 1) x.to n bs (omega (arith, lt)))
  | inr ge ↦ rw (le-ltb x.last n ge) le
]

module _ (local_start n : ℕ) (closed : List Grown) (active : Grown) (are : AreSegmentsOf local_start closed active) (from : local_start ≤ n) where
  abbrev pub front : List Grown
  front = closed_by n closed

  abbrev pub last : Grown
  last = open_by n closed active

  abbrev pub later : List Grown
  later = behind n closed active

  pub parts : closed ++ active ∷ [] ≡ front ++ last ∷ later
  parts = parted n closed active

  pub all_laid : Each IsLaidOut (closed ++ active ∷ [])
  all_laid = each_join IsLaidOut closed (active ∷ []) are.laid (are.active_laid, tt)

  pub parts_laid : Each IsLaidOut (front ++ last ∷ later)
  parts_laid = subst (Each IsLaidOut) parts all_laid

  pub last_laid : IsLaidOut last
  last_laid = (each_right IsLaidOut front (last ∷ later) parts_laid).0

  pub front_laid : Each IsLaidOut front
  front_laid = each_left IsLaidOut front (last ∷ later) parts_laid

  pub last_low : last.base ≤ n
  last_low = open_low local_start n closed active are.chained from

  pub later_high : Each (λ g. n < g.base) later
  later_high = behind_high local_start n closed active are.chained all_laid

  pub cut_chained : AreChained local_start (front ++ front_to n last ∷ [])
  cut_chained = chained_last local_start front last (front_to n last) refl (chained_left local_start front last later (subst (AreChained local_start) parts are.chained))

  pub front_some : Each (λ g. 0 < size_of g) front
  front_some = each_closed (λ g. 0 < size_of g) n closed are.some

  pub front_below : Each (λ g. g.base < last.base) front
  front_below = bases_below local_start front (front_to n last) cut_chained front_laid front_some

  pub cut_are : end_of (front_to n last) ≤ 2 ^ 62 → AreSegmentsOf local_start front (front_to n last)
  cut_are low =
      let k = ending_kept last.base n last.batches last_laid.laid in
      let f = closed_front n closed in
      record {
        chained = cut_chained;
        laid = front_laid;
        some = front_some;
        active_laid = record { laid = k.laid; near = (let e = k.end in let m = last_laid.near in omega (arith, e, m)); small = (let e = k.size in let m = last_laid.small in omega (arith, e, m)) };
        low = low;
        few = omega (arith, ap length f.1, length-append front f.0, are.few);
      }
