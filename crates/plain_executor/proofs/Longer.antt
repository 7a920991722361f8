-- The first path of an epoch, and what a batch more does to it.
use Rattle.std.proofs.Common.{◌≡◌, refl, ap, sym, subst, ◌∙◌, ℕ, zero, suc, ◌<◌, ◌++◌, List, [], ◌∷◌, length, get_or, Option, Some, Bool, true, false, arith, ◌==◌}
use Rattle.std.specs.Prelude.{slice_get, slice_set, IfSome}
use Rattle.std.proofs.lemmas.Bool.Decides.{nat_tests}
use Rattle.plain_log.specs.declared.state.Path.{Path}
use Rattle.plain_log.specs.State.{longer}
use Rattle.plain_executor.specs.Change.{NoneBefore, IsPathAt}

-- a path that was read at a place
pub found_at : (paths : List Path) (at e : ℕ) (r : Path) → at < length paths → r ≡ get_or paths at r → r.epoch ≡ e
    → IfSome (slice_get paths at) (λ path. path.epoch ≡ e)
found_at [] at e r l is same = absurd (omega arith)
found_at (p ∷ paths) zero e r l is same = subst (λ (z : Path). z.epoch ≡ e) is same
found_at (p ∷ paths) (suc at) e r l is same = found_at paths at e r (omega arith) is same

-- no path of the epoch: nothing becomes longer
pub longer_none : (paths : List Path) (e : ℕ) (batch : List ℕ) → NoneBefore paths e (length paths) → longer paths e batch ≡ paths
longer_none [] e batch h = refl
longer_none (p ∷ paths) e batch h = go (p.epoch == e) refl (longer_none paths e batch (λ k path b get. h (suc k) path (omega arith) get))
  where
    go : (t : Bool) → (p.epoch == e) ≡ t → longer paths e batch ≡ paths → longer (p ∷ paths) e batch ≡ p ∷ paths
    go true t r = absurd (h 0 p (omega arith) refl (grind (arith, nat_tests, t)))
    go false t r = rw t (ap (λ z. p ∷ z) r)

-- the first path of the epoch becomes longer
pub longer_at : (paths : List Path) (e : ℕ) (batch : List ℕ) (at : ℕ) (path : Path) → NoneBefore paths e at → slice_get paths at ≡ Some path
    → path.epoch ≡ e → longer paths e batch ≡ slice_set paths at (record path { log = path.log ++ batch ∷ [] })
longer_at [] e batch zero path h get same = absurd cc
longer_at [] e batch (suc at) path h get same = absurd cc
longer_at (p ∷ paths) e batch zero path h get same =
    let is : p ≡ path = cc in
    let t : (p.epoch == e) ≡ true = let f : p.epoch ≡ e = ap (λ (z : Path). z.epoch) is ∙ same in grind (arith, nat_tests, f) in
    rw t (ap (λ (z : Path). record z { log = z.log ++ batch ∷ [] } ∷ paths) is)
longer_at (p ∷ paths) e batch (suc at) path h get same =
    go (p.epoch == e) refl (longer_at paths e batch at path (λ k q b g. h (suc k) q (omega arith) g) get same)
  where
    go : (t : Bool) → (p.epoch == e) ≡ t → longer paths e batch ≡ slice_set paths at (record path { log = path.log ++ batch ∷ [] })
        → longer (p ∷ paths) e batch ≡ p ∷ slice_set paths at (record path { log = path.log ++ batch ∷ [] })
    go true t r = absurd (h 0 p (omega arith) refl (grind (arith, nat_tests, t)))
    go false t r = rw t (ap (λ z. p ∷ z) r)

-- what a search for the path found, and the path with a batch more
pub longer_found : (paths : List Path) (e : ℕ) (batch : List ℕ) (at : ℕ) (path : Path) (log : List (List ℕ)) → IsPathAt paths e (Some at)
    → slice_get paths at ≡ Some path → log ≡ path.log ++ batch ∷ [] → slice_set paths at (record { epoch = path.epoch; log = log }) ≡ longer paths e batch
longer_found paths e batch at path log h get is =
    let same = subst (λ (o : Option Path). IfSome o (λ path. path.epoch ≡ e)) get h.2 in
    rw is (sym (longer_at paths e batch at path h.0 get same))
