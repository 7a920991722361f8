-- Ends of logs, and what two logs have in common.
use Rattle.std.proofs.Common.{◌≡◌, ap, subst, refl, ℕ, ◌<◌, ◌≤◌, min, List, [], ◌∷◌, ◌++◌, Bool, true, false, arith}
use Rattle.std.specs.Prelude.{nat_le, bytes_eq}
use Rattle.std.proofs.lemmas.Bool.Decides.{nat_tests}
use Rattle.std.proofs.lemmas.Slice.Eq.{bytes_eq-Decides}
use mathlib.Core.List.{IsPrefix}
use Rattle.log_terms.specs.Log.{up_to, EndsAt}
use Rattle.log_terms.proofs.Lists.{prefix_trans}
use Rattle.log_terms.proofs.Logs.{consecutive_prefix, up_to_prefix}
use Rattle.plain_log.specs.declared.state.Path.{Path}
use Rattle.plain_log.specs.Ends.{is_end, common}
use Rattle.plain_log.specs.Safe.{LogSafe}

-- where the test of an end holds, it is one
pub is_end_ends : (n : ℕ) (vs : List (List ℕ)) → is_end n vs ≡ true → EndsAt n vs
is_end_ends n vs e = (up_to n vs, up_to_prefix n vs, grind (arith, nat_tests, e))

-- the smaller of two ends is one
pub ends_min : (m n : ℕ) (vs : List (List ℕ)) → EndsAt m vs → EndsAt n vs → EndsAt (min m n) vs
ends_min m n vs h k = go (nat_le m n) refl
  where
    go : (t : Bool) → nat_le m n ≡ t → EndsAt (min m n) vs
    go true t = let le : m ≤ n = grind (arith, nat_tests, t) in (h.0, h.1, omega (arith, le, h.2))
    go false t = let le : n < m = grind (arith, nat_tests, t) in (k.0, k.1, omega (arith, le, k.2))

-- a beginning of a safe log is safe
pub log_prefix : (paths : List Path) (ws log : List (List ℕ)) → IsPrefix ws log → LogSafe paths log → LogSafe paths ws
log_prefix paths ws log p h = record {
  consecutive = consecutive_prefix 0 ws log p h.consecutive;
  matching = λ us v q. h.matching us v (prefix_trans (us ++ v ∷ []) ws log q p);
}

-- what two logs have in common begins the one
pub common_left : (vs ws : List (List ℕ)) → IsPrefix (common vs ws) vs
common_left [] ws = ([], refl)
common_left (v ∷ vs) [] = (v ∷ vs, refl)
common_left (v ∷ vs) (w ∷ ws) = go (bytes_eq v w) refl (common_left vs ws)
  where
    go : (t : Bool) → bytes_eq v w ≡ t → IsPrefix (common vs ws) vs → IsPrefix (common (v ∷ vs) (w ∷ ws)) (v ∷ vs)
    go true e r = rw e (r.0, ap (λ z. v ∷ z) r.1)
    go false e r = rw e (v ∷ vs, refl)

-- and the other
pub common_right : (vs ws : List (List ℕ)) → IsPrefix (common vs ws) ws
common_right [] ws = (ws, refl)
common_right (v ∷ vs) [] = ([], refl)
common_right (v ∷ vs) (w ∷ ws) = go (bytes_eq v w) refl (common_right vs ws)
  where
    go : (t : Bool) → bytes_eq v w ≡ t → IsPrefix (common vs ws) ws → IsPrefix (common (v ∷ vs) (w ∷ ws)) (w ∷ ws)
    go true e r = let is = (bytes_eq-Decides v w).0 e in rw e (r.0, cc (is, r.1))
    go false e r = rw e (w ∷ ws, refl)

-- what begins both begins it
pub common_all : (xs vs ws : List (List ℕ)) → IsPrefix xs vs → IsPrefix xs ws → IsPrefix xs (common vs ws)
common_all [] vs ws p q = (common vs ws, refl)
common_all (x ∷ xs) [] ws p q = absurd (cc (p.1))
common_all (x ∷ xs) (v ∷ vs) [] p q = absurd (cc (q.1))
common_all (x ∷ xs) (v ∷ vs) (w ∷ ws) p q =
    let a : v ≡ w = cc (p.1, q.1) in
    let e : bytes_eq v w ≡ true = subst (λ (z : List ℕ). bytes_eq v z ≡ true) a ((bytes_eq-Decides v v).1 refl) in
    let r = common_all xs vs ws (p.0, cc (p.1)) (q.0, cc (q.1)) in
    rw e (r.0, cc (p.1, r.1))
