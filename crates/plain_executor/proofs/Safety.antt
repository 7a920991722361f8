-- What the safety rules give a step.
use Rattle.std.proofs.Common.{◌≡◌, refl, ap, ◌∙◌, sym, subst, ℕ, zero, suc, List, [], ◌∷◌, ◌++◌, take, Some}
use Rattle.std.specs.Prelude.{slice_get}
use mathlib.Core.List.{IsPrefix}
use Rattle.plain_log.specs.declared.state.Broker.{Broker}
use Rattle.plain_log.specs.declared.state.Path.{Path}
use Rattle.plain_log.specs.declared.state.State.{State}
use Rattle.plain_log.specs.Safe.{LogSafe, PlainSafe}
use Rattle.plain_executor.specs.Change.{AreMatching, MatchesPaths}

-- the batches before a place with the one that is there begin a list
front_is : (log : List (List ℕ)) (k : ℕ) (batch : List ℕ) → slice_get log k ≡ Some batch → IsPrefix (take k log ++ batch ∷ []) log
front_is [] k batch get = absurd cc
front_is (v ∷ log) zero batch get = (log, cc (get))
front_is (v ∷ log) (suc k) batch get = let r = front_is log k batch get in (r.0, ap (λ z. v ∷ z) r.1)

-- two lists that reach a place, each with the same list after it: they have the same items before it
fronts_same : (k : ℕ) (log other path : List (List ℕ)) (v w : List ℕ) → slice_get log k ≡ Some v → slice_get other k ≡ Some w
    → IsPrefix (take k log ++ v ∷ []) path → IsPrefix (take k other ++ w ∷ []) path → take k log ≡ take k other
fronts_same k [] other path v w a b p q = absurd cc
fronts_same k (x ∷ log) [] path v w a b p q = absurd cc
fronts_same zero (x ∷ log) (y ∷ other) path v w a b p q = refl
fronts_same (suc k) (x ∷ log) (y ∷ other) [] v w a b p q = absurd (cc (p.1))
fronts_same (suc k) (x ∷ log) (y ∷ other) (z ∷ path) v w a b p q =
    cc (p.1, q.1, fronts_same k log other path v w a b (p.0, cc (p.1)) (q.0, cc (q.1)))

-- two logs whose batches begin paths match
pub safe_match : (paths : List Path) (log other : List (List ℕ)) → LogSafe paths log → LogSafe paths other → AreMatching log other
safe_match paths log other h i = λ k batch a b.
    let p = h.matching (take k log) batch (front_is log k batch a) in
    let q = i.matching (take k other) batch (front_is other k batch b) in
    let one : Some p.0 ≡ Some q.0 = sym p.1 ∙ q.1 in
    let same : p.0 ≡ q.0 = cc (one) in
    fronts_same k log other q.0 batch batch a b (subst (λ (z : List (List ℕ)). IsPrefix (take k log ++ batch ∷ []) z) same p.2) q.2

-- the log of each broker matches each path
pub matches_paths : (p : State) (b : ℕ) (x : Broker) → PlainSafe p → slice_get p.brokers b ≡ Some x → MatchesPaths p x
matches_paths p b x safe at = λ e path is.
    safe_match p.paths x.log path (safe.brokers b x at).log (safe.paths e path is).log_safe
