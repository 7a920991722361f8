-- The least acknowledged end of the in-sync replicas.
use Rattle.std.proofs.Common.{◌≡◌, ◌≢◌, subst, ℕ, zero, suc, ◌≤◌, ◌<◌, min, List, [], ◌∷◌, Some, None, Option, slice_get, Bool, true, false, refl, ap, ◌∙◌, arith}
use Rattle.std.specs.Prelude.{nat_le, option_map, unwrap_or}
use Rattle.std.proofs.lemmas.Bool.Decides.{nat_tests}
use Rattle.registry.specs.declared.registry.Replica.{Replica}
use Rattle.registry.specs.Replicas.{least_acked}

-- the least acknowledged end is at most each one's in sync
pub least_le : (ss : List Replica) (c : ℕ) (r : Replica) → slice_get ss c ≡ Some r → r.in_sync ≡ true → unwrap_or (least_acked ss) 0 ≤ r.acked
least_le [] c r e i = absurd cc
least_le (s ∷ ss) c r e i = go s.in_sync refl c e (λ d f. least_le ss d r f i)
  where
    here : (o : Option ℕ) → unwrap_or (option_map (min s.acked) o) s.acked ≤ s.acked
    here None = omega arith
    here (Some m) = omega arith

    there : (o : Option ℕ) (k : ℕ) → unwrap_or o 0 ≤ k → ((o ≡ None) → s.acked ≤ k) → unwrap_or (option_map (min s.acked) o) s.acked ≤ k
    there None k le f = f refl
    there (Some m) k le f = omega (arith, le)

    some_least : (ts : List Replica) (d : ℕ) → slice_get ts d ≡ Some r → least_acked ts ≢ None
    some_least [] d f = absurd cc
    some_least (t ∷ ts) zero f = λ n. let same : t ≡ r = cc (f) in let j : t.in_sync ≡ true = ap (λ (k : Replica). k.in_sync) same ∙ i in absurd (cc ((rw j at n)))
    some_least (t ∷ ts) (suc d) f = some_more t ts t.in_sync refl (some_least ts d f)
      where
        some_more : (t : Replica) (ts : List Replica) (k : Bool) → t.in_sync ≡ k → least_acked ts ≢ None → least_acked (t ∷ ts) ≢ None
        some_more t ts true j h = λ n. absurd (cc ((rw j at n)))
        some_more t ts false j h = λ n. h (rw j at n)

    go : (k : Bool) → s.in_sync ≡ k → (c : ℕ) → slice_get (s ∷ ss) c ≡ Some r → ((d : ℕ) → slice_get ss d ≡ Some r → unwrap_or (least_acked ss) 0 ≤ r.acked) → unwrap_or (least_acked (s ∷ ss)) 0 ≤ r.acked
    go true j zero f rec = let same : s ≡ r = cc (f) in rw j (subst (λ (k : Replica). unwrap_or (option_map (min s.acked) (least_acked ss)) s.acked ≤ k.acked) same (here (least_acked ss)))
    go true j (suc d) f rec = rw j (there (least_acked ss) r.acked (rec d f) (λ n. absurd (some_least ss d f n)))
    go false j zero f rec = let same : s ≡ r = cc (f) in let k : s.in_sync ≡ true = ap (λ (z : Replica). z.in_sync) same ∙ i in absurd (cc (j, k))
    go false j (suc d) f rec = rw j (rec d f)

-- what holds of 0 and of each acknowledged end holds of the least
pub least_has : (P : ℕ → Type 0) (ss : List Replica) → P 0 → ((c : ℕ) (r : Replica) → slice_get ss c ≡ Some r → P r.acked) → P (unwrap_or (least_acked ss) 0)
least_has P [] z h = z
least_has P (s ∷ ss) z h = go s.in_sync refl (least_acked ss) refl (least_has P ss z (λ c r e. h (suc c) r e))
  where
    smaller : (m n : ℕ) → P m → P n → P (min m n)
    smaller m n a b = pick (nat_le m n) refl
      where
        pick : (t : Bool) → nat_le m n ≡ t → P (min m n)
        pick true t = let le : m ≤ n = grind (arith, nat_tests, t) in let is : m ≡ min m n = omega (arith, le) in subst P is a
        pick false t = let le : n < m = grind (arith, nat_tests, t) in let is : n ≡ min m n = omega (arith, le) in subst P is b

    go : (k : Bool) → s.in_sync ≡ k → (o : Option ℕ) → least_acked ss ≡ o → P (unwrap_or (least_acked ss) 0) → P (unwrap_or (least_acked (s ∷ ss)) 0)
    go false j o is rest = rw j rest
    go true j None is rest = rw (j, is) (h zero s refl)
    go true j (Some m) is rest = rw (j, is) (smaller s.acked m (h zero s refl) (rw is at rest))
