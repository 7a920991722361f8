-- The least acknowledged end where one replica acknowledges more, one replica after another.
use Rattle.std.proofs.Common.{◌≡◌, refl, ap, sym, ◌∙◌, ℕ, zero, suc, ◌-◌, ◌<◌, ◌≤◌, ◌==◌, min, List, [], ◌∷◌, drop, length, get_or, Option, Some, arith, Bool}
use Rattle.std.specs.Prelude.{slice_get, slice_set, unwrap_or, option_map, if◌then◌else◌}
use Rattle.std.proofs.lemmas.Bool.Decides.{nat_tests}
use Rattle.std.proofs.Math.Seq.{drop-cons}
use Rattle.registry.specs.declared.registry.Replica.{Replica}
use Rattle.registry.specs.Replicas.{least_acked}

-- the least with one replica more
abbrev pub least_one : Bool → ℕ → Option ℕ → Option ℕ
least_one in_sync end least = if in_sync then Some (unwrap_or (option_map (min end) least) end) else least

get_same : (rs : List Replica) (k : ℕ) (d : Replica) → k < length rs → get_or rs k d ≡ get_or rs k (get_or rs k d)
get_same [] k d b = absurd (omega arith)
get_same (q ∷ rs) zero d b = refl
get_same (q ∷ rs) (suc k) d b = get_same rs k d (omega arith)

pub least_step : (rs : List Replica) (b at acked end : ℕ) (s r : Replica) → at < length rs → slice_get rs b ≡ Some s → r ≡ get_or rs at r
    → (at ≡ b → end ≡ acked) → ((at ≡ b → ⊥) → end ≡ r.acked)
    → least_acked (drop at (slice_set rs b (record s { acked = acked })))
    ≡ least_one r.in_sync end (least_acked (drop (suc at) (slice_set rs b (record s { acked = acked }))))
least_step [] b at acked end s r l get is same other = absurd (omega arith)
least_step (q ∷ rs) zero zero acked end s r l get is same other =
    let f : q ≡ s = cc in
    let e : s.in_sync ≡ r.in_sync = ap (λ (z : Replica). z.in_sync) (sym (is ∙ f)) in
    rw (e, same refl) refl
least_step (q ∷ rs) (suc b) zero acked end s r l get is same other = rw (other (λ e. absurd (omega arith))) (rw is refl)
least_step (q ∷ rs) zero (suc at) acked end s r l get is same other =
    rw (other (λ e. absurd (omega arith))) (rw (drop-cons rs at r (omega arith)) (rw (← is) refl))
least_step (q ∷ rs) (suc b) (suc at) acked end s r l get is same other =
    least_step rs b at acked end s r (omega arith) get is (λ e. same (ap suc e)) (λ n. other (λ e. n (omega arith)))

-- a step of a loop from the last replica on
pub least_more : (rs : List Replica) (b acked n end : ℕ) (s d : Replica) (least result : Option ℕ) → 0 < n → n ≤ length rs
    → slice_get rs b ≡ Some s → end ≡ (if (n - 1) == b then acked else (get_or rs (n - 1) d).acked)
    → result ≡ least_one (get_or rs (n - 1) d).in_sync end least
    → least ≡ least_acked (drop n (slice_set rs b (record s { acked = acked })))
    → result ≡ least_acked (drop (n - 1) (slice_set rs b (record s { acked = acked })))
least_more rs b acked n end s d least result low high get end_is is before =
    let e : suc (n - 1) ≡ n = omega arith in
    let r = get_or rs (n - 1) d in
    let step = least_step rs b (n - 1) acked end s r (omega arith) get (get_same rs (n - 1) d (omega arith))
    (λ (same : n - 1 ≡ b). grind (arith, nat_tests)) (λ (other : n - 1 ≡ b → ⊥). grind (arith, nat_tests)) in
    is ∙ (ap (λ (z : Option ℕ). least_one r.in_sync end z) (before ∙ rw e refl) ∙ sym step)
