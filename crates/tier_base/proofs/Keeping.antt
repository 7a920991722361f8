-- What holds of a device's faults holds after each call.
use Rattle.std.proofs.Common.{◌≡◌, ◌∙◌, refl, sym, ap, subst, ℕ, zero, suc, ◌+◌, Bool, true, false, cond, List, [], ◌∷◌, Option, Some, None, IsTrue, arith}
use Rattle.std.specs.Prelude.{◌==◌, ◌&&◌, is_some, ◌-◌, ◌^◌, min, if◌then◌else◌}
use Rattle.std.proofs.Math.ListN.{get_or}
use Rattle.std.proofs.lemmas.Bool.{eqb-true, eq-eqb}
use Rattle.tier_base.specs.declared.planned.Planned.{Planned}
use Rattle.tier_base.specs.declared.ending.Ending.{Ending}
use Rattle.tier_base.specs.declared.ending.Ending.TheVariants.{Done}
use Rattle.tier_base.specs.Counts.{counted}
use Rattle.tier_base.specs.Device.{Went, planned, met, made_after}
use Rattle.tier_base.specs.Faults.{Faults, AreFaultsSound, NumbersFit, count_of, faults_of, ending_at, ending_from, goes_well, has_none, shorter}
use Rattle.tier_base.proofs.MetCalls.{met_none, met_same, met_more}

truth : (b : Bool) → b ≡ true → IsTrue b
truth true e = refl
truth false e = absurd cc

apart_again : (m n : ℕ) → (m == n) ≡ false → (n == m) ≡ false
apart_again m n apart = by (n == m) refl
  where
    by : (t : Bool) → (n == m) ≡ t → t ≡ false
    by true e = (let same = eqb-true n m e in let t = eq-eqb m n (sym same) in cc)
    by false e = refl

-- one more of those that were named
one_more : (n : ℕ) → counted 0 (n + 1) ≡ counted (counted 0 n) 1
one_more n = go
  where
    go : min (0 + (n + 1)) (2 ^ 64 - 1) ≡ min (min (0 + n) (2 ^ 64 - 1) + 1) (2 ^ 64 - 1)
    go = omega arith

module _ {K : Type 0} (code : K → ℕ) where
  -- one that the plan names doesn't go well, and is one more of them
  by_plan : (o : Option Bool) (n : ℕ)
      → counted 0 (cond (is_some o) (n + 1) n) ≡ (if goes_well (ending_from o) then counted 0 n else counted (counted 0 n) 1)
  by_plan None n = refl
  by_plan (Some true) n = one_more n
  by_plan (Some false) n = one_more n

  module _ (f f' : Faults K) (call : K) (ending : Ending) (kept : AreFaultsSound code f) (ends : ending ≡ ending_at code f call) (plan : f'.plan ≡ f.plan)
      (scripted : f'.scripted ≡ f.scripted) (fuse : f'.fuse ≡ shorter f.fuse)
      (made : (kind : K) → count_of code f' kind ≡ made_after code call Went f.armed kind (count_of code f kind))
      (faults : f'.faults ≡ (if goes_well ending then f.faults else counted f.faults 1)) where
    same : (kind : K) → code kind ≡ code call → count_of code f kind ≡ count_of code f call
    same kind is = ap (λ (c : ℕ). get_or f.counts c 0) is

    -- armed, one more call of this kind was made
    more : f.armed ≡ true → (kind : K) → code kind ≡ code call → count_of code f' kind ≡ counted (count_of code f call) 1
    more on kind is = made kind ∙ rw (on, eq-eqb (code call) (code kind) (sym is)) (ap (λ (n : ℕ). counted n 1) (same kind is))

    other : f.armed ≡ true → (kind : K) → (code kind == code call) ≡ false → count_of code f' kind ≡ count_of code f kind
    other on kind apart = made kind ∙ rw (on, apart_again (code kind) (code call) apart) refl

    -- not armed, none was
    unmade : f.armed ≡ false → (kind : K) → count_of code f' kind ≡ count_of code f kind
    unmade off kind = made kind ∙ rw off refl

    named : (b : Bool) → f.armed ≡ b → f.fuse ≡ None → counted 0 (met code (count_of code f') f'.plan)
        ≡ (if goes_well ending then counted 0 (met code (count_of code f) f.plan) else counted (counted 0 (met code (count_of code f) f.plan)) 1)
    named true on none =
        let is : ending ≡ ending_from (planned code call (counted (count_of code f call) 1) f.plan) = ends ∙ rw (none, on) refl in
        rw (plan, is, met_more code call (count_of code f) (count_of code f') f.plan kept.numbers same (more on) (other on))
        (by_plan (planned code call (counted (count_of code f call) 1) f.plan) (met code (count_of code f) f.plan))
    named false off none =
        let is : ending ≡ Done = ends ∙ rw (none, off) refl in
        rw (plan, is, met_same code (count_of code f') (count_of code f) f.plan (unmade off)) refl

    pub faults_after : faults_of code f' ≡ (if goes_well ending then faults_of code f else counted (faults_of code f) 1)
    faults_after = by f.scripted refl
      where
        by : (b : Bool) → f.scripted ≡ b → (if f'.scripted then counted 0 (met code (count_of code f') f'.plan) else f'.faults)
            ≡ (if goes_well ending then (if b then counted 0 (met code (count_of code f) f.plan) else f.faults)
            else counted (if b then counted 0 (met code (count_of code f) f.plan) else f.faults) 1)
        by true e = rw (scripted ∙ e) (named f.armed refl (kept.alone (truth f.scripted e)))
        by false e = rw (scripted ∙ e) faults

    pub kept_after : AreFaultsSound code f'
    kept_after = record {
      numbers = subst NumbersFit (sym plan) kept.numbers;
      alone = λ is. fuse ∙ ap shorter (kept.alone (subst IsTrue scripted is));
      exact = faults ∙ ap (λ (n : ℕ). if goes_well ending then n else counted n 1) kept.exact ∙ sym faults_after;
    }

-- eight counts of no calls
abbrev pub no_counts : List ℕ
no_counts = 0 ∷ 0 ∷ 0 ∷ 0 ∷ 0 ∷ 0 ∷ 0 ∷ 0 ∷ []

pub zeros : (i : ℕ) → get_or no_counts i 0 ≡ 0
zeros i = go no_counts i (refl, (refl, (refl, (refl, (refl, (refl, (refl, (refl, tt))))))))
  where
    AllZero : List ℕ → Type 0
    AllZero [] = Unit {0}
    AllZero (n ∷ ns) = (n ≡ 0) × AllZero ns

    go : (ns : List ℕ) (i : ℕ) → AllZero ns → get_or ns i 0 ≡ 0
    go [] i all = refl
    go (n ∷ ns) zero all = all.0
    go (n ∷ ns) (suc i) all = go ns i all.1

module _ {K : Type 0} (code : K → ℕ) where
  -- at first no call was made
  pub kept_first : (plan : List (Planned K)) (counts : List ℕ) → NumbersFit plan → ((kind : K) → get_or counts (code kind) 0 ≡ 0)
      → AreFaultsSound code (record { plan = plan; armed = false; counts = counts; fuse = None; scripted = true; faults = 0 })
  kept_first plan counts fit none = record {
    numbers = fit;
    alone = λ is. refl;
    exact = rw (met_none code (λ (kind : K). get_or counts (code kind) 0) plan none) refl;
  }

  -- a fuse is set, or done away with: as many calls have failed
  pub fused : (f : Faults K) (fuse : Option ℕ) → f.faults ≡ faults_of code f
      → faults_of code (record f { fuse = fuse; scripted = f.scripted && has_none fuse }) ≡ faults_of code f
  fused f fuse exact = by f.scripted fuse refl
    where
      by : (b : Bool) (fuse : Option ℕ) → f.scripted ≡ b → (if b && has_none fuse then counted 0 (met code (count_of code f) f.plan) else f.faults) ≡ faults_of code f
      by true None e = rw e refl
      by true (Some n) e = exact
      by false fuse e = exact

  pub kept_fused : (f : Faults K) (fuse : Option ℕ) → AreFaultsSound code f → AreFaultsSound code (record f { fuse = fuse; scripted = f.scripted && has_none fuse })
  kept_fused f fuse kept = record {
    numbers = kept.numbers;
    alone = alone f.scripted fuse;
    exact = kept.exact ∙ sym (fused f fuse kept.exact);
  }
    where
      alone : (b : Bool) (fuse : Option ℕ) → IsTrue (b && has_none fuse) → fuse ≡ None
      alone true None is = refl
      alone true (Some n) is = absurd cc
      alone false fuse is = absurd cc
