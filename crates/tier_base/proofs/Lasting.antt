-- Calls of a device one after the other.
use Rattle.std.proofs.Common.{ℕ, refl, ◌∙◌, ◌≡◌, Bool, false, ap, arith}
use Rattle.tier_base.specs.Device.{Fate, Went, Fault, Dry, Control, Ran, NoCalls, Lasts, made_after}

module _ {K : Type 0} (code : K → ℕ) where
  -- a call of a device that isn't armed isn't counted
  pub uncounted : (call : K) (fate : Fate) (kind : K) (n : ℕ) → made_after code call fate false kind n ≡ n
  uncounted call Went kind n = refl
  uncounted call Fault kind n = refl
  uncounted call Dry kind n = refl

module _ {K : Type 0} {code : K → ℕ} where
  -- one call
  pub ran_lasts : (call : K) (fate : Fate) (old new : Control code) → Ran call fate old new → Lasts old new
  ran_lasts call fate old new ran = record {
    plan = ran.plan;
    armed = ran.armed;
    scripted = ran.scripted;
    never_falls = ran.never_falls;
    stays_infallible = ran.stays_infallible;
    no_fault = λ infallible. (ran.infallible infallible).1;
    unmade = λ off kind. ran.made kind ∙ ap (λ (armed : Bool). made_after code call fate armed kind (old.made kind)) off
        ∙ uncounted code call fate kind (old.made kind);
  }

  -- no call
  pub lasts_same : (c : Control code) → Lasts c c
  lasts_same c = record {
    plan = refl;
    armed = refl;
    scripted = refl;
    never_falls = omega arith;
    stays_infallible = λ infallible. infallible;
    no_fault = λ infallible. refl;
    unmade = λ off kind. refl;
  }

  -- some calls, and then others
  pub lasts_then : (old mid new : Control code) → Lasts old mid → Lasts mid new → Lasts old new
  lasts_then old mid new first second = record {
    plan = second.plan ∙ first.plan;
    armed = second.armed ∙ first.armed;
    scripted = second.scripted ∙ first.scripted;
    never_falls = omega (arith, first.never_falls, second.never_falls);
    stays_infallible = λ infallible. second.stays_infallible (first.stays_infallible infallible);
    no_fault = λ infallible. second.no_fault (first.stays_infallible infallible) ∙ first.no_fault infallible;
    unmade = λ off kind. second.unmade (first.armed ∙ off) kind ∙ first.unmade off kind;
  }

  -- what is no call
  pub rests_lasts : (old new : Control code) → NoCalls old new → Lasts old new
  rests_lasts old new rests = record {
    plan = rests.plan;
    armed = rests.armed;
    scripted = rests.scripted;
    never_falls = omega (arith, rests.faults);
    stays_infallible = λ infallible. rests.infallible ∙ infallible;
    no_fault = λ infallible. rests.faults;
    unmade = λ off kind. rests.made kind;
  }
