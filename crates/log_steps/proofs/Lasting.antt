-- Runs of calls, one after another.
use Rattle.std.proofs.Common.{◌≡◌, ◌∙◌, ap, sym, subst, ℕ, IsTrue, Result, Ok, Err, IsErr, arith}
use Rattle.std.proofs.Math.Nat.{le_trans}
use Rattle.tier_base.specs.Counts.{counted}
use Rattle.tier_base.specs.declared.fault.Failed.{Failed}
use Rattle.tier_base.specs.Device.{Control, Fate, Fault, failing, Lasts, NoCalls}
use Rattle.disk_model.specs.Call.{call_code}
use Rattle.log_steps.specs.Runs.{Runs}

pub lasts_then : (a b c : Control call_code) → Lasts a b → Lasts b c → Lasts a c
lasts_then a b c h k = record {
  plan = k.plan ∙ h.plan;
  armed = k.armed ∙ h.armed;
  scripted = k.scripted ∙ h.scripted;
  never_falls = le_trans h.never_falls k.never_falls;
  stays_infallible = λ t. k.stays_infallible (h.stays_infallible t);
  no_fault = λ t. k.no_fault (h.stays_infallible t) ∙ h.no_fault t;
  unmade = λ off kind. k.unmade (h.armed ∙ off) kind ∙ h.unmade off kind;
}

pub runs_then : (fate : Fate) (a b c : Control call_code) → Lasts a b → b.faults ≡ a.faults → Runs fate b c → Runs fate a c
runs_then fate a b c h same k = record {
  lasts = lasts_then a b c h k.lasts;
  quiet = λ not. k.quiet not ∙ same;
  once = λ is. k.once is ∙ ap (λ (n : ℕ). counted n 1) same;
  cause = λ is. (let r = k.cause is in let l = h.never_falls in grind (arith, r, l));
}

pub rests_last : (a b : Control call_code) → NoCalls a b → Lasts a b
rests_last a b r = record {
  plan = r.plan;
  armed = r.armed;
  scripted = r.scripted;
  never_falls = omega (arith, r.faults);
  stays_infallible = λ t. subst IsTrue (sym r.infallible) t;
  no_fault = λ t. r.faults;
  unmade = λ off kind. r.made kind;
}

-- a call that failed ends a run
pub runs_fault : {T : Type 0} (r : Result T Failed) (a b c : Control call_code) → IsErr r → Lasts a b → b.faults ≡ a.faults → Runs Fault b c → Runs (failing r) a c
runs_fault (Ok x) a b c err h same k = absurd cc
runs_fault (Err e) a b c err h same k = runs_then Fault a b c h same k

-- a run that went well, and one that ended with a fault
pub went_on : {T : Type 0} (r : Result T Failed) (x : T) (a b : Control call_code) → r ≡ Ok x → Runs (failing r) a b → b.faults ≡ a.faults
went_on r x a b is k = k.quiet (λ fault. cc (ap failing is, fault))

pub failed_so : {T : Type 0} (r : Result T Failed) (e : Failed) (a b : Control call_code) → r ≡ Err e → Runs (failing r) a b → Runs Fault a b
failed_so r e a b is k = subst (λ (f : Fate). Runs f a b) (ap failing is) k
