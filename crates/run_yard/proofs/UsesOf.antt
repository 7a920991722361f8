-- Devices that went out of an environment and came back.
use Rattle.std.proofs.Common.{◌≡◌, ◌∙◌, sym, ap, refl, ℕ, List, [], ◌++◌, length, arith, append_assoc, append-nil}
use Rattle.device_yard.specs.declared.came.Came.{Came}
use Rattle.device_yard.specs.Control.{Control}
use Rattle.run_yard.specs.Yard.{HandedOut, CameBack, Uses, AllCameBack}
use Rattle.run_yard.proofs.Faults.{goes_on, still}

-- devices that went out are back
pub uses_all : (n : ℕ) (came : List Came) (a b c : Control) → length came ≡ n → HandedOut n a b → CameBack came b c → Uses came a c
uses_all n came a b c many out back = record {
  never_falls = (let begun = out.faults in let end = back.faults in let kept = still came b.faults in omega (arith, begun, end, kept));
  named = back.named ∙ out.named;
  returned = back.returned ∙ ap (λ (l : List Came). l ++ came) out.returned;
  out = (let o = out.out in let k = back.out in omega (arith, many, o, k));
}

-- one use after another
pub uses_then : (x y : List Came) (a b c : Control) → Uses x a b → Uses y b c → Uses (x ++ y) a c
uses_then x y a b c f g = record {
  never_falls = goes_on a.faults b.faults c.faults f.never_falls g.never_falls;
  named = g.named ∙ f.named;
  returned = g.returned ∙ (ap (λ (l : List Came). l ++ y) f.returned ∙ append_assoc a.returned x y);
  out = g.out ∙ f.out;
}

pub uses_none : (a : Control) → Uses [] a a
uses_none a = record { never_falls = omega arith; named = refl; returned = sym (append-nil a.returned); out = refl }

pub used_none : (a : Control) → AllCameBack a a
used_none a = record { came = []; uses = uses_none a }

-- where a further part wasn't run to its end, the devices that went out before are back too
pub used_then : (x : List Came) (a b c : Control) → Uses x a b → AllCameBack b c → AllCameBack a c
used_then x a b c f h = record { came = x ++ h.came; uses = uses_then x h.came a b c f h.uses }

pub used_both : (a b c : Control) → AllCameBack a b → AllCameBack b c → AllCameBack a c
used_both a b c f g = used_then f.came a b c f.uses g
