use Rattle.std.proofs.Common.{ℕ, refl, sym, ap, subst, List, None}
use Rattle.std.proofs.Math.ListN.{get_or}
use Rattle.tier_base.specs.Counts.{counted}
use Rattle.tier_base.specs.Faults.{NumbersFit}
use Rattle.tier_base.specs.Nexts.{IsNextFault}
use Rattle.tier_base.specs.declared.planned.Planned.{Planned}
use Rattle.tier_base.proofs.Keeping.{kept_first, no_counts, zeros}
use Rattle.tier_base.proofs.MetCalls.{met_none}
use Rattle.tier_base.proofs.fault_plan.FaultPlan.new.Goals as goal

pub invariant_of-result : goal.invariant_of-result
invariant_of-result g c = (
  λ kind. subst (λ (made : ℕ). IsNextFault g.K.CallKind.code kind made c.args.plan.items (get_or c.all_nexts-nexts.result kind None)) (sym (zeros kind))
      (subst (λ (plan : List (Planned g.row.K.Denot)). IsNextFault g.K.CallKind.code kind 0 plan (get_or c.all_nexts-nexts.result kind None)) c.as_slice-2.ensures.value (c.all_nexts-nexts.ensures kind)),
  kept_first g.K.CallKind.code c.args.plan.items no_counts (subst (λ (plan : List (Planned g.row.K.Denot)). NumbersFit plan) c.as_slice.ensures.value c.fit.ensures)
      (λ kind. zeros (g.K.CallKind.code kind)),
)

pub returns-clause-fresh : goal.returns-clause-fresh
returns-clause-fresh g c = record {
  faults = ap (λ (n : ℕ). counted 0 n) (met_none g.K.CallKind.code (λ (kind : g.row.K.Denot). get_or no_counts (g.K.CallKind.code kind) 0) c.args.plan.items (λ kind. zeros (g.K.CallKind.code kind)));
  armed = refl;
  made = λ kind. zeros (g.K.CallKind.code kind);
  last_read = refl;
}
