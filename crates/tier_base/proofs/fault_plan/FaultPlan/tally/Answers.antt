use Rattle.std.proofs.Common.{ℕ, ◌≤◌, ◌≡◌, ◌∙◌, ap, subst}
use Rattle.std.proofs.Math.ListN.{get_or}
use Rattle.std.specs.Prelude.{if◌then◌else◌, ◌&&◌, ◌==◌, List}
use Rattle.tier_base.specs.Counts.{counted}
use Rattle.tier_base.specs.declared.planned.Planned.{Planned}
use Rattle.tier_base.specs.Device.{Went, made_after}
use Rattle.tier_base.specs.Faults.{Faults, AreFaultsSound, count_of, faults_of, shorter, goes_well}
use Rattle.tier_base.specs.Nexts.{AreNext}
use Rattle.tier_base.proofs.Keeping.{kept_after, faults_after}
use Rattle.tier_base.proofs.fault_plan.FaultPlan.tally.Goals as goal

pub invariant_of-self : goal.invariant_of-self
invariant_of-self g c =
    let K : Type 0 = g.row.K.Denot in
    let code : K → ℕ = g.K.CallKind.code in
    let old : Faults K = c.args.self.now in
    let new : Faults K = record {
      plan = c.self.inside.plan.items;
      armed = c.self.inside.armed;
      counts = c.count_if.new.counts;
      fuse = c.burnt-self-inside.result;
      scripted = c.self.inside.scripted;
      faults = c.missed-self-inside.result;
    } in
    let kept : AreFaultsSound code old = subst (λ (f : Faults K). AreFaultsSound code f) c.self.view_is c.self.invariant.1 in
    let made : (kind : K) → count_of code new kind ≡ made_after code c.args.call Went old.armed kind (count_of code old kind) =
    λ kind. c.count_if.ensures.made (code kind)
    ∙ ap (λ (call : ℕ). if c.self.inside.armed && (call == code kind)
    then counted (get_or c.self.inside.counts (code kind) 0) 1 else get_or c.self.inside.counts (code kind) 0) c.to_code.ensures.code
    ∙ ap (λ (f : Faults K). made_after code c.args.call Went f.armed kind (count_of code f kind)) c.self.view_is in
    let fuse : new.fuse ≡ shorter old.fuse = c.burnt-self-inside.ensures ∙ ap (λ (f : Faults K). shorter f.fuse) c.self.view_is in
    let faults : new.faults ≡ (if goes_well c.args.ending then old.faults else counted old.faults 1) =
    c.missed-self-inside.ensures.is ∙ ap (λ (f : Faults K). if goes_well c.args.ending then f.faults else counted f.faults 1) c.self.view_is in
    let plan : new.plan ≡ old.plan = ap (λ (f : Faults K). f.plan) c.self.view_is in
    let scripted : new.scripted ≡ old.scripted = ap (λ (f : Faults K). f.scripted) c.self.view_is in (
      subst (λ (items : List (Planned K)). AreNext code items c.count_if.new.counts c.count_if.new.nexts) c.as_slice.ensures.value c.count_if.ensures.are,
      kept_after code old new c.args.call c.args.ending kept c.requires plan scripted fuse made faults,
    )

pub returns-clause-faults : goal.returns-clause-faults
returns-clause-faults g c =
    let K : Type 0 = g.row.K.Denot in
    let code : K → ℕ = g.K.CallKind.code in
    let old : Faults K = c.args.self.now in
    let new : Faults K = record {
      plan = c.self.inside.plan.items;
      armed = c.self.inside.armed;
      counts = c.count_if.new.counts;
      fuse = c.burnt-self-inside.result;
      scripted = c.self.inside.scripted;
      faults = c.missed-self-inside.result;
    } in
    let kept : AreFaultsSound code old = subst (λ (f : Faults K). AreFaultsSound code f) c.self.view_is c.self.invariant.1 in
    let made : (kind : K) → count_of code new kind ≡ made_after code c.args.call Went old.armed kind (count_of code old kind) =
    λ kind. c.count_if.ensures.made (code kind)
    ∙ ap (λ (call : ℕ). if c.self.inside.armed && (call == code kind)
    then counted (get_or c.self.inside.counts (code kind) 0) 1 else get_or c.self.inside.counts (code kind) 0) c.to_code.ensures.code
    ∙ ap (λ (f : Faults K). made_after code c.args.call Went f.armed kind (count_of code f kind)) c.self.view_is in
    let fuse : new.fuse ≡ shorter old.fuse = c.burnt-self-inside.ensures ∙ ap (λ (f : Faults K). shorter f.fuse) c.self.view_is in
    let faults : new.faults ≡ (if goes_well c.args.ending then old.faults else counted old.faults 1) =
    c.missed-self-inside.ensures.is ∙ ap (λ (f : Faults K). if goes_well c.args.ending then f.faults else counted f.faults 1) c.self.view_is in
    let plan : new.plan ≡ old.plan = ap (λ (f : Faults K). f.plan) c.self.view_is in
    let scripted : new.scripted ≡ old.scripted = ap (λ (f : Faults K). f.scripted) c.self.view_is in
    faults_after code old new c.args.call c.args.ending kept c.requires plan scripted fuse made faults

pub returns-clause-alone : goal.returns-clause-alone
returns-clause-alone g c = (subst (λ (f : Faults g.row.K.Denot). AreFaultsSound g.K.CallKind.code f) c.self.view_is c.self.invariant.1).alone

pub returns-clause-later : goal.returns-clause-later
returns-clause-later g c =
    let K : Type 0 = g.row.K.Denot in
    let code : K → ℕ = g.K.CallKind.code in
    let old : Faults K = c.args.self.now in
    let new : Faults K = record {
      plan = c.self.inside.plan.items;
      armed = c.self.inside.armed;
      counts = c.count_if.new.counts;
      fuse = c.burnt-self-inside.result;
      scripted = c.self.inside.scripted;
      faults = c.missed-self-inside.result;
    } in
    let kept : AreFaultsSound code old = subst (λ (f : Faults K). AreFaultsSound code f) c.self.view_is c.self.invariant.1 in
    let made : (kind : K) → count_of code new kind ≡ made_after code c.args.call Went old.armed kind (count_of code old kind) =
    λ kind. c.count_if.ensures.made (code kind)
    ∙ ap (λ (call : ℕ). if c.self.inside.armed && (call == code kind)
    then counted (get_or c.self.inside.counts (code kind) 0) 1 else get_or c.self.inside.counts (code kind) 0) c.to_code.ensures.code
    ∙ ap (λ (f : Faults K). made_after code c.args.call Went f.armed kind (count_of code f kind)) c.self.view_is in
    let fuse : new.fuse ≡ shorter old.fuse = c.burnt-self-inside.ensures ∙ ap (λ (f : Faults K). shorter f.fuse) c.self.view_is in
    let faults : new.faults ≡ (if goes_well c.args.ending then old.faults else counted old.faults 1) =
    c.missed-self-inside.ensures.is ∙ ap (λ (f : Faults K). if goes_well c.args.ending then f.faults else counted f.faults 1) c.self.view_is in
    let plan : new.plan ≡ old.plan = ap (λ (f : Faults K). f.plan) c.self.view_is in
    let scripted : new.scripted ≡ old.scripted = ap (λ (f : Faults K). f.scripted) c.self.view_is in
    let after : AreFaultsSound code new = kept_after code old new c.args.call c.args.ending kept c.requires plan scripted fuse made faults in
    let up : old.faults ≤ new.faults = subst (λ (f : Faults K). f.faults ≤ new.faults) c.self.view_is c.missed-self-inside.ensures.later in
    subst (λ (n : ℕ). n ≤ faults_of code new) kept.exact (subst (λ (n : ℕ). old.faults ≤ n) after.exact up)

pub returns-clause-made : goal.returns-clause-made
returns-clause-made g c = λ kind.
    let K : Type 0 = g.row.K.Denot in
    let code : K → ℕ = g.K.CallKind.code in
    c.count_if.ensures.made (code kind)
    ∙ ap (λ (call : ℕ). if c.self.inside.armed && (call == code kind)
    then counted (get_or c.self.inside.counts (code kind) 0) 1 else get_or c.self.inside.counts (code kind) 0) c.to_code.ensures.code
    ∙ ap (λ (f : Faults K). made_after code c.args.call Went f.armed kind (count_of code f kind)) c.self.view_is
