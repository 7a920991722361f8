use Rattle.std.proofs.Common.{◌∙◌, sym, subst, refl, ◌≤◌, List, length, arith}
use Rattle.std.specs.Prelude.{IsTrue}
use Rattle.std.proofs.lemmas.List.{take_all}
use Rattle.tier_base.proofs.Lasting.{lasts_same, lasts_then}
use Rattle.tier_base.specs.declared.plain.FileName.{FileName}
use Rattle.cold_start.proofs.Clearing.{GoneTo, gone_none, gone_more, gone_all}
use Rattle.cold_start.proofs.opening.clear.Goals as goal

pub loop-name-init : goal.loop-name-init
loop-name-init g c = record {
  lasts = lasts_same (g.D.Disk.control c.list.new.self);
  is_observable = refl;
  gone = λ told. gone_none (g.D.Disk.content c.list.new.self).files;
}

pub loop-name-preserved : goal.loop-name-preserved
loop-name-preserved g c = record {
  lasts = lasts_then (g.D.Disk.control c.list.new.self) (g.D.Disk.control c.loop-name.disk) (g.D.Disk.control c.remove_one.new.disk) c.loop-name.invariant.lasts c.in-Ok.ensures.control;
  is_observable = c.in-Ok.ensures.is_observable ∙ c.loop-name.invariant.is_observable;
  gone = λ told. gone_more c.as_slice-name-items.result.now c.loop-name.name-index _ (g.D.Disk.content c.list.new.self).files (g.D.Disk.content c.loop-name.disk).files (g.D.Disk.content c.remove_one.new.disk).files c.loop-name-test.true
      (c.loop-name.invariant.gone told) (c.in-Ok.ensures.removed (subst IsTrue (sym c.loop-name.invariant.is_observable) told));
}

pub returns-clause-cleared : goal.returns-clause-cleared
returns-clause-cleared g c = λ told n.
    let keeps = c.in_ok-names.ensures.content in
    let all : length c.as_slice-name-items.result.now ≤ c.loop-name.name-index = omega (arith, c.loop-name-test.false) in
    gone_all c.in_ok-names.names (g.D.Disk.content c.args.disk.now).files (g.D.Disk.content c.list.new.self).files (g.D.Disk.content c.loop-name.disk).files (c.in_ok-names.ensures.names told) keeps.files
    (subst (λ (l : List FileName). GoneTo l (g.D.Disk.content c.list.new.self).files (g.D.Disk.content c.loop-name.disk).files) (take_all c.loop-name.name-index c.as_slice-name-items.result.now all ∙ c.as_slice-name-items.ensures)
    (c.loop-name.invariant.gone (subst IsTrue (sym keeps.is_observable) told))) n

pub returns-in-Err-clause-fault : goal.returns-in-Err-clause-fault
returns-in-Err-clause-fault g c = λ is.
    let rose = c.in-Err.ensures.fault is in
    let before = c.loop-name.invariant.lasts.never_falls in
    let listed = c.in_ok-names.ensures.control.ran.never_falls in
    omega (arith, rose, before, listed)
