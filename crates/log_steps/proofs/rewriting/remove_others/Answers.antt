use Rattle.std.proofs.Common.{◌∙◌, ◌<◌, List, take, get_or, length, sym, subst, arith}
use Rattle.std.proofs.lemmas.List.{take_more}
use Rattle.tier_base.specs.declared.plain.FileName.{FileName}
use Rattle.tier_base.specs.declared.plain.FileName.TheVariants as file
use Rattle.disk_model.specs.Content.{Lawful}
use Rattle.log_steps.specs.Rewrites.{Removes}
use Rattle.log_steps.proofs.Lasting.{lasts_then, went_on, failed_so, runs_fault}
use Rattle.log_steps.proofs.Removed.{then_leaves, removed_more}
use Rattle.log_steps.proofs.rewriting.remove_others.Goals as goal

pub returns-in_err-remove_other-clause-since : goal.returns-in_err-remove_other-clause-since
returns-in_err-remove_other-clause-since g c =
    let content = g.D.Disk.content in
    let m = content c.loop-name.disk in
    let laws : Lawful m = g.met.D.Disk.lawful c.loop-name.disk in
    then_leaves c.args.extents.now (content c.args.disk.now) m (content c.remove_other.new.disk) laws c.loop-name.invariant.content.since c.remove_other.ensures.since

pub returns-in_err-remove_other-clause-control : goal.returns-in_err-remove_other-clause-control
returns-in_err-remove_other-clause-control g c =
    runs_fault c.from_residual.result _ _ _ c.from_residual.ensures.0 c.loop-name.invariant.control c.loop-name.invariant.quiet (failed_so _ _ _ _ c.in_err-remove_other.was c.remove_other.ensures.control)

pub loop-name-preserved : goal.loop-name-preserved
loop-name-preserved g c =
    let content = g.D.Disk.content in
    let es = c.args.extents.now in
    let names = c.args.names.now in
    let i = c.loop-name.name-index in
    let lt : i < length names = omega arith in
    let m = content c.loop-name.disk in
    let laws : Lawful m = g.met.D.Disk.lawful c.loop-name.disk in
    record {
      content = subst (λ (l : List FileName). Removes es l (content c.args.disk.now) (content c.remove_other.new.disk)) (sym (take_more names i file.Manifest lt))
          (removed_more es (take i names) (get_or names i file.Manifest) (content c.args.disk.now) m (content c.remove_other.new.disk) laws c.loop-name.invariant.content c.in_ok-remove_other.ensures.ok c.remove_other.ensures.is_observable);
      room = omega (arith, c.loop-name.invariant.room, c.remove_other.ensures.room);
      control = lasts_then _ _ _ c.loop-name.invariant.control c.remove_other.ensures.control.lasts;
      quiet = went_on _ _ _ _ c.in_ok-remove_other.was c.remove_other.ensures.control ∙ c.loop-name.invariant.quiet;
    }
