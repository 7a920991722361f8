use Rattle.std.proofs.Common.{◌∙◌, ap}
use Rattle.tier_base.specs.Device.{fate_of, Went}
use Rattle.disk_model.specs.Content.{Lawful}
use Rattle.log_steps.proofs.Fates.{err_not_went}
use Rattle.log_steps.proofs.Removed.{then_leaves}
use Rattle.log_steps.proofs.Rewritten.{rewritten, rewritten_none, rewritten_fault}
use Rattle.log_steps.proofs.rewriting.rewrite.Goals as goal

pub returns-in_err-replace-clause-content : goal.returns-in_err-replace-clause-content
returns-in_err-replace-clause-content g c =
    let content = g.D.Disk.content in
    rewritten_none c.args.manifest.now c.args.extents.now c.args.names.now (content c.args.disk.now) (content c.replace.new.self) _ c.replace.ensures.content _ (err_not_went c.from_residual.result c.from_residual.ensures.0)

pub returns-in_err-restore_all-clause-content : goal.returns-in_err-restore_all-clause-content
returns-in_err-restore_all-clause-content g c =
    let content = g.D.Disk.content in
    let laws2 : Lawful (content c.restore_all.new.disk) = g.met.D.Disk.lawful c.restore_all.new.disk in
    rewritten_fault c.args.manifest.now c.args.extents.now c.args.names.now (content c.args.disk.now) (content c.replace.new.self) _ c.replace.ensures.content c.in_ok-replace.ensures.durable (content c.restore_all.new.disk) c.restore_all.ensures.since c.restore_all.ensures.is_observable laws2 _ (err_not_went c.from_residual-in_err-restore_all.result c.from_residual-in_err-restore_all.ensures.0)

pub returns-in_err-remove_others-clause-content : goal.returns-in_err-remove_others-clause-content
returns-in_err-remove_others-clause-content g c =
    let content = g.D.Disk.content in
    let laws0 : Lawful (content c.restore_all.new.disk) = g.met.D.Disk.lawful c.restore_all.new.disk in
    let laws2 : Lawful (content c.remove_others.new.disk) = g.met.D.Disk.lawful c.remove_others.new.disk in
    let since = then_leaves c.args.extents.now (content c.replace.new.self) (content c.restore_all.new.disk) (content c.remove_others.new.disk) laws0 c.restore_all.ensures.since c.remove_others.ensures.since in
    rewritten_fault c.args.manifest.now c.args.extents.now c.args.names.now (content c.args.disk.now) (content c.replace.new.self) _ c.replace.ensures.content c.in_ok-replace.ensures.durable (content c.remove_others.new.disk) since (c.remove_others.ensures.is_observable ∙ c.restore_all.ensures.is_observable) laws2 _ (err_not_went c.from_residual-in_err-remove_others.result c.from_residual-in_err-remove_others.ensures.0)

pub returns-clause-content : goal.returns-clause-content
returns-clause-content g c =
    let content = g.D.Disk.content in
    let laws0 : Lawful (content c.restore_all.new.disk) = g.met.D.Disk.lawful c.restore_all.new.disk in
    let laws2 : Lawful (content c.remove_others.new.disk) = g.met.D.Disk.lawful c.remove_others.new.disk in
    let since = then_leaves c.args.extents.now (content c.replace.new.self) (content c.restore_all.new.disk) (content c.remove_others.new.disk) laws0 c.restore_all.ensures.since c.remove_others.ensures.since in
    rewritten c.args.manifest.now c.args.extents.now c.args.names.now (content c.args.disk.now) (content c.replace.new.self) _ c.replace.ensures.content c.in_ok-replace.ensures.durable (content c.remove_others.new.disk) since (c.remove_others.ensures.is_observable ∙ c.restore_all.ensures.is_observable) laws2 (content c.restore_all.new.disk) c.in_ok-restore_all.ensures.ok c.in_ok-remove_others.ensures.ok (λ b m. m.went (ap fate_of c.in_ok-replace.was)) Went
