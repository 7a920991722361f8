use Rattle.std.proofs.Common.{ap}
use Rattle.tier_base.specs.Device.{failing}
use Rattle.log_steps.proofs.Fates.{ok_from_done, err_not_done}
use Rattle.log_steps.proofs.Synced.{restored, restored_none}
use Rattle.log_steps.proofs.rewriting.restore.Goals as goal

pub returns-in_err-cut-clause-content : goal.returns-in_err-cut-clause-content
returns-in_err-cut-clause-content g c =
    let content = g.D.Disk.content in
    restored_none c.args.extent (content c.args.disk.now) (content c.cut.new.self) _ c.cut.ensures.content _ (err_not_done c.from_residual.result c.from_residual.ensures.0)

pub returns-clause-content : goal.returns-clause-content
returns-clause-content g c =
    let content = g.D.Disk.content in
    restored c.args.extent (content c.args.disk.now) (content c.cut.new.self) _ c.cut.ensures.content (λ b m. m.went (ap failing c.in_ok-cut.was)) (content c.sync.new.self) c.sync.ensures.content _
    (λ went. ok_from_done c.sync.result _ went c.sync.ensures.durable)
