use Rattle.disk_model.specs.declared.call.DiskCall.TheVariants as call
use Rattle.log_steps.proofs.Fates.{ok_from_went}
use Rattle.log_steps.proofs.Published.{published, either_replaced}
use Rattle.log_steps.proofs.publishing.publish.Goals as goal

pub returns-clause-content : goal.returns-clause-content
returns-clause-content g c =
    let content = g.D.Disk.content in
    published c.args.name c.requires.other c.args.bytes.now (content c.args.disk.now) (content c.sync.new.self) (content c.replace.new.self) _ call.Replace (g.D.Disk.control c.sync.new.self) c.in_ok-sync.ensures.content c.in_ok-sync.ensures.durable c.replace.ensures.content
    (λ went. ok_from_went c.replace.result _ went c.replace.ensures.durable)

pub returns-clause-either : goal.returns-clause-either
returns-clause-either g c =
    let content = g.D.Disk.content in
    either_replaced (content c.args.disk.now) (content c.sync.new.self) (content c.replace.new.self) c.in_ok-sync.ensures.content c.replace.ensures.content.time
