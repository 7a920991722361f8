use Rattle.disk_model.specs.declared.call.DiskCall.TheVariants as call
use Rattle.meta_log_file.proofs.Fates.{ok_from_went, dry_undone}
use Rattle.meta_log_file.proofs.Written.{commits}
use Rattle.meta_log_file.proofs.writing.commit.Goals as goal

pub returns-clause-content : goal.returns-clause-content
returns-clause-content g c = λ notes more all all_or is.
    let d = g.D.Disk.content c.args.disk.now in
    let n = g.D.Disk.content c.put_gate.new.disk in
    commits notes more d n (g.met.D.Disk.lawful c.args.disk.now) (g.met.D.Disk.lawful c.put_gate.new.disk) c.args.end _ _ all all_or is c.put_gate.ensures.content
    (λ went. ok_from_went c.put_gate.result _ went c.put_gate.ensures.durable)
    (dry_undone call.Replace _ (g.D.Disk.control c.args.disk.now))
