use Rattle.meta_log_file.proofs.Fates.{ok_from_went}
use Rattle.meta_log_file.proofs.Confirmed.{confirmed}
use Rattle.meta_log_file.proofs.opening.confirm.Goals as goal

pub returns-clause-content : goal.returns-clause-content
returns-clause-content g c = λ ends read.
    confirmed (g.D.Disk.content c.args.disk.now) (g.D.Disk.content c.sync.new.self) (g.D.Disk.content c.put_gate.new.disk) (g.met.D.Disk.lawful c.args.disk.now) (g.met.D.Disk.lawful c.sync.new.self)
    c.args.gate ends read _ _ c.sync.ensures.content c.in_ok-sync.ensures.durable c.put_gate.ensures.content (λ went. ok_from_went c.put_gate.result _ went c.put_gate.ensures.durable)
