use Rattle.disk_model.specs.Content.{Lawful}
use Rattle.local_log.proofs.Having.{image_opens}
use Rattle.local_log.proofs.log.LocalLog.stands.Goals as goal

pub returns : goal.returns
returns g c =
    let s = c.self.inside in
    let d = g.D.Disk.content s.disk in
    let laws : Lawful d = g.met.D.Disk.lawful s.disk in
    rw (← c.self.view_is) (λ unbroken f now. image_opens d laws s.incarnation s.local_start s.closed.items s.active s.line s.flushed_end (c.self.invariant.has unbroken) f now)
