use Rattle.std.proofs.Common.{◌≡◌, ◌∙◌, false, ap}
use Rattle.disk_model.specs.Content.{Lawful}
use Rattle.local_log.specs.Log.{Log}
use Rattle.local_log.proofs.Having.{kept_since}
use Rattle.local_log.proofs.log.LocalLog.read_part.Goals as goal

pub returns-clause-any_moment : goal.returns-clause-any_moment
returns-clause-any_moment g c =
    let s = c.self.inside in
    let d = g.D.Disk.content s.disk in
    let d' = g.D.Disk.content c.read_part.new.self in
    let laws : Lawful d = g.met.D.Disk.lawful s.disk in
    let laws' : Lawful d' = g.met.D.Disk.lawful c.read_part.new.self in
    let unbroken : s.broken ≡ false = ap (λ (l : Log g.row.D.Denot). l.broken) c.self.view_is ∙ c.requires in
    rw (← c.self.view_is) (kept_since d laws s.incarnation s.local_start s.closed.items s.active s.line s.flushed_end (c.self.invariant.has unbroken) d' laws' c.read_part.ensures.content)
