use Rattle.std.proofs.Common.{◌≡◌, ◌∙◌, ap, false}
use Rattle.disk_model.specs.Content.{Lawful}
use Rattle.local_log.specs.Log.{Log}
use Rattle.local_log.proofs.Having.{has_kept, has_reopens}
use Rattle.local_log.proofs.log.LocalLog.make_room.Goals as goal

pub invariant_of-self : goal.invariant_of-self
invariant_of-self g c =
    let s = c.self.inside in
    let d = g.D.Disk.content s.disk in
    let m = g.D.Disk.content c.reserve.new.self in
    let laws : Lawful d = g.met.D.Disk.lawful s.disk in
    let laws-m : Lawful m = g.met.D.Disk.lawful c.reserve.new.self in
    let unbroken : s.broken ≡ false = ap (λ (l : Log g.row.D.Denot). l.broken) c.self.view_is ∙ c.requires in
    let has = has_kept d laws s.incarnation s.local_start s.closed.items s.active s.line s.flushed_end (c.self.invariant.has unbroken) m laws-m c.reserve.ensures.content in
    record {
      segments = c.self.invariant.segments;
      settings = c.self.invariant.settings;
      opened = c.self.invariant.opened;
      fits = c.self.invariant.fits;
      line = c.self.invariant.line;
      line_within = c.self.invariant.line_within;
      flushed_end_within = c.self.invariant.flushed_end_within;
      has = λ whole. has;
      reopens = has_reopens m laws-m s.incarnation s.local_start s.closed.items s.active s.line s.flushed_end has;
    }
