use Rattle.std.proofs.Common.{◌≡◌, ◌∙◌, false, ap}
use Rattle.disk_model.specs.Content.{Lawful}
use Rattle.log_steps.proofs.Opening.{reopens_kept}
use Rattle.local_log.specs.Log.{Log}
use Rattle.local_log.proofs.Having.{has_kept, kept_since}
use Rattle.local_log.proofs.log.LocalLog.arm.Goals as goal

pub invariant_of-self : goal.invariant_of-self
invariant_of-self g c =
    let s = c.self.inside in
    let d = g.D.Disk.content s.disk in
    let m = g.D.Disk.content c.arm.new.self in
    let laws : Lawful d = g.met.D.Disk.lawful s.disk in
    let laws-m : Lawful m = g.met.D.Disk.lawful c.arm.new.self in
    record {
      segments = c.self.invariant.segments;
      settings = c.self.invariant.settings;
      opened = c.self.invariant.opened;
      fits = c.self.invariant.fits;
      line = c.self.invariant.line;
      line_within = c.self.invariant.line_within;
      flushed_end_within = c.self.invariant.flushed_end_within;
      has = λ whole. has_kept d laws s.incarnation s.local_start s.closed.items s.active s.line s.flushed_end (c.self.invariant.has whole) m laws-m c.arm.ensures.content;
      reopens = reopens_kept d m c.arm.ensures.content c.self.invariant.reopens;
    }

pub returns-clause-any_moment : goal.returns-clause-any_moment
returns-clause-any_moment g c whole =
    let s = c.self.inside in
    let d = g.D.Disk.content s.disk in
    let d' = g.D.Disk.content c.arm.new.self in
    let laws : Lawful d = g.met.D.Disk.lawful s.disk in
    let laws' : Lawful d' = g.met.D.Disk.lawful c.arm.new.self in
    let unbroken : s.broken ≡ false = ap (λ (l : Log g.row.D.Denot). l.broken) c.self.view_is ∙ whole in
    rw (← c.self.view_is) (kept_since d laws s.incarnation s.local_start s.closed.items s.active s.line s.flushed_end (c.self.invariant.has unbroken) d' laws' c.arm.ensures.content)
