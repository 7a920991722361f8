use Rattle.std.specs.Prelude.{[]}
use Rattle.meta_log.specs.declared.call.MetaCall.TheVariants as call
use Rattle.device_tally.proofs.Tallies.{quiet}
use Rattle.meta_log_file.specs.Told.{told_of}
use Rattle.meta_log_file.proofs.Leaving.{grows_for}
use Rattle.meta_log_file.proofs.disk_log.DiskLogMetaLog.append.Goals as goal

pub returns-clause-control : goal.returns-clause-control
returns-clause-control g c = rw (← c.self.view_is) (quiet call.Append _ c.self.inside.tally c.note_any.new.self [] c.note_any.ensures.ran)

pub returns-clause-content : goal.returns-clause-content
returns-clause-content g c = rw (← c.self.view_is) (rw c.note_any.ensures.same
    (grows_for c.self.inside.tally (told_of (g.D.Disk.content c.self.inside.disk)) (told_of (g.D.Disk.content c.append-outcome.new.disk)) c.args.note.now _ c.append-outcome.ensures.content))
