use Rattle.std.specs.Prelude.{[]}
use Rattle.meta_log.specs.declared.call.MetaCall.TheVariants as call
use Rattle.device_tally.proofs.Tallies.{quiet}
use Rattle.meta_log_file.proofs.Fates.{on_ok}
use Rattle.meta_log_file.proofs.Confirmed.{sure_durable}
use Rattle.meta_log_file.proofs.Leaving.{like_left, durable_left}
use Rattle.meta_log_file.proofs.disk_log.DiskLogMetaLog.read.Goals as goal

pub returns-clause-control : goal.returns-clause-control
returns-clause-control g c = rw (← c.self.view_is) (quiet call.Read _ c.self.inside.tally c.note_any.new.self [] c.note_any.ensures.ran)

pub returns-clause-durable : goal.returns-clause-durable
returns-clause-durable g c =
    let n = g.D.Disk.content c.read-outcome.new.disk in
    let marks = c.read-outcome.new.marks in
    rw c.note_any.ensures.same (on_ok c.read-outcome.result _ _ (sure_durable n (g.met.D.Disk.lawful c.read-outcome.new.disk) marks.ends.items marks.tail c.read-outcome.ensures.has) c.read-outcome.ensures.sure)

pub returns-clause-content : goal.returns-clause-content
returns-clause-content g c = rw (← c.self.view_is) (
    let d = g.D.Disk.content c.self.inside.disk in
    let m = g.D.Disk.content c.read-outcome.new.disk in
    record { is_observable = c.read-outcome.ensures.is_observable; notes = c.read-outcome.ensures.told; left = like_left d m (g.met.D.Disk.lawful c.read-outcome.new.disk) c.read-outcome.ensures.since c.read-outcome.ensures.told })

pub returns-clause-left : goal.returns-clause-left
returns-clause-left g c = λ is_observable.
    let n = g.D.Disk.content c.read-outcome.new.disk in
    let marks = c.read-outcome.new.marks in
    rw c.note_any.ensures.same (on_ok c.read-outcome.result _ _ (λ sure. durable_left n (sure_durable n (g.met.D.Disk.lawful c.read-outcome.new.disk) marks.ends.items marks.tail c.read-outcome.ensures.has sure)) c.read-outcome.ensures.sure)
