use Rattle.std.proofs.Common.{sym, subst}
use Rattle.meta_log_file.specs.Stands.{IsSure}
use Rattle.meta_log_file.proofs.Confirmed.{sure_durable, opened_told}
use Rattle.meta_log_file.proofs.Chaining.{reopens_after}
use Rattle.meta_log_file.proofs.Leaving.{open_left, opening_keeps}
use Rattle.meta_log_file.proofs.Damaged.{damage_closes}
use Rattle.meta_log_file.proofs.disk_log.DiskLog.open.Goals as goal

pub returns-in-Ok-clause-opened : goal.returns-in-Ok-clause-opened
returns-in-Ok-clause-opened g c = λ is_observable.
    let o = c.in-Ok.ensures.opened is_observable in
    opened_told (g.D.Disk.content c.args.disk) (g.D.Disk.content c.open_log.new.disk) o.0 c.in-Ok.ensures.is_observable is_observable o.1 o.2

pub returns-in-Ok-clause-durable : goal.returns-in-Ok-clause-durable
returns-in-Ok-clause-durable g c =
    let marks = c.in-Ok.marks in
    sure_durable (g.D.Disk.content c.open_log.new.disk) (g.met.D.Disk.lawful c.open_log.new.disk) marks.ends.items marks.tail c.in-Ok.ensures.has (subst IsSure (sym c.in-Ok.ensures.sure) tt)

pub returns-in-Ok-clause-left : goal.returns-in-Ok-clause-left
returns-in-Ok-clause-left g c = λ is_observable reopens.
    let d = g.D.Disk.content c.args.disk in
    let n = g.D.Disk.content c.open_log.new.disk in
    let o = c.in-Ok.ensures.opened is_observable in
    open_left d n (g.met.D.Disk.lawful c.args.disk) (g.met.D.Disk.lawful c.open_log.new.disk) is_observable (c.open_log.ensures.since reopens) (opened_told d n o.0 c.in-Ok.ensures.is_observable is_observable o.1 o.2)

pub returns-in-Ok-clause-keeps : goal.returns-in-Ok-clause-keeps
returns-in-Ok-clause-keeps g c = opening_keeps (g.D.Disk.content c.args.disk) (g.D.Disk.content c.open_log.new.disk) (g.met.D.Disk.lawful c.args.disk) (g.met.D.Disk.lawful c.open_log.new.disk) c.open_log.ensures.is_observable c.open_log.ensures.same c.open_log.ensures.since

pub returns-in-Err-clause-keeps_err : goal.returns-in-Err-clause-keeps_err
returns-in-Err-clause-keeps_err g c = opening_keeps (g.D.Disk.content c.args.disk) (g.D.Disk.content c.open_log.new.disk) (g.met.D.Disk.lawful c.args.disk) (g.met.D.Disk.lawful c.open_log.new.disk) c.open_log.ensures.is_observable c.open_log.ensures.same c.open_log.ensures.since

pub returns-in-Err-clause-whole : goal.returns-in-Err-clause-whole
returns-in-Err-clause-whole g c = λ is_observable reopens at is.
    let d = g.D.Disk.content c.args.disk in
    let o = reopens d.files ((g.met.D.Disk.lawful c.args.disk).reads is_observable) in
    damage_closes d.files at o.0 (c.in-Err.ensures.damaged at is is_observable) o.1

pub returns-in-Err-clause-again : goal.returns-in-Err-clause-again
returns-in-Err-clause-again g c = λ reopens. reopens_after (g.D.Disk.content c.args.disk) (g.D.Disk.content c.open_log.new.disk) (g.met.D.Disk.lawful c.open_log.new.disk) (c.open_log.ensures.since reopens)
