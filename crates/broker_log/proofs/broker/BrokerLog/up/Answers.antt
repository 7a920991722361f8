use Rattle.std.proofs.Common.{◌≡◌, ◌∙◌, sym, ap, subst, Some}
use Rattle.local_log.specs.declared.refusal.OpenRefusal.TheVariants.{Damaged, LastIncarnation}
use Rattle.local_log.specs.declared.refusal.OpenRefusal.{OpenRefusal}
use Rattle.local_log.specs.Opening.{OpenFails}
use Rattle.broker_log.specs.Seen.{Down}
use Rattle.broker_log.proofs.Returning.{opens_by, read_by, intervals_of, stays_by_closing, unopened}
use Rattle.broker_log.proofs.Between.{between_opening}
use Rattle.broker_log.proofs.broker.BrokerLog.up.Goals as goal

pub returns-in-Ok-clause-ok : goal.returns-in-Ok-clause-ok
returns-in-Ok-clause-ok g c =
    let content = g.D.Disk.content in
    let settings = c.taken_disk-disk.result.0 in
    let disk = c.taken_disk-disk.result.1 in
    let log = c.in-Ok.log in
    let e = c.in-Ok.ensures in
    let now_is : c.args.self.now ≡ Down settings disk = sym c.self.view_is ∙ c.taken_disk-disk.ensures in
    record {
      end_is = ap Some (sym c.end-end.ensures);
      flushed_end_is = ap Some (e.log.flushed_end ∙ sym c.end-end.ensures);
      settings = rw now_is (ap Some e.log.settings_are);
      intervals = intervals_of settings log e.log;
      layout = rw now_is (λ t. e.segments t);
      read = rw now_is (read_by content settings disk (g.met.D.Disk.lawful disk) log e.is_observable e.log.flushed_end e.log.broken e.opened (c.coheres.ensures e.log.broken) e.durable);
      seen = rw (now_is, c.end-end.ensures) (opens_by content settings disk (g.met.D.Disk.lawful disk) log e.is_observable e.log.flushed_end e.log.broken e.opened (c.coheres.ensures e.log.broken) e.durable);
      between = rw now_is (between_opening (content disk) (content log.disk) (g.met.D.Disk.lawful disk) e.any_moment);
    }

pub returns-in-Err-clause-stays : goal.returns-in-Err-clause-stays
returns-in-Err-clause-stays g c =
    let content = g.D.Disk.content in
    let settings = c.taken_disk-disk.result.0 in
    let disk = c.taken_disk-disk.result.1 in
    let e = c.in-Err.ensures in
    let now_is : c.args.self.now ≡ Down settings disk = sym c.self.view_is ∙ c.taken_disk-disk.ensures in
    rw now_is (stays_by_closing content settings disk (g.met.D.Disk.lawful disk) c.in-Err.disk (g.met.D.Disk.lawful c.in-Err.disk) e.tells_err e.any_moment_err e.again)

pub returns-in-Err-clause-damaged : goal.returns-in-Err-clause-damaged
returns-in-Err-clause-damaged g c name at is =
    let content = g.D.Disk.content in
    let settings = c.taken_disk-disk.result.0 in
    let disk = c.taken_disk-disk.result.1 in
    let e = c.in-Err.ensures in
    let now_is : c.args.self.now ≡ Down settings disk = sym c.self.view_is ∙ c.taken_disk-disk.ensures in
    let why_is : c.in-Err.refusal ≡ Damaged name at = cc is in
    rw now_is (unopened content settings disk (g.met.D.Disk.lawful disk) c.in-Err.disk (g.met.D.Disk.lawful c.in-Err.disk) e.tells_err e.any_moment_err e.again g.D.Disk.control c.in-Err.refusal name at why_is e.err e.place e.sound)

pub returns-in-Err-clause-last : goal.returns-in-Err-clause-last
returns-in-Err-clause-last g c is =
    let content = g.D.Disk.content in
    let settings = c.taken_disk-disk.result.0 in
    let disk = c.taken_disk-disk.result.1 in
    let e = c.in-Err.ensures in
    let now_is : c.args.self.now ≡ Down settings disk = sym c.self.view_is ∙ c.taken_disk-disk.ensures in
    let why_is : c.in-Err.refusal ≡ LastIncarnation = cc is in
    rw now_is (record {
      stays = stays_by_closing content settings disk (g.met.D.Disk.lawful disk) c.in-Err.disk (g.met.D.Disk.lawful c.in-Err.disk) e.tells_err e.any_moment_err e.again;
      cause = subst (λ (why : OpenRefusal). OpenFails (g.D.Disk.control c.in-Err.disk).last_read why) why_is e.err;
      holds = e.last why_is;
    })
