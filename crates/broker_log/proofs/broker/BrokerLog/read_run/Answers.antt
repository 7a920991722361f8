use Rattle.std.proofs.Common.{◌≡◌, ◌∙◌, ◌≤◌, sym, subst}
use Rattle.broker_log.specs.Seen.{LogState, Up, WhileUp}
use Rattle.broker_log.proofs.Placing.{well_up}
use Rattle.broker_log.proofs.Runs.{ok_four, ran_ok, err_told, reads_by, misreads_by}
use Rattle.broker_log.proofs.Runs.{reading_stays}
use Rattle.broker_log.proofs.broker.BrokerLog.read_run.Goals as goal

pub returns-clause-ok : goal.returns-clause-ok
returns-clause-ok g c =
    let content = g.D.Disk.content in
    let o = c.taken-log.result in
    let n = c.read_run-outcome.new.self in
    let e = c.read_run-outcome.ensures in
    let well = well_up c.self.inside.place o c.taken-log.ensures c.self.invariant in
    let now_is : c.args.self.now ≡ Up o = sym c.self.view_is ∙ c.taken-log.ensures in
    let from : o.local_start ≤ c.args.offset = subst (λ (k : LogState g.row.D.Denot). WhileUp k (λ log. log.local_start ≤ c.args.offset)) now_is c.requires.start in
    rw now_is (ok_four _ _ _ _ _ c.read_run-outcome.result
    (λ out run base part ran. reads_by content o n e.log e.keeps g.D.Disk.control c.args.offset c.args.limit c.args.mark from c.requires.below (c.coheres.ensures well) out run base part ran)
    e.run e.base e.bytes (ran_ok _ c.read_run-outcome.result (g.D.Disk.control o.disk) (g.D.Disk.control n.disk) e.edge e.ran))

pub returns-clause-damaged : goal.returns-clause-damaged
returns-clause-damaged g c =
    let content = g.D.Disk.content in
    let o = c.taken-log.result in
    let n = c.read_run-outcome.new.self in
    let e = c.read_run-outcome.ensures in
    let now_is : c.args.self.now ≡ Up o = sym c.self.view_is ∙ c.taken-log.ensures in
    let from : o.local_start ≤ c.args.offset = subst (λ (k : LogState g.row.D.Denot). WhileUp k (λ log. log.local_start ≤ c.args.offset)) now_is c.requires.start in
    λ name at is.
    let told = err_told _ _ c.read_run-outcome.result _ e.err e.whole is in
    rw now_is (misreads_by content o n e.log e.keeps g.D.Disk.control c.args.offset c.args.limit c.args.mark from c.requires.below name at told.0 told.1)

pub returns-clause-stays : goal.returns-clause-stays
returns-clause-stays g c =
    let o = c.taken-log.result in
    let n = c.read_run-outcome.new.self in
    let now_is : c.args.self.now ≡ Up o = sym c.self.view_is ∙ c.taken-log.ensures in
    rw now_is (reading_stays g.D.Disk.content o n c.read_run-outcome.ensures.log c.read_run-outcome.ensures.keeps)
