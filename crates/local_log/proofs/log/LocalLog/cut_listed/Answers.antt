use Rattle.local_log.specs.Cutting.{opened_to}
use Rattle.local_log.proofs.Sides.{either_settled}
use Rattle.local_log.proofs.log.LocalLog.cut_listed.Goals as goal

pub returns-in_err-shed-clause-either : goal.returns-in_err-shed-clause-either
returns-in_err-shed-clause-either g c =
    let content = g.D.Disk.content in
    let o = c.args.self.now in
    let m = c.settle.new.self in
    let n = c.shed.new.self in
    either_settled (content o.disk) (content m.disk) (content n.disk) (opened_to o c.args.end) (g.met.D.Disk.lawful m.disk) (g.met.D.Disk.lawful n.disk) c.shed.ensures.is_observable c.settle.ensures.either c.in_ok-settle.ensures.durable c.shed.ensures.any_moment

pub returns-clause-either : goal.returns-clause-either
returns-clause-either g c =
    let content = g.D.Disk.content in
    let o = c.args.self.now in
    let m = c.settle.new.self in
    let n = c.shed.new.self in
    either_settled (content o.disk) (content m.disk) (content n.disk) (opened_to o c.args.end) (g.met.D.Disk.lawful m.disk) (g.met.D.Disk.lawful n.disk) c.shed.ensures.is_observable c.settle.ensures.either c.in_ok-settle.ensures.durable c.shed.ensures.any_moment
