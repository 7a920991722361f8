use Rattle.std.proofs.Common.{◌≡◌, ◌∙◌, ap, sym, arith}
use Rattle.broker_log.specs.Seen.{Up}
use Rattle.broker_log.specs.Inside.{kept_of}
use Rattle.broker_log.proofs.Placing.{well_up}
use Rattle.broker_log.proofs.Cuts.{ends_to, end_below_it, end_above_it}
use Rattle.broker_log.proofs.broker.BrokerLog.end_up_to.Goals as goal

pub returns-then-offset-local_start : goal.returns-then-offset-local_start
returns-then-offset-local_start g c =
    let content = g.D.Disk.content in
    let o = c.in-Up.log in
    let up = ap kept_of c.in-Up.is in
    let well = well_up c.self.inside.place o up c.self.invariant in
    let now_is : c.args.self.now ≡ Up o = sym c.self.view_is ∙ up in
    let lt = c.if-offset-local_start.true in
    rw now_is (ends_to content o c.args.offset (c.coheres.ensures well) c.args.offset (sym (end_below_it o c.args.offset (omega (arith, lt, c.local_start.ensures.is)))))

pub returns : goal.returns
returns g c =
    let content = g.D.Disk.content in
    let o = c.in-Up.log in
    let up = ap kept_of c.in-Up.is in
    let well = well_up c.self.inside.place o up c.self.invariant in
    let now_is : c.args.self.now ≡ Up o = sym c.self.view_is ∙ up in
    let ge = c.if-offset-local_start.false in
    rw now_is (ends_to content o c.args.offset (c.coheres.ensures well) c.end_up_to.result (c.end_up_to.ensures ∙ sym (end_above_it o c.args.offset (omega (arith, ge, c.local_start.ensures.is)))))
