use Rattle.std.proofs.Common.{◌≡◌, ◌∙◌, sym, ap}
use Rattle.broker_log.specs.Seen.{Up, Down}
use Rattle.broker_log.specs.Inside.{kept_of}
use Rattle.broker_log.proofs.Between.{stays_closed_kept}
use Rattle.broker_log.proofs.Runs.{armed_stays}
use Rattle.broker_log.proofs.broker.BrokerLog.arm.Goals.{in-Up, in-Down}
use Rattle.broker_log.proofs.broker.BrokerLog.arm.Goals as goal

pub returns-clause-stays : goal.returns-clause-stays
returns-clause-stays g c =
    let content = g.D.Disk.content in
    elim c.match-self.branch [
      | in-Up w ↦ (
          let now_is : c.args.self.now ≡ Up w.in-Up.log = sym c.self.view_is ∙ ap kept_of w.in-Up.is in
          rw (now_is, w.self-inside-is) (armed_stays content w.in-Up.log w.arm.new.self w.arm.ensures.log w.arm.ensures.content)
          )
      | in-Down w ↦ (
          let now_is : c.args.self.now ≡ Down w.in-Down.field-0 w.in-Down.disk = sym c.self.view_is ∙ ap kept_of w.in-Down.is in
          rw (now_is, w.self-inside-is) (stays_closed_kept content w.in-Down.field-0 w.in-Down.disk w.arm-in-Down.new.self w.arm-in-Down.ensures.content)
          )
    ]
