use Rattle.std.proofs.Common.{◌≡◌, ◌∙◌, sym, refl}
use Rattle.broker_log.specs.Seen.{Up}
use Rattle.broker_log.proofs.Breaking.{stops_by}
use Rattle.broker_log.proofs.broker.BrokerLog.stop.Goals as goal

pub returns-clause-stops : goal.returns-clause-stops
returns-clause-stops g c =
    let now_is : c.args.self.now ≡ Up c.taken-log.result = sym c.self.view_is ∙ c.taken-log.ensures in
    rw (now_is, c.placed.ensures.down refl, c.settings-settings.ensures.are) (stops_by g.D.Disk.content c.taken-log.result (c.placed.ensures.again refl))
