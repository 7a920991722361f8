use Rattle.broker_log.proofs.Runs.{segment_of, some_more}
use Rattle.local_log.proofs.RunsTold.{ok_more}
use Rattle.broker_log.specs.Seen.{Up}
use Rattle.std.proofs.Common.{◌≡◌, ◌∙◌, sym}
use Rattle.broker_log.proofs.Placing.{well_up}
use Rattle.broker_log.proofs.Runs.{reading_stays}
use Rattle.broker_log.proofs.broker.BrokerLog.closed_from.Goals as goal

pub returns-clause-part : goal.returns-clause-part
returns-clause-part g c =
    let content = g.D.Disk.content in
    let o = c.taken-log.result in
    let now_is : c.args.self.now ≡ Up o = sym c.self.view_is ∙ c.taken-log.ensures in
    let well = well_up c.self.inside.place o c.taken-log.ensures c.self.invariant in
    rw now_is (ok_more _ _ c.closed_from-outcome.result
    (λ segment told s h. some_more _ _ segment (λ whole part. segment_of content o s h (c.coheres.ensures well h.told).are whole part) (told h.told))
    c.closed_from-outcome.ensures.part)

pub returns-clause-stays : goal.returns-clause-stays
returns-clause-stays g c =
    let o = c.taken-log.result in
    let n = c.closed_from-outcome.new.self in
    let now_is : c.args.self.now ≡ Up o = sym c.self.view_is ∙ c.taken-log.ensures in
    rw now_is (reading_stays g.D.Disk.content o n c.closed_from-outcome.ensures.log c.closed_from-outcome.ensures.keeps)
