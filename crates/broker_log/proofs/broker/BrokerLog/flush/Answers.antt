use Rattle.broker_log.proofs.Showing.{settles_by, stays_by}
use Rattle.std.proofs.Common.{◌≡◌, ◌∙◌, sym}
use Rattle.broker_log.specs.Seen.{Up}
use Rattle.broker_log.proofs.Placing.{well_up, ok_open, ok_told, dry_open}
use Rattle.broker_log.proofs.Breaking.{breaks_settling}
use Rattle.broker_log.proofs.Between.{between_by}
use Rattle.broker_log.proofs.broker.BrokerLog.flush.Goals as goal

pub returns-clause-fault : goal.returns-clause-fault
returns-clause-fault g c =
    let content = g.D.Disk.content in
    let o = c.taken-log.result in
    let n = c.flush-outcome.new.self in
    let well = well_up c.self.inside.place o c.taken-log.ensures c.self.invariant in
    let now_is : c.args.self.now ≡ Up o = sym c.self.view_is ∙ c.taken-log.ensures in
    λ fault.
    rw (now_is, c.placed.ensures.down (c.is_fault.ensures.1 fault), c.settings-settings.ensures.are)
    (breaks_settling content o n (g.met.D.Disk.lawful n.disk) (c.placed.ensures.again (c.is_fault.ensures.1 fault)) (λ line k. line) (λ t. (c.coheres.ensures well t).line_within) (c.flush-outcome.ensures.broken fault).is_observable c.flush-outcome.ensures.opens (between_by (content o.disk) (content n.disk) c.flush-outcome.ensures.either))

pub returns-clause-ok : goal.returns-clause-ok
returns-clause-ok g c =
    let content = g.D.Disk.content in
    let o = c.taken-log.result in
    let n = c.flush-outcome.new.self in
    let r = c.flush-outcome.result in
    let well = well_up c.self.inside.place o c.taken-log.ensures c.self.invariant in
    let now_is : c.args.self.now ≡ Up o = sym c.self.view_is ∙ c.taken-log.ensures in
    ok_open _ r c.is_fault.result c.is_fault.ensures (λ clear.
    rw (now_is, c.placed.ensures.up clear) (ok_told _ _ r
    (λ end is ok durable. rw is (settles_by content o n (λ line k. line) well (λ t. (c.coheres.ensures well t).line_within) ok durable (between_by (content o.disk) (content n.disk) c.flush-outcome.ensures.either)))
    c.flush-outcome.ensures.end c.flush-outcome.ensures.ok c.flush-outcome.ensures.durable))

pub returns-clause-no_memory : goal.returns-clause-no_memory
returns-clause-no_memory g c =
    let content = g.D.Disk.content in
    let o = c.taken-log.result in
    let n = c.flush-outcome.new.self in
    let r = c.flush-outcome.result in
    let well = well_up c.self.inside.place o c.taken-log.ensures c.self.invariant in
    let now_is : c.args.self.now ≡ Up o = sym c.self.view_is ∙ c.taken-log.ensures in
    λ dry.
    let clear = dry_open r c.is_fault.result c.is_fault.ensures dry (λ e. cc e) in
    rw (now_is, c.placed.ensures.up clear) (stays_by content o n (c.flush-outcome.ensures.no_memory dry) (λ f now. (f, c.flush-outcome.ensures.no_image dry f now, λ p opens. opens)) (between_by (content o.disk) (content n.disk) c.flush-outcome.ensures.either))
