use Rattle.std.proofs.Common.{◌≡◌, ◌∙◌, sym}
use Rattle.epoch_line.specs.Line.{assign}
use Rattle.broker_log.specs.Seen.{Up}
use Rattle.broker_log.proofs.Placing.{ok_open, ok_told, well_up, dry_open}
use Rattle.broker_log.proofs.Showing.{settles_by, assigned_within, stays_by}
use Rattle.broker_log.proofs.Breaking.{breaks_settling}
use Rattle.broker_log.proofs.Between.{between_by}
use Rattle.broker_log.proofs.broker.BrokerLog.lead.Goals as goal

pub returns-clause-ok : goal.returns-clause-ok
returns-clause-ok g c =
    let content = g.D.Disk.content in
    let o = c.taken-log.result in
    let n = c.lead-outcome.new.self in
    let r = c.lead-outcome.result in
    let well = well_up c.self.inside.place o c.taken-log.ensures c.self.invariant in
    let now_is : c.args.self.now ≡ Up o = sym c.self.view_is ∙ c.taken-log.ensures in
    ok_open _ r c.is_fault.result c.is_fault.ensures (λ clear.
    rw (now_is, c.placed.ensures.up clear) (ok_told _ _ r
    (λ end is ok durable. rw is (settles_by content o n (λ line k. assign line c.args.epoch k) well (λ t. assigned_within o.line c.args.epoch o.end) ok durable (between_by (content o.disk) (content n.disk) c.lead-outcome.ensures.either)))
    c.lead-outcome.ensures.end c.lead-outcome.ensures.ok c.lead-outcome.ensures.durable))

pub returns-clause-fault : goal.returns-clause-fault
returns-clause-fault g c =
    let content = g.D.Disk.content in
    let o = c.taken-log.result in
    let n = c.lead-outcome.new.self in
    let well = well_up c.self.inside.place o c.taken-log.ensures c.self.invariant in
    let now_is : c.args.self.now ≡ Up o = sym c.self.view_is ∙ c.taken-log.ensures in
    λ fault.
    rw (now_is, c.placed.ensures.down (c.is_fault.ensures.1 fault), c.settings-settings.ensures.are)
    (breaks_settling content o n (g.met.D.Disk.lawful n.disk) (c.placed.ensures.again (c.is_fault.ensures.1 fault)) (λ line k. assign line c.args.epoch k) (λ t. assigned_within o.line c.args.epoch o.end) (c.lead-outcome.ensures.broken fault).is_observable c.lead-outcome.ensures.opens (between_by (content o.disk) (content n.disk) c.lead-outcome.ensures.either))

pub returns-clause-no_memory : goal.returns-clause-no_memory
returns-clause-no_memory g c =
    let content = g.D.Disk.content in
    let o = c.taken-log.result in
    let n = c.lead-outcome.new.self in
    let r = c.lead-outcome.result in
    let well = well_up c.self.inside.place o c.taken-log.ensures c.self.invariant in
    let now_is : c.args.self.now ≡ Up o = sym c.self.view_is ∙ c.taken-log.ensures in
    λ dry.
    let clear = dry_open r c.is_fault.result c.is_fault.ensures dry (λ e. cc e) in
    rw (now_is, c.placed.ensures.up clear) (stays_by content o n (c.lead-outcome.ensures.no_memory dry) (λ f now. (f, c.lead-outcome.ensures.no_image dry f now, λ p opens. opens)) (between_by (content o.disk) (content n.disk) c.lead-outcome.ensures.either))
