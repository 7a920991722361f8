use Rattle.broker_log.proofs.Restarts.{restarts_by, restart_breaks}
use Rattle.broker_log.proofs.Showing.{stays_by}
use Rattle.broker_log.proofs.Placing.{on_open, on_both, dry_open, well_up}
use Rattle.broker_log.specs.Seen.{Up}
use Rattle.std.proofs.Common.{◌≡◌, ◌∙◌, sym}
use Rattle.broker_log.proofs.Between.{between_by}
use Rattle.broker_log.proofs.broker.BrokerLog.restart_at.Goals as goal

pub returns-clause-ok : goal.returns-clause-ok
returns-clause-ok g c =
    let content = g.D.Disk.content in
    let o = c.taken-log.result in
    let n = c.restart_at-outcome.new.self in
    let r = c.restart_at-outcome.result in
    let well = well_up c.self.inside.place o c.taken-log.ensures c.self.invariant in
    let now_is : c.args.self.now ≡ Up o = sym c.self.view_is ∙ c.taken-log.ensures in
    on_open _ r c.is_fault.result c.is_fault.ensures (λ clear.
    rw (now_is, c.placed.ensures.up clear) (on_both _ _ _ r
    (λ b durable. restarts_by content o c.args.start c.args.line n well b durable (c.placed.ensures.coheres clear) (between_by (content o.disk) (content n.disk) c.restart_at-outcome.ensures.either))
    c.restart_at-outcome.ensures.ok c.restart_at-outcome.ensures.durable))

pub returns-clause-no_memory : goal.returns-clause-no_memory
returns-clause-no_memory g c =
    let content = g.D.Disk.content in
    let o = c.taken-log.result in
    let n = c.restart_at-outcome.new.self in
    let r = c.restart_at-outcome.result in
    let well = well_up c.self.inside.place o c.taken-log.ensures c.self.invariant in
    let now_is : c.args.self.now ≡ Up o = sym c.self.view_is ∙ c.taken-log.ensures in
    λ dry.
    let clear = dry_open r c.is_fault.result c.is_fault.ensures dry (λ e. cc e) in
    rw (now_is, c.placed.ensures.up clear) (stays_by content o n (c.restart_at-outcome.ensures.no_memory dry) (λ f now. (f, c.restart_at-outcome.ensures.no_image dry f now, λ p opens. opens)) (between_by (content o.disk) (content n.disk) c.restart_at-outcome.ensures.either))

pub returns-clause-fault : goal.returns-clause-fault
returns-clause-fault g c =
    let content = g.D.Disk.content in
    let o = c.taken-log.result in
    let n = c.restart_at-outcome.new.self in
    let r = c.restart_at-outcome.result in
    let well = well_up c.self.inside.place o c.taken-log.ensures c.self.invariant in
    let now_is : c.args.self.now ≡ Up o = sym c.self.view_is ∙ c.taken-log.ensures in
    λ fault.
    rw (now_is, c.placed.ensures.down (c.is_fault.ensures.1 fault), c.settings-settings.ensures.are)
    (restart_breaks content o c.args.start c.args.line n c.restart_at-outcome.ensures.is_observable (g.met.D.Disk.lawful n.disk) (c.placed.ensures.again (c.is_fault.ensures.1 fault)) c.restart_at-outcome.ensures.opens (between_by (content o.disk) (content n.disk) c.restart_at-outcome.ensures.either))
