use Rattle.broker_log.proofs.Drops.{drops_by, drop_breaks}
use Rattle.broker_log.proofs.Showing.{stays_by}
use Rattle.broker_log.proofs.Placing.{ok_open, ok_told, dry_open, well_up}
use Rattle.local_log.specs.Dropping.{IsFirstFlushed}
use Rattle.broker_log.specs.Seen.{Up, LogState, WhileUp}
use Rattle.std.proofs.Common.{◌≡◌, ◌∙◌, sym, subst}
use Rattle.broker_log.proofs.Between.{between_by}
use Rattle.broker_log.proofs.broker.BrokerLog.drop_first.Goals as goal

pub returns-clause-ok : goal.returns-clause-ok
returns-clause-ok g c =
    let content = g.D.Disk.content in
    let o = c.taken-log.result in
    let n = c.drop_first-outcome.new.self in
    let r = c.drop_first-outcome.result in
    let well = well_up c.self.inside.place o c.taken-log.ensures c.self.invariant in
    let now_is : c.args.self.now ≡ Up o = sym c.self.view_is ∙ c.taken-log.ensures in
    let some : IsFirstFlushed o.flushed_end o.closed = subst (λ (k : LogState g.row.D.Denot). WhileUp k (λ log. IsFirstFlushed log.flushed_end log.closed)) now_is c.requires in
    ok_open _ r c.is_fault.result c.is_fault.ensures (λ clear.
    rw (now_is, c.placed.ensures.up clear) (ok_told _ _ r
    (λ answer spans b durable. drops_by content o some (c.coheres.ensures well) n well answer spans b durable (c.placed.ensures.coheres clear) (between_by (content o.disk) (content n.disk) c.drop_first-outcome.ensures.either))
    c.drop_first-outcome.ensures.answer c.drop_first-outcome.ensures.ok c.drop_first-outcome.ensures.durable))

pub returns-clause-no_memory : goal.returns-clause-no_memory
returns-clause-no_memory g c =
    let content = g.D.Disk.content in
    let o = c.taken-log.result in
    let n = c.drop_first-outcome.new.self in
    let r = c.drop_first-outcome.result in
    let well = well_up c.self.inside.place o c.taken-log.ensures c.self.invariant in
    let now_is : c.args.self.now ≡ Up o = sym c.self.view_is ∙ c.taken-log.ensures in
    λ dry.
    let clear = dry_open r c.is_fault.result c.is_fault.ensures dry (λ e. cc e) in
    rw (now_is, c.placed.ensures.up clear) (stays_by content o n (c.drop_first-outcome.ensures.no_memory dry) (λ f now. (f, c.drop_first-outcome.ensures.no_image dry f now, λ p opens. opens)) (between_by (content o.disk) (content n.disk) c.drop_first-outcome.ensures.either))

pub returns-clause-fault : goal.returns-clause-fault
returns-clause-fault g c =
    let content = g.D.Disk.content in
    let o = c.taken-log.result in
    let n = c.drop_first-outcome.new.self in
    let r = c.drop_first-outcome.result in
    let well = well_up c.self.inside.place o c.taken-log.ensures c.self.invariant in
    let now_is : c.args.self.now ≡ Up o = sym c.self.view_is ∙ c.taken-log.ensures in
    let some : IsFirstFlushed o.flushed_end o.closed = subst (λ (k : LogState g.row.D.Denot). WhileUp k (λ log. IsFirstFlushed log.flushed_end log.closed)) now_is c.requires in
    λ fault.
    rw (now_is, c.placed.ensures.down (c.is_fault.ensures.1 fault), c.settings-settings.ensures.are)
    (drop_breaks content o some (c.coheres.ensures well) n c.drop_first-outcome.ensures.is_observable (g.met.D.Disk.lawful n.disk) (c.placed.ensures.again (c.is_fault.ensures.1 fault)) c.drop_first-outcome.ensures.opens (between_by (content o.disk) (content n.disk) c.drop_first-outcome.ensures.either))
