use Rattle.std.proofs.Common.{◌≡◌, ◌∙◌, ap, sym}
use Rattle.local_log.specs.Log.{Log}
use Rattle.broker_log.specs.Seen.{Up}
use Rattle.broker_log.proofs.Placing.{dry_open, ended_ok, ended_err, ended_dry, ended_fault, well_up, place_well, whole_on}
use Rattle.broker_log.proofs.Cuts.{cuts_by, cut_breaks, cut_same}
use Rattle.broker_log.proofs.Showing.{stays_by}
use Rattle.broker_log.proofs.Between.{between_by}
use Rattle.broker_log.proofs.broker.BrokerLog.cut_to.Goals as goal

pub invariant_of-self : goal.invariant_of-self
invariant_of-self g c =
    let o = c.taken-log.result in
    let n = c.cut_to-outcome.new.self in
    let r = c.cut_to-outcome.result in
    let well = well_up c.self.inside.place o c.taken-log.ensures c.self.invariant in
    place_well c.placed.result c.settings-settings.result.now n c.is_fault.result c.settings-settings.ensures.fit c.placed.ensures.up c.placed.ensures.down
    (λ clear. whole_on _ _ _ _ r c.cut_to-outcome.ensures.ok c.cut_to-outcome.ensures.durable c.cut_to-outcome.ensures.others
    (λ b durable. ap (λ (l : Log g.row.D.Denot). l.broken) b.fields ∙ (cut_same o c.args.end).2 ∙ well)
    (λ dry. ap (λ (l : Log g.row.D.Denot). l.broken) (c.cut_to-outcome.ensures.no_memory dry).fields ∙ well)
    (λ fault. (let t = c.is_fault.ensures.1 fault in cc (t, clear))))

pub returns-clause-ok : goal.returns-clause-ok
returns-clause-ok g c =
    let content = g.D.Disk.content in
    let o = c.taken-log.result in
    let n = c.cut_to-outcome.new.self in
    let r = c.cut_to-outcome.result in
    let well = well_up c.self.inside.place o c.taken-log.ensures c.self.invariant in
    let now_is : c.args.self.now ≡ Up o = sym c.self.view_is ∙ c.taken-log.ensures in
    ended_ok _ r c.ended.result c.end-now.result c.is_fault.result c.is_fault.ensures c.ended.ensures.ok c.ended.ensures.err c.cut_to-outcome.ensures.ok c.cut_to-outcome.ensures.durable (λ clear b durable.
    rw (now_is, c.placed.ensures.up clear, c.end-now.ensures) (cuts_by content o c.args.end (c.coheres.ensures well) n well b durable (cut_same o c.args.end).0 (cut_same o c.args.end).1 (cut_same o c.args.end).2 (c.placed.ensures.coheres clear) (between_by (content o.disk) (content n.disk) c.cut_to-outcome.ensures.either)))

pub returns-clause-refused : goal.returns-clause-refused
returns-clause-refused g c = ended_err c.cut_to-outcome.result c.ended.result c.end-now.result c.ended.ensures.ok c.ended.ensures.err c.cut_to-outcome.ensures.others

pub returns-clause-no_memory : goal.returns-clause-no_memory
returns-clause-no_memory g c =
    let content = g.D.Disk.content in
    let o = c.taken-log.result in
    let n = c.cut_to-outcome.new.self in
    let r = c.cut_to-outcome.result in
    let well = well_up c.self.inside.place o c.taken-log.ensures c.self.invariant in
    let now_is : c.args.self.now ≡ Up o = sym c.self.view_is ∙ c.taken-log.ensures in
    λ dried.
    let dry = ended_dry r c.ended.result c.end-now.result c.ended.ensures.ok c.ended.ensures.err dried in
    let clear = dry_open r c.is_fault.result c.is_fault.ensures dry (λ e. cc e) in
    rw (now_is, c.placed.ensures.up clear) (stays_by content o n (c.cut_to-outcome.ensures.no_memory dry) (λ f now. (f, c.cut_to-outcome.ensures.no_image dry f now, λ p opens. opens)) (between_by (content o.disk) (content n.disk) c.cut_to-outcome.ensures.either))

pub returns-clause-fault : goal.returns-clause-fault
returns-clause-fault g c =
    let content = g.D.Disk.content in
    let o = c.taken-log.result in
    let n = c.cut_to-outcome.new.self in
    let r = c.cut_to-outcome.result in
    let well = well_up c.self.inside.place o c.taken-log.ensures c.self.invariant in
    let now_is : c.args.self.now ≡ Up o = sym c.self.view_is ∙ c.taken-log.ensures in
    λ failed.
    let fault = ended_fault r c.ended.result c.end-now.result c.ended.ensures.ok c.ended.ensures.err failed in
    rw (now_is, c.placed.ensures.down (c.is_fault.ensures.1 fault), c.settings-settings.ensures.are)
    (cut_breaks content o c.args.end (c.coheres.ensures well) n c.cut_to-outcome.ensures.is_observable (g.met.D.Disk.lawful n.disk) (c.placed.ensures.again (c.is_fault.ensures.1 fault)) c.cut_to-outcome.ensures.opens (cut_same o c.args.end).1 (between_by (content o.disk) (content n.disk) c.cut_to-outcome.ensures.either))
