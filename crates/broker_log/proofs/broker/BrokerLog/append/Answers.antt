use Rattle.std.proofs.Common.{◌≡◌, ◌∙◌, ap, sym}
use Rattle.local_log.specs.Log.{Log}
use Rattle.broker_log.specs.Seen.{Up}
use Rattle.broker_log.proofs.Placing.{ok_open, dry_open, ok_both, whole_by, well_up, place_well}
use Rattle.broker_log.proofs.Showing.{appends_by, appended_whole, stays_by, image_as}
use Rattle.broker_log.proofs.Breaking.{breaks_unsaved}
use Rattle.broker_log.proofs.Between.{between_as}
use Rattle.broker_log.proofs.broker.BrokerLog.append.Goals as goal

pub invariant_of-self : goal.invariant_of-self
invariant_of-self g c =
    let content = g.D.Disk.content in
    let o = c.taken-log.result in
    let n = c.append-outcome.new.self in
    let r = c.append-outcome.result in
    let well = well_up c.self.inside.place o c.taken-log.ensures c.self.invariant in
    place_well c.placed.result c.settings-settings.result.now n c.is_append_fault.result c.settings-settings.ensures.fit c.placed.ensures.up c.placed.ensures.down
    (λ clear. whole_by _ _ _ _ r c.append-outcome.ensures.ok c.append-outcome.ensures.others
    (λ answer a. appended_whole content o n c.args.run.now answer a ∙ well)
    (λ kept. ap (λ (l : Log g.row.D.Denot). l.broken) (c.append-outcome.ensures.unchanged kept) ∙ well)
    (λ dry. ap (λ (l : Log g.row.D.Denot). l.broken) (c.append-outcome.ensures.no_memory dry).fields ∙ well)
    (λ fault. (let t = c.is_append_fault.ensures.1 fault in cc (t, clear))))

pub returns-clause-ok : goal.returns-clause-ok
returns-clause-ok g c =
    let content = g.D.Disk.content in
    let o = c.taken-log.result in
    let n = c.append-outcome.new.self in
    let r = c.append-outcome.result in
    let well = well_up c.self.inside.place o c.taken-log.ensures c.self.invariant in
    let now_is : c.args.self.now ≡ Up o = sym c.self.view_is ∙ c.taken-log.ensures in
    ok_open _ r c.is_append_fault.result c.is_append_fault.ensures (λ clear.
    rw (now_is, c.placed.ensures.up clear) (ok_both _ _ _ r
    (λ answer a up. appends_by content o n (g.met.D.Disk.lawful n.disk) (c.coheres.ensures well) c.args.run.now answer a up c.append-outcome.ensures.opens (c.placed.ensures.coheres clear))
    c.append-outcome.ensures.ok c.append-outcome.ensures.some))

pub returns-clause-no_memory : goal.returns-clause-no_memory
returns-clause-no_memory g c =
    let content = g.D.Disk.content in
    let o = c.taken-log.result in
    let n = c.append-outcome.new.self in
    let r = c.append-outcome.result in
    let now_is : c.args.self.now ≡ Up o = sym c.self.view_is ∙ c.taken-log.ensures in
    λ dry.
    let clear = dry_open r c.is_append_fault.result c.is_append_fault.ensures dry (λ e. cc e) in
    rw (now_is, c.placed.ensures.up clear) (stays_by content o n (c.append-outcome.ensures.no_memory dry) (image_as (content o.disk) (content n.disk) (g.met.D.Disk.lawful n.disk) c.append-outcome.ensures.opens) (between_as (content o.disk) (content n.disk) c.append-outcome.ensures.opens))

pub returns-clause-fault : goal.returns-clause-fault
returns-clause-fault g c =
    let content = g.D.Disk.content in
    let o = c.taken-log.result in
    let n = c.append-outcome.new.self in
    let now_is : c.args.self.now ≡ Up o = sym c.self.view_is ∙ c.taken-log.ensures in
    λ fault.
    rw (now_is, c.placed.ensures.down (c.is_append_fault.ensures.1 fault), c.settings-settings.ensures.are)
    (breaks_unsaved content o n (g.met.D.Disk.lawful n.disk) (c.placed.ensures.again (c.is_append_fault.ensures.1 fault)) (c.append-outcome.ensures.broken fault).is_observable c.append-outcome.ensures.opens)
