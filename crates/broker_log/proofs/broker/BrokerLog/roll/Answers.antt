use Rattle.std.proofs.Common.{◌≡◌, ◌∙◌, sym}
use Rattle.std.specs.Prelude.{length}
use Rattle.local_log.specs.Stored.{size_of}
use Rattle.broker_log.specs.Seen.{Up}
use Rattle.broker_log.proofs.Placing.{on_open, dry_open, on_told, rolls_where}
use Rattle.broker_log.proofs.Showing.{stays_by, rolls_by, image_as}
use Rattle.broker_log.proofs.Breaking.{breaks_unsaved}
use Rattle.broker_log.proofs.Between.{between_as}
use Rattle.broker_log.proofs.broker.BrokerLog.roll.Goals as goal

pub returns-clause-ok : goal.returns-clause-ok
returns-clause-ok g c =
    let content = g.D.Disk.content in
    let o = c.taken-log.result in
    let n = c.roll-outcome.new.self in
    let r = c.roll-outcome.result in
    let now_is : c.args.self.now ≡ Up o = sym c.self.view_is ∙ c.taken-log.ensures in
    on_open _ r c.is_roll_fault.result c.is_roll_fault.ensures (λ clear.
    rw (now_is, c.placed.ensures.up clear) (on_told _ _ r
    (λ b. rolls_by content o n b (image_as (content o.disk) (content n.disk) (g.met.D.Disk.lawful n.disk) c.roll-outcome.ensures.opens) (c.placed.ensures.coheres clear) (between_as (content o.disk) (content n.disk) c.roll-outcome.ensures.opens))
    c.roll-outcome.ensures.ok))

pub returns-clause-no_memory : goal.returns-clause-no_memory
returns-clause-no_memory g c =
    let content = g.D.Disk.content in
    let o = c.taken-log.result in
    let n = c.roll-outcome.new.self in
    let r = c.roll-outcome.result in
    let now_is : c.args.self.now ≡ Up o = sym c.self.view_is ∙ c.taken-log.ensures in
    λ dry.
    let clear = dry_open r c.is_roll_fault.result c.is_roll_fault.ensures dry (λ e. cc e) in
    rw (now_is, c.placed.ensures.up clear) (stays_by content o n (c.roll-outcome.ensures.no_memory dry) (image_as (content o.disk) (content n.disk) (g.met.D.Disk.lawful n.disk) c.roll-outcome.ensures.opens) (between_as (content o.disk) (content n.disk) c.roll-outcome.ensures.opens))

pub returns-clause-fault : goal.returns-clause-fault
returns-clause-fault g c =
    let content = g.D.Disk.content in
    let o = c.taken-log.result in
    let n = c.roll-outcome.new.self in
    let now_is : c.args.self.now ≡ Up o = sym c.self.view_is ∙ c.taken-log.ensures in
    λ fault.
    rw (now_is, c.placed.ensures.down (c.is_roll_fault.ensures.1 fault), c.settings-settings.ensures.are)
    (breaks_unsaved content o n (g.met.D.Disk.lawful n.disk) (c.placed.ensures.again (c.is_roll_fault.ensures.1 fault)) (c.roll-outcome.ensures.broken fault).is_observable c.roll-outcome.ensures.opens)

pub returns-clause-may : goal.returns-clause-may
returns-clause-may g c =
    let o = c.taken-log.result in
    let now_is : c.args.self.now ≡ Up o = sym c.self.view_is ∙ c.taken-log.ensures in
    λ ended. rw now_is (rolls_where c.roll-outcome.result (size_of o.active) (length o.closed) c.roll-outcome.ensures.empty c.roll-outcome.ensures.many ended)
