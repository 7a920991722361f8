use Rattle.std.proofs.Common.{◌∙◌, sym, ap, subst, refl}
use Rattle.tier_base.specs.Device.{Lasts}
use Rattle.plain_log.specs.declared.command.Config.{Config}
use Rattle.plain_log.specs.Fresh.{fresh as fresh_plain}
use Rattle.partition_commands.proofs.FreshDisks.{failed_any}
use Rattle.partition_world.specs.Left.{IsCentralLeft}
use Rattle.partition_world.specs.Whole.{Whole}
use Rattle.cold_start.specs.Opening.{OpeningHasCause}
use Rattle.cold_start.specs.declared.refusal.ColdRefusal.{ColdRefusal}
use Rattle.cold_start.proofs.Causes.{if_ok_map, if_err_map, back_last, back_armed, registry_cause, world_cause, none_says}
use Rattle.cold_start.proofs.Clearing.{last_same, last_long, last_back, failed_after}
use Rattle.cold_start.proofs.Opened.{blank_recorded, seen_empty, told_alone, begun_stands}
use Rattle.cold_start.proofs.cold.Cold.start.Goals as goal

pub returns-in-Err-clause-back : goal.returns-in-Err-clause-back
returns-in-Err-clause-back g c =
    back_last g.D.Disk g.M.MetaLog c.args.devices.disks.items c.args.devices.store c.args.devices.meta c.args.reg c.args.devices.disks.items c.args.devices.store c.settle_notes.new.meta c.device_refusal.result refl
    (last_same g.D.Disk.control c.args.devices.disks.items) refl c.in-Err.ensures.control

pub returns-in-Ok-fresh-clause-blank : goal.returns-in-Ok-fresh-clause-blank
returns-in-Ok-fresh-clause-blank g c =
    if_ok_map c.begun.result _ _
    (λ t k tell blank.
    let held = blank_recorded g.D.Disk g.S.Store g.M.MetaLog c.args.devices.store c.args.devices.meta c.settle_notes.new.meta c.args.reg blank c.settle_notes.ensures.content in
    let fresh = c.in-Ok-fresh.ensures.fresh in
    let seen = seen_empty g.D.Disk g.S.Store g.M.MetaLog c.args.partition c.args.config c.args.lists c.clear_all.new.disks.items c.args.devices.store c.settle_notes.new.meta c.args.reg c.in-Ok-fresh.world held fresh (c.in-Ok-fresh.ensures.told (c.clear_all.ensures.tell tell)) in
    let told = told_alone g.D.Disk g.S.Store g.M.MetaLog c.settle_notes.new.meta c.in-Ok-fresh.world.tier.meta fresh.tier.notes (c.in-Ok.ensures.settled blank.meta_tells) in
    subst (λ (w : Whole g.row.D.Denot g.row.S.Denot g.row.M.Denot). IsCentralLeft g.D.Disk g.S.Store g.M.MetaLog (fresh_plain c.args.config) w) (sym k.0) (c.in-Ok-fresh.ensures.central_left seen told))
    c.begun.ensures.ok

pub returns-in-Ok-fresh-clause-begun : goal.returns-in-Ok-fresh-clause-begun
returns-in-Ok-fresh-clause-begun g c =
    if_err_map c.begun.result _ _
    (λ e k tell blank.
    let held = blank_recorded g.D.Disk g.S.Store g.M.MetaLog c.args.devices.store c.args.devices.meta c.settle_notes.new.meta c.args.reg blank c.settle_notes.ensures.content in
    let fresh = c.in-Ok-fresh.ensures.fresh in
    let seen = seen_empty g.D.Disk g.S.Store g.M.MetaLog c.args.partition c.args.config c.args.lists c.clear_all.new.disks.items c.args.devices.store c.settle_notes.new.meta c.args.reg c.in-Ok-fresh.world held fresh (c.in-Ok-fresh.ensures.told (c.clear_all.ensures.tell tell)) in
    let told = told_alone g.D.Disk g.S.Store g.M.MetaLog c.settle_notes.new.meta c.in-Ok-fresh.world.tier.meta fresh.tier.notes (c.in-Ok.ensures.settled blank.meta_tells) in
    begun_stands g.D.Disk g.S.Store g.M.MetaLog c.file_laws.ensures c.args.partition c.args.config c.args.lists c.clear_all.new.disks.items c.args.devices.store c.settle_notes.new.meta c.args.reg c.in-Ok-fresh.world (fresh_plain c.args.config) e.0.disks.items e.0.store e.0.meta e.1 e.2
    held fresh (c.in-Ok-fresh.ensures.central_left seen told) k)
    c.begun.ensures.err

pub returns-in-Err-fresh-clause-cause : goal.returns-in-Err-fresh-clause-cause
returns-in-Err-fresh-clause-cause g c =
    let d = c.in-Err-fresh.devices in
    subst (λ (why : ColdRefusal). OpeningHasCause g.D.Disk g.M.MetaLog c.args.config c.args.devices.disks.items c.args.devices.meta c.args.reg d.disks.items d.meta c.args.reg why) (sym c.world_refusal.ensures)
    (world_cause g.D.Disk g.M.MetaLog c.args.config c.args.devices.disks.items c.args.devices.meta c.args.reg d.disks.items d.meta c.args.reg c.in-Err-fresh.why
    (λ is. failed_after g.D.Disk.control c.args.devices.disks.items c.clear_all.new.disks.items d.disks.items c.clear_all.ensures.control (failed_any g.D.Disk.content g.D.Disk.control c.clear_all.new.disks.items d.disks.items (c.in-Err-fresh.ensures.err.once is)))
    (none_says g.D.Disk g.M.MetaLog c.args.config c.args.reg c.requires.none))

pub returns-in-Err-fresh-clause-back : goal.returns-in-Err-fresh-clause-back
returns-in-Err-fresh-clause-back g c =
    let d = c.in-Err-fresh.devices in
    let last = last_back g.D.Disk.control c.args.devices.disks.items c.clear_all.new.disks.items d.disks.items c.clear_all.ensures.control c.in-Err-fresh.ensures.err.back in
    back_last g.D.Disk g.M.MetaLog c.args.devices.disks.items c.args.devices.store c.args.devices.meta c.args.reg d.disks.items d.store d.meta c.world_refusal.result (last_long g.D.Disk.control c.args.devices.disks.items d.disks.items last) last c.in-Err-fresh.ensures.store
    (subst (λ (m : g.row.M.Denot). Lasts (g.M.MetaLog.control c.args.devices.meta) (g.M.MetaLog.control m)) (sym c.in-Err-fresh.ensures.meta) c.settle_notes.ensures.control)

pub returns-in-Ok-fresh-clause-cause : goal.returns-in-Ok-fresh-clause-cause
returns-in-Ok-fresh-clause-cause g c =
    if_err_map c.begun.result _ _
    (λ e k.
    registry_cause g.D.Disk g.M.MetaLog c.args.config c.args.devices.disks.items c.args.devices.meta c.args.reg e.0.disks.items e.0.meta e.1 e.2 k.only k.cause (none_says g.D.Disk g.M.MetaLog c.args.config c.args.reg c.requires.none))
    c.begun.ensures.err

pub returns-in-Ok-fresh-clause-back : goal.returns-in-Ok-fresh-clause-back
returns-in-Ok-fresh-clause-back g c =
    let fresh = c.in-Ok-fresh.ensures.fresh in
    if_err_map c.begun.result _ _
    (λ e k.
    back_armed g.D.Disk g.M.MetaLog c.args.devices.disks.items c.args.devices.store c.args.devices.meta c.args.reg e.0.disks.items e.0.store e.0.meta e.1 e.2 k.only
    (k.count ∙ (ap (λ (s : Config). s.brokers) fresh.config_is ∙ sym c.requires.count)) k.control)
    c.begun.ensures.err
