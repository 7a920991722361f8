use Rattle.std.proofs.Common.{◌∙◌, sym, ap, subst, refl, List, length, Some, arith}
use Rattle.std.specs.Prelude.{IsTrue}
use Rattle.registry.specs.declared.registry.Registry.{Registry}
use Rattle.registry_file.specs.Reading.{view_in}
use Rattle.registry_disk.specs.Keeping.{KeepsFile}
use Rattle.partition_world.specs.Cold.{IsReopened}
use Rattle.cold_start.specs.Stands.{StandsFor}
use Rattle.cold_start.proofs.Causes.{back_last}
use Rattle.cold_start.proofs.Clearing.{last_same}
use Rattle.cold_start.proofs.Leaving.{left_cold}
use Rattle.cold_start.proofs.Opened.{view_is, registry_is, replaced_has, still_stands, cold_recorded}
use Rattle.cold_start.proofs.cold.Cold.go_on.Goals as goal

pub returns-in-Err-clause-back : goal.returns-in-Err-clause-back
returns-in-Err-clause-back g c =
    back_last g.D.Disk g.M.MetaLog c.args.devices.disks.items c.args.devices.store c.args.devices.meta c.args.reg c.args.devices.disks.items c.args.devices.store c.settle_notes.new.meta c.device_refusal.result refl
    (last_same g.D.Disk.control c.args.devices.disks.items) refl c.in-Err.ensures.control

pub returns-in-Err-clause-stand : goal.returns-in-Err-clause-stand
returns-in-Err-clause-stand g c = λ p h.
    still_stands g.D.Disk g.S.Store g.M.MetaLog c.args.partition c.args.devices.disks.items c.args.devices.store c.args.devices.meta c.settle_notes.new.meta c.args.reg c.args.reg p h c.in-Err.ensures.content h.file_tells h.file

pub returns-in_default-clause-stand : goal.returns-in_default-clause-stand
returns-in_default-clause-stand g c = λ p h.
    still_stands g.D.Disk g.S.Store g.M.MetaLog c.args.partition c.args.devices.disks.items c.args.devices.store c.args.devices.meta c.settle_notes.new.meta c.args.reg c.args.reg p h c.settle_notes.ensures.content h.file_tells h.file

pub returns-in-Err-keep_registry-clause-stand : goal.returns-in-Err-keep_registry-clause-stand
returns-in-Err-keep_registry-clause-stand g c = λ p h.
    let rep = c.keep_registry.ensures.content in
    let is = view_is (g.D.Disk.content c.args.reg).files (g.D.Disk.control c.args.reg).last_read c.args.view p.registry h.file (c.requires.there h.file_tells) c.requires.read in
    let file = replaced_has c.file_laws.ensures (g.D.Disk.content c.args.reg) (g.D.Disk.content c.keep_registry.new.disk) c.args.view p.registry c.in-Ok-of.registry c.requires.rules is c.in-Ok-of.ensures.is h.file_tells rep h.file in
    still_stands g.D.Disk g.S.Store g.M.MetaLog c.args.partition c.args.devices.disks.items c.args.devices.store c.args.devices.meta c.settle_notes.new.meta c.args.reg c.keep_registry.new.disk p h c.settle_notes.ensures.content (subst IsTrue (sym rep.is_observable) h.file_tells) file

pub invariant_of-result : goal.invariant_of-result
invariant_of-result g c =
    let same = c.in-Ok-reopen.ensures.reopened.partition_state.registry_is in
    let long = ap (λ (r : Registry). length r.replicas) same in
    let count = c.in-Ok-of.ensures.count in
    let rules = c.requires.rules in
    record {
      unarmed = c.keep_registry.ensures.control.armed ∙ c.requires.registry;
      some = (let some = rules.some in omega (arith, long, count, some));
      few = (let few = rules.few in omega (arith, long, count, few));
      file = λ going. subst (λ (r : Registry). KeepsFile (g.D.Disk.content c.keep_registry.new.disk) r) (sym c.in-Ok-reopen.ensures.reopened.partition_state.registry_is) c.in-Ok-keep_registry.ensures.kept;
    }

pub returns-in-Ok-reopen-clause-cold : goal.returns-in-Ok-reopen-clause-cold
returns-in-Ok-reopen-clause-cold g c = λ told opening.
    let w = c.in-Ok-reopen.world in
    let same = c.in-Ok-reopen.ensures.reopened.partition_state.registry_is in
    let kept = subst (λ (r : Registry). KeepsFile (g.D.Disk.content c.keep_registry.new.disk) r) (sym same) c.in-Ok-keep_registry.ensures.kept in
    let long = ap (λ (r : Registry). length r.replicas) same in
    let count = c.in-Ok-of.ensures.count in
    let rules = c.requires.rules in
    left_cold c.file_laws.ensures g.D.Disk g.S.Store g.M.MetaLog g.met.D.Disk.lawful opening w c.keep_registry.new.disk told kept (let some = rules.some in omega (arith, long, count, some)) (let few = rules.few in omega (arith, long, count, few))

pub returns-in-Ok-reopen-clause-central : goal.returns-in-Ok-reopen-clause-central
returns-in-Ok-reopen-clause-central g c = λ p h.
    let is = view_is (g.D.Disk.content c.args.reg).files (g.D.Disk.control c.args.reg).last_read c.args.view p.registry h.file (c.requires.there h.file_tells) c.requires.read in
    c.in-Ok-reopen.ensures.central p
    (cold_recorded g.D.Disk g.S.Store g.M.MetaLog c.args.partition c.args.devices.disks.items c.args.devices.store c.args.devices.meta c.settle_notes.new.meta c.args.reg p c.in-Ok-of.registry h c.settle_notes.ensures.content c.in-Ok.ensures.settled c.in-Ok.ensures.few
    (c.in-Ok-of.ensures.is ∙ registry_is c.file_laws.ensures c.args.view p.registry is))

pub returns-in-Err-reopen-clause-stand : goal.returns-in-Err-reopen-clause-stand
returns-in-Err-reopen-clause-stand g c = λ p h.
    let rep = c.keep_registry.ensures.content in
    let is = view_is (g.D.Disk.content c.args.reg).files (g.D.Disk.control c.args.reg).last_read c.args.view p.registry h.file (c.requires.there h.file_tells) c.requires.read in
    let file = replaced_has c.file_laws.ensures (g.D.Disk.content c.args.reg) (g.D.Disk.content c.keep_registry.new.disk) c.args.view p.registry c.in-Ok-of.registry c.requires.rules is c.in-Ok-of.ensures.is h.file_tells rep h.file in
    let base = still_stands g.D.Disk g.S.Store g.M.MetaLog c.args.partition c.args.devices.disks.items c.args.devices.store c.args.devices.meta c.settle_notes.new.meta c.args.reg c.keep_registry.new.disk p h c.settle_notes.ensures.content (subst IsTrue (sym rep.is_observable) h.file_tells) file in
    let d = c.in-Err-reopen.devices in
    subst (λ (x : List g.row.D.Denot). StandsFor g.D.Disk g.S.Store g.M.MetaLog c.args.partition x d.store d.meta c.keep_registry.new.disk p) (sym c.in-Err-reopen.ensures.disks)
    (subst (λ (x : g.row.S.Denot). StandsFor g.D.Disk g.S.Store g.M.MetaLog c.args.partition c.args.devices.disks.items x d.meta c.keep_registry.new.disk p) (sym c.in-Err-reopen.ensures.store)
    (subst (λ (x : g.row.M.Denot). StandsFor g.D.Disk g.S.Store g.M.MetaLog c.args.partition c.args.devices.disks.items c.args.devices.store x c.keep_registry.new.disk p) (sym c.in-Err-reopen.ensures.meta) base))

pub returns-in-Ok-reopen-clause-opened : goal.returns-in-Ok-reopen-clause-opened
returns-in-Ok-reopen-clause-opened g c =
    let last_read = c.in-Ok-keep_registry.ensures.last_read in
    record {
      view = c.args.view;
      read = ap view_in last_read ∙ c.requires.read;
      there = λ told. c.requires.there told ∙ ap Some (sym last_read);
      count = grind (arith, c.if-view-config.false);
      recorded = c.settle_notes.new.meta;
      notes = c.in-Ok.ensures.content;
      notes_last = c.in-Ok.ensures.control;
      reopened = subst (λ (r : Registry). IsReopened g.D.Disk g.S.Store g.M.MetaLog c.args.partition c.args.config c.args.lists r c.args.devices.disks.items c.args.devices.store c.settle_notes.new.meta c.in-Ok-reopen.world) c.in-Ok-of.ensures.is c.in-Ok-reopen.ensures.reopened;
    }
