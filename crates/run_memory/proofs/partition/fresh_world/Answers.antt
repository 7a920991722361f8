use Rattle.std.proofs.Common.{◌≡◌, ◌∙◌, sym}
use Rattle.partition_commands.specs.declared.refusal.WorldRefusal.{WorldRefusal}
use Rattle.partition_commands.specs.declared.refusal.WorldRefusal.TheVariants.{DiskFault, NoMemory}
use Rattle.run_memory.proofs.MemoryDevices.{disk, store, meta}
use Rattle.run_memory.proofs.Opening.{seen_empty}
use Rattle.run_memory.proofs.Planning.{planned_infallible}
use Rattle.run_memory.proofs.partition.fresh_world.Goals as goal

pub unreachable-requires : goal.unreachable-requires
unreachable-requires c =
    let memory = c.in-Err-default-DiskFault.ensures.memory (planned_infallible disk.control c.args.faults.now 0 c.in_ok-devices.devices.disks.items c.in_ok-devices.ensures.planned.disk_plans) in
    absurd (let no : ◌≡◌ {A = WorldRefusal} DiskFault NoMemory = sym c.in-Err-default-DiskFault.field-0-1-is ∙ memory in cc)

pub returns-in-Ok-clause-fresh : goal.returns-in-Ok-clause-fresh
returns-in-Ok-clause-fresh c =
    let given = c.in_ok-devices.devices in
    record {
      disks = given.disks.items;
      objects = given.store;
      notes = given.meta;
      planned = c.in_ok-devices.ensures.planned;
      fresh = c.in-Ok.ensures.fresh;
      empty = seen_empty disk store meta c.args.partition c.args.config c.args.lists given.disks.items given.store given.meta c.in-Ok.world
          c.in-Ok.ensures.fresh c.in_ok-devices.ensures.blank c.in-Ok.ensures.told;
    }

pub returns-in-Ok-clause-central : goal.returns-in-Ok-clause-central
returns-in-Ok-clause-central c =
    let given = c.in_ok-devices.devices in
    c.in-Ok.ensures.central (seen_empty disk store meta c.args.partition c.args.config c.args.lists given.disks.items given.store given.meta c.in-Ok.world
    c.in-Ok.ensures.fresh c.in_ok-devices.ensures.blank c.in-Ok.ensures.told)
