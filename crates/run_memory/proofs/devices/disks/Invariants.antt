use Rattle.std.proofs.Common.{◌≡◌, length}
use Rattle.partition_commands.specs.Fresh.{AreFreshDisks, DisksTell}
use Rattle.run_memory.specs.Plans.{ArePlanned}
use Rattle.run_memory.proofs.MemoryDevices.{content, control}
use Rattle.run_memory.proofs.devices.disks.Given as goal

abbrev pub invariant-loop-broker : goal.invariant-loop-broker
invariant-loop-broker l = record {
  count : length l.disks.items ≡ l.broker;
  fresh : AreFreshDisks content control l.disks.items;
  told : DisksTell content l.disks.items;
  planned : ArePlanned control l.fn.faults 0 l.disks.items;
}
