use Rattle.std.proofs.Common.{◌∙◌, ap, refl, arith}
use Rattle.registry.specs.Registry.{fresh_registry}
use Rattle.partition_commands.proofs.FreshDisks.{refuses_same}
use Rattle.partition_commands.proofs.partition_state.PartitionState.fresh.Goals as goal

pub returns-clause-partition_state : goal.returns-clause-partition_state
returns-clause-partition_state g c = record {
  registry = c.in-Ok.ensures ∙ ap fresh_registry (omega (arith, c.len-count.ensures));
  nodes = c.arm.ensures.nodes c.args.disks.now.items c.requires.disks (rw c.from_vec-nodes.ensures c.in_ok-nodes.ensures.nodes);
  clock = refl;
  copying = refl;
  packed = refl;
}

pub returns-clause-seen : goal.returns-clause-seen
returns-clause-seen g c = λ told. c.arm.ensures.seen (rw c.from_vec-nodes.ensures (c.in_ok-nodes.ensures.seen told))

pub returns-in_default-clause-err : goal.returns-in_default-clause-err
returns-in_default-clause-err g c = refuses_same g.D.Disk.content g.D.Disk.control c.args.disks.now.items _ refl c.requires.disks

pub returns-clause-laid : goal.returns-clause-laid
returns-clause-laid g c = c.arm.ensures.laid c.args.settings (rw c.from_vec-nodes.ensures c.in_ok-nodes.ensures.laid)
