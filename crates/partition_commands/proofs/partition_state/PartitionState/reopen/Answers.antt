use Rattle.std.proofs.Common.{◌∙◌, ap, refl, List, ◌++◌}
use Rattle.std.specs.Prelude.{map}
use Rattle.partition_commands.specs.declared.partition_state.Node.{Node}
use Rattle.partition_commands.specs.Cold.{cold_node}
use Rattle.partition_commands.proofs.ColdDisks.{cold_shown}
use Rattle.partition_commands.proofs.partition_state.PartitionState.reopen.Goals as goal

pub returns-clause-partition_state : goal.returns-clause-partition_state
returns-clause-partition_state g c =
    let down = map (cold_node c.args.settings) c.args.disks.now.items in
    record {
      registry_is = refl;
      nodes = c.arm.ensures.cold c.args.settings c.args.disks.now.items
          (c.from_vec-nodes.ensures ∙ (c.set_down.ensures.nodes ∙ ap (λ (l : List (Node g.row.D.Denot)). l ++ down) c.in_ok-nodes.ensures.items));
      clock = refl;
      copying = refl;
      packed = refl;
    }

pub returns-clause-seen : goal.returns-clause-seen
returns-clause-seen g c = λ ss shows.
    cold_shown g.D.Disk.content g.D.Disk.control c.args.settings c.args.registry c.args.disks.now.items _ ss (returns-clause-partition_state g c) shows
