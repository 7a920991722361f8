use Rattle.partition_commands.proofs.ColdDisks.{disks_reopen}
use Rattle.partition_commands.proofs.partition_state.PartitionState.close.Goals as goal

pub returns-clause-again : goal.returns-clause-again
returns-clause-again g c =
    disks_reopen g.D.Disk.content c.args.self.nodes c.give_back.new.disks.items c.reopens.ensures (rw c.into_vec.ensures at c.give_back.ensures.disks)
