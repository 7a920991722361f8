use Rattle.std.proofs.Common.{ap, length, List, arith}
use Rattle.log_terms.proofs.Lists.{within}
use Rattle.partition_commands.specs.Disks.{WillReopen}
use Rattle.partition_commands.proofs.Reopening.{each_next_of}
use Rattle.partition_commands.proofs.partition_state.PartitionState.reopens.Goals as goal

pub loop-node-preserved : goal.loop-node-preserved
loop-node-preserved g c =
    each_next_of (WillReopen g.D.Disk.content) c.args.self.now.nodes c.as_slice-node-items.result.now c.loop-node.node-index _ c.node-item.result c.as_slice-node-items.ensures c.loop-node.invariant c.loop-node-test.true c.node-item.is
    c.reopens.ensures

pub returns : goal.returns
returns g c = λ b x at. (let lt = within c.args.self.now.nodes b x at in let same = ap (λ (l : List _). length l) c.as_slice-node-items.ensures in
    c.loop-node.invariant b x (omega (arith, lt, same, c.loop-node-test.false)) at)
