use Rattle.std.proofs.Common.{◌≡◌, ℕ, ◌<◌, slice_get, Some}
use Rattle.partition_commands.specs.declared.partition_state.Node.{Node}
use Rattle.partition_commands.specs.Disks.{WillReopen}
use Rattle.partition_commands.proofs.partition_state.PartitionState.reopens.Given as goal

-- the logs so far can be
abbrev pub invariant-loop-node : goal.invariant-loop-node
invariant-loop-node g l = (b : ℕ) (x : Node _) → b < l.node-index → slice_get l.fn.self.nodes b ≡ Some x → WillReopen g.D.Disk.content x
