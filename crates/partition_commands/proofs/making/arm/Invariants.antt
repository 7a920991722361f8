use Rattle.partition_commands.proofs.FreshDisks.{AreArmed}
use Rattle.partition_commands.proofs.making.arm.Given as goal

abbrev pub invariant-loop-i : goal.invariant-loop-i
invariant-loop-i g l = AreArmed g.D.Disk.content g.D.Disk.control l.i l.fn.nodes l.nodes
