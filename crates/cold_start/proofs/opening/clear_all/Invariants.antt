use Rattle.cold_start.proofs.Clearing.{ClearedTo}
use Rattle.cold_start.proofs.opening.clear_all.Given as goal

abbrev pub invariant-loop-at : goal.invariant-loop-at
invariant-loop-at g l = ClearedTo g.D.Disk.content g.D.Disk.control l.at l.initial.disks.items l.disks.items
