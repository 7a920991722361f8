use Rattle.yard_audit.proofs.Sweeps.{SoFar}
use Rattle.yard_audit.proofs.sweeping.sweep_all.Given as goal

abbrev pub invariant-loop-partition : goal.invariant-loop-partition
invariant-loop-partition g l = SoFar g.Y.D.Disk.content g.Y.S.Store.content g.Y.M.MetaLog.content l.partition-iterator.rest.items (g.Y.Yard.held l.fn.yard) (g.Y.Yard.held l.yard)
    (g.Y.Yard.control l.fn.yard) (g.Y.Yard.control l.yard) l.text.items
