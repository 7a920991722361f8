use Rattle.run_yard.proofs.Ran.{SoFar}
use Rattle.run_yard.proofs.runs.run_parts.Given as goal

abbrev pub invariant-loop-part : goal.invariant-loop-part
invariant-loop-part g l = SoFar g.Y.D.Disk g.Y.S.Store g.Y.M.MetaLog l.fn.config l.fn.parts l.part-iterator.rest.items (g.Y.Yard.held l.fn.yard) (g.Y.Yard.held l.yard)
    (g.Y.Yard.control l.fn.yard) (g.Y.Yard.control l.yard) l.text.items
