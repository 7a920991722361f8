use Rattle.std.proofs.Common.{◌≡◌, ◌<◌, IsTrue}
use Rattle.tier_base.specs.declared.names.PartitionId.{PartitionId}
use Rattle.run_yard.specs.Reading.{OnlyReads, Suits, ReadsMore}
use Rattle.run_yard.specs.Yard.{AllCameBack}
use Rattle.run_yard.proofs.checking.check_all.Given as goal

abbrev pub invariant-loop-part : goal.invariant-loop-part
invariant-loop-part g l = record {
  read : IsTrue (g.Y.Yard.held l.fn.yard).is_observable → OnlyReads g.Y.D.Disk.content g.Y.S.Store.content g.Y.M.MetaLog.content (g.Y.Yard.held l.fn.yard) (g.Y.Yard.held l.yard);
  is_observable : (g.Y.Yard.held l.yard).is_observable ≡ (g.Y.Yard.held l.fn.yard).is_observable;
  used : AllCameBack (g.Y.Yard.control l.fn.yard) (g.Y.Yard.control l.yard);
  more : ReadsMore (g.Y.Yard.control l.fn.yard) (g.Y.Yard.control l.yard);
  suit : IsTrue (g.Y.Yard.held l.fn.yard).is_observable → (q : PartitionId) → q.0 < l.part-index → Suits g.Y.D.Disk.content g.Y.S.Store.content g.Y.M.MetaLog.content l.fn.asked (g.Y.Yard.held l.fn.yard) q;
}
