use Rattle.std.proofs.Common.{◌≡◌, ◌≤◌, length, vec_capacity}
use Rattle.run_yard.proofs.Out.{SoFar}
use Rattle.run_yard.proofs.handing.hand_disks.Given as goal

abbrev pub invariant-loop-broker : goal.invariant-loop-broker
invariant-loop-broker g l = record {
  at : l.broker ≡ length l.disks.items;
  most : l.broker ≤ l.fn.count;
  room : l.fn.count ≤ vec_capacity l.disks;
  so_far : SoFar g.Y.D.Disk g.Y.S.Store g.Y.M.MetaLog l.fn.partition (g.Y.Yard.held l.fn.yard) (g.Y.Yard.held l.yard) (g.Y.Yard.control l.fn.yard) (g.Y.Yard.control l.yard) l.disks.items;
}
