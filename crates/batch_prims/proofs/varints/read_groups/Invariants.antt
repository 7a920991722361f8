use Rattle.std.proofs.Common.{◌≡◌, ◌-◌, drop}
use Rattle.batch_prims.specs.Varint.{seen, low_bits, groups_at}
use Rattle.batch_prims.proofs.Groups.{under}
use Rattle.batch_prims.proofs.varints.read_groups.Given as goal

abbrev pub invariant-loop-i : goal.invariant-loop-i
invariant-loop-i l =
    seen (under l.number l.i) (groups_at (l.most - l.i) (drop l.i l.bytes)) ≡ seen (low_bits 64) (groups_at l.most l.bytes)
