use Rattle.std.proofs.Common.{sym, ◌-◌, arith, length}
use Rattle.sparse_index.proofs.OffsetLaws.{last-columns}
use Rattle.sparse_index.proofs.offset_index.last_of.Goals as goal

pub returns : goal.returns
returns c = sym (last-columns c.args.offsets.now c.args.positions.now (length c.args.offsets.now - 1) c.requires (omega (arith, c.if-count-eq0.false)))
