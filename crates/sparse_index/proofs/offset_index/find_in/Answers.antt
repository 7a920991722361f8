use Rattle.std.proofs.Common.{sym, ◌∙◌, ◌≡◌, ◌+◌, ◌-◌, arith}
use Rattle.sparse_index.proofs.OffsetLaws.{found-none, found-at}
use Rattle.sparse_index.proofs.offset_index.find_in.Goals as goal

pub returns-then-count-eq0 : goal.returns-then-count-eq0
returns-then-count-eq0 c = sym (found-none c.args.base c.args.offset c.args.offsets.now c.args.positions.now c.requires (sym c.count_in-count.ensures.count ∙ c.if-count-eq0.true))

pub returns : goal.returns
returns c = sym (found-at c.args.base c.args.offset (c.count_in-count.result - 1) c.args.offsets.now c.args.positions.now c.requires (let one : c.count_in-count.result - 1 + 1 ≡ c.count_in-count.result = omega (arith, c.if-count-eq0.false) in one ∙ c.count_in-count.ensures.count))
