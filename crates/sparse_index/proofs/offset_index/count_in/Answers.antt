use Rattle.std.proofs.Common.{sym, ◌∙◌, ◌-◌}
use Rattle.std.specs.List.{zip}
use Rattle.sparse_index.proofs.OffsetLaws.{none-below, all-far, column-parted, column-counted}
use Rattle.sparse_index.proofs.offset_index.count_in.Goals as goal

pub returns-then-offset-base-clause-count : goal.returns-then-offset-base-clause-count
returns-then-offset-base-clause-count c = sym (none-below c.args.base c.args.offset (zip c.args.offsets.now c.args.positions.now) c.if-offset-base.true)

pub returns-then-far-clause-count : goal.returns-then-far-clause-count
returns-then-far-clause-count c = sym (all-far c.args.base c.args.offset c.args.offsets.now c.args.positions.now c.requires c.if-offset-base.false c.if-far.true)

pub count_up_to-requires : goal.count_up_to-requires
count_up_to-requires c = column-parted (c.args.offset - c.args.base) c.args.offsets.now c.args.positions.now c.requires.even c.requires.entries

pub returns-clause-count : goal.returns-clause-count
returns-clause-count c = c.count_up_to.ensures.count ∙ column-counted c.args.base c.args.offset c.args.offsets.now c.args.positions.now c.requires.even c.if-offset-base.false
