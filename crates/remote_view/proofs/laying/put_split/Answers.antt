use Rattle.std.proofs.Common.{arith}
use Rattle.remote_view.proofs.Treads.{was_split, second_ends, on_ok}
use Rattle.remote_view.proofs.laying.put_split.Goals as goal

pub put-requires-3-clause-ends : goal.put-requires-3-clause-ends
put-requires-3-clause-ends c =
    second_ends c.args.tread.now.from c.min-from.result c.min-to.result c.args.tread.now.id c.args.id c.args.stair.now c.put.new.stair c.put-2.new.stair (omega arith) (omega arith) c.requires.ends
    c.in_ok-put.ensures c.in_ok-put-2.ensures

pub returns : goal.returns
returns c =
    on_ok c.put-3.result c.put-3.ensures (λ third.
    was_split c.args.tread.now c.args.span c.args.id c.min-from.result c.min-to.result c.args.stair.now c.put.new.stair c.put-2.new.stair c.put-3.new.stair c.requires.some c.requires.ordered
    (omega arith) (omega arith) c.requires.ends c.in_ok-put.ensures c.in_ok-put-2.ensures third)
