use Rattle.std.proofs.Common.{arith, rules}
use Rattle.load_gen.proofs.Texts.{turns_more, turns_done}
use Rattle.load_gen.proofs.script.write_turns.Goals as goal

pub loop-i-preserved : goal.loop-i-preserved
loop-i-preserved c =
    turns_more _ _ _ c.args.count c.loop-i.i c.loop-i.draws.state _ (omega arith) (search rules) (search rules) c.loop-i.invariant

pub returns : goal.returns
returns c = turns_done _ _ c.args.count c.loop-i.i c.loop-i.draws.state (omega arith) c.loop-i.invariant
