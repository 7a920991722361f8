use Rattle.std.proofs.Common.{inl, inr}
use Rattle.cold_start.proofs.Stepping.{halts_now}
use Rattle.cold_start.proofs.Through.{through_one}
use Rattle.cold_start.proofs.running.turn.Goals as goal

pub returns-in-Ok-NoMemory-clause-during : goal.returns-in-Ok-NoMemory-clause-during
returns-in-Ok-NoMemory-clause-during g c =
    through_one g.D.Disk g.S.Store g.M.MetaLog c.args.cold.now c.step.new.self (record {
      turn = inl (c.args.actor.0, c.in-Ok-NoMemory.field-0, c.in-Ok-NoMemory.ensures.steps);
      later = c.in-Ok-NoMemory.ensures.later;
      during = c.in-Ok-NoMemory.ensures.during;
    })

pub returns-in-Ok-clause-during : goal.returns-in-Ok-clause-during
returns-in-Ok-clause-during g c =
    through_one g.D.Disk g.S.Store g.M.MetaLog c.args.cold.now c.step.new.self (record {
      turn = inl (c.args.actor.0, c.in-Ok.stepped, c.in-Ok.ensures.steps);
      later = c.in-Ok.ensures.later;
      during = c.in-Ok.ensures.during;
    })

pub returns-in-Err-clause-err : goal.returns-in-Err-clause-err
returns-in-Err-clause-err g c = halts_now g.D.Disk g.S.Store g.M.MetaLog c.args.cold.now c.step.new.self c.in-Err.why c.in-Err.ensures.err c.in-Err.ensures.either

pub returns-in-Err-clause-during : goal.returns-in-Err-clause-during
returns-in-Err-clause-during g c =
    through_one g.D.Disk g.S.Store g.M.MetaLog c.args.cold.now c.step.new.self (record {
      turn = inr (c.in-Err.why, c.in-Err.ensures.err);
      later = c.in-Err.ensures.later;
      during = c.in-Err.ensures.during;
    })
