use Rattle.partition_world.proofs.LaterLaw.{later_more, step_later, step_left}
use Rattle.partition_world.proofs.runs.run_actor.Goals as goal

pub loop-smaller : goal.loop-smaller
loop-smaller g c = step_left g.D.Disk g.S.Store g.M.MetaLog c.loop.world c.args.actor.0 c.step.result c.step.new.self c.step.ensures.steps c.in_default.not-Nothing c.in_default.not-NoMemory

pub loop-preserved : goal.loop-preserved
loop-preserved g c =
    later_more g.D.Disk g.S.Store g.M.MetaLog c.args.world.now c.loop.world c.step.new.self c.loop.invariant (step_later g.D.Disk g.S.Store g.M.MetaLog c.loop.world c.args.actor.0 c.step.result c.step.new.self c.step.ensures.steps c.step.ensures.central)

pub returns-in-NoMemory-clause-later : goal.returns-in-NoMemory-clause-later
returns-in-NoMemory-clause-later g c =
    later_more g.D.Disk g.S.Store g.M.MetaLog c.args.world.now c.loop.world c.step.new.self c.loop.invariant
    (step_later g.D.Disk g.S.Store g.M.MetaLog c.loop.world c.args.actor.0 c.step.result c.step.new.self c.step.ensures.steps c.step.ensures.central)
