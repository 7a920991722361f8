use Rattle.partition_world.proofs.LaterLaw.{later_more, step_later, step_left}
use Rattle.run_threaded.proofs.Leading.{same_more}
use Rattle.run_threaded.proofs.traced.Traced.run_actor.Goals as goal

pub loop-smaller : goal.loop-smaller
loop-smaller g c =
    step_left g.D.Disk g.S.Store g.M.MetaLog c.loop.self.world c.args.actor.0 c.step.result c.step.new.self.world (c.step.ensures.steps c.in_default.not-NoMemory) c.in_default.not-Nothing c.in_default.not-NoMemory

pub loop-preserved : goal.loop-preserved
loop-preserved g c = record {
  same = same_more c.args.self.now c.loop.self c.step.new.self c.loop.invariant.same (c.step.ensures.goes_on c.in_default.not-NoMemory).same;
  later = later_more g.D.Disk g.S.Store g.M.MetaLog c.args.self.now.world c.loop.self.world c.step.new.self.world c.loop.invariant.later
      (step_later g.D.Disk g.S.Store g.M.MetaLog c.loop.self.world c.args.actor.0 c.step.result c.step.new.self.world (c.step.ensures.steps c.in_default.not-NoMemory) (c.step.ensures.central c.in_default.not-NoMemory));
}
