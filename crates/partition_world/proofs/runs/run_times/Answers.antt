use Rattle.std.proofs.Common.{subst, arith}
use Rattle.laws_partition.specs.declared.actor_progress.Stepped.{Stepped}
use Rattle.partition_world.specs.Turn.{Steps}
use Rattle.partition_world.proofs.LaterLaw.{later_more, step_later}
use Rattle.partition_world.proofs.Chains.{step_goes, times_more, times_all, times_end}
use Rattle.partition_world.proofs.runs.run_times.Goals as goal

pub returns-in-Nothing-clause-reaches : goal.returns-in-Nothing-clause-reaches
returns-in-Nothing-clause-reaches g c =
    times_end g.D.Disk g.S.Store g.M.MetaLog c.args.world.now c.args.actor.0 c.loop-i._i c.args.turns c.loop-i.world c.step.new.self c.loop-i.invariant.adds (omega (arith, c.loop-i-test.true))
    (subst (λ (s : Stepped). Steps g.D.Disk g.S.Store g.M.MetaLog c.loop-i.world c.args.actor.0 s c.step.new.self) c.in-Nothing.is c.step.ensures.steps)

pub loop-i-preserved : goal.loop-i-preserved
loop-i-preserved g c = record {
  later = later_more g.D.Disk g.S.Store g.M.MetaLog c.args.world.now c.loop-i.world c.step.new.self c.loop-i.invariant.later
      (step_later g.D.Disk g.S.Store g.M.MetaLog c.loop-i.world c.args.actor.0 c.step.result c.step.new.self c.step.ensures.steps c.step.ensures.central);
  adds = times_more g.D.Disk g.S.Store g.M.MetaLog c.args.world.now c.args.actor.0 c.loop-i._i c.loop-i.world c.step.new.self c.loop-i.invariant.adds
      (step_goes g.D.Disk g.S.Store g.M.MetaLog c.loop-i.world c.args.actor.0 c.step.result c.step.new.self c.step.ensures.steps c.in_default.not-NoMemory);
}

pub returns-clause-reaches : goal.returns-clause-reaches
returns-clause-reaches g c = times_all g.D.Disk g.S.Store g.M.MetaLog c.args.world.now c.args.actor.0 c.loop-i._i c.args.turns c.loop-i.world c.loop-i.invariant.adds (omega (arith, c.loop-i-test.false, c.loop-i.auto))

pub returns-in-NoMemory-clause-later : goal.returns-in-NoMemory-clause-later
returns-in-NoMemory-clause-later g c =
    later_more g.D.Disk g.S.Store g.M.MetaLog c.args.world.now c.loop-i.world c.step.new.self c.loop-i.invariant.later
    (step_later g.D.Disk g.S.Store g.M.MetaLog c.loop-i.world c.args.actor.0 c.step.result c.step.new.self c.step.ensures.steps c.step.ensures.central)
