use Rattle.std.proofs.Common.{arith}
use Rattle.partition_world.specs.Reaches.{HasAnswered}
use Rattle.partition_world.proofs.LaterLaw.{later_more, step_later, step_left}
use Rattle.partition_world.proofs.Chains.{step_goes, step_turns, until_more, until_all}
use Rattle.partition_world.proofs.runs.run_until.Goals as goal

pub loop-alloc-smaller : goal.loop-alloc-smaller
loop-alloc-smaller g c =
    let not : HasAnswered c.loop-alloc.world c.args.actor.0 c.args.number → ⊥ = λ h. absurd (grind (arith, c.has_answered.ensures.1 h, c.loop-alloc-test.true)) in
    step_left g.D.Disk g.S.Store g.M.MetaLog c.loop-alloc.world c.args.actor.0 c.step.result c.step.new.self c.step.ensures.steps (step_turns g.D.Disk g.S.Store g.M.MetaLog c.loop-alloc.world c.args.actor.0 c.args.number c.step.result c.step.new.self c.step.ensures.steps not)
    c.in_default.not-NoMemory

pub loop-alloc-preserved : goal.loop-alloc-preserved
loop-alloc-preserved g c =
    let not : HasAnswered c.loop-alloc.world c.args.actor.0 c.args.number → ⊥ = λ h. absurd (grind (arith, c.has_answered.ensures.1 h, c.loop-alloc-test.true)) in
    record {
      later = later_more g.D.Disk g.S.Store g.M.MetaLog c.args.world.now c.loop-alloc.world c.step.new.self c.loop-alloc.invariant.later
          (step_later g.D.Disk g.S.Store g.M.MetaLog c.loop-alloc.world c.args.actor.0 c.step.result c.step.new.self c.step.ensures.steps c.step.ensures.central);
      leads = until_more g.D.Disk g.S.Store g.M.MetaLog c.args.world.now c.args.actor.0 c.args.number c.loop-alloc.world c.step.new.self c.loop-alloc.invariant.leads not
          (step_goes g.D.Disk g.S.Store g.M.MetaLog c.loop-alloc.world c.args.actor.0 c.step.result c.step.new.self c.step.ensures.steps c.in_default.not-NoMemory);
    }

pub returns-clause-reaches : goal.returns-clause-reaches
returns-clause-reaches g c = until_all g.D.Disk g.S.Store g.M.MetaLog c.args.world.now c.args.actor.0 c.args.number c.loop-alloc.world c.loop-alloc.invariant.leads (c.has_answered.ensures.0 (grind (arith, c.loop-alloc-test.false)))

pub returns-in-NoMemory-clause-later : goal.returns-in-NoMemory-clause-later
returns-in-NoMemory-clause-later g c =
    later_more g.D.Disk g.S.Store g.M.MetaLog c.args.world.now c.loop-alloc.world c.step.new.self c.loop-alloc.invariant.later
    (step_later g.D.Disk g.S.Store g.M.MetaLog c.loop-alloc.world c.args.actor.0 c.step.result c.step.new.self c.step.ensures.steps c.step.ensures.central)
