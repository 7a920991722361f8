use Rattle.std.proofs.Common.{◌∙◌, subst, arith}
use Rattle.tier_base.proofs.Lasting.{lasts_then}
use Rattle.laws_partition.specs.declared.actor_progress.Stepped.{Stepped}
use Rattle.partition_world.specs.Turn.{Steps}
use Rattle.partition_world.proofs.Chains.{step_goes, times_more, times_all, times_end}
use Rattle.partition_world.proofs.LaterLaw.{later_more}
use Rattle.cold_start.proofs.Stepping.{halts_more}
use Rattle.cold_start.proofs.Through.{through_more}
use Rattle.cold_start.proofs.running.run_times.Goals as goal

pub returns-in-Err-clause-err : goal.returns-in-Err-clause-err
returns-in-Err-clause-err g c = halts_more g.D.Disk g.S.Store g.M.MetaLog c.args.cold.now c.loop-i.cold c.turn.new.cold c.in-Err.why c.loop-i.invariant.later c.loop-i.invariant.control c.in-Err.ensures.err

pub returns-in-Nothing-clause-reaches : goal.returns-in-Nothing-clause-reaches
returns-in-Nothing-clause-reaches g c =
    times_end g.D.Disk g.S.Store g.M.MetaLog c.args.cold.now.world c.args.actor.0 c.loop-i._i c.args.turns c.loop-i.cold.world c.turn.new.cold.world c.loop-i.invariant.adds (omega (arith, c.loop-i-test.true))
    (subst (λ (s : Stepped). Steps g.D.Disk g.S.Store g.M.MetaLog c.loop-i.cold.world c.args.actor.0 s c.turn.new.cold.world) c.in-Nothing.is c.in-Ok.ensures.steps.0)

pub loop-i-preserved : goal.loop-i-preserved
loop-i-preserved g c = record {
  later = later_more g.D.Disk g.S.Store g.M.MetaLog c.args.cold.now.world c.loop-i.cold.world c.turn.new.cold.world c.loop-i.invariant.later c.in-Ok.ensures.later;
  adds = times_more g.D.Disk g.S.Store g.M.MetaLog c.args.cold.now.world c.args.actor.0 c.loop-i._i c.loop-i.cold.world c.turn.new.cold.world c.loop-i.invariant.adds
      (step_goes g.D.Disk g.S.Store g.M.MetaLog c.loop-i.cold.world c.args.actor.0 c.in-Ok.stepped c.turn.new.cold.world c.in-Ok.ensures.steps.0 c.in-Ok.ensures.steps.1);
  going = c.in-Ok.ensures.going;
  control = lasts_then (g.D.Disk.control c.args.cold.now.reg) (g.D.Disk.control c.loop-i.cold.reg) (g.D.Disk.control c.turn.new.cold.reg) c.loop-i.invariant.control c.in-Ok.ensures.control;
  is_observable = c.in-Ok.ensures.is_observable ∙ c.loop-i.invariant.is_observable;
  through = through_more g.D.Disk g.S.Store g.M.MetaLog c.args.cold.now c.loop-i.cold c.turn.new.cold c.loop-i.invariant.through c.in-Ok.ensures.during;
}

pub returns-clause-reaches : goal.returns-clause-reaches
returns-clause-reaches g c = times_all g.D.Disk g.S.Store g.M.MetaLog c.args.cold.now.world c.args.actor.0 c.loop-i._i c.args.turns c.loop-i.cold.world c.loop-i.invariant.adds (omega (arith, c.loop-i-test.false, c.loop-i.auto))

pub returns-in-Err-clause-later : goal.returns-in-Err-clause-later
returns-in-Err-clause-later g c = later_more g.D.Disk g.S.Store g.M.MetaLog c.args.cold.now.world c.loop-i.cold.world c.turn.new.cold.world c.loop-i.invariant.later c.in-Err.ensures.later

pub returns-in-Err-clause-during : goal.returns-in-Err-clause-during
returns-in-Err-clause-during g c = through_more g.D.Disk g.S.Store g.M.MetaLog c.args.cold.now c.loop-i.cold c.turn.new.cold c.loop-i.invariant.through c.in-Err.ensures.during

pub returns-in-Nothing-clause-during : goal.returns-in-Nothing-clause-during
returns-in-Nothing-clause-during g c = through_more g.D.Disk g.S.Store g.M.MetaLog c.args.cold.now c.loop-i.cold c.turn.new.cold c.loop-i.invariant.through c.in-Ok.ensures.during
