use Rattle.std.proofs.Common.{◌∙◌}
use Rattle.std.proofs.lemmas.List.{get_or_default}
use Rattle.tier_base.proofs.Lasting.{lasts_then}
use Rattle.partition_world.proofs.Chains.{reaches_next, reaches_end}
use Rattle.partition_world.proofs.LaterLaw.{later_more}
use Rattle.cold_start.proofs.Stepping.{halts_more}
use Rattle.cold_start.proofs.Through.{through_more}
use Rattle.cold_start.proofs.running.run_cold.Goals as goal

pub returns-in-Err-clause-err : goal.returns-in-Err-clause-err
returns-in-Err-clause-err g c = halts_more g.D.Disk g.S.Store g.M.MetaLog c.args.cold.now c.loop-pace.cold c.run_pace.new.cold c.in-Err.why c.loop-pace.invariant.later c.loop-pace.invariant.control c.in-Err.ensures.err

pub loop-pace-preserved : goal.loop-pace-preserved
loop-pace-preserved g c = record {
  later = later_more g.D.Disk g.S.Store g.M.MetaLog c.args.cold.now.world c.loop-pace.cold.world c.run_pace.new.cold.world c.loop-pace.invariant.later c.in-Ok.ensures.later;
  leads = reaches_next g.D.Disk g.S.Store g.M.MetaLog c.args.cold.now.world c.args.schedule.now c.loop-pace.pace-index _ c.loop-pace.cold.world c.run_pace.new.cold.world c.loop-pace.invariant.leads c.loop-pace-test.true
      (get_or_default c.args.schedule.now c.loop-pace.pace-index _ _ c.loop-pace-test.true) c.in-Ok.ensures.reaches;
  going = c.in-Ok.ensures.going;
  control = lasts_then (g.D.Disk.control c.args.cold.now.reg) (g.D.Disk.control c.loop-pace.cold.reg) (g.D.Disk.control c.run_pace.new.cold.reg) c.loop-pace.invariant.control c.in-Ok.ensures.control;
  is_observable = c.in-Ok.ensures.is_observable ∙ c.loop-pace.invariant.is_observable;
  through = through_more g.D.Disk g.S.Store g.M.MetaLog c.args.cold.now c.loop-pace.cold c.run_pace.new.cold c.loop-pace.invariant.through c.in-Ok.ensures.during;
}

pub returns-clause-reaches : goal.returns-clause-reaches
returns-clause-reaches g c = reaches_end g.D.Disk g.S.Store g.M.MetaLog c.args.cold.now.world c.args.schedule.now c.loop-pace.pace-index c.loop-pace.cold.world c.loop-pace.invariant.leads c.loop-pace-test.false

pub returns-in-Err-clause-later : goal.returns-in-Err-clause-later
returns-in-Err-clause-later g c = later_more g.D.Disk g.S.Store g.M.MetaLog c.args.cold.now.world c.loop-pace.cold.world c.run_pace.new.cold.world c.loop-pace.invariant.later c.in-Err.ensures.later

pub returns-in-Err-clause-during : goal.returns-in-Err-clause-during
returns-in-Err-clause-during g c = through_more g.D.Disk g.S.Store g.M.MetaLog c.args.cold.now c.loop-pace.cold c.run_pace.new.cold c.loop-pace.invariant.through c.in-Err.ensures.during
