use Rattle.std.proofs.lemmas.List.{get_or_default}
use Rattle.partition_world.proofs.LaterLaw.{later_more}
use Rattle.partition_world.proofs.Chains.{reaches_next, reaches_end}
use Rattle.partition_world.proofs.runs.run_in_order.Goals as goal

pub loop-pace-preserved : goal.loop-pace-preserved
loop-pace-preserved g c = record {
  later = later_more g.D.Disk g.S.Store g.M.MetaLog c.args.world.now c.loop-pace.world c.run_pace.new.world c.loop-pace.invariant.later c.in_ok-run_pace.ensures.later;
  leads = reaches_next g.D.Disk g.S.Store g.M.MetaLog c.args.world.now c.args.schedule.now c.loop-pace.pace-index _ c.loop-pace.world c.run_pace.new.world c.loop-pace.invariant.leads c.loop-pace-test.true
      (get_or_default c.args.schedule.now c.loop-pace.pace-index _ _ c.loop-pace-test.true) c.in_ok-run_pace.ensures.reaches;
}

pub returns-clause-reaches : goal.returns-clause-reaches
returns-clause-reaches g c = reaches_end g.D.Disk g.S.Store g.M.MetaLog c.args.world.now c.args.schedule.now c.loop-pace.pace-index c.loop-pace.world c.loop-pace.invariant.leads c.loop-pace-test.false

pub returns-in_err-run_pace-clause-later : goal.returns-in_err-run_pace-clause-later
returns-in_err-run_pace-clause-later g c =
    later_more g.D.Disk g.S.Store g.M.MetaLog c.args.world.now c.loop-pace.world c.run_pace.new.world c.loop-pace.invariant.later c.run_pace.ensures.later
