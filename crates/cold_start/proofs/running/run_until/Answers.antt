use Rattle.std.proofs.Common.{◌∙◌, sym, subst, arith}
use Rattle.tier_base.proofs.Lasting.{lasts_then}
use Rattle.partition_world.specs.Reaches.{HasAnswered}
use Rattle.partition_world.specs.Whole.{Whole}
use Rattle.partition_world.proofs.Chains.{step_goes, step_turns, until_more, until_all}
use Rattle.partition_world.proofs.LaterLaw.{later_more, step_left}
use Rattle.cold_start.proofs.Stepping.{halts_more}
use Rattle.cold_start.proofs.Through.{through_more}
use Rattle.cold_start.proofs.running.run_until.Goals as goal

pub loop-alloc-smaller : goal.loop-alloc-smaller
loop-alloc-smaller g c =
    let not : HasAnswered c.loop-alloc.cold.world c.args.actor.0 c.args.number → ⊥ =
    λ h. (let yes = c.has_answered.ensures.1 (subst (λ (w : Whole g.row.D.Denot g.row.S.Denot g.row.M.Denot). HasAnswered w c.args.actor.0 c.args.number) (sym c.world.ensures) h) in absurd (grind (arith, yes, c.loop-alloc-test.true))) in
    step_left g.D.Disk g.S.Store g.M.MetaLog c.loop-alloc.cold.world c.args.actor.0 c.in-Ok.field-0 c.turn.new.cold.world c.in-Ok.ensures.steps.0
    (step_turns g.D.Disk g.S.Store g.M.MetaLog c.loop-alloc.cold.world c.args.actor.0 c.args.number c.in-Ok.field-0 c.turn.new.cold.world c.in-Ok.ensures.steps.0 not) c.in-Ok.ensures.steps.1

pub loop-alloc-preserved : goal.loop-alloc-preserved
loop-alloc-preserved g c =
    let not : HasAnswered c.loop-alloc.cold.world c.args.actor.0 c.args.number → ⊥ =
    λ h. (let yes = c.has_answered.ensures.1 (subst (λ (w : Whole g.row.D.Denot g.row.S.Denot g.row.M.Denot). HasAnswered w c.args.actor.0 c.args.number) (sym c.world.ensures) h) in absurd (grind (arith, yes, c.loop-alloc-test.true))) in
    record {
      later = later_more g.D.Disk g.S.Store g.M.MetaLog c.args.cold.now.world c.loop-alloc.cold.world c.turn.new.cold.world c.loop-alloc.invariant.later c.in-Ok.ensures.later;
      leads = until_more g.D.Disk g.S.Store g.M.MetaLog c.args.cold.now.world c.args.actor.0 c.args.number c.loop-alloc.cold.world c.turn.new.cold.world c.loop-alloc.invariant.leads not
          (step_goes g.D.Disk g.S.Store g.M.MetaLog c.loop-alloc.cold.world c.args.actor.0 c.in-Ok.field-0 c.turn.new.cold.world c.in-Ok.ensures.steps.0 c.in-Ok.ensures.steps.1);
      going = c.in-Ok.ensures.going;
      control = lasts_then (g.D.Disk.control c.args.cold.now.reg) (g.D.Disk.control c.loop-alloc.cold.reg) (g.D.Disk.control c.turn.new.cold.reg) c.loop-alloc.invariant.control c.in-Ok.ensures.control;
      is_observable = c.in-Ok.ensures.is_observable ∙ c.loop-alloc.invariant.is_observable;
      through = through_more g.D.Disk g.S.Store g.M.MetaLog c.args.cold.now c.loop-alloc.cold c.turn.new.cold c.loop-alloc.invariant.through c.in-Ok.ensures.during;
    }

pub returns-in-Err-clause-err : goal.returns-in-Err-clause-err
returns-in-Err-clause-err g c = halts_more g.D.Disk g.S.Store g.M.MetaLog c.args.cold.now c.loop-alloc.cold c.turn.new.cold c.in-Err.why c.loop-alloc.invariant.later c.loop-alloc.invariant.control c.in-Err.ensures.err

pub returns-clause-reaches : goal.returns-clause-reaches
returns-clause-reaches g c =
    until_all g.D.Disk g.S.Store g.M.MetaLog c.args.cold.now.world c.args.actor.0 c.args.number c.loop-alloc.cold.world c.loop-alloc.invariant.leads
    (subst (λ (w : Whole g.row.D.Denot g.row.S.Denot g.row.M.Denot). HasAnswered w c.args.actor.0 c.args.number) c.world.ensures (c.has_answered.ensures.0 (grind (arith, c.loop-alloc-test.false))))

pub returns-in-Err-clause-later : goal.returns-in-Err-clause-later
returns-in-Err-clause-later g c = later_more g.D.Disk g.S.Store g.M.MetaLog c.args.cold.now.world c.loop-alloc.cold.world c.turn.new.cold.world c.loop-alloc.invariant.later c.in-Err.ensures.later

pub returns-in-Err-clause-during : goal.returns-in-Err-clause-during
returns-in-Err-clause-during g c = through_more g.D.Disk g.S.Store g.M.MetaLog c.args.cold.now c.loop-alloc.cold c.turn.new.cold c.loop-alloc.invariant.through c.in-Err.ensures.during
