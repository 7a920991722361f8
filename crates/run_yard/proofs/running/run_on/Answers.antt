use Rattle.std.proofs.Common.{◌∙◌, ap, subst, List}
use Rattle.plain_log.specs.declared.command.Config.{Config}
use Rattle.plain_log.specs.declared.command.Pace.{Pace}
use Rattle.partition_world.specs.Reaches.{Reaches}
use Rattle.run_yard.proofs.Ended.{is_run, ok_more, opened_config, refused_run}
use Rattle.run_yard.proofs.Stopped.{stopped_run, stopped_open}
use Rattle.run_yard.proofs.running.run_on.Goals as goal

pub returns-in-Ok-clause-text : goal.returns-in-Ok-clause-text
returns-in-Ok-clause-text g c =
    let t = c.in-Ok.opened in
    let t' = c.trace-text.new.cold in
    ok_more c.trace-text.result _ _ _ _ c.trace-text.ensures.reaches c.trace-text.ensures.going c.trace-text.ensures.text (λ text reaches going spelled. record {
      journal = t'.world.journal.items;
      run = is_run g.D.Disk g.S.Store g.M.MetaLog c.args.config c.args.part c.args.devices c.close-devices.result.0 c.args.registry c.close-devices.result.1 t t' c.ends_are_answered.ensures c.reaches_later.ensures
          c.reaches_in_turn.ensures c.fresh_is_safe.ensures c.runs_meet_no_damage.ensures c.reaches_counted.ensures c.requires.fit c.requires.ends
          c.in-Ok.ensures.opened c.in-Ok.ensures.new c.in-Ok.ensures.central c.in-Ok.ensures.blank (c.trace-text.ensures.told ∙ c.in-Ok.ensures.is_observable)
          (subst (λ (k : List Pace). Reaches g.D.Disk g.S.Store g.M.MetaLog t.world k t'.world) c.as_slice.ensures reaches) c.trace-text.ensures.during
          (record { disks_are = c.close-devices.ensures.disks; store_is = c.close-devices.ensures.store; meta_is = c.close-devices.ensures.meta }) c.close-devices.ensures.reg
          (c.close-devices.ensures.count ∙ ap (λ (k : Config). k.brokers) (c.trace-text.ensures.later.config ∙ opened_config g.D.Disk g.S.Store g.M.MetaLog c.args.part.partition c.args.config c.args.part.lists c.args.devices.disks.items c.args.devices.store c.args.devices.meta c.args.registry t c.in-Ok.ensures.opened))
          (c.close-devices.ensures.cold going);
      spelled = spelled;
    })

pub returns-in-Ok-clause-refused : goal.returns-in-Ok-clause-refused
returns-in-Ok-clause-refused g c =
    refused_run g.D.Disk g.S.Store g.M.MetaLog c.args.config.brokers c.args.devices c.args.registry c.close-devices.result.0 c.close-devices.result.1 c.in-Ok.opened c.trace-text.new.cold c.trace-text.result
    c.close-devices.ensures.reg c.trace-text.ensures.err

pub returns-in-Ok-clause-stopped : goal.returns-in-Ok-clause-stopped
returns-in-Ok-clause-stopped g c =
    stopped_run g.D.Disk g.S.Store g.M.MetaLog c.closed_disks_are_left.ensures c.args.config c.args.part c.args.devices c.close-devices.result.0 c.args.registry c.close-devices.result.1 c.in-Ok.opened c.trace-text.new.cold c.trace-text.result
    c.in-Ok.ensures.opened c.in-Ok.ensures.new c.in-Ok.ensures.central c.in-Ok.ensures.blank (c.trace-text.ensures.told ∙ c.in-Ok.ensures.is_observable) c.trace-text.ensures.later
    c.close-devices.ensures.disks c.close-devices.ensures.again c.close-devices.ensures.store c.close-devices.ensures.meta c.close-devices.ensures.reg c.close-devices.ensures.cold c.trace-text.ensures.during c.trace-text.ensures.err

pub returns-clause-stopped : goal.returns-clause-stopped
returns-clause-stopped g c =
    stopped_open g.D.Disk g.S.Store g.M.MetaLog c.fresh_is_safe.ensures c.args.config c.args.part c.args.devices c.in-Err.devices c.args.registry c.in-Err.registry c.in-Err.ensures.stand c.in-Err.ensures.begun
