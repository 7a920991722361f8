use Rattle.std.proofs.Common.{◌+◌, inl, sym, subst, IsTrue}
use Rattle.run_yard.specs.Reading.{IsRefusedSo}
use Rattle.run_yard.specs.Refusals.{IsOfDevices}
use Rattle.run_yard.specs.Yard.{cames_of}
use Rattle.run_yard.specs.declared.refusal.YardRefusal.{YardRefusal}
use Rattle.run_yard.proofs.Back.{only_then}
use Rattle.run_yard.proofs.Ran.{unarmed_disks, ran, refused_of, cames_many, ok_is, err_is}
use Rattle.run_yard.proofs.UsesOf.{uses_all}
use Rattle.run_yard.proofs.Stopped.{on_err, stopped_in}
use Rattle.run_yard.proofs.runs.run_part.Goals as goal

pub run_on-devices-requires-clause-disks : goal.run_on-devices-requires-clause-disks
run_on-devices-requires-clause-disks g c =
    unarmed_disks g.Y.D.Disk g.Y.S.Store g.Y.M.MetaLog (g.Y.Yard.held c.args.yard.now) c.in-Ok.devices.disks.items c.in-Ok.ensures.devices.others.disks.each

pub returns-in-Ok-text-clause-text : goal.returns-in-Ok-text-clause-text
returns-in-Ok-text-clause-text g c =
    ran g.Y.D.Disk g.Y.S.Store g.Y.M.MetaLog c.args.config c.args.part c.in-Ok.devices c.run_on-devices.result.0 c.in-Ok.registry c.run_on-devices.result.1 c.in-Ok-text.text.items
    (g.Y.Yard.held c.args.yard.now) (g.Y.Yard.held c.hand_out.new.yard) (g.Y.Yard.held c.keep_all.new.yard)
    (g.Y.Yard.control c.args.yard.now) (g.Y.Yard.control c.hand_out.new.yard) (g.Y.Yard.control c.keep_all.new.yard)
    c.requires.ready c.in-Ok.ensures.devices c.in-Ok.ensures.control c.in-Ok.ensures.only c.run_on-devices.ensures.count (ok_is c.run_on-devices.result.2 c.in-Ok-text.text _ c.in-Ok-text.is c.run_on-devices.ensures.text) c.keep_all.ensures.control c.keep_all.ensures.held

pub returns-in-Ok-text-clause-only : goal.returns-in-Ok-text-clause-only
returns-in-Ok-text-clause-only g c =
    only_then c.args.part.partition (g.Y.Yard.held c.args.yard.now) (g.Y.Yard.held c.hand_out.new.yard) (g.Y.Yard.held c.keep_all.new.yard) c.in-Ok.ensures.only c.keep_all.ensures.held.only

pub returns-in-Err-text-clause-refused : goal.returns-in-Err-text-clause-refused
returns-in-Err-text-clause-refused g c =
    subst (λ (r : YardRefusal). IsRefusedSo g.Y.D.Disk.content g.Y.S.Store.content g.Y.M.MetaLog.content c.args.config.brokers (g.Y.Yard.held c.args.yard.now) (g.Y.Yard.held c.keep_all.new.yard) (g.Y.Yard.control c.args.yard.now) (g.Y.Yard.control c.keep_all.new.yard) r) (sym c.refused.ensures)
    (refused_of g.Y.D.Disk g.Y.S.Store g.Y.M.MetaLog c.args.config.brokers c.args.part.partition c.args.config.brokers (c.args.config.brokers + 3) (g.Y.Yard.held c.args.yard.now) (g.Y.Yard.held c.keep_all.new.yard)
    (g.Y.Yard.control c.args.yard.now) (g.Y.Yard.control c.hand_out.new.yard) (g.Y.Yard.control c.keep_all.new.yard) c.in-Ok.devices c.run_on-devices.result.0 c.in-Ok.registry c.run_on-devices.result.1 c.in-Err-text.why
    c.requires.ready c.in-Ok.ensures.devices c.in-Ok.ensures.control c.keep_all.ensures.control c.in-Ok.ensures.unread c.keep_all.ensures.read c.run_on-devices.ensures.unarmed
    (err_is c.run_on-devices.result.2 c.in-Err-text.why _ c.in-Err-text.is c.run_on-devices.ensures.refused)).0

pub returns-in-Err-text-clause-plain : goal.returns-in-Err-text-clause-plain
returns-in-Err-text-clause-plain g c =
    subst (λ (r : YardRefusal). IsTrue (g.Y.Yard.held c.args.yard.now).is_observable → IsOfDevices r) (sym c.refused.ensures)
    (refused_of g.Y.D.Disk g.Y.S.Store g.Y.M.MetaLog c.args.config.brokers c.args.part.partition c.args.config.brokers (c.args.config.brokers + 3) (g.Y.Yard.held c.args.yard.now) (g.Y.Yard.held c.keep_all.new.yard)
    (g.Y.Yard.control c.args.yard.now) (g.Y.Yard.control c.hand_out.new.yard) (g.Y.Yard.control c.keep_all.new.yard) c.in-Ok.devices c.run_on-devices.result.0 c.in-Ok.registry c.run_on-devices.result.1 c.in-Err-text.why
    c.requires.ready c.in-Ok.ensures.devices c.in-Ok.ensures.control c.keep_all.ensures.control c.in-Ok.ensures.unread c.keep_all.ensures.read c.run_on-devices.ensures.unarmed
    (err_is c.run_on-devices.result.2 c.in-Err-text.why _ c.in-Err-text.is c.run_on-devices.ensures.refused)).1

pub returns-in-Err-text-clause-err : goal.returns-in-Err-text-clause-err
returns-in-Err-text-clause-err g c =
    let came = cames_of g.Y.D.Disk g.Y.S.Store g.Y.M.MetaLog c.run_on-devices.result.0 c.run_on-devices.result.1 in
    record {
      came = came;
      uses = uses_all (c.args.config.brokers + 3) came (g.Y.Yard.control c.args.yard.now) (g.Y.Yard.control c.hand_out.new.yard) (g.Y.Yard.control c.keep_all.new.yard)
          (cames_many g.Y.D.Disk g.Y.S.Store g.Y.M.MetaLog c.run_on-devices.result.0 c.run_on-devices.result.1 c.args.config.brokers c.run_on-devices.ensures.count) c.in-Ok.ensures.control c.keep_all.ensures.control;
    }

pub returns-in-Err-clause-stopped : goal.returns-in-Err-clause-stopped
returns-in-Err-clause-stopped g c = λ t. inl (c.in-Err.ensures.same t)

pub returns-in-Err-text-clause-stopped : goal.returns-in-Err-text-clause-stopped
returns-in-Err-text-clause-stopped g c =
    stopped_in g.Y.D.Disk g.Y.S.Store g.Y.M.MetaLog c.args.config c.args.part c.in-Ok.devices c.run_on-devices.result.0 c.in-Ok.registry c.run_on-devices.result.1
    (g.Y.Yard.held c.args.yard.now) (g.Y.Yard.held c.hand_out.new.yard) (g.Y.Yard.held c.keep_all.new.yard) c.requires.ready c.in-Ok.ensures.devices c.in-Ok.ensures.only c.run_on-devices.ensures.count
    (on_err c.run_on-devices.result.2 c.in-Err-text.why _ c.in-Err-text.is c.run_on-devices.ensures.stopped) c.keep_all.ensures.held
