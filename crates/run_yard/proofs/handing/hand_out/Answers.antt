use Rattle.std.proofs.Common.{[], ◌∷◌, ◌++◌, map}
use Rattle.tier_base.specs.Device.{fate_of_trouble}
use Rattle.device_yard.specs.YardContent.{IsOut}
use Rattle.run_yard.specs.Yard.{came_of}
use Rattle.run_yard.proofs.Back.{only_then, registry_only}
use Rattle.run_yard.proofs.Out.{all_handed, so_many_devices, back_again, back_risen, gone_wrong, as_fault}
use Rattle.run_yard.proofs.Stopped.{devices_again}
use Rattle.run_yard.proofs.handing.hand_out.Goals as goal

pub returns-in-Ok-clause-devices : goal.returns-in-Ok-clause-devices
returns-in-Ok-clause-devices g c =
    let all = c.in_ok-devices.ensures in
    let r = c.in-Ok.ensures in
    all_handed g.Y.D.Disk g.Y.S.Store g.Y.M.MetaLog c.args.partition c.args.count c.in_ok-devices.devices c.in-Ok.registry (g.Y.Yard.held c.args.yard.now) (g.Y.Yard.held c.hand_devices.new.yard)
    all.devices all.is_observable all.registry r.fresh r.told r.content

pub returns-in-Ok-clause-only : goal.returns-in-Ok-clause-only
returns-in-Ok-clause-only g c =
    only_then c.args.partition (g.Y.Yard.held c.args.yard.now) (g.Y.Yard.held c.hand_devices.new.yard) (g.Y.Yard.held c.registry.new.self) c.in_ok-devices.ensures.only
    (registry_only c.args.partition IsOut (g.Y.Yard.held c.hand_devices.new.yard) (g.Y.Yard.held c.registry.new.self) c.in-Ok.ensures.is_observable c.in-Ok.ensures.out)

pub returns-in-Err-clause-err : goal.returns-in-Err-clause-err
returns-in-Err-clause-err g c =
    let d = c.in_ok-devices.devices in
    let came = map (came_of g.Y.D.Disk.control) d.disks.items ++ came_of g.Y.S.Store.control d.store ∷ came_of g.Y.M.MetaLog.control d.meta ∷ [] in (
      came,
      back_again came (g.Y.Yard.control c.args.yard.now) (g.Y.Yard.control c.hand_devices.new.yard) (g.Y.Yard.control c.registry.new.self) (g.Y.Yard.control c.keep.new.yard) (fate_of_trouble c.in-Err.trouble)
          (so_many_devices g.Y.D.Disk g.Y.S.Store g.Y.M.MetaLog d c.args.count (g.Y.Yard.control c.args.yard.now) (g.Y.Yard.control c.hand_devices.new.yard) c.in_ok-devices.ensures.devices.disks.count_is c.in_ok-devices.ensures.control)
          (gone_wrong c.in-Err.trouble) c.in-Err.ensures.control c.keep.ensures.control,
    )

pub returns-in-Err-clause-cause : goal.returns-in-Err-clause-cause
returns-in-Err-clause-cause g c = λ failed.
    let d = c.in_ok-devices.devices in
    let came = map (came_of g.Y.D.Disk.control) d.disks.items ++ came_of g.Y.S.Store.control d.store ∷ came_of g.Y.M.MetaLog.control d.meta ∷ [] in
    back_risen came (g.Y.Yard.control c.args.yard.now) (g.Y.Yard.control c.hand_devices.new.yard) (g.Y.Yard.control c.registry.new.self) (g.Y.Yard.control c.keep.new.yard)
    (so_many_devices g.Y.D.Disk g.Y.S.Store g.Y.M.MetaLog d c.args.count (g.Y.Yard.control c.args.yard.now) (g.Y.Yard.control c.hand_devices.new.yard) c.in_ok-devices.ensures.devices.disks.count_is c.in_ok-devices.ensures.control)
    (as_fault c.in-Err.trouble (g.Y.Yard.control c.hand_devices.new.yard) (g.Y.Yard.control c.registry.new.self) failed c.in-Err.ensures.control) c.keep.ensures.control

pub returns-in-Err-clause-same : goal.returns-in-Err-clause-same
returns-in-Err-clause-same g c =
    let all = c.in_ok-devices.ensures in
    devices_again g.Y.D.Disk g.Y.S.Store g.Y.M.MetaLog c.args.partition c.args.count c.in_ok-devices.devices (g.Y.Yard.held c.args.yard.now) (g.Y.Yard.held c.hand_devices.new.yard) (g.Y.Yard.held c.registry.new.self) (g.Y.Yard.held c.keep.new.yard)
    all.devices all.only all.past all.registry c.in-Err.ensures.err c.keep.ensures.held
