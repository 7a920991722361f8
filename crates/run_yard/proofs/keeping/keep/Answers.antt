use Rattle.std.proofs.Common.{refl, [], ◌∷◌, map}
use Rattle.run_yard.specs.Yard.{came_of}
use Rattle.run_yard.proofs.Back.{came_then, came_one, keeps_devices}
use Rattle.run_yard.proofs.keeping.keep.Goals as goal

pub returns-clause-control : goal.returns-clause-control
returns-clause-control g c =
    let s = came_of g.Y.S.Store.control c.args.devices.store in
    let m = came_of g.Y.M.MetaLog.control c.args.devices.meta in
    came_then (map (came_of g.Y.D.Disk.control) c.args.devices.disks.items) (s ∷ m ∷ []) (g.Y.Yard.control c.args.yard.now) (g.Y.Yard.control c.keep_disks.new.yard) (g.Y.Yard.control c.keep_meta.new.self)
    c.keep_disks.ensures.control
    (came_then (s ∷ []) (m ∷ []) (g.Y.Yard.control c.keep_disks.new.yard) (g.Y.Yard.control c.keep_store.new.self) (g.Y.Yard.control c.keep_meta.new.self)
    (came_one s (g.Y.Yard.control c.keep_disks.new.yard) (g.Y.Yard.control c.keep_store.new.self) c.keep_store.ensures.control)
    (came_one m (g.Y.Yard.control c.keep_store.new.self) (g.Y.Yard.control c.keep_meta.new.self) c.keep_meta.ensures.control))

pub returns-clause-held : goal.returns-clause-held
returns-clause-held g c =
    keeps_devices c.args.partition c.args.devices.disks.items c.args.devices.store c.args.devices.meta c.args.devices (g.Y.Yard.held c.args.yard.now) (g.Y.Yard.held c.keep_disks.new.yard)
    (g.Y.Yard.held c.keep_store.new.self) (g.Y.Yard.held c.keep_meta.new.self) refl refl refl
    c.keep_disks.ensures.held c.keep_store.ensures.is_observable c.keep_store.ensures.held c.keep_meta.ensures.is_observable c.keep_meta.ensures.held
