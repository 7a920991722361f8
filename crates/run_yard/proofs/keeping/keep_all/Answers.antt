use Rattle.std.proofs.Common.{[], ◌∷◌, ◌++◌, map}
use Rattle.run_yard.specs.Yard.{came_of}
use Rattle.run_yard.proofs.Back.{came_then, came_registry, keeps_with_registry}
use Rattle.run_yard.proofs.keeping.keep_all.Goals as goal

pub returns-clause-control : goal.returns-clause-control
returns-clause-control g c =
    let one = came_of g.Y.D.Disk.control c.args.registry in
    came_then (map (came_of g.Y.D.Disk.control) c.args.devices.disks.items ++ came_of g.Y.S.Store.control c.args.devices.store ∷ came_of g.Y.M.MetaLog.control c.args.devices.meta ∷ []) (one ∷ [])
    (g.Y.Yard.control c.args.yard.now) (g.Y.Yard.control c.keep.new.yard) (g.Y.Yard.control c.keep_registry.new.self)
    c.keep.ensures.control (came_registry one _ (g.Y.Yard.control c.keep.new.yard) (g.Y.Yard.control c.keep_registry.new.self) c.keep_registry.ensures.control)

pub returns-clause-held : goal.returns-clause-held
returns-clause-held g c =
    keeps_with_registry g.Y.D.Disk.content c.args.partition c.args.devices c.args.registry (g.Y.Yard.held c.args.yard.now) (g.Y.Yard.held c.keep.new.yard) (g.Y.Yard.held c.keep_registry.new.self)
    c.keep.ensures.held c.keep_registry.ensures.is_observable c.keep_registry.ensures.held
