use Rattle.std.proofs.Common.{◌≡◌, ◌∙◌, ap, sym}
use Rattle.memory_yard.specs.Shelf.{at}
use Rattle.memory_yard.proofs.Slots.{found_at, none_at}
use Rattle.memory_yard.proofs.shelf.Shelf.get.Goals as goal

pub returns-in-Some : goal.returns-in-Some
returns-in-Some g c =
    let view : c.args.self.now.slots ≡ c.self.inside.slots.items = sym (ap (λ v. v.slots) c.self.view_is) in
    let there : at g.K.DevicePlace.same c.args.place c.args.self.now.slots ≡ c.index.result.now.device =
    found_at g.K.DevicePlace.same g.met.K.DevicePlace.decides c.args.self.now.slots c.as_slice.result.now c.self.inside.slots.items view c.as_slice.ensures.value c.self.invariant c.args.place c.in-Some.i c.index.result.now c.in-Some.ensures c.index.ensures in
    c.as_ref.ensures.value ∙ sym there

pub returns-in-None : goal.returns-in-None
returns-in-None g c =
    let view : c.args.self.now.slots ≡ c.self.inside.slots.items = sym (ap (λ v. v.slots) c.self.view_is) in
    sym (none_at g.K.DevicePlace.same g.met.K.DevicePlace.decides c.args.self.now.slots c.as_slice.result.now c.self.inside.slots.items view c.as_slice.ensures.value c.self.invariant c.args.place c.in-None.ensures)
