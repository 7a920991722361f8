use Rattle.std.proofs.Common.{◌≡◌, Some, ap, sym}
use Rattle.memory_yard.proofs.Slots.{found_set, none_pushed, none_distinct}
use Rattle.memory_yard.proofs.shelf.Shelf.put.Goals as goal

pub invariant_of-self-in-None : goal.invariant_of-self-in-None
invariant_of-self-in-None g c =
    let view : c.args.self.now.slots ≡ c.self.inside.slots.items = sym (ap (λ v. v.slots) c.self.view_is) in
    none_distinct g.K.DevicePlace.same g.met.K.DevicePlace.decides c.args.self.now.slots c.as_slice.result.now c.self.inside.slots.items view c.as_slice.ensures.value c.self.invariant c.args.place c.args.device c.push_reserved.new.self.items c.in-None.ensures c.push_reserved.ensures.items

pub returns-in-Some-clause-leaves : goal.returns-in-Some-clause-leaves
returns-in-Some-clause-leaves g c =
    let view : c.args.self.now.slots ≡ c.self.inside.slots.items = sym (ap (λ v. v.slots) c.self.view_is) in
    rw c.replace.ensures.after
    (found_set g.K.DevicePlace.same g.met.K.DevicePlace.decides c.args.self.now.slots c.as_slice.result.now c.self.inside.slots.items view c.as_slice.ensures.value c.self.invariant c.args.place c.in-Some.i c.index_mut.result.now (Some c.args.device) c.in-Some.ensures c.index_mut.ensures.value)

pub returns-in-None-clause-leaves : goal.returns-in-None-clause-leaves
returns-in-None-clause-leaves g c =
    let view : c.args.self.now.slots ≡ c.self.inside.slots.items = sym (ap (λ v. v.slots) c.self.view_is) in
    none_pushed g.K.DevicePlace.same g.met.K.DevicePlace.decides c.args.self.now.slots c.as_slice.result.now c.self.inside.slots.items view c.as_slice.ensures.value c.self.invariant c.args.place c.args.device c.push_reserved.new.self.items c.in-None.ensures c.push_reserved.ensures.items
