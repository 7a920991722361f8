use Rattle.std.proofs.Common.{◌≡◌, ◌∙◌, None, ap, sym}
use Rattle.memory_yard.proofs.Slots.{found_at, found_set, none_at, none_stays}
use Rattle.memory_yard.proofs.shelf.Shelf.take.Goals as goal

pub returns-in-Some-clause-taken : goal.returns-in-Some-clause-taken
returns-in-Some-clause-taken g c =
    let view : c.args.self.now.slots ≡ c.self.inside.slots.items = sym (ap (λ v. v.slots) c.self.view_is) in
    c.replace.ensures.value
    ∙ sym (found_at g.K.DevicePlace.same g.met.K.DevicePlace.decides c.args.self.now.slots c.as_slice.result.now c.self.inside.slots.items view c.as_slice.ensures.value c.self.invariant c.args.place c.in-Some.i c.index_mut.result.now c.in-Some.ensures c.index_mut.ensures.value)

pub returns-in-Some-clause-leaves : goal.returns-in-Some-clause-leaves
returns-in-Some-clause-leaves g c =
    let view : c.args.self.now.slots ≡ c.self.inside.slots.items = sym (ap (λ v. v.slots) c.self.view_is) in
    rw c.replace.ensures.after
    (found_set g.K.DevicePlace.same g.met.K.DevicePlace.decides c.args.self.now.slots c.as_slice.result.now c.self.inside.slots.items view c.as_slice.ensures.value c.self.invariant c.args.place c.in-Some.i c.index_mut.result.now None c.in-Some.ensures c.index_mut.ensures.value)

pub returns-in-None-clause-taken : goal.returns-in-None-clause-taken
returns-in-None-clause-taken g c =
    let view : c.args.self.now.slots ≡ c.self.inside.slots.items = sym (ap (λ v. v.slots) c.self.view_is) in
    sym (none_at g.K.DevicePlace.same g.met.K.DevicePlace.decides c.args.self.now.slots c.as_slice.result.now c.self.inside.slots.items view c.as_slice.ensures.value c.self.invariant c.args.place c.in-None.ensures)

pub returns-in-None-clause-leaves : goal.returns-in-None-clause-leaves
returns-in-None-clause-leaves g c =
    let view : c.args.self.now.slots ≡ c.self.inside.slots.items = sym (ap (λ v. v.slots) c.self.view_is) in
    none_stays g.K.DevicePlace.same g.met.K.DevicePlace.decides c.args.self.now.slots c.as_slice.result.now c.self.inside.slots.items view c.as_slice.ensures.value c.self.invariant c.args.place c.in-None.ensures
