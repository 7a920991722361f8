use Rattle.std.proofs.Common.{◌≡◌, ◌∙◌, ap, sym, subst, length, arith}
use Rattle.device_yard.specs.YardContent.{Both}
use Rattle.memory_yard.specs.Shelf.{at}
use Rattle.memory_yard.proofs.Slots.{still_at, found_on}
use Rattle.memory_yard.proofs.Loops.{whole, still_length}
use Rattle.memory_yard.proofs.shelf.Shelf.find.Goals as goal

pub returns-clause-keeps : goal.returns-clause-keeps
returns-clause-keeps g c = λ q.
    let view : c.args.self.now.slots ≡ c.self.inside.slots.items = sym (ap (λ v. v.slots) c.self.view_is) in
    let seen : c.as_mut_slice.result.now ≡ c.args.self.now.slots = c.as_mut_slice.ensures.value ∙ sym view in
    subst (λ xs. Both g.T.Device.keeps (at g.K.DevicePlace.same q c.args.self.now.slots) (at g.K.DevicePlace.same q xs))
    (sym (whole c.self.inside.slots.items c.find_all.new.slots c.self.inside.slots.len (omega (arith, c.self.inside.slots.ok.0))
    (still_length g.T.Device.keeps c.as_mut_slice.result.now c.find_all.new.slots c.find_all.ensures.still ∙ ap length c.as_mut_slice.ensures.value)))
    (subst (λ xs. Both g.T.Device.keeps (at g.K.DevicePlace.same q xs) (at g.K.DevicePlace.same q c.find_all.new.slots)) seen
    (still_at g.K.DevicePlace.same g.met.K.DevicePlace.decides g.T.Device.keeps c.as_mut_slice.result.now c.find_all.new.slots c.find_all.ensures.still q))

pub returns-clause-found : goal.returns-clause-found
returns-clause-found g c =
    let view : c.args.self.now.slots ≡ c.self.inside.slots.items = sym (ap (λ v. v.slots) c.self.view_is) in
    found_on g.K.DevicePlace.same g.met.K.DevicePlace.decides g.K.DevicePlace.partition_of g.T.Device.used c.args.self.now.slots c.as_mut_slice.result.now c.self.inside.slots.items
    view c.as_mut_slice.ensures.value c.self.invariant _ _ c.find_all.result c.find_all.ensures.found
