use Rattle.std.proofs.Common.{◌≡◌, ◌∙◌, ap, sym, subst, length, arith}
use Rattle.device_yard.specs.YardContent.{Both}
use Rattle.memory_yard.specs.Shelf.{at}
use Rattle.memory_yard.proofs.Slots.{still_at}
use Rattle.memory_yard.proofs.Loops.{whole, still_length}
use Rattle.memory_yard.proofs.shelf.Shelf.crash.Goals as goal

pub returns-clause-crashes : goal.returns-clause-crashes
returns-clause-crashes g c = λ q.
    let view : c.args.self.now.slots ≡ c.self.inside.slots.items = sym (ap (λ v. v.slots) c.self.view_is) in
    let seen : c.as_mut_slice.result.now ≡ c.args.self.now.slots = c.as_mut_slice.ensures.value ∙ sym view in
    subst (λ xs. Both g.T.Device.crashes (at g.K.DevicePlace.same q c.args.self.now.slots) (at g.K.DevicePlace.same q xs))
    (sym (whole c.self.inside.slots.items c.crash_all.new.slots c.self.inside.slots.len (omega (arith, c.self.inside.slots.ok.0))
    (still_length g.T.Device.crashes c.as_mut_slice.result.now c.crash_all.new.slots c.crash_all.ensures ∙ ap length c.as_mut_slice.ensures.value)))
    (subst (λ xs. Both g.T.Device.crashes (at g.K.DevicePlace.same q xs) (at g.K.DevicePlace.same q c.crash_all.new.slots)) seen
    (still_at g.K.DevicePlace.same g.met.K.DevicePlace.decides g.T.Device.crashes c.as_mut_slice.result.now c.crash_all.new.slots c.crash_all.ensures q))
