use Rattle.std.proofs.Common.{◌<◌, length, arith, refl}
use Rattle.std.proofs.lemmas.Option.{slice_get-get_or}
use Rattle.memory_yard.proofs.Loops.{passed_set, passed_all, rest_set}
use Rattle.memory_yard.proofs.shelf.crash_all.Goals as goal

pub loop-slot-init : goal.loop-slot-init
loop-slot-init g c = record { done = λ k below. absurd (omega (arith, below)); rest = λ k le. refl }

pub loop-slot-preserved : goal.loop-slot-preserved
loop-slot-preserved g c =
    let i = c.loop-slot.slot-index in
    let below : i < length c.loop-slot.slots = omega arith in
    record {
      done = passed_set g.T.Device.crashes c.args.slots.now c.loop-slot.slots i _ c.crash.new.self c.loop-slot.invariant.done c.loop-slot.invariant.rest
          (slice_get-get_or c.loop-slot.slots i _ below) c.crash.ensures;
      rest = rest_set g.T.Device.crashes c.args.slots.now c.loop-slot.slots i c.crash.new.self c.loop-slot.invariant.rest;
    }

pub returns : goal.returns
returns g c = passed_all g.T.Device.crashes c.args.slots.now c.loop-slot.slots c.loop-slot.slot-index (omega arith) c.loop-slot.invariant.done c.loop-slot.invariant.rest
