use Rattle.std.proofs.Common.{◌∙◌, ◌<◌, sym, length, arith, refl}
use Rattle.std.proofs.lemmas.Option.{slice_get-get_or}
use Rattle.memory_yard.proofs.Loops.{still_itself, still_set, rest_set, found_more, found_none, found_all}
use Rattle.memory_yard.proofs.shelf.find_all.Goals as goal

pub loop-slot-init : goal.loop-slot-init
loop-slot-init g c = record {
  still = still_itself g.T.Device.keeps g.met.T.Device.keeps_itself c.args.slots.now;
  rest = λ k le. refl;
  found = found_none g.K.DevicePlace.partition_of g.T.Device.used c.args.slots.now c.args.found.now;
}

pub returns-in_err-find-clause-still : goal.returns-in_err-find-clause-still
returns-in_err-find-clause-still g c =
    let i = c.loop-slot.slot-index in
    let below : i < length c.loop-slot.slots = omega arith in
    still_set g.T.Device.keeps c.args.slots.now c.loop-slot.slots i _ c.find.new.self c.loop-slot.invariant.still c.loop-slot.invariant.rest
    (slice_get-get_or c.loop-slot.slots i _ below) c.find.ensures.keeps

pub loop-slot-preserved : goal.loop-slot-preserved
loop-slot-preserved g c =
    let i = c.loop-slot.slot-index in
    let below : i < length c.loop-slot.slots = omega arith in
    record {
      still = still_set g.T.Device.keeps c.args.slots.now c.loop-slot.slots i _ c.find.new.self c.loop-slot.invariant.still c.loop-slot.invariant.rest
          (slice_get-get_or c.loop-slot.slots i _ below) c.find.ensures.keeps;
      rest = rest_set g.T.Device.keeps c.args.slots.now c.loop-slot.slots i c.find.new.self c.loop-slot.invariant.rest;
      found = found_more g.K.DevicePlace.partition_of g.T.Device.used c.args.slots.now i _ _ _ _
          (sym (c.loop-slot.invariant.rest i (omega arith)) ∙ slice_get-get_or c.loop-slot.slots i _ below) c.loop-slot.invariant.found c.in_ok-find.ensures.found;
    }

pub returns-clause-found : goal.returns-clause-found
returns-clause-found g c =
    found_all g.K.DevicePlace.partition_of g.T.Device.used c.args.slots.now c.loop-slot.slot-index _ _ (omega arith) (omega arith) c.loop-slot.invariant.found
