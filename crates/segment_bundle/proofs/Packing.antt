-- Parts that can be packed.
use Rattle.std.proofs.Common.{◌≡◌, ℕ, ◌<◌, ◌^◌, Bool, true, false, ◌&&◌, length, arith}
use Rattle.std.proofs.lemmas.Bool.Decides.{nat_tests}
use Rattle.tier_base.specs.Layout.{LayoutFits}
use Rattle.segment_bundle.specs.Parts.{Parts, has_room, can_pack, layout_of}

each : (a b c d : Bool) → (a && (b && (c && d))) ≡ true → (a ≡ true) × (b ≡ true) × (c ≡ true) × (d ≡ true)
each true true true true e = (e, e, e, e)
each true true true false e = cc
each true true false d e = cc
each true false c d e = cc
each false b c d e = cc

short : (size : ℕ) → has_room size ≡ true → size < 2 ^ 32
short size e = grind (arith, nat_tests, e)

-- their layout has room
pub pack_fits : (parts : Parts) → can_pack parts ≡ true → LayoutFits (layout_of parts)
pack_fits parts e =
    let all = each (has_room (length parts.log)) (has_room (length parts.index)) (has_room (length parts.times)) (has_room (length parts.epochs)) e in
    record {
      log = short (length parts.log) all.0;
      index = short (length parts.index) all.1;
      times = short (length parts.times) all.2;
      epochs = short (length parts.epochs) all.3;
    }
