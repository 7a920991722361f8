-- What is written of a layout is read as that layout.
use Rattle.std.proofs.Common.{◌≡◌, refl, Some}
use Rattle.std.proofs.lemmas.Nat.{from_be_bytes-to_be_bytes_4}
use Rattle.tier_base.specs.declared.layout.Layout.{Layout}
use Rattle.tier_base.specs.Layout.{LayoutFits, layout_bytes, layout_in}

pub layout_again : (l : Layout) → LayoutFits l → layout_in (layout_bytes l) ≡ Some l
unfolding layout_bytes
layout_again l fits =
    rw (from_be_bytes-to_be_bytes_4 l.log fits.log, from_be_bytes-to_be_bytes_4 l.index fits.index, from_be_bytes-to_be_bytes_4 l.times fits.times, from_be_bytes-to_be_bytes_4 l.epochs fits.epochs) refl
