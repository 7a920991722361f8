-- The custom metadata of what a copy puts may be in the event that it is whole.
use Rattle.std.proofs.Common.{◌≡◌, refl, sym, subst, ℕ, Bool, true, false, List, length, Option, arith}
use Rattle.tier_base.specs.declared.layout.Layout.{Layout}
use Rattle.tier_base.specs.declared.plain.State.TheVariants.{CopyFinished}
use Rattle.tier_base.specs.Layout.{layout_bytes}
use Rattle.segment_bundle.specs.Parts.{layout_of}
use Rattle.segment_meta.specs.Rules.{MayHaveCustom}
use Rattle.copy_task.specs.Copying.{Copied, custom_of}

layout_length : (l : Layout) → length (layout_bytes l) ≡ 17
unfolding layout_bytes
layout_length l = refl

pub custom_may : (copy : Copied) → MayHaveCustom CopyFinished (custom_of copy)
custom_may copy = by copy.packed
  where
    by : (packed : Bool) → MayHaveCustom CopyFinished (custom_of (record copy { packed = packed }))
    by false = tt
    by true = record { few = (let n = layout_length (layout_of copy.parts) in omega (arith, n)); bare = λ ne. absurd (ne refl) }

pub told_may : (copy : Copied) (custom : Option (List ℕ)) → custom ≡ custom_of copy → MayHaveCustom CopyFinished custom
told_may copy custom told = subst (MayHaveCustom CopyFinished) (sym told) (custom_may copy)
