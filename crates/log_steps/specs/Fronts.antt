-- The fronts of log segments' files: what a manifest lists of them.
use Rattle.std.specs.Prelude.{◌≡◌, ℕ, ◌≤◌, ◌<◌, List, [], ◌∷◌, length, take}
use Rattle.tier_base.specs.declared.plain.FileName.TheVariants.{Log}
use Rattle.tier_base.specs.Told.{bytes_in}
use Rattle.disk_model.specs.Content.{Files}
use Rattle.log_manifest.specs.declared.manifest.Extent.{Extent}

-- the bytes of a segment's file
abbrev pub log_at : Files → Extent → List ℕ
log_at c e = bytes_in (c (Log e.base))

-- the front of a segment's file, as long as the segment
abbrev pub front : Files → Extent → List ℕ
front c e = take e.len (log_at c e)

-- it holds of each item
abbrev pub Each : {X : Type 0} → (X → Type 0) → List X → Type 0
Each P [] = Unit {0}
Each P (x ∷ xs) = P x × Each P xs

-- the image has the whole front, and it is the other's
pub record Agrees (c f : Files) (e : Extent) : Type 0 where
  pub long : e.len ≤ length (log_at c e)
  pub same : front c e ≡ front f e

-- where the front was whole, it is so still, with the same bytes
abbrev pub KeepsFront : Files → Files → Extent → Type 0
KeepsFront d c e = e.len ≤ length (log_at d e) → Agrees c d e

-- each base is below the next
abbrev pub Rising : List Extent → Type 0
Rising [] = Unit {0}
Rising (e ∷ []) = Unit {0}
Rising (e ∷ f ∷ es) = (e.base < f.base) × Rising (f ∷ es)
