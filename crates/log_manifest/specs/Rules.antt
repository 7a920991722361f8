-- What a manifest must say.
use Rattle.std.specs.Prelude.{◌≡◌, ℕ, ◌^◌, ◌<◌, ◌≤◌, List, [], ◌∷◌, length}
use Rattle.epoch_line.specs.Line.{IsLine}
use Rattle.log_manifest.specs.declared.manifest.Extent.{Extent}
use Rattle.log_manifest.specs.declared.manifest.Manifest.{Manifest}

-- the first segment begins here
abbrev pub BeginsAt : ℕ → List Extent → Type 0
BeginsAt start [] = ⊥
BeginsAt start (segment ∷ segments) = segment.base ≡ start

-- bases rise and are at most 2^62, lengths are below 2^31, and only the last may be 0
abbrev pub AreSegments : List Extent → Type 0
AreSegments [] = Unit {0}
AreSegments (last ∷ []) = (last.base ≤ 2 ^ 62) × (last.len < 2 ^ 31)
AreSegments (segment ∷ next ∷ segments) =
    (segment.base < next.base) × (0 < segment.len) × (segment.len < 2 ^ 31) × AreSegments (next ∷ segments)

-- the rules of a manifest
pub record IsManifest (manifest : Manifest) : Type 0 where
  pub opened : 1 ≤ manifest.incarnation
  pub begins : BeginsAt manifest.local_start manifest.segments
  pub segments : AreSegments manifest.segments
  pub few : length manifest.segments ≤ 4096
  pub line : IsLine manifest.line
