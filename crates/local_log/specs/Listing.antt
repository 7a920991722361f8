-- The manifest of a whole log.
use Rattle.std.specs.Prelude.{◌≡◌, ℕ, ◌+◌, ◌^◌, ◌≤◌, ◌<◌, List, [], ◌∷◌, ◌++◌, length, map}
use Rattle.log_manifest.specs.declared.manifest.Extent.{Extent}
use Rattle.log_manifest.specs.declared.manifest.Manifest.{Manifest}
use Rattle.log_steps.specs.Fronts.{Each}
use Rattle.segment_file.specs.Growing.{Grown, AreBatchesLaid, ending_by}
use Rattle.local_log.specs.Stored.{size_of, end_of, extent_of, AreChained}

-- a segment whose batches follow one another, and are as far from its base as its index reaches
pub record IsLaidOut (segment : Grown) : Type 0 where
  pub laid : AreBatchesLaid segment.base 0 segment.batches
  pub near : end_of segment ≤ segment.base + 2 ^ 31
  pub small : size_of segment < 2 ^ 31

-- the segments of a log, the last of which is open
pub record AreSegmentsOf (local_start : ℕ) (closed : List Grown) (active : Grown) : Type 0 where
  pub chained : AreChained local_start (closed ++ active ∷ [])
  pub laid : Each IsLaidOut closed
  pub some : Each (λ segment. 0 < size_of segment) closed
  pub active_laid : IsLaidOut active
  pub low : end_of active ≤ 2 ^ 62
  pub few : length closed < 4096

-- the manifest that lists all of a log
abbrev pub manifest_of : ℕ → ℕ → List Grown → Grown → List (ℕ × ℕ) → Manifest
manifest_of incarnation local_start closed active line = record {
  incarnation = incarnation;
  local_start = local_start;
  segments = map extent_of (closed ++ active ∷ []);
  line = line;
}

-- a segment without the batches that end past an offset
abbrev pub front_to : ℕ → Grown → Grown
front_to end segment = record segment { batches = ending_by end segment.batches }

-- the segments are listed up to an offset; one that begins there may be left out
abbrev pub AreListed : ℕ → List Extent → List Grown → Type 0
AreListed end [] segments = Each (λ g. end ≤ g.base) segments
AreListed end (extent ∷ extents) [] = ⊥
AreListed end (extent ∷ extents) (segment ∷ segments) =
    (segment.base ≤ end) × (extent ≡ extent_of (front_to end segment)) × AreListed end extents segments
