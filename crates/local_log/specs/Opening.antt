-- Why a log isn't opened, and what is reported of one that is.
--
-- A log is opened under the incarnation after that of the manifest. A disk without a manifest opens as the empty log
-- at 0 under incarnation 0.
use Rattle.std.specs.Prelude.{◌≡◌, ◌≢◌, ◌⊎◌, ℕ, ◌+◌, false, ◌≤◌, List, [], ◌∷◌, ◌++◌}
use Rattle.std.specs.Prelude.{length, take, map, Option, Some, None, Ok, Err}
use Rattle.tier_base.specs.declared.plain.FileName.{FileName}
use Rattle.tier_base.specs.declared.plain.FileName.TheVariants as file
use Rattle.tier_base.specs.declared.plain.Settings.{Settings}
use Rattle.disk_model.specs.Content.{Files}
use Rattle.log_terms.specs.Log.{end_from}
use Rattle.log_manifest.specs.declared.manifest.Extent.{Extent}
use Rattle.log_manifest.specs.declared.manifest.Manifest.{Manifest}
use Rattle.log_manifest.specs.declared.refusal.ManifestRefusal.TheVariants.{Bad}
use Rattle.log_manifest.specs.Rules.{IsManifest}
use Rattle.log_manifest.specs.Reading.{manifest_in}
use Rattle.segment_file.specs.Growing.{Grown}
use Rattle.log_steps.specs.Fronts.{Each, log_at}
use Rattle.log_steps.specs.Opens.{Opened, Segments}
use Rattle.log_steps.specs.Reopens.{Says}
use Rattle.local_log.specs.declared.refusal.OpenRefusal.{OpenRefusal}
use Rattle.local_log.specs.declared.refusal.OpenRefusal.TheVariants.{DiskFault, Damaged, LastIncarnation, NoMemory}
use Rattle.local_log.specs.Stored.{extent_of}
use Rattle.local_log.specs.Log.{Log}
use Rattle.local_log.specs.Parsing.{ParsesFront, HasNoBatchAt}

-- bytes say a manifest of the last incarnation
abbrev pub IsLastOf : List ℕ → Type 0
IsLastOf bytes = (m : Manifest) × (manifest_in bytes ≡ Ok m) × (m.incarnation ≡ 4294967295)

-- the manifest of these files has the last incarnation
abbrev pub HoldsLast : Files → Type 0
HoldsLast f = (m : Manifest) × Says f m × (m.incarnation ≡ 4294967295)

-- why a segment isn't read: it doesn't begin where those before it end, or its file has no batch at a place
abbrev pub SegmentFails : List (ℕ × ℕ) → ℕ → Extent → List ℕ → OpenRefusal → Type 0
SegmentFails line end e last_read DiskFault = Unit {0}
SegmentFails line end e last_read (Damaged name at) =
    (name ≡ file.Log e.base) × (((e.base ≢ end) × (at ≡ 0)) ⊎ ((e.base ≡ end) × HasNoBatchAt line e last_read at))
SegmentFails line end e last_read LastIncarnation = ⊥
SegmentFails line end e last_read NoMemory = Unit {0}

-- what was returned is a segment's file, and its batches end there
pub record ReadsTo (line : List (ℕ × ℕ)) (e : Extent) (last_read : List ℕ) (end : ℕ) : Type 0 where
  pub batches : List (List ℕ)
  pub fronts : ParsesFront line e.base (take e.len last_read) batches []
  pub long : e.len ≤ length last_read
  pub end_is : end ≡ end_from e.base batches

-- the file of a segment of the manifest was returned, and has no batch at a place
pub record HasUnread (m : Manifest) (last_read : List ℕ) (name : FileName) (at : ℕ) : Type 0 where
  pub before : List Extent
  pub extent : Extent
  pub after : List Extent
  pub parts : m.segments ≡ before ++ extent ∷ after
  pub named : name ≡ file.Log extent.base
  pub misses : HasNoBatchAt m.line extent last_read at

-- the file of a segment of the manifest was returned, and the next one doesn't begin where its batches end
pub record HasGap (m : Manifest) (last_read : List ℕ) (name : FileName) (at : ℕ) : Type 0 where
  pub before : List Extent
  pub extent : Extent
  pub next : Extent
  pub after : List Extent
  pub parts : m.segments ≡ before ++ extent ∷ next ∷ after
  pub named : name ≡ file.Log next.base
  pub end : ℕ
  pub reads : ReadsTo m.line extent last_read end
  pub apart : next.base ≢ end
  pub place : at ≡ 0

-- a segment of a manifest is invalid at a place of its file
abbrev pub MissesSegment : Manifest → List ℕ → FileName → ℕ → Type 0
MissesSegment m last_read name at = HasUnread m last_read name at ⊎ HasGap m last_read name at

-- why the segments of a manifest aren't read
abbrev pub ReadFails : Manifest → List ℕ → OpenRefusal → Type 0
ReadFails m last_read DiskFault = Unit {0}
ReadFails m last_read (Damaged name at) = MissesSegment m last_read name at
ReadFails m last_read LastIncarnation = ⊥
ReadFails m last_read NoMemory = Unit {0}

-- the first place of a manifest's segments that is invalid in these files: those before its segment have one
pub record MissesIn (f : Files) (m : Manifest) (name : FileName) (at : ℕ) : Type 0 where
  pub before : List Extent
  pub extent : Extent
  pub after : List Extent
  pub batches : List (List ℕ)
  pub parts : m.segments ≡ before ++ extent ∷ after
  pub read : Segments f m.line m.local_start before batches
  pub fails : SegmentFails m.line (end_from m.local_start batches) extent (log_at f extent) (Damaged name at)

-- why the segments of a manifest aren't read from these files
abbrev pub ReadFailsIn : Files → Manifest → OpenRefusal → Type 0
ReadFailsIn f m DiskFault = Unit {0}
ReadFailsIn f m (Damaged name at) = MissesIn f m name at
ReadFailsIn f m LastIncarnation = ⊥
ReadFailsIn f m NoMemory = Unit {0}

-- the manifest of these files is invalid at a place
pub record MissesManifest (f : Files) (name : FileName) (at : ℕ) : Type 0 where
  pub named : name ≡ file.Manifest
  pub bytes : List ℕ
  pub there : f file.Manifest ≡ Some bytes
  pub none : manifest_in bytes ≡ Err (Bad at)

-- the first place of these files that is invalid: of the manifest, or of the segments that it lists
abbrev pub IsDamage : Files → FileName → ℕ → Type 0
IsDamage f name at = MissesManifest f name at ⊎ ((m : Manifest) × Says f m × MissesIn f m name at)

-- why the log of these files wasn't opened
abbrev pub OpenFailsIn : Files → OpenRefusal → Type 0
OpenFailsIn f DiskFault = Unit {0}
OpenFailsIn f (Damaged name at) = IsDamage f name at
OpenFailsIn f LastIncarnation = HoldsLast f
OpenFailsIn f NoMemory = Unit {0}

-- the segments that a manifest's file lists: where there is none, the empty one at 0
abbrev pub ListsFrom : Option (List ℕ) → List Extent → Type 0
ListsFrom None extents = extents ≡ record { base = 0; len = 0 } ∷ []
ListsFrom (Some bytes) extents = (m : Manifest) × (manifest_in bytes ≡ Ok m) × (extents ≡ m.segments)

-- these are the segments that the manifest of files lists, each as large as it says
abbrev pub Lists : Files → List Grown → Type 0
Lists f segments = ListsFrom (f file.Manifest) (map extent_of segments)

-- why a log wasn't opened, by what was last returned: the manifest is invalid at a place, or a segment that it lists
abbrev pub OpenFails : List ℕ → OpenRefusal → Type 0
OpenFails last_read DiskFault = Unit {0}
OpenFails last_read (Damaged name at) =
    ((name ≡ file.Manifest) × (manifest_in last_read ≡ Err (Bad at)))
    ⊎ ((m : Manifest) × IsManifest m × MissesSegment m last_read name at)
OpenFails last_read LastIncarnation = IsLastOf last_read
OpenFails last_read NoMemory = Unit {0}

module _ {D : Type 0} where
  -- a log that was just opened
  pub record IsOpenLog (settings : Settings) (log : Log D) : Type 0 where
    pub settings_are : log.settings ≡ settings
    pub intervals : Each (λ (segment : Grown). segment.interval ≡ settings.index_interval)
        (log.closed ++ log.active ∷ [])
    pub flushed_end : log.flushed_end ≡ log.end
    pub broken : log.broken ≡ false

  -- the log of what was read, under the next incarnation
  pub record IsLogOf (o : Opened) (log : Log D) : Type 0 where
    pub incarnation : log.incarnation ≡ o.incarnation + 1
    pub local_start : log.local_start ≡ o.local_start
    pub batches : log.batches ≡ o.batches
    pub line : log.line ≡ o.line
