-- What an opening reads before its first change, and the parts of the log that it makes.
--
-- The manifest that is read is written again under the next incarnation. Where there is none, the manifest that is
-- written first is that of incarnation 1, and so is the next one.
use Rattle.std.specs.Prelude.{◌≡◌, ◌⊎◌, ℕ, ◌+◌, ◌≤◌, ◌<◌, ◌^◌, List, [], ◌∷◌, ◌++◌}
use Rattle.std.specs.Prelude.{map, Option, Some, None, Ok, Err, IsTrue}
use Rattle.tier_base.specs.declared.plain.FileName.TheVariants as file
use Rattle.disk_model.specs.Content.{Content, Files, Image}
use Rattle.epoch_line.specs.Line.{IsLine}
use Rattle.log_manifest.specs.declared.manifest.Extent.{Extent}
use Rattle.log_manifest.specs.declared.manifest.Manifest.{Manifest}
use Rattle.log_manifest.specs.declared.refusal.ManifestRefusal.TheVariants.{Bad}
use Rattle.log_manifest.specs.Rules.{IsManifest}
use Rattle.log_manifest.specs.Reading.{manifest_in}
use Rattle.log_manifest.specs.Spelling.{manifest_bytes}
use Rattle.segment_file.specs.Growing.{Grown}
use Rattle.log_steps.specs.Fronts.{Each}
use Rattle.log_steps.specs.Opens.{Opened, Opens}
use Rattle.log_steps.specs.Reopens.{raised}
use Rattle.local_log.specs.declared.opening.Plan.{Plan}
use Rattle.local_log.specs.declared.opening.Parts.{Parts}
use Rattle.local_log.specs.declared.refusal.OpenRefusal.{OpenRefusal}
use Rattle.local_log.specs.declared.refusal.OpenRefusal.TheVariants.{DiskFault, Damaged, LastIncarnation, NoMemory}
use Rattle.local_log.specs.Refusing.{IsDry}
use Rattle.local_log.specs.Stored.{end_of, extent_of, all_batches, AreChained, chain_end, IsStored}
use Rattle.local_log.specs.Listing.{IsLaidOut, AreSegmentsOf}
use Rattle.local_log.specs.Opening.{IsLastOf, ReadsTo, Lists}
use Rattle.local_log.specs.Inside.{DiskHasLog}

-- the manifest of the log that is made where a disk has none
abbrev pub first_manifest : Manifest
first_manifest = record { incarnation = 1; local_start = 0; segments = record { base = 0; len = 0 } ∷ []; line = [] }

-- the plan is made of the manifest's file: its manifest is that of these bytes, under the next incarnation
abbrev pub PlansFrom : Option (List ℕ) → Plan → Type 0
PlansFrom None plan = (plan.present ≡ plan.next.items) × (plan.manifest ≡ first_manifest)
PlansFrom (Some bytes) plan =
    (plan.present ≡ bytes)
    × ((n : ℕ) × (manifest_in bytes ≡ Ok (record plan.manifest { incarnation = n }))
    × (plan.manifest.incarnation ≡ n + 1))

-- a plan of an opening
pub record IsPlan (held : Option (List ℕ)) (plan : Plan) : Type 0 where
  pub from : PlansFrom held plan
  pub next_is : plan.next.items ≡ manifest_bytes plan.manifest
  pub rules : IsManifest plan.manifest
  pub fits : plan.manifest.incarnation < 2 ^ 32

-- a plan of what the disk reads
pub record IsPlanOf (d : Content) (plan : Plan) : Type 0 where
  pub held : Option (List ℕ)
  pub is : IsPlan held plan
  pub told : IsTrue d.is_observable → d.files file.Manifest ≡ held

-- why no plan is made of the manifest's bytes
abbrev pub PlanFails : List ℕ → OpenRefusal → Type 0
PlanFails bytes DiskFault = ⊥
PlanFails bytes (Damaged name at) = (name ≡ file.Manifest) × (manifest_in bytes ≡ Err (Bad at))
PlanFails bytes LastIncarnation = IsLastOf bytes
PlanFails bytes NoMemory = Unit {0}

-- why no plan is made of the manifest's file
abbrev pub FileFails : Option (List ℕ) → OpenRefusal → Type 0
FileFails None why = IsDry why
FileFails (Some bytes) why = PlanFails bytes why

-- why nothing was planned, by what was last returned
abbrev pub StudyFails : List ℕ → OpenRefusal → Type 0
StudyFails last_read DiskFault = Unit {0}
StudyFails last_read (Damaged name at) = (name ≡ file.Manifest) × (manifest_in last_read ≡ Err (Bad at))
StudyFails last_read LastIncarnation = IsLastOf last_read
StudyFails last_read NoMemory = Unit {0}

-- segments were read from their files, one after another
pub record AreSegmentsRead (d : Content) (line : List (ℕ × ℕ)) (interval start : ℕ) (extents : List Extent)
    (segments : List Grown) : Type 0 where
  pub are : map extent_of segments ≡ extents
  pub chained : AreChained start segments
  pub laid : Each IsLaidOut segments
  pub intervals : Each (λ (segment : Grown). segment.interval ≡ interval) segments
  pub low : chain_end start segments ≤ 2 ^ 62
  pub stored : IsTrue d.is_observable → Each (IsStored d.files line) segments

-- nothing was read yet, or the last segment's file was returned and its batches end there
abbrev pub LastRead : List (ℕ × ℕ) → ℕ → List Extent → ℕ → List ℕ → Type 0
LastRead line start extents end last_read =
    ((extents ≡ []) × (end ≡ start))
    ⊎ ((before : List Extent) × (e : Extent) × (extents ≡ before ++ e ∷ []) × ReadsTo line e last_read end)

-- a segment was read from its file, after segments that end there
pub record IsSegmentRead (d : Content) (line : List (ℕ × ℕ)) (interval end : ℕ) (e : Extent)
    (segment : Grown) : Type 0 where
  pub begins : e.base ≡ end
  pub is : extent_of segment ≡ e
  pub laid : IsLaidOut segment
  pub interval_is : segment.interval ≡ interval
  pub low : end_of segment ≤ 2 ^ 62
  pub stored : IsTrue d.is_observable → IsStored d.files line segment

-- the log of these parts, whole
abbrev pub whole_of : Files → Parts → Opened
whole_of f parts = record {
  incarnation = parts.incarnation;
  local_start = parts.local_start;
  batches = all_batches f (parts.closed.items ++ parts.active ∷ []);
  line = parts.line;
}

-- a log was opened: its parts, what the disk has of it, and what the disk read before
pub record IsLogOpened (d d' : Content) (interval : ℕ) (parts : Parts) : Type 0 where
  pub is_observable : d'.is_observable ≡ d.is_observable
  pub segments : AreSegmentsOf parts.local_start parts.closed.items parts.active
  pub intervals : Each (λ (segment : Grown). segment.interval ≡ interval) (parts.closed.items ++ parts.active ∷ [])
  pub opened : 1 ≤ parts.incarnation
  pub fits : parts.incarnation < 2 ^ 32
  pub line : IsLine parts.line
  pub line_within : Each (λ (entry : ℕ × ℕ). entry.1 ≤ end_of parts.active) parts.line
  pub has : DiskHasLog d' parts.incarnation parts.local_start parts.closed.items parts.active parts.line
      (end_of parts.active)
  pub lists : IsTrue d.is_observable → Lists d.files (parts.closed.items ++ parts.active ∷ [])
  pub was : IsTrue d.is_observable → (o : Opened) × Opens d.files o × (whole_of d'.files parts ≡ raised o)
  pub durable : (c : Files) → Image d' c → Opens c (whole_of d'.files parts)
