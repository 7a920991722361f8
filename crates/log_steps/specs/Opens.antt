-- What an image opens as: its manifest gates the length of each segment, and the fronts are read as batches.
--
-- An image without a manifest opens as the empty log at 0, with incarnation 0, which no manifest can hold.
use Rattle.std.specs.Prelude.{◌≡◌, ℕ, ◌+◌, ◌-◌, ◌≤◌, ◌<◌, ◌^◌, List, [], ◌∷◌, ◌++◌}
use Rattle.std.specs.Prelude.{length, Option, Some, None, Result, Ok, Err, IsOk}
use Rattle.tier_base.specs.declared.plain.FileName.TheVariants as file
use Rattle.log_terms.specs.Batch.{base_of, last_of, epoch_of}
use Rattle.log_terms.specs.Log.{IsConsecutive, end_from, joined}
use Rattle.log_terms.specs.Line.{epoch_at}
use Rattle.record_batch.specs.Check.{checked}
use Rattle.epoch_line.specs.Line.{cut_end}
use Rattle.disk_model.specs.Content.{Files}
use Rattle.log_manifest.specs.declared.manifest.Extent.{Extent}
use Rattle.log_manifest.specs.declared.manifest.Manifest.{Manifest}
use Rattle.log_manifest.specs.declared.refusal.ManifestRefusal.{ManifestRefusal}
use Rattle.log_manifest.specs.Reading.{manifest_in}
use Rattle.log_steps.specs.Fronts.{Each, log_at, front}

-- what an image opens as
pub record Opened : Type 0 where
  pub incarnation : ℕ
  pub local_start : ℕ
  -- the batches from the local start on
  pub batches : List (List ℕ)
  pub line : List (ℕ × ℕ)

-- a batch may be in a segment: its offsets are near the base and below 2^62, and the line gives its epoch
pub record IsPlaced (line : List (ℕ × ℕ)) (base : ℕ) (batch : List ℕ) : Type 0 where
  pub is : IsOk (checked batch)
  pub near : last_of batch - base < 2 ^ 31
  pub low : last_of batch < 2 ^ 62
  pub epoch : epoch_at line (base_of batch) ≡ Some (epoch_of batch)

-- these batches are the front of a segment's file, and the first of them begins at the base
pub record Segment (c : Files) (line : List (ℕ × ℕ)) (e : Extent) (batches : List (List ℕ)) : Type 0 where
  pub long : e.len ≤ length (log_at c e)
  pub bytes : front c e ≡ joined batches
  pub placed : Each (IsPlaced line e.base) batches
  pub consecutive : IsConsecutive e.base batches

-- these batches are those of the segments, one after another from an offset on
abbrev pub Segments : Files → List (ℕ × ℕ) → ℕ → List Extent → List (List ℕ) → Type 0
Segments c line n [] batches = batches ≡ []
Segments c line n (e ∷ es) batches =
    (here : List (List ℕ)) × (rest : List (List ℕ)) × (batches ≡ here ++ rest) × (e.base ≡ n)
    × Segment c line e here × Segments c line (end_from n here) es rest

-- an image is read so, by the manifest that it has
pub record IsOpenedBy (m : Manifest) (c : Files) (o : Opened) : Type 0 where
  pub incarnation : o.incarnation ≡ m.incarnation
  pub local_start : o.local_start ≡ m.local_start
  pub batches : Segments c m.line m.local_start m.segments o.batches
  -- without the entries that start past the end
  pub line : o.line ≡ cut_end m.line (end_from o.local_start o.batches + 1)

-- the log of a disk that has none
abbrev pub nothing : Opened
nothing = record { incarnation = 0; local_start = 0; batches = []; line = [] }

-- by what the bytes of the manifest say
abbrev pub OpensBy : Result Manifest ManifestRefusal → Files → Opened → Type 0
OpensBy (Ok m) c o = IsOpenedBy m c o
OpensBy (Err why) c o = ⊥

-- by the manifest's file
abbrev pub OpensFrom : Option (List ℕ) → Files → Opened → Type 0
OpensFrom None c o = o ≡ nothing
OpensFrom (Some bytes) c o = OpensBy (manifest_in bytes) c o

-- an image opens so
abbrev pub Opens : Files → Opened → Type 0
Opens c o = OpensFrom (c file.Manifest) c o
