-- A segment that is read from its file's bytes.
use Rattle.std.specs.Prelude.{◌≡◌, ℕ, ◌+◌, ◌-◌, ◌^◌, ◌<◌, ◌≤◌, List, [], ◌∷◌, ◌++◌, length, take, drop, Some}
use Rattle.std.specs.Int.{w32, w64, cast_unsigned}
use Rattle.tier_base.specs.declared.plain.FileName.TheVariants as file
use Rattle.log_terms.specs.Batch.{base_of}
use Rattle.log_terms.specs.Line.{epoch_at}
use Rattle.log_terms.specs.Log.{joined, IsConsecutive}
use Rattle.record_batch.specs.declared.head.Head.{Head}
use Rattle.log_manifest.specs.declared.manifest.Extent.{Extent}
use Rattle.segment_file.specs.Walk.{size_in}
use Rattle.segment_file.specs.Gathering.{HeadDescribes}
use Rattle.segment_file.specs.Index.{placed_from}
use Rattle.segment_file.specs.Growing.{Grown}
use Rattle.log_steps.specs.Fronts.{Each}
use Rattle.log_steps.specs.Opens.{IsPlaced}
use Rattle.local_log.specs.declared.refusal.OpenRefusal.{OpenRefusal}
use Rattle.local_log.specs.declared.refusal.OpenRefusal.TheVariants.{DiskFault, Damaged, LastIncarnation, NoMemory}

-- batches that may be in a segment are the front of bytes
pub record ParsesFront (line : List (ℕ × ℕ)) (base : ℕ) (bytes : List ℕ) (batches : List (List ℕ))
    (rest : List ℕ) : Type 0 where
  pub parts : bytes ≡ joined batches ++ rest
  pub placed : Each (IsPlaced line base) batches
  pub consecutive : IsConsecutive base batches

-- the segment has these bytes
pub record IsParsed (line : List (ℕ × ℕ)) (interval : ℕ) (e : Extent) (bytes : List ℕ) (segment : Grown) : Type 0 where
  pub batches : List (List ℕ)
  pub fronts : ParsesFront line e.base (take e.len bytes) batches []
  pub long : e.len ≤ length bytes
  pub segment_is : segment ≡ record { base = e.base; interval = interval; batches = placed_from 0 batches }

-- the segment isn't whole, and at this place of its bytes no batch follows
pub record HasNoBatchAt (line : List (ℕ × ℕ)) (e : Extent) (bytes : List ℕ) (at : ℕ) : Type 0 where
  pub batches : List (List ℕ)
  pub rest : List ℕ
  pub fronts : ParsesFront line e.base (take e.len bytes) batches rest
  pub place : at ≡ length (joined batches)
  pub short : at < e.len
  pub nothing : (batch more : List ℕ) → rest ≡ batch ++ more → IsPlaced line e.base batch
      → IsConsecutive e.base (batches ++ batch ∷ []) → ⊥

-- why bytes aren't read as a segment
abbrev pub ParseFails : List (ℕ × ℕ) → Extent → List ℕ → OpenRefusal → Type 0
ParseFails line e bytes DiskFault = ⊥
ParseFails line e bytes (Damaged name at) = (name ≡ file.Log e.base) × HasNoBatchAt line e bytes at
ParseFails line e bytes LastIncarnation = ⊥
ParseFails line e bytes NoMemory = Unit {0}

-- the front of bytes is in the segment
pub record IsParsing (line : List (ℕ × ℕ)) (interval base : ℕ) (front : List ℕ) (segment : Grown) : Type 0 where
  pub batches : List (List ℕ)
  pub rest : List ℕ
  pub fronts : ParsesFront line base front batches rest
  pub segment_is : segment ≡ record { base = base; interval = interval; batches = placed_from 0 batches }

-- a batch of this head may be in a segment, after batches that end there
pub record MayStand (line : List (ℕ × ℕ)) (base end : ℕ) (head : Head) : Type 0 where
  pub begins : cast_unsigned w64 head.base_offset ≡ end
  pub near : end + cast_unsigned w32 head.last_offset_delta - base < 2 ^ 31
  pub low : end + cast_unsigned w32 head.last_offset_delta < 2 ^ 62
  pub epoch : epoch_at line end ≡ Some (cast_unsigned w32 head.leader_epoch)

-- the batch of this head is there and continues
pub record StandsNext (line : List (ℕ × ℕ)) (base : ℕ) (bytes : List ℕ) (at end : ℕ) (head : Head) : Type 0 where
  pub batch : List ℕ
  pub parts : drop at bytes ≡ batch ++ drop (at + size_in head) bytes
  pub placed : IsPlaced line base batch
  pub begins : base_of batch ≡ end
  pub is_observable : HeadDescribes batch head
  pub inside : at + size_in head ≤ length bytes

-- no batch follows
abbrev pub NoBatchNext : List (ℕ × ℕ) → ℕ → List ℕ → ℕ → ℕ → Type 0
NoBatchNext line base bytes at end =
    (batch more : List ℕ) → drop at bytes ≡ batch ++ more → IsPlaced line base batch → base_of batch ≡ end → ⊥
