-- What is read of a log: the run at an offset, and its closed segments.
--
-- A run has the batch that holds the offset, and as many further ones as the high watermark and the limit allow. It
-- lies in a piece: in one segment, and before the next epoch starts. A start that is no batch's end ends no piece. The
-- line gives the epoch of each batch that is read.
use Rattle.std.specs.Prelude.{◌≡◌, ℕ, ◌+◌, ◌<◌, ◌≤◌, ◌⊎◌, ◌==◌, ◌&&◌, nat_lt, min, Bool, true}
use Rattle.std.specs.Prelude.{false, if◌then◌else◌, List, [], ◌∷◌, ◌++◌, length, take, Option, Some}
use Rattle.std.specs.Prelude.{None, Result, Ok, Err, unwrap_or, slice_range}
use Rattle.tier_base.specs.declared.plain.FileName.{FileName}
use Rattle.tier_base.specs.declared.plain.FileName.TheVariants as file
use Rattle.tier_base.specs.Device.{Control, Went, Fault, Dry, Ran}
use Rattle.disk_model.specs.declared.call.DiskCall.TheVariants.{Read}
use Rattle.disk_model.specs.Call.{call_code}
use Rattle.log_terms.specs.Log.{joined, from_offset, up_to, end_from}
use Rattle.segment_file.specs.declared.taking.Cutout.{Cutout}
use Rattle.segment_file.specs.Growing.{Grown, end_after, size_after, ending_by, BeginsSearch}
use Rattle.segment_file.specs.Closed.{ClosedSegment, IsWholeSegment, IsBadPlace}
use Rattle.segment_file.specs.Run.{Fits, StopIs, IsRunCutAt, IsBadAt}
use Rattle.segment_file.specs.Segment.{IsSegment}
use Rattle.log_steps.specs.Fronts.{Each}
use Rattle.local_log.specs.Stored.{size_of, end_of}
use Rattle.local_log.specs.Log.{Log}
use Rattle.local_log.specs.Epochs.{IsOfLine, StraysAt}
use Rattle.local_log.specs.declared.refusal.ReadRefusal.{ReadRefusal}
use Rattle.local_log.specs.declared.refusal.ReadRefusal.TheVariants.{Damaged, DiskFault, NoMemory}
use Rattle.local_log.specs.declared.reading.RunOut.{RunOut}

-- the first segment that ends past an offset
abbrev pub first_past : ℕ → List Grown → Option Grown
first_past offset [] = None
first_past offset (segment ∷ segments) =
    if nat_lt offset (end_of segment) then Some segment else first_past offset segments

-- where the batch begins that holds an offset, or where the segment ends
abbrev pub begin_of : Grown → ℕ → ℕ
begin_of segment offset = end_after segment.base (ending_by offset segment.batches)

-- its position in the segment's file
abbrev pub position_of : Grown → ℕ → ℕ
position_of segment offset = size_after 0 (ending_by offset segment.batches)

-- a batch of the segment begins or ends at this offset
abbrev pub is_edge : Grown → ℕ → Bool
is_edge segment offset = begin_of segment offset == offset

-- where the piece ends that holds an offset of a segment
abbrev pub piece_end : List (ℕ × ℕ) → Grown → ℕ → ℕ
piece_end [] segment offset = end_of segment
piece_end (entry ∷ line) segment offset =
    if nat_lt offset entry.1 && is_edge segment entry.1 then entry.1 else piece_end line segment offset

-- after so many bytes the next batch would pass the limit
abbrev pub passes : ℕ → ℕ → List (List ℕ) → Bool
passes limit size [] = false
passes limit size (batch ∷ batches) = nat_lt limit (size + length batch)

-- a run was cut out of bytes, of a piece that ends there, and the leader epochs give its batches' epochs
pub record IsCutOut (line : List (ℕ × ℕ)) (bytes : List ℕ) (offset limit mark piece : ℕ) (out : RunOut) : Type 0 where
  pub cut : Cutout
  pub is : IsRunCutAt bytes offset limit mark piece cut
  pub epochs : Each (IsOfLine line) (is.first ∷ is.others)
  pub part : out.bytes ≡ slice_range bytes cut.from cut.to
  pub next_is : out.next ≡ cut.next
  pub stop_is : out.stop ≡ cut.stop

-- bytes have a run, and there is its first batch whose epoch the line doesn't give
pub record IsStray (line : List (ℕ × ℕ)) (bytes : List ℕ) (offset limit mark piece at : ℕ) : Type 0 where
  pub cut : Cutout
  pub is : IsRunCutAt bytes offset limit mark piece cut
  pub behind : ℕ
  pub strays : StraysAt line (is.first ∷ is.others) behind
  pub place : at ≡ cut.from + behind

-- bytes that are at a position have no such run from this place on; those of an absent file have none at 0
pub record HasNoLocalRun (line : List (ℕ × ℕ)) (bytes : List ℕ) (offset limit mark piece position at : ℕ) : Type 0 where
  pub found : ℕ
  pub bad : IsBadAt bytes offset limit (min mark piece) found ⊎ IsStray line bytes offset limit mark piece found
  pub place : (at ≡ position + found) ⊎ ((bytes ≡ []) × (at ≡ 0))

-- the segment of this base and size is the front of bytes, and the leader epochs give its batches' epochs
pub record IsSegmentFront (line : List (ℕ × ℕ)) (base size : ℕ) (bytes : List ℕ)
    (segment : ClosedSegment) : Type 0 where
  pub whole : IsWholeSegment segment
  pub epochs : Each (IsOfLine line) whole.batches
  pub base_is : segment.base ≡ base
  pub long : size ≤ length bytes
  pub bytes_are : segment.bytes ≡ take size bytes

-- the front of bytes is a segment, and there is its first batch whose epoch the line doesn't give
pub record HasStray (line : List (ℕ × ℕ)) (base size : ℕ) (bytes : List ℕ) (at : ℕ) : Type 0 where
  pub batches : List (List ℕ)
  pub is : IsSegment base batches
  pub long : size ≤ length bytes
  pub bytes_are : take size bytes ≡ joined batches
  pub strays : StraysAt line batches at

-- bytes are no segment of this base from this place on, or end there, before the segment does
pub record HasNoSegment (line : List (ℕ × ℕ)) (base size : ℕ) (bytes : List ℕ) (at : ℕ) : Type 0 where
  pub bad : IsBadPlace base (take size bytes) at
      ⊎ (((at ≡ length bytes) × (at < size)) ⊎ HasStray line base size bytes at)

-- why bytes aren't read as a segment
abbrev pub FrontFails : List (ℕ × ℕ) → ℕ → ℕ → List ℕ → ReadRefusal → Type 0
FrontFails line base size bytes (Damaged name at) = (name ≡ file.Log base) × HasNoSegment line base size bytes at
FrontFails line base size bytes DiskFault = ⊥
FrontFails line base size bytes NoMemory = Unit {0}

-- why nothing was cut out of bytes that are at a position of a segment's file
abbrev pub CutFails : List (ℕ × ℕ) → ℕ → ℕ → List ℕ → ℕ → ℕ → ℕ → ℕ → ReadRefusal → Type 0
CutFails line base position bytes offset limit mark piece (Damaged name at) =
    (name ≡ file.Log base) × HasNoLocalRun line bytes offset limit mark piece position at
CutFails line base position bytes offset limit mark piece DiskFault = ⊥
CutFails line base position bytes offset limit mark piece NoMemory = Unit {0}

-- the disk was read once, in this call, and what it returned was given or is the cause; without memory it may not have
-- been
abbrev pub ReadOnce : {T : Type 0} → Result T ReadRefusal → Control call_code → Control call_code → Type 0
ReadOnce (Ok x) old new = Ran Read Went old new
ReadOnce (Err (Damaged name at)) old new = Ran Read Went old new
ReadOnce (Err DiskFault) old new = Ran Read Fault old new
ReadOnce (Err NoMemory) old new = Ran Read Went old new ⊎ Ran Read Dry old new

-- the disk failed, or there was no memory
abbrev pub IsOfDevice : ReadRefusal → Type 0
IsOfDevice (Damaged name at) = ⊥
IsOfDevice DiskFault = Unit {0}
IsOfDevice NoMemory = Unit {0}

module _ {D : Type 0} where
  -- the segment that holds an offset; the open one for those past the end
  abbrev pub segment_at : Log D → ℕ → Grown
  segment_at log offset = unwrap_or (first_past offset log.closed) log.active

  -- the piece ends there that holds an offset
  abbrev pub piece_of : Log D → ℕ → ℕ
  piece_of log offset = piece_end log.line (segment_at log offset) offset

  -- a batch of the log ends at this offset, or its first one begins there
  abbrev pub IsEdge : Log D → ℕ → Type 0
  IsEdge log offset = end_from log.local_start (up_to offset log.batches) ≡ offset

  -- the run of a log at an offset
  pub record IsRunOf (log : Log D) (offset limit mark : ℕ) (out : RunOut) : Type 0 where
    pub first : List ℕ
    pub others : List (List ℕ)
    pub rest : List (List ℕ)
    pub parts : from_offset offset log.batches ≡ first ∷ others ++ rest
    pub bytes_are : out.bytes ≡ joined (first ∷ others)
    pub fits : Fits limit (first ∷ others)
    pub next_is : out.next ≡ end_from offset (first ∷ others)
    pub below : out.next ≤ mark
    pub within : out.next ≤ piece_of log offset
    pub stop_is : StopIs out.stop out.next mark (piece_of log offset) (passes limit (length out.bytes) rest)

  -- what is answered for the first closed segment that ends past an offset
  abbrev pub IsClosedFrom : Log D → ℕ → List ℕ → Option ClosedSegment → Type 0
  IsClosedFrom log offset last_read None = first_past offset log.closed ≡ None
  IsClosedFrom log offset last_read (Some whole) =
      (segment : Grown) × (first_past offset log.closed ≡ Some segment)
      × IsSegmentFront log.line segment.base (size_of segment) last_read whole

  -- why it isn't read
  abbrev pub ClosedFails : Log D → ℕ → List ℕ → ReadRefusal → Type 0
  ClosedFails log offset last_read (Damaged name at) =
      (segment : Grown) × (first_past offset log.closed ≡ Some segment) × (name ≡ file.Log segment.base)
      × HasNoSegment log.line segment.base (size_of segment) last_read at
  ClosedFails log offset last_read DiskFault = Unit {0}
  ClosedFails log offset last_read NoMemory = Unit {0}

  -- the segment's batches are in the log, from its base to its last offset
  pub record IsPartOf (log : Log D) (whole : ClosedSegment) : Type 0 where
    pub before : List (List ℕ)
    pub batches : List (List ℕ)
    pub after : List (List ℕ)
    pub parts : log.batches ≡ before ++ (batches ++ after)
    pub begins : end_from log.local_start before ≡ whole.base
    pub bytes_are : whole.bytes ≡ joined batches
    pub ends : end_from whole.base batches ≡ whole.last + 1

  -- no batch ends at the high watermark, and this is where the one begins that holds it, or where the log ends
  pub record MissesMark (log : Log D) (mark : ℕ) (name : FileName) (at : ℕ) : Type 0 where
    pub missed : is_edge (segment_at log mark) mark ≡ false
    pub name_is : name ≡ file.Log (segment_at log mark).base
    pub place : at ≡ position_of (segment_at log mark) mark

  -- a batch ends at the high watermark, and what was read from where the batch begins that holds the offset has no run
  pub record MissesRun (log : Log D) (offset limit mark : ℕ) (last_read : List ℕ) (name : FileName)
      (at : ℕ) : Type 0 where
    pub edge : is_edge (segment_at log mark) mark ≡ true
    pub name_is : name ≡ file.Log (segment_at log offset).base
    pub position : ℕ
    pub position_is : position ≡ position_of (segment_at log offset) offset
    pub search : BeginsSearch (segment_at log offset).base (segment_at log offset).batches offset position
    pub bad : HasNoLocalRun log.line last_read offset limit mark (piece_of log offset) position at

  -- why there is no run
  abbrev pub RunFails : Log D → ℕ → ℕ → ℕ → List ℕ → ReadRefusal → Type 0
  RunFails log offset limit mark last_read (Damaged name at) =
      MissesMark log mark name at ⊎ MissesRun log offset limit mark last_read name at
  RunFails log offset limit mark last_read DiskFault = is_edge (segment_at log mark) mark ≡ true
  RunFails log offset limit mark last_read NoMemory = is_edge (segment_at log mark) mark ≡ true
