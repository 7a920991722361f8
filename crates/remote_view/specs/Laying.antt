-- How a stair is made of another, from its front to its end.
use Rattle.std.specs.Prelude.{◌≡◌, ℕ, ◌<◌, ◌≤◌, ◌&&◌, nat_le, not, Bool, true, false}
use Rattle.std.specs.Prelude.{if◌then◌else◌, List, [], ◌∷◌, ◌++◌, Option, Some, None}
use Rattle.std.specs.List.{AllByRecursion}
use Rattle.std.specs.Str.{bytes_eq}
use Rattle.log_terms.specs.Line.{epoch_at}
use Rattle.tier_base.specs.declared.names.SegmentId.{SegmentId}
use Rattle.segment_meta.specs.declared.note.Entry.{Entry}
use Rattle.remote_view.specs.declared.spans.Span.{Span}
use Rattle.remote_view.specs.declared.tread.Tread.{Tread}
use Rattle.remote_view.specs.Fold.{entry_of}
use Rattle.remote_view.specs.Lookup.{is_readable, is_epoch, better_of}
use Rattle.remote_view.specs.Stairs.{is_within, id_at, RisesAlong}

-- no tread goes past an offset
abbrev pub EndsBy : ℕ → List Tread → Type 0
EndsBy at stair = AllByRecursion (λ tread. tread.to ≤ at) stair

-- a range of a segment was put after a stair
pub record IsPut (from to : ℕ) (id : SegmentId) (old new : List Tread) : Type 0 where
  pub rises : RisesAlong new
  pub ends : (at : ℕ) → EndsBy at old → to ≤ at → EndsBy at new
  pub says : (offset : ℕ) → id_at new offset ≡ (if is_within from to offset then Some id else id_at old offset)

-- a tread of a segment from an offset on can be put after a stair
pub record Fits (from : ℕ) (id : SegmentId) (stair : List Tread) : Type 0 where
  pub ends : EndsBy from stair
  pub rises : (to : ℕ) → from < to → RisesAlong (stair ++ (record { from = from; to = to; id = id }) ∷ [])

-- what a tread gives, with another segment in a range of it
abbrev pub split_at : Tread → Span → SegmentId → ℕ → SegmentId
split_at tread span id offset = if is_within span.from span.to offset then id else tread.id

-- a tread was put after a stair, with another segment in a range of it
pub record IsSplit (tread : Tread) (span : Span) (id : SegmentId) (old new : List Tread) : Type 0 where
  pub rises : RisesAlong new
  pub ends : EndsBy tread.to new
  pub says : (offset : ℕ) → id_at new offset
      ≡ (if is_within tread.from tread.to offset then Some (split_at tread span id offset) else id_at old offset)

-- the entry of an id that there may be
abbrev pub held : List Entry → Option SegmentId → Option Entry
held entries None = None
held entries (Some id) = entry_of id entries

-- what a stair gives with a segment laid over a range of it, where it is better
abbrev pub overlaid : List Entry → Entry → Span → List Tread → ℕ → Option SegmentId
overlaid entries entry span stair offset =
    if is_within span.from span.to offset then Some (better_of (held entries (id_at stair offset)) entry).id
    else id_at stair offset

-- a segment was laid over a range of a stair
pub record IsSegmentLaid (entries : List Entry) (entry : Entry) (span : Span) (old new : List Tread) : Type 0 where
  pub rises : RisesAlong new
  pub says : (offset : ℕ) → id_at new offset ≡ overlaid entries entry span old offset

-- a tread is of another segment
abbrev pub of_others : SegmentId → Tread → Bool
of_others id tread = not (bytes_eq tread.id.0 id.0)

-- what there may be, with something else in a segment's place
abbrev pub in_place : SegmentId → Option SegmentId → Option SegmentId → Option SegmentId
in_place id other None = None
in_place id other (Some given) = if bytes_eq given.0 id.0 then other else Some given

-- a segment's treads were taken out of a stair
pub record IsLifted (id : SegmentId) (old new : List Tread) : Type 0 where
  pub rises : RisesAlong new
  pub says : (offset : ℕ) → id_at new offset ≡ in_place id None (id_at old offset)

-- they were taken out, or the stair is as before
abbrev pub IsTaken : Bool → SegmentId → List Tread → List Tread → Type 0
IsTaken true id old new = IsLifted id old new
IsTaken false id old new = new ≡ old

-- another entry can be read, and shares an offset with one
abbrev pub lies_under : Entry → Entry → Bool
lies_under entry other =
    is_readable other.state && not (bytes_eq other.id.0 entry.id.0) && nat_le other.start entry.end
    && nat_le entry.start other.end

-- the offset is in a segment, and its map gives this epoch there
abbrev pub gives : ℕ → ℕ → Entry → Bool
gives epoch offset entry =
    nat_le entry.start offset && nat_le offset entry.end && is_epoch epoch (epoch_at entry.map offset)

-- what a stair of an epoch gives with an entry laid where it gives that epoch
abbrev pub overlaid_in : List Entry → Entry → ℕ → List Tread → ℕ → Option SegmentId
overlaid_in entries entry epoch stair offset =
    if gives epoch offset entry then Some (better_of (held entries (id_at stair offset)) entry).id
    else id_at stair offset

-- an entry was laid over a stair where it gives the stair's epoch
pub record IsLaidIn (entries : List Entry) (entry : Entry) (epoch : ℕ) (old new : List Tread) : Type 0 where
  pub rises : RisesAlong new
  pub says : (offset : ℕ) → id_at new offset ≡ overlaid_in entries entry epoch old offset
