-- Stairs: which segment an offset of an epoch is read from, by ranges of offsets.
--
-- An epoch's stair is a list of treads, which rise. What it gives at an offset is the best copy there, so that one
-- search in it answers what a pass over all entries would.
use Rattle.std.specs.Prelude.{◌≡◌, ℕ, ◌<◌, ◌≤◌, ◌==◌, ◌&&◌, nat_lt, nat_le, Bool, false, if◌then◌else◌, List, [], ◌∷◌}
use Rattle.std.specs.Prelude.{length, drop, Option, Some, None, IsSome, option_map}
use Rattle.std.specs.Str.{bytes_eq}
use Rattle.epoch_line.specs.Line.{start_or}
use Rattle.tier_base.specs.declared.names.SegmentId.{SegmentId}
use Rattle.segment_meta.specs.declared.note.Entry.{Entry}
use Rattle.remote_view.specs.declared.spans.Span.{Span}
use Rattle.remote_view.specs.declared.tread.Tread.{Tread}
use Rattle.remote_view.specs.Lookup.{finished}

-- where an epoch starts in a line, and where it ends: at the next one's start, or else at the line's own end
abbrev pub span_of : List (ℕ × ℕ) → ℕ → ℕ → Option Span
span_of [] epoch end = None
span_of (entry ∷ line) epoch end =
    if entry.0 == epoch then Some (record { from = entry.1; to = start_or end line }) else span_of line epoch end

-- the offset is in a range
abbrev pub is_within : ℕ → ℕ → ℕ → Bool
is_within from to offset = nat_le from offset && nat_lt offset to

-- the segment that a stair gives at an offset
abbrev pub id_at : List Tread → ℕ → Option SegmentId
id_at [] offset = None
id_at (tread ∷ stair) offset = if is_within tread.from tread.to offset then Some tread.id else id_at stair offset

-- a tread ends at or before the start of the next one, and has another segment where they touch
abbrev pub IsTreadUnder : Tread → List Tread → Type 0
IsTreadUnder tread [] = Unit {0}
IsTreadUnder tread (next ∷ stair) =
    (tread.to ≤ next.from) × (tread.to ≡ next.from → bytes_eq tread.id.0 next.id.0 ≡ false)

-- treads rise, and none is empty
abbrev pub RisesAlong : List Tread → Type 0
RisesAlong [] = Unit {0}
RisesAlong (tread ∷ stair) = (tread.from < tread.to) × IsTreadUnder tread stair × RisesAlong stair

-- each offset of a range has a tread
abbrev pub HasAll : ℕ → ℕ → List Tread → Type 0
HasAll from to stair = (offset : ℕ) → from ≤ offset → offset < to → IsSome (id_at stair offset)

-- so many treads in front are gone, and each offset of a run has one of the others
pub record AreLive (run : Span) (gone : ℕ) (treads : List Tread) : Type 0 where
  pub within : gone ≤ length treads
  pub all : HasAll run.from run.to (drop gone treads)

-- the first tread is a segment's, and ends at an offset or after it
abbrev pub begins_with : SegmentId → ℕ → List Tread → Bool
begins_with id end [] = false
begins_with id end (tread ∷ stair) = nat_le end tread.to && bytes_eq tread.id.0 id.0

-- each offset from one on up to an end has a tread, and the end has none
pub record IsEndFrom (stair : List Tread) (at end : ℕ) : Type 0 where
  pub from : at ≤ end
  pub each : HasAll at end stair
  pub none : id_at stair end ≡ None

-- where treads end that touch one another, from a place on
abbrev pub end_of_touching : List Tread → ℕ → ℕ
end_of_touching [] at = at
end_of_touching (tread ∷ stair) at = if nat_lt at tread.from then at else end_of_touching stair tread.to

-- the stair of an epoch over entries: at each offset it gives the best copy's segment, if there is one
pub record IsStair (entries : List Entry) (epoch : ℕ) (stair : List Tread) : Type 0 where
  pub rises : RisesAlong stair
  pub best : (offset : ℕ) → id_at stair offset ≡ option_map (λ entry. entry.id) (finished epoch offset entries)
