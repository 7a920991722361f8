-- What is looked up in a view.
use Rattle.std.specs.Prelude.{◌≡◌, ℕ, ◌<◌, ◌≤◌, ◌==◌, ◌&&◌, ◌||◌, nat_lt, nat_le, not}
use Rattle.std.specs.Prelude.{Bool, true, false, if◌then◌else◌, List}
use Rattle.std.specs.Prelude.{[], ◌∷◌, filter, All, Contains, Option, Some, None, IsSome}
use Rattle.std.specs.Int.{w128, from_be_bytes}
use Rattle.log_terms.specs.Line.{epoch_at}
use Rattle.tier_base.specs.declared.names.SegmentId.{SegmentId}
use Rattle.tier_base.specs.declared.plain.State.{State}
use Rattle.tier_base.specs.declared.plain.State.TheVariants.{CopyFinished, DeleteFinished}
use Rattle.segment_meta.specs.declared.note.Entry.{Entry}
use Rattle.remote_view.specs.Fold.{entry_of}

-- the segment can be read
abbrev pub is_readable : State → Bool
is_readable CopyFinished = true
is_readable state = false

-- its objects are gone
abbrev pub is_gone : State → Bool
is_gone DeleteFinished = true
is_gone state = false

-- an epoch that there may be is this one
abbrev pub is_epoch : ℕ → Option ℕ → Bool
is_epoch epoch None = false
is_epoch epoch (Some e) = e == epoch

-- the segment can be read, holds the offset, and its map gives this epoch there
abbrev pub covers : ℕ → ℕ → Entry → Bool
covers epoch offset entry =
    is_readable entry.state && nat_le entry.start offset && nat_le offset entry.end
    && is_epoch epoch (epoch_at entry.map offset)

-- an id as a number
abbrev pub id_number : SegmentId → ℕ
id_number id = from_be_bytes w128 id.0

-- one ends later than the other, or with it and has the lesser id
abbrev pub is_better : Entry → Entry → Bool
is_better one other =
    nat_lt other.end one.end || (one.end == other.end && nat_lt (id_number one.id) (id_number other.id))

-- the better of an entry that there may be and another
abbrev pub better_of : Option Entry → Entry → Entry
better_of None entry = entry
better_of (Some best) entry = if is_better entry best then entry else best

-- the best of an entry that there may be and others
abbrev pub best_from : Option Entry → List Entry → Option Entry
best_from best [] = best
best_from best (entry ∷ entries) = best_from (Some (better_of best entry)) entries

-- the best entry that gives this epoch at an offset
abbrev pub finished : ℕ → ℕ → List Entry → Option Entry
finished epoch offset entries = best_from None (filter (covers epoch offset) entries)

-- an entry is one of these, it covers the offset, and none that does is better. It is the entry of its id
pub record IsBest (epoch offset : ℕ) (entries : List Entry) (best : Entry) : Type 0 where
  pub there : Contains entries best
  pub holds : covers epoch offset best ≡ true
  pub none_better : All (λ entry. covers epoch offset entry ≡ true → is_better entry best ≡ false) entries
  pub of_id : entry_of best.id entries ≡ Some best

-- from an offset on up to an end each one is found in a copy, and at the end none is
pub record IsReach (epoch : ℕ) (entries : List Entry) (at end : ℕ) : Type 0 where
  pub from : at ≤ end
  pub each : (offset : ℕ) → at ≤ offset → offset < end → IsSome (finished epoch offset entries)
  pub none : finished epoch end entries ≡ None

-- an entry ends below a log start, and its objects may still exist
abbrev pub is_due : ℕ → Entry → Bool
is_due start entry = nat_lt entry.end start && not (is_gone entry.state)

-- the first of the entries that is due
abbrev pub due : ℕ → List Entry → Option Entry
due start [] = None
due start (entry ∷ entries) = if is_due start entry then Some entry else due start entries
