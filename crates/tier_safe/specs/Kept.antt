-- What it means that the remote tier keeps an offset of a log.
use Rattle.std.specs.Prelude.{◌≡◌, ℕ, ◌<◌, ◌≤◌, List, ◌++◌, Some}
use mathlib.Core.List.{IsPrefix}
use Rattle.tier_base.specs.declared.names.SegmentId.{SegmentId}
use Rattle.tier_base.specs.declared.plain.State.TheVariants.{CopyFinished}
use Rattle.log_terms.specs.Log.{end_of}
use Rattle.segment_meta.specs.declared.note.Entry.{Entry}
use Rattle.object_store.specs.Content.{Objects}
use Rattle.plain_log.specs.declared.state.Path.{Path}
use Rattle.plain_log.specs.declared.state.State.{State as Plain}
use Rattle.remote_view.specs.Fold.{entry_of, fold}
use Rattle.tier_safe.specs.Scene.{Scene}
use Rattle.tier_safe.specs.Lineage.{IsStoredWhole}

-- the batches that two logs begin with go past an offset
pub record Shares (xs ys : List (List ℕ)) (offset : ℕ) : Type 0 where
  pub front : List (List ℕ)
  pub one : IsPrefix front xs
  pub two : IsPrefix front ys
  pub past : offset < end_of front

-- the batches that a remote segment holds, after those of its path
abbrev pub whole_of : {objects : Objects} {paths : List Path} {entry : Entry} → IsStoredWhole objects paths entry
    → List (List ℕ)
whole_of h = h.describes.part.front ++ h.batches

-- a finished copy, whose objects exist, holds the offset, and is one with the log up to it and past it
pub record IsKeptAt (c : Scene) (p : Plain) (log : List (List ℕ)) (offset : ℕ) : Type 0 where
  pub id : SegmentId
  pub entry : Entry
  pub there : entry_of id (fold c.notes) ≡ Some entry
  pub partition : entry.partition ≡ c.partition
  pub finished : entry.state ≡ CopyFinished
  pub holds : (entry.start ≤ offset) × (offset ≤ entry.end)
  pub stored_whole : IsStoredWhole c.objects p.paths entry
  pub shares : Shares (whole_of stored_whole) log offset
