-- A whole roll: room is made, and the open segment is synced and closed.
use Rattle.std.proofs.Common.{◌≡◌, ℕ, ◌<◌, ◌≤◌, List, [], ◌∷◌, ◌++◌, ◌∙◌, subst}
use Rattle.tier_base.specs.declared.plain.FileName.TheVariants as file
use Rattle.disk_model.specs.Content.{Content, Lawful, Files, Image, Keeps, LeavesOnly, BeginsWith}
use Rattle.segment_file.specs.Growing.{Grown}
use Rattle.log_steps.proofs.Moments.{leaves_then}
use Rattle.local_log.specs.Stored.{all_batches, size_of, end_of}
use Rattle.local_log.specs.Listing.{AreSegmentsOf}
use Rattle.local_log.specs.Inside.{DiskHasLog}
use Rattle.local_log.proofs.Having.{OpensUpTo, has_kept, kept_batches, kept_since, rolled_batches, has_rolled}

module _ (d m d' : Content) (laws : Lawful d) (laws-m : Lawful m) (laws' : Lawful d') (incarnation local_start : ℕ) (closed : List Grown) (active : Grown) (line : List (ℕ × ℕ)) (flushed_end : ℕ) (has : DiskHasLog d incarnation local_start closed active line flushed_end) (k : Keeps d m) (k2 : Keeps m d') where
  abbrev pub segments : List Grown
  segments = closed ++ active ∷ []

  room_has : DiskHasLog m incarnation local_start closed active line flushed_end
  room_has = has_kept d laws incarnation local_start closed active line flushed_end has m laws-m k

  room_batches : all_batches m.files segments ≡ all_batches d.files segments
  room_batches = kept_batches d laws incarnation local_start closed active line flushed_end has m laws-m k segments

  pub twice_since : LeavesOnly d d' (OpensUpTo incarnation local_start flushed_end (all_batches d.files segments) line)
  twice_since =
      leaves_then d m d' _ (kept_since d laws incarnation local_start closed active line flushed_end has m laws-m k)
      (subst (λ (l : List (List ℕ)). LeavesOnly m d' (OpensUpTo incarnation local_start flushed_end l line)) room_batches
      (kept_since m laws-m incarnation local_start closed active line flushed_end room_has d' laws' k2))

  module _ (interval : ℕ) (are : AreSegmentsOf local_start closed active) (some : 0 < size_of active) (low : flushed_end ≤ end_of active) (synced : (c : Files) → Image d' c → BeginsWith (m.files (file.Log active.base)) (c (file.Log active.base))) where
    abbrev pub next : Grown
    next = record { base = end_of active; interval = interval; batches = [] }

    pub roll_has : DiskHasLog d' incarnation local_start segments next line flushed_end
    roll_has = has_rolled m laws-m incarnation local_start closed active line flushed_end room_has d' laws' k2 interval are some low synced

    pub roll_batches : all_batches d'.files (segments ++ next ∷ []) ≡ all_batches d.files segments
    roll_batches = rolled_batches m laws-m incarnation local_start closed active line flushed_end room_has d' laws' k2 interval are some low synced ∙ room_batches
