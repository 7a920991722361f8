-- An append after a roll: the open segment is synced and closed, and a new one is appended to.
use Rattle.std.proofs.Common.{◌≡◌, ◌∙◌, sym, subst, ℕ, ◌<◌, ◌≤◌, Bool, true, List, [], ◌∷◌, ◌++◌, IsTrue}
use Rattle.std.proofs.lemmas.List.{append-nil}
use Rattle.tier_base.specs.declared.plain.FileName.TheVariants as file
use Rattle.disk_model.specs.Content.{Content, Lawful, Files, Image, Keeps, LeavesOnly, Changes, BeginsWith, appended, HasGrown as MayGrow}
use Rattle.segment_file.specs.Growing.{Grown}
use Rattle.log_steps.specs.Reopens.{Reopens}
use Rattle.log_steps.proofs.Moments.{leaves_then}
use Rattle.log_steps.proofs.Published.{undone_files}
use Rattle.local_log.specs.Stored.{all_batches, size_of, end_of}
use Rattle.local_log.specs.Listing.{AreSegmentsOf}
use Rattle.local_log.specs.Inside.{DiskHasLog}
use Rattle.local_log.proofs.Pieces.{all_append}
use Rattle.local_log.proofs.Having.{OpensUpTo, has_kept, has_same}
use Rattle.local_log.proofs.Rolling.{twice_since, roll_has, roll_batches}
use Rattle.local_log.proofs.Appended.{appended_since, appended_reopens, appended_kept}

module _ (d m m2 : Content) (laws : Lawful d) (laws-m : Lawful m) (laws2 : Lawful m2) (incarnation local_start : ℕ) (closed : List Grown) (active : Grown) (line : List (ℕ × ℕ)) (flushed_end : ℕ) (has : DiskHasLog d incarnation local_start closed active line flushed_end) (k : Keeps d m) (k2 : Keeps m m2) where
  -- the log as it was, on the disk by now
  pub still : DiskHasLog m2 incarnation local_start closed active line flushed_end
  still = has_kept m laws-m incarnation local_start closed active line flushed_end (has_kept d laws incarnation local_start closed active line flushed_end has m laws-m k) m2 laws2 k2

  module _ (interval : ℕ) (are : AreSegmentsOf local_start closed active) (some : 0 < size_of active) (low : flushed_end ≤ end_of active) (synced : (c : Files) → Image m2 c → BeginsWith (m.files (file.Log active.base)) (c (file.Log active.base))) where
    abbrev pub next : Grown
    next = record { base = end_of active; interval = interval; batches = [] }

    abbrev pub all_closed : List Grown
    all_closed = closed ++ active ∷ []

    pub rolled_has : DiskHasLog m2 incarnation local_start all_closed next line flushed_end
    rolled_has = roll_has d m m2 laws laws-m laws2 incarnation local_start closed active line flushed_end has k k2 interval are some low synced

    module _ (d' : Content) (laws' : Lawful d') (more : List ℕ) (M : Bool → Type 0) (change : Changes (file.Log (end_of active)) (appended more) MayGrow M m2 d') where
      pub behind_since : LeavesOnly d d' (OpensUpTo incarnation local_start flushed_end (all_batches d.files all_closed) line)
      behind_since =
          leaves_then d m2 d' _ (twice_since d m m2 laws laws-m laws2 incarnation local_start closed active line flushed_end has k k2)
          (subst (λ (l : List (List ℕ)). LeavesOnly m2 d' (OpensUpTo incarnation local_start flushed_end l line))
          (roll_batches d m m2 laws laws-m laws2 incarnation local_start closed active line flushed_end has k k2 interval are some low synced)
          (appended_since m2 d' laws2 laws' incarnation local_start all_closed next line flushed_end rolled_has more M change))

      pub behind_reopens : Reopens d'
      behind_reopens = appended_reopens m2 d' laws2 laws' incarnation local_start all_closed next line flushed_end rolled_has more M change

      pub behind_tells : d'.is_observable ≡ d.is_observable
      behind_tells = change.is_observable ∙ k2.is_observable ∙ k.is_observable

      told2 : IsTrue d.is_observable → IsTrue m2.is_observable
      told2 t = subst IsTrue (sym (k2.is_observable ∙ k.is_observable)) t

      none_more : (f : Files) → all_batches f (all_closed ++ next ∷ []) ≡ all_batches f all_closed
      none_more f = all_append f all_closed (next ∷ []) ∙ append-nil (all_batches f all_closed)

      pub behind_kept : IsTrue d.is_observable → all_batches d'.files all_closed ≡ all_batches d.files all_closed
      behind_kept t =
          sym (none_more d'.files)
          ∙ appended_kept m2 d' laws2 laws' incarnation local_start all_closed next line flushed_end rolled_has more M change (told2 t)
          ∙ roll_batches d m m2 laws laws-m laws2 incarnation local_start closed active line flushed_end has k k2 interval are some low synced

      -- it wasn't done
      pub behind_dry : (M true → ⊥) → DiskHasLog d' incarnation local_start closed active line flushed_end
      behind_dry not =
          has_same m2 laws2 incarnation local_start closed active line flushed_end still d' laws' change.is_observable (change.undone not)
          (λ t. undone_files (file.Log (end_of active)) (appended more) M m2.files d'.files not (change.files t))

      pub behind_batches : (l : List (List ℕ)) → (IsTrue m2.is_observable → l ≡ all_batches m2.files (all_closed ++ next ∷ [])) → IsTrue d.is_observable → l ≡ all_batches d.files all_closed
      behind_batches l is t = is (told2 t) ∙ roll_batches d m m2 laws laws-m laws2 incarnation local_start closed active line flushed_end has k k2 interval are some low synced
