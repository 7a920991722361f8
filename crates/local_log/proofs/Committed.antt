-- A whole commit: room is made, the open segment is synced, and the manifest replaced.
use Rattle.std.proofs.Common.{◌≡◌, ◌⊎◌, ℕ, ◌+◌, ◌^◌, ◌≤◌, ◌<◌, List, [], ◌∷◌, ◌++◌, ◌∙◌, sym, subst, inl, IsTrue}
use Rattle.tier_base.specs.declared.plain.FileName.TheVariants as file
use Rattle.tier_base.specs.Device.{Fate, Went, Dry}
use Rattle.disk_model.specs.Content.{Content, Lawful, Files, Image, Keeps, LeavesOnly}
use Rattle.log_terms.specs.Log.{up_to}
use Rattle.epoch_line.specs.Line.{IsLine, cut_end}
use Rattle.log_manifest.specs.Spelling.{manifest_bytes}
use Rattle.segment_file.specs.Growing.{Grown}
use Rattle.log_steps.specs.Opens.{Opened, Opens}
use Rattle.log_steps.specs.Reopens.{Reopens}
use Rattle.log_steps.specs.Publishes.{Publishes}
use Rattle.log_steps.proofs.Moments.{leaves_weaker, leaves_then}
use Rattle.local_log.specs.Stored.{all_batches, end_of}
use Rattle.local_log.specs.Listing.{AreSegmentsOf, manifest_of}
use Rattle.local_log.specs.Inside.{DiskHasLog}
use Rattle.local_log.specs.Cutting.{OpensAsOr}
use Rattle.local_log.proofs.Retold.{kept_opens, or_last}
use Rattle.local_log.proofs.Having.{OpensUpTo, has_kept, kept_batches, kept_since, has_reopens, published_since, published_as, published_batches, has_published, published_dry, published_reopens, published_opens}

module _ (d m : Content) (laws : Lawful d) (laws-m : Lawful m) (incarnation local_start : ℕ) (closed : List Grown) (active : Grown) (line : List (ℕ × ℕ)) (flushed_end : ℕ) (has : DiskHasLog d incarnation local_start closed active line flushed_end) (k : Keeps d m) where
  abbrev pub segments : List Grown
  segments = closed ++ active ∷ []

  -- as before, or with another line and flushed end
  abbrev pub Either : List (ℕ × ℕ) → Files → Type 0
  Either other c =
      OpensUpTo incarnation local_start flushed_end (all_batches d.files segments) line c
      ⊎ OpensUpTo incarnation local_start (end_of active) (all_batches d.files segments) other c

  pub room_has : DiskHasLog m incarnation local_start closed active line flushed_end
  room_has = has_kept d laws incarnation local_start closed active line flushed_end has m laws-m k

  room_batches : all_batches m.files segments ≡ all_batches d.files segments
  room_batches = kept_batches d laws incarnation local_start closed active line flushed_end has m laws-m k segments

  pub room_since : (other : List (ℕ × ℕ)) → LeavesOnly d m (Either other)
  room_since other = leaves_weaker d m _ (Either other) (λ c h. inl h) (kept_since d laws incarnation local_start closed active line flushed_end has m laws-m k)

  pub room_reopens : Reopens m
  room_reopens = has_reopens m laws-m incarnation local_start closed active line flushed_end room_has

  module _ (d' : Content) (laws' : Lawful d') (are : AreSegmentsOf local_start closed active) (opened : 1 ≤ incarnation) (fits : incarnation < 2 ^ 32) (other : List (ℕ × ℕ)) (is : IsLine line) (is' : IsLine other) (same_line : cut_end other (end_of active) ≡ cut_end line (end_of active))
      (fate : Fate) (change : Publishes (file.Log active.base) (manifest_bytes (manifest_of incarnation local_start closed active other)) fate m d') where
    pub commit_since : LeavesOnly d d' (Either other)
    commit_since =
        leaves_then d m d' (Either other) (room_since other)
        (subst (λ (l : List (List ℕ)). LeavesOnly m d' (λ c. OpensUpTo incarnation local_start flushed_end l line c ⊎ OpensUpTo incarnation local_start (end_of active) l other c)) room_batches
        (published_since m laws-m incarnation local_start closed active line flushed_end room_has d' laws' are opened fits other is is' same_line fate change))

    -- all of the log, with the other line
    abbrev pub all_open : Opened
    all_open = record { incarnation = incarnation; local_start = local_start; batches = up_to (end_of active) (all_batches d.files segments); line = cut_end other (end_of active + 1) }

    pub commit_as : LeavesOnly d d' (OpensAsOr d all_open)
    commit_as =
        or_last d m d' all_open laws-m (kept_opens d m k)
        (subst (λ (l : List (List ℕ)). LeavesOnly m d' (OpensAsOr m (record { incarnation = incarnation; local_start = local_start; batches = up_to (end_of active) l; line = cut_end other (end_of active + 1) }))) room_batches
        (published_as m laws-m incarnation local_start closed active line flushed_end room_has d' laws' are opened fits other is is' same_line fate change))

    pub commit_tells : d'.is_observable ≡ d.is_observable
    commit_tells = change.is_observable ∙ k.is_observable

    pub commit_batches : IsTrue d.is_observable → all_batches d'.files segments ≡ all_batches d.files segments
    commit_batches t =
        published_batches m laws-m incarnation local_start closed active line flushed_end room_has d' laws' are opened fits other is is' same_line fate change (subst IsTrue (sym k.is_observable) t) segments
        ∙ room_batches

    pub commit_has : fate ≡ Went → DiskHasLog d' incarnation local_start closed active other (end_of active)
    commit_has = has_published m laws-m incarnation local_start closed active line flushed_end room_has d' laws' are opened fits other is is' same_line fate change

    pub commit_dry : fate ≡ Dry → DiskHasLog d' incarnation local_start closed active line flushed_end
    commit_dry = published_dry m laws-m incarnation local_start closed active line flushed_end room_has d' laws' are opened fits other is is' same_line fate change

    pub commit_reopens : Reopens d'
    commit_reopens = published_reopens m laws-m incarnation local_start closed active line flushed_end room_has d' laws' are opened fits other is is' same_line fate change

    pub commit_opens : fate ≡ Went → (c : Files) → Image d' c → Opens c (record { incarnation = incarnation; local_start = local_start; batches = up_to (end_of active) (all_batches d'.files segments); line = cut_end other (end_of active + 1) })
    commit_opens = published_opens m laws-m incarnation local_start closed active line flushed_end room_has d' laws' are opened fits other is is' same_line fate change
