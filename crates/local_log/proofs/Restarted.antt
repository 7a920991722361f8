-- A log that is restarted at an offset.
use Rattle.std.proofs.Common.{◌≡◌, ◌⊎◌, ℕ, ◌^◌, ◌≤◌, ◌<◌, List, [], ◌∷◌, ◌++◌, length, Option, None, Ok, refl, sym, ◌∙◌, ap, subst, inl, ⊎_elim, arith, IsTrue}
use Rattle.tier_base.specs.declared.plain.FileName.TheVariants as file
use Rattle.tier_base.specs.Device.{Fate, Went, Dry}
use Rattle.tier_base.specs.Told.{bytes_in}
use Rattle.disk_model.specs.Content.{Content, Lawful, Files, Image, LeavesOnly}
use Rattle.epoch_line.specs.Line.{IsLine}
use Rattle.log_manifest.specs.declared.manifest.Manifest.{Manifest}
use Rattle.log_manifest.specs.Reading.{manifest_in}
use Rattle.log_manifest.specs.Spelling.{manifest_bytes}
use Rattle.log_manifest.proofs.Again.{manifest_again}
use Rattle.segment_file.specs.Growing.{Grown}
use Rattle.log_steps.specs.Fronts.{Each, Agrees}
use Rattle.log_steps.specs.Opens.{Opened, IsOpenedBy, Opens}
use Rattle.log_steps.specs.Reopens.{Reopens}
use Rattle.log_steps.proofs.Rewritten.{log_no_manifest}
use Rattle.local_log.specs.Stored.{all_batches}
use Rattle.local_log.specs.Listing.{AreSegmentsOf, manifest_of}
use Rattle.local_log.specs.Inside.{DiskHasLog}
use Rattle.local_log.specs.Cutting.{names_of, OpensAsOr, LeavesBeforeOrNow}
use Rattle.local_log.specs.Renewing.{Renews}
use Rattle.local_log.proofs.Having.{OpensUpTo}
use Rattle.local_log.proofs.Listed.{rules_of}
use Rattle.local_log.proofs.Lines.{cut_within}
use Rattle.local_log.proofs.Settled.{agrees_none}
use Rattle.local_log.proofs.Renewed.{renew_since, renew_as, renew_either, renew_reopens, renew_dry, renew_opens}
use Rattle.local_log.proofs.Shedding.{in_or_out}

-- an empty segment
abbrev pub fresh : ℕ → ℕ → Grown
fresh start interval = record { base = start; interval = interval; batches = [] }

pub fresh_are : (start interval : ℕ) → start ≤ 2 ^ 62 → AreSegmentsOf start [] (fresh start interval)
fresh_are start interval low = record {
  chained = (refl, tt);
  laid = tt;
  some = tt;
  active_laid = record { laid = tt; near = omega arith; small = omega arith };
  low = low;
  few = omega arith;
}

module _ (d : Content) (laws : Lawful d) (incarnation local_start : ℕ) (closed : List Grown) (active : Grown) (line : List (ℕ × ℕ)) (flushed_end : ℕ) (has : DiskHasLog d incarnation local_start closed active line flushed_end)
    (one : 1 ≤ incarnation) (fits : incarnation < 2 ^ 32) (start interval : ℕ) (low : start ≤ 2 ^ 62) (other : List (ℕ × ℕ)) (is : IsLine other) (within : Each (λ (entry : ℕ × ℕ). entry.1 ≤ start) other)
    (d' : Content) (laws' : Lawful d') (fate : Fate) (change : Renews (manifest_bytes (manifest_of incarnation start [] (fresh start interval) other)) (names_of (closed ++ active ∷ [])) fate d d') where
  abbrev pub segments : List Grown
  segments = closed ++ active ∷ []

  abbrev pub next : Manifest
  next = manifest_of incarnation start [] (fresh start interval) other

  abbrev pub now_open : Opened
  now_open = record { incarnation = incarnation; local_start = start; batches = []; line = other }

  next_reads : manifest_in (manifest_bytes next) ≡ Ok next
  next_reads = manifest_again next (rules_of incarnation start [] (fresh start interval) other one (fresh_are start interval low) is) fits

  -- any files are read as nothing by it
  read_empty : (f : Files) → IsOpenedBy next f now_open
  read_empty f = record {
    incarnation = refl;
    local_start = refl;
    batches = ([], [], refl, refl, record { long = omega arith; bytes = refl; placed = tt; consecutive = tt }, refl);
    line = sym (cut_within other start within);
  }

  next_agrees : (c f : Files) → Each (Agrees c f) next.segments
  next_agrees c f = (agrees_none c f (record { base = start; len = 0 }) refl, tt)

  pub restart_since : LeavesOnly d d' (λ c. OpensUpTo incarnation local_start flushed_end (all_batches d.files segments) line c ⊎ Opens c now_open)
  restart_since = renew_since d laws incarnation local_start closed active line flushed_end has next now_open next_reads (λ t. read_empty d.files) (λ c a b. next_agrees c d.files) segments (inl refl, tt) d' laws' fate change

  pub restart_as : LeavesOnly d d' (OpensAsOr d now_open)
  restart_as = renew_as d laws incarnation local_start closed active line flushed_end has next now_open next_reads (λ t. read_empty d.files) (λ c a b. next_agrees c d.files) segments (inl refl, tt) d' laws' fate change

  pub restart_either : LeavesBeforeOrNow d d'
  restart_either = renew_either d laws incarnation local_start closed active line flushed_end has next now_open next_reads (λ t. read_empty d.files) (λ c a b. next_agrees c d.files) segments (inl refl, tt) d' laws' fate change

  pub restart_reopens : Reopens d'
  restart_reopens = renew_reopens d laws incarnation local_start closed active line flushed_end has next now_open next_reads (λ t. read_empty d.files) (λ c a b. next_agrees c d.files) segments (inl refl, tt) d' laws' fate change

  pub restart_dry : fate ≡ Dry → DiskHasLog d' incarnation local_start closed active line flushed_end
  restart_dry = renew_dry d laws incarnation local_start closed active line flushed_end has next now_open next_reads (λ t. read_empty d.files) (λ c a b. next_agrees c d.files) segments (inl refl, tt) d' laws' fate change

  module _ (went : fate ≡ Went) where
    pub restart_opens : (c : Files) → Image d' c → Opens c now_open
    restart_opens = renew_opens d laws incarnation local_start closed active line flushed_end has next now_open next_reads (λ t. read_empty d.files) (λ c a b. next_agrees c d.files) segments (inl refl, tt) d' laws' fate change went

    told : IsTrue d'.is_observable → IsTrue d.is_observable
    told t = subst IsTrue change.is_observable t

    -- no segment's file is there
    none_left : IsTrue d.is_observable → (b : ℕ) → d'.files (file.Log b) ≡ None
    none_left t b =
        ⊎_elim
        (λ named. change.gone went t (file.Log b) named)
        (λ out. ⊎_elim (λ same. same ∙ has.clear t b out) (λ gone. gone.1) (change.files went t (file.Log b) (log_no_manifest b)))
        (in_or_out b segments)

    pub restart_has : DiskHasLog d' incarnation start [] (fresh start interval) other start
    restart_has = record {
      listed = next;
      opened = now_open;
      rules = rules_of incarnation start [] (fresh start interval) other one (fresh_are start interval low) is;
      fits = fits;
      images = λ c now. record { manifest = change.durable went c now; listed_fronts = next_agrees c d'.files; closed_fronts = tt };
      read = λ t. read_empty d'.files;
      incarnation_is = refl;
      start_is = refl;
      end_is = λ t. refl;
      batches_are = λ t. refl;
      line_is = refl;
      lists = (omega arith, refl, tt);
      stored = λ t. (record { batches = []; placed = refl; stands = record { long = omega arith; bytes = refl; placed = tt; consecutive = tt } }, tt);
      exact = λ t. ap (λ (o : Option (List ℕ)). length (bytes_in o)) (none_left (told t) start);
      clear = λ t b out. none_left (told t) b;
    }
