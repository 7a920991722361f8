-- What the fields of a log mean, and what they keep.
use Rattle.std.specs.Prelude.{◌≡◌, ◌≢◌, ℕ, ◌^◌, ◌≤◌, ◌<◌, false, List, [], ◌∷◌, ◌++◌, length, map, None, IsTrue}
use Rattle.tier_base.specs.declared.plain.FileName.TheVariants as file
use Rattle.disk_model.specs.Content.{Content}
use Rattle.log_terms.specs.Log.{up_to, end_from}
use Rattle.epoch_line.specs.Line.{IsLine, cut_end}
use Rattle.log_manifest.specs.declared.manifest.Manifest.{Manifest}
use Rattle.log_manifest.specs.Rules.{IsManifest}
use Rattle.log_manifest.specs.Spelling.{manifest_bytes}
use Rattle.segment_file.specs.Growing.{Grown}
use Rattle.log_steps.specs.Fronts.{Each}
use Rattle.log_steps.specs.Opens.{Opened, IsOpenedBy}
use Rattle.log_steps.specs.Reopens.{Reopens}
use Rattle.log_steps.specs.Stands.{ImagesHold}
use Rattle.local_log.specs.declared.log.LocalLog.TheInside.{Inside}
use Rattle.local_log.specs.Stored.{bytes_of, all_batches, size_of, end_of, extent_of, IsStored}
use Rattle.local_log.specs.Log.{Log, AreSettings}
use Rattle.local_log.specs.Listing.{AreSegmentsOf, AreListed}

-- the disk has the log: its images the flushed log, and its files all of it
pub record DiskHasLog (d : Content) (incarnation local_start : ℕ) (closed : List Grown) (active : Grown)
    (line : List (ℕ × ℕ)) (flushed_end : ℕ) : Type 0 where
  -- what each image's manifest says, and what it is read as
  pub listed : Manifest
  pub opened : Opened
  pub rules : IsManifest listed
  pub fits : listed.incarnation < 2 ^ 32
  pub images : ImagesHold d (manifest_bytes listed) listed.segments (map extent_of closed)
  pub read : IsTrue d.is_observable → IsOpenedBy listed d.files opened
  pub incarnation_is : opened.incarnation ≡ incarnation
  pub start_is : opened.local_start ≡ local_start
  pub end_is : IsTrue d.is_observable → end_from opened.local_start opened.batches ≡ flushed_end
  pub batches_are : IsTrue d.is_observable
      → opened.batches ≡ up_to flushed_end (all_batches d.files (closed ++ active ∷ []))
  pub line_is : cut_end opened.line flushed_end ≡ cut_end line flushed_end
  -- the manifest lists the present segments up to the flushed end
  pub lists : AreListed flushed_end listed.segments (closed ++ active ∷ [])
  -- what reads
  pub stored : IsTrue d.is_observable → Each (IsStored d.files line) (closed ++ active ∷ [])
  pub exact : IsTrue d.is_observable → length (bytes_of d.files active) ≡ size_of active
  -- no other segment's file
  pub clear : IsTrue d.is_observable → (b : ℕ) → Each (λ (g : Grown). b ≢ g.base) (closed ++ active ∷ [])
      → d.files (file.Log b) ≡ None

module _ {D : Type 0} (content : D → Content) where
  abbrev pub log_in : Inside D → Log D
  log_in log = record {
    disk = log.disk;
    settings = log.settings;
    incarnation = log.incarnation;
    local_start = log.local_start;
    batches = all_batches (content log.disk).files (log.closed.items ++ log.active ∷ []);
    end = end_of log.active;
    flushed_end = log.flushed_end;
    line = log.line;
    closed = log.closed.items;
    active = log.active;
    broken = log.broken;
  }

  pub record IsLogSound (log : Inside D) : Type 0 where
    pub segments : AreSegmentsOf log.local_start log.closed.items log.active
    pub settings : AreSettings log.settings
    pub opened : 1 ≤ log.incarnation
    pub fits : log.incarnation < 2 ^ 32
    pub line : IsLine log.line
    pub line_within : Each (λ (entry : ℕ × ℕ). entry.1 ≤ end_of log.active) log.line
    pub flushed_end_within : log.flushed_end ≤ end_of log.active
    pub has : log.broken ≡ false
        → DiskHasLog (content log.disk) log.incarnation log.local_start log.closed.items log.active log.line
        log.flushed_end
    -- a broken log can be opened again too
    pub reopens : Reopens (content log.disk)
