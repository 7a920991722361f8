-- What the disk of a log has, call by call.
use Rattle.std.proofs.Common.{◌≡◌, ◌≢◌, ◌⊎◌, ℕ, ◌+◌, ◌^◌, ◌≤◌, ◌<◌, List, [], ◌∷◌, ◌++◌, length, map, Option, Some, Ok, refl, sym, ◌∙◌, ap, subst, inl, inr, ⊎_elim, arith, IsTrue}
use Rattle.std.proofs.lemmas.List.{map-append, append-nil}
use Rattle.tier_base.specs.declared.plain.FileName.{FileName}
use Rattle.tier_base.specs.declared.plain.FileName.TheVariants as file
use Rattle.tier_base.specs.Device.{Fate, Went, Dry}
use Rattle.tier_base.specs.Told.{bytes_in}
use Rattle.disk_model.specs.Content.{Content, Lawful, Files, Image, Keeps, LeavesOnly, BeginsWith}
use Rattle.log_terms.specs.Log.{up_to, end_from}
use Rattle.epoch_line.specs.Line.{IsLine, cut_end}
use Rattle.log_manifest.specs.declared.manifest.Manifest.{Manifest}
use Rattle.log_manifest.specs.Reading.{manifest_in}
use Rattle.log_manifest.specs.Spelling.{manifest_bytes}
use Rattle.log_manifest.proofs.Again.{manifest_again}
use Rattle.segment_file.specs.Growing.{Grown}
use Rattle.log_steps.specs.Fronts.{Each, Agrees}
use Rattle.log_steps.specs.Opens.{Opened, IsOpenedBy, Opens}
use Rattle.log_steps.specs.Reopens.{Reopens}
use Rattle.log_steps.specs.Stands.{ImageHolds, ImagesHold}
use Rattle.log_steps.specs.Publishes.{IsLike, Publishes}
use Rattle.log_steps.proofs.Lists.{each_map, each_both, each_join, each_left}
use Rattle.log_steps.proofs.Moments.{leaves_weaker}
use Rattle.log_steps.proofs.Rewritten.{log_no_manifest}
use Rattle.log_steps.proofs.Standing.{stands_since, same_stands, keeps_since, sync_stands, publish_since, publish_whole, publish_stands, like_fronts}
use Rattle.log_steps.proofs.Reading.{held_opens, opens_as, opened_by, segments_like, reopens_two, stands_reopens}
use Rattle.local_log.specs.Stored.{bytes_of, all_batches, size_of, end_of, extent_of, IsStored}
use Rattle.local_log.specs.Log.{IsUpTo}
use Rattle.local_log.specs.Listing.{IsLaidOut, AreSegmentsOf, AreListed, manifest_of}
use Rattle.local_log.specs.Inside.{DiskHasLog}
use Rattle.local_log.specs.Cutting.{OpensAs, OpensAsOr}
use Rattle.local_log.proofs.Pieces.{stored_segments, consecutive_segments, all_end, chain_snoc, up_to_all, all_append, all_same, stored_same, stored_end}
use Rattle.local_log.proofs.Lines.{cut_cut, placed_same}
use Rattle.local_log.proofs.Listed.{rules_of, chain_up}
use Rattle.local_log.proofs.Listings.{listed_more, listed_all, end_unlisted}

-- an image opens as the log up to an end
abbrev pub OpensUpTo : ℕ → ℕ → ℕ → List (List ℕ) → List (ℕ × ℕ) → Files → Type 0
OpensUpTo incarnation local_start flushed_end batches line c = (o : Opened) × Opens c o × IsUpTo incarnation local_start flushed_end batches line o

read_same : (f h : Files) (m : Manifest) (o : Opened) → ((n : FileName) → h n ≡ f n) → IsOpenedBy m f o → IsOpenedBy m h o
read_same f h m o same r = record { incarnation = r.incarnation; local_start = r.local_start; batches = segments_like h f same m.line m.local_start m.segments o.batches r.batches; line = r.line }

module _ (d : Content) (laws : Lawful d) (incarnation local_start : ℕ) (closed : List Grown) (active : Grown) (line : List (ℕ × ℕ)) (flushed_end : ℕ) (has : DiskHasLog d incarnation local_start closed active line flushed_end) where
  abbrev pub segments : List Grown
  segments = closed ++ active ∷ []

  abbrev pub bytes : List ℕ
  bytes = manifest_bytes has.listed

  pub reading : manifest_in bytes ≡ Ok has.listed
  reading = manifest_again has.listed has.rules has.fits

  pub held_up : (c : Files) → IsTrue d.is_observable × ImageHolds c d.files bytes has.listed.segments (map extent_of closed) → OpensUpTo incarnation local_start flushed_end (all_batches d.files segments) line c
  held_up c h = (
    has.opened,
    held_opens c d.files bytes has.listed (map extent_of closed) has.opened reading h.1 (has.read h.0),
    record { incarnation_is = has.incarnation_is; local_start_is = has.start_is; batches_are = has.batches_are h.0; line_is = has.line_is },
  )

  -- what has the manifest and the fronts that it lists opens as the files do
  pub listed_as : (c : Files) → IsTrue d.is_observable → c file.Manifest ≡ Some bytes → Each (Agrees c d.files) has.listed.segments → OpensAs d c
  listed_as c t there fronts = (
    d.files,
    laws.reads t,
    λ o opens. opens_as c d.files bytes has.listed o there reading fronts (opened_by d.files bytes has.listed o (has.images d.files (laws.reads t)).manifest reading opens),
  )

  pub held_as : (c : Files) → IsTrue d.is_observable × ImageHolds c d.files bytes has.listed.segments (map extent_of closed) → OpensAs d c
  held_as c h = listed_as c h.0 h.1.manifest h.1.listed_fronts

  pub image_opens : (c : Files) → Image d c → OpensUpTo incarnation local_start flushed_end (all_batches d.files segments) line c
  image_opens c now = held_up c (laws.told c now, has.images c now)

  pub has_reopens : Reopens d
  has_reopens = stands_reopens d laws bytes has.listed (map extent_of closed) has.opened reading has.images has.read

  pub start_since : LeavesOnly d d (OpensUpTo incarnation local_start flushed_end (all_batches d.files segments) line)
  start_since =
      leaves_weaker d d (λ c. IsTrue d.is_observable × ImageHolds c d.files bytes has.listed.segments (map extent_of closed)) _ held_up
      (stands_since d d laws laws bytes has.listed.segments (map extent_of closed) has.images)

  module _ (d' : Content) (laws' : Lawful d') where
    -- a call that leaves the files and makes no image
    module _ (is_observable : d'.is_observable ≡ d.is_observable) (fewer : (c : Files) → Image d' c → Image d c) (same : IsTrue d.is_observable → (n : FileName) → d'.files n ≡ d.files n) where
      told : IsTrue d'.is_observable → IsTrue d.is_observable
      told t = subst IsTrue is_observable t

      pub batches_same : IsTrue d.is_observable → (gs : List Grown) → all_batches d'.files gs ≡ all_batches d.files gs
      batches_same t gs = all_same d.files d'.files gs (λ g. ap bytes_in (same t (file.Log g.base)))

      pub has_same : DiskHasLog d' incarnation local_start closed active line flushed_end
      has_same = record {
        listed = has.listed;
        opened = has.opened;
        rules = has.rules;
        fits = has.fits;
        images = same_stands d d' laws laws' bytes has.listed.segments (map extent_of closed) has.images is_observable fewer same;
        read = λ t. read_same d.files d'.files has.listed has.opened (same (told t)) (has.read (told t));
        incarnation_is = has.incarnation_is;
        start_is = has.start_is;
        end_is = λ t. has.end_is (told t);
        batches_are = λ t. has.batches_are (told t) ∙ ap (up_to flushed_end) (sym (batches_same (told t) segments));
        line_is = has.line_is;
        stored = λ t. each_map (λ g s. stored_same d.files d'.files line g (ap bytes_in (same (told t) (file.Log g.base))) s) segments (has.stored (told t));
        exact = λ t. ap (λ (o : Option (List ℕ)). length (bytes_in o)) (same (told t) (file.Log active.base)) ∙ has.exact (told t);
        lists = has.lists;
        clear = λ t b other. same (told t) (file.Log b) ∙ has.clear (told t) b other;
      }

    module _ (k : Keeps d d') where
      pub has_kept : DiskHasLog d' incarnation local_start closed active line flushed_end
      has_kept = has_same k.is_observable k.images (λ t n. k.files n)

      pub kept_batches : (gs : List Grown) → all_batches d'.files gs ≡ all_batches d.files gs
      kept_batches gs = all_same d.files d'.files gs (λ g. ap bytes_in (k.files (file.Log g.base)))

      pub kept_since : LeavesOnly d d' (OpensUpTo incarnation local_start flushed_end (all_batches d.files segments) line)
      kept_since =
          leaves_weaker d d' (λ c. IsTrue d.is_observable × ImageHolds c d.files bytes has.listed.segments (map extent_of closed)) _ held_up
          (keeps_since d d' laws laws' bytes has.listed.segments (map extent_of closed) has.images k)

      -- the open segment is synced and closed
      module _ (interval : ℕ) (are : AreSegmentsOf local_start closed active) (some : 0 < size_of active) (low : flushed_end ≤ end_of active) (synced : (c : Files) → Image d' c → BeginsWith (d.files (file.Log active.base)) (c (file.Log active.base))) where
        abbrev pub next : Grown
        next = record { base = end_of active; interval = interval; batches = [] }

        told_k : IsTrue d'.is_observable → IsTrue d.is_observable
        told_k t = subst IsTrue k.is_observable t

        pub rolled_batches : all_batches d'.files (segments ++ next ∷ []) ≡ all_batches d.files segments
        rolled_batches = all_append d'.files segments (next ∷ []) ∙ append-nil (all_batches d'.files segments) ∙ kept_batches segments

        pub has_rolled : DiskHasLog d' incarnation local_start segments next line flushed_end
        unfolding has_kept has_same
        has_rolled = record {
          listed = has.listed;
          opened = has.opened;
          rules = has.rules;
          fits = has.fits;
          images = subst (ImagesHold d' bytes has.listed.segments) (sym (map-append extent_of closed (active ∷ [])))
              (sync_stands d d' laws laws' bytes has.listed.segments (map extent_of closed) has.images k (extent_of active) (λ t. omega (arith, has.exact t)) synced);
          read = has_kept.read;
          incarnation_is = has.incarnation_is;
          start_is = has.start_is;
          end_is = has_kept.end_is;
          batches_are = λ t. has.batches_are (told_k t) ∙ ap (up_to flushed_end) (sym rolled_batches);
          line_is = has.line_is;
          stored = λ t. each_join (IsStored d'.files line) segments (next ∷ []) (has_kept.stored t) (
            record {
              batches = [];
              placed = refl;
              stands = record { long = omega arith; bytes = refl; placed = tt; consecutive = tt };
            },
            tt,
          );
          exact = λ t. ap (λ (o : Option (List ℕ)). length (bytes_in o)) (has_kept.clear t (end_of active) (end_unlisted local_start closed active are some));
          lists = listed_more flushed_end has.listed.segments segments next low has.lists;
          clear = λ t b other. has_kept.clear t b (each_left (λ (g : Grown). b ≢ g.base) segments (next ∷ []) other);
        }

    -- all of the log is published, with leader epochs that says the same below the end
    module _ (are : AreSegmentsOf local_start closed active) (opened : 1 ≤ incarnation) (fits : incarnation < 2 ^ 32) (other : List (ℕ × ℕ)) (is : IsLine line) (is' : IsLine other) (same_line : cut_end other (end_of active) ≡ cut_end line (end_of active))
        (fate : Fate) (change : Publishes (file.Log active.base) (manifest_bytes (manifest_of incarnation local_start closed active other)) fate d d') where
      abbrev pub all : Manifest
      all = manifest_of incarnation local_start closed active other

      abbrev pub whole : List (List ℕ)
      whole = all_batches d.files segments

      abbrev pub now_open : Opened
      now_open = record { incarnation = incarnation; local_start = local_start; batches = whole; line = cut_end other (end_of active + 1) }

      rules : manifest_in (manifest_bytes all) ≡ Ok all
      rules = manifest_again all (rules_of incarnation local_start closed active other opened are is') fits

      whole_end : IsTrue d.is_observable → end_from local_start whole ≡ end_of active
      whole_end t = all_end d.files line local_start segments are.chained (has.stored t) ∙ chain_snoc local_start closed active

      stored_other : IsTrue d.is_observable → Each (IsStored d.files other) segments
      stored_other t =
          each_both (λ g s le. store_by g s le) segments (has.stored t)
          (subst (λ (n : ℕ). Each (λ g. end_of g ≤ n) segments) (chain_snoc local_start closed active) (chain_up local_start segments are.chained (each_join IsLaidOut closed (active ∷ []) are.laid (are.active_laid, tt))))
        where
          store_by : (g : Grown) → IsStored d.files line g → end_of g ≤ end_of active → IsStored d.files other g
          store_by g s le = record {
            batches = s.batches;
            placed = s.placed;
            stands = record {
              long = s.stands.long;
              bytes = s.stands.bytes;
              placed = placed_same line other g.base (end_of active) g.base s.batches is is' same_line s.stands.consecutive (omega (arith, stored_end d.files line g s, le)) s.stands.placed;
              consecutive = s.stands.consecutive;
            };
          }

      read_whole : IsTrue d.is_observable → IsOpenedBy all d.files now_open
      read_whole t = record {
        incarnation = refl;
        local_start = refl;
        batches = stored_segments d.files other local_start segments are.chained (stored_other t);
        line = ap (λ (n : ℕ). cut_end other (n + 1)) (sym (whole_end t));
      }

      lists : (c : Files) → Each (Agrees c d.files) (map extent_of closed) → Agrees c d.files (extent_of active) → Each (Agrees c d.files) (map extent_of segments)
      lists c a b = subst (Each (Agrees c d.files)) (sym (map-append extent_of closed (active ∷ []))) (each_join (Agrees c d.files) (map extent_of closed) (extent_of active ∷ []) a (b, tt))

      long : IsTrue d.is_observable → size_of active ≤ length (bytes_of d.files active)
      long t = omega (arith, has.exact t)

      told_p : IsTrue d'.is_observable → IsTrue d.is_observable
      told_p t = subst IsTrue change.is_observable t

      after_up : (c : Files) → IsTrue d.is_observable × ImageHolds c d.files (manifest_bytes all) (map extent_of segments) (map extent_of closed) → OpensUpTo incarnation local_start (end_of active) whole other c
      after_up c h =
          let up = up_to_all local_start whole (consecutive_segments d.files other local_start (map extent_of segments) whole (read_whole h.0).batches) in (
            now_open,
            held_opens c d.files (manifest_bytes all) all (map extent_of closed) now_open rules h.1 (read_whole h.0),
            record {
              incarnation_is = refl;
              local_start_is = refl;
              batches_are = sym up ∙ ap (λ (n : ℕ). up_to n whole) (whole_end h.0);
              line_is = cut_cut other (end_of active + 1) (end_of active) (omega arith);
            },
          )

      pub published_since : LeavesOnly d d' (λ c. OpensUpTo incarnation local_start flushed_end whole line c ⊎ OpensUpTo incarnation local_start (end_of active) whole other c)
      published_since =
          leaves_weaker d d' _ _
          (λ c h. ⊎_elim (λ a. inl (held_up c (h.0, a))) (λ b. inr (after_up c (h.0, b))) h.1)
          (publish_since d d' laws laws' bytes has.listed.segments (map extent_of closed) has.images (extent_of active) long (manifest_bytes all) (map extent_of segments) lists fate change)

      -- all of it, up to its end
      abbrev pub all_open : Opened
      all_open = record { incarnation = incarnation; local_start = local_start; batches = up_to (end_of active) whole; line = cut_end other (end_of active + 1) }

      after_opens : (c : Files) → IsTrue d.is_observable × ImageHolds c d.files (manifest_bytes all) (map extent_of segments) (map extent_of closed) → Opens c all_open
      after_opens c h =
          let up = up_to_all local_start whole (consecutive_segments d.files other local_start (map extent_of segments) whole (read_whole h.0).batches) in
          subst (λ (l : List (List ℕ)). Opens c (record { incarnation = incarnation; local_start = local_start; batches = l; line = cut_end other (end_of active + 1) })) (sym up ∙ ap (λ (n : ℕ). up_to n whole) (whole_end h.0))
          (held_opens c d.files (manifest_bytes all) all (map extent_of closed) now_open rules h.1 (read_whole h.0))

      pub published_as : LeavesOnly d d' (OpensAsOr d all_open)
      published_as =
          leaves_weaker d d' _ (OpensAsOr d all_open)
          (λ c h. ⊎_elim (λ a. inl (held_as c (h.0, a))) (λ b. inr (after_opens c (h.0, b))) h.1)
          (publish_since d d' laws laws' bytes has.listed.segments (map extent_of closed) has.images (extent_of active) long (manifest_bytes all) (map extent_of segments) lists fate change)

      published_files : IsTrue d.is_observable → (b : ℕ) → d'.files (file.Log b) ≡ d.files (file.Log b)
      published_files t b = change.files t (file.Log b) (log_no_manifest b)

      pub published_batches : IsTrue d.is_observable → (gs : List Grown) → all_batches d'.files gs ≡ all_batches d.files gs
      published_batches t gs = all_same d.files d'.files gs (λ g. ap bytes_in (published_files t g.base))

      abbrev pub open_after : Opened
      open_after = record { incarnation = incarnation; local_start = local_start; batches = all_batches d'.files segments; line = cut_end other (end_of active + 1) }

      stored_after : IsTrue d.is_observable → Each (IsStored d'.files other) segments
      stored_after t = each_map (λ g s. stored_same d.files d'.files other g (ap bytes_in (published_files t g.base)) s) segments (stored_other t)

      end_after_it : IsTrue d.is_observable → end_from local_start (all_batches d'.files segments) ≡ end_of active
      end_after_it t = ap (λ (l : List (List ℕ)). end_from local_start l) (published_batches t segments) ∙ whole_end t

      read_after : IsTrue d.is_observable → IsOpenedBy all d'.files open_after
      read_after t = record {
        incarnation = refl;
        local_start = refl;
        batches = stored_segments d'.files other local_start segments are.chained (stored_after t);
        line = ap (λ (n : ℕ). cut_end other (n + 1)) (sym (end_after_it t));
      }

      batches_after : IsTrue d.is_observable → all_batches d'.files segments ≡ up_to (end_of active) (all_batches d'.files segments)
      batches_after t =
          sym (up_to_all local_start (all_batches d'.files segments) (consecutive_segments d'.files other local_start (map extent_of segments) (all_batches d'.files segments) (read_after t).batches))
          ∙ ap (λ (n : ℕ). up_to n (all_batches d'.files segments)) (end_after_it t)

      stands_after : fate ≡ Went → ImagesHold d' (manifest_bytes all) (map extent_of segments) (map extent_of closed)
      stands_after went = publish_stands d d' laws laws' bytes has.listed.segments (map extent_of closed) has.images (extent_of active) long (manifest_bytes all) (map extent_of segments) lists fate change went

      all_listed : AreListed (end_of active) (map extent_of segments) segments
      all_listed =
          let laid = each_join IsLaidOut closed (active ∷ []) are.laid (are.active_laid, tt) in
          listed_all (end_of active) segments laid (subst (λ (n : ℕ). Each (λ g. end_of g ≤ n) segments) (chain_snoc local_start closed active) (chain_up local_start segments are.chained laid))

      pub has_published : fate ≡ Went → DiskHasLog d' incarnation local_start closed active other (end_of active)
      has_published went = record {
        listed = all;
        opened = open_after;
        rules = rules_of incarnation local_start closed active other opened are is';
        fits = fits;
        images = stands_after went;
        read = λ t. read_after (told_p t);
        incarnation_is = refl;
        start_is = refl;
        end_is = λ t. end_after_it (told_p t);
        batches_are = λ t. batches_after (told_p t);
        line_is = cut_cut other (end_of active + 1) (end_of active) (omega arith);
        stored = λ t. stored_after (told_p t);
        exact = λ t. ap (λ (o : Option (List ℕ)). length (bytes_in o)) (published_files (told_p t) active.base) ∙ has.exact (told_p t);
        lists = all_listed;
        clear = λ t b unlisted. published_files (told_p t) b ∙ has.clear (told_p t) b unlisted;
      }

      -- each image has one of the manifests
      pub published_reopens : Reopens d'
      published_reopens = ⊎_elim none_new both_whole change.settled
        where
          none_new : ((c : Files) → Image d' c → IsLike d c) → Reopens d'
          none_new like =
              reopens_two d' d.files bytes bytes has.listed has.listed has.opened has.opened reading reading
              (λ c now. (let h = like_fronts d d' laws laws' bytes has.listed.segments (map extent_of closed) has.images c (like c now) in (inl h.1.manifest, h.1.listed_fronts, h.1.listed_fronts)))
              (λ c now. (let r = has.read (told_p (laws'.told c now)) in (r, r)))

          both_whole : ((c : Files) → Image d' c → BeginsWith (d.files (file.Log active.base)) (c (file.Log active.base))) → Reopens d'
          both_whole begins =
              reopens_two d' d.files bytes (manifest_bytes all) has.listed all has.opened now_open reading rules
              (λ c now. publish_whole d d' laws laws' bytes has.listed.segments (map extent_of closed) has.images (extent_of active) long (manifest_bytes all) (map extent_of segments) lists fate change c now (begins c now))
              (λ c now. (let t = told_p (laws'.told c now) in (has.read t, read_whole t)))

      -- each image has the new one
      pub published_opens : fate ≡ Went → (c : Files) → Image d' c → Opens c (record { incarnation = incarnation; local_start = local_start; batches = up_to (end_of active) (all_batches d'.files segments); line = cut_end other (end_of active + 1) })
      published_opens went c now =
          let t = told_p (laws'.told c now) in
          subst (λ (l : List (List ℕ)). Opens c (record { incarnation = incarnation; local_start = local_start; batches = l; line = cut_end other (end_of active + 1) })) (batches_after t)
          (held_opens c d'.files (manifest_bytes all) all (map extent_of closed) open_after rules (stands_after went c now) (read_after t))

      -- the call found no memory
      pub published_dry : fate ≡ Dry → DiskHasLog d' incarnation local_start closed active line flushed_end
      published_dry is = has_same change.is_observable (change.dry is) (change.dry_files is)
