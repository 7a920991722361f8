-- A manifest that lists a log up to one of its ends is made the present one.
use Rattle.std.proofs.Common.{◌≡◌, ◌⊎◌, ℕ, ◌^◌, ◌≤◌, ◌<◌, List, [], ◌∷◌, ◌++◌, length, take, map, Option, Ok, refl, sym, ◌∙◌, ap, subst, inl, inr, ⊎_elim, arith, IsTrue}
use Rattle.std.proofs.lemmas.List.{map-append, take-take}
use Rattle.tier_base.specs.declared.plain.FileName.TheVariants as file
use Rattle.tier_base.specs.Device.{Fate, Went, Dry}
use Rattle.tier_base.specs.Told.{bytes_in}
use Rattle.disk_model.specs.Content.{Content, Lawful, Files, Image, LeavesOnly, BeginsWith}
use Rattle.log_terms.specs.Log.{up_to}
use Rattle.epoch_line.specs.Line.{IsLine, cut_end}
use Rattle.log_manifest.specs.declared.manifest.Extent.{Extent}
use Rattle.log_manifest.specs.declared.manifest.Manifest.{Manifest}
use Rattle.log_manifest.specs.Reading.{manifest_in}
use Rattle.log_manifest.specs.Spelling.{manifest_bytes}
use Rattle.segment_file.specs.Growing.{Grown}
use Rattle.segment_file.proofs.Laying.{end_up}
use Rattle.log_steps.specs.Fronts.{Each, Agrees, log_at}
use Rattle.log_steps.specs.Opens.{Opened, IsOpenedBy, Opens}
use Rattle.log_steps.specs.Publishes.{IsLike, Publishes}
use Rattle.log_steps.specs.Reopens.{Reopens}
use Rattle.log_steps.specs.Stands.{ImageHolds, ImagesHold}
use Rattle.log_steps.proofs.Lists.{each_map, each_both, each_join, each_left, each_right}
use Rattle.log_steps.proofs.Moments.{leaves_weaker}
use Rattle.log_steps.proofs.Rewritten.{log_no_manifest}
use Rattle.log_steps.proofs.Standing.{same_kept, like_fronts, publish_since, publish_whole, publish_stands}
use Rattle.log_steps.proofs.Reading.{held_opens, read_moved, segments_whole, reopens_two}
use Rattle.local_log.specs.Stored.{all_batches, size_of, end_of, extent_of, IsStored}
use Rattle.local_log.specs.Listing.{IsLaidOut, AreSegmentsOf, AreListed, front_to}
use Rattle.local_log.specs.Inside.{DiskHasLog}
use Rattle.local_log.specs.Cutting.{closed_by, open_by, behind, cut_point, OpensAsOr}
use Rattle.local_log.proofs.Pieces.{all_same, stored_same}
use Rattle.local_log.proofs.Lines.{cut_cut}
use Rattle.local_log.proofs.Listed.{rules_of}
use Rattle.local_log.proofs.Listings.{ending_none, ending_all}
use Rattle.local_log.proofs.Parting.{parts, closed_front, closed_low, front_less, front_laid, last_low, later_high}
use Rattle.local_log.proofs.Having.{OpensUpTo, reading, held_up, held_as, has_same}
use Rattle.local_log.proofs.Shortened.{manifest, opened, short_line, short_are, short_stored, short_reading, short_read, up_to_end}

pub agrees_none : (c f : Files) (e : Extent) → e.len ≡ 0 → Agrees c f e
agrees_none c f e z = record {
  long = omega (arith, z);
  same = subst (λ (n : ℕ). take n (log_at c e) ≡ take n (log_at f e)) (sym z) refl;
}

-- a shorter front
agrees_shorter : (c f : Files) (base n m : ℕ) → n ≤ m → Agrees c f (record { base = base; len = m }) → Agrees c f (record { base = base; len = n })
agrees_shorter c f base n m le h =
    let at : Extent = record { base = base; len = m } in
    record {
      long = (let l = h.long in omega (arith, l, le));
      same = sym (take-take n m (log_at c at) le) ∙ ap (λ (l : List ℕ). take n l) h.same ∙ take-take n m (log_at f at) le;
    }

-- an image that has what is listed has each segment up to the flushed end
pub listed_agrees : (c f : Files) (flushed_end n : ℕ) (es : List Extent) (gs : List Grown) → n ≤ flushed_end → Each IsLaidOut gs → AreListed flushed_end es gs → Each (Agrees c f) es → Each (λ g. Agrees c f (extent_of (front_to n g))) gs
listed_agrees c f flushed_end n [] [] le laid l a = tt
listed_agrees c f flushed_end n [] (g ∷ gs) le laid l a =
    let none = ending_none g.base 0 n g.batches laid.0.laid (omega (arith, le, l.0)) in
    (agrees_none c f (extent_of (front_to n g)) (ap (λ bs. size_of (record g { batches = bs })) none), listed_agrees c f flushed_end n [] gs le laid.1 l.1 a)
listed_agrees c f flushed_end n (e ∷ es) [] le laid l a = absurd l
listed_agrees c f flushed_end n (e ∷ es) (g ∷ gs) le laid l a = (
  agrees_shorter c f g.base (size_of (front_to n g)) (size_of (front_to flushed_end g)) (front_less n flushed_end g laid.0.laid le) (subst (Agrees c f) l.1 a.0),
  listed_agrees c f flushed_end n es gs le laid.1 l.2 a.1,
)

-- the cut log is listed up to its end
pub listed_cut : (n : ℕ) (front : List Grown) (last : Grown) (later : List Grown) → Each IsLaidOut front → Each (λ g. end_of g ≤ n) front → Each (λ g. g.base ≤ n) front → last.base ≤ n → Each (λ g. n < g.base) later
    → AreListed n (map extent_of (front ++ front_to n last ∷ [])) (front ++ last ∷ later)
listed_cut n [] last later laid low bases base high = (base, refl, each_map (λ g lt. omega (arith, lt)) later high)
listed_cut n (g ∷ front) last later laid low bases base high = (
  bases.0,
  ap (λ bs. extent_of (record g { batches = bs })) (sym (ending_all g.base 0 n g.batches laid.0.laid low.0)),
  listed_cut n front last later laid.1 low.1 bases.1 base high,
)

module _ (d : Content) (laws : Lawful d) (incarnation local_start : ℕ) (closed : List Grown) (active : Grown) (line : List (ℕ × ℕ)) (flushed_end : ℕ) (has : DiskHasLog d incarnation local_start closed active line flushed_end)
    (are : AreSegmentsOf local_start closed active) (is : IsLine line) (n : ℕ) (from : local_start ≤ n) (exact : cut_point n closed active ≡ n) (within : n ≤ end_of active) (one : 1 ≤ incarnation) (fits : incarnation < 2 ^ 32) where
  abbrev pub segments : List Grown
  segments = closed ++ active ∷ []

  abbrev pub front : List Grown
  front = closed_by n closed

  abbrev pub last : Grown
  last = open_by n closed active

  abbrev pub later : List Grown
  later = behind n closed active

  abbrev pub last_front : Extent
  last_front = extent_of (front_to n last)

  abbrev pub old_bytes : List ℕ
  old_bytes = manifest_bytes has.listed

  abbrev pub next : Manifest
  next = manifest d incarnation local_start closed active line flushed_end has are is n from exact within

  abbrev pub bytes : List ℕ
  bytes = manifest_bytes next

  abbrev pub now_open : Opened
  now_open = opened d incarnation local_start closed active line flushed_end has are is n from exact within

  all_parts : closed ++ active ∷ [] ≡ front ++ last ∷ later
  all_parts = parts local_start n closed active are from

  old_reading : manifest_in old_bytes ≡ Ok has.listed
  old_reading = reading d laws incarnation local_start closed active line flushed_end has

  next_reading : manifest_in bytes ≡ Ok next
  next_reading = short_reading d incarnation local_start closed active line flushed_end has are is n from exact within one fits

  reads : IsTrue d.is_observable → IsOpenedBy next d.files now_open
  reads = short_read d incarnation local_start closed active line flushed_end has are is n from exact within

  last_long : IsTrue d.is_observable → last_front.len ≤ length (log_at d.files last_front)
  last_long t = (each_right (IsStored d.files (cut_end line n)) front (front_to n last ∷ []) (short_stored d incarnation local_start closed active line flushed_end has are is n from exact within t)).0.stands.long

  -- what it lists are closed segments, and the front of the one that is synced
  next_lists : (c : Files) → Each (Agrees c d.files) (map extent_of closed) → Agrees c d.files last_front → Each (Agrees c d.files) next.segments
  next_lists c whole there =
      let f = closed_front n closed in
      let closed_is : map extent_of closed ≡ map extent_of front ++ map extent_of f.0 = ap (λ (l : List Grown). map extent_of l) f.1 ∙ map-append extent_of front f.0 in
      subst (Each (Agrees c d.files)) (sym (map-append extent_of front (front_to n last ∷ [])))
      (each_join (Agrees c d.files) (map extent_of front) (last_front ∷ [])
      (each_left (Agrees c d.files) (map extent_of front) (map extent_of f.0) (subst (Each (Agrees c d.files)) closed_is whole)) (there, tt))

  module _ (d' : Content) (laws' : Lawful d') (fate : Fate) (change : Publishes (file.Log last.base) bytes fate d d') where
    told : IsTrue d'.is_observable → IsTrue d.is_observable
    told t = subst IsTrue change.is_observable t

    held_either : (c : Files) → IsTrue d.is_observable × (ImageHolds c d.files old_bytes has.listed.segments (map extent_of closed) ⊎ ImageHolds c d.files bytes next.segments (map extent_of closed))
        → OpensUpTo incarnation local_start flushed_end (all_batches d.files segments) line c ⊎ Opens c now_open
    held_either c h =
        ⊎_elim
        (λ old. inl (held_up d laws incarnation local_start closed active line flushed_end has c (h.0, old)))
        (λ new. inr (held_opens c d.files bytes next (map extent_of closed) now_open next_reading new (reads h.0)))
        h.1

    pub settle_since : LeavesOnly d d' (λ c. OpensUpTo incarnation local_start flushed_end (all_batches d.files segments) line c ⊎ Opens c now_open)
    settle_since =
        leaves_weaker d d' _ _ held_either
        (publish_since d d' laws laws' old_bytes has.listed.segments (map extent_of closed) has.images last_front last_long bytes next.segments next_lists fate change)

    pub settle_as : LeavesOnly d d' (OpensAsOr d now_open)
    settle_as =
        leaves_weaker d d' _ (OpensAsOr d now_open)
        (λ c h. ⊎_elim
        (λ old. inl (held_as d laws incarnation local_start closed active line flushed_end has c (h.0, old)))
        (λ new. inr (held_opens c d.files bytes next (map extent_of closed) now_open next_reading new (reads h.0)))
        h.1)
        (publish_since d d' laws laws' old_bytes has.listed.segments (map extent_of closed) has.images last_front last_long bytes next.segments next_lists fate change)

    -- each image has one of the manifests
    pub settle_reopens : Reopens d'
    settle_reopens = ⊎_elim none_new both_whole change.settled
      where
        none_new : ((c : Files) → Image d' c → IsLike d c) → Reopens d'
        none_new like =
            reopens_two d' d.files old_bytes old_bytes has.listed has.listed has.opened has.opened old_reading old_reading
            (λ c now. (let h = like_fronts d d' laws laws' old_bytes has.listed.segments (map extent_of closed) has.images c (like c now) in (inl h.1.manifest, h.1.listed_fronts, h.1.listed_fronts)))
            (λ c now. (let r = has.read (told (laws'.told c now)) in (r, r)))

        both_whole : ((c : Files) → Image d' c → BeginsWith (d.files (file.Log last.base)) (c (file.Log last.base))) → Reopens d'
        both_whole begins =
            reopens_two d' d.files old_bytes bytes has.listed next has.opened now_open old_reading next_reading
            (λ c now. publish_whole d d' laws laws' old_bytes has.listed.segments (map extent_of closed) has.images last_front last_long bytes next.segments next_lists fate change c now (begins c now))
            (λ c now. (let t = told (laws'.told c now) in (has.read t, reads t)))

    -- the call found no memory
    pub settle_dry : fate ≡ Dry → DiskHasLog d' incarnation local_start closed active line flushed_end
    settle_dry dry = has_same d laws incarnation local_start closed active line flushed_end has d' laws' change.is_observable (change.dry dry) (change.dry_files dry)

    log_files : IsTrue d.is_observable → (b : ℕ) → d'.files (file.Log b) ≡ d.files (file.Log b)
    log_files t b = change.files t (file.Log b) (log_no_manifest b)

    pub settle_batches : IsTrue d.is_observable → (gs : List Grown) → all_batches d'.files gs ≡ all_batches d.files gs
    settle_batches t gs = all_same d.files d'.files gs (λ g. ap bytes_in (log_files t g.base))

    read_after : IsTrue d.is_observable → IsOpenedBy next d'.files now_open
    read_after t =
        let r = reads t in
        read_moved d'.files d.files next now_open
        (each_map (λ e w. same_kept d.files d'.files (λ k ne. change.files t k ne) e w.long) next.segments (segments_whole d.files next.line next.local_start next.segments now_open.batches r.batches)) r

    module _ (went : fate ≡ Went) where
      stands : ImagesHold d' bytes next.segments (map extent_of closed)
      stands = publish_stands d d' laws laws' old_bytes has.listed.segments (map extent_of closed) has.images last_front last_long bytes next.segments next_lists fate change went

      pub settled_opens : (c : Files) → Image d' c → Opens c now_open
      settled_opens c now = held_opens c d'.files bytes next (map extent_of closed) now_open next_reading (stands c now) (read_after (told (laws'.told c now)))

      pub settled_has : DiskHasLog d' incarnation local_start closed active line n
      settled_has = record {
        listed = next;
        opened = now_open;
        rules = rules_of incarnation local_start front (front_to n last) (cut_end line n) one (short_are d incarnation local_start closed active line flushed_end has are is n from exact within) (short_line d incarnation local_start closed active line flushed_end has are is n from exact within);
        fits = fits;
        images = stands;
        read = λ t. read_after (told t);
        incarnation_is = refl;
        start_is = refl;
        end_is = λ t. up_to_end d incarnation local_start closed active line flushed_end has are is n from exact within (told t);
        batches_are = λ t. ap (up_to n) (sym (settle_batches (told t) segments));
        line_is = cut_cut line n n (omega arith);
        lists = subst (AreListed n next.segments) (sym all_parts)
            (listed_cut n front last later (front_laid local_start n closed active are from) (closed_low n closed) front_bases (last_low local_start n closed active are from) (later_high local_start n closed active are from));
        stored = λ t. each_map (λ g s. stored_same d.files d'.files line g (ap bytes_in (log_files (told t) g.base)) s) segments (has.stored (told t));
        exact = λ t. ap (λ (o : Option (List ℕ)). length (bytes_in o)) (log_files (told t) active.base) ∙ has.exact (told t);
        clear = λ t b unlisted. log_files (told t) b ∙ has.clear (told t) b unlisted;
      }
        where
          front_bases : Each (λ g. g.base ≤ n) front
          front_bases = each_both (λ g l e. (let up = end_up g.base 0 g.batches l.laid in omega (arith, up, e))) front (front_laid local_start n closed active are from) (closed_low n closed)
