-- A new manifest takes the place of the old one, and then files that it doesn't list are removed.
use Rattle.std.proofs.Common.{◌≡◌, ◌≢◌, ◌⊎◌, ℕ, Bool, true, List, [], ◌∷◌, ◌++◌, map, Some, Result, Ok, Err, IsErrAnd, refl, sym, ◌∙◌, ap, subst, inl, inr, ⊎_elim, IsTrue}
use Rattle.tier_base.specs.declared.plain.FileName.{FileName}
use Rattle.tier_base.specs.declared.plain.FileName.TheVariants as file
use Rattle.tier_base.specs.declared.fault.Trouble.{Trouble}
use Rattle.tier_base.specs.Device.{Fate, Went, Fault, Dry, fate_of, fate_of_trouble}
use Rattle.tier_base.specs.Told.{In, replaced}
use Rattle.disk_model.proofs.Names.{cases_name}
use Rattle.disk_model.specs.Content.{Content, Lawful, Files, Image, Changes, LeavesOnly, Swapped}
use Rattle.log_manifest.specs.declared.manifest.Extent.{Extent}
use Rattle.log_manifest.specs.declared.manifest.Manifest.{Manifest}
use Rattle.log_manifest.specs.Reading.{manifest_in}
use Rattle.log_manifest.specs.Spelling.{manifest_bytes}
use Rattle.segment_file.specs.Growing.{Grown}
use Rattle.log_steps.specs.Fronts.{Each, Agrees}
use Rattle.log_steps.specs.Opens.{Opened, IsOpenedBy, Opens}
use Rattle.log_steps.specs.Reopens.{Reopens}
use Rattle.log_steps.specs.Rewrites.{Rewritten}
use Rattle.log_steps.proofs.Lists.{each_map, each_both}
use Rattle.log_steps.proofs.Moments.{started, goes_on, leaves_weaker, leaves_then}
use Rattle.log_steps.proofs.Published.{undone_files}
use Rattle.log_steps.proofs.Restored.{kept_same}
use Rattle.log_steps.proofs.Restored.{manifest_other}
use Rattle.log_steps.proofs.Rewritten.{log_no_manifest}
use Rattle.log_steps.proofs.Standing.{agrees_then, same_kept}
use Rattle.log_steps.proofs.Reading.{opens_as, reopens_two}
use Rattle.local_log.specs.Stored.{all_batches, extent_of}
use Rattle.local_log.specs.Inside.{DiskHasLog}
use Rattle.local_log.specs.Cutting.{names_of, Without, RemovesAll, OpensAs, OpensAsOr, OpensBeforeOrNow, LeavesBeforeOrNow}
use Rattle.local_log.specs.Renewing.{HasNew, Renewed, Renews}
use Rattle.local_log.proofs.Having.{OpensUpTo, reading, listed_as, has_same}
use Rattle.local_log.proofs.OneWay.{opens_once}
use Rattle.local_log.proofs.Sides.{either_opens}
use Rattle.local_log.proofs.Settled.{agrees_none}

pub err_fate : {T : Type 0} (r : Result T Trouble) (e : Trouble) → IsErrAnd r (λ x. x ≡ e) → fate_of r ≡ fate_of_trouble e
err_fate (Ok x) e h = absurd h
err_fate (Err x) e h = ap fate_of_trouble h

pub not_dry : (fate : Fate) → fate ≡ Fault → fate ≡ Dry → ⊥
not_dry fate is dry = cc

-- a segment's file isn't the manifest
pub no_manifest : (gs : List Grown) → In file.Manifest (names_of gs) → ⊥
no_manifest [] named = named
no_manifest (g ∷ gs) (inl is) = manifest_other g.base is
no_manifest (g ∷ gs) (inr rest) = no_manifest gs rest

-- nor that of a segment with another base
pub not_named : (b : ℕ) (gs : List Grown) → Each (λ (g : Grown). b ≢ g.base) gs → In (file.Log b) (names_of gs) → ⊥
not_named b [] other named = named
not_named b (g ∷ gs) other (inl is) = other.0 (cc (is))
not_named b (g ∷ gs) other (inr rest) = not_named b gs other.1 rest

module _ (bytes : List ℕ) (gs : List Grown) (d m : Content) (M : Bool → Type 0) (change : Changes file.Manifest (replaced bytes) (Swapped bytes) M d m) where
  swapped : (c : Files) → Image m c → Renewed bytes (names_of gs) d c
  swapped c now =
      let x = change.images c now in
      record {
        image = x.0;
        was = x.1;
        is = ⊎_elim
            (λ same. inl (λ n. elim (cases_name n file.Manifest) [
              | inl e ↦ subst (λ (k : FileName). c k ≡ x.0 k) (sym e) same
              | inr ne ↦ x.2.others n ne
            ]))
            (λ new. inr (record { manifest = new; others = λ n ne. inl (x.2.others n ne) }))
            x.2.there;
      }

  swap_since : LeavesOnly d m (Renewed bytes (names_of gs) d)
  swap_since = goes_on d d m (Renewed bytes (names_of gs) d) (started d (Renewed bytes (names_of gs) d) (λ c now. record { image = c; was = now; is = inl (λ n. refl) })) change.time swapped

  -- the manifest may not have been replaced, so no file was removed
  pub renews_none : (fate : Fate) → (fate ≡ Went → ⊥) → (fate ≡ Dry → M true → ⊥) → Renews bytes (names_of gs) fate d m
  renews_none fate not dry = record {
    is_observable = change.is_observable;
    since = swap_since;
    dry = λ is. change.undone (dry is);
    dry_files = λ is t. undone_files file.Manifest (replaced bytes) M d.files m.files (dry is) (change.files t);
    durable = λ went. absurd (not went);
    files = λ went. absurd (not went);
    gone = λ went. absurd (not went);
    phase = inl (λ c now. (let x = change.images c now in record { image = x.0; was = x.1; others = x.2.others; manifest = x.2.there }));
    between = inl (goes_on d d m (λ c. Image d c ⊎ Image m c) (started d (λ c. Image d c ⊎ Image m c) (λ c now. inl now)) change.time (λ c now. inr now));
  }

  module _ (d' : Content) (laws' : Lawful d') (fate : Fate) (sure : (c : Files) → Image m c → c file.Manifest ≡ Some bytes) (step : RemovesAll (names_of gs) fate m d') where
    told : IsTrue d.is_observable → IsTrue m.is_observable
    told t = subst IsTrue (sym change.is_observable) t

    has_new : (x c : Files) → Image m x → Without (names_of gs) x c → c file.Manifest ≡ Some bytes
    has_new x c now without = ⊎_elim (λ same. same ∙ sure x now) (λ none. absurd (no_manifest gs none.0)) (without file.Manifest)

    after : (c : Files) → (x : Files) × Image m x × Without (names_of gs) x c → Renewed bytes (names_of gs) d c
    after c h =
        let y = change.images h.0 h.1 in
        record {
          image = y.0;
          was = y.1;
          is = inr (record {
            manifest = has_new h.0 c h.1 h.2;
            others = λ n ne. ⊎_elim (λ same. inl (same ∙ y.2.others n ne)) (λ none. inr none) (h.2 n);
          });
        }

    new_now : (c : Files) → Image d' c → c file.Manifest ≡ Some bytes
    new_now c now = let h = step.since.each c (laws'.earlier m.moment d'.moment c step.since.later now) in has_new h.0 c h.1 h.2

    pub renews : (other : Fate) → (other ≡ Dry → ⊥) → (other ≡ Went → fate ≡ Went) → Renews bytes (names_of gs) other d d'
    renews other wet went = record {
      is_observable = step.is_observable ∙ change.is_observable;
      since = leaves_then d m d' (Renewed bytes (names_of gs) d) swap_since (leaves_weaker m d' _ (Renewed bytes (names_of gs) d) after step.since);
      dry = λ is. absurd (wet is);
      dry_files = λ is. absurd (wet is);
      durable = λ is. new_now;
      files = λ is t n ne. ⊎_elim (λ same. inl (same ∙ (change.files t).2.others n ne)) (λ none. inr none) (step.files (told t) n);
      gone = λ is t n named. step.gone (went is) (told t) n named;
      phase = inr new_now;
      between = inr new_now;
    }

module _ (d : Content) (laws : Lawful d) (incarnation local_start : ℕ) (closed : List Grown) (active : Grown) (line : List (ℕ × ℕ)) (flushed_end : ℕ) (has : DiskHasLog d incarnation local_start closed active line flushed_end)
    (next : Manifest) (o : Opened) (reads : manifest_in (manifest_bytes next) ≡ Ok next) (read : IsTrue d.is_observable → IsOpenedBy next d.files o)
    (lists : (c : Files) → Each (Agrees c d.files) has.listed.segments → Each (Agrees c d.files) (map extent_of closed) → Each (Agrees c d.files) next.segments)
    (gs : List Grown) (safe : Each (λ (e : Extent). (e.len ≡ 0) ⊎ Each (λ (g : Grown). e.base ≢ g.base) gs) next.segments)
    (d' : Content) (laws' : Lawful d') (fate : Fate) (change : Renews (manifest_bytes next) (names_of gs) fate d d') where
  abbrev pub segments : List Grown
  segments = closed ++ active ∷ []

  abbrev pub old_bytes : List ℕ
  old_bytes = manifest_bytes has.listed

  abbrev pub bytes : List ℕ
  bytes = manifest_bytes next

  old_reads : manifest_in old_bytes ≡ Ok has.listed
  old_reads = reading d laws incarnation local_start closed active line flushed_end has

  -- the old manifest and its fronts, or the new one and its fronts
  abbrev HasEither : Files → Type 0
  HasEither c =
      ((c file.Manifest ≡ Some old_bytes) × Each (Agrees c d.files) has.listed.segments)
      ⊎ ((c file.Manifest ≡ Some bytes) × Each (Agrees c d.files) next.segments)

  -- fronts that an image has, and that no removal touches
  new_fronts : (es : List Extent) → Each (λ (e : Extent). (e.len ≡ 0) ⊎ Each (λ (g : Grown). e.base ≢ g.base) gs) es → (image c : Files) → HasNew bytes (names_of gs) image c → Each (Agrees image d.files) es → Each (Agrees c d.files) es
  new_fronts es safe image c new agree =
      each_both
      (λ e s a. ⊎_elim
      (λ none. agrees_none c d.files e none)
      (λ apart. agrees_then image c d.files e (kept_same image c e (⊎_elim (λ same. same) (λ gone. absurd (not_named e.base gs apart gone.0)) (new.others (file.Log e.base) (log_no_manifest e.base)))) a)
      s)
      es safe agree

  renew_image : (c : Files) → Renewed bytes (names_of gs) d c → IsTrue d.is_observable × HasEither c
  renew_image c h =
      let was = has.images h.image h.was in (
        laws.told h.image h.was,
        ⊎_elim
            (λ same. inl (same file.Manifest ∙ was.manifest, each_map (λ e. agrees_then h.image c d.files e (same_kept h.image c (λ n ne. same n) e)) has.listed.segments was.listed_fronts))
            (λ new. inr (new.manifest, new_fronts next.segments safe h.image c new (lists h.image was.listed_fronts was.closed_fronts)))
            h.is,
      )

  now_renewed : (c : Files) → Image d' c → Renewed bytes (names_of gs) d c
  now_renewed c now = change.since.each c (laws'.earlier d.moment d'.moment c change.since.later now)

  opens_either : (c : Files) → Renewed bytes (names_of gs) d c → OpensUpTo incarnation local_start flushed_end (all_batches d.files segments) line c ⊎ Opens c o
  opens_either c h =
      let i = renew_image c h in
      ⊎_elim
      (λ old. inl (
        has.opened,
        opens_as c d.files old_bytes has.listed has.opened old.0 old_reads old.1 (has.read i.0),
        record { incarnation_is = has.incarnation_is; local_start_is = has.start_is; batches_are = has.batches_are i.0; line_is = has.line_is },
      ))
      (λ new. inr (opens_as c d.files bytes next o new.0 reads new.1 (read i.0)))
      i.1

  pub renew_since : LeavesOnly d d' (λ c. OpensUpTo incarnation local_start flushed_end (all_batches d.files segments) line c ⊎ Opens c o)
  renew_since = leaves_weaker d d' (Renewed bytes (names_of gs) d) _ opens_either change.since

  pub renew_as : LeavesOnly d d' (OpensAsOr d o)
  renew_as =
      leaves_weaker d d' (Renewed bytes (names_of gs) d) (OpensAsOr d o)
      (λ c h. (
      let i = renew_image c h in
      ⊎_elim
      (λ old. inl (listed_as d laws incarnation local_start closed active line flushed_end has c i.0 old.0 old.1))
      (λ new. inr (opens_as c d.files bytes next o new.0 reads new.1 (read i.0)))
      i.1
      ))
      change.since

  -- an image has the fronts that no removal touches
  module _ (es : List Extent) (untouched : Each (λ (e : Extent). (e.len ≡ 0) ⊎ Each (λ (g : Grown). e.base ≢ g.base) gs) es)
      (had : (c : Files) → Each (Agrees c d.files) has.listed.segments → Each (Agrees c d.files) (map extent_of closed) → Each (Agrees c d.files) es) where
    pub renew_kept : (c : Files) → Image d' c → Each (Agrees c d.files) es
    renew_kept c now =
        let h = now_renewed c now in
        let was = has.images h.image h.was in
        let before = had h.image was.listed_fronts was.closed_fronts in
        ⊎_elim
        (λ same. each_map (λ e. agrees_then h.image c d.files e (same_kept h.image c (λ n ne. same n) e)) es before)
        (λ new. new_fronts es untouched h.image c new before)
        h.is

    -- and so have the files as they read
    pub renew_read : IsTrue d.is_observable → Each (Agrees d'.files d.files) es
    renew_read t = renew_kept d'.files (laws'.reads (subst IsTrue (sym change.is_observable) t))

  told_of : (c : Files) → Image d' c → IsTrue d.is_observable
  told_of c now = let h = now_renewed c now in laws.told h.image h.was

  pub renew_fronts : (c : Files) → Image d' c → Each (Agrees c d.files) next.segments
  renew_fronts = renew_kept next.segments safe lists

  pub renew_files : IsTrue d.is_observable → Each (Agrees d'.files d.files) next.segments
  renew_files = renew_read next.segments safe lists

  -- where each image has the new manifest, what opens so opens as one of them
  as_now : ((c : Files) → Image d' c → c file.Manifest ≡ Some bytes) → (c : Files) → IsTrue d.is_observable → Opens c o → OpensAs d' c
  as_now sure c t opens =
      let now = laws'.reads (subst IsTrue (sym change.is_observable) t) in
      let is = opens_as d'.files d.files bytes next o (sure d'.files now) reads (renew_fronts d'.files now) (read t) in
      (d'.files, now, λ p by. subst (Opens c) (opens_once d'.files o p is by) opens)

  pub renew_either : LeavesBeforeOrNow d d'
  renew_either = ⊎_elim (either_opens d d') then change.between
    where
      then : ((c : Files) → Image d' c → c file.Manifest ≡ Some bytes) → LeavesBeforeOrNow d d'
      then sure =
          leaves_weaker d d' (Renewed bytes (names_of gs) d) (OpensBeforeOrNow d d')
          (λ c h. (
          let i = renew_image c h in
          ⊎_elim
          (λ old. inl (listed_as d laws incarnation local_start closed active line flushed_end has c i.0 old.0 old.1))
          (λ new. inr (as_now sure c i.0 (opens_as c d.files bytes next o new.0 reads new.1 (read i.0))))
          i.1
          ))
          change.since

  pub renew_reopens : Reopens d'
  renew_reopens = ⊎_elim first then change.phase
    where
      first : ((c : Files) → Image d' c → Rewritten bytes d c) → Reopens d'
      first only =
          reopens_two d' d.files old_bytes bytes has.listed next has.opened o old_reads reads
          (λ c now. (
          let h = only c now in
          let was = has.images h.image h.was in
          let kept = λ (e : Extent). agrees_then h.image c d.files e (same_kept h.image c h.others e) in (
            ⊎_elim (λ same. inl (same ∙ was.manifest)) (λ new. inr new) h.manifest,
            each_map kept has.listed.segments was.listed_fronts,
            each_map kept next.segments (lists h.image was.listed_fronts was.closed_fronts),
          )
          ))
          (λ c now. (let h = only c now in let t = laws.told h.image h.was in (has.read t, read t)))

      then : ((c : Files) → Image d' c → c file.Manifest ≡ Some bytes) → Reopens d'
      then sure =
          reopens_two d' d.files bytes bytes next next o o reads reads
          (λ c now. (let f = renew_fronts c now in (inl (sure c now), f, f)))
          (λ c now. (let r = read (told_of c now) in (r, r)))

  pub renew_dry : fate ≡ Dry → DiskHasLog d' incarnation local_start closed active line flushed_end
  renew_dry is = has_same d laws incarnation local_start closed active line flushed_end has d' laws' change.is_observable (change.dry is) (change.dry_files is)

  pub renew_opens : fate ≡ Went → (c : Files) → Image d' c → Opens c o
  renew_opens went c now = opens_as c d.files bytes next o (change.durable went c now) reads (renew_fronts c now) (read (told_of c now))
