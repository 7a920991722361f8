-- What an opening leaves, step by step.
use Rattle.std.proofs.Common.{◌≡◌, ◌⊎◌, ℕ, ◌≤◌, arith, Bool, List, length, take, Option, Some, Ok, sym, ◌∙◌, ap, subst, inl, inr, ⊎_elim, IsTrue}
use Rattle.std.proofs.lemmas.List.{length-take, take-take}
use Rattle.tier_base.specs.declared.plain.FileName.{FileName}
use Rattle.tier_base.specs.declared.plain.FileName.TheVariants.{Log}
use Rattle.tier_base.specs.declared.plain.FileName.TheVariants as file
use Rattle.tier_base.specs.Device.{Fate, Went}
use Rattle.tier_base.specs.Told.{bytes_in, replaced}
use Rattle.disk_model.specs.Content.{Content, Lawful, Files, Image, Keeps, Changes, LeavesOnly, Swapped}
use Rattle.log_manifest.specs.declared.manifest.Extent.{Extent}
use Rattle.log_manifest.specs.declared.manifest.Manifest.{Manifest}
use Rattle.log_manifest.specs.Reading.{manifest_in}
use Rattle.log_steps.specs.Fronts.{log_at, front, Each, Agrees}
use Rattle.log_steps.specs.Opens.{Opened, IsOpenedBy, Opens}
use Rattle.log_steps.specs.Reopens.{Reopens, raised, Opening}
use Rattle.log_steps.specs.Stands.{ImagesHold}
use Rattle.log_steps.specs.Rewrites.{Underway, Rewriting, Rewritten, Rewrites}
use Rattle.log_steps.proofs.Lists.{each_map, each_both}
use Rattle.log_steps.proofs.Moments.{started, goes_on, leaves_weaker, leaves_then}
use Rattle.log_steps.proofs.Rewritten.{log_no_manifest}
use Rattle.log_steps.proofs.Standing.{agrees_then, agrees_read, both_agree, same_kept}
use Rattle.disk_model.proofs.Names.{cases_name}
use Rattle.log_steps.proofs.Reading.{opens_as, opens_like, says_is, reopens_two}

-- a read before
pub reopens_kept : (d m : Content) → Keeps d m → Reopens d → Reopens m
reopens_kept d m k r = record {
  opens = λ c left. r.opens c (k.images c left);
  fronts = λ c x said left left' says. r.fronts c x said (k.images c left) (k.images x left') says;
}

pub opening_kept : (d m : Content) → Keeps d m → (c : Files) → Opening m c → Opening d c
opening_kept d m k c (inl like) = inl (like.0, k.images like.0 like.1, like.2)
opening_kept d m k c (inr read) = inr (read.0, opens_like d.files m.files read.0 (λ n. sym (k.files n)) read.1, read.2)

pub still_opens : (d : Content) → Reopens d → (c : Files) → Image d c → Opening d c
still_opens d r c left = let o = r.opens c left in inl (c, left, (o.0, o.1, o.1))

pub studied_leaves : (d m : Content) → Reopens d → Keeps d m → LeavesOnly d m (Opening d)
studied_leaves d m r k = goes_on d d m (Opening d) (started d (Opening d) (still_opens d r)) k.time (λ c left. still_opens d r c (k.images c left))

pub leaves_all : (d m d' : Content) → Reopens d → Keeps d m → LeavesOnly m d' (Opening m) → LeavesOnly d d' (Opening d)
leaves_all d m d' r k h = leaves_then d m d' (Opening d) (studied_leaves d m r k) (leaves_weaker m d' (Opening m) (Opening d) (opening_kept d m k) h)

-- a front that is whole
front_size : (n : ℕ) (l k : List ℕ) → k ≡ take n l → n ≤ length k → length k ≡ n
front_size n l k is long = let size = ap length is in grind (arith, length-take, size, long)

-- what it is the front of is as long
front_long : (n : ℕ) (l k : List ℕ) → k ≡ take n l → n ≤ length k → n ≤ length l
front_long n l k is long = let size = ap length is in grind (arith, length-take, size, long)

-- `now` is written first and lists `m.segments`; `next` lists the same. What reads opens as `o`, by `now` as `p`, by `next` as `q`
module _ (d : Content) (laws : Lawful d) (reopens : Reopens d) (now next : List ℕ) (m n : Manifest) (p q o : Opened)
    (reading : manifest_in now ≡ Ok m) (reading' : manifest_in next ≡ Ok n) (same_segments : n.segments ≡ m.segments)
    (opens : IsTrue d.is_observable → Opens d.files o)
    (reads : IsTrue d.is_observable → IsOpenedBy m d.files p) (reads' : IsTrue d.is_observable → IsOpenedBy n d.files q)
    (first_is : (p ≡ o) ⊎ (p ≡ raised o)) (second_is : q ≡ raised o)
    (agree : IsTrue d.is_observable → (c : Files) → Image d c → Each (Agrees c d.files) m.segments) where
  abbrev pub es : List Extent
  es = m.segments

  pub agree_under : (c : Files) → Underway now es d c → Each (Agrees c d.files) es
  agree_under c u = each_both (λ e. agrees_then u.image c d.files e) es u.fronts (agree (laws.told u.image u.was) u.image u.was)

  as_read : IsTrue d.is_observable → (c : Files) → c file.Manifest ≡ Some now → Each (Agrees c d.files) es → Opening d c
  as_read t c is a =
      let h = opens_as c d.files now m p is reading a (reads t) in
      inr (o, opens t, ⊎_elim (λ e. inl (subst (Opens c) e h)) (λ e. inr (subst (Opens c) e h)) first_is)

  as_raised : IsTrue d.is_observable → (c : Files) → c file.Manifest ≡ Some next → Each (Agrees c d.files) es → Opening d c
  as_raised t c is a =
      let h = opens_as c d.files next n q is reading' (subst (Each (Agrees c d.files)) (sym same_segments) a) (reads' t) in
      inr (o, opens t, inr (subst (Opens c) second_is h))

  rewriting : (c : Files) → Rewriting now es d c → Opening d c
  rewriting c (inl old) =
      let h = reopens.opens old.image old.was in
      inl (old.image, old.was, (h.0, h.1, opens_like c old.image h.0 old.same h.1))
  rewriting c (inr u) = as_read (laws.told u.image u.was) c u.manifest (agree_under c u)

  module _ (names : List FileName) (fate : Fate) (d1 : Content) (laws1 : Lawful d1) (rewrites : Rewrites now es names fate d d1) where
    pub rewrite_leaves : LeavesOnly d d1 (Opening d)
    rewrite_leaves = leaves_weaker d d1 (Rewriting now es d) (Opening d) rewriting rewrites.since

    -- no file was cut
    rewritten_reopens : ((c : Files) → Image d1 c → Rewritten now d c) → Reopens d1
    rewritten_reopens image = record {
      opens = λ c left. (
          let r = image c left in
          let t = laws.told r.image r.was in
          let like = λ (e : Extent). same_kept r.image c r.others e in
          ⊎_elim
          (λ is. old_opens c r is)
          (λ is. (p, opens_as c d.files now m p is reading (each_map (λ e. agrees_then r.image c d.files e (like e)) es (agree t r.image r.was)) (reads t)))
          r.manifest
          );
      fronts = λ c x said left left' says. (
          let rc = image c left in
          let rx = image x left' in
          let move = λ (e : Extent) (h : Agrees rc.image rx.image e). agrees_read c rx.image x e (ap (λ (y : Option (List ℕ)). take e.len (bytes_in y)) (rx.others (Log e.base) (log_no_manifest e.base))) (agrees_then rc.image c rx.image e (same_kept rc.image c rc.others e) h) in
          let t = laws.told rc.image rc.was in
          ⊎_elim
          (λ is. each_map move said.segments (reopens.fronts rc.image rx.image said rc.was rx.was (record { bytes = says.bytes; there = sym is ∙ says.there; reading = says.reading })))
          (λ is. subst (λ (s : Manifest). Each (Agrees c x) s.segments) (says_is x now m said is reading says) (each_both (λ e h k. move e (both_agree rc.image rx.image d.files e h k)) es (agree t rc.image rc.was) (agree t rx.image rx.was)))
          rx.manifest
          );
    }
      where
        all_same : (c : Files) (r : Rewritten now d c) → c file.Manifest ≡ r.image file.Manifest → (k : FileName) → c k ≡ r.image k
        all_same c r is k = elim (cases_name k file.Manifest) [
          | inl e ↦ subst (λ (j : FileName). c j ≡ r.image j) (sym e) is
          | inr ne ↦ r.others k ne
        ]

        old_opens : (c : Files) (r : Rewritten now d c) → c file.Manifest ≡ r.image file.Manifest → (o : Opened) × Opens c o
        old_opens c r is = let h = reopens.opens r.image r.was in (h.0, opens_like c r.image h.0 (all_same c r is) h.1)

    underway_reopens : ((c : Files) → Image d1 c → Underway now es d c) → Reopens d1
    underway_reopens image =
        reopens_two d1 d.files now now m m p p reading reading
        (λ c left. (let u = image c left in let a = agree_under c u in (inl u.manifest, a, a)))
        (λ c left. (let u = image c left in let r = reads (laws.told u.image u.was) in (r, r)))

    pub rewrite_reopens : Reopens d1
    rewrite_reopens = ⊎_elim rewritten_reopens underway_reopens rewrites.phase

    -- then what is is read, and the next manifest is written
    module _ (went : fate ≡ Went) (d2 : Content) (k : Keeps d1 d2) where
      under2 : (c : Files) → Image d2 c → Underway now es d c
      under2 c left = rewrites.under went c (k.images c left)

      pub read_leaves : LeavesOnly d d2 (Opening d)
      read_leaves = goes_on d d1 d2 (Opening d) rewrite_leaves k.time (λ c left. rewriting c (inr (under2 c left)))

      module _ (M : Bool → Type 0) (d3 : Content) (laws3 : Lawful d3) (change : Changes file.Manifest (replaced next) (Swapped next) M d2 d3) where
        told_before : IsTrue d3.is_observable → IsTrue d.is_observable
        told_before t = subst IsTrue (change.is_observable ∙ k.is_observable ∙ rewrites.is_observable) t

        two : (c : Files) → Image d3 c → ((c file.Manifest ≡ Some now) ⊎ (c file.Manifest ≡ Some next)) × Each (Agrees c d.files) es
        two c left =
            let x = change.images c left in
            let u = under2 x.0 x.1 in (
              ⊎_elim (λ is. inl (is ∙ u.manifest)) (λ is. inr is) x.2.there,
              each_map (λ e. agrees_then x.0 c d.files e (same_kept x.0 c x.2.others e)) es (agree_under x.0 u),
            )

        pub next_leaves : LeavesOnly d d3 (Opening d)
        next_leaves =
            goes_on d d2 d3 (Opening d) read_leaves change.time
            (λ c left. (let w = two c left in let t = told_before (laws3.told c left) in ⊎_elim (λ is. as_read t c is w.1) (λ is. as_raised t c is w.1) w.0))

        pub next_reopens : Reopens d3
        next_reopens =
            reopens_two d3 d.files now next m n p q reading reading'
            (λ c left. (let w = two c left in (w.0, w.1, subst (Each (Agrees c d.files)) (sym same_segments) w.1)))
            (λ c left. (let t = told_before (laws3.told c left) in (reads t, reads' t)))

-- where each listed file was read whole, whatever images there were before
module _ (d d1 d2 d3 : Content) (laws3 : Lawful d3) (now next : List ℕ) (es : List Extent) (names : List FileName)
    (fate : Fate) (went : fate ≡ Went) (rewrites : Rewrites now es names fate d d1) (k : Keeps d1 d2)
    (M : Bool → Type 0) (change : Changes file.Manifest (replaced next) (Swapped next) M d2 d3)
    (whole : IsTrue d1.is_observable → Each (λ e. e.len ≤ length (log_at d1.files e)) es) where
  told1 : IsTrue d.is_observable → IsTrue d1.is_observable
  told1 t = subst IsTrue (sym rewrites.is_observable) t

  told_first : IsTrue d3.is_observable → IsTrue d.is_observable
  told_first t = subst IsTrue (change.is_observable ∙ k.is_observable ∙ rewrites.is_observable) t

  -- the log's files after it
  pub next_files : IsTrue d.is_observable → (b : ℕ) → d3.files (Log b) ≡ d1.files (Log b)
  next_files t b =
      let t2 = subst IsTrue (sym (k.is_observable ∙ rewrites.is_observable)) t in
      (change.files t2).2.others (Log b) (log_no_manifest b) ∙ k.files (Log b)

  -- a listed file is the front of what it was
  next_logs : IsTrue d.is_observable → Each (λ e. log_at d3.files e ≡ front d.files e) es
  next_logs t = each_map (λ e is. ap bytes_in (next_files t e.base) ∙ is) es (rewrites.files went t)

  next_whole : IsTrue d.is_observable → Each (λ e. e.len ≤ length (log_at d3.files e)) es
  next_whole t = each_map (λ e long. subst (λ (o : Option (List ℕ)). e.len ≤ length (bytes_in o)) (sym (next_files t e.base)) long) es (whole (told1 t))

  -- each file has its listed length
  pub next_sizes : IsTrue d.is_observable → Each (λ e. length (log_at d3.files e) ≡ e.len) es
  next_sizes t = each_both (λ e is long. front_size e.len (log_at d.files e) (log_at d3.files e) is long) es (next_logs t) (next_whole t)

  -- what was read before has the fronts that read now
  pub next_was : IsTrue d.is_observable → Each (Agrees d.files d3.files) es
  next_was t =
      each_both
      (λ e is long. record {
        long = front_long e.len (log_at d.files e) (log_at d3.files e) is long;
        same = sym (ap (take e.len) is ∙ take-take e.len e.len (log_at d.files e) (omega arith));
      })
      es (next_logs t) (next_whole t)

  -- and so has each image
  next_agree : (c : Files) → Image d3 c → Each (Agrees c d3.files) es
  next_agree c left =
      let x = change.images c left in
      let t = told_first (laws3.told c left) in
      each_both
      (λ e kept long. agrees_read c d1.files d3.files e (ap (λ (o : Option (List ℕ)). take e.len (bytes_in o)) (next_files t e.base)) (agrees_then x.0 c d1.files e (same_kept x.0 c x.2.others e) (kept long)))
      es (rewrites.synced went x.0 (k.images x.0 x.1)) (whole (told1 t))

  pub next_stands : ((c : Files) → Image d3 c → c file.Manifest ≡ Some next) → (closed : List Extent) → ((c : Files) → Each (Agrees c d3.files) es → Each (Agrees c d3.files) closed) → ImagesHold d3 next es closed
  next_stands sure closed part c left =
      let a = next_agree c left in
      record { manifest = sure c left; listed_fronts = a; closed_fronts = part c a }
