-- One segment more is cut to its length.
use Rattle.std.proofs.Common.{◌≡◌, ◌≢◌, ◌⊎◌, ℕ, ◌≤◌, ◌<◌, List, [], ◌∷◌, ◌++◌, length, take, Option, refl, sym, ◌∙◌, ap, subst, inl, inr, ⊎_elim, arith, IsTrue}
use Rattle.std.proofs.lemmas.List.{take-append-le, length-append, take-take, length-take}
use Rattle.tier_base.specs.declared.plain.FileName.{FileName}
use Rattle.tier_base.specs.declared.plain.FileName.TheVariants.{Manifest, Log}
use Rattle.disk_model.proofs.Names.{cases_name}
use Rattle.tier_base.specs.Device.{Fate, Went}
use Rattle.tier_base.specs.Told.{OnlyAt, bytes_in}
use Rattle.disk_model.specs.Content.{Content, Lawful, Files, Image, LeavesOnly, CutBack}
use Rattle.log_manifest.specs.declared.manifest.Extent.{Extent}
use Rattle.log_steps.specs.Fronts.{log_at, front, Each, Agrees, KeepsFront, Rising}
use Rattle.log_steps.specs.Rewrites.{AfterCut, Restores, KeepsFronts, AfterCuts, IsUnlisted, RestoresAll}
use Rattle.log_steps.proofs.Lists.{each_map, each_both, each_join}
use Rattle.log_steps.proofs.Moments.{leaves_weaker, leaves_then, started}

-- a rising list has its first base below the others
pub rising_above : (e : Extent) (es : List Extent) → Rising (e ∷ es) → Each (λ x. e.base < x.base) es
rising_above e [] h = tt
rising_above e (f ∷ es) h = (h.0, each_map (λ x lt. omega (arith, h.0, lt)) es (rising_above f es h.1))

pub rising_tail : (e : Extent) (es : List Extent) → Rising (e ∷ es) → Rising es
rising_tail e [] h = tt
rising_tail e (f ∷ es) h = h.1

pub rising_right : (done : List Extent) (e : Extent) (rest : List Extent) → Rising (done ++ e ∷ rest) → Each (λ x. e.base < x.base) rest
rising_right [] e rest h = rising_above e rest h
rising_right (d ∷ done) e rest h = rising_right done e rest (rising_tail d (done ++ e ∷ rest) h)

middle : (P : Extent → Type 0) (done : List Extent) (e : Extent) (rest : List Extent) → Each P (done ++ e ∷ rest) → P e
middle P [] e rest h = h.0
middle P (d ∷ done) e rest h = middle P done e rest h.1

pub rising_left : (done : List Extent) (e : Extent) (rest : List Extent) → Rising (done ++ e ∷ rest) → Each (λ x. x.base < e.base) done
rising_left [] e rest h = tt
rising_left (d ∷ done) e rest h = (middle (λ x. d.base < x.base) done e rest (rising_above d (done ++ e ∷ rest) h), rising_left done e rest (rising_tail d (done ++ e ∷ rest) h))

abbrev Fits : Extent → Extent → Type 0
Fits e x = x.base ≡ e.base → x.len ≤ e.len

all_fit : (done : List Extent) (e : Extent) (rest : List Extent) → Rising (done ++ e ∷ rest) → Each (Fits e) (done ++ e ∷ rest)
all_fit done e rest h =
    each_join (Fits e) done (e ∷ rest) (each_map (λ x lt same. absurd (omega (arith, lt, same))) done (rising_left done e rest h))
    (λ same. omega arith, each_map (λ x lt same. absurd (omega (arith, lt, same))) rest (rising_right done e rest h))

pub cut_agrees : (e x : Extent) (d c : Files) → x.base ≡ e.base → x.len ≤ e.len → CutBack e.len (d (Log x.base)) (c (Log x.base)) → x.len ≤ length (log_at d x) → Agrees c d x
cut_agrees e x d c base fits (inl is) long = record { long = subst (λ (o : Option (List ℕ)). x.len ≤ length (bytes_in o)) (sym is) long; same = ap (λ (o : Option (List ℕ)). take x.len (bytes_in o)) is }
cut_agrees e x d c base fits (inr more) long =
    let kept = take e.len (log_at d x) in
    let is : log_at c x ≡ kept ++ more.1.0 = ap bytes_in more.1.1 in
    let size : x.len ≤ length kept = grind (arith, length-take) in
    record {
      long = omega (arith, ap length is, length-append kept more.1.0, size);
      same = ap (λ (l : List ℕ). take x.len l) is ∙ take-append-le x.len kept more.1.0 size ∙ take-take x.len e.len (log_at d x) fits;
    }

cut_keeps : (e : Extent) (d c : Files) → OnlyAt (Log e.base) (CutBack e.len) d c → (x : Extent) → Fits e x → x.len ≤ length (log_at d x) → Agrees c d x
cut_keeps e d c only x fits long = elim (cases_name (Log x.base) (Log e.base)) [
  | inl same ↦ (let base : x.base ≡ e.base = cc in cut_agrees e x d c base (fits base) (subst (λ (n : FileName). CutBack e.len (d n) (c n)) (sym same) only.there) long)
  | inr other ↦ (let is = only.others (Log x.base) other in record { long = subst (λ (o : Option (List ℕ)). x.len ≤ length (bytes_in o)) (sym is) long; same = ap (λ (o : Option (List ℕ)). take x.len (bytes_in o)) is })
]

pub manifest_other : (b : ℕ) → Manifest ≢ Log b
manifest_other b e = cc

pub log_differs : (a b : ℕ) → a ≢ b → Log a ≢ Log b
log_differs a b ne e = ne cc

abbrev IsUnlisted_at : ℕ → List Extent → Type 0
IsUnlisted_at b es = IsUnlisted es b

log_apart : (a b : ℕ) → (a < b) ⊎ (b < a) → Log a ≢ Log b
log_apart a b lt e = let is : a ≡ b = cc in ⊎_elim (λ l. absurd (omega arith)) (λ l. absurd (omega arith)) lt

-- the same file is there
pub kept_same : (d c : Files) (e : Extent) → c (Log e.base) ≡ d (Log e.base) → KeepsFront d c e
kept_same d c e is long = record {
  long = subst (λ (o : Option (List ℕ)). e.len ≤ length (bytes_in o)) (sym is) long;
  same = ap (λ (o : Option (List ℕ)). take e.len (bytes_in o)) is;
}

-- it is kept of what has the same bytes
pub kept_read : (f g c : Files) (e : Extent) → log_at g e ≡ log_at f e → KeepsFront f c e → KeepsFront g c e
kept_read f g c e is kept long =
    let a = kept (subst (λ (l : List ℕ). e.len ≤ length l) is long) in
    record { long = a.long; same = a.same ∙ ap (take e.len) (sym is) }

pub then_kept : (a b c : Files) (x : Extent) → KeepsFront a b x → KeepsFront b c x → KeepsFront a c x
then_kept a b c x f g long = (let y = f long in let z = g y.long in record { long = z.long; same = z.same ∙ y.same })

-- fronts that are kept once and again
pub kept_twice : (es : List Extent) (a b c : Files) → KeepsFronts es a b → KeepsFronts es b c → KeepsFronts es a c
kept_twice es a b c h k = record {
  manifest = k.manifest ∙ h.manifest;
  fronts = each_both (λ x f g. then_kept a b c x f g) es h.fronts k.fronts;
}

module _ (es done : List Extent) (e : Extent) (rest : List Extent) (is : es ≡ done ++ e ∷ rest) (rising : Rising es) (d m d' : Content) (laws : Lawful m) (fate : Fate) (so_far : RestoresAll es done (e ∷ rest) d m) (step : Restores e fate m d') where
  rises : Rising (done ++ e ∷ rest)
  rises = subst Rising is rising

  cut_step : (x c : Files) → OnlyAt (Log e.base) (CutBack e.len) x c → KeepsFronts es x c
  cut_step x c only = record {
    manifest = only.others Manifest (manifest_other e.base);
    fronts = subst (λ (l : List Extent). Each (KeepsFront x c) l) (sym is) (each_map (cut_keeps e x c only) (done ++ e ∷ rest) (all_fit done e rest rises));
  }

  after_step : (c : Files) → AfterCut e m c → AfterCuts es d c
  after_step c h =
      let y = so_far.since.each h.0 (laws.earlier d.moment m.moment h.0 so_far.since.later h.1) in
      (y.0, y.1, kept_twice es y.0 h.0 c y.2 (cut_step h.0 c h.2))

  pub step_leaves : LeavesOnly d d' (AfterCuts es d)
  step_leaves = leaves_then d m d' (AfterCuts es d) so_far.since (leaves_weaker m d' (AfterCut e m) (AfterCuts es d) after_step step.since)

  other_log : IsTrue d.is_observable → (x : Extent) → (x.base < e.base) ⊎ (e.base < x.base) → log_at d'.files x ≡ log_at m.files x
  other_log t x apart = ap bytes_in (step.others (subst IsTrue (sym so_far.is_observable) t) (Log x.base) (log_apart x.base e.base apart))

  -- what was synced before is so still
  synced_before : Lawful d' → (c : Files) → Image d' c → Each (KeepsFront d'.files c) done
  synced_before laws' c now =
      let x = step.since.each c (laws'.earlier m.moment d'.moment c step.since.later now) in
      let t = subst IsTrue so_far.is_observable (laws.told x.0 x.1) in
      each_both
      (λ y lt kept. kept_read m.files d'.files c y (other_log t y (inl lt)) (then_kept m.files x.0 c y kept (kept_same x.0 c y (x.2.others (Log y.base) (log_apart y.base e.base (inl lt))))))
      done (rising_left done e rest rises) (so_far.synced x.0 x.1)

  pub step_done : Lawful d' → fate ≡ Went → RestoresAll es (done ++ e ∷ []) rest d d'
  step_done laws' went = record {
    is_observable = step.is_observable ∙ so_far.is_observable;
    since = step_leaves;
    kept = λ t n other. step.others (subst IsTrue (sym so_far.is_observable) t) n (other e.base) ∙ so_far.kept t n other;
    absent = λ t b other. step.others (subst IsTrue (sym so_far.is_observable) t) (Log b) (log_differs b e.base (middle (λ x. b ≢ x.base) done e rest (subst (IsUnlisted_at b) is other))) ∙ so_far.absent t b other;
    cut = λ t. each_join (λ x. log_at d'.files x ≡ front d.files x) done (e ∷ [])
        (each_both (λ x lt h. other_log t x (inl lt) ∙ h) done (rising_left done e rest rises) (so_far.cut t))
        (step.cut went (subst IsTrue (sym so_far.is_observable) t) ∙ ap (λ (l : List ℕ). take e.len l) (so_far.same t).0, tt);
    same = λ t. each_both (λ x lt h. other_log t x (inr lt) ∙ h) rest (rising_right done e rest rises) (so_far.same t).1;
    synced = λ c now. each_join (KeepsFront d'.files c) done (e ∷ []) (synced_before laws' c now) (step.synced went c now, tt);
  }

-- before the first
none_same : (f : Files) (es : List Extent) → Each (λ x. log_at f x ≡ log_at f x) es
none_same f [] = tt
none_same f (e ∷ es) = (refl, none_same f es)

none_kept : (c : Files) (es : List Extent) → Each (KeepsFront c c) es
none_kept c [] = tt
none_kept c (e ∷ es) = (λ long. record { long = long; same = refl }, none_kept c es)

pub none_done : (es : List Extent) (d : Content) → RestoresAll es [] es d d
none_done es d = record {
  is_observable = refl;
  since = started d (AfterCuts es d) (λ c now. (c, now, record { manifest = refl; fronts = none_kept c es }));
  kept = λ t n other. refl;
  absent = λ t b other. refl;
  cut = λ t. tt;
  same = λ t. none_same d.files es;
  synced = λ c now. tt;
}
