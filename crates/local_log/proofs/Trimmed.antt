-- Files of a log are removed, and one is cut.
use Rattle.std.proofs.Common.{◌≡◌, ◌⊎◌, ℕ, Bool, true, false, cond, List, [], ◌∷◌, ◌++◌, Option, None, refl, sym, ◌∙◌, ap, subst, inl, inr, ⊎_elim, IsTrue, Result, Ok, Err, IsErr}
use Rattle.tier_base.specs.declared.plain.FileName.{FileName}
use Rattle.tier_base.specs.declared.plain.FileName.TheVariants.{Log}
use Rattle.tier_base.specs.declared.fault.Failed.{Failed}
use Rattle.tier_base.specs.Device.{Fate, Went, failing}
use Rattle.disk_model.proofs.Names.{cases_name}
use Rattle.tier_base.specs.Told.{OnlyAt, In, removed}
use Rattle.disk_model.specs.Content.{Content, Lawful, Files, Image, Changes, Gone, CutBack, cut_to}
use Rattle.log_steps.proofs.Moments.{started, goes_on, leaves_weaker, leaves_then}
use Rattle.local_log.specs.Cutting.{Without, RemovesAll, Trimmed, Trims}

pub failed_not_went : {T : Type 0} (r : Result T Failed) → IsErr r → failing r ≡ Went → ⊥
failed_not_went (Ok x) err went = cc
failed_not_went (Err e) err went = cc

in_front : (n : FileName) (xs ys : List FileName) → In n xs → In n (xs ++ ys)
in_front n [] ys h = absurd h
in_front n (x ∷ xs) ys (inl is) = inl is
in_front n (x ∷ xs) ys (inr h) = inr (in_front n xs ys h)

in_back : (n : FileName) (xs ys : List FileName) → In n ys → In n (xs ++ ys)
in_back n [] ys h = h
in_back n (x ∷ xs) ys h = inr (in_back n xs ys h)

in_parts : (n : FileName) (xs ys : List FileName) → In n (xs ++ ys) → In n xs ⊎ In n ys
in_parts n [] ys h = inr h
in_parts n (x ∷ xs) ys (inl is) = inl (inl is)
in_parts n (x ∷ xs) ys (inr h) = ⊎_elim (λ a. inl (inr a)) (λ b. inr b) (in_parts n xs ys h)

pub without_none : (names : List FileName) (c : Files) → Without names c c
without_none names c n = inl refl

pub without_then : (xs ys : List FileName) (a b c : Files) → Without xs a b → Without ys b c → Without (ys ++ xs) a c
without_then xs ys a b c h k n =
    ⊎_elim
    (λ same. ⊎_elim (λ was. inl (same ∙ was)) (λ none. inr (in_back n ys xs none.0, same ∙ none.1)) (h n))
    (λ none. inr (in_front n ys xs none.0, none.1))
    (k n)

-- nothing to remove
pub removes_none : (d : Content) → RemovesAll [] Went d d
removes_none d = record {
  is_observable = refl;
  since = started d (λ c. (x : Files) × Image d x × Without [] x c) (λ c now. (c, now, without_none [] c));
  files = λ t. without_none [] d.files;
  gone = λ went t n named. absurd named;
}

-- some files and then others
module _ (xs ys : List FileName) (fate : Fate) (d m d' : Content) (laws : Lawful m) (so_far : RemovesAll xs Went d m) (step : RemovesAll ys fate m d') where
  told : IsTrue d.is_observable → IsTrue m.is_observable
  told t = subst IsTrue (sym so_far.is_observable) t

  abbrev P : Files → Type 0
  P c = (x : Files) × Image d x × Without (ys ++ xs) x c

  was_before : (x c : Files) → Image m x → Without ys x c → P c
  was_before x c now k =
      let y = so_far.since.each x (laws.earlier d.moment m.moment x so_far.since.later now) in
      (y.0, y.1, without_then xs ys y.0 x c y.2 k)

  pub removes_then : RemovesAll (ys ++ xs) fate d d'
  removes_then = record {
    is_observable = step.is_observable ∙ so_far.is_observable;
    since = leaves_then d m d' P
        (leaves_weaker d m _ P (λ c h. (h.0, h.1, without_then xs ys h.0 c c h.2 (without_none ys c))) so_far.since)
        (leaves_weaker m d' _ P (λ c h. was_before h.0 c h.1 h.2) step.since);
    files = λ t. without_then xs ys d.files m.files d'.files (so_far.files t) (step.files (told t));
    gone = λ went t n named. ⊎_elim
        (λ new. step.gone went (told t) n new)
        (λ old. ⊎_elim (λ same. same ∙ so_far.gone refl t n old) (λ none. none.1) (step.files (told t) n))
        (in_parts n ys xs named);
  }

-- one file
module _ (name : FileName) (fate : Fate) (d d' : Content) (M : Bool → Type 0) (change : Changes name removed Gone M d d') (done : fate ≡ Went → (b : Bool) → M b → IsTrue b) where
  image_of : (c : Files) → Image d' c → (x : Files) × Image d x × Without (name ∷ []) x c
  image_of c now =
      let x = change.images c now in (
        x.0,
        x.1,
        λ n. elim (cases_name n name) [
          | inl is ↦ ⊎_elim (λ same. inl (subst (λ (k : FileName). c k ≡ x.0 k) (sym is) same)) (λ none. inr (inl is, subst (λ (k : FileName). c k ≡ None) (sym is) none)) x.2.there
          | inr ne ↦ inl (x.2.others n ne)
        ],
      )

  read_of : (b : Bool) → OnlyAt name (λ before after. after ≡ cond b (removed before) before) d.files d'.files → Without (name ∷ []) d.files d'.files
  read_of true only n = elim (cases_name n name) [
    | inl is ↦ inr (inl is, subst (λ (k : FileName). d'.files k ≡ None) (sym is) only.there)
    | inr ne ↦ inl (only.others n ne)
  ]
  read_of false only n = elim (cases_name n name) [
    | inl is ↦ inl (subst (λ (k : FileName). d'.files k ≡ d.files k) (sym is) only.there)
    | inr ne ↦ inl (only.others n ne)
  ]

  gone_at : fate ≡ Went → IsTrue d.is_observable → (n : FileName) → In n (name ∷ []) → d'.files n ≡ None
  gone_at went t n (inl is) =
      let read = change.files t in
      subst (λ (k : FileName). d'.files k ≡ None) (sym is) (read.2.there ∙ ap (λ (b : Bool). cond b None (d.files name)) (done went read.0 read.1))
  gone_at went t n (inr none) = absurd none

  pub one_removed : RemovesAll (name ∷ []) fate d d'
  one_removed = record {
    is_observable = change.is_observable;
    since = goes_on d d d' _ (started d (λ c. (x : Files) × Image d x × Without (name ∷ []) x c) (λ c now. (c, now, without_none (name ∷ []) c))) change.time image_of;
    files = λ t. (let read = change.files t in read_of read.0 read.2);
    gone = gone_at;
  }

-- then one is cut
module _ (names : List FileName) (base len : ℕ) (apart : In (Log base) names → ⊥) where
  trimmed_by : (d c : Files) → Without names d c → Trimmed names base len d c
  trimmed_by d c h = record {
    last = inl (⊎_elim (λ same. same) (λ none. absurd (apart none.0)) (h (Log base)));
    others = λ n ne. h n;
  }

  pub trims_none : (fate other : Fate) (d m : Content) → (other ≡ Went → ⊥) → RemovesAll names fate d m → Trims names base len other d m
  trims_none fate other d m not h = record {
    is_observable = h.is_observable;
    since = leaves_weaker d m _ _ (λ c k. (k.0, k.1, trimmed_by k.0 c k.2)) h.since;
    others = λ t n ne. h.files t n;
    gone = λ went. absurd (not went);
    cut = λ went. absurd (not went);
  }

  module _ (fate : Fate) (d m d' : Content) (laws : Lawful m) (so_far : RemovesAll names Went d m) (M : Bool → Type 0) (change : Changes (Log base) (cut_to len) (CutBack len) M m d') (done : fate ≡ Went → (b : Bool) → M b → IsTrue b) where
    told_m : IsTrue d.is_observable → IsTrue m.is_observable
    told_m t = subst IsTrue (sym so_far.is_observable) t

    cut_image : (c : Files) → Image d' c → (x : Files) × Image d x × Trimmed names base len x c
    cut_image c now =
        let x = change.images c now in
        let y = so_far.since.each x.0 (laws.earlier d.moment m.moment x.0 so_far.since.later x.1) in
        let same : x.0 (Log base) ≡ y.0 (Log base) = ⊎_elim (λ s. s) (λ none. absurd (apart none.0)) (y.2 (Log base)) in (
          y.0,
          y.1,
          record {
            last = subst (λ (o : Option (List ℕ)). CutBack len o (c (Log base))) same x.2.there;
            others = λ n ne. ⊎_elim (λ s. inl (x.2.others n ne ∙ s)) (λ none. inr (none.0, x.2.others n ne ∙ none.1)) (y.2 n);
          },
        )

    pub trims : Trims names base len fate d d'
    trims = record {
      is_observable = change.is_observable ∙ so_far.is_observable;
      since = goes_on d m d' _ (leaves_weaker d m _ _ (λ c k. (k.0, k.1, trimmed_by k.0 c k.2)) so_far.since) change.time cut_image;
      others = λ t n ne. (
          let read = change.files (told_m t) in
          ⊎_elim (λ s. inl (read.2.others n ne ∙ s)) (λ none. inr (none.0, read.2.others n ne ∙ none.1)) (so_far.files t n)
          );
      gone = λ went t n named. elim (cases_name n (Log base)) [
        | inl is ↦ absurd (apart (subst (λ (k : FileName). In k names) is named))
        | inr ne ↦ (let read = change.files (told_m t) in read.2.others n ne ∙ so_far.gone refl t n named)
      ];
      cut = λ went t. (
          let read = change.files (told_m t) in
          let same : m.files (Log base) ≡ d.files (Log base) = ⊎_elim (λ s. s) (λ none. absurd (apart none.0)) (so_far.files t (Log base)) in
          read.2.there ∙ ap (λ (b : Bool). cond b (cut_to len (m.files (Log base))) (m.files (Log base))) (done went read.0 read.1) ∙ ap (cut_to len) same
          );
    }

-- removals that failed, reported of more files
pub removes_wider : (front names : List FileName) (fate other : Fate) (d d' : Content) → (other ≡ Went → ⊥) → RemovesAll names fate d d' → RemovesAll (front ++ names) other d d'
removes_wider front names fate other d d' not h = record {
  is_observable = h.is_observable;
  since = leaves_weaker d d' _ _ (λ c k. (k.0, k.1, without_wider k.0 c k.2)) h.since;
  files = λ t. without_wider d.files d'.files (h.files t);
  gone = λ went. absurd (not went);
}
  where
    without_wider : (a c : Files) → Without names a c → Without (front ++ names) a c
    without_wider a c k n = ⊎_elim (λ same. inl same) (λ none. inr (in_back n front names none.0, none.1)) (k n)
