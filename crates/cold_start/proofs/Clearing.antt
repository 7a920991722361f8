-- Disks whose files are removed one disk after another.
use Rattle.std.proofs.Common.{◌≡◌, ◌∙◌, ◌⊎◌, inl, inr, ap, subst, refl, sym, ℕ, zero, suc, ◌+◌, ◌<◌, List, [], ◌∷◌, length, take, get_or, slice_get, slice_set, Option, Some, None, arith}
use Rattle.std.specs.Prelude.{IsTrue, IsSome}
use Rattle.tier_base.specs.Counts.{Rose}
use Rattle.tier_base.specs.Device.{Control, Lasts}
use Rattle.tier_base.proofs.Lasting.{lasts_same, lasts_then}
use Rattle.tier_base.specs.declared.plain.FileName.{FileName}
use Rattle.disk_model.specs.Call.{call_code}
use Rattle.tier_base.specs.Told.{In, NamesAllHeld}
use Rattle.disk_model.specs.Content.{Content, Files}
use Rattle.disk_model.proofs.Names.{cases_name}
use Rattle.partition_commands.specs.Fresh.{AreFreshDisks, DisksTell, ComeBack, OneFailed}
use Rattle.cold_start.specs.Opening.{IsGone, AreUnarmed, AllLast}

-- the files of these names are there no more, and each other one is as it was or isn't there
pub record GoneTo (front : List FileName) (old new : Files) : Type 0 where
  pub gone : (n : FileName) → In n front → new n ≡ None
  pub rest : (n : FileName) → (new n ≡ old n) ⊎ (new n ≡ None)

pub gone_none : (old : Files) → GoneTo [] old old
gone_none old = record { gone = λ n at. absurd at; rest = λ n. inl refl }

-- a name among one more
in_next : (n : FileName) (xs : List FileName) (i : ℕ) (d : FileName) → i < length xs → In n (take (suc i) xs) → (n ≡ get_or xs i d) ⊎ In n (take i xs)
in_next n [] i d lt at = absurd (omega arith)
in_next n (x ∷ xs) zero d lt (inl e) = inl e
in_next n (x ∷ xs) zero d lt (inr at) = absurd at
in_next n (x ∷ xs) (suc i) d lt (inl e) = inr (inl e)
in_next n (x ∷ xs) (suc i) d lt (inr at) = elim (in_next n xs i d (omega arith) at) [ inl e ↦ inl e | inr k ↦ inr (inr k) ]

pub gone_more : (names : List FileName) (i : ℕ) (d : FileName) (old mid new : Files) → i < length names → GoneTo (take i names) old mid → IsGone (get_or names i d) mid new → GoneTo (take (i + 1) names) old new
gone_more names i d old mid new lt h g =
    let up : suc i ≡ i + 1 = omega arith in
    subst (λ (k : ℕ). GoneTo (take k names) old new) up (record {
      gone = λ n at. elim (in_next n names i d lt at) [
        | inl e ↦ subst (λ (k : FileName). new k ≡ None) (sym e) g.gone
        | inr there ↦ elim (cases_name n (get_or names i d)) [
          | inl e ↦ subst (λ (k : FileName). new k ≡ None) (sym e) g.gone
          | inr other ↦ g.others n other ∙ h.gone n there
        ]
      ];
      rest = λ n. elim (cases_name n (get_or names i d)) [
        | inl e ↦ inr (subst (λ (k : FileName). new k ≡ None) (sym e) g.gone)
        | inr other ↦ elim (h.rest n) [ inl k ↦ inl (g.others n other ∙ k) | inr k ↦ inr (g.others n other ∙ k) ]
      ];
    })

-- no file is there once those of all names are gone
pub gone_all : (names : List FileName) (listed old new : Files) → NamesAllHeld listed names → ((n : FileName) → old n ≡ listed n) → GoneTo names old new → (n : FileName) → new n ≡ None
gone_all names listed old new are same h n = go (listed n) refl
  where
    go : (o : Option (List ℕ)) → listed n ≡ o → new n ≡ None
    go None is = elim (h.rest n) [ inl k ↦ k ∙ (same n ∙ is) | inr k ↦ k ]
    go (Some bytes) is = h.gone n ((are.are n).0 (subst (λ (o : Option (List ℕ)). IsSome o) (sym is) refl))

-- an item that was lent by its place
pub got_at : {A : Type 0} (xs : List A) (i : ℕ) (x : A) → i < length xs → x ≡ get_or xs i x → slice_get xs i ≡ Some x
got_at [] i x lt is = absurd (omega arith)
got_at (y ∷ ys) zero x lt is = ap Some (sym is)
got_at (y ∷ ys) (suc i) x lt is = got_at ys i x (omega arith) is

module _ {D : Type 0} (content : D → Content) (control : D → Control call_code) where
  -- a disk some calls later, which reports as it did
  pub record IsLater (old new : D) : Type 0 where
    pub lasts : Lasts (control old) (control new)
    pub is_observable : (content new).is_observable ≡ (content old).is_observable

  -- whose files are gone
  pub record IsCleared (old new : D) : Type 0 where
    pub later : IsLater old new
    pub empty : IsTrue (content old).is_observable → (n : FileName) → (content new).files n ≡ None

  -- those of the first so many are
  abbrev pub ClearedTo : ℕ → List D → List D → Type 0
  ClearedTo n [] [] = Unit {0}
  ClearedTo zero (d ∷ ds) (e ∷ es) = (e ≡ d) × ClearedTo zero ds es
  ClearedTo (suc n) (d ∷ ds) (e ∷ es) = IsCleared d e × ClearedTo n ds es
  ClearedTo n [] (e ∷ es) = ⊥
  ClearedTo n (d ∷ ds) [] = ⊥

  pub cleared_none : (ds : List D) → ClearedTo zero ds ds
  cleared_none [] = tt
  cleared_none (d ∷ ds) = (refl, cleared_none ds)

  cleared_next : (n : ℕ) (ds es : List D) (e f : D) → ClearedTo n ds es → slice_get es n ≡ Some e → IsCleared e f → ClearedTo (suc n) ds (slice_set es n f)
  cleared_next n [] [] e f c at h = absurd cc
  cleared_next zero (d ∷ ds) (x ∷ es) e f c at h =
      let one : x ≡ e = cc (at) in
      let same : e ≡ d = sym one ∙ c.0 in
      (subst (λ (k : D). IsCleared k f) same h, c.1)
  cleared_next (suc n) (d ∷ ds) (x ∷ es) e f c at h = (c.0, cleared_next n ds es e f c.1 at h)
  cleared_next zero [] (x ∷ es) e f c at h = absurd c
  cleared_next (suc n) [] (x ∷ es) e f c at h = absurd c
  cleared_next zero (d ∷ ds) [] e f c at h = absurd c
  cleared_next (suc n) (d ∷ ds) [] e f c at h = absurd c

  pub cleared_step : (n : ℕ) (ds es : List D) (e f : D) → ClearedTo n ds es → slice_get es n ≡ Some e → IsCleared e f → ClearedTo (n + 1) ds (slice_set es n f)
  cleared_step n ds es e f c at h =
      let up : suc n ≡ n + 1 = omega arith in
      subst (λ (k : ℕ). ClearedTo k ds (slice_set es n f)) up (cleared_next n ds es e f c at h)

  pub cleared_long : (n : ℕ) (ds es : List D) → ClearedTo n ds es → length es ≡ length ds
  cleared_long n [] [] c = refl
  cleared_long zero (d ∷ ds) (e ∷ es) c = ap suc (cleared_long zero ds es c.1)
  cleared_long (suc n) (d ∷ ds) (e ∷ es) c = ap suc (cleared_long n ds es c.1)
  cleared_long zero [] (e ∷ es) c = absurd c
  cleared_long (suc n) [] (e ∷ es) c = absurd c
  cleared_long zero (d ∷ ds) [] c = absurd c
  cleared_long (suc n) (d ∷ ds) [] c = absurd c

  later_same : (d e : D) → e ≡ d → IsLater d e
  later_same d e same = subst (λ (k : D). IsLater d k) (sym same) (record { lasts = lasts_same (control d); is_observable = refl })

  -- all are so, one is later, and the others last
  pub cleared_last : (n : ℕ) (ds es : List D) → ClearedTo n ds es → AllLast control ds es
  cleared_last n [] [] c = tt
  cleared_last zero (d ∷ ds) (e ∷ es) c = ((later_same d e c.0).lasts, cleared_last zero ds es c.1)
  cleared_last (suc n) (d ∷ ds) (e ∷ es) c = (c.0.later.lasts, cleared_last n ds es c.1)
  cleared_last zero [] (e ∷ es) c = absurd c
  cleared_last (suc n) [] (e ∷ es) c = absurd c
  cleared_last zero (d ∷ ds) [] c = absurd c
  cleared_last (suc n) (d ∷ ds) [] c = absurd c

  pub cleared_tell : (n : ℕ) (ds es : List D) → ClearedTo n ds es → DisksTell content ds → DisksTell content es
  cleared_tell n [] [] c tell = tt
  cleared_tell zero (d ∷ ds) (e ∷ es) c tell = (subst IsTrue (sym (later_same d e c.0).is_observable) tell.0, cleared_tell zero ds es c.1 tell.1)
  cleared_tell (suc n) (d ∷ ds) (e ∷ es) c tell = (subst IsTrue (sym c.0.later.is_observable) tell.0, cleared_tell n ds es c.1 tell.1)
  cleared_tell zero [] (e ∷ es) c tell = absurd c
  cleared_tell (suc n) [] (e ∷ es) c tell = absurd c
  cleared_tell zero (d ∷ ds) [] c tell = absurd c
  cleared_tell (suc n) (d ∷ ds) [] c tell = absurd c

  -- disks that have no files, and whose plans aren't in force
  pub cleared_fresh : (ds es : List D) → ClearedTo (length ds) ds es → AreUnarmed control ds → AreFreshDisks content control es
  cleared_fresh [] [] c u = tt
  cleared_fresh (d ∷ ds) (e ∷ es) c u = (
    record {
      empty = λ told. c.0.empty (subst IsTrue c.0.later.is_observable told);
      unarmed = c.0.later.lasts.armed ∙ u.0.unarmed;
      unmade = λ kind. c.0.later.lasts.unmade u.0.unarmed kind ∙ u.0.unmade kind;
    },
    cleared_fresh ds es c.1 u.1,
  )
  cleared_fresh [] (e ∷ es) c u = absurd c
  cleared_fresh (d ∷ ds) [] c u = absurd c

  -- a call of a further disk fails
  failing_next : (n : ℕ) (ds es : List D) (e f : D) → ClearedTo n ds es → slice_get es n ≡ Some e → Rose (control e).faults (control f).faults → OneFailed control ds (slice_set es n f)
  failing_next n [] [] e f c at h = absurd cc
  failing_next zero (d ∷ ds) (x ∷ es) e f c at h =
      let one : x ≡ e = cc (at) in
      let same : e ≡ d = sym one ∙ c.0 in
      inl (subst (λ (k : D). Rose (control k).faults (control f).faults) same h)
  failing_next (suc n) (d ∷ ds) (x ∷ es) e f c at h = inr (failing_next n ds es e f c.1 at h)
  failing_next zero [] (x ∷ es) e f c at h = absurd c
  failing_next (suc n) [] (x ∷ es) e f c at h = absurd c
  failing_next zero (d ∷ ds) [] e f c at h = absurd c
  failing_next (suc n) (d ∷ ds) [] e f c at h = absurd c

  pub failing_step : (n : ℕ) (ds es : List D) (e f : D) → ClearedTo n ds es → slice_get es n ≡ Some e → Rose (control e).faults (control f).faults → OneFailed control ds (slice_set es n f)
  failing_step = failing_next

  lasting_next : (n : ℕ) (ds es : List D) (e f : D) → AllLast control ds es → slice_get es n ≡ Some e → Lasts (control e) (control f) → AllLast control ds (slice_set es n f)
  lasting_next n [] [] e f c at h = absurd cc
  lasting_next zero (d ∷ ds) (x ∷ es) e f c at h =
      let one : x ≡ e = cc (at) in
      (lasts_then (control d) (control e) (control f) (subst (λ (k : D). Lasts (control d) (control k)) one c.0) h, c.1)
  lasting_next (suc n) (d ∷ ds) (x ∷ es) e f c at h = (c.0, lasting_next n ds es e f c.1 at h)
  lasting_next n [] (x ∷ es) e f c at h = absurd c
  lasting_next n (d ∷ ds) [] e f c at h = absurd c

  -- a further disk some calls later
  pub lasting_step : (n : ℕ) (ds es : List D) (e f : D) → AllLast control ds es → slice_get es n ≡ Some e → Lasts (control e) (control f) → AllLast control ds (slice_set es n f)
  lasting_step = lasting_next

  pub telling_step : (n : ℕ) (es : List D) (e f : D) → DisksTell content es → slice_get es n ≡ Some e → (content f).is_observable ≡ (content e).is_observable → DisksTell content (slice_set es n f)
  telling_step n [] e f tell at same = absurd cc
  telling_step zero (x ∷ es) e f tell at same =
      let one : x ≡ e = cc (at) in
      (subst IsTrue (sym same) (subst (λ (k : D). IsTrue (content k).is_observable) one tell.0), tell.1)
  telling_step (suc n) (x ∷ es) e f tell at same = (tell.0, telling_step n es e f tell.1 at same)

module _ {D : Type 0} (control : D → Control call_code) where
  pub last_same : (ds : List D) → AllLast control ds ds
  last_same [] = tt
  last_same (d ∷ ds) = (lasts_same (control d), last_same ds)

  pub last_long : (ds es : List D) → AllLast control ds es → length es ≡ length ds
  last_long [] [] a = refl
  last_long (d ∷ ds) (e ∷ es) a = ap suc (last_long ds es a.1)
  last_long [] (e ∷ es) a = absurd a
  last_long (d ∷ ds) [] a = absurd a

  -- disks that came back from a refusal after some calls
  pub last_back : (ds es fs : List D) → AllLast control ds es → ComeBack control es fs → AllLast control ds fs
  last_back [] [] [] a b = tt
  last_back (d ∷ ds) (e ∷ es) (f ∷ fs) a b = (lasts_then (control d) (control e) (control f) a.0 b.0, last_back ds es fs a.1 b.2)
  last_back [] (e ∷ es) fs a b = absurd a
  last_back (d ∷ ds) [] fs a b = absurd a
  last_back [] [] (f ∷ fs) a b = absurd b
  last_back (d ∷ ds) (e ∷ es) [] a b = absurd b

  -- one that failed since failed all the more since before
  pub failed_after : (ds es fs : List D) → AllLast control ds es → OneFailed control es fs → OneFailed control ds fs
  failed_after [] [] fs a one = absurd one
  failed_after (d ∷ ds) (e ∷ es) [] a one = absurd one
  failed_after (d ∷ ds) (e ∷ es) (f ∷ fs) a (inl rose) = let more = a.0.never_falls in inl (omega (arith, more, rose))
  failed_after (d ∷ ds) (e ∷ es) (f ∷ fs) a (inr rest) = inr (failed_after ds es fs a.1 rest)
  failed_after [] (e ∷ es) fs a one = absurd a
  failed_after (d ∷ ds) [] fs a one = absurd a
