-- Log files that aren't listed are removed.
use Rattle.std.proofs.Common.{◌≡◌, ◌≢◌, ◌⊎◌, ℕ, Bool, cond, List, [], ◌∷◌, ◌++◌, Option, None, refl, sym, ◌∙◌, ap, subst, inl, inr, ⊎_elim, IsTrue}
use Rattle.tier_base.specs.declared.plain.FileName.{FileName}
use Rattle.tier_base.specs.declared.plain.FileName.TheVariants.{Manifest, Log, Notes, Gate, Registry}
use Rattle.disk_model.proofs.Names.{cases_name}
use Rattle.tier_base.specs.Told.{OnlyAt, In, removed, bytes_in}
use Rattle.disk_model.specs.Content.{Content, Lawful, Files, Changes, LeavesOnly, Gone}
use Rattle.log_manifest.specs.declared.manifest.Extent.{Extent}
use Rattle.log_steps.specs.Fronts.{Each}
use Rattle.log_steps.specs.Rewrites.{KeepsFronts, AfterCuts, IsUnlisted, IsOther, RemovesOne, Removes}
use Rattle.log_steps.proofs.Lists.{each_map, each_both, each_all, each_from}
use Rattle.log_steps.proofs.Moments.{started, goes_on, leaves_weaker, leaves_then}
use Rattle.log_steps.proofs.Restored.{kept_same, kept_twice, manifest_other, log_differs}

pub none_kept : (es : List Extent) (c : Files) → KeepsFronts es c c
none_kept es c = record { manifest = refl; fronts = each_all (λ e. kept_same c c e refl) es }

-- what isn't listed is another name than each that is
pub other_name : (es : List Extent) (n : FileName) → IsOther es n → Each (λ e. Log e.base ≢ n) es
other_name es (Log b) other = each_map (λ e ne same. log_differs b e.base ne (sym same)) es other
other_name es Manifest other = absurd other
other_name es Notes other = absurd other
other_name es Gate other = absurd other
other_name es Registry other = absurd other

pub not_manifest : (es : List Extent) (n : FileName) → IsOther es n → Manifest ≢ n
not_manifest es (Log b) other = manifest_other b
not_manifest es Manifest other = absurd other
not_manifest es Notes other = absurd other
not_manifest es Gate other = absurd other
not_manifest es Registry other = absurd other

-- a change of a file that isn't listed
pub other_keeps : (es : List Extent) (n : FileName) (R : Option (List ℕ) → Option (List ℕ) → Type 0) (d c : Files) → IsOther es n → OnlyAt n R d c → KeepsFronts es d c
other_keeps es n R d c other only = record {
  manifest = only.others Manifest (not_manifest es n other);
  fronts = each_map (λ e ne. kept_same d c e (only.others (Log e.base) ne)) es (other_name es n other);
}

module _ (es : List Extent) (d : Content) where
  pub stays : LeavesOnly d d (AfterCuts es d)
  stays = started d (AfterCuts es d) (λ c now. (c, now, none_kept es c))

  module _ (name : FileName) where
    pub one_stays : (IsOther es name → ⊥) → RemovesOne es name d d
    one_stays not = record { since = stays; others = λ t n. inl refl; there = λ t other. absurd (not other) }

    module _ (d' : Content) (M : Bool → Type 0) (change : Changes name removed Gone M d d') (other : IsOther es name) where
      pub one_leaves : LeavesOnly d d' (AfterCuts es d)
      one_leaves =
          goes_on d d d' (AfterCuts es d) stays change.time
          (λ c now. (let x = change.images c now in (x.0, x.1, other_keeps es name Gone x.0 c other x.2)))

      pub one_gone : ((b : Bool) → M b → IsTrue b) → RemovesOne es name d d'
      one_gone done = record {
        since = one_leaves;
        others = λ t n. elim (cases_name n name) [
          | inl is ↦ inr (is, other, subst (λ (k : FileName). d'.files k ≡ None) (sym is) (none_there t))
          | inr ne ↦ inl ((change.files t).2.others n ne)
        ];
        there = λ t o. none_there t;
      }
        where
          none_there : IsTrue d.is_observable → d'.files name ≡ None
          none_there t = (let read = change.files t in read.2.there ∙ ap (λ (b : Bool). cond b None (d.files name)) (done read.0 read.1))

-- a file that is named now or was
pub in_more : (n x : FileName) (xs : List FileName) → In n (xs ++ x ∷ []) → In n xs ⊎ (n ≡ x)
in_more n x [] (inl is) = inr is
in_more n x [] (inr none) = absurd none
in_more n x (y ∷ ys) (inl is) = inl (inl is)
in_more n x (y ∷ ys) (inr h) = ⊎_elim (λ was. inl (inr was)) (λ is. inr is) (in_more n x ys h)

module _ (es : List Extent) (d m d' : Content) (laws : Lawful m) (so_far : LeavesOnly d m (AfterCuts es d)) (step : LeavesOnly m d' (AfterCuts es m)) where
  then_after : (c : Files) → AfterCuts es m c → AfterCuts es d c
  then_after c h =
      let y = so_far.each h.0 (laws.earlier d.moment m.moment h.0 so_far.later h.1) in
      (y.0, y.1, kept_twice es y.0 h.0 c y.2 h.2)

  pub then_leaves : LeavesOnly d d' (AfterCuts es d)
  then_leaves = leaves_then d m d' (AfterCuts es d) so_far (leaves_weaker m d' (AfterCuts es m) (AfterCuts es d) then_after step)

pub none_removed : (es : List Extent) (d : Content) → Removes es [] d d
none_removed es d = record {
  is_observable = refl;
  since = stays es d;
  manifest = λ t. refl;
  listed = λ t. each_all (λ e. refl) es;
  absent = λ t b was. was;
  gone = λ t b other named. absurd named;
}

-- one removal more
module _ (es : List Extent) (done : List FileName) (name : FileName) (d m d' : Content) (laws : Lawful m) (so_far : Removes es done d m) (step : RemovesOne es name m d') (is_observable : d'.is_observable ≡ m.is_observable) where
  told : IsTrue d.is_observable → IsTrue m.is_observable
  told t = subst IsTrue (sym so_far.is_observable) t

  absent_now : IsTrue d.is_observable → (n : FileName) → m.files n ≡ None → d'.files n ≡ None
  absent_now t n was = ⊎_elim (λ is. is ∙ was) (λ gone. gone.2) (step.others (told t) n)

  same_now : IsTrue d.is_observable → (n : FileName) → (IsOther es name → n ≢ name) → d'.files n ≡ m.files n
  same_now t n ne = ⊎_elim (λ is. is) (λ gone. absurd (ne gone.1 gone.0)) (step.others (told t) n)

  gone_now : IsTrue d.is_observable → (b : ℕ) → IsUnlisted es b → In (Log b) done ⊎ (Log b ≡ name) → d'.files (Log b) ≡ None
  gone_now t b other (inl was) = absent_now t (Log b) (so_far.gone t b other was)
  gone_now t b other (inr is) = subst (λ (n : FileName). d'.files n ≡ None) (sym is) (step.there (told t) (subst (IsOther es) is other))

  pub removed_more : Removes es (done ++ name ∷ []) d d'
  removed_more = record {
    is_observable = is_observable ∙ so_far.is_observable;
    since = then_leaves es d m d' laws so_far.since step.since;
    manifest = λ t. same_now t Manifest (not_manifest es name) ∙ so_far.manifest t;
    listed = λ t. each_both (λ e ne h. ap bytes_in (same_now t (Log e.base) ne) ∙ h) es (each_from (IsOther es name) (λ e. Log e.base ≢ name) es (other_name es name)) (so_far.listed t);
    absent = λ t b was. absent_now t (Log b) (so_far.absent t b was);
    gone = λ t b other named. gone_now t b other (in_more (Log b) name done named);
  }
