-- The first part of an opening, step by step.
use Rattle.std.proofs.Common.{◌≡◌, ◌≢◌, ℕ, Bool, cond, List, [], take, Option, Some, refl, sym, ◌∙◌, ap, subst, inl, inr, ⊎_elim, IsTrue}
use Rattle.tier_base.specs.declared.plain.FileName.{FileName}
use Rattle.tier_base.specs.declared.plain.FileName.TheVariants.{Manifest, Log}
use Rattle.tier_base.specs.Device.{Fate, Went}
use Rattle.disk_model.proofs.Names.{cases_name}
use Rattle.tier_base.specs.Told.{bytes_in, replaced}
use Rattle.disk_model.specs.Content.{Content, Lawful, Files, Image, Changes, LeavesOnly, Swapped}
use Rattle.log_manifest.specs.declared.manifest.Extent.{Extent}
use Rattle.log_steps.specs.Fronts.{Each, KeepsFront}
use Rattle.log_steps.specs.Rewrites.{AfterCuts, RestoresAll, Removes, Underway, Rewriting, Rewrites}
use Rattle.log_steps.proofs.Lists.{each_both, each_all}
use Rattle.log_steps.proofs.Moments.{started, goes_on, leaves_weaker, leaves_then}
use Rattle.log_steps.proofs.Restored.{kept_same, kept_read, then_kept, manifest_other}

pub log_no_manifest : (b : ℕ) → Log b ≢ Manifest
log_no_manifest b e = cc

-- beside the manifest the files are the same
pub all_like : (d c : Files) → ((n : FileName) → n ≢ Manifest → c n ≡ d n) → (es : List Extent) → Each (KeepsFront d c) es
all_like d c others es = each_all (λ e. kept_same d c e (others (Log e.base) (log_no_manifest e.base))) es

module _ (now : List ℕ) (es : List Extent) (names : List FileName) (d d1 : Content) (M : Bool → Type 0) (change : Changes Manifest (replaced now) (Swapped now) M d d1) where
  -- the manifest
  first : (c : Files) → Image d1 c → Rewriting now es d c
  first c left =
      let x = change.images c left in
      ⊎_elim
      (λ same. inl (record { image = x.0; was = x.1; same = λ n. elim (cases_name n Manifest) [ inl e ↦ subst (λ (k : FileName). c k ≡ x.0 k) (sym e) same | inr ne ↦ x.2.others n ne ] }))
      (λ new. inr (record { image = x.0; was = x.1; manifest = new; fronts = all_like x.0 c x.2.others es }))
      x.2.there

  first_leaves : LeavesOnly d d1 (Rewriting now es d)
  first_leaves =
      goes_on d d d1 (Rewriting now es d) (started d (Rewriting now es d) (λ c left. inl (record { image = c; was = left; same = λ n. refl }))) change.time first

  -- it wasn't written
  pub rewritten_none : (fate : Fate) → (fate ≡ Went → ⊥) → Rewrites now es names fate d d1
  rewritten_none fate not = record {
    is_observable = change.is_observable;
    since = first_leaves;
    under = λ went. absurd (not went);
    manifest = λ went. absurd (not went);
    files = λ went. absurd (not went);
    absent = λ went. absurd (not went);
    gone = λ went. absurd (not went);
    synced = λ went. absurd (not went);
    phase = inl (λ c left. (let x = change.images c left in record { image = x.0; was = x.1; others = x.2.others; manifest = x.2.there }));
  }

  module _ (sure : (c : Files) → Image d1 c → c Manifest ≡ Some now) where
    -- an image after the manifest exists
    stands : (c : Files) → Image d1 c → Underway now es d c
    stands c left =
        let x = change.images c left in
        record { image = x.0; was = x.1; manifest = sure c left; fronts = all_like x.0 c x.2.others es }

    cuts : (c : Files) → AfterCuts es d1 c → Underway now es d c
    cuts c h =
        let u = stands h.0 h.1 in
        record {
          image = u.image;
          was = u.was;
          manifest = h.2.manifest ∙ u.manifest;
          fronts = each_both (λ x f g. then_kept u.image h.0 c x f g) es u.fronts h.2.fronts;
        }

    module _ (d2 : Content) (cut_leaves : LeavesOnly d1 d2 (AfterCuts es d1)) (tells2 : d2.is_observable ≡ d1.is_observable) (laws2 : Lawful d2) where
      second_leaves : LeavesOnly d d2 (Rewriting now es d)
      second_leaves =
          leaves_then d d1 d2 (Rewriting now es d) first_leaves (leaves_weaker d1 d2 (AfterCuts es d1) (Rewriting now es d) (λ c h. inr (cuts c h)) cut_leaves)

      second : (c : Files) → Image d2 c → Underway now es d c
      second c left = cuts c (cut_leaves.each c (laws2.earlier d1.moment d2.moment c cut_leaves.later left))

      -- a later call failed
      pub rewritten_fault : (fate : Fate) → (fate ≡ Went → ⊥) → Rewrites now es names fate d d2
      rewritten_fault fate not = record {
        is_observable = tells2 ∙ change.is_observable;
        since = second_leaves;
        under = λ went. absurd (not went);
        manifest = λ went. absurd (not went);
        files = λ went. absurd (not went);
        absent = λ went. absurd (not went);
        gone = λ went. absurd (not went);
        synced = λ went. absurd (not went);
        phase = inr second;
      }

      module _ (d0 : Content) (restored : RestoresAll es es [] d1 d0) (removed : Removes es names d0 d2) (done : (b : Bool) → M b → IsTrue b) where
        told1 : IsTrue d.is_observable → IsTrue d1.is_observable
        told1 t = subst IsTrue (sym change.is_observable) t

        told0 : IsTrue d.is_observable → IsTrue d0.is_observable
        told0 t = subst IsTrue (sym restored.is_observable) (told1 t)

        written : IsTrue d.is_observable → d1.files Manifest ≡ Some now
        written t = let read = change.files t in read.2.there ∙ ap (λ (b : Bool). cond b (Some now) (d.files Manifest)) (done read.0 read.1)

        unchanged : IsTrue d.is_observable → (b : ℕ) → d1.files (Log b) ≡ d.files (Log b)
        unchanged t b = (change.files t).2.others (Log b) (log_no_manifest b)

        -- a removal of others leaves the fronts in each image
        synced_still : (c : Files) → Image d2 c → Each (KeepsFront d2.files c) es
        synced_still c left =
            let x = removed.since.each c (laws2.earlier d0.moment d2.moment c removed.since.later left) in
            let t = subst IsTrue removed.is_observable (laws2.told c left) in
            each_both (λ e same kept. kept_read d0.files d2.files c e same kept) es (removed.listed t) (each_both (λ e f g. then_kept d0.files x.0 c e f g) es (restored.synced x.0 x.1) x.2.fronts)

        pub rewritten : (fate : Fate) → Rewrites now es names fate d d2
        rewritten fate = record {
          is_observable = tells2 ∙ change.is_observable;
          since = second_leaves;
          under = λ went. second;
          manifest = λ went t. removed.manifest (told0 t) ∙ restored.kept (told1 t) Manifest manifest_other ∙ written t;
          files = λ went t. each_both (λ e r h. r ∙ h ∙ ap (λ (o : Option (List ℕ)). take e.len (bytes_in o)) (unchanged t e.base)) es (removed.listed (told0 t)) (restored.cut (told1 t));
          absent = λ went t b other was. removed.absent (told0 t) b (restored.absent (told1 t) b other ∙ unchanged t b ∙ was);
          gone = λ went t b other named. removed.gone (told0 t) b other named;
          synced = λ went. synced_still;
          phase = inr second;
        }
