-- A sync and then a new manifest.
use Rattle.std.proofs.Common.{◌≡◌, ◌≢◌, ◌⊎◌, ℕ, Bool, true, false, cond, List, Option, Some, refl, sym, ◌∙◌, subst, inl, inr, ⊎_elim, IsTrue}
use Rattle.std.proofs.lemmas.Bool.{true≢false}
use Rattle.tier_base.specs.declared.plain.FileName.{FileName}
use Rattle.tier_base.specs.declared.plain.FileName.TheVariants.{Manifest}
use Rattle.tier_base.specs.Device.{Control, MayBeDone, Fate, Went, Fault, Dry}
use Rattle.disk_model.specs.declared.call.DiskCall.{DiskCall}
use Rattle.disk_model.specs.Call.{call_code}
use Rattle.tier_base.specs.Told.{OnlyAt, replaced}
use Rattle.disk_model.specs.Content.{Content, Files, Image, Changes, Keeps, LeavesOnly, BeginsWith, Swapped, Elapses}
use Rattle.disk_model.proofs.Names.{cases_name}
use Rattle.log_steps.specs.Publishes.{Between, Publishes, LeavesEither}
use Rattle.log_steps.proofs.Moments.{started, goes_on}

-- a call that wasn't done left the files
pub undone_files : (n : FileName) (make : Option (List ℕ) → Option (List ℕ)) (M : Bool → Type 0) (f g : Files) → (M true → ⊥)
    → (done : Bool) × M done × OnlyAt n (λ before after. after ≡ cond done (make before) before) f g → (m : FileName) → g m ≡ f m
undone_files n make M f g not h m = undone_by h.0 h.1 h.2 m
  where
    undone_by : (done : Bool) → M done → OnlyAt n (λ before after. after ≡ cond done (make before) before) f g → (m : FileName) → g m ≡ f m
    undone_by true m only k = absurd (not m)
    undone_by false m only k = elim (cases_name k n) [
      | inl e ↦ subst (λ (x : FileName). g x ≡ f x) (sym e) only.there
      | inr ne ↦ only.others k ne
    ]

between_old : (name : FileName) (bytes : List ℕ) (d : Content) (c : Files) → Image d c → Between name bytes d c
between_old name bytes d c was = record { image = c; was = was; others = λ n ne. refl; manifest = inl refl }

at_sync : (name : FileName) (bytes : List ℕ) (d d1 : Content) → Keeps d d1 → LeavesOnly d d1 (Between name bytes d)
at_sync name bytes d d1 k =
    goes_on d d d1 (Between name bytes d) (started d (Between name bytes d) (between_old name bytes d)) k.time (λ c now. between_old name bytes d c (k.images c now))

-- the sync failed
pub published_none : (name : FileName) (bytes : List ℕ) (d d1 : Content) → Keeps d d1 → Publishes name bytes Fault d d1
published_none name bytes d d1 k = record {
  is_observable = k.is_observable;
  files = λ t n ne. k.files n;
  since = at_sync name bytes d d1 k;
  dry = λ dry c now. k.images c now;
  dry_files = λ dry t n. k.files n;
  durable = λ went c now. cc;
  whole = λ went c now. cc;
  settled = inl (λ c now. record { image = c; was = k.images c now; same = λ n. refl });
}

module _ (name : FileName) (ne : name ≢ Manifest) (bytes : List ℕ) (d d1 d2 : Content) (fate : Fate) (call : DiskCall) (control : Control call_code) (k : Keeps d d1) (synced : (c : Files) → Image d1 c → BeginsWith (d.files name) (c name)) (change : Changes Manifest (replaced bytes) (Swapped bytes) (MayBeDone call fate control) d1 d2)
    (sure : fate ≡ Went → (c : Files) → Image d2 c → c Manifest ≡ Some bytes) where
  begins_new : (c : Files) → Image d2 c → BeginsWith (d.files name) (c name)
  begins_new c now = let x = change.images c now in subst (λ (o : Option (List ℕ)). BeginsWith (d.files name) o) (sym (x.2.others name ne)) (synced x.0 x.1)

  between_new : (c : Files) → Image d2 c → Between name bytes d c
  between_new c now =
      let x = change.images c now in
      record {
        image = x.0;
        was = k.images x.0 x.1;
        others = x.2.others;
        manifest = ⊎_elim (λ same. inl same) (λ new. inr (new, begins_new c now)) x.2.there;
      }

  dry_not : fate ≡ Dry → MayBeDone call fate control true → ⊥
  dry_not is m = true≢false (m.dry is)

  pub published : Publishes name bytes fate d d2
  published = record {
    is_observable = change.is_observable ∙ k.is_observable;
    files = λ t n other. (change.files (subst IsTrue (sym k.is_observable) t)).2.others n other ∙ k.files n;
    since = goes_on d d1 d2 (Between name bytes d) (at_sync name bytes d d1 k) change.time between_new;
    dry = λ is c now. k.images c (change.undone (dry_not is) c now);
    dry_files = λ is t n. undone_files Manifest (replaced bytes) (MayBeDone call fate control) d1.files d2.files (dry_not is) (change.files (subst IsTrue (sym k.is_observable) t)) n ∙ k.files n;
    durable = sure;
    whole = λ went c now. begins_new c now;
    settled = inr begins_new;
  }

-- a sync that makes no image, and then a call that may
pub either_synced : (d d1 : Content) → Keeps d d1 → LeavesEither d d1
either_synced d d1 k = goes_on d d d1 (λ c. Image d c ⊎ Image d1 c) (started d (λ c. Image d c ⊎ Image d1 c) (λ c now. inl now)) k.time (λ c now. inr now)

pub either_replaced : (d d1 d2 : Content) → Keeps d d1 → Elapses d1 d2 → LeavesEither d d2
either_replaced d d1 d2 k time =
    goes_on d d1 d2 (λ c. Image d c ⊎ Image d2 c)
    (goes_on d d d1 (λ c. Image d c ⊎ Image d2 c) (started d (λ c. Image d c ⊎ Image d2 c) (λ c now. inl now)) k.time (λ c now. inl (k.images c now)))
    time
    (λ c now. inr now)
