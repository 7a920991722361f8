-- A segment's file is cut to its length, and synced.
use Rattle.std.proofs.Common.{◌≡◌, ℕ, ◌≤◌, Bool, cond, List, length, take, Option, Some, None, refl, sym, ◌∙◌, ap, subst, inl, IsTrue}
use Rattle.std.proofs.Math.Seq.{take-nil}
use Rattle.tier_base.specs.declared.plain.FileName.TheVariants.{Log}
use Rattle.tier_base.specs.Device.{Fate, Went}
use Rattle.tier_base.specs.Told.{bytes_in}
use Rattle.disk_model.specs.Content.{Content, Files, Image, Changes, Keeps, LeavesOnly, cut_to, CutBack, BeginsWith}
use Rattle.log_manifest.specs.declared.manifest.Extent.{Extent}
use Rattle.log_steps.specs.Fronts.{log_at}
use Rattle.log_steps.specs.Rewrites.{AfterCut, Restores}
use Rattle.log_steps.proofs.Moments.{started, goes_on}
use Rattle.log_steps.proofs.Standing.{agrees_read, begins_agrees}

cut_bytes : (n : ℕ) (o : Option (List ℕ)) → bytes_in (cut_to n o) ≡ take n (bytes_in o)
cut_bytes n None = sym (take-nil n)
cut_bytes n (Some bytes) = refl

module _ (e : Extent) (d d1 : Content) (M : Bool → Type 0) (change : Changes (Log e.base) (cut_to e.len) (CutBack e.len) M d d1) where
  at_cut : LeavesOnly d d1 (AfterCut e d)
  at_cut =
      goes_on d d d1 (AfterCut e d)
      (started d (AfterCut e d) (λ c now. (c, now, record { there = inl refl; others = λ n ne. refl })))
      change.time change.images

  -- the cut failed
  pub restored_none : (fate : Fate) → (fate ≡ Went → ⊥) → Restores e fate d d1
  restored_none fate not = record {
    is_observable = change.is_observable;
    since = at_cut;
    others = λ t n ne. (change.files t).2.others n ne;
    cut = λ went. absurd (not went);
    synced = λ went. absurd (not went);
  }

  module _ (done : (b : Bool) → M b → IsTrue b) (d2 : Content) (k : Keeps d1 d2) (fate : Fate)
      (durable : fate ≡ Went → (c : Files) → Image d2 c → BeginsWith (d1.files (Log e.base)) (c (Log e.base))) where
    same_log : log_at d2.files e ≡ log_at d1.files e
    same_log = ap bytes_in (k.files (Log e.base))

    cut_log : IsTrue d.is_observable → log_at d1.files e ≡ take e.len (log_at d.files e)
    cut_log t =
        let o = d.files (Log e.base) in
        let read = change.files t in
        ap bytes_in (read.2.there ∙ ap (λ (b : Bool). cond b (cut_to e.len o) o) (done read.0 read.1)) ∙ cut_bytes e.len o

    pub restored : Restores e fate d d2
    restored = record {
      is_observable = k.is_observable ∙ change.is_observable;
      since = goes_on d d1 d2 (AfterCut e d) at_cut k.time (λ c now. change.images c (k.images c now));
      others = λ t n ne. k.files n ∙ (change.files t).2.others n ne;
      cut = λ went t. same_log ∙ cut_log t;
      synced = λ went c now long. agrees_read c d1.files d2.files e (ap (take e.len) same_log)
          (begins_agrees c d1.files e (subst (λ (l : List ℕ). e.len ≤ length l) same_log long) (durable went c now));
    }
