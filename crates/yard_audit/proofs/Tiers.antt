-- Tiers as they are provided, rest, and come back.
use Rattle.std.proofs.Common.{◌≡◌, ◌≢◌, ◌⊎◌, inl, inr, ◌∙◌, sym, ap, subst, refl, ℕ, ◌==◌, ◌<◌, Bool, true, false, List, Option, Some, None, arith}
use Rattle.std.proofs.lemmas.Bool.Decides.{Decides-eqb}
use Rattle.tier_base.specs.declared.names.PartitionId.{PartitionId}
use Rattle.tier_base.specs.declared.object_key.ObjectKey.{ObjectKey}
use Rattle.tier_base.specs.declared.plain.FileName.{FileName}
use Rattle.std.specs.Prelude.{OnErr, Ok, Err}
use Rattle.std.specs.declared.result.Result.{Result}
use Rattle.tier_base.specs.Counts.{Rose}
use Rattle.device_yard.specs.Control.{Control}
use Rattle.disk_model.specs.Content as disk
use Rattle.segment_meta.specs.declared.note.Note.{Note}
use Rattle.object_store.specs.Content as store
use Rattle.meta_log.specs.Content as log
use Rattle.device_yard.specs.YardContent.{YardContent, Same, Both, HandsStore, HandsLog}
use Rattle.tier_sweep.specs.Sweeping.{SweptTier, tier_of}
use Rattle.yard_audit.specs.Tiers.{file_on, object_on, notes_on, left_on, LeavesNoMore, HoldsTier, YardRests, DisksRest, TierIs, StaysOut}

-- partitions of one number are one
pub same_partition : (p q : PartitionId) → p.0 ≡ q.0 → p ≡ q
same_partition p q is = let id : ℕ → PartitionId = λ n. record { 0 = n } in ap id is

-- a partition is another one or not
pub is_or_not : (p q : PartitionId) → (p ≡ q) ⊎ (p ≢ q)
is_or_not p q = by_number (p.0 == q.0) refl
  where
    by_number : (b : Bool) → (p.0 == q.0) ≡ b → (p ≡ q) ⊎ (p ≢ q)
    by_number true is = inl (same_partition p q ((Decides-eqb p.0 q.0).0 is))
    by_number false is = inr (λ same. let yes = (Decides-eqb p.0 q.0).1 (ap (λ (r : PartitionId). r.0) same) in cc)

-- one of a lesser number is another one
pub below_is_other : (p q : PartitionId) → p.0 < q.0 → p ≢ q
below_is_other p q less same = absurd (let is = ap (λ (r : PartitionId). r.0) same in omega (arith, less, is))

-- what holds anyway holds of an error
pub on_err : {T E : Type 0} (r : Result T E) (P : Type 0) → P → OnErr r P
on_err (Ok x) P holds = record {}
on_err (Err e) P holds = holds

-- counts of an environment that continue
pub back_then : (c0 c c' : Control) → StaysOut c0 c → StaysOut c c' → StaysOut c0 c'
back_then c0 c c' a b = record {
  never_falls = (let f = a.never_falls in let g = b.never_falls in omega (arith, f, g));
  named = b.named ∙ a.named;
  out = b.out ∙ a.out;
}

pub rose_then : (c0 c c' : Control) → StaysOut c0 c → Rose c.faults c'.faults → Rose c0.faults c'.faults
rose_then c0 c c' a rose = let f = a.never_falls in omega (arith, f, rose)

module _ {S : Type 0} (objects : S → store.Content) where
  -- what is provided has what was held
  pub handed_objects : (held : Option S) (c : store.Content) → HandsStore objects held c → (key : ObjectKey) → c.objects key ≡ object_on objects held key
  handed_objects None c gives key = gives.objects key
  handed_objects (Some s) c gives key = gives.objects key

  pub same_objects : (a b : Option S) → Both (λ s t. store.Keeps (objects s) (objects t)) a b → (key : ObjectKey) → object_on objects b key ≡ object_on objects a key
  same_objects None None both key = refl
  same_objects None (Some t) both key = absurd both
  same_objects (Some s) None both key = absurd both
  same_objects (Some s) (Some t) both key = both.objects key

module _ {M : Type 0} (notes : M → log.Content) where
  pub handed_notes : (held : Option M) (c : log.Content) → HandsLog notes held c → c.notes ≡ notes_on notes held
  handed_notes None c gives = gives.notes
  handed_notes (Some m) c gives = gives.notes

  pub same_notes : (a b : Option M) → Both (λ m n. log.Keeps (notes m) (notes n)) a b → notes_on notes b ≡ notes_on notes a
  same_notes None None both = refl
  same_notes None (Some n) both = absurd both
  same_notes (Some m) None both = absurd both
  same_notes (Some m) (Some n) both = both.notes

  pub handed_left : (held : Option M) (c : log.Content) → HandsLog notes held c → (l : List Note) → log.Left c l → left_on notes held l
  handed_left None c gives l at = gives.left l at ∙ gives.notes
  handed_left (Some m) c gives l at = gives.left l at

  pub same_left : (a b : Option M) → Both (λ m n. log.Keeps (notes m) (notes n)) a b → LeavesNoMore notes a b
  same_left None None both l at = at
  same_left None (Some n) both l at = absurd both
  same_left (Some m) None both l at = absurd both
  same_left (Some m) (Some n) both l at = both.left l at

module _ {D : Type 0} (files : D → disk.Content) where
  pub same_files : (a b : Option D) → Both (λ d e. disk.Keeps (files d) (files e)) a b → (name : FileName) → file_on files b name ≡ file_on files a name
  same_files None None both name = refl
  same_files None (Some e) both name = absurd both
  same_files (Some d) None both name = absurd both
  same_files (Some d) (Some e) both name = both.files name

module _ {D S M : Type 0} (files : D → disk.Content) (objects : S → store.Content) (notes : M → log.Content) where
  -- a call that changes nothing
  pub same_rests : (old new : YardContent D S M) → Same files objects notes old new → YardRests files objects notes old new
  same_rests old new same = record {
    objects_rest = λ p. same_objects objects (old.stores p) (new.stores p) (same.stores p);
    notes_rest = λ p. same_notes notes (old.logs p) (new.logs p) (same.logs p);
    left_rests = λ p. same_left notes (old.logs p) (new.logs p) (same.logs p);
    disks_rest = record {
      brokers = λ p b. same_files files (old.disks p b) (new.disks p b) (same.disks p b);
      registries = λ p. same_files files (old.registries p) (new.registries p) (same.registries p);
    };
  }

  pub rests_none : (h : YardContent D S M) → YardRests files objects notes h h
  rests_none h = record { objects_rest = λ p key. refl; notes_rest = λ p. refl; left_rests = λ p l at. at; disks_rest = record { brokers = λ p b name. refl; registries = λ p name. refl } }

  pub disks_then : (h0 h h' : YardContent D S M) → DisksRest files h0 h → DisksRest files h h' → DisksRest files h0 h'
  disks_then h0 h h' a b = record {
    brokers = λ p k name. b.brokers p k name ∙ a.brokers p k name;
    registries = λ p name. b.registries p name ∙ a.registries p name;
  }

  pub rests_then : (h0 h h' : YardContent D S M) → YardRests files objects notes h0 h → YardRests files objects notes h h' → YardRests files objects notes h0 h'
  rests_then h0 h h' a b = record {
    objects_rest = λ p key. b.objects_rest p key ∙ a.objects_rest p key;
    notes_rest = λ p. b.notes_rest p ∙ a.notes_rest p;
    left_rests = λ p l at. a.left_rests p l (b.left_rests p l at);
    disks_rest = disks_then h0 h h' a.disks_rest b.disks_rest;
  }

  -- the tier that is provided is the one that is held
  pub handed_tier : (held : YardContent D S M) (p : PartitionId) (s : S) (m : M) → HandsStore objects (held.stores p) (objects s) → HandsLog notes (held.logs p) (notes m)
      → HoldsTier objects notes held p (tier_of (objects s) (notes m))
  handed_tier held p s m gives says = record {
    objects_are = handed_objects objects (held.stores p) (objects s) gives;
    notes_are = handed_notes notes (held.logs p) (notes m) says;
  }

  -- the tier that comes back is the one that is held then
  pub back_tier : (old new : YardContent D S M) (p : PartitionId) (s : S) (m : M) → TierIs p (Some s) (Some m) old new
      → HoldsTier objects notes new p (tier_of (objects s) (notes m))
  back_tier old new p s m is = record {
    objects_are = λ key. sym (ap (λ (held : Option S). object_on objects held key) is.store_is);
    notes_are = sym (ap (λ (held : Option M). notes_on notes held) is.log_is);
  }

  -- a tier that rests is the same one
  pub held_still : (old new : YardContent D S M) (p : PartitionId) (tier : SweptTier)
      → ((key : ObjectKey) → object_on objects (new.stores p) key ≡ object_on objects (old.stores p) key) → notes_on notes (new.logs p) ≡ notes_on notes (old.logs p)
      → HoldsTier objects notes old p tier → HoldsTier objects notes new p tier
  held_still old new p tier objects_rest notes_rest holds = record {
    objects_are = λ key. holds.objects_are key ∙ sym (objects_rest key);
    notes_are = holds.notes_are ∙ sym notes_rest;
  }

  -- and it was so before
  pub held_before : (old new : YardContent D S M) (p : PartitionId) (tier : SweptTier)
      → ((key : ObjectKey) → object_on objects (new.stores p) key ≡ object_on objects (old.stores p) key) → notes_on notes (new.logs p) ≡ notes_on notes (old.logs p)
      → HoldsTier objects notes new p tier → HoldsTier objects notes old p tier
  held_before old new p tier objects_rest notes_rest holds = record {
    objects_are = λ key. holds.objects_are key ∙ objects_rest key;
    notes_are = holds.notes_are ∙ notes_rest;
  }

  -- what is provided and comes back with the content that it had rests
  pub handed_back : (h0 h1 h : YardContent D S M) (p : PartitionId) (s s' : S) (m m' : M) → HandsStore objects (h0.stores p) (objects s) → HandsLog notes (h0.logs p) (notes m)
      → store.Keeps (objects s) (objects s') → log.Keeps (notes m) (notes m') → TierIs p None None h0 h1 → TierIs p (Some s') (Some m') h1 h → YardRests files objects notes h0 h
  handed_back h0 h1 h p s s' m m' gives says kept told out back = record {
    objects_rest = λ q key. elim (is_or_not q p) [
      | inl same ↦ subst (λ (r : PartitionId). object_on objects (h.stores r) key ≡ object_on objects (h0.stores r) key) (sym same)
          (ap (λ (held : Option S). object_on objects held key) back.store_is ∙ (kept.objects key ∙ handed_objects objects (h0.stores p) (objects s) gives key))
      | inr other ↦ ap (λ (held : Option S). object_on objects held key) (back.stores q other ∙ out.stores q other)
    ];
    notes_rest = λ q. elim (is_or_not q p) [
      | inl same ↦ subst (λ (r : PartitionId). notes_on notes (h.logs r) ≡ notes_on notes (h0.logs r)) (sym same)
          (ap (λ (held : Option M). notes_on notes held) back.log_is ∙ (told.notes ∙ handed_notes notes (h0.logs p) (notes m) says))
      | inr other ↦ ap (λ (held : Option M). notes_on notes held) (back.logs q other ∙ out.logs q other)
    ];
    left_rests = λ q. elim (is_or_not q p) [
      | inl same ↦ subst (λ (r : PartitionId). LeavesNoMore notes (h0.logs r) (h.logs r)) (sym same)
          (λ l at. handed_left notes (h0.logs p) (notes m) says l (told.left l (subst (λ (held : Option M). left_on notes held l) back.log_is at)))
      | inr other ↦ λ l at. subst (λ (held : Option M). left_on notes held l) (back.logs q other ∙ out.logs q other) at
    ];
    disks_rest = record {
      brokers = λ q b name. ap (λ (held : Option D). file_on files held name) (back.disks q b ∙ out.disks q b);
      registries = λ q name. ap (λ (held : Option D). file_on files held name) (back.registries q ∙ out.registries q);
    };
  }
