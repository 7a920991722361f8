-- A round of sweeps, partition by partition.
use Rattle.std.proofs.Common.{◌≡◌, ◌≢◌, ◌⊎◌, inl, inr, ◌∙◌, sym, ap, subst, refl, ℕ, ◌<◌, List, [], ◌∷◌, ◌++◌, Option, Some, IsTrue, append-nil}
use Rattle.std.specs.List.{AllByRecursion}
use Rattle.tier_base.specs.declared.names.PartitionId.{PartitionId}
use Rattle.tier_base.specs.declared.object_key.ObjectKey.{ObjectKey}
use Rattle.tier_base.specs.Told.{In}
use Rattle.disk_model.specs.Content as disk
use Rattle.segment_meta.specs.declared.note.Note.{Note}
use Rattle.object_store.specs.Content as store
use Rattle.meta_log.specs.Content as log
use Rattle.remote_view.specs.Fold.{fold}
use Rattle.device_yard.specs.Control.{Control}
use Rattle.device_yard.specs.YardContent.{YardContent, Rise, HandsStore, HandsLog}
use Rattle.tier_sweep.specs.Sweeping.{SweptTier, IsUnderSweep, LeavesUnder, tier_with, starts_of}
use Rattle.tier_sweep.specs.Sweeping.IsUnderSweep.{Starting}
use Rattle.tier_sweep.proofs.Leaving.{swept_under}
use Rattle.yard_audit.specs.Lines.{swept_text, line_of, lines_of}
use Rattle.yard_audit.specs.Rounds.{partitions_of, AreAll, AreSwept, IsSweptIn, IsUnderSweepIn, LeavesUnderIn, HandedLeavesUnder}
use Rattle.yard_audit.specs.Tiers.{object_on, notes_on, left_on, LeavesNoMore, YardRests, OthersRest, DisksRest, StaysOut, HoldsTier, TierIs}
use Rattle.yard_audit.proofs.Tiers.{is_or_not, below_is_other, held_still, held_before, back_then, disks_then, handed_objects, handed_left}
use Rattle.yard_audit.proofs.Audits.{lines_snoc, partitions_snoc, all_snoc}

-- the first that a sweep may have come to is that it hasn't begun
pub unbegun : (tier new : SweptTier) → ((key : ObjectKey) → new.objects key ≡ tier.objects key) → new.notes ≡ tier.notes → IsUnderSweep tier new
unbegun tier new objects notes = Starting (record {
  notes = record { told = []; rest = starts_of (fold tier.notes); are = refl; now = notes ∙ sym (append-nil tier.notes) };
  objects = objects;
})

-- each partition of these that were found is below each of the rest
abbrev Below : List PartitionId → PartitionId × ℕ → Type 0
Below rest one = (q : PartitionId) → In q rest → (one.0).0 < q.0

below_rest : (found : List (PartitionId × ℕ)) (p : PartitionId) (rest : List PartitionId) → AllByRecursion (Below (p ∷ rest)) found → AllByRecursion (Below rest) found
below_rest [] p rest all = record {}
below_rest (one ∷ found) p rest all = (λ q there. all.0 q (inr there), below_rest found p rest all.1)

module _ {D S M : Type 0} (files : D → disk.Content) (objects : S → store.Content) (notes : M → log.Content) where
  -- what was swept stays so while another partition is swept
  still_swept : (h0 h h' : YardContent D S M) (p : PartitionId) (rest : List PartitionId) (found : List (PartitionId × ℕ)) → OthersRest files objects notes p h h'
      → AllByRecursion (Below (p ∷ rest)) found → AllByRecursion (IsSweptIn objects notes h0 h) found → AllByRecursion (IsSweptIn objects notes h0 h') found
  still_swept h0 h h' p rest [] others below swept = record {}
  still_swept h0 h h' p rest (one ∷ found) others below swept =
      let is = swept.0 in
      let other = below_is_other one.0 p (below.0 p (inl refl)) in (
        record {
          before = is.before;
          after = is.after;
          held_so = is.held_so;
          left_so = held_still files objects notes h h' one.0 is.after (others.objects_rest one.0 other) (others.notes_rest one.0 other) is.left_so;
          is = is.is;
        },
        still_swept h0 h h' p rest found others below.1 swept.1,
      )

  -- no partition is further than its sweep
  abbrev pub AreUnder : YardContent D S M → YardContent D S M → Type 0
  AreUnder h0 h = (q : PartitionId) → IsUnderSweepIn objects notes h0 h q

  pub all_unbegun : (h0 h : YardContent D S M) → YardRests files objects notes h0 h → AreUnder h0 h
  all_unbegun h0 h rests q =
      let before : SweptTier = record { objects = object_on objects (h0.stores q); notes = notes_on notes (h0.logs q) } in
      let after : SweptTier = record { objects = object_on objects (h.stores q); notes = notes_on notes (h.logs q) } in record {
        before = before;
        after = after;
        held_so = record { objects_are = λ key. refl; notes_are = refl };
        left_so = record { objects_are = λ key. refl; notes_are = refl };
        is = unbegun before after (rests.objects_rest q) (rests.notes_rest q);
      }

  -- nor is what a power cut may leave of it
  abbrev pub AreLeft : YardContent D S M → YardContent D S M → Type 0
  AreLeft h0 h = (q : PartitionId) → LeavesUnderIn objects notes h0 h q

  pub all_left : (h0 h : YardContent D S M) → YardRests files objects notes h0 h → AreLeft h0 h
  all_left h0 h rests q l at =
      let before : SweptTier = record { objects = object_on objects (h0.stores q); notes = l } in
      let after : SweptTier = record { objects = object_on objects (h.stores q); notes = l } in record {
        before = before;
        after = after;
        held_so = record { objects_are = λ key. refl; notes_are = rests.left_rests q l at };
        left_so = record { objects_are = λ key. refl; notes_are = at };
        notes_are = refl;
        is = unbegun before after (rests.objects_rest q) refl;
      }

  -- what a sweep leaves that was returned what is held, once its devices are back
  pub swept_left : (h0 h1 h : YardContent D S M) (p : PartitionId) (s s' : S) (m m' : M) → HandsStore objects (h0.stores p) (objects s) → HandsLog notes (h0.logs p) (notes m)
      → TierIs p (Some s') (Some m') h1 h → LeavesUnder (objects s) (notes m) (objects s') (notes m') → LeavesUnderIn objects notes h0 h p
  swept_left h0 h1 h p s s' m m' gives says is under l at =
      let u = under l (subst (λ (o : Option M). left_on notes o l) is.log_is at) in record {
        before = tier_with (objects s) u.0;
        after = tier_with (objects s') l;
        held_so = record { objects_are = handed_objects objects (h0.stores p) (objects s) gives; notes_are = handed_left notes (h0.logs p) (notes m) says u.0 u.1 };
        left_so = record { objects_are = λ key. sym (ap (λ (held : Option S). object_on objects held key) is.store_is); notes_are = at };
        notes_are = refl;
        is = u.2;
      }

  -- and of what is provided then
  pub handed_under : HandedLeavesUnder files objects notes
  handed_under old new p s s' m m' store_is log_is gives says under l at =
      let x = under l (handed_left notes (new.logs p) (notes m') says l at) in
      let was : (key : ObjectKey) → x.before.objects key ≡ (objects s).objects key = λ key. x.held_so.objects_are key ∙ ap (λ (o : Option S). object_on objects o key) store_is in
      let now : (key : ObjectKey) → x.after.objects key ≡ (objects s').objects key = λ key. x.left_so.objects_are key ∙ sym (handed_objects objects (new.stores p) (objects s') gives key) in
      let before : x.before ≡ tier_with (objects s) x.before.notes = ap (λ (o : store.Objects). (let t : SweptTier = record { objects = o; notes = x.before.notes } in t)) (λ i key. was key i) in
      let after : x.after ≡ tier_with (objects s') l =
      ap (λ (o : store.Objects). (let t : SweptTier = record { objects = o; notes = x.after.notes } in t)) (λ i key. now key i)
      ∙ ap (λ (ns : List Note). (let t : SweptTier = record { objects = (objects s').objects; notes = ns } in t)) x.notes_are in (
        x.before.notes,
        subst (λ (o : Option M). left_on notes o x.before.notes) log_is x.held_so.notes_are,
        subst (λ (t : SweptTier). IsUnderSweep t (tier_with (objects s') l)) before (subst (IsUnderSweep x.before) after x.is),
      )

  -- what is left of another partition
  one_left : (h0 h h' : YardContent D S M) (p : PartitionId) → AreLeft h0 h → OthersRest files objects notes p h h' → LeavesUnderIn objects notes h0 h' p → AreLeft h0 h'
  one_left h0 h h' p under others this q = by_case (is_or_not p q)
    where
      by_case : (p ≡ q) ⊎ (p ≢ q) → LeavesUnderIn objects notes h0 h' q
      by_case (inl same) = subst (λ (r : PartitionId). LeavesUnderIn objects notes h0 h' r) same this
      by_case (inr other) = λ l at.
          let apart : q ≢ p = λ same. other (sym same) in
          let is = under q l (others.left_rests q apart l at) in record {
            before = is.before;
            after = is.after;
            held_so = is.held_so;
            left_so = record { objects_are = λ key. is.left_so.objects_are key ∙ sym (others.objects_rest q apart key); notes_are = subst (left_on notes (h'.logs q)) (sym is.notes_are) at };
            notes_are = is.notes_are;
            is = is.is;
          }

  -- one partition more has begun
  pub one_under : (h0 h h' : YardContent D S M) (p : PartitionId) → AreUnder h0 h → OthersRest files objects notes p h h' → IsUnderSweepIn objects notes h0 h' p → AreUnder h0 h'
  one_under h0 h h' p under others this q = by_case (is_or_not p q)
    where
      by_case : (p ≡ q) ⊎ (p ≢ q) → IsUnderSweepIn objects notes h0 h' q
      by_case (inl same) = subst (λ (r : PartitionId). IsUnderSweepIn objects notes h0 h' r) same this
      by_case (inr other) =
          let is = under q in
          let apart : q ≢ p = λ same. other (sym same) in record {
            before = is.before;
            after = is.after;
            held_so = is.held_so;
            left_so = held_still files objects notes h h' q is.after (others.objects_rest q apart) (others.notes_rest q apart) is.left_so;
            is = is.is;
          }

  -- the partition's tier is still as it was at the beginning
  pub record Rests (h0 h : YardContent D S M) (p : PartitionId) : Type 0 where
    pub objects_rest : (key : ObjectKey) → object_on objects (h.stores p) key ≡ object_on objects (h0.stores p) key
    pub notes_rest : notes_on notes (h.logs p) ≡ notes_on notes (h0.logs p)
    pub left_rests : LeavesNoMore notes (h0.logs p) (h.logs p)

  -- the partitions that were swept, and those that are left
  pub record SoFar (rest : List PartitionId) (h0 h : YardContent D S M) (c0 c : Control) (text : List ℕ) : Type 0 where
    pub found : List (PartitionId × ℕ)
    pub all : AreAll files objects notes h0 (partitions_of found ++ rest)
    pub rise : Rise rest
    pub below : AllByRecursion (Below rest) found
    pub swept : IsTrue h0.is_observable → AllByRecursion (IsSweptIn objects notes h0 h) found
    pub left : IsTrue h0.is_observable → (q : PartitionId) → In q rest → Rests h0 h q
    pub under : IsTrue h0.is_observable → AreUnder h0 h
    pub lists : IsTrue h0.is_observable → AreLeft h0 h
    pub disks : IsTrue h0.is_observable → DisksRest files h0 h
    pub text_is : text ≡ lines_of swept_text found
    pub is_observable : h.is_observable ≡ h0.is_observable
    pub back : StaysOut c0 c

  pub begins : (list rest : List PartitionId) (h0 h : YardContent D S M) (c0 c : Control) (text : List ℕ) → rest ≡ list → text ≡ [] → AreAll files objects notes h0 list
      → (IsTrue h0.is_observable → YardRests files objects notes h0 h) → h.is_observable ≡ h0.is_observable → StaysOut c0 c → SoFar rest h0 h c0 c text
  begins list rest h0 h c0 c text is empty all rests is_observable back = record {
    found = [];
    all = subst (AreAll files objects notes h0) (sym is) all;
    rise = subst Rise (sym is) all.rise;
    below = record {};
    swept = λ t. record {};
    left = λ t q there. record { objects_rest = (rests t).objects_rest q; notes_rest = (rests t).notes_rest q; left_rests = (rests t).left_rests q };
    under = λ t. all_unbegun h0 h (rests t);
    lists = λ t. all_left h0 h (rests t);
    disks = λ t. (rests t).disks_rest;
    text_is = empty;
    is_observable = is_observable;
    back = back;
  }

  -- a sweep that began at what is held now began at what was held at the beginning
  begun_before : (h0 h : YardContent D S M) (p : PartitionId) (tier : SweptTier) → Rests h0 h p → HoldsTier objects notes h p tier → HoldsTier objects notes h0 p tier
  begun_before h0 h p tier rests holds = held_before files objects notes h0 h p tier rests.objects_rest rests.notes_rest holds

  pub swept_from_begin : (h0 h h' : YardContent D S M) (p : PartitionId) (count : ℕ) → Rests h0 h p → IsSweptIn objects notes h h' (p, count) → IsSweptIn objects notes h0 h' (p, count)
  swept_from_begin h0 h h' p count rests is = record {
    before = is.before;
    after = is.after;
    held_so = begun_before h0 h p is.before rests is.held_so;
    left_so = is.left_so;
    is = is.is;
  }

  pub under_from_begin : (h0 h h' : YardContent D S M) (p : PartitionId) → Rests h0 h p → IsUnderSweepIn objects notes h h' p → IsUnderSweepIn objects notes h0 h' p
  under_from_begin h0 h h' p rests is = record {
    before = is.before;
    after = is.after;
    held_so = begun_before h0 h p is.before rests is.held_so;
    left_so = is.left_so;
    is = is.is;
  }

  pub left_from_begin : (h0 h h' : YardContent D S M) (p : PartitionId) → Rests h0 h p → LeavesUnderIn objects notes h h' p → LeavesUnderIn objects notes h0 h' p
  left_from_begin h0 h h' p rests under l at =
      let is = under l at in record {
        before = is.before;
        after = is.after;
        held_so = record { objects_are = λ key. is.held_so.objects_are key ∙ rests.objects_rest key; notes_are = rests.left_rests is.before.notes is.held_so.notes_are };
        left_so = is.left_so;
        notes_are = is.notes_are;
        is = is.is;
      }

  pub swept_is_under : (h0 h' : YardContent D S M) (p : PartitionId) (count : ℕ) → IsSweptIn objects notes h0 h' (p, count) → IsUnderSweepIn objects notes h0 h' p
  swept_is_under h0 h' p count is = record {
    before = is.before;
    after = is.after;
    held_so = is.held_so;
    left_so = is.left_so;
    is = swept_under is.before is.after count is.is;
  }

  -- one partition more was swept, or its sweep was refused
  module _ (p : PartitionId) (rest : List PartitionId) (h0 h h' : YardContent D S M) (c0 c : Control) where
    -- no partition is further than its sweep
    pub under_more : (before : List PartitionId) (text : List ℕ) → before ≡ p ∷ rest → SoFar before h0 h c0 c text
        → (IsTrue h.is_observable → IsUnderSweepIn objects notes h h' p) → (IsTrue h.is_observable → OthersRest files objects notes p h h') → IsTrue h0.is_observable → AreUnder h0 h'
    under_more before text steps so under others t =
        let now = subst IsTrue (sym so.is_observable) t in
        let here : In p before = subst (In p) (sym steps) (inl refl) in
        one_under h0 h h' p (so.under t) (others now) (under_from_begin h0 h h' p (so.left t p here) (under now))

    -- nor is what a power cut may leave of it
    pub left_more : (before : List PartitionId) (text : List ℕ) → before ≡ p ∷ rest → SoFar before h0 h c0 c text
        → (IsTrue h.is_observable → LeavesUnderIn objects notes h h' p) → (IsTrue h.is_observable → OthersRest files objects notes p h h') → IsTrue h0.is_observable → AreLeft h0 h'
    left_more before text steps so leaves others t =
        let now = subst IsTrue (sym so.is_observable) t in
        let here : In p before = subst (In p) (sym steps) (inl refl) in
        one_left h0 h h' p (so.lists t) (others now) (left_from_begin h0 h h' p (so.left t p here) (leaves now))

    pub swept_more : (before : List PartitionId) (text : List ℕ) (count : ℕ) → before ≡ p ∷ rest → SoFar before h0 h c0 c text
        → (IsTrue h.is_observable → IsSweptIn objects notes h h' (p, count)) → (IsTrue h.is_observable → OthersRest files objects notes p h h') → IsTrue h0.is_observable → AreUnder h0 h'
    swept_more before text count steps so swept others t =
        under_more before text steps so (λ now. swept_is_under h h' p count (swept now)) others t

    one_more : (c' : Control) (text : List ℕ) (count : ℕ) → SoFar (p ∷ rest) h0 h c0 c text → (IsTrue h.is_observable → IsSweptIn objects notes h h' (p, count))
        → (IsTrue h.is_observable → LeavesUnderIn objects notes h h' p) → (IsTrue h.is_observable → OthersRest files objects notes p h h') → h'.is_observable ≡ h.is_observable → StaysOut c c' → SoFar rest h0 h' c0 c' (text ++ line_of p (swept_text count))
    one_more c' text count so swept leaves others is_observable back = record {
      found = so.found ++ (p, count) ∷ [];
      all = subst (AreAll files objects notes h0) (sym (partitions_snoc so.found p count rest)) so.all;
      rise = so.rise.1;
      below = all_snoc (Below rest) so.found (p, count) (below_rest so.found p rest so.below) so.rise.0;
      swept = λ t. all_snoc (IsSweptIn objects notes h0 h') so.found (p, count) (still_swept h0 h h' p rest so.found (others (now t)) so.below (so.swept t))
          (swept_from_begin h0 h h' p count (so.left t p (inl refl)) (swept (now t)));
      left = λ t q there. let other : q ≢ p = λ same. below_is_other p q (so.rise.0 q there) (sym same) in
          let was = so.left t q (inr there) in record {
            objects_rest = λ key. (others (now t)).objects_rest q other key ∙ was.objects_rest key;
            notes_rest = (others (now t)).notes_rest q other ∙ was.notes_rest;
            left_rests = λ l at. was.left_rests l ((others (now t)).left_rests q other l at);
          };
      under = swept_more (p ∷ rest) text count refl so swept others;
      lists = left_more (p ∷ rest) text refl so leaves others;
      disks = λ t. disks_then files objects notes h0 h h' (so.disks t) (others (now t)).disks_rest;
      text_is = ap (λ (before : List ℕ). before ++ line_of p (swept_text count)) so.text_is ∙ sym (lines_snoc swept_text so.found p count);
      is_observable = is_observable ∙ so.is_observable;
      back = back_then c0 c c' so.back back;
    }
      where
        now : IsTrue h0.is_observable → IsTrue h.is_observable
        now t = subst IsTrue (sym so.is_observable) t

    pub goes_on : (c' : Control) (before : List PartitionId) (text text' : List ℕ) (count : ℕ) → before ≡ p ∷ rest → text' ≡ text ++ line_of p (swept_text count)
        → SoFar before h0 h c0 c text → (IsTrue h.is_observable → IsSweptIn objects notes h h' (p, count)) → (IsTrue h.is_observable → LeavesUnderIn objects notes h h' p)
        → (IsTrue h.is_observable → OthersRest files objects notes p h h')
        → h'.is_observable ≡ h.is_observable → StaysOut c c' → SoFar rest h0 h' c0 c' text'
    goes_on c' before text text' count steps added so swept leaves others is_observable back =
        subst (λ (t : List ℕ). SoFar rest h0 h' c0 c' t) (sym added)
        (one_more c' text count (subst (λ (l : List PartitionId). SoFar l h0 h c0 c text) steps so) swept leaves others is_observable back)

  pub ends : (h0 h : YardContent D S M) (c0 c : Control) (text : List ℕ)
      → (so : SoFar [] h0 h c0 c text) → AreSwept files objects notes h0 h so.found
  ends h0 h c0 c text so = record {
    all = subst (AreAll files objects notes h0) (append-nil (partitions_of so.found)) so.all;
    swept = so.swept;
    disks = so.disks;
  }
