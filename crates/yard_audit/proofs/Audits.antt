-- A round of audits, partition by partition.
use Rattle.std.proofs.Common.{◌≡◌, ◌∙◌, sym, ap, subst, refl, ℕ, List, [], ◌∷◌, ◌++◌, Option, None, IsTrue, append_assoc, append-nil}
use Rattle.std.specs.List.{AllByRecursion}
use Rattle.tier_base.specs.declared.names.PartitionId.{PartitionId}
use Rattle.disk_model.specs.Content as disk
use Rattle.object_store.specs.Content as store
use Rattle.meta_log.specs.Content as log
use Rattle.device_yard.specs.Control.{Control}
use Rattle.device_yard.specs.YardContent.{YardContent}
use Rattle.tier_audit.specs.declared.verdict.Verdict.{Verdict}
use Rattle.yard_audit.specs.Lines.{verdict_text, line_of, lines_of, unsound_after, first_unsound_from, first_unsound}
use Rattle.yard_audit.specs.Rounds.{partitions_of, AreAll, AreAudited, IsAudited}
use Rattle.yard_audit.specs.Tiers.{YardRests, StaysOut}
use Rattle.yard_audit.proofs.Tiers.{rests_then, held_before, back_then}

-- lists with one more at their end
pub lines_snoc : {A : Type 0} (told : A → List ℕ) (found : List (PartitionId × A)) (p : PartitionId) (one : A)
    → lines_of told (found ++ (p, one) ∷ []) ≡ lines_of told found ++ line_of p (told one)
lines_snoc told [] p one = append-nil (line_of p (told one))
lines_snoc told (first ∷ found) p one =
    ap (λ (rest : List ℕ). line_of first.0 (told first.1) ++ rest) (lines_snoc told found p one)
    ∙ sym (append_assoc (line_of first.0 (told first.1)) (lines_of told found) (line_of p (told one)))

pub partitions_snoc : {A : Type 0} (found : List (PartitionId × A)) (p : PartitionId) (one : A) (rest : List PartitionId)
    → partitions_of (found ++ (p, one) ∷ []) ++ rest ≡ partitions_of found ++ p ∷ rest
partitions_snoc [] p one rest = refl
partitions_snoc (first ∷ found) p one rest = ap (λ (more : List PartitionId). first.0 ∷ more) (partitions_snoc found p one rest)

pub all_snoc : {A : Type 0} (P : A → Type 0) (xs : List A) (x : A) → AllByRecursion P xs → P x → AllByRecursion P (xs ++ x ∷ [])
all_snoc P [] x all one = (one, record {})
all_snoc P (y ∷ xs) x all one = (all.0, all_snoc P xs x all.1 one)

unsound_snoc : (first : Option PartitionId) (found : List (PartitionId × Verdict)) (p : PartitionId) (one : Verdict)
    → first_unsound_from first (found ++ (p, one) ∷ []) ≡ unsound_after (first_unsound_from first found) p one
unsound_snoc first [] p one = refl
unsound_snoc first (found ∷ more) p one = unsound_snoc (unsound_after first found.0 found.1) more p one

module _ {D S M : Type 0} (files : D → disk.Content) (objects : S → store.Content) (notes : M → log.Content) where
  -- the partitions that were audited, and those that are left
  pub record SoFar (rest : List PartitionId) (h0 h : YardContent D S M) (c0 c : Control) (text : List ℕ) (unsound : Option PartitionId) : Type 0 where
    pub found : List (PartitionId × Verdict)
    pub all : AreAll files objects notes h0 (partitions_of found ++ rest)
    pub right : IsTrue h0.is_observable → AllByRecursion (IsAudited objects notes h0) found
    pub text_is : text ≡ lines_of verdict_text found
    pub unsound_is : unsound ≡ first_unsound found
    pub rests : IsTrue h0.is_observable → YardRests files objects notes h0 h
    pub is_observable : h.is_observable ≡ h0.is_observable
    pub back : StaysOut c0 c

  pub begins : (list rest : List PartitionId) (h0 h : YardContent D S M) (c0 c : Control) (text : List ℕ) → rest ≡ list → text ≡ [] → AreAll files objects notes h0 list
      → (IsTrue h0.is_observable → YardRests files objects notes h0 h) → h.is_observable ≡ h0.is_observable → StaysOut c0 c → SoFar rest h0 h c0 c text None
  begins list rest h0 h c0 c text is empty all rests is_observable back = record {
    found = [];
    all = subst (AreAll files objects notes h0) (sym is) all;
    right = λ t. record {};
    text_is = empty;
    unsound_is = refl;
    rests = rests;
    is_observable = is_observable;
    back = back;
  }

  -- one more was audited
  module _ (p : PartitionId) (verdict : Verdict) (rest : List PartitionId) (h0 h h' : YardContent D S M) (c0 c c' : Control) where
    audited_before : (text : List ℕ) (unsound : Option PartitionId) → SoFar (p ∷ rest) h0 h c0 c text unsound
        → (IsTrue h.is_observable → IsAudited objects notes h (p, verdict)) → IsTrue h0.is_observable → IsAudited objects notes h0 (p, verdict)
    audited_before text unsound so audited t = let is = audited (subst IsTrue (sym so.is_observable) t) in record {
      tier = is.tier;
      held_so = held_before files objects notes h0 h p is.tier ((so.rests t).objects_rest p) ((so.rests t).notes_rest p) is.held_so;
      is = is.is;
    }

    one_more : (text : List ℕ) (unsound : Option PartitionId) → SoFar (p ∷ rest) h0 h c0 c text unsound → (IsTrue h.is_observable → IsAudited objects notes h (p, verdict))
        → (IsTrue h.is_observable → YardRests files objects notes h h') → h'.is_observable ≡ h.is_observable → StaysOut c c'
        → SoFar rest h0 h' c0 c' (text ++ line_of p (verdict_text verdict)) (unsound_after unsound p verdict)
    one_more text unsound so audited rests is_observable back = record {
      found = so.found ++ (p, verdict) ∷ [];
      all = subst (AreAll files objects notes h0) (sym (partitions_snoc so.found p verdict rest)) so.all;
      right = λ t. all_snoc (IsAudited objects notes h0) so.found (p, verdict) (so.right t) (audited_before text unsound so audited t);
      text_is = ap (λ (before : List ℕ). before ++ line_of p (verdict_text verdict)) so.text_is ∙ sym (lines_snoc verdict_text so.found p verdict);
      unsound_is = ap (λ (first : Option PartitionId). unsound_after first p verdict) so.unsound_is ∙ sym (unsound_snoc None so.found p verdict);
      rests = λ t. rests_then files objects notes h0 h h' (so.rests t) (rests (subst IsTrue (sym so.is_observable) t));
      is_observable = is_observable ∙ so.is_observable;
      back = back_then c0 c c' so.back back;
    }

    pub goes_on : (before : List PartitionId) (text text' : List ℕ) (unsound unsound' : Option PartitionId) → before ≡ p ∷ rest
        → text' ≡ text ++ line_of p (verdict_text verdict) → unsound' ≡ unsound_after unsound p verdict
        → SoFar before h0 h c0 c text unsound → (IsTrue h.is_observable → IsAudited objects notes h (p, verdict))
        → (IsTrue h.is_observable → YardRests files objects notes h h') → h'.is_observable ≡ h.is_observable → StaysOut c c' → SoFar rest h0 h' c0 c' text' unsound'
    goes_on before text text' unsound unsound' steps added recorded so audited rests is_observable back =
        subst (λ (t : List ℕ). SoFar rest h0 h' c0 c' t unsound') (sym added)
        (subst (λ (u : Option PartitionId). SoFar rest h0 h' c0 c' (text ++ line_of p (verdict_text verdict)) u) (sym recorded)
        (one_more text unsound (subst (λ (l : List PartitionId). SoFar l h0 h c0 c text unsound) steps so) audited rests is_observable back))

  pub ends : (h0 h : YardContent D S M) (c0 c : Control) (text : List ℕ) (unsound : Option PartitionId)
      → (so : SoFar [] h0 h c0 c text unsound) → AreAudited files objects notes h0 so.found
  ends h0 h c0 c text unsound so = record {
    all = subst (AreAll files objects notes h0) (append-nil (partitions_of so.found)) so.all;
    right = so.right;
  }
