-- Files by name: one of them changed, and the others the same.
use Rattle.std.specs.Prelude.{◌≡◌, ◌≢◌, ◌⊎◌, ℕ, Bool, true, false, List, Option, refl}
use Rattle.std.proofs.Common.{sym, ◌∙◌, ap, subst, inl, inr, cond}
use Rattle.std.proofs.lemmas.Bool.{cases_Bool, eqb-true, eq-eqb, false_from_ne_true}
use Rattle.tier_base.specs.declared.plain.FileName.{FileName}
use Rattle.tier_base.specs.declared.plain.FileName.TheVariants.{Manifest, Log, Notes, Gate, Registry}
use Rattle.tier_base.specs.Told.{OnlyAt}
use Rattle.disk_model.specs.Content.{Files}
use Rattle.disk_model.specs.Steps.{same_name, changed}

pub same_name_refl : (n : FileName) → same_name n n ≡ true
same_name_refl Manifest = refl
same_name_refl (Log b) = eq-eqb b b refl
same_name_refl Notes = refl
same_name_refl Gate = refl
same_name_refl Registry = refl

pub same_name_true : (a b : FileName) → same_name a b ≡ true → a ≡ b
same_name_true Manifest Manifest h = refl
same_name_true (Log a) (Log b) h = ap Log (eqb-true a b h)
same_name_true Notes Notes h = refl
same_name_true Gate Gate h = refl
same_name_true Registry Registry h = refl
same_name_true a b h = cc

pub same_name_other : (n name : FileName) → n ≢ name → same_name n name ≡ false
same_name_other n name ne = false_from_ne_true (same_name n name) (λ h. ne (same_name_true n name h))

-- a name is this one or another
pub cases_name : (n name : FileName) → (n ≡ name) ⊎ (n ≢ name)
cases_name n name = elim (cases_Bool (same_name n name)) [
  | inl h ↦ inl (same_name_true n name h)
  | inr h ↦ inr (λ e. (let t : same_name n name ≡ true = subst (λ (m : FileName). same_name n m ≡ true) e (same_name_refl n) in let u : true ≡ false = sym t ∙ h in cc))
]

pub changed_there : (name : FileName) (make : Option (List ℕ) → Option (List ℕ)) (r : Files) → changed name make r name ≡ make (r name)
changed_there name make r = ap (λ (b : Bool). cond b (make (r name)) (r name)) (same_name_refl name)

pub changed_other : (name : FileName) (make : Option (List ℕ) → Option (List ℕ)) (r : Files) (n : FileName) → n ≢ name → changed name make r n ≡ r n
changed_other name make r n ne = ap (λ (b : Bool). cond b (make (r n)) (r n)) (same_name_other n name ne)

-- where both start alike, what becomes of one file is what is changed
pub becomes_changed : (name : FileName) (make : Option (List ℕ) → Option (List ℕ)) (old new r : Files) → OnlyAt name (λ before after. after ≡ make before) old new → ((n : FileName) → old n ≡ r n) → (n : FileName) → new n ≡ changed name make r n
becomes_changed name make old new r h same n = elim (cases_name n name) [
  | inl e ↦ subst (λ (m : FileName). new m ≡ changed name make r m) (sym e) (h.there ∙ ap make (same name) ∙ sym (changed_there name make r))
  | inr ne ↦ h.others n ne ∙ same n ∙ sym (changed_other name make r n ne)
]

-- what is changed is only there
pub changed_only : (name : FileName) (make : Option (List ℕ) → Option (List ℕ)) (r : Files) → OnlyAt name (λ before after. after ≡ make before) r (changed name make r)
changed_only name make r = record { there = changed_there name make r; others = changed_other name make r }
