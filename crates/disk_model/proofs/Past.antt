-- The history after one event more.
use Rattle.std.proofs.Common.{◌≡◌, ◌≢◌, Bool, false, cond, inl, inr, List, [], ◌∷◌, ◌++◌, Option, ℕ, ◌∙◌, sym, ap, subst, refl}
use Rattle.tier_base.specs.declared.plain.FileName.{FileName}
use Rattle.disk_model.specs.declared.history.Op.{Op}
use Rattle.disk_model.specs.declared.history.Event.{Event}
use Rattle.disk_model.specs.Content.{Files}
use Rattle.disk_model.specs.Shelf.{Becomes}
use Rattle.disk_model.specs.Steps.{Step, same_name, changed}
use Rattle.disk_model.specs.History.{step_of, recorded, newest_first, past_of}
use Rattle.disk_model.proofs.Names.{becomes_changed, cases_name, same_name_refl, same_name_other}

newest_first-push : (past : List Step) (es : List Event) (e : Event) → newest_first past (es ++ e ∷ []) ≡ recorded (newest_first past es) e
newest_first-push past [] e = refl
newest_first-push past (x ∷ es) e = newest_first-push (recorded past x) es e

-- one event more is one step more
pub pushed : (events events' : List Event) (crashed crashed' : Bool) (op : Op) → events' ≡ events ++ (record { op = op; crashed = crashed }) ∷ [] → crashed' ≡ false
    → past_of events' crashed' ≡ step_of (past_of events crashed) op ∷ past_of events crashed
pushed events events' crashed crashed' op is not_crashed =
    ap (λ (b : Bool). past_of events' b) not_crashed ∙ ap (newest_first []) is ∙ newest_first-push [] events (record { op = op; crashed = crashed })

-- the files after a step that changes one
pub stored : (V : List Step → Files) (s : Step) (past past' : List Step) (old new : Files) (name : FileName) (make : Option (List ℕ) → Option (List ℕ)) → past' ≡ s ∷ past → Becomes name make old new → ((n : FileName) → old n ≡ V past n)
    → ((n : FileName) → V (s ∷ past) n ≡ changed name make (V past) n) → (n : FileName) → new n ≡ V past' n
stored V s past past' old new name make is becomes same step n =
    becomes_changed name make old new (V past) becomes same n ∙ sym (step n) ∙ ap (λ (l : List Step). V l n) (sym is)

-- the files that are those after the last step
pub stored_as : (V : List Step → Files) (s : Step) (past past' : List Step) (new : Files) → past' ≡ s ∷ past → ((n : FileName) → new n ≡ V (s ∷ past) n) → (n : FileName) → new n ≡ V past' n
stored_as V s past past' new is same n = same n ∙ ap (λ (l : List Step). V l n) (sym is)

-- the synced bytes after a sync
pub synced_as : (name : FileName) (old new : Files) (read kept : Files) → new name ≡ old name → ((n : FileName) → n ≢ name → new n ≡ kept n) → ((n : FileName) → old n ≡ read n) → (n : FileName) → new n ≡ cond (same_name n name) (read n) (kept n)
synced_as name old new read kept there others same n = elim (cases_name n name) [
  | inl e ↦ subst (λ (m : FileName). new m ≡ cond (same_name m name) (read m) (kept m)) (sym e) (there ∙ same name ∙ sym (ap (λ (b : Bool). cond b (read name) (kept name)) (same_name_refl name)))
  | inr ne ↦ others n ne ∙ sym (ap (λ (b : Bool). cond b (read n) (kept n)) (same_name_other n name ne))
]
