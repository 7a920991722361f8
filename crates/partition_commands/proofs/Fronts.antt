-- Batches at a log's end, and the leader epochs that they make.
use Rattle.std.proofs.Common.{◌≡◌, ◌≢◌, inl, inr, ◌∙◌, sym, ap, refl, ℕ, List, [], ◌∷◌, ◌++◌, Some, None, IsOk, append-nil}
use Rattle.std.specs.List.{All, AllByRecursion}
use Rattle.std.proofs.lemmas.List.Elements.{All-from_recursion, recursion_from_All}
use Rattle.std.proofs.lemmas.Bool.{ne_eqb}
use Rattle.log_terms.specs.Batch.{base_of, epoch_of}
use Rattle.log_terms.specs.Log.{joined}
use Rattle.log_terms.proofs.Lists.{append_nil}
use Rattle.record_batch.specs.Check.{checked}
use Rattle.epoch_line.specs.Line.{last_epoch, assign, cut_end}
use Rattle.log_steps.specs.Fronts.{Each}
use Rattle.local_log.specs.Run.{snapshot, lined}
use Rattle.laws_partition.specs.Log.{entered}
use Rattle.laws_partition.specs.Taken.{parts}
use Rattle.laws_partition.proofs.Lines.{by_last, cases_eq, entered_same, last_of_push}
use Rattle.laws_partition.proofs.Parts.{parts_joined}

-- what holds of each item
each_recursion : {A : Type 0} (P : A → Type 0) (xs : List A) → Each P xs → AllByRecursion P xs
each_recursion P [] h = tt
each_recursion P (x ∷ xs) h = (h.0, each_recursion P xs h.1)

recursion_each : {A : Type 0} (P : A → Type 0) (xs : List A) → AllByRecursion P xs → Each P xs
recursion_each P [] h = tt
recursion_each P (x ∷ xs) h = (h.0, recursion_each P xs h.1)

pub each_all : {A : Type 0} (P : A → Type 0) (xs : List A) → Each P xs → All P xs
each_all P xs h = All-from_recursion P xs (each_recursion P xs h)

pub all_each : {A : Type 0} (P : A → Type 0) (xs : List A) → All P xs → Each P xs
all_each P xs h = recursion_each P xs (recursion_from_All P xs h)

-- checked batches that make the same bytes are the same
pub come_apart : (xs ys : List (List ℕ)) → Each (λ (batch : List ℕ). IsOk (checked batch)) xs → All (λ (batch : List ℕ). IsOk (checked batch)) ys → joined xs ≡ joined ys → xs ≡ ys
come_apart xs ys p q same = sym (parts_joined xs (each_all (λ (batch : List ℕ). IsOk (checked batch)) xs p)) ∙ (ap parts same ∙ parts_joined ys q)

-- a checked batch's bytes are those of one batch
pub whole_batch : (front rest : List (List ℕ)) (placed : List ℕ) → placed ≡ joined (front ++ rest) → Each (λ (batch : List ℕ). IsOk (checked batch)) (front ++ rest) → IsOk (checked placed)
    → front ++ rest ≡ placed ∷ []
whole_batch front rest placed bytes are ok =
    come_apart (front ++ rest) (placed ∷ []) are (All-from_recursion (λ (batch : List ℕ). IsOk (checked batch)) (placed ∷ []) (ok, tt)) (sym bytes ∙ sym (append-nil placed))

-- a front of one batch
pub front_one : (front rest : List (List ℕ)) (batch : List ℕ) → front ≢ [] → front ++ rest ≡ batch ∷ [] → front ≡ batch ∷ []
front_one [] rest batch some is = absurd (some refl)
front_one (f ∷ fs) rest batch some is =
    let first : f ≡ batch = cc in
    let none : fs ++ rest ≡ [] = cc in
    ap (λ (l : List (List ℕ)). f ∷ l) (append_nil fs rest none) ∙ ap (λ (k : List ℕ). k ∷ []) first

pub begun_entered : (line : List (ℕ × ℕ)) (e base : ℕ) → snapshot line e base ≡ entered line e base
begun_entered line e base = elim (by_last line) [
  | inl none ↦ rw none refl
  | inr some ↦ rw some.1 refl
]

-- the leader epochs of a log that gained an epoch ends with it
pub entered_last : (line : List (ℕ × ℕ)) (e base : ℕ) → last_epoch (entered line e base) ≡ Some e
entered_last line e base = elim (by_last line) [
  | inl none ↦ ap last_epoch (entered_none none) ∙ last_of_push (cut_end line base) (e, base)
  | inr some ↦ elim (cases_eq some.0 e) [
    | inl same ↦ ap last_epoch (entered_same line e base some.0 some.1 same) ∙ (some.1 ∙ ap (λ (k : ℕ). Some k) same)
    | inr differs ↦ ap last_epoch (entered_other some.0 some.1 differs) ∙ last_of_push (cut_end line base) (e, base)
  ]
]
  where
    entered_none : last_epoch line ≡ None → entered line e base ≡ assign line e base
    entered_none none = rw none refl

    entered_other : (last : ℕ) → last_epoch line ≡ Some last → last ≢ e → entered line e base ≡ assign line e base
    entered_other last is differs = rw (is, ne_eqb last e differs) refl

-- further batches of the last epoch leave the line
lined_same : (line : List (ℕ × ℕ)) (e : ℕ) (front : List (List ℕ)) → last_epoch line ≡ Some e → AllByRecursion (λ batch. epoch_of batch ≡ e) front → lined line front ≡ line
lined_same line e [] last all = refl
lined_same line e (batch ∷ front) last all =
    let one : snapshot line (epoch_of batch) (base_of batch) ≡ line = begun_entered line (epoch_of batch) (base_of batch) ∙ entered_same line (epoch_of batch) (base_of batch) e last (sym all.0) in
    ap (λ (l : List (ℕ × ℕ)). lined l front) one ∙ lined_same line e front last all.1

-- batches of one epoch enter it where the first begins
pub lined_entered : (line : List (ℕ × ℕ)) (e base : ℕ) (batch : List ℕ) (front : List (List ℕ)) → AllByRecursion (λ b. epoch_of b ≡ e) (batch ∷ front) → base_of batch ≡ base
    → lined line (batch ∷ front) ≡ entered line e base
lined_entered line e base batch front all is =
    let one : snapshot line (epoch_of batch) (base_of batch) ≡ entered line e base = begun_entered line (epoch_of batch) (base_of batch) ∙ rw (all.0, is) refl in
    ap (λ (l : List (ℕ × ℕ)). lined l front) one ∙ lined_same (entered line e base) e front (entered_last line e base) all.1
