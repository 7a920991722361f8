-- A word among the rows of a table, each a name and what it means.
use Rattle.std.proofs.Common.{◌≡◌, ◌∙◌, ap, ℕ, ◌+◌, ◌<◌, false, List, [], ◌∷◌, length, drop}
use Rattle.std.proofs.Math.ListN.{get_or}
use Rattle.std.proofs.lemmas.List.{at_drop_more}
use Rattle.std.specs.Prelude.{bytes_eq, if◌then◌else◌}
use Rattle.script_lang.specs.declared.names.Lead.{Lead}
use Rattle.script_lang.specs.declared.names.Lead.TheVariants as lead
use Rattle.script_lang.specs.Names.{begins_with}
use Rattle.script_lang.specs.Words.{is_digit}

-- what the first row of this name means, or else another
abbrev pub meaning : {R A : Type 0} → (R → List ℕ) → (R → A) → A → List ℕ → List R → A
meaning name means other word [] = other
meaning name means other word (row ∷ rows) = if bytes_eq word (name row) then means row else meaning name means other word rows

-- a row of another name says nothing
pub next_row : {R A : Type 0} (name : R → List ℕ) (means : R → A) (other : A) (word : List ℕ) (rows : List R) (i : ℕ) (none : R) (all : A) → i < length rows → bytes_eq word (name (get_or rows i none)) ≡ false
    → all ≡ meaning name means other word (drop i rows) → all ≡ meaning name means other word (drop (i + 1) rows)
next_row name means other word rows i none all within differs was =
    was
    ∙ (at_drop_more (meaning name means other word) rows i none within
    ∙ ap (λ b. if b then means (get_or rows i none) else meaning name means other word (drop (i + 1) rows)) differs)

-- what a word announces that has no row
abbrev pub lead_without_name : List ℕ → Lead
lead_without_name word = if begins_with is_digit word then lead.Actor else lead.Unknown
