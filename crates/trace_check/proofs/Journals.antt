-- Journals of a trace, and lists, by their places.
use Rattle.std.proofs.Common.{◌≡◌, ◌∙◌, sym, ap, subst, ℕ, zero, suc, ◌+◌, ◌<◌, ◌≤◌, List, [], ◌∷◌, ◌++◌, length, take, drop, map, get_or, arith}
use Rattle.std.specs.Prelude.{All}
use Rattle.std.proofs.lemmas.List.{map-append, map_more}
use Rattle.std.proofs.lemmas.List.Elements.{All-push}
use Rattle.plain_log.specs.declared.journal.JournalEntry.{JournalEntry}
use Rattle.trace_text.specs.declared.line.PartJournal.{PartJournal}
use Rattle.trace_text.specs.Read.{told}
use Rattle.trace_check.specs.Verdicts.{IsBeyond}

-- a list parts at a place
pub split_at : {X : Type 0} (xs : List X) (i : ℕ) (x : X) → i < length xs → x ≡ get_or xs i x → xs ≡ take i xs ++ x ∷ drop (suc i) xs
split_at [] i x l is = absurd (omega (arith, l))
split_at (y ∷ xs) zero x l is = ap (λ (z : _). z ∷ xs) (sym is)
split_at (y ∷ xs) (suc i) x l is = ap (λ (zs : List _). y ∷ zs) (split_at xs i x (omega (arith, l)) is)

-- what holds of all of a list holds of the one in its middle
pub all_in : {X : Type 0} (P : X → Type 0) (before after : List X) (x : X) → All P (before ++ x ∷ after) → P x
all_in P [] after x h = h 0 x (omega arith)
all_in P (y ∷ before) after x h = all_in P before after x (λ k d l. h (suc k) d (omega (arith, l)))

-- partitions within so many, and one more
pub within_more : (count : ℕ) (js : List PartJournal) (i : ℕ) (j : PartJournal) → i < length js → j ≡ get_or js i j → j.partition.0 < count
    → All (λ (k : ℕ × List JournalEntry). k.0 < count) (map told (take i js)) → All (λ (k : ℕ × List JournalEntry). k.0 < count) (map told (take (i + 1) js))
within_more count js i j l is one all =
    let P : ℕ × List JournalEntry → Type 0 = λ (k : ℕ × List JournalEntry). k.0 < count in
    subst (All P) (sym (map_more told js i j l)) (All-push P (map told (take i js)) (told (get_or js i j)) all (subst (λ (z : PartJournal). z.partition.0 < count) is one))

-- the first partition that isn't
pub is_beyond : (count : ℕ) (js : List PartJournal) (i : ℕ) (j : PartJournal) → i < length js → j ≡ get_or js i j
    → All (λ (k : ℕ × List JournalEntry). k.0 < count) (map told (take i js)) → count ≤ j.partition.0 → IsBeyond count (map told js) j.partition.0
is_beyond count js i j l is all past = record {
  before = map told (take i js);
  journal = j.journal.items;
  after = map told (drop (suc i) js);
  journals_are = ap (map told) (split_at js i j l is) ∙ map-append told (take i js) (j ∷ drop (suc i) js);
  within = all;
  beyond = past;
}
