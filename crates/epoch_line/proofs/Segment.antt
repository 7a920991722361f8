-- The part of a line within a segment says the same of each of the segment's offsets.
use Rattle.std.proofs.Common.{◌≡◌, ◌∙◌, refl, ap, sym, ℕ, ◌^◌, ◌<◌, ◌≤◌, List, [], ◌∷◌, ◌++◌, Some, None, cond, arith, inl, inr, append-nil}
use Rattle.std.specs.Prelude.{filter, nat_le, ◌&&◌}
use Rattle.std.specs.declared.option.Option.{Option}
use Rattle.std.proofs.lemmas.Bool.{le-leb, lt-ltb, cases_lt}
use Rattle.std.proofs.lemmas.Bool.Decides.{nat_tests}
use Rattle.std.proofs.lemmas.List.Elements.{filter-append, filter_agree}
use Rattle.log_terms.specs.Line.{epoch_at}
use Rattle.epoch_line.specs.Line.{IsLine, last_epoch, at_base, within}
use Rattle.epoch_line.proofs.Holding.{started, started-cons, started-none, epoch_at-started}
use Rattle.epoch_line.proofs.Parts.{filter-filter, is_within, within-not, IsLine-within}

-- past a base, what has started is what started past it
past-base : (line : List (ℕ × ℕ)) (one : ℕ × ℕ) (base offset : ℕ) → IsLine (one ∷ line) → base < one.1 → started offset (one ∷ line) ≡ filter (is_within base offset) (one ∷ line)
past-base [] one base offset h l = rw (lt-ltb base one.1 l) refl
past-base (two ∷ line) one base offset h l = rw (lt-ltb base one.1 l) (ap (λ rest. cond (nat_le one.1 offset) (one ∷ rest) rest) (past-base line two base offset h.3 (omega (arith, h.2.1, l))))

-- what has started: up to a base, and past it
pub started-parts : (line : List (ℕ × ℕ)) (base offset : ℕ) → IsLine line → base ≤ offset → started offset line ≡ started base line ++ filter (is_within base offset) line
started-parts [] base offset h l = refl
started-parts (one ∷ []) base offset h l = elim (cases_lt base one.1) [
  | inl below ↦ past-base [] one base offset h below ∙ ap (λ front. front ++ filter (is_within base offset) (one ∷ [])) (sym (started-none base one [] h below))
  | inr above ↦ started-cons offset one [] (omega (arith, above, l)) ∙ (ap (λ rest. one ∷ rest) (sym (within-not one base offset [] above)) ∙ ap (λ front. front ++ filter (is_within base offset) (one ∷ [])) (sym (started-cons base one [] above)))
]
started-parts (one ∷ two ∷ line) base offset h l = elim (cases_lt base one.1) [
  | inl below ↦ past-base (two ∷ line) one base offset h below ∙ ap (λ front. front ++ filter (is_within base offset) (one ∷ two ∷ line)) (sym (started-none base one (two ∷ line) h below))
  | inr above ↦
      started-cons offset one (two ∷ line) (omega (arith, above, l))
      ∙ (ap (λ rest. one ∷ rest) (started-parts (two ∷ line) base offset h.3 l)
      ∙ (ap (λ back. (one ∷ started base (two ∷ line)) ++ back) (sym (within-not one base offset (two ∷ line) above))
      ∙ ap (λ front. front ++ filter (is_within base offset) (one ∷ two ∷ line)) (sym (started-cons base one (two ∷ line) above))))
]

-- the last epoch of two lists
last_epoch-append : (line more : List (ℕ × ℕ)) (one : ℕ × ℕ) → last_epoch (line ++ one ∷ more) ≡ last_epoch (one ∷ more)
last_epoch-append [] more one = refl
last_epoch-append (two ∷ []) more one = refl
last_epoch-append (two ∷ three ∷ line) more one = last_epoch-append (three ∷ line) more one

base-epoch : (at : Option ℕ) (base : ℕ) → last_epoch (at_base at base) ≡ at
base-epoch None base = refl
base-epoch (Some epoch) base = refl

-- a list with the base's epoch in front ends as the list that gave it
same-end : (line more : List (ℕ × ℕ)) (base : ℕ) → last_epoch (at_base (last_epoch line) base ++ more) ≡ last_epoch (line ++ more)
same-end line [] base = ap last_epoch (append-nil (at_base (last_epoch line) base)) ∙ (base-epoch (last_epoch line) base ∙ ap last_epoch (sym (append-nil line)))
same-end line (one ∷ more) base = last_epoch-append (at_base (last_epoch line) base) more one ∙ sym (last_epoch-append line more one)

started-base : (at : Option ℕ) (base offset : ℕ) → base ≤ offset → started offset (at_base at base) ≡ at_base at base
started-base None base offset l = refl
started-base (Some epoch) base offset l = rw (le-leb base offset l) refl

tests-agree : (base offset last : ℕ) → offset ≤ last → (entry : ℕ × ℕ) → (nat_le entry.1 offset && is_within base last entry) ≡ is_within base offset entry
tests-agree base offset last l entry = grind (arith, nat_tests)

-- each offset of the segment has its epoch
pub epoch_at-within : (line : List (ℕ × ℕ)) (base last offset : ℕ) → IsLine line → base ≤ 2 ^ 62 → base ≤ offset → offset ≤ last → epoch_at (within line base last) offset ≡ epoch_at line offset
epoch_at-within line base last offset h fits low high =
    let front = at_base (epoch_at line base) base in
    let inside : started offset (filter (is_within base last) line) ≡ filter (is_within base offset) line = filter-filter (λ e. nat_le e.1 offset) (is_within base last) line ∙ filter_agree (λ e. nat_le e.1 offset && is_within base last e) (is_within base offset) (tests-agree base offset last high) line in
    epoch_at-started (within line base last) offset (IsLine-within line base last h fits)
    ∙ (ap last_epoch (filter-append (λ e. nat_le e.1 offset) front (filter (is_within base last) line))
    ∙ (ap (λ xs. last_epoch (xs ++ started offset (filter (is_within base last) line))) (started-base (epoch_at line base) base offset low)
    ∙ (ap (λ ys. last_epoch (front ++ ys)) inside
    ∙ (ap (λ (o : Option ℕ). last_epoch (at_base o base ++ filter (is_within base offset) line)) (epoch_at-started line base h)
    ∙ (same-end (started base line) (filter (is_within base offset) line) base
    ∙ (ap last_epoch (sym (started-parts line base offset h low))
    ∙ sym (epoch_at-started line offset h)))))))
