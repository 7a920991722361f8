-- An entry has one spelling, and a front has one entry.
use Rattle.std.proofs.Common.{◌≡◌, ◌∙◌, sym, ap, refl, ℕ, ◌^◌, ◌<◌, ◌≤◌, List, [], ◌∷◌, ◌++◌, length, map, arith, append_assoc}
use Rattle.std.specs.List.{concat}
use Rattle.epoch_line.specs.Line.{IsLine}
use Rattle.tier_base.specs.Number.{number_text}
use Rattle.epoch_line.specs.Text.{entry_line, entry_text}
use Rattle.tier_base.proofs.Digits.{number-unique}

-- an epoch, a space, a start, a line feed
pub entry-parts : (entry : ℕ × ℕ) (rest : List ℕ) → entry_text entry rest ≡ number_text 32 entry.0 (number_text 10 entry.1 rest)
entry-parts entry rest = simp append_assoc

pub entry-unique : (one two : ℕ × ℕ) (r s : List ℕ) → one.0 < 2 ^ 31 → one.1 ≤ 2 ^ 62 → two.0 < 2 ^ 31 → two.1 ≤ 2 ^ 62 → entry_text one r ≡ entry_text two s → (one ≡ two) × (r ≡ s)
entry-unique one two r s a b c d e =
    let epochs = number-unique one.0 two.0 32 _ _ (omega (arith, a)) (omega (arith, c)) refl (sym (entry-parts one r) ∙ (e ∙ entry-parts two s)) in
    let starts = number-unique one.1 two.1 10 r s (omega (arith, b)) (omega (arith, d)) refl epochs.1 in
    (rw (epochs.0, starts.0) refl, starts.1)

-- the last entry of a line fits
pub last-fits : (line : List (ℕ × ℕ)) (entry : ℕ × ℕ) → IsLine (line ++ entry ∷ []) → (entry.0 < 2 ^ 31) × (entry.1 ≤ 2 ^ 62)
last-fits [] entry h = (h.0, h.1)
last-fits (one ∷ []) entry h = (h.3.0, h.3.1)
last-fits (one ∷ two ∷ line) entry h = last-fits (two ∷ line) entry h.3

-- the front of a line
pub line-front : (line more : List (ℕ × ℕ)) → IsLine (line ++ more) → IsLine line
line-front [] more h = tt
line-front (one ∷ []) more h = (h.0, h.1, tt, tt)
line-front (one ∷ two ∷ line) more h = (h.0, h.1, h.2, line-front (two ∷ line) more h.3)

-- the entries of one line are at the front of another's
pub record IsLonger (line longer : List (ℕ × ℕ)) (rest : List ℕ) : Type 0 where
  pub more : List (ℕ × ℕ)
  pub is : longer ≡ line ++ more
  pub text : rest ≡ concat (map entry_line more)

pub longer-text : (line longer : List (ℕ × ℕ)) (rest : List ℕ) → IsLine line → IsLine longer → length line ≤ length longer → concat (map entry_line longer) ≡ concat (map entry_line line) ++ rest → IsLonger line longer rest
longer-text [] longer rest h h' l e = record { more = longer; is = refl; text = sym e }
longer-text (one ∷ line) [] rest h h' l e = absurd (omega (arith, l))
longer-text (one ∷ line) (two ∷ longer) rest h h' l e =
    let same = entry-unique two one (concat (map entry_line longer)) (concat (map entry_line line) ++ rest) h'.0 h'.1 h.0 h.1 (e ∙ append_assoc (entry_line one) (concat (map entry_line line)) rest) in
    let behind = longer-text line longer rest h.3 h'.3 (omega (arith, l)) same.1 in
    record { more = behind.more; is = ap (λ x. x ∷ longer) same.0 ∙ ap (λ ys. one ∷ ys) behind.is; text = behind.text }

-- the lines of entries, and one line more
pub record IsOneMore (line longer : List (ℕ × ℕ)) (one : List ℕ) : Type 0 where
  pub entry : ℕ × ℕ
  pub is : longer ≡ line ++ entry ∷ []
  pub text : one ≡ entry_line entry

pub one-more : (line longer : List (ℕ × ℕ)) (text : List ℕ) → IsLine line → IsLine longer → map entry_line line ++ text ∷ [] ≡ map entry_line longer → IsOneMore line longer text
one-more [] [] text h h' e = absurd (cc)
one-more [] (one ∷ []) text h h' e = record { entry = one; is = refl; text = cc }
one-more [] (one ∷ two ∷ longer) text h h' e = absurd (cc)
one-more (one ∷ line) [] text h h' e = absurd (cc)
one-more (one ∷ line) (two ∷ longer) text h h' e =
    let line-same : entry_line one ≡ entry_line two = cc in
    let rest-same : map entry_line line ++ text ∷ [] ≡ map entry_line longer = cc in
    let same = entry-unique one two [] [] h.0 h.1 h'.0 h'.1 (ap (λ t. t ++ []) line-same) in
    let behind = one-more line longer text h.3 h'.3 rest-same in
    record { entry = behind.entry; is = ap (λ x. x ∷ longer) (sym same.0) ∙ ap (λ ys. one ∷ ys) behind.is; text = behind.text }
