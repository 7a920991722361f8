-- The epoch at an offset is that of the last entry that starts at or below it.
use Rattle.std.proofs.Common.{◌≡◌, ◌∙◌, refl, ap, sym, ℕ, ◌<◌, ◌≤◌, List, [], ◌∷◌, Some, None, Bool, true, false, cond, arith, inl, inr}
use Rattle.std.specs.Prelude.{filter, nat_le}
use Rattle.std.proofs.lemmas.Bool.{le-leb, lt-leb, lt-ltb, le-ltb, cases_lt}
use Rattle.log_terms.specs.Line.{epoch_at}
use Rattle.epoch_line.specs.Line.{IsLine, last_epoch}

-- the entries that start at or below an offset
abbrev pub started : ℕ → List (ℕ × ℕ) → List (ℕ × ℕ)
started offset line = filter (λ entry. nat_le entry.1 offset) line

-- none has started below the first
pub started-none : (offset : ℕ) (entry : ℕ × ℕ) (line : List (ℕ × ℕ)) → IsLine (entry ∷ line) → offset < entry.1 → started offset (entry ∷ line) ≡ []
started-none offset entry [] h l = rw (lt-leb entry.1 offset l) refl
started-none offset entry (next ∷ line) h l = rw (lt-leb entry.1 offset l) (started-none offset next line h.3 (omega (arith, h.2.1, l)))

-- the first has started, so it comes first
pub started-cons : (offset : ℕ) (entry : ℕ × ℕ) (line : List (ℕ × ℕ)) → entry.1 ≤ offset → started offset (entry ∷ line) ≡ entry ∷ started offset line
started-cons offset entry line l = rw (le-leb entry.1 offset l) refl

-- the epoch at an offset
pub epoch_at-started : (line : List (ℕ × ℕ)) (offset : ℕ) → IsLine line → epoch_at line offset ≡ last_epoch (started offset line)
epoch_at-started [] offset h = refl
epoch_at-started (one ∷ []) offset h = single (nat_le one.1 offset)
  where
    single : (b : Bool) → cond b (Some one.0) None ≡ last_epoch (cond b (one ∷ []) [])
    single true = refl
    single false = refl
epoch_at-started (one ∷ two ∷ line) offset h =
    elim (cases_lt offset one.1) [
      | inl below ↦ rw (lt-ltb offset one.1 below) (ap last_epoch (sym (started-none offset one (two ∷ line) h below)))
      | inr above ↦ elim (cases_lt offset two.1) [
        | inl below ↦ rw (le-ltb offset one.1 above, lt-ltb offset two.1 below) (ap last_epoch (sym (started-cons offset one (two ∷ line) above ∙ ap (λ rest. one ∷ rest) (started-none offset two line h.3 below))))
        | inr over ↦ rw (le-ltb offset one.1 above, le-ltb offset two.1 over) (epoch_at-started (two ∷ line) offset h.3
            ∙ ap last_epoch (started-cons offset two line over)
            ∙ ap last_epoch (sym (started-cons offset one (two ∷ line) above ∙ ap (λ rest. one ∷ rest) (started-cons offset two line over))))
      ]
    ]
