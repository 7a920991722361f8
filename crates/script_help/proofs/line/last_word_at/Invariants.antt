use Rattle.std.proofs.Common.{◌≡◌, ◌≤◌, ◌<◌, ◌-◌, true, false}
use Rattle.std.specs.List.{AllWithin, HoldsAt}
use Rattle.script_lang.specs.Words.{is_blank}
use Rattle.script_help.proofs.line.last_word_at.Given as goal

abbrev pub invariant-loop-i : goal.invariant-loop-i
invariant-loop-i l =
    (l.start ≤ l.i) × AllWithin (λ b. is_blank b ≡ false) l.text l.start l.i × (0 < l.start → HoldsAt (λ b. is_blank b ≡ true) l.text (l.start - 1))
