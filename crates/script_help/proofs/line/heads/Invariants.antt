use Rattle.std.proofs.Common.{◌≡◌, ◌<◌, ◌-◌, All, true, false, slice_index_or}
use Rattle.script_lang.specs.Words.{is_blank}
use Rattle.script_help.specs.Places.{IsHead}
use Rattle.script_help.proofs.line.heads.Given as goal

abbrev pub invariant-loop-i : goal.invariant-loop-i
invariant-loop-i l =
    All (λ head. IsHead l.text head.now) l.heads.items × (l.in_word ≡ true → (0 < l.i) × (is_blank (slice_index_or l.text (l.i - 1) 32) ≡ false))
