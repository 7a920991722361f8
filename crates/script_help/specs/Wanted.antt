-- What may be reported as right after a script's bytes so far: only what still leads to a line that is valid.
use Rattle.std.specs.Prelude.{◌≡◌, ℕ, true, List, All, IfSome, codes, string_bytes}
use Rattle.script_help.specs.declared.wanted.Wanted.{Wanted}
use Rattle.script_help.specs.Asked.{HasWords, CanBeCompleted, then_word}

-- each word, the ends of the range, a record and digits lead on, and the line may end where that is reported
pub record LeadsOn (head : List ℕ) (wanted : Wanted) : Type 0 where
  pub words : All (λ word. CanBeCompleted (then_word head word.now)) wanted.words.items
  pub low : IfSome wanted.numbers (λ numbers. CanBeCompleted (then_word head (string_bytes numbers.low)))
  pub high : IfSome wanted.numbers (λ numbers. CanBeCompleted (then_word head (string_bytes numbers.high)))
  pub records : wanted.is_record ≡ true → CanBeCompleted (then_word head (codes "0,-,-"))
  pub digits : wanted.is_hex ≡ true → CanBeCompleted (then_word head (codes "00"))
  pub end : wanted.may_end ≡ true → HasWords head
