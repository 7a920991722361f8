-- The summary of a run: how often each command got which answer, and the final state of each partition.
--
--   line                                      lines
--   COMMAND WORD COUNT                        commands in the order below, and for each the first words of its answers,
--                                             in the order of their bytes; no line for an answer that didn't occur
--   bytes N                                   one: the sizes of all runs that fetches returned, summed
--   partition P end E mark M start S          each partition from 0 on: the log end offset of broker 0, the high
--                                             watermark and the log start offset
--
-- Commands: append, flush, ack, join, follow, copy, trim, expire, clock, fetch. Words are separated by one space, a
-- line ends with LF, and a number is decimal digits.
use Rattle.std.specs.Prelude.{ℕ, ◌==◌, ◌&&◌, nat_eq, nat_lt, if◌then◌else◌, Bool, true}
use Rattle.std.specs.Prelude.{false, List, [], ◌∷◌, ◌++◌, codes, count_by}
use Rattle.std.specs.List.{flat_map}
use Rattle.std.specs.Fmt.{decimal}
use Rattle.std.specs.Cmp.Lexicographic.{pointwise}

-- a command was answered with this first word
pub record Answered : Type 0 where
  pub command : List ℕ
  pub word : List ℕ

-- where a partition ended
pub record Ended : Type 0 where
  pub partition : ℕ
  pub log_end : ℕ
  pub mark : ℕ
  pub start : ℕ

-- the commands in their order
abbrev pub commands : List (List ℕ)
commands =
    codes "append" ∷ codes "flush" ∷ codes "ack" ∷ codes "join" ∷ codes "follow" ∷ codes "copy" ∷ codes "trim" ∷
    codes "expire" ∷ codes "clock" ∷ codes "fetch" ∷ []

-- two words are the same
abbrev pub same : List ℕ → List ℕ → Bool
same v w = pointwise nat_eq v w

-- one word precedes the other by their bytes
abbrev pub stands_before : List ℕ → List ℕ → Bool
stands_before v [] = false
stands_before [] (b ∷ w) = true
stands_before (a ∷ v) (b ∷ w) = if a == b then stands_before v w else nat_lt a b

-- a word at its place among words in order, where it isn't there yet
abbrev pub with_word : List ℕ → List (List ℕ) → List (List ℕ)
with_word w [] = w ∷ []
with_word w (v ∷ vs) = if same w v then v ∷ vs else if stands_before w v then w ∷ v ∷ vs else v ∷ with_word w vs

-- the words that a command was answered with, in order
abbrev pub words_of : List ℕ → List Answered → List (List ℕ)
words_of command [] = []
words_of command (a ∷ answers) =
    if same a.command command then with_word a.word (words_of command answers) else words_of command answers

-- how often a command was answered with a word
abbrev pub count_of : List ℕ → List ℕ → List Answered → ℕ
count_of command word answers = count_by (λ (a : Answered). same a.command command && same a.word word) answers

-- line = command SP word SP count LF
abbrev pub answer_line : List Answered → List ℕ → List ℕ → List ℕ
answer_line answers command word = command ++ 32 ∷ word ++ 32 ∷ decimal (count_of command word answers) ++ 10 ∷ []

-- a command's lines
abbrev pub answer_lines : List Answered → List ℕ → List ℕ
answer_lines answers command = flat_map (answer_line answers command) (words_of command answers)

-- line = "partition" SP P SP "end" SP E SP "mark" SP M SP "start" SP S LF
abbrev pub end_line : Ended → List ℕ
end_line e =
    codes "partition " ++ decimal e.partition ++ codes " end " ++ decimal e.log_end ++ codes " mark "
    ++ decimal e.mark ++
    codes " start " ++ decimal e.start ++ 10 ∷ []

-- the summary of these answers, of runs with so many bytes, and of partitions that ended so
unfoldable pub summary_of : List Answered → ℕ → List Ended → List ℕ
summary_of answers bytes ends =
    flat_map (answer_lines answers) commands ++ codes "bytes " ++ decimal bytes ++ 10 ∷ flat_map end_line ends
