-- What the journals of a run come to, as its summary reports it.
use Rattle.std.specs.Prelude.{ℕ, List, [], ◌∷◌, map, flat_map, sum_by, Option, Some}
use Rattle.std.specs.Prelude.{None, option_map, unwrap_or, slice_get}
use Rattle.log_terms.specs.Log.{end_of}
use Rattle.load_gen.specs.Summary.{Answered, Ended, summary_of}
use Rattle.plain_log.specs.declared.answer.Answer.TheVariants as answer
use Rattle.plain_log.specs.declared.command.ActorList.{ActorList}
use Rattle.plain_log.specs.declared.command.Command.{Command}
use Rattle.plain_log.specs.declared.command.Config.{Config}
use Rattle.plain_log.specs.declared.command.Order.{Order}
use Rattle.plain_log.specs.declared.journal.Event.{Event}
use Rattle.plain_log.specs.declared.journal.Event.TheVariants.{Answers}
use Rattle.plain_log.specs.declared.journal.JournalEntry.{JournalEntry}
use Rattle.plain_log.specs.declared.state.State.{State}
use Rattle.plain_log.specs.Fresh.{fresh}
use Rattle.plain_log.specs.Runs.{order_of, replay}
use Rattle.script_lang.specs.Spelling.{command_words}
use Rattle.trace_text.specs.Trace.{name_of}
use Rattle.run_summary.specs.Outcome.{Outcome}

-- the first of a few words
abbrev pub first_word : List (List ℕ) → List ℕ
first_word [] = []
first_word (word ∷ words) = word

-- the name of a command, as a script spells it
abbrev pub command_name : Command → List ℕ
command_name command = first_word (command_words command)

-- what an entry gives: an answer with its command's name, or that a command begins
abbrev pub answer_in : Option Order → Event → List Answered
answer_in (Some order) (Answers answer) = record { command = command_name order.command; word = name_of answer } ∷ []
answer_in order event = []

-- the answers of a journal
abbrev pub answers_of : List ActorList → List JournalEntry → List Answered
answers_of lists journal = flat_map (λ (entry : JournalEntry). answer_in (order_of lists entry) entry.event) journal

-- the size of the run that a fetch was given
abbrev pub size_in : Event → ℕ
size_in (Answers (answer.Run tier size stop bytes)) = size
size_in other = 0

-- the sizes of all of them
abbrev pub bytes_of : List JournalEntry → ℕ
bytes_of journal = sum_by (λ (entry : JournalEntry). size_in entry.event) journal

-- the size of an entry about an order
abbrev pub ordered_size : Option Order → Event → ℕ
ordered_size (Some order) event = size_in event
ordered_size None event = 0

-- the sizes of those entries that are about an order of the lists
abbrev pub ordered_bytes : List ActorList → List JournalEntry → ℕ
ordered_bytes lists journal = sum_by (λ (entry : JournalEntry). ordered_size (order_of lists entry) entry.event) journal

-- the log end offset of broker 0
abbrev pub first_end : State → ℕ
first_end p = unwrap_or (option_map (λ x. end_of x.log) (slice_get p.brokers 0)) 0

-- where a partition ended
abbrev pub ended : ℕ → State → Ended
ended partition p = record {
  partition = partition;
  log_end = first_end p;
  mark = p.registry.mark;
  start = p.registry.start;
}

-- what a partition's journal comes to, or none where it is no run of the plain log
abbrev pub told_of : Config → ℕ → List ActorList → List JournalEntry → Option Outcome
told_of config partition lists journal = option_map
    (λ p. record { answers = answers_of lists journal; bytes = bytes_of journal; end = ended partition p })
    (replay lists (fresh config) journal)

-- the summary of partitions
abbrev pub summary_text : List Outcome → List ℕ
summary_text parts = summary_of (flat_map (λ (t : Outcome). t.answers) parts) (sum_by (λ (t : Outcome). t.bytes) parts)
    (map (λ (t : Outcome). t.end) parts)
