-- The laws of the plain log.
use Rattle.std.specs.Prelude.{◌≡◌, ℕ, ◌≤◌, Some, List, [], ◌∷◌, ◌++◌, false, slice_get}
use Rattle.std.specs.List.{AllByRecursion}
use mathlib.Core.List.{IsPrefix}
use Rattle.log_terms.specs.Batch.{epoch_of}
use Rattle.log_terms.specs.Log.{end_of}
use Rattle.plain_log.specs.declared.command.Config.{Config}
use Rattle.plain_log.specs.declared.command.Order.{Order}
use Rattle.plain_log.specs.declared.command.ActorList.{ActorList}
use Rattle.plain_log.specs.declared.journal.JournalEntry.{JournalEntry}
use Rattle.plain_log.specs.declared.state.State.{State}
use Rattle.plain_log.specs.declared.state.Broker.{Broker}
use Rattle.plain_log.specs.RowsOfLog.{offset_limit}
use Rattle.plain_log.specs.Step.{step}
use Rattle.plain_log.specs.Runs.{replay, IsPlainRun, IsInOrder}
use Rattle.plain_log.specs.Fresh.{fresh}
use Rattle.plain_log.specs.Safe.{LogSafe, PlainSafe}
use Rattle.plain_log.specs.Grows.{Grows}
use Rattle.plain_log.specs.Committed.{restarts, IsNoRestart, IsCommitted, IsLed}

-- each step keeps the safety rules
abbrev pub StepsKeepSafe : Type 0
StepsKeepSafe = (p : State) (order : Order) (entry : JournalEntry) (q : State) → step p order entry ≡ Some q
    → PlainSafe p → PlainSafe q

-- with each step paths grow, the log start offset doesn't fall, and each broker's log grows or is cut
abbrev pub StepsGrow : Type 0
StepsGrow = (p : State) (order : Order) (entry : JournalEntry) (q : State) → step p order entry ≡ Some q
    → PlainSafe p → Grows p q

-- each replay keeps the safety rules
abbrev pub ReplaysKeepSafe : Type 0
ReplaysKeepSafe = (lists : List ActorList) (p : State) (journal : List JournalEntry) (q : State)
    → replay lists p journal ≡ Some q → PlainSafe p → PlainSafe q

-- they hold of the fresh state
abbrev pub FreshIsSafe : Type 0
FreshIsSafe = (config : Config) → PlainSafe (fresh config)

-- no broker's log ends past the greatest log end offset
abbrev pub EndsAreWithin : Type 0
EndsAreWithin =
    (p : State) (b : ℕ) (x : Broker) → PlainSafe p → slice_get p.brokers b ≡ Some x → end_of x.log ≤ offset_limit

-- along a log or a path leader epochs never fall
abbrev pub EpochsNeverFall : Type 0
EpochsNeverFall = (p : State) (log front : List (List ℕ)) (batch next : List ℕ) → PlainSafe p → LogSafe p.paths log
    → IsPrefix ((front ++ batch ∷ []) ++ next ∷ []) log → epoch_of batch ≤ epoch_of next

-- a run answers each actor's commands once and in order
abbrev pub RunsAnswerInOrder : Type 0
RunsAnswerInOrder = (config : Config) (lists : List ActorList) (journal : List JournalEntry)
    → IsPlainRun config lists journal → IsInOrder journal

-- no step takes back what is committed, unless it answers an unclean election with a new epoch
abbrev pub CommittedGrows : Type 0
CommittedGrows = (p : State) (order : Order) (entry : JournalEntry) (q : State) → step p order entry ≡ Some q
    → PlainSafe p → restarts order.command entry.event ≡ false → IsPrefix p.committed q.committed

-- what is committed stays until the next unclean election that is answered with a new epoch
abbrev pub CommittedStays : Type 0
CommittedStays = (lists : List ActorList) (p : State) (journal : List JournalEntry) (q : State)
    → replay lists p journal ≡ Some q → PlainSafe p → AllByRecursion (IsNoRestart lists) journal
    → IsPrefix p.committed q.committed

-- while elections are clean, each run that a fetch was given is a part of one committed list
abbrev pub RunsAreCommitted : Type 0
RunsAreCommitted = (config : Config) (lists : List ActorList) (journal : List JournalEntry)
    → (run : IsPlainRun config lists journal) → run.last.unclean ≡ false → IsCommitted lists journal

-- whatever the elections, each run that a fetch was given is a part of the log of one leader epoch
abbrev pub RunsAreLed : Type 0
RunsAreLed = (config : Config) (lists : List ActorList) (journal : List JournalEntry) → IsPlainRun config lists journal
    → IsLed lists journal
