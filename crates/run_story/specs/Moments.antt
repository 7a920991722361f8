-- The moments of a journal: one for each entry, in their order, each with the plain log's state after its entry.
use Rattle.std.specs.Prelude.{◌≡◌, ℕ, ◌==◌, if◌then◌else◌, List, [], ◌∷◌, Option, Some}
use Rattle.std.specs.Prelude.{None, Result, Ok, Err, map, option_map}
use Rattle.tier_base.specs.declared.names.ActorId.{ActorId}
use Rattle.log_terms.specs.Log.{end_of}
use Rattle.plain_log.specs.declared.command.ActorList.{ActorList}
use Rattle.plain_log.specs.declared.command.Order.{Order}
use Rattle.plain_log.specs.declared.journal.JournalEntry.{JournalEntry}
use Rattle.plain_log.specs.declared.state.State.{State}
use Rattle.plain_log.specs.Runs.{order_of, entry_step, replay}
use Rattle.plain_executor.specs.Traces.{IsRefusedAt}
use Rattle.run_story.specs.declared.log_state.LogState.{LogState}
use Rattle.run_story.specs.declared.moment.Moment.{Moment}
use Rattle.run_story.specs.declared.telling.TellRefusal.{TellRefusal}
use Rattle.run_story.specs.declared.telling.TellRefusal.TheVariants.{NoStep, NoMemory}

-- the entry's command is this order, and the state after it is q; or the entry is no step, and the state is p still
abbrev pub Takes : List ActorList → State → JournalEntry → State → Option Order → Type 0
Takes lists p entry q None = (entry_step lists p entry ≡ None) × (q ≡ p)
Takes lists p entry q (Some order) = (entry_step lists p entry ≡ Some q) × (order_of lists entry ≡ Some order)

-- the moment of an entry that leads to this state
pub record IsMoment (lists : List ActorList) (entry : JournalEntry) (q : State) (m : Moment) : Type 0 where
  pub actor : m.actor ≡ entry.actor
  pub number : m.number ≡ entry.number
  pub broker : option_map (λ (order : Order). order.broker) (order_of lists entry) ≡ Some m.broker
  pub log_start : m.log_start ≡ q.registry.start
  pub high_watermark : m.high_watermark ≡ q.registry.mark
  pub ends : map (λ log. log.end) m.logs ≡ map (λ x. end_of x.log) q.brokers

-- the same, of an entry that is about this order, with these logs
pub record IsMomentOf (order : Order) (entry : JournalEntry) (q : State) (those : List LogState)
    (m : Moment) : Type 0 where
  pub actor : m.actor ≡ entry.actor
  pub number : m.number ≡ entry.number
  pub broker : m.broker ≡ order.broker
  pub log_start : m.log_start ≡ q.registry.start
  pub high_watermark : m.high_watermark ≡ q.registry.mark
  pub logs : m.logs ≡ those

-- an entry leads from p to q and has this moment; or it is no step, and the state is p still
abbrev pub Advances : List ActorList → State → JournalEntry → State → Option Moment → Type 0
Advances lists p entry q None = (entry_step lists p entry ≡ None) × (q ≡ p)
Advances lists p entry q (Some m) = (entry_step lists p entry ≡ Some q) × IsMoment lists entry q m

-- the moments of a journal that leads from p to q
abbrev pub AreMoments : List ActorList → State → List JournalEntry → State → List Moment → Type 0
AreMoments lists p [] q [] = q ≡ p
AreMoments lists p (entry ∷ journal) q (m ∷ moments) =
    (s : State) × (entry_step lists p entry ≡ Some s) × IsMoment lists entry s m × AreMoments lists s journal q moments
AreMoments lists p [] q (m ∷ moments) = ⊥
AreMoments lists p (entry ∷ journal) q [] = ⊥

-- whose command the moment is of, and its number
abbrev pub moment_key : Moment → ActorId × ℕ
moment_key m = (m.actor, m.number)

-- whose command the entry is of, and its number
abbrev pub entry_key : JournalEntry → ActorId × ℕ
entry_key entry = (entry.actor, entry.number)

-- the journal leads from p to q, and the moments are those of its entries, each once and in order
pub record IsStory (lists : List ActorList) (p : State) (journal : List JournalEntry) (q : State)
    (moments : List Moment) : Type 0 where
  pub replays : replay lists p journal ≡ Some q
  pub once : map moment_key moments ≡ map entry_key journal
  pub each : AreMoments lists p journal q moments

-- the moments of a journal, or its first entry that is no step
abbrev pub Tells : List ActorList → State → List JournalEntry → State → Result (List Moment) TellRefusal → Type 0
Tells lists p journal q (Ok moments) = IsStory lists p journal q moments
Tells lists p journal q (Err (NoStep place)) = IsRefusedAt lists p journal q place
Tells lists p journal q (Err NoMemory) = Unit {0}

-- the journal of a partition: the empty one where the trace has no line of it
abbrev pub journal_of : List (ℕ × List JournalEntry) → ℕ → List JournalEntry
journal_of [] partition = []
journal_of (j ∷ journals) partition = if j.0 == partition then j.1 else journal_of journals partition
