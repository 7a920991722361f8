-- In which order a journal reports each actor's commands.
use Rattle.std.specs.Prelude.{◌≡◌, ℕ, ◌+◌, ◌<◌, ◌==◌, if◌then◌else◌, Bool, true, false, List}
use Rattle.std.specs.Prelude.{[], ◌∷◌, length, Option, Some, None, IsSomeAnd}
use Rattle.plain_log.specs.declared.command.ActorList.{ActorList}
use Rattle.plain_log.specs.declared.journal.Event.{Event}
use Rattle.plain_log.specs.declared.journal.Event.TheVariants.{Begins, Answers}
use Rattle.plain_log.specs.declared.journal.JournalEntry.{JournalEntry}
use Rattle.plain_log.specs.Runs.{orders_of}

-- the actor's entries, in the journal's order
abbrev pub entries_of : ℕ → List JournalEntry → List JournalEntry
entries_of a [] = []
entries_of a (entry ∷ journal) = if entry.actor.0 == a then entry ∷ entries_of a journal else entries_of a journal

-- the actor's next command after an event of its n-th one, and whether it has begun; none begins twice
abbrev pub next_after : Event → ℕ → Bool → Option (ℕ × Bool)
next_after (Begins cut) n false = Some (n, true)
next_after (Begins cut) n true = None
next_after (Answers answer) n snapshot = Some (n + 1, false)

-- the entries of a list of so many commands, from the n-th one on, which has begun or not: a command that begins is
-- answered by the next entry
abbrev pub AreInTurn : ℕ → ℕ → Bool → List JournalEntry → Type 0
AreInTurn count n snapshot [] = Unit {0}
AreInTurn count n snapshot (entry ∷ entries) = (entry.number ≡ n) × (n < count)
    × IsSomeAnd (next_after entry.event n snapshot) (λ next. AreInTurn count next.0 next.1 entries)

-- of each actor the journal reports the commands of its list in their order: each is answered once, and begins at most
-- once, with no other entry of that actor between the two
abbrev pub IsInTurn : List ActorList → List JournalEntry → Type 0
IsInTurn lists journal = (a : ℕ) → AreInTurn (length (orders_of lists a)) 0 false (entries_of a journal)
