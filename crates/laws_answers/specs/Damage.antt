-- Journals in which no command was answered `Damaged`.
use Rattle.std.specs.Prelude.{◌≡◌, ℕ, List}
use Rattle.std.specs.List.{AllByRecursion}
use Rattle.plain_log.specs.declared.answer.Answer.TheVariants.{Damaged}
use Rattle.plain_log.specs.declared.answer.Place.{Place}
use Rattle.plain_log.specs.declared.journal.Event.TheVariants.{Answers}
use Rattle.plain_log.specs.declared.journal.JournalEntry.{JournalEntry}

-- the entry isn't such an answer
abbrev pub TellsNoDamage : JournalEntry → Type 0
TellsNoDamage entry = (place : Place) (at : ℕ) → entry.event ≡ Answers (Damaged place at) → ⊥

-- none of a journal is
abbrev pub MeetsNoDamage : List JournalEntry → Type 0
MeetsNoDamage journal = AllByRecursion TellsNoDamage journal
