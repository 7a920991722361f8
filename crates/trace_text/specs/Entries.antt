-- Which entries can be written and read back: their numbers fit their types, ids have sixteen bytes, a run has a byte.
use Rattle.std.specs.Prelude.{ℕ, ◌<◌, ◌≤◌, ◌^◌, List, length, All, None, Some}
use Rattle.record_batch.specs.declared.refusal.BatchRefusal.{BatchRefusal}
use Rattle.record_batch.specs.declared.refusal.BatchRefusal.TheVariants as cause
use Rattle.tier_base.specs.declared.plain.FileName.{FileName}
use Rattle.tier_base.specs.declared.plain.FileName.TheVariants as file
use Rattle.tier_base.specs.Key.{IsId, IsKey}
use Rattle.plain_log.specs.declared.answer.Answer.{Answer}
use Rattle.plain_log.specs.declared.answer.Answer.TheVariants as answer
use Rattle.plain_log.specs.declared.answer.Place.{Place}
use Rattle.plain_log.specs.declared.answer.Place.TheVariants as place
use Rattle.plain_log.specs.declared.answer.Tier.{Tier}
use Rattle.plain_log.specs.declared.answer.Tier.TheVariants as tier
use Rattle.plain_log.specs.declared.journal.Event.{Event}
use Rattle.plain_log.specs.declared.journal.Event.TheVariants.{Begins, Answers}
use Rattle.plain_log.specs.declared.journal.JournalEntry.{JournalEntry}

-- the number fits a u64
abbrev pub Fits64 : ℕ → Type 0
Fits64 n = n < 2 ^ 64

-- the number fits a u32
abbrev pub Fits32 : ℕ → Type 0
Fits32 n = n < 2 ^ 32

-- the cause's numbers fit
abbrev pub IsCause : BatchRefusal → Type 0
IsCause (cause.BadCrc kept computed) = Fits32 kept × Fits32 computed
IsCause (cause.BadRecords at) = Fits32 at
IsCause other = Unit {0}

-- the base offset in a file's name fits
abbrev pub IsFileName : FileName → Type 0
IsFileName (file.Log base) = Fits64 base
IsFileName other = Unit {0}

-- the place is a key of its type, or a file's name
abbrev pub IsPlace : Place → Type 0
IsPlace (place.Key key) = IsKey key
IsPlace (place.File name) = IsFileName name
IsPlace place.Meta = Unit {0}

-- the segment of a tier is named by an offset, or by an id
abbrev pub IsTier : Tier → Type 0
IsTier (tier.Local base) = Fits64 base
IsTier (tier.Remote id) = IsId id

-- a run's bytes are bytes, and one at least
pub record AreRunBytes (bytes : List ℕ) : Type 0 where
  pub some : 1 ≤ length bytes
  pub each : All (λ b. b < 256) bytes

-- the answer's fields fit
abbrev pub IsAnswer : Answer → Type 0
IsAnswer (answer.OkAt n) = Fits64 n
IsAnswer (answer.OkSpan base last epoch) = Fits64 base × Fits64 last × Fits64 epoch
IsAnswer (answer.Refused cause) = IsCause cause
IsAnswer (answer.DiskFaultAt n) = Fits64 n
IsAnswer (answer.BehindStart stable start) = Fits64 stable × Fits64 start
IsAnswer (answer.Follows epoch) = Fits64 epoch
IsAnswer (answer.NeedsElection epoch) = Fits64 epoch
IsAnswer (answer.Leads epoch) = Fits64 epoch
IsAnswer (answer.StaleEpoch epoch) = Fits64 epoch
IsAnswer (answer.Cut end) = Fits64 end
IsAnswer (answer.Passed end) = Fits64 end
IsAnswer (answer.BelowStart start) = Fits64 start
IsAnswer (answer.Damaged place at) = IsPlace place × Fits64 at
IsAnswer (answer.Rebuilt start) = Fits64 start
IsAnswer (answer.Moved start) = Fits64 start
IsAnswer (answer.Copied end) = Fits64 end
IsAnswer (answer.CopiedSegment id start last) = IsId id × Fits64 start × Fits64 last
IsAnswer (answer.Behind ack mark) = Fits64 ack × Fits64 mark
IsAnswer (answer.Dropped base last) = Fits64 base × Fits64 last
IsAnswer (answer.Raised start) = Fits64 start
IsAnswer (answer.Deleted id) = IsId id
IsAnswer (answer.NotAbove start) = Fits64 start
IsAnswer (answer.AboveMark mark) = Fits64 mark
IsAnswer (answer.Up end) = Fits64 end
IsAnswer (answer.OutOfRange start end) = Fits64 start × Fits64 end
IsAnswer (answer.Run tier size stop bytes) = IsTier tier × Fits64 size × AreRunBytes bytes
IsAnswer (answer.Offset offset) = Fits64 offset
IsAnswer other = Unit {0}

-- the numbers of the event fit
abbrev pub IsEvent : Event → Type 0
IsEvent (Begins None) = Unit {0}
IsEvent (Begins (Some end)) = Fits64 end
IsEvent (Answers answer) = IsAnswer answer

-- the entry can be written and read back
pub record IsEntry (entry : JournalEntry) : Type 0 where
  pub actor : entry.actor.0 < 2 ^ 16
  pub number : Fits32 entry.number
  pub event : IsEvent entry.event
