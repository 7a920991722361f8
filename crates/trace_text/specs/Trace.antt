-- A trace: the answers of a run, as text. The partitions' journals come one after another, and a journal has a line for
-- each of its entries. SP is a space and LF a line feed; one space separates two words, and LF ends every line.
--
--   line    = partition SP actor SP number SP event LF    number: the command's place in its actor's list, from 0
--   event   = begin                                       the command has begun, and its first turn left it unanswered
--           | begin SP cut SP end                         the same of a join that cut its log, which ends there now
--           | = SP answer                                 the command was answered
--
-- An answer is its name and its fields. These have no fields:
--
--   Ok  Down  NotLeader  LastOffset  TooManySegments  DiskFault  EmptySegment  LastEpoch  NotInSync  DownBroker  Known
--   NotFollower  NoLeader  Stopped  MetaFault  StoreFault  NotJoined  Level  IsLeader  LostLead  Kept  IsUp
--   LastIncarnation  Empty  CopyOff  NoOffset
--
--   text                             of               fields
--   Ok n                             OkAt             what the command came to
--   Ok base last epoch               OkSpan           a batch's base offset, last offset and leader epoch
--   Refused cause                    Refused          the cause's name and its numbers: the module Names
--   DiskFault n                      DiskFaultAt      the end or start that the log was to have
--   BehindStart stable start         BehindStart      a broker's flushed end, the log start offset
--   Follows epoch                    Follows          a leader epoch; so in NeedsElection, Leads and StaleEpoch
--   Cut end                          Cut              a log's end; so in Passed and Up
--   BelowStart start                 BelowStart       the log start offset; so in Raised and NotAbove
--   Damaged place at                 Damaged          an object's key, a file's name or `meta`, then a place there
--   Rebuilt start                    Rebuilt          where a local log begins; so in Moved
--   Copied end                       Copied           a follower's end
--   Copied id start last             CopiedSegment    a remote segment and its offsets
--   Behind ack mark                  After           an acknowledged end, the high watermark
--   Overtaken state                  Overtaken        a remote segment's state
--   Dropped base last                Dropped          a local segment's offsets
--   Deleted id                       Deleted          a remote segment
--   AboveMark mark                   AboveMark        the high watermark
--   OutOfRange start end             OutOfRange       the log start offset, the log end offset
--   Run local base size stop hex     Run              from the local segment with this base offset
--   Run remote id size stop hex      Run              from this remote segment
--   Offset offset                    Offset           an offset
--
-- A number is decimal, without a leading zero. An id is a UUID with hyphens, in lower case. hex is a run's bytes,
-- each as two digits of 0 to 9 and a to f; a run has a byte at least.
use Rattle.std.specs.Prelude.{ℕ, List, [], ◌∷◌, ◌++◌, codes, flat_map, decimal, None, Some}
use Rattle.hex.specs.Hex.{encode_lower}
use Rattle.tier_base.specs.Key.{id_text, key_text}
use Rattle.plain_log.specs.declared.answer.Answer.{Answer}
use Rattle.plain_log.specs.declared.answer.Answer.TheVariants as answer
use Rattle.plain_log.specs.declared.answer.Place.{Place}
use Rattle.plain_log.specs.declared.answer.Place.TheVariants as place
use Rattle.plain_log.specs.declared.answer.Tier.{Tier}
use Rattle.plain_log.specs.declared.answer.Tier.TheVariants as tier
use Rattle.plain_log.specs.declared.journal.Event.{Event}
use Rattle.plain_log.specs.declared.journal.Event.TheVariants.{Begins, Answers}
use Rattle.plain_log.specs.declared.journal.JournalEntry.{JournalEntry}
use Rattle.trace_text.specs.Names.{file_name_text, state_text, stop_text, cause_name, cause_numbers}

-- the place of damage
abbrev pub place_text : Place → List ℕ
place_text (place.Key key) = key_text key
place_text (place.File name) = file_name_text name
place_text place.Meta = codes "meta"

-- the tier of a run, and the segment there
abbrev pub tier_words : Tier → List (List ℕ)
tier_words (tier.Local base) = codes "local" ∷ decimal base ∷ []
tier_words (tier.Remote id) = codes "remote" ∷ id_text id ∷ []

-- the name of an answer
abbrev pub name_of : Answer → List ℕ
name_of answer.Ok = codes "Ok"
name_of (answer.OkAt n) = codes "Ok"
name_of (answer.OkSpan base last epoch) = codes "Ok"
name_of answer.Down = codes "Down"
name_of answer.NotLeader = codes "NotLeader"
name_of (answer.Refused cause) = codes "Refused"
name_of answer.LastOffset = codes "LastOffset"
name_of answer.TooManySegments = codes "TooManySegments"
name_of answer.DiskFault = codes "DiskFault"
name_of (answer.DiskFaultAt n) = codes "DiskFault"
name_of answer.EmptySegment = codes "EmptySegment"
name_of answer.LastEpoch = codes "LastEpoch"
name_of answer.NotInSync = codes "NotInSync"
name_of answer.DownBroker = codes "DownBroker"
name_of (answer.BehindStart stable start) = codes "BehindStart"
name_of answer.Known = codes "Known"
name_of (answer.Follows epoch) = codes "Follows"
name_of (answer.NeedsElection epoch) = codes "NeedsElection"
name_of (answer.Leads epoch) = codes "Leads"
name_of answer.NotFollower = codes "NotFollower"
name_of (answer.StaleEpoch epoch) = codes "StaleEpoch"
name_of answer.NoLeader = codes "NoLeader"
name_of (answer.Cut end) = codes "Cut"
name_of answer.Stopped = codes "Stopped"
name_of (answer.Passed end) = codes "Passed"
name_of (answer.BelowStart start) = codes "BelowStart"
name_of answer.MetaFault = codes "MetaFault"
name_of answer.StoreFault = codes "StoreFault"
name_of (answer.Damaged place at) = codes "Damaged"
name_of (answer.Rebuilt start) = codes "Rebuilt"
name_of answer.NotJoined = codes "NotJoined"
name_of answer.Level = codes "Level"
name_of (answer.Moved start) = codes "Moved"
name_of (answer.Copied end) = codes "Copied"
name_of (answer.CopiedSegment id start last) = codes "Copied"
name_of answer.IsLeader = codes "IsLeader"
name_of (answer.Behind ack mark) = codes "Behind"
name_of answer.LostLead = codes "LostLead"
name_of (answer.Overtaken state) = codes "Overtaken"
name_of answer.Kept = codes "Kept"
name_of (answer.Dropped base last) = codes "Dropped"
name_of (answer.Raised start) = codes "Raised"
name_of (answer.Deleted id) = codes "Deleted"
name_of (answer.NotAbove start) = codes "NotAbove"
name_of (answer.AboveMark mark) = codes "AboveMark"
name_of answer.IsUp = codes "IsUp"
name_of answer.LastIncarnation = codes "LastIncarnation"
name_of (answer.Up end) = codes "Up"
name_of (answer.OutOfRange start end) = codes "OutOfRange"
name_of answer.Empty = codes "Empty"
name_of (answer.Run tier size stop bytes) = codes "Run"
name_of answer.CopyOff = codes "CopyOff"
name_of (answer.Offset offset) = codes "Offset"
name_of answer.NoOffset = codes "NoOffset"

-- the fields of an answer
abbrev pub fields_of : Answer → List (List ℕ)
fields_of (answer.OkAt n) = decimal n ∷ []
fields_of (answer.OkSpan base last epoch) = decimal base ∷ decimal last ∷ decimal epoch ∷ []
fields_of (answer.Refused cause) = cause_name cause ∷ cause_numbers cause
fields_of (answer.DiskFaultAt n) = decimal n ∷ []
fields_of (answer.BehindStart stable start) = decimal stable ∷ decimal start ∷ []
fields_of (answer.Follows epoch) = decimal epoch ∷ []
fields_of (answer.NeedsElection epoch) = decimal epoch ∷ []
fields_of (answer.Leads epoch) = decimal epoch ∷ []
fields_of (answer.StaleEpoch epoch) = decimal epoch ∷ []
fields_of (answer.Cut end) = decimal end ∷ []
fields_of (answer.Passed end) = decimal end ∷ []
fields_of (answer.BelowStart start) = decimal start ∷ []
fields_of (answer.Damaged place at) = place_text place ∷ decimal at ∷ []
fields_of (answer.Rebuilt start) = decimal start ∷ []
fields_of (answer.Moved start) = decimal start ∷ []
fields_of (answer.Copied end) = decimal end ∷ []
fields_of (answer.CopiedSegment id start last) = id_text id ∷ decimal start ∷ decimal last ∷ []
fields_of (answer.Behind ack mark) = decimal ack ∷ decimal mark ∷ []
fields_of (answer.Overtaken state) = state_text state ∷ []
fields_of (answer.Dropped base last) = decimal base ∷ decimal last ∷ []
fields_of (answer.Raised start) = decimal start ∷ []
fields_of (answer.Deleted id) = id_text id ∷ []
fields_of (answer.NotAbove start) = decimal start ∷ []
fields_of (answer.AboveMark mark) = decimal mark ∷ []
fields_of (answer.Up end) = decimal end ∷ []
fields_of (answer.OutOfRange start end) = decimal start ∷ decimal end ∷ []
fields_of (answer.Run tier size stop bytes) = tier_words tier ++ decimal size ∷ stop_text stop ∷ encode_lower bytes ∷ []
fields_of (answer.Offset offset) = decimal offset ∷ []
fields_of other = []

-- event = begin | begin SP cut SP end | = SP answer
abbrev pub event_words : Event → List (List ℕ)
event_words (Begins None) = codes "begin" ∷ []
event_words (Begins (Some end)) = codes "begin" ∷ codes "cut" ∷ decimal end ∷ []
event_words (Answers answer) = codes "=" ∷ name_of answer ∷ fields_of answer

-- each word after a space
abbrev pub spaced : List (List ℕ) → List ℕ
spaced [] = []
spaced (word ∷ words) = codes " " ++ (word ++ spaced words)

-- line = partition SP actor SP number SP event LF
unfoldable pub entry_line : ℕ → JournalEntry → List ℕ
entry_line partition entry =
    decimal partition ++ (spaced (decimal entry.actor.0 ∷ decimal entry.number ∷ event_words entry.event) ++ codes "\n")

-- the lines of a partition's journal
abbrev pub journal_text : ℕ → List JournalEntry → List ℕ
journal_text partition journal = flat_map (entry_line partition) journal

-- the journals of partitions, each with its number, one after another
abbrev pub trace_of : List (ℕ × List JournalEntry) → List ℕ
trace_of journals = flat_map (λ j. journal_text j.0 j.1) journals
