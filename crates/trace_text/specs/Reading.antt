-- A line of a trace, word by word: the entry that it spells. The module Trace has the forms; other lines are invalid.
use Rattle.std.specs.Prelude.{ℕ, ◌-◌, ◌^◌, ◌==◌, if◌then◌else◌, List, [], ◌∷◌}
use Rattle.std.specs.Prelude.{codes, bytes_eq, Option, Some, None, option_map}
use Rattle.std.specs.List.{slice_split}
use Rattle.record_batch.specs.declared.refusal.BatchRefusal.TheVariants as cause
use Rattle.plain_log.specs.declared.answer.Answer.{Answer}
use Rattle.plain_log.specs.declared.answer.Answer.TheVariants as answer
use Rattle.plain_log.specs.declared.journal.Event.{Event}
use Rattle.plain_log.specs.declared.journal.Event.TheVariants.{Begins, Answers}
use Rattle.trace_text.specs.declared.line.Line.{Line}
use Rattle.trace_text.specs.Trace.{name_of}
use Rattle.trace_text.specs.Fields.{◌>>=◌, named, number_in, count_in, id_in, place_in, state_in, stop_in}
use Rattle.trace_text.specs.Fields.{cause_in, tier_in, bytes_in}

-- the answers without fields
abbrev pub bare_answers : List Answer
bare_answers =
    answer.Ok ∷ answer.Down ∷ answer.NotLeader ∷ answer.LastOffset ∷ answer.TooManySegments ∷ answer.DiskFault
    ∷ answer.EmptySegment ∷ answer.LastEpoch ∷ answer.NotInSync ∷ answer.DownBroker ∷ answer.Known
    ∷ answer.NotFollower ∷ answer.NoLeader ∷ answer.Stopped ∷ answer.MetaFault ∷ answer.StoreFault ∷ answer.NotJoined
    ∷ answer.Level ∷ answer.IsLeader ∷ answer.LostLead ∷ answer.Kept ∷ answer.IsUp ∷ answer.LastIncarnation
    ∷ answer.Empty ∷ answer.CopyOff ∷ answer.NoOffset ∷ []

-- the answers of one number
abbrev pub counted_answers : ℕ → List Answer
counted_answers n =
    answer.OkAt n ∷ answer.DiskFaultAt n ∷ answer.Follows n ∷ answer.NeedsElection n ∷ answer.Leads n
    ∷ answer.StaleEpoch n ∷ answer.Cut n ∷ answer.Passed n ∷ answer.BelowStart n ∷ answer.Rebuilt n ∷ answer.Moved n
    ∷ answer.Copied n ∷ answer.Raised n ∷ answer.NotAbove n ∷ answer.AboveMark n ∷ answer.Up n ∷ answer.Offset n ∷ []

-- the answers of two numbers
abbrev pub paired_answers : ℕ → ℕ → List Answer
paired_answers a b = answer.BehindStart a b ∷ answer.Behind a b ∷ answer.Dropped a b ∷ answer.OutOfRange a b ∷ []

-- an answer without fields
unfoldable pub bare_in : List ℕ → Option Answer
bare_in name = named name_of name bare_answers

-- an answer of one number
unfoldable pub counted_in : List ℕ → ℕ → Option Answer
counted_in name n = named name_of name (counted_answers n)

-- an answer of two numbers
unfoldable pub paired_in : List ℕ → ℕ → ℕ → Option Answer
paired_in name a b = named name_of name (paired_answers a b)

-- an answer of one field
unfoldable pub one_in : List ℕ → List ℕ → Option Answer
one_in name word =
    if bytes_eq name (codes "Refused") then option_map answer.Refused (cause_in word)
    else if bytes_eq name (codes "Overtaken") then option_map answer.Overtaken (state_in word)
    else if bytes_eq name (codes "Deleted") then option_map answer.Deleted (id_in word)
    else count_in word >>= λ n. counted_in name n

-- the refusal of a batch whose records are invalid
unfoldable pub bad_records_in : List ℕ → List ℕ → Option Answer
bad_records_in name at =
    if bytes_eq name (codes "BadRecords")
    then (number_in (2 ^ 32 - 1) at >>= λ n. Some (answer.Refused (cause.BadRecords n)))
    else None

-- an answer that reports damage
unfoldable pub damaged_in : List ℕ → List ℕ → Option Answer
damaged_in place at = place_in place >>= λ p. count_in at >>= λ n. Some (answer.Damaged p n)

-- an answer of two fields
unfoldable pub two_in : List ℕ → List ℕ → List ℕ → Option Answer
two_in name a b =
    if bytes_eq name (codes "Refused") then bad_records_in a b
    else if bytes_eq name (codes "Damaged") then damaged_in a b
    else count_in a >>= λ m. count_in b >>= λ n. paired_in name m n

-- the refusal of a batch whose checksum is wrong
unfoldable pub bad_crc_in : List ℕ → List ℕ → List ℕ → Option Answer
bad_crc_in name kept computed =
    if bytes_eq name (codes "BadCrc")
    then (
    number_in (2 ^ 32 - 1) kept >>= λ k.
    number_in (2 ^ 32 - 1) computed >>= λ c.
    Some (answer.Refused (cause.BadCrc k c))
    )
    else None

-- a copied segment
unfoldable pub copied_in : List ℕ → List ℕ → List ℕ → Option Answer
copied_in id start last =
    id_in id >>= λ i. count_in start >>= λ s. count_in last >>= λ l. Some (answer.CopiedSegment i s l)

-- an appended batch
unfoldable pub span_in : List ℕ → List ℕ → List ℕ → Option Answer
span_in base last epoch =
    count_in base >>= λ b. count_in last >>= λ l. count_in epoch >>= λ e. Some (answer.OkSpan b l e)

-- an answer of three fields
unfoldable pub three_in : List ℕ → List ℕ → List ℕ → List ℕ → Option Answer
three_in name a b c =
    if bytes_eq name (codes "Refused") then bad_crc_in a b c
    else if bytes_eq name (codes "Copied") then copied_in a b c
    else if bytes_eq name (codes "Ok") then span_in a b c
    else None

-- an answer other than a run
abbrev pub plain_in : List ℕ → List (List ℕ) → Option Answer
plain_in name [] = bare_in name
plain_in name (a ∷ []) = one_in name a
plain_in name (a ∷ b ∷ []) = two_in name a b
plain_in name (a ∷ b ∷ c ∷ []) = three_in name a b c
plain_in name other = None

-- the fields of a run
unfoldable pub run_of : List ℕ → List ℕ → List ℕ → List ℕ → List ℕ → Option Answer
run_of tier segment size stop hex =
    tier_in tier segment >>= λ t.
    count_in size >>= λ n.
    stop_in stop >>= λ s.
    bytes_in hex >>= λ bytes.
    Some (answer.Run t n s bytes)

-- a run
abbrev pub run_in : List (List ℕ) → Option Answer
run_in (tier ∷ segment ∷ size ∷ stop ∷ hex ∷ []) = run_of tier segment size stop hex
run_in other = None

-- the name and the fields of an answer
abbrev pub answer_in : List (List ℕ) → Option Answer
answer_in [] = None
answer_in (name ∷ words) = if bytes_eq name (codes "Run") then run_in words else plain_in name words

-- the words after begin
abbrev pub begun_in : List (List ℕ) → Option Event
begun_in [] = Some (Begins None)
begun_in (cut ∷ end ∷ []) =
    if bytes_eq cut (codes "cut") then (count_in end >>= λ n. Some (Begins (Some n))) else None
begun_in other = None

-- the words of an event
abbrev pub event_in : List (List ℕ) → Option Event
event_in [] = None
event_in (first ∷ words) =
    if bytes_eq first (codes "=") then option_map Answers (answer_in words)
    else if bytes_eq first (codes "begin") then begun_in words
    else None

-- the numbers before an event, and the event
unfoldable pub headed_in : List ℕ → List ℕ → List ℕ → List (List ℕ) → Option Line
headed_in partition actor number words =
    number_in 65535 partition >>= λ p.
    number_in 65535 actor >>= λ a.
    number_in (2 ^ 32 - 1) number >>= λ n.
    event_in words >>= λ event.
    Some (record {
      partition = record { 0 = p };
      entry = record { actor = record { 0 = a }; number = n; event = event };
    })

-- the words of a line
abbrev pub words_in : List (List ℕ) → Option Line
words_in (partition ∷ actor ∷ number ∷ words) = headed_in partition actor number words
words_in other = None

-- a line, without the LF at its end
unfoldable pub line_in : List ℕ → Option Line
line_in line = words_in (slice_split (λ b. b == 32) line)
