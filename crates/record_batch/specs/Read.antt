-- What reading gives that copies what it reads, unless memory runs out.
use Rattle.std.specs.Prelude.{◌≡◌, ℕ, List, Option, Some, None, Result, Ok, Err, map}
use Rattle.record_batch.specs.declared.head.Head.{Head}
use Rattle.record_batch.specs.declared.rec.Rec.{Rec}
use Rattle.record_batch.specs.declared.reading.ReadStop.{ReadStop}
use Rattle.record_batch.specs.declared.reading.ReadStop.TheVariants.{NoReading, NoMemory}
use Rattle.record_batch.specs.Record.{DeltaRec}
use Rattle.record_batch.specs.Check.{rec_in}

-- nothing is said where memory ran out
abbrev pub StopsAs : {Y : Type 0} → ReadStop → Option Y → Type 0
StopsAs NoReading read = read ≡ None
StopsAs NoMemory read = Unit {0}

-- what was read, seen by view
abbrev pub GivesView : {X Y : Type 0} → (X → Y) → Result X ReadStop → Option Y → Type 0
GivesView view (Ok x) read = read ≡ Some (view x)
GivesView view (Err why) read = StopsAs why read

-- a record, and what follows it
abbrev pub rec_behind : Rec → List ℕ → Rec × List ℕ
rec_behind r rest = (r, rest)

-- the records of a batch with this head, where all of them were read
abbrev pub all_read : Head → Result (List DeltaRec) ℕ → Option (List Rec)
all_read head (Ok rs) = Some (map (rec_in head) rs)
all_read head (Err left) = None
