-- What batches have of a timestamp: the first whose greatest timestamp isn't below it.
--
-- Source: Kafka's ListOffsets by timestamp, which looks a record up in the first batch that may have it. Here whole
-- batches are looked up, and no record in them.
use Rattle.std.specs.Prelude.{◌≡◌, ℕ, ℤ, List, Some, None, IsOk}
use Rattle.std.specs.List.{AllByRecursion}
use Rattle.log_terms.specs.Log.{end_from}
use Rattle.record_batch.specs.Check.{checked}
use Rattle.plain_log.specs.RowsOfReads.{first_at}
use Rattle.time_find.specs.declared.run.Dated.{Dated}
use Rattle.time_find.specs.declared.run.Dated.TheVariants.{At, Behind}

-- batches, each checked
abbrev pub AreAllChecked : List (List ℕ) → Type 0
AreAllChecked batches = AllByRecursion (λ (batch : List ℕ). IsOk (checked batch)) batches

-- what a run has of a timestamp that is looked for from a log start on; one without batches ends at the offset
abbrev pub IsDated : ℤ → ℕ → ℕ → List (List ℕ) → Dated → Type 0
IsDated ts start offset batches (At n) = first_at ts start batches ≡ Some n
IsDated ts start offset batches (Behind n) = (first_at ts start batches ≡ None) × (n ≡ end_from offset batches)
