-- A run that was read of a broker's log is checked batches, whatever its disk is.
use Rattle.std.proofs.Common.{ℕ}
use Rattle.tier_base.specs.Device.{Control}
use Rattle.disk_model.specs.Call.{call_code}
use Rattle.disk_model.specs.Content.{Content}
use Rattle.record_batch.specs.Check.{AreChecked}
use Rattle.local_log.specs.Log.{Log}
use Rattle.local_log.specs.Reading.{IsCutOut, piece_of}
use Rattle.local_log.specs.declared.reading.RunOut.{RunOut}
use Rattle.local_log.proofs.CheckedBefore.{cut_checked}
use Rattle.broker_log.specs.Seen.{LogState, Up, Down, Away, WhileUp, OnDisk}
use Rattle.broker_log.specs.Read.{ReadsRun}

module _ {D : Type 0} (content : D → Content) (control : D → Control call_code) (offset limit mark : ℕ) (out : RunOut) where
  on_disk : (log : Log D) (new : LogState D) → OnDisk new (λ d. IsCutOut log.line (control d).last_read offset limit mark (piece_of log offset) out) → AreChecked out.bytes
  on_disk log (Up after) c = cut_checked log.line (control after.disk).last_read offset limit mark (piece_of log offset) out c
  on_disk log (Down settings disk) c = cut_checked log.line (control disk).last_read offset limit mark (piece_of log offset) out c
  on_disk log Away c = absurd c

  while_up : (old new : LogState D) → WhileUp old (λ log. OnDisk new (λ d. IsCutOut log.line (control d).last_read offset limit mark (piece_of log offset) out)) → AreChecked out.bytes
  while_up (Up log) new c = on_disk log new c
  while_up (Down settings disk) new c = absurd c
  while_up Away new c = absurd c

  pub reads_checked : (old new : LogState D) → ReadsRun content control old new offset limit mark out → AreChecked out.bytes
  reads_checked old new r = while_up old new r.part
