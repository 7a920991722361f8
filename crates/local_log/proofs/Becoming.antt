-- A log by its fields.
use Rattle.std.proofs.Common.{◌≡◌, refl, IsTrue}
use Rattle.disk_model.specs.Content.{Content}
use Rattle.local_log.specs.Log.{Log, LogBecomes}

module _ {D : Type 0} where
  -- a log of these fields
  pub becomes_by : (content : D → Content) (then new : Log D) → new.settings ≡ then.settings → new.incarnation ≡ then.incarnation → new.local_start ≡ then.local_start
      → new.end ≡ then.end → new.flushed_end ≡ then.flushed_end → new.line ≡ then.line → new.closed ≡ then.closed → new.active ≡ then.active → new.broken ≡ then.broken
      → (content new.disk).is_observable ≡ (content then.disk).is_observable → (IsTrue (content then.disk).is_observable → new.batches ≡ then.batches) → LogBecomes content then new
  becomes_by content then new s i l e st ln cl ac br is_observable batches = record { fields = rw (← s, ← i, ← l, ← e, ← st, ← ln, ← cl, ← ac, ← br) refl; is_observable = is_observable; batches = batches }
