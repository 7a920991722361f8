-- What callers see of a metadata log in files.
use Rattle.std.specs.Prelude.{◌≡◌, ℕ, List, Bool, IsTrue, IsFalse}
use Rattle.tier_base.specs.Device.{Fate, Went, Dry}
use Rattle.device_tally.specs.Tally.{Counts}
use Rattle.meta_log_file.specs.declared.marks.Tail.{Tail}

pub record NoteLog (D : Type 0) : Type 0 where
  pub disk : D
  pub counts : Counts
  -- where each event ends
  pub ends : List ℕ
  -- how the last writing call ended
  pub tail : Tail

-- whether a call that ended so was done
pub record IsDone (fate : Fate) (done : Bool) : Type 0 where
  pub went : fate ≡ Went → IsTrue done
  pub dry : fate ≡ Dry → IsFalse done
