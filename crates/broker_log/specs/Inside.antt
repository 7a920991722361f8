-- What the fields of a broker's log mean, and what they keep.
use Rattle.std.specs.Prelude.{◌≡◌, false}
use Rattle.local_log.specs.Log.{AreSettings}
use Rattle.broker_log.specs.Seen.{LogState, Up, Down, Away}
use Rattle.broker_log.specs.declared.place.LogOrDisk.{LogOrDisk}
use Rattle.broker_log.specs.declared.place.LogOrDisk.TheVariants as place
use Rattle.broker_log.specs.declared.broker.BrokerLog.TheInside.{Inside}

module _ {D : Type 0} where
  abbrev pub kept_of : LogOrDisk D → LogState D
  kept_of (place.Up log) = Up log
  kept_of (place.Down settings disk) = Down settings disk
  kept_of place.Away = Away

  abbrev pub kept_in : Inside D → LogState D
  kept_in broker = kept_of broker.place

  -- an open log isn't broken, and one that is closed has a log's settings
  abbrev pub IsWell : LogOrDisk D → Type 0
  IsWell (place.Up log) = log.broken ≡ false
  IsWell (place.Down settings disk) = AreSettings settings
  IsWell place.Away = ⊥

  abbrev pub IsWellPlaced : Inside D → Type 0
  IsWellPlaced broker = IsWell broker.place
