-- The laws of devices' faults in a run.
use Rattle.std.specs.Prelude.{List}
use Rattle.disk_model.specs.declared.disk.Disk.{Ghosts as DiskGhosts}
use Rattle.object_store.specs.declared.store.Store.{Ghosts as StoreGhosts}
use Rattle.meta_log.specs.declared.log.MetaLog.{Ghosts as MetaGhosts}
use Rattle.plain_log.specs.declared.command.ActorList.{ActorList}
use Rattle.plain_log.specs.declared.command.Config.{Config}
use Rattle.plain_log.specs.declared.command.Pace.{Pace}
use Rattle.plain_log.specs.Orders.{AreListsFor}
use Rattle.partition_world.specs.Fresh.{IsNewWorld}
use Rattle.partition_world.specs.Reaches.{Reaches}
use Rattle.partition_world.specs.Whole.{Whole}
use Rattle.laws_answers.specs.Counted.{FaultsAreCounted}
use Rattle.laws_answers.specs.Told.{FaultsAreTold}
use Rattle.laws_answers.specs.ByPlan.{AreScripted, HaveFailedByPlan}

module _ {D S M : Type 0} (disk : DiskGhosts D) (store : StoreGhosts S) (meta : MetaGhosts M) where
  -- whatever a schedule reaches from a new world, over any devices: each fault that is reported is counted
  abbrev pub ReachesCounted : Type 0
  ReachesCounted =
      (config : Config) (lists : List ActorList) (w : Whole D S M) (schedule : List Pace) (w' : Whole D S M)
      → AreListsFor config lists → IsNewWorld lists w → Reaches disk store meta w schedule w'
      → FaultsAreCounted disk store meta w w'

  -- and as many are reported of each device as its count has risen by
  abbrev pub ReachesTold : Type 0
  ReachesTold = (config : Config) (lists : List ActorList) (w : Whole D S M) (schedule : List Pace) (w' : Whole D S M)
      → AreListsFor config lists → IsNewWorld lists w → Reaches disk store meta w schedule w'
      → FaultsAreTold disk store meta w w'

  -- over devices of which the plans alone decide which calls fail: as many failed as they name of those that were made
  abbrev pub ReachesByPlan : Type 0
  ReachesByPlan = (w : Whole D S M) (schedule : List Pace) (w' : Whole D S M) → AreScripted disk store meta w
      → Reaches disk store meta w schedule w' → HaveFailedByPlan disk store meta w w'
