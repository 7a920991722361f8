-- A partition that is open: its world, and the disk that its registry is kept on.
--
--   form              says
--   Running           an open partition as contracts see it
--   IsRunningSound t          until it has ended, a power cut leaves the file of the world's registry
use Rattle.std.specs.Prelude.{◌≡◌, ◌≤◌, Bool, false, length}
use Rattle.tier_base.specs.Device.{Control}
use Rattle.disk_model.specs.Call.{call_code}
use Rattle.disk_model.specs.Content.{Content}
use Rattle.registry_disk.specs.Keeping.{KeepsFile}
use Rattle.partition_world.specs.Whole.{Whole}

pub record Running (D S M : Type 0) : Type 0 where
  pub world : Whole D S M
  -- the registry's disk
  pub reg : D
  -- the registry couldn't be kept, and all that is left to do is to close the partition
  pub ended : Bool

-- The registry's disk isn't armed, and the registry has a replica for each of 1 to 8 brokers. Until the partition has
-- ended a power cut leaves the file of its registry there.
pub record IsRunningSound {D S M : Type 0} (content : D → Content) (control : D → Control call_code)
    (t : Running D S M) : Type 0 where
  pub unarmed : (control t.reg).armed ≡ false
  pub some : 1 ≤ length t.world.partition_state.registry.replicas
  pub few : length t.world.partition_state.registry.replicas ≤ 8
  pub file : t.ended ≡ false → KeepsFile (content t.reg) t.world.partition_state.registry
