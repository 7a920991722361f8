-- What a crash leaves of a disk in memory.
use Rattle.std.specs.Prelude.{◌≡◌}
use Rattle.tier_base.specs.declared.plain.FileName.{FileName}
use Rattle.disk_model.specs.declared.memory_disk.MemoryDisk.{MemoryDisk}
use Rattle.disk_model.specs.contracts.memory_disk.MemoryDiskDisk.TheImpl as disk
use Rattle.disk_model.specs.Memory.{Crashes}
use Rattle.disk_model.specs.MemoryFiles.{safe_files}

-- an image, and of each file what is synced
pub record DropsUnsynced (old new : MemoryDisk) : Type 0 where
  pub crashes : Crashes ((disk.ghosts).content old) ((disk.ghosts).content new)
  pub files : (n : FileName) → ((disk.ghosts).content new).files n ≡ safe_files old n
