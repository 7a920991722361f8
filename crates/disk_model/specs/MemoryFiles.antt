-- What a disk in memory has beside what every disk reports: the bytes that are synced, and its fuse.
use Rattle.std.specs.Prelude.{ℕ, Option}
use Rattle.disk_model.specs.declared.memory_disk.MemoryDisk.{MemoryDisk}
use Rattle.disk_model.specs.Content.{Files}
use Rattle.disk_model.specs.Steps.{safe}

-- each file up to its last sync
abbrev pub safe_files : MemoryDisk → Files
safe_files m = safe m.history.past

-- how many more calls pass before each call fails, where it has a fuse
abbrev pub fuse_of : MemoryDisk → Option ℕ
fuse_of m = m.faults.fuse
