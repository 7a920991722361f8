-- What is kept of a metadata log that came back, and what it reports.
use Rattle.std.specs.Prelude.{[], false}
use Rattle.disk_model.specs.declared.memory_disk.MemoryDisk.{MemoryDisk}
use Rattle.disk_model.specs.contracts.memory_disk.MemoryDiskDisk.TheImpl as disk
use Rattle.meta_log.specs.Content.{Content}
use Rattle.meta_log_file.specs.declared.marks.Tail.TheVariants.{Loose}
use Rattle.meta_log_file.specs.Log.{NoteLog}
use Rattle.meta_log_file.specs.Told.{told_of}
use Rattle.memory_yard.specs.declared.log_place.Kept.{Kept}
use Rattle.memory_yard.specs.declared.log_place.Kept.TheVariants as kept

-- the log, or a disk alone as a log that counts nothing
abbrev pub log_of : Kept → NoteLog MemoryDisk
log_of (kept.Log log) = log
log_of (kept.Bare d) =
    record { disk = d; counts = record { armed = false; counts = []; faults = 0 }; ends = []; tail = Loose }

-- what it reports
abbrev pub told : NoteLog MemoryDisk → Content
told log = told_of ((disk.ghosts).content log.disk)
