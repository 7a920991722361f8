-- Devices that are as a power cut leaves them: a disk that crashed, devices that are provided again, and a metadata log
-- that is opened from the disk of another one.
use Rattle.std.specs.Prelude.{◌≡◌, List}
use Rattle.disk_model.specs.Content.{Keeps as KeepsFiles}
use Rattle.disk_model.specs.Memory.{Crashes}
use Rattle.disk_model.specs.declared.disk.Disk.{Ghosts as DiskGhosts}
use Rattle.segment_meta.specs.declared.note.Note.{Note}
use Rattle.meta_log.specs.declared.log.MetaLog.{Ghosts as MetaGhosts}
use Rattle.meta_log.specs.Content.{Left, Keeps as KeepsNotes}
use Rattle.meta_log_file.specs.Told.{MayOpenWith as IsLeftOn, told_of}
use Rattle.cold_start.specs.ColdWorld.{IsCutDisk, IsCutLog}

module _ {D : Type 0} (disk : DiskGhosts D) where
  -- a disk that crashed
  abbrev pub CrashedDiskIsCut : Type 0
  CrashedDiskIsCut =
      (old new : D) → Crashes (disk.content old) (disk.content new) → IsCutDisk (disk.content old) (disk.content new)

  -- one that is provided with each file that it had
  abbrev pub KeptDiskIsCut : Type 0
  KeptDiskIsCut =
      (old new : D) → KeepsFiles (disk.content old) (disk.content new) → IsCutDisk (disk.content old) (disk.content new)

  -- a metadata log on a disk that a power cut left of another log's: it leaves no metadata events that can't be opened
  -- from there
  abbrev pub ReopenedLogIsCut : Type 0
  ReopenedLogIsCut = (old cut new : D) → IsCutDisk (disk.content old) (disk.content cut)
      → (disk.content new).is_observable ≡ (disk.content cut).is_observable
      → ((l : List Note) → Left (told_of (disk.content new)) l → IsLeftOn (disk.content cut) l)
      → IsCutLog (told_of (disk.content old)) (told_of (disk.content new))

-- a metadata log that is provided with each metadata event that it had
abbrev pub KeptLogIsCut : {M : Type 0} (meta : MetaGhosts M) → Type 0
KeptLogIsCut {M = M} meta =
    (old new : M) → KeepsNotes (meta.content old) (meta.content new) → IsCutLog (meta.content old) (meta.content new)
