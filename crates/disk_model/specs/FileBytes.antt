-- A file of a disk in memory: its bytes, and those up to the last sync.
use Rattle.std.specs.Prelude.{ℕ, List, take, Option, option_map}
use Rattle.disk_model.specs.declared.file_bytes.FileBytes.{FileBytes}

-- the bytes
abbrev pub all_of : FileBytes → List ℕ
all_of held = held.bytes

-- the bytes up to the last sync
abbrev pub safe_of : FileBytes → List ℕ
safe_of held = take held.synced (all_of held)

-- what a read of a file gives
abbrev pub bytes_at : Option FileBytes → Option (List ℕ)
bytes_at file = option_map all_of file

-- what the crash of this disk leaves of a file
abbrev pub safe_at : Option FileBytes → Option (List ℕ)
safe_at file = option_map safe_of file
