-- What the fields of a metadata log in files mean, and what they keep.
use Rattle.disk_model.specs.Content.{Content}
use Rattle.meta_log_file.specs.declared.disk_log.DiskLog.TheInside.{Inside}
use Rattle.meta_log_file.specs.Stands.{HasNotes}
use Rattle.meta_log_file.specs.Log.{NoteLog}

module _ {D : Type 0} where
  abbrev pub log_in : Inside D → NoteLog D
  log_in log = record { disk = log.disk; counts = log.tally; ends = log.marks.ends.items; tail = log.marks.tail }

module _ {D : Type 0} (content : D → Content) where
  -- the disk has the events of the marks
  abbrev pub IsNoteLogSound : Inside D → Type 0
  IsNoteLogSound log = HasNotes (content log.disk) log.marks.ends.items log.marks.tail
