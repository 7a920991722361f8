-- What a crash may leave of a metadata log's disk.
use Rattle.std.specs.Prelude.{◌⊎◌, List, [], ◌∷◌, ◌++◌}
use Rattle.disk_model.specs.Content.{Content, Files, Image}
use Rattle.segment_meta.specs.declared.note.Note.{Note}
use Rattle.meta_log_file.specs.Notes.{OpensWithNotes}

-- each image opens
abbrev pub Reopens : Content → Type 0
Reopens d = (c : Files) → Image d c → (notes : List Note) × OpensWithNotes c notes

-- it opens as an image of before does
abbrev pub OpensLike : Content → Files → Type 0
OpensLike old c = (d : Files) × Image old d × ((notes : List Note) × OpensWithNotes d notes × OpensWithNotes c notes)

-- in the course of an append: as an image of before, or as the log of before with the event after it
abbrev pub Appending : Content → List Note → Note → Files → Type 0
Appending old notes note c = OpensLike old c ⊎ OpensWithNotes c (notes ++ note ∷ [])
