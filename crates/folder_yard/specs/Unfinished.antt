-- The files that may be removed as unfinished: those of a log, and objects, with the ending. A stranger's file is none.
use Rattle.std.specs.Prelude.{◌≡◌, ◌⊎◌, ℕ, List, ◌++◌}
use Rattle.tier_base.specs.declared.names.SegmentId.{SegmentId}
use Rattle.tier_base.specs.declared.plain.FileName.{FileName}
use Rattle.tier_base.specs.declared.plain.Part.{Part}
use Rattle.tier_base.specs.Key.{IsId, id_text, part_text}
use Rattle.folder_yard.specs.Name.{IsNameInRange, file_text, unfinished}

-- the name of a file of a log, or of an object
abbrev pub IsOurs : List ℕ → Type 0
IsOurs text =
    ((name : FileName) × IsNameInRange name × (file_text name ≡ text))
    ⊎ ((id : SegmentId) × (part : Part) × IsId id × (id_text id ++ part_text part ≡ text))

-- and the ending after it
pub record IsUnfinishedName (text : List ℕ) : Type 0 where
  pub name : List ℕ
  pub ours : IsOurs name
  pub text_is : text ≡ name ++ unfinished
