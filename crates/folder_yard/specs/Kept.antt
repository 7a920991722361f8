-- The files of a folder that stay open.
use Rattle.std.specs.Prelude.{◌≢◌}
use Rattle.std.specs.List.{All}
use Rattle.tier_base.specs.declared.plain.FileName.{FileName}
use Rattle.folder_yard.specs.declared.kept.KeptFiles.{KeptFiles}

-- a file that isn't kept open
abbrev pub IsClosed : {F : Type 0} → FileName → KeptFiles F → Type 0
IsClosed name kept = All (λ k. k.name ≢ name) kept.files.items
