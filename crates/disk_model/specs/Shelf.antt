-- The files of a disk in memory.
use Rattle.std.specs.Prelude.{◌≡◌, List, [], ◌∷◌, ◌++◌, map, ℕ, Option, Some, None}
use Rattle.std.specs.Ordering.{nat_cmp}
use Rattle.std.specs.BTreeMap.{get, keys}
use Rattle.tier_base.specs.declared.plain.FileName.{FileName}
use Rattle.tier_base.specs.declared.plain.FileName.TheVariants.{Manifest, Log, Notes, Gate, Registry}
use Rattle.disk_model.specs.declared.file_bytes.FileBytes.{FileBytes}
use Rattle.disk_model.specs.declared.shelf.Shelf.{Shelf}
use Rattle.tier_base.specs.Told.{OnlyAt, bytes_in}
use Rattle.disk_model.specs.Content.{Files}
use Rattle.disk_model.specs.FileBytes.{bytes_at, safe_at}

-- a file that is there, with no bytes where it was absent
abbrev pub made : Option (List ℕ) → Option (List ℕ)
made file = Some (bytes_in file)

-- what reads
abbrev pub files_on : Shelf → Files
files_on shelf Manifest = bytes_at shelf.manifest
files_on shelf (Log base) = bytes_at (get nat_cmp shelf.logs base)
files_on shelf Notes = bytes_at shelf.notes
files_on shelf Gate = bytes_at shelf.gate
files_on shelf Registry = bytes_at shelf.registry

-- what the crash of this disk leaves
abbrev pub safe_on : Shelf → Files
safe_on shelf Manifest = safe_at shelf.manifest
safe_on shelf (Log base) = safe_at (get nat_cmp shelf.logs base)
safe_on shelf Notes = safe_at shelf.notes
safe_on shelf Gate = safe_at shelf.gate
safe_on shelf Registry = safe_at shelf.registry

-- one file is what is made of it, and the others stay
abbrev pub Becomes : FileName → (Option (List ℕ) → Option (List ℕ)) → Files → Files → Type 0
Becomes name make old new = OnlyAt name (λ before after. after ≡ make before) old new

-- the file begins with these bytes; an absent one has none
abbrev pub IsFileFront : List ℕ → Option (List ℕ) → Type 0
IsFileFront front file = (rest : List ℕ) × (bytes_in file ≡ front ++ rest)

-- the name of a file that is there
abbrev pub if_there : FileName → Option FileBytes → List FileName
if_there name None = []
if_there name (Some held) = name ∷ []

-- the names of the files
abbrev pub names_on : Shelf → List FileName
names_on shelf =
    map Log (keys shelf.logs)
    ++ if_there Manifest shelf.manifest
    ++ if_there Notes shelf.notes
    ++ if_there Gate shelf.gate
    ++ if_there Registry shelf.registry
