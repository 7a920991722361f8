-- A disk from which a log can be opened, now and after a crash, and what an opening leaves.
--
-- A crash in the course of an opening may leave the manifest of one image beside the files of another. So it isn't
-- enough that each image opens.
use Rattle.std.specs.Prelude.{◌≡◌, ◌⊎◌, ℕ, ◌+◌, List, Some, Ok}
use Rattle.tier_base.specs.declared.plain.FileName.TheVariants as file
use Rattle.disk_model.specs.Content.{Content, Files, Image}
use Rattle.log_manifest.specs.declared.manifest.Manifest.{Manifest}
use Rattle.log_manifest.specs.Reading.{manifest_in}
use Rattle.log_steps.specs.Fronts.{Each, Agrees}
use Rattle.log_steps.specs.Opens.{Opened, Opens}

-- what an image's manifest says
pub record Says (c : Files) (m : Manifest) : Type 0 where
  pub bytes : List ℕ
  pub there : c file.Manifest ≡ Some bytes
  pub reading : manifest_in bytes ≡ Ok m

-- each image opens, and has the fronts that the manifest of each image lists
pub record Reopens (d : Content) : Type 0 where
  pub opens : (c : Files) → Image d c → (o : Opened) × Opens c o
  pub fronts : (c x : Files) (m : Manifest) → Image d c → Image d x → Says x m → Each (Agrees c x) m.segments

-- under the next incarnation
abbrev pub raised : Opened → Opened
raised o = record { incarnation = o.incarnation + 1; local_start = o.local_start; batches = o.batches; line = o.line }

-- it opens as an image of before does
abbrev pub OpensLike : Content → Files → Type 0
OpensLike old c = (d : Files) × Image old d × ((o : Opened) × Opens d o × Opens c o)

-- in the course of an opening: it opens as an image of before, or as what was read, perhaps under the next incarnation
abbrev pub Opening : Content → Files → Type 0
Opening old c = OpensLike old c ⊎ ((o : Opened) × Opens old.files o × (Opens c o ⊎ Opens c (raised o)))
