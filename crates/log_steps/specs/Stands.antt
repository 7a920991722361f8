-- What each image of an open log's disk has.
use Rattle.std.specs.Prelude.{◌≡◌, ℕ, List, Some}
use Rattle.tier_base.specs.declared.plain.FileName.TheVariants as file
use Rattle.disk_model.specs.Content.{Content, Files, Image}
use Rattle.log_manifest.specs.declared.manifest.Extent.{Extent}
use Rattle.log_steps.specs.Fronts.{Each, Agrees}

-- this manifest, the fronts that it lists, and those of the segments that are closed since
pub record ImageHolds (c f : Files) (bytes : List ℕ) (listed closed : List Extent) : Type 0 where
  pub manifest : c file.Manifest ≡ Some bytes
  pub listed_fronts : Each (Agrees c f) listed
  pub closed_fronts : Each (Agrees c f) closed

-- each image has them as the disk reads
abbrev pub ImagesHold : Content → List ℕ → List Extent → List Extent → Type 0
ImagesHold d bytes listed closed = (c : Files) → Image d c → ImageHolds c d.files bytes listed closed
