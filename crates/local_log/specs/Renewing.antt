-- A new manifest in the place of the old one, after which files that it doesn't list are removed.
use Rattle.std.specs.Prelude.{◌≡◌, ◌≢◌, ◌⊎◌, ℕ, List, Some, None, IsTrue}
use Rattle.tier_base.specs.declared.plain.FileName.{FileName}
use Rattle.tier_base.specs.declared.plain.FileName.TheVariants as file
use Rattle.tier_base.specs.Device.{Fate, Went, Dry}
use Rattle.tier_base.specs.Told.{In}
use Rattle.disk_model.specs.Content.{Content, Files, Image, LeavesOnly}
use Rattle.log_steps.specs.Publishes.{LeavesEither}
use Rattle.log_steps.specs.Rewrites.{Rewritten}

-- the new manifest, and the files of an image, of which those of these names may be gone
pub record HasNew (bytes : List ℕ) (names : List FileName) (image c : Files) : Type 0 where
  pub manifest : c file.Manifest ≡ Some bytes
  pub others : (n : FileName) → n ≢ file.Manifest → (c n ≡ image n) ⊎ (In n names × (c n ≡ None))

-- an image of before, or one with the new manifest
pub record Renewed (bytes : List ℕ) (names : List FileName) (old : Content) (c : Files) : Type 0 where
  pub image : Files
  pub was : Image old image
  pub is : ((n : FileName) → c n ≡ image n) ⊎ HasNew bytes names image c

-- the manifest is replaced, and then files are removed
pub record Renews (bytes : List ℕ) (names : List FileName) (fate : Fate) (old new : Content) : Type 0 where
  pub is_observable : new.is_observable ≡ old.is_observable
  pub since : LeavesOnly old new (Renewed bytes names old)
  pub dry : fate ≡ Dry → (c : Files) → Image new c → Image old c
  pub dry_files : fate ≡ Dry → IsTrue old.is_observable → (n : FileName) → new.files n ≡ old.files n
  pub durable : fate ≡ Went → (c : Files) → Image new c → c file.Manifest ≡ Some bytes
  pub files : fate ≡ Went → IsTrue old.is_observable → (n : FileName) → n ≢ file.Manifest
      → (new.files n ≡ old.files n) ⊎ (In n names × (new.files n ≡ None))
  pub gone : fate ≡ Went → IsTrue old.is_observable → (n : FileName) → In n names → new.files n ≡ None
  -- no file was removed, or each image has the new manifest
  pub phase : ((c : Files) → Image new c → Rewritten bytes old c)
      ⊎ ((c : Files) → Image new c → c file.Manifest ≡ Some bytes)
  -- at no moment there was more than before or now, or each image has the new manifest
  pub between : LeavesEither old new ⊎ ((c : Files) → Image new c → c file.Manifest ≡ Some bytes)
