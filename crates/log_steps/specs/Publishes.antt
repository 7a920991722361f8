-- A sync of a log's file, and then a new manifest.
use Rattle.std.specs.Prelude.{◌≡◌, ◌≢◌, ◌⊎◌, ℕ, List, Some, IsTrue}
use Rattle.tier_base.specs.declared.plain.FileName.{FileName}
use Rattle.tier_base.specs.declared.plain.FileName.TheVariants as file
use Rattle.tier_base.specs.Device.{Fate, Went, Dry}
use Rattle.disk_model.specs.Content.{Content, Files, Image, LeavesOnly, BeginsWith}

-- the files of an image of before
pub record IsLike (old : Content) (c : Files) : Type 0 where
  pub image : Files
  pub was : Image old image
  pub same : (n : FileName) → c n ≡ image n

-- an image of before, or one with the new manifest where the synced file is whole
pub record Between (name : FileName) (bytes : List ℕ) (old : Content) (c : Files) : Type 0 where
  pub image : Files
  pub was : Image old image
  pub others : (n : FileName) → n ≢ file.Manifest → c n ≡ image n
  pub manifest : (c file.Manifest ≡ image file.Manifest)
      ⊎ ((c file.Manifest ≡ Some bytes) × BeginsWith (old.files name) (c name))

-- a sync of this file and then this manifest
pub record Publishes (name : FileName) (bytes : List ℕ) (fate : Fate) (old new : Content) : Type 0 where
  pub is_observable : new.is_observable ≡ old.is_observable
  pub files : IsTrue old.is_observable → (n : FileName) → n ≢ file.Manifest → new.files n ≡ old.files n
  pub since : LeavesOnly old new (Between name bytes old)
  pub dry : fate ≡ Dry → (c : Files) → Image new c → Image old c
  pub dry_files : fate ≡ Dry → IsTrue old.is_observable → (n : FileName) → new.files n ≡ old.files n
  pub durable : fate ≡ Went → (c : Files) → Image new c → c file.Manifest ≡ Some bytes
  pub whole : fate ≡ Went → (c : Files) → Image new c → BeginsWith (old.files name) (c name)
  -- no image is new, or the synced file is whole in each
  pub settled : ((c : Files) → Image new c → IsLike old c)
      ⊎ ((c : Files) → Image new c → BeginsWith (old.files name) (c name))

-- a crash at any moment between leaves what it might have left before, or what it may leave now
abbrev pub LeavesEither : Content → Content → Type 0
LeavesEither old new = LeavesOnly old new (λ c. Image old c ⊎ Image new c)
