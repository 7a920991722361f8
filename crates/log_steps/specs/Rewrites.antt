-- The first part of an opening: the manifest is written again, the files are cut to what it lists, and others are
-- removed.
use Rattle.std.specs.Prelude.{◌≡◌, ◌≢◌, ◌⊎◌, ℕ, List, Some, None, IsTrue}
use Rattle.tier_base.specs.declared.plain.FileName.{FileName}
use Rattle.tier_base.specs.declared.plain.FileName.TheVariants as file
use Rattle.tier_base.specs.Device.{Fate, Went}
use Rattle.tier_base.specs.Told.{OnlyAt, In}
use Rattle.disk_model.specs.Content.{Content, Files, Image, LeavesOnly, CutBack}
use Rattle.log_manifest.specs.declared.manifest.Extent.{Extent}
use Rattle.log_steps.specs.Fronts.{log_at, front, Each, KeepsFront}
use Rattle.log_steps.specs.Publishes.{IsLike}

-- one segment's file cut to its length, or whole again
abbrev pub AfterCut : Extent → Content → Files → Type 0
AfterCut e old c = (d : Files) × Image old d × OnlyAt (file.Log e.base) (CutBack e.len) d c

-- a segment's file is cut to its length, and synced
pub record Restores (e : Extent) (fate : Fate) (old new : Content) : Type 0 where
  pub is_observable : new.is_observable ≡ old.is_observable
  pub since : LeavesOnly old new (AfterCut e old)
  pub others : IsTrue old.is_observable → (n : FileName) → n ≢ file.Log e.base → new.files n ≡ old.files n
  pub cut : fate ≡ Went → IsTrue old.is_observable → log_at new.files e ≡ front old.files e
  -- each image has its front as it reads
  pub synced : fate ≡ Went → (c : Files) → Image new c → KeepsFront new.files c e

-- the same manifest, and each front that was there
pub record KeepsFronts (es : List Extent) (d c : Files) : Type 0 where
  pub manifest : c file.Manifest ≡ d file.Manifest
  pub fronts : Each (KeepsFront d c) es

-- an image of before, but for what isn't listed
abbrev pub AfterCuts : List Extent → Content → Files → Type 0
AfterCuts es old c = (d : Files) × Image old d × KeepsFronts es d c

-- the files of all segments: those of `done` are cut
pub record RestoresAll (es done rest : List Extent) (old new : Content) : Type 0 where
  pub is_observable : new.is_observable ≡ old.is_observable
  pub since : LeavesOnly old new (AfterCuts es old)
  pub kept : IsTrue old.is_observable → (n : FileName) → ((b : ℕ) → n ≢ file.Log b) → new.files n ≡ old.files n
  pub absent : IsTrue old.is_observable → (b : ℕ) → Each (λ e. b ≢ e.base) es
      → new.files (file.Log b) ≡ old.files (file.Log b)
  pub cut : IsTrue old.is_observable → Each (λ e. log_at new.files e ≡ front old.files e) done
  pub same : IsTrue old.is_observable → Each (λ e. log_at new.files e ≡ log_at old.files e) rest
  -- each image has their fronts as they read
  pub synced : (c : Files) → Image new c → Each (KeepsFront new.files c) done

-- no segment has this base
abbrev pub IsUnlisted : List Extent → ℕ → Type 0
IsUnlisted es b = Each (λ e. b ≢ e.base) es

-- a log file that isn't listed
abbrev pub IsOther : List Extent → FileName → Type 0
IsOther es (file.Log b) = IsUnlisted es b
IsOther es n = ⊥

-- a log file is removed, where it isn't listed
pub record RemovesOne (es : List Extent) (name : FileName) (old new : Content) : Type 0 where
  pub since : LeavesOnly old new (AfterCuts es old)
  pub others : IsTrue old.is_observable → (n : FileName) → (new.files n ≡ old.files n)
      ⊎ ((n ≡ name) × IsOther es name × (new.files n ≡ None))
  pub there : IsTrue old.is_observable → IsOther es name → new.files name ≡ None

-- log files of these names are removed that aren't listed: those of `done` are gone
pub record Removes (es : List Extent) (done : List FileName) (old new : Content) : Type 0 where
  pub is_observable : new.is_observable ≡ old.is_observable
  pub since : LeavesOnly old new (AfterCuts es old)
  pub manifest : IsTrue old.is_observable → new.files file.Manifest ≡ old.files file.Manifest
  pub listed : IsTrue old.is_observable → Each (λ e. log_at new.files e ≡ log_at old.files e) es
  pub absent : IsTrue old.is_observable → (b : ℕ) → old.files (file.Log b) ≡ None → new.files (file.Log b) ≡ None
  pub gone : IsTrue old.is_observable → (b : ℕ) → IsUnlisted es b → In (file.Log b) done → new.files (file.Log b) ≡ None

-- the manifest that was read, and each front that was there
pub record Underway (now : List ℕ) (es : List Extent) (old : Content) (c : Files) : Type 0 where
  pub image : Files
  pub was : Image old image
  pub manifest : c file.Manifest ≡ Some now
  pub fronts : Each (KeepsFront image c) es

-- an image of before, or one with the manifest that was read
abbrev pub Rewriting : List ℕ → List Extent → Content → Files → Type 0
Rewriting now es old c = IsLike old c ⊎ Underway now es old c

-- an image of before, perhaps with the manifest that was read
pub record Rewritten (now : List ℕ) (old : Content) (c : Files) : Type 0 where
  pub image : Files
  pub was : Image old image
  pub others : (n : FileName) → n ≢ file.Manifest → c n ≡ image n
  pub manifest : (c file.Manifest ≡ image file.Manifest) ⊎ (c file.Manifest ≡ Some now)

-- the manifest is written again, the listed files are cut, and others of these names are removed
pub record Rewrites (now : List ℕ) (es : List Extent) (names : List FileName) (fate : Fate)
    (old new : Content) : Type 0 where
  pub is_observable : new.is_observable ≡ old.is_observable
  pub since : LeavesOnly old new (Rewriting now es old)
  pub under : fate ≡ Went → (c : Files) → Image new c → Underway now es old c
  pub manifest : fate ≡ Went → IsTrue old.is_observable → new.files file.Manifest ≡ Some now
  pub files : fate ≡ Went → IsTrue old.is_observable → Each (λ e. log_at new.files e ≡ front old.files e) es
  pub absent : fate ≡ Went → IsTrue old.is_observable → (b : ℕ) → IsUnlisted es b → old.files (file.Log b) ≡ None
      → new.files (file.Log b) ≡ None
  pub gone : fate ≡ Went → IsTrue old.is_observable → (b : ℕ) → IsUnlisted es b → In (file.Log b) names
      → new.files (file.Log b) ≡ None
  -- each image has the fronts as they read
  pub synced : fate ≡ Went → (c : Files) → Image new c → Each (KeepsFront new.files c) es
  -- no file was cut, or each image has the manifest
  pub phase : ((c : Files) → Image new c → Rewritten now old c) ⊎ ((c : Files) → Image new c → Underway now es old c)
