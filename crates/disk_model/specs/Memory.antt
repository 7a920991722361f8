-- What a disk in memory does beside the calls of every disk.
use Rattle.std.specs.Prelude.{◌≡◌, ℕ, [], None, IsTrue, IsFalse}
use Rattle.tier_base.specs.declared.plain.FileName.{FileName}
use Rattle.tier_base.specs.Device.{Control}
use Rattle.disk_model.specs.Content.{Content, Files, Image, Elapses}

-- a disk with no files, which a crash leaves so
pub record IsEmptyDisk (d : Content) : Type 0 where
  pub is_observable : IsTrue d.is_observable
  pub files : (n : FileName) → d.files n ≡ None
  pub images : (c : Files) → Image d c → (n : FileName) → c n ≡ None

-- one of the images is left, and no image is new
pub record Crashes (old new : Content) : Type 0 where
  pub is_observable : new.is_observable ≡ old.is_observable
  pub image : Image old new.files
  pub fewer : (c : Files) → Image new c → Image old c
  pub time : Elapses old new

module _ {K : Type 0} {code : K → ℕ} where
  -- nothing that is reported has changed, but whether the plan alone decides which calls fail
  pub record DeviceStays (old new : Control code) : Type 0 where
    pub plan : new.plan ≡ old.plan
    pub armed : new.armed ≡ old.armed
    pub faults : new.faults ≡ old.faults
    pub made : (kind : K) → new.made kind ≡ old.made kind
    pub last_read : new.last_read ≡ old.last_read

  -- with a fuse
  pub record Fuses (old new : Control code) : Type 0 where
    pub stays : DeviceStays old new
    pub infallible : IsFalse new.infallible
    pub scripted : IsFalse new.scripted

  -- without one from now on: its plan doesn't decide alone of all calls if there was one
  pub record Unfuses (old new : Control code) : Type 0 where
    pub stays : DeviceStays old new
    pub scripted : new.scripted ≡ old.scripted
    pub infallible : old.plan ≡ [] → IsTrue new.infallible
    pub still_infallible : IsTrue old.infallible → IsTrue new.infallible
