-- The laws of tiers that a run leaves.
use Rattle.std.specs.Prelude.{◌≡◌, ℕ, Some, slice_get}
use Rattle.tier_base.specs.declared.object_key.ObjectKey.{ObjectKey}
use Rattle.plain_log.specs.declared.state.State.{State as Plain}
use Rattle.remote_view.specs.Fold.{fold}
use Rattle.tier_safe.specs.Scene.{TierTask, Free, Scene}
use Rattle.tier_safe.specs.Safe.{TierSafe, BothSafe}
use Rattle.tier_sweep.specs.Rest.{AreNamed}
use Rattle.tier_sweep.specs.Sweeping.{SweptTier, IsSwept, IsUnderSweep}
use Rattle.tier_audit.specs.declared.verdict.Flaw.{Flaw}
use Rattle.tier_audit.specs.declared.verdict.Flaw.TheVariants.{Left}
use Rattle.tier_audit.specs.Whole.{AreReadable, IsWholeTier}
use Rattle.tier_audit.specs.Flaws.{IsFirstFlaw}

-- the objects and the metadata events of a scene
abbrev pub tier_in : Scene → SweptTier
tier_in c = record { objects = c.objects; notes = c.notes }

-- each object has an entry, and each finished copy is readable
abbrev pub SafeIsReadable : Type 0
SafeIsReadable = (c : Scene) (p : Plain) → BothSafe c p
    → AreNamed c.objects (fold c.notes) × AreReadable c.objects (fold c.notes)

-- the first flaw is an object of a deleted segment
abbrev pub SafeHasLeftAtMost : Type 0
SafeHasLeftAtMost = (c : Scene) (p : Plain) (flaw : Flaw) → BothSafe c p → IsFirstFlaw c.objects (fold c.notes) flaw
    → (key : ObjectKey) × (flaw ≡ Left key)

-- what is swept is whole
abbrev pub SweptIsWhole : Type 0
SweptIsWhole = (c : Scene) (p : Plain) (new : SweptTier) (n : ℕ) → BothSafe c p → IsSwept (tier_in c) new n
    → IsWholeTier new.objects (fold new.notes)

-- no command is in progress
abbrev pub IsIdle : Scene → Type 0
IsIdle c = (a : ℕ) (tier_task : TierTask) → slice_get c.desk a ≡ Some tier_task → tier_task ≡ Free

-- a scene with these objects and metadata events
abbrev pub scene_with : Scene → SweptTier → Scene
scene_with c tier = record c { objects = tier.objects; notes = tier.notes }

-- a sweep that is in progress or was refused leaves the rules of the tier, where no command is in progress
abbrev pub SweepKeepsCold : Type 0
SweepKeepsCold = (c : Scene) (p : Plain) (new : SweptTier) → IsIdle c → TierSafe c p → IsUnderSweep (tier_in c) new
    → TierSafe (scene_with c new) p

-- and so does one that was done
abbrev pub WholeSweepKeepsCold : Type 0
WholeSweepKeepsCold =
    (c : Scene) (p : Plain) (new : SweptTier) (n : ℕ) → IsIdle c → TierSafe c p → IsSwept (tier_in c) new n
    → TierSafe (scene_with c new) p
