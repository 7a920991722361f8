-- Calls of a world's devices that are planned to fail, where the plans alone decide which do.
use Rattle.std.specs.Prelude.{◌≡◌, ℕ, List, [], ◌∷◌, IsTrue}
use Rattle.tier_base.specs.Counts.{counted}
use Rattle.tier_base.specs.Device.{Control, met}
use Rattle.disk_model.specs.Call.{call_code}
use Rattle.disk_model.specs.declared.disk.Disk.{Ghosts as DiskGhosts}
use Rattle.object_store.specs.declared.store.Store.{Ghosts as StoreGhosts}
use Rattle.meta_log.specs.declared.log.MetaLog.{Ghosts as MetaGhosts}
use Rattle.broker_log.specs.Seen.{OnDisk}
use Rattle.partition_commands.specs.declared.partition_state.Node.{Node}
use Rattle.partition_world.specs.Whole.{Whole}

module _ {K : Type 0} {code : K → ℕ} where
  -- the device has the plan that it had, and as many of its calls failed as that names of those that were made
  pub record FailedByPlan (old new : Control code) : Type 0 where
    pub plan : new.plan ≡ old.plan
    pub faults : new.faults ≡ counted 0 (met code new.made old.plan)

module _ {D : Type 0} (control : D → Control call_code) where
  -- of each broker's disk the plan alone decides which calls fail
  abbrev pub AreScriptedDisks : List (Node D) → Type 0
  AreScriptedDisks [] = Unit {0}
  AreScriptedDisks (x ∷ xs) = OnDisk x.log (λ d. IsTrue (control d).scripted) × AreScriptedDisks xs

  -- and its calls have failed so
  abbrev pub DisksFailedByPlan : List (Node D) → List (Node D) → Type 0
  DisksFailedByPlan [] [] = Unit {0}
  DisksFailedByPlan (x ∷ xs) (y ∷ ys) =
      OnDisk x.log (λ d. OnDisk y.log (λ e. FailedByPlan (control d) (control e))) × DisksFailedByPlan xs ys
  DisksFailedByPlan [] (y ∷ ys) = ⊥
  DisksFailedByPlan (x ∷ xs) [] = ⊥

module _ {D S M : Type 0} (disk : DiskGhosts D) (store : StoreGhosts S) (meta : MetaGhosts M) where
  -- so are all devices of a world
  pub record AreScripted (w : Whole D S M) : Type 0 where
    pub disks : AreScriptedDisks disk.control w.partition_state.nodes
    pub store_scripted : IsTrue (store.control w.tier.store).scripted
    pub meta_scripted : IsTrue (meta.control w.tier.meta).scripted

  -- its devices have the plans that they had in that world, and as many of their calls failed as these name of those
  -- made
  pub record HaveFailedByPlan (w w' : Whole D S M) : Type 0 where
    pub disks : DisksFailedByPlan disk.control w.partition_state.nodes w'.partition_state.nodes
    pub store_fails : FailedByPlan (store.control w.tier.store) (store.control w'.tier.store)
    pub meta_fails : FailedByPlan (meta.control w.tier.meta) (meta.control w'.tier.meta)
