-- Of the devices' calls those have failed that their plans name: the devices last, and so does that their plans decide.
use Rattle.std.proofs.Common.{◌∙◌, ap, sym, subst, ℕ, List, [], ◌∷◌, IsTrue}
use Rattle.tier_base.specs.Counts.{counted}
use Rattle.tier_base.specs.Device.{Control, Lasts, FailsAsPlanned, met}
use Rattle.tier_base.specs.declared.planned.Planned.{Planned}
use Rattle.disk_model.specs.Call.{call_code}
use Rattle.disk_model.specs.declared.disk.Disk.{Ghosts as DiskGhosts}
use Rattle.object_store.specs.declared.store.Store.{Ghosts as StoreGhosts}
use Rattle.meta_log.specs.declared.log.MetaLog.{Ghosts as MetaGhosts}
use Rattle.plain_log.specs.declared.command.Pace.{Pace}
use Rattle.broker_log.specs.Seen.{LogState, Up, Down, Away, OnDisk, Lasting}
use Rattle.partition_commands.specs.declared.partition_state.Node.{Node}
use Rattle.partition_commands.specs.Disks.{HaveDisks, DisksLast}
use Rattle.partition_commands.proofs.LastingDisks.{disk_map}
use Rattle.partition_world.specs.Reaches.{Reaches}
use Rattle.partition_world.specs.Whole.{Whole}
use Rattle.partition_world.proofs.LastingRuns.{schedule_lasted}
use Rattle.laws_answers.specs.ByPlan.{FailedByPlan, AreScriptedDisks, DisksFailedByPlan, AreScripted, HaveFailedByPlan}

module _ {K : Type 0} {code : K → ℕ} where
  by_plan : (old new : Control code) → FailsAsPlanned new → Lasts old new → IsTrue old.scripted → FailedByPlan old new
  by_plan old new law lasts scripted = record {
    plan = lasts.plan;
    faults = law (subst IsTrue (sym lasts.scripted) scripted) ∙ ap (λ (plan : List (Planned K)). counted 0 (met code new.made plan)) lasts.plan;
  }

module _ {D : Type 0} (control : D → Control call_code) (law : (d : D) → FailsAsPlanned (control d)) where
  log_by_plan : (old new : LogState D) → Lasting control old new → OnDisk old (λ d. IsTrue (control d).scripted) → OnDisk old (λ d. OnDisk new (λ e. FailedByPlan (control d) (control e)))
  log_by_plan (Up l) new lasts r = disk_map (λ e. Lasts (control l.disk) (control e)) (λ e. FailedByPlan (control l.disk) (control e)) new (λ e p. by_plan (control l.disk) (control e) (law e) p r) lasts
  log_by_plan (Down i d) new lasts r = disk_map (λ e. Lasts (control d) (control e)) (λ e. FailedByPlan (control d) (control e)) new (λ e p. by_plan (control d) (control e) (law e) p r) lasts
  log_by_plan Away new lasts r = absurd r

  disks_by_plan : (xs ys : List (Node D)) → DisksLast control xs ys → AreScriptedDisks control xs → DisksFailedByPlan control xs ys
  disks_by_plan [] [] lasts r = tt
  disks_by_plan (x ∷ xs) (y ∷ ys) lasts r = (log_by_plan x.log y.log lasts.0 r.0, disks_by_plan xs ys lasts.1 r.1)
  disks_by_plan [] (y ∷ ys) lasts r = absurd lasts
  disks_by_plan (x ∷ xs) [] lasts r = absurd lasts

module _ {D : Type 0} (control : D → Control call_code) where
  scripted_have : (xs : List (Node D)) → AreScriptedDisks control xs → HaveDisks xs
  scripted_have [] r = tt
  scripted_have (x ∷ xs) r = (disk_map (λ d. IsTrue (control d).scripted) (λ d. Unit {0}) x.log (λ d one. tt) r.0, scripted_have xs r.1)

module _ {D S M : Type 0} (disk : DiskGhosts D) (store : StoreGhosts S) (meta : MetaGhosts M)
    (disk_law : (d : D) → FailsAsPlanned (disk.control d)) (store_law : (s : S) → FailsAsPlanned (store.control s))
    (meta_law : (m : M) → FailsAsPlanned (meta.control m)) where
  pub reaches_by_plan : (w : Whole D S M) (schedule : List Pace) (w' : Whole D S M) → AreScripted disk store meta w → Reaches disk store meta w schedule w' → HaveFailedByPlan disk store meta w w'
  reaches_by_plan w schedule w' scripted reaches =
      let k = schedule_lasted disk store meta w schedule w' reaches (scripted_have disk.control w.partition_state.nodes scripted.disks) in
      record {
        disks = disks_by_plan disk.control disk_law w.partition_state.nodes w'.partition_state.nodes k.disks scripted.disks;
        store_fails = by_plan (store.control w.tier.store) (store.control w'.tier.store) (store_law w'.tier.store) k.store_lasts scripted.store_scripted;
        meta_fails = by_plan (meta.control w.tier.meta) (meta.control w'.tier.meta) (meta_law w'.tier.meta) k.meta_lasts scripted.meta_scripted;
      }
