-- The plans of a script's faults alone decide which calls of its devices fail.
use Rattle.std.proofs.Common.{◌≡◌, sym, subst, ℕ, ◌+◌, Bool, true, false, List, [], ◌∷◌, IsTrue}
use Rattle.tier_base.specs.Device.{Control, Arms}
use Rattle.tier_base.specs.declared.planned.Planned.{Planned}
use Rattle.disk_model.specs.Call.{call_code}
use Rattle.disk_model.specs.declared.disk.Disk.{Ghosts as DiskGhosts}
use Rattle.object_store.specs.declared.store.Store.{Ghosts as StoreGhosts}
use Rattle.meta_log.specs.declared.log.MetaLog.{Ghosts as MetaGhosts}
use Rattle.plain_log.specs.declared.command.Config.{Config}
use Rattle.partition_commands.specs.declared.partition_state.Node.{Node}
use Rattle.partition_commands.specs.Fresh.{IsArmed, AreFreshFrom}
use Rattle.partition_commands.proofs.LastingDisks.{disk_map}
use Rattle.partition_world.specs.Whole.{Whole}
use Rattle.laws_answers.specs.ByPlan.{AreScriptedDisks, AreScripted}
use Rattle.script_lang.specs.declared.fault.Fault.{Fault}
use Rattle.script_lang.specs.declared.script.PartScript.{PartScript}
use Rattle.run_memory.specs.Plans.{disk_plan, store_plan, meta_plan, IsPlanned, ArePlanned}
use Rattle.run_memory.specs.Run.{StartsWith}

module _ {K : Type 0} {code : K → ℕ} where
  device_scripted : (plan : List (Planned K)) (given now : Control code) → IsPlanned plan given → Arms given now → IsTrue now.scripted
  device_scripted plan given now p a = subst IsTrue (sym a.scripted) p.scripted

module _ {D : Type 0} (control : D → Control call_code) where
  disk_scripted : (broker : ℕ) (faults : List Fault) (given now : D) → IsPlanned (disk_plan broker faults) (control given) → IsArmed (control given) (control now) → IsTrue (control now).scripted
  disk_scripted broker faults given now p a = subst IsTrue (sym a.scripted) p.scripted

  disks_scripted : (faults : List Fault) (broker : ℕ) (leads : Bool) (disks : List D) (xs : List (Node D)) → ArePlanned control faults broker disks → AreFreshFrom control leads disks xs → AreScriptedDisks control xs
  disks_scripted faults broker leads [] [] p f = tt
  disks_scripted faults broker leads (d ∷ disks) (x ∷ xs) p f = (
    disk_map (λ e. IsArmed (control d) (control e)) (λ e. IsTrue (control e).scripted) x.log (λ e a. disk_scripted broker faults d e p.0 a) f.0.armed,
    disks_scripted faults (broker + 1) false disks xs p.1 f.1,
  )
  disks_scripted faults broker leads [] (x ∷ xs) p f = absurd f
  disks_scripted faults broker leads (d ∷ disks) [] p f = absurd f

module _ {D S M : Type 0} (disk : DiskGhosts D) (store : StoreGhosts S) (meta : MetaGhosts M) where
  pub starts_scripted : (part : PartScript) (config : Config) (w : Whole D S M) → StartsWith disk store meta part.partition config part.lists part.faults w → AreScripted disk store meta w
  starts_scripted part config w starts = record {
    disks = disks_scripted disk.control part.faults 0 true starts.disks w.partition_state.nodes starts.planned.disk_plans starts.fresh.partition_state.nodes;
    store_scripted = device_scripted (store_plan part.faults) (store.control starts.objects) (store.control w.tier.store) starts.planned.store_plan_is starts.fresh.tier.store_armed;
    meta_scripted = device_scripted (meta_plan part.faults) (meta.control starts.notes) (meta.control w.tier.meta) starts.planned.meta_plan_is starts.fresh.tier.meta_armed;
  }
