-- A plan grows as the fault lines are read, and no call of a device can fail before its plan is in force.
use Rattle.std.proofs.Common.{◌≡◌, ◌∙◌, sym, ap, ℕ, ◌+◌, ◌<◌, List, [], ◌∷◌, ◌++◌, length, append_assoc, append-nil, arith}
use Rattle.std.proofs.Math.ListN.{take, get_or}
use Rattle.std.specs.Prelude.{Option, ◌^◌, ◌-◌}
use Rattle.std.proofs.lemmas.List.{take_more}
use Rattle.tier_base.specs.Device.{Control}
use Rattle.tier_base.specs.declared.planned.Planned.{Planned}
use Rattle.disk_model.specs.Call.{call_code}
use Rattle.script_lang.specs.declared.fault.Fault.{Fault}
use Rattle.script_lang.specs.declared.fault.FaultCall.{FaultCall}
use Rattle.script_lang.specs.declared.fault.FaultDevice.{FaultDevice}
use Rattle.partition_commands.specs.Partition.{IsInfallible}
use Rattle.partition_commands.specs.Fresh.{AreInfallibleDisks}
use Rattle.run_memory.specs.Plans.{planned_call, planned_by, disk_plan, IsPlanned, ArePlanned}

module _ {K : Type 0} (named : FaultDevice → FaultCall → Option K) where
  plan_snoc : (faults : List Fault) (fault : Fault) → planned_by named (faults ++ fault ∷ []) ≡ planned_by named faults ++ planned_call fault (named fault.device fault.call)
  plan_snoc [] fault = append-nil (planned_call fault (named fault.device fault.call))
  plan_snoc (first ∷ faults) fault =
      ap (λ (l : List (Planned K)). planned_call first (named first.device first.call) ++ l) (plan_snoc faults fault)
      ∙ sym (append_assoc (planned_call first (named first.device first.call)) (planned_by named faults) (planned_call fault (named fault.device fault.call)))

  -- one line more
  pub plan_next : (faults : List Fault) (i : ℕ) (none : Fault) (call : Option K) (old new : List (Planned K)) → i < length faults → old ≡ planned_by named (take i faults)
      → call ≡ named (get_or faults i none).device (get_or faults i none).call → new ≡ old ++ planned_call (get_or faults i none) call → new ≡ planned_by named (take (i + 1) faults)
  plan_next faults i none call old new within was is next =
      next
      ∙ (ap (λ (o : Option K). old ++ planned_call (get_or faults i none) o) is
      ∙ (ap (λ (l : List (Planned K)). l ++ planned_call (get_or faults i none) (named (get_or faults i none).device (get_or faults i none).call)) was
      ∙ (sym (plan_snoc (take i faults) (get_or faults i none))
      ∙ ap (planned_by named) (sym (take_more faults i none within)))))

module _ {K : Type 0} {code : K → ℕ} where
  few_faults : (plan : List (Planned K)) (c : Control code) → IsPlanned plan c → c.faults < 2 ^ 64 - 1
  few_faults plan c p = let zero_is = p.fresh.faults in omega (arith, zero_is)

module _ {D : Type 0} (control : D → Control call_code) where
  disk_infallible : (broker : ℕ) (faults : List Fault) (disk : D) → IsPlanned (disk_plan broker faults) (control disk) → IsInfallible (control disk)
  disk_infallible broker faults disk p = record { infallible = p.infallible; few = few_faults (disk_plan broker faults) (control disk) p }

  pub planned_infallible : (faults : List Fault) (broker : ℕ) (disks : List D) → ArePlanned control faults broker disks → AreInfallibleDisks control disks
  planned_infallible faults broker [] p = tt
  planned_infallible faults broker (disk ∷ disks) p = (disk_infallible broker faults disk p.0, planned_infallible faults (broker + 1) disks p.1)
