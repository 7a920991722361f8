-- A fault that a journal reports was met by a call that a fault line names: the device has counted it, and counts those
-- calls alone.
use Rattle.std.proofs.Common.{◌≡◌, ◌∙◌, sym, ap, subst, refl, ℕ, zero, suc, ◌+◌, ◌≤◌, Bool, true, false, List, [], ◌∷◌, ◌++◌, slice_get, Some, None, Option, IsSomeAnd, arith}
use Rattle.std.specs.Prelude.{IsTrue, ◌-◌, ◌^◌, ◌&&◌, min, not, is_some, nat_le, if◌then◌else◌}
use Rattle.std.specs.List.{AllByRecursion}
use Rattle.std.proofs.lemmas.Bool.{leb-true}
use Rattle.tier_base.specs.Counts.{counted, Rose}
use Rattle.tier_base.specs.Device.{Control, Arms, was_made, met, planned}
use Rattle.tier_base.specs.declared.names.PartitionId.{PartitionId}
use Rattle.tier_base.specs.declared.planned.Planned.{Planned}
use Rattle.disk_model.specs.Call.{call_code}
use Rattle.disk_model.specs.declared.disk.Disk.{Ghosts as DiskGhosts}
use Rattle.object_store.specs.declared.store.Store.{Ghosts as StoreGhosts}
use Rattle.meta_log.specs.declared.log.MetaLog.{Ghosts as MetaGhosts}
use Rattle.plain_log.specs.declared.answer.Answer.{Answer}
use Rattle.plain_log.specs.declared.answer.Answer.TheVariants.{DiskFault, DiskFaultAt, StoreFault, MetaFault}
use Rattle.plain_log.specs.declared.command.ActorList.{ActorList}
use Rattle.plain_log.specs.declared.command.Command.{Command}
use Rattle.plain_log.specs.declared.command.Command.TheVariants.{Follow}
use Rattle.plain_log.specs.declared.command.Config.{Config}
use Rattle.plain_log.specs.declared.command.Order.{Order}
use Rattle.plain_log.specs.declared.journal.Event.TheVariants.{Answers}
use Rattle.plain_log.specs.declared.journal.JournalEntry.{JournalEntry}
use Rattle.plain_log.specs.Runs.{order_of}
use Rattle.broker_log.specs.Seen.{LogState, Up, Down, Away, OnDisk, Faulted}
use Rattle.partition_commands.specs.declared.partition_state.Node.{Node}
use Rattle.partition_commands.specs.Fresh.{IsArmed, AreFreshFrom}
use Rattle.partition_world.specs.Whole.{Whole}
use Rattle.laws_answers.specs.ByPlan.{FailedByPlan, DisksFailedByPlan, HaveFailedByPlan}
use Rattle.laws_answers.specs.Faults.{DiskFailed}
use Rattle.laws_answers.specs.Counted.{DiskFailedFor, FailedAs, IsFaultCounted, FaultsAreCounted}
use Rattle.script_lang.specs.declared.fault.Fault.{Fault}
use Rattle.script_lang.specs.declared.fault.FaultCall.{FaultCall}
use Rattle.script_lang.specs.declared.fault.FaultDevice.{FaultDevice}
use Rattle.run_memory.specs.Plans.{planned_call, planned_by, disk_named, store_named, meta_named, IsPlanned, ArePlanned}
use Rattle.run_memory.specs.Planned.{IsMet, DiskMet, DiskMetFor, MetAs, HasLine, FaultsArePlanned}
use Rattle.run_memory.specs.Run.{StartsWith}

-- two tests
both_true : (a b : Bool) → (a && b) ≡ true → (a ≡ true) × (b ≡ true)
both_true true true is = (refl, refl)
both_true true false is = absurd (let no : false ≡ true = is in cc)
both_true false true is = absurd (let no : false ≡ true = is in cc)
both_true false false is = absurd (let no : false ≡ true = is in cc)

-- a count that has risen from nothing, of so many
risen_some : (before now n : ℕ) → before ≡ 0 → now ≡ counted 0 n → Rose before now → 1 ≤ n
risen_some before now n none is rose = go is rose
  where
    go : now ≡ min (0 + n) (2 ^ 64 - 1) → min (before + 1) (2 ^ 64 - 1) ≤ now → 1 ≤ n
    go is up = omega (arith, none, is, up)

module _ {K : Type 0} (code : K → ℕ) where
  -- an item of a plan that names a call which was made
  record IsMade (made : K → ℕ) (plan : List (Planned K)) : Type 0 where
    place : ℕ
    item : Planned K
    at : slice_get plan place ≡ Some item
    is_made : was_made code made item ≡ true

  met_one : (made : K → ℕ) (plan : List (Planned K)) → 1 ≤ met code made plan → IsMade made plan
  met_one made [] some = absurd (let no : 1 ≤ 0 = some in omega (arith, no))
  met_one made (p ∷ plan) some = by (was_made code made p) refl (λ less. met_one made plan less)
    where
      by : (b : Bool) → was_made code made p ≡ b → (1 ≤ met code made plan → IsMade made plan) → IsMade made (p ∷ plan)
      by true is again = record { place = 0; item = p; at = refl; is_made = is }
      by false is again =
          let less : met code made (p ∷ plan) ≡ met code made plan =
          ap (λ (b : Bool). if b && not (is_some (planned code p.call p.number plan)) then met code made plan + 1 else met code made plan) is in
          let k = again (subst (λ (n : ℕ). 1 ≤ n) less some) in
          record { place = suc k.place; item = k.item; at = k.at; is_made = k.is_made }

module _ {K : Type 0} (named : FaultDevice → FaultCall → Option K) where
  -- an item of a plan is a fault line's
  record IsLine (faults : List Fault) (p : Planned K) : Type 0 where
    place : ℕ
    line : Fault
    at : slice_get faults place ≡ Some line
    names : named line.device line.call ≡ Some p.call
    number : p.number ≡ line.number

  line_at : (faults : List Fault) (i : ℕ) (p : Planned K) → slice_get (planned_by named faults) i ≡ Some p → IsLine faults p
  line_at [] i p at = absurd (let none : slice_get [] i ≡ Some p = at in cc)
  line_at (fault ∷ faults) i p at = by (named fault.device fault.call) refl i (λ j there. line_at faults j p there) at
    where
      later : IsLine faults p → IsLine (fault ∷ faults) p
      later k = record { place = suc k.place; line = k.line; at = k.at; names = k.names; number = k.number }

      go : (call : K) → named fault.device fault.call ≡ Some call → (i : ℕ) → ((j : ℕ) → slice_get (planned_by named faults) j ≡ Some p → IsLine faults p)
          → slice_get (planned_call fault (Some call) ++ planned_by named faults) i ≡ Some p → IsLine (fault ∷ faults) p
      go call is zero again at =
          let item : Planned K = record { call = call; number = fault.number; after = fault.after } in
          let same : item ≡ p = cc (at) in
          record { place = 0; line = fault; at = refl; names = is ∙ ap (λ (q : Planned K). Some q.call) same; number = sym (ap (λ (q : Planned K). q.number) same) }
      go call is (suc i) again at = later (again i at)

      by : (o : Option K) → named fault.device fault.call ≡ o → (i : ℕ) → ((j : ℕ) → slice_get (planned_by named faults) j ≡ Some p → IsLine faults p)
          → slice_get (planned_call fault (named fault.device fault.call) ++ planned_by named faults) i ≡ Some p → IsLine (fault ∷ faults) p
      by None is i again at = later (again i (subst (λ (o : Option K). slice_get (planned_call fault o ++ planned_by named faults) i ≡ Some p) is at))
      by (Some call) is i again at = go call is i again (subst (λ (o : Option K). slice_get (planned_call fault o ++ planned_by named faults) i ≡ Some p) is at)

module _ {K : Type 0} {code : K → ℕ} (named : FaultDevice → FaultCall → Option K) (faults : List Fault) where
  -- a device whose count has risen
  device_met : (given old new : Control code) → IsPlanned (planned_by named faults) given → old.plan ≡ given.plan → old.faults ≡ given.faults → FailedByPlan old new → Rose old.faults new.faults → IsMet named faults new
  device_met given old new p plan none by rose =
      let k = met_one code new.made old.plan (risen_some old.faults new.faults (met code new.made old.plan) (none ∙ p.fresh.faults) by.faults rose) in
      let l = line_at named faults k.place k.item (subst (λ (q : List (Planned K)). slice_get q k.place ≡ Some k.item) (plan ∙ p.plan_is) k.at) in
      let made = both_true (nat_le 1 k.item.number) (nat_le k.item.number (new.made k.item.call)) k.is_made in
      record {
        place = l.place;
        line = l.line;
        at = l.at;
        call = k.item.call;
        names = l.names;
        numbered = subst (λ (n : ℕ). 1 ≤ n) l.number (leb-true 1 k.item.number made.0);
        made = subst (λ (n : ℕ). n ≤ new.made k.item.call) l.number (leb-true k.item.number (new.made k.item.call) made.1);
      }

module _ {D : Type 0} where
  -- facts of one disk and the next
  disk_last : (P : D → Type 0) (R S : D → D → Type 0) (T : D → Type 0) (a b : LogState D) → ((d e : D) → P d → R d e → S d e → T e) → OnDisk a P → OnDisk a (λ d. OnDisk b (R d)) → OnDisk a (λ d. OnDisk b (S d)) → OnDisk b T
  disk_last P R S T (Up l) (Up m) to p r s = to l.disk m.disk p r s
  disk_last P R S T (Up l) (Down j e) to p r s = to l.disk e p r s
  disk_last P R S T (Up l) Away to p r s = absurd r
  disk_last P R S T (Down i d) (Up m) to p r s = to d m.disk p r s
  disk_last P R S T (Down i d) (Down j e) to p r s = to d e p r s
  disk_last P R S T (Down i d) Away to p r s = absurd r
  disk_last P R S T Away b to p r s = absurd p

module _ {D : Type 0} (control : D → Control call_code) (faults : List Fault) where
  -- the disk of the broker at a place, from this one on
  disk_met : (broker place b : ℕ) (leads : Bool) (disks : List D) (xs ys : List (Node D)) → b ≡ broker + place → ArePlanned control faults broker disks → AreFreshFrom control leads disks xs → DisksFailedByPlan control xs ys
      → IsSomeAnd (slice_get xs place) (λ x. IsSomeAnd (slice_get ys place) (λ y. Faulted control x.log y.log)) → IsSomeAnd (slice_get ys place) (λ y. OnDisk y.log (λ e. IsMet (disk_named b) faults (control e)))
  disk_met broker zero b leads (d ∷ disks) (x ∷ xs) (y ∷ ys) is p f by fails =
      let same : broker ≡ b = omega (arith, is) in
      subst (λ (n : ℕ). OnDisk y.log (λ e. IsMet (disk_named n) faults (control e))) same
      (disk_last (λ c. IsArmed (control d) (control c)) (λ c e. FailedByPlan (control c) (control e)) (λ c e. Rose (control c).faults (control e).faults) (λ e. IsMet (disk_named broker) faults (control e)) x.log y.log
      (λ c e armed plan rose. device_met (disk_named broker) faults (control d) (control c) (control e) p.0 armed.plan armed.no_fault plan rose) f.0.armed by.0 fails)
  disk_met broker (suc place) b leads (d ∷ disks) (x ∷ xs) (y ∷ ys) is p f by fails = disk_met (broker + 1) place b false disks xs ys (omega (arith, is)) p.1 f.1 by.1 fails
  disk_met broker place b leads [] [] ys is p f by fails = absurd fails
  disk_met broker place b leads [] (x ∷ xs) ys is p f by fails = absurd f
  disk_met broker place b leads (d ∷ disks) [] ys is p f by fails = absurd f
  disk_met broker place b leads (d ∷ disks) (x ∷ xs) [] is p f by fails = absurd by

module _ {D S M : Type 0} (disk : DiskGhosts D) (store : StoreGhosts S) (meta : MetaGhosts M) (partition : PartitionId) (config : Config) (lists : List ActorList) (faults : List Fault) (w w' : Whole D S M)
    (starts : StartsWith disk store meta partition config lists faults w) (by : HaveFailedByPlan disk store meta w w') where
  broker_met : (b : ℕ) → DiskFailed disk b w w' → DiskMet disk faults b w'
  broker_met b fails = disk_met disk.control faults 0 b b true starts.disks w.partition_state.nodes w'.partition_state.nodes (omega arith) starts.planned.disk_plans starts.fresh.partition_state.nodes by.disks fails

  command_met : (command : Command) (b : ℕ) → DiskFailedFor disk command b w w' → DiskMetFor disk faults command b w'
  command_met (Follow limit) b fails = (fails.0, broker_met fails.0 fails.1)
  command_met command b fails = broker_met b fails

  met_as : (order : Order) (answer : Answer) → FailedAs disk store meta order answer w w' → MetAs disk store meta faults w' order answer
  met_as order DiskFault fails = command_met order.command order.broker.0 fails
  met_as order (DiskFaultAt n) fails = broker_met order.broker.0 fails
  met_as order StoreFault fails =
      let armed = starts.fresh.tier.store_armed in
      device_met store_named faults (store.control starts.objects) (store.control w.tier.store) (store.control w'.tier.store) starts.planned.store_plan_is armed.plan armed.faults by.store_fails fails
  met_as order MetaFault fails =
      let armed = starts.fresh.tier.meta_armed in
      device_met meta_named faults (meta.control starts.notes) (meta.control w.tier.meta) (meta.control w'.tier.meta) starts.planned.meta_plan_is armed.plan armed.faults by.meta_fails fails
  met_as order other fails = tt

  entry_met : (entry : JournalEntry) (o : Option Order) → IsSomeAnd o (λ order. (answer : Answer) → entry.event ≡ Answers answer → FailedAs disk store meta order answer w w')
      → IsSomeAnd o (λ order. (answer : Answer) → entry.event ≡ Answers answer → MetAs disk store meta faults w' order answer)
  entry_met entry None counted = counted
  entry_met entry (Some order) counted = λ answer is. met_as order answer (counted answer is)

  entries_met : (entries : List JournalEntry) → AllByRecursion (IsFaultCounted disk store meta w w') entries → AllByRecursion (HasLine disk store meta faults w') entries
  entries_met [] counted = tt
  entries_met (entry ∷ entries) counted = (entry_met entry (order_of w'.lists entry) counted.0, entries_met entries counted.1)

  -- the faults that are reported, each of which has been counted
  pub faults_planned : FaultsAreCounted disk store meta w w' → FaultsArePlanned disk store meta faults w'
  faults_planned counted = entries_met w'.journal.items counted
