-- While no call of the devices can fail, none does: they last so, and a fault that is reported would be one of a
-- device.
use Rattle.std.proofs.Common.{◌≡◌, inl, inr, sym, subst, ℕ, zero, suc, ◌+◌, ◌<◌, ◌≤◌, Bool, true, false, List, [], ◌∷◌, ◌++◌, arith}
use Rattle.std.specs.Prelude.{IsTrue, ◌-◌, ◌^◌, min}
use Rattle.tier_base.specs.Counts.{Rose}
use Rattle.tier_base.specs.Device.{Control, Arms, Lasts}
use Rattle.tier_base.specs.declared.names.PartitionId.{PartitionId}
use Rattle.disk_model.specs.declared.disk.Disk.{Ghosts as DiskGhosts}
use Rattle.disk_model.specs.Call.{call_code}
use Rattle.object_store.specs.declared.store.Store.{Ghosts as StoreGhosts}
use Rattle.meta_log.specs.declared.log.MetaLog.{Ghosts as MetaGhosts}
use Rattle.plain_log.specs.declared.command.ActorList.{ActorList}
use Rattle.plain_log.specs.declared.command.Command.{Command}
use Rattle.plain_log.specs.declared.command.Command.TheVariants.{Join}
use Rattle.plain_log.specs.declared.command.Config.{Config}
use Rattle.plain_log.specs.declared.command.Pace.{Pace}
use Rattle.plain_log.specs.declared.command.Pace.TheVariants.{Until, Times}
use Rattle.plain_log.specs.declared.journal.JournalEntry.{JournalEntry}
use Rattle.laws_partition.specs.declared.start_snapshot.StartSnapshot.{StartSnapshot}
use Rattle.laws_partition.specs.declared.start_snapshot.Turned.TheVariants as turned
use Rattle.laws_partition.specs.Turn.{event_of}
use Rattle.partition_commands.specs.declared.partition_state.Node.{Node}
use Rattle.partition_commands.specs.Partition.{IsInfallible as IsInfallibleDisk}
use Rattle.partition_commands.specs.Infallible.{AreInfallible, AreUnplanned, HasNoFault, AreFaultless}
use Rattle.partition_commands.specs.Disks.{DisksLast, DiskFails}
use Rattle.partition_commands.specs.Fresh.{IsArmed, AreFreshFrom}
use Rattle.partition_commands.proofs.InfallibleRows.{infallible_have, infallible_last, infallible_disk, infallible_command}
use Rattle.partition_commands.proofs.LastingDisks.{disk_map, FailsFor}
use Rattle.partition_commands.proofs.Told.{told_none}
use Rattle.partition_world.specs.declared.actor_state.Outcome.{Outcome}
use Rattle.partition_world.specs.declared.actor_state.Outcome.TheVariants.{Answers, Begins, Chose, Goes, Seeks as Sought, Dates as Dated, ChoosesExpired, Deletes, Rebuilds as Rebuilding}
use Rattle.partition_world.specs.Infallible.{IsInfallible, IsUnplanned, IsUnfailing}
use Rattle.tier_base.specs.declared.plain.Settings.{Settings}
use Rattle.disk_model.specs.Content.{Content}
use Rattle.registry.specs.declared.registry.Registry.{Registry}
use Rattle.broker_log.specs.Seen.{OnDisk}
use Rattle.partition_commands.specs.Cold.{AreColdOver}
use Rattle.partition_world.specs.Cold.{IsReopened}
use Rattle.partition_world.specs.Fresh.{IsFresh}
use Rattle.partition_world.specs.ActorStates.{told_of}
use Rattle.partition_world.specs.Turn.{IsTurn}
use Rattle.partition_world.specs.Reaches.{TakesTurn as GoesOnce, GoesTimes, GoesUntil, Paces, Reaches}
use Rattle.partition_world.specs.Whole.{Whole}
use Rattle.partition_world.proofs.Begins.{row_of}
use Rattle.partition_world.proofs.LastingTurns.{turn_lasts}
use Rattle.partition_world.proofs.TurnsTold.{TurnTold, StoreRose, MetaRose}

module _ {K : Type 0} {code : K → ℕ} where
  -- one whose empty plan comes in force stays so
  armed_infallible : (given now : Control code) → Arms given now → IsUnplanned given → IsInfallible now
  armed_infallible given now a u = record { infallible = a.still_infallible u.scripted u.infallible.infallible u.plan; few = omega (arith, u.infallible.few, a.faults) }

  -- an infallible device stays so
  infallible_lasts : (old new : Control code) → Lasts old new → IsInfallible old → IsInfallible new
  infallible_lasts old new l c = let same = l.no_fault c.infallible in record { infallible = l.stays_infallible c.infallible; few = omega (arith, c.few, same) }

  -- and no call fails
  infallible_fails : (old new : Control code) → Lasts old new → IsInfallible old → Rose old.faults new.faults → ⊥
  infallible_fails old new l c rose = go old.faults new.faults (l.no_fault c.infallible) c.few rose
    where
      go : (before now : ℕ) → now ≡ before → before < 2 ^ 64 - 1 → min (before + 1) (2 ^ 64 - 1) ≤ now → ⊥
      go before now same few up = omega (arith, same, few, up)

module _ {D S M : Type 0} (disk : DiskGhosts D) (store : StoreGhosts S) (meta : MetaGhosts M) where
  event_quiet : (g : StartSnapshot) (command : Command) → HasNoFault (event_of (turned.Begins g) command)
  event_quiet g Join = tt
  event_quiet g command = tt

  faultless_more : (entries : List JournalEntry) (entry : JournalEntry) → AreFaultless entries → HasNoFault entry.event → AreFaultless (entries ++ entry ∷ [])
  faultless_more [] entry f n = (n, tt)
  faultless_more (one ∷ entries) entry f n = (f.0, faultless_more entries entry f.1 n)

  faultless_same : (entries : List JournalEntry) → AreFaultless entries → AreFaultless (entries ++ [])
  faultless_same [] f = tt
  faultless_same (one ∷ entries) f = (f.0, faultless_same entries f.1)

  turn_unfailing : (w : Whole D S M) (a : ℕ) (outcome : Outcome) (w' : Whole D S M) → IsTurn disk store meta w a outcome w' → IsUnfailing disk store meta w → IsUnfailing disk store meta w'
  turn_unfailing w a outcome w' t u =
      let r = row_of disk store meta w.partition w.config w.partition_state w.tier t.order.broker.0 t.actor_state.in_progress t.order.command outcome w'.partition_state w'.tier t.row in
      let k = turn_lasts disk store meta w.partition w.config w.partition_state w.tier t.order.broker.0 r.x r.broker_tier t.actor_state.in_progress t.order.command outcome w'.partition_state w'.tier r.at r.row in
      let lasts : DisksLast disk.control w.partition_state.nodes w'.partition_state.nodes = k.0.partition_state (infallible_have disk.control w.partition_state.nodes u.infallible) in
      record {
        infallible = infallible_last disk.control w.partition_state.nodes w'.partition_state.nodes lasts u.infallible;
        store_infallible = infallible_lasts (store.control w.tier.store) (store.control w'.tier.store) k.0.stores u.store_infallible;
        meta_infallible = infallible_lasts (meta.control w.tier.meta) (meta.control w'.tier.meta) k.0.metas u.meta_infallible;
        journal = subst AreFaultless (sym t.entered) (told lasts k.0.stores k.0.metas outcome k.1);
      }
    where
      told : DisksLast disk.control w.partition_state.nodes w'.partition_state.nodes → Lasts (store.control w.tier.store) (store.control w'.tier.store) → Lasts (meta.control w.tier.meta) (meta.control w'.tier.meta) → (o : Outcome)
          → TurnTold (FailsFor disk.control t.order.command w.partition_state t.order.broker.0 w'.partition_state) (DiskFails disk.control t.order.broker.0 w.partition_state w'.partition_state) (StoreRose store w.tier.store w'.tier.store) (MetaRose meta w.tier.meta w'.tier.meta) o
          → AreFaultless (w.journal.items ++ told_of t.list.actor t.actor_state.number t.order.command o)
      told disks stores metas (Answers answer) q =
          faultless_more w.journal.items _ u.journal
          (told_none (FailsFor disk.control t.order.command w.partition_state t.order.broker.0 w'.partition_state) (DiskFails disk.control t.order.broker.0 w.partition_state w'.partition_state) (StoreRose store w.tier.store w'.tier.store) (MetaRose meta w.tier.meta w'.tier.meta) answer
          (infallible_command disk.control t.order.command t.order.broker.0 w.partition_state w'.partition_state disks u.infallible) (infallible_disk disk.control t.order.broker.0 w.partition_state w'.partition_state disks u.infallible)
          (infallible_fails (store.control w.tier.store) (store.control w'.tier.store) stores u.store_infallible) (infallible_fails (meta.control w.tier.meta) (meta.control w'.tier.meta) metas u.meta_infallible) q)
      told disks stores metas (Begins g) q = faultless_more w.journal.items _ u.journal (event_quiet g t.order.command)
      told disks stores metas (Chose copy) q = faultless_same w.journal.items u.journal
      told disks stores metas (Goes next) q = faultless_same w.journal.items u.journal
      told disks stores metas (Sought next) q = faultless_same w.journal.items u.journal
      told disks stores metas (Dated cursor next) q = faultless_same w.journal.items u.journal
      told disks stores metas (ChoosesExpired segment) q = faultless_same w.journal.items u.journal
      told disks stores metas (Deletes next) q = faultless_same w.journal.items u.journal
      told disks stores metas (Rebuilding next) q = faultless_same w.journal.items u.journal

  same_unfailing : (w w' : Whole D S M) → w' ≡ w → IsUnfailing disk store meta w → IsUnfailing disk store meta w'
  same_unfailing w w' is u = subst (IsUnfailing disk store meta) (sym is) u

  goes_unfailing : (w : Whole D S M) (a : ℕ) (w' : Whole D S M) → GoesOnce disk store meta w a w' → IsUnfailing disk store meta w → IsUnfailing disk store meta w'
  goes_unfailing w a w' (inl t) u = turn_unfailing w a t.0 w' t.1 u
  goes_unfailing w a w' (inr e) u = same_unfailing w w' e.1 u

  times_unfailing : (w : Whole D S M) (a turns : ℕ) (w' : Whole D S M) → GoesTimes disk store meta w a turns w' → IsUnfailing disk store meta w → IsUnfailing disk store meta w'
  times_unfailing w a zero w' g u = same_unfailing w w' g u
  times_unfailing w a (suc turns) w' g u = times_unfailing g.0 a turns w' g.2 (goes_unfailing w a g.0 g.1 u)

  until_unfailing : (w : Whole D S M) (a number turns : ℕ) (w' : Whole D S M) → GoesUntil disk store meta w a number turns w' → IsUnfailing disk store meta w → IsUnfailing disk store meta w'
  until_unfailing w a number zero w' g u = same_unfailing w w' g.1 u
  until_unfailing w a number (suc turns) w' g u = until_unfailing g.1.0 a number turns w' g.1.2 (goes_unfailing w a g.1.0 g.1.1 u)

  paces_unfailing : (w : Whole D S M) (pace : Pace) (w' : Whole D S M) → Paces disk store meta w pace w' → IsUnfailing disk store meta w → IsUnfailing disk store meta w'
  paces_unfailing w (Until actor number) w' g u = until_unfailing w actor.0 number g.0 w' g.1 u
  paces_unfailing w (Times actor turns) w' g u = times_unfailing w actor.0 turns w' g u

  pub reaches_unfailing : (w : Whole D S M) (schedule : List Pace) (w' : Whole D S M) → Reaches disk store meta w schedule w' → IsUnfailing disk store meta w → IsUnfailing disk store meta w'
  reaches_unfailing w [] w' r u = same_unfailing w w' r u
  reaches_unfailing w (pace ∷ schedule) w' r u = reaches_unfailing r.0 schedule w' r.2 (paces_unfailing w pace r.0 r.1 u)

module _ {D : Type 0} (control : D → Control call_code) where
  disk_infallible : (given now : Control call_code) → IsTrue given.scripted → given.plan ≡ [] → IsInfallibleDisk given → IsArmed given now → IsInfallibleDisk now
  disk_infallible given now scripted none c a = record { infallible = a.still_infallible c.infallible scripted none; few = omega (arith, c.few, a.no_fault) }

  nodes_infallible : (leads : Bool) (disks : List D) (xs : List (Node D)) → AreFreshFrom control leads disks xs → AreUnplanned control disks → AreInfallible control xs
  nodes_infallible leads [] [] f u = tt
  nodes_infallible leads [] (x ∷ xs) f u = absurd f
  nodes_infallible leads (d ∷ disks) [] f u = absurd f
  nodes_infallible leads (d ∷ disks) (x ∷ xs) f u = (
    disk_map (λ e. IsArmed (control d) (control e)) (λ e. IsInfallibleDisk (control e)) x.log (λ e a. disk_infallible (control d) (control e) u.0 u.1 u.2 a) f.0.armed,
    nodes_infallible false disks xs f.1 u.3,
  )

module _ {D : Type 0} (content : D → Content) (control : D → Control call_code) where
  cold_infallible : (settings : Settings) (disks : List D) (xs : List (Node D)) → AreColdOver content control settings disks xs → AreUnplanned control disks → AreInfallible control xs
  cold_infallible settings [] [] f u = tt
  cold_infallible settings [] (x ∷ xs) f u = absurd f
  cold_infallible settings (d ∷ disks) [] f u = absurd f
  cold_infallible settings (d ∷ disks) (x ∷ xs) f u = (
    subst (λ (y : Node D). OnDisk y.log (λ e. IsInfallibleDisk (control e))) (sym f.0.node)
        (record { infallible = f.0.arms.still_infallible u.0 u.2.infallible u.1; few = (let same = f.0.arms.faults in let few = u.2.few in omega (arith, same, few)) }),
    cold_infallible settings disks xs f.1 u.3,
  )

module _ {D S M : Type 0} (disk : DiskGhosts D) (store : StoreGhosts S) (meta : MetaGhosts M) where
  pub reopened_is_unfailing : (partition : PartitionId) (config : Config) (lists : List ActorList) (registry : Registry) (disks : List D) (s : S) (m : M) (w : Whole D S M)
      → IsReopened disk store meta partition config lists registry disks s m w → AreUnplanned disk.control disks → IsUnplanned (store.control s) → IsUnplanned (meta.control m) → IsUnfailing disk store meta w
  reopened_is_unfailing partition config lists registry disks s m w f u us um = record {
    infallible = cold_infallible disk.content disk.control config.settings disks w.partition_state.nodes f.partition_state.nodes u;
    store_infallible = armed_infallible (store.control s) (store.control w.tier.store) f.tier.store_armed us;
    meta_infallible = armed_infallible (meta.control m) (meta.control w.tier.meta) f.tier.meta_armed um;
    journal = subst AreFaultless (sym f.journal) tt;
  }

  pub fresh_is_unfailing : (partition : PartitionId) (config : Config) (lists : List ActorList) (disks : List D) (s : S) (m : M) (w : Whole D S M) → IsFresh disk store meta partition config lists disks s m w
      → AreUnplanned disk.control disks → IsUnplanned (store.control s) → IsUnplanned (meta.control m) → IsUnfailing disk store meta w
  fresh_is_unfailing partition config lists disks s m w f u us um = record {
    infallible = nodes_infallible disk.control true disks w.partition_state.nodes f.partition_state.nodes u;
    store_infallible = armed_infallible (store.control s) (store.control w.tier.store) f.tier.store_armed us;
    meta_infallible = armed_infallible (meta.control m) (meta.control w.tier.meta) f.tier.meta_armed um;
    journal = subst AreFaultless (sym f.journal) tt;
  }
