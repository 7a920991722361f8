-- While no call of the brokers' disks can fail, none does: they last so, and a fault that is reported would be one of a
-- disk.
use Rattle.std.proofs.Common.{◌≡◌, ℕ, zero, suc, ◌+◌, ◌<◌, ◌≤◌, List, [], ◌∷◌, slice_get, Some, Option, IsSomeAnd, arith}
use Rattle.std.specs.Prelude.{◌-◌, ◌^◌, min}
use Rattle.tier_base.specs.Counts.{Rose}
use Rattle.tier_base.specs.Device.{Control, Lasts}
use Rattle.disk_model.specs.Call.{call_code}
use Rattle.disk_model.specs.Content.{Content}
use Rattle.plain_log.specs.declared.command.Command.{Command}
use Rattle.plain_log.specs.declared.command.Command.TheVariants.{Follow, Join}
use Rattle.broker_log.specs.Seen.{LogState, Up, Down, Away, OnDisk, Lasting, Faulted}
use Rattle.laws_partition.specs.declared.start_snapshot.StartSnapshot.{StartSnapshot}
use Rattle.laws_partition.specs.declared.start_snapshot.Turned.{Turned}
use Rattle.laws_partition.specs.declared.start_snapshot.Turned.TheVariants.{Answers, Begins}
use Rattle.laws_partition.specs.Turn.{event_of}
use Rattle.partition_commands.specs.declared.partition_state.Node.{Node}
use Rattle.partition_commands.specs.declared.partition_state.PartitionState.{PartitionState}
use Rattle.partition_commands.specs.Infallible.{AreInfallible, HasNoFault}
use Rattle.partition_commands.specs.Disks.{HaveDisks, DisksLast, DiskFails}
use Rattle.partition_commands.specs.Partition.{IsInfallible}
use Rattle.partition_commands.specs.Turns.{Row}
use Rattle.partition_commands.proofs.LastingDisks.{disk_map, FailsFor}
use Rattle.partition_commands.proofs.LastingRows.{row_lasts}
use Rattle.partition_commands.proofs.Told.{OwnTold, told_none}

-- an infallible device stays so
infallible_lasts : (old new : Control call_code) → Lasts old new → IsInfallible old → IsInfallible new
infallible_lasts old new l c = let same = l.no_fault c.infallible in record { infallible = l.stays_infallible c.infallible; few = omega (arith, c.few, same) }

-- and no call fails
infallible_fails : (old new : Control call_code) → Lasts old new → Rose old.faults new.faults → IsInfallible old → ⊥
infallible_fails old new l rose c = go old.faults new.faults (l.no_fault c.infallible) c.few rose
  where
    go : (before now : ℕ) → now ≡ before → before < 2 ^ 64 - 1 → min (before + 1) (2 ^ 64 - 1) ≤ now → ⊥
    go before now same few up = omega (arith, same, few, up)

module _ {D : Type 0} (control : D → Control call_code) where
  abbrev InfallibleOn : LogState D → Type 0
  InfallibleOn k = OnDisk k (λ d. IsInfallible (control d))

  log_infallible : (old new : LogState D) → Lasting control old new → InfallibleOn old → InfallibleOn new
  log_infallible (Up l) new lasts c = disk_map (λ e. Lasts (control l.disk) (control e)) (λ e. IsInfallible (control e)) new (λ e p. infallible_lasts (control l.disk) (control e) p c) lasts
  log_infallible (Down i d) new lasts c = disk_map (λ e. Lasts (control d) (control e)) (λ e. IsInfallible (control e)) new (λ e p. infallible_lasts (control d) (control e) p c) lasts
  log_infallible Away new lasts c = absurd c

  log_fails : (old new : LogState D) → Lasting control old new → Faulted control old new → InfallibleOn old → ⊥
  log_fails (Up l) (Up m) lasts rose c = infallible_fails (control l.disk) (control m.disk) lasts rose c
  log_fails (Up l) (Down j e) lasts rose c = infallible_fails (control l.disk) (control e) lasts rose c
  log_fails (Up l) Away lasts rose c = absurd lasts
  log_fails (Down i d) (Up m) lasts rose c = infallible_fails (control d) (control m.disk) lasts rose c
  log_fails (Down i d) (Down j e) lasts rose c = infallible_fails (control d) (control e) lasts rose c
  log_fails (Down i d) Away lasts rose c = absurd lasts
  log_fails Away new lasts rose c = absurd c

  -- all brokers' disks

  pub infallible_have : (xs : List (Node D)) → AreInfallible control xs → HaveDisks xs
  infallible_have [] c = tt
  infallible_have (x ∷ xs) c = (disk_map (λ d. IsInfallible (control d)) (λ d. Unit {0}) x.log (λ d one. tt) c.0, infallible_have xs c.1)

  pub infallible_last : (xs ys : List (Node D)) → DisksLast control xs ys → AreInfallible control xs → AreInfallible control ys
  infallible_last [] [] lasts c = tt
  infallible_last (x ∷ xs) (y ∷ ys) lasts c = (log_infallible x.log y.log lasts.0 c.0, infallible_last xs ys lasts.1 c.1)
  infallible_last [] (y ∷ ys) lasts c = absurd lasts
  infallible_last (x ∷ xs) [] lasts c = absurd lasts

  none_fails : (b : ℕ) (xs ys : List (Node D)) → DisksLast control xs ys → AreInfallible control xs → IsSomeAnd (slice_get xs b) (λ x. IsSomeAnd (slice_get ys b) (λ y. Faulted control x.log y.log)) → ⊥
  none_fails b [] ys lasts c fails = absurd fails
  none_fails zero (x ∷ xs) (y ∷ ys) lasts c fails = log_fails x.log y.log lasts.0 fails c.0
  none_fails (suc b) (x ∷ xs) (y ∷ ys) lasts c fails = none_fails b xs ys lasts.1 c.1 fails
  none_fails b (x ∷ xs) [] lasts c fails = absurd lasts

  pub infallible_disk : (b : ℕ) (h h' : PartitionState D) → DisksLast control h.nodes h'.nodes → AreInfallible control h.nodes → DiskFails control b h h' → ⊥
  infallible_disk b h h' lasts c fails = none_fails b h.nodes h'.nodes lasts c fails

  pub infallible_command : (command : Command) (b : ℕ) (h h' : PartitionState D) → DisksLast control h.nodes h'.nodes → AreInfallible control h.nodes → FailsFor control command h b h' → ⊥
  infallible_command (Follow limit) b h h' lasts c fails = infallible_disk fails.0 h h' lasts c fails.1
  infallible_command command b h h' lasts c fails = infallible_disk b h h' lasts c fails

module _ {D : Type 0} (content : D → Content) (control : D → Control call_code) where
  -- a turn that is answered no fault reports none
  tells_none : (A B : Type 0) (turned : Turned) (command : Command) → (A → ⊥) → (B → ⊥) → OwnTold A B turned → HasNoFault (event_of turned command)
  tells_none A B (Answers answer) command well whole t = told_none A B ⊥ ⊥ answer well whole (λ f. f) (λ f. f) t
  tells_none A B (Begins g) Join well whole t = tt
  tells_none A B (Begins g) command well whole t = tt

  pub row_unfailing : (h : PartitionState D) (b : ℕ) (x : Node D) (snapshot : Option StartSnapshot) (command : Command) (turned : Turned) (h' : PartitionState D) → slice_get h.nodes b ≡ Some x → AreInfallible control h.nodes
      → Row content control h b x snapshot command turned h' → AreInfallible control h'.nodes × HasNoFault (event_of turned command)
  row_unfailing h b x snapshot command turned h' at c w =
      let k = row_lasts content control h b x snapshot command turned h' at w in
      let lasts = k.0 (infallible_have control h.nodes c) in (
        infallible_last control h.nodes h'.nodes lasts c,
        tells_none (FailsFor control command h b h') (DiskFails control b h h') turned command (infallible_command control command b h h' lasts c) (infallible_disk control b h h' lasts c) k.1,
      )
