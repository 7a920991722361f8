-- What turns leave of the brokers' disks.
use Rattle.std.specs.Prelude.{◌≡◌, ℕ, zero, suc, Bool, true, false, List, [], ◌∷◌, Some, IsTrue, slice_get}
use Rattle.disk_model.specs.Content.{Content}
use Rattle.log_steps.specs.Reopens.{Reopens}
use Rattle.tier_base.specs.Device.{Control}
use Rattle.disk_model.specs.Call.{call_code}
use Rattle.plain_log.specs.declared.command.Command.{Command}
use Rattle.plain_log.specs.declared.command.Command.TheVariants.{Follow}
use Rattle.broker_log.specs.Seen.{OnDisk, Lasting, Faulted, NoFault, OneFault, is_up}
use Rattle.partition_commands.specs.declared.partition_state.Node.{Node}
use Rattle.partition_commands.specs.declared.partition_state.PartitionState.{PartitionState}
use Rattle.partition_commands.specs.Partition.{AtNode}

module _ {D : Type 0} where
  -- each broker has its disk: no log is taken out
  abbrev pub HaveDisks : List (Node D) → Type 0
  HaveDisks [] = Unit {0}
  HaveDisks (x ∷ xs) = OnDisk x.log (λ d. Unit {0}) × HaveDisks xs

module _ {D : Type 0} (control : D → Control call_code) where
  -- each broker's disk has lasted: its plan is as it was, and its count of faults hasn't fallen
  abbrev pub DisksLast : List (Node D) → List (Node D) → Type 0
  DisksLast [] [] = Unit {0}
  DisksLast (x ∷ xs) (y ∷ ys) = Lasting control x.log y.log × DisksLast xs ys
  DisksLast [] (y ∷ ys) = ⊥
  DisksLast (x ∷ xs) [] = ⊥

  -- a call of the broker's disk failed
  abbrev pub DiskFails : ℕ → PartitionState D → PartitionState D → Type 0
  DiskFails b h h' = AtNode h b (λ x. AtNode h' b (λ y. Faulted control x.log y.log))

  -- no call of a broker's disk failed
  abbrev pub NoneFails : List (Node D) → List (Node D) → Type 0
  NoneFails [] [] = Unit {0}
  NoneFails (x ∷ xs) (y ∷ ys) = NoFault control x.log y.log × NoneFails xs ys
  NoneFails [] (y ∷ ys) = ⊥
  NoneFails (x ∷ xs) [] = ⊥

  -- one call failed, of this broker's disk
  abbrev pub OneFails : ℕ → List (Node D) → List (Node D) → Type 0
  OneFails zero (x ∷ xs) (y ∷ ys) = OneFault control x.log y.log × NoneFails xs ys
  OneFails (suc b) (x ∷ xs) (y ∷ ys) = NoFault control x.log y.log × OneFails b xs ys
  OneFails b xs ys = ⊥

  -- one call failed, of the disk that a command of this broker works on: a follow also reads the log of its leader
  abbrev pub FailsOnce : Command → ℕ → List (Node D) → List (Node D) → Type 0
  FailsOnce (Follow limit) b xs ys = (leader : ℕ) × OneFails leader xs ys
  FailsOnce command b xs ys = OneFails b xs ys

  -- so where a turn of the command returns a fault of a disk; at any other none failed
  abbrev pub DisksCount : Command → ℕ → Bool → List (Node D) → List (Node D) → Type 0
  DisksCount command b true xs ys = FailsOnce command b xs ys
  DisksCount command b false xs ys = NoneFails xs ys

module _ {D : Type 0} (content : D → Content) where
  -- the log of a broker that is up can be opened again from its disk, also after a power cut
  abbrev pub WillReopen : Node D → Type 0
  WillReopen x = IsTrue (is_up x.log) → OnDisk x.log (λ d. Reopens (content d))

  -- each broker's
  abbrev pub AllReopen : List (Node D) → Type 0
  AllReopen nodes = (b : ℕ) (x : Node D) → slice_get nodes b ≡ Some x → WillReopen x
