-- Turns of several actors that nothing hinders a join in.
use Rattle.std.specs.Prelude.{ℕ}
use Rattle.disk_model.specs.declared.disk.Disk.{Ghosts as DiskGhosts}
use Rattle.object_store.specs.declared.store.Store.{Ghosts as StoreGhosts}
use Rattle.meta_log.specs.declared.log.MetaLog.{Ghosts as MetaGhosts}
use Rattle.partition_commands.specs.Partition.{AtNode}
use Rattle.partition_world.specs.Whole.{Whole}
use Rattle.laws_answers.specs.Chains.{AtTurnsOf, TurnMeetsNoFault}
use Rattle.laws_answers.specs.CausesOfJoins.{MayJoin}

module _ {D S M : Type 0} (disk : DiskGhosts D) (store : StoreGhosts S) (meta : MetaGhosts M) where
  -- where the turn is one of the join at this place, under this number, it may continue
  abbrev pub IsFree : ℕ → ℕ → Whole D S M → ℕ → Whole D S M → Type 0
  IsFree place number w a w' =
      AtTurnsOf place number w a
      (λ actor_state order. AtNode w.partition_state order.broker.0 (λ x. MayJoin w x actor_state.in_progress))

  -- and no call of a device fails
  abbrev pub IsUnhindered : ℕ → ℕ → Whole D S M → ℕ → Whole D S M → Type 0
  IsUnhindered place number w a w' = IsFree place number w a w' × TurnMeetsNoFault disk store meta place number w a w'
