-- A fault of a device that a turn meets is what its command returns; a turn that finds no memory meets none.
use Rattle.std.specs.Prelude.{◌≡◌, ℕ, Bool, false}
use Rattle.disk_model.specs.declared.disk.Disk.{Ghosts as DiskGhosts}
use Rattle.object_store.specs.declared.store.Store.{Ghosts as StoreGhosts}
use Rattle.meta_log.specs.declared.log.MetaLog.{Ghosts as MetaGhosts}
use Rattle.plain_log.specs.declared.answer.Answer.{Answer}
use Rattle.plain_log.specs.declared.command.Order.{Order}
use Rattle.partition_commands.specs.Disks.{HaveDisks, NoneFails, DisksCount}
use Rattle.partition_commands.specs.Faults.{is_of_disk, is_of_store, is_of_meta, after_fault}
use Rattle.partition_world.specs.declared.actor_state.Outcome.{Outcome}
use Rattle.partition_world.specs.declared.actor_state.Outcome.TheVariants.{Answers}
use Rattle.partition_world.specs.Turn.{IsTurn, StaysWhole}
use Rattle.partition_world.specs.Whole.{Whole}

-- a turn was answered so
abbrev pub is_answered : (Answer → Bool) → Outcome → Bool
is_answered is (Answers answer) = is answer
is_answered is other = false

module _ {D S M : Type 0} (disk : DiskGhosts D) (store : StoreGhosts S) (meta : MetaGhosts M) where
  -- a turn of the order that returns a fault has raised the count of that device by one, and no other count has risen:
  -- a disk's that the command works on, the store's, or the metadata log's
  pub record AnswersFaults (order : Order) (outcome : Outcome) (w w' : Whole D S M) : Type 0 where
    pub disks : DisksCount disk.control order.command order.broker.0 (is_answered is_of_disk outcome)
        w.partition_state.nodes w'.partition_state.nodes
    pub store_counts : (store.control w'.tier.store).faults
        ≡ after_fault (is_answered is_of_store outcome) (store.control w.tier.store).faults
    pub meta_counts : (meta.control w'.tier.meta).faults
        ≡ after_fault (is_answered is_of_meta outcome) (meta.control w.tier.meta).faults

  -- each turn does, over any devices
  abbrev pub TurnsAnswerFaults : Type 0
  TurnsAnswerFaults = (w : Whole D S M) (a : ℕ) (outcome : Outcome) (w' : Whole D S M)
      (t : IsTurn disk store meta w a outcome w')
      → HaveDisks w.partition_state.nodes → AnswersFaults t.order outcome w w'

  -- no call of a device has failed: each count of faults is as it was
  pub record MeetsNoFault (w w' : Whole D S M) : Type 0 where
    pub disks : NoneFails disk.control w.partition_state.nodes w'.partition_state.nodes
    pub store_counts : (store.control w'.tier.store).faults ≡ (store.control w.tier.store).faults
    pub meta_counts : (meta.control w'.tier.meta).faults ≡ (meta.control w.tier.meta).faults

  -- so in each turn that finds no memory, over any devices
  abbrev pub HaltsMeetNoFault : Type 0
  HaltsMeetNoFault = (w : Whole D S M) (a : ℕ) (w' : Whole D S M) → StaysWhole disk store meta w a w'
      → HaveDisks w.partition_state.nodes → MeetsNoFault w w'
