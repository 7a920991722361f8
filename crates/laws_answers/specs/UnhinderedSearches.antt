-- An answer that is what a timestamp lookup looks for, and turns of several actors that nothing hinders a search in.
--
-- Its broker still leads, and no call of a device fails: no other answer has a cause then (`FirstCause` and
-- `SearchCause` in `CausesOfOffsets.antt`) but damage, and over observable devices none is found.
use Rattle.std.specs.Prelude.{ℕ}
use Rattle.disk_model.specs.declared.disk.Disk.{Ghosts as DiskGhosts}
use Rattle.object_store.specs.declared.store.Store.{Ghosts as StoreGhosts}
use Rattle.meta_log.specs.declared.log.MetaLog.{Ghosts as MetaGhosts}
use Rattle.plain_log.specs.declared.answer.Answer.{Answer}
use Rattle.plain_log.specs.declared.answer.Answer.TheVariants.{Offset, NoOffset}
use Rattle.partition_commands.specs.Partition.{AtNode}
use Rattle.partition_world.specs.Whole.{Whole}
use Rattle.laws_answers.specs.Chains.{AtTurnsOf, TurnMeetsNoFault}
use Rattle.laws_answers.specs.CausesOfOffsets.{MaySearch}

-- an answer is what was searched for: an offset, or that there is none
abbrev pub IsSearchAnswer : Answer → Type 0
IsSearchAnswer (Offset n) = Unit {0}
IsSearchAnswer NoOffset = Unit {0}
IsSearchAnswer other = ⊥

module _ {D S M : Type 0} (disk : DiskGhosts D) (store : StoreGhosts S) (meta : MetaGhosts M) where
  -- where the turn is one of the search at this place, under this number, its broker still leads
  abbrev pub IsFree : ℕ → ℕ → Whole D S M → ℕ → Whole D S M → Type 0
  IsFree place number w a w' =
      AtTurnsOf place number w a
      (λ actor_state order. AtNode w.partition_state order.broker.0 (λ x. MaySearch x actor_state.in_progress))

  -- and no call of a device fails
  abbrev pub IsUnhindered : ℕ → ℕ → Whole D S M → ℕ → Whole D S M → Type 0
  IsUnhindered place number w a w' = IsFree place number w a w' × TurnMeetsNoFault disk store meta place number w a w'
