-- An answer that is a run, and turns of several actors that nothing hinders a fetch in.
use Rattle.std.specs.Prelude.{◌≡◌, ℕ, ◌≤◌, true, List, ◌∷◌}
use Rattle.disk_model.specs.declared.disk.Disk.{Ghosts as DiskGhosts}
use Rattle.object_store.specs.declared.store.Store.{Ghosts as StoreGhosts}
use Rattle.meta_log.specs.declared.log.MetaLog.{Ghosts as MetaGhosts}
use Rattle.log_terms.specs.Batch.{base_of, last_of}
use Rattle.log_terms.specs.Log.{joined}
use Rattle.plain_log.specs.declared.answer.Answer.{Answer}
use Rattle.plain_log.specs.declared.answer.Answer.TheVariants.{Run}
use Rattle.plain_log.specs.declared.answer.Tier.{Tier}
use Rattle.plain_log.specs.Fetch.{is_within}
use Rattle.tier_base.specs.declared.plain.Stop.{Stop}
use Rattle.partition_commands.specs.Partition.{AtNode}
use Rattle.partition_world.specs.Whole.{Whole}
use Rattle.laws_answers.specs.Chains.{AtTurnsOf, TurnMeetsNoFault}
use Rattle.laws_answers.specs.CausesOfFetches.{MayServe}

-- an answer is a run: of one batch, which holds the offset, or of several from that one on, which fit the limit; the
-- fetch's row pins which batches they are
pub record IsFetchServed (offset limit : ℕ) (answer : Answer) : Type 0 where
  pub tier : Tier
  pub size : ℕ
  pub stop : Stop
  pub first : List ℕ
  pub others : List (List ℕ)
  pub holds : (base_of first ≤ offset) × (offset ≤ last_of first)
  pub fit : is_within limit (first ∷ others) ≡ true
  pub is : answer ≡ Run tier size stop (joined (first ∷ others))

module _ {D S M : Type 0} (disk : DiskGhosts D) (store : StoreGhosts S) (meta : MetaGhosts M) where
  -- where the turn is one of the fetch of this offset at this place, under this number, its broker still leads and may
  -- give it
  abbrev pub IsFree : ℕ → ℕ → ℕ → Whole D S M → ℕ → Whole D S M → Type 0
  IsFree place number offset w a w' =
      AtTurnsOf place number w a
      (λ actor_state order. AtNode w.partition_state order.broker.0 (λ x. MayServe w x offset actor_state.in_progress))

  -- and no call of a device fails
  abbrev pub IsUnhindered : ℕ → ℕ → ℕ → Whole D S M → ℕ → Whole D S M → Type 0
  IsUnhindered place number offset w a w' =
      IsFree place number offset w a w' × TurnMeetsNoFault disk store meta place number w a w'
