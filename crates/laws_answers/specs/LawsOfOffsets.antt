-- The law of what a question for an offset returns.
use Rattle.std.specs.Prelude.{◌≡◌, ℕ}
use Rattle.disk_model.specs.declared.disk.Disk.{Ghosts as DiskGhosts}
use Rattle.object_store.specs.declared.store.Store.{Ghosts as StoreGhosts}
use Rattle.meta_log.specs.declared.log.MetaLog.{Ghosts as MetaGhosts}
use Rattle.plain_log.specs.declared.answer.Answer.{Answer}
use Rattle.plain_log.specs.declared.command.Command.TheVariants.{Offset}
use Rattle.plain_log.specs.declared.command.Which.{Which}
use Rattle.partition_commands.specs.Partition.{AtNode}
use Rattle.partition_world.specs.declared.actor_state.Outcome.TheVariants.{Answers}
use Rattle.partition_world.specs.Tier.{AtBrokerTier}
use Rattle.partition_world.specs.Turn.{IsTurn}
use Rattle.partition_world.specs.Whole.{Whole}
use Rattle.laws_answers.specs.CausesOfOffsets.{OffsetHasCause}

module _ {D S M : Type 0} (disk : DiskGhosts D) (store : StoreGhosts S) (meta : MetaGhosts M) where
  -- a question's answer has its cause, over any devices
  abbrev pub OffsetsHaveCauses : Type 0
  OffsetsHaveCauses = (w : Whole D S M) (a : ℕ) (answer : Answer) (w' : Whole D S M) (which : Which)
      → (t : IsTurn disk store meta w a (Answers answer) w') → t.order.command ≡ Offset which
      → AtNode w.partition_state t.order.broker.0 (λ x. AtBrokerTier w.tier t.order.broker.0 (λ broker_tier.
      OffsetHasCause disk store meta w t.order.broker.0 x broker_tier t.actor_state.in_progress which answer w'))
