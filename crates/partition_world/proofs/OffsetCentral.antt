-- Each turn of a question for the offset of the remote tier keeps the central fact: a broker's view takes metadata
-- events at most.
use Rattle.std.proofs.Common.{◌≡◌, refl, ℕ}
use Rattle.disk_model.specs.declared.disk.Disk.{Ghosts as DiskGhosts}
use Rattle.object_store.specs.declared.store.Store.{Ghosts as StoreGhosts}
use Rattle.meta_log.specs.declared.log.MetaLog.{Ghosts as MetaGhosts}
use Rattle.plain_log.specs.declared.answer.Answer.{Answer}
use Rattle.plain_log.specs.declared.answer.Answer.TheVariants.{Stopped, NotLeader, Offset as OffsetAnswer, NoOffset}
use Rattle.plain_log.specs.declared.command.Command.TheVariants.{Offset}
use Rattle.plain_log.specs.declared.command.Which.TheVariants.{LatestTiered}
use Rattle.plain_log.specs.declared.state.State.{State}
use Rattle.laws_partition.specs.declared.start_snapshot.StartSnapshot.{StartSnapshot}
use Rattle.laws_partition.specs.RowsOfOffsets as seen_offsets
use Rattle.partition_commands.specs.Partition.{node_of}
use Rattle.partition_world.specs.declared.actor_state.Outcome.{Outcome}
use Rattle.partition_world.specs.declared.actor_state.Outcome.TheVariants.{Answers}
use Rattle.partition_world.specs.declared.actor_state.InProgress.TheVariants.{Idle, Noted}
use Rattle.partition_world.specs.Central.{IsCentral}
use Rattle.partition_world.specs.Turn.{IsTurn}
use Rattle.partition_world.specs.TurnsOfOffset.{OffsetFirstRow, OffsetOnRow}
use Rattle.partition_world.specs.Whole.{Whole}
use Rattle.partition_world.proofs.CopyEnds.{keeps_seen}
use Rattle.partition_world.proofs.FetchCentral.{stopped_seen}
use Rattle.partition_world.proofs.Scenes.{Place}
use Rattle.partition_world.proofs.TurnCentral.{stands, partition_state_same, leads_first}

module _ {D S M : Type 0} (disk : DiskGhosts D) (store : StoreGhosts S) (meta : MetaGhosts M) where
  module _ (opening : State) (w : Whole D S M) (a : ℕ) (outcome : Outcome) (w' : Whole D S M) (t : IsTurn disk store meta w a outcome w') (c : IsCentral disk store meta opening w)
      (z : Place disk store meta opening w c t.place t.list t.actor_state t.order) (asks : t.order.command ≡ Offset LatestTiered) where
    pub offset_first : t.actor_state.in_progress ≡ Idle → (o : Outcome) → outcome ≡ o → OffsetFirstRow meta w.partition_state w.tier t.order.broker.0 z.x z.broker_tier o w'.tier → w'.partition_state ≡ w.partition_state → IsCentral disk store meta opening w'
    offset_first idle o is row same =
        leads_first disk store meta opening w a outcome w' t c z (Offset LatestTiered) asks idle (λ turn. refl) (λ g. refl) (λ turn r. r) o is row same

    -- the second turn

    answers : (g : StartSnapshot) → t.actor_state.in_progress ≡ Noted g → (answer : Answer) → outcome ≡ Answers answer → seen_offsets.OffsetOnRow c.partition (node_of z.x z.s) g answer c.partition
        → w'.partition_state ≡ w.partition_state → w'.tier ≡ w.tier → IsCentral disk store meta opening w'
    answers g recorded answer is row partition_state tier =
        stands disk store meta opening w a outcome w' t c z (Offset LatestTiered) asks (Noted g) recorded answer is refl tier
        (partition_state_same disk store meta opening w a outcome w' t c z (Offset LatestTiered) asks partition_state) row

    pub offset_on : (g : StartSnapshot) → t.actor_state.in_progress ≡ Noted g → (o : Outcome) → outcome ≡ o → OffsetOnRow w.partition_state z.x z.broker_tier g o → w'.partition_state ≡ w.partition_state → w'.tier ≡ w.tier → IsCentral disk store meta opening w'
    offset_on g recorded (Answers Stopped) is row partition_state tier = answers g recorded Stopped is (stopped_seen z.x z.s g row, refl) partition_state tier
    offset_on g recorded (Answers NotLeader) is row partition_state tier = answers g recorded NotLeader is (row.0, row.1, row.2, refl) partition_state tier
    offset_on g recorded (Answers (OffsetAnswer n)) is row partition_state tier = answers g recorded (OffsetAnswer n) is (keeps_seen z.x z.s g row.0, refl) partition_state tier
    offset_on g recorded (Answers NoOffset) is row partition_state tier = answers g recorded NoOffset is (keeps_seen z.x z.s g row.0, refl) partition_state tier
    offset_on g recorded (Answers other) is row partition_state tier = elim row.1 [ ]
    offset_on g recorded other is row partition_state tier = elim row [ ]
