-- What a later turn of a fetch comes to over devices: of one that continues in the remote tier.
--
-- The tests are repeated at each turn, in their order: the broker hasn't stopped, it leads the epoch that it led, the
-- offset is in the log's range, and it is below the known high watermark. Then the turn goes by the row of fetches from
-- the remote tier.
use Rattle.std.specs.Prelude.{◌≡◌, ◌≢◌, ◌⊎◌, ◌<◌, ◌≤◌, ℕ, true, false, Ok, Err}
use Rattle.std.specs.declared.alloc.AllocError.{AllocError}
use Rattle.tier_base.specs.declared.names.PartitionId.{PartitionId}
use Rattle.object_store.specs.declared.store.Store.{Ghosts as StoreGhosts}
use Rattle.meta_log.specs.declared.log.MetaLog.{Ghosts as MetaGhosts}
use Rattle.index_cache.specs.Cache.{Cache}
use Rattle.remote_view.specs.Fold.{EntriesSeen as View}
use Rattle.plain_log.specs.declared.turn.Turn.{Turn}
use Rattle.plain_log.specs.declared.turn.Turn.TheVariants as fetch
use Rattle.tier_fetch.specs.declared.turn.FetchStep.{FetchStep}
use Rattle.tier_fetch.specs.declared.turn.FetchRequest.{FetchRequest}
use Rattle.tier_fetch.specs.Turns.{Tiers, RemoteFetchRow, IsPieceFor}
use Rattle.plain_log.specs.declared.answer.Answer.{Answer}
use Rattle.plain_log.specs.declared.answer.Answer.TheVariants.{Stopped, NotLeader, OutOfRange, Empty}
use Rattle.laws_partition.specs.declared.start_snapshot.StartSnapshot.{StartSnapshot}
use Rattle.partition_commands.specs.declared.partition_state.Node.{Node}
use Rattle.partition_commands.specs.declared.partition_state.PartitionState.{PartitionState}
use Rattle.partition_commands.specs.Partition.{is_up, end_of, line_of}
use Rattle.partition_commands.specs.TurnsOfLog.{IsInLog}
use Rattle.partition_world.specs.declared.tier.BrokerTierState.{BrokerTierState}
use Rattle.partition_world.specs.declared.tier.RemoteTier.{RemoteTier}
use Rattle.partition_world.specs.declared.actor_state.Outcome.{Outcome}
use Rattle.partition_world.specs.declared.actor_state.Outcome.TheVariants.{Answers, Seeks}
use Rattle.partition_world.specs.Tier.{put_broker_tier}
use Rattle.partition_world.specs.TurnsOfCopy.{KeepsLead}

module _ {D : Type 0} where
  -- the broker has stopped since the command began
  abbrev pub HasStopped : Node D → StartSnapshot → Type 0
  HasStopped x g = (g.stops ≢ x.stops) ⊎ (is_up x ≡ false)

  -- the broker leads as it did, and the offset is in the log's range and below the known high watermark
  pub record MayServe (h : PartitionState D) (x : Node D) (g : StartSnapshot) (offset : ℕ) : Type 0 where
    pub keeps : KeepsLead x g
    pub within : IsInLog h x offset
    pub below : offset < x.known_high_watermark

  -- what it is answered before it reads, with the tests that come before
  abbrev pub AnswersAtOnce : PartitionState D → Node D → StartSnapshot → ℕ → Answer → Type 0
  AnswersAtOnce h x g offset Stopped = HasStopped x g
  AnswersAtOnce h x g offset NotLeader = (g.stops ≡ x.stops) × (is_up x ≡ true) × (g.role ≢ x.role)
  AnswersAtOnce h x g offset (OutOfRange start end) =
      KeepsLead x g × ((offset < start) ⊎ (end < offset)) × (start ≡ h.registry.start) × (end ≡ end_of x)
  AnswersAtOnce h x g offset Empty = KeepsLead x g × IsInLog h x offset × (x.known_high_watermark ≤ offset)
  AnswersAtOnce h x g offset other = ⊥

  -- what the fetch asks for at this turn
  abbrev pub wanted_of : PartitionId → Node D → ℕ → ℕ → FetchRequest
  wanted_of p x offset limit =
      record { partition = p; offset = offset; limit = limit; log_end = end_of x; mark = x.known_high_watermark }

-- what a turn of a fetch changes
abbrev pub fetch_tiers : {S M : Type 0} → View → Cache → RemoteTier S M → Tiers S M
fetch_tiers view cache t = record { view = view; cache = cache; store = t.store; meta = t.meta }

module _ {D S M : Type 0} (store : StoreGhosts S) (meta : MetaGhosts M) where
  -- a turn of the fetch's row, and nothing else changes
  pub record GoesOnFetch (p : PartitionId) (t : RemoteTier S M) (b : ℕ) (x : Node D) (broker_tier : BrokerTierState)
      (offset limit : ℕ) (next : FetchStep)
      (turn : Turn FetchStep) (t' : RemoteTier S M) : Type 0 where
    pub view : View
    pub cache : Cache
    pub row : RemoteFetchRow store.content store.control meta.content meta.control (wanted_of p x offset limit)
        (line_of x) next (Ok turn)
        (fetch_tiers broker_tier.view broker_tier.cache t) (fetch_tiers view cache t')
    pub after : t' ≡ put_broker_tier (record t { store = t'.store; meta = t'.meta }) b
        (record broker_tier { view = view; cache = cache })

  -- it ran out of memory
  pub record WantsForFetch (p : PartitionId) (t : RemoteTier S M) (b : ℕ) (x : Node D) (broker_tier : BrokerTierState)
      (offset limit : ℕ) (next : FetchStep)
      (t' : RemoteTier S M) : Type 0 where
    pub view : View
    pub cache : Cache
    pub error : AllocError
    pub row : RemoteFetchRow store.content store.control meta.content meta.control (wanted_of p x offset limit)
        (line_of x) next (Err error)
        (fetch_tiers broker_tier.view broker_tier.cache t) (fetch_tiers view cache t')
    pub after : t' ≡ put_broker_tier (record t { store = t'.store; meta = t'.meta }) b
        (record broker_tier { view = view; cache = cache })

  -- fetch, a later turn
  abbrev pub FetchOnRow : PartitionId → PartitionState D → RemoteTier S M → ℕ → Node D → BrokerTierState → StartSnapshot
      → ℕ → ℕ → FetchStep → Outcome → RemoteTier S M → Type 0
  FetchOnRow p h t b x broker_tier g offset limit next (Answers Stopped) t' = HasStopped x g × (t' ≡ t)
  FetchOnRow p h t b x broker_tier g offset limit next (Answers NotLeader) t' =
      (g.stops ≡ x.stops) × (is_up x ≡ true) × (g.role ≢ x.role) × (t' ≡ t)
  FetchOnRow p h t b x broker_tier g offset limit next (Answers (OutOfRange start end)) t' =
      KeepsLead x g × ((offset < start) ⊎ (end < offset)) × (start ≡ h.registry.start) × (end ≡ end_of x) × (t' ≡ t)
  FetchOnRow p h t b x broker_tier g offset limit next (Answers Empty) t' =
      KeepsLead x g × IsInLog h x offset × (x.known_high_watermark ≤ offset) × (t' ≡ t)
  FetchOnRow p h t b x broker_tier g offset limit next (Answers answer) t' =
      MayServe h x g offset × GoesOnFetch p t b x broker_tier offset limit next (fetch.Ends answer) t'
  FetchOnRow p h t b x broker_tier g offset limit next (Seeks later) t' =
      MayServe h x g offset × GoesOnFetch p t b x broker_tier offset limit next (fetch.Goes later) t'
      × IsPieceFor offset later
  FetchOnRow p h t b x broker_tier g offset limit next other t' = ⊥
