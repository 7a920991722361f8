-- What a later turn of a timestamp lookup comes to over devices.
--
-- The tests are repeated at each turn, in their order: the broker hasn't stopped, and it leads the epoch that it led. A
-- cursor that the log start offset has passed continues at the log start offset, without what was found for it. At or
-- past the known high watermark no offset has the timestamp. Else the turn goes by the rows of searches: in the local
-- log, or below it and for a piece that was found there among the remote segments.
--
-- Source: Kafka's ListOffsets by timestamp, which KIP-405 extends to remote segments.
use Rattle.std.specs.Prelude.{◌≡◌, ◌≢◌, ℕ, ◌<◌, ◌≤◌, ◌^◌, max, nat_lt, nat_le}
use Rattle.std.specs.Prelude.{if◌then◌else◌, ℤ, Bool, true, false, List, Ok, Err}
use Rattle.std.specs.declared.alloc.AllocError.{AllocError}
use Rattle.tier_base.specs.declared.names.PartitionId.{PartitionId}
use Rattle.disk_model.specs.declared.disk.Disk.{Ghosts as DiskGhosts}
use Rattle.object_store.specs.declared.store.Store.{Ghosts as StoreGhosts}
use Rattle.meta_log.specs.declared.log.MetaLog.{Ghosts as MetaGhosts}
use Rattle.index_cache.specs.Cache.{Cache}
use Rattle.remote_view.specs.Fold.{EntriesSeen as View}
use Rattle.broker_log.specs.Seen.{LogState}
use Rattle.time_find.specs.declared.turn.Asked.{Asked}
use Rattle.time_find.specs.declared.turn.SearchStep.{SearchStep}
use Rattle.time_find.specs.declared.turn.SearchStep.TheVariants.{Seek}
use Rattle.plain_log.specs.declared.turn.Turn.{Turn}
use Rattle.plain_log.specs.declared.turn.Turn.TheVariants.{Goes, Ends}
use Rattle.time_find.specs.Turns.{LocalSearchRow, TimeRow, SearchContinues}
use Rattle.plain_log.specs.declared.answer.Answer.{Answer}
use Rattle.plain_log.specs.declared.answer.Answer.TheVariants.{Stopped, NotLeader, NoOffset}
use Rattle.laws_partition.specs.declared.start_snapshot.StartSnapshot.{StartSnapshot}
use Rattle.partition_commands.specs.declared.partition_state.Node.{Node}
use Rattle.partition_commands.specs.declared.partition_state.PartitionState.{PartitionState}
use Rattle.partition_commands.specs.Partition.{is_up, end_of, line_of, local_of, put_node}
use Rattle.partition_world.specs.declared.tier.BrokerTierState.{BrokerTierState}
use Rattle.partition_world.specs.declared.tier.RemoteTier.{RemoteTier}
use Rattle.partition_world.specs.declared.actor_state.Outcome.{Outcome}
use Rattle.partition_world.specs.declared.actor_state.Outcome.TheVariants.{Answers, Dates}
use Rattle.partition_world.specs.Tier.{put_broker_tier}
use Rattle.partition_world.specs.TurnsOfCopy.{KeepsLead}
use Rattle.partition_world.specs.TurnsOfFetch.{HasStopped, fetch_tiers}

-- where a search continues that has come to a cursor: nothing is searched below the log start offset
abbrev pub resumed_at : ℕ → ℕ → ℕ
resumed_at start cursor = max start cursor

-- and with what: what was found for a cursor below the log start offset is dropped
abbrev pub resumed_with : ℕ → ℕ → SearchStep → SearchStep
resumed_with start cursor next = if nat_lt cursor start then Seek else next

-- the turn is one in the local log
abbrev pub is_own : ℕ → ℕ → SearchStep → Bool
is_own local cursor Seek = nat_le local cursor
is_own local cursor next = false

module _ {D : Type 0} where
  -- what the search asks for at this turn
  abbrev pub asked_of : PartitionId → PartitionState D → Node D → ℤ → Asked
  asked_of p h x ts = record {
    partition = p;
    ts = ts;
    start = h.registry.start;
    local = local_of x;
    log_end = end_of x;
    mark = x.known_high_watermark;
  }

  -- what it is answered before it searches, with the tests that come before, where it continues at an offset
  abbrev pub AnswersAtOnce : Node D → StartSnapshot → ℕ → Answer → Type 0
  AnswersAtOnce x g at Stopped = HasStopped x g
  AnswersAtOnce x g at NotLeader = (g.stops ≡ x.stops) × (is_up x ≡ true) × (g.role ≢ x.role)
  AnswersAtOnce x g at NoOffset = KeepsLead x g × (x.known_high_watermark ≤ at)
  AnswersAtOnce x g at other = ⊥

module _ {D : Type 0} (disk : DiskGhosts D) where
  -- a turn in the local log: the broker's log is read at most
  pub record SearchesOwn (h : PartitionState D) (b : ℕ) (x : Node D) (asked : Asked) (cursor : ℕ)
      (turn : Turn (ℕ × SearchStep)) (h' : PartitionState D) : Type 0 where
    pub kept : LogState D
    pub row : LocalSearchRow disk.content disk.control x.log asked cursor turn kept
    pub after : h' ≡ put_node h b (record x { log = kept })

module _ {S M : Type 0} (store : StoreGhosts S) (meta : MetaGhosts M) where
  -- a turn among the remote segments, and nothing else changes
  pub record SearchesRemote (t : RemoteTier S M) (b : ℕ) (broker_tier : BrokerTierState) (line : List (ℕ × ℕ))
      (asked : Asked) (cursor : ℕ) (next : SearchStep)
      (turn : Turn (ℕ × SearchStep)) (t' : RemoteTier S M) : Type 0 where
    pub view : View
    pub cache : Cache
    pub row : TimeRow store.content store.control meta.content meta.control asked line cursor next (Ok turn)
        (fetch_tiers broker_tier.view broker_tier.cache t) (fetch_tiers view cache t')
    pub after : t' ≡ put_broker_tier (record t { store = t'.store; meta = t'.meta }) b
        (record broker_tier { view = view; cache = cache })

  -- it ran out of memory
  pub record WantsForDate (t : RemoteTier S M) (b : ℕ) (broker_tier : BrokerTierState) (line : List (ℕ × ℕ))
      (asked : Asked) (cursor : ℕ) (next : SearchStep)
      (t' : RemoteTier S M) : Type 0 where
    pub view : View
    pub cache : Cache
    pub error : AllocError
    pub row : TimeRow store.content store.control meta.content meta.control asked line cursor next (Err error)
        (fetch_tiers broker_tier.view broker_tier.cache t) (fetch_tiers view cache t')
    pub after : t' ≡ put_broker_tier (record t { store = t'.store; meta = t'.meta }) b
        (record broker_tier { view = view; cache = cache })

module _ {D S M : Type 0} (disk : DiskGhosts D) (store : StoreGhosts S) (meta : MetaGhosts M) where
  -- a turn of a search from a cursor on, in the local log or not
  abbrev pub SearchRow : PartitionState D → RemoteTier S M → ℕ → Node D → BrokerTierState → Asked → ℕ → SearchStep
      → Bool → Turn (ℕ × SearchStep) → PartitionState D → RemoteTier S M → Type 0
  SearchRow h t b x broker_tier asked cursor next true turn h' t' =
      SearchesOwn disk h b x asked cursor turn h' × (t' ≡ t)
  SearchRow h t b x broker_tier asked cursor next false turn h' t' =
      SearchesRemote store meta t b broker_tier (line_of x) asked cursor next turn t' × (h' ≡ h)

  -- the broker leads as it did, and the search continues where it is resumed, below the known high watermark
  pub record SearchesOn (p : PartitionId) (h : PartitionState D) (t : RemoteTier S M) (b : ℕ) (x : Node D)
      (broker_tier : BrokerTierState) (g : StartSnapshot) (ts : ℤ)
      (cursor : ℕ) (next : SearchStep) (turn : Turn (ℕ × SearchStep)) (h' : PartitionState D) (t' : RemoteTier S M)
      : Type 0 where
    pub keeps : KeepsLead x g
    pub below : resumed_at h.registry.start cursor < x.known_high_watermark
    -- an offset has 64 bits
    pub fits : resumed_at h.registry.start cursor < 2 ^ 64
    pub row : SearchRow h t b x broker_tier (asked_of p h x ts) (resumed_at h.registry.start cursor)
        (resumed_with h.registry.start cursor next)
        (is_own (local_of x) (resumed_at h.registry.start cursor) (resumed_with h.registry.start cursor next)) turn h'
        t'

  -- offset of a timestamp, a later turn of one that has come to this cursor with this
  abbrev pub DateOnRow : PartitionId → PartitionState D → RemoteTier S M → ℕ → Node D → BrokerTierState → StartSnapshot
      → ℤ → ℕ → SearchStep → Outcome → PartitionState D → RemoteTier S M → Type 0
  DateOnRow p h t b x broker_tier g ts cursor next (Answers Stopped) h' t' = HasStopped x g × (h' ≡ h) × (t' ≡ t)
  DateOnRow p h t b x broker_tier g ts cursor next (Answers NotLeader) h' t' =
      (g.stops ≡ x.stops) × (is_up x ≡ true) × (g.role ≢ x.role) × (h' ≡ h) × (t' ≡ t)
  DateOnRow p h t b x broker_tier g ts cursor next (Answers NoOffset) h' t' =
      KeepsLead x g × (x.known_high_watermark ≤ resumed_at h.registry.start cursor) × (h' ≡ h) × (t' ≡ t)
  DateOnRow p h t b x broker_tier g ts cursor next (Answers answer) h' t' =
      SearchesOn p h t b x broker_tier g ts cursor next (Ends answer) h' t'
  DateOnRow p h t b x broker_tier g ts cursor next (Dates at later) h' t' =
      SearchesOn p h t b x broker_tier g ts cursor next (Goes (at, later)) h' t'
      × SearchContinues (resumed_at h.registry.start cursor) (Goes (at, later))
  DateOnRow p h t b x broker_tier g ts cursor next other h' t' = ⊥
