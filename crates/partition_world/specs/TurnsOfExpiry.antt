-- What a turn of an expiry comes to over devices.
--
--   turn      does                                                        answers
--   first     refreshes the leader's view                                 Down, NotLeader, MetaFault
--   second    takes up the view's first due segment, or raises the start  LostLead, Kept, StaleEpoch, Raised
--   later     one call of a device, by the expiry's row                   LostLead, and what that row answers
--
-- A broker that has stopped, or has another role than at the first turn, has lost its lead. A segment is due where it
-- ends below the log start and its deletion isn't whole. Only where none is due does retention count: the pieces of
-- remote segments from the log start offset up to the known high watermark, by the leader's own line, and after them
-- what its local log has. Where segments aren't copied any more, so that the local log continues where the pieces end,
-- its closed segments count as they do. Local logs stay as they are.
--
-- Source: KIP-405, where the leader alone deletes remote segments, and by the retention of the whole log moves its
-- start; and KIP-950, by which a topic whose tiered storage is disabled for writing keeps what it has there under the
-- same retention.
use Rattle.std.specs.Prelude.{◌≡◌, ◌⊎◌, ℕ, List, Option, Some, None, option_map, unwrap_or, Ok, Err}
use Rattle.std.specs.declared.alloc.AllocError.{AllocError}
use Rattle.tier_base.specs.declared.names.PartitionId.{PartitionId}
use Rattle.tier_base.specs.declared.plain.Keep.{Keep}
use Rattle.object_store.specs.declared.store.Store.{Ghosts as StoreGhosts}
use Rattle.meta_log.specs.declared.log.MetaLog.{Ghosts as MetaGhosts}
use Rattle.local_log.specs.Stored.{size_of}
use Rattle.registry.specs.Calls.{after_raise}
use Rattle.registry.specs.declared.refusal.RegRefusal.TheVariants as Reg
use Rattle.segment_meta.specs.declared.note.Entry.{Entry}
use Rattle.remote_view.specs.Lookup.{due}
use Rattle.remote_find.specs.declared.piece.Piece.{Piece}
use Rattle.remote_find.specs.Pieces.{chain}
use Rattle.expiry_task.specs.Rule.{end_from, uncopied, end_behind, raised_to, rest_behind}
use Rattle.expiry_task.specs.declared.rule.Uncopied.{Uncopied}
use Rattle.expiry_task.specs.Turns.{Tiers, ExpiryRow}
use Rattle.expiry_task.specs.declared.turn.ExpiredSegment.{ExpiredSegment}
use Rattle.expiry_task.specs.declared.turn.DeletionStep.{DeletionStep}
use Rattle.plain_log.specs.declared.turn.Turn.{Turn}
use Rattle.plain_log.specs.declared.answer.Answer.{Answer}
use Rattle.plain_log.specs.declared.answer.Answer.TheVariants.{LostLead, Kept, StaleEpoch, Raised}
use Rattle.plain_log.specs.declared.state.Role.{Role}
use Rattle.plain_log.specs.declared.state.Role.TheVariants.{Leads}
use Rattle.broker_log.specs.Seen.{closed_in, layout_in}
use Rattle.laws_partition.specs.declared.start_snapshot.StartSnapshot.{StartSnapshot}
use Rattle.partition_commands.specs.declared.partition_state.Node.{Node}
use Rattle.partition_commands.specs.declared.partition_state.PartitionState.{PartitionState}
use Rattle.partition_commands.specs.Partition.{end_of, line_of, local_of}
use Rattle.partition_commands.specs.TurnsOfElections.{Leaves}
use Rattle.partition_world.specs.declared.tier.BrokerTierState.{BrokerTierState}
use Rattle.partition_world.specs.declared.tier.RemoteTier.{RemoteTier}
use Rattle.partition_world.specs.declared.actor_state.Outcome.{Outcome}
use Rattle.partition_world.specs.declared.actor_state.Outcome.TheVariants.{Answers, ChoosesExpired}
use Rattle.partition_world.specs.ActorStates.{expiry_outcome}
use Rattle.partition_world.specs.TurnsOfCopy.{KeepsLead, origin_of, LeadersFirstRow}

-- expire, first turn: as a copy's
module _ {D S M : Type 0} (meta : MetaGhosts M) where
  abbrev pub ExpireFirstRow : PartitionState D → RemoteTier S M → ℕ → Node D → BrokerTierState → Outcome
      → RemoteTier S M → Type 0
  ExpireFirstRow h t b x broker_tier outcome t' = LeadersFirstRow meta h t b x broker_tier outcome t'

module _ {D : Type 0} where
  -- the first segment of the view that ends below the log start offset, and whose deletion isn't whole
  abbrev pub due_of : PartitionState D → BrokerTierState → Option Entry
  due_of h broker_tier = due h.registry.start broker_tier.view.entries

  -- the pieces of remote segments from the log start offset on that end at or below the known high watermark, by the
  -- broker's own leader epochs
  abbrev pub pieces_of : PartitionState D → Node D → BrokerTierState → List Piece
  pieces_of h x broker_tier =
      chain broker_tier.view.entries (line_of x) (end_of x) h.registry.start x.known_high_watermark

  -- the bytes of the open segment, where the broker is up
  abbrev pub open_size_of : Node D → ℕ
  open_size_of x = unwrap_or (option_map (λ layout. size_of layout.active) (layout_in x.log)) 0

  -- the closed segments that count with these pieces, since they aren't copied any more
  abbrev pub own_of : PartitionState D → Node D → List Piece → List Uncopied
  own_of h x pieces =
      uncopied h.copying (local_of x) (end_from h.registry.start pieces) x.known_high_watermark (closed_in x.log)

  -- the bytes of the broker's local log after these pieces and segments
  abbrev pub rest_of : PartitionState D → Node D → List Piece → List Uncopied → ℕ
  rest_of h x pieces own =
      rest_behind (end_behind (end_from h.registry.start pieces) own) (closed_in x.log) (open_size_of x) (end_of x)

  -- where the log start offset comes to by these
  abbrev pub rises_by : PartitionState D → Node D → BrokerTierState → Keep → List Piece → List Uncopied → Option ℕ
  rises_by h x broker_tier keep pieces own =
      raised_to broker_tier.view.entries pieces own (rest_of h x pieces own) h.clock keep

  -- where the log start offset comes to, where retention lets it rise
  abbrev pub rises_to : PartitionState D → Node D → BrokerTierState → Keep → Option ℕ
  rises_to h x broker_tier keep =
      rises_by h x broker_tier keep (pieces_of h x broker_tier) (own_of h x (pieces_of h x broker_tier))

  -- the registry raises the log start offset to this for a broker of a role, or refuses since another leads by now
  abbrev pub ExpiryRaiseRow : PartitionState D → Role → ℕ → Answer → PartitionState D → Type 0
  ExpiryRaiseRow h role wanted (StaleEpoch n) h' =
      (e : ℕ) × (role ≡ Leads e) × Leaves h (after_raise h.registry e wanted (Err (Reg.StaleEpoch n))) h'
  ExpiryRaiseRow h role wanted (Raised start) h' =
      (e : ℕ) × (role ≡ Leads e) × Leaves h (after_raise h.registry e wanted (Ok start)) h'
  ExpiryRaiseRow h role wanted other h' = ⊥

  -- it takes up the first due segment of the view
  pub record TakesUp (p : PartitionId) (h : PartitionState D) (broker_tier : BrokerTierState)
      (expired_segment : ExpiredSegment) (h' : PartitionState D) : Type 0 where
    pub entry : Entry
    pub first : due_of h broker_tier ≡ Some entry
    pub id_is : expired_segment.id ≡ entry.id
    pub partition_is : expired_segment.partition ≡ p
    pub packed_is : expired_segment.packed ≡ entry.packed
    pub stays : h' ≡ h

  -- no segment is due, and the log start offset is to rise to this
  pub record MayRise (h : PartitionState D) (x : Node D) (broker_tier : BrokerTierState) (keep : Keep)
      (start : ℕ) : Type 0 where
    pub none : due_of h broker_tier ≡ None
    pub rises : rises_to h x broker_tier keep ≡ Some start

  -- expire, second turn, where it has kept its lead: by what it came to
  abbrev pub ExpiresBy : PartitionId → PartitionState D → Node D → BrokerTierState → Keep → Outcome → PartitionState D
      → Type 0
  ExpiresBy p h x broker_tier keep (ChoosesExpired expired_segment) h' = TakesUp p h broker_tier expired_segment h'
  ExpiresBy p h x broker_tier keep (Answers Kept) h' =
      (due_of h broker_tier ≡ None) × (rises_to h x broker_tier keep ≡ None) × (h' ≡ h)
  ExpiresBy p h x broker_tier keep (Answers answer) h' =
      (start : ℕ) × MayRise h x broker_tier keep start × ExpiryRaiseRow h x.role start answer h'
  ExpiresBy p h x broker_tier keep other h' = ⊥

  -- expire, second turn
  abbrev pub ExpireOnRow : PartitionId → PartitionState D → Node D → BrokerTierState → StartSnapshot → Keep → Outcome
      → PartitionState D → Type 0
  ExpireOnRow p h x broker_tier g keep outcome h' =
      ((KeepsLead x g → ⊥) × (outcome ≡ Answers LostLead) × (h' ≡ h))
      ⊎ (KeepsLead x g × ExpiresBy p h x broker_tier keep outcome h')

-- what an expiry's turn changes
abbrev pub expiry_tiers : {S M : Type 0} → RemoteTier S M → Tiers S M
expiry_tiers t = record { store = t.store; meta = t.meta }

module _ {D S M : Type 0} (store : StoreGhosts S) (meta : MetaGhosts M) where
  -- a turn of the expiry's row, and nothing else changes
  pub record GoesOnDeletion (h : PartitionState D) (t : RemoteTier S M) (b : ℕ) (expired_segment : ExpiredSegment)
      (next : DeletionStep) (turn : Turn DeletionStep) (t' : RemoteTier S M) : Type 0 where
    pub row : ExpiryRow store.content store.control meta.content meta.control expired_segment (origin_of h b) next
        (Ok turn)
        (expiry_tiers t) (expiry_tiers t')
    pub after : t' ≡ record t { store = t'.store; meta = t'.meta }

  -- it ran out of memory
  pub record WantsForDeletion (h : PartitionState D) (t : RemoteTier S M) (b : ℕ) (expired_segment : ExpiredSegment)
      (next : DeletionStep) (t' : RemoteTier S M) : Type 0 where
    pub error : AllocError
    pub row : ExpiryRow store.content store.control meta.content meta.control expired_segment (origin_of h b) next
        (Err error)
        (expiry_tiers t) (expiry_tiers t')
    pub after : t' ≡ record t { store = t'.store; meta = t'.meta }

  -- expire, a later turn: the lead is lost, or it goes by the expiry's row
  abbrev pub DeleteOnRow : PartitionState D → RemoteTier S M → ℕ → Node D → StartSnapshot → ExpiredSegment
      → DeletionStep → Outcome → RemoteTier S M → Type 0
  DeleteOnRow h t b x g expired_segment next outcome t' =
      ((KeepsLead x g → ⊥) × (outcome ≡ Answers LostLead) × (t' ≡ t))
      ⊎ (KeepsLead x g × ((turn : Turn DeletionStep) × (outcome ≡ expiry_outcome turn)
      × GoesOnDeletion h t b expired_segment next turn t'))
