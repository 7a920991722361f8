-- A later turn of a fetch is its row.
use Rattle.std.proofs.Common.{◌≡◌, subst, ℕ, List, [], Option, Some, Ok}
use Rattle.std.specs.Prelude.{unwrap_or}
use Rattle.tier_base.specs.declared.names.PartitionId.{PartitionId}
use Rattle.object_store.specs.declared.store.Store.{Ghosts as StoreGhosts}
use Rattle.meta_log.specs.declared.log.MetaLog.{Ghosts as MetaGhosts}
use Rattle.plain_log.specs.declared.turn.Turn.{Turn}
use Rattle.plain_log.specs.declared.turn.Turn.TheVariants as fetch
use Rattle.tier_fetch.specs.declared.turn.FetchStep.{FetchStep}
use Rattle.tier_fetch.specs.Turns.{Tiers, RemoteFetchRow, GoesFor}
use Rattle.index_cache.specs.Cache.{Cache}
use Rattle.remote_view.specs.Fold.{EntriesSeen as View}
use Rattle.broker_log.specs.Seen.{line_in}
use Rattle.plain_log.specs.declared.answer.Answer.{Answer}
use Rattle.plain_log.specs.declared.answer.Answer.TheVariants.{MetaFault, StoreFault, Damaged, Run}
use Rattle.laws_partition.specs.declared.start_snapshot.StartSnapshot.{StartSnapshot}
use Rattle.partition_commands.specs.declared.partition_state.Node.{Node}
use Rattle.partition_commands.specs.declared.partition_state.PartitionState.{PartitionState}
use Rattle.partition_commands.specs.Partition.{end_of, line_of}
use Rattle.partition_world.specs.declared.tier.BrokerTierState.{BrokerTierState}
use Rattle.partition_world.specs.declared.tier.RemoteTier.{RemoteTier}
use Rattle.partition_world.specs.declared.actor_state.Outcome.TheVariants.{Answers}
use Rattle.partition_world.specs.Tier.{put_broker_tier}
use Rattle.partition_world.specs.ActorStates.{fetch_outcome}
use Rattle.partition_world.specs.TurnsOfFetch.{MayServe, GoesOnFetch, FetchOnRow, wanted_of, fetch_tiers}
use Rattle.partition_world.proofs.FetchEnds.{MayEnd, fetch_ends}

module _ {D S M : Type 0} (store : StoreGhosts S) (meta : MetaGhosts M) where
  ends_row : (p : PartitionId) (h : PartitionState D) (t : RemoteTier S M) (b : ℕ) (x : Node D) (broker_tier : BrokerTierState) (g : StartSnapshot) (offset limit : ℕ) (next : FetchStep) (answer : Answer) (t' : RemoteTier S M)
      → MayEnd answer → MayServe h x g offset → GoesOnFetch store meta p t b x broker_tier offset limit next (fetch.Ends answer) t'
      → FetchOnRow store meta p h t b x broker_tier g offset limit next (Answers answer) t'
  ends_row p h t b x broker_tier g offset limit next MetaFault t' may s w = (s, w)
  ends_row p h t b x broker_tier g offset limit next StoreFault t' may s w = (s, w)
  ends_row p h t b x broker_tier g offset limit next (Damaged place at) t' may s w = (s, w)
  ends_row p h t b x broker_tier g offset limit next (Run tier size stop bytes) t' may s w = (s, w)
  ends_row p h t b x broker_tier g offset limit next other t' may s w = absurd may

  -- what is read of the log in the tier's row, by its end and its leader epochs
  row_at : (p : PartitionId) (x : Node D) (offset limit end : ℕ) (line : List (ℕ × ℕ)) (next : FetchStep) (turn : Turn FetchStep) (old new : Tiers S M) → end ≡ end_of x → Some line ≡ line_in x.log
      → RemoteFetchRow store.content store.control meta.content meta.control (record { partition = p; offset = offset; limit = limit; log_end = end; mark = x.known_high_watermark }) line next (Ok turn) old new
      → RemoteFetchRow store.content store.control meta.content meta.control (wanted_of p x offset limit) (line_of x) next (Ok turn) old new
  row_at p x offset limit end line next turn old new at is row =
      subst (λ (o : Option (List (ℕ × ℕ))). RemoteFetchRow store.content store.control meta.content meta.control (wanted_of p x offset limit) (unwrap_or o []) next (Ok turn) old new) is
      (subst (λ (n : ℕ). RemoteFetchRow store.content store.control meta.content meta.control (record { partition = p; offset = offset; limit = limit; log_end = n; mark = x.known_high_watermark }) line next (Ok turn) old new) at row)

  goes_row : (p : PartitionId) (h : PartitionState D) (t : RemoteTier S M) (b : ℕ) (x : Node D) (broker_tier : BrokerTierState) (g : StartSnapshot) (offset limit : ℕ) (next : FetchStep) (turn : Turn FetchStep) (t' : RemoteTier S M)
      → MayServe h x g offset → GoesOnFetch store meta p t b x broker_tier offset limit next turn t' → GoesFor offset turn
      → FetchOnRow store meta p h t b x broker_tier g offset limit next (fetch_outcome turn) t'
  goes_row p h t b x broker_tier g offset limit next (fetch.Goes later) t' s w goes = (s, w, goes)
  goes_row p h t b x broker_tier g offset limit next (fetch.Ends answer) t' s w goes =
      ends_row p h t b x broker_tier g offset limit next answer t'
      (fetch_ends store meta (wanted_of p x offset limit) (line_of x) next answer (fetch_tiers broker_tier.view broker_tier.cache t) (fetch_tiers w.view w.cache t') w.row) s w

  -- of one that reads
  pub turn_row : (p : PartitionId) (h : PartitionState D) (t : RemoteTier S M) (b : ℕ) (x : Node D) (broker_tier : BrokerTierState) (g : StartSnapshot) (offset limit end : ℕ) (line : List (ℕ × ℕ)) (next : FetchStep) (turn : Turn FetchStep)
      (view : View) (cache : Cache) (t' : RemoteTier S M) → end ≡ end_of x → Some line ≡ line_in x.log → MayServe h x g offset
      → RemoteFetchRow store.content store.control meta.content meta.control (record { partition = p; offset = offset; limit = limit; log_end = end; mark = x.known_high_watermark }) line next (Ok turn)
      (fetch_tiers broker_tier.view broker_tier.cache t) (fetch_tiers view cache t')
      → t' ≡ put_broker_tier (record t { store = t'.store; meta = t'.meta }) b (record broker_tier { view = view; cache = cache }) → GoesFor offset turn
      → FetchOnRow store meta p h t b x broker_tier g offset limit next (fetch_outcome turn) t'
  turn_row p h t b x broker_tier g offset limit end line next turn view cache t' at is s row after goes =
      goes_row p h t b x broker_tier g offset limit next turn t' s (record {
        view = view;
        cache = cache;
        row = row_at p x offset limit end line next turn (fetch_tiers broker_tier.view broker_tier.cache t) (fetch_tiers view cache t') at is row;
        after = after;
      }) goes
