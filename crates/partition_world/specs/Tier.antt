-- A partition's remote tier: the store and the metadata log, which no broker has for itself, and what each broker
-- knows.
use Rattle.std.specs.Prelude.{◌≡◌, ℕ, ◌+◌, ◌==◌, if◌then◌else◌, slice_get, slice_set, IsSomeAnd}
use Rattle.object_store.specs.declared.store.Store.{Ghosts as StoreGhosts}
use Rattle.object_store.specs.Content.{Keeps as KeepsObjects}
use Rattle.tier_base.specs.Device.{Arms}
use Rattle.meta_log.specs.declared.log.MetaLog.{Ghosts as MetaGhosts}
use Rattle.meta_log.specs.Content.{Keeps as KeepsNotes}
use Rattle.remote_view.specs.Fold.{EntriesSeen}
use Rattle.view_refresh.specs.Refreshing.{Refreshed, Unread, Halted}
use Rattle.partition_world.specs.declared.tier.BrokerTierState.{BrokerTierState}
use Rattle.partition_world.specs.declared.tier.RemoteTier.{RemoteTier}

-- the number of the next copy of a log that was opened so often
abbrev pub next_of : BrokerTierState → ℕ → ℕ
next_of broker_tier incarnation = if broker_tier.incarnation == incarnation then broker_tier.attempt else 0

-- the tier state after a copy under its next number
abbrev pub counted : BrokerTierState → ℕ → BrokerTierState
counted broker_tier incarnation =
    record broker_tier { incarnation = incarnation; attempt = next_of broker_tier incarnation + 1 }

module _ {S M : Type 0} where
  -- the tier with this tier state in its place
  abbrev pub put_broker_tier : RemoteTier S M → ℕ → BrokerTierState → RemoteTier S M
  put_broker_tier t b broker_tier = record t { broker_tiers = slice_set t.broker_tiers b broker_tier }

  -- there is such a tier state, and this holds of it
  abbrev pub AtBrokerTier : RemoteTier S M → ℕ → (BrokerTierState → Type 0) → Type 0
  AtBrokerTier t b P = IsSomeAnd (slice_get t.broker_tiers b) P

module _ {S M : Type 0} (meta : MetaGhosts M) where
  -- the broker's view has taken in all that the metadata log has more
  pub record RefreshesBroker (t : RemoteTier S M) (b : ℕ) (broker_tier : BrokerTierState)
      (t' : RemoteTier S M) : Type 0 where
    pub view : EntriesSeen
    pub reads : Refreshed meta.content meta.control broker_tier.view view t.meta t'.meta
    pub after : t' ≡ put_broker_tier (record t { meta = t'.meta }) b (record broker_tier { view = view })

  -- the metadata log failed, and the view is as it was
  pub record FailsToRead (t : RemoteTier S M) (broker_tier : BrokerTierState) (t' : RemoteTier S M) : Type 0 where
    pub reads : Unread meta.content meta.control broker_tier.view broker_tier.view t.meta t'.meta
    pub after : t' ≡ record t { meta = t'.meta }

  -- memory ran out, and the view has taken in some of what the metadata log has more
  pub record HaltsRefresh (t : RemoteTier S M) (b : ℕ) (broker_tier : BrokerTierState)
      (t' : RemoteTier S M) : Type 0 where
    pub view : EntriesSeen
    pub reads : Halted meta.content meta.control broker_tier.view view t.meta t'.meta
    pub after : t' ≡ put_broker_tier (record t { meta = t'.meta }) b (record broker_tier { view = view })

module _ {S M : Type 0} (store : StoreGhosts S) (meta : MetaGhosts M) where
  -- the plans of store and metadata log are in force, and they hold what they did
  pub record IsArmedTier (s : S) (m : M) (t : RemoteTier S M) : Type 0 where
    pub objects : KeepsObjects (store.content s) (store.content t.store)
    pub store_armed : Arms (store.control s) (store.control t.store)
    pub notes : KeepsNotes (meta.content m) (meta.content t.meta)
    pub meta_armed : Arms (meta.control m) (meta.control t.meta)
