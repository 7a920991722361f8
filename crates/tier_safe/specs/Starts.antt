-- What holds of the log start and of local starts.
--
--   Sites      a local log starts within its log
--   Deletions  what is deleted ends below the log start offset
--   Covered    what a local log lacks from the log start offset on is covered by finished copies
--   Rebuilds   so is what a rebuild is to leave out
--
-- Source: KIP-405: the local log start offset, deletion by the log start offset, and followers that begin their local
-- log again at the leader's local log start offset.
use Rattle.std.specs.Prelude.{◌≡◌, ◌≢◌, ℕ, ◌-◌, ◌<◌, ◌≤◌, true, List, Some, length, slice_get}
use mathlib.Core.List.{IsPrefix}
use Rattle.tier_base.specs.declared.plain.State.{State}
use Rattle.tier_base.specs.declared.plain.State.TheVariants.{CopyFinished}
use Rattle.tier_base.specs.declared.names.SegmentId.{SegmentId}
use Rattle.log_terms.specs.Line.{epoch_at, epoch_holding}
use Rattle.log_terms.specs.Log.{end_of}
use Rattle.segment_meta.specs.declared.note.Entry.{Entry}
use Rattle.segment_meta.specs.declared.note.Note.{Note}
use Rattle.plain_log.specs.declared.state.Path.{Path}
use Rattle.plain_log.specs.declared.state.Broker.{Broker}
use Rattle.plain_log.specs.Safe.{HasOnPath}
use Rattle.remote_view.specs.Fold.{entry_of, fold}
use Rattle.expiry_task.specs.Turns.{keys}
use Rattle.expiry_task.specs.declared.turn.ExpiredSegment.{ExpiredSegment}
use Rattle.expiry_task.specs.declared.turn.DeletionStep.{DeletionStep as ExpiryNext}
use Rattle.expiry_task.specs.declared.turn.DeletionStep.TheVariants as expiring
use Rattle.tier_safe.specs.Scene.{BrokerTierView, Rebuild, TierTask, Expires, Rebuilds}
use Rattle.tier_safe.specs.Lineage.{CoversLog}
use Rattle.tier_safe.specs.Copies.{is_deleted}

-- local starts

-- a broker's tier state is up where the broker is, and its local log starts at or below the log's end
pub record BrokerTierMatches (tier_view : BrokerTierView) (x : Broker) : Type 0 where
  pub up : tier_view.up ≡ x.up
  pub within : tier_view.start ≤ end_of x.log

-- each broker has a tier state, and it is so
pub record BrokerTiersMatch (tier_views : List BrokerTierView) (brokers : List Broker) : Type 0 where
  pub count : length tier_views ≡ length brokers
  pub each : (b : ℕ) (tier_view : BrokerTierView) (x : Broker) → slice_get tier_views b ≡ Some tier_view
      → slice_get brokers b ≡ Some x
      → BrokerTierMatches tier_view x

-- deletions

-- a copy that was finished once, after the first so many metadata events, and isn't any more, ends below the log start
-- offset
abbrev pub DeletedEnd : List Note → ℕ → Type 0
DeletedEnd notes start =
    (id : SegmentId) (before : List Note) (then now : Entry) → IsPrefix before notes
    → entry_of id (fold before) ≡ Some then
    → then.state ≡ CopyFinished → entry_of id (fold notes) ≡ Some now → now.state ≢ CopyFinished → now.end < start

-- once an expiry's first metadata event is reported, the deletion has started
abbrev pub HasBegun : ExpiryNext → State → Type 0
HasBegun expiring.Start state = Unit {0}
HasBegun (expiring.Delete n) state = is_deleted state ≡ true
HasBegun expiring.Finish state = is_deleted state ≡ true

-- the object that an expiry takes away next has a key
abbrev pub ExpiryHasKey : ExpiredSegment → ExpiryNext → Type 0
ExpiryHasKey expired_segment (expiring.Delete n) = n < length (keys expired_segment)
ExpiryHasKey expired_segment next = Unit {0}

-- what an expiry on the desk deletes ends below the log start offset
pub record ExpiryStands (entries : List Entry) (start : ℕ) (expired_segment : ExpiredSegment)
    (next : ExpiryNext) : Type 0 where
  pub entry : Entry
  pub there : entry_of expired_segment.id entries ≡ Some entry
  pub below : entry.end < start
  pub snapshot : HasBegun next entry.state
  pub key : ExpiryHasKey expired_segment next

-- what is deleted, and what is about to be
pub record DeletionsStand (notes : List Note) (start : ℕ) (desk : List TierTask) : Type 0 where
  pub ended : DeletedEnd notes start
  pub each : (a : ℕ) (expired_segment : ExpiredSegment) (next : ExpiryNext)
      → slice_get desk a ≡ Some (Expires expired_segment next)
      → ExpiryStands (fold notes) start expired_segment next

-- what local logs lack

-- each offset from the log start offset up to a broker's local start is covered, in the epoch that the broker's log has
-- there
abbrev pub CoveredStands : List Entry → ℕ → List BrokerTierView → List Broker → Type 0
CoveredStands entries start tier_views brokers =
    (b : ℕ) (tier_view : BrokerTierView) (x : Broker) → slice_get tier_views b ≡ Some tier_view
    → slice_get brokers b ≡ Some x
    → (o : ℕ) → start ≤ o → o < tier_view.start → CoversLog entries x.log o

-- a rebuild on the desk: the batches below the wanted offset are the path's; from the log start offset on they are
-- covered, the last one also in the refreshed view; and the leader epochs have their epochs
pub record RebuildStands (paths : List Path) (notes : List Note) (start : ℕ) (tier_views : List BrokerTierView)
    (rebuild : Rebuild)
    : Type 0 where
  pub front : List (List ℕ)
  pub begins : HasOnPath paths rebuild.epoch front
  pub ends : end_of front ≡ rebuild.wanted
  pub above : rebuild.end < rebuild.wanted
  pub covered : (o : ℕ) → start ≤ o → o < rebuild.wanted → CoversLog (fold notes) front o
  pub seen : (tier_view : BrokerTierView) → slice_get tier_views rebuild.broker ≡ Some tier_view
      → rebuild.refreshed ≡ true → start < rebuild.wanted
      → CoversLog tier_view.view.entries front (rebuild.wanted - 1)
  pub line : (line : List (ℕ × ℕ)) → rebuild.line ≡ Some line
      → (o : ℕ) → o < rebuild.wanted → epoch_at line o ≡ epoch_holding front o

-- each rebuild on the desk
abbrev pub RebuildsStand : List Path → List Note → ℕ → List BrokerTierView → List TierTask → Type 0
RebuildsStand paths notes start tier_views desk =
    (a : ℕ) (rebuild : Rebuild) → slice_get desk a ≡ Some (Rebuilds rebuild)
    → RebuildStands paths notes start tier_views rebuild
