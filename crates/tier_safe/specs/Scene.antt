-- The remote tier of a partition as it is seen, with what its brokers and the commands on its desk know of it.
--
-- It is beside a state of the plain log, which has each broker's log whole, from offset 0 on, whatever of it is on a
-- disk. Of a broker that is down its disk alone says what it has. There `start` is the greatest local start and
-- `incarnation` the least one that an image of its disk may have.
--
-- Source: KIP-405: objects in a remote store, a log of remote segments' metadata, and on each broker a view of that
-- metadata, a local log start offset, and a cache of remote indexes.
use Rattle.std.specs.Prelude.{ℕ, Bool, List, Option}
use Rattle.tier_base.specs.declared.names.PartitionId.{PartitionId}
use Rattle.tier_base.specs.declared.names.SegmentId.{SegmentId}
use Rattle.sparse_index.specs.Offsets.{OffsetTable}
use Rattle.segment_meta.specs.declared.note.Note.{Note}
use Rattle.object_store.specs.Content.{Objects}
use Rattle.remote_view.specs.Fold.{EntriesSeen}
use Rattle.remote_find.specs.declared.piece.Piece.{Piece}
use Rattle.copy_task.specs.Copying.{Copied}
use Rattle.copy_task.specs.declared.turn.CopyStep.{CopyStep as CopyNext}
use Rattle.expiry_task.specs.declared.turn.ExpiredSegment.{ExpiredSegment}
use Rattle.expiry_task.specs.declared.turn.DeletionStep.{DeletionStep as ExpiryNext}

-- a broker's tier state of the tier
pub record BrokerTierView : Type 0 where
  pub up : Bool
  -- where its local log starts
  pub start : ℕ
  -- how often its log was opened, and the number of its next copy since
  pub incarnation : ℕ
  pub next : ℕ
  pub view : EntriesSeen
  -- offset indexes of remote segments
  pub cache : List (SegmentId × OffsetTable)

-- a follower's log is to restart, where the leader's local log starts, with what is below in the remote tier
pub record Rebuild : Type 0 where
  pub broker : ℕ
  -- the epoch that it has joined, and where its log ended
  pub epoch : ℕ
  pub end : ℕ
  -- where its local log is to start
  pub wanted : ℕ
  -- its view has taken in all metadata events since
  pub refreshed : Bool
  -- the leader epochs that it has read beside a remote segment, once it has
  pub line : Option (List (ℕ × ℕ))

-- a fetch below its leader's local start
pub record Sought : Type 0 where
  pub broker : ℕ
  -- the broker's stops and the epoch that it led when the fetch began
  pub stops : ℕ
  pub epoch : ℕ
  pub offset : ℕ
  -- what it reads from, once that is found, and the position in that remote segment's log where it begins to read
  pub piece : Option Piece
  pub from : Option ℕ

-- what an actor's state of the desk keeps between two turns
pub data TierTask : Type 0 where
  Free : TierTask
  Copies : (copy : Copied) → (next : CopyNext) → TierTask
  Expires : (expired_segment : ExpiredSegment) → (next : ExpiryNext) → TierTask
  Rebuilds : (rebuild : Rebuild) → TierTask
  Seeks : (sought : Sought) → TierTask

-- the tier of a partition: its objects and metadata events, its brokers, and its desk
pub record Scene : Type 0 where
  pub partition : PartitionId
  pub objects : Objects
  -- the oldest first
  pub notes : List Note
  pub tier_views : List BrokerTierView
  pub desk : List TierTask
