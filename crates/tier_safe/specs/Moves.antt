-- When a command on the desk may move.
--
-- What a view shows is said of an id's entry in it. What a fetch finds must exist only for as long as its broker still
-- leads and the log start offset isn't above its offset.
use Rattle.std.specs.Prelude.{◌≡◌, ℕ, ◌<◌, ◌≤◌, true, false, List, Some, None, slice_get}
use mathlib.Core.List.{IsPrefix}
use Rattle.tier_base.specs.declared.plain.State.{State}
use Rattle.log_terms.specs.Line.{epoch_at, epoch_holding}
use Rattle.log_terms.specs.Log.{end_of}
use Rattle.segment_meta.specs.declared.note.Entry.{Entry}
use Rattle.plain_log.specs.declared.state.State.{State as Plain}
use Rattle.plain_log.specs.declared.state.Broker.{Broker}
use Rattle.plain_log.specs.State.{path_of}
use Rattle.plain_log.specs.Safe.{HasOnPath}
use Rattle.remote_view.specs.Fold.{entry_of, state_of, fold, view_of}
use Rattle.remote_view.specs.Lookup.{is_due}
use Rattle.remote_find.specs.declared.piece.Piece.{Piece}
use Rattle.copy_task.specs.Copying.{Copied}
use Rattle.copy_task.specs.declared.turn.CopyStep.TheVariants as copying
use Rattle.expiry_task.specs.declared.turn.ExpiredSegment.{ExpiredSegment}
use Rattle.tier_safe.specs.Scene.{BrokerTierView, Rebuild, Sought, Free, Copies, Rebuilds, Seeks, Scene}
use Rattle.tier_safe.specs.Changes.{Move, Leaves, Overtakes, ChoosesExpired, Wants}
use Rattle.tier_safe.specs.Changes.{Refreshes, Lines, Asks, Finds, Skips, Reads}
use Rattle.tier_safe.specs.Copies.{is_deleted}
use Rattle.tier_safe.specs.Fetches.{SeesCopy, StillLeads, PieceStands, PositionStands}

-- a broker's view shows the copy's entry deleted
pub record MayOvertake (a : ℕ) (copy : Copied) (c : Scene) : Type 0 where
  pub actor_state : slice_get c.desk a ≡ Some (Copies copy copying.Check)
  pub b : ℕ
  pub tier_view : BrokerTierView
  pub tier_view_is : slice_get c.tier_views b ≡ Some tier_view
  pub state : State
  pub shows : state_of copy.id tier_view.view.entries ≡ Some state
  pub deleted : is_deleted state ≡ true

-- a broker's view shows the entry, which is due: it ends below the log start offset
pub record MayChooseExpired (a b : ℕ) (expired_segment : ExpiredSegment) (c : Scene) (p : Plain) : Type 0 where
  pub actor_state : slice_get c.desk a ≡ Some Free
  pub tier_view : BrokerTierView
  pub tier_view_is : slice_get c.tier_views b ≡ Some tier_view
  pub entry : Entry
  pub there : entry_of expired_segment.id tier_view.view.entries ≡ Some entry
  pub due : is_due p.registry.start entry ≡ true
  pub partition : expired_segment.partition ≡ entry.partition

-- the wanted offset is the local start of a broker whose log begins the epoch's path, and above where the rebuild's
-- log ended
pub record MayWant (a : ℕ) (rebuild : Rebuild) (c : Scene) (p : Plain) : Type 0 where
  pub actor_state : slice_get c.desk a ≡ Some Free
  pub unread : (rebuild.refreshed ≡ false) × (rebuild.line ≡ None)
  pub leader : ℕ
  pub tier_view : BrokerTierView
  pub tier_view_is : slice_get c.tier_views leader ≡ Some tier_view
  pub x : Broker
  pub broker_is : slice_get p.brokers leader ≡ Some x
  pub has : HasOnPath p.paths rebuild.epoch x.log
  pub start : tier_view.start ≡ rebuild.wanted
  pub front : List (List ℕ)
  pub begins : IsPrefix front x.log
  pub ends : end_of front ≡ rebuild.wanted
  pub above : rebuild.end < rebuild.wanted

-- the rebuild's broker has seen all metadata events
pub record MayRefresh (a : ℕ) (rebuild : Rebuild) (c : Scene) : Type 0 where
  pub actor_state : slice_get c.desk a ≡ Some (Rebuilds rebuild)
  pub all : (tier_view : BrokerTierView) → slice_get c.tier_views rebuild.broker ≡ Some tier_view
      → tier_view.view ≡ view_of c.notes

-- below the wanted offset the leader epochs have the epochs of the epoch's path
pub record MayLine (a : ℕ) (rebuild : Rebuild) (line : List (ℕ × ℕ)) (c : Scene) (p : Plain) : Type 0 where
  pub actor_state : slice_get c.desk a ≡ Some (Rebuilds rebuild)
  pub log : List (List ℕ)
  pub path : path_of p.paths rebuild.epoch ≡ Some log
  pub says : (o : ℕ) → o < rebuild.wanted → epoch_at line o ≡ epoch_holding log o

-- the fetch's broker leads, and the offset is below its local start
pub record MayAsk (a : ℕ) (sought : Sought) (c : Scene) (p : Plain) : Type 0 where
  pub actor_state : slice_get c.desk a ≡ Some Free
  pub unread : (sought.piece ≡ None) × (sought.from ≡ None)
  pub tier_view : BrokerTierView
  pub tier_view_is : slice_get c.tier_views sought.broker ≡ Some tier_view
  pub x : Broker
  pub broker_is : slice_get p.brokers sought.broker ≡ Some x
  pub leads : StillLeads sought x
  pub path : path_of p.paths sought.epoch ≡ Some x.log
  pub below : sought.offset < tier_view.start

-- the piece has an entry in the broker's view, of a copy that isn't in progress there, is of a finished copy, and one
-- with the log
pub record MayFind (a : ℕ) (sought : Sought) (piece : Piece) (c : Scene) (p : Plain) : Type 0 where
  pub actor_state : slice_get c.desk a ≡ Some (Seeks sought)
  pub unread : sought.from ≡ None
  pub seen : (tier_view : BrokerTierView) → slice_get c.tier_views sought.broker ≡ Some tier_view
      → SeesCopy tier_view.view.entries piece.id
  pub gives : (x : Broker) → slice_get p.brokers sought.broker ≡ Some x → StillLeads sought x
      → p.registry.start ≤ sought.offset → PieceStands c.notes x.log sought.offset piece

-- the piece that the fetch has found represents the later offset too
pub record MaySkip (a : ℕ) (sought : Sought) (offset : ℕ) (c : Scene) (p : Plain) : Type 0 where
  pub actor_state : slice_get c.desk a ≡ Some (Seeks sought)
  pub unread : sought.from ≡ None
  pub piece : Piece
  pub found : sought.piece ≡ Some piece
  pub gives : (x : Broker) → slice_get p.brokers sought.broker ≡ Some x → StillLeads sought x
      → p.registry.start ≤ offset → PieceStands c.notes x.log offset piece

-- the position is the one that the index of the found piece's segment gives for the offset
pub record MayRead (a : ℕ) (sought : Sought) (from : ℕ) (c : Scene) (p : Plain) : Type 0 where
  pub actor_state : slice_get c.desk a ≡ Some (Seeks sought)
  pub piece : Piece
  pub found : sought.piece ≡ Some piece
  pub is : PositionStands p.paths (fold c.notes) piece.id sought.offset from

-- the condition of a move; a command may always leave the desk
abbrev pub MayMove : ℕ → Move → Scene → Plain → Type 0
MayMove a Leaves c p = Unit {0}
MayMove a (Overtakes copy) c p = MayOvertake a copy c
MayMove a (ChoosesExpired b expired_segment) c p = MayChooseExpired a b expired_segment c p
MayMove a (Wants rebuild) c p = MayWant a rebuild c p
MayMove a (Refreshes rebuild) c p = MayRefresh a rebuild c
MayMove a (Lines rebuild line) c p = MayLine a rebuild line c p
MayMove a (Asks sought) c p = MayAsk a sought c p
MayMove a (Finds sought piece) c p = MayFind a sought piece c p
MayMove a (Skips sought offset) c p = MaySkip a sought offset c p
MayMove a (Reads sought from) c p = MayRead a sought from c p
