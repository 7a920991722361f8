-- The laws of rebuilds from the tier.
use Rattle.std.specs.Prelude.{◌≡◌, ℕ, ◌^◌, ◌<◌, true, List, length, Ok}
use Rattle.tier_base.specs.Device.{Control}
use Rattle.object_store.specs.Call as store_call
use Rattle.object_store.specs.Content as store
use Rattle.meta_log.specs.Content as meta
use Rattle.view_refresh.specs.Refreshing.{Refreshes}
use Rattle.plain_log.specs.declared.state.State.{State as Plain}
use Rattle.plain_log.specs.declared.answer.Answer.TheVariants.{Damaged}
use Rattle.plain_log.specs.declared.answer.Place.{Place}
use Rattle.remote_view.specs.Fold.{EntriesSeen}
use Rattle.rebuild_task.specs.declared.turn.RebuildRequest.{RebuildRequest}
use Rattle.rebuild_task.specs.declared.turn.RebuildStep.TheVariants.{Restart}
use Rattle.plain_log.specs.declared.turn.Turn.TheVariants.{Goes, Ends}
use Rattle.rebuild_task.specs.Turns.{RebuildRow}
use Rattle.tier_safe.specs.Scene.{BrokerTierView, Rebuild, Rebuilds, Scene}
use Rattle.tier_safe.specs.May.{IsChanged}
use Rattle.tier_safe.specs.Safe.{TierSafe}
use Rattle.tier_safe.specs.Turns.{ShowsScene, after_turn}
use Rattle.laws_rebuild.specs.Reading.{IsToRead}

-- the rebuild's broker has seen all metadata events
abbrev pub seen_all : Rebuild → Rebuild
seen_all rebuild = record rebuild { refreshed = true }

module _ {M : Type 0} (notes : M → meta.Content) where
  -- a refresh of the view of a rebuild's broker is changes
  abbrev pub RebuildRefreshes : Type 0
  RebuildRefreshes = (old : M) (view : EntriesSeen) (c : Scene) (p : Plain) (a : ℕ) (rebuild : Rebuild)
      (tier_view : BrokerTierView) (objects : store.Content)
      → ShowsScene c a rebuild.broker tier_view (Rebuilds rebuild) objects (notes old) tier_view.view
      → length c.notes < 2 ^ 64 → TierSafe c p
      → Refreshes (notes old) tier_view.view view
      → IsChanged c p (after_turn c a rebuild.broker tier_view (Rebuilds (seen_all rebuild)) c.objects c.notes view)

module _ {S : Type 0} (objects : S → store.Content) (calls : S → Control store_call.call_code) where
  -- the leader epochs that are read is the one by which the segment was looked up
  abbrev pub LinesArePaths : Type 0
  LinesArePaths = (wanted : RebuildRequest) (line read : List (ℕ × ℕ)) (view : EntriesSeen) (old new : S) (c : Scene)
      (p : Plain) (a : ℕ)
      (rebuild : Rebuild) (tier_view : BrokerTierView)
      → RebuildRow objects calls wanted line view (Ok (Goes (Restart read))) old new
      → IsToRead c p a rebuild tier_view wanted line (objects old) view → read ≡ line

  -- no damage is reported of
  abbrev pub NothingIsDamaged : Type 0
  NothingIsDamaged = (wanted : RebuildRequest) (line : List (ℕ × ℕ)) (view : EntriesSeen) (place : Place) (at : ℕ)
      (old new : S) (c : Scene)
      (p : Plain) (a : ℕ) (rebuild : Rebuild) (tier_view : BrokerTierView)
      → RebuildRow objects calls wanted line view (Ok (Ends (Damaged place at))) old new
      → IsToRead c p a rebuild tier_view wanted line (objects old) view → ⊥
