-- What the scene of the tier has of a rebuild at the turn that reads its leader epochs.
--
-- Its follower's path has an end at the wanted offset, and the line by which the remote segment is looked up is the
-- path's up to there. Whoever takes the turn tests that the log start offset is below the wanted offset.
use Rattle.std.specs.Prelude.{◌≡◌, ℕ, ◌<◌, true, List, Some, IsTrue, slice_get}
use Rattle.log_terms.specs.Line.{line_of}
use Rattle.log_terms.specs.Log.{up_to}
use Rattle.object_store.specs.Content.{Content}
use Rattle.plain_log.specs.declared.state.State.{State as Plain}
use Rattle.plain_log.specs.State.{path_of}
use Rattle.remote_view.specs.Fold.{EntriesSeen}
use Rattle.rebuild_task.specs.declared.turn.RebuildRequest.{RebuildRequest}
use Rattle.tier_safe.specs.Scene.{BrokerTierView, Rebuild, Rebuilds, Scene}
use Rattle.tier_safe.specs.Safe.{BothSafe}

-- actor a's rebuild is at that turn, in a tier that shows these objects and this view
pub record IsToRead (c : Scene) (p : Plain) (a : ℕ) (rebuild : Rebuild) (tier_view : BrokerTierView)
    (wanted : RebuildRequest) (line : List (ℕ × ℕ))
    (objects : Content) (view : EntriesSeen) : Type 0 where
  pub safe : BothSafe c p
  pub actor_state : slice_get c.desk a ≡ Some (Rebuilds rebuild)
  pub refreshed : rebuild.refreshed ≡ true
  pub tier_view_is : slice_get c.tier_views rebuild.broker ≡ Some tier_view
  pub view_is : tier_view.view ≡ view
  pub is_observable : IsTrue objects.is_observable
  pub objects_are : c.objects ≡ objects.objects
  pub partition : wanted.partition ≡ c.partition
  pub offset : wanted.offset ≡ rebuild.wanted
  pub path : List (List ℕ)
  pub path_is : path_of p.paths rebuild.epoch ≡ Some path
  pub line_is : line ≡ line_of (up_to rebuild.wanted path)
  pub below : p.registry.start < rebuild.wanted
