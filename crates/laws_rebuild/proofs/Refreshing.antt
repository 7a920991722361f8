-- A refresh of the view of a rebuild's broker, as changes.
use Rattle.std.proofs.Common.{◌≡◌, subst, refl, slice_get, slice_set}
use Rattle.tier_base.specs.Device.{Control}
use Rattle.object_store.specs.Call as store_call
use Rattle.object_store.specs.Content as store
use Rattle.meta_log.specs.Call as meta_call
use Rattle.meta_log.specs.Content as meta
use Rattle.remote_view.specs.Fold.{view_of}
use Rattle.tier_safe.specs.Scene.{BrokerTierView, Rebuilds}
use Rattle.tier_safe.specs.Changes.{Moves, Refreshes, effect}
use Rattle.tier_safe.specs.Turns.{after_turn}
use Rattle.tier_safe.proofs.Basics.{one_some}
use Rattle.tier_safe.proofs.Turning.{set_set, set_get, scene_same, goes_on, as_scene, refreshes}
use Rattle.laws_rebuild.specs.Laws.{seen_all, RebuildRefreshes}

module _ {S M : Type 0} (objects : S → store.Content) (calls : S → Control store_call.call_code)
    (notes : M → meta.Content) (notings : M → Control meta_call.call_code) where
  pub rebuild_refreshes : RebuildRefreshes notes
  rebuild_refreshes old view c p a rebuild tier_view held h few safe k =
      let all = refreshes objects calls notes notings old view c p a rebuild.broker tier_view (Rebuilds rebuild) held h few safe k in
      let d = after_turn c a rebuild.broker tier_view (Rebuilds rebuild) c.objects c.notes view in
      let new : BrokerTierView = record tier_view { view = view } in
      as_scene c (effect (Moves a (Refreshes rebuild)) d) (after_turn c a rebuild.broker tier_view (Rebuilds (seen_all rebuild)) c.objects c.notes view) p
      (scene_same _ _ refl refl refl refl (set_set c.desk a (Rebuilds rebuild) (Rebuilds (seen_all rebuild))))
      (goes_on c d p (Moves a (Refreshes rebuild)) all.1 (
        refl,
        record {
          actor_state = set_get c.desk a (Rebuilds rebuild) (Rebuilds rebuild) h.actor_state;
          all = λ other at.
              (let same : new ≡ other = one_some (slice_get (slice_set c.tier_views rebuild.broker new) rebuild.broker) new other (set_get c.tier_views rebuild.broker tier_view new h.tier_view_is) at in
              subst (λ (s : BrokerTierView). s.view ≡ view_of c.notes) same all.0);
        },
      ))
