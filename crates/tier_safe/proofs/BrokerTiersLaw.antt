-- Each change leaves views those of metadata events, and local logs within the logs.
use Rattle.std.proofs.Common.{◌≡◌, inl, inr, ◌∙◌, sym, ap, subst, ℕ, ◌+◌, ◌≤◌, List, [], ◌∷◌, Some, slice_get, slice_set}
use Rattle.log_terms.specs.Log.{end_of}
use Rattle.log_terms.proofs.Lists.{get-set, each-set, prefix_more, length-slice_set}
use Rattle.plain_log.specs.declared.state.State.{State as Plain}
use Rattle.plain_log.specs.declared.state.Broker.{Broker}
use Rattle.remote_view.specs.Fold.{EntriesSeen}
use Rattle.tier_safe.specs.Scene.{Scene, BrokerTierView}
use Rattle.tier_safe.specs.Changes.{note_for, Change, Steps, Moves, Chooses, Tells, Stores, Sees, Caches, Drops, effect}
use Rattle.tier_safe.specs.Views.{IsViewOf, ViewsStand}
use Rattle.tier_safe.specs.Starts.{BrokerTierMatches, BrokerTiersMatch}
use Rattle.tier_safe.specs.Safe.{TierSafe}
use Rattle.tier_safe.specs.May.{MayAlter}
use Rattle.tier_safe.proofs.Steps.{StepGoes}
use Rattle.tier_safe.proofs.Basics.{one_some}
use Rattle.tier_safe.proofs.IdsLaw.{followed}

pub views_kept : (change : Change) (c : Scene) (p : Plain) → MayAlter change c p → TierSafe c p → ViewsStand (effect change c).notes (effect change c).tier_views
views_kept (Steps tier_views) c p m h = absurd m
views_kept (Moves a move) c p m h = h.views
views_kept (Chooses a b tier_view copy) c p m h =
    each-set (λ (s : BrokerTierView). IsViewOf c.notes s.view) c.tier_views b (record tier_view { next = tier_view.next + 1 }) h.views (h.views b tier_view m.tier_view_is)
views_kept (Tells a telling origin) c p m h = λ b tier_view at.
    (let v = h.views b tier_view at in record { before = v.before; begins = prefix_more v.before c.notes (note_for telling origin ∷ []) v.begins; is = v.is })
views_kept (Stores a storing objects) c p m h = h.views
views_kept (Sees b tier_view view) c p m h =
    each-set (λ (s : BrokerTierView). IsViewOf c.notes s.view) c.tier_views b (record tier_view { view = view }) h.views (record { before = m.more; begins = m.begins; is = m.new })
views_kept (Caches b tier_view cache) c p m h =
    each-set (λ (s : BrokerTierView). IsViewOf c.notes s.view) c.tier_views b (record tier_view { cache = cache }) h.views (h.views b tier_view m.tier_view_is)
views_kept (Drops b tier_view start dropping) c p m h =
    each-set (λ (s : BrokerTierView). IsViewOf c.notes s.view) c.tier_views b (record tier_view { start = start }) h.views (h.views b tier_view m.tier_view_is)

pub views_stepped : (tier_views : List BrokerTierView) (c : Scene) (p q : Plain) → StepGoes tier_views c p q → TierSafe c p → ViewsStand c.notes tier_views
views_stepped tier_views c p q m h = λ b tier_view at.
    (let f = followed tier_views c p q b tier_view m h at in subst (λ (v : EntriesSeen). IsViewOf c.notes v) (sym f.goes.view) (h.views b f.old f.old_is))

-- a tier view that exists, put in its place
tier_view_set : (tier_views : List BrokerTierView) (brokers : List Broker) (b : ℕ) (old new : BrokerTierView) → slice_get tier_views b ≡ Some old
    → ((x : Broker) → slice_get brokers b ≡ Some x → BrokerTierMatches old x → BrokerTierMatches new x) → BrokerTiersMatch tier_views brokers → BrokerTiersMatch (slice_set tier_views b new) brokers
tier_view_set tier_views brokers b old new at go h = record {
  count = length-slice_set tier_views b new ∙ h.count;
  each = λ d tier_view x is bx. elim (get-set tier_views b new d tier_view is) [
    | inl here ↦
        let bx2 : slice_get brokers b ≡ Some x = ap (slice_get brokers) (sym here.0) ∙ bx in
        subst (λ (s : BrokerTierView). BrokerTierMatches s x) (sym here.1) (go x bx2 (h.each b old x at bx2))
    | inr there ↦ h.each d tier_view x there.1 bx
  ];
}

pub tier_views_kept : (change : Change) (c : Scene) (p : Plain) → MayAlter change c p → TierSafe c p → BrokerTiersMatch (effect change c).tier_views p.brokers
tier_views_kept (Steps tier_views) c p m h = absurd m
tier_views_kept (Moves a move) c p m h = h.tier_views
tier_views_kept (Chooses a b tier_view copy) c p m h = tier_view_set c.tier_views p.brokers b tier_view (record tier_view { next = tier_view.next + 1 }) m.tier_view_is (λ x bx s. record { up = s.up; within = s.within }) h.tier_views
tier_views_kept (Tells a telling origin) c p m h = h.tier_views
tier_views_kept (Stores a storing objects) c p m h = h.tier_views
tier_views_kept (Sees b tier_view view) c p m h = tier_view_set c.tier_views p.brokers b tier_view (record tier_view { view = view }) m.tier_view_is (λ x bx s. record { up = s.up; within = s.within }) h.tier_views
tier_views_kept (Caches b tier_view cache) c p m h =
    tier_view_set c.tier_views p.brokers b tier_view (record tier_view { cache = cache }) m.tier_view_is (λ x bx s. record { up = s.up; within = s.within }) h.tier_views
tier_views_kept (Drops b tier_view start dropping) c p m h = tier_view_set c.tier_views p.brokers b tier_view (record tier_view { start = start }) m.tier_view_is
    (λ x bx s. record { up = s.up; within = subst (λ (y : Broker). start ≤ end_of y.log) (one_some (slice_get p.brokers b) m.x x m.broker_is bx) m.within }) h.tier_views

pub tier_views_stepped : (tier_views : List BrokerTierView) (c : Scene) (p q : Plain) → StepGoes tier_views c p q → TierSafe c p → BrokerTiersMatch tier_views q.brokers
tier_views_stepped tier_views c p q m h = record {
  count = m.count ∙ h.tier_views.count ∙ sym m.grows.count;
  each = λ b tier_view y at bt. (let f = followed tier_views c p q b tier_view m h at in
      let same = one_some (slice_get q.brokers b) f.y y f.y_is bt in
      subst (λ (z : Broker). BrokerTierMatches tier_view z) same (record { up = f.goes.up; within = f.goes.within }));
}
