-- A turn that is answered: its changes, and then a step of the plain log that changes no broker.
use Rattle.std.proofs.Common.{◌≡◌, inl, sym, subst, refl, [], ◌∷◌, Some, arith}
use Rattle.plain_log.specs.declared.command.Order.{Order}
use Rattle.plain_log.specs.declared.journal.JournalEntry.{JournalEntry}
use Rattle.plain_log.specs.declared.state.State.{State as Plain}
use Rattle.plain_log.specs.declared.state.Broker.{Broker}
use Rattle.plain_log.specs.Step.{step}
use Rattle.tier_safe.specs.Scene.{Scene, BrokerTierView}
use Rattle.tier_safe.specs.Changes.{Steps}
use Rattle.tier_safe.specs.Safe.{TierSafe, BothSafe}
use Rattle.tier_safe.specs.Follow.{BrokerTierGoes, MayStep}
use Rattle.tier_safe.specs.Laws.{AnswersKeepSafe}
use Rattle.tier_safe.proofs.Kept.{all_kept}

-- tier states stay where no broker changes
tier_views_stay : (c : Scene) (p q : Plain) (order : Order) (entry : JournalEntry) → step p order entry ≡ Some q → q.brokers ≡ p.brokers → TierSafe c p → MayStep c.tier_views c p q
tier_views_stay c p q order entry is same h = record {
  order = order;
  entry = entry;
  is = is;
  follow = record {
    count = refl;
    each = λ b old new x y at bt bx by.
        (let one : new ≡ old = cc (at, bt) in
        let two : y ≡ x = cc (bx, by, same) in
        let stands = h.tier_views.each b old x at bx in
        subst (λ (s : BrokerTierView). BrokerTierGoes old s x y) (sym one) (subst (λ (z : Broker). BrokerTierGoes old old x z) (sym two) (record {
          up = stands.up;
          start = omega arith;
          within = stands.within;
          leads = λ e _ _ _. refl;
          view = refl;
          cache = refl;
          ids = inl (refl, λ u. (u, refl));
        })));
  };
}

pub answers_keep : AnswersKeepSafe
answers_keep c d p q order entry k is same h =
    let at = subst (λ (e : Scene). BothSafe e p) k.is (all_kept k.changes c p p k.may h) in
    all_kept (Steps d.tier_views ∷ []) d p q (q, tier_views_stay d p q order entry is same at.tier, refl) at
