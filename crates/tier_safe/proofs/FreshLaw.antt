-- Where nothing has happened yet the tier is safe.
use Rattle.std.proofs.Common.{◌≡◌, inl, inr, ◌∙◌, sym, ap, subst, refl, ℕ, zero, suc, ◌-◌, true, List, [], length, Some, None, slice_get, arith}
use Rattle.std.specs.Prelude.{replicate}
use mathlib.Core.List.{IsPrefix}
use Rattle.tier_base.specs.declared.names.PartitionId.{PartitionId}
use Rattle.tier_base.specs.declared.object_key.ObjectKey.{ObjectKey}
use Rattle.tier_base.specs.Told.{In}
use Rattle.object_store.specs.Content.{Objects}
use Rattle.plain_log.specs.declared.state.Broker.{Broker}
use Rattle.plain_log.specs.declared.state.Role.TheVariants.{Leads, Joined}
use Rattle.plain_log.specs.Fresh.{fresh, fresh_state, fresh_broker}
use Rattle.plain_log.proofs.FreshLaw.{fresh_safe}
use Rattle.segment_meta.specs.declared.note.Note.{Note}
use Rattle.segment_meta.specs.declared.note.Entry.{Entry}
use Rattle.remote_view.specs.Fold.{fold, entry_of}
use Rattle.log_terms.proofs.Lists.{append_nil}
use Rattle.tier_safe.specs.Scene.{BrokerTierView, TierTask, Free, Copies, Expires, Rebuilds, Seeks, Scene}
use Rattle.tier_safe.specs.Views.{IsViewOf, IsIdUsed}
use Rattle.tier_safe.specs.Safe.{TierSafe}
use Rattle.tier_safe.specs.Fresh.{fresh_tier_view}
use Rattle.tier_safe.specs.Laws.{FreshIsSafe}

length_replicate : {A : Type 0} (n : ℕ) (x : A) → length (replicate n x) ≡ n
length_replicate zero x = refl
length_replicate (suc n) x = ap suc (length_replicate n x)

replicate_is : {A : Type 0} (n i : ℕ) (x y : A) → slice_get (replicate n x) i ≡ Some y → x ≡ y
replicate_is zero i x y at = absurd cc
replicate_is (suc n) zero x y at = cc
replicate_is (suc n) (suc i) x y at = replicate_is n i x y at

none_before : (before : List Note) (e : Entry) (id : _) → IsPrefix before [] → entry_of id (fold before) ≡ Some e → ⊥
none_before before e id p is = let none = append_nil before p.0 p.1 in absurd (cc (ap (λ (ns : List Note). entry_of id (fold ns)) (sym none) ∙ is))

fresh_up : (n b : ℕ) (x : Broker) → slice_get (fresh_state n).brokers b ≡ Some x → x.up ≡ true
fresh_up n zero x at = let same : x ≡ fresh_broker (Leads 0) = cc (at) in ap (λ (z : Broker). z.up) same
fresh_up n (suc b) x at = ap (λ (z : Broker). z.up) (sym (replicate_is n b (fresh_broker (Joined 0)) x at))

fresh_tier : (partition : PartitionId) (n actor_states : ℕ) (objects : Objects) → ((key : ObjectKey) → objects key ≡ None)
    → TierSafe (record { partition = partition; objects = objects; notes = []; tier_views = replicate (suc n) fresh_tier_view; desk = replicate actor_states Free }) (fresh_state n)
fresh_tier partition n actor_states objects none = record {
  views = λ b tier_view at. (let same = replicate_is (suc n) b fresh_tier_view tier_view at in subst (λ (s : BrokerTierView). IsViewOf [] s.view) same (record { before = []; begins = ([], refl); is = refl }));
  tier_views = record {
    count = length_replicate (suc n) fresh_tier_view ∙ sym (ap suc (length_replicate n (fresh_broker (Joined 0))));
    each = λ b tier_view x at bx. (let same = replicate_is (suc n) b fresh_tier_view tier_view at in
        record {
          up = ap (λ (s : BrokerTierView). s.up) (sym same) ∙ sym (fresh_up n b x bx);
          within = (let start : tier_view.start ≡ 0 = ap (λ (s : BrokerTierView). s.start) (sym same) in omega (arith, start));
        });
  };
  partition = record {
    told = λ id entry is. absurd (cc (is));
    stored = λ key bytes is. absurd (cc (is, none key));
    copied = λ a copy next at. absurd (cc (replicate_is actor_states a Free (Copies copy next) at));
    deleted = λ a expired_segment next at. absurd (cc (replicate_is actor_states a Free (Expires expired_segment next) at));
  };
  finished = λ id entry is. absurd (cc (is));
  named = λ key bytes is. absurd (cc (is, none key));
  copies = record {
    each = λ a copy next at. absurd (cc (replicate_is actor_states a Free (Copies copy next) at));
    apart = λ a c copy other next then at. absurd (cc (replicate_is actor_states a Free (Copies copy next) at));
  };
  ids = λ id partition b inc att tier_view used. absurd (unused id used);
  deletions = record {
    ended = λ id before then now p is. absurd (none_before before then id p is);
    each = λ a expired_segment next at. absurd (cc (replicate_is actor_states a Free (Expires expired_segment next) at));
  };
  covered = λ b tier_view x at bx o low high. (let start : tier_view.start ≡ 0 = ap (λ (s : BrokerTierView). s.start) (sym (replicate_is (suc n) b fresh_tier_view tier_view at)) in absurd (omega (arith, high, start)));
  rebuilds = λ a rebuild at. absurd (cc (replicate_is actor_states a Free (Rebuilds rebuild) at));
  caches = λ b tier_view at id index has. absurd (subst (λ (s : BrokerTierView). In (id, index) s.cache) (sym (replicate_is (suc n) b fresh_tier_view tier_view at)) has);
  fetches = λ a sought tier_view x at. absurd (cc (replicate_is actor_states a Free (Seeks sought) at));
  notes = record { right = tt; ids = λ a copy next at. absurd (cc (replicate_is actor_states a Free (Copies copy next) at)) };
}
  where
    unused : (id : _) → IsIdUsed [] (replicate actor_states Free) id → ⊥
    unused id used = elim used [
      | inl named ↦ absurd (cc (named.1))
      | inr on ↦ absurd (cc (replicate_is actor_states on.0 Free (Copies on.1 on.2) on.3))
    ]

pub fresh_both : FreshIsSafe
fresh_both config actor_states c some f = record {
  plain = fresh_safe (config.brokers - 1);
  tier =
      let count : config.brokers ≡ suc (config.brokers - 1) = omega (arith, some) in
      let tier_views : c.tier_views ≡ replicate (suc (config.brokers - 1)) fresh_tier_view = f.tier_views ∙ ap (λ (k : ℕ). replicate k fresh_tier_view) count in
      subst (λ (d : Scene). TierSafe d (fresh config)) (sym (whole tier_views)) (fresh_tier c.partition (config.brokers - 1) actor_states c.objects f.objects);
}
  where
    whole : c.tier_views ≡ replicate (suc (config.brokers - 1)) fresh_tier_view
        → c ≡ record { partition = c.partition; objects = c.objects; notes = []; tier_views = replicate (suc (config.brokers - 1)) fresh_tier_view; desk = replicate actor_states Free }
    whole tier_views =
        ap (λ (ns : List Note). (let d : Scene = record { partition = c.partition; objects = c.objects; notes = ns; tier_views = c.tier_views; desk = c.desk } in d)) f.notes
        ∙ ap (λ (ss : List BrokerTierView). (let d : Scene = record { partition = c.partition; objects = c.objects; notes = []; tier_views = ss; desk = c.desk } in d)) tier_views
        ∙ ap (λ (ws : List TierTask). (let d : Scene = record { partition = c.partition; objects = c.objects; notes = []; tier_views = replicate (suc (config.brokers - 1)) fresh_tier_view; desk = ws } in d)) f.desk
