-- The tier that a power cut leaves is safe.
use Rattle.std.proofs.Common.{◌∙◌, inl, inr, sym, subst, refl, List, []}
use Rattle.std.proofs.lemmas.List.{length-map}
use Rattle.plain_log.specs.declared.state.State.{State}
use Rattle.remote_view.specs.Fold.{fold}
use Rattle.tier_safe.specs.Scene.{BrokerTierView, TierTask, Copies, Expires, Rebuilds, Seeks, Scene}
use Rattle.tier_safe.specs.Safe.{TierSafe}
use Rattle.tier_safe.specs.Views.{IsViewOf, IsIdUsed, IsChosen}
use Rattle.tier_base.specs.Told.{In}
use Rattle.tier_base.specs.declared.names.SegmentId.{SegmentId}
use Rattle.sparse_index.specs.Offsets.{OffsetTable}
use Rattle.cold_state.specs.Cold.{cold_broker, cold_of}
use Rattle.cold_start.specs.Cold.{cold_tier_view, cold_scene}
use Rattle.cold_start.specs.Laws.{IsDeskFree}
use Rattle.cold_state.proofs.ColdStates.{made}

pub cold_tier : (c : Scene) (p : State) (desk : List TierTask) → IsDeskFree desk → TierSafe c p → TierSafe (cold_scene c desk) (cold_of p)
cold_tier c p desk free t = record {
  notes = record { right = t.notes.right; ids = λ a copy next at. absurd (let none = free a (Copies copy next) at in cc) };
  views = λ b tier_view at. (let m = made cold_tier_view c.tier_views b tier_view at in subst (λ (k : BrokerTierView). IsViewOf c.notes k.view) (sym m.is) (record { before = []; begins = (c.notes, refl); is = refl }));
  partition = record {
    told = t.partition.told;
    stored = t.partition.stored;
    copied = λ a copy next at. absurd (let none = free a (Copies copy next) at in cc);
    deleted = λ a expired_segment next at. absurd (let none = free a (Expires expired_segment next) at in cc);
  };
  ids = λ id partition b i attempt tier_view used is at. (let m = made cold_tier_view c.tier_views b tier_view at in
      subst (λ (k : BrokerTierView). IsChosen k i attempt) (sym m.is) (record { opened = (t.ids id partition b i attempt m.x (still id used) is m.there).opened; below = λ up. absurd cc }));
  finished = t.finished;
  named = t.named;
  copies = record {
    each = λ a copy next at. absurd (let none = free a (Copies copy next) at in cc);
    apart = λ a b copy other next then at to same. absurd (let none = free a (Copies copy next) at in cc);
  };
  tier_views = record {
    count = length-map c.tier_views cold_tier_view ∙ t.tier_views.count ∙ sym (length-map p.brokers cold_broker);
    each = λ b tier_view x at to. (let m = made cold_tier_view c.tier_views b tier_view at in let n = made cold_broker p.brokers b x to in
        let k = t.tier_views.each b m.x n.x m.there n.there in
        rw (m.is, n.is) (record { up = refl; within = k.within }));
  };
  deletions = record { ended = t.deletions.ended; each = λ a expired_segment next at. absurd (let none = free a (Expires expired_segment next) at in cc) };
  covered = λ b tier_view x at to. (let m = made cold_tier_view c.tier_views b tier_view at in let n = made cold_broker p.brokers b x to in
      rw (m.is, n.is) (t.covered b m.x n.x m.there n.there));
  rebuilds = λ a rebuild at. absurd (let none = free a (Rebuilds rebuild) at in cc);
  fetches = λ a sought tier_view x at there to. absurd (let none = free a (Seeks sought) at in cc);
  caches = λ b tier_view at id index in_. (let m = made cold_tier_view c.tier_views b tier_view at in let pair : SegmentId × OffsetTable = (id, index) in let none : In pair [] = subst (λ (k : BrokerTierView). In pair k.cache) m.is in_ in absurd none);
}
  where
    still : (id : _) → IsIdUsed (fold c.notes) desk id → IsIdUsed (fold c.notes) c.desk id
    still id (inl named) = inl named
    still id (inr used) = absurd (let none = free used.0 (Copies used.1 used.2) used.3 in cc)
