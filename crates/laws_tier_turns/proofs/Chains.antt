-- What a turn's changes have in common: the tier states follow the plain log's step, and the command leaves the desk.
use Rattle.std.proofs.Common.{◌≡◌, ◌∙◌, sym, ap, subst, refl, ℕ, List, [], ◌∷◌, ◌++◌, Option, Some, false, slice_get, slice_set}
use Rattle.plain_log.specs.declared.command.Order.{Order}
use Rattle.plain_log.specs.declared.journal.JournalEntry.{JournalEntry}
use Rattle.plain_log.specs.declared.state.Broker.{Broker}
use Rattle.plain_log.specs.declared.state.State.{State as Plain}
use Rattle.plain_log.specs.Safe.{PlainSafe}
use Rattle.laws_partition.specs.declared.start_snapshot.StartSnapshot.{StartSnapshot}
use Rattle.laws_partition.specs.declared.start_snapshot.Turned.{Turned}
use Rattle.laws_partition.specs.Seen.{Node, SeenPartition}
use Rattle.laws_partition.specs.Partition.{broker_of}
use Rattle.laws_partition.specs.Central.{PartitionMatches}
use Rattle.tier_safe.specs.Scene.{BrokerTierView, TierTask, Free, Scene}
use Rattle.tier_safe.specs.Changes.{Leaves, Change, Steps, Moves, effect, effects}
use Rattle.tier_safe.specs.May.{Mays, IsChanged}
use Rattle.tier_safe.specs.Safe.{BothSafe}
use Rattle.tier_safe.proofs.Kept.{all_kept}
use Rattle.tier_safe.specs.Follow.{MayStep}
use Rattle.laws_tier_turns.specs.BrokerTiers.{BrokerTierModel, tier_views_of}
use Rattle.laws_tier_turns.specs.Turns.{TurnStands, ShowsBrokerTiers, may_raise, IsTurned}
use Rattle.laws_tier_turns.specs.Laws.{TurnsKeepSafe}
use Rattle.laws_tier_turns.proofs.Places.{map_has}
use Rattle.laws_tier_turns.proofs.Follow.{tier_views_follow}

-- the tier with these tier states, and with this in actor a's state
abbrev pub left_with : Scene → ℕ → List BrokerTierView → TierTask → Scene
left_with c a tier_views tier_task = record c { tier_views = tier_views; desk = slice_set c.desk a tier_task }

-- a node is a broker of the plain log
pub broker_at : (h : SeenPartition) (p : Plain) (b : ℕ) (x : Node) → PartitionMatches h p → slice_get h.nodes b ≡ Some x → slice_get p.brokers b ≡ Some (broker_of x)
broker_at h p b x st at = ap (λ (ys : List Broker). slice_get ys b) st.brokers ∙ map_has broker_of h.nodes b x at

-- the step of the plain log, where no local start rises
pub may_step : (brokers : ℕ) (h h' : SeenPartition) (p q : Plain) (x : Node) (snapshot : Option StartSnapshot) (turned : Turned) (order : Order) (entry : JournalEntry) (broker_tiers : List BrokerTierModel) (c : Scene)
    → TurnStands brokers h h' p q x snapshot turned order entry → PlainSafe p → ShowsBrokerTiers h broker_tiers c → may_raise snapshot order.command turned ≡ false → MayStep (tier_views_of h'.nodes broker_tiers) c p q
may_step brokers h h' p q x snapshot turned order entry broker_tiers c t safe shows low =
    record { order = order; entry = entry; is = t.is; follow = tier_views_follow brokers h h' p q x snapshot turned order entry broker_tiers c t safe shows low }

-- a step, after which the actor's state is free
pub steps_and_leaves : (c : Scene) (p q : Plain) (a : ℕ) (tier_views : List BrokerTierView) → MayStep tier_views c p q → IsTurned c p q (left_with c a tier_views Free)
steps_and_leaves c p q a tier_views m = record {
  changes = Steps tier_views ∷ Moves a Leaves ∷ [];
  may = (q, m, (q, (refl, tt), refl));
  is = refl;
}

-- changes, and then others
more_may : (changes others : List Change) (c : Scene) (p m q : Plain) → Mays changes c p m → Mays others (effects changes c) m q → Mays (changes ++ others) c p q
more_may [] others c p m q first then = subst (λ (r : Plain). Mays others c r q) first then
more_may (change ∷ changes) others c p m q first then = (first.0, first.1, more_may changes others (effect change c) first.0 m q first.2 then)

more_effects : (changes others : List Change) (c : Scene) → effects (changes ++ others) c ≡ effects others (effects changes c)
more_effects [] others c = refl
more_effects (change ∷ changes) others c = more_effects changes others (effect change c)

-- changes before a turn, which leave the plain log
pub changed_turns : (c d new : Scene) (p q : Plain) → IsChanged c p d → IsTurned d p q new → IsTurned c p q new
changed_turns c d new p q k t = record {
  changes = k.changes ++ t.changes;
  may = more_may k.changes t.changes c p p q k.may (subst (λ (e : Scene). Mays t.changes e p q) (sym k.is) t.may);
  is = more_effects k.changes t.changes c ∙ ap (effects t.changes) k.is ∙ t.is;
}

-- a turn keeps the rules
pub turned_safe : TurnsKeepSafe
turned_safe c new p q t both = subst (λ (d : Scene). BothSafe d q) t.is (all_kept t.changes c p q t.may both)
