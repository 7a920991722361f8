-- A partition as a power cut leaves it is beside the state that is left.
use Rattle.std.proofs.Common.{◌≡◌, ◌∙◌, sym, ap, subst, refl, ℕ, zero, suc, ◌==◌, List, [], ◌∷◌, length, slice_get, Some, None, Bool, true, false, cond}
use Rattle.std.specs.Prelude.{ℤ, map, replicate}
use Rattle.tier_base.specs.Reserved.{ReservedItems}
use Rattle.log_terms.proofs.Logs.{ends_at_zero}
use Rattle.plain_log.specs.declared.command.ActorList.{ActorList}
use Rattle.plain_log.specs.declared.command.Order.{Order}
use Rattle.plain_log.specs.declared.journal.JournalEntry.{JournalEntry}
use Rattle.plain_log.specs.declared.state.Broker.{Broker}
use Rattle.plain_log.specs.declared.state.Path.{Path}
use Rattle.plain_log.specs.declared.state.State.{State}
use Rattle.plain_log.specs.Orders.{AreRising}
use Rattle.plain_log.specs.Runs.{replay}
use Rattle.laws_partition.specs.Seen.{Node, SeenPartition}
use Rattle.laws_partition.specs.declared.actor_progress.ActorProgress.{ActorProgress}
use Rattle.laws_partition.specs.Fresh.{fresh_actor_state}
use Rattle.laws_partition.specs.Partition.{broker_of}
use Rattle.laws_partition.specs.Sound.{NodeSound}
use Rattle.laws_partition.specs.Whole.{Whole}
use Rattle.laws_partition.specs.Central.{LineStands, LeaderStands, LinesStand, ProgressMatches, IsCentral, recorded_at}
use Rattle.laws_tier_turns.specs.BrokerTiers.{BrokerTierModel, fresh_broker_tier, next_of, tier_views_of, tier_view_of}
use Rattle.tier_safe.specs.Scene.{BrokerTierView}
use Rattle.cold_state.specs.Cold.{cold_broker, cold_of}
use Rattle.cold_start.specs.Cold.{cold_tier_view, cold_node, cold_partition_state, cold_whole, cold_broker_tiers}
use Rattle.cold_state.proofs.ColdStates.{made, cold_safe}

pub cold_brokers : (nodes : List Node) → map cold_broker (map broker_of nodes) ≡ map broker_of (map cold_node nodes)
cold_brokers [] = refl
cold_brokers (x ∷ nodes) = ap (λ (l : List Broker). cold_broker (broker_of x) ∷ l) (cold_brokers nodes)

pub replicated : {A : Type 0} (n : ℕ) (x : A) (i : ℕ) (y : A) → slice_get (replicate n x) i ≡ Some y → x ≡ y
replicated zero x i y e = absurd cc
replicated (suc n) x zero y e = cc
replicated (suc n) x (suc i) y e = replicated n x i y e

pub replicate_length : {A : Type 0} (n : ℕ) (x : A) → length (replicate n x) ≡ n
replicate_length zero x = refl
replicate_length (suc n) x = ap suc (replicate_length n x)

-- nothing is recorded of an actor's state at the front
none_recorded : (orders : List Order) → recorded_at orders fresh_actor_state ≡ None
none_recorded [] = refl
none_recorded (order ∷ orders) = refl

-- a node that is left
cold_sound : (x : Node) → NodeSound x → NodeSound (cold_node x)
cold_sound x s = record {
  log = s.log;
  flushed_end = s.flushed_end;
  known_high_watermark = ends_at_zero x.log.batches;
  saved = s.saved;
  saved_rises = s.saved_rises;
  begins = s.begins;
  within = s.within;
  back = λ back is. (let k = s.back back is in record { above = k.above; ends = k.ends; line = k.line; rises = k.rises; begins = k.begins; within = k.within });
  tight = λ up. absurd cc;
  leads = λ e is. absurd cc;
  down = λ down. (refl, refl);
}

cold_line : (paths : List Path) (broken : List ℕ) (x : Node) → LineStands paths broken x → LineStands paths broken (cold_node x)
cold_line paths broken x s = record { sound = cold_sound x s.sound; paths_are = s.paths_are; saved_are = s.saved_are; back_are = s.back_are; joined = λ e is. absurd cc }

pub cold_lines : (h : SeenPartition) (clock : ℤ) (paths : List Path) (broken : List ℕ) → LinesStand h paths broken → LinesStand (cold_partition_state h clock) paths broken
cold_lines h clock paths broken s = record {
  each = λ b x at. (let m = made cold_node h.nodes b x at in subst (LineStands paths broken) (sym m.is) (cold_line paths broken m.x (s.each b m.x m.there)));
  leader = λ x at. (let m = made cold_node h.nodes h.registry.leader.0 x at in subst (LeaderStands paths h.registry.epoch) (sym m.is) (s.leader m.x m.there));
  followers = λ b x at follows. absurd (let m = made cold_node h.nodes b x at in let none = ap (λ (k : Node). k.role) m.is in cc);
}

pub cold_actor_state : (p : State) (l : ActorList) (actor_state : ActorProgress) → fresh_actor_state ≡ actor_state → ProgressMatches (cold_of p) l actor_state
cold_actor_state p l actor_state is = subst (ProgressMatches (cold_of p) l) is (record { actor = rw (none_recorded l.orders) refl; snapshot = λ g snapshot. absurd cc })

abbrev pub cold_central : (opening : State) (w : Whole) (clock : ℤ) (lists : List ActorList) (journal : ReservedItems JournalEntry) (c : IsCentral opening w) → AreRising lists → journal.items ≡ []
    → IsCentral (cold_of c.plain) (cold_whole w clock lists journal)
cold_central opening w clock lists journal c rising empty = record {
  plain = cold_of c.plain;
  replays = ap (replay lists (cold_of c.plain)) empty;
  safe = cold_safe c.plain c.safe;
  stands = record {
    partition_state = record { registry = c.stands.partition_state.registry; brokers = ap (map cold_broker) c.stands.partition_state.brokers ∙ cold_brokers w.partition_state.nodes };
    lines = cold_lines w.partition_state clock c.plain.paths c.plain.broken c.stands.lines;
    desk = λ place l actor_state list at. cold_actor_state c.plain l actor_state (replicated (length lists) fresh_actor_state place actor_state at);
    rising = rising;
    actor_states = replicate_length (length lists) fresh_actor_state;
  };
}

-- no copy was chosen since
none_next : (i : ℕ) → next_of fresh_broker_tier i ≡ 0
none_next i = by (0 == i)
  where
    by : (t : Bool) → ◌≡◌ {A = ℕ} (cond t 0 0) 0
    by true = refl
    by false = refl

cold_broker_tier : (x : Node) (broker_tier : BrokerTierModel) → tier_view_of (cold_node x) fresh_broker_tier ≡ cold_tier_view (tier_view_of x broker_tier)
cold_broker_tier x broker_tier = ap (λ (n : ℕ). (let s : BrokerTierView = record { up = false; start = (tier_view_of x broker_tier).start; incarnation = x.incarnation; next = n; view = fresh_broker_tier.view; cache = [] } in s)) (none_next x.incarnation)

pub cold_tier_views : (nodes : List Node) (broker_tiers : List BrokerTierModel) → tier_views_of (map cold_node nodes) (cold_broker_tiers broker_tiers) ≡ map cold_tier_view (tier_views_of nodes broker_tiers)
cold_tier_views [] broker_tiers = refl
cold_tier_views (x ∷ nodes) [] = refl
cold_tier_views (x ∷ nodes) (broker_tier ∷ broker_tiers) =
    ap (λ (s : BrokerTierView). s ∷ tier_views_of (map cold_node nodes) (cold_broker_tiers broker_tiers)) (cold_broker_tier x broker_tier) ∙ ap (λ (l : List BrokerTierView). cold_tier_view (tier_view_of x broker_tier) ∷ l) (cold_tier_views nodes broker_tiers)
