-- A fresh world has the central fact, and at the end it says that the run is complete.
use Rattle.std.proofs.Common.{◌≡◌, ◌≢◌, inl, inr, ◌∙◌, sym, ap, subst, refl, ℕ, zero, suc, ◌-◌, ◌≤◌, List, [], ◌∷◌, length, slice_get, Some, None, Option, true, arith}
use Rattle.std.specs.Prelude.{map, replicate}
use Rattle.std.proofs.lemmas.List.Elements.{All-from_recursion}
use Rattle.log_terms.proofs.Lists.{look, within}
use Rattle.tier_base.specs.declared.names.PartitionId.{PartitionId}
use Rattle.registry.specs.Registry.{fresh_registry}
use Rattle.plain_log.specs.declared.command.ActorList.{ActorList}
use Rattle.plain_log.specs.declared.command.Config.{Config}
use Rattle.plain_log.specs.declared.command.Order.{Order}
use Rattle.plain_log.specs.declared.journal.JournalEntry.{JournalEntry}
use Rattle.plain_log.specs.declared.state.Actor.{Actor}
use Rattle.plain_log.specs.declared.state.Broker.{Broker}
use Rattle.plain_log.specs.declared.state.PlainSnapshot.{PlainSnapshot}
use Rattle.plain_log.specs.declared.state.Path.{Path}
use Rattle.plain_log.specs.declared.state.Role.TheVariants.{Leads, Joined}
use Rattle.plain_log.specs.declared.state.State.{State}
use Rattle.plain_log.specs.State.{followed, actor_at}
use Rattle.plain_log.specs.Orders.{AreListsFor, AreRising, IsConfig}
use Rattle.plain_log.specs.Runs.{orders_of, replay, answered, numbers_from}
use Rattle.plain_log.specs.Fresh.{fresh, fresh_broker}
use Rattle.plain_log.proofs.FreshLaw.{fresh_safe}
use Rattle.plain_log.proofs.Replays.{number_of, replay_counts, replay_within}
use Rattle.laws_partition.specs.Seen.{Node, SeenPartition}
use Rattle.laws_partition.specs.declared.actor_progress.ActorProgress.{ActorProgress}
use Rattle.laws_partition.specs.Partition.{broker_of}
use Rattle.laws_partition.specs.Whole.{Whole}
use Rattle.laws_partition.specs.Central.{was_taken, LineStands, LeaderStands, LinesStand, ProgressMatches, IsCentral}
use Rattle.laws_partition.specs.Fresh.{fresh_node, fresh_partition_state, fresh_actor_state, IsFresh}
use Rattle.laws_partition.specs.Sound.{NodeSound}
use Rattle.laws_partition.specs.Turn.{IsAtEnd}
use Rattle.laws_partition.specs.Laws.{IsCompleteRun}
use Rattle.laws_partition.proofs.Lists.{orders_at, list_or_none}
use Rattle.laws_partition.proofs.FreshSound.{fresh_sound}
use Rattle.laws_partition.proofs.ProgressLaw.{recorded_none}

-- the one item of a list of copies
replicated : {A : Type 0} (n : ℕ) (x : A) (i : ℕ) (y : A) → slice_get (replicate n x) i ≡ Some y → x ≡ y
replicated zero x i y e = absurd cc
replicated (suc n) x zero y e = cc
replicated (suc n) x (suc i) y e = replicated n x i y e

map_replicate : {A B : Type 0} (f : A → B) (n : ℕ) (x : A) → map f (replicate n x) ≡ replicate n (f x)
map_replicate f zero x = refl
map_replicate f (suc n) x = ap (λ (l : List _). f x ∷ l) (map_replicate f n x)

length_replicate : {A : Type 0} (n : ℕ) (x : A) → length (replicate n x) ≡ n
length_replicate zero x = refl
length_replicate (suc n) x = ap suc (length_replicate n x)

-- the paths of a fresh world
abbrev fresh_paths : List Path
fresh_paths = record { epoch = 0; log = [] } ∷ []

-- a node of a fresh world, by its place
fresh_line : (n : ℕ) → 1 ≤ n → (b : ℕ) (x : Node) → slice_get (fresh_partition_state n).nodes b ≡ Some x → LineStands fresh_paths [] x
fresh_line n some zero x at =
    let is : fresh_node (Leads 0) ((0, 0) ∷ []) ≡ x = cc in
    subst (LineStands fresh_paths []) is (record {
      sound = subst (λ (y : Node). NodeSound y) (sym is) ((fresh_sound n some).nodes 0 x at);
      paths_are = All-from_recursion (λ (entry : ℕ × ℕ). was_taken fresh_paths [] entry.0 ≡ true) ((0, 0) ∷ []) (refl, tt);
      saved_are = All-from_recursion (λ (entry : ℕ × ℕ). was_taken fresh_paths [] entry.0 ≡ true) ((0, 0) ∷ []) (refl, tt);
      back_are = λ back b. absurd cc;
      joined = λ e j. absurd cc;
    })
fresh_line n some (suc b) x at =
    let is : fresh_node (Joined 0) [] ≡ x = replicated (n - 1) (fresh_node (Joined 0) []) b x at in
    subst (LineStands fresh_paths []) is (record {
      sound = subst (λ (y : Node). NodeSound y) (sym is) ((fresh_sound n some).nodes (suc b) x at);
      paths_are = All-from_recursion (λ (entry : ℕ × ℕ). was_taken fresh_paths [] entry.0 ≡ true) [] tt;
      saved_are = All-from_recursion (λ (entry : ℕ × ℕ). was_taken fresh_paths [] entry.0 ≡ true) [] tt;
      back_are = λ back b. absurd cc;
      joined = λ e j. refl;
    })

fresh_lines : (n : ℕ) → 1 ≤ n → LinesStand (fresh_partition_state n) fresh_paths []
fresh_lines n some = record {
  each = fresh_line n some;
  leader = λ x at has. (let is : fresh_node (Leads 0) ((0, 0) ∷ []) ≡ x = cc in subst (λ (y : Node). LeaderStands fresh_paths 0 y) is (λ h. (0, refl, refl, omega arith, λ back b. absurd cc, ([], refl, ([], refl)))) has);
  followers = λ b x at f. other b x at f;
}
  where
    other : (b : ℕ) (x : Node) → slice_get (fresh_partition_state n).nodes b ≡ Some x → followed x.role ≡ Some 0 → 0 ≢ b
    other zero x at f =
        let is : fresh_node (Leads 0) ((0, 0) ∷ []) ≡ x = cc in
        absurd (let none : ◌≡◌ {A = Option ℕ} None (Some 0) = ap (λ (y : Node). followed y.role) is ∙ f in cc)
    other (suc b) x at f = λ e. absurd (omega (arith, e))

-- an actor's state of a fresh desk
actor_state_stands : (p : State) (l : ActorList) (actor_state : ActorProgress) → p.actors ≡ [] → fresh_actor_state ≡ actor_state → ProgressMatches p l actor_state
actor_state_stands p l actor_state none is = subst (ProgressMatches p l) is (record {
  actor = ap (λ (ys : List Actor). actor_at ys l.actor.0) none ∙ ap (λ (o : Option PlainSnapshot). record { number = 0; snapshot = o }) (sym (recorded_none l.orders fresh_actor_state refl));
  snapshot = λ g e. absurd cc;
})

pub fresh_central : (partition : PartitionId) (config : Config) (lists : List ActorList) (w : Whole) → IsConfig config → AreListsFor config lists
    → IsFresh partition config lists w → IsCentral (fresh config) w
fresh_central partition config lists w fits fit f =
    let n = config.brokers in
    let more : suc (n - 1) ≡ n = omega (arith, fits.some) in
    record {
      plain = fresh config;
      replays = ap (λ (l : List JournalEntry). replay w.lists (fresh config) l) f.journal;
      safe = fresh_safe (n - 1);
      stands = record {
        partition_state = record {
          registry = ap fresh_registry more ∙ ap (λ (h : SeenPartition). h.registry) (sym f.partition_state);
          brokers = ap (λ (l : List Broker). fresh_broker (Leads 0) ∷ l) (sym (map_replicate broker_of (n - 1) (fresh_node (Joined 0) [])))
              ∙ ap (λ (h : SeenPartition). map broker_of h.nodes) (sym f.partition_state);
        };
        lines = subst (λ (h : SeenPartition). LinesStand h fresh_paths []) (sym f.partition_state) (fresh_lines n fits.some);
        desk = λ place l actor_state ll ss.
            actor_state_stands (fresh config) l actor_state refl (replicated (length lists) fresh_actor_state place actor_state (ap (λ (k : List ActorProgress). slice_get k place) (sym f.desk) ∙ ss));
        rising = subst AreRising (sym f.lists_are) fit.rising;
        actor_states = ap (λ (k : List ActorProgress). length k) f.desk ∙ (length_replicate (length lists) fresh_actor_state ∙ ap (λ (k : List ActorList). length k) (sym f.lists_are));
      };
    }

pub ends_complete : (w : Whole) → IsCentral (fresh w.config) w → ((a : ℕ) → IsAtEnd w a) → IsCompleteRun w
ends_complete w c ends = record {
  run = record { last = c.plain; replays = c.replays };
  complete = λ a.
      let safe = fresh_safe (w.config.brokers - 1) in
      let counts = replay_counts w.lists (fresh w.config) w.journal.items c.plain a c.replays safe in
      let top = replay_within w.lists (fresh w.config) w.journal.items c.plain a c.replays safe (omega arith) in
      let many : length (answered a w.journal.items) ≡ length (orders_of w.lists a) = elim (list_or_none w.lists a) [
        | inl h ↦
            let actor_state = look w.desk h.0 (omega (arith, c.stands.actor_states, within w.lists h.0 h.1 h.2)) in
            let at = (c.stands.desk h.0 h.1 actor_state.0 h.2 actor_state.1).actor in
            let number : number_of c.plain a ≡ actor_state.0.number = ap (λ (k : ℕ). number_of c.plain k) (sym h.3) ∙ ap (λ (k : Actor). k.number) at in
            let orders : length (orders_of w.lists a) ≡ length h.1.orders =
            ap (λ (k : ℕ). length (orders_of w.lists k)) (sym h.3) ∙ ap (λ (k : List Order). length k) (orders_at w.lists h.0 h.1 c.stands.rising h.2) in
            let low = ends a h.0 h.1 actor_state.0 (record { list = h.2; actor = h.3; actor_state_is = actor_state.1 }) in
            omega (arith, counts.next, top, number, orders, low)
        | inr none ↦
            let empty : length (orders_of w.lists a) ≡ 0 = ap (λ (k : List Order). length k) none in
            omega (arith, counts.next, top, empty)
      ] in
      counts.order ∙ ap (λ (n : ℕ). numbers_from 0 n) many;
}
