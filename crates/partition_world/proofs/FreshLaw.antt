-- A fresh world whose logs, objects and metadata events are seen has the central fact.
use Rattle.std.proofs.Common.{◌≡◌, ◌∙◌, sym, ap, subst, refl, ℕ, zero, suc, ◌+◌, ◌-◌, ◌*◌, ◌<◌, ◌≤◌, List, [], ◌∷◌, length, Option, Some, None, slice_get, Bool, true, false, arith}
use Rattle.std.specs.Prelude.{replicate, unwrap_or, ◌^◌, All}
use Rattle.tier_base.specs.declared.names.PartitionId.{PartitionId}
use Rattle.tier_base.specs.Device.{Control}
use Rattle.disk_model.specs.declared.disk.Disk.{Ghosts as DiskGhosts}
use Rattle.disk_model.specs.Call.{call_code}
use Rattle.disk_model.specs.Content.{Content}
use Rattle.object_store.specs.declared.store.Store.{Ghosts as StoreGhosts}
use Rattle.meta_log.specs.declared.log.MetaLog.{Ghosts as MetaGhosts}
use Rattle.registry.specs.Registry.{fresh_registry}
use Rattle.plain_log.specs.declared.command.ActorList.{ActorList}
use Rattle.plain_log.specs.declared.command.Config.{Config}
use Rattle.plain_log.specs.declared.command.Order.{Order}
use Rattle.plain_log.specs.declared.state.Role.TheVariants.{Joined}
use Rattle.plain_log.specs.declared.journal.JournalEntry.{JournalEntry}
use Rattle.plain_log.specs.declared.state.State.{State}
use Rattle.plain_log.specs.Fresh.{fresh}
use Rattle.plain_log.specs.Runs.{replay}
use Rattle.plain_log.specs.Orders.{AreListsFor, AreRising, IsListFor, IsConfig}
use Rattle.broker_log.specs.Seen.{ShowsSeen}
use Rattle.laws_partition.specs.Whole as seen_whole
use Rattle.laws_partition.specs.Central as seen_central
use Rattle.laws_partition.specs.Fresh.{fresh_node, fresh_partition_state}
use Rattle.laws_partition.proofs.CompleteLaw.{fresh_central}
use Rattle.laws_tier_turns.specs.BrokerTiers.{tier_views_of, BrokerTierModel as BrokerTierIsSeen, fresh_broker_tier as fresh_seen}
use Rattle.laws_tier_turns.proofs.FreshLaw.{fresh_tier}
use Rattle.partition_commands.specs.declared.partition_state.Node.{Node}
use Rattle.partition_commands.specs.Partition.{is_up, line_of, node_of, ShowsNode, ShowNodes}
use Rattle.partition_commands.specs.Fresh.{IsFreshNode, AreFreshFrom, AllSeen, empty_seen, fresh_role, fresh_line}
use Rattle.tier_safe.specs.Scene.{Scene, TierTask, Free}
use Rattle.tier_safe.specs.Fresh.{fresh_tier_view}
use Rattle.tier_safe.specs.Safe.{TierSafe}
use Rattle.tier_safe.proofs.FreshLaw.{fresh_both}
use Rattle.partition_world.specs.declared.actor_state.ActorState.{ActorState}
use Rattle.partition_world.specs.declared.actor_state.InProgress.TheVariants.{Idle}
use Rattle.partition_world.specs.declared.tier.BrokerTierState.{BrokerTierState}
use Rattle.partition_world.specs.ActorStates.{desk_seen}
use Rattle.partition_world.specs.Whole.{Whole, seen_as}
use Rattle.partition_world.specs.Central.{IsRecorded, AreRecorded, IsSearchState, AreDated, IsCentral, ShowsTier, broker_tiers_seen, tier_task_of, desk_of, notes_left}
use Rattle.partition_world.specs.Fresh.{IsFresh, IsSeenEmpty, fresh_actor_state, fresh_broker_tier}
use Rattle.partition_world.proofs.WorldFresh.{all_fresh}

module _ {D : Type 0} (content : D → Content) (control : D → Control call_code) where
  node_shown : (leads : Bool) (x : Node D) → IsFreshNode leads x → ShowsSeen content x.log (empty_seen (line_of x)) → ShowsNode content x (fresh_node (fresh_role leads) (fresh_line leads))
  node_shown leads x f seen = (
    empty_seen (line_of x),
    seen,
    as_seen f.up f.stops f.role_is f.known_high_watermark (ap (λ (o : Option (List (ℕ × ℕ))). unwrap_or o []) f.line_is),
  )
    where
      as_seen : is_up x ≡ true → x.stops ≡ 0 → x.role ≡ fresh_role leads → x.known_high_watermark ≡ 0 → line_of x ≡ fresh_line leads → fresh_node (fresh_role leads) (fresh_line leads) ≡ node_of x (empty_seen (line_of x))
      as_seen up stops is known same = rw (up, stops, is, known, same) refl

  followers_shown : (disks : List D) (xs : List (Node D)) → AreFreshFrom control false disks xs → AllSeen content xs → ShowNodes content xs (replicate (length disks) (fresh_node (Joined 0) []))
  followers_shown [] [] f seen = tt
  followers_shown [] (x ∷ xs) f seen = absurd f
  followers_shown (d ∷ disks) [] f seen = absurd f
  followers_shown (d ∷ disks) (x ∷ xs) f seen = (node_shown false x f.0.node seen.0, followers_shown disks xs f.1 seen.1)

  nodes_shown : (n : ℕ) (disks : List D) (xs : List (Node D)) → length disks ≡ n → 1 ≤ n → AreFreshFrom control true disks xs → AllSeen content xs → ShowNodes content xs (fresh_partition_state n).nodes
  nodes_shown n [] xs count some f seen = absurd (omega (arith, count, some))
  nodes_shown n (d ∷ disks) [] count some f seen = absurd f
  nodes_shown n (d ∷ disks) (x ∷ xs) count some f seen =
      let many : length disks ≡ n - 1 = omega (arith, count) in (
        node_shown true x f.0.node seen.0,
        subst (λ (k : ℕ). ShowNodes content xs (replicate k (fresh_node (Joined 0) []))) many (followers_shown disks xs f.1 seen.1),
      )

-- the brokers' tier states are those of a fresh tier
pub broker_tiers_fresh : (n : ℕ) → broker_tiers_seen (replicate n fresh_broker_tier) ≡ replicate n fresh_seen
broker_tiers_fresh zero = refl
broker_tiers_fresh (suc n) = ap (λ (l : List BrokerTierIsSeen). fresh_seen ∷ l) (broker_tiers_fresh n)

tier_views_fresh : (n : ℕ) (broker_tiers : List BrokerTierState) → broker_tiers ≡ replicate n fresh_broker_tier → replicate n fresh_tier_view ≡ tier_views_of (fresh_partition_state n).nodes (broker_tiers_seen broker_tiers)
tier_views_fresh n broker_tiers is =
    let all : broker_tiers_seen broker_tiers ≡ replicate n fresh_seen = ap (λ (l : List BrokerTierState). broker_tiers_seen l) is ∙ broker_tiers_fresh n in
    sym (ap (λ (l : List BrokerTierIsSeen). tier_views_of (fresh_partition_state n).nodes l) all ∙ fresh_tier n)

-- nothing is in progress
free : (o : Option Order) → tier_task_of o Idle ≡ Free
free None = refl
free (Some order) = refl

pub all_free : (lists : List ActorList) → replicate (length lists) Free ≡ desk_of lists (replicate (length lists) fresh_actor_state)
all_free [] = refl
all_free (l ∷ lists) =
    ap (λ (ws : List TierTask). Free ∷ ws) (all_free lists)
    ∙ ap (λ (w : TierTask). w ∷ desk_of lists (replicate (length lists) fresh_actor_state)) (sym (free (slice_get l.orders 0)))

-- no list is of an actor below this one
abbrev IsFrom : ℕ → List ActorList → Type 0
IsFrom low [] = Unit {0}
IsFrom low (l ∷ lists) = low ≤ l.actor.0

-- so many metadata events an actor appends at most
few_notes : (config : Config) (low : ℕ) (lists : List ActorList) → IsFrom low lists → AreRising lists → All (IsListFor config) lists
    → notes_left lists (replicate (length lists) fresh_actor_state) ≤ 8589934592 * (64 - low)
few_notes config low [] from rising each = omega arith
few_notes config low (l ∷ []) from rising each = let one = each 0 l (omega arith) in omega (arith, from, one.actor, one.few)
few_notes config low (l ∷ m ∷ lists) from rising each =
    let one = each 0 l (omega arith) in
    let rest = few_notes config (l.actor.0 + 1) (m ∷ lists) (omega (arith, rising.0)) rising.1 (λ k d lt. each (suc k) d (omega (arith, lt))) in
    omega (arith, from, one.actor, one.few, rest)

-- far fewer than a view can count
pub far_fewer : (config : Config) (lists : List ActorList) → AreListsFor config lists → notes_left lists (replicate (length lists) fresh_actor_state) < 2 ^ 63
far_fewer config [] fit = omega arith
far_fewer config (l ∷ lists) fit = let few = few_notes config 0 (l ∷ lists) (omega arith) fit.rising fit.each in omega (arith, few)

low_left : (config : Config) (lists : List ActorList) → AreListsFor config lists → notes_left lists (replicate (length lists) fresh_actor_state) < 2 ^ 64
low_left config [] fit = omega arith
low_left config (l ∷ lists) fit = let few = few_notes config 0 (l ∷ lists) (omega arith) fit.rising fit.each in omega (arith, few)

module _ {D S M : Type 0} (disk : DiskGhosts D) (store : StoreGhosts S) (meta : MetaGhosts M) where
  -- the tier of a fresh world
  abbrev scene_of : Config → List ActorList → Whole D S M → Scene
  scene_of config lists w = record {
    partition = w.partition;
    objects = (store.content w.tier.store).objects;
    notes = [];
    tier_views = replicate config.brokers fresh_tier_view;
    desk = replicate (length lists) Free;
  }

  tier_shown : (partition : PartitionId) (config : Config) (lists : List ActorList) (disks : List D) (s : S) (m : M) (w : Whole D S M)
      → IsFresh disk store meta partition config lists disks s m w → IsSeenEmpty disk store meta w → ShowsTier store meta w (fresh_partition_state config.brokers) (scene_of config lists w)
  tier_shown partition config lists disks s m w f seen = record {
    partition = refl;
    store_tells = seen.store_tells;
    objects = refl;
    meta_tells = seen.meta_tells;
    notes = sym (seen.notes seen.meta_tells);
    tier_views = tier_views_fresh config.brokers w.tier.broker_tiers f.broker_tiers;
    desk = desk_is w.lists w.desk f.lists_are f.desk;
  }
    where
      desk_is : (ls : List ActorList) (desk : List ActorState) → ls ≡ lists → desk ≡ replicate (length lists) fresh_actor_state → replicate (length lists) Free ≡ desk_of ls desk
      desk_is ls desk same is = all_free lists ∙ (ap (λ (d : List ActorState). desk_of lists d) (sym is) ∙ ap (λ (k : List ActorList). desk_of k desk) (sym same))

  left : (config : Config) (lists ls : List ActorList) (desk : List ActorState) → AreListsFor config lists → ls ≡ lists → desk ≡ replicate (length lists) fresh_actor_state → 0 + notes_left ls desk < 2 ^ 64
  left config lists ls desk fit same is =
      let few = low_left config lists fit in
      let one = ap (λ (d : List ActorState). notes_left lists d) is in
      let two = ap (λ (k : List ActorList). notes_left k desk) same in
      omega (arith, few, one, two)

  -- the plain log after an empty journal is the opening one
  plain_fresh : (opening : State) (v : seen_whole.Whole) (c : seen_central.IsCentral opening v) → v.journal.items ≡ [] → opening ≡ c.plain
  plain_fresh opening v c none = let is : Some opening ≡ Some c.plain = sym (ap (λ (l : List JournalEntry). replay v.lists opening l) none) ∙ c.replays in cc (is)

  -- no actor's state keeps anything
  idle_recorded : (n place : ℕ) (actor_state : ActorState) → slice_get (replicate n fresh_actor_state) place ≡ Some actor_state → IsRecorded actor_state.in_progress
  idle_recorded zero place actor_state at = absurd cc
  idle_recorded (suc n) zero actor_state at = let is : fresh_actor_state ≡ actor_state = cc (at) in subst (λ (k : ActorState). IsRecorded k.in_progress) is tt
  idle_recorded (suc n) (suc place) actor_state at = idle_recorded n place actor_state at

  pub fresh_recorded : (n : ℕ) (desk : List ActorState) → desk ≡ replicate n fresh_actor_state → AreRecorded desk
  fresh_recorded n desk is = λ place actor_state at. idle_recorded n place actor_state (ap (λ (k : List ActorState). slice_get k place) (sym is) ∙ at)

  idle_dated : (p : State) (order : Option Order) → IsSearchState p order Idle
  idle_dated p None = tt
  idle_dated p (Some order) = tt

  actor_states_idle : (n place : ℕ) (actor_state : ActorState) → slice_get (replicate n fresh_actor_state) place ≡ Some actor_state → fresh_actor_state ≡ actor_state
  actor_states_idle zero place actor_state at = absurd cc
  actor_states_idle (suc n) zero actor_state at = cc (at)
  actor_states_idle (suc n) (suc place) actor_state at = actor_states_idle n place actor_state at

  pub fresh_dated : (p : State) (lists : List ActorList) (n : ℕ) (desk : List ActorState) → desk ≡ replicate n fresh_actor_state → AreDated p lists desk
  fresh_dated p lists n desk is = λ place l actor_state there at.
      let same = actor_states_idle n place actor_state (ap (λ (k : List ActorState). slice_get k place) (sym is) ∙ at) in
      subst (λ (k : ActorState). IsSearchState p (slice_get l.orders k.number) k.in_progress) same (idle_dated p (slice_get l.orders 0))

  pub fresh_is_central : (partition : PartitionId) (config : Config) (lists : List ActorList) (disks : List D) (s : S) (m : M) (w : Whole D S M) → IsConfig config → AreListsFor config lists
      → IsFresh disk store meta partition config lists disks s m w → IsSeenEmpty disk store meta w → IsCentral disk store meta (fresh config) w
  fresh_is_central partition config lists disks s m w fits fit f seen = record {
    partition = fresh_partition_state config.brokers;
    shows = record {
      registry = sym (f.partition_state.registry ∙ ap fresh_registry f.count);
      nodes = nodes_shown disk.content disk.control config.brokers disks w.partition_state.nodes f.count fits.some f.partition_state.nodes seen.logs;
      clock = sym f.partition_state.clock;
    };
    central = central;
    scene = scene_of config lists w;
    shows_tier = tier_shown partition config lists disks s m w f seen;
    tier = subst (λ (p : State). TierSafe (scene_of config lists w) p) (plain_fresh (fresh config) (seen_as w (fresh_partition_state config.brokers)) central f.journal) safe;
    recorded = fresh_recorded (length lists) w.desk f.desk;
    dated = fresh_dated central.plain w.lists (length lists) w.desk f.desk;
    few = left config lists w.lists w.desk fit f.lists_are f.desk;
  }
    where
      central : seen_central.IsCentral (fresh config) (seen_as w (fresh_partition_state config.brokers))
      central = fresh_central partition config lists (seen_as w (fresh_partition_state config.brokers)) fits fit (record {
        partition_is = f.partition_is;
        config_is = f.config_is;
        lists_are = f.lists_are;
        partition_state = refl;
        desk = ap (λ (d : List ActorState). desk_seen d) f.desk ∙ all_fresh (length lists);
        journal = f.journal;
      })

      safe : TierSafe (scene_of config lists w) (fresh config)
      safe = (fresh_both config (length lists) (scene_of config lists w) fits.some (record { objects = seen.objects seen.store_tells; notes = refl; tier_views = refl; desk = refl })).tier
