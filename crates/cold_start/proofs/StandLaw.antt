-- What a power cut of everything leaves of the devices represents what it leaves of the plain state.
use Rattle.std.proofs.Common.{◌≡◌, ◌∙◌, inl, sym, ap, subst, refl, ℕ, suc, List, [], ◌∷◌, length}
use Rattle.std.specs.Prelude.{◌^◌, ◌<◌, map, pos, replicate, IsTrue}
use Rattle.tier_base.specs.declared.names.PartitionId.{PartitionId}
use Rattle.registry.specs.declared.registry.Registry.{Registry}
use Rattle.disk_model.specs.Content.{Content}
use Rattle.disk_model.specs.declared.disk.Disk.{Ghosts as DiskGhosts}
use Rattle.object_store.specs.Content.{Objects}
use Rattle.object_store.specs.declared.store.Store.{Ghosts as StoreGhosts}
use Rattle.segment_meta.specs.declared.note.Note.{Note}
use Rattle.meta_log.specs.declared.log.MetaLog.{Ghosts as MetaGhosts}
use Rattle.meta_log.specs.Content.{Left}
use Rattle.log_steps.specs.Reopens.{Reopens}
use Rattle.broker_log.specs.Seen.{LogState, Up, Down, Away, LogSeen, ShowsSeen, ShowsClosed, OnDisk, is_up}
use Rattle.plain_log.specs.declared.state.Broker.{Broker}
use Rattle.plain_log.specs.declared.state.State.{State}
use Rattle.laws_partition.specs.Seen as seen
use Rattle.laws_partition.specs.Central.{LinesStand}
use Rattle.laws_partition.specs.Partition.{broker_of}
use Rattle.laws_tier_turns.specs.BrokerTiers.{BrokerTierModel as BrokerTierIsSeen, tier_view_of, tier_views_of, fresh_broker_tier as fresh_seen}
use Rattle.partition_commands.specs.declared.partition_state.Node.{Node}
use Rattle.partition_commands.specs.Cold.{ShowDisks, DisksReopen, node_back, partition_back}
use Rattle.partition_commands.specs.Fresh.{AreDisksOf}
use Rattle.partition_commands.specs.Partition.{ShowNodes}
use Rattle.tier_safe.specs.Scene.{BrokerTierView, Scene}
use Rattle.tier_safe.specs.Safe.{TierSafe}
use Rattle.tier_safe.proofs.Turning.{scene_same}
use Rattle.partition_world.specs.Central.{IsCentral, broker_tiers_seen}
use Rattle.plain_log.specs.declared.command.ActorList.{ActorList}
use Rattle.plain_log.specs.declared.command.Config.{Config}
use Rattle.plain_log.specs.declared.command.Pace.{Pace}
use Rattle.plain_log.specs.Orders.{AreListsFor}
use Rattle.partition_world.specs.Cold.{IsReopened, StandCold, scene_back}
use Rattle.partition_world.specs.Laws.{IsSafeRunFrom}
use Rattle.partition_world.specs.Reaches.{Reaches}
use Rattle.partition_world.proofs.ColdLaw.{reopened_runs}
use Rattle.partition_world.specs.Left.{IsCentralLeft, resolved, whole_with}
use Rattle.partition_world.specs.Whole.{Whole}
use Rattle.cold_state.specs.Cold.{cold_of, cold_broker}
use Rattle.cold_start.specs.Cold.{cold_tier_view, cold_node, cold_partition_state, cold_scene, cold_broker_tiers}
use Rattle.cold_start.specs.ColdWorld.{IsCutDisk, IsCutStore, IsCutLog, LeavesDisk, LeaveDisks, AreCut, plain_in}
use Rattle.cold_start.proofs.ColdLaw.{cold_tier}
use Rattle.cold_state.proofs.ColdStates.{cold_safe}
use Rattle.cold_start.proofs.ColdSeen.{cold_brokers, cold_lines, cold_tier_views}
use Rattle.cold_start.proofs.ColdWorldLaw.{closed_shown, log_shown, same_plain}

module _ {D : Type 0} (content : D → Content) where
  -- the logs on disks that a power cut leaves
  pub record Back (disks : List D) (ys : List seen.Node) : Type 0 where
    pub logs : List LogSeen
    pub shows : ShowDisks content disks logs
    pub same : map node_back logs ≡ map cold_node ys

  -- a closed log is seen as this one was, whatever that is
  abbrev pub IsShownAs : LogState D → D → Type 0
  IsShownAs k d = (s : LogSeen) → ShowsSeen content k s → ShowsClosed content d s

  abbrev pub AreShownAs : List (Node D) → List D → Type 0
  AreShownAs [] [] = Unit {0}
  AreShownAs (x ∷ xs) (d ∷ disks) = IsShownAs x.log d × AreShownAs xs disks
  AreShownAs [] (d ∷ disks) = ⊥
  AreShownAs (x ∷ xs) [] = ⊥

  pub back_as : (xs : List (Node D)) (ys : List seen.Node) (disks : List D) → AreShownAs xs disks → ShowNodes content xs ys → Back disks ys
  back_as [] [] [] cut h = record { logs = []; shows = tt; same = refl }
  back_as (x ∷ xs) (y ∷ ys) (d ∷ disks) cut (shows, rest) =
      let more = back_as xs ys disks cut.1 rest in
      record {
        logs = shows.0 ∷ more.logs;
        shows = (cut.0 shows.0 shows.1, more.shows);
        same = ap (λ (k : seen.Node). k ∷ map node_back more.logs) (ap cold_node (sym shows.2)) ∙ ap (λ (l : List seen.Node). cold_node y ∷ l) more.same;
      }
  back_as [] (y ∷ ys) disks cut h = absurd h
  back_as (x ∷ xs) [] disks cut h = absurd h
  back_as [] [] (d ∷ disks) cut h = absurd cut
  back_as (x ∷ xs) (y ∷ ys) [] cut h = absurd cut

  pub left_as : (xs : List (Node D)) (disks : List D) → LeaveDisks content xs disks → AreShownAs xs disks
  left_as [] [] cut = tt
  left_as (x ∷ xs) (d ∷ disks) cut = (λ k h. log_shown content (record { segment_bytes = 0; index_interval = 0 }) x.log d k cut.0 h, left_as xs disks cut.1)
  left_as [] (d ∷ disks) cut = absurd cut
  left_as (x ∷ xs) [] cut = absurd cut

-- as many tier states as brokers are seen, or more
broker_tiers_anew : (nodes : List seen.Node) (broker_tiers : List BrokerTierIsSeen) → length (tier_views_of nodes broker_tiers) ≡ length nodes → tier_views_of (map cold_node nodes) (cold_broker_tiers broker_tiers) ≡ tier_views_of (map cold_node nodes) (replicate (length nodes) fresh_seen)
broker_tiers_anew [] broker_tiers e = refl
broker_tiers_anew (x ∷ nodes) [] e = absurd cc
broker_tiers_anew (x ∷ nodes) (broker_tier ∷ broker_tiers) e =
    let rest : length (tier_views_of nodes broker_tiers) ≡ length nodes = cc (e) in
    ap (λ (l : List BrokerTierView). tier_view_of (cold_node x) fresh_seen ∷ l) (broker_tiers_anew nodes broker_tiers rest)

long : {A B : Type 0} (f : A → B) (xs : List A) → length (map f xs) ≡ length xs
long f [] = refl
long f (x ∷ xs) = ap suc (long f xs)

module _ {D S M : Type 0} (disk : DiskGhosts D) (store : StoreGhosts S) (meta : MetaGhosts M) where
  module _ (opening : State) (w : Whole D S M) (disks : List D) (s : S) (m : M) (l : List Note) (cut : AreShownAs disk.content w.partition_state.nodes disks) (kept : IsCutStore (store.content w.tier.store) (store.content s))
      (told : IsCutLog (meta.content w.tier.meta) (meta.content m)) (k : IsCentral disk store (resolved meta) opening (whole_with w l)) where
    b : Back disk.content disks k.partition.nodes
    b = back_as disk.content w.partition_state.nodes k.partition.nodes disks cut k.shows.nodes

    registry_is : k.partition.registry ≡ w.partition_state.registry
    registry_is = k.shows.registry

    partition_state_is : cold_partition_state k.partition (pos 0) ≡ partition_back w.partition_state.registry b.logs
    partition_state_is =
        ap (λ (r : Registry). (let h : seen.SeenPartition = record { registry = r; nodes = map cold_node k.partition.nodes; clock = pos 0 } in h)) registry_is
        ∙ ap (λ (nodes : List seen.Node). (let h : seen.SeenPartition = record { registry = w.partition_state.registry; nodes = nodes; clock = pos 0 } in h)) (sym b.same)

    many : length (tier_views_of k.partition.nodes (broker_tiers_seen w.tier.broker_tiers)) ≡ length k.partition.nodes
    many =
        ap (λ (tier_views : List BrokerTierView). length tier_views) (sym k.shows_tier.tier_views) ∙ k.tier.tier_views.count
        ∙ ap (λ (brokers : List Broker). length brokers) k.central.stands.partition_state.brokers ∙ long broker_of k.partition.nodes

    count : length k.partition.nodes ≡ length b.logs
    count = sym (long cold_node k.partition.nodes) ∙ ap (λ (nodes : List seen.Node). length nodes) (sym b.same) ∙ long node_back b.logs

    tier_views_are : map cold_tier_view k.scene.tier_views ≡ tier_views_of (map node_back b.logs) (replicate (length b.logs) fresh_seen)
    tier_views_are =
        ap (map cold_tier_view) k.shows_tier.tier_views ∙ sym (cold_tier_views k.partition.nodes (broker_tiers_seen w.tier.broker_tiers)) ∙ broker_tiers_anew k.partition.nodes (broker_tiers_seen w.tier.broker_tiers) many
        ∙ ap (λ (nodes : List seen.Node). tier_views_of nodes (replicate (length k.partition.nodes) fresh_seen)) (sym b.same) ∙ ap (λ (n : ℕ). tier_views_of (map node_back b.logs) (replicate n fresh_seen)) count

    scene_is : cold_scene k.scene [] ≡ scene_back w.partition (store.content s).objects l b.logs
    scene_is = scene_same _ _ k.shows_tier.partition (k.shows_tier.objects ∙ sym kept.objects) k.shows_tier.notes tier_views_are refl

    pub stand_cut : StandCold disk store meta w.partition w.partition_state.registry disks s m (cold_of k.central.plain) l
    stand_cut = record {
      logs = b.logs;
      shows = b.shows;
      safe = cold_safe k.central.plain k.central.safe;
      registry_is = k.central.stands.partition_state.registry ∙ registry_is;
      brokers = ap (map cold_broker) k.central.stands.partition_state.brokers ∙ cold_brokers k.partition.nodes ∙ ap (map broker_of) (sym b.same);
      actors = refl;
      lines = subst (λ (h : seen.SeenPartition). LinesStand h k.central.plain.paths k.central.plain.broken) partition_state_is (cold_lines k.partition (pos 0) k.central.plain.paths k.central.plain.broken k.central.stands.lines);
      store_tells = kept.is_observable k.shows_tier.store_tells;
      meta_tells = told.is_observable k.shows_tier.meta_tells;
      tier = subst (λ (c : Scene). TierSafe c (cold_of k.central.plain)) scene_is (cold_tier k.scene k.central.plain [] (λ a tier_task at. absurd cc) k.tier);
    }

  pub shown_cold : (opening : State) (w : Whole D S M) (disks : List D) (s : S) (m : M) (c : IsCentralLeft disk store meta opening w) → AreShownAs disk.content w.partition_state.nodes disks
      → IsCutStore (store.content w.tier.store) (store.content s) → IsCutLog (meta.content w.tier.meta) (meta.content m) → (l : List Note) → Left (meta.content m) l
      → StandCold disk store meta w.partition w.partition_state.registry disks s m (cold_of (plain_in disk store meta opening w c)) l
  shown_cold opening w disks s m c cut kept told l left =
      let now = c (meta.content w.tier.meta).notes (inl refl) in
      let k = c l (told.left l left) in
      subst (λ (p : State). StandCold disk store meta w.partition w.partition_state.registry disks s m (cold_of p) l) (same_plain disk store meta opening w l (meta.content w.tier.meta).notes k now)
      (stand_cut opening w disks s m l cut kept told k)

  pub leaves_cold : (opening : State) (w : Whole D S M) (disks : List D) (s : S) (m : M) (c : IsCentralLeft disk store meta opening w) → LeaveDisks disk.content w.partition_state.nodes disks
      → IsCutStore (store.content w.tier.store) (store.content s) → IsCutLog (meta.content w.tier.meta) (meta.content m) → (l : List Note) → Left (meta.content m) l
      → StandCold disk store meta w.partition w.partition_state.registry disks s m (cold_of (plain_in disk store meta opening w c)) l
  leaves_cold opening w disks s m c cut kept told l left = shown_cold opening w disks s m c (left_as disk.content w.partition_state.nodes disks cut) kept told l left

  -- a further power cut
  shown_cut : (disks nows : List D) (logs : List LogSeen) → AreCut disk.content disks nows → ShowDisks disk.content disks logs → ShowDisks disk.content nows logs
  shown_cut [] [] [] cut h = tt
  shown_cut (d ∷ disks) (n ∷ nows) (k ∷ logs) cut h = (closed_shown disk.content (record { segment_bytes = 0; index_interval = 0 }) d n k cut.0 h.0, shown_cut disks nows logs cut.1 h.1)
  shown_cut [] [] (k ∷ logs) cut h = absurd h
  shown_cut [] (n ∷ nows) logs cut h = absurd cut
  shown_cut (d ∷ disks) [] logs cut h = absurd cut
  shown_cut (d ∷ disks) (n ∷ nows) [] cut h = absurd h

  pub keeps_cold : (partition : PartitionId) (registry : Registry) (disks nows : List D) (s : S) (m : M) (t : S) (n : M) (p : State) → ((l : List Note) → Left (meta.content m) l → StandCold disk store meta partition registry disks s m p l)
      → AreCut disk.content disks nows → IsCutStore (store.content s) (store.content t) → IsCutLog (meta.content m) (meta.content n) → (l : List Note) → Left (meta.content n) l
      → StandCold disk store meta partition registry nows t n p l
  keeps_cold partition registry disks nows s m t n p stand cut kept told l left =
      let k = stand l (told.left l left) in
      record {
        logs = k.logs;
        shows = shown_cut disks nows k.logs cut k.shows;
        safe = k.safe;
        registry_is = k.registry_is;
        brokers = k.brokers;
        actors = k.actors;
        lines = k.lines;
        store_tells = kept.is_observable k.store_tells;
        meta_tells = told.is_observable k.meta_tells;
        tier = subst (λ (o : Objects). TierSafe (scene_back partition o l k.logs) p) (sym kept.objects) k.tier;
      }

  pub runs_go_on : (opening : State) (w : Whole D S M) (config : Config) (lists : List ActorList) (disks : List D) (s : S) (m : M) (v : Whole D S M) (schedule : List Pace) (v' : Whole D S M)
      (c : IsCentralLeft disk store meta opening w) → LeaveDisks disk.content w.partition_state.nodes disks → IsCutStore (store.content w.tier.store) (store.content s) → IsCutLog (meta.content w.tier.meta) (meta.content m)
      → ((l : List Note) → Left (meta.content m) l → length l < 2 ^ 63) → AreListsFor config lists → IsReopened disk store meta w.partition config lists w.partition_state.registry disks s m v
      → Reaches disk store meta v schedule v' → IsSafeRunFrom (cold_of (plain_in disk store meta opening w c)) lists v'.journal.items
  runs_go_on opening w config lists disks s m v schedule v' c cut kept told few fit f r =
      reopened_runs disk store meta w.partition config lists w.partition_state.registry disks s m v schedule v' (cold_of (plain_in disk store meta opening w c)) fit f
      (record { stand = leaves_cold opening w disks s m c cut kept told; few = few }) r

module _ {D : Type 0} (disk : DiskGhosts D) where
  left_one : (k : LogState D) (d n : D) → OnDisk k (λ e. d ≡ e) → (IsTrue (is_up k) → Reopens (disk.content d)) → IsCutDisk (disk.content d) (disk.content n) → LeavesDisk disk.content k n
  left_one (Up l) d n is all cut = (subst (λ (e : D). Reopens (disk.content e)) is (all refl), subst (λ (e : D). IsCutDisk (disk.content e) (disk.content n)) is cut)
  left_one (Down was e) d n is all cut = subst (λ (e : D). IsCutDisk (disk.content e) (disk.content n)) is cut
  left_one Away d n is all cut = absurd is

  pub closed_left : (nodes : List (Node D)) (disks nows : List D) → AreDisksOf nodes disks → DisksReopen disk.content nodes disks → AreCut disk.content disks nows → LeaveDisks disk.content nodes nows
  closed_left [] [] [] are again cut = tt
  closed_left (x ∷ nodes) (d ∷ disks) (n ∷ nows) are again cut = (
    left_one x.log d n are.0 (λ up. again 0 x d refl refl (inl up)) cut.0,
    closed_left nodes disks nows are.1 (λ b y e at to either. again (suc b) y e at to either) cut.1,
  )
  closed_left [] [] (n ∷ nows) are again cut = absurd cut
  closed_left [] (d ∷ disks) nows are again cut = absurd are
  closed_left (x ∷ nodes) [] nows are again cut = absurd are
  closed_left (x ∷ nodes) (d ∷ disks) [] are again cut = absurd cut
