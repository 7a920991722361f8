-- A power cut of everything between two turns.
use Rattle.std.proofs.Common.{◌≡◌, ◌∙◌, inl, sym, ap, subst, refl, ℕ, zero, suc, ◌+◌, ◌<◌, List, [], ◌∷◌, length, slice_get, Some, None, Option}
use Rattle.std.specs.Prelude.{◌^◌, pos, map, replicate}
use Rattle.tier_base.specs.Reserved.{ReservedItems}
use Rattle.tier_base.specs.declared.plain.Settings.{Settings}
use Rattle.disk_model.specs.Content.{Content}
use Rattle.disk_model.specs.declared.disk.Disk.{Ghosts as DiskGhosts}
use Rattle.object_store.specs.declared.store.Store.{Ghosts as StoreGhosts}
use Rattle.segment_meta.specs.declared.note.Note.{Note}
use Rattle.meta_log.specs.declared.log.MetaLog.{Ghosts as MetaGhosts}
use Rattle.meta_log.specs.Content.{Left}
use Rattle.broker_log.specs.Seen as log
use Rattle.log_steps.specs.Reopens.{Reopens}
use Rattle.plain_log.specs.declared.command.Config.{Config}
use Rattle.broker_log.specs.Seen.{LogState, Up, Down, Away, ShowsSeen, ShowsClosed}
use Rattle.broker_log.proofs.Breaking.{stops_by}
use Rattle.plain_log.specs.declared.command.ActorList.{ActorList}
use Rattle.plain_log.specs.declared.command.Order.{Order}
use Rattle.plain_log.specs.declared.journal.JournalEntry.{JournalEntry}
use Rattle.plain_log.specs.declared.state.State.{State}
use Rattle.plain_log.specs.Orders.{AreRising}
use Rattle.laws_partition.specs.Seen as seen
use Rattle.laws_partition.specs.Central as seen_central
use Rattle.laws_tier_turns.specs.BrokerTiers.{BrokerTierModel as BrokerTierIsSeen, tier_views_of}
use Rattle.partition_commands.specs.declared.partition_state.Node.{Node}
use Rattle.partition_commands.specs.Partition.{ShowsNode, ShowNodes}
use Rattle.tier_safe.specs.Scene.{TierTask, Free}
use Rattle.partition_world.specs.declared.actor_state.ActorState.{ActorState}
use Rattle.partition_world.specs.declared.actor_state.InProgress.TheVariants.{Idle}
use Rattle.partition_world.specs.declared.tier.BrokerTierState.{BrokerTierState}
use Rattle.partition_world.specs.Central.{IsCentral, IsRecorded, IsSearchState, broker_tiers_seen, broker_tier_seen, tier_task_of, desk_of, notes_left}
use Rattle.partition_world.specs.Fresh.{fresh_actor_state, fresh_broker_tier}
use Rattle.partition_world.specs.Left.{IsCentralLeft, resolved, whole_with}
use Rattle.partition_world.specs.Whole.{Whole, seen_as}
use Rattle.partition_world.proofs.WorldFresh.{all_fresh}
use Rattle.cold_state.specs.Cold.{cold_of}
use Rattle.cold_start.specs.Cold.{cold_tier_view, cold_node, cold_partition_state, cold_whole, cold_broker_tiers, cold_scene}
use Rattle.cold_start.specs.Laws.{IsDeskFree}
use Rattle.cold_start.specs.ColdWorld.{IsCutDisk, IsCutStore, IsCutLog, LeavesDisk, LeaveDisks, cold_dev, reopened, plain_in}
use Rattle.cold_start.proofs.ColdLaw.{cold_tier}
use Rattle.cold_start.proofs.ColdSeen.{cold_central, cold_tier_views}

-- a log can be opened from fewer images
fewer_reopens : (d n : Content) → Reopens d → IsCutDisk d n → Reopens n
fewer_reopens d n again cut = record { opens = λ c image. again.opens c (cut.images c image); fronts = λ c x m image other says. again.fronts c x m (cut.images c image) (cut.images x other) says }

module _ {D : Type 0} (content : D → Content) (set : Settings) where
  pub closed_shown : (old new : D) (s : log.LogSeen) → IsCutDisk (content old) (content new) → ShowsClosed content old s → ShowsClosed content new s
  closed_shown old new s cut h = record { told = cut.is_observable h.told; kept = h.kept; images = λ c image. h.images c (cut.images c image); again = fewer_reopens (content old) (content new) h.again cut }

  -- what is left of a log is seen as the log was
  pub log_shown : (k : LogState D) (disk : D) (s : log.LogSeen) → LeavesDisk content k disk → ShowsSeen content k s → ShowsClosed content disk s
  log_shown (Up l) disk s (again, cut) h = (let x = (stops_by content l again).seen s h in subst (ShowsClosed content disk) x.2 (closed_shown l.disk disk x.0 cut x.1))
  log_shown (Down was old) disk s cut h = closed_shown old disk s cut h
  log_shown Away disk s cut h = absurd h

  node_shown : (x : Node D) (y : seen.Node) (disk : D) → LeavesDisk content x.log disk → ShowsNode content x y → ShowsNode content (cold_dev set disk) (cold_node y)
  node_shown x y disk cut (s, h, is) = (s, log_shown x.log disk s cut h, ap cold_node is)

  nodes_shown : (xs : List (Node D)) (ys : List seen.Node) (disks : List D) → LeaveDisks content xs disks → ShowNodes content xs ys → ShowNodes content (map (cold_dev set) disks) (map cold_node ys)
  nodes_shown [] [] [] cut h = tt
  nodes_shown (x ∷ xs) (y ∷ ys) (d ∷ disks) cut h = (node_shown x y d cut.0 h.0, nodes_shown xs ys disks cut.1 h.1)
  nodes_shown [] (y ∷ ys) disks cut h = absurd h
  nodes_shown (x ∷ xs) [] disks cut h = absurd h
  nodes_shown [] [] (d ∷ disks) cut h = absurd cut
  nodes_shown (x ∷ xs) (y ∷ ys) [] cut h = absurd cut

-- the tier states of a world that is reopened
broker_tiers_cold : (broker_tiers : List BrokerTierState) → cold_broker_tiers (broker_tiers_seen broker_tiers) ≡ broker_tiers_seen (map (λ broker_tier. fresh_broker_tier) broker_tiers)
broker_tiers_cold [] = refl
broker_tiers_cold (broker_tier ∷ broker_tiers) = ap (λ (l : List BrokerTierIsSeen). broker_tier_seen fresh_broker_tier ∷ l) (broker_tiers_cold broker_tiers)

free : (o : Option Order) → tier_task_of o Idle ≡ Free
free None = refl
free (Some order) = refl

pub all_free : (lists : List ActorList) → replicate (length lists) Free ≡ desk_of lists (replicate (length lists) fresh_actor_state)
all_free [] = refl
all_free (l ∷ lists) =
    ap (λ (ws : List TierTask). Free ∷ ws) (all_free lists)
    ∙ ap (λ (w : TierTask). w ∷ desk_of lists (replicate (length lists) fresh_actor_state)) (sym (free (slice_get l.orders 0)))

replicated : {A : Type 0} (n : ℕ) (x : A) (i : ℕ) (y : A) → slice_get (replicate n x) i ≡ Some y → x ≡ y
replicated zero x i y e = absurd cc
replicated (suc n) x zero y e = cc
replicated (suc n) x (suc i) y e = replicated n x i y e

pub is_free : (n : ℕ) → IsDeskFree (replicate n Free)
is_free n a tier_task at = sym (replicated n Free a tier_task at)

idle_dated : (p : State) (order : Option Order) → IsSearchState p order Idle
idle_dated p None = tt
idle_dated p (Some order) = tt

module _ {D S M : Type 0} (disk : DiskGhosts D) (store : StoreGhosts S) (meta : MetaGhosts M) where
  module _ (opening : State) (config : Config) (w : Whole D S M) (lists : List ActorList) (journal : ReservedItems JournalEntry) (disks : List D) (s : S) (m : M) (l : List Note)
      (cut : LeaveDisks disk.content w.partition_state.nodes disks) (kept : IsCutStore (store.content w.tier.store) (store.content s)) (told : IsCutLog (meta.content w.tier.meta) (meta.content m))
      (rising : AreRising lists) (empty : journal.items ≡ []) (low : length l + notes_left lists (replicate (length lists) fresh_actor_state) < 2 ^ 64)
      (k : IsCentral disk store (resolved meta) opening (whole_with w l)) where
    abbrev base : seen_central.IsCentral (cold_of k.central.plain) (cold_whole (seen_as (whole_with w l) k.partition) (pos 0) lists journal)
    base = cold_central opening (seen_as (whole_with w l) k.partition) (pos 0) lists journal k.central rising empty

    pub central_cut : IsCentral disk store (resolved meta) (cold_of k.central.plain) (whole_with (reopened config w lists journal disks s m) l)
    central_cut = record {
      partition = cold_partition_state k.partition (pos 0);
      shows = record { registry = k.shows.registry; nodes = nodes_shown disk.content config.settings w.partition_state.nodes k.partition.nodes disks cut k.shows.nodes; clock = refl };
      central = record {
        plain = base.plain;
        replays = base.replays;
        safe = base.safe;
        stands = record {
          partition_state = base.stands.partition_state;
          lines = base.stands.lines;
          desk = λ place list actor_state at there. base.stands.desk place list actor_state at (ap (λ (d : List _). slice_get d place) (sym (all_fresh (length lists))) ∙ there);
          rising = base.stands.rising;
          actor_states = ap length (all_fresh (length lists)) ∙ base.stands.actor_states;
        };
      };
      scene = cold_scene k.scene (replicate (length lists) Free);
      shows_tier = record {
        partition = k.shows_tier.partition;
        store_tells = kept.is_observable k.shows_tier.store_tells;
        objects = k.shows_tier.objects ∙ sym kept.objects;
        meta_tells = told.is_observable k.shows_tier.meta_tells;
        notes = k.shows_tier.notes;
        tier_views = ap (map cold_tier_view) k.shows_tier.tier_views ∙ sym (cold_tier_views k.partition.nodes (broker_tiers_seen w.tier.broker_tiers)) ∙ ap (tier_views_of (map cold_node k.partition.nodes)) (broker_tiers_cold w.tier.broker_tiers);
        desk = all_free lists;
      };
      tier = cold_tier k.scene k.central.plain (replicate (length lists) Free) (is_free (length lists)) k.tier;
      recorded = λ place actor_state at. subst (λ (s : ActorState). IsRecorded s.in_progress) (replicated (length lists) fresh_actor_state place actor_state at) tt;
      dated = λ place list actor_state there at. subst (λ (s : ActorState). IsSearchState (cold_of k.central.plain) (slice_get list.orders s.number) s.in_progress) (replicated (length lists) fresh_actor_state place actor_state at) (idle_dated (cold_of k.central.plain) (slice_get list.orders 0));
      few = subst (λ (notes : List Note). length notes + notes_left lists (replicate (length lists) fresh_actor_state) < 2 ^ 64) (sym k.shows_tier.notes) low;
    }

  -- the journal has come to one plain state, whatever metadata events are left
  pub same_plain : (opening : State) (w : Whole D S M) (l x : List Note) (a : IsCentral disk store (resolved meta) opening (whole_with w l)) (b : IsCentral disk store (resolved meta) opening (whole_with w x))
      → a.central.plain ≡ b.central.plain
  same_plain opening w l x a b = let is : Some a.central.plain ≡ Some b.central.plain = sym a.central.replays ∙ b.central.replays in cc (is)

  pub power_cut : (opening : State) (config : Config) (w : Whole D S M) (lists : List ActorList) (journal : ReservedItems JournalEntry) (disks : List D) (s : S) (m : M) (c : IsCentralLeft disk store meta opening w)
      → LeaveDisks disk.content w.partition_state.nodes disks → IsCutStore (store.content w.tier.store) (store.content s) → IsCutLog (meta.content w.tier.meta) (meta.content m)
      → AreRising lists → journal.items ≡ [] → ((l : List Note) → Left (meta.content m) l → length l + notes_left lists (replicate (length lists) fresh_actor_state) < 2 ^ 64)
      → IsCentralLeft disk store meta (cold_of (plain_in disk store meta opening w c)) (reopened config w lists journal disks s m)
  power_cut opening config w lists journal disks s m c cut kept told rising empty low l left =
      let now = c (meta.content w.tier.meta).notes (inl refl) in
      let k = c l (told.left l left) in
      subst (λ (p : State). IsCentral disk store (resolved meta) (cold_of p) (whole_with (reopened config w lists journal disks s m) l)) (same_plain opening w l (meta.content w.tier.meta).notes k now)
      (central_cut opening config w lists journal disks s m l cut kept told rising empty (low l left) k)
