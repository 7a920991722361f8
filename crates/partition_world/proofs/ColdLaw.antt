-- A world that is reopened has the central fact for each plain state that its devices represent.
use Rattle.std.proofs.Common.{◌≡◌, ◌∙◌, inl, inr, sym, ap, subst, refl, ℕ, zero, suc, ◌+◌, ◌<◌, List, [], ◌∷◌, length, Some, None, slice_get, arith}
use Rattle.std.specs.Prelude.{replicate, map, ◌^◌}
use mathlib.Core.Path.{fun_ext}
use Rattle.tier_base.specs.declared.names.PartitionId.{PartitionId}
use Rattle.disk_model.specs.declared.disk.Disk.{Ghosts as DiskGhosts}
use Rattle.disk_model.specs.Content.{Content}
use Rattle.object_store.specs.declared.store.Store.{Ghosts as StoreGhosts}
use Rattle.segment_meta.specs.declared.note.Note.{Note}
use Rattle.meta_log.specs.declared.log.MetaLog.{Ghosts as MetaGhosts}
use Rattle.registry.specs.declared.registry.Registry.{Registry}
use Rattle.remote_view.specs.Fold.{fold}
use Rattle.plain_log.specs.declared.command.ActorList.{ActorList}
use Rattle.plain_log.specs.declared.command.Config.{Config}
use Rattle.plain_log.specs.declared.command.Order.{Order}
use Rattle.plain_log.specs.declared.journal.JournalEntry.{JournalEntry}
use Rattle.plain_log.specs.declared.state.Actor.{Actor}
use Rattle.plain_log.specs.declared.state.State.{State}
use Rattle.plain_log.specs.Orders.{AreListsFor, AreRising}
use Rattle.plain_log.specs.Runs.{replay}
use Rattle.plain_log.specs.State.{actor_at}
use Rattle.broker_log.specs.Seen.{LogSeen}
use Rattle.laws_partition.specs.declared.actor_progress.ActorProgress.{ActorProgress as ActorIsSeen}
use Rattle.laws_partition.specs.Central.{ProgressMatches, recorded_at}
use Rattle.laws_partition.specs.Fresh.{fresh_actor_state as seen_fresh}
use Rattle.laws_partition.proofs.FreshSound.{length_replicate}
use Rattle.laws_tier_turns.specs.BrokerTiers.{tier_views_of, BrokerTierModel as BrokerTierIsSeen, fresh_broker_tier as fresh_seen}
use Rattle.partition_commands.specs.Cold.{ShowDisks, node_back, partition_back}
use Rattle.partition_commands.proofs.ColdDisks.{cold_shown}
use Rattle.tier_safe.specs.Scene.{Scene, TierTask, Free, Copies, Expires, Rebuilds, Seeks}
use Rattle.tier_safe.specs.Safe.{TierSafe}
use Rattle.tier_safe.specs.Views.{IsIdUsed}
use Rattle.partition_world.specs.declared.actor_state.ActorState.{ActorState}
use Rattle.partition_world.specs.declared.tier.BrokerTierState.{BrokerTierState}
use Rattle.partition_world.specs.Central.{IsCentral, broker_tiers_seen, desk_of, notes_left}
use Rattle.partition_world.specs.Cold.{scene_back, IsReopened, StandCold, AreCold}
use Rattle.partition_world.specs.Fresh.{fresh_actor_state}
use Rattle.plain_log.specs.declared.command.Pace.{Pace}
use Rattle.partition_world.specs.Laws.{IsSafeRunFrom}
use Rattle.partition_world.specs.Reaches.{Reaches}
use Rattle.partition_world.proofs.LeftLaw.{left_is_central}
use Rattle.partition_world.proofs.ReachesLaw.{reaches_later}
use Rattle.partition_world.specs.Left.{IsCentralLeft, resolved, whole_with}
use Rattle.partition_world.specs.ActorStates.{desk_seen}
use Rattle.partition_world.specs.Whole.{Whole}
use Rattle.partition_world.proofs.FreshLaw.{far_fewer, broker_tiers_fresh, all_free, fresh_recorded, fresh_dated}
use Rattle.partition_world.proofs.WorldFresh.{all_fresh}

-- what is in a list of one thing alone is that
replicated : {A : Type 0} (n : ℕ) (x : A) (i : ℕ) (y : A) → slice_get (replicate n x) i ≡ Some y → x ≡ y
replicated zero x i y e = absurd cc
replicated (suc n) x zero y e = cc
replicated (suc n) x (suc i) y e = replicated n x i y e

-- nothing is on the desk
abbrev IsFree : List TierTask → Type 0
IsFree desk = (a : ℕ) (in_progress : TierTask) → slice_get desk a ≡ Some in_progress → in_progress ≡ Free

is_free : (n : ℕ) → IsFree (replicate n Free)
is_free n a in_progress at = sym (replicated n Free a in_progress at)

-- a desk that is free may have as many places as it will
free_tier : (c : Scene) (p : State) (desk : List TierTask) → IsFree desk → TierSafe c p → TierSafe (record c { desk = desk }) p
free_tier c p desk free t = record {
  notes = record { right = t.notes.right; ids = λ a copy next at. absurd (let none = free a (Copies copy next) at in cc) };
  views = t.views;
  partition = record {
    told = t.partition.told;
    stored = t.partition.stored;
    copied = λ a copy next at. absurd (let none = free a (Copies copy next) at in cc);
    deleted = λ a expired_segment next at. absurd (let none = free a (Expires expired_segment next) at in cc);
  };
  ids = λ id partition b i attempt tier_view used is at. t.ids id partition b i attempt tier_view (still id used) is at;
  finished = t.finished;
  named = t.named;
  copies = record {
    each = λ a copy next at. absurd (let none = free a (Copies copy next) at in cc);
    apart = λ a b copy other next then at to same. absurd (let none = free a (Copies copy next) at in cc);
  };
  tier_views = t.tier_views;
  deletions = record { ended = t.deletions.ended; each = λ a expired_segment next at. absurd (let none = free a (Expires expired_segment next) at in cc) };
  covered = t.covered;
  rebuilds = λ a rebuild at. absurd (let none = free a (Rebuilds rebuild) at in cc);
  fetches = λ a sought tier_view x at there to. absurd (let none = free a (Seeks sought) at in cc);
  caches = t.caches;
}
  where
    still : (id : _) → IsIdUsed (fold c.notes) desk id → IsIdUsed (fold c.notes) c.desk id
    still id (inl named) = inl named
    still id (inr used) = absurd (let none = free used.0 (Copies used.1 used.2) used.3 in cc)

-- nothing is recorded of an actor's state at the front
none_recorded : (orders : List Order) → recorded_at orders seen_fresh ≡ None
none_recorded [] = refl
none_recorded (order ∷ orders) = refl

actor_state_stands : (p : State) (l : ActorList) (actor_state : ActorIsSeen) → p.actors ≡ [] → seen_fresh ≡ actor_state → ProgressMatches p l actor_state
actor_state_stands p l actor_state none is =
    subst (ProgressMatches p l) is (record { actor = ap (λ (actors : List Actor). actor_at actors l.actor.0) none ∙ rw (none_recorded l.orders) refl; snapshot = λ g snapshot. absurd cc })

-- as many logs are seen as there are disks
logs_count : {D : Type 0} (content : D → Content) (disks : List D) (logs : List LogSeen) → ShowDisks content disks logs → length disks ≡ length logs
logs_count content [] [] s = refl
logs_count content [] (k ∷ logs) s = absurd s
logs_count content (d ∷ disks) [] s = absurd s
logs_count content (d ∷ disks) (k ∷ logs) s = ap suc (logs_count content disks logs s.1)

module _ {D S M : Type 0} (disk : DiskGhosts D) (store : StoreGhosts S) (meta : MetaGhosts M) where
  module _ (partition : PartitionId) (config : Config) (lists : List ActorList) (registry : Registry) (disks : List D) (s : S) (m : M) (w : Whole D S M) (p : State) (fit : AreListsFor config lists)
      (f : IsReopened disk store meta partition config lists registry disks s m w) (l : List Note) (k : StandCold disk store meta partition registry disks s m p l)
      (low : length l + notes_left lists (replicate (length lists) fresh_actor_state) < 2 ^ 64) where
    broker_tiers_are : tier_views_of (map node_back k.logs) (replicate (length k.logs) fresh_seen) ≡ tier_views_of (map node_back k.logs) (broker_tiers_seen w.tier.broker_tiers)
    broker_tiers_are =
        let count : config.brokers ≡ length k.logs = sym f.count ∙ logs_count disk.content disks k.logs k.shows in
        sym (ap (λ (l : List BrokerTierIsSeen). tier_views_of (map node_back k.logs) l) (ap (λ (l : List BrokerTierState). broker_tiers_seen l) f.broker_tiers ∙ broker_tiers_fresh config.brokers ∙ ap (λ (n : ℕ). replicate n fresh_seen) count))

    desk_is : replicate (length lists) Free ≡ desk_of w.lists w.desk
    desk_is = all_free lists ∙ (ap (λ (d : List ActorState). desk_of lists d) (sym f.desk) ∙ ap (λ (k : List ActorList). desk_of k w.desk) (sym f.lists_are))

    desk_fresh : desk_seen w.desk ≡ replicate (length lists) seen_fresh
    desk_fresh = ap (λ (d : List ActorState). desk_seen d) f.desk ∙ all_fresh (length lists)

    left_over : length l + notes_left w.lists w.desk < 2 ^ 64
    left_over =
        let one = ap (λ (d : List ActorState). notes_left w.lists d) f.desk in
        let two = ap (λ (k : List ActorList). notes_left k (replicate (length lists) fresh_actor_state)) f.lists_are in
        omega (arith, low, one, two)

    pub central_anew : IsCentral disk store (resolved meta) p (whole_with w l)
    central_anew = record {
      partition = partition_back registry k.logs;
      shows = cold_shown disk.content disk.control config.settings registry disks w.partition_state k.logs f.partition_state k.shows;
      central = record {
        plain = p;
        replays = ap (λ (j : List JournalEntry). replay w.lists p j) f.journal;
        safe = k.safe;
        stands = record {
          partition_state = record { registry = k.registry_is; brokers = k.brokers };
          lines = k.lines;
          desk = λ place list actor_state at there.
              actor_state_stands p list actor_state k.actors (replicated (length lists) seen_fresh place actor_state (ap (λ (d : List ActorIsSeen). slice_get d place) (sym desk_fresh) ∙ there));
          rising = subst AreRising (sym f.lists_are) fit.rising;
          actor_states = ap (λ (d : List ActorIsSeen). length d) desk_fresh ∙ (length_replicate (length lists) seen_fresh ∙ ap (λ (k : List ActorList). length k) (sym f.lists_are));
        };
      };
      scene = record (scene_back partition (store.content s).objects l k.logs) { desk = replicate (length lists) Free };
      shows_tier = record {
        partition = sym f.partition_is;
        store_tells = f.tier.objects.is_observable ∙ k.store_tells;
        objects = sym (fun_ext f.tier.objects.objects);
        meta_tells = f.tier.notes.is_observable ∙ k.meta_tells;
        notes = refl;
        tier_views = broker_tiers_are;
        desk = desk_is;
      };
      tier = free_tier (scene_back partition (store.content s).objects l k.logs) p (replicate (length lists) Free) (is_free (length lists)) k.tier;
      recorded = fresh_recorded disk store meta (length lists) w.desk f.desk;
      dated = fresh_dated disk store meta p w.lists (length lists) w.desk f.desk;
      few = left_over;
    }

  pub reopens_central : (partition : PartitionId) (config : Config) (lists : List ActorList) (registry : Registry) (disks : List D) (s : S) (m : M) (w : Whole D S M) (p : State) → AreListsFor config lists
      → IsReopened disk store meta partition config lists registry disks s m w → AreCold disk store meta partition registry disks s m p → IsCentralLeft disk store meta p w
  reopens_central partition config lists registry disks s m w p fit f cold = λ l left.
      let before = f.tier.notes.left l left in
      central_anew partition config lists registry disks s m w p fit f l (cold.stand l before) (let many = cold.few l before in let more = far_fewer config lists fit in omega (arith, many, more))

  -- and what a schedule reaches from it is a run from there
  pub reopened_runs : (partition : PartitionId) (config : Config) (lists : List ActorList) (registry : Registry) (disks : List D) (s : S) (m : M) (w : Whole D S M) (schedule : List Pace) (w' : Whole D S M) (p : State)
      → AreListsFor config lists → IsReopened disk store meta partition config lists registry disks s m w → AreCold disk store meta partition registry disks s m p
      → Reaches disk store meta w schedule w' → IsSafeRunFrom p lists w'.journal.items
  reopened_runs partition config lists registry disks s m w schedule w' p fit f cold r =
      let later = reaches_later disk store meta w schedule w' r in
      let k = left_is_central disk store meta p w' (later.left p (reopens_central partition config lists registry disks s m w p fit f cold)) in
      record {
        last = k.central.plain;
        replays = subst (λ (l : List ActorList). replay l p w'.journal.items ≡ Some k.central.plain) (later.lists ∙ f.lists_are) k.central.replays;
        safe = k.central.safe;
      }
