-- Each step keeps the central fact with whatever metadata events a power cut may leave.
use Rattle.std.proofs.Common.{◌∙◌, inl, refl, ℕ, List}
use Rattle.disk_model.specs.declared.disk.Disk.{Ghosts as DiskGhosts}
use Rattle.object_store.specs.declared.store.Store.{Ghosts as StoreGhosts}
use Rattle.meta_log.specs.declared.log.MetaLog.{Ghosts as MetaGhosts}
use Rattle.meta_log.specs.Content.{LeavesTold}
use Rattle.tier_base.specs.declared.names.PartitionId.{PartitionId}
use Rattle.plain_log.specs.declared.command.ActorList.{ActorList}
use Rattle.plain_log.specs.declared.command.Config.{Config}
use Rattle.plain_log.specs.Fresh.{fresh}
use Rattle.plain_log.specs.Orders.{AreListsFor, IsConfig}
use Rattle.plain_log.specs.declared.state.State.{State}
use Rattle.laws_partition.specs.declared.actor_progress.Stepped.{Stepped}
use Rattle.partition_world.specs.Central.{IsCentral}
use Rattle.partition_world.specs.Left.{resolved, whole_with, IsCentralLeft, KeepsCentralLeft}
use Rattle.partition_world.specs.declared.actor_state.Outcome.{Outcome}
use Rattle.partition_world.specs.Fresh.{IsFresh, IsSeenEmpty}
use Rattle.partition_world.specs.Turn.{IsTurn, Steps}
use Rattle.partition_world.specs.Whole.{Whole}
use Rattle.partition_world.proofs.CentralLaw.{step_central, turn_central}
use Rattle.partition_world.proofs.FreshLaw.{fresh_is_central}
use Rattle.partition_world.proofs.ResolvingTurns.{steps_with, turns}

module _ {D S M : Type 0} (disk : DiskGhosts D) (store : StoreGhosts S) (meta : MetaGhosts M) where
  pub steps_keep_left : (w : Whole D S M) (a : ℕ) (stepped : Stepped) (w' : Whole D S M) → Steps disk store meta w a stepped w' → KeepsCentralLeft disk store meta w w'
  steps_keep_left w a stepped w' s = λ opening c l' left.
      let now = c (meta.content w.tier.meta).notes (inl refl) in
      let r = steps_with disk store meta w a stepped w' s now.shows_tier.meta_tells l' left in
      step_central disk store (resolved meta) (whole_with w r.0) a stepped (whole_with w' l') r.2 opening (c r.0 r.1)

  -- what is reported is left
  pub left_is_central : (opening : State) (w : Whole D S M) → IsCentralLeft disk store meta opening w → IsCentral disk store meta opening w
  left_is_central opening w c =
      let k = c (meta.content w.tier.meta).notes (inl refl) in
      let t = k.shows_tier in
      record {
        partition = k.partition;
        shows = k.shows;
        central = k.central;
        scene = k.scene;
        shows_tier = record { partition = t.partition; store_tells = t.store_tells; objects = t.objects; meta_tells = t.meta_tells; notes = t.notes; tier_views = t.tier_views; desk = t.desk };
        tier = k.tier;
        recorded = k.recorded;
        dated = k.dated;
        few = k.few;
      }

  pub turn_keeps_left : (w : Whole D S M) (a : ℕ) (outcome : Outcome) (w' : Whole D S M) → IsTurn disk store meta w a outcome w' → KeepsCentralLeft disk store meta w w'
  turn_keeps_left w a outcome w' s = λ opening c l' left.
      let now = c (meta.content w.tier.meta).notes (inl refl) in
      let r = turns disk store meta w a outcome w' s now.shows_tier.meta_tells l' left in
      turn_central disk store (resolved meta) opening (whole_with w r.0) a outcome (whole_with w' l') r.2 (c r.0 r.1)

  pub fresh_is_central_left : (partition : PartitionId) (config : Config) (lists : List ActorList) (disks : List D) (s : S) (m : M) (w : Whole D S M) → IsConfig config → AreListsFor config lists
      → IsFresh disk store meta partition config lists disks s m w → IsSeenEmpty disk store meta w → LeavesTold (meta.content w.tier.meta) → IsCentralLeft disk store meta (fresh config) w
  fresh_is_central_left partition config lists disks s m w is fit f e told = λ l left.
      fresh_is_central disk store (resolved meta) partition config lists disks s (m, l) (whole_with w l) is fit
      (record {
        partition_is = f.partition_is;
        config_is = f.config_is;
        lists_are = f.lists_are;
        count = f.count;
        partition_state = f.partition_state;
        laid = f.laid;
        tier = record {
          objects = f.tier.objects;
          store_armed = f.tier.store_armed;
          notes = record { is_observable = f.tier.notes.is_observable; notes = refl; left = λ x at. at };
          meta_armed = f.tier.meta_armed;
        };
        broker_tiers = f.broker_tiers;
        desk = f.desk;
        journal = f.journal;
      })
      (record { logs = e.logs; store_tells = e.store_tells; objects = e.objects; meta_tells = e.meta_tells; notes = λ t. told l left ∙ e.notes t })
