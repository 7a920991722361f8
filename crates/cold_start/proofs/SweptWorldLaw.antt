-- A sweep between two runs.
use Rattle.std.proofs.Common.{◌≡◌, ◌∙◌, sym, ap, subst, ◌+◌, ◌<◌, List, length, slice_get, refl}
use Rattle.std.specs.Prelude.{◌^◌, replicate}
use Rattle.disk_model.specs.declared.disk.Disk.{Ghosts as DiskGhosts}
use Rattle.object_store.specs.Content.{Objects}
use Rattle.object_store.specs.declared.store.Store.{Ghosts as StoreGhosts}
use Rattle.segment_meta.specs.declared.note.Note.{Note}
use Rattle.meta_log.specs.declared.log.MetaLog.{Ghosts as MetaGhosts}
use Rattle.plain_log.specs.declared.state.State.{State}
use Rattle.tier_safe.specs.Scene.{TierTask}
use Rattle.tier_sweep.specs.Sweeping.{SweptTier, tier_with, IsUnderSweep}
use Rattle.laws_audit.specs.Laws.{tier_in, IsIdle, scene_with}
use Rattle.laws_audit.proofs.Sweeping.{sweep_keeps}
use Rattle.partition_world.specs.Central.{IsCentral, desk_of, notes_left}
use Rattle.partition_world.specs.Fresh.{fresh_actor_state}
use Rattle.partition_world.specs.Left.{resolved, whole_with}
use Rattle.partition_world.specs.Whole.{Whole}
use Rattle.cold_start.specs.SweptWorld.{with_devices, SweepKeepsCentral, KeptStoreIsCut}
use Rattle.cold_start.proofs.ColdWorldLaw.{all_free, is_free}

module _ {D S M : Type 0} (disk : DiskGhosts D) (store : StoreGhosts S) (meta : MetaGhosts M) where
  module _ (opening : State) (w : Whole D S M) (s : S) (m : M) (before l : List Note) (k : IsCentral disk store (resolved meta) opening (whole_with w before))
      (unused : w.desk ≡ replicate (length w.lists) fresh_actor_state)
      (store_same : (store.content s).is_observable ≡ (store.content w.tier.store).is_observable) (meta_same : (meta.content m).is_observable ≡ (meta.content w.tier.meta).is_observable)
      (under : IsUnderSweep (tier_with (store.content w.tier.store) before) (tier_with (store.content s) l)) (low : length l + notes_left w.lists w.desk < 2 ^ 64) where
    idle : IsIdle k.scene
    idle a tier_task at = is_free (length w.lists) a tier_task
        (ap (λ (d : List TierTask). slice_get d a) (all_free w.lists ∙ ap (desk_of w.lists) (sym unused) ∙ sym k.shows_tier.desk) ∙ at)

    tier_is : tier_with (store.content w.tier.store) before ≡ tier_in k.scene
    tier_is =
        ap (λ (o : Objects). (let t : SweptTier = record { objects = o; notes = before } in t)) (sym k.shows_tier.objects)
        ∙ ap (λ (ns : List Note). (let t : SweptTier = record { objects = k.scene.objects; notes = ns } in t)) (sym k.shows_tier.notes)

    pub central_swept : IsCentral disk store (resolved meta) opening (whole_with (with_devices w s m) l)
    central_swept = record {
      partition = k.partition;
      shows = k.shows;
      central = k.central;
      scene = scene_with k.scene (tier_with (store.content s) l);
      shows_tier = record {
        partition = k.shows_tier.partition;
        store_tells = store_same ∙ k.shows_tier.store_tells;
        objects = refl;
        meta_tells = meta_same ∙ k.shows_tier.meta_tells;
        notes = refl;
        tier_views = k.shows_tier.tier_views;
        desk = k.shows_tier.desk;
      };
      tier = sweep_keeps k.scene k.central.plain (tier_with (store.content s) l) idle k.tier (subst (λ (t : SweptTier). IsUnderSweep t (tier_with (store.content s) l)) tier_is under);
      recorded = k.recorded;
      dated = k.dated;
      few = low;
    }

  pub sweep_central : SweepKeepsCentral disk store meta
  sweep_central opening w s m c unused store_same meta_same under low l left =
      let u = under l left in
      central_swept opening w s m u.0 l (c u.0 u.1) unused store_same meta_same u.2 (low l left)

pub kept_cut : KeptStoreIsCut
kept_cut old new k = record { is_observable = λ t. k.is_observable ∙ t; objects = λ i key. k.objects key i }
