-- Steps of an open partition.
use Rattle.std.proofs.Common.{◌≡◌, ◌∙◌, ◌⊎◌, inl, inr, sym, ap, ◌≤◌, length, arith}
use Rattle.std.specs.Prelude.{IsTrue}
use Rattle.tier_base.specs.Device.{Lasts}
use Rattle.disk_model.specs.Content.{Content}
use Rattle.disk_model.specs.declared.disk.Disk.{Ghosts as DiskGhosts}
use Rattle.object_store.specs.declared.store.Store.{Ghosts as StoreGhosts}
use Rattle.meta_log.specs.declared.log.MetaLog.{Ghosts as MetaGhosts}
use Rattle.registry.specs.View.{view_of, registry_of}
use Rattle.registry.specs.declared.registry.Registry.{Registry}
use Rattle.registry_disk.specs.Keeping.{KeepsFile, KeepsOneOf, Replaces, Refrains}
use Rattle.plain_log.specs.declared.state.State.{State}
use Rattle.partition_world.specs.Later.{IsLater}
use Rattle.partition_world.specs.Whole.{Whole}
use Rattle.partition_world.proofs.LaterLaw.{later_same, later_more}
use Rattle.cold_start.specs.FileLaws.{FileLaws}
use Rattle.cold_start.specs.Running.{Running}
use Rattle.cold_start.specs.Stands.{LeavesOneOf}
use Rattle.cold_start.specs.Stepping.{SameDevices, Ends, HaltsSteps}
use Rattle.cold_start.specs.declared.refusal.ColdRefusal.{ColdRefusal}

-- registries of one view
pub one_registry : (laws : FileLaws) (old new : Registry) → view_of new ≡ view_of old → new ≡ old
one_registry laws old new e = sym (laws.back new) ∙ (ap registry_of e ∙ laws.back old)

-- the file of one of two registries
pub one_of_two : (old new : Content) (r s : Registry) → KeepsFile old r → Replaces s old new → KeepsOneOf new r s
one_of_two old new r s kept rep c at =
    let was = rep.images c at in
    elim was.2 [ inl same ↦ inl (same ∙ kept was.0 was.1) | inr file ↦ inr file ]

pub dry_keeps : (old new : Content) (r : Registry) → KeepsFile old r → Refrains old new → KeepsFile new r
dry_keeps old new r kept dry c at = kept c (dry.images c at)

module _ {D S M : Type 0} where
  -- a step that changed the registry asked no device
  pub other_devices : (v w : Whole D S M) → (w.partition_state.registry ≡ v.partition_state.registry) ⊎ (SameDevices v w × (length w.partition_state.registry.replicas ≡ length v.partition_state.registry.replicas))
      → (view_of w.partition_state.registry ≡ view_of v.partition_state.registry → ⊥) → SameDevices v w
  other_devices v w (inl same) other = absurd (other (ap view_of same))
  other_devices v w (inr same) other = same.0

  -- and one has as many replicas
  pub as_many : (v w : Whole D S M) → (w.partition_state.registry ≡ v.partition_state.registry) ⊎ (SameDevices v w × (length w.partition_state.registry.replicas ≡ length v.partition_state.registry.replicas))
      → length w.partition_state.registry.replicas ≡ length v.partition_state.registry.replicas
  as_many v w (inl same) = ap (λ (r : Registry). length r.replicas) same
  as_many v w (inr same) = same.1

  -- one for each of 1 to 8 brokers
  pub some_few : (v w : Whole D S M) → length w.partition_state.registry.replicas ≡ length v.partition_state.registry.replicas → 1 ≤ length v.partition_state.registry.replicas → length v.partition_state.registry.replicas ≤ 8
      → (1 ≤ length w.partition_state.registry.replicas) × (length w.partition_state.registry.replicas ≤ 8)
  some_few v w many some few = (omega (arith, many, some), omega (arith, many, few))

module _ {D S M : Type 0} (disk : DiskGhosts D) (store : StoreGhosts S) (meta : MetaGhosts M) where
  -- a step whose registry couldn't be kept
  pub halts_now : (t t' : Running D S M) (why : ColdRefusal) → Ends disk t.reg t.world t' why
      → (IsTrue (disk.content t'.reg).is_observable → (opening : State) → LeavesOneOf disk store meta opening t.world t'.world t'.reg) → HaltsSteps disk store meta t t' why
  halts_now t t' why e either = inr (t.world, later_same disk store meta t.world, e, either)

  -- some steps before
  pub halts_more : (t u t' : Running D S M) (why : ColdRefusal) → IsLater disk store meta t.world u.world → Lasts (disk.control t.reg) (disk.control u.reg) → HaltsSteps disk store meta u t' why → HaltsSteps disk store meta t t' why
  halts_more t u t' why later lasts (inl k) = inl k
  halts_more t u t' why later lasts (inr (w, after, e, either)) = inr (
    w,
    later_more disk store meta t.world u.world w later after,
    record {
      ended = e.ended;
      devices = e.devices;
      file = e.file;
      dry = e.dry;
      cause = λ is. (let more = lasts.never_falls in let rose = e.cause is in omega (arith, more, rose));
      only = e.only;
    },
    either,
  )
