-- A world that was made over devices without content is seen empty.
use Rattle.std.proofs.Common.{◌∙◌, subst, sym, List}
use Rattle.std.specs.Prelude.{IsTrue}
use Rattle.disk_model.specs.declared.disk.Disk.{Ghosts as DiskGhosts}
use Rattle.object_store.specs.declared.store.Store.{Ghosts as StoreGhosts}
use Rattle.meta_log.specs.declared.log.MetaLog.{Ghosts as MetaGhosts}
use Rattle.plain_log.specs.declared.command.ActorList.{ActorList}
use Rattle.plain_log.specs.declared.command.Config.{Config}
use Rattle.tier_base.specs.declared.names.PartitionId.{PartitionId}
use Rattle.partition_commands.specs.Fresh.{DisksTell, AllSeen}
use Rattle.partition_world.specs.Fresh.{IsFresh, IsSeenEmpty}
use Rattle.partition_world.specs.Whole.{Whole}
use Rattle.run_memory.specs.Devices.{AreBlank}

module _ {D S M : Type 0} (disk : DiskGhosts D) (store : StoreGhosts S) (meta : MetaGhosts M) where
  pub seen_empty : (partition : PartitionId) (config : Config) (lists : List ActorList) (disks : List D) (s : S) (m : M) (w : Whole D S M)
      → IsFresh disk store meta partition config lists disks s m w → AreBlank disk store meta disks s m
      → (DisksTell disk.content disks → AllSeen disk.content w.partition_state.nodes) → IsSeenEmpty disk store meta w
  seen_empty partition config lists disks s m w fresh blank told = record {
    logs = told blank.disks_tell;
    store_tells = subst IsTrue (sym fresh.tier.objects.is_observable) blank.objects.is_observable;
    objects = λ t key. fresh.tier.objects.objects key ∙ blank.objects.objects key;
    meta_tells = subst IsTrue (sym fresh.tier.notes.is_observable) blank.meta_tells;
    notes = λ t. fresh.tier.notes.notes ∙ blank.notes;
  }
