-- Devices that are as a power cut leaves them.
use Rattle.std.proofs.Common.{inr, sym, subst}
use Rattle.std.specs.Prelude.{IsTrue}
use Rattle.disk_model.specs.declared.disk.Disk.{Ghosts as DiskGhosts}
use Rattle.meta_log.specs.declared.log.MetaLog.{Ghosts as MetaGhosts}
use Rattle.cold_start.specs.Cuts.{CrashedDiskIsCut, KeptDiskIsCut, KeptLogIsCut, ReopenedLogIsCut}

module _ {D : Type 0} (disk : DiskGhosts D) where
  pub crashed_cut : CrashedDiskIsCut disk
  crashed_cut old new h = record { is_observable = λ told. subst IsTrue (sym h.is_observable) told; images = h.fewer }

  pub kept_disk_cut : KeptDiskIsCut disk
  kept_disk_cut old new h = record { is_observable = λ told. subst IsTrue (sym h.is_observable) told; images = h.images }

  pub reopened_cut : ReopenedLogIsCut disk
  reopened_cut old cut new h same left = record {
    is_observable = λ told. subst IsTrue (sym same) (h.is_observable told);
    left = λ l at. let k = left l at in inr (k.0, h.images k.0 k.1, k.2);
  }

module _ {M : Type 0} (meta : MetaGhosts M) where
  pub kept_log_cut : KeptLogIsCut meta
  kept_log_cut old new h = record { is_observable = λ told. subst IsTrue (sym h.is_observable) told; left = h.left }
