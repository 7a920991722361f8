use Rattle.std.proofs.Common.{sym, subst}
use Rattle.disk_model.specs.Laws.{lawful_at}
use Rattle.disk_model.specs.contracts.memory_disk.MemoryDiskDisk.TheImpl as disk
use Rattle.device_yard.specs.YardContent.{HandsDisk}
use Rattle.memory_yard.proofs.Devices.{keeps_then, empty_kept}
use Rattle.memory_yard.proofs.handing.hand_disk.Goals as goal

pub returns-in-Some-clause-content : goal.returns-in-Some-clause-content
returns-in-Some-clause-content c =
    subst (λ o. HandsDisk (disk.ghosts).content o ((disk.ghosts).content c.fused.result)) (sym c.in-Some.is)
    (keeps_then _ _ _ (lawful_at c.in-Some.disk.history.past) c.renew.ensures.content c.fused.ensures.content)

pub returns-in-None-clause-content : goal.returns-in-None-clause-content
returns-in-None-clause-content c =
    subst (λ o. HandsDisk (disk.ghosts).content o ((disk.ghosts).content c.fused-in-None.result)) (sym c.in-None.is)
    (empty_kept _ _ c.new-in-None-2.ensures.content c.fused-in-None.ensures.content)
