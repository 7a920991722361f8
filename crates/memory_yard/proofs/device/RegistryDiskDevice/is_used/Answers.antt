use Rattle.std.proofs.Common.{subst}
use Rattle.disk_model.specs.Content.{Keeps}
use Rattle.disk_model.specs.Laws.{lawful_at}
use Rattle.disk_model.specs.contracts.memory_disk.MemoryDiskDisk.TheImpl as disk
use Rattle.memory_yard.proofs.Devices.{keeps_then}
use Rattle.memory_yard.proofs.device.RegistryDiskDevice.is_used.Goals as goal

pub returns-clause-keeps : goal.returns-clause-keeps
returns-clause-keeps c =
    subst (λ d. Keeps ((disk.ghosts).content d) ((disk.ghosts).content c.read_part.new.self)) c.self.view_is
    (keeps_then _ _ _ (lawful_at c.self.inside.disk.history.past) c.renew.ensures.content c.read_part.ensures.content)
