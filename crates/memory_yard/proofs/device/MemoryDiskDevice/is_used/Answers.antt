use Rattle.disk_model.specs.Laws.{lawful_at}
use Rattle.std.specs.Prelude.{refl}
use Rattle.memory_yard.proofs.Devices.{keeps_then, some_named}
use Rattle.memory_yard.proofs.device.MemoryDiskDevice.is_used.Goals as goal

pub returns-in-Ok-clause-keeps : goal.returns-in-Ok-clause-keeps
returns-in-Ok-clause-keeps c = keeps_then _ _ _ (lawful_at c.args.self.now.history.past) c.renew.ensures.content c.list.ensures.content

pub returns-in-Err-NoMemory-clause-keeps : goal.returns-in-Err-NoMemory-clause-keeps
returns-in-Err-NoMemory-clause-keeps c = keeps_then _ _ _ (lawful_at c.args.self.now.history.past) c.renew.ensures.content c.list.ensures.content

pub returns-in-Ok-clause-used : goal.returns-in-Ok-clause-used
returns-in-Ok-clause-used c = some_named _ _ _ c.is_empty.result c.renew.ensures.content.files (c.in-Ok.ensures.names refl) c.is_empty.ensures
