use Rattle.std.specs.Prelude.{refl}
use Rattle.memory_yard.proofs.Devices.{some_named}
use Rattle.memory_yard.proofs.device.MemoryStoreDevice.is_used.Goals as goal

pub returns-in-Ok-clause-used : goal.returns-in-Ok-clause-used
returns-in-Ok-clause-used c = some_named _ _ _ c.is_empty.result c.renew.ensures.content.objects (c.in-Ok.ensures.keys refl) c.is_empty.ensures
