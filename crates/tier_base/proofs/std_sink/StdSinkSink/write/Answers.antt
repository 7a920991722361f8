use Rattle.tier_base.proofs.Known.{Keeps-nothing}
use Rattle.tier_base.proofs.std_sink.StdSinkSink.write.Goals as goal

pub returns-in-Ok-eq0-clause-through : goal.returns-in-Ok-eq0-clause-through
returns-in-Ok-eq0-clause-through g c = rw c.fault.ensures.kept (Keeps-nothing _ _ _ _ c.in-Ok-eq0.field-0-test c.in-Ok-eq0.ensures.bytes)
