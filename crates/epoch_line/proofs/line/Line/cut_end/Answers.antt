use Rattle.epoch_line.proofs.Rising.{IsLine-take}
use Rattle.epoch_line.proofs.line.Line.cut_end.Goals as goal

pub invariant_of-self : goal.invariant_of-self
invariant_of-self c = rw (c.truncate.ensures.items) (IsLine-take c.count_below-kept.result c.self.inside.pairs.items c.self.invariant)
