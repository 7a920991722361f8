use Rattle.std.proofs.Common.{◌≡◌, sym, true, ap}
use Rattle.std.specs.Prelude.{IfSome}
use Rattle.copy_task.specs.Copying.{copied_of}
use Rattle.copy_task.proofs.Splitting.{packed_copied, packed_bundle}
use Rattle.copy_task.proofs.copying.Copying.pack.Goals as goal

pub invariant_of-self : goal.invariant_of-self
invariant_of-self c =
    let copy = copied_of c.self.inside.id c.self.inside.partition c.self.inside.packed c.self.inside.segment c.self.inside.line c.self.inside.interval in
    (packed_copied copy true c.self.invariant.0 (λ e. (rw (← c.self.view_is) at c.requires)), packed_bundle copy true c.self.inside.bundle c.self.invariant.1)
