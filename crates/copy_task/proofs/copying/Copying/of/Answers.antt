use Rattle.std.proofs.Common.{refl, false}
use Rattle.copy_task.specs.Copying.{copied_of}
use Rattle.copy_task.proofs.Splitting.{is_copied}
use Rattle.copy_task.proofs.copying.Copying.of.Goals as goal

pub invariant_of-copying : goal.invariant_of-copying
invariant_of-copying c =
    (is_copied (copied_of c.args.id c.args.partition false c.args.segment c.in_ok-copy.field-0 c.args.interval) refl c.bytes-whole.ensures.whole (λ e. absurd (cc (e))), tt)

pub invariant_of-copying-else-packed : goal.invariant_of-copying-else-packed
invariant_of-copying-else-packed c =
    (is_copied (copied_of c.args.id c.args.partition false c.args.segment c.in_ok-copy.field-0 c.args.interval) refl c.bytes-whole.ensures.whole (λ e. absurd (cc (e))), tt)
