use Rattle.std.proofs.Common.{◌∙◌, length, ap, sym, arith, refl}
use Rattle.std.specs.List.{slice_get}
use Rattle.std.proofs.lemmas.Option.{slice_get_read, slice_get_past}
use Rattle.local_log.proofs.Halving.{first_behind}
use Rattle.local_log.proofs.piece.first_past.Goals as goal

pub returns-then-ended-closed : goal.returns-then-ended-closed
returns-then-ended-closed c =
    let closed = c.args.closed.now in
    let x = c.index-closed-ended.result in
    sym (slice_get_read closed (length closed) c.count_ended-ended.result x refl c.if-ended-closed.true c.index-closed-ended.is)
    ∙ ap (slice_get closed) c.count_ended-ended.ensures
    ∙ first_behind c.args.offset closed

pub returns-else-ended-closed : goal.returns-else-ended-closed
returns-else-ended-closed c =
    let closed = c.args.closed.now in
    sym (slice_get_past closed c.count_ended-ended.result (omega (arith, c.if-ended-closed.false)))
    ∙ ap (slice_get closed) c.count_ended-ended.ensures
    ∙ first_behind c.args.offset closed
