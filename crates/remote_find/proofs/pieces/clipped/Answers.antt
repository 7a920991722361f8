use Rattle.std.proofs.Common.{sym}
use Rattle.remote_find.proofs.Clipping.{clipped_none, clipped_no_own, clipped_both}
use Rattle.remote_find.proofs.pieces.clipped.Goals as goal

pub returns-in_default : goal.returns-in_default
returns-in_default c = clipped_none c.args.line.now c.args.log_end c.args.epoch c.args.entry.now (rw c.entries.ensures.entries at c.in_default.ensures)

pub returns-in_default-span_of : goal.returns-in_default-span_of
returns-in_default-span_of c =
    clipped_no_own c.args.line.now c.args.log_end c.args.epoch c.args.entry.now c.in-Some.span (rw c.entries.ensures.entries at c.in-Some.ensures) (rw c.entries-2.ensures.entries at c.in_default-span_of.ensures)

pub returns : goal.returns
returns c =
    rw (c.max.ensures, c.min.ensures)
    (sym (clipped_both c.args.line.now c.args.log_end c.args.epoch c.args.entry.now c.in-Some.span c.in-Some-span_of.own (rw c.entries.ensures.entries at c.in-Some.ensures) (rw c.entries-2.ensures.entries at c.in-Some-span_of.ensures)))
