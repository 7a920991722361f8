use Rattle.std.proofs.Common.{sym, arith}
use Rattle.remote_find.proofs.Epochs.{lies_somewhere, own_holds, pieces_in_epoch, stands_in_epoch}
use Rattle.remote_find.proofs.reaching.end_in_epoch.Goals as goal

pub returns-in_default-span_of-clause-none : goal.returns-in_default-span_of-clause-none
returns-in_default-span_of-clause-none c =
    absurd (lies_somewhere c.args.line.now c.args.log_end c.in-Some.epoch c.args.at c.entries-line.ensures.line c.if-at-log_end.false (sym c.in-Some.ensures)
    (rw c.entries.ensures.entries at (sym c.in_default-span_of.ensures)))

pub returns-clause-from : goal.returns-clause-from
returns-clause-from c =
    let own = own_holds c.args.line.now c.args.log_end c.in-Some.epoch c.args.at c.in-Some-span_of.own c.entries-line.ensures.line c.if-at-log_end.false (sym c.in-Some.ensures)
    (rw c.entries.ensures.entries at (sym c.in-Some-span_of.ensures)) in
    omega (arith, own.1, c.reach.ensures.from, c.min.ensures, c.min-2.ensures, c.if-at-log_end.false)

pub returns-clause-each : goal.returns-clause-each
returns-clause-each c o low high =
    pieces_in_epoch c.args.view.now.entries c.args.line.now c.args.log_end c.in-Some.epoch c.args.at c.reach.result o c.in-Some-span_of.own c.entries-entries.ensures.kept c.entries-entries.ensures.distinct
    c.entries-line.ensures.line c.if-at-log_end.false (sym c.in-Some.ensures) (rw c.entries.ensures.entries at (sym c.in-Some-span_of.ensures)) c.reach.ensures low
    (omega (arith, high, c.min.ensures, c.min-2.ensures)) (omega (arith, high, c.min.ensures, c.min-2.ensures)) (omega (arith, high, c.min.ensures, c.min-2.ensures))

pub returns-clause-none : goal.returns-clause-none
returns-clause-none c same =
    let own = own_holds c.args.line.now c.args.log_end c.in-Some.epoch c.args.at c.in-Some-span_of.own c.entries-line.ensures.line c.if-at-log_end.false (sym c.in-Some.ensures)
    (rw c.entries.ensures.entries at (sym c.in-Some-span_of.ensures)) in
    stands_in_epoch c.args.view.now.entries c.args.line.now c.args.log_end c.in-Some.epoch c.args.at c.reach.result (sym c.in-Some.ensures) c.reach.ensures
    (omega (arith, own.1, same, c.reach.ensures.from, c.min.ensures, c.min-2.ensures, c.if-at-log_end.false))
