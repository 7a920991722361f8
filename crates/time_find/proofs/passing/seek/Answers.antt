use Rattle.std.proofs.Common.{rules, ◌≡◌, sym, ◌<◌, true, arith}
use Rattle.remote_view.specs.Fold.{entry_of}
use Rattle.time_find.specs.Passing.{top_in, is_early, Stays, Over}
use Rattle.time_find.proofs.Over.{ends_past}
use Rattle.time_find.proofs.passing.seek.Goals as goal

pub loop-at-init : goal.loop-at-init
loop-at-init c = record { passes = Stays c.args.cursor; up = omega arith }

pub returns-then-not-is_early-clause-goes : goal.returns-then-not-is_early-clause-goes
returns-then-not-is_early-clause-goes c = (
  c.loop-at.invariant.up,
  ends_past c.args.view.now.entries c.args.line.now c.args.asked.now.log_end c.loop-at.at c.in-Some.piece c.entries-entries.ensures.kept c.entries-entries.ensures.distinct
      c.entries-line.ensures.line (sym c.in-Some.ensures),
)

pub loop-at-smaller : goal.loop-at-smaller
loop-at-smaller c =
    let past = ends_past c.args.view.now.entries c.args.line.now c.args.asked.now.log_end c.loop-at.at c.in-Some.piece c.entries-entries.ensures.kept c.entries-entries.ensures.distinct
    c.entries-line.ensures.line (sym c.in-Some.ensures) in
    omega (arith, past, c.loop-at-test.true)

pub loop-at-preserved : goal.loop-at-preserved
loop-at-preserved c =
    let past = ends_past c.args.view.now.entries c.args.line.now c.args.asked.now.log_end c.loop-at.at c.in-Some.piece c.entries-entries.ensures.kept c.entries-entries.ensures.distinct
    c.entries-line.ensures.line (sym c.in-Some.ensures) in
    let early : is_early c.args.asked.now.ts (entry_of c.in-Some.piece.id c.args.view.now.entries) ≡ true = search rules in
    let below : c.loop-at.at < top_in c.args.asked.now = omega (arith, c.min-top.ensures, c.loop-at-test.true) in
    record {
      passes = Over c.args.cursor c.loop-at.at c.in-Some.piece c.loop-at.invariant.passes below (sym c.in-Some.ensures) early;
      up = omega (arith, past, c.loop-at.invariant.up);
    }
