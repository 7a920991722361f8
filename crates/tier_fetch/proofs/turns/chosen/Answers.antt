use Rattle.std.proofs.Common.{sym}
use Rattle.remote_find.proofs.Clipping.{piece_lies}
use Rattle.tier_fetch.proofs.turns.chosen.Goals as goal

pub returns-in-Some-clause-goes : goal.returns-in-Some-clause-goes
returns-in-Some-clause-goes c =
    (piece_lies c.args.view.now.entries c.args.line.now c.args.wanted.now.log_end c.args.wanted.now.offset c.in-Some.piece c.entries-entries.ensures.kept c.entries-entries.ensures.distinct
    c.entries-line.ensures.line (sym c.in-Some.ensures)).2.holds.1
