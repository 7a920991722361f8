use Rattle.std.proofs.Common.{sym}
use Rattle.remote_view.proofs.Keeping.{span_ordered, laid_in, laid_nowhere, if_ok}
use Rattle.remote_view.proofs.stepping.lay_in.Goals as goal

pub lay-requires-clause-ordered : goal.lay-requires-clause-ordered
lay-requires-clause-ordered c = span_ordered c.args.entry.now c.args.epoch c.in-Some.span c.requires.kept (rw c.entries.ensures.entries at (sym c.in-Some.ensures))

pub returns-in-Some : goal.returns-in-Some
returns-in-Some c =
    if_ok c.lay.result c.lay.ensures (λ laid h. laid_in c.args.known.now c.args.entry.now c.args.epoch c.in-Some.span c.args.stair laid c.requires.kept (rw c.entries.ensures.entries at (sym c.in-Some.ensures)) h)

pub returns-in-None : goal.returns-in-None
returns-in-None c = laid_nowhere c.args.known.now c.args.entry.now c.args.epoch c.args.stair c.requires.kept (rw c.entries.ensures.entries at (sym c.in-None.ensures)) c.requires.rises
