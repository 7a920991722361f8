use Rattle.std.proofs.Common.{◌∙◌}
use Rattle.view_refresh.proofs.Feeding.{fed_one, fed_some, on_err}
use Rattle.view_refresh.proofs.refreshing.feed_all.Goals as goal

pub loop-note-preserved : goal.loop-note-preserved
loop-note-preserved c =
    fed_one c.args.view.now c.loop-note.view c.feed.new.self c.args.notes c.loop-note.note-iterator.rest.items c.next.new.self.rest.items c.in-Some.note c.in-Some.ensures.steps.0 c.in_ok-feed.ensures.ok c.loop-note.invariant

pub returns-in_err-feed-clause-err : goal.returns-in_err-feed-clause-err
returns-in_err-feed-clause-err c =
    let had = fed_some c.args.view.now c.loop-note.view c.args.notes c.loop-note.note-iterator.rest.items c.loop-note.invariant in
    on_err c.from_residual.result (had.0, c.in_err-feed.ensures.err ∙ had.1)
