use Rattle.std.proofs.Common.{◌∙◌, ap, ℕ, drop}
use Rattle.view_refresh.proofs.Feeding.{stopped_advances}
use Rattle.view_refresh.proofs.refreshing.refresh.Goals as goal

pub returns-in-Err-clause-view : goal.returns-in-Err-clause-view
returns-in-Err-clause-view g c =
    stopped_advances (g.M.MetaLog.content c.args.meta.now) c.args.view.now c.feed_all.new.view c.in_ok-notes.notes
    c.in_ok-notes.ensures.rules
    (λ t. c.in_ok-notes.ensures.notes t ∙ ap (λ (n : ℕ). drop n (g.M.MetaLog.content c.args.meta.now).notes) c.seen.ensures)
    c.in-Err.ensures.err
