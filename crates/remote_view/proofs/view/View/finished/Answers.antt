use Rattle.std.proofs.Common.{◌∙◌}
use Rattle.remote_view.proofs.Finding.{finished_kept, by_stair}
use Rattle.remote_view.proofs.view.View.finished.Goals as goal

pub returns-in-Some-clause-best : goal.returns-in-Some-clause-best
returns-in-Some-clause-best c =
    rw (← c.self.view_is) (c.get.ensures ∙ by_stair c.args.epoch c.args.offset c.self.inside.known c.stair.result.now c.in-Some.id c.self.invariant.0.distinct (rw (← c.self.view_is) at c.stair.ensures) c.in-Some.ensures)

pub returns-in-Some-clause-kept : goal.returns-in-Some-clause-kept
returns-in-Some-clause-kept c =
    finished_kept c.args.epoch c.args.offset c.self.inside.known c.get.result c.self.invariant.0.kept
    (c.get.ensures ∙ by_stair c.args.epoch c.args.offset c.self.inside.known c.stair.result.now c.in-Some.id c.self.invariant.0.distinct (rw (← c.self.view_is) at c.stair.ensures) c.in-Some.ensures)
