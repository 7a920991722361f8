use Rattle.std.proofs.Common.{drop}
use Rattle.remote_view.proofs.Reaching.{further_ends}
use Rattle.remote_view.proofs.epoch_ranges.EpochRanges.end_from.Goals as goal

pub returns : goal.returns
returns c =
    rw (← c.self.view_is) (further_ends (drop c.self.inside.gone c.self.inside.treads) c.args.at c.past.result c.end_from.result c.past.ensures.from
    (λ o low high. (let within = c.past.ensures.each o low high in c.self.invariant.all o within.0 within.1)) (rw (c.treads.ensures, ← c.self.view_is) at c.end_from.ensures))
