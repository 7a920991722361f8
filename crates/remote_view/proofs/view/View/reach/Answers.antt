use Rattle.remote_view.specs.Storing.{stair_on}
use Rattle.remote_view.proofs.Reaching.{stair_reaches}
use Rattle.remote_view.proofs.view.View.reach.Goals as goal

pub end_from-requires : goal.end_from-requires
end_from-requires c = (c.self.invariant.0.right c.args.epoch).rises

pub returns : goal.returns
returns c =
    rw (← c.self.view_is) (stair_reaches c.self.inside.known c.args.epoch c.args.at c.end_from.result (stair_on c.self.inside.stairs c.args.epoch) (c.self.invariant.0.right c.args.epoch) c.end_from.ensures)
