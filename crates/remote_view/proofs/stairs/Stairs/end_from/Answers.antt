use Rattle.std.proofs.Common.{◌≡◌, [], rules}
use Rattle.remote_view.specs.Storing.{stair_on}
use Rattle.remote_view.proofs.Reaching.{nothing_ends}
use Rattle.remote_view.proofs.stairs.Stairs.end_from.Goals as goal

pub returns-in-None : goal.returns-in-None
returns-in-None c =
    let none : stair_on c.args.self.now c.args.epoch ≡ [] = search rules in
    nothing_ends (stair_on c.args.self.now c.args.epoch) c.args.at none
