use Rattle.std.proofs.Common.{◌≡◌, [], rules}
use Rattle.remote_view.specs.Storing.{stair_on}
use Rattle.remote_view.proofs.Lifted.{none_lifted}
use Rattle.remote_view.proofs.stairs.Stairs.lifted.Goals as goal

pub returns-in-None : goal.returns-in-None
returns-in-None c =
    let none : stair_on c.args.self.now c.args.epoch ≡ [] = search rules in
    none_lifted c.args.id.now (stair_on c.args.self.now c.args.epoch) c.new.result none c.new.ensures
