use Rattle.object_store.proofs.Listed.{listed}
use Rattle.object_store.proofs.shelf.Shelf.keys.Goals as goal

pub returns : goal.returns
returns c = listed c.in_order.result c.args.self.now c.in_order.ensures.keys c.in_order.ensures.sorted
