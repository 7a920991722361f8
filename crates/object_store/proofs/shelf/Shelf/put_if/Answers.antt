use Rattle.std.proofs.Common.{Some, sym, ap}
use Rattle.tier_base.specs.Told.{replaced}
use Rattle.object_store.proofs.Updated.{updated}
use Rattle.object_store.proofs.shelf.Shelf.put_if.Goals as goal

pub returns-in_ok-insert-clause-ok : goal.returns-in_ok-insert-clause-ok
returns-in_ok-insert-clause-ok c = updated c.args.self.now.objects c.insert.new.self c.slot_of.result c.args.key.now c.args.done (replaced c.args.bytes.now) (Some c.in_ok-shared.shared) c.slot_of.ensures c.if-done.true (λ o. ap Some (sym c.in_ok-shared.ensures.cases)) c.in_ok-insert.ensures.updates
