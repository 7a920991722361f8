use Rattle.std.specs.Prelude.{None, refl}
use Rattle.tier_base.specs.Told.{removed}
use Rattle.object_store.proofs.Updated.{updated}
use Rattle.object_store.proofs.shelf.Shelf.remove_if.Goals as goal

pub returns-then-done : goal.returns-then-done
returns-then-done c = updated c.args.self.now.objects c.remove.new.self c.slot_of.result c.args.key.now c.args.done removed None c.slot_of.ensures c.if-done.true (λ o. refl) c.remove.ensures.updates
