use Rattle.std.proofs.Common.{◌≡◌, ◌∙◌, ap, sym}
use Rattle.std.proofs.lemmas.Bool.{false≢true}
use Rattle.memory_yard.specs.Shelf.{IsPartitionOf}
use Rattle.memory_yard.proofs.Finds.{adds_one, adds_none}
use Rattle.memory_yard.proofs.slot.Slot.find.Goals as goal

pub returns-in_ok-insert-clause-found : goal.returns-in_ok-insert-clause-found
returns-in_ok-insert-clause-found g c =
    let e : c.partition.result ≡ g.K.DevicePlace.partition_of c.args.self.now.place = c.partition.ensures ∙ ap g.K.DevicePlace.partition_of c.is_used.ensures.keeps.place in
    adds_one (IsPartitionOf g.K.DevicePlace.partition_of g.T.Device.used c.args.self.now) c.partition.result _ _
    (c.in_ok-is_used.ensures.used.0 c.if-branch.true, e) (λ p q. q.1 ∙ sym e) c.in_ok-insert.ensures.ok

pub returns-else-branch-clause-found : goal.returns-else-branch-clause-found
returns-else-branch-clause-found g c =
    adds_none (IsPartitionOf g.K.DevicePlace.partition_of g.T.Device.used c.args.self.now) _
    (λ p q. false≢true (sym c.if-branch.false ∙ c.in_ok-is_used.ensures.used.1 q.0))
