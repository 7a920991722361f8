use Rattle.std.proofs.Common.{◌≡◌, ◌++◌, map}
use Rattle.std.specs.BTreeMap.{keys}
use Rattle.object_store.specs.Shelf.{key_at}
use Rattle.object_store.proofs.shelf.Shelf.in_order.Given as goal

-- the keys so far and those of the slots that are left
abbrev pub invariant-loop-slot : goal.invariant-loop-slot
invariant-loop-slot l = l.keys ++ map key_at l.slot-iterator ≡ map key_at (keys l.self.objects)
