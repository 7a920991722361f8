-- The objects of a store in memory, in the order of their slots: partition, id, and then part.
use Rattle.std.specs.Prelude.{true, List, map}
use Rattle.std.specs.BTreeMap.{get, keys}
use Rattle.std.specs.declared.cmp.Ordering.{Ordering}
use Rattle.tier_base.specs.declared.plain.Part.{Part}
use Rattle.tier_base.specs.declared.plain.Part.TheVariants as part
use Rattle.tier_base.specs.declared.object_key.ObjectKey.{ObjectKey}
use Rattle.object_store.specs.declared.slot.PartOrder.{PartOrder}
use Rattle.object_store.specs.declared.slot.PartOrder.TheVariants.{First, Second, Third, Fourth, Fifth}
use Rattle.object_store.specs.declared.slot.Slot.{Slot}
use Rattle.object_store.specs.declared.shelf.Shelf.{Shelf}
use Rattle.object_store.specs.contracts.slot.SlotOrd.TheImpl as slot_ord
use Rattle.object_store.specs.Content.{Objects, Content}

-- the order of slots
abbrev pub slot_cmp : Slot → Slot → Ordering
slot_cmp = (slot_ord.ghosts).cmp

-- a part's place among the parts
abbrev pub rank_of : Part → PartOrder
rank_of part.Log = First
rank_of part.Index = Second
rank_of part.TimeIndex = Third
rank_of part.Epochs = Fourth
rank_of part.Pack = Fifth

-- the part at a place
abbrev pub part_at : PartOrder → Part
part_at First = part.Log
part_at Second = part.Index
part_at Third = part.TimeIndex
part_at Fourth = part.Epochs
part_at Fifth = part.Pack

-- the slot of a key
abbrev pub slot_of : ObjectKey → Slot
slot_of key = record { partition = key.partition; id = key.id; rank = rank_of key.part }

-- the key of a slot
abbrev pub key_at : Slot → ObjectKey
key_at slot = record { partition = slot.partition; id = slot.id; part = part_at slot.rank }

-- what is there under a key
abbrev pub objects_on : Shelf → Objects
objects_on shelf key = get slot_cmp shelf.objects (slot_of key)

-- the keys in order
abbrev pub keys_on : Shelf → List ObjectKey
keys_on shelf = map key_at (keys shelf.objects)

-- a store in memory reports what is on its shelf
abbrev pub content_of : Shelf → Content
content_of shelf = record { is_observable = true; objects = objects_on shelf }
