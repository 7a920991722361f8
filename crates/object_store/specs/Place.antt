-- Where the parts of a remote segment are in the store, what is read there, and under which keys its objects exist.
--
-- The one object of a packed segment has the parts one after another, in the order of `Part`. The custom metadata of
-- the segment's entry gives their layout, so where each is. Where it reports none, no part has a place.
use Rattle.std.specs.Prelude.{ℕ, ◌+◌, ◌-◌, min, nat_lt, if◌then◌else◌, Bool, true, false, List, []}
use Rattle.std.specs.Prelude.{◌∷◌, length, take, drop, Option, Some, None, option_map}
use Rattle.tier_base.specs.declared.names.PartitionId.{PartitionId}
use Rattle.tier_base.specs.declared.names.SegmentId.{SegmentId}
use Rattle.tier_base.specs.declared.plain.Part.{Part}
use Rattle.tier_base.specs.declared.plain.Part.TheVariants.{Log, Index, TimeIndex, Epochs, Pack}
use Rattle.tier_base.specs.declared.object_key.ObjectKey.{ObjectKey}
use Rattle.tier_base.specs.declared.layout.Layout.{Layout}
use Rattle.tier_base.specs.Layout.{layout_in}
use Rattle.object_store.specs.declared.placing.Spot.{Spot}

-- the key of one object
abbrev pub key_of : PartitionId → SegmentId → Part → ObjectKey
key_of partition id part = record { partition = partition; id = id; part = part }

-- the keys of all parts that are by themselves
abbrev pub own_keys : PartitionId → SegmentId → List ObjectKey
own_keys partition id =
    key_of partition id Log ∷ key_of partition id Index ∷ key_of partition id TimeIndex ∷ key_of partition id
    Epochs ∷ []

-- the keys of a segment's objects, by whether it is packed
abbrev pub keys_of : PartitionId → SegmentId → Bool → List ObjectKey
keys_of partition id false = own_keys partition id
keys_of partition id true = key_of partition id Pack ∷ []

-- all of an object
abbrev pub whole : ObjectKey → Spot
whole key = record { key = key; at = 0; len = None }

-- where a part begins in an object of this layout
abbrev pub at_in : Layout → Part → ℕ
at_in l Log = 0
at_in l Index = l.log
at_in l TimeIndex = l.log + l.index
at_in l Epochs = l.log + l.index + l.times
at_in l Pack = 0

-- how long it is
abbrev pub length_in : Layout → Part → ℕ
length_in l Log = l.log
length_in l Index = l.index
length_in l TimeIndex = l.times
length_in l Epochs = l.epochs
length_in l Pack = l.log + l.index + l.times + l.epochs

-- a part of an object of this layout
abbrev pub part_of : ObjectKey → Layout → Part → Spot
part_of key l part = record { key = key; at = at_in l part; len = Some (length_in l part) }

-- the layout that custom metadata gives
abbrev pub told_layout : Option (List ℕ) → Option Layout
told_layout None = None
told_layout (Some bytes) = layout_in bytes

-- where a part exists, by whether its segment is packed, and by the custom metadata of the segment's entry
abbrev pub spot_of : PartitionId → SegmentId → Bool → Option (List ℕ) → Part → Option Spot
spot_of partition id false custom part = Some (whole (key_of partition id part))
spot_of partition id true custom part = option_map (λ l. part_of (key_of partition id Pack) l part) (told_layout custom)

-- at most so many of these bytes, or all
abbrev pub capped : Option ℕ → List ℕ → List ℕ
capped None bytes = bytes
capped (Some n) bytes = take n bytes

-- the bytes of a part in its object
abbrev pub all_of : Spot → List ℕ → List ℕ
all_of spot object = capped spot.len (drop spot.at object)

-- of these bytes, at most so many from a place in the part on
abbrev pub some_of : Spot → ℕ → ℕ → List ℕ → List ℕ
some_of spot from most object = take most (drop from (all_of spot object))

-- where bytes are lacking, of which fewer are from a place on than are owed: after those
abbrev pub short_at : ℕ → Option ℕ → ℕ → Option ℕ
short_at at None got = None
short_at at (Some owed) got = if nat_lt got owed then Some (at + got) else None

-- where bytes of a part are lacking in its object, which has these of it
abbrev pub short_of : Spot → List ℕ → Option ℕ
short_of spot bytes = short_at spot.at spot.len (length bytes)

-- where some of it are lacking, at most so many from a place in the part on, of which the object has these
abbrev pub short_in : Spot → ℕ → ℕ → List ℕ → Option ℕ
short_in spot from most bytes =
    short_at (spot.at + from) (option_map (λ len. min most (len - from)) spot.len) (length bytes)
