-- The parts of a segment that is stored whole are read where its entry places them, packed or not.
use Rattle.std.proofs.Common.{◌≡◌, ◌∙◌, ap, refl, ℕ, Bool, true, false, List, Option, Some}
use Rattle.std.specs.Prelude.{option_map}
use Rattle.tier_base.specs.declared.names.PartitionId.{PartitionId}
use Rattle.tier_base.specs.declared.names.SegmentId.{SegmentId}
use Rattle.tier_base.specs.declared.layout.Layout.{Layout}
use Rattle.tier_base.specs.declared.plain.Part.{Part}
use Rattle.tier_base.specs.declared.plain.Part.TheVariants.{Log, Index, TimeIndex, Epochs, Pack}
use Rattle.tier_base.proofs.Layouts.{layout_again}
use Rattle.segment_meta.specs.declared.note.Entry.{Entry}
use Rattle.segment_bundle.specs.Parts.{Parts, parts_of, part_in, layout_of}
use Rattle.segment_bundle.proofs.Packing.{pack_fits}
use Rattle.object_store.specs.Content.{Objects}
use Rattle.object_store.specs.Place.{key_of, keys_of, whole, spot_of, told_layout, part_of, all_of}
use Rattle.object_store.specs.declared.placing.Spot.{Spot}
use Rattle.object_store.proofs.Parts.{AreAll, parts_stand}
use Rattle.plain_log.specs.declared.state.Path.{Path}
use Rattle.tier_safe.specs.Lineage.{HavePartsStored, TellsParts, IsStoredWhole}

-- one of the parts that are read
abbrev pub IsRead : Part → Type 0
IsRead Pack = ⊥
IsRead part = Unit {0}

-- an object is at a spot, and these are all bytes of the part there
pub record IsPlaced (objects : Objects) (spot : Spot) (bytes : List ℕ) : Type 0 where
  pub object : List ℕ
  pub there : objects spot.key ≡ Some object
  pub all : all_of spot object ≡ bytes
  pub whole : AreAll spot.len bytes

-- a part has a spot, under the key of a part or of the pack, and is placed there
pub record HasSpot (objects : Objects) (partition : PartitionId) (id : SegmentId) (packed : Bool) (custom : Option (List ℕ)) (part : Part) (bytes : List ℕ) : Type 0 where
  pub spot : Spot
  pub is : spot_of partition id packed custom part ≡ Some spot
  pub home : Part
  pub home_is : spot.key ≡ key_of partition id home
  pub placed : IsPlaced objects spot bytes

-- a part that is by itself
alone : (objects : Objects) (partition : PartitionId) (id : SegmentId) (custom : Option (List ℕ)) (part : Part) (bytes : List ℕ) → objects (key_of partition id part) ≡ Some bytes
    → HasSpot objects partition id false custom part bytes
alone objects partition id custom part bytes there = record {
  spot = whole (key_of partition id part);
  is = refl;
  home = part;
  home_is = refl;
  placed = record { object = bytes; there = there; all = refl; whole = tt };
}

own_placed : (objects : Objects) (partition : PartitionId) (id : SegmentId) (custom : Option (List ℕ)) (parts : Parts) (part : Part) → IsRead part
    → HavePartsStored objects (keys_of partition id false) parts → HasSpot objects partition id false custom part (part_in parts part)
own_placed objects partition id custom parts Log read h = alone objects partition id custom Log parts.log (h 0 (key_of partition id Log) refl)
own_placed objects partition id custom parts Index read h = alone objects partition id custom Index parts.index (h 1 (key_of partition id Index) refl)
own_placed objects partition id custom parts TimeIndex read h = alone objects partition id custom TimeIndex parts.times (h 2 (key_of partition id TimeIndex) refl)
own_placed objects partition id custom parts Epochs read h = alone objects partition id custom Epochs parts.epochs (h 3 (key_of partition id Epochs) refl)
own_placed objects partition id custom parts Pack read h = absurd read

-- a part of a packed segment
pack_placed : (objects : Objects) (partition : PartitionId) (id : SegmentId) (custom : Option (List ℕ)) (parts : Parts) (part : Part) → IsRead part
    → HavePartsStored objects (keys_of partition id true) parts → TellsParts custom parts → HasSpot objects partition id true custom part (part_in parts part)
pack_placed objects partition id custom parts part read h t = record {
  spot = part_of (key_of partition id Pack) (layout_of parts) part;
  is = ap (option_map (λ (l : Layout). part_of (key_of partition id Pack) l part)) (ap told_layout t.is ∙ layout_again (layout_of parts) (pack_fits parts t.fits));
  home = Pack;
  home_is = refl;
  placed = record { object = part_in parts Pack; there = h 0 (key_of partition id Pack) refl; all = stands part read; whole = fills part read };
}
  where
    stands : (part : Part) → IsRead part → all_of (part_of (key_of partition id Pack) (layout_of parts) part) (part_in parts Pack) ≡ part_in parts part
    stands Log r = parts_stand (key_of partition id Pack) parts.log parts.index parts.times parts.epochs Log
    stands Index r = parts_stand (key_of partition id Pack) parts.log parts.index parts.times parts.epochs Index
    stands TimeIndex r = parts_stand (key_of partition id Pack) parts.log parts.index parts.times parts.epochs TimeIndex
    stands Epochs r = parts_stand (key_of partition id Pack) parts.log parts.index parts.times parts.epochs Epochs
    stands Pack r = absurd r

    fills : (part : Part) → IsRead part → AreAll (part_of (key_of partition id Pack) (layout_of parts) part).len (part_in parts part)
    fills Log r = refl
    fills Index r = refl
    fills TimeIndex r = refl
    fills Epochs r = refl
    fills Pack r = absurd r

-- each part of such a segment
pub stored_whole_placed : (objects : Objects) (paths : List Path) (entry : Entry) (part : Part) → IsRead part → (h : IsStoredWhole objects paths entry)
    → HasSpot objects entry.partition entry.id entry.packed entry.custom part (part_in (parts_of h.batches h.line h.interval) part)
stored_whole_placed objects paths entry part read h = by entry.packed h.stand h.custom
  where
    parts : Parts
    parts = parts_of h.batches h.line h.interval

    by : (packed : Bool) → HavePartsStored objects (keys_of entry.partition entry.id packed) parts → (packed ≡ true → TellsParts entry.custom parts)
        → HasSpot objects entry.partition entry.id packed entry.custom part (part_in parts part)
    by false h t = own_placed objects entry.partition entry.id entry.custom parts part read h
    by true h t = pack_placed objects entry.partition entry.id entry.custom parts part read h (t refl)
