-- Where an id's entry is among the entries.
use Rattle.std.specs.Prelude.{◌≡◌, ℕ, suc, zero, true, if◌then◌else◌, List, [], ◌∷◌, Option, Some, None, option_map}
use Rattle.std.specs.BTreeMap.{BTreeMap, get}
use Rattle.std.specs.Ordering.{nat_cmp}
use Rattle.std.specs.Str.{bytes_eq}
use Rattle.tier_base.specs.Key.{IsId}
use Rattle.tier_base.specs.declared.names.SegmentId.{SegmentId}
use Rattle.segment_meta.specs.declared.note.Entry.{Entry}
use Rattle.remote_view.specs.Lookup.{id_number, is_gone}

-- the place of an id's entry
abbrev pub place_of : SegmentId → List Entry → Option ℕ
place_of id [] = None
place_of id (entry ∷ entries) = if bytes_eq entry.id.0 id.0 then Some zero else option_map suc (place_of id entries)

-- there are so many entries in front whose objects are gone
abbrev pub BeginsGone : ℕ → List Entry → Type 0
BeginsGone zero entries = Unit {0}
BeginsGone (suc n) [] = ⊥
BeginsGone (suc n) (entry ∷ entries) = (is_gone entry.state ≡ true) × BeginsGone n entries

-- the places of ids are right, each under its id's number, and so is a count of entries in front that are gone
pub record IsOrdered (places : BTreeMap ℕ ℕ) (gone : ℕ) (entries : List Entry) : Type 0 where
  pub right : (id : SegmentId) → IsId id → get nat_cmp places (id_number id) ≡ place_of id entries
  pub begins : BeginsGone gone entries
