-- An object has one name, and what is unfinished has one name before its ending.
use Rattle.std.proofs.Common.{◌≡◌, ◌≢◌, ◌∙◌, sym, ap, refl, ℕ, ◌≤◌, ◌-◌, List, ◌++◌, length, take, drop, arith, length-append}
use Rattle.std.proofs.lemmas.List.{take_at, drop_at}
use Rattle.tier_base.specs.declared.names.SegmentId.{SegmentId}
use Rattle.tier_base.specs.declared.plain.Part.{Part}
use Rattle.tier_base.specs.Key.{id_text, part_text}
use Rattle.tier_base.proofs.Keys.{id-length}
use Rattle.folder_yard.specs.Name.{unfinished}
use Rattle.folder_yard.specs.Unfinished.{IsUnfinishedName}

-- the id comes first
pub object-long : (id : SegmentId) (part : Part) (text : List ℕ) → id_text id ++ part_text part ≡ text → 36 ≤ length text
object-long id part text e = let long = ap length e in omega (arith, long, length-append (id_text id) (part_text part), id-length id)

pub object-id : (id : SegmentId) (part : Part) (text front : List ℕ) → id_text id ++ part_text part ≡ text → front ≡ take 36 text → id_text id ≡ front
object-id id part text front e f = sym (f ∙ (ap (take 36) (sym e) ∙ take_at (id_text id) (part_text part) 36 (id-length id)))

-- and the part's ending after it
pub object-part : (id : SegmentId) (part : Part) (text back : List ℕ) → id_text id ++ part_text part ≡ text → back ≡ drop 36 text → part_text part ≡ back
object-part id part text back e f = sym (f ∙ (ap (drop 36) (sym e) ∙ drop_at (id_text id) (part_text part) 36 (id-length id)))

-- what is unfinished has the ending
pub unfinished-long : (text : List ℕ) → IsUnfinishedName text → 4 ≤ length text
unfinished-long text u = let long = ap length u.text_is in omega (arith, long, length-append u.name unfinished)

name-length : (text : List ℕ) → (u : IsUnfinishedName text) → length text - 4 ≡ length u.name
name-length text u = let long = ap length u.text_is in omega (arith, long, length-append u.name unfinished)

pub unfinished-name : (text front : List ℕ) → (u : IsUnfinishedName text) → front ≡ take (length text - 4) text → u.name ≡ front
unfinished-name text front u f =
    sym (f ∙ (ap (λ (n : ℕ). take n text) (name-length text u) ∙ (ap (take (length u.name)) u.text_is ∙ take_at u.name unfinished (length u.name) refl)))

pub unfinished-end : (text back : List ℕ) → (u : IsUnfinishedName text) → back ≡ drop (length text - 4) text → back ≡ unfinished
unfinished-end text back u f =
    f ∙ (ap (λ (n : ℕ). drop n text) (name-length text u) ∙ (ap (drop (length u.name)) u.text_is ∙ drop_at u.name unfinished (length u.name) refl))
