-- An id has one text, and so has a key.
use Rattle.std.proofs.Common.{◌≡◌, ◌∙◌, sym, ap, refl, inl, ℕ, ◌≤◌, ◌<◌, List, ◌++◌, Some, Result, Ok, IsOk, IfOk, ◌↔◌, length, take, drop, subst, All, arith, length-append}
use Rattle.std.proofs.lemmas.List.{take_at, drop_at}
use Rattle.uuid.specs.Text.{lower, parsed}
use Rattle.uuid.proofs.TextLemmas.{by_index_length}
use Rattle.uuid.proofs.RoundTrips.{parses_hyphenated, parse_gives}
use Rattle.tier_base.specs.declared.names.SegmentId.{SegmentId}
use Rattle.tier_base.specs.declared.object_key.ObjectKey.{ObjectKey}
use Rattle.tier_base.specs.Number.{number_text}
use Rattle.tier_base.specs.Key.{IsId, id_text, IsKey, key_text, part_text}
use Rattle.tier_base.proofs.Digits.{number-unique}

pub id-length : (id : SegmentId) → length (id_text id) ≡ 36
unfolding id_text
id-length id = by_index_length 36 _

-- the reader of all forms reads an id's text
pub id-parsed : {E : Type 0} (r : Result (List ℕ) E) (id : SegmentId) (text : List ℕ) → IsId id → id_text id ≡ text
    → (IsOk r ↔ ((u : List ℕ) × (parsed text ≡ Some u))) → IfOk r (λ u. Some u ≡ parsed text) → r ≡ Ok id.0
unfolding id_text
id-parsed r id text is e ok bytes = parse_gives r text id.0 ok bytes (parses_hyphenated lower id.0 (inl refl) is.size is.bytes ∙ ap parsed e)

-- what follows a key's partition
pub key-behind : (key : ObjectKey) (n : ℕ) (rest text : List ℕ) → IsKey key → key_text key ≡ text → n ≤ 65535 → text ≡ number_text 47 n rest
    → (key.partition.0 ≡ n) × (id_text key.id ++ part_text key.part ≡ rest)
unfolding key_text
key-behind key n rest text is e small read =
    number-unique key.partition.0 n 47 (id_text key.id ++ part_text key.part) rest (omega (arith, is.partition)) (omega (arith, small)) refl (e ∙ read)

-- the id precedes it
pub key-long : (key : ObjectKey) (rest : List ℕ) → id_text key.id ++ part_text key.part ≡ rest → 36 ≤ length rest
key-long key rest e = let long = ap length e in omega (arith, long, length-append (id_text key.id) (part_text key.part), id-length key.id)

pub key-id : (key : ObjectKey) (rest front : List ℕ) → id_text key.id ++ part_text key.part ≡ rest → front ≡ take 36 rest → id_text key.id ≡ front
key-id key rest front e f = sym (f ∙ (ap (take 36) (sym e) ∙ take_at (id_text key.id) (part_text key.part) 36 (id-length key.id)))

-- and the part's ending after it
pub key-part : (key : ObjectKey) (rest back : List ℕ) → id_text key.id ++ part_text key.part ≡ rest → back ≡ drop 36 rest → part_text key.part ≡ back
key-part key rest back e f = sym (f ∙ (ap (drop 36) (sym e) ∙ drop_at (id_text key.id) (part_text key.part) 36 (id-length key.id)))

pub same-id : {E : Type 0} {a b : List ℕ} → ◌≡◌ {A = Result (List ℕ) E} (Ok a) (Ok b) → a ≡ b
same-id e = cc (e)

pub is-id : (id bytes : List ℕ) → bytes ≡ id → (length bytes ≡ 16) × All (λ b. b < 256) bytes → IsId (record { 0 = id })
is-id id bytes is h = let facts : (length id ≡ 16) × All (λ b. b < 256) id = subst (λ (k : List ℕ). (length k ≡ 16) × All (λ b. b < 256) k) is h in record { size = facts.0; bytes = facts.1 }
