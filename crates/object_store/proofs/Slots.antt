-- Slots and keys represent each other, and the order of slots distinguishes them.
use Rattle.std.specs.Prelude.{◌≡◌, ◌≢◌, ℕ, true, false, List, refl}
use Rattle.std.proofs.Common.{sym, ◌∙◌, ap}
use Rattle.std.specs.Ordering.{nat_cmp, ordering_then}
use Rattle.std.specs.declared.cmp.Ordering.{Ordering}
use Rattle.std.specs.declared.cmp.Ordering.TheVariants.{Equal}
use Rattle.std.specs.Cmp.{Equal-is, tied_itself}
use Rattle.std.specs.Cmp.Lexicographic.{slice_cmp}
use Rattle.std.specs.BTreeMap.{is_at}
use Rattle.std.proofs.lemmas.Bool.{false_from_ne_true}
use Rattle.std.proofs.lemmas.Map.Lookups.{exact_unsigned, exact_bytes, exact_pairs}
use Rattle.tier_base.specs.declared.plain.Part.{Part}
use Rattle.tier_base.specs.declared.plain.Part.TheVariants as part
use Rattle.tier_base.specs.declared.object_key.ObjectKey.{ObjectKey}
use Rattle.object_store.specs.declared.slot.PartOrder.{PartOrder}
use Rattle.object_store.specs.declared.slot.PartOrder.TheVariants.{First, Second, Third, Fourth, Fifth}
use Rattle.object_store.specs.declared.slot.Slot.{Slot}
use Rattle.object_store.specs.contracts.slot.PartOrderOrd.TheImpl as rank_ord
use Rattle.object_store.specs.contracts.slot.SlotOrd.TheImpl.Laws as slot_laws
use Rattle.object_store.specs.Shelf.{slot_cmp, rank_of, part_at, slot_of, key_at}

abbrev rank_cmp : PartOrder → PartOrder → Ordering
rank_cmp = (rank_ord.ghosts).cmp

rank_exact : (a b : PartOrder) → rank_cmp a b ≡ Equal → a ≡ b
rank_exact First First h = refl
rank_exact Second Second h = refl
rank_exact Third Third h = refl
rank_exact Fourth Fourth h = refl
rank_exact Fifth Fifth h = refl
rank_exact a b h = cc

-- the fields of a slot
abbrev fields : Slot → ℕ × (List ℕ × PartOrder)
fields s = (s.partition.0, (s.id.0, s.rank))

pub slot_exact : (a b : Slot) → slot_cmp a b ≡ Equal → a ≡ b
slot_exact a b h =
    let same : fields a ≡ fields b = exact_pairs nat_cmp (λ (x y : List ℕ × PartOrder). ordering_then (slice_cmp nat_cmp x.0 y.0) (rank_cmp x.1 y.1)) exact_unsigned (exact_pairs (slice_cmp nat_cmp) rank_cmp exact_bytes rank_exact) (fields a) (fields b) h in
    ap (λ (f : ℕ × (List ℕ × PartOrder)). record { partition = record { 0 = f.0 }; id = record { 0 = f.1.0 }; rank = f.1.1 }) same

-- a slot is equal to itself
pub slot_itself : (s : Slot) → slot_cmp s s ≡ Equal
slot_itself s = tied_itself slot_laws.total-law s

part_back : (p : Part) → part_at (rank_of p) ≡ p
part_back part.Log = refl
part_back part.Index = refl
part_back part.TimeIndex = refl
part_back part.Epochs = refl
part_back part.Pack = refl

rank_back : (r : PartOrder) → rank_of (part_at r) ≡ r
rank_back First = refl
rank_back Second = refl
rank_back Third = refl
rank_back Fourth = refl
rank_back Fifth = refl

pub key_back : (k : ObjectKey) → key_at (slot_of k) ≡ k
key_back k = ap (λ (p : Part). record { partition = k.partition; id = k.id; part = p }) (part_back k.part)

pub slot_back : (s : Slot) → slot_of (key_at s) ≡ s
slot_back s = ap (λ (r : PartOrder). record { partition = s.partition; id = s.id; rank = r }) (rank_back s.rank)

-- a slot that a key is found at is the key's
pub found_at : (k : ObjectKey) (s : Slot) → is_at (slot_cmp (slot_of k)) s ≡ true → k ≡ key_at s
found_at k s is = sym (key_back k) ∙ ap key_at (slot_exact (slot_of k) s ((Equal-is (slot_cmp (slot_of k) s)).0 is))

pub at_itself : (s : Slot) → is_at (slot_cmp s) s ≡ true
at_itself s = (Equal-is (slot_cmp s s)).1 (slot_itself s)

-- another key's slot is another one
pub apart : (key k : ObjectKey) → k ≢ key → is_at (slot_cmp (slot_of key)) (slot_of k) ≡ false
apart key k ne = false_from_ne_true (is_at (slot_cmp (slot_of key)) (slot_of k)) (λ is. ne (sym (found_at key (slot_of k) is ∙ key_back k)))
