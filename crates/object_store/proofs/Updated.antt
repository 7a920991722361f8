-- A map with one entry changed, as the objects by key.
use Rattle.std.specs.Prelude.{◌≡◌, ℕ, Bool, true, List, Option}
use Rattle.std.proofs.Common.{sym, ◌∙◌, ap, subst}
use Rattle.std.specs.BTreeMap.{BTreeMap, Updates}
use Rattle.tier_base.specs.declared.object_key.ObjectKey.{ObjectKey}
use Rattle.object_store.specs.declared.slot.Slot.{Slot}
use Rattle.object_store.specs.Content.{MadeAt, made_if}
use Rattle.object_store.specs.Shelf.{slot_cmp, slot_of, objects_on}
use Rattle.object_store.proofs.Slots.{apart}

-- a slot's entry is what is made of it
pub updated : (m n : BTreeMap Slot (List ℕ)) (slot : Slot) (key : ObjectKey) (done : Bool) (made : Option (List ℕ) → Option (List ℕ)) (w : Option (List ℕ)) → slot ≡ slot_of key → done ≡ true → ((o : Option (List ℕ)) → made o ≡ w) → Updates slot_cmp m n slot w
    → MadeAt key (made_if done made) (objects_on (record { objects = m })) (objects_on (record { objects = n }))
updated m n slot key done made w is was makes u =
    let v : Updates slot_cmp m n (slot_of key) w = subst (λ (s : Slot). Updates slot_cmp m n s w) is u in
    let o : Option (List ℕ) = objects_on (record { objects = m }) key in
    record {
      there = v.1 ∙ sym (makes o) ∙ sym (ap (λ (d : Bool). made_if d made o) was);
      others = λ k ne. v.2 (slot_of k) (apart key k ne);
    }
