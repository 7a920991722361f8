-- The fields of an id can be read off its bytes.
use Rattle.std.proofs.Common.{◌≡◌, ◌∙◌, sym, ap, refl, ℕ, ◌<◌, ◌^◌, List, ◌++◌, length, take, drop}
use Rattle.std.specs.Int.{w16, w32, w64, to_be_bytes, from_be_bytes}
use Rattle.std.proofs.lemmas.List.{take_at, drop_at}
use Rattle.std.proofs.lemmas.Nat.{from_be_bytes-to_be_bytes_2, from_be_bytes-to_be_bytes_4, from_be_bytes-to_be_bytes_8}
use Rattle.tier_base.specs.Key.{id_bytes, IdsDiffer}

-- two lists whose fronts are of one length are equal by parts
fronts : (n : ℕ) (a b c d : List ℕ) → length a ≡ n → length c ≡ n → a ++ b ≡ c ++ d → (a ≡ c) × (b ≡ d)
fronts n a b c d l m e = (sym (take_at a b n l) ∙ (ap (take n) e ∙ take_at c d n m), sym (drop_at a b n l) ∙ (ap (drop n) e ∙ drop_at c d n m))

same_2 : (n m : ℕ) → n < 2 ^ 16 → m < 2 ^ 16 → to_be_bytes w16 n ≡ to_be_bytes w16 m → n ≡ m
same_2 n m h k e = sym (from_be_bytes-to_be_bytes_2 n h) ∙ (ap (from_be_bytes w16) e ∙ from_be_bytes-to_be_bytes_2 m k)

same_4 : (n m : ℕ) → n < 2 ^ 32 → m < 2 ^ 32 → to_be_bytes w32 n ≡ to_be_bytes w32 m → n ≡ m
same_4 n m h k e = sym (from_be_bytes-to_be_bytes_4 n h) ∙ (ap (from_be_bytes w32) e ∙ from_be_bytes-to_be_bytes_4 m k)

same_8 : (n m : ℕ) → n < 2 ^ 64 → m < 2 ^ 64 → to_be_bytes w64 n ≡ to_be_bytes w64 m → n ≡ m
same_8 n m h k e = sym (from_be_bytes-to_be_bytes_8 n h) ∙ (ap (from_be_bytes w64) e ∙ from_be_bytes-to_be_bytes_8 m k)

pub ids_differ : IdsDiffer
unfolding id_bytes
ids_differ p b i a q c j d sp sq sb sc si sj sa sd e =
    let one = fronts 2 (to_be_bytes w16 p) _ (to_be_bytes w16 q) _ refl refl e in
    let two = fronts 2 (to_be_bytes w16 b) _ (to_be_bytes w16 c) _ refl refl one.1 in
    let three = fronts 4 (to_be_bytes w32 i) _ (to_be_bytes w32 j) _ refl refl two.1 in
    (same_2 p q sp sq one.0, same_2 b c sb sc two.0, same_4 i j si sj three.0, same_8 a d sa sd three.1)
