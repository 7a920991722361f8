-- Items that are read one by one.
use Rattle.std.proofs.Common.{◌≡◌, ◌∙◌, ap, refl, ℕ, suc, ◌+◌, ◌-◌, ◌*◌, ◌<◌, List, [], ◌∷◌, ◌++◌, Option, Some, Ok, Err, arith, append_assoc}
use Rattle.epoch_line.specs.Line.{last_entry}
use Rattle.log_manifest.specs.Reading.{Read, ◌>>=◌, items_at}

-- a reader of one item: by how many come after it, its place and the one before
abbrev pub One : Type 0 → Type 0
One X = ℕ → ℕ → Option X → List ℕ → Read X

-- items after those that were read before
abbrev pub glue : {X : Type 0} → List X → Read (List X) → Read (List X)
glue front (Ok x) = Ok (front ++ x.0, x.1)
glue front (Err why) = Err why

-- an item that was read, and the others
others : {X : Type 0} (front : List X) (p : X) (r : Read (List X)) → glue (front ++ p ∷ []) r ≡ glue front (r >>= λ x. Ok (p ∷ x.0, x.1))
others {X} front p (Ok x) = ap (λ (t : List X). Ok (t, x.1)) (append_assoc front (p ∷ []) x.0)
others front p (Err why) = refl

-- one item is read
pub item_taken : {X : Type 0} (one : One X) (count i base : ℕ) (front : List X) (last : Option X) (p : X) (rest behind : List ℕ) (all : Read (List X))
    → i < count → one (count - i - 1) (base + 12 * i) last rest ≡ Ok (p, behind)
    → glue front (items_at one (count - i) (base + 12 * i) last rest) ≡ all
    → glue (front ++ p ∷ []) (items_at one (count - (i + 1)) (base + 12 * (i + 1)) (Some p) behind) ≡ all
item_taken one count i base front last p rest behind all below e whole =
    let left : count - i ≡ suc (count - i - 1) = omega (arith, below) in
    let same : count - (i + 1) ≡ count - i - 1 = omega arith in
    let place : base + 12 * (i + 1) ≡ base + 12 * i + 12 = omega arith in
    let now : glue front (items_at one (suc (count - i - 1)) (base + 12 * i) last rest) ≡ all = rw left at whole in
    rw (place, same)
    (others front p (items_at one (count - i - 1) (base + 12 * i + 12) (Some p) behind) ∙ (rw e at now))

-- the entry that was put last
pub last_push : (front : List (ℕ × ℕ)) (p : ℕ × ℕ) → last_entry (front ++ p ∷ []) ≡ Some p
last_push [] p = refl
last_push (one ∷ []) p = refl
last_push (one ∷ two ∷ front) p = last_push (two ∷ front) p
