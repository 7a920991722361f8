-- A text that is written piece by piece.
use Rattle.std.proofs.Common.{◌≡◌, ◌∙◌, ap, sym, ℕ, ◌+◌, ◌<◌, List, [], ◌∷◌, ◌++◌, length, take, get_or}
use Rattle.std.specs.Prelude.{flat_map}
use Rattle.std.proofs.lemmas.List.{flat_map_more, take_more}

-- with one piece more
pub on : {X : Type 0} (f : X → List ℕ) (start text next : List ℕ) (xs : List X) (x : X) → text ≡ start ++ flat_map f xs → next ≡ text ++ f x
    → next ≡ start ++ flat_map f (xs ++ x ∷ [])
on f start text next xs x h e = e ∙ (ap (λ (z : List ℕ). z ++ f x) h ∙ flat_map_more f start xs x)

-- with the piece of the next item
pub on_at : {X : Type 0} (f : X → List ℕ) (start text next : List ℕ) (xs : List X) (i : ℕ) (x : X) → i < length xs → x ≡ get_or xs i x
    → text ≡ start ++ flat_map f (take i xs) → next ≡ text ++ f x → next ≡ start ++ flat_map f (take (i + 1) xs)
on_at f start text next xs i x l is h e =
    on f start text next (take i xs) x h e
    ∙ ap (λ (z : List _). start ++ flat_map f z) (ap (λ (y : _). take i xs ++ y ∷ []) is ∙ sym (take_more xs i x l))
