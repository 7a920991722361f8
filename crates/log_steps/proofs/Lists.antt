-- What holds of each item of a list.
use Rattle.std.proofs.Common.{List, [], ◌∷◌, ◌++◌}
use Rattle.log_steps.specs.Fronts.{Each}

pub each_map : {X : Type 0} {P Q : X → Type 0} → ((x : X) → P x → Q x) → (xs : List X) → Each P xs → Each Q xs
each_map f [] h = h
each_map f (x ∷ xs) h = (f x h.0, each_map f xs h.1)

pub each_both : {X : Type 0} {P Q R : X → Type 0} → ((x : X) → P x → Q x → R x) → (xs : List X) → Each P xs → Each Q xs → Each R xs
each_both f [] h k = h
each_both f (x ∷ xs) h k = (f x h.0 k.0, each_both f xs h.1 k.1)

pub each_join : {X : Type 0} (P : X → Type 0) (xs ys : List X) → Each P xs → Each P ys → Each P (xs ++ ys)
each_join P [] ys h k = k
each_join P (x ∷ xs) ys h k = (h.0, each_join P xs ys h.1 k)

pub each_left : {X : Type 0} (P : X → Type 0) (xs ys : List X) → Each P (xs ++ ys) → Each P xs
each_left P [] ys h = tt
each_left P (x ∷ xs) ys h = (h.0, each_left P xs ys h.1)

pub each_right : {X : Type 0} (P : X → Type 0) (xs ys : List X) → Each P (xs ++ ys) → Each P ys
each_right P [] ys h = h
each_right P (x ∷ xs) ys h = each_right P xs ys h.1

pub each_all : {X : Type 0} {P : X → Type 0} → ((x : X) → P x) → (xs : List X) → Each P xs
each_all f [] = tt
each_all f (x ∷ xs) = (f x, each_all f xs)

pub each_from : {X : Type 0} (Q : Type 0) (P : X → Type 0) (xs : List X) → (Q → Each P xs) → Each (λ x. Q → P x) xs
each_from Q P [] h = tt
each_from Q P (x ∷ xs) h = (λ q. (h q).0, each_from Q P xs (λ q. (h q).1))
