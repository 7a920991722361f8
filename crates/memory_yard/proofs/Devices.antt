-- Whether a device has content, out of the names that it lists.
use Rattle.std.specs.Prelude.{◌≡◌, ◌↔◌, Bool, true, false, not, List, [], ◌∷◌, ℕ, Option, IsSome, IsTrue, refl}
use Rattle.std.proofs.Common.{◌∙◌, sym, subst, inl, inr, ⊎_elim, arith}
use Rattle.std.proofs.lemmas.Bool.{false≢true}
use Rattle.tier_base.specs.Told.{NamesAllHeld}
use Rattle.disk_model.specs.Content.{Content, Lawful, Keeps}
use Rattle.disk_model.specs.Memory.{IsEmptyDisk}

-- one call after another that change nothing
pub keeps_then : (a b c : Content) → Lawful a → Keeps a b → Keeps b c → Keeps a c
keeps_then a b c laws h k = record {
  is_observable = k.is_observable ∙ h.is_observable;
  files = λ n. k.files n ∙ h.files n;
  images = λ f left. h.images f (k.images f left);
  time = record {
    later = omega (arith, h.time.later, k.time.later);
    nothing_else = λ t f le left.
        ⊎_elim
        (λ was. ⊎_elim (λ x. inl x) (λ now. inl (laws.earlier t a.moment f le (h.images f now))) (h.time.nothing_else t f le was))
        (λ now. inr now)
        (k.time.nothing_else t f (omega (arith, le, h.time.later)) left);
    keeps = λ t f le left. k.time.keeps t f (omega (arith, le, h.time.later)) (h.time.keeps t f le left);
  };
}

-- an empty disk stays empty
pub empty_kept : (a b : Content) → IsEmptyDisk a → Keeps a b → IsEmptyDisk b
empty_kept a b e k = record {
  is_observable = subst IsTrue (sym k.is_observable) e.is_observable;
  files = λ n. k.files n ∙ e.files n;
  images = λ f left n. e.images f (k.images f left) n;
}

-- names are listed exactly where something is there
pub some_named : {N : Type 0} → (was held : N → Option (List ℕ)) (names : List N) (empty : Bool) → ((n : N) → held n ≡ was n)
    → NamesAllHeld held names → IsTrue empty ↔ (names ≡ []) → IsTrue (not empty) ↔ ((n : N) × IsSome (was n))
some_named was held [] empty same are is = (
  λ filled. absurd (false≢true (subst (λ b. IsTrue (not b)) (is.1 refl) filled)),
  λ there. absurd ((are.are there.0).0 (subst (λ o. IsSome o) (sym (same there.0)) there.1)),
)
some_named was held (x ∷ xs) true same are is = absurd (let e : x ∷ xs ≡ [] = is.0 refl in cc)
some_named was held (x ∷ xs) false same are is =
    (λ filled. (x, subst (λ o. IsSome o) (same x) ((are.are x).1 (inl refl))), λ there. refl)
