-- What a store holds, and what its calls do to it.
--
--   form                        says
--   Changes key made may o n    a call that changes one object
--   Keeps old new               a call that changes none
--
--   call      of the object makes
--   put       replaced bytes
--   delete    removed
--
-- A call is whole. One that answers `Failed` may have been done or not.
use Rattle.std.specs.Prelude.{◌≡◌, ℕ, Bool, List, if◌then◌else◌, Option, IsTrue}
use Rattle.tier_base.specs.declared.object_key.ObjectKey.{ObjectKey}
use Rattle.tier_base.specs.Told.{OnlyAt}

-- the objects by key
abbrev pub Objects : Type 0
Objects = ObjectKey → Option (List ℕ)

-- Of a store that isn't observable, `objects` means nothing.
pub record Content : Type 0 where
  pub is_observable : Bool
  pub objects : Objects

-- what is made of an object where it is done, and the same where it isn't
abbrev pub made_if : Bool → (Option (List ℕ) → Option (List ℕ)) → Option (List ℕ) → Option (List ℕ)
made_if done made object = if done then made object else object

-- one object is what is made of it, and the others stay
abbrev pub MadeAt : ObjectKey → (Option (List ℕ) → Option (List ℕ)) → Objects → Objects → Type 0
MadeAt key made old new = OnlyAt key (λ before after. after ≡ made before) old new

-- a call that changes one object, where it was done
pub record Changes (key : ObjectKey) (made : Option (List ℕ) → Option (List ℕ)) (may_be_done : Bool → Type 0)
    (old new : Content) : Type 0 where
  pub is_observable : new.is_observable ≡ old.is_observable
  pub objects : IsTrue old.is_observable → (done : Bool) × may_be_done done
      × MadeAt key (made_if done made) old.objects new.objects

-- a call that changes no object
pub record Keeps (old new : Content) : Type 0 where
  pub is_observable : new.is_observable ≡ old.is_observable
  pub objects : (k : ObjectKey) → new.objects k ≡ old.objects k
