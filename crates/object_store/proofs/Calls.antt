-- A call that returns nothing, and one of a store in memory that was done or not.
use Rattle.std.proofs.Common.{◌≡◌, ℕ, Bool, List, Option, refl, sym, subst}
use Rattle.tier_base.specs.declared.object_key.ObjectKey.{ObjectKey}
use Rattle.tier_base.specs.Device.{Fate, Ran, RanQuietly}
use Rattle.tier_base.specs.Faults.{Faults, control_of}
use Rattle.object_store.specs.declared.shelf.Shelf.{Shelf}
use Rattle.object_store.specs.Content.{MadeAt, Changes, made_if}
use Rattle.object_store.specs.Shelf.{objects_on, content_of}

-- a call that returns nothing
pub quiet : {K : Type 0} {code : K → ℕ} (call : K) (fate : Fate) (f g : Faults K) (last_read : List ℕ) → ((before after : List ℕ) → Ran call fate (control_of code f before) (control_of code g after)) → RanQuietly call fate (control_of code f last_read) (control_of code g last_read)
quiet call fate f g last_read ran = record { ran = ran last_read last_read; last_read = refl }

-- a call that changes one object
pub changes : (old new : Shelf) (done d : Bool) (key : ObjectKey) (made : Option (List ℕ) → Option (List ℕ)) (M : Bool → Type 0) → MadeAt key (made_if done made) (objects_on old) (objects_on new) → done ≡ d → M d → Changes key made M (content_of old) (content_of new)
changes old new done d key made M only same m = record { is_observable = refl; objects = λ told. (done, subst M (sym same) m, only) }
