-- A call of a store that ended so.
use Rattle.std.specs.Prelude.{◌≡◌, ℕ, List, Option, option_map, IfOk, IsTrue}
use Rattle.std.specs.declared.result.Result.{Result}
use Rattle.tier_base.specs.declared.fault.Trouble.{Trouble}
use Rattle.tier_base.specs.declared.object_key.ObjectKey.{ObjectKey}
use Rattle.tier_base.specs.Device.{Control, Ran, RanQuietly, MayBeDone, Fate, fate_of}
use Rattle.tier_base.specs.Told.{replaced, removed, last_read_after}
use Rattle.object_store.specs.declared.call.StoreCall.TheVariants.{Put, Get, Delete}
use Rattle.object_store.specs.Call.{call_code}
use Rattle.object_store.specs.Content.{Content, Changes, Keeps}

module _ {S : Type 0} (objects : S → Content) (calls : S → Control call_code) where
  -- an object was put
  pub record PutsObject (key : ObjectKey) (bytes : List ℕ) (fate : Fate) (old new : S) : Type 0 where
    pub control : RanQuietly Put fate (calls old) (calls new)
    pub content : Changes key (replaced bytes) (MayBeDone Put fate (calls old)) (objects old) (objects new)

  -- a read of an object was answered so, by this part of it where it goes well
  pub record Gets (key : ObjectKey) (part : List ℕ → List ℕ) (answer : Result (Option (List ℕ)) Trouble) (old new : S)
      : Type 0 where
    pub control : Ran Get (fate_of answer) (calls old) (calls new)
    pub last_read : (calls new).last_read ≡ last_read_after answer (calls old).last_read
    pub content : Keeps (objects old) (objects new)
    pub bytes : IsTrue (objects old).is_observable
        → IfOk answer (λ given. given ≡ option_map part ((objects old).objects key))

  -- an object was taken away
  pub record DeletesObject (key : ObjectKey) (fate : Fate) (old new : S) : Type 0 where
    pub control : RanQuietly Delete fate (calls old) (calls new)
    pub content : Changes key removed (MayBeDone Delete fate (calls old)) (objects old) (objects new)
