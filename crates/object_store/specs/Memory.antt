-- A store in memory as it is made.
use Rattle.std.specs.Prelude.{◌≡◌, None, IsTrue}
use Rattle.tier_base.specs.declared.object_key.ObjectKey.{ObjectKey}
use Rattle.object_store.specs.Content.{Content}

-- a store with no objects
pub record IsEmptyStore (c : Content) : Type 0 where
  pub is_observable : IsTrue c.is_observable
  pub objects : (k : ObjectKey) → c.objects k ≡ None
