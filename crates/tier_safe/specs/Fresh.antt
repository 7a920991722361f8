-- A tier where nothing has happened yet.
use Rattle.std.specs.Prelude.{◌≡◌, ℕ, true, [], None, replicate}
use Rattle.tier_base.specs.declared.object_key.ObjectKey.{ObjectKey}
use Rattle.remote_view.specs.Fold.{view_of}
use Rattle.tier_safe.specs.Scene.{BrokerTierView, Free, Scene}

-- the tier state of a broker that is up, whose log was opened once
abbrev pub fresh_tier_view : BrokerTierView
fresh_tier_view = record { up = true; start = 0; incarnation = 1; next = 0; view = view_of []; cache = [] }

-- no object, no metadata event, fresh brokers, and free actors' states
pub record IsFreshScene (brokers actor_states : ℕ) (c : Scene) : Type 0 where
  pub objects : (key : ObjectKey) → c.objects key ≡ None
  pub notes : c.notes ≡ []
  pub tier_views : c.tier_views ≡ replicate brokers fresh_tier_view
  pub desk : c.desk ≡ replicate actor_states Free
