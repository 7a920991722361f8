-- The laws of the registry's file that an opening goes by.
use Rattle.std.specs.Prelude.{◌≡◌, ◌↔◌, Ok}
use Rattle.registry.specs.View.{IsView, IsRegistry, view_of, registry_of}
use Rattle.registry.specs.declared.registry.Registry.{Registry}
use Rattle.registry.specs.declared.view.RegView.{RegView}
use Rattle.registry_file.specs.Reading.{view_in}
use Rattle.registry_file.specs.Spelling.{view_bytes}

-- a view keeps the rules where its registry does, what is written of one that does is read again, and a registry
-- comes back from its view
pub record FileLaws : Type 0 where
  pub rules : (r : Registry) → IsView (view_of r) ↔ IsRegistry r
  pub again : (view : RegView) → IsView view → view_in (view_bytes view) ≡ Ok view
  pub back : (r : Registry) → registry_of (view_of r) ≡ r
