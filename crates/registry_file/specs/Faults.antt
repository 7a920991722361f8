-- What the place of a refusal says: as far as there the bytes can continue as a view's file, and with the field that
-- begins there they can't.
use Rattle.std.specs.Prelude.{◌≡◌, ℕ, ◌+◌, ◌-◌, ◌%◌, ◌==◌, ◌<◌, ◌≤◌, nat_lt}
use Rattle.std.specs.Prelude.{if◌then◌else◌, List, ◌++◌, length, take, Ok}
use Rattle.registry.specs.declared.view.RegView.{RegView}
use Rattle.registry_file.specs.Reading.{view_in}

-- where the field ends that begins at this place of the table in the module Spelling
abbrev pub field_end : ℕ → ℕ
field_end at =
    if nat_lt 28 at then at + 8 else if at == 28 then 29 else if at == 20 then 28 else if at == 12 then 20
    else if at == 10 then 12 else if at == 6 then 10 else if at == 4 then 6 else 4

-- a place past 28 is one of an end, of the eight bytes each
abbrev pub IsEndPlace : ℕ → Type 0
IsEndPlace at = 28 < at → (at - 29) % 8 ≡ 0

-- bytes are the front of a view's file
abbrev pub CanGoOn : List ℕ → Type 0
CanGoOn front = (more : List ℕ) × (view : RegView) × (view_in (front ++ more) ≡ Ok view)

-- the first field that lacks or breaks a rule begins here, or the first byte that follows is here
pub record IsFirstFault (bytes : List ℕ) (at : ℕ) : Type 0 where
  pub place : IsEndPlace at
  pub there : at ≤ length bytes
  pub before : CanGoOn (take at bytes)
  pub field : field_end at ≤ length bytes → CanGoOn (take (field_end at) bytes) → ⊥
