-- The stairs of all epochs, as they are kept.
use Rattle.std.specs.Prelude.{◌≡◌, ◌≤◌, ◌+◌, ◌⊎◌, None, ℕ, ◌==◌, ◌||◌, Bool, true, false}
use Rattle.std.specs.Prelude.{if◌then◌else◌, List, [], ◌∷◌, is_some, unwrap_or}
use Rattle.std.specs.List.{AllByRecursion}
use Rattle.std.specs.Ordering.{nat_cmp}
use Rattle.std.specs.BTreeMap.{get}
use Rattle.tier_base.specs.declared.plain.State.{State}
use Rattle.segment_meta.specs.declared.note.Entry.{Entry}
use Rattle.remote_view.specs.declared.tread.Tread.{Tread}
use Rattle.remote_view.specs.declared.stairs.Stair.{Stair}
use Rattle.remote_view.specs.declared.stairs.Stairs.{Stairs}
use Rattle.remote_view.specs.Fold.{AreEntriesValid, AreDistinct}
use Rattle.remote_view.specs.Lookup.{is_readable}
use Rattle.remote_view.specs.Stairs.{span_of, IsStair}
use Rattle.remote_view.specs.Laying.{IsLaidIn, IsLifted}

-- the stair of an epoch; one that was never made is empty
abbrev pub stair_on : Stairs → ℕ → List Tread
stair_on stairs epoch = unwrap_or (get nat_cmp stairs.treads epoch) []

-- there is room for an epoch's stair
abbrev pub has_room : Stairs → ℕ → Bool
has_room stairs epoch = is_some (get nat_cmp stairs.treads epoch)

-- one of the stairs is of an epoch
abbrev pub names : ℕ → List Stair → Bool
names epoch [] = false
names epoch (stair ∷ stairs) = (stair.epoch == epoch) || names epoch stairs

-- the first of the stairs that is of an epoch, or else another
abbrev pub replaced : List Stair → ℕ → List Tread → List Tread
replaced [] epoch old = old
replaced (stair ∷ stairs) epoch old = if stair.epoch == epoch then stair.treads else replaced stairs epoch old

-- there is room for each
abbrev pub HaveRoom : Stairs → List Stair → Type 0
HaveRoom stairs fresh = AllByRecursion (λ stair. has_room stairs stair.epoch ≡ true) fresh

-- some stairs are right over entries, there is room for them, and those of the other epochs are right as they are
pub record AreFreshStairs (entries : List Entry) (stairs : Stairs) (fresh : List Stair) : Type 0 where
  pub each : AllByRecursion (λ stair. IsStair entries stair.epoch stair.treads) fresh
  pub room : HaveRoom stairs fresh
  pub kept : (epoch : ℕ) → names epoch fresh ≡ false → IsStair entries epoch (stair_on stairs epoch)

-- an entry that can be read from now on was laid over all stairs, or nothing was changed
abbrev pub IsLaidBehind : Bool → State → Entry → Stairs → Stairs → Type 0
IsLaidBehind true state entry old new =
    (is_readable state ≡ true)
    × ((entries : List Entry) (epoch : ℕ) → IsLaidIn entries entry epoch (stair_on old epoch) (stair_on new epoch))
IsLaidBehind false state entry old new = (epoch : ℕ) → stair_on new epoch ≡ stair_on old epoch

-- an entry that can't be read from now on, and that no other lies under, was taken off the front of the only stair
-- that it lies in, or nothing was changed
abbrev pub IsTakenFirst : Bool → ℕ → State → Entry → Stairs → Stairs → Type 0
IsTakenFirst true alone state entry old new =
    (is_readable state ≡ false) × (is_readable entry.state ≡ true) × (alone ≤ entry.start)
    × ((epoch : ℕ) → IsLifted entry.id (stair_on old epoch) (stair_on new epoch)
    ⊎ ((span_of entry.map epoch (entry.end + 1) ≡ None) × (stair_on new epoch ≡ stair_on old epoch)))
IsTakenFirst false alone state entry old new = (epoch : ℕ) → stair_on new epoch ≡ stair_on old epoch

-- what holds of a view's entries and stairs
pub record IsViewed (entries : List Entry) (stairs : Stairs) : Type 0 where
  pub kept : AreEntriesValid entries
  pub distinct : AreDistinct entries
  pub right : (epoch : ℕ) → IsStair entries epoch (stair_on stairs epoch)
