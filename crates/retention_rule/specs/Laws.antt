-- What the rule comes to, in a user's terms.
use Rattle.std.specs.Prelude.{ℕ, ℤ, pos, ◌-ℤ◌, ◌≤ℤ◌, ◌<ℤ◌}
use Rattle.tier_base.specs.declared.plain.Item.{Item}
use Rattle.tier_base.specs.declared.plain.Keep.{Keep}

-- there is a limit, and the greatest timestamp is longer ago than it
abbrev pub IsTooOld : Item → ℤ → Keep → Type 0
IsTooOld item now keep = (pos 0 ≤ℤ keep.ms) × (keep.ms <ℤ (now -ℤ item.max_ts))

-- there is a limit, and so many bytes reach it
abbrev pub ReachesLimit : ℕ → Keep → Type 0
ReachesLimit left keep = (pos 0 ≤ℤ keep.bytes) × (keep.bytes ≤ℤ pos left)

-- a limit is at least as large as another; none is larger than any
abbrev pub IsWider : ℤ → ℤ → Type 0
IsWider limit wider = (pos 0 ≤ℤ wider) → (pos 0 ≤ℤ limit) × (limit ≤ℤ wider)

-- both limits are at least as large
pub record KeepsMore (keep more : Keep) : Type 0 where
  pub ms : IsWider keep.ms more.ms
  pub bytes : IsWider keep.bytes more.bytes
