-- Where finished copies share offsets with others.
--
-- A copy that starts after all others shares none with them. One that doesn't may, and so may those that end before it
-- does. So two offsets report for most copies that no other lies under them.
use Rattle.std.specs.Prelude.{◌≡◌, ◌<◌, ◌≤◌, ◌+◌, ◌⊎◌, nat_le, max, true, false, if◌then◌else◌, List, [], ◌∷◌}
use Rattle.tier_base.specs.declared.plain.State.{State}
use Rattle.segment_meta.specs.declared.note.Entry.{Entry}
use Rattle.remote_view.specs.declared.spread.Spread.{Spread}
use Rattle.remote_view.specs.Lookup.{is_readable}
use Rattle.remote_view.specs.Laying.{lies_under}

-- it is one of the entries
abbrev pub IsIn : Entry → List Entry → Type 0
IsIn one [] = ⊥
IsIn one (entry ∷ entries) = (one ≡ entry) ⊎ IsIn one entries

-- no copy that can be read goes past an offset, and those that start at another or after it share no offset
pub record AreSpread (spread : Spread) (entries : List Entry) : Type 0 where
  pub below : (one : Entry) → IsIn one entries → is_readable one.state ≡ true → one.end < spread.past
  pub alone : (one other : Entry) → IsIn one entries → IsIn other entries → is_readable one.state ≡ true
      → spread.alone ≤ one.start → lies_under one other ≡ false

-- the two offsets with a copy more that can be read
abbrev pub spread_with : Spread → Entry → Spread
spread_with spread entry =
    if nat_le spread.past entry.start then record { past = entry.end + 1; alone = spread.alone }
    else record { past = max spread.past (entry.end + 1); alone = max spread.past (entry.end + 1) }

-- the two offsets once an entry has come to a state
abbrev pub spread_after : Spread → Entry → State → Spread
spread_after spread entry state = if is_readable state then spread_with spread entry else spread
