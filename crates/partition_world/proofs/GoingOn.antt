-- What a search continues with, where two turns that continue are one.
use Rattle.std.proofs.Common.{◌≡◌, ℕ, ap}
use Rattle.plain_log.specs.declared.turn.Turn.{Turn}
use Rattle.plain_log.specs.declared.turn.Turn.TheVariants.{Goes, Ends}
use Rattle.time_find.specs.declared.turn.SearchStep.{SearchStep}
use Rattle.time_find.specs.declared.turn.SearchStep.TheVariants.{Seek}

-- the cursor that it has come to, and what its next turn does
abbrev going : Turn (ℕ × SearchStep) → ℕ × SearchStep
going (Goes next) = next
going (Ends answer) = (0, Seek)

-- they have come to the same cursor
pub same_cursor : (at to : ℕ) (next later : SearchStep) → ◌≡◌ {A = Turn (ℕ × SearchStep)} (Goes (at, next)) (Goes (to, later))
    → at ≡ to
same_cursor at to next later is = ap (λ (t : Turn (ℕ × SearchStep)). (going t).0) is

-- and their next turns do the same
pub same_step : (at to : ℕ) (next later : SearchStep) → ◌≡◌ {A = Turn (ℕ × SearchStep)} (Goes (at, next)) (Goes (to, later))
    → next ≡ later
same_step at to next later is = ap (λ (t : Turn (ℕ × SearchStep)). (going t).1) is
