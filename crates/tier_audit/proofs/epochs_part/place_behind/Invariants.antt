use Rattle.std.proofs.Common.{◌≡◌, ◌+◌, drop}
use Rattle.tier_audit.specs.Texts.{place_behind}
use Rattle.tier_audit.proofs.epochs_part.place_behind.Given as goal

abbrev pub invariant-loop-at : goal.invariant-loop-at
invariant-loop-at l = l.at + place_behind l.left (drop l.at l.bytes) ≡ place_behind l.fn.lines l.bytes
