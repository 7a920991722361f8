use Rattle.std.proofs.Common.{take}
use Rattle.tier_audit.specs.Strays.{IsFirstIn}
use Rattle.tier_audit.proofs.keys.find_stray.Given as goal

abbrev pub invariant-loop-key : goal.invariant-loop-key
invariant-loop-key l = IsFirstIn l.view.entries (take l.key-index l.keys) l.first
