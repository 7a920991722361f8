use Rattle.std.proofs.Common.{take}
use Rattle.log_steps.specs.Rewrites.{IsUnlisted}
use Rattle.log_steps.proofs.rewriting.is_listed.Given as goal

abbrev pub invariant-loop-extent : goal.invariant-loop-extent
invariant-loop-extent l = IsUnlisted (take l.extent-index l.extents) l.base
