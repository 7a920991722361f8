use Rattle.std.proofs.Common.{take}
use Rattle.run_story.specs.Moments.{AreMoments}
use Rattle.run_story.proofs.telling.tell.Given as goal

abbrev pub invariant-loop-place : goal.invariant-loop-place
invariant-loop-place l = AreMoments l.lists l.fn.tracked.plain (take l.place l.journal) l.tracked.plain l.moments
