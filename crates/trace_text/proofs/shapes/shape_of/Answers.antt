use Rattle.std.proofs.Common.{◌≡◌, refl, ℕ, List, []}
use Rattle.plain_log.specs.declared.answer.Answer.{Answer}
use Rattle.plain_log.specs.declared.answer.Answer.TheVariants as answer
use Rattle.trace_text.specs.Trace.{fields_of}
use Rattle.trace_text.proofs.shapes.shape_of.Goals as goal

pub returns-in_default : goal.returns-in_default
returns-in_default c = by c.args.answer.now refl
  where
    by : (other : Answer) → c.args.answer.now ≡ other → ◌≡◌ {A = List (List ℕ)} [] (fields_of other)
    by (answer.OkAt a) is = absurd (c.in_default.not-OkAt a is)
    by (answer.OkSpan a b d) is = absurd (c.in_default.not-OkSpan a b d is)
    by (answer.Refused a) is = absurd (c.in_default.not-Refused a is)
    by (answer.DiskFaultAt a) is = absurd (c.in_default.not-DiskFaultAt a is)
    by (answer.BehindStart a b) is = absurd (c.in_default.not-BehindStart a b is)
    by (answer.Follows a) is = absurd (c.in_default.not-Follows a is)
    by (answer.NeedsElection a) is = absurd (c.in_default.not-NeedsElection a is)
    by (answer.Leads a) is = absurd (c.in_default.not-Leads a is)
    by (answer.StaleEpoch a) is = absurd (c.in_default.not-StaleEpoch a is)
    by (answer.Cut a) is = absurd (c.in_default.not-Cut a is)
    by (answer.Passed a) is = absurd (c.in_default.not-Passed a is)
    by (answer.BelowStart a) is = absurd (c.in_default.not-BelowStart a is)
    by (answer.Damaged a b) is = absurd (c.in_default.not-Damaged a b is)
    by (answer.Rebuilt a) is = absurd (c.in_default.not-Rebuilt a is)
    by (answer.Moved a) is = absurd (c.in_default.not-Moved a is)
    by (answer.Copied a) is = absurd (c.in_default.not-Copied a is)
    by (answer.CopiedSegment a b d) is = absurd (c.in_default.not-CopiedSegment a b d is)
    by (answer.Behind a b) is = absurd (c.in_default.not-Behind a b is)
    by (answer.Overtaken a) is = absurd (c.in_default.not-Overtaken a is)
    by (answer.Dropped a b) is = absurd (c.in_default.not-Dropped a b is)
    by (answer.Raised a) is = absurd (c.in_default.not-Raised a is)
    by (answer.Deleted a) is = absurd (c.in_default.not-Deleted a is)
    by (answer.NotAbove a) is = absurd (c.in_default.not-NotAbove a is)
    by (answer.AboveMark a) is = absurd (c.in_default.not-AboveMark a is)
    by (answer.Up a) is = absurd (c.in_default.not-Up a is)
    by (answer.OutOfRange a b) is = absurd (c.in_default.not-OutOfRange a b is)
    by (answer.Run a b d e) is = absurd (c.in_default.not-Run a b d e is)
    by (answer.Offset a) is = absurd (c.in_default.not-Offset a is)
    by other is = refl
