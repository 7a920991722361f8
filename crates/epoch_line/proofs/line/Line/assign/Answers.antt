use Rattle.std.proofs.Common.{ap, ◌∙◌, ◌≡◌, take}
use Rattle.epoch_line.specs.Line.{cut_end}
use Rattle.epoch_line.proofs.Rising.{IsLine-take}
use Rattle.epoch_line.proofs.Parts.{IsLine-assign, line-either}
use Rattle.epoch_line.proofs.line.Line.assign.Goals as goal

pub invariant_of-self-2 : goal.invariant_of-self-2
invariant_of-self-2 c =
    let pairs = c.self.inside.pairs.items in
    let same : c.args.self.now ≡ pairs = cc in
    let kept : take c.count_below-kept.result pairs ≡ cut_end pairs c.args.start = cc in
    let old : c.truncate.new.self.items ≡ take c.count_below-kept.result pairs = c.truncate.ensures.items ∙ ap (take c.count_below-kept.result) c.in_ok-reserve.ensures.items in
    let more = IsLine-assign pairs c.args.epoch c.args.start c.self.invariant c.requires.epoch_fits c.requires.start_fits (rw same at c.requires.above) in
    rw (c.push.ensures.items, old, kept) (line-either _ _ _ (rw kept at (IsLine-take c.count_below-kept.result pairs c.self.invariant)) more)
