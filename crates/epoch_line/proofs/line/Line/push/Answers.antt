use Rattle.epoch_line.proofs.Rising.{line_above}
use Rattle.epoch_line.proofs.line.Line.push.Goals as goal

pub add-requires : goal.add-requires
add-requires c =
    line_above c.args.self.now (c.args.epoch, c.args.start) c.entries-rises.ensures.line c.requires.epoch_fits c.requires.start_fits c.requires.above
