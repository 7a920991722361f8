use Rattle.std.proofs.Common.{ap, sym, ◌∙◌}
use Rattle.epoch_line.specs.Line.{last_epoch}
use Rattle.epoch_line.proofs.Holding.{epoch_at-started}
use Rattle.epoch_line.proofs.entries.epoch_at.Goals as goal

pub returns : goal.returns
returns c =
    c.last_epoch.ensures ∙ (ap last_epoch (c.split_at.ensures.front ∙ c.count_up_to.ensures.front) ∙ sym (epoch_at-started c.args.entries.now c.args.offset c.requires))
