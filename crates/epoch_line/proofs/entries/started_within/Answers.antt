use Rattle.std.proofs.Common.{ap, ◌∙◌}
use Rattle.std.specs.Prelude.{filter, nat_lt, nat_le}
use Rattle.epoch_line.proofs.Rising.{IsLine-take}
use Rattle.epoch_line.proofs.Parts.{filter-filter}
use Rattle.epoch_line.proofs.entries.started_within.Goals as goal

pub count_up_to-requires-2 : goal.count_up_to-requires-2
count_up_to-requires-2 c = rw (c.split_at.ensures.front) (IsLine-take c.count_up_to.result c.args.entries.now c.requires)

pub returns : goal.returns
returns c =
    c.split_at-2.ensures.back
    ∙ (c.count_up_to-2.ensures.back
    ∙ (ap (filter (λ e. nat_lt c.args.base e.1)) (c.split_at.ensures.front ∙ c.count_up_to.ensures.front)
    ∙ filter-filter (λ e. nat_lt c.args.base e.1) (λ e. nat_le e.1 c.args.last) c.args.entries.now))
