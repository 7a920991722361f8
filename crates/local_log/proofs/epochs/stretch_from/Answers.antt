use Rattle.std.proofs.Common.{◌∙◌, ◌<◌, sym, ap, subst}
use Rattle.std.specs.Prelude.{unwrap_or}
use Rattle.local_log.proofs.Strays.{stretch_gives}
use Rattle.local_log.proofs.epochs.stretch_from.Goals as goal

pub returns-in-Some-clause-gives : goal.returns-in-Some-clause-gives
returns-in-Some-clause-gives c o le lt =
    let end_is = c.unwrap_or-end.ensures ∙ ap (λ r. unwrap_or r c.args.offset) c.end_of.ensures in
    stretch_gives c.args.line.now c.args.offset c.in-Some.epoch _ c.entries-entries.ensures.line (sym c.epoch_at-epoch.ensures ∙ c.in-Some.is) o le (subst (λ n. o < n) end_is lt)
