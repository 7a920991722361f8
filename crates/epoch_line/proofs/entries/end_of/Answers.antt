use Rattle.std.proofs.Common.{rules, ap, ◌∙◌, Some}
use Rattle.std.proofs.lemmas.Fn.{always_returns_same}
use Rattle.epoch_line.specs.Line.{start_or}
use Rattle.epoch_line.proofs.Ending.{ends-found, ends-nowhere}
use Rattle.epoch_line.proofs.entries.end_of.Goals as goal

pub returns-in-Ok : goal.returns-in-Ok
returns-in-Ok c =
    ap (λ n. Some n) (c.start_or.ensures ∙ ap (start_or c.args.log_end) c.split_at.ensures.back)
    ∙ ends-found c.args.entries.now c.args.epoch c.args.log_end c.in-Ok.at c.requires c.in-Ok.ensures.bound (c.in-Ok.ensures.position (λ e. e.0) (always_returns_same _ _ _ (λ a r f k. search rules)))

pub returns-in-Err : goal.returns-in-Err
returns-in-Err c =
    ends-nowhere c.args.entries.now c.args.epoch c.args.log_end c.in-Err.field-0 c.requires (c.in-Err.ensures.position (λ e. e.0) (always_returns_same _ _ _ (λ a r f k. search rules)))
