use Rattle.std.proofs.Common.{rules}
use Rattle.std.proofs.lemmas.Fn.{always_returns_same}
use Rattle.remote_view.proofs.Lying.{span_found, span_missed}
use Rattle.remote_view.proofs.spans.span_of.Goals as goal

pub returns-in-Ok : goal.returns-in-Ok
returns-in-Ok c =
    rw (c.start_or.ensures, c.split_at.ensures.back)
    (span_found c.args.line.now c.args.epoch c.args.end c.in-Ok.at c.requires c.in-Ok.ensures.bound (c.in-Ok.ensures.position (λ e. e.0) (always_returns_same _ _ _ (λ a r f k. search rules))))

pub returns-in-Err : goal.returns-in-Err
returns-in-Err c =
    span_missed c.args.line.now c.args.epoch c.args.end c.in-Err.field-0 c.requires (c.in-Err.ensures.position (λ e. e.0) (always_returns_same _ _ _ (λ a r f k. search rules)))
