use Rattle.std.proofs.Common.{◌≡◌, sym, ap, subst, Option, Some}
use Rattle.std.specs.Prelude.{option_map}
use Rattle.plain_log.specs.declared.state.State.{State}
use Rattle.plain_log.specs.Fresh.{fresh}
use Rattle.plain_log.specs.Runs.{replay}
use Rattle.run_summary.specs.Outcome.{Outcome}
use Rattle.run_summary.specs.Told.{answers_of, bytes_of, ended}
use Rattle.run_summary.proofs.Ordered.{ordered}
use Rattle.run_summary.proofs.told.tell.Goals as goal

pub returns : goal.returns
returns c =
    let lists = c.args.lists.now in
    let journal = c.args.journal.now in
    let plain = c.in-Some.plain in
    let outcome : State → Outcome = λ p. record { answers = answers_of lists journal; bytes = bytes_of journal; end = ended c.args.partition.0 p } in
    let leads : replay lists (fresh c.args.config.now) journal ≡ Some plain = cc (c.in_ok-plain.ensures, c.in-Some.is) in
    let counted = ordered lists (fresh c.args.config.now) journal plain leads in
    let is : c.in_ok-told.told ≡ outcome plain = cc (c.in_ok-told.ensures, counted, c.end_of.ensures) in
    subst (λ (o : Option State). Some c.in_ok-told.told ≡ option_map outcome o) (sym leads) (ap Some is)
