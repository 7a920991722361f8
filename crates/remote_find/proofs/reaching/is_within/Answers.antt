use Rattle.std.proofs.Common.{sym}
use Rattle.std.proofs.lemmas.Bool.{leb-true}
use Rattle.remote_find.proofs.Epochs.{all_by_last, none_all}
use Rattle.remote_find.proofs.reaching.is_within.Goals as goal

pub returns-in-Some : goal.returns-in-Some
returns-in-Some c = λ yes. all_by_last c.args.line.now c.in-Some.last c.args.log_end c.entries-entries.ensures.line (sym c.in-Some.ensures) (leb-true _ _ yes)

pub returns-in-None : goal.returns-in-None
returns-in-None c = λ yes. none_all c.args.line.now c.args.log_end (sym c.in-None.ensures)
