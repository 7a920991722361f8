use Rattle.std.proofs.Common.{◌≡◌, sym, ◌∙◌, true, ◌++◌, ◌∷◌, []}
use Rattle.epoch_line.specs.Line.{IsLine}
use Rattle.epoch_line.proofs.Spelling.{entry-unique, last-fits}
use Rattle.epoch_line.proofs.text.entry_behind.Goals as goal

pub returns-in_default : goal.returns-in_default
returns-in_default c x rest line e = c.in_default.ensures x rest (last-fits c.args.line.now x line) e

pub returns-else-may_follow : goal.returns-else-may_follow
returns-else-may_follow c x rest line e =
    let fits = last-fits c.args.line.now x line in
    let same = entry-unique x c.in-Some.entry rest c.in-Some.rest.now fits.0 fits.1 c.in-Some.ensures.0.0 c.in-Some.ensures.0.1 (sym e ∙ c.in-Some.ensures.1) in
    let stands : IsLine (c.args.line.now ++ c.in-Some.entry ∷ []) = rw (← same.0) line in
    let yes : c.may_follow.result ≡ true = c.may_follow.ensures.1 (rw (c.entries.ensures.entries) stands) in
    cc
