use Rattle.std.proofs.Common.{[]}
use Rattle.std.proofs.lemmas.List.{append-nil}
use Rattle.script_help.proofs.line.without_return.Goals as goal

pub returns-in_default : goal.returns-in_default
returns-in_default c = record { left = []; right = []; parts = append-nil c.args.line.now }

pub returns-in_default-2 : goal.returns-in_default-2
returns-in_default-2 c = record { left = []; right = []; parts = append-nil c.args.line.now }
