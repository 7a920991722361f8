use Rattle.plain_executor.proofs.Verdicts.{last_told, none_told}
use Rattle.plain_executor.proofs.trace.replay.Goals as goal

pub returns-in-Ok-None : goal.returns-in-Ok-None
returns-in-Ok-None c =
    last_told c.args.config.now c.args.lists.now c.args.journal.now c.in_ok-plain.plain c.take_all.new.plain c.in-Ok-None.field-0 c.in_ok-plain.ensures c.in-Ok-None.ensures c.in-Ok-None.field-0-is

pub returns-in-Ok-Some : goal.returns-in-Ok-Some
returns-in-Ok-Some c =
    none_told c.args.config.now c.args.lists.now c.args.journal.now c.in_ok-plain.plain c.take_all.new.plain c.in-Ok-Some.field-0 c.in-Ok-Some.field-0-0 c.in_ok-plain.ensures c.in-Ok-Some.ensures c.in-Ok-Some.field-0-is
