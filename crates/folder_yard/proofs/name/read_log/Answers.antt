use Rattle.std.proofs.lemmas.Bool.{false≢true}
use Rattle.std.proofs.Common.{sym}
use Rattle.folder_yard.proofs.Names.{log_text-length, log_text-end, log_reads}
use Rattle.folder_yard.proofs.name.read_log.Goals as goal

pub returns-then-text-ne24 : goal.returns-then-text-ne24
returns-then-text-ne24 c base small is = c.if-text-ne24.true (log_text-length base c.args.text.now is)

pub returns-then-not-is_log : goal.returns-then-not-is_log
returns-then-not-is_log c base small is = false≢true (c.if-not-is_log.ensures.1 (sym (log_text-end base c.args.text.now c.split_at.result.1.now is c.split_at.ensures.back)))

pub returns : goal.returns
returns c = log_reads c.args.text.now c.split_at.result.0.now c.split_at.result.1.now c.read_base.result c.read_base.ensures c.split_at.ensures.front c.split_at.ensures.back (c.is_log.ensures.0 c.if-not-is_log.false)
