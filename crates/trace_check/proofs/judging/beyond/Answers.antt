use Rattle.std.proofs.Common.{subst, ℕ, ◌<◌, List, map, arith}
use Rattle.std.specs.Prelude.{All}
use Rattle.std.proofs.lemmas.List.{take_all}
use Rattle.plain_log.specs.declared.journal.JournalEntry.{JournalEntry}
use Rattle.trace_text.specs.declared.line.PartJournal.{PartJournal}
use Rattle.trace_text.specs.Read.{told}
use Rattle.trace_check.proofs.Journals.{within_more, is_beyond}
use Rattle.trace_check.proofs.judging.beyond.Goals as goal

pub returns-then-journal-count : goal.returns-then-journal-count
returns-then-journal-count c =
    is_beyond c.args.count c.args.journals.now c.loop-journal.journal-index c.journal-item.result c.loop-journal-test.true c.journal-item.is c.loop-journal.invariant
    c.if-journal-count.true

pub loop-journal-preserved : goal.loop-journal-preserved
loop-journal-preserved c =
    within_more c.args.count c.args.journals.now c.loop-journal.journal-index c.journal-item.result c.loop-journal-test.true c.journal-item.is
    (let over = c.if-journal-count.false in omega (arith, over)) c.loop-journal.invariant

pub returns : goal.returns
returns c =
    subst (λ (js : List PartJournal). All (λ (j : ℕ × List JournalEntry). j.0 < c.args.count) (map told js))
    (take_all c.loop-journal.journal-index c.args.journals.now (let end = c.loop-journal-test.false in omega (arith, end))) c.loop-journal.invariant
