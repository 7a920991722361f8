use Rattle.std.proofs.Common.{◌≡◌, ◌∙◌, refl, sym, subst, length, arith, map}
use Rattle.plain_executor.specs.Fits.{AreFor}
use Rattle.trace_text.specs.Read.{told}
use Rattle.trace_check.specs.Whole.{journal_of}
use Rattle.trace_check.proofs.Partitions.{fits, unfinished, finished}
use Rattle.trace_check.proofs.judging.judge_part.Goals as goal

pub take_all-requires : goal.take_all-requires
take_all-requires c = subst AreFor (sym c.as_slice-lists.ensures) (fits c.args.config.now c.args.part.now.lists c.requires.fit)

pub returns-then-not-branch : goal.returns-then-not-branch
returns-then-not-branch c = (
  refl,
  unfinished c.args.plain.now c.take_all.new.plain c.args.part.now.lists c.as_slice-lists.result.now (journal_of (map told c.args.journals.now) c.args.part.now.partition.0)
      c.find-journal.result.now c.in_ok-entry.field-0 c.in_ok-is_complete.field-0 c.as_slice-lists.ensures c.find-journal.ensures c.in_default.is c.in_ok-entry.ensures
      c.if-not-branch.true c.in_ok-is_complete.ensures,
)

pub returns : goal.returns
returns c =
    let count : length c.args.plain.now.brokers ≡ c.args.config.now.brokers = (let same = c.if-kept-asked.false in let is = c.count-kept.ensures in grind (arith, same, is)) in
    let all = finished c.args.config.now (map told c.args.journals.now) c.args.plain.now c.take_all.new.plain c.args.part.now c.as_slice-lists.result.now
    c.find-journal.result.now c.in_ok-entry.field-0 c.in_ok-is_complete.field-0 count c.as_slice-lists.ensures c.find-journal.ensures c.in_default.is
    c.in_ok-entry.ensures c.if-not-branch.false c.in_ok-is_complete.ensures in
    (all.0, c.cool.ensures ∙ all.1)
