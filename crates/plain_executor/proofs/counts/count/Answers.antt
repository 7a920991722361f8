use Rattle.std.proofs.Common.{inl, inr, sym, arith}
use Rattle.plain_executor.proofs.Tally.{count_begin, count_answer, count_other}
use Rattle.plain_executor.proofs.counts.count.Goals.{then-a-counts-via-then-a-counts, then-a-counts-via-else-a-counts+then-counts-a}
use Rattle.plain_executor.proofs.counts.count.Goals as goal

pub returns-in-Begins-clause-next : goal.returns-in-Begins-clause-next
returns-in-Begins-clause-next c = λ t journal h. count_begin journal c.args.counts.now c.args.entry.now c.in-Begins.cut c.in-Begins.is h

pub returns-then-a-counts-clause-other : goal.returns-then-a-counts-clause-other
returns-then-a-counts-clause-other c = λ t journal more h wanted same all.
    elim c.then-a-counts.branch [
      | then-a-counts-via-then-a-counts w ↦
          count_other journal more c.args.counts.now wanted c.args.entry.now c.in-Answers.field-0 c.in-Answers.is (inl (omega (arith, w.if-a-counts.true))) h same all
      | then-a-counts-via-else-a-counts+then-counts-a w ↦
          count_other journal more c.args.counts.now wanted c.args.entry.now c.in-Answers.field-0 c.in-Answers.is (inr w.if-counts-a.true) h same all
    ]

pub returns-else-counts-a-clause-next : goal.returns-else-counts-a-clause-next
returns-else-counts-a-clause-next c = λ t journal h.
    count_answer journal c.args.counts.now c.args.entry.now c.in-Answers.field-0 c.in-Answers.is (omega (arith, c.if-a-counts.false)) (sym c.if-counts-a.false) h
