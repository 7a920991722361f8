use Rattle.std.proofs.Common.{take, refl, sym, subst, List, arith}
use Rattle.std.proofs.lemmas.List.{take_all}
use Rattle.plain_log.specs.declared.journal.JournalEntry.{JournalEntry}
use Rattle.plain_executor.specs.Complete.{AreAnswered}
use Rattle.plain_executor.proofs.Tally.{not_answered, counts_tell}
use Rattle.plain_executor.proofs.counts.are_answered.Goals as goal

pub returns-then-not-count : goal.returns-then-not-count
returns-then-not-count c =
    let f = c.if-not-count.ensures in (
      λ t. absurd cc,
      λ all. absurd (not_answered c.args.journal.now c.loop-entry.entry-index c.entry-item.result c.args.wanted.now c.loop-entry-test.true c.entry-item.is
          (λ more. f.other refl (take c.loop-entry.entry-index c.args.journal.now) more
          (subst (AreAnswered (take c.loop-entry.entry-index c.args.journal.now)) (sym c.as_mut_slice.ensures.value) c.loop-entry.invariant.answered)
          c.args.wanted.now (omega (arith, c.as_mut_slice.ensures.len, c.loop-entry.invariant.same))) all),
    )

pub returns : goal.returns
returns c =
    let are = c.loop-entry.invariant.answered in
    counts_tell c.args.journal.now c.loop-entry.counts.items c.args.wanted.now c.eq.result
    (subst (λ (l : List JournalEntry). AreAnswered l c.loop-entry.counts.items) (take_all c.loop-entry.entry-index c.args.journal.now c.loop-entry-test.false) are)
    c.loop-entry.invariant.same c.as_slice.result.now c.as_slice.ensures.value c.eq.ensures
