use Rattle.std.proofs.Common.{◌+◌, subst, Option}
use Rattle.trace_check.specs.declared.verdict.Flaw.{Flaw}
use Rattle.trace_check.specs.declared.verdict.Verdict.TheVariants.{Flawed}
use Rattle.trace_check.specs.Verdicts.{IsPairJudged}
use Rattle.trace_check.proofs.Refuted.{lead_at, flawed_at, whole_tells}
use Rattle.trace_check.proofs.checking.check.Goals as goal

pub returns-in-Some-clause-verdict : goal.returns-in-Some-clause-verdict
returns-in-Some-clause-verdict c =
    let pair = c.index-pairs-before.result in
    let its = subst (λ (o : Option Flaw). IsPairJudged c.loop-before.states pair c.judge_pair.new.states o) c.in-Some.is c.in_ok-flaw.ensures in
    flawed_at c.args.pairs.now c.loop-before.before pair c.loop-before.states c.in-Some.flaw c.loop-before-test.true c.index-pairs-before.is c.loop-before.invariant its

pub returns-in-Some-clause-whole : goal.returns-in-Some-clause-whole
returns-in-Some-clause-whole c =
    whole_tells c.print_is_read.ensures c.one_text_one_trace.ensures c.args.pairs.now (Flawed (c.loop-before.before + 1) c.in-Some.flaw) (returns-in-Some-clause-verdict c)

pub loop-before-preserved : goal.loop-before-preserved
loop-before-preserved c =
    let pair = c.index-pairs-before.result in
    let its = subst (λ (o : Option Flaw). IsPairJudged c.loop-before.states pair c.judge_pair.new.states o) c.in_default.is c.in_ok-flaw.ensures in
    lead_at c.args.pairs.now c.loop-before.before pair c.loop-before.states c.judge_pair.new.states c.loop-before-test.true c.index-pairs-before.is c.loop-before.invariant its
