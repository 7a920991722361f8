use Rattle.std.proofs.Common.{◌≡◌, sym, subst, ◌<◌, ◌≤◌, length, List, Option, map, refl, slice_set, arith}
use Rattle.plain_log.specs.declared.state.State.{State}
use Rattle.plain_log.specs.Fresh.{fresh}
use Rattle.script_lang.specs.declared.script.PartScript.{PartScript}
use Rattle.script_lang.specs.Fit.{AreNumbered}
use Rattle.trace_text.specs.Read.{told}
use Rattle.trace_check.specs.declared.verdict.Flaw.{Flaw}
use Rattle.trace_check.specs.Whole.{opening, part_left, HasRun}
use Rattle.trace_check.specs.Verdicts.{IsPartFlaw, IsPartJudged}
use Rattle.trace_check.proofs.Partitions.{begins_there, left_more, one_more, part_flaw}
use Rattle.trace_check.proofs.Places.{partly_long, with_reaches}
use Rattle.trace_check.proofs.judging.judge_parts.Goals as goal

pub at_mut-plain-requires : goal.at_mut-plain-requires
at_mut-plain-requires c =
    let config = c.args.script.now.config in
    let f : PartScript → State = part_left config c.args.states.now (map told c.args.journals.now) in
    let test = c.loop-at-test.true in
    let near : c.loop-at.at ≤ length c.loop-at.states =
    subst (λ (k : List State). c.loop-at.at ≤ length k) (sym c.loop-at.invariant.left)
    (partly_long f c.as_slice-part-items.result.now c.loop-at.at c.args.states.now (omega (arith, test))) in
    subst (λ (k : List State). c.loop-at.at < length k) (sym c.in_ok-reach.ensures) (with_reaches (fresh config) c.loop-at.at c.loop-at.states near)

pub returns-in-Some : goal.returns-in-Some
returns-in-Some c =
    let script = c.args.script.now in
    let js = map told c.args.journals.now in
    let part = c.part-item.result in
    let f : PartScript → State = part_left script.config c.args.states.now js in
    let numbered = subst (AreNumbered 0) (sym c.as_slice-part-items.ensures) c.requires.numbered in
    let begins = begins_there script.config c.as_slice-part-items.result.now c.loop-at.at part c.args.states.now c.loop-at.states c.reach.new.states f
    c.at_mut-plain.result.now numbered c.loop-at-test.true c.part-item.is c.loop-at.invariant.left c.in_ok-reach.ensures c.at_mut-plain.ensures.value in
    let its : IsPartFlaw script.config js c.at_mut-plain.result.now part c.in-Some.flaw =
    subst (λ (o : Option Flaw). IsPartJudged script.config js c.at_mut-plain.result.now part c.judge_part.new.plain o) c.in-Some.is c.in_ok-flaw.ensures in
    part_flaw script c.args.states.now js c.as_slice-part-items.result.now c.loop-at.at part c.in-Some.flaw c.as_slice-part-items.ensures c.loop-at-test.true
    c.part-item.is c.loop-at.invariant.whole (subst (λ (p : State). IsPartFlaw script.config js p part c.in-Some.flaw) begins its)

pub loop-at-preserved : goal.loop-at-preserved
loop-at-preserved c =
    let script = c.args.script.now in
    let js = map told c.args.journals.now in
    let part = c.part-item.result in
    let f : PartScript → State = part_left script.config c.args.states.now js in
    let x = c.at_mut-plain.result.now in
    let q = c.judge_part.new.plain in
    let numbered = subst (AreNumbered 0) (sym c.as_slice-part-items.ensures) c.requires.numbered in
    let begins : x ≡ opening script.config c.args.states.now part.partition.0 =
    begins_there script.config c.as_slice-part-items.result.now c.loop-at.at part c.args.states.now c.loop-at.states c.reach.new.states f
    x numbered c.loop-at-test.true c.part-item.is c.loop-at.invariant.left c.in_ok-reach.ensures c.at_mut-plain.ensures.value in
    let its = subst (λ (o : Option Flaw). IsPartJudged script.config js x part q o) c.in_default.is c.in_ok-flaw.ensures in
    record {
      whole = one_more script.config c.args.states.now js c.as_slice-part-items.result.now c.loop-at.at part c.loop-at-test.true c.part-item.is c.loop-at.invariant.whole
          (subst (λ (p : State). HasRun script.config js p part) begins its.0);
      left = left_more script.config js c.as_slice-part-items.result.now c.loop-at.at part c.args.states.now c.loop-at.states c.reach.new.states
          (slice_set c.reach.new.states c.loop-at.at q) x q c.loop-at-test.true c.part-item.is c.loop-at.invariant.left c.in_ok-reach.ensures begins its.1 refl;
    }
