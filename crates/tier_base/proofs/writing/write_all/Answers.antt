use Rattle.std.proofs.Common.{◌∙◌, arith}
use Rattle.std.proofs.lemmas.List.{take_rest}
use Rattle.tier_base.proofs.Known.{Appends-piece, AppendsFront-take}
use Rattle.tier_base.proofs.writing.write_all.Goals as goal

pub returns-in-Err-clause-err : goal.returns-in-Err-clause-err
returns-in-Err-clause-err g c =
    AppendsFront-take _ _ _ _ _ c.loop-done-test.true c.loop-done.invariant.written c.in-Err.ensures.bytes

pub loop-done-preserved : goal.loop-done-preserved
loop-done-preserved g c = record {
  within = omega (arith, c.in-Ok.ensures.bound);
  written = Appends-piece _ _ _ _ _ _ c.loop-done.invariant.written (rw take_rest at c.in-Ok.ensures.bytes);
  is_observable = c.in-Ok.ensures.is_observable ∙ c.loop-done.invariant.is_observable;
  later = omega (arith, c.in-Ok.ensures.cause.later);
}
