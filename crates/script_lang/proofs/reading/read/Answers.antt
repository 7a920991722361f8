use Rattle.std.proofs.Common.{◌∙◌, sym, ap, ◌<◌, length, arith}
use Rattle.script_lang.specs.Script.{line_behind}
use Rattle.script_lang.proofs.FromFront.{line-more, line-refused, nonempty}
use Rattle.script_lang.proofs.reading.read.Goals as goal

pub returns-in-Err : goal.returns-in-Err
returns-in-Err c =
    let some : 0 < length c.loop-rest.rest.now = nonempty c.loop-rest.rest.now (sym c.is_empty.ensures ∙ c.loop-rest-test.true) in
    line-refused c.loop-rest.told c.loop-rest.number c.loop-rest.rest.now c.cut_line.result.0.now c.in-Err.refusal _ some c.cut_line.ensures.line c.in-Err.ensures c.loop-rest.invariant.read

pub loop-rest-preserved : goal.loop-rest-preserved
loop-rest-preserved c =
    let some : 0 < length c.loop-rest.rest.now = nonempty c.loop-rest.rest.now (sym c.is_empty.ensures ∙ c.loop-rest-test.true) in
    record {
      read = rw (c.cut_line.ensures.rest) (line-more c.loop-rest.told c.in-Ok.next c.loop-rest.number c.loop-rest.rest.now _ some (ap (line_behind c.loop-rest.told) (sym c.cut_line.ensures.line) ∙ c.in-Ok.ensures) c.loop-rest.invariant.read);
      number = omega (arith, c.loop-rest.invariant.number, c.cut_line.ensures.shorter some);
    }
