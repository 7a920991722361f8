use Rattle.std.proofs.Common.{◌∙◌, sym, ap}
use Rattle.std.specs.Prelude.{bytes_eq, Some, None}
use Rattle.script_lang.proofs.Rows.{next_row}
use Rattle.script_lang.proofs.names.find_call.Goals as goal

pub loop-name-preserved : goal.loop-name-preserved
loop-name-preserved c =
    let differs = ap (bytes_eq c.args.word.now) (sym c.as_bytes.ensures.value) ∙ (sym c.eq.ensures ∙ c.if-eq.false) in
    next_row (λ r. r.0.now) (λ r. Some r.1) None c.args.word.now _ c.loop-name.name-index _ _ c.loop-name-test.true differs c.loop-name.invariant
