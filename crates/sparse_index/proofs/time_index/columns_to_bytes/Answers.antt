use Rattle.std.proofs.Common.{rules, ◌∙◌, ap, sym, ◌++◌, get_or, pos}
use Rattle.std.proofs.lemmas.Int.{to_z-of_z}
use mir.Syntax.{w64}
use mir.Val.{SFits}
use Rattle.sparse_index.specs.Times.{moment_bytes}
use Rattle.sparse_index.proofs.TimeLaws.{bytes-more, bytes-all}
use Rattle.sparse_index.proofs.time_index.columns_to_bytes.Goals as goal

pub loop-i-preserved : goal.loop-i-preserved
loop-i-preserved c =
    let times = c.args.times.now in
    let offsets = c.args.offsets.now in
    let i = c.loop-i.i in
    let fits : SFits w64 (get_or times i (pos 0)) = search rules in
    (rw (to_z-of_z w64 (get_or times i (pos 0)) fits) at c.in_ok-push_entry.ensures) ∙ (ap (λ bs. bs ++ moment_bytes (get_or times i (pos 0), get_or offsets i 0)) c.loop-i.invariant ∙ sym (bytes-more times offsets i c.requires c.loop-i-test.true))

pub returns : goal.returns
returns c = c.loop-i.invariant ∙ bytes-all c.args.times.now c.args.offsets.now c.loop-i.i c.requires c.loop-i-test.false
