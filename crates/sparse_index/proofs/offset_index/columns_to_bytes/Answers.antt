use Rattle.std.proofs.Common.{◌∙◌, ap, sym, ◌++◌, get_or}
use Rattle.sparse_index.specs.Offsets.{entry_bytes}
use Rattle.sparse_index.proofs.OffsetLaws.{bytes-more, bytes-all}
use Rattle.sparse_index.proofs.offset_index.columns_to_bytes.Goals as goal

pub loop-i-preserved : goal.loop-i-preserved
loop-i-preserved c =
    let offsets = c.args.offsets.now in
    let positions = c.args.positions.now in
    let i = c.loop-i.i in
    c.in_ok-push_entry.ensures ∙ (ap (λ bs. bs ++ entry_bytes (get_or offsets i 0, get_or positions i 0)) c.loop-i.invariant ∙ sym (bytes-more offsets positions i c.requires c.loop-i-test.true))

pub returns : goal.returns
returns c = c.loop-i.invariant ∙ bytes-all c.args.offsets.now c.args.positions.now c.loop-i.i c.requires c.loop-i-test.false
