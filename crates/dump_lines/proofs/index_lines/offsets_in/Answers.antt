use Rattle.std.proofs.Common.{sym}
use Rattle.std.proofs.lemmas.List.{take-append-drop}
use Rattle.sparse_index.specs.Offsets.{entry_bytes}
use Rattle.dump_lines.proofs.Entered.{entered}
use Rattle.dump_lines.proofs.index_lines.offsets_in.Goals as goal

pub loop-rest-preserved : goal.loop-rest-preserved
loop-rest-preserved c =
    rw (c.in_ok-push.ensures.items)
    (entered entry_bytes _ c.offset_entry.result _ _ _ _ c.loop-rest.invariant
    (sym (rw (c.split_at.ensures.front, c.split_at.ensures.back) (take-append-drop 8 _)))
    c.offset_entry.ensures)
