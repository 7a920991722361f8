use Rattle.std.proofs.Common.{sym}
use Rattle.std.proofs.lemmas.List.{take-append-drop}
use Rattle.sparse_index.specs.Times.{moment_bytes}
use Rattle.dump_lines.proofs.Entered.{entered}
use Rattle.dump_lines.proofs.index_lines.times_in.Goals as goal

pub loop-rest-preserved : goal.loop-rest-preserved
loop-rest-preserved c =
    rw (c.in_ok-push.ensures.items)
    (entered moment_bytes _ c.time_entry.result _ _ _ _ c.loop-rest.invariant
    (sym (rw (c.split_at.ensures.front, c.split_at.ensures.back) (take-append-drop 12 _)))
    c.time_entry.ensures)
