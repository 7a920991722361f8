use Rattle.std.proofs.Common.{arith, ◌≡◌, ◌+◌}
use Rattle.segment_file.specs.Walk.{size_in}
use Rattle.dump_lines.proofs.Going.{filled, passes, ends}
use Rattle.dump_lines.proofs.dumping.dump.Goals as goal

pub returns-in-Ends : goal.returns-in-Ends
returns-in-Ends g c =
    ends _ _ _ _ _ _ _ (filled _ _ _ _ _ _ _ _ c.loop.invariant c.in_ok-fill.ensures)
    (cc (c.rest.ensures, c.in-Ends.ensures.exact)) c.in-Ends.ensures.place c.in_ok-fill.ensures.enough

pub loop-preserved : goal.loop-preserved
loop-preserved g c =
    let p = passes _ _ _ _ _ _ _ c.in-Batch.one (filled _ _ _ _ _ _ _ _ c.loop.invariant c.in_ok-fill.ensures)
    (cc (c.rest.ensures, c.in-Batch.ensures.exact)) (rw c.rest.ensures at c.in-Batch.ensures.within) c.in_ok-show.ensures in
    let e : c.in-Some.next ≡ c.loop.at + size_in c.in-Batch.one.head = omega (arith, c.in-Some.ensures, c.size_in-size.ensures) in
    rw (c.pass.ensures, e, c.size_in-size.ensures) p
