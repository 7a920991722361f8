use Rattle.std.proofs.Common.{ap, subst, arith, length, length-append}
use Rattle.meta_log_file.specs.Reading.{ReadsFirstNote}
use Rattle.meta_log_file.specs.Notes.{framed}
use Rattle.meta_log_file.proofs.Frames.{framed_len}
use Rattle.meta_log_file.proofs.Walks.{ended_more}
use Rattle.meta_log_file.proofs.walking.ends_in.Goals as goal

pub loop-end-smaller : goal.loop-end-smaller
loop-end-smaller c =
    let some = subst (ReadsFirstNote c.loop-end.rest.now) c.in-Some.is c.in_ok-behind.ensures in
    let long = ap length some.1 in
    let parts = length-append (framed c.in-Some.field-0-0) c.in-Some.behind.now in
    let size = framed_len c.in-Some.field-0-0 in
    omega (arith, long, parts, size)

pub loop-end-preserved : goal.loop-end-preserved
loop-end-preserved c =
    let some = subst (ReadsFirstNote c.loop-end.rest.now) c.in-Some.is c.in_ok-behind.ensures in
    let note = c.in-Some.field-0-0 in
    let long = ap length some.1 in
    let parts = length-append (framed note) c.in-Some.behind.now in
    ended_more c.args.bytes.now c.loop-end.ends.items c.loop-end.end c.loop-end.rest.now note c.in-Some.behind.now c.push_end.new.ends.items _ c.loop-end.invariant some.0 some.1 c.in_ok-push_end.ensures (omega (arith, long, parts))
