use Rattle.std.proofs.Common.{◌≡◌, subst, ℕ, length, arith}
use Rattle.cold_start.proofs.Clearing.{ClearedTo, got_at, cleared_none, cleared_step, cleared_long, cleared_last, cleared_tell, cleared_fresh, failing_step, lasting_step, telling_step}
use Rattle.cold_start.proofs.opening.clear_all.Goals as goal

pub loop-at-init : goal.loop-at-init
loop-at-init g c = cleared_none g.D.Disk.content g.D.Disk.control c.args.disks.now.items

pub loop-at-preserved : goal.loop-at-preserved
loop-at-preserved g c =
    let long = cleared_long g.D.Disk.content g.D.Disk.control c.loop-at.at c.args.disks.now.items c.loop-at.disks.items c.loop-at.invariant in
    let at = got_at c.loop-at.disks.items c.loop-at.at c.index_mut.result.now (omega (arith, long, c.len-at-end.ensures, c.loop-at-test.true, c.args.disks.now.ok.0)) c.index_mut.ensures.value in
    cleared_step g.D.Disk.content g.D.Disk.control c.loop-at.at c.args.disks.now.items c.loop-at.disks.items c.index_mut.result.now c.clear.new.disk c.loop-at.invariant at
    (record { later = record { lasts = c.in-Ok.ensures.control; is_observable = c.in-Ok.ensures.is_observable }; empty = c.in-Ok.ensures.cleared })

pub returns-in-Err-clause-tell : goal.returns-in-Err-clause-tell
returns-in-Err-clause-tell g c = λ tell.
    let long = cleared_long g.D.Disk.content g.D.Disk.control c.loop-at.at c.args.disks.now.items c.loop-at.disks.items c.loop-at.invariant in
    let at = got_at c.loop-at.disks.items c.loop-at.at c.index_mut.result.now (omega (arith, long, c.len-at-end.ensures, c.loop-at-test.true, c.args.disks.now.ok.0)) c.index_mut.ensures.value in
    telling_step g.D.Disk.content g.D.Disk.control c.loop-at.at c.loop-at.disks.items c.index_mut.result.now c.clear.new.disk (cleared_tell g.D.Disk.content g.D.Disk.control c.loop-at.at c.args.disks.now.items c.loop-at.disks.items c.loop-at.invariant tell) at c.in-Err.ensures.is_observable

pub returns-in-Err-clause-control : goal.returns-in-Err-clause-control
returns-in-Err-clause-control g c =
    let long = cleared_long g.D.Disk.content g.D.Disk.control c.loop-at.at c.args.disks.now.items c.loop-at.disks.items c.loop-at.invariant in
    let at = got_at c.loop-at.disks.items c.loop-at.at c.index_mut.result.now (omega (arith, long, c.len-at-end.ensures, c.loop-at-test.true, c.args.disks.now.ok.0)) c.index_mut.ensures.value in
    lasting_step g.D.Disk.content g.D.Disk.control c.loop-at.at c.args.disks.now.items c.loop-at.disks.items c.index_mut.result.now c.clear.new.disk (cleared_last g.D.Disk.content g.D.Disk.control c.loop-at.at c.args.disks.now.items c.loop-at.disks.items c.loop-at.invariant) at c.in-Err.ensures.control

pub returns-clause-cleared : goal.returns-clause-cleared
returns-clause-cleared g c =
    let long = cleared_long g.D.Disk.content g.D.Disk.control c.loop-at.at c.args.disks.now.items c.loop-at.disks.items c.loop-at.invariant in
    let all : c.loop-at.at ≡ length c.args.disks.now.items = omega (arith, c.len-at-end.ensures, c.loop-at-test.false, c.loop-at.auto.at-end, c.args.disks.now.ok.0) in
    cleared_fresh g.D.Disk.content g.D.Disk.control c.args.disks.now.items c.loop-at.disks.items (subst (λ (n : ℕ). ClearedTo g.D.Disk.content g.D.Disk.control n c.args.disks.now.items c.loop-at.disks.items) all c.loop-at.invariant) c.requires

pub returns-clause-tell : goal.returns-clause-tell
returns-clause-tell g c = λ tell. cleared_tell g.D.Disk.content g.D.Disk.control c.loop-at.at c.args.disks.now.items c.loop-at.disks.items c.loop-at.invariant tell

pub returns-clause-control : goal.returns-clause-control
returns-clause-control g c = cleared_last g.D.Disk.content g.D.Disk.control c.loop-at.at c.args.disks.now.items c.loop-at.disks.items c.loop-at.invariant

pub returns-in-Err-clause-fault : goal.returns-in-Err-clause-fault
returns-in-Err-clause-fault g c = λ is.
    let long = cleared_long g.D.Disk.content g.D.Disk.control c.loop-at.at c.args.disks.now.items c.loop-at.disks.items c.loop-at.invariant in
    let at = got_at c.loop-at.disks.items c.loop-at.at c.index_mut.result.now (omega (arith, long, c.len-at-end.ensures, c.loop-at-test.true, c.args.disks.now.ok.0)) c.index_mut.ensures.value in
    failing_step g.D.Disk.content g.D.Disk.control c.loop-at.at c.args.disks.now.items c.loop-at.disks.items c.index_mut.result.now c.clear.new.disk c.loop-at.invariant at (c.in-Err.ensures.fault is)
