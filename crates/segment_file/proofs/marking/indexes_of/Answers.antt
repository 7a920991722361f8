use Rattle.std.proofs.Common.{◌∙◌, ap, refl, arith}
use Rattle.sparse_index.specs.Offsets.{OffsetTable}
use Rattle.sparse_index.specs.Times.{TimeTable}
use Rattle.segment_file.specs.declared.placed.Placed.{Placed}
use Rattle.segment_file.proofs.Standing.{AreBytes}
use Rattle.segment_file.proofs.Telling.{placed_same}
use Rattle.segment_file.proofs.Tracking.{next_in, read_there, tells_there, fits_there, may_there, marked_first, marked_more, all_marked, tops_all, indexes_are}
use Rattle.segment_file.proofs.marking.indexes_of.Goals as goal

pub loop-at-init : goal.loop-at-init
loop-at-init c =
    marked_first c.args.base c.args.bytes.now c.args.interval _ c.requires.segment (rw (c.new.ensures, c.new-2.ensures) refl)
    (record { offsets = ap (λ (t : OffsetTable). t.base) c.new.ensures; times = ap (λ (t : TimeTable). t.base) c.new-2.ensures })

pub head_at-head-requires-clause-stands : goal.head_at-head-requires-clause-stands
head_at-head-requires-clause-stands c =
    let n = next_in c.args.base c.args.bytes.now c.args.interval c.loop-at.at c.loop-at.marking c.loop-at.invariant c.loop-at-test.true in
    rw (read_there c.args.base c.args.bytes.now c.args.interval c.loop-at.at c.loop-at.marking n) refl

pub place-batch-requires-clause-small : goal.place-batch-requires-clause-small
place-batch-requires-clause-small c =
    let clean : AreBytes c.args.bytes.now = λ i. let b = c.type_inv.bytes i in omega (arith, b) in
    let n = next_in c.args.base c.args.bytes.now c.args.interval c.loop-at.at c.loop-at.marking c.loop-at.invariant c.loop-at-test.true in
    let t = tells_there c.args.base c.args.bytes.now c.args.interval c.loop-at.at c.loop-at.marking c.head_at-head.result clean n c.head_at-head.ensures in
    let fits = fits_there c.args.base c.args.bytes.now c.args.interval c.loop-at.at c.loop-at.marking n in
    let size = t.size in
    omega (arith, fits.1, size)

pub place-batch-requires-clause-last_fits : goal.place-batch-requires-clause-last_fits
place-batch-requires-clause-last_fits c =
    let clean : AreBytes c.args.bytes.now = λ i. let b = c.type_inv.bytes i in omega (arith, b) in
    let n = next_in c.args.base c.args.bytes.now c.args.interval c.loop-at.at c.loop-at.marking c.loop-at.invariant c.loop-at-test.true in
    let t = tells_there c.args.base c.args.bytes.now c.args.interval c.loop-at.at c.loop-at.marking c.head_at-head.result clean n c.head_at-head.ensures in
    let fits = fits_there c.args.base c.args.bytes.now c.args.interval c.loop-at.at c.loop-at.marking n in
    let base = t.base in
    let delta = t.delta in
    omega (arith, fits.0, base, delta)

pub add-requires-clause-from : goal.add-requires-clause-from
add-requires-clause-from c = c.loop-at.invariant.from

pub add-requires-clause-may : goal.add-requires-clause-may
add-requires-clause-may c =
    let clean : AreBytes c.args.bytes.now = λ i. let b = c.type_inv.bytes i in omega (arith, b) in
    let n = next_in c.args.base c.args.bytes.now c.args.interval c.loop-at.at c.loop-at.marking c.loop-at.invariant c.loop-at-test.true in
    let t = tells_there c.args.base c.args.bytes.now c.args.interval c.loop-at.at c.loop-at.marking c.head_at-head.result clean n c.head_at-head.ensures in
    may_there c.args.base c.args.bytes.now c.args.interval c.loop-at.at c.loop-at.marking c.place-batch.result n
    (c.place-batch.ensures ∙ placed_same c.loop-at.at n.batch c.head_at-head.result t)

pub loop-at-smaller : goal.loop-at-smaller
loop-at-smaller c =
    let to = ap (λ (p : Placed). p.to) c.place-batch.ensures in
    omega (arith, to, c.loop-at-test.true)

pub loop-at-preserved : goal.loop-at-preserved
loop-at-preserved c =
    let clean : AreBytes c.args.bytes.now = λ i. let b = c.type_inv.bytes i in omega (arith, b) in
    let n = next_in c.args.base c.args.bytes.now c.args.interval c.loop-at.at c.loop-at.marking c.loop-at.invariant c.loop-at-test.true in
    let t = tells_there c.args.base c.args.bytes.now c.args.interval c.loop-at.at c.loop-at.marking c.head_at-head.result clean n c.head_at-head.ensures in
    marked_more c.args.base c.args.bytes.now c.args.interval c.loop-at.at c.place-batch.result.to c.loop-at.marking c.add.new.marking c.place-batch.result n
    (c.place-batch.ensures ∙ placed_same c.loop-at.at n.batch c.head_at-head.result t) refl c.in_ok-add.ensures.ok c.in_ok-add.ensures.from

pub add_time-requires-clause-from : goal.add_time-requires-clause-from
add_time-requires-clause-from c = c.loop-at.invariant.from.times

pub add_time-requires-clause-from_base : goal.add_time-requires-clause-from_base
add_time-requires-clause-from_base c =
    (tops_all c.args.base c.args.bytes.now c.args.interval c.loop-at.at c.loop-at.marking
    (all_marked c.args.base c.args.bytes.now c.args.interval c.loop-at.at c.loop-at.marking c.loop-at.invariant (omega (arith, c.loop-at-test.false)))).from_base

pub add_time-requires-clause-near : goal.add_time-requires-clause-near
add_time-requires-clause-near c =
    (tops_all c.args.base c.args.bytes.now c.args.interval c.loop-at.at c.loop-at.marking
    (all_marked c.args.base c.args.bytes.now c.args.interval c.loop-at.at c.loop-at.marking c.loop-at.invariant (omega (arith, c.loop-at-test.false)))).near

pub add_time-requires-clause-above : goal.add_time-requires-clause-above
add_time-requires-clause-above c =
    (tops_all c.args.base c.args.bytes.now c.args.interval c.loop-at.at c.loop-at.marking
    (all_marked c.args.base c.args.bytes.now c.args.interval c.loop-at.at c.loop-at.marking c.loop-at.invariant (omega (arith, c.loop-at-test.false)))).above

pub returns : goal.returns
returns c =
    indexes_are c.args.base c.args.bytes.now c.args.interval c.loop-at.at c.loop-at.marking c.add_time.new.times
    (all_marked c.args.base c.args.bytes.now c.args.interval c.loop-at.at c.loop-at.marking c.loop-at.invariant (omega (arith, c.loop-at-test.false)))
    c.in_ok-add_time.ensures
