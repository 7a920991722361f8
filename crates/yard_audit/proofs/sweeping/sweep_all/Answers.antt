use Rattle.std.proofs.Common.{◌≡◌, ◌∙◌, ap, List, ℕ, ◌++◌}
use Rattle.yard_audit.proofs.Sweeps.{all_unbegun, all_left, begins, under_more, left_more, swept_more, goes_on}
use Rattle.yard_audit.proofs.sweeping.sweep_all.Goals as goal

pub returns-in_err-partitions-clause-under : goal.returns-in_err-partitions-clause-under
returns-in_err-partitions-clause-under g c = λ t.
    all_unbegun g.Y.D.Disk.content g.Y.S.Store.content g.Y.M.MetaLog.content (g.Y.Yard.held c.args.yard.now) (g.Y.Yard.held c.list.new.yard) (c.in_err-partitions.ensures.rest t)

pub returns-in_err-partitions-clause-left : goal.returns-in_err-partitions-clause-left
returns-in_err-partitions-clause-left g c = λ t.
    all_left g.Y.D.Disk.content g.Y.S.Store.content g.Y.M.MetaLog.content (g.Y.Yard.held c.args.yard.now) (g.Y.Yard.held c.list.new.yard) (c.in_err-partitions.ensures.rest t)

pub loop-partition-init : goal.loop-partition-init
loop-partition-init g c =
    let rest : c.into_iter-partition-iterator.result.rest.items ≡ c.in_ok-partitions.partitions = cc in
    let told = c.in_ok-partitions.ensures in
    begins g.Y.D.Disk.content g.Y.S.Store.content g.Y.M.MetaLog.content c.in_ok-partitions.partitions c.into_iter-partition-iterator.result.rest.items
    (g.Y.Yard.held c.args.yard.now) (g.Y.Yard.held c.list.new.yard) (g.Y.Yard.control c.args.yard.now) (g.Y.Yard.control c.list.new.yard) c.new-text.result.items
    rest c.new-text.ensures.items told.all told.rest told.is_observable told.back

pub returns-in_err-count-clause-under : goal.returns-in_err-count-clause-under
returns-in_err-count-clause-under g c = λ t.
    let told = c.in_err-count.ensures in
    under_more g.Y.D.Disk.content g.Y.S.Store.content g.Y.M.MetaLog.content c.in-Some.partition c.next.new.self.rest.items
    (g.Y.Yard.held c.args.yard.now) (g.Y.Yard.held c.loop-partition.yard) (g.Y.Yard.held c.sweep_one.new.yard) (g.Y.Yard.control c.args.yard.now) (g.Y.Yard.control c.loop-partition.yard)
    c.loop-partition.partition-iterator.rest.items c.loop-partition.text.items c.in-Some.ensures.steps.0 c.loop-partition.invariant told.under told.others t

pub returns-in_default-clause-under : goal.returns-in_default-clause-under
returns-in_default-clause-under g c =
    let told = c.in_ok-count.ensures in
    swept_more g.Y.D.Disk.content g.Y.S.Store.content g.Y.M.MetaLog.content c.in-Some.partition c.next.new.self.rest.items
    (g.Y.Yard.held c.args.yard.now) (g.Y.Yard.held c.loop-partition.yard) (g.Y.Yard.held c.sweep_one.new.yard) (g.Y.Yard.control c.args.yard.now) (g.Y.Yard.control c.loop-partition.yard)
    c.loop-partition.partition-iterator.rest.items c.loop-partition.text.items c.in_ok-count.count c.in-Some.ensures.steps.0 c.loop-partition.invariant told.swept told.others

pub returns-in_default-extend_from_slice-clause-under : goal.returns-in_default-extend_from_slice-clause-under
returns-in_default-extend_from_slice-clause-under g c =
    let told = c.in_ok-count.ensures in
    swept_more g.Y.D.Disk.content g.Y.S.Store.content g.Y.M.MetaLog.content c.in-Some.partition c.next.new.self.rest.items
    (g.Y.Yard.held c.args.yard.now) (g.Y.Yard.held c.loop-partition.yard) (g.Y.Yard.held c.sweep_one.new.yard) (g.Y.Yard.control c.args.yard.now) (g.Y.Yard.control c.loop-partition.yard)
    c.loop-partition.partition-iterator.rest.items c.loop-partition.text.items c.in_ok-count.count c.in-Some.ensures.steps.0 c.loop-partition.invariant told.swept told.others

pub loop-partition-preserved : goal.loop-partition-preserved
loop-partition-preserved g c =
    let told = c.in_ok-count.ensures in
    let line : c.as_slice.result.now ≡ c.in-Ok.line.items = cc in
    goes_on g.Y.D.Disk.content g.Y.S.Store.content g.Y.M.MetaLog.content c.in-Some.partition c.next.new.self.rest.items
    (g.Y.Yard.held c.args.yard.now) (g.Y.Yard.held c.loop-partition.yard) (g.Y.Yard.held c.sweep_one.new.yard) (g.Y.Yard.control c.args.yard.now) (g.Y.Yard.control c.loop-partition.yard)
    (g.Y.Yard.control c.sweep_one.new.yard) c.loop-partition.partition-iterator.rest.items c.loop-partition.text.items c.extend_from_slice.new.self.items c.in_ok-count.count
    c.in-Some.ensures.steps.0 (c.in-Ok-extend_from_slice.ensures.items ∙ ap (λ (l : List ℕ). c.loop-partition.text.items ++ l) (line ∙ c.in-Ok.ensures))
    c.loop-partition.invariant told.swept told.left told.others told.is_observable told.back

pub returns-in_err-count-clause-left : goal.returns-in_err-count-clause-left
returns-in_err-count-clause-left g c =
    let told = c.in_err-count.ensures in
    left_more g.Y.D.Disk.content g.Y.S.Store.content g.Y.M.MetaLog.content c.in-Some.partition c.next.new.self.rest.items
    (g.Y.Yard.held c.args.yard.now) (g.Y.Yard.held c.loop-partition.yard) (g.Y.Yard.held c.sweep_one.new.yard) (g.Y.Yard.control c.args.yard.now) (g.Y.Yard.control c.loop-partition.yard)
    c.loop-partition.partition-iterator.rest.items c.loop-partition.text.items c.in-Some.ensures.steps.0 c.loop-partition.invariant told.left told.others

pub returns-in_default-clause-left : goal.returns-in_default-clause-left
returns-in_default-clause-left g c =
    let told = c.in_ok-count.ensures in
    left_more g.Y.D.Disk.content g.Y.S.Store.content g.Y.M.MetaLog.content c.in-Some.partition c.next.new.self.rest.items
    (g.Y.Yard.held c.args.yard.now) (g.Y.Yard.held c.loop-partition.yard) (g.Y.Yard.held c.sweep_one.new.yard) (g.Y.Yard.control c.args.yard.now) (g.Y.Yard.control c.loop-partition.yard)
    c.loop-partition.partition-iterator.rest.items c.loop-partition.text.items c.in-Some.ensures.steps.0 c.loop-partition.invariant told.left told.others

pub returns-in_default-extend_from_slice-clause-left : goal.returns-in_default-extend_from_slice-clause-left
returns-in_default-extend_from_slice-clause-left g c =
    let told = c.in_ok-count.ensures in
    left_more g.Y.D.Disk.content g.Y.S.Store.content g.Y.M.MetaLog.content c.in-Some.partition c.next.new.self.rest.items
    (g.Y.Yard.held c.args.yard.now) (g.Y.Yard.held c.loop-partition.yard) (g.Y.Yard.held c.sweep_one.new.yard) (g.Y.Yard.control c.args.yard.now) (g.Y.Yard.control c.loop-partition.yard)
    c.loop-partition.partition-iterator.rest.items c.loop-partition.text.items c.in-Some.ensures.steps.0 c.loop-partition.invariant told.left told.others
