use Rattle.std.proofs.Common.{◌≡◌, ◌∙◌, ap, List, ℕ, ◌++◌}
use Rattle.yard_audit.proofs.Audits.{begins, goes_on}
use Rattle.yard_audit.proofs.auditing.audit_all.Goals as goal

pub loop-partition-init : goal.loop-partition-init
loop-partition-init g c =
    let rest : c.into_iter-partition-iterator.result.rest.items ≡ c.in_ok-partitions.partitions = cc in
    let told = c.in_ok-partitions.ensures in
    begins g.Y.D.Disk.content g.Y.S.Store.content g.Y.M.MetaLog.content c.in_ok-partitions.partitions c.into_iter-partition-iterator.result.rest.items
    (g.Y.Yard.held c.args.yard.now) (g.Y.Yard.held c.list.new.yard) (g.Y.Yard.control c.args.yard.now) (g.Y.Yard.control c.list.new.yard) c.new-text.result.items
    rest c.new-text.ensures.items told.all told.rest told.is_observable told.back

pub loop-partition-preserved : goal.loop-partition-preserved
loop-partition-preserved g c =
    let told = c.in_ok-verdict.ensures in
    let line : c.as_slice.result.now ≡ c.in-Ok.line.items = cc in
    goes_on g.Y.D.Disk.content g.Y.S.Store.content g.Y.M.MetaLog.content c.in-Some.partition c.in_ok-verdict.verdict c.next.new.self.rest.items
    (g.Y.Yard.held c.args.yard.now) (g.Y.Yard.held c.loop-partition.yard) (g.Y.Yard.held c.audit_one.new.yard)
    (g.Y.Yard.control c.args.yard.now) (g.Y.Yard.control c.loop-partition.yard) (g.Y.Yard.control c.audit_one.new.yard)
    c.loop-partition.partition-iterator.rest.items c.loop-partition.text.items c.extend_from_slice.new.self.items c.loop-partition.unsound c.note.new.unsound
    c.in-Some.ensures.steps.0 (c.in-Ok-extend_from_slice.ensures.items ∙ ap (λ (l : List ℕ). c.loop-partition.text.items ++ l) (line ∙ c.in-Ok.ensures)) c.note.ensures
    c.loop-partition.invariant told.right told.rest told.is_observable told.back
