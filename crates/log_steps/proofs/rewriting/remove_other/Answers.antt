use Rattle.log_steps.proofs.Fates.{ok_if_went}
use Rattle.log_steps.proofs.Removed.{stays, one_stays, one_leaves, one_gone}
use Rattle.log_steps.proofs.rewriting.remove_other.Goals as goal

pub returns-then-is_other-clause-since : goal.returns-then-is_other-clause-since
returns-then-is_other-clause-since g c =
    let content = g.D.Disk.content in
    one_leaves c.args.extents.now (content c.args.disk.now) c.args.name (content c.remove.new.self) _ c.remove.ensures.content (c.is_other.ensures.0 c.if-is_other.true)

pub returns-then-is_other-clause-ok : goal.returns-then-is_other-clause-ok
returns-then-is_other-clause-ok g c =
    let content = g.D.Disk.content in
    ok_if_went c.remove.result _
    (λ went. one_gone c.args.extents.now (content c.args.disk.now) c.args.name (content c.remove.new.self) _ c.remove.ensures.content (c.is_other.ensures.0 c.if-is_other.true) (λ b m. m.went went))

pub returns-else-is_other-clause-since : goal.returns-else-is_other-clause-since
returns-else-is_other-clause-since g c = stays c.args.extents.now (g.D.Disk.content c.args.disk.now)

pub returns-else-is_other-clause-ok : goal.returns-else-is_other-clause-ok
returns-else-is_other-clause-ok g c =
    one_stays c.args.extents.now (g.D.Disk.content c.args.disk.now) c.args.name (λ other. (let t = c.is_other.ensures.1 other in cc))
