use Rattle.std.proofs.Common.{sym, ap, subst, refl, Bool}
use Rattle.std.specs.Prelude.{Err}
use Rattle.partition_commands.specs.Fresh.{IsMadeOver, RefusesOver}
use Rattle.partition_commands.specs.declared.refusal.WorldRefusal.TheVariants.{DiskFault}
use Rattle.partition_commands.proofs.FreshLeft.{entered_over, refused_over, refused_wider, refusal_is}
use Rattle.partition_commands.proofs.making.broker.Goals as goal

pub returns-in-Err-clause-err : goal.returns-in-Err-clause-err
returns-in-Err-clause-err g c = refused_wider g.D.Disk.content g.D.Disk.control c.args.leads c.args.disk c.in-Err.refused.0 c.in-Err.refused.1 c.in-Err.ensures.err

pub returns-in-Ok-begin-clause-node : goal.returns-in-Ok-begin-clause-node
returns-in-Ok-begin-clause-node g c =
    let made = c.in-Ok.ensures.node in
    subst (λ (b : Bool). IsMadeOver g.D.Disk.control g.D.Disk.content b c.args.disk c.begin.new.self) (sym c.if-not-leads.false)
    (entered_over g.D.Disk.content g.D.Disk.control c.args.disk c.in-Ok.node.log c.begin.new.self.log made.lasts made.no_fault made.leaves (λ told. c.begin.ensures.leaves (c.in-Ok.ensures.seen told)) c.begin.ensures.control c.begin.new.self refl
    c.in-Ok-begin.ensures.node (c.in-Ok-begin.ensures.no_fault (λ bad. cc)))

pub returns-in-Err-begin-clause-err : goal.returns-in-Err-begin-clause-err
returns-in-Err-begin-clause-err g c =
    let made = c.in-Ok.ensures.node in
    subst (λ (b : Bool). RefusesOver g.D.Disk.control g.D.Disk.content b c.args.disk c.close.result c.in-Err-begin.why) (sym c.if-not-leads.false)
    (refused_over g.D.Disk.content g.D.Disk.control c.args.disk c.in-Ok.node.log c.begin.new.self.log made.lasts made.no_fault made.leaves (λ told. c.begin.ensures.leaves (c.in-Ok.ensures.seen told)) c.begin.ensures.control c.close.result c.in-Err-begin.why
    (λ fault. c.in-Err-begin.ensures.once (ap Err fault)) (λ other. c.in-Err-begin.ensures.no_fault (λ is. other (refusal_is c.in-Err-begin.why DiskFault is))) c.close.ensures.disk)
