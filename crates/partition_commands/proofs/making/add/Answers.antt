use Rattle.std.proofs.Common.{◌≡◌, subst, Bool}
use Rattle.broker_log.specs.Seen.{OnDisk}
use Rattle.partition_commands.specs.declared.partition_state.Node.{Node}
use Rattle.partition_commands.specs.Fresh.{IsMadeOver, is_first}
use Rattle.partition_commands.proofs.FreshDisks.{laid_more}
use Rattle.partition_commands.proofs.FreshLeft.{first_is, refused_made, refused_wider}
use Rattle.partition_commands.proofs.making.add.Goals as goal

pub returns-in-Ok-push-clause-ok : goal.returns-in-Ok-push-clause-ok
returns-in-Ok-push-clause-ok g c =
    let first = first_is c.args.nodes.now.items c.is_empty-leads.result _ c.args.nodes.now.ok.0 c.is_empty-leads.ensures in
    record {
      node = c.in-Ok.node;
      after = c.in-Ok-push.ensures.items;
      made = subst (λ (b : Bool). IsMadeOver g.D.Disk.control g.D.Disk.content b c.args.disk c.in-Ok.node) first c.in-Ok.ensures.node;
      seen = c.in-Ok.ensures.seen;
    }

pub returns-in-Ok-push-clause-laid : goal.returns-in-Ok-push-clause-laid
returns-in-Ok-push-clause-laid g c = λ laid. rw c.in-Ok-push.ensures.items (laid_more c.args.settings c.args.nodes.now.items c.in-Ok.node laid c.in-Ok.ensures.laid)

pub returns-in-Err-push-clause-err : goal.returns-in-Err-push-clause-err
returns-in-Err-push-clause-err g c =
    let first = first_is c.args.nodes.now.items c.is_empty-leads.result _ c.args.nodes.now.ok.0 c.is_empty-leads.ensures in
    refused_made g.D.Disk.content g.D.Disk.control (is_first c.args.nodes.now.items) c.args.disk c.close.result c.in-Ok.node
    (subst (λ (b : Bool). IsMadeOver g.D.Disk.control g.D.Disk.content b c.args.disk c.in-Ok.node) first c.in-Ok.ensures.node)
    (subst (λ (x : Node g.row.D.Denot). OnDisk x.log (λ d. ◌≡◌ {A = g.row.D.Denot} c.close.result d)) c.in-Err-push.ensures.value_returned c.close.ensures.disk)
