use Rattle.std.proofs.Common.{◌≡◌, ◌∙◌, ap, sym, ◌-◌, length, arith}
use Rattle.log_terms.specs.Batch.{base_of, epoch_of, last_offset_delta_of}
use Rattle.plain_log.specs.declared.state.Role.TheVariants.{Leads}
use Rattle.partition_commands.specs.TurnsOfLog.{MayPut}
use Rattle.partition_commands.proofs.Staying.{at_node}
use Rattle.partition_commands.proofs.Putting.{leads_role, may_put, is_ok_of}
use Rattle.partition_commands.proofs.partition_state.PartitionState.append.Goals as goal

pub put-requires-clause-fits : goal.put-requires-clause-fits
put-requires-clause-fits g c =
    let node = c.get-node.result.now in
    let batch = c.as_slice.result.now in
    let is = c.as_slice.ensures.value in
    let head = c.in-Ok.ensures.head in
    let role : node.role ≡ Leads c.in-Some.epoch = leads_role node.role c.in-Some.epoch (sym c.leading.ensures ∙ c.in-Some.is) in
    let low = c.if-end-gt-OFFSET_LIMIT.false in
    let sum = c.saturating_add-end.ensures in
    let some = c.requires.fit.some in
    let delta : last_offset_delta_of batch ≡ length c.args.recs.now - 1 = ap last_offset_delta_of is ∙ head.last_offset_delta in
    at_node c.args.self.now c.args.b node (λ x. MayPut x batch c.end-base.result (c.saturating_add-end.result - 1) c.in-Some.epoch) c.get-node.ensures
    (may_put node batch c.end-base.result c.saturating_add-end.result c.in-Some.epoch (length c.args.recs.now) (c.requires.sound.nodes c.args.b node c.get-node.ensures) role (sym c.end-base.ensures)
    (is_ok_of batch c.in-Ok.batch.items _ is c.in-Ok.ensures.checked) (ap base_of is ∙ head.base_offset) (ap epoch_of is ∙ head.leader_epoch)
    (omega (arith, delta, some)) (omega (arith, sum, low)) low)
