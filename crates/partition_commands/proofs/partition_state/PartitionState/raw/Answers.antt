use Rattle.std.proofs.Common.{◌≡◌, ◌∙◌, ap, sym, ◌-◌, arith}
use Rattle.log_terms.specs.Batch.{base_of, epoch_of, last_offset_delta_of}
use Rattle.record_batch.specs.Stamp.{stamped}
use Rattle.plain_log.specs.declared.state.Role.TheVariants.{Leads}
use Rattle.partition_commands.specs.TurnsOfLog.{MayPut}
use Rattle.partition_commands.proofs.Staying.{at_node}
use Rattle.partition_commands.proofs.Putting.{leads_role, may_put, ok_of, stamped_ok}
use Rattle.partition_commands.proofs.partition_state.PartitionState.raw.Goals as goal

pub put-requires-clause-fits : goal.put-requires-clause-fits
put-requires-clause-fits g c =
    let node = c.get-node.result.now in
    let batch = c.as_slice.result.now in
    let bytes = c.args.bytes.now in
    let base = c.end-base.result in
    let e = c.in-Some.epoch in
    let is : batch ≡ stamped bytes base e = c.as_slice.ensures.value ∙ c.in_ok-batch.ensures.is in
    let fields = c.in_ok-batch.ensures.fields in
    let role : node.role ≡ Leads e = leads_role node.role e (sym c.leading.ensures ∙ c.in-Some.is) in
    let low = c.if-end-gt-OFFSET_LIMIT.false in
    let sum = c.saturating_add-end.ensures in
    let delta : last_offset_delta_of batch ≡ last_offset_delta_of bytes = ap last_offset_delta_of is ∙ fields.last_offset_delta in
    let count = c.in-Ok.ensures.ok.1 in
    at_node c.args.self.now c.args.b node (λ x. MayPut x batch base (c.saturating_add-end.result - 1) e) c.get-node.ensures
    (may_put node batch base c.saturating_add-end.result e c.in-Ok.count (c.requires.sound.nodes c.args.b node c.get-node.ensures) role (sym c.end-base.ensures)
    (ok_of batch (stamped bytes base e) is (stamped_ok c.stamped_is_checked.ensures bytes base e c.in-Ok.ensures.ok.0)) (ap base_of is ∙ fields.base_offset) (ap epoch_of is ∙ fields.leader_epoch)
    (omega (arith, delta, count)) (omega (arith, sum, low)) low)
