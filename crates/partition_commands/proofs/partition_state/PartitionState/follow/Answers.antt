use Rattle.std.proofs.Common.{◌≡◌, ◌∙◌, ◌<◌, ◌≤◌, ap, sym, Some, true, arith}
use Rattle.std.specs.Prelude.{option_copied}
use Rattle.plain_log.specs.State.{joined}
use Rattle.partition_commands.specs.Partition.{is_up, end_of, local_of, the_leader}
use Rattle.partition_commands.specs.TurnsOfLog.{Notes}
use Rattle.partition_commands.specs.TurnsOfFollowers.{IsCurrent, TakeRow, FollowRow}
use Rattle.partition_commands.proofs.Writes.{ok_more}
use Rattle.partition_commands.proofs.Staying.{at_node}
use Rattle.partition_commands.proofs.Putting.{of_node}
use Rattle.partition_commands.proofs.Shown.{some_at}
use Rattle.partition_commands.proofs.SoundLaw.{leader_at}
use Rattle.partition_commands.proofs.FollowedOn.{take_follows}
use Rattle.partition_commands.proofs.partition_state.PartitionState.follow.Goals as goal

pub returns-clause-row : goal.returns-clause-row
returns-clause-row g c =
    let content = g.D.Disk.content in
    let control = g.D.Disk.control in
    let h = c.args.self.now in
    let b = c.args.b in
    let x = c.get-node.result.now in
    let y = c.in-Some-leader.leader.now in
    let lead : the_leader h ≡ Some y = sym c.leader.ensures ∙ ap option_copied c.in-Some-leader.is in
    let up : is_up x ≡ true = sym c.is_up.ensures ∙ c.if-not-is_up.false in
    let fresh = c.if-epoch-self.false in
    let now : IsCurrent h (joined x.role) = some_at (λ e. h.registry.epoch ≤ e) (joined x.role) c.in-Some.epoch (sym c.joined.ensures ∙ c.in-Some.is) (omega (arith, fresh)) in
    let local : local_of y ≡ c.local_start-local.result = sym c.local_start-local.ensures.is in
    let past = c.if-bound-end.false in
    let there = c.if-end-local.false in
    let lt : end_of x < end_of y = omega (arith, past, c.end-end.ensures, c.end-bound.ensures) in
    let le : local_of y ≤ end_of x = omega (arith, there, local, c.end-end.ensures) in
    ok_more _ _ c.take.result
    (λ turned at. at_node h b x (λ z. FollowRow content control h b z c.args.limit turned c.take.new.self) c.get-node.ensures
    (take_follows content control h b x y _ c.args.limit turned c.take.new.self up now lead lt le
    (of_node h b x (λ z. Notes h z c.notes-recorded.result) c.get-node.ensures c.notes-recorded.ensures)
    (of_node h h.registry.leader.0 y (λ z. TakeRow content control h h.registry.leader.0 z _ c.args.limit turned c.take.new.self) (leader_at h y lead) at)))
    c.take.ensures.row
