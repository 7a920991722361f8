use Rattle.std.proofs.Common.{◌∙◌, ap, sym, subst, ◌<◌, Option, ℕ}
use Rattle.std.specs.Prelude.{IsSome, IsSomeAnd, not}
use Rattle.partition_commands.specs.TurnsOfFollowers.{ExtendRow, FollowOnRow}
use Rattle.partition_commands.proofs.Writes.{ok_more}
use Rattle.partition_commands.proofs.Staying.{at_node}
use Rattle.partition_commands.proofs.Putting.{of_node}
use Rattle.partition_commands.proofs.FollowedOn.{taken_run, extend_follows}
use Rattle.partition_commands.proofs.partition_state.PartitionState.follow_on.Goals as goal

pub returns-clause-row : goal.returns-clause-row
returns-clause-row g c =
    let content = g.D.Disk.content in
    let control = g.D.Disk.control in
    let h = c.args.self.now in
    let b = c.args.b in
    let x = c.get-node.result.now in
    let snapshot = c.args.snapshot.now in
    let run = c.as_slice-2.result.now in
    ok_more _ _ c.extend.result (λ answer at. at_node h b x (λ y. FollowOnRow content control h b y snapshot answer c.extend.new.self) c.get-node.ensures
    (extend_follows content control h b x snapshot run answer c.extend.new.self (
      c.if-snapshot-node.false,
      sym c.is_up.ensures ∙ c.if-not-is_up.false,
      λ stale. c.is_behind.ensures.not c.if-is_behind.false (subst (λ (o : Option ℕ). IsSomeAnd o (λ e. e < h.registry.epoch)) (sym c.followed.ensures) stale),
    )
    (c.if-snapshot-end.false ∙ c.end-end.ensures)
    (subst (λ (o : Option ℕ). IsSome o) c.joined.ensures (c.is_none.ensures ∙ ap not c.if-is_none.false))
    (taken_run x c.takes_checked.result c.as_slice.result.now _ c.takes_checked.ensures c.if-not-takes_checked.false c.as_slice.ensures.all)
    c.as_slice-2.ensures.all
    (of_node h b x (λ y. ExtendRow content control h b y run answer c.extend.new.self) c.get-node.ensures at)))
    c.extend.ensures.row
