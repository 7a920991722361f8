use Rattle.std.proofs.Common.{subst}
use Rattle.std.specs.Prelude.{IfOk}
use Rattle.plain_log.specs.declared.command.Command.TheVariants.{Join}
use Rattle.laws_partition.specs.declared.start_snapshot.StartSnapshot.{StartSnapshot}
use Rattle.partition_commands.specs.Partition.{AtNode}
use Rattle.partition_world.specs.Turns.{OwnOnRow}
use Rattle.partition_world.proofs.tier.RemoteTier.restart.Goals as goal

pub returns-clause-row : goal.returns-clause-row
returns-clause-row g c =
    subst (λ (recorded : StartSnapshot). IfOk c.begin_anew.result (λ outcome. AtNode c.args.partition_state.now c.args.broker.0 (λ x. OwnOnRow g.D.Disk c.args.partition_state.now c.args.self.now c.args.broker.0 x recorded Join outcome c.begin_anew.new.partition_state c.begin_anew.new.self)))
    c.in_ok-recorded.ensures c.begin_anew.ensures.row
