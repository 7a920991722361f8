use Rattle.std.proofs.Common.{◌∙◌, ap, refl, Err}
use Rattle.partition_commands.proofs.Snapshots.{cut_low}
use Rattle.partition_commands.proofs.Staying.{stays_at}
use Rattle.partition_commands.proofs.Writes.{never}
use Rattle.partition_commands.proofs.partition_state.PartitionState.join_on.Goals as goal

pub restart_at-requires-clause-within : goal.restart_at-requires-clause-within
restart_at-requires-clause-within g c = rw c.cut_end.ensures (cut_low c.in_ok-line.line c.offset-wanted.result)

pub returns-in-Err-NoMemory-clause-err : goal.returns-in-Err-NoMemory-clause-err
returns-in-Err-NoMemory-clause-err g c =
    stays_at g.D.Disk.content g.D.Disk.control c.args.self.now c.args.b c.at_mut-node.result.now c.restart_at.new.self _ c.at_mut-node.ensures.value
    (c.restart_at.ensures.no_memory (c.in-Err-NoMemory.is ∙ ap Err c.in-Err-NoMemory.field-0-is))
    (c.restart_at.ensures.control, c.restart_at.ensures.quiet (never (c.in-Err-NoMemory.is ∙ ap Err c.in-Err-NoMemory.field-0-is) (λ no. cc))) refl
