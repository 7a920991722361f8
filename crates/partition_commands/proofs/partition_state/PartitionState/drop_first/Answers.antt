use Rattle.std.proofs.Common.{◌∙◌, ap, refl, Err}
use Rattle.partition_commands.proofs.Staying.{stays_at}
use Rattle.partition_commands.proofs.Writes.{never}
use Rattle.partition_commands.proofs.partition_state.PartitionState.drop_first.Goals as goal

pub returns-in-Err-NoMemory-clause-err : goal.returns-in-Err-NoMemory-clause-err
returns-in-Err-NoMemory-clause-err g c =
    stays_at g.D.Disk.content g.D.Disk.control c.args.self.now c.args.b c.at_mut-node.result.now c.drop_first.new.self _ c.at_mut-node.ensures.value
    (c.drop_first.ensures.no_memory (c.in-Err-NoMemory.is ∙ ap Err c.in-Err-NoMemory.field-0-is))
    (c.drop_first.ensures.control, c.drop_first.ensures.quiet (never (c.in-Err-NoMemory.is ∙ ap Err c.in-Err-NoMemory.field-0-is) (λ no. cc))) refl
