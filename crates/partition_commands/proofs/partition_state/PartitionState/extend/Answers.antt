use Rattle.std.proofs.Common.{◌∙◌, ap, refl, Err}
use Rattle.partition_commands.proofs.Staying.{stays_at}
use Rattle.partition_commands.proofs.Writes.{never}
use Rattle.partition_commands.proofs.partition_state.PartitionState.extend.Goals as goal

pub returns-in-Err-NoMemory-clause-err : goal.returns-in-Err-NoMemory-clause-err
returns-in-Err-NoMemory-clause-err g c =
    stays_at g.D.Disk.content g.D.Disk.control c.args.self.now c.args.b c.at_mut-node.result.now c.append.new.self _ c.at_mut-node.ensures.value
    (c.append.ensures.no_memory (c.in-Err-NoMemory.is ∙ ap Err c.in-Err-NoMemory.field-0-is))
    (c.append.ensures.control, c.append.ensures.quiet (never (c.in-Err-NoMemory.is ∙ ap Err c.in-Err-NoMemory.field-0-is) (λ no. cc))) refl
