use Rattle.partition_commands.proofs.Refinement.{row_refined}
use Rattle.partition_commands.proofs.laws.rows_are_seen.Goals as goal

pub returns : goal.returns
returns g c = row_refined g.D.Disk.content g.D.Disk.control
