use Rattle.partition_commands.proofs.LastingRows.{rows_last}
use Rattle.partition_commands.proofs.laws.rows_last.Goals as goal

pub returns : goal.returns
returns g c = rows_last g.D.Disk.content g.D.Disk.control
