use Rattle.partition_commands.proofs.CountingRows.{rows_count}
use Rattle.partition_commands.proofs.laws.rows_count_faults.Goals as goal

pub returns : goal.returns
returns g c = rows_count g.D.Disk.content g.D.Disk.control
