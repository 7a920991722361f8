use Rattle.partition_commands.proofs.InfallibleRows.{row_unfailing}
use Rattle.partition_commands.proofs.laws.rows_stay_infallible.Goals as goal

pub returns : goal.returns
returns g c = row_unfailing g.D.Disk.content g.D.Disk.control
