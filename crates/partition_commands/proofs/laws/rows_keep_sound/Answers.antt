use Rattle.partition_commands.proofs.SoundLaw.{row_sound}
use Rattle.partition_commands.proofs.laws.rows_keep_sound.Goals as goal

pub returns : goal.returns
returns g c = row_sound g.D.Disk.content g.D.Disk.control
