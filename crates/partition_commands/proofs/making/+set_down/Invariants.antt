use Rattle.std.proofs.Common.{vec_len}
use Rattle.partition_commands.proofs.making.+set_down.Given as goal

abbrev pub decreases-set_down : goal.decreases-set_down
decreases-set_down g l = vec_len l.disks.now
