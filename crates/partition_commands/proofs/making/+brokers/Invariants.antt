use Rattle.std.proofs.Common.{vec_len}
use Rattle.partition_commands.proofs.making.+brokers.Given as goal

abbrev pub decreases-brokers : goal.decreases-brokers
decreases-brokers g l = vec_len l.disks.now
