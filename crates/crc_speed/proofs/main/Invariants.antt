use Rattle.std.proofs.Common.{◌≡◌, length}
use Rattle.crc_speed.proofs.main.Given as goal

abbrev pub invariant-loop-number : goal.invariant-loop-number
invariant-loop-number l = length l.bytes.items ≡ length l.copy.items
