-- The number with which the process ends, by how the call ended.
use Rattle.std.specs.Prelude.{ℕ}
use Rattle.tiered_call.specs.declared.status.Status.{Status}
use Rattle.tiered_call.specs.declared.status.Status.TheVariants as status

-- the process ends with 0 where all was done, and else with a number of its own for each cause
abbrev pub number_of : Status → ℕ
number_of status.Ok = 0
number_of status.Usage = 2
number_of (status.BadScript line why) = 3
number_of status.ReadFault = 4
number_of status.WriteFault = 5
number_of status.NoMemory = 6
number_of status.TooLong = 7
number_of status.YardFault = 8
number_of (status.NotEmpty name) = 9
number_of (status.Unsound partition) = 10
number_of (status.Mismatch partition kept asked) = 11
number_of (status.BadRegistry partition at) = 12
