-- The kinds of call of a disk, distinguished by a number.
use Rattle.std.specs.Prelude.{ℕ}
use Rattle.disk_model.specs.declared.call.DiskCall.{DiskCall}
use Rattle.disk_model.specs.declared.call.DiskCall.TheVariants.{Append, Sync, Read, Cut, Replace}
use Rattle.disk_model.specs.declared.call.DiskCall.TheVariants.{Remove, List as Listing}

-- the number of a kind
abbrev pub call_code : DiskCall → ℕ
call_code Append = 0
call_code Sync = 1
call_code Read = 2
call_code Cut = 3
call_code Replace = 4
call_code Remove = 5
call_code Listing = 6
