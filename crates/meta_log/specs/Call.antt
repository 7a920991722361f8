-- The kinds of call of a metadata log, distinguished by a number.
use Rattle.std.specs.Prelude.{ℕ}
use Rattle.meta_log.specs.declared.call.MetaCall.{MetaCall}
use Rattle.meta_log.specs.declared.call.MetaCall.TheVariants.{Append, Read}

-- the number of a kind
abbrev pub call_code : MetaCall → ℕ
call_code Append = 0
call_code Read = 1
