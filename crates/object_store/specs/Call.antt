-- The kinds of call of a store, distinguished by a number.
use Rattle.std.specs.Prelude.{ℕ}
use Rattle.object_store.specs.declared.call.StoreCall.{StoreCall}
use Rattle.object_store.specs.declared.call.StoreCall.TheVariants.{Put, Get, Delete, Keys}

-- the number of a kind
abbrev pub call_code : StoreCall → ℕ
call_code Put = 0
call_code Get = 1
call_code Delete = 2
call_code Keys = 3
