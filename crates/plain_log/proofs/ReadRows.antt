-- Rows that change nothing: copy, fetch, offset, and commands that the plain log doesn't see.
use Rattle.std.proofs.Common.{◌≡◌, ℕ, Some, None, Option, Bool, true}
use Rattle.std.proofs.lemmas.Option.{none-some}
use Rattle.registry.specs.Calls.{when}
use Rattle.plain_log.specs.declared.answer.Answer.{Answer}
use Rattle.plain_log.specs.declared.answer.Answer.TheVariants.{Ok as OkAnswer, DiskFault, MetaFault, StoreFault, Damaged, Level, CopiedSegment, Overtaken, CopyOff, Run, Offset, NoOffset}
use Rattle.plain_log.specs.declared.command.Which.{Which}
use Rattle.plain_log.specs.declared.command.Which.TheVariants.{At}
use Rattle.plain_log.specs.declared.state.State.{State}
use Rattle.plain_log.specs.declared.state.Broker.{Broker}
use Rattle.plain_log.specs.declared.state.PlainSnapshot.{PlainSnapshot}
use Rattle.plain_log.specs.RowsOfReads.{fetch_row, offset_row}
use Rattle.plain_log.specs.RowsOfTiers.{copy_row, silent_row}
use Rattle.plain_log.proofs.Options.{when_some}

quiet : (p q : State) (b : Bool) → when b p ≡ Some q → p ≡ q
quiet p q b e = (when_some b p q e).1

-- the row of copy
pub copy_same : (p : State) (recorded : Option PlainSnapshot) (answer : Answer) (q : State) → copy_row p recorded answer ≡ Some q → p ≡ q
copy_same p None CopyOff q e = quiet p q true e
copy_same p None MetaFault q e = quiet p q true e
copy_same p None other q e = absurd (none-some q e)
copy_same p (Some recorded) Level q e = quiet p q true e
copy_same p (Some recorded) DiskFault q e = quiet p q true e
copy_same p (Some recorded) (Damaged place k) q e = quiet p q true e
copy_same p (Some recorded) MetaFault q e = quiet p q true e
copy_same p (Some recorded) StoreFault q e = quiet p q true e
copy_same p (Some recorded) (Overtaken state) q e = quiet p q true e
copy_same p (Some recorded) (CopiedSegment id start last) q e = quiet p q true e
copy_same p (Some recorded) other q e = absurd (none-some q e)

-- the row of fetch
pub fetch_same : (p : State) (x : Broker) (offset limit : ℕ) (recorded : Option PlainSnapshot) (answer : Answer) (q : State)
    → fetch_row p x offset limit recorded answer ≡ Some q → p ≡ q
fetch_same p x offset limit None (Run tier size stop bytes) q e = quiet p q _ e
fetch_same p x offset limit None DiskFault q e = quiet p q true e
fetch_same p x offset limit None (Damaged place k) q e = quiet p q true e
fetch_same p x offset limit None other q e = absurd (none-some q e)
fetch_same p x offset limit (Some recorded) (Run tier size stop bytes) q e = quiet p q _ e
fetch_same p x offset limit (Some recorded) MetaFault q e = quiet p q true e
fetch_same p x offset limit (Some recorded) StoreFault q e = quiet p q true e
fetch_same p x offset limit (Some recorded) (Damaged place k) q e = quiet p q true e
fetch_same p x offset limit (Some recorded) other q e = absurd (none-some q e)

-- the row of offset
pub offset_same : (p : State) (x : Broker) (which : Which) (recorded : Option PlainSnapshot) (answer : Answer) (q : State)
    → offset_row p x which recorded answer ≡ Some q → p ≡ q
offset_same p x which None MetaFault q e = quiet p q _ e
offset_same p x which None (Offset n) q e = quiet p q _ e
offset_same p x which None other q e = absurd (none-some q e)
offset_same p x which (Some recorded) (Offset n) q e = quiet p q _ e
offset_same p x which (Some recorded) NoOffset q e = quiet p q _ e
offset_same p x (At ts) (Some recorded) MetaFault q e = quiet p q true e
offset_same p x (At ts) (Some recorded) StoreFault q e = quiet p q true e
offset_same p x (At ts) (Some recorded) DiskFault q e = quiet p q true e
offset_same p x (At ts) (Some recorded) (Damaged place k) q e = quiet p q true e
offset_same p x which (Some recorded) other q e = absurd (none-some q e)

-- the row of what the plain log doesn't see
pub silent_same : (p : State) (answer : Answer) (q : State) → silent_row p answer ≡ Some q → p ≡ q
silent_same p OkAnswer q e = quiet p q true e
silent_same p other q e = absurd (none-some q e)
