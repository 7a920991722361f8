use Rattle.memory_yard.proofs.Logs.{never_rose}
use Rattle.memory_yard.proofs.log_place.open.Goals as goal

pub returns-in-Err-default-Failed-clause-infallible : goal.returns-in-Err-default-Failed-clause-infallible
returns-in-Err-default-Failed-clause-infallible c = λ infallible.
    let told = c.in-Err-default-Failed.ensures in
    absurd (never_rose _ _ c.requires.new.faults (told.cause c.in-Err-default-Failed.field-0-1-is) (told.control_err.no_fault infallible))
