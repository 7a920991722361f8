use Rattle.std.proofs.Common.{subst}
use Rattle.std.specs.Prelude.{IsTrue}
use Rattle.tiered_call.proofs.Refused.{still_not_bare}
use Rattle.tiered_call.proofs.run.run_over.Goals as goal

pub run_in_yard-requires-clause-bare : goal.run_in_yard-requires-clause-bare
run_in_yard-requires-clause-bare g c = λ is_observable.
    still_not_bare g.Y.D.Disk.content g.Y.S.Store.content g.Y.M.MetaLog.content (g.Y.Yard.held c.args.yard.now) (g.Y.Yard.held c.ask.new.yard)
    c.in-Ok.ensures.same (c.in-Ok.ensures.nameless (subst IsTrue c.ask.ensures.is_observable is_observable))

pub returns-in-Err-clause-stops : goal.returns-in-Err-clause-stops
returns-in-Err-clause-stops g c = c.in-Err.ensures.stops c.args.script.config.brokers
