use Rattle.std.proofs.Common.{inl}
use Rattle.run_yard.proofs.Looks.{refused_then, if_err_map}
use Rattle.run_yard.proofs.Stopped.{on_err_map, stopped_so}
use Rattle.run_yard.proofs.runs.run_in_yard.Goals as goal

pub returns-in-Ok-clause-refused : goal.returns-in-Ok-clause-refused
returns-in-Ok-clause-refused g c =
    if_err_map c.run_parts.result _ _ (λ why is.
    refused_then g.Y.D.Disk.content g.Y.S.Store.content g.Y.M.MetaLog.content c.args.config.brokers (g.Y.Yard.held c.args.yard.now) (g.Y.Yard.held c.check_all.new.yard) (g.Y.Yard.held c.run_parts.new.yard)
    (g.Y.Yard.control c.args.yard.now) (g.Y.Yard.control c.check_all.new.yard) (g.Y.Yard.control c.run_parts.new.yard) why c.check_all.ensures.is_observable c.check_all.ensures.read c.check_all.ensures.more c.check_all.ensures.used.uses.never_falls is)
    c.run_parts.ensures.refused

pub returns-in-Ok-clause-stopped : goal.returns-in-Ok-clause-stopped
returns-in-Ok-clause-stopped g c =
    on_err_map c.run_parts.result _ _ (λ stopped.
    stopped_so g.Y.D.Disk g.Y.S.Store g.Y.M.MetaLog c.args.config c.args.parts (g.Y.Yard.held c.args.yard.now) (g.Y.Yard.held c.check_all.new.yard) (g.Y.Yard.held c.run_parts.new.yard)
    c.check_all.ensures.is_observable c.check_all.ensures.read stopped) c.run_parts.ensures.stopped

pub returns-in-Err-clause-stopped : goal.returns-in-Err-clause-stopped
returns-in-Err-clause-stopped g c = λ t. inl (c.check_all.ensures.read t)
