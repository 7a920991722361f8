use Rattle.std.proofs.Common.{◌≡◌}
use Rattle.run_yard.proofs.Ran.{begins, next_ready, goes_behind, refused_late}
use Rattle.run_yard.proofs.UsesOf.{used_then}
use Rattle.run_yard.proofs.Stopped.{stopped_next, stopped_behind}
use Rattle.run_yard.proofs.runs.run_parts.Goals as goal

pub loop-part-init : goal.loop-part-init
loop-part-init g c =
    let rest : c.into_iter-part-iterator.result.rest.items ≡ c.args.parts = cc in
    begins g.Y.D.Disk g.Y.S.Store g.Y.M.MetaLog c.args.config c.args.parts c.into_iter-part-iterator.result.rest.items c.new-text.result.items (g.Y.Yard.held c.args.yard.now) (g.Y.Yard.control c.args.yard.now)
    rest c.new-text.ensures.items c.requires.numbered c.requires.ready c.requires.fit c.requires.ends

pub run_part-requires-clause-ready : goal.run_part-requires-clause-ready
run_part-requires-clause-ready g c =
    next_ready g.Y.D.Disk g.Y.S.Store g.Y.M.MetaLog c.args.config c.args.parts c.loop-part.part-iterator.rest.items c.next.new.self.rest.items c.in-Some.part (g.Y.Yard.held c.args.yard.now) (g.Y.Yard.held c.loop-part.yard)
    (g.Y.Yard.control c.args.yard.now) (g.Y.Yard.control c.loop-part.yard) c.loop-part.text.items c.in-Some.ensures.steps.0 c.loop-part.invariant

pub returns-in-Err-clause-refused : goal.returns-in-Err-clause-refused
returns-in-Err-clause-refused g c =
    let so = c.loop-part.invariant in
    refused_late g.Y.D.Disk g.Y.S.Store g.Y.M.MetaLog c.args.config.brokers (g.Y.Yard.held c.args.yard.now) (g.Y.Yard.held c.loop-part.yard) (g.Y.Yard.held c.run_part.new.yard)
    (g.Y.Yard.control c.args.yard.now) (g.Y.Yard.control c.loop-part.yard) (g.Y.Yard.control c.run_part.new.yard) c.in-Err.why so.is_observable so.more so.text_is.uses.never_falls c.in-Err.ensures.plain c.in-Err.ensures.refused

pub returns-in-Err-clause-err : goal.returns-in-Err-clause-err
returns-in-Err-clause-err g c =
    let so = c.loop-part.invariant in
    used_then so.text_is.came (g.Y.Yard.control c.args.yard.now) (g.Y.Yard.control c.loop-part.yard) (g.Y.Yard.control c.run_part.new.yard) so.text_is.uses c.in-Err.ensures.err

pub loop-part-preserved : goal.loop-part-preserved
loop-part-preserved g c =
    goes_behind g.Y.D.Disk g.Y.S.Store g.Y.M.MetaLog c.args.config c.args.parts c.loop-part.part-iterator.rest.items c.next.new.self.rest.items c.in-Some.part (g.Y.Yard.held c.args.yard.now) (g.Y.Yard.held c.loop-part.yard)
    (g.Y.Yard.held c.run_part.new.yard) (g.Y.Yard.control c.args.yard.now) (g.Y.Yard.control c.loop-part.yard) (g.Y.Yard.control c.run_part.new.yard) c.loop-part.text.items c.in-Ok.printed.items c.in-Ok-joined.more.items
    c.in-Some.ensures.steps.0 c.loop-part.invariant c.in-Ok.ensures.only c.in-Ok.ensures.more c.in-Ok.ensures.text c.in-Ok-joined.ensures

pub returns-in-Err-clause-stopped : goal.returns-in-Err-clause-stopped
returns-in-Err-clause-stopped g c =
    stopped_next g.Y.D.Disk g.Y.S.Store g.Y.M.MetaLog c.args.config c.args.parts c.loop-part.part-iterator.rest.items c.next.new.self.rest.items c.in-Some.part (g.Y.Yard.held c.args.yard.now) (g.Y.Yard.held c.loop-part.yard)
    (g.Y.Yard.held c.run_part.new.yard) (g.Y.Yard.control c.args.yard.now) (g.Y.Yard.control c.loop-part.yard) c.loop-part.text.items c.in-Some.ensures.steps.0 c.loop-part.invariant c.in-Err.ensures.stopped

pub returns-in_default-clause-stopped : goal.returns-in_default-clause-stopped
returns-in_default-clause-stopped g c =
    stopped_behind g.Y.D.Disk g.Y.S.Store g.Y.M.MetaLog c.args.config c.args.parts c.loop-part.part-iterator.rest.items c.next.new.self.rest.items c.in-Some.part (g.Y.Yard.held c.args.yard.now) (g.Y.Yard.held c.loop-part.yard)
    (g.Y.Yard.held c.run_part.new.yard) (g.Y.Yard.control c.args.yard.now) (g.Y.Yard.control c.loop-part.yard) (g.Y.Yard.control c.run_part.new.yard) c.loop-part.text.items c.in-Ok.printed.items
    c.in-Some.ensures.steps.0 c.loop-part.invariant c.in-Ok.ensures.only c.in-Ok.ensures.more c.in-Ok.ensures.text
