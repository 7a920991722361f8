use Rattle.run_threaded.proofs.Leading.{leads_more}
use Rattle.run_threaded.proofs.traced.Traced.step_with.Goals as goal

pub invariant_of-self-in_default-stepped : goal.invariant_of-self-in_default-stepped
invariant_of-self-in_default-stepped g c =
    λ goes. leads_more g.D.Disk g.S.Store g.M.MetaLog c.self.inside.script c.self.inside.place c.self.inside.partition c.self.inside.turns c.push.new.self c.args.actor c.self.inside.world
    c.step_with-stepped.result c.step_with-stepped.new.self (c.self.invariant goes) c.in-Ok.ensures.ok c.in_default-stepped.not-NoMemory c.step_with-stepped.ensures.steps
