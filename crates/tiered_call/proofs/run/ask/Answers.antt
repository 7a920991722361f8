use Rattle.std.proofs.Common.{ℕ, List, Option, subst}
use Rattle.device_yard.specs.YardContent.{IsFirstName, IsNameInYard}
use Rattle.tiered_call.proofs.run.ask.Goals as goal

pub returns-in-Ok-None-clause-nameless : goal.returns-in-Ok-None-clause-nameless
returns-in-Ok-None-clause-nameless g c = λ is_observable.
    subst (λ (name : Option (List ℕ)). IsFirstName (IsNameInYard g.Y.D.Disk.content g.Y.S.Store.content g.Y.M.MetaLog.content (g.Y.Yard.held c.args.yard.now)) name) c.in-Ok-None.field-0-is (c.in-Ok-None.ensures.first is_observable)
