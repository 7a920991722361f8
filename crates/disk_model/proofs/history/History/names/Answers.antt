use Rattle.std.proofs.Common.{◌∙◌, ap}
use Rattle.disk_model.specs.Kept.{KeptSteps}
use Rattle.disk_model.specs.Steps.{reads}
use Rattle.disk_model.proofs.Listed.{listed}
use Rattle.disk_model.proofs.history.History.names.Goals as goal

pub returns : goal.returns
returns c =
    let past = ap (λ (k : KeptSteps). k.past) c.self.view_is in
    listed c.names.result c.self.inside.shelf (reads c.args.self.now.past) c.names.ensures.names c.names.ensures.sorted (λ n. c.self.invariant.files n ∙ ap (λ p. reads p n) past)
