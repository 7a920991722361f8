use Rattle.std.proofs.Common.{◌∷◌, [], drop, arith}
use Rattle.std.proofs.lemmas.List.{drop-append-le, length-append}
use Rattle.remote_view.proofs.Running.{runs_behind}
use Rattle.remote_view.proofs.epoch_ranges.EpochRanges.push.Goals as goal

pub invariant_of-self-2 : goal.invariant_of-self-2
invariant_of-self-2 c =
    let treads = c.self.inside.treads in
    let more = drop-append-le c.self.inside.gone treads (c.args.tread ∷ []) c.self.invariant.within in
    let longer = length-append treads (c.args.tread ∷ []) in
    rw c.in_ok-push.ensures.ok (record {
      within = omega (arith, longer, c.self.invariant.within);
      all = rw more (runs_behind c.self.inside.run c.grown-self-inside.result (drop c.self.inside.gone treads) c.args.tread c.self.invariant.all c.grown-self-inside.ensures);
    })
