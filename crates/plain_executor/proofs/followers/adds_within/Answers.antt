use Rattle.std.proofs.Common.{◌≡◌, ◌+◌, ◌-◌, arith}
use Rattle.std.proofs.lemmas.Grind.{common_steps}
use Rattle.std.proofs.lemmas.List.{drop-take}
use Rattle.plain_executor.proofs.followers.adds_within.Goals as goal

pub returns : goal.returns
returns c =
    let e : c.args.from + (c.args.to - c.args.from) ≡ c.args.to = omega arith in
    let d = rw e at (drop-take c.args.from (c.args.to - c.args.from) c.args.path.now) in
    grind (arith, common_steps, d)
