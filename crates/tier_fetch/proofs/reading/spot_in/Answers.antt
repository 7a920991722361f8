use Rattle.std.proofs.Common.{sym, arith}
use Rattle.tier_fetch.proofs.Kept.{entry_kept}
use Rattle.tier_fetch.proofs.reading.spot_in.Goals as goal

pub returns-in-Some-place-clause-low : goal.returns-in-Some-place-clause-low
returns-in-Some-place-clause-low c =
    let kept = entry_kept c.args.piece.now.id c.args.view.now.entries c.in-Some.entry.now c.entries-entries.ensures.kept (sym c.in-Some.ensures) in
    omega (arith, kept.ordered, kept.bounded)
