use Rattle.std.proofs.Common.{◌∷◌, [], ◌++◌, arith}
use Rattle.log_steps.proofs.Lists.{each_join}
use Rattle.local_log.specs.Listing.{IsLaidOut}
use Rattle.local_log.proofs.Listed.{chain_le}
use Rattle.local_log.proofs.Pieces.{chain_snoc}
use Rattle.local_log.proofs.log.LocalLog.local_start.Goals as goal

pub returns-clause-low : goal.returns-clause-low
returns-clause-low g c =
    let are = c.self.invariant.segments in
    let i = c.self.inside in
    let up = chain_le i.local_start (i.closed.items ++ i.active ∷ []) are.chained (each_join IsLaidOut i.closed.items (i.active ∷ []) are.laid (are.active_laid, tt)) in
    let end = chain_snoc i.local_start i.closed.items i.active in
    let low = are.low in
    omega (arith, up, end, low)
