use Rattle.index_cache.proofs.Pairs.{found-lookup, put-kept}
use Rattle.index_cache.proofs.cache.IndexCache.keep.Goals as goal

pub returns-in_err-put-clause-again : goal.returns-in_err-put-clause-again
returns-in_err-put-clause-again c =
    let held = c.self.inside.pairs.entries in
    rw (← c.self.view_is) (rw (found-lookup c.args.id.0 held) (λ there. cc (c.in_err-put.ensures.succeeds there)))

pub returns-clause-ok : goal.returns-clause-ok
returns-clause-ok c =
    let held = c.self.inside.pairs in
    rw (← c.self.view_is) (rw (c.in_ok-put.ensures.entries, put-kept held.entries held.cap c.args.id.0 c.args.index))
