use Rattle.tier_fetch.specs.Turns.{goes_with}
use Rattle.tier_fetch.proofs.Loading.{not_cached}
use Rattle.tier_fetch.proofs.reading.find_span.Goals as goal

pub returns-in-None : goal.returns-in-None
returns-in-None g c =
    not_cached g.S.Store.content g.S.Store.control c.args.wanted.now c.args.piece.now c.args.view.now (goes_with c.args.piece.now c.load.result) _ c.args.cache.now _ c.load.new.cache c.args.store.now c.load.new.store c.in-None.ensures.span c.in-None.ensures.cache c.load.ensures
