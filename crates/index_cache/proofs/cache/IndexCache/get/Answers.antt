use Rattle.std.proofs.Common.{◌∙◌, refl, sym}
use Rattle.index_cache.proofs.Pairs.{found-lookup, promoted-front}
use Rattle.index_cache.proofs.cache.IndexCache.get.Goals as goal

pub returns : goal.returns
returns c =
    let held = c.self.inside.pairs.entries in
    rw (← c.self.view_is) (
      (refl, λ _. tt, rw (c.get.follows.holds-at-none, promoted-front c.args.id.0 held)),
      record { order = tt; answer = c.get.ensures.value ∙ sym (found-lookup c.args.id.0 held) },
    )
