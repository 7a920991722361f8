-- What a cache ends as once an index that it lent is given back.
use Rattle.std.specs.Prelude.{◌≡◌, ℕ, List, ⊤}
use Rattle.std.specs.Borrow.{follows_so, MutBor, Fml}
use mathlib.Core.Option.{none}
use Rattle.index_cache.specs.Cache.{Cache, brought_front}
use Rattle.index_cache.specs.contracts.cache.IndexCache.{the_row}

-- the id's pair was brought to the front
abbrev pub EndsBroughtFront : MutBor Cache → List ℕ → Fml
EndsBroughtFront cache id =
    follows_so the_row the_row cache.ghost_name none (λ _ _. ⊤) (λ last. last ≡ brought_front cache.now id)
