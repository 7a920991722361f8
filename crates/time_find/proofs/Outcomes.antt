-- What a turn of a search comes to that read nothing, and what one leaves as it was.
use Rattle.std.proofs.Common.{◌≡◌, ◌∙◌, ap, ℕ, Ok}
use Rattle.std.specs.declared.result.Result.{Result}
use Rattle.std.specs.declared.alloc.AllocError.{AllocError}
use Rattle.index_cache.specs.Cache.{Cache}
use Rattle.plain_log.specs.declared.answer.Answer.TheVariants.{Offset}
use Rattle.plain_log.specs.declared.turn.Turn.{Turn}
use Rattle.plain_log.specs.declared.turn.Turn.TheVariants.{Goes, Ends}
use Rattle.tier_fetch.specs.declared.refusal.RemoteRefusal.{RemoteRefusal}
use Rattle.tier_fetch.specs.declared.refusal.RemoteRefusal.TheVariants.{Damaged, StoreFault, NoMemory}
use Rattle.tier_fetch.specs.Turns.{Tiers, refused}
use Rattle.time_find.specs.declared.turn.SearchStep.{SearchStep}

-- it doesn't continue
pub never_goes : (why : RemoteRefusal) (at : ℕ) (next : SearchStep) → ◌≡◌ {A = Result (Turn (ℕ × SearchStep)) AllocError} (Ok (Goes (at, next))) (refused why) → ⊥
never_goes (Damaged place n) at next is = cc (is)
never_goes StoreFault at next is = cc (is)
never_goes NoMemory at next is = cc (is)

-- and answers no offset
pub never_found : (why : RemoteRefusal) (at : ℕ) → ◌≡◌ {A = Result (Turn (ℕ × SearchStep)) AllocError} (Ok (Ends (Offset at))) (refused why) → ⊥
never_found (Damaged place n) at is = cc (is)
never_found StoreFault at is = cc (is)
never_found NoMemory at is = cc (is)

module _ {S M : Type 0} where
  -- one that could change the store, and left it
  pub store_left : (old new : Tiers S M) → new ≡ record old { store = new.store } → new.store ≡ old.store → new ≡ old
  store_left old new is same = is ∙ ap (λ (s : S). record old { store = s }) same

  -- or the cache too
  pub cache_left : (old new : Tiers S M) → new ≡ record old { cache = new.cache; store = new.store } → new.cache ≡ old.cache → new.store ≡ old.store → new ≡ old
  cache_left old new is same stays =
      is ∙ (ap (λ (k : Cache). record old { cache = k; store = new.store }) same ∙ ap (λ (s : S). record old { store = s }) stays)
