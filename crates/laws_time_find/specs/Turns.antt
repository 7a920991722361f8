-- That each turn of a search among the remote segments is changes of the tier.
--
--   turn     changes where it continues
--   Seek     Sees; where it has come to a piece, Asks and Finds too
--   Times    Skips, or Leaves
--   Index    Caches, Reads, or Leaves
--   Log      Leaves
--
-- A turn that is answered is what it changed and then Leaves. One that ran out of memory may have taken some metadata
-- events in.
use Rattle.std.specs.Prelude.{ℕ, List}
use Rattle.std.specs.declared.result.Result.{Result}
use Rattle.std.specs.declared.alloc.AllocError.{AllocError}
use Rattle.tier_base.specs.Device.{Control}
use Rattle.object_store.specs.Call as store_call
use Rattle.object_store.specs.Content as store
use Rattle.meta_log.specs.Call as meta_call
use Rattle.meta_log.specs.Content as meta
use Rattle.plain_log.specs.declared.turn.Turn.{Turn}
use Rattle.plain_log.specs.declared.state.State.{State as Plain}
use Rattle.plain_log.specs.declared.state.Broker.{Broker}
use Rattle.tier_fetch.specs.Turns.{Tiers}
use Rattle.tier_safe.specs.Scene.{BrokerTierView, Scene}
use Rattle.tier_safe.specs.May.{IsChanged}
use Rattle.laws_tier_fetch.specs.Seeking.{after_fetch}
use Rattle.time_find.specs.declared.turn.Asked.{Asked}
use Rattle.time_find.specs.declared.turn.SearchStep.{SearchStep}
use Rattle.time_find.specs.Turns.{IsBelowLocal, IsSet, TimeRow}
use Rattle.laws_time_find.specs.Searching.{search_after, IsAtSearch}

module _ {S M : Type 0} (objects : S → store.Content) (calls : S → Control store_call.call_code)
    (notes : M → meta.Content) (notings : M → Control meta_call.call_code) where
  -- each turn of it is changes
  abbrev pub SearchTurnsChange : Type 0
  SearchTurnsChange =
      (asked : Asked) (line : List (ℕ × ℕ)) (cursor : ℕ) (next : SearchStep)
      (result : Result (Turn (ℕ × SearchStep)) AllocError) (old new : Tiers S M)
      (c : Scene) (p : Plain) (a b : ℕ) (tier_view : BrokerTierView) (x : Broker) (stops epoch : ℕ)
      → TimeRow objects calls notes notings asked line cursor next result old new → IsBelowLocal asked cursor next
      → IsSet cursor next
      → IsAtSearch c p a b tier_view x stops epoch asked line cursor next (objects old.store)
      (notes old.meta) old.view old.cache
      → IsChanged c p (after_fetch c a b tier_view (search_after b stops epoch cursor next result)
      (objects new.store).objects (notes new.meta).notes new.view new.cache)
