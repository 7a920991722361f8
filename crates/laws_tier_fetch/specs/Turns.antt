-- That each turn of a fetch from the tier is changes of the tier.
--
--   turn       changes where it continues
--   first      Asks
--   Refresh    Sees, Finds
--   Index      Caches, Reads
--   Log        none: it is answered
--
-- A turn that is answered is what it changed and then Leaves. One that ran out of memory may have taken some metadata
-- events in.
use Rattle.std.specs.Prelude.{◌≡◌, ℕ, ◌<◌, List, Some, slice_get, slice_set}
use Rattle.std.specs.declared.result.Result.{Result}
use Rattle.std.specs.declared.alloc.AllocError.{AllocError}
use Rattle.tier_base.specs.Device.{Control}
use Rattle.object_store.specs.Call as store_call
use Rattle.object_store.specs.Content as store
use Rattle.meta_log.specs.Call as meta_call
use Rattle.meta_log.specs.Content as meta
use Rattle.plain_log.specs.declared.turn.Turn.{Turn}
use Rattle.plain_log.specs.declared.state.State.{State as Plain}
use Rattle.plain_log.specs.declared.state.Broker.{Broker}
use Rattle.plain_log.specs.Safe.{PlainSafe}
use Rattle.tier_fetch.specs.declared.turn.FetchRequest.{FetchRequest}
use Rattle.tier_fetch.specs.declared.turn.FetchStep.{FetchStep}
use Rattle.tier_fetch.specs.declared.turn.FetchStep.TheVariants.{Refresh}
use Rattle.tier_fetch.specs.Turns.{Tiers, RemoteFetchRow}
use Rattle.tier_safe.specs.Scene.{BrokerTierView, Free, Seeks, Scene}
use Rattle.tier_safe.specs.Fetches.{StillLeads}
use Rattle.tier_safe.specs.May.{IsChanged}
use Rattle.laws_tier_fetch.specs.Seeking.{sought_of, fetch_after, IsAtTurn, after_fetch}

-- where its broker leads, and its offset is below that broker's local start, a fetch may begin
abbrev pub AskChanges : Type 0
AskChanges =
    (c : Scene) (p : Plain) (a b : ℕ) (tier_view : BrokerTierView) (x : Broker) (stops epoch offset : ℕ) → PlainSafe p
    → slice_get c.desk a ≡ Some Free → slice_get c.tier_views b ≡ Some tier_view → slice_get p.brokers b ≡ Some x
    → StillLeads (sought_of b stops epoch offset Refresh) x → offset < tier_view.start
    → IsChanged c p (record c { desk = slice_set c.desk a (Seeks (sought_of b stops epoch offset Refresh)) })

module _ {S M : Type 0} (objects : S → store.Content) (calls : S → Control store_call.call_code)
    (notes : M → meta.Content) (notings : M → Control meta_call.call_code) where
  -- each further turn of it is changes
  abbrev pub FetchTurnsChange : Type 0
  FetchTurnsChange =
      (wanted : FetchRequest) (line : List (ℕ
      × ℕ)) (next : FetchStep) (result : Result (Turn FetchStep) AllocError) (old new : Tiers S M)
      (c : Scene) (p : Plain) (a b : ℕ) (tier_view : BrokerTierView) (x : Broker) (stops epoch : ℕ)
      → RemoteFetchRow objects calls notes notings wanted line next result old new
      → IsAtTurn c p a b tier_view x stops epoch wanted line next (objects old.store)
      (notes old.meta) old.view old.cache
      → IsChanged c p (after_fetch c a b tier_view (fetch_after b stops epoch wanted.offset next result)
      (objects new.store).objects (notes new.meta).notes new.view new.cache)
