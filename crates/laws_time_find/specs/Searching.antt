-- What the scene of the tier has of a timestamp lookup that continues.
--
-- A search that has taken up a piece is a fetch there, at its cursor, or at the offset from which it reads the piece.
-- One that hasn't keeps nothing. Whoever takes a turn tests first that its broker leads the epoch that it led when the
-- search began, without a stop between, that the cursor isn't below the log start offset, and that it is below the
-- known high watermark.
use Rattle.std.specs.Prelude.{◌≡◌, ℕ, ◌^◌, ◌<◌, ◌≤◌, List, length, Some, Ok, Err, slice_get}
use Rattle.std.specs.declared.result.Result.{Result}
use Rattle.std.specs.declared.alloc.AllocError.{AllocError}
use Rattle.log_terms.specs.Log.{end_of, EndsAt}
use Rattle.index_cache.specs.Cache.{Cache}
use Rattle.object_store.specs.Content as store
use Rattle.meta_log.specs.Content as meta
use Rattle.plain_log.specs.declared.state.State.{State as Plain}
use Rattle.plain_log.specs.declared.state.Broker.{Broker}
use Rattle.plain_log.specs.declared.state.Role.TheVariants.{Leads}
use Rattle.remote_view.specs.Fold.{EntriesSeen}
use Rattle.tier_fetch.specs.declared.turn.FetchStep.TheVariants as fetch
use Rattle.tier_safe.specs.Scene.{BrokerTierView, TierTask, Free, Seeks, Scene}
use Rattle.tier_safe.specs.Safe.{BothSafe}
use Rattle.tier_safe.specs.Reads.{TellsEpochs}
use Rattle.tier_safe.specs.Turns.{ShowsScene}
use Rattle.laws_tier_fetch.specs.Seeking.{sought_of, indexes_in}
use Rattle.time_find.specs.declared.turn.Asked.{Asked}
use Rattle.time_find.specs.declared.turn.SearchStep.{SearchStep}
use Rattle.time_find.specs.declared.turn.SearchStep.TheVariants.{Seek, Times, Index, Log}
use Rattle.plain_log.specs.declared.turn.Turn.{Turn}
use Rattle.plain_log.specs.declared.turn.Turn.TheVariants.{Goes, Ends}
use Rattle.laws_time_find.specs.Passed.{IsDatedTo}

-- what the state of a search keeps, whose broker has stopped so often and leads this epoch
abbrev pub search_of : ℕ → ℕ → ℕ → ℕ → SearchStep → TierTask
search_of broker stops epoch cursor Seek = Free
search_of broker stops epoch cursor (Times piece) = Seeks (sought_of broker stops epoch cursor (fetch.Index piece))
search_of broker stops epoch cursor (Index piece from) = Seeks (sought_of broker stops epoch from (fetch.Index piece))
search_of broker stops epoch cursor (Log piece from span) = Seeks
    (sought_of broker stops epoch from (fetch.Log piece span))

-- after a turn
abbrev pub search_tier_task : ℕ → ℕ → ℕ → Turn (ℕ × SearchStep) → TierTask
search_tier_task broker stops epoch (Goes (cursor, next)) = search_of broker stops epoch cursor next
search_tier_task broker stops epoch (Ends answer) = Free

-- after one that may have run out of memory, and then is taken again
abbrev pub search_after : ℕ → ℕ → ℕ → ℕ → SearchStep → Result (Turn (ℕ × SearchStep)) AllocError → TierTask
search_after broker stops epoch cursor next (Ok turn) = search_tier_task broker stops epoch turn
search_after broker stops epoch cursor next (Err e) = search_of broker stops epoch cursor next

-- actor a's search is at this turn, at broker b, in a tier that shows devices, view and cache, and the broker still
-- leads
pub record IsAtSearch (c : Scene) (p : Plain) (a b : ℕ) (tier_view : BrokerTierView) (x : Broker) (stops epoch : ℕ)
    (asked : Asked)
    (line : List (ℕ × ℕ)) (cursor : ℕ) (next : SearchStep) (objects : store.Content) (notes : meta.Content)
    (view : EntriesSeen) (cache : Cache)
    : Type 0 where
  pub safe : BothSafe c p
  pub few : length c.notes < 2 ^ 64
  pub shows : ShowsScene c a b tier_view (search_of b stops epoch cursor next) objects notes view
  pub cache_is : tier_view.cache ≡ indexes_in cache
  pub partition : asked.partition ≡ c.partition
  pub broker_is : slice_get p.brokers b ≡ Some x
  pub stopped : x.stops ≡ stops
  pub leads : x.role ≡ Leads epoch
  pub start_is : asked.start ≡ p.registry.start
  pub local_is : asked.local ≡ tier_view.start
  pub end_is : asked.log_end ≡ end_of x.log
  pub mark_is : asked.mark ≡ x.known_high_watermark
  pub mark_ends : EndsAt x.known_high_watermark x.log
  pub past : p.registry.start ≤ cursor
  pub below : cursor < x.known_high_watermark
  pub is_observable : TellsEpochs line x.log
  pub dated : IsDatedTo asked.ts p.registry.start x.log cursor next
