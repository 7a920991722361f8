-- What a timestamp lookup comes to: it goes through its log batch by batch, and what it answers is the log's.
--
-- A remote segment whose entry describes an earlier greatest timestamp has no batch that isn't too early, and up to the
-- batch that its time index shows there is none. A piece's batches are the log's, as far as it goes. So where the
-- cursor comes to, all before it are too early, and the first batch of a run that isn't is the log's first.
use Rattle.std.specs.Prelude.{◌≡◌, ◌⊎◌, ℕ, ◌<◌, ◌≤◌, List, Some, Ok}
use Rattle.tier_base.specs.declared.plain.Part.{Part}
use Rattle.tier_base.specs.declared.plain.Part.TheVariants as part
use Rattle.tier_base.specs.declared.plain.Stop.{Stop}
use Rattle.tier_base.specs.Device.{Control}
use Rattle.log_terms.specs.Log.{IsConsecutive, joined, up_to, from_offset}
use Rattle.object_store.specs.Call as store_call
use Rattle.object_store.specs.Content as store
use Rattle.object_store.specs.Place.{key_of}
use Rattle.meta_log.specs.Call as meta_call
use Rattle.meta_log.specs.Content as meta
use Rattle.plain_log.specs.declared.state.State.{State as Plain}
use Rattle.plain_log.specs.declared.state.Broker.{Broker}
use Rattle.plain_log.specs.declared.answer.Answer.TheVariants.{Offset, Damaged}
use Rattle.plain_log.specs.declared.answer.Place.{Place}
use Rattle.plain_log.specs.declared.answer.Place.TheVariants.{Key}
use Rattle.plain_log.specs.RowsOfReads.{first_at, offset_at}
use Rattle.remote_find.specs.declared.piece.Piece.{Piece}
use Rattle.tier_fetch.specs.declared.turn.Span.{Span}
use Rattle.tier_fetch.specs.Turns.{Tiers}
use Rattle.tier_safe.specs.Scene.{BrokerTierView, Scene}
use Rattle.time_find.specs.declared.turn.Asked.{Asked}
use Rattle.time_find.specs.declared.turn.SearchStep.{SearchStep}
use Rattle.time_find.specs.declared.turn.SearchStep.TheVariants.{Seek, Log}
use Rattle.plain_log.specs.declared.turn.Turn.TheVariants.{Goes, Ends}
use Rattle.time_find.specs.Dates.{AreAllChecked}
use Rattle.time_find.specs.Turns.{IsBelowLocal, IsSet, IsSearched, TimeRow}
use Rattle.laws_partition.specs.Log.{IsRunOf}
use Rattle.laws_time_find.specs.Passed.{IsDatedTo, HasPassed}
use Rattle.laws_time_find.specs.Searching.{IsAtSearch}

-- a run of a log, up to the known high watermark, that was read at the offset to which a search has come, and
-- searched: where it has a batch that isn't too early, its offset is that of the timestamp, and else the search has
-- come to its end, which is past the offset
abbrev pub RunsAreSearched : Type 0
RunsAreSearched = (asked : Asked) (offset at limit : ℕ) (log run : List (List ℕ)) (stop : Stop) → IsConsecutive 0 log
    → HasPassed asked.ts asked.start log offset → asked.start ≤ offset → IsRunOf log offset limit asked.mark stop run
    → AreAllChecked run
    → (IsSearched asked offset (joined run) (Ends (Offset at))
    → first_at asked.ts asked.start (from_offset asked.start (up_to asked.mark log)) ≡ Some at)
    × (IsSearched asked offset (joined run) (Goes (at, Seek)) → HasPassed asked.ts asked.start log at × (offset < at))

-- damage of the log of the segment that was to be read: it is reported of the object that has it
pub record IsOfLog (asked : Asked) (next : SearchStep) (place : Place) : Type 0 where
  pub piece : Piece
  pub from : ℕ
  pub span : Span
  pub next_is : next ≡ Log piece from span
  pub home : Part
  pub own : (home ≡ part.Log) ⊎ (home ≡ part.Pack)
  pub place_is : place ≡ Key (key_of asked.partition piece.id home)

module _ {S M : Type 0} (objects : S → store.Content) (calls : S → Control store_call.call_code)
    (notes : M → meta.Content) (notings : M → Control meta_call.call_code) where
  -- where a turn continues, all before its cursor is too early, and the cursor hasn't fallen; where the turn sought, or
  -- searched a log, and comes to no piece, it has risen
  abbrev pub SearchesGoOn : Type 0
  SearchesGoOn =
      (asked : Asked) (line : List (ℕ × ℕ)) (cursor at : ℕ) (next then : SearchStep) (old new : Tiers S M)
      (c : Scene) (p : Plain) (a b : ℕ) (tier_view : BrokerTierView) (x : Broker) (stops epoch : ℕ)
      → TimeRow objects calls notes notings asked line cursor next (Ok (Goes (at, then))) old new
      → IsBelowLocal asked cursor next → IsSet cursor next
      → IsAtSearch c p a b tier_view x stops epoch asked line cursor next (objects old.store)
      (notes old.meta) old.view old.cache
      → IsDatedTo asked.ts p.registry.start x.log at then × (cursor ≤ at) × (then ≡ Seek → cursor < at)

  -- an offset that a turn answers is that of the timestamp
  abbrev pub SearchesAreRight : Type 0
  SearchesAreRight =
      (asked : Asked) (line : List (ℕ × ℕ)) (cursor at : ℕ) (next : SearchStep) (old new : Tiers S M)
      (c : Scene) (p : Plain) (a b : ℕ) (tier_view : BrokerTierView) (x : Broker) (stops epoch : ℕ)
      → TimeRow objects calls notes notings asked line cursor next (Ok (Ends (Offset at))) old new
      → IsBelowLocal asked cursor next → IsSet cursor next
      → IsAtSearch c p a b tier_view x stops epoch asked line cursor next (objects old.store)
      (notes old.meta) old.view old.cache
      → offset_at p x asked.ts ≡ Some at

  -- damage that a turn reports is of a segment's log, which the turn was to read
  abbrev pub SearchDamageIsOfLogs : Type 0
  SearchDamageIsOfLogs =
      (asked : Asked) (line : List (ℕ × ℕ)) (cursor at : ℕ) (next : SearchStep) (place : Place) (old new : Tiers S M)
      (c : Scene) (p : Plain) (a b : ℕ) (tier_view : BrokerTierView) (x : Broker) (stops epoch : ℕ)
      → TimeRow objects calls notes notings asked line cursor next (Ok (Ends (Damaged place at))) old new
      → IsBelowLocal asked cursor next
      → IsSet cursor next
      → IsAtSearch c p a b tier_view x stops epoch asked line cursor next (objects old.store)
      (notes old.meta) old.view old.cache
      → IsOfLog asked next place
