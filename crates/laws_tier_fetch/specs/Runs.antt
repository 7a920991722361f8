-- That a run which a fetch reads in the tier is its log's.
--
-- A copy's batches are the log's as far as the piece goes, and no further. So the run is the log's, and where it ends
-- since the next batch would pass the limit, that batch is the log's too.
use Rattle.std.specs.Prelude.{◌≡◌, ℕ, List, length, Some, Ok}
use Rattle.tier_base.specs.Device.{Control}
use Rattle.tier_base.specs.declared.plain.Stop.{Stop}
use Rattle.log_terms.specs.Log.{joined}
use Rattle.object_store.specs.Call as store_call
use Rattle.object_store.specs.Content as store
use Rattle.meta_log.specs.Call as meta_call
use Rattle.meta_log.specs.Content as meta
use Rattle.plain_log.specs.declared.state.State.{State as Plain}
use Rattle.plain_log.specs.declared.state.Broker.{Broker}
use Rattle.plain_log.specs.declared.answer.Answer.TheVariants.{Run}
use Rattle.plain_log.specs.declared.answer.Tier.{Tier}
use Rattle.plain_log.specs.declared.answer.Tier.TheVariants.{Remote}
use Rattle.laws_partition.specs.Log.{IsRunOf}
use Rattle.remote_find.specs.declared.piece.Piece.{Piece}
use Rattle.tier_fetch.specs.declared.turn.FetchRequest.{FetchRequest}
use Rattle.tier_fetch.specs.declared.turn.FetchStep.{FetchStep}
use Rattle.plain_log.specs.declared.turn.Turn.TheVariants.{Ends}
use Rattle.tier_fetch.specs.Turns.{Tiers, RemoteFetchRow}
use Rattle.tier_safe.specs.Scene.{BrokerTierView, Scene}
use Rattle.laws_tier_fetch.specs.Seeking.{piece_of, IsAtTurn}

-- the bytes are those of the run of a log at the offset, up to a mark
pub record IsRunBytes (log : List (List ℕ)) (offset limit mark size : ℕ) (stop : Stop) (bytes : List ℕ) : Type 0 where
  pub run : List (List ℕ)
  pub is : IsRunOf log offset limit mark stop run
  pub spelled : bytes ≡ joined run
  pub size_is : size ≡ length bytes

-- the run comes from the remote segment whose piece was found, and is the log's
pub record ServesRun (log : List (List ℕ)) (wanted : FetchRequest) (next : FetchStep) (tier : Tier) (size : ℕ)
    (stop : Stop) (bytes : List ℕ)
    : Type 0 where
  pub piece : Piece
  pub found : piece_of next ≡ Some piece
  pub tier_is : tier ≡ Remote piece.id
  pub run : IsRunBytes log wanted.offset wanted.limit wanted.mark size stop bytes

module _ {S M : Type 0} (objects : S → store.Content) (calls : S → Control store_call.call_code)
    (notes : M → meta.Content) (notings : M → Control meta_call.call_code) where
  -- a run that a turn answers is the log's
  abbrev pub FetchRunsAreLogs : Type 0
  FetchRunsAreLogs =
      (wanted : FetchRequest) (line : List (ℕ
      × ℕ)) (next : FetchStep) (tier : Tier) (size : ℕ) (stop : Stop) (bytes : List ℕ)
      (old new : Tiers S M) (c : Scene) (p : Plain) (a b : ℕ) (tier_view : BrokerTierView) (x : Broker)
      (stops epoch : ℕ)
      → RemoteFetchRow objects calls notes notings wanted line next (Ok (Ends (Run tier size stop bytes))) old new
      → IsAtTurn c p a b tier_view x stops epoch wanted line next (objects old.store)
      (notes old.meta) old.view old.cache
      → ServesRun x.log wanted next tier size stop bytes
