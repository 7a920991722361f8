-- Where a fetch from the tier may reports damage while no call fails: in its last turn alone.
--
-- Its broker's view has the piece, and the entry of its segment; the segment's index and its log exist, and the index
-- is valid. What is left is that the part of the log which was read has no run.
use Rattle.std.specs.Prelude.{◌≡◌, ◌⊎◌, ℕ, List, Ok}
use Rattle.tier_base.specs.declared.plain.Part.{Part}
use Rattle.tier_base.specs.declared.plain.Part.TheVariants as part
use Rattle.tier_base.specs.Device.{Control}
use Rattle.object_store.specs.Call as store_call
use Rattle.object_store.specs.Content as store
use Rattle.object_store.specs.Place.{key_of}
use Rattle.meta_log.specs.Call as meta_call
use Rattle.meta_log.specs.Content as meta
use Rattle.plain_log.specs.declared.state.State.{State as Plain}
use Rattle.plain_log.specs.declared.state.Broker.{Broker}
use Rattle.plain_log.specs.declared.answer.Answer.TheVariants.{Damaged}
use Rattle.plain_log.specs.declared.answer.Place.{Place}
use Rattle.plain_log.specs.declared.answer.Place.TheVariants.{Key}
use Rattle.remote_find.specs.declared.piece.Piece.{Piece}
use Rattle.tier_fetch.specs.declared.turn.FetchRequest.{FetchRequest}
use Rattle.tier_fetch.specs.declared.turn.Span.{Span}
use Rattle.tier_fetch.specs.declared.turn.FetchStep.{FetchStep}
use Rattle.tier_fetch.specs.declared.turn.FetchStep.TheVariants.{Log}
use Rattle.plain_log.specs.declared.turn.Turn.TheVariants.{Ends}
use Rattle.tier_fetch.specs.Turns.{Tiers, RemoteFetchRow}
use Rattle.tier_safe.specs.Scene.{BrokerTierView, Scene}
use Rattle.laws_tier_fetch.specs.Seeking.{IsAtTurn}

-- damage of the log of the segment whose piece was found, which the turn was to read: it is reported of the object that
-- has it
pub record IsOfLog (wanted : FetchRequest) (next : FetchStep) (place : Place) : Type 0 where
  pub piece : Piece
  pub span : Span
  pub next_is : next ≡ Log piece span
  pub home : Part
  pub own : (home ≡ part.Log) ⊎ (home ≡ part.Pack)
  pub place_is : place ≡ Key (key_of wanted.partition piece.id home)

module _ {S M : Type 0} (objects : S → store.Content) (calls : S → Control store_call.call_code)
    (notes : M → meta.Content) (notings : M → Control meta_call.call_code) where
  -- damage that a turn reports is of a segment's log
  abbrev pub DamageIsOfLogs : Type 0
  DamageIsOfLogs =
      (wanted : FetchRequest) (line : List (ℕ × ℕ)) (next : FetchStep) (place : Place) (at : ℕ) (old new : Tiers S M)
      (c : Scene) (p : Plain)
      (a b : ℕ) (tier_view : BrokerTierView) (x : Broker) (stops epoch : ℕ)
      → RemoteFetchRow objects calls notes notings wanted line next (Ok (Ends (Damaged place at))) old new
      → IsAtTurn c p a b tier_view x stops epoch wanted line next (objects old.store)
      (notes old.meta) old.view old.cache
      → IsOfLog wanted next place
