-- How the brokers' tier states of the tier follow a step of the plain log.
--
-- A stop, an opening or a cut changes a broker's local log together with its log. None raises a local start: that is
-- a change of its own (Drops).
use Rattle.std.specs.Prelude.{◌≡◌, ◌⊎◌, ℕ, ◌<◌, ◌≤◌, true, List, Some, length, slice_get}
use Rattle.log_terms.specs.Log.{end_of}
use Rattle.plain_log.specs.declared.state.State.{State as Plain}
use Rattle.plain_log.specs.declared.state.Broker.{Broker}
use Rattle.plain_log.specs.declared.state.Role.TheVariants.{Leads}
use Rattle.plain_log.specs.declared.command.Order.{Order}
use Rattle.plain_log.specs.declared.journal.JournalEntry.{JournalEntry}
use Rattle.plain_log.specs.Step.{step}
use Rattle.tier_safe.specs.Scene.{BrokerTierView, Scene}

-- the incarnation stays, and that of the next copy where the broker stays up; or the log was opened under a later
-- incarnation
abbrev pub IdsGo : BrokerTierView → BrokerTierView → Type 0
IdsGo old new =
    ((new.incarnation ≡ old.incarnation) × (new.up ≡ true → (old.up ≡ true) × (new.next ≡ old.next)))
    ⊎ (old.incarnation < new.incarnation)

-- a tier state follows its broker: the local start doesn't rise, and is at or below the log's end; that of one that
-- still leads stays
pub record BrokerTierGoes (old new : BrokerTierView) (x y : Broker) : Type 0 where
  pub up : new.up ≡ y.up
  pub start : new.start ≤ old.start
  pub within : new.start ≤ end_of y.log
  pub leads : (e : ℕ) → y.stops ≡ x.stops → x.role ≡ Leads e → y.role ≡ Leads e → new.start ≡ old.start
  pub view : new.view ≡ old.view
  pub cache : new.cache ≡ old.cache
  pub ids : IdsGo old new

-- each tier state follows its broker from one state of the plain log to another
pub record BrokerTiersFollow (tier_views : List BrokerTierView) (c : Scene) (p q : Plain) : Type 0 where
  pub count : length tier_views ≡ length c.tier_views
  pub each : (b : ℕ) (old new : BrokerTierView) (x y : Broker) → slice_get c.tier_views b ≡ Some old
      → slice_get tier_views b ≡ Some new
      → slice_get p.brokers b ≡ Some x → slice_get q.brokers b ≡ Some y → BrokerTierGoes old new x y

-- the plain log takes a step, and the brokers' tier states follow
pub record MayStep (tier_views : List BrokerTierView) (c : Scene) (p q : Plain) : Type 0 where
  pub order : Order
  pub entry : JournalEntry
  pub is : step p order entry ≡ Some q
  pub follow : BrokerTiersFollow tier_views c p q
