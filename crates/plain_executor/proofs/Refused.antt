-- Rows of commands that are refused, and of others.
use Rattle.std.proofs.Common.{◌≡◌, refl, ℕ, Some, None, Option, Bool, true, false, ◌&&◌}
use Rattle.std.specs.Prelude.{option_map, is_none, is_some}
use Rattle.std.specs.Option.{option_and_then}
use Rattle.registry.specs.Calls.{when}
use Rattle.registry.specs.declared.registry.Replica.{Replica}
use Rattle.plain_log.specs.declared.answer.Answer.{Answer}
use Rattle.plain_log.specs.declared.command.Command.{Command}
use Rattle.plain_log.specs.declared.command.Order.{Order}
use Rattle.plain_log.specs.declared.journal.Event.TheVariants.{Begins}
use Rattle.plain_log.specs.declared.state.Actor.{Actor}
use Rattle.plain_log.specs.declared.state.State.{State}
use Rattle.plain_log.specs.declared.state.Broker.{Broker}
use Rattle.plain_log.specs.Refusals.{same_refusal, unless}
use Rattle.plain_log.specs.Rows.{refusal_at}
use Rattle.plain_log.specs.Step.{begins, event_step}
use Rattle.plain_executor.specs.Change.{changed}
use Rattle.plain_executor.specs.declared.change.Change.{Change}
use Rattle.plain_executor.specs.declared.change.Change.TheVariants.{Same}

-- a command that is refused so
pub refused_row : (p : State) (b : ℕ) (x : Broker) (s : Replica) (command : Command) (tests : Option Answer) (answer why : Answer) (effect : Option State) (change : Option Change)
    → tests ≡ Some why → change ≡ when (same_refusal answer why) Same → unless tests answer p effect ≡ option_map (changed p b x s command) change
refused_row p b x s command tests answer why effect change is e = rw (is, e) (go (same_refusal answer why))
  where
    go : (t : Bool) → when t p ≡ option_map (changed p b x s command) (when t Same)
    go true = refl
    go false = refl

-- one that isn't
pub done_row : (p : State) (tests : Option Answer) (answer : Answer) (effect other : Option State) → tests ≡ None → effect ≡ other → unless tests answer p effect ≡ other
done_row p tests answer effect other is e = rw is e

-- one that is refused doesn't begin
pub not_begun : (p : State) (a : ℕ) (order : Order) (x : Broker) (s : Replica) (y : Actor) (cut : Option ℕ) → is_some (refusal_at p order.broker.0 x None order.command) ≡ true
    → event_step p a y order x s (Begins cut) ≡ None
not_begun p a order x s y cut is = go (refusal_at p order.broker.0 x None order.command) refl is (begins p x order.command cut) refl
  where
    no : (t : Bool) → t && false ≡ false
    no true = refl
    no false = refl

    go : (why : Option Answer) → refusal_at p order.broker.0 x None order.command ≡ why → is_some why ≡ true → (z : Option Broker) → begins p x order.command cut ≡ z
        → event_step p a y order x s (Begins cut) ≡ None
    go None e t z at = absurd cc
    go (Some why) e t None at = rw at refl
    go (Some why) e t (Some z) at = rw (at, e, no (is_none y.snapshot)) refl
