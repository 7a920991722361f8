-- An actor that is put in its place, and actors beside a change.
use Rattle.std.proofs.Common.{◌≡◌, refl, ap, ℕ, zero, suc, ◌<◌, List, [], ◌∷◌, ◌++◌, length, arith}
use Rattle.std.specs.Prelude.{slice_set}
use Rattle.registry.specs.declared.registry.Replica.{Replica}
use Rattle.plain_log.specs.declared.command.Command.{Command}
use Rattle.plain_log.specs.declared.state.Actor.{Actor}
use Rattle.plain_log.specs.declared.state.Broker.{Broker}
use Rattle.plain_log.specs.declared.state.State.{State}
use Rattle.plain_executor.specs.Change.{changed}
use Rattle.plain_executor.specs.declared.change.Change.{Change}
use Rattle.plain_executor.specs.declared.change.Change.TheVariants.{Same, Breaks, Gains, Flushes, Stops, Opens, Elects, Restarts, Follows, BreaksLead, Leads, Acks, Shrinks, Expands, Starts, Cuts, Extends, BreaksLonger}
use Rattle.plain_log.specs.State.{idle, put_actor}

-- among those that there are
pub put_set : (actors : List Actor) (a : ℕ) (y : Actor) → a < length actors → put_actor actors a y ≡ slice_set actors a y
put_set [] a y l = absurd (omega arith)
put_set (z ∷ actors) zero y l = refl
put_set (z ∷ actors) (suc a) y l = ap (λ zs. z ∷ zs) (put_set actors a y (omega arith))

-- after an idle one
pub put_push : (actors : List Actor) (a : ℕ) (y : Actor) → length actors < a → put_actor (actors ++ idle ∷ []) a y ≡ put_actor actors a y
put_push [] zero y l = absurd (omega arith)
put_push [] (suc a) y l = refl
put_push (z ∷ actors) zero y l = absurd (omega arith)
put_push (z ∷ actors) (suc a) y l = ap (λ zs. z ∷ zs) (put_push actors a y (omega arith))

-- after all of them
pub put_last : (actors : List Actor) (a : ℕ) (y : Actor) → length actors ≡ a → put_actor actors a y ≡ actors ++ y ∷ []
put_last [] zero y l = refl
put_last [] (suc a) y l = absurd (omega arith)
put_last (z ∷ actors) zero y l = absurd (omega arith)
put_last (z ∷ actors) (suc a) y l = ap (λ zs. z ∷ zs) (put_last actors a y (omega arith))

-- a change leaves the actors as they were
pub actors_same : (p : State) (b : ℕ) (x : Broker) (s : Replica) (command : Command) (change : Change)
    → (changed p b x s command change).actors ≡ p.actors
actors_same p b x s command Same = refl
actors_same p b x s command (Breaks m) = refl
actors_same p b x s command (Gains m n) = refl
actors_same p b x s command (Flushes m) = refl
actors_same p b x s command Stops = refl
actors_same p b x s command (Opens m n) = refl
actors_same p b x s command Elects = refl
actors_same p b x s command (Restarts m) = refl
actors_same p b x s command (Follows m) = refl
actors_same p b x s command BreaksLead = refl
actors_same p b x s command (Leads m) = refl
actors_same p b x s command (Acks m) = refl
actors_same p b x s command Shrinks = refl
actors_same p b x s command Expands = refl
actors_same p b x s command (Starts m) = refl
actors_same p b x s command (Cuts m n k) = refl
actors_same p b x s command (Extends m n k) = refl
actors_same p b x s command (BreaksLonger m n) = refl

-- and has nothing to do with them
pub actors_aside : (p : State) (b : ℕ) (x : Broker) (s : Replica) (command : Command) (change : Change) (olds bs : List Actor)
    → record (changed (record p { actors = olds }) b x s command change) { actors = bs } ≡ record (changed p b x s command change) { actors = bs }
actors_aside p b x s command Same olds bs = refl
actors_aside p b x s command (Breaks m) olds bs = refl
actors_aside p b x s command (Gains m n) olds bs = refl
actors_aside p b x s command (Flushes m) olds bs = refl
actors_aside p b x s command Stops olds bs = refl
actors_aside p b x s command (Opens m n) olds bs = refl
actors_aside p b x s command Elects olds bs = refl
actors_aside p b x s command (Restarts m) olds bs = refl
actors_aside p b x s command (Follows m) olds bs = refl
actors_aside p b x s command BreaksLead olds bs = refl
actors_aside p b x s command (Leads m) olds bs = refl
actors_aside p b x s command (Acks m) olds bs = refl
actors_aside p b x s command Shrinks olds bs = refl
actors_aside p b x s command Expands olds bs = refl
actors_aside p b x s command (Starts m) olds bs = refl
actors_aside p b x s command (Cuts m n k) olds bs = refl
actors_aside p b x s command (Extends m n k) olds bs = refl
actors_aside p b x s command (BreaksLonger m n) olds bs = refl
