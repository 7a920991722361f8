-- A schedule is turns of its actors, one after another.
use Rattle.std.proofs.Common.{◌≡◌, subst, refl, ℕ, zero, suc, ◌+◌, ◌≤◌, ◌==◌, Bool, true, false, cond, List, [], ◌∷◌, ◌++◌, arith}
use Rattle.std.specs.Prelude.{if◌then◌else◌, replicate}
use Rattle.disk_model.specs.declared.disk.Disk.{Ghosts as DiskGhosts}
use Rattle.object_store.specs.declared.store.Store.{Ghosts as StoreGhosts}
use Rattle.meta_log.specs.declared.log.MetaLog.{Ghosts as MetaGhosts}
use Rattle.plain_log.specs.declared.answer.Answer.{Answer}
use Rattle.plain_log.specs.declared.command.ActorList.{ActorList}
use Rattle.plain_log.specs.declared.command.Order.{Order}
use Rattle.plain_log.specs.declared.command.Pace.{Pace}
use Rattle.plain_log.specs.declared.command.Pace.TheVariants.{Until, Times}
use Rattle.plain_log.specs.Orders.{AreRising}
use Rattle.partition_world.specs.declared.actor_state.ActorState.{ActorState}
use Rattle.partition_world.specs.Reaches.{GoesTimes, GoesUntil, Paces, Reaches}
use Rattle.partition_world.specs.Turn.{IsNextOrder}
use Rattle.partition_world.specs.Whole.{Whole}
use Rattle.laws_answers.specs.Turns.{turns_left}
use Rattle.laws_answers.specs.Chains.{times, turns_in, IsCommandAnswered, RunsTurns}
use Rattle.laws_answers.proofs.ChainsOfTurns.{are_answered}

-- turns of one actor, and then those of others
times_more : (a : ℕ) (actors more : List ℕ) → times a (actors ++ more) ≡ times a actors + times a more
times_more a [] more = omega arith
times_more a (b ∷ actors) more = by (b == a) (times_more a actors more)
  where
    by : (t : Bool) → times a (actors ++ more) ≡ times a actors + times a more
        → cond t (1 + times a (actors ++ more)) (times a (actors ++ more)) ≡ cond t (1 + times a actors) (times a actors) + times a more
    by true h = omega (arith, h)
    by false h = h

times_same : (a b turns : ℕ) → times a (replicate turns b) ≡ (if b == a then turns else 0)
times_same a b zero = by (b == a)
  where
    by : (t : Bool) → times a [] ≡ cond t zero zero
    by true = refl
    by false = refl
times_same a b (suc turns) = by (b == a) (times_same a b turns)
  where
    by : (t : Bool) → times a (replicate turns b) ≡ cond t turns 0 → cond t (1 + times a (replicate turns b)) (times a (replicate turns b)) ≡ cond t (suc turns) 0
    by true h = omega (arith, h)
    by false h = h

module _ {D S M : Type 0} (disk : DiskGhosts D) (store : StoreGhosts S) (meta : MetaGhosts M) where
  -- any turns of these actors
  abbrev pub Any : Whole D S M → List ℕ → Whole D S M → Type 0
  Any v actors u = RunsTurns disk store meta (λ v b u. Unit {0}) v actors u

  any_more : (actors more : List ℕ) (v u x : Whole D S M) → Any v actors u → Any u more x → Any v (actors ++ more) x
  any_more [] more v u x r s = subst (λ (k : Whole D S M). Any k more x) r s
  any_more (b ∷ actors) more v u x (y, goes, p, rest) s = (y, goes, p, any_more actors more y u x rest s)

  times_any : (v : Whole D S M) (b turns : ℕ) (u : Whole D S M) → GoesTimes disk store meta v b turns u → Any v (replicate turns b) u
  times_any v b zero u g = g
  times_any v b (suc turns) u g = (g.0, g.1, tt, times_any g.0 b turns u g.2)

  until_any : (v : Whole D S M) (b number turns : ℕ) (u : Whole D S M) → GoesUntil disk store meta v b number turns u → Any v (replicate turns b) u
  until_any v b number zero u g = g.1
  until_any v b number (suc turns) u g = (g.1.0, g.1.1, tt, until_any g.1.0 b number turns u g.1.2)

  pace_any : (v : Whole D S M) (pace : Pace) (schedule : List Pace) (u : Whole D S M) → Paces disk store meta v pace u
      → (actors : List ℕ) × Any v actors u × ((a : ℕ) → turns_in a (pace ∷ schedule) ≤ times a actors + turns_in a schedule)
  pace_any v (Until actor number) schedule u g = (replicate g.0 actor.0, until_any v actor.0 number g.0 u g.1, λ a. omega arith)
  pace_any v (Times actor turns) schedule u g = (replicate turns actor.0, times_any v actor.0 turns u g, λ a. let is = times_same a actor.0 turns in omega (arith, is))

  pub any_of : (v : Whole D S M) (schedule : List Pace) (u : Whole D S M) → Reaches disk store meta v schedule u
      → (actors : List ℕ) × Any v actors u × ((a : ℕ) → turns_in a schedule ≤ times a actors)
  any_of v [] u r = ([], r, λ a. omega arith)
  any_of v (pace ∷ schedule) u r =
      let one = pace_any v pace schedule r.0 r.1 in
      let more = any_of r.0 schedule u r.2 in
      (one.0 ++ more.0, any_more one.0 more.0 v r.0 u one.1 more.1, λ a. (let low = one.2 a in let high = more.2 a in let both = times_more a one.0 more.0 in omega (arith, low, high, both)))

  pub schedules_answer : (w : Whole D S M) (a place : ℕ) (l : ActorList) (actor_state : ActorState) (order : Order) (schedule : List Pace) (w' : Whole D S M) → AreRising w.lists → IsNextOrder w a place l actor_state order
      → Reaches disk store meta w schedule w' → turns_left order.command actor_state.in_progress ≤ turns_in a schedule → (answer : Answer) × IsCommandAnswered w' l.actor actor_state.number answer
  schedules_answer w a place l actor_state order schedule w' rising next r le =
      let any = any_of w schedule w' r in
      let many = any.2 a in
      are_answered disk store meta w a place l actor_state order any.0 w' rising next any.1 (omega (arith, le, many))
