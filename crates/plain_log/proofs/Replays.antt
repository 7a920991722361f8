-- What a replay keeps, and the order in which it answers commands.
use Rattle.std.proofs.Common.{◌≡◌, ◌≢◌, subst, ℕ, ◌+◌, ◌<◌, ◌≤◌, ◌==◌, List, [], ◌∷◌, ◌++◌, length, add-zero, Some, Bool, true, false, refl, ap, sym, ◌∙◌, arith}
use Rattle.std.specs.Option.{option_and_then}
use Rattle.std.proofs.lemmas.Bool.Decides.{nat_tests}
use Rattle.log_terms.proofs.Lists.{and_then_some, within}
use Rattle.plain_log.specs.declared.command.Order.{Order}
use Rattle.plain_log.specs.declared.command.ActorList.{ActorList}
use Rattle.plain_log.specs.declared.journal.Event.{Event}
use Rattle.plain_log.specs.declared.journal.Event.TheVariants.{Begins, Answers}
use Rattle.plain_log.specs.declared.journal.JournalEntry.{JournalEntry}
use Rattle.plain_log.specs.declared.state.State.{State}
use Rattle.registry.specs.declared.registry.Replica.{Replica}
use Rattle.plain_log.specs.declared.state.Broker.{Broker}
use Rattle.plain_log.specs.declared.state.Actor.{Actor}
use Rattle.registry.specs.Calls.{when}
use Rattle.plain_log.specs.State.{actor_at}
use Rattle.plain_log.specs.Rows.{row}
use Rattle.plain_log.specs.Step.{begins, may_begin, event_step, step}
use Rattle.plain_log.specs.Runs.{orders_of, order_of, entry_step, replay, answered, number_before, numbers_from}
use Rattle.plain_log.specs.Safe.{PlainSafe}
use Rattle.plain_log.proofs.Options.{map_some}
use Rattle.plain_log.proofs.StepLaw.{actor_put, step_of, step_safe, step_others}

-- a replay keeps the safety rules
pub replay_safe : (lists : List ActorList) (p : State) (journal : List JournalEntry) (q : State) → replay lists p journal ≡ Some q → PlainSafe p → PlainSafe q
replay_safe lists p [] q e s = let is : p ≡ q = cc (e) in subst PlainSafe is s
replay_safe lists p (entry ∷ journal) q e s =
    let m = and_then_some (λ (w : State). replay lists w journal) (entry_step lists p entry) q e in
    let o = and_then_some (λ (w : Order). step p w entry) (order_of lists entry) m.0 m.1 in
    replay_safe lists m.0 journal q m.2 (step_safe p o.0 entry m.0 o.2 s)

-- a replay continues with one entry more
pub replay_more : (lists : List ActorList) (p : State) (journal : List JournalEntry) (q : State) (entry : JournalEntry) (r : State)
    → replay lists p journal ≡ Some q → entry_step lists q entry ≡ Some r → replay lists p (journal ++ entry ∷ []) ≡ Some r
replay_more lists p [] q entry r e f = let is : p ≡ q = cc (e) in rw (subst (λ (k : State). entry_step lists k entry ≡ Some r) (sym is) f) refl
replay_more lists p (first ∷ journal) q entry r e f =
    let m = and_then_some (λ (w : State). replay lists w journal) (entry_step lists p first) q e in
    rw m.1 (replay_more lists m.0 journal q entry r m.2 f)

-- the actor's numbers continue by one with each answer, and with nothing else

-- the number of the actor's next command
abbrev pub number_of : State → ℕ → ℕ
number_of p a = (actor_at p.actors a).number

-- an event's actor has its next number
abbrev pub number_after : Event → ℕ → ℕ
number_after (Begins cut) n = n
number_after (Answers answer) n = n + 1

event_number : (p : State) (a : ℕ) (order : Order) (x : Broker) (r : Replica) (event : Event) (q : State)
    → event_step p a (actor_at p.actors a) order x r event ≡ Some q → number_of q a ≡ number_after event (number_of p a)
event_number p a order x r (Begins cut) q e =
    let w = map_some _ (option_and_then (λ (z : Broker). when (may_begin p order.broker.0 x (actor_at p.actors a) order.command) z) (begins p x order.command cut)) q e in
    sym (ap (λ (k : State). number_of k a) w.2) ∙ ap (λ (k : Actor). k.number) (actor_put p.actors a _)
event_number p a order x r (Answers answer) q e =
    let w = map_some _ (row p order.broker.0 x r (actor_at p.actors a).snapshot order.command answer) q e in
    sym (ap (λ (k : State). number_of k a) w.2) ∙ ap (λ (k : Actor). k.number) (actor_put w.0.actors a _)

-- the numbers answered from the actor's next one on, and the number after them
pub record IsCounted (p q : State) (a : ℕ) (journal : List JournalEntry) : Type 0 where
  pub order : answered a journal ≡ numbers_from (number_of p a) (length (answered a journal))
  pub next : number_of q a ≡ number_of p a + length (answered a journal)

pub replay_counts : (lists : List ActorList) (p : State) (journal : List JournalEntry) (q : State) (a : ℕ) → replay lists p journal ≡ Some q → PlainSafe p → IsCounted p q a journal
replay_counts lists p [] q a e safe = record { order = refl; next = let is : p ≡ q = cc (e) in sym (ap (λ (k : State). number_of k a) is) ∙ sym (add-zero (number_of p a)) }
replay_counts lists p (entry ∷ journal) q a e safe =
    let m = and_then_some (λ (w : State). replay lists w journal) (entry_step lists p entry) q e in
    let o = and_then_some (λ (w : Order). step p w entry) (order_of lists entry) m.0 m.1 in
    let s = step_of p o.0 entry m.0 o.2 in
    go m.0 (replay_counts lists m.0 journal q a m.2 (step_safe p o.0 entry m.0 o.2 safe)) s.number
    (event_number p entry.actor.0 o.0 s.broker s.replica entry.event m.0 s.event)
    (λ ne. ap (λ (k : Actor). k.number) (step_others p o.0 entry m.0 a o.2 safe ne)) (entry.actor.0 == a) refl
  where
    same : (m : State) (event : Event) (n : ℕ) → IsCounted m q a journal → n ≡ number_of p a → number_of m a ≡ number_after event (number_of p a)
        → (number_before event n (answered a journal) ≡ numbers_from (number_of p a) (length (number_before event n (answered a journal))))
        × (number_of q a ≡ number_of p a + length (number_before event n (answered a journal)))
    same m (Begins cut) n h is next = (h.order ∙ ap (λ (k : ℕ). numbers_from k (length (answered a journal))) next, h.next ∙ ap (λ (k : ℕ). k + length (answered a journal)) next)
    same m (Answers answer) n h is next =
        (cc (is, h.order), omega (arith, h.next, next))

    go : (m : State) → IsCounted m q a journal → entry.number ≡ number_of p entry.actor.0
        → number_of m entry.actor.0 ≡ number_after entry.event (number_of p entry.actor.0)
        → (a ≢ entry.actor.0 → number_of m a ≡ number_of p a) → (t : Bool) → (entry.actor.0 == a) ≡ t → IsCounted p q a (entry ∷ journal)
    go m h is next others true t =
        let at : entry.actor.0 ≡ a = grind (arith, nat_tests, t) in
        let r = same m entry.event entry.number h (is ∙ ap (number_of p) at)
        (sym (ap (number_of m) at) ∙ next ∙ ap (λ (k : ℕ). number_after entry.event (number_of p k)) at) in
        record { order = rw t r.0; next = rw t r.1 }
    go m h is next others false t =
        let ne : a ≢ entry.actor.0 = grind (arith, nat_tests, t) in
        let kept = others ne in
        record {
          order = rw t (h.order ∙ ap (λ (k : ℕ). numbers_from k (length (answered a journal))) kept);
          next = rw t (h.next ∙ ap (λ (k : ℕ). k + length (answered a journal)) kept);
        }

-- no actor's number passes its list
pub replay_within : (lists : List ActorList) (p : State) (journal : List JournalEntry) (q : State) (a : ℕ) → replay lists p journal ≡ Some q
    → PlainSafe p → number_of p a ≤ length (orders_of lists a) → number_of q a ≤ length (orders_of lists a)
replay_within lists p [] q a e safe h = let is : p ≡ q = cc (e) in subst (λ (k : State). number_of k a ≤ length (orders_of lists a)) is h
replay_within lists p (entry ∷ journal) q a e safe h =
    let m = and_then_some (λ (w : State). replay lists w journal) (entry_step lists p entry) q e in
    let o = and_then_some (λ (w : Order). step p w entry) (order_of lists entry) m.0 m.1 in
    let s = step_of p o.0 entry m.0 o.2 in
    replay_within lists m.0 journal q a m.2 (step_safe p o.0 entry m.0 o.2 safe)
    (go m.0 (within (orders_of lists entry.actor.0) entry.number o.0 o.1) s.number
    (event_number p entry.actor.0 o.0 s.broker s.replica entry.event m.0 s.event)
    (λ ne. ap (λ (k : Actor). k.number) (step_others p o.0 entry m.0 a o.2 safe ne)) (entry.actor.0 == a) refl)
  where
    at_most : (event : Event) (n : ℕ) → number_after event n ≤ n + 1
    at_most (Begins cut) n = omega arith
    at_most (Answers answer) n = omega arith

    go : (m : State) → entry.number < length (orders_of lists entry.actor.0) → entry.number ≡ number_of p entry.actor.0
        → number_of m entry.actor.0 ≡ number_after entry.event (number_of p entry.actor.0)
        → (a ≢ entry.actor.0 → number_of m a ≡ number_of p a) → (t : Bool) → (entry.actor.0 == a) ≡ t → number_of m a ≤ length (orders_of lists a)
    go m lt is next others true t =
        let at : entry.actor.0 ≡ a = grind (arith, nat_tests, t) in
        let top = at_most entry.event (number_of p entry.actor.0) in
        subst (λ (k : ℕ). number_of m k ≤ length (orders_of lists k)) at (omega (arith, lt, is, next, top))
    go m lt is next others false t =
        let ne : a ≢ entry.actor.0 = grind (arith, nat_tests, t) in
        omega (arith, others ne, h)
