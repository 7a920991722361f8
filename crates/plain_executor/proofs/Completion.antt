-- A run is complete where each actor is at the end of its list after it.
use Rattle.std.proofs.Common.{◌≡◌, ◌⊎◌, inl, inr, refl, ap, sym, subst, ◌∙◌, ℕ, suc, ◌-◌, ◌<◌, ◌==◌, List, [], ◌∷◌, length, Bool, true, false, Some, ◌↔◌, arith}
use Rattle.std.specs.Prelude.{slice_index, slice_index_or, All, IsTrue}
use Rattle.std.proofs.lemmas.Bool.Decides.{nat_tests}
use Rattle.log_terms.proofs.Lists.{look}
use Rattle.plain_log.specs.declared.command.ActorList.{ActorList}
use Rattle.plain_log.specs.declared.command.Config.{Config}
use Rattle.plain_log.specs.declared.journal.JournalEntry.{JournalEntry}
use Rattle.plain_log.specs.declared.state.State.{State}
use Rattle.plain_log.specs.Fresh.{fresh}
use Rattle.plain_log.specs.Runs.{orders_of, replay, answered, numbers_from, IsPlainRun, IsComplete}
use Rattle.plain_log.proofs.FreshLaw.{fresh_safe}
use Rattle.plain_log.proofs.Replays.{number_of, replay_counts, replay_within}
use Rattle.plain_executor.specs.Complete.{AreCounts, AreAtEnd, IsCompleteRun, RunsEndComplete}
use Rattle.plain_executor.proofs.Tally.{numbers_length}

-- after a run an actor's number is how many of its commands were answered
pub run_number : (config : Config) (lists : List ActorList) (journal : List JournalEntry) (run : IsPlainRun config lists journal) (a : ℕ)
    → number_of run.last a ≡ length (answered a journal)
run_number config lists journal run a =
    let h = replay_counts lists (fresh config) journal run.last a run.replays (fresh_safe (config.brokers - 1)) in
    omega (arith, h.next)

pub run_order : (config : Config) (lists : List ActorList) (journal : List JournalEntry) (run : IsPlainRun config lists journal) (a : ℕ)
    → answered a journal ≡ numbers_from 0 (length (answered a journal))
run_order config lists journal run a =
    (replay_counts lists (fresh config) journal run.last a run.replays (fresh_safe (config.brokers - 1))).order

-- the law
pub run_ends : (config : Config) (lists : List ActorList) (journal : List JournalEntry) (run : IsPlainRun config lists journal)
    → IsComplete lists journal ↔ AreAtEnd lists run.last
run_ends config lists journal run = (
  λ h a. run_number config lists journal run a ∙ (ap (λ (ns : List ℕ). length ns) (h a) ∙ numbers_length 0 (length (orders_of lists a))),
  λ h a. run_order config lists journal run a ∙ ap (numbers_from 0) (sym (run_number config lists journal run a) ∙ h a),
)

-- each actor that has a list is at its end by these counts
abbrev pub AreDone : List ActorList → List ℕ → State → Type 0
AreDone lists counts p = All (λ (l : ActorList). number_of p l.actor.0 ≡ slice_index counts l.actor.0) lists

-- an actor has a list, or no orders
list_or_none : (lists : List ActorList) (a : ℕ)
    → ((k : ℕ) × (k < length lists) × ((d : ActorList) → (slice_index_or lists k d).actor.0 ≡ a)) ⊎ (orders_of lists a ≡ [])
list_or_none [] a = inr refl
list_or_none (l ∷ lists) a = go (list_or_none lists a) (l.actor.0 == a) refl
  where
    go : ((k : ℕ) × (k < length lists) × ((d : ActorList) → (slice_index_or lists k d).actor.0 ≡ a)) ⊎ (orders_of lists a ≡ [])
        → (t : Bool) → (l.actor.0 == a) ≡ t
        → ((k : ℕ) × (k < length (l ∷ lists)) × ((d : ActorList) → (slice_index_or (l ∷ lists) k d).actor.0 ≡ a)) ⊎ (orders_of (l ∷ lists) a ≡ [])
    go rest true t = inl (0, omega arith, λ d. let is : l.actor.0 ≡ a = grind (arith, nat_tests, t) in is)
    go (inl h) false t = inl (suc h.0, omega (arith, h.1), h.2)
    go (inr none) false t = inr (rw t none)

-- then each actor is
pub done_ends : (config : Config) (lists : List ActorList) (journal : List JournalEntry) (counts : List ℕ) (run : IsPlainRun config lists journal)
    → AreCounts lists counts → AreDone lists counts run.last ↔ AreAtEnd lists run.last
done_ends config lists journal counts run are = (λ h a. go h a (list_or_none lists a), λ h k d below. h (slice_index_or lists k d).actor.0 ∙ sym (are (slice_index_or lists k d).actor.0))
  where
    go : AreDone lists counts run.last → (a : ℕ)
        → ((k : ℕ) × (k < length lists) × ((d : ActorList) → (slice_index_or lists k d).actor.0 ≡ a)) ⊎ (orders_of lists a ≡ [])
        → number_of run.last a ≡ length (orders_of lists a)
    go h a (inl at) =
        let l = (look lists at.0 at.1).0 in
        subst (λ (b : ℕ). number_of run.last b ≡ length (orders_of lists b)) (at.2 l)
        (h at.0 l at.1 ∙ are (slice_index_or lists at.0 l).actor.0)
    go h a (inr none) =
        let empty : length (orders_of lists a) ≡ 0 = ap (λ (k : List _). length k) none in
        let top = replay_within lists (fresh config) journal run.last a run.replays (fresh_safe (config.brokers - 1)) (omega arith) in
        omega (arith, top, empty)

-- a test that they are reports whether the journal is a complete run
pub complete_run_tells : (config : Config) (lists : List ActorList) (journal : List JournalEntry) (counts : List ℕ) (p : State) (r : Bool)
    → RunsEndComplete → replay lists (fresh config) journal ≡ Some p → AreCounts lists counts → IsTrue r ↔ AreDone lists counts p
    → IsTrue r ↔ IsCompleteRun config lists journal
complete_run_tells config lists journal counts p r law replays are h =
    let run : IsPlainRun config lists journal = record { last = p; replays = replays } in
    let done = done_ends config lists journal counts run are in
    let end = law config lists journal run in (
      λ t. record { run = run; complete = end.1 (done.0 (h.0 t)) },
      λ whole. h.1 (done.1 (end.0 whole.complete)),
    )
