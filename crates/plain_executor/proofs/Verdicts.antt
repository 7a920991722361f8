-- What a replay says of runs.
use Rattle.std.proofs.Common.{◌≡◌, refl, sym, subst, ℕ, zero, suc, List, [], ◌∷◌, take, Some, None, Option, Bool, ◌↔◌}
use Rattle.std.specs.Prelude.{slice_get, is_some, IsTrue}
use Rattle.log_terms.proofs.Lists.{and_then_some}
use Rattle.plain_log.specs.declared.command.ActorList.{ActorList}
use Rattle.plain_log.specs.declared.command.Config.{Config}
use Rattle.plain_log.specs.declared.journal.JournalEntry.{JournalEntry}
use Rattle.plain_log.specs.declared.state.State.{State}
use Rattle.plain_log.specs.Fresh.{fresh}
use Rattle.plain_log.specs.Runs.{replay, entry_step, IsPlainRun}
use Rattle.plain_executor.specs.Traces.{IsRunVerdict, JournalReaches}

-- an entry that is no step ends the replay
pub ends : (lists : List ActorList) (p : State) (journal : List JournalEntry) (place : ℕ) (q : State) (entry : JournalEntry)
    → replay lists p (take place journal) ≡ Some q → slice_get journal place ≡ Some entry → entry_step lists q entry ≡ None
    → replay lists p journal ≡ None
ends lists p [] zero q entry run get none = absurd cc
ends lists p [] (suc place) q entry run get none = absurd cc
ends lists p (first ∷ journal) zero q entry run get none =
    let is : q ≡ p = cc in
    let same : entry ≡ first = cc in
    let stop : entry_step lists p first ≡ None = subst (λ (z : JournalEntry). entry_step lists p z ≡ None) same (subst (λ (z : State). entry_step lists z entry ≡ None) is none) in
    rw stop refl
ends lists p (first ∷ journal) (suc place) q entry run get none =
    let m = and_then_some (λ (w : State). replay lists w (take place journal)) (entry_step lists p first) q run in
    rw m.1 (ends lists m.0 journal place q entry m.2 get none)

-- the state after a journal reports whether it is a run
pub state_tells : (config : Config) (lists : List ActorList) (journal : List JournalEntry) (o : Option State) (r : Bool) → o ≡ replay lists (fresh config) journal
    → r ≡ is_some o → IsTrue r ↔ IsPlainRun config lists journal
state_tells config lists journal None r e is = (λ t. absurd (cc (t, is)), λ run. absurd (let some = run.replays in cc (e, some)))
state_tells config lists journal (Some p) r e is = (λ t. record { last = p; replays = sym e }, λ run. is)

-- where a journal leads to, or stops, from the fresh state is the verdict
pub verdict_told : (config : Config) (lists : List ActorList) (journal : List JournalEntry) (p q : State) (o : Option ℕ) → p ≡ fresh config
    → JournalReaches lists p journal q o → IsRunVerdict config lists journal o
verdict_told config lists journal p q None is h = record { last = q; replays = subst (λ (z : State). replay lists z journal ≡ Some q) is h }
verdict_told config lists journal p q (Some place) is h = record {
  state = q;
  entry = h.entry;
  run = subst (λ (z : State). replay lists z (take place journal) ≡ Some q) is h.run;
  entry_is = h.entry_is;
  refused = h.refused;
}

-- and so is the state after it
pub last_told : (config : Config) (lists : List ActorList) (journal : List JournalEntry) (p q : State) (o : Option ℕ) → p ≡ fresh config
    → JournalReaches lists p journal q o → o ≡ None → Some q ≡ replay lists (fresh config) journal
last_told config lists journal p q None is h none = sym (subst (λ (z : State). replay lists z journal ≡ Some q) is h)
last_told config lists journal p q (Some place) is h none = absurd cc

-- a journal that stops has no state after it
pub none_told : (config : Config) (lists : List ActorList) (journal : List JournalEntry) (p q : State) (o : Option ℕ) (at : ℕ) → p ≡ fresh config
    → JournalReaches lists p journal q o → o ≡ Some at → None ≡ replay lists (fresh config) journal
none_told config lists journal p q None at is h some = absurd cc
none_told config lists journal p q (Some place) at is h some =
    sym (subst (λ (z : State). replay lists z journal ≡ None) is (ends lists p journal place q h.entry h.run h.entry_is h.refused))
