-- The trace of a run of each partition.
use Rattle.std.proofs.Common.{◌≡◌, ◌∙◌, refl, sym, ap, subst, ℕ, suc, ◌+◌, ◌<◌, ◌≤◌, ◌==◌, List, [], ◌∷◌, ◌++◌, length, Bool, true, false, Ok, arith}
use Rattle.std.specs.Prelude.{All, slice_index_or}
use Rattle.std.proofs.lemmas.Bool.Decides.{nat_tests}
use Rattle.std.proofs.lemmas.List.Elements.{All-nil, All-cons}
use Rattle.plain_log.specs.declared.command.Config.{Config}
use Rattle.plain_log.specs.declared.journal.JournalEntry.{JournalEntry}
use Rattle.plain_log.specs.declared.state.State.{State}
use Rattle.plain_log.specs.Runs.{IsComplete}
use Rattle.script_lang.specs.declared.script.PartScript.{PartScript}
use Rattle.script_lang.specs.declared.script.Script.{Script}
use Rattle.script_lang.specs.Fit.{AreNumbered, IsFit}
use Rattle.script_lang.specs.Script.{script_in}
use Rattle.trace_text.specs.Read.{IsJournalPart, ArePartitionsRising}
use Rattle.trace_text.specs.Trace.{journal_text, trace_of}
use Rattle.trace_check.specs.Whole.{journal_of, opening, states_left, IsRunFrom, HasWholeRun, IsWholeTrace}
use Rattle.trace_check.specs.Written.{IsJournalFrom, AreRunsOf}

-- those that have entries
abbrev with_entries : List (ℕ × List JournalEntry) → List (ℕ × List JournalEntry)
with_entries [] = []
with_entries ((p, []) ∷ runs) = with_entries runs
with_entries ((p, e ∷ es) ∷ runs) = (p, e ∷ es) ∷ with_entries runs

-- they have the same text
same_text : (runs : List (ℕ × List JournalEntry)) → trace_of runs ≡ trace_of (with_entries runs)
same_text [] = refl
same_text ((p, []) ∷ runs) = same_text runs
same_text ((p, e ∷ es) ∷ runs) = ap (λ (t : List ℕ). journal_text p (e ∷ es) ++ t) (same_text runs)

-- runs of partitions from this one on, and below another
pub record AreFrom (low high : ℕ) (runs : List (ℕ × List JournalEntry)) : Type 0 where
  pub rising : ArePartitionsRising runs
  pub each : All IsJournalPart runs
  pub first : All (λ (r : ℕ × List JournalEntry). low ≤ r.0) runs
  pub last : All (λ (r : ℕ × List JournalEntry). r.0 < high) runs

rising_cons : (r : ℕ × List JournalEntry) (runs : List (ℕ × List JournalEntry)) → All (λ (k : ℕ × List JournalEntry). suc r.0 ≤ k.0) runs → ArePartitionsRising runs → ArePartitionsRising (r ∷ runs)
rising_cons r [] h rising = tt
rising_cons r (next ∷ runs) h rising = let first = h 0 next (omega arith) in (omega (arith, first), rising)

-- no journal is of a partition below them
none_of : (runs : List (ℕ × List JournalEntry)) (n : ℕ) → All (λ (k : ℕ × List JournalEntry). suc n ≤ k.0) runs → journal_of runs n ≡ []
none_of [] n h = refl
none_of (r ∷ runs) n h = go (none_of runs n (λ k d below. h (suc k) d (omega (arith, below)))) (r.0 == n) refl
  where
    go : journal_of runs n ≡ [] → (t : Bool) → (r.0 == n) ≡ t → journal_of (r ∷ runs) n ≡ []
    go rest true t = absurd (let first = h 0 r (omega arith) in grind (arith, nat_tests, t, first))
    go rest false t = rw t rest

-- a journal of another partition is passed
pass : (r : ℕ × List JournalEntry) (runs : List (ℕ × List JournalEntry)) (n : ℕ) → r.0 < n → journal_of (r ∷ runs) n ≡ journal_of runs n
pass r runs n l = go (r.0 == n) refl
  where
    go : (t : Bool) → (r.0 == n) ≡ t → journal_of (r ∷ runs) n ≡ journal_of runs n
    go true t = absurd (grind (arith, nat_tests, t, l))
    go false t = rw t refl

take_own : (r : ℕ × List JournalEntry) (runs : List (ℕ × List JournalEntry)) → journal_of (r ∷ runs) r.0 ≡ r.1
take_own r runs = go (r.0 == r.0) refl
  where
    go : (t : Bool) → (r.0 == r.0) ≡ t → journal_of (r ∷ runs) r.0 ≡ r.1
    go true t = rw t refl
    go false t = absurd (grind (arith, nat_tests, t))

from_lower : (n high : ℕ) (runs : List (ℕ × List JournalEntry)) → AreFrom (suc n) high runs → AreFrom n high runs
from_lower n high runs h = record {
  rising = h.rising;
  each = h.each;
  first = λ k d below. let f = h.first k d below in omega (arith, f);
  last = h.last;
}

-- a run of each partition from this one on
runs_from : (config : Config) (states : List State) (parts : List PartScript) (runs : List (ℕ × List JournalEntry)) (n high : ℕ) → high ≤ 64 → n + length parts ≡ high → AreNumbered n parts
    → AreRunsOf config states parts runs → AreFrom n high (with_entries runs)
runs_from config states [] [] n high small count numbered are = record { rising = tt; each = All-nil IsJournalPart; first = λ k d below. absurd (omega (arith, below)); last = λ k d below. absurd (omega (arith, below)) }
runs_from config states [] (run ∷ runs) n high small count numbered are = absurd are
runs_from config states (part ∷ parts) [] n high small count numbered are = absurd are
runs_from config states (part ∷ parts) ((p, []) ∷ runs) n high small count numbered are =
    let next : AreNumbered (suc n) parts = let on : n + 1 ≡ suc n = omega arith in subst (λ (k : ℕ). AreNumbered k parts) on numbered.1 in
    from_lower n high (with_entries runs) (runs_from config states parts runs (suc n) high small (omega (arith, count)) next are.1)
runs_from config states (part ∷ parts) ((p, e ∷ es) ∷ runs) n high small count numbered are =
    let next : AreNumbered (suc n) parts = let on : n + 1 ≡ suc n = omega arith in subst (λ (k : ℕ). AreNumbered k parts) on numbered.1 in
    let rest = runs_from config states parts runs (suc n) high small (omega (arith, count)) next are.1 in
    let own : p ≡ n = are.0.partition ∙ numbered.0 in
    let is : IsJournalPart (p, e ∷ es) = record { partition = omega (arith, own, count, small); some = omega arith; each = are.0.entries } in
    record {
      rising = rising_cons (p, e ∷ es) (with_entries runs) (λ k d below. let f = rest.first k d below in omega (arith, f, own)) rest.rising;
      each = All-cons IsJournalPart (p, e ∷ es) (with_entries runs) is rest.each;
      first = All-cons (λ (r : ℕ × List JournalEntry). n ≤ r.0) (p, e ∷ es) (with_entries runs) (omega (arith, own)) (λ k d below. let f = rest.first k d below in omega (arith, f));
      last = All-cons (λ (r : ℕ × List JournalEntry). r.0 < high) (p, e ∷ es) (with_entries runs) (omega (arith, own, count)) rest.last;
    }

-- partitions are numbered from the first on
not_below : (n : ℕ) (parts : List PartScript) → AreNumbered n parts → All (λ (part : PartScript). n ≤ part.partition.0) parts
not_below n [] h = All-nil (λ (part : PartScript). n ≤ part.partition.0)
not_below n (part ∷ parts) h =
    All-cons (λ (q : PartScript). n ≤ q.partition.0) part parts (let own = h.0 in omega (arith, own))
    (λ k d below. let f = not_below (n + 1) parts h.1 k d below in omega (arith, f))

has_run : (config : Config) (states : List State) (js : List (ℕ × List JournalEntry)) (part : PartScript) (run : ℕ × List JournalEntry) → journal_of js part.partition.0 ≡ run.1 → IsJournalFrom config (opening config states part.partition.0) part run
    → HasWholeRun config states js part
has_run config states js part run e is = record { brokers = is.brokers; plain = subst (IsRunFrom (opening config states part.partition.0) part.lists) (sym e) is.plain; complete = subst (IsComplete part.lists) (sym e) is.complete }

-- a partition above has its run also after another's
has_behind : (config : Config) (states : List State) (r : ℕ × List JournalEntry) (js : List (ℕ × List JournalEntry)) (part : PartScript) → r.0 < part.partition.0 → HasWholeRun config states js part
    → HasWholeRun config states (r ∷ js) part
has_behind config states r js part l h =
    let e = pass r js part.partition.0 l in
    record { brokers = h.brokers; plain = subst (IsRunFrom (opening config states part.partition.0) part.lists) (sym e) h.plain; complete = subst (IsComplete part.lists) (sym e) h.complete }

-- each partition has its whole run among them
whole_from : (config : Config) (states : List State) (parts : List PartScript) (runs : List (ℕ × List JournalEntry)) (n high : ℕ) → high ≤ 64 → n + length parts ≡ high → AreNumbered n parts
    → AreRunsOf config states parts runs → All (HasWholeRun config states (with_entries runs)) parts
whole_from config states [] [] n high small count numbered are = All-nil (HasWholeRun config states [])
whole_from config states [] (run ∷ runs) n high small count numbered are = absurd are
whole_from config states (part ∷ parts) [] n high small count numbered are = absurd are
whole_from config states (part ∷ parts) ((p, []) ∷ runs) n high small count numbered are =
    let on : n + 1 ≡ suc n = omega arith in
    let next : AreNumbered (suc n) parts = subst (λ (k : ℕ). AreNumbered k parts) on numbered.1 in
    let above = runs_from config states parts runs (suc n) high small (omega (arith, count)) next are.1 in
    let own = numbered.0 in
    All-cons (HasWholeRun config states (with_entries runs)) part parts
    (has_run config states (with_entries runs) part (p, []) (none_of (with_entries runs) part.partition.0 (λ k d below. let f = above.first k d below in omega (arith, f, own))) are.0)
    (whole_from config states parts runs (suc n) high small (omega (arith, count)) next are.1)
whole_from config states (part ∷ parts) ((p, e ∷ es) ∷ runs) n high small count numbered are =
    let on : n + 1 ≡ suc n = omega arith in
    let next : AreNumbered (suc n) parts = subst (λ (k : ℕ). AreNumbered k parts) on numbered.1 in
    let js = with_entries runs in
    let r : ℕ × List JournalEntry = (p, e ∷ es) in
    let own : p ≡ part.partition.0 = are.0.partition in
    let here = numbered.0 in
    let mine : journal_of (r ∷ js) part.partition.0 ≡ e ∷ es = subst (λ (k : ℕ). journal_of (r ∷ js) k ≡ e ∷ es) own (take_own r js) in
    let rest = whole_from config states parts runs (suc n) high small (omega (arith, count)) next are.1 in
    let above = not_below (suc n) parts next in
    All-cons (HasWholeRun config states (r ∷ js)) part parts (has_run config states (r ∷ js) part r mine are.0)
    (λ k d below. has_behind config states r js (slice_index_or parts k d) (let f = above k d below in omega (arith, f, own, here)) (rest k d below))

-- the law
pub runs_whole : (bytes : List ℕ) (script : Script) (states : List State) (runs : List (ℕ × List JournalEntry)) → script_in bytes ≡ Ok script → IsFit script
    → AreRunsOf script.config states script.parts runs → (after : List State) × IsWholeTrace states bytes (trace_of runs) after
runs_whole bytes script states runs read fit are =
    let high = length script.parts in
    let all : AreFrom 0 high (with_entries runs) = runs_from script.config states script.parts runs 0 high fit.few (omega arith) fit.numbered are in (
      states_left script states (with_entries runs),
      record {
        said = script;
        journals = with_entries runs;
        read = record { script_is = read; are = record { rising = all.rising; each = all.each }; spelled = same_text runs };
        runs = record { each = whole_from script.config states script.parts runs 0 high fit.few (omega arith) fit.numbered are; no_others = all.last };
        left = refl;
      },
    )
