-- The partitions of a script, one after another.
use Rattle.std.proofs.Common.{◌≡◌, ◌∙◌, sym, ap, subst, ℕ, zero, suc, ◌+◌, ◌<◌, List, [], ◌∷◌, length, take, drop, get_or, Some, None, Option, Bool, true, false, ◌↔◌, arith}
use Rattle.std.specs.Prelude.{All, IsTrue, slice_get, slice_set, option_map, unwrap_or}
use Rattle.std.proofs.lemmas.List.Elements.{All-more, All-weaker}
use Rattle.plain_log.specs.declared.command.ActorList.{ActorList}
use Rattle.plain_log.specs.declared.command.Command.{Command}
use Rattle.plain_log.specs.declared.command.Command.TheVariants.{Append}
use Rattle.plain_log.specs.declared.command.Config.{Config}
use Rattle.plain_log.specs.declared.command.Order.{Order}
use Rattle.plain_log.specs.declared.journal.JournalEntry.{JournalEntry}
use Rattle.plain_log.specs.Orders.{IsInRange, IsOrderFor, IsListFor, AreListsFor}
use Rattle.plain_log.specs.declared.state.State.{State}
use Rattle.plain_log.specs.Fresh.{fresh}
use Rattle.plain_log.specs.Runs.{replay, IsComplete}
use Rattle.cold_state.specs.Cold.{cold_of}
use Rattle.plain_executor.specs.Fits.{IsBuildableAppend, AreFor}
use Rattle.plain_executor.specs.Traces.{JournalReaches}
use Rattle.plain_executor.proofs.Fitting.{IsListFor as IsMachinesList, lists_for}
use Rattle.script_lang.specs.declared.script.PartScript.{PartScript}
use Rattle.script_lang.specs.declared.script.Script.{Script}
use Rattle.script_lang.specs.Fit.{AreNumbered}
use Rattle.trace_check.specs.declared.verdict.Flaw.{Flaw}
use Rattle.trace_check.specs.Places.{with_one}
use Rattle.trace_check.specs.Whole.{journal_of, opening, left_of, part_left, HasRun, HasWholeRun}
use Rattle.trace_check.specs.Verdicts.{IsPartFlaw, IsUnfinished, HasPartFlaw}
use Rattle.trace_check.proofs.Journals.{split_at}
use Rattle.trace_check.proofs.Places.{partly, partly_there, partly_more}

-- the machine takes what a world takes
is_for : (command : Command) → IsInRange command → IsBuildableAppend command
is_for (Append recs) h = h
is_for other h = tt

pub fits : (config : Config) (lists : List ActorList) → AreListsFor config lists → AreFor lists
fits config lists h =
    lists_for lists (All-weaker (IsListFor config) IsMachinesList
    (λ l own. All-weaker (IsOrderFor config) (λ (order : Order). IsBuildableAppend order.command) (λ order is. is_for order.command is.command) l.orders own.orders) lists h.each)

-- what a run leaves that has a last state
pub left_by : (p q : State) (lists : List ActorList) (journal : List JournalEntry) → replay lists p journal ≡ Some q → cold_of q ≡ left_of p lists journal
left_by p q lists journal run = sym (ap (λ (o : _). unwrap_or (option_map cold_of o) p) run)

-- a run that leaves a command without an answer
pub unfinished : (p q : State) (lists ls : List ActorList) (journal j : List JournalEntry) (o : Option ℕ) (whole : Bool) → ls ≡ lists → j ≡ journal → o ≡ None
    → JournalReaches ls p j q o → whole ≡ false → IsTrue whole ↔ IsComplete ls j → IsUnfinished p lists journal
unfinished p q lists ls journal j o whole same own none reached lacks h =
    let run : replay ls p j ≡ Some q = subst (λ (k : Option ℕ). JournalReaches ls p j q k) none reached in
    let is : IsUnfinished p ls j = record { plain = record { last = q; replays = run }; lacks = λ w. absurd (let t = h.1 w in cc (t, lacks)) } in
    subst (λ (l : List ActorList). IsUnfinished p l journal) same (subst (IsUnfinished p ls) own is)

-- a whole run, and what is left when it is over
pub finished : (config : Config) (js : List (ℕ × List JournalEntry)) (p q : State) (part : PartScript) (ls : List ActorList) (j : List JournalEntry) (o : Option ℕ) (whole : Bool)
    → length p.brokers ≡ config.brokers → ls ≡ part.lists → j ≡ journal_of js part.partition.0 → o ≡ None → JournalReaches ls p j q o → whole ≡ true
    → IsTrue whole ↔ IsComplete ls j → HasRun config js p part × (cold_of q ≡ left_of p part.lists (journal_of js part.partition.0))
finished config js p q part ls j o whole count same own none reached has h =
    let run : replay ls p j ≡ Some q = subst (λ (k : Option ℕ). JournalReaches ls p j q k) none reached in
    let its : replay part.lists p (journal_of js part.partition.0) ≡ Some q =
    subst (λ (l : List ActorList). replay l p (journal_of js part.partition.0) ≡ Some q) same (subst (λ (k : List JournalEntry). replay ls p k ≡ Some q) own run) in
    let all : IsComplete part.lists (journal_of js part.partition.0) =
    subst (λ (l : List ActorList). IsComplete l (journal_of js part.partition.0)) same (subst (IsComplete ls) own (h.0 has)) in
    (record { brokers = count; plain = record { last = q; replays = its }; complete = all }, left_by p q part.lists (journal_of js part.partition.0) its)

-- the partition that is at a place has its number
numbered_at : (n : ℕ) (parts : List PartScript) (i : ℕ) (part : PartScript) → AreNumbered n parts → i < length parts → part ≡ get_or parts i part → part.partition.0 ≡ n + i
numbered_at n [] i part h l is = absurd (omega (arith, l))
numbered_at n (p ∷ parts) zero part h l is = ap (λ (k : PartScript). k.partition.0) is ∙ h.0 ∙ omega arith
numbered_at n (p ∷ parts) (suc i) part h l is = numbered_at (n + 1) parts i part h.1 (omega (arith, l)) is ∙ omega arith

-- the state that a partition's run begins in
pub begins_there : (config : Config) (parts : List PartScript) (i : ℕ) (part : PartScript) (states now reached : List State) (f : PartScript → State) (x : State)
    → AreNumbered 0 parts → i < length parts → part ≡ get_or parts i part → now ≡ partly f parts i states → reached ≡ with_one (fresh config) i now
    → slice_get reached i ≡ Some x → x ≡ opening config states part.partition.0
begins_there config parts i part states now reached f x numbered l is now_is reached_is at =
    let there = partly_there f parts i states (fresh config) (omega (arith, l)) in
    let same : reached ≡ with_one (fresh config) i (partly f parts i states) = reached_is ∙ ap (λ (k : List State). with_one (fresh config) i k) now_is in
    let own : Some x ≡ Some (unwrap_or (slice_get states i) (fresh config)) = sym at ∙ ap (λ (k : List State). slice_get k i) same ∙ there in
    let number : part.partition.0 ≡ i = numbered_at 0 parts i part numbered l is ∙ omega arith in
    let one : x ≡ unwrap_or (slice_get states i) (fresh config) = cc in
    one ∙ ap (λ (k : ℕ). opening config states k) (sym number)

-- what one more partition's run leaves is put in its place
pub left_more : (config : Config) (js : List (ℕ × List JournalEntry)) (parts : List PartScript) (i : ℕ) (part : PartScript) (states now reached after : List State) (x q : State)
    → i < length parts → part ≡ get_or parts i part → now ≡ partly (part_left config states js) parts i states → reached ≡ with_one (fresh config) i now
    → x ≡ opening config states part.partition.0 → q ≡ left_of x part.lists (journal_of js part.partition.0) → after ≡ slice_set reached i q
    → after ≡ partly (part_left config states js) parts (i + 1) states
left_more config js parts i part states now reached after x q l is now_is reached_is x_is q_is after_is =
    let f : PartScript → State = part_left config states js in
    let same : reached ≡ with_one (fresh config) i (partly f parts i states) = reached_is ∙ ap (λ (k : List State). with_one (fresh config) i k) now_is in
    let made : q ≡ f part = q_is ∙ ap (λ (k : State). left_of k part.lists (journal_of js part.partition.0)) x_is in
    after_is ∙ ap (λ (k : List State). slice_set k i q) same ∙ ap (λ (z : State). slice_set (with_one (fresh config) i (partly f parts i states)) i z) made
    ∙ partly_more f parts i part states (fresh config) l is

-- one partition more has its whole run
pub one_more : (config : Config) (states : List State) (js : List (ℕ × List JournalEntry)) (parts : List PartScript) (i : ℕ) (part : PartScript) → i < length parts
    → part ≡ get_or parts i part → All (HasWholeRun config states js) (take i parts) → HasWholeRun config states js part → All (HasWholeRun config states js) (take (i + 1) parts)
one_more config states js parts i part l is all whole =
    All-more (HasWholeRun config states js) parts i part l all (subst (HasWholeRun config states js) is whole)

-- what is found of the partition that is at a place
pub part_flaw : (script : Script) (states : List State) (js : List (ℕ × List JournalEntry)) (parts : List PartScript) (i : ℕ) (part : PartScript) (flaw : Flaw)
    → parts ≡ script.parts → i < length parts → part ≡ get_or parts i part → All (HasWholeRun script.config states js) (take i parts)
    → IsPartFlaw script.config js (opening script.config states part.partition.0) part flaw → HasPartFlaw script states js flaw
part_flaw script states js parts i part flaw own l is all its = record {
  before = take i parts;
  part = part;
  after = drop (suc i) parts;
  parts = sym own ∙ split_at parts i part l is;
  whole = all;
  its = its;
}
