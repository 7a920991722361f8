-- Where a cause is reported, the trace is no whole run.
use Rattle.std.proofs.Common.{◌≡◌, ◌∙◌, refl, sym, ap, subst, ℕ, suc, ◌+◌, ◌<◌, List, [], ◌∷◌, ◌++◌, length, take, drop, get_or, Ok, Err, ◌↔◌, arith, length-take}
use Rattle.std.specs.Prelude.{All}
use Rattle.std.proofs.lemmas.List.{take_more}
use Rattle.plain_log.specs.declared.command.ActorList.{ActorList}
use Rattle.plain_log.specs.declared.journal.JournalEntry.{JournalEntry}
use Rattle.plain_log.specs.declared.state.State.{State}
use Rattle.plain_executor.specs.Traces.{IsRefusedAt}
use Rattle.plain_executor.proofs.Verdicts.{ends}
use Rattle.script_lang.specs.declared.script.Script.{Script}
use Rattle.trace_text.specs.declared.refusal.TraceRefusal.TheVariants.{Bad}
use Rattle.trace_text.specs.Laws.{PrintIsRead, OneTextOneTrace}
use Rattle.trace_text.specs.Read.{IsBadLine}
use Rattle.trace_check.specs.declared.pair.Pair.{Pair}
use Rattle.trace_check.specs.declared.verdict.Flaw.{Flaw}
use Rattle.trace_check.specs.declared.verdict.Flaw.TheVariants.{BadScript, BadTrace, Brokers, NoStep, Unfinished, Unasked}
use Rattle.trace_check.specs.declared.verdict.Verdict.{Verdict}
use Rattle.trace_check.specs.declared.verdict.Verdict.TheVariants.{Whole, Flawed}
use Rattle.trace_check.specs.Chain.{LeadTo, AreWholeTraces}
use Rattle.trace_check.specs.Whole.{journal_of, opening, states_left, IsRunFrom, HasWholeRun, AreWholeRuns, IsWholeTrace}
use Rattle.trace_check.specs.Verdicts.{HasPartFlaw, IsFlawFound, HasFound, IsFlaw, IsFlawed, IsVerdict}
use Rattle.trace_check.proofs.Journals.{all_in, split_at}

-- a journal with an entry that is no step is no run
no_run : (p q : State) (lists : List ActorList) (journal : List JournalEntry) (place : ℕ) → IsRefusedAt lists p journal q place → IsRunFrom p lists journal → ⊥
no_run p q lists journal place h run =
    let none = ends lists p journal place q h.entry h.run h.entry_is h.refused in
    let some = run.replays in
    absurd cc

-- the partition has its whole run
its_run : (script : Script) (states : List State) (js : List (ℕ × List JournalEntry)) (flaw : Flaw) (h : HasPartFlaw script states js flaw) → AreWholeRuns script states js
    → HasWholeRun script.config states js h.part
its_run script states js flaw h w =
    all_in (HasWholeRun script.config states js) h.before h.after h.part (subst (All (HasWholeRun script.config states js)) h.parts w.each)

-- journals of which a cause is found are no whole runs
not_whole : (script : Script) (states : List State) (js : List (ℕ × List JournalEntry)) (flaw : Flaw) → IsFlawFound script states js flaw → AreWholeRuns script states js → ⊥
not_whole script states js (Brokers partition kept asked) h w =
    let run = its_run script states js (Brokers partition kept asked) h w in
    h.its.1.differ (h.its.1.kept_is ∙ run.brokers ∙ sym h.its.1.asked_is)
not_whole script states js (NoStep partition entry line) h w =
    no_run (opening script.config states h.part.partition.0) h.its.1.state h.part.lists (journal_of js h.part.partition.0) entry h.its.1.refused
    (its_run script states js (NoStep partition entry line) h w).plain
not_whole script states js (Unfinished partition) h w = h.its.1.lacks (its_run script states js (Unfinished partition) h w).complete
not_whole script states js (Unasked partition) h w =
    let P : ℕ × List JournalEntry → Type 0 = λ (j : ℕ × List JournalEntry). j.0 < length script.parts in
    let below : partition.0 < length script.parts = all_in P h.first.before h.first.after (partition.0, h.first.journal) (subst (All P) h.first.journals_are w.no_others) in
    let past = h.first.beyond in
    absurd (omega (arith, below, past))
not_whole script states js (BadScript line why) h w = h.its
not_whole script states js (BadTrace line) h w = h.its

-- a text has one reading
not_found : OneTextOneTrace → (states : List State) (script trace : List ℕ) (flaw : Flaw) (after : List State) → HasFound states script trace flaw
    → IsWholeTrace states script trace after → ⊥
not_found one states script trace flaw after h w =
    let js = one h.journals w.journals h.read.are w.read.are (sym h.read.spelled ∙ w.read.spelled) in
    let both : Ok h.said ≡ Ok w.said = sym h.read.script_is ∙ w.read.script_is in
    let said : h.said ≡ w.said = cc in
    not_whole h.said states h.journals flaw h.found
    (subst (λ (s : Script). AreWholeRuns s states h.journals) (sym said) (subst (AreWholeRuns w.said states) (sym js) w.runs))

refuted : PrintIsRead → OneTextOneTrace → (states : List State) (script trace : List ℕ) (flaw : Flaw) (after : List State) → IsFlaw states script trace flaw
    → IsWholeTrace states script trace after → ⊥
refuted print one states script trace (BadScript line why) after h w = absurd (let ok = w.read.script_is in cc)
refuted print one states script trace (BadTrace line) after h w =
    print w.journals (Err (Bad line)) w.read.are (subst (λ (text : List ℕ). IsBadLine text line) w.read.spelled h.1)
refuted print one states script trace (Brokers partition kept asked) after h w = not_found one states script trace (Brokers partition kept asked) after h w
refuted print one states script trace (NoStep partition entry line) after h w = not_found one states script trace (NoStep partition entry line) after h w
refuted print one states script trace (Unfinished partition) after h w = not_found one states script trace (Unfinished partition) after h w
refuted print one states script trace (Unasked partition) after h w = not_found one states script trace (Unasked partition) after h w

-- a whole run leaves one list of states
one_left : OneTextOneTrace → (states : List State) (script trace : List ℕ) (a b : List State) → IsWholeTrace states script trace a → IsWholeTrace states script trace b → a ≡ b
one_left one states script trace a b h w =
    let js = one h.journals w.journals h.read.are w.read.are (sym h.read.spelled ∙ w.read.spelled) in
    let both : Ok h.said ≡ Ok w.said = sym h.read.script_is ∙ w.read.script_is in
    let said : h.said ≡ w.said = cc in
    h.left ∙ ap (λ (s : Script). states_left s states h.journals) said ∙ ap (states_left w.said states) js ∙ sym w.left

-- and so do runs one after another
one_end : OneTextOneTrace → (pairs : List Pair) (states a b : List State) → LeadTo states pairs a → LeadTo states pairs b → a ≡ b
one_end one [] states a b h w = sym h ∙ w
one_end one (pair ∷ pairs) states a b h w =
    let next : h.0 ≡ w.0 = one_left one states pair.script pair.trace h.0 w.0 h.1 w.1 in
    one_end one pairs h.0 a b h.2 (subst (λ (s : List State). LeadTo s pairs b) (sym next) w.2)

-- they part at a place
parted : (before rest : List Pair) (states end : List State) → LeadTo states (before ++ rest) end → (mid : List State) × LeadTo states before mid × LeadTo mid rest end
parted [] rest states end h = (states, refl, h)
parted (pair ∷ before) rest states end h = let k = parted before rest h.0 end h.2 in (k.0, (h.0, h.1, k.1), k.2)

-- one run more
pub lead_more : (pairs : List Pair) (pair : Pair) (states mid after : List State) → LeadTo states pairs mid → IsWholeTrace mid pair.script pair.trace after
    → LeadTo states (pairs ++ pair ∷ []) after
lead_more [] pair states mid after h w = (after, subst (λ (s : List State). IsWholeTrace s pair.script pair.trace after) (sym h) w, refl)
lead_more (first ∷ pairs) pair states mid after h w = (h.0, h.1, lead_more pairs pair h.0 mid after h.2 w)

-- and at a place
pub lead_at : (pairs : List Pair) (i : ℕ) (pair : Pair) (mid after : List State) → i < length pairs → pair ≡ get_or pairs i pair → LeadTo [] (take i pairs) mid
    → IsWholeTrace mid pair.script pair.trace after → LeadTo [] (take (i + 1) pairs) after
lead_at pairs i pair mid after l is h w =
    let more : take (i + 1) pairs ≡ take i pairs ++ pair ∷ [] = take_more pairs i pair l ∙ ap (λ (z : Pair). take i pairs ++ z ∷ []) (sym is) in
    subst (λ (ps : List Pair). LeadTo [] ps after) (sym more) (lead_more (take i pairs) pair [] mid after h w)

-- the first that is none is at a place
pub flawed_at : (pairs : List Pair) (i : ℕ) (pair : Pair) (states : List State) (flaw : Flaw) → i < length pairs → pair ≡ get_or pairs i pair
    → LeadTo [] (take i pairs) states → IsFlaw states pair.script pair.trace flaw → IsFlawed pairs (i + 1) flaw
flawed_at pairs i pair states flaw l is h its = record {
  before = take i pairs;
  pair = pair;
  after = drop (suc i) pairs;
  pairs_are = split_at pairs i pair l is;
  run_is = grind (arith, length-take, l);
  states = states;
  lead = h;
  its = its;
}

not_chain : PrintIsRead → OneTextOneTrace → (pairs : List Pair) (run : ℕ) (flaw : Flaw) → IsFlawed pairs run flaw → AreWholeTraces pairs → ⊥
not_chain print one pairs run flaw h w =
    let k = parted h.before (h.pair ∷ h.after) [] w.0 (subst (λ (ps : List Pair). LeadTo [] ps w.0) h.pairs_are w.1) in
    let mid : k.0 ≡ h.states = one_end one h.before [] k.0 h.states k.1 h.lead in
    refuted print one k.0 h.pair.script h.pair.trace flaw k.2.0 (subst (λ (s : List State). IsFlaw s h.pair.script h.pair.trace flaw) (sym mid) h.its) k.2.1

-- the verdict is `Whole` exactly where they are whole runs
pub whole_tells : PrintIsRead → OneTextOneTrace → (pairs : List Pair) (v : Verdict) → IsVerdict pairs v → (v ≡ Whole) ↔ AreWholeTraces pairs
whole_tells print one pairs Whole h = (λ e. h, λ w. refl)
whole_tells print one pairs (Flawed run flaw) h = (λ e. absurd cc, λ w. absurd (not_chain print one pairs run flaw h w))
