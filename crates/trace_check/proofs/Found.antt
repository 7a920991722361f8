-- What is found of journals that were read.
use Rattle.std.proofs.Common.{◌≡◌, subst, ℕ, List, map, Some, None, Ok, Option}
use Rattle.plain_log.specs.declared.journal.JournalEntry.{JournalEntry}
use Rattle.plain_log.specs.declared.state.State.{State}
use Rattle.script_lang.specs.declared.script.Script.{Script}
use Rattle.script_lang.specs.Script.{script_in}
use Rattle.trace_text.specs.declared.line.PartJournal.{PartJournal}
use Rattle.trace_text.specs.Read.{told, IsTrace}
use Rattle.trace_check.specs.declared.pair.Pair.{Pair}
use Rattle.trace_check.specs.declared.verdict.Flaw.{Flaw}
use Rattle.trace_check.specs.declared.verdict.Flaw.TheVariants.{BadScript, BadTrace, Brokers, NoStep, Unfinished, Unasked}
use Rattle.trace_check.specs.Whole.{IsInputRead}
use Rattle.trace_check.specs.Verdicts.{IsFlawFound, AreJudged, IsFlaw, IsPairJudged}

as_flaw : (states : List State) (script trace : List ℕ) (flaw : Flaw) (said : Script) (js : List (ℕ × List JournalEntry)) → IsInputRead script trace said js
    → IsFlawFound said states js flaw → IsFlaw states script trace flaw
as_flaw states script trace (BadScript line why) said js read found = absurd found.its
as_flaw states script trace (BadTrace line) said js read found = absurd found.its
as_flaw states script trace (Brokers partition kept asked) said js read found = record { said = said; journals = js; read = read; found = found }
as_flaw states script trace (NoStep partition entry line) said js read found = record { said = said; journals = js; read = read; found = found }
as_flaw states script trace (Unfinished partition) said js read found = record { said = said; journals = js; read = read; found = found }
as_flaw states script trace (Unasked partition) said js read found = record { said = said; journals = js; read = read; found = found }

-- it is what is found of the pair
pub found_is : (states : List State) (pair : Pair) (after : List State) (said : Script) (parts slice : List PartJournal) (o : Option Flaw) → script_in pair.script ≡ Ok said
    → IsTrace pair.trace parts → slice ≡ parts → AreJudged said states (map told slice) after o → IsPairJudged states pair after o
found_is states pair after said parts slice o said_is is same judged =
    found_as o (subst (λ (ps : List PartJournal). AreJudged said states (map told ps) after o) same judged)
  where
    read : IsInputRead pair.script pair.trace said (map told parts)
    read = record { script_is = said_is; are = is.are; spelled = is.text }

    found_as : (k : Option Flaw) → AreJudged said states (map told parts) after k → IsPairJudged states pair after k
    found_as None h = record { said = said; journals = map told parts; read = read; runs = h.0; left = h.1 }
    found_as (Some flaw) h = as_flaw states pair.script pair.trace flaw said (map told parts) read h
