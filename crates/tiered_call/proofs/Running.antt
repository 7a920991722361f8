-- What the runs of partitions say of the text of their journals.
use Rattle.std.proofs.Common.{◌≡◌, ◌∙◌, sym, ap, subst, ℕ, suc, List, [], ◌∷◌, ◌++◌, arith, append_assoc, append-nil}
use Rattle.disk_model.specs.declared.disk.Disk.{Ghosts as DiskGhosts}
use Rattle.object_store.specs.declared.store.Store.{Ghosts as StoreGhosts}
use Rattle.meta_log.specs.declared.log.MetaLog.{Ghosts as MetaGhosts}
use Rattle.plain_log.specs.declared.command.Config.{Config}
use Rattle.plain_log.specs.declared.journal.JournalEntry.{JournalEntry}
use Rattle.script_lang.specs.declared.script.PartScript.{PartScript}
use Rattle.trace_text.specs.Trace.{journal_text, trace_of}
use Rattle.run_memory.specs.Run.{IsJournalOf}
use Rattle.tiered_call.specs.Headline.{AreRunsOf}
use Rattle.tiered_call.specs.Running.{AddsRun, IsTextOfScript, IsSoFar}

module _ {D S M : Type 0} (disk : DiskGhosts D) (store : StoreGhosts S) (meta : MetaGhosts M) where
  -- one partition more
  pub runs_snoc : (config : Config) (parts : List PartScript) (runs : List (ℕ × List JournalEntry)) (part : PartScript) (run : ℕ × List JournalEntry)
      → AreRunsOf disk store meta config parts runs → IsJournalOf disk store meta config part run → AreRunsOf disk store meta config (parts ++ part ∷ []) (runs ++ run ∷ [])
  runs_snoc config [] [] part run are is = (is, tt)
  runs_snoc config (first ∷ parts) (one ∷ runs) part run are is = (are.0, runs_snoc config parts runs part run are.1 is)
  runs_snoc config [] (one ∷ runs) part run are is = elim are [ ]
  runs_snoc config (first ∷ parts) [] part run are is = elim are [ ]

  pub trace_snoc : (runs : List (ℕ × List JournalEntry)) (run : ℕ × List JournalEntry) → trace_of (runs ++ run ∷ []) ≡ trace_of runs ++ journal_text run.0 run.1
  trace_snoc [] run = append-nil (journal_text run.0 run.1)
  trace_snoc (one ∷ runs) run = ap (λ (t : List ℕ). journal_text one.0 one.1 ++ t) (trace_snoc runs run) ∙ sym (append_assoc (journal_text one.0 one.1) (trace_of runs) (journal_text run.0 run.1))

  pub text_snoc : (config : Config) (parts : List PartScript) (part : PartScript) (text new : List ℕ) → IsTextOfScript disk store meta config parts text → AddsRun disk store meta config part text new
      → IsTextOfScript disk store meta config (parts ++ part ∷ []) new
  text_snoc config parts part text new t a = record {
    runs = t.runs ++ a.run ∷ [];
    are = runs_snoc config parts t.runs part a.run t.are a.is;
    spelled = a.added ∙ (ap (λ (k : List ℕ). k ++ journal_text a.run.0 a.run.1) t.spelled ∙ sym (trace_snoc t.runs a.run));
  }

  -- one partition more was run
  pub goes_on : (config : Config) (parts before after : List PartScript) (part : PartScript) (text new : List ℕ) → before ≡ part ∷ after → IsSoFar disk store meta config parts before text
      → AddsRun disk store meta config part text new → IsSoFar disk store meta config parts after new
  goes_on config parts before after part text new steps so a =
      let s : IsSoFar disk store meta config parts (part ∷ after) text = subst (λ (k : List PartScript). IsSoFar disk store meta config parts k text) steps so in
      record {
        run = s.run ++ part ∷ [];
        all = append_assoc s.run (part ∷ []) after ∙ s.all;
        text_is = text_snoc config s.run part text new s.text_is a;
        fit = λ i d within. s.fit (suc i) d (omega (arith, within));
        ends = λ i d within. s.ends (suc i) d (omega (arith, within));
      }
