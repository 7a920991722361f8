-- What the runs of partitions by threads say of the text of their journals.
use Rattle.std.proofs.Common.{◌≡◌, ◌∙◌, sym, ap, subst, refl, ℕ, ◌+◌, ◌<◌, List, [], ◌∷◌, ◌++◌, length, slice_get, Some, Ok, take, append_assoc, arith}
use Rattle.std.proofs.lemmas.List.{take_more}
use Rattle.std.proofs.lemmas.Option.{get_or_from_slice_get, slice_get_within}
use Rattle.disk_model.specs.declared.disk.Disk.{Ghosts as DiskGhosts}
use Rattle.object_store.specs.declared.store.Store.{Ghosts as StoreGhosts}
use Rattle.meta_log.specs.declared.log.MetaLog.{Ghosts as MetaGhosts}
use Rattle.plain_log.specs.declared.command.Config.{Config}
use Rattle.plain_log.specs.declared.journal.JournalEntry.{JournalEntry}
use Rattle.script_lang.specs.declared.script.PartScript.{PartScript}
use Rattle.script_lang.specs.declared.script.Script.{Script}
use Rattle.script_lang.specs.Fit.{IsFit}
use Rattle.script_lang.specs.Script.{script_in}
use Rattle.trace_text.specs.Trace.{journal_text}
use Rattle.run_threaded.specs.Traced.{IsPartScript, IsRunByThreads}
use Rattle.tiered_call.specs.Headline.{IsTraceOfScript, IsTraceByThreads, AreRunsOf, AreRunsByThreads}
use Rattle.tiered_call.specs.Threads.{AddsThreadedRun, IsSoFarByThreads}
use Rattle.tiered_call.proofs.Running.{trace_snoc}

-- two readings of the same bytes are the same
one_reading : (bytes : List ℕ) (a b : Script) → script_in bytes ≡ Ok a → script_in bytes ≡ Ok b → a ≡ b
one_reading bytes a b x y = cc (x, y)

-- the one at a seam
seam : {A : Type 0} (before : List A) (x : A) (after : List A) → slice_get (before ++ x ∷ after) (length before) ≡ Some x
seam [] x after = refl
seam (y ∷ before) x after = seam before x after

-- the partition after so many is the one at that place
pub part_behind : (bytes copy : List ℕ) (script : Script) (before after rest : List PartScript) (part : PartScript) (place : ℕ) → script_in bytes ≡ Ok script → IsFit script → copy ≡ bytes
    → rest ≡ part ∷ after → before ++ rest ≡ script.parts → place ≡ length before → IsPartScript copy place script.config part
part_behind bytes copy script before after rest part place reads fit same next all here = record {
  read = script;
  reads = ap script_in same ∙ reads;
  fit = fit;
  config_is = refl;
  at =
      let split : before ++ part ∷ after ≡ script.parts = ap (λ (k : List PartScript). before ++ k) (sym next) ∙ all in
      subst (λ (k : List PartScript). slice_get k place ≡ Some part) split
      (subst (λ (n : ℕ). slice_get (before ++ part ∷ after) n ≡ Some part) (sym here) (seam before part after));
}

-- one partition more precedes
pub all_behind : (before after rest parts : List PartScript) (part : PartScript) → rest ≡ part ∷ after → before ++ rest ≡ parts → (before ++ part ∷ []) ++ after ≡ parts
all_behind before after rest parts part next all = append_assoc before (part ∷ []) after ∙ (ap (λ (k : List PartScript). before ++ k) (sym next) ∙ all)

module _ {D S M : Type 0} (disk : DiskGhosts D) (store : StoreGhosts S) (meta : MetaGhosts M) where
  -- a run by the script's own schedule is one by some schedule
  pub some_order : (config : Config) (parts : List PartScript) (runs : List (ℕ × List JournalEntry)) → AreRunsOf disk store meta config parts runs → AreRunsByThreads disk store meta config parts runs
  some_order config [] [] are = tt
  some_order config (part ∷ parts) (run ∷ runs) are = ((part.schedule, are.0), some_order config parts runs are.1)
  some_order config [] (run ∷ runs) are = elim are [ ]
  some_order config (part ∷ parts) [] are = elim are [ ]

  pub trace_in_some_order : (bytes text : List ℕ) → IsTraceOfScript disk store meta bytes text → IsTraceByThreads disk store meta bytes text
  trace_in_some_order bytes text t = record {
    script = t.script;
    read = t.read;
    runs = t.runs;
    are = some_order t.script.config t.script.parts t.runs t.are;
    spelled = t.spelled;
  }

  -- one partition more
  runs_more : (config : Config) (parts : List PartScript) (runs : List (ℕ × List JournalEntry)) (part : PartScript) (run : ℕ × List JournalEntry)
      → AreRunsByThreads disk store meta config parts runs → IsRunByThreads disk store meta config part run → AreRunsByThreads disk store meta config (parts ++ part ∷ []) (runs ++ run ∷ [])
  runs_more config [] [] part run are is = (is, tt)
  runs_more config (first ∷ parts) (one ∷ runs) part run are is = (are.0, runs_more config parts runs part run are.1 is)
  runs_more config [] (one ∷ runs) part run are is = elim are [ ]
  runs_more config (first ∷ parts) [] part run are is = elim are [ ]

  -- one run more was ended
  pub so_far_more : (bytes : List ℕ) (script : Script) (place left : ℕ) (text new : List ℕ) → script_in bytes ≡ Ok script → IsSoFarByThreads disk store meta script.config script.parts place (left + 1) text
      → AddsThreadedRun disk store meta bytes place text new → IsSoFarByThreads disk store meta script.config script.parts (place + 1) left new
  so_far_more bytes script place left text new reads so a =
      let p = a.is.is_part in
      let same : p.read ≡ script = one_reading bytes p.read script p.reads reads in
      let config : a.is.config ≡ script.config = sym p.config_is ∙ ap (λ (k : Script). k.config) same in
      let at : slice_get script.parts place ≡ Some a.is.part = subst (λ (k : Script). slice_get k.parts place ≡ Some a.is.part) same p.at in
      let lt : place < length script.parts = slice_get_within script.parts place a.is.part at in
      let more : take (place + 1) script.parts ≡ take place script.parts ++ a.is.part ∷ [] =
      take_more script.parts place a.is.part lt ∙ ap (λ (k : PartScript). take place script.parts ++ k ∷ []) (get_or_from_slice_get script.parts place a.is.part a.is.part at) in
      let run : IsRunByThreads disk store meta script.config a.is.part a.run = subst (λ (k : Config). IsRunByThreads disk store meta k a.is.part a.run) config a.is.is in
      record {
        text_is = record {
          runs = so.text_is.runs ++ a.run ∷ [];
          are = subst (λ (k : List PartScript). AreRunsByThreads disk store meta script.config k (so.text_is.runs ++ a.run ∷ [])) (sym more)
              (runs_more script.config (take place script.parts) so.text_is.runs a.is.part a.run so.text_is.are run);
          spelled = a.added ∙ (ap (λ (k : List ℕ). k ++ journal_text a.run.0 a.run.1) so.text_is.spelled ∙ sym (trace_snoc disk store meta so.text_is.runs a.run));
        };
        many = omega (arith, so.many);
      }
