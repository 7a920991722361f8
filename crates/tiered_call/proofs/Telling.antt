-- What the runs of partitions come to.
use Rattle.std.proofs.Common.{◌≡◌, ◌∙◌, sym, ap, subst, ℕ, suc, List, [], ◌∷◌, ◌++◌, arith, append_assoc}
use Rattle.std.specs.Prelude.{Option, None}
use Rattle.std.proofs.lemmas.List.Elements.{All-weaker}
use Rattle.disk_model.specs.declared.disk.Disk.{Ghosts as DiskGhosts}
use Rattle.object_store.specs.declared.store.Store.{Ghosts as StoreGhosts}
use Rattle.meta_log.specs.declared.log.MetaLog.{Ghosts as MetaGhosts}
use Rattle.plain_log.specs.declared.command.ActorList.{ActorList}
use Rattle.plain_log.specs.declared.command.Command.{Command}
use Rattle.plain_log.specs.declared.command.Command.TheVariants.{Append}
use Rattle.plain_log.specs.declared.command.Config.{Config}
use Rattle.plain_log.specs.declared.command.Order.{Order}
use Rattle.plain_log.specs.declared.journal.JournalEntry.{JournalEntry}
use Rattle.plain_log.specs.Orders.{IsInRange, IsOrderFor, IsListFor, AreListsFor}
use Rattle.plain_log.specs.Runs.{IsPlainRun}
use Rattle.plain_executor.specs.Fits.{IsBuildableAppend, AreFor}
use Rattle.plain_executor.proofs.Fitting.{IsListFor as IsMachinesList, lists_for}
use Rattle.run_summary.specs.declared.told.Told.{Told}
use Rattle.run_summary.specs.Told.{told_of}
use Rattle.script_lang.specs.declared.script.PartScript.{PartScript}
use Rattle.tiered_call.specs.Headline.{IsRunSummary, AreRunSummaries}
use Rattle.tiered_call.specs.Telling.{IsToldRun, AreToldRuns, IsToldSoFar}
use Rattle.tiered_call.proofs.Running.{runs_snoc}

-- the plain log's machine takes what a world takes
is_for : (command : Command) → IsInRange command → IsBuildableAppend command
is_for (Append recs) h = h
is_for other h = tt

pub fits : (config : Config) (lists : List ActorList) → AreListsFor config lists → AreFor lists
fits config lists h =
    lists_for lists (All-weaker (IsListFor config) IsMachinesList
    (λ l own. All-weaker (IsOrderFor config) (λ (order : Order). IsBuildableAppend order.command) (λ order is. is_for order.command is.command) l.orders own.orders) lists h.each)

-- what a journal comes to, by other names
pub told_at : (config : Config) (partition : ℕ) (lists l : List ActorList) (journal j : List JournalEntry) (t : Option Told) → l ≡ lists → j ≡ journal
    → t ≡ told_of config partition l j → told_of config partition lists journal ≡ t
told_at config partition lists l journal j t own its is =
    sym (is ∙ (ap (λ (k : List ActorList). told_of config partition k j) own ∙ ap (told_of config partition lists) its))

-- a run of the plain log comes to something
pub run_is_told : (config : Config) (partition : ℕ) (lists : List ActorList) (journal : List JournalEntry) → IsPlainRun config lists journal
    → told_of config partition lists journal ≡ None → ⊥
run_is_told config partition lists journal run none = absurd (let is = run.replays in cc)

-- one partition more
told_snoc : (config : Config) (parts : List PartScript) (runs : List (ℕ × List JournalEntry)) (told : List Told) (part : PartScript) (run : ℕ × List JournalEntry) (one : Told)
    → AreRunSummaries config parts runs told → IsRunSummary config part run one → AreRunSummaries config (parts ++ part ∷ []) (runs ++ run ∷ []) (told ++ one ∷ [])
told_snoc config [] [] [] part run one are is = (is, tt)
told_snoc config (p ∷ parts) (r ∷ runs) (t ∷ told) part run one are is = (are.0, told_snoc config parts runs told part run one are.1 is)
told_snoc config [] [] (t ∷ told) part run one are is = elim are [ ]
told_snoc config [] (r ∷ runs) told part run one are is = elim are [ ]
told_snoc config (p ∷ parts) [] told part run one are is = elim are [ ]
told_snoc config (p ∷ parts) (r ∷ runs) [] part run one are is = elim are [ ]

module _ {D S M : Type 0} (disk : DiskGhosts D) (store : StoreGhosts S) (meta : MetaGhosts M) where
  -- one partition more was run, and reported of
  pub tells_on : (config : Config) (parts before after : List PartScript) (part : PartScript) (told new : List Told) (one : Told) → before ≡ part ∷ after
      → IsToldSoFar disk store meta config parts before told → IsToldRun disk store meta config part one → new ≡ told ++ one ∷ [] → IsToldSoFar disk store meta config parts after new
  tells_on config parts before after part told new one steps so t added =
      let s : IsToldSoFar disk store meta config parts (part ∷ after) told = subst (λ (k : List PartScript). IsToldSoFar disk store meta config parts k told) steps so in
      record {
        run = s.run ++ part ∷ [];
        all = append_assoc s.run (part ∷ []) after ∙ s.all;
        told_are = subst (AreToldRuns disk store meta config (s.run ++ part ∷ [])) (sym added) (record {
          runs = s.told_are.runs ++ t.run ∷ [];
          are = runs_snoc disk store meta config s.run s.told_are.runs part t.run s.told_are.are t.is;
          tell = told_snoc config s.run s.told_are.runs told part t.run one s.told_are.tell t.is_observable;
        });
        fit = λ i d within. s.fit (suc i) d (omega (arith, within));
        ends = λ i d within. s.ends (suc i) d (omega (arith, within));
      }
