-- What the turn of a rebuild that reads its leader epochs may come to, and that the store continues to report.
use Rattle.std.proofs.Common.{◌≡◌, ap, subst, sym, ℕ, List, Some, None, Option, Ok, Err, true, false}
use mathlib.Core.Path.{fun_ext}
use Rattle.std.specs.declared.result.Result.{Result}
use Rattle.std.specs.declared.alloc.AllocError.{AllocError}
use Rattle.tier_base.specs.declared.fault.Trouble.{Trouble}
use Rattle.tier_base.specs.declared.fault.Trouble.TheVariants.{Failed, NoMemory}
use Rattle.object_store.specs.declared.placing.Spot.{Spot}
use Rattle.object_store.specs.Place.{short_of}
use Rattle.object_store.specs.declared.store.Store.{Ghosts as StoreGhosts}
use Rattle.remote_view.specs.Fold.{EntriesSeen as View}
use Rattle.rebuild_task.specs.declared.turn.RebuildStep.TheVariants.{Restart}
use Rattle.rebuild_task.specs.declared.turn.RebuildStep.{RebuildStep}
use Rattle.plain_log.specs.declared.turn.Turn.{Turn}
use Rattle.plain_log.specs.declared.turn.Turn.TheVariants.{Goes, Ends}
use Rattle.rebuild_task.specs.declared.turn.RebuildRequest.{RebuildRequest}
use Rattle.rebuild_task.specs.Turns.{TakesBytes, TakesEpochs, EpochsRow, RebuildRow}
use Rattle.plain_log.specs.declared.answer.Answer.{Answer}
use Rattle.plain_log.specs.declared.answer.Answer.TheVariants.{StoreFault, Damaged}

-- it gets this answer, or the log is restarted next
abbrev pub MayTurn : Turn RebuildStep → Type 0
MayTurn (Goes (Restart line)) = Unit {0}
MayTurn (Ends StoreFault) = Unit {0}
MayTurn (Ends (Damaged place at)) = Unit {0}
MayTurn other = ⊥

may_same : (turn after : Turn RebuildStep) → ◌≡◌ {A = Result (Turn RebuildStep) AllocError} (Ok turn) (Ok after) → MayTurn after → MayTurn turn
may_same turn after is may = let same : turn ≡ after = cc (is) in subst MayTurn (sym same) may

takes_may : (wanted : ℕ) (spot : Spot) (answer : Result (Option (List ℕ)) Trouble) (turn : Turn RebuildStep) → TakesEpochs wanted spot answer (Ok turn) → MayTurn turn
takes_may wanted spot (Err Failed) turn w = may_same turn _ w tt
takes_may wanted spot (Err NoMemory) turn w = absurd (let no : false ≡ true = w in cc)
takes_may wanted spot (Ok None) turn w = may_same turn _ w tt
takes_may wanted spot (Ok (Some bytes)) turn w = by (short_of spot bytes) turn w
  where
    by : (end : Option ℕ) (turn : Turn RebuildStep) → TakesBytes end wanted spot bytes (Ok turn) → MayTurn turn
    by (Some end) turn w = may_same turn _ w tt
    by None (Goes (Restart line)) w = tt
    by None (Goes next) w = elim w [ ]
    by None (Ends answer) w = may_same (Ends answer) _ (ap (λ (a : Answer). Ok (Ends a)) w.0) tt

module _ {S : Type 0} (store : StoreGhosts S) where
  epochs_may : (wanted : ℕ) (view : View) (spot : Option Spot) (turn : Turn RebuildStep) (old new : S) → EpochsRow store.content store.control wanted view spot (Ok turn) old new → MayTurn turn
  epochs_may wanted view None turn old new w = may_same turn _ w.0 tt
  epochs_may wanted view (Some spot) turn old new w = takes_may wanted spot w.answer turn w.takes

  pub rebuild_may_turn : (wanted : RebuildRequest) (line : List (ℕ × ℕ)) (view : View) (turn : Turn RebuildStep) (old new : S) → RebuildRow store.content store.control wanted line view (Ok turn) old new → MayTurn turn
  rebuild_may_turn wanted line view turn old new w = epochs_may wanted.offset view _ turn old new w

  -- the store holds and returns what it did
  pub record IsKept (old new : S) : Type 0 where
    pub is_observable : (store.content new).is_observable ≡ (store.content old).is_observable
    pub objects : (store.content new).objects ≡ (store.content old).objects

  epochs_kept : (wanted : ℕ) (view : View) (spot : Option Spot) (result : Result (Turn RebuildStep) AllocError) (old new : S) → EpochsRow store.content store.control wanted view spot result old new → IsKept old new
  epochs_kept wanted view None result old new w = record { is_observable = ap (λ (s : S). (store.content s).is_observable) w.1; objects = ap (λ (s : S). (store.content s).objects) w.1 }
  epochs_kept wanted view (Some spot) result old new w = record { is_observable = w.gets.content.is_observable; objects = fun_ext (λ k. w.gets.content.objects k) }

  pub rebuild_kept : (wanted : RebuildRequest) (line : List (ℕ × ℕ)) (view : View) (result : Result (Turn RebuildStep) AllocError) (old new : S) → RebuildRow store.content store.control wanted line view result old new → IsKept old new
  rebuild_kept wanted line view result old new w = epochs_kept wanted.offset view _ result old new w
