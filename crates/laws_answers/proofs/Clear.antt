-- An answer that reports a fault comes of none where no call of a device failed, and over devices of which none can
-- fail there is none.
use Rattle.std.proofs.Common.{◌≡◌, inl, subst, refl, ℕ, zero, suc, List, [], ◌∷◌, ◌++◌}
use Rattle.disk_model.specs.declared.disk.Disk.{Ghosts as DiskGhosts}
use Rattle.object_store.specs.declared.store.Store.{Ghosts as StoreGhosts}
use Rattle.meta_log.specs.declared.log.MetaLog.{Ghosts as MetaGhosts}
use Rattle.plain_log.specs.declared.answer.Answer.{Answer}
use Rattle.plain_log.specs.declared.answer.Answer.TheVariants.{DiskFault, DiskFaultAt, MetaFault, StoreFault}
use Rattle.plain_log.specs.declared.command.Pace.TheVariants.{Times}
use Rattle.plain_log.specs.declared.journal.JournalEntry.{JournalEntry}
use Rattle.partition_commands.specs.Infallible.{IsFaultless, HasNoFault, AreFaultless}
use Rattle.partition_world.specs.declared.actor_state.Outcome.{Outcome}
use Rattle.partition_world.specs.declared.actor_state.Outcome.TheVariants.{Answers}
use Rattle.partition_world.specs.Infallible.{IsUnfailing}
use Rattle.partition_world.specs.Turn.{IsTurn}
use Rattle.partition_world.specs.Whole.{Whole}
use Rattle.partition_world.proofs.InfallibleLaw.{reaches_unfailing}
use Rattle.laws_answers.specs.Faults.{DiskFailed, StoreFailed, MetaFailed, CommandMeetsNoFault}
use Rattle.laws_answers.proofs.ChainsOfTurns.{entry}

last_infallible : (items : List JournalEntry) (last : JournalEntry) → AreFaultless (items ++ last ∷ []) → HasNoFault last.event
last_infallible [] last f = f.0
last_infallible (first ∷ items) last f = last_infallible items last f.1

module _ {D S M : Type 0} (disk : DiskGhosts D) (store : StoreGhosts S) (meta : MetaGhosts M) where
  -- where the turn reports a fault none was met
  pub record Clear (b : ℕ) (answer : Answer) (w w' : Whole D S M) : Type 0 where
    pub disk_clear : answer ≡ DiskFault → DiskFailed disk b w w' → ⊥
    pub end_clear : (n : ℕ) → answer ≡ DiskFaultAt n → DiskFailed disk b w w' → ⊥
    pub store_clear : answer ≡ StoreFault → StoreFailed store w w' → ⊥
    pub meta_clear : answer ≡ MetaFault → MetaFailed meta w w' → ⊥

  pub well_clear : (b : ℕ) (answer : Answer) (w w' : Whole D S M) → CommandMeetsNoFault disk store meta b w w' → Clear b answer w w'
  well_clear b answer w w' well = record {
    disk_clear = λ e. well.disk_well;
    end_clear = λ n e. well.disk_well;
    store_clear = λ e. well.store_well;
    meta_clear = λ e. well.meta_well;
  }

  pub turn_infallible : (v : Whole D S M) (b : ℕ) (outcome : Outcome) (u : Whole D S M) → IsTurn disk store meta v b outcome u → IsUnfailing disk store meta v → IsUnfailing disk store meta u
  turn_infallible v b outcome u t infallible = reaches_unfailing disk store meta v (Times (record { 0 = b }) (suc zero) ∷ []) u (u, (u, inl (outcome, t), refl), refl) infallible

  pub infallible_clear : (v : Whole D S M) (b : ℕ) (answer : Answer) (u : Whole D S M) (t : IsTurn disk store meta v b (Answers answer) u) → IsUnfailing disk store meta v → Clear t.order.broker.0 answer v u
  infallible_clear v b answer u t infallible =
      let after = turn_infallible v b (Answers answer) u t infallible in
      let told : IsFaultless answer = last_infallible v.journal.items (entry t.list.actor t.actor_state.number answer) (subst AreFaultless t.entered after.journal) in
      record {
        disk_clear = λ e f. subst IsFaultless e told;
        end_clear = λ n e f. subst IsFaultless e told;
        store_clear = λ e f. subst IsFaultless e told;
        meta_clear = λ e f. subst IsFaultless e told;
      }
