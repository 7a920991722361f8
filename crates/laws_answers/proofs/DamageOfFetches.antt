-- No fetch is answered `Damaged`.
use Rattle.std.proofs.Common.{◌≡◌, ℕ, slice_get}
use Rattle.disk_model.specs.declared.disk.Disk.{Ghosts as DiskGhosts}
use Rattle.object_store.specs.declared.store.Store.{Ghosts as StoreGhosts}
use Rattle.meta_log.specs.declared.log.MetaLog.{Ghosts as MetaGhosts}
use Rattle.tier_fetch.specs.declared.turn.FetchStep.{FetchStep}
use Rattle.tier_fetch.specs.declared.turn.FetchStep.TheVariants.{Refresh, Index, Log}
use Rattle.plain_log.specs.declared.answer.Answer.TheVariants.{Damaged}
use Rattle.plain_log.specs.declared.answer.Place.{Place}
use Rattle.plain_log.specs.declared.command.Command.TheVariants.{Fetch}
use Rattle.plain_log.specs.declared.state.State.{State}
use Rattle.laws_partition.specs.declared.start_snapshot.StartSnapshot.{StartSnapshot}
use Rattle.laws_partition.proofs.BoolTests.{some_of}
use Rattle.partition_commands.specs.declared.partition_state.Node.{Node}
use Rattle.partition_world.specs.declared.actor_state.Outcome.TheVariants.{Answers}
use Rattle.partition_world.specs.declared.actor_state.InProgress.{InProgress}
use Rattle.partition_world.specs.declared.actor_state.InProgress.TheVariants.{Idle, Noted, Seeks}
use Rattle.partition_world.specs.Central.{IsCentral}
use Rattle.partition_world.specs.Turn.{IsTurn}
use Rattle.partition_world.specs.Whole.{Whole}
use Rattle.laws_answers.specs.CausesOfFetches.{FetchLaterCause, FetchHasCause}
use Rattle.laws_answers.specs.Found.{SpansKnown}
use Rattle.laws_answers.proofs.FetchesHaveCauses.{have_causes}

module _ {D S M : Type 0} (disk : DiskGhosts D) (store : StoreGhosts S) (meta : MetaGhosts M) where
  -- damage has no cause
  later_never : (w : Whole D S M) (x : Node D) (g : StartSnapshot) (offset limit : ℕ) (next : FetchStep) (place : Place) (at : ℕ) (w' : Whole D S M)
      → FetchLaterCause disk store meta w x g offset limit next (Damaged place at) w' → ⊥
  later_never w x g offset limit Refresh place at w' cause = cause
  later_never w x g offset limit (Index piece) place at w' cause = cause
  later_never w x g offset limit (Log piece span) place at w' cause = cause

  never : (w : Whole D S M) (b : ℕ) (x : Node D) (in_progress : InProgress) (offset limit : ℕ) (place : Place) (at : ℕ) (w' : Whole D S M)
      → FetchHasCause disk store meta w b x in_progress offset limit (Damaged place at) w' → ⊥
  never w b x Idle offset limit place at w' cause = cause
  never w b x (Noted g) offset limit place at w' cause = later_never w x g offset limit Refresh place at w' cause
  never w b x (Seeks g next) offset limit place at w' cause = later_never w x g offset limit next place at w' cause
  never w b x other offset limit place at w' cause = cause

  pub none_damaged : (opening : State) (w : Whole D S M) (a : ℕ) (place : Place) (at : ℕ) (w' : Whole D S M) (offset limit : ℕ) → IsCentral disk store meta opening w → SpansKnown meta opening w
      → (t : IsTurn disk store meta w a (Answers (Damaged place at)) w') → t.order.command ≡ Fetch offset limit → ⊥
  none_damaged opening w a place at w' offset limit c known t fetches =
      let b = t.order.broker.0 in
      let x = some_of (λ x. FetchHasCause disk store meta w b x t.actor_state.in_progress offset limit (Damaged place at) w') (slice_get w.partition_state.nodes b)
      (have_causes disk store meta opening w a (Damaged place at) w' offset limit c known t fetches) in
      never w b x.0 t.actor_state.in_progress offset limit place at w' x.2
