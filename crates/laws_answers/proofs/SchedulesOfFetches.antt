-- What is known is known of what a schedule reaches.
use Rattle.std.proofs.Common.{inl, inr, sym, subst, ℕ, List, [], ◌∷◌}
use Rattle.disk_model.specs.declared.disk.Disk.{Ghosts as DiskGhosts}
use Rattle.object_store.specs.declared.store.Store.{Ghosts as StoreGhosts}
use Rattle.meta_log.specs.declared.log.MetaLog.{Ghosts as MetaGhosts}
use Rattle.plain_log.specs.declared.command.Pace.{Pace}
use Rattle.plain_log.specs.declared.state.State.{State}
use Rattle.partition_world.specs.Central.{IsCentral}
use Rattle.partition_world.specs.Reaches.{Reaches}
use Rattle.partition_world.specs.Whole.{Whole}
use Rattle.partition_world.proofs.CentralLaw.{turn_central}
use Rattle.laws_answers.specs.Found.{SpansKnown}
use Rattle.laws_answers.proofs.SchedulesOfTurns.{Any, any_of}
use Rattle.laws_answers.proofs.KnownOfFetches.{keep_spans}

module _ {D S M : Type 0} (disk : DiskGhosts D) (store : StoreGhosts S) (meta : MetaGhosts M) where
  -- what is known continues
  any_known : (opening : State) (v : Whole D S M) (actors : List ℕ) (u : Whole D S M) → IsCentral disk store meta opening v → SpansKnown meta opening v → Any disk store meta v actors u
      → IsCentral disk store meta opening u × SpansKnown meta opening u
  any_known opening v [] u c known r = subst (λ (k : Whole D S M). IsCentral disk store meta opening k × SpansKnown meta opening k) (sym r) (c, known)
  any_known opening v (b ∷ actors) u c known (x, inl (outcome, t), p, rest) =
      any_known opening x actors u (turn_central disk store meta opening v b outcome x t c) (keep_spans disk store meta opening v b outcome x c known t) rest
  any_known opening v (b ∷ actors) u c known (x, inr (end, same), p, rest) =
      any_known opening v actors u c known (subst (λ (k : Whole D S M). Any disk store meta k actors u) same rest)

  pub reaches_spans : (opening : State) (w : Whole D S M) (schedule : List Pace) (w' : Whole D S M) → IsCentral disk store meta opening w → SpansKnown meta opening w → Reaches disk store meta w schedule w'
      → IsCentral disk store meta opening w' × SpansKnown meta opening w'
  reaches_spans opening w schedule w' c known r = let any = any_of disk store meta w schedule w' r in any_known opening w any.0 w' c known any.1
