-- What a schedule reaches is a later world.
use Rattle.std.proofs.Common.{inl, inr, ℕ, zero, suc, List, [], ◌∷◌}
use Rattle.plain_log.specs.declared.command.Pace.{Pace}
use Rattle.plain_log.specs.declared.command.Pace.TheVariants.{Until, Times}
use Rattle.disk_model.specs.declared.disk.Disk.{Ghosts as DiskGhosts}
use Rattle.object_store.specs.declared.store.Store.{Ghosts as StoreGhosts}
use Rattle.meta_log.specs.declared.log.MetaLog.{Ghosts as MetaGhosts}
use Rattle.partition_world.specs.Whole.{Whole}
use Rattle.partition_world.specs.Later.{IsLater}
use Rattle.partition_world.specs.Reaches.{TakesTurn, GoesTimes, GoesUntil, Paces, Reaches}
use Rattle.partition_world.proofs.CentralLaw.{turn_central}
use Rattle.partition_world.proofs.LaterLaw.{later_more, turn_later, same_later}

module _ {D S M : Type 0} (disk : DiskGhosts D) (store : StoreGhosts S) (meta : MetaGhosts M) where
  goes_later : (w : Whole D S M) (a : ℕ) (w' : Whole D S M) → TakesTurn disk store meta w a w' → IsLater disk store meta w w'
  goes_later w a w' (inl t) = turn_later disk store meta w a t.0 w' t.1 (λ opening c. turn_central disk store meta opening w a t.0 w' t.1 c)
  goes_later w a w' (inr e) = same_later disk store meta w w' e.1

  times_later : (w : Whole D S M) (a turns : ℕ) (w' : Whole D S M) → GoesTimes disk store meta w a turns w' → IsLater disk store meta w w'
  times_later w a zero w' g = same_later disk store meta w w' g
  times_later w a (suc turns) w' g = later_more disk store meta w g.0 w' (goes_later w a g.0 g.1) (times_later g.0 a turns w' g.2)

  until_later : (w : Whole D S M) (a number turns : ℕ) (w' : Whole D S M) → GoesUntil disk store meta w a number turns w' → IsLater disk store meta w w'
  until_later w a number zero w' g = same_later disk store meta w w' g.1
  until_later w a number (suc turns) w' g = later_more disk store meta w g.1.0 w' (goes_later w a g.1.0 g.1.1) (until_later g.1.0 a number turns w' g.1.2)

  paces_later : (w : Whole D S M) (pace : Pace) (w' : Whole D S M) → Paces disk store meta w pace w' → IsLater disk store meta w w'
  paces_later w (Until actor number) w' g = until_later w actor.0 number g.0 w' g.1
  paces_later w (Times actor turns) w' g = times_later w actor.0 turns w' g

  pub reaches_later : (w : Whole D S M) (schedule : List Pace) (w' : Whole D S M) → Reaches disk store meta w schedule w' → IsLater disk store meta w w'
  reaches_later w [] w' r = same_later disk store meta w w' r
  reaches_later w (pace ∷ schedule) w' r = later_more disk store meta w r.0 w' (paces_later w pace r.0 r.1) (reaches_later r.0 schedule w' r.2)
