-- Steps one after the other, in the course of each of which a power cut leaves the state before or after it.
use Rattle.std.proofs.Common.{refl, subst, List, [], ◌∷◌}
use Rattle.disk_model.specs.declared.disk.Disk.{Ghosts as DiskGhosts}
use Rattle.object_store.specs.declared.store.Store.{Ghosts as StoreGhosts}
use Rattle.meta_log.specs.declared.log.MetaLog.{Ghosts as MetaGhosts}
use Rattle.cold_start.specs.Moments.{GoesSafely, GoesThrough, RunsThrough}
use Rattle.cold_start.specs.Running.{Running}

module _ {D S M : Type 0} (disk : DiskGhosts D) (store : StoreGhosts S) (meta : MetaGhosts M) where
  pub through_none : (t : Running D S M) → RunsThrough disk store meta t t
  through_none t = ([], refl)

  pub through_one : (t t' : Running D S M) → GoesSafely disk store meta t t' → RunsThrough disk store meta t t'
  through_one t t' step = (t' ∷ [], (step, refl))

  through_by : (us : List (Running D S M)) (t u t' : Running D S M) → GoesThrough disk store meta us t u → RunsThrough disk store meta u t' → RunsThrough disk store meta t t'
  through_by [] t u t' is k = subst (λ (x : Running D S M). RunsThrough disk store meta x t') is k
  through_by (x ∷ us) t u t' steps k = let r = through_by us x u t' steps.1 k in (x ∷ r.0, (steps.0, r.1))

  pub through_more : (t u t' : Running D S M) → RunsThrough disk store meta t u → RunsThrough disk store meta u t' → RunsThrough disk store meta t t'
  through_more t u t' h k = through_by h.0 t u t' h.1 k
