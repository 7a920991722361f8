-- What a turn leaves of the store and of the metadata log, and what it says of devices where its outcome says of a
-- fault.
use Rattle.std.proofs.Common.{◌≡◌, sym, subst}
use Rattle.tier_base.specs.Counts.{Rose}
use Rattle.tier_base.specs.Device.{Fate, Ran, Lasts}
use Rattle.tier_base.proofs.Lasting.{lasts_same, ran_lasts}
use Rattle.object_store.specs.declared.call.StoreCall.{StoreCall}
use Rattle.object_store.specs.declared.store.Store.{Ghosts as StoreGhosts}
use Rattle.meta_log.specs.declared.call.MetaCall.{MetaCall}
use Rattle.meta_log.specs.declared.log.MetaLog.{Ghosts as MetaGhosts}
use Rattle.partition_commands.proofs.Told.{Told}
use Rattle.partition_world.specs.declared.actor_state.Outcome.{Outcome}
use Rattle.partition_world.specs.declared.actor_state.Outcome.TheVariants.{Answers}

-- this holds where the turn is answered such a fault
abbrev pub TurnTold : Type 0 → Type 0 → Type 0 → Type 0 → Outcome → Type 0
TurnTold A B C E (Answers answer) = Told A B C E answer
TurnTold A B C E other = Unit {0}

module _ {S : Type 0} (store : StoreGhosts S) where
  -- the store has lasted
  abbrev pub StoreLasts : S → S → Type 0
  StoreLasts old new = Lasts (store.control old) (store.control new)

  -- a call of it failed
  abbrev pub StoreRose : S → S → Type 0
  StoreRose old new = Rose (store.control old).faults (store.control new).faults

  pub store_same : (old new : S) → new ≡ old → StoreLasts old new
  store_same old new is = subst (λ (s : S). StoreLasts old s) (sym is) (lasts_same (store.control old))

  pub store_ran : (call : StoreCall) (fate : Fate) (old new : S) → Ran call fate (store.control old) (store.control new) → StoreLasts old new
  store_ran call fate old new ran = ran_lasts call fate (store.control old) (store.control new) ran

module _ {M : Type 0} (meta : MetaGhosts M) where
  -- the metadata log has lasted
  abbrev pub MetaLasts : M → M → Type 0
  MetaLasts old new = Lasts (meta.control old) (meta.control new)

  -- a call of it failed
  abbrev pub MetaRose : M → M → Type 0
  MetaRose old new = Rose (meta.control old).faults (meta.control new).faults

  pub meta_same : (old new : M) → new ≡ old → MetaLasts old new
  meta_same old new is = subst (λ (m : M). MetaLasts old m) (sym is) (lasts_same (meta.control old))

  pub meta_ran : (call : MetaCall) (fate : Fate) (old new : M) → Ran call fate (meta.control old) (meta.control new) → MetaLasts old new
  meta_ran call fate old new ran = ran_lasts call fate (meta.control old) (meta.control new) ran
