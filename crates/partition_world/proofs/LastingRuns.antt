-- Over each turn of a world, and over those of a schedule, its devices last.
use Rattle.std.proofs.Common.{◌≡◌, inl, inr, sym, subst, ℕ, zero, suc, Bool, true, false, List, [], ◌∷◌}
use Rattle.tier_base.specs.Device.{Control}
use Rattle.tier_base.specs.declared.names.PartitionId.{PartitionId}
use Rattle.tier_base.proofs.Lasting.{lasts_same, lasts_then}
use Rattle.disk_model.specs.Call.{call_code}
use Rattle.disk_model.specs.declared.disk.Disk.{Ghosts as DiskGhosts}
use Rattle.object_store.specs.declared.store.Store.{Ghosts as StoreGhosts}
use Rattle.meta_log.specs.declared.log.MetaLog.{Ghosts as MetaGhosts}
use Rattle.plain_log.specs.declared.command.ActorList.{ActorList}
use Rattle.plain_log.specs.declared.command.Config.{Config}
use Rattle.plain_log.specs.declared.command.Pace.{Pace}
use Rattle.plain_log.specs.declared.command.Pace.TheVariants.{Until, Times}
use Rattle.partition_commands.specs.declared.partition_state.Node.{Node}
use Rattle.tier_base.specs.declared.plain.Settings.{Settings}
use Rattle.disk_model.specs.Content.{Content}
use Rattle.registry.specs.declared.registry.Registry.{Registry}
use Rattle.broker_log.specs.Seen.{OnDisk}
use Rattle.partition_commands.specs.Cold.{AreColdOver}
use Rattle.partition_commands.specs.Disks.{HaveDisks}
use Rattle.partition_commands.specs.Fresh.{IsArmed, AreFreshFrom}
use Rattle.partition_commands.proofs.LastingDisks.{disk_map, last_same, last_then, last_have}
use Rattle.partition_world.specs.declared.actor_state.Outcome.{Outcome}
use Rattle.partition_world.specs.Cold.{IsReopened}
use Rattle.partition_world.specs.Fresh.{IsFresh, IsNewWorld}
use Rattle.partition_world.specs.Lasting.{HaveLasted}
use Rattle.partition_world.specs.Reaches.{TakesTurn, GoesTimes, GoesUntil, Paces, Reaches}
use Rattle.partition_world.specs.Turn.{IsTurn}
use Rattle.partition_world.specs.Whole.{Whole}
use Rattle.partition_world.proofs.Begins.{row_of}
use Rattle.partition_world.proofs.LastingTurns.{turn_lasts}

module _ {D : Type 0} (control : D → Control call_code) where
  -- each broker of a fresh partition has its disk
  pub fresh_have : (leads : Bool) (disks : List D) (xs : List (Node D)) → AreFreshFrom control leads disks xs → HaveDisks xs
  fresh_have leads [] [] f = tt
  fresh_have leads (d ∷ disks) (x ∷ xs) f = (disk_map (λ e. IsArmed (control d) (control e)) (λ e. Unit {0}) x.log (λ e armed. tt) f.0.armed, fresh_have false disks xs f.1)
  fresh_have leads [] (x ∷ xs) f = absurd f
  fresh_have leads (d ∷ disks) [] f = absurd f

module _ {D : Type 0} (content : D → Content) (control : D → Control call_code) where
  -- and each of one that is reopened
  cold_have : (settings : Settings) (disks : List D) (xs : List (Node D)) → AreColdOver content control settings disks xs → HaveDisks xs
  cold_have settings [] [] f = tt
  cold_have settings (d ∷ disks) (x ∷ xs) f = (subst (λ (y : Node D). OnDisk y.log (λ e. Unit {0})) (sym f.0.node) tt, cold_have settings disks xs f.1)
  cold_have settings [] (x ∷ xs) f = absurd f
  cold_have settings (d ∷ disks) [] f = absurd f

module _ {D S M : Type 0} (disk : DiskGhosts D) (store : StoreGhosts S) (meta : MetaGhosts M) where
  lasted_none : (w w' : Whole D S M) → w' ≡ w → HaveDisks w.partition_state.nodes → HaveLasted disk store meta w w'
  lasted_none w w' is have = subst (HaveLasted disk store meta w) (sym is) (record {
    disks = last_same disk.control w.partition_state.nodes have;
    store_lasts = lasts_same (store.control w.tier.store);
    meta_lasts = lasts_same (meta.control w.tier.meta);
  })

  pub lasted_then : (w v u : Whole D S M) → HaveLasted disk store meta w v → HaveLasted disk store meta v u → HaveLasted disk store meta w u
  lasted_then w v u one two = record {
    disks = last_then disk.control w.partition_state.nodes v.partition_state.nodes u.partition_state.nodes one.disks two.disks;
    store_lasts = lasts_then (store.control w.tier.store) (store.control v.tier.store) (store.control u.tier.store) one.store_lasts two.store_lasts;
    meta_lasts = lasts_then (meta.control w.tier.meta) (meta.control v.tier.meta) (meta.control u.tier.meta) one.meta_lasts two.meta_lasts;
  }

  lasted_have : (w v : Whole D S M) → HaveLasted disk store meta w v → HaveDisks v.partition_state.nodes
  lasted_have w v lasted = last_have disk.control w.partition_state.nodes v.partition_state.nodes lasted.disks

  pub turn_lasted : (w : Whole D S M) (a : ℕ) (outcome : Outcome) (w' : Whole D S M) → IsTurn disk store meta w a outcome w' → HaveDisks w.partition_state.nodes → HaveLasted disk store meta w w'
  turn_lasted w a outcome w' t have =
      let r = row_of disk store meta w.partition w.config w.partition_state w.tier t.order.broker.0 t.actor_state.in_progress t.order.command outcome w'.partition_state w'.tier t.row in
      let k = turn_lasts disk store meta w.partition w.config w.partition_state w.tier t.order.broker.0 r.x r.broker_tier t.actor_state.in_progress t.order.command outcome w'.partition_state w'.tier r.at r.row in
      record { disks = k.0.partition_state have; store_lasts = k.0.stores; meta_lasts = k.0.metas }

  goes_lasted : (w : Whole D S M) (a : ℕ) (w' : Whole D S M) → TakesTurn disk store meta w a w' → HaveDisks w.partition_state.nodes → HaveLasted disk store meta w w'
  goes_lasted w a w' (inl t) have = turn_lasted w a t.0 w' t.1 have
  goes_lasted w a w' (inr e) have = lasted_none w w' e.1 have

  times_lasted : (w : Whole D S M) (a turns : ℕ) (w' : Whole D S M) → GoesTimes disk store meta w a turns w' → HaveDisks w.partition_state.nodes → HaveLasted disk store meta w w'
  times_lasted w a zero w' g have = lasted_none w w' g have
  times_lasted w a (suc turns) w' g have =
      let one = goes_lasted w a g.0 g.1 have in
      lasted_then w g.0 w' one (times_lasted g.0 a turns w' g.2 (lasted_have w g.0 one))

  until_lasted : (w : Whole D S M) (a number turns : ℕ) (w' : Whole D S M) → GoesUntil disk store meta w a number turns w' → HaveDisks w.partition_state.nodes → HaveLasted disk store meta w w'
  until_lasted w a number zero w' g have = lasted_none w w' g.1 have
  until_lasted w a number (suc turns) w' g have =
      let one = goes_lasted w a g.1.0 g.1.1 have in
      lasted_then w g.1.0 w' one (until_lasted g.1.0 a number turns w' g.1.2 (lasted_have w g.1.0 one))

  paces_lasted : (w : Whole D S M) (pace : Pace) (w' : Whole D S M) → Paces disk store meta w pace w' → HaveDisks w.partition_state.nodes → HaveLasted disk store meta w w'
  paces_lasted w (Until actor number) w' g have = until_lasted w actor.0 number g.0 w' g.1 have
  paces_lasted w (Times actor turns) w' g have = times_lasted w actor.0 turns w' g have

  pub schedule_lasted : (w : Whole D S M) (schedule : List Pace) (w' : Whole D S M) → Reaches disk store meta w schedule w' → HaveDisks w.partition_state.nodes → HaveLasted disk store meta w w'
  schedule_lasted w [] w' r have = lasted_none w w' r have
  schedule_lasted w (pace ∷ schedule) w' r have =
      let one = paces_lasted w pace r.0 r.1 have in
      lasted_then w r.0 w' one (schedule_lasted r.0 schedule w' r.2 (lasted_have w r.0 one))

  pub reaches_lasting : (lists : List ActorList) (w : Whole D S M) (schedule : List Pace) (w' : Whole D S M) → IsNewWorld lists w → Reaches disk store meta w schedule w' → HaveLasted disk store meta w w'
  reaches_lasting lists w schedule w' n r = schedule_lasted w schedule w' r n.disks

  -- a fresh world is new, and one that is reopened is
  pub fresh_new : (partition : PartitionId) (config : Config) (lists : List ActorList) (disks : List D) (s : S) (m : M) (w : Whole D S M) → IsFresh disk store meta partition config lists disks s m w → IsNewWorld lists w
  fresh_new partition config lists disks s m w f = record { lists_are = f.lists_are; desk = f.desk; journal = f.journal; disks = fresh_have disk.control true disks w.partition_state.nodes f.partition_state.nodes }

  pub reopened_new : (partition : PartitionId) (config : Config) (lists : List ActorList) (registry : Registry) (disks : List D) (s : S) (m : M) (w : Whole D S M)
      → IsReopened disk store meta partition config lists registry disks s m w → IsNewWorld lists w
  reopened_new partition config lists registry disks s m w f = record { lists_are = f.lists_are; desk = f.desk; journal = f.journal; disks = cold_have disk.content disk.control config.settings disks w.partition_state.nodes f.partition_state.nodes }
