-- What an actor's state of the tier's desk keeps of a command that has begun.
--
-- A join that has begun is a rebuild. Any other command keeps nothing there, but for copies, expiries and fetches
-- from the remote tier.
use Rattle.std.specs.Prelude.{◌≡◌, ℕ, Bool, false, List, Option, Some, None}
use Rattle.std.specs.Option.{unwrap_or}
use Rattle.plain_log.specs.declared.command.Command.{Command}
use Rattle.plain_log.specs.declared.command.Command.TheVariants.{Join}
use Rattle.plain_log.specs.State.{joined}
use Rattle.laws_partition.specs.declared.start_snapshot.StartSnapshot.{StartSnapshot}
use Rattle.laws_partition.specs.declared.start_snapshot.Turned.{Turned}
use Rattle.laws_partition.specs.declared.start_snapshot.Turned.TheVariants.{Answers, Begins}
use Rattle.tier_safe.specs.Scene.{Rebuild, TierTask, Free, Rebuilds}

-- the rebuild of a join of broker b, before it has read anything
abbrev pub rebuild_of : ℕ → StartSnapshot → Rebuild
rebuild_of b g = record {
  broker = b;
  epoch = unwrap_or (joined g.role) 0;
  end = g.end;
  wanted = g.wanted;
  refreshed = false;
  line = None;
}

-- what the state of a command keeps that has begun with this
abbrev pub tier_task_of : ℕ → Command → Option StartSnapshot → TierTask
tier_task_of b Join (Some g) = Rebuilds (rebuild_of b g)
tier_task_of b command snapshot = Free

-- the actor's state has that; a rebuild may have read on since
abbrev pub KeepsTask : ℕ → Command → Option StartSnapshot → TierTask → Type 0
KeepsTask b Join (Some g) tier_task = (refreshed : Bool) × (line : Option (List (ℕ × ℕ)))
    × (tier_task ≡ Rebuilds (record (rebuild_of b g) { refreshed = refreshed; line = line }))
KeepsTask b command snapshot tier_task = tier_task ≡ Free

-- what a command has begun with after a turn
abbrev pub snapshot_after : Turned → Option StartSnapshot
snapshot_after (Answers answer) = None
snapshot_after (Begins g) = Some g
