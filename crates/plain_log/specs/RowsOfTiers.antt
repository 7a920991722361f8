-- Commands to the tiers, of which the plain log sees the log start offset alone: what is done where no test refuses
-- them (Refusals).
--
--   copy     first CopyOff, MetaFault; then Level, DiskFault, Damaged, MetaFault, StoreFault, Overtaken, CopiedSegment
--   trim     first MetaFault; then Kept, DiskFault, Dropped
--   expire   first MetaFault; then Kept, StaleEpoch, Raised, MetaFault, StoreFault, Deleted
--   raise    OkAt
--   clock, and whether copies are packed or made at all: Ok
use Rattle.std.specs.Prelude.{ℕ, ◌==◌, ◌&&◌, not, nat_lt, nat_le, Bool, false}
use Rattle.std.specs.Prelude.{Option, Some, None, unwrap_or, option_map}
use Rattle.registry.specs.Registry.{started}
use Rattle.registry.specs.Calls.{when, is_stale}
use Rattle.plain_log.specs.declared.answer.Answer.{Answer}
use Rattle.plain_log.specs.declared.answer.Answer.TheVariants.{Ok as OkAnswer, OkAt, DiskFault, StaleEpoch, MetaFault}
use Rattle.plain_log.specs.declared.answer.Answer.TheVariants.{StoreFault, Damaged, Level, CopiedSegment, Overtaken}
use Rattle.plain_log.specs.declared.answer.Answer.TheVariants.{Kept, Dropped, Raised, Deleted, CopyOff}
use Rattle.plain_log.specs.declared.state.State.{State}
use Rattle.plain_log.specs.declared.state.Broker.{Broker}
use Rattle.plain_log.specs.declared.state.PlainSnapshot.{PlainSnapshot}
use Rattle.plain_log.specs.State.{epoch_in, breaks, set_registry}

-- a segment goes to the remote tier
abbrev pub copy_row : State → Option PlainSnapshot → Answer → Option State
copy_row p None CopyOff = Some p
copy_row p None MetaFault = Some p
copy_row p None other = None
copy_row p (Some recorded) Level = Some p
copy_row p (Some recorded) DiskFault = Some p
copy_row p (Some recorded) (Damaged place at) = Some p
copy_row p (Some recorded) MetaFault = Some p
copy_row p (Some recorded) StoreFault = Some p
copy_row p (Some recorded) (Overtaken state) = Some p
copy_row p (Some recorded) (CopiedSegment id start last) = Some p
copy_row p (Some recorded) other = None

-- a local segment goes
abbrev pub trim_row : State → ℕ → Broker → Option PlainSnapshot → Answer → Option State
trim_row p b x None MetaFault = Some p
trim_row p b x None other = None
trim_row p b x (Some recorded) Kept = Some p
trim_row p b x (Some recorded) DiskFault = Some (breaks p b x)
trim_row p b x (Some recorded) (Dropped base last) = Some p
trim_row p b x (Some recorded) other = None

-- the epoch in which the command began is below the registry's
abbrev pub is_behind : State → PlainSnapshot → Bool
is_behind p recorded = unwrap_or (option_map (is_stale p.registry) (epoch_in recorded.role)) false

-- the log start offset may be raised so far
abbrev pub may_start : State → ℕ → Bool
may_start p start = nat_lt p.registry.start start && nat_le start p.registry.mark

-- retention raises the log start offset, or what is below it goes from the remote tier
abbrev pub expire_row : State → Option PlainSnapshot → Answer → Option State
expire_row p None MetaFault = Some p
expire_row p None other = None
expire_row p (Some recorded) Kept = Some p
expire_row p (Some recorded) (StaleEpoch n) = when (is_behind p recorded && (n == p.registry.epoch)) p
expire_row p (Some recorded) (Raised start) =
    when (not (is_behind p recorded) && may_start p start) (set_registry p (started p.registry start))
expire_row p (Some recorded) MetaFault = Some p
expire_row p (Some recorded) StoreFault = Some p
expire_row p (Some recorded) (Deleted id) = Some p
expire_row p (Some recorded) other = None

-- the log start offset is raised by a command
abbrev pub raise_row : State → ℕ → Answer → Option State
raise_row p wanted (OkAt start) = when (start == wanted) (set_registry p (started p.registry wanted))
raise_row p wanted other = None

-- nothing of the plain log changes, and the answer is always the same
abbrev pub silent_row : State → Answer → Option State
silent_row p OkAnswer = Some p
silent_row p other = None
