-- The states of a remote segment, and which state an event may make of which.
--
-- Source: KIP-405, RemoteLogSegmentState. A repeat of the present state is no step here.
use Rattle.std.specs.Prelude.{Option, Some, None}
use Rattle.tier_base.specs.declared.plain.State.{State}
use Rattle.tier_base.specs.declared.plain.State.TheVariants.{CopyStarted, CopyFinished, DeleteStarted, DeleteFinished}

-- the state after an event of a new one, or none where that is no step
abbrev pub next_state : Option State → State → Option State
next_state None CopyStarted = Some CopyStarted
next_state (Some CopyStarted) CopyFinished = Some CopyFinished
next_state (Some CopyStarted) DeleteStarted = Some DeleteStarted
next_state (Some CopyFinished) DeleteStarted = Some DeleteStarted
next_state (Some DeleteStarted) DeleteFinished = Some DeleteFinished
next_state old new = None
