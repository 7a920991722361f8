-- When a command is refused: the tests that it makes before it does anything, in their order. It is answered with the
-- first test that fails, and nothing changes.
--
-- Each layer, the plain log and those above it, has these facts of a broker, and says in the row of a command only
-- what is done where none of its tests fails. What a layer tests besides is in its rows too: how many segments there
-- are, where the logs meet, or that the log has grown.
use Rattle.std.specs.Prelude.{◌≡◌, ℕ, ◌+◌, ◌==◌, ◌&&◌, not, nat_lt, nat_le, Bool, true, false, List, [], ◌∷◌, Option}
use Rattle.std.specs.Prelude.{Some, None, Result, Ok, Err, slice_get, is_none, option_map, unwrap_or}
use Rattle.std.specs.Option.{option_and_then}
use Rattle.log_terms.specs.Batch.{last_offset_delta_of}
use Rattle.record_batch.specs.Build.{built}
use Rattle.record_batch.specs.Check.{Batch, checked}
use Rattle.record_batch.specs.declared.refusal.BatchRefusal.{BatchRefusal}
use Rattle.registry.specs.declared.registry.Registry.{Registry}
use Rattle.registry.specs.Calls.{when, is_last, is_stale}
use Rattle.plain_log.specs.declared.answer.Answer.{Answer}
use Rattle.plain_log.specs.declared.answer.Answer.TheVariants.{Down, NotLeader, Refused, LastOffset, LastEpoch}
use Rattle.plain_log.specs.declared.answer.Answer.TheVariants.{NotInSync, DownBroker, BehindStart, Known}
use Rattle.plain_log.specs.declared.answer.Answer.TheVariants.{NotFollower, StaleEpoch, NoLeader, Stopped, NotJoined}
use Rattle.plain_log.specs.declared.answer.Answer.TheVariants.{Level, IsLeader, Behind, LostLead, NotAbove}
use Rattle.plain_log.specs.declared.answer.Answer.TheVariants.{AboveMark, IsUp, OutOfRange, Empty}
use Rattle.plain_log.specs.declared.command.Command.{Command}
use Rattle.plain_log.specs.declared.command.Command.TheVariants.{Append, Raw, Flush, Roll, Elect, Unclean, Learn, Join}
use Rattle.plain_log.specs.declared.command.Command.TheVariants.{Follow, Ack, Shrink, Expand, Copy, Trim, Expire, Raise}
use Rattle.plain_log.specs.declared.command.Command.TheVariants.{Clock, Stop, Up, Fetch, Pack, Copying, Offset}
use Rattle.plain_log.specs.declared.facts.Facts.{Facts}
use Rattle.plain_log.specs.declared.facts.Since.{Since}
use Rattle.plain_log.specs.Causes.{same_cause}
use Rattle.plain_log.specs.RowsOfLog.{offset_limit}
use Rattle.plain_log.specs.State.{leads, leads_in, leading, followed, joined, acking, knows, same_role}

-- each test: the answer where it fails

abbrev pub down : Facts → Option Answer
down f = when (not f.up) Down

abbrev pub is_up : Facts → Option Answer
is_up f = when f.up IsUp

abbrev pub down_broker : Facts → Option Answer
down_broker f = when (not f.up) DownBroker

abbrev pub not_leader : Facts → Option Answer
not_leader f = when (not (leads f.role)) NotLeader

-- a batch whose last offset is so far after its first finds no offsets after the log's end
abbrev pub last_offset : Facts → ℕ → Option Answer
last_offset f delta = when (nat_lt offset_limit (f.end + delta + 1)) LastOffset

-- bytes that are no batch
abbrev pub refused : Result Batch BatchRefusal → Option Answer
refused (Ok batch) = None
refused (Err why) = Some (Refused why)

abbrev pub last_epoch : Registry → Option Answer
last_epoch r = when (is_last r) LastEpoch

abbrev pub not_in_sync : Registry → Facts → Option Answer
not_in_sync r f = when (not (unwrap_or (option_map (λ s. s.in_sync) (slice_get r.replicas f.broker.0)) false)) NotInSync

abbrev pub is_leader : Registry → Facts → Option Answer
is_leader r f = when (r.leader.0 == f.broker.0) IsLeader

abbrev pub behind_start : Registry → Facts → Option Answer
behind_start r f = when (nat_lt f.flushed_end r.start) (BehindStart f.flushed_end r.start)

abbrev pub behind : Registry → Facts → Option Answer
behind r f = option_and_then (λ s. when (nat_lt s.acked r.mark) (Behind s.acked r.mark))
    (slice_get r.replicas f.broker.0)

-- the broker's role is of the registry's epoch
abbrev pub known : Registry → Facts → Option Answer
known r f = when (knows r f.role) Known

abbrev pub not_follower : Facts → Option Answer
not_follower f = when (is_none (followed f.role)) NotFollower

-- the role has no epoch of this kind
abbrev pub not_joined : Option ℕ → Option Answer
not_joined epoch = when (is_none epoch) NotJoined

-- the epoch, where there is one, is below the registry's
abbrev pub stale : Registry → Option ℕ → Option Answer
stale r epoch = option_and_then (λ e. when (is_stale r e) (StaleEpoch r.epoch)) epoch

-- the registry's leader isn't up, or doesn't lead the registry's epoch
abbrev pub no_leader : Registry → Option Facts → Option Answer
no_leader r leader = when (not (unwrap_or (option_map (λ y. y.up && leads_in r.epoch y.role) leader) false)) NoLeader

-- the broker's log goes as far as the leader's
abbrev pub level : Option Facts → Facts → Option Answer
level leader f = option_and_then (λ y. when (nat_le y.end f.end) Level) leader

abbrev pub not_above : Registry → ℕ → Option Answer
not_above r wanted = when (nat_le wanted r.start) (NotAbove r.start)

abbrev pub above_mark : Registry → ℕ → Option Answer
above_mark r wanted = when (nat_lt r.mark wanted) (AboveMark r.mark)

abbrev pub out_of_range : Registry → Facts → ℕ → Option Answer
out_of_range r f offset = when (not (nat_le r.start offset && nat_le offset f.end)) (OutOfRange r.start f.end)

abbrev pub empty : Facts → ℕ → Option Answer
empty f offset = when (nat_le f.known_high_watermark offset) Empty

-- the broker is up, and hasn't stopped since the command began
abbrev pub runs_on : Facts → Since → Bool
runs_on f since = f.up && (since.stops == f.stops)

abbrev pub has_stopped : Facts → Since → Option Answer
has_stopped f since = when (not (runs_on f since)) Stopped

-- it has another role than then
abbrev pub other_role : Facts → Since → Option Answer
other_role f since = when (not (same_role since.role f.role)) NotLeader

-- one of both
abbrev pub lost_lead : Facts → Since → Option Answer
lost_lead f since = when (not (runs_on f since && same_role since.role f.role)) LostLead

-- the tests of each command

-- the answer of the first that fails
abbrev pub first_of : List (Option Answer) → Option Answer
first_of [] = None
first_of (Some why ∷ tests) = Some why
first_of (None ∷ tests) = first_of tests

-- of a command to this broker, with the facts of the registry's leader, and with what was recorded where it began if
-- this is a later turn
abbrev pub refusal : Registry → Option Facts → Facts → Option Since → Command → Option Answer
refusal r leader f since (Append recs) =
    first_of (down f ∷ not_leader f ∷ last_offset f (last_offset_delta_of (built recs)) ∷ [])
refusal r leader f since (Raw bytes) =
    first_of (down f ∷ not_leader f ∷ refused (checked bytes) ∷ last_offset f (last_offset_delta_of bytes) ∷ [])
refusal r leader f since Flush = down f
refusal r leader f since Roll = down f
refusal r leader f since Elect = first_of (last_epoch r ∷ not_in_sync r f ∷ down_broker f ∷ [])
refusal r leader f since Unclean = first_of (last_epoch r ∷ down_broker f ∷ behind_start r f ∷ [])
refusal r leader f since Learn = first_of (down f ∷ known r f ∷ [])
refusal r leader f None Join = first_of (down f ∷ not_follower f ∷ stale r (followed f.role) ∷ no_leader r leader ∷ [])
refusal r leader f (Some since) Join = first_of (has_stopped f since ∷ stale r (followed since.role) ∷ [])
refusal r leader f None (Follow limit) =
    first_of (down f ∷ not_joined (joined f.role) ∷ stale r (joined f.role) ∷ no_leader r leader ∷ level leader f ∷ [])
refusal r leader f (Some since) (Follow limit) = first_of (has_stopped f since ∷ stale r (followed since.role) ∷ [])
refusal r leader f since Ack = first_of (down f ∷ not_joined (acking f.role) ∷ stale r (acking f.role) ∷ [])
refusal r leader f since Shrink = first_of (not_in_sync r f ∷ is_leader r f ∷ [])
refusal r leader f since Expand = first_of (down_broker f ∷ behind r f ∷ [])
refusal r leader f None Copy = first_of (down f ∷ not_leader f ∷ [])
refusal r leader f (Some since) Copy = lost_lead f since
refusal r leader f None Trim = down f
refusal r leader f (Some since) Trim = has_stopped f since
refusal r leader f None Expire = first_of (down f ∷ not_leader f ∷ [])
refusal r leader f (Some since) Expire = lost_lead f since
refusal r leader f since (Raise start) =
    first_of (down f ∷ not_leader f ∷ stale r (leading f.role) ∷ not_above r start ∷ above_mark r start ∷ [])
refusal r leader f since (Clock ms) = None
refusal r leader f since Stop = down f
refusal r leader f since Up = is_up f
refusal r leader f None (Fetch offset limit) =
    first_of (down f ∷ not_leader f ∷ out_of_range r f offset ∷ empty f offset ∷ [])
refusal r leader f (Some since) (Fetch offset limit) =
    first_of (has_stopped f since ∷ other_role f since ∷ out_of_range r f offset ∷ empty f offset ∷ [])
refusal r leader f since (Pack on) = None
refusal r leader f since (Copying on) = None
refusal r leader f None (Offset which) = first_of (down f ∷ not_leader f ∷ [])
refusal r leader f (Some since) (Offset which) = first_of (has_stopped f since ∷ other_role f since ∷ [])

-- what a row makes of it

-- the answer is this refusal
abbrev pub same_refusal : Answer → Answer → Bool
same_refusal Down Down = true
same_refusal NotLeader NotLeader = true
same_refusal (Refused cause) (Refused why) = same_cause cause why
same_refusal LastOffset LastOffset = true
same_refusal LastEpoch LastEpoch = true
same_refusal NotInSync NotInSync = true
same_refusal DownBroker DownBroker = true
same_refusal (BehindStart end start) (BehindStart n m) = (end == n) && (start == m)
same_refusal Known Known = true
same_refusal NotFollower NotFollower = true
same_refusal (StaleEpoch n) (StaleEpoch m) = n == m
same_refusal NoLeader NoLeader = true
same_refusal Stopped Stopped = true
same_refusal NotJoined NotJoined = true
same_refusal Level Level = true
same_refusal IsLeader IsLeader = true
same_refusal (Behind ack mark) (Behind n m) = (ack == n) && (mark == m)
same_refusal LostLead LostLead = true
same_refusal (NotAbove n) (NotAbove m) = n == m
same_refusal (AboveMark n) (AboveMark m) = n == m
same_refusal IsUp IsUp = true
same_refusal (OutOfRange start end) (OutOfRange n m) = (start == n) && (end == m)
same_refusal Empty Empty = true
same_refusal answer why = false

-- the state stays where the command is refused with this answer, and else becomes what is done
abbrev pub unless : {A : Type 0} → Option Answer → Answer → A → Option A → Option A
unless (Some why) answer p effect = when (same_refusal answer why) p
unless None answer p effect = effect

-- the same of a row that relates what was with what is: what it is refused with, and what is done
abbrev pub Unless : Option Answer → (Answer → Type 0) → Type 0 → Type 0
Unless (Some why) Refuses Does = Refuses why
Unless None Refuses Does = Does
