-- What each command returns, and what the answer does.
--
-- A row gives the next state, or none where the answer isn't allowed. A command is refused with the first of its
-- tests that fails, and nothing changes (Refusals). Where none fails, one function a command says what is done, by
-- cases on the answer. What it doesn't name stays as it is. Where a command takes several turns, what was recorded at
-- its beginning tells a later turn from the first.
use Rattle.std.specs.Prelude.{ℕ, Option, option_map}
use Rattle.registry.specs.declared.registry.Replica.{Replica}
use Rattle.record_batch.specs.Build.{built}
use Rattle.plain_log.specs.declared.answer.Answer.{Answer}
use Rattle.plain_log.specs.declared.command.Command.{Command}
use Rattle.plain_log.specs.declared.command.Command.TheVariants.{Append, Raw, Flush, Roll, Elect, Unclean, Learn, Join}
use Rattle.plain_log.specs.declared.command.Command.TheVariants.{Follow, Ack, Shrink, Expand, Copy, Trim, Expire, Raise}
use Rattle.plain_log.specs.declared.command.Command.TheVariants.{Clock, Stop, Up, Fetch, Pack, Copying, Offset}
use Rattle.plain_log.specs.declared.state.State.{State}
use Rattle.plain_log.specs.declared.state.Broker.{Broker}
use Rattle.plain_log.specs.declared.state.PlainSnapshot.{PlainSnapshot}
use Rattle.plain_log.specs.State.{facts_of, leader_facts, since_of}
use Rattle.plain_log.specs.Refusals.{refusal, unless}
use Rattle.plain_log.specs.RowsOfLog.{append_row, flush_row, roll_row, stop_row, up_row}
use Rattle.plain_log.specs.RowsOfElections.{elect_row, unclean_row, learn_row}
use Rattle.plain_log.specs.RowsOfFollowers.{join_row, follow_row}
use Rattle.plain_log.specs.RowsOfReplicas.{ack_row, shrink_row, expand_row}
use Rattle.plain_log.specs.RowsOfTiers.{copy_row, trim_row, expire_row, raise_row, silent_row}
use Rattle.plain_log.specs.RowsOfReads.{fetch_row, offset_row}

-- why a command of broker b is refused, if it is
abbrev pub refusal_at : State → ℕ → Broker → Option PlainSnapshot → Command → Option Answer
refusal_at p b x recorded command =
    refusal p.registry (leader_facts p) (facts_of b x) (option_map since_of recorded) command

-- what is done by a command that isn't refused
abbrev pub effect : State → ℕ → Broker → Replica → Option PlainSnapshot → Command → Answer → Option State
effect p b x s recorded (Append recs) answer = append_row p b x (built recs) answer
effect p b x s recorded (Raw bytes) answer = append_row p b x bytes answer
effect p b x s recorded Flush answer = flush_row p b x answer
effect p b x s recorded Roll answer = roll_row p b x answer
effect p b x s recorded Elect answer = elect_row p b answer
effect p b x s recorded Unclean answer = unclean_row p b x answer
effect p b x s recorded Learn answer = learn_row p b x answer
effect p b x s recorded Join answer = join_row p b x recorded answer
effect p b x s recorded (Follow limit) answer = follow_row p b x limit recorded answer
effect p b x s recorded Ack answer = ack_row p b x s answer
effect p b x s recorded Shrink answer = shrink_row p b s answer
effect p b x s recorded Expand answer = expand_row p b s answer
effect p b x s recorded Copy answer = copy_row p recorded answer
effect p b x s recorded Trim answer = trim_row p b x recorded answer
effect p b x s recorded Expire answer = expire_row p recorded answer
effect p b x s recorded (Raise start) answer = raise_row p start answer
effect p b x s recorded (Clock ms) answer = silent_row p answer
effect p b x s recorded Stop answer = stop_row p b x answer
effect p b x s recorded Up answer = up_row p b x answer
effect p b x s recorded (Fetch offset limit) answer = fetch_row p x offset limit recorded answer
effect p b x s recorded (Pack on) answer = silent_row p answer
effect p b x s recorded (Copying on) answer = silent_row p answer
effect p b x s recorded (Offset which) answer = offset_row p x which recorded answer

-- the state after an answer to a command of broker b, but for the actor's own numbers
abbrev pub row : State → ℕ → Broker → Replica → Option PlainSnapshot → Command → Answer → Option State
row p b x s recorded command answer =
    unless (refusal_at p b x recorded command) answer p (effect p b x s recorded command answer)
