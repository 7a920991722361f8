use Rattle.std.proofs.Common.{◌≡◌, ◌≤◌, ◌<◌, ◌-◌, vec_len, vec_capacity}
use Rattle.plain_log.specs.State.{put_actor}
use Rattle.plain_executor.proofs.stepping.put_actor.Given as goal

abbrev pub invariant-loop-actors : goal.invariant-loop-actors
invariant-loop-actors l = record {
  within : vec_len l.actors ≤ l.a;
  room : l.a < vec_capacity l.actors;
  same : put_actor l.actors.items l.a l.actor ≡ put_actor l.initial.actors.items l.a l.actor;
}

abbrev pub decreases-loop-actors : goal.decreases-loop-actors
decreases-loop-actors l = l.a - vec_len l.actors
