-- Elections, and how a broker learns of them: what is done where no test refuses them (Refusals).
--
--   elect     OkAt
--   unclean   OkAt
--   learn     Follows, NeedsElection, DiskFault, Leads
--
-- An epoch is led by one broker, and once: a leader that lost its lead needs another election.
use Rattle.std.specs.Prelude.{ℕ, ◌+◌, ◌==◌, ◌&&◌, ◌||◌, not, Bool, true, ◌∷◌, Option, None, slice_set}
use Rattle.log_terms.specs.Log.{end_of, up_to}
use Rattle.registry.specs.Registry.{elected, elected_alone}
use Rattle.registry.specs.Calls.{when}
use Rattle.plain_log.specs.declared.answer.Answer.{Answer}
use Rattle.plain_log.specs.declared.answer.Answer.TheVariants.{OkAt, Follows as FollowsAnswer, NeedsElection}
use Rattle.plain_log.specs.declared.answer.Answer.TheVariants.{DiskFault, Leads as LeadsAnswer}
use Rattle.plain_log.specs.declared.state.State.{State}
use Rattle.plain_log.specs.declared.state.Broker.{Broker}
use Rattle.plain_log.specs.declared.state.Role.TheVariants.{Leads, Follows}
use Rattle.plain_log.specs.State.{put_broker, breaks, has_path, is_in, set_registry}

-- the registry elects the broker out of the replicas in sync
abbrev pub elect_row : State → ℕ → Answer → Option State
elect_row p b (OkAt n) = when (n == p.registry.epoch + 1) (set_registry p (elected p.registry b))
elect_row p b other = None

-- what is committed is the broker's log up to its flushed end
abbrev pub restarted : State → Broker → State
restarted p x = record p { committed = up_to x.flushed_end x.log; unclean = true }

-- the registry elects the broker, in sync or not
abbrev pub unclean_row : State → ℕ → Broker → Answer → Option State
unclean_row p b x (OkAt n) =
    when (n == p.registry.epoch + 1) (set_registry (restarted p x) (elected_alone p.registry b x.flushed_end))
unclean_row p b x other = None

-- the broker is to lead the registry's epoch, and nobody took its lead
abbrev pub may_lead : State → ℕ → Bool
may_lead p b = (p.registry.leader.0 == b) && not (has_path p p.registry.epoch)

-- the broker leads this epoch: its whole log is flushed, and is the epoch's path
abbrev pub led : State → ℕ → Broker → ℕ → State
led p b x n = record p {
  paths = record { epoch = n; log = x.log } ∷ p.paths;
  brokers =
      slice_set p.brokers b
      (record x { role = Leads n; flushed_end = end_of x.log; known_high_watermark = p.registry.mark });
}

-- the broker learns who leads
abbrev pub learn_row : State → ℕ → Broker → Answer → Option State
learn_row p b x (FollowsAnswer n) =
    when ((n == p.registry.epoch) && not (p.registry.leader.0 == b)) (put_broker p b (record x { role = Follows n }))
learn_row p b x (NeedsElection n) =
    when ((n == p.registry.epoch) && (p.registry.leader.0 == b) && (has_path p n || is_in n p.broken)) p
learn_row p b x DiskFault = when (may_lead p b) (record (breaks p b x) { broken = p.registry.epoch ∷ p.broken })
learn_row p b x (LeadsAnswer n) = when ((n == p.registry.epoch) && may_lead p b) (led p b x n)
learn_row p b x other = None
