-- When a command is refused: the plain log's tests, of the nodes as brokers of it.
use Rattle.std.specs.Prelude.{ℕ, Option, option_map, slice_get}
use Rattle.plain_log.specs.declared.answer.Answer.{Answer}
use Rattle.plain_log.specs.declared.command.Command.{Command}
use Rattle.plain_log.specs.declared.facts.Facts.{Facts}
use Rattle.plain_log.specs.declared.facts.Since.{Since}
use Rattle.plain_log.specs.State.{facts_of}
use Rattle.plain_log.specs.Refusals.{refusal}
use Rattle.laws_partition.specs.declared.start_snapshot.StartSnapshot.{StartSnapshot}
use Rattle.laws_partition.specs.Seen.{Node, SeenPartition}
use Rattle.laws_partition.specs.Partition.{broker_of}

-- what the tests read of the registry's leader
abbrev pub leader_facts : SeenPartition → Option Facts
leader_facts h =
    option_map (λ y. facts_of h.registry.leader.0 (broker_of y)) (slice_get h.nodes h.registry.leader.0)

-- what they read of the command's beginning
abbrev pub since_of : StartSnapshot → Since
since_of g = record { stops = g.stops; role = g.role }

-- why a command of node b is refused, if it is
abbrev pub refusal_at : SeenPartition → ℕ → Node → Option StartSnapshot → Command → Option Answer
refusal_at h b x g command =
    refusal h.registry (leader_facts h) (facts_of b (broker_of x)) (option_map since_of g) command
