-- The plain log refuses a command where the partition that is seen does, with the same answer.
use Rattle.std.proofs.Common.{◌≡◌, refl, ap, ◌∙◌, sym, ℕ, List, Option, Some, None}
use Rattle.std.specs.Prelude.{option_map, slice_get}
use Rattle.registry.specs.declared.registry.Registry.{Registry}
use Rattle.registry.specs.declared.registry.Replica.{Replica}
use Rattle.plain_log.specs.declared.answer.Answer.{Answer}
use Rattle.plain_log.specs.declared.command.Command.{Command}
use Rattle.plain_log.specs.declared.command.Order.{Order}
use Rattle.plain_log.specs.declared.facts.Facts.{Facts}
use Rattle.plain_log.specs.declared.facts.Since.{Since}
use Rattle.plain_log.specs.declared.state.Broker.{Broker}
use Rattle.plain_log.specs.declared.state.State.{State}
use Rattle.plain_log.specs.State.{facts_of, leader_facts, since_of}
use Rattle.plain_log.specs.Refusals.{refusal, same_refusal}
use Rattle.plain_log.specs.Rows.{row, effect, refusal_at}
use Rattle.plain_log.proofs.SameRefusals.{refusal_is}
use Rattle.laws_partition.specs.declared.start_snapshot.StartSnapshot.{StartSnapshot}
use Rattle.laws_partition.specs.Seen.{Node, SeenPartition}
use Rattle.laws_partition.specs.Partition.{broker_of, recorded_of}
use Rattle.laws_partition.specs.Refusals.{leader_facts as seen_leader, since_of as seen_since, refusal_at as seen_refusal}
use Rattle.laws_partition.specs.Central.{PartitionMatches}
use Rattle.laws_partition.proofs.FollowRows.{leader_as}

-- both have the same facts
pub facts_shown : (h : SeenPartition) (p : State) (b : ℕ) (x : Node) (g : Option StartSnapshot) (order : Order) (command : Command) → PartitionMatches h p
    → refusal_at p b (broker_of x) (option_map (recorded_of order) g) command ≡ seen_refusal h b x g command
facts_shown h p b x g order command st =
    ap (λ (r : Registry). refusal r (leader_facts p) (facts_of b (broker_of x)) (option_map since_of (option_map (recorded_of order) g)) command) st.registry
    ∙ (ap (λ (l : Option Facts). refusal h.registry l (facts_of b (broker_of x)) (option_map since_of (option_map (recorded_of order) g)) command) (leader_as h p st)
    ∙ ap (λ (since : Option Since). refusal h.registry (seen_leader h) (facts_of b (broker_of x)) since command) (since_shown g))
  where
    since_shown : (g : Option StartSnapshot) → option_map since_of (option_map (recorded_of order) g) ≡ option_map seen_since g
    since_shown None = refl
    since_shown (Some g) = refl

-- a command that is refused leaves the plain log
pub refused_shown : (h : SeenPartition) (p : State) (b : ℕ) (x : Node) (s : Replica) (g : Option StartSnapshot) (order : Order) (command : Command) (why : Answer)
    → PartitionMatches h p → seen_refusal h b x g command ≡ Some why → row p b (broker_of x) s (option_map (recorded_of order) g) command why ≡ Some p
refused_shown h p b x s g order command why st is =
    let here = facts_shown h p b x g order command st ∙ is in
    let same = refusal_is p.registry (leader_facts p) (facts_of b (broker_of x)) (option_map since_of (option_map (recorded_of order) g)) command why here in
    rw (here, same) refl

-- one that isn't does there what its effect says
pub done_shown : (h : SeenPartition) (p : State) (b : ℕ) (x : Node) (s : Replica) (g : Option StartSnapshot) (order : Order) (command : Command) (answer : Answer)
    → PartitionMatches h p → seen_refusal h b x g command ≡ None
    → row p b (broker_of x) s (option_map (recorded_of order) g) command answer ≡ effect p b (broker_of x) s (option_map (recorded_of order) g) command answer
done_shown h p b x s g order command answer st is = let here = facts_shown h p b x g order command st ∙ is in rw here refl
