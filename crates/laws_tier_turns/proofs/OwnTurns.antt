-- Each turn of a command that works on no remote device is changes of the tier.
use Rattle.std.proofs.Common.{◌≡◌, ◌∙◌, sym, ap, refl, ℕ, ◌+◌, List, Option, None, Some, false, slice_get}
use Rattle.plain_log.specs.declared.answer.Answer.TheVariants.{DiskFault, DiskFaultAt, Dropped, Rebuilt}
use Rattle.plain_log.specs.declared.command.Command.{Command}
use Rattle.plain_log.specs.declared.command.Command.TheVariants.{Join, Trim}
use Rattle.plain_log.specs.declared.command.Order.{Order}
use Rattle.plain_log.specs.declared.journal.JournalEntry.{JournalEntry}
use Rattle.plain_log.specs.declared.state.State.{State as Plain}
use Rattle.laws_partition.specs.declared.start_snapshot.StartSnapshot.{StartSnapshot}
use Rattle.laws_partition.specs.declared.start_snapshot.Turned.{Turned}
use Rattle.laws_partition.specs.declared.start_snapshot.Turned.TheVariants.{Answers, Begins}
use Rattle.laws_partition.specs.Seen.{Node, SeenPartition}
use Rattle.laws_partition.specs.Partition.{broken, kept_line}
use Rattle.laws_partition.specs.RowsOfFollowers.{rebuilt, unbuilt}
use Rattle.laws_partition.specs.Rows.{Row}
use Rattle.laws_partition.proofs.BoolTests.{some_of}
use Rattle.tier_safe.specs.Scene.{Rebuild, TierTask, Free, Scene}
use Rattle.tier_safe.specs.Safe.{BothSafe}
use Rattle.log_terms.specs.Log.{up_to}
use Rattle.laws_tier_turns.specs.BrokerTiers.{BrokerTierModel, tier_views_of}
use Rattle.laws_tier_turns.specs.TierTasks.{rebuild_of, tier_task_of, KeepsTask, snapshot_after}
use Rattle.laws_tier_turns.specs.Turns.{TurnStands, ShowsBrokerTiers, may_raise, OwesTier, IsTurned}
use Rattle.laws_tier_turns.specs.Laws.{OwnTurnsChange}
use Rattle.laws_tier_turns.proofs.Nodes.{joined_up}
use Rattle.laws_tier_turns.proofs.Chains.{left_with, may_step, steps_and_leaves}
use Rattle.laws_tier_turns.proofs.Trims.{node_drops, node_fails, trims}
use Rattle.laws_tier_turns.proofs.Begins.{begins}
use Rattle.laws_tier_turns.proofs.Rebuilds.{node_rebuilds, node_unbuilds, rebuild_ends, rebuild_fails}

-- where a turn raises no local start, and leaves nothing on the desk
infallible : (brokers : ℕ) (h h' : SeenPartition) (p q : Plain) (x : Node) (snapshot : Option StartSnapshot) (turned : Turned) (order : Order) (entry : JournalEntry) (broker_tiers : List BrokerTierModel) (c : Scene) (a : ℕ)
    → TurnStands brokers h h' p q x snapshot turned order entry → BothSafe c p → ShowsBrokerTiers h broker_tiers c → may_raise snapshot order.command turned ≡ false
    → IsTurned c p q (left_with c a (tier_views_of h'.nodes broker_tiers) Free)
infallible brokers h h' p q x snapshot turned order entry broker_tiers c a t both shows low =
    steps_and_leaves c p q a (tier_views_of h'.nodes broker_tiers) (may_step brokers h h' p q x snapshot turned order entry broker_tiers c t both.plain shows low)

by_command : (brokers : ℕ) (h h' : SeenPartition) (p q : Plain) (x : Node) (snapshot : Option StartSnapshot) (command : Command) (turned : Turned) (order : Order) (entry : JournalEntry) (broker_tiers : List BrokerTierModel) (c : Scene) (a : ℕ)
    (tier_task : TierTask) → TurnStands brokers h h' p q x snapshot turned order entry → BothSafe c p → ShowsBrokerTiers h broker_tiers c → slice_get c.desk a ≡ Some tier_task → order.command ≡ command
    → Row h order.broker.0 x snapshot command turned h' → KeepsTask order.broker.0 command snapshot tier_task → OwesTier h order.broker.0 x command broker_tiers h'
    → IsTurned c p q (left_with c a (tier_views_of h'.nodes broker_tiers) (tier_task_of order.broker.0 command (snapshot_after turned)))
by_command brokers h h' p q x (Some g) Trim (Answers (Dropped base last)) order entry broker_tiers c a tier_task t both shows actor_state command w keeps owes =
    let s = t.sound.nodes order.broker.0 x t.node in
    trims brokers h h' p q x (record x { local = last + 1; saved = kept_line x }) g (Answers (Dropped base last)) order entry broker_tiers c a t shows (node_drops x (last + 1) s w.1 w.3) w.4 owes
by_command brokers h h' p q x (Some g) Trim (Answers DiskFault) order entry broker_tiers c a tier_task t both shows actor_state command w keeps owes =
    let s = t.sound.nodes order.broker.0 x t.node in
    trims brokers h h' p q x (broken x (x.flushed_end, kept_line x, w.2.0)) g (Answers DiskFault) order entry broker_tiers c a t shows (node_fails x w.2.0 s w.2.1) w.2.2 owes
by_command brokers h h' p q x (Some g) Join (Answers (Rebuilt n)) order entry broker_tiers c a tier_task t both shows actor_state command w keeps owes =
    let s = t.sound.nodes order.broker.0 x t.node in
    let y = some_of _ (slice_get h.nodes h.registry.leader.0) w.2 in
    let whole = up_to n y.0.log.batches in
    let rebuild : Rebuild = record (rebuild_of order.broker.0 g) { refreshed = keeps.0; line = keeps.1 } in
    rebuild_ends brokers h h' p q x (rebuilt x whole n) g n order entry broker_tiers c a rebuild t both.plain shows command w.0.0 (node_rebuilds x whole n s (joined_up x s w.0.1.1)) y.2
    (actor_state ∙ ap (λ (k : TierTask). Some k) keeps.2) refl (sym w.1)
by_command brokers h h' p q x (Some g) Join (Answers (DiskFaultAt n)) order entry broker_tiers c a tier_task t both shows actor_state command w keeps owes =
    let s = t.sound.nodes order.broker.0 x t.node in
    let y = some_of _ (slice_get h.nodes h.registry.leader.0) w.2 in
    let whole = up_to n y.0.log.batches in
    let rebuild : Rebuild = record (rebuild_of order.broker.0 g) { refreshed = keeps.0; line = keeps.1 } in
    rebuild_fails brokers h h' p q x (unbuilt x whole n) g n order entry broker_tiers c a rebuild t both.plain shows command w.0.0 (node_unbuilds x whole n s) y.2
    (actor_state ∙ ap (λ (k : TierTask). Some k) keeps.2) refl (sym w.1)
by_command brokers h h' p q x None Join (Begins g) order entry broker_tiers c a tier_task t both shows actor_state command w keeps owes =
    begins brokers h h' p q x g order entry broker_tiers c a t both.plain shows
    (may_step brokers h h' p q x None (Begins g) order entry broker_tiers c t both.plain shows (ap (λ (m : Command). may_raise None m (Begins g)) command)) w (actor_state ∙ ap (λ (k : TierTask). Some k) keeps)
by_command brokers h h' p q x (Some g) Join (Begins k) order entry broker_tiers c a tier_task t both shows actor_state command w keeps owes = elim w [ ]
by_command brokers h h' p q x snapshot other turned order entry broker_tiers c a tier_task t both shows actor_state command w keeps owes =
    infallible brokers h h' p q x snapshot turned order entry broker_tiers c a t both shows (ap (λ (m : Command). may_raise snapshot m turned) command)

pub own_turns : OwnTurnsChange
own_turns brokers h h' p q x snapshot turned order entry broker_tiers c a t both shows works owes =
    by_command brokers h h' p q x snapshot order.command turned order entry broker_tiers c a works.tier_task t both shows works.actor_state refl t.row works.is owes
