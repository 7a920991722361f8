-- The registry of a partition whose devices are observable keeps the rules of its file.
use Rattle.std.proofs.Common.{◌≡◌, ◌∙◌, sym, ap, subst, refl, ℕ, zero, suc, ◌≤◌, true, List, [], ◌∷◌, length, Option, Some, slice_get, arith}
use Rattle.std.specs.Prelude.{map, IsSomeAnd, ◌^◌}
use Rattle.std.specs.List.{AllByRecursion}
use Rattle.std.proofs.lemmas.List.Elements.{All-from_recursion}
use Rattle.disk_model.specs.declared.disk.Disk.{Ghosts as DiskGhosts}
use Rattle.object_store.specs.declared.store.Store.{Ghosts as StoreGhosts}
use Rattle.meta_log.specs.declared.log.MetaLog.{Ghosts as MetaGhosts}
use Rattle.log_terms.proofs.Lists.{look, within}
use Rattle.log_terms.proofs.Logs.{ends_below}
use Rattle.registry.specs.View.{IsRegistry}
use Rattle.registry.specs.declared.registry.Registry.{Registry}
use Rattle.registry.specs.declared.registry.Replica.{Replica}
use Rattle.plain_log.specs.declared.state.Broker.{Broker}
use Rattle.plain_log.specs.declared.state.State.{State}
use Rattle.plain_log.specs.Safe.{PlainSafe}
use Rattle.laws_partition.specs.Seen as seen
use Rattle.laws_partition.specs.Partition.{broker_of}
use Rattle.laws_partition.specs.Central.{PartitionMatches, LinesStand}
use Rattle.cold_start.specs.Laws.{RegistriesKeepRules}

-- the end that each acknowledged is within the offsets
all_acked : (ss : List Replica) → ((b : ℕ) (s : Replica) → slice_get ss b ≡ Some s → s.acked ≤ 2 ^ 62) → AllByRecursion (λ (s : Replica). s.acked ≤ 2 ^ 62) ss
all_acked [] low = tt
all_acked (s ∷ ss) low = (low zero s refl, all_acked ss (λ b t at. low (suc b) t at))

-- each broker is a node's
node_of_broker : (ys : List seen.Node) (b : ℕ) (x : Broker) → slice_get (map broker_of ys) b ≡ Some x → (y : seen.Node) × (slice_get ys b ≡ Some y) × (broker_of y ≡ x)
node_of_broker [] b x at = absurd cc
node_of_broker (y ∷ ys) zero x at = (y, refl, cc (at))
node_of_broker (y ∷ ys) (suc b) x at = node_of_broker ys b x at

module _ (a : seen.SeenPartition) (p : State) (safe : PlainSafe p) (partition_state : PartitionMatches a p) (lines : LinesStand a p.paths p.broken) where
  -- flushed ends are within the offsets
  flushed_end_low : (b : ℕ) (x : Broker) → slice_get p.brokers b ≡ Some x → x.flushed_end ≤ 2 ^ 62
  flushed_end_low b x at =
      let y = node_of_broker a.nodes b x (ap (λ (bs : List Broker). slice_get bs b) (sym partition_state.brokers) ∙ at) in
      let sound = (lines.each b y.0 y.1).sound in
      let low = ends_below y.0.flushed_end y.0.log.batches sound.log.consecutive sound.flushed_end in
      let small = sound.log.small in
      let same : y.0.flushed_end ≡ x.flushed_end = ap (λ (z : Broker). z.flushed_end) y.2 in
      omega (arith, low, small, same)

  acked_low : (b : ℕ) (s : Replica) → slice_get p.registry.replicas b ≡ Some s → s.acked ≤ 2 ^ 62
  acked_low b s at =
      let under = within p.registry.replicas b s at in
      let many = safe.same_count in
      let x = look p.brokers b (omega (arith, under, many)) in
      let ack = (safe.acks b x.0 s x.1 at).flushed_end in
      let low = flushed_end_low b x.0 x.1 in
      omega (arith, ack, low)

  pub registry_rules : 1 ≤ length p.registry.replicas → length p.registry.replicas ≤ 8 → IsRegistry p.registry
  registry_rules some few =
      let s = look p.registry.replicas p.registry.leader.0 safe.leader_within in
      let many = safe.same_count in
      let lead = safe.leader_within in
      let x = look p.brokers p.registry.leader.0 (omega (arith, lead, many)) in
      let high = (safe.acks p.registry.leader.0 x.0 s.0 x.1 s.1).in_sync (safe.leader s.0 s.1) in
      let low = acked_low p.registry.leader.0 s.0 s.1 in
      let epoch = safe.marks.epoch in
      record {
        some = some;
        few = few;
        epoch = omega (arith, epoch);
        leader = subst (λ (o : Option Replica). IsSomeAnd o (λ t. t.in_sync ≡ true)) (sym s.1) (safe.leader s.0 s.1);
        mark = omega (arith, high, low);
        start = safe.marks.start;
        ends = All-from_recursion (λ (t : Replica). t.acked ≤ 2 ^ 62) p.registry.replicas (all_acked p.registry.replicas acked_low);
      }

module _ {D S M : Type 0} (disk : DiskGhosts D) (store : StoreGhosts S) (meta : MetaGhosts M) where
  pub registries_scripted : RegistriesKeepRules disk store meta
  registries_scripted opening w c some few =
      let same : c.central.plain.registry ≡ w.partition_state.registry = c.central.stands.partition_state.registry ∙ c.shows.registry in
      subst IsRegistry same
      (registry_rules c.partition c.central.plain c.central.safe c.central.stands.partition_state c.central.stands.lines
      (subst (λ (r : Registry). 1 ≤ length r.replicas) (sym same) some)
      (subst (λ (r : Registry). length r.replicas ≤ 8) (sym same) few))
