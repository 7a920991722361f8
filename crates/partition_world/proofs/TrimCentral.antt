-- Each turn of a trim keeps the central fact.
--
-- The first turn refreshes the broker's view. The second one drops the first closed segment, or fails to: what the local log
-- lacks then has a piece in that view, offset by offset, and so it is covered.
use Rattle.std.proofs.Common.{◌≡◌, ◌≢◌, ◌∙◌, inl, inr, ap, subst, refl, ℕ, zero, suc, ◌⊎◌, ◌+◌, ◌≤◌, max, List, [], ◌∷◌, slice_get, Some, None, Option, true, false, arith, IsSomeAnd}
use Rattle.disk_model.specs.declared.disk.Disk.{Ghosts as DiskGhosts}
use Rattle.object_store.specs.declared.store.Store.{Ghosts as StoreGhosts}
use Rattle.meta_log.specs.declared.log.MetaLog.{Ghosts as MetaGhosts}
use Rattle.tier_base.specs.declared.plain.Keep.{Keep}
use Rattle.log_terms.specs.Log.{end_of}
use Rattle.segment_file.specs.Growing.{Grown}
use Rattle.local_log.specs.Dropping.{SpansFirst, start_behind}
use Rattle.local_log.specs.Stored.{end_of as segment_end}
use Rattle.remote_find.specs.Pieces.{covered_to}
use Rattle.plain_log.specs.declared.answer.Answer.{Answer}
use Rattle.plain_log.specs.declared.answer.Answer.TheVariants.{Down, MetaFault, Stopped, Kept, DiskFault, Dropped}
use Rattle.plain_log.specs.declared.command.Command.TheVariants.{Trim}
use Rattle.plain_log.specs.declared.state.State.{State}
use Rattle.registry.specs.declared.registry.Registry.{Registry}
use Rattle.broker_log.specs.Seen as log
use Rattle.broker_log.specs.Seen.{ShowsSeen, closed_in}
use Rattle.broker_log.specs.Effects.{loosened, kept_line}
use Rattle.laws_partition.specs.declared.start_snapshot.StartSnapshot.{StartSnapshot}
use Rattle.laws_partition.specs.Partition as seen_partition
use Rattle.laws_partition.specs.RowsOfLog as seen_log
use Rattle.laws_partition.specs.Seen as seen
use Rattle.laws_partition.specs.Sound.{NodeSound}
use Rattle.laws_partition.proofs.Standing.{get_put}
use Rattle.laws_tier_turns.specs.BrokerTiers.{BrokerTierModel as BrokerTierIsSeen, start_of, greatest}
use Rattle.laws_tier_turns.specs.Turns.{IsTrimmed, OwesTier}
use Rattle.partition_commands.specs.declared.partition_state.Node.{Node}
use Rattle.partition_commands.specs.declared.partition_state.PartitionState.{PartitionState}
use Rattle.partition_commands.specs.Partition.{is_up, line_of, local_of, node_of, ShowsPartition}
use Rattle.partition_commands.specs.Partition as disk_partition
use Rattle.partition_commands.specs.Shown.{Sees, Refines}
use Rattle.partition_commands.specs.TurnsOfLog.{TrimOnRow as DiskRow}
use Rattle.partition_commands.proofs.OwnRefined.{notes_shown, open_of, dropped_node}
use Rattle.partition_commands.proofs.Shown.{breaks_to, broken_node, puts, stays, end_shown, line_shown, local_shown}
use Rattle.tier_safe.specs.Reads.{TellsEpochs, IsRightView}
use Rattle.tier_safe.proofs.Lookups.{reached_is_covered}
use Rattle.partition_world.specs.declared.actor_state.Outcome.{Outcome}
use Rattle.partition_world.specs.declared.actor_state.Outcome.TheVariants.{Answers, Begins}
use Rattle.partition_world.specs.declared.actor_state.InProgress.TheVariants.{Idle}
use Rattle.partition_world.specs.declared.tier.BrokerTierState.{BrokerTierState}
use Rattle.partition_world.specs.declared.tier.RemoteTier.{RemoteTier}
use Rattle.partition_world.specs.Central.{IsCentral, broker_tier_seen, broker_tiers_seen}
use Rattle.partition_world.specs.Turn.{IsTurn}
use Rattle.partition_world.specs.TurnsOfCopy.{copied_to}
use Rattle.partition_world.specs.TurnsOfTrim.{MayTrim, TrimsBy, TrimFirstRow}
use Rattle.partition_world.specs.Whole.{Whole}
use Rattle.partition_world.proofs.Scenes.{Place}
use Rattle.partition_world.proofs.TurnCentral.{rests, stands, partition_state_same, begins}

-- a broker's tier state as it is seen
pub seen_broker_tier : (broker_tiers : List BrokerTierState) (b : ℕ) (broker_tier : BrokerTierState) → slice_get broker_tiers b ≡ Some broker_tier → slice_get (broker_tiers_seen broker_tiers) b ≡ Some (broker_tier_seen broker_tier)
seen_broker_tier [] b broker_tier at = absurd cc
seen_broker_tier (z ∷ broker_tiers) zero broker_tier at = let one : z ≡ broker_tier = cc in rw one refl
seen_broker_tier (z ∷ broker_tiers) (suc b) broker_tier at = seen_broker_tier broker_tiers b broker_tier at

-- the first closed segment

behind_of : (closed : List Grown) (start n : ℕ) → IsSomeAnd (slice_get closed 0) (λ segment. segment_end segment ≤ n) → start_behind start closed ≤ n
behind_of [] start n low = elim low [ ]
behind_of (first ∷ rest) start n low = low

span_of : (closed : List Grown) (start : ℕ) (answer : ℕ × ℕ) → SpansFirst closed answer → answer.1 + 1 ≡ start_behind start closed
span_of [] start answer spans = absurd spans
span_of (first ∷ rest) start answer spans = spans.1

-- the node is as it was, or its local log starts after the first closed segment
pub record StartGoes (closed : List Grown) (b : ℕ) (y : seen.Node) (c : seen.SeenPartition) : Type 0 where
  pub each : (z : seen.Node) → slice_get c.nodes b ≡ Some z → (z ≡ y) ⊎ ((start_of z ≡ start_behind y.local closed) × (y.local ≤ start_of z))

-- what starts where nothing may come back
greatest_none : (start : ℕ) (back : Option seen.Back) → back ≡ None → greatest start back ≡ start
greatest_none start None is = refl
greatest_none start (Some back) is = absurd (cc (is))

module _ {D : Type 0} (disk : DiskGhosts D) where
  -- how a trim's second turn is seen, and where its broker's local log starts then
  pub trim_shown : (h : PartitionState D) (a : seen.SeenPartition) (b : ℕ) (x : Node D) (s : log.LogSeen) (g : StartSnapshot) (answer : Answer) (h' : PartitionState D) → Sees disk.content h a b x s → (g.stops ≡ x.stops → is_up x ≡ true)
      → NodeSound (node_of x s) → DiskRow disk.content disk.control h b x g answer h'
      → Refines disk.content h' (λ c. seen_log.TrimOnRow a b (node_of x s) g answer c × StartGoes (closed_in x.log) b (node_of x s) c)
  trim_shown h a b x s g Stopped h' v k n w = stays disk.content disk.control h a h' _ v.partition_state w.1 ((halted w.0, refl), record { each = λ z there. inl (cc (v.there, there)) })
    where
      halted : (g.stops ≢ x.stops) ⊎ (is_up x ≡ false) → g.stops ≢ x.stops
      halted (inl differs) = differs
      halted (inr down) = λ same. (let up = k same in absurd cc)
  trim_shown h a b x s g Kept h' v k n w = stays disk.content disk.control h a h' _ v.partition_state w.1 ((w.0, refl), record { each = λ z there. inl (cc (v.there, there)) })
  trim_shown h a b x s g DiskFault h' v k n w =
      let q = w.2 in
      let t = q.breaks.seen s v.shows in
      let y = seen_partition.broken (node_of x s) (s.flushed_end, kept_line s, t.0) in
      breaks_to disk.content disk.control h a b x s (loosened s (s.flushed_end, kept_line s, t.0)) _ h' _ y v q t.3
      (broken_node x q.kept s (s.flushed_end, kept_line s, t.0) q.breaks.down) (
        (w.0, w.1, (t.0, record { flushed_end = t.2; ends = t.1 }, refl)),
        record {
          each = λ z there.
              (let same : y ≡ z = cc (get_put a.nodes b (node_of x s) y v.there, there) in
              let is = t.4 in
              let low = t.5 in
              subst (λ (i : seen.Node). (i ≡ node_of x s) ⊎ ((start_of i ≡ start_behind s.local (closed_in x.log)) × (s.local ≤ start_of i))) same (inr (omega (arith, is, low), omega (arith, low))));
        },
      )
  trim_shown h a b x s g (Dropped base last) h' v k n w =
      let kept = w.2.0 in
      let d = w.2.1 in
      let t = d.seen s v.shows in
      let e = d.ends s v.shows in
      let y = record (node_of x s) { local = last + 1; saved = seen_partition.kept_line (node_of x s) } in
      puts disk.content disk.control h a b x s h' _ (record x { log = kept }) t.0 y v t.1
      (dropped_node x kept s t.0 (last + 1) (open_of x kept d.end_is w.1) t.2) w.2.3 (
        (w.0, w.1, e.0, record { flushed_end = e.2; ends = e.1 }, refl),
        record {
          each = λ z there.
              (let same : y ≡ z = cc (get_put a.nodes b (node_of x s) y v.there, there) in
              let start : greatest (last + 1) s.loose ≡ last + 1 = greatest_none (last + 1) s.loose (n.tight w.1) in
              let low = e.3 in
              subst (λ (i : seen.Node). (i ≡ node_of x s) ⊎ ((start_of i ≡ start_behind s.local (closed_in x.log)) × (s.local ≤ start_of i))) same
              (inr (start ∙ span_of (closed_in x.log) s.local (base, last) d.spans, omega (arith, low, start))));
        },
      )
  trim_shown h a b x s g other h' v k n w = elim w [ ]

-- each offset that a local log lacks then is covered in its broker's view
pub trim_owed : {D : Type 0} (disk : DiskGhosts D) (h : PartitionState D) (a : seen.SeenPartition) (b : ℕ) (x : Node D) (s : log.LogSeen) (broker_tier : BrokerTierState) (keep : Keep) (broker_tiers : List BrokerTierState) (c : seen.SeenPartition) → Sees disk.content h a b x s
    → slice_get broker_tiers b ≡ Some broker_tier → NodeSound (node_of x s) → TellsEpochs s.line s.batches → IsRightView broker_tier.view → is_up x ≡ true → MayTrim h x broker_tier keep → StartGoes (closed_in x.log) b (node_of x s) c
    → OwesTier a b (node_of x s) Trim (broker_tiers_seen broker_tiers) c
trim_owed disk h a b x s broker_tier keep broker_tiers c v at n is_observable right up may goes = λ y one there beside.
    let same : broker_tier_seen broker_tier ≡ one = cc (seen_broker_tier broker_tiers b broker_tier at, beside) in
    subst (λ (k : BrokerTierIsSeen). IsTrimmed a.registry.start (node_of x s) y k) same (by y (goes.each y there))
  where
    loose : start_of (node_of x s) ≡ s.local
    loose = greatest_none s.local s.loose (n.tight up)

    by : (y : seen.Node) → (y ≡ node_of x s) ⊎ ((start_of y ≡ start_behind s.local (closed_in x.log)) × (s.local ≤ start_of y)) → IsTrimmed a.registry.start (node_of x s) y (broker_tier_seen broker_tier)
    by y (inl same) = record {
      rises = (let e = ap start_of same in omega (arith, e));
      covered = λ o from low high. (let e = ap start_of same in absurd (omega (arith, e, low, high)));
    }
    by y (inr k) = record {
      rises = (let le = k.1 in omega (arith, loose, le));
      covered = λ o from low high.
          (let top = behind_of (closed_in x.log) s.local (copied_to x broker_tier h.registry.start) may.copied in
          let is = k.0 in
          let line : line_of x ≡ s.line = line_shown disk.content x s up v.shows in
          let end : disk_partition.end_of x ≡ end_of s.batches = end_shown disk.content x s up v.shows in
          let local : local_of x ≡ s.local = local_shown disk.content x s up v.shows in
          let start : a.registry.start ≡ h.registry.start = ap (λ (r : Registry). r.start) v.partition_state.registry in
          let mark : copied_to x broker_tier h.registry.start ≡ covered_to broker_tier.view.entries s.line (end_of s.batches) (max (local_of x) h.registry.start) = rw (line, end) refl in
          reached_is_covered broker_tier.view s.line s.batches (max (local_of x) h.registry.start) right is_observable o (omega (arith, from, low, loose, local, start)) (omega (arith, high, is, top, mark)));
    }

-- a node that is as it was lacks no more
same_owes : (h : seen.SeenPartition) (b : ℕ) (x : seen.Node) (broker_tiers : List BrokerTierIsSeen) (h' : seen.SeenPartition) → slice_get h.nodes b ≡ Some x → h' ≡ h → OwesTier h b x Trim broker_tiers h'
same_owes h b x broker_tiers h' at is = λ y broker_tier there beside.
    let same : x ≡ y = cc (at, there, ap (λ (k : seen.SeenPartition). slice_get k.nodes b) is) in
    rw same (record { rises = omega arith; covered = λ o from low high. absurd (omega (arith, low, high)) })

module _ {D : Type 0} (disk : DiskGhosts D) where
  -- what a trim owes at its second turn
  pub trim_owes_on : (h : PartitionState D) (a : seen.SeenPartition) (b : ℕ) (x : Node D) (s : log.LogSeen) (g : StartSnapshot) (broker_tier : BrokerTierState) (keep : Keep) (broker_tiers : List BrokerTierState) (answer : Answer) (h' : PartitionState D) (c : seen.SeenPartition) → Sees disk.content h a b x s
      → slice_get broker_tiers b ≡ Some broker_tier → NodeSound (node_of x s) → TellsEpochs s.line s.batches → IsRightView broker_tier.view → DiskRow disk.content disk.control h b x g answer h' → TrimsBy disk h x broker_tier keep answer
      → seen_log.TrimOnRow a b (node_of x s) g answer c → StartGoes (closed_in x.log) b (node_of x s) c → OwesTier a b (node_of x s) Trim (broker_tiers_seen broker_tiers) c
  trim_owes_on h a b x s g broker_tier keep broker_tiers Stopped h' c v at n is_observable right w by row goes = same_owes a b (node_of x s) (broker_tiers_seen broker_tiers) c v.there row.1
  trim_owes_on h a b x s g broker_tier keep broker_tiers Kept h' c v at n is_observable right w by row goes = same_owes a b (node_of x s) (broker_tiers_seen broker_tiers) c v.there row.1
  trim_owes_on h a b x s g broker_tier keep broker_tiers DiskFault h' c v at n is_observable right w by row goes = trim_owed disk h a b x s broker_tier keep broker_tiers c v at n is_observable right w.1 by goes
  trim_owes_on h a b x s g broker_tier keep broker_tiers (Dropped base last) h' c v at n is_observable right w by row goes = trim_owed disk h a b x s broker_tier keep broker_tiers c v at n is_observable right w.1 by goes
  trim_owes_on h a b x s g broker_tier keep broker_tiers other h' c v at n is_observable right w by row goes = elim row [ ]

module _ {D S M : Type 0} (disk : DiskGhosts D) (store : StoreGhosts S) (meta : MetaGhosts M) where
  -- the first turn of a trim, in its place
  module _ (opening : State) (w : Whole D S M) (a : ℕ) (outcome : Outcome) (w' : Whole D S M) (t : IsTurn disk store meta w a outcome w') (c : IsCentral disk store meta opening w)
      (z : Place disk store meta opening w c t.place t.list t.actor_state t.order) (trims : t.order.command ≡ Trim) where
    same_partition_state : w'.partition_state ≡ w.partition_state → ShowsPartition disk.content w'.partition_state c.partition
    same_partition_state = partition_state_same disk store meta opening w a outcome w' t c z Trim trims

    pub trim_first : t.actor_state.in_progress ≡ Idle → (o : Outcome) → outcome ≡ o → TrimFirstRow meta w.partition_state w.tier t.order.broker.0 z.x z.broker_tier o w'.tier → w'.partition_state ≡ w.partition_state → IsCentral disk store meta opening w'
    trim_first idle (Answers Down) is row same = stands disk store meta opening w a outcome w' t c z Trim trims Idle idle Down is refl row.1 (same_partition_state same) (row.0, refl)
    trim_first idle (Answers MetaFault) is row same =
        rests disk store meta opening w a outcome w' t c z Trim trims Idle idle MetaFault is refl (ap (λ (u : RemoteTier S M). u.broker_tiers) row.1.after)
        (ap (λ (u : RemoteTier S M). (store.content u.store).is_observable) row.1.after, row.1.reads.content.is_observable)
        (ap (λ (u : RemoteTier S M). (store.content u.store).objects) row.1.after) row.1.reads.content.notes (same_partition_state same) (row.0, refl)
    trim_first idle (Begins g) is row same =
        begins disk store meta opening w a outcome w' t c z Trim trims idle g is refl refl (row.0, notes_shown disk.content disk.control w.partition_state c.partition t.order.broker.0 z.x z.s g z.sees row.0 row.1, refl) row.2 same
    trim_first idle other is row same = elim row [ ]
