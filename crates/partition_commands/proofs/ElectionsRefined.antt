-- The turns of commands to the registry, and of those that learn of it, are rows of what is seen.
use Rattle.std.proofs.Common.{◌≡◌, ◌∙◌, sym, ap, subst, refl, ℕ, ◌<◌, List, Some, Option, Result, Ok as Done, Err, IsSomeAnd, Bool, true, false, not, ◌&&◌, slice_get, min}
use Rattle.std.specs.Option.{ForSome}
use Rattle.tier_base.specs.Device.{Control}
use Rattle.disk_model.specs.Call.{call_code}
use Rattle.disk_model.specs.Content.{Content}
use Rattle.log_terms.specs.Log.{end_of as end_of_log}
use Rattle.epoch_line.specs.Line.{last_epoch, assign}
use Rattle.registry.specs.declared.registry.Registry.{Registry}
use Rattle.registry.specs.declared.registry.Replica.{Replica}
use Rattle.registry.specs.declared.refusal.RegRefusal.{RegRefusal}
use Rattle.registry.specs.declared.refusal.RegRefusal.TheVariants as Reg
use Rattle.registry.specs.Replicas.{AtReplica}
use Rattle.registry.specs.Calls.{is_last, after_elect, after_unclean, after_ack, after_shrink, after_expand, after_raise}
use Rattle.plain_log.specs.declared.answer.Answer.{Answer}
use Rattle.plain_log.specs.declared.answer.Answer.TheVariants.{Ok, OkAt, Down, NotLeader, DiskFault, LastEpoch, NotInSync, DownBroker, BehindStart, Known, Follows, NeedsElection, Leads, NotJoined, StaleEpoch, IsLeader, Behind, NotAbove, AboveMark}
use Rattle.plain_log.specs.declared.state.Role.TheVariants.{Leads as LeadsIn, Follows as FollowsIn}
use Rattle.plain_log.specs.State.{acking}
use Rattle.broker_log.specs.Seen.{LogState, ShowsSeen, is_up as is_open}
use Rattle.broker_log.specs.Seen as log
use Rattle.broker_log.specs.Effects.{settled, loosened}
use Rattle.laws_partition.specs.Seen as seen
use Rattle.laws_partition.specs.Partition as seen_partition
use Rattle.laws_partition.specs.RowsOfElections as seen_rows
use Rattle.laws_partition.proofs.BoolTests.{some_of}
use Rattle.partition_commands.specs.declared.partition_state.Node.{Node}
use Rattle.partition_commands.specs.declared.partition_state.PartitionState.{PartitionState}
use Rattle.partition_commands.specs.Partition.{is_up, end_of, flushed_end_of, node_of, ShowsPartition}
use Rattle.partition_commands.specs.TurnsOfElections.{Leaves, ElectRow, UncleanRow, IsKnown, IsNew, ShrinkRow, ExpandRow, RaiseRow, LearnRow, Acks, AckRow}
use Rattle.partition_commands.specs.Shown.{Sees, Refines}
use Rattle.partition_commands.proofs.Shown.{refines_more, some_at, shown_set, stays, puts, leaves, breaks, broken_node, flushed_end_shown, line_shown, end_shown, end_told, up_of_end}

-- a broker that is down has no flushed end that counts
unclean_stable : (r : Registry) (b : ℕ) (up : Bool) (one two : ℕ) (answer : Result ℕ RegRefusal) → (up ≡ true → one ≡ two) → after_unclean r b up one answer ≡ after_unclean r b up two answer
unclean_stable r b true one two answer same = ap (λ (n : ℕ). after_unclean r b true n answer) (same refl)
unclean_stable r b false one two answer same = down answer
  where
    off : (t : Bool) → not t && false ≡ false
    off true = refl
    off false = refl

    down : (answer : Result ℕ RegRefusal) → after_unclean r b false one answer ≡ after_unclean r b false two answer
    down (Err Reg.LastEpoch) = refl
    down (Err Reg.DownBroker) = refl
    down (Err (Reg.BehindStart end start)) = rw (off (is_last r)) refl
    down (Done epoch) = rw (off (is_last r)) refl
    down other = refl

module _ {D : Type 0} where
  learned_node : (x : Node D) (kept : LogState D) (s s' : log.LogSeen) (n epoch known mark : ℕ) → is_open kept ≡ is_up x → s' ≡ settled s (assign s.line epoch (end_of_log s.batches)) → n ≡ epoch → known ≡ min mark (end_of_log s.batches)
      → record (node_of x s) {
        role = LeadsIn n;
        log = record { batches = s.batches; line = assign s.line n (end_of_log s.batches) };
        flushed_end = end_of_log s.batches;
        known_high_watermark = min mark (end_of_log s.batches);
        saved = assign s.line n (end_of_log s.batches);
      } ≡ node_of (record x { role = LeadsIn epoch; log = kept; known_high_watermark = known }) s'
  learned_node x kept s s' n epoch known mark up is same end = rw (up, is, same, end) refl

module _ {D : Type 0} (content : D → Content) (control : D → Control call_code) where
  -- the registry's calls

  left_refined : (h : PartitionState D) (a : seen.SeenPartition) (h' : PartitionState D) (f : Registry → Option Registry) → ShowsPartition content h a → Leaves h (f h.registry) h'
      → Refines content h' (λ c. seen_rows.Leaves a (f a.registry) c)
  left_refined h a h' f partition_state w =
      let r = some_of (λ (r : Registry). h' ≡ record h { registry = r }) (f h.registry) w in
      leaves content control h a h' _ r.0 partition_state r.2 (some_at (λ (k : Registry). record a { registry = r.0 } ≡ record a { registry = k }) (f a.registry) r.0 (ap f partition_state.registry ∙ r.1) refl)

  replica_refined : (h : PartitionState D) (a : seen.SeenPartition) (h' : PartitionState D) (b : ℕ) (f : Registry → Replica → Option Registry) → ShowsPartition content h a
      → AtReplica h.registry b (λ s. Leaves h (f h.registry s) h') → Refines content h' (λ c. AtReplica a.registry b (λ s. seen_rows.Leaves a (f a.registry s) c))
  replica_refined h a h' b f partition_state w =
      let s = some_of (λ (s : Replica). Leaves h (f h.registry s) h') (slice_get h.registry.replicas b) w in
      refines_more content control h' (λ c. seen_rows.Leaves a (f a.registry s.0) c) _
      (λ c row. some_at (λ (s : Replica). seen_rows.Leaves a (f a.registry s) c) (slice_get a.registry.replicas b) s.0 (ap (λ (r : Registry). slice_get r.replicas b) partition_state.registry ∙ s.1) row)
      (left_refined h a h' (λ r. f r s.0) partition_state s.2)

  pub elect_refined : (h : PartitionState D) (a : seen.SeenPartition) (b : ℕ) (x : Node D) (s : log.LogSeen) (answer : Answer) (h' : PartitionState D) → Sees content h a b x s → ElectRow h b x answer h'
      → Refines content h' (λ c. seen_rows.ElectRow a b (node_of x s) answer c)
  elect_refined h a b x s LastEpoch h' v w = replica_refined h a h' b (λ r t. after_elect r b t (is_up x) (Err Reg.LastEpoch)) v.partition_state w
  elect_refined h a b x s NotInSync h' v w = replica_refined h a h' b (λ r t. after_elect r b t (is_up x) (Err Reg.NotInSync)) v.partition_state w
  elect_refined h a b x s DownBroker h' v w = replica_refined h a h' b (λ r t. after_elect r b t (is_up x) (Err Reg.DownBroker)) v.partition_state w
  elect_refined h a b x s (OkAt n) h' v w = replica_refined h a h' b (λ r t. after_elect r b t (is_up x) (Done n)) v.partition_state w
  elect_refined h a b x s other h' v w = elim w [ ]

  unclean_by : (h : PartitionState D) (a : seen.SeenPartition) (b : ℕ) (x : Node D) (s : log.LogSeen) (answer : Result ℕ RegRefusal) (h' : PartitionState D) → Sees content h a b x s
      → Leaves h (after_unclean h.registry b (is_up x) (flushed_end_of x) answer) h' → Refines content h' (λ c. seen_rows.Leaves a (after_unclean a.registry b (is_up x) s.flushed_end answer) c)
  unclean_by h a b x s answer h' v w =
      let same = unclean_stable h.registry b (is_up x) (flushed_end_of x) s.flushed_end answer (λ up. flushed_end_shown content x s up v.shows) in
      left_refined h a h' (λ r. after_unclean r b (is_up x) s.flushed_end answer) v.partition_state (subst (λ (o : Option Registry). Leaves h o h') same w)

  pub unclean_refined : (h : PartitionState D) (a : seen.SeenPartition) (b : ℕ) (x : Node D) (s : log.LogSeen) (answer : Answer) (h' : PartitionState D) → Sees content h a b x s → UncleanRow h b x answer h'
      → Refines content h' (λ c. seen_rows.UncleanRow a b (node_of x s) answer c)
  unclean_refined h a b x s LastEpoch h' v w = unclean_by h a b x s (Err Reg.LastEpoch) h' v w
  unclean_refined h a b x s DownBroker h' v w = unclean_by h a b x s (Err Reg.DownBroker) h' v w
  unclean_refined h a b x s (BehindStart end start) h' v w = unclean_by h a b x s (Err (Reg.BehindStart end start)) h' v w
  unclean_refined h a b x s (OkAt n) h' v w = unclean_by h a b x s (Done n) h' v w
  unclean_refined h a b x s other h' v w = elim w [ ]

  pub shrink_refined : (h : PartitionState D) (a : seen.SeenPartition) (b : ℕ) (x : Node D) (s : log.LogSeen) (answer : Answer) (h' : PartitionState D) → Sees content h a b x s → ShrinkRow h b answer h'
      → Refines content h' (λ c. seen_rows.ShrinkRow a b answer c)
  shrink_refined h a b x s NotInSync h' v w = replica_refined h a h' b (λ r t. after_shrink r b t (Err Reg.NotInSync)) v.partition_state w
  shrink_refined h a b x s IsLeader h' v w = replica_refined h a h' b (λ r t. after_shrink r b t (Err Reg.IsLeader)) v.partition_state w
  shrink_refined h a b x s Ok h' v w = replica_refined h a h' b (λ r t. after_shrink r b t (Done tt)) v.partition_state w
  shrink_refined h a b x s other h' v w = elim w [ ]

  pub expand_refined : (h : PartitionState D) (a : seen.SeenPartition) (b : ℕ) (x : Node D) (s : log.LogSeen) (answer : Answer) (h' : PartitionState D) → Sees content h a b x s → ExpandRow h b x answer h'
      → Refines content h' (λ c. seen_rows.ExpandRow a b (node_of x s) answer c)
  expand_refined h a b x s DownBroker h' v w = replica_refined h a h' b (λ r t. after_expand r b t (is_up x) (Err Reg.DownBroker)) v.partition_state w
  expand_refined h a b x s (Behind ack mark) h' v w = replica_refined h a h' b (λ r t. after_expand r b t (is_up x) (Err (Reg.Behind ack mark))) v.partition_state w
  expand_refined h a b x s Ok h' v w = replica_refined h a h' b (λ r t. after_expand r b t (is_up x) (Done tt)) v.partition_state w
  expand_refined h a b x s other h' v w = elim w [ ]

  raise_by : (h : PartitionState D) (a : seen.SeenPartition) (b : ℕ) (x : Node D) (s : log.LogSeen) (wanted : ℕ) (answer : Result ℕ RegRefusal) (h' : PartitionState D) → Sees content h a b x s
      → (is_up x ≡ true) × ((e : ℕ) × (x.role ≡ LeadsIn e) × Leaves h (after_raise h.registry e wanted answer) h')
      → Refines content h' (λ c. (is_up x ≡ true) × ((e : ℕ) × (x.role ≡ LeadsIn e) × seen_rows.Leaves a (after_raise a.registry e wanted answer) c))
  raise_by h a b x s wanted answer h' v w =
      refines_more content control h' (λ c. seen_rows.Leaves a (after_raise a.registry w.1.0 wanted answer) c) _ (λ c row. (w.0, (w.1.0, w.1.1, row)))
      (left_refined h a h' (λ r. after_raise r w.1.0 wanted answer) v.partition_state w.1.2)

  pub raise_refined : (h : PartitionState D) (a : seen.SeenPartition) (b : ℕ) (x : Node D) (s : log.LogSeen) (wanted : ℕ) (answer : Answer) (h' : PartitionState D) → Sees content h a b x s → RaiseRow h b x wanted answer h'
      → Refines content h' (λ c. seen_rows.RaiseRow a b (node_of x s) wanted answer c)
  raise_refined h a b x s wanted Down h' v w = stays content control h a h' _ v.partition_state w.1 (w.0, refl)
  raise_refined h a b x s wanted NotLeader h' v w = stays content control h a h' _ v.partition_state w.2 (w.0, w.1, refl)
  raise_refined h a b x s wanted (StaleEpoch n) h' v w = raise_by h a b x s wanted (Err (Reg.StaleEpoch n)) h' v w
  raise_refined h a b x s wanted (NotAbove start) h' v w = raise_by h a b x s wanted (Err (Reg.NotAbove start)) h' v w
  raise_refined h a b x s wanted (AboveMark mark) h' v w = raise_by h a b x s wanted (Err (Reg.AboveMark mark)) h' v w
  raise_refined h a b x s wanted (OkAt start) h' v w = raise_by h a b x s wanted (Done start) h' v w
  raise_refined h a b x s wanted other h' v w = elim w [ ]

  -- learn

  known_shown : (h : PartitionState D) (a : seen.SeenPartition) (x : Node D) (s : log.LogSeen) → ShowsPartition content h a → IsKnown h x → seen_rows.IsKnown a (node_of x s)
  known_shown h a x s partition_state k = k ∙ ap (λ (r : Registry). Some r.epoch) (sym partition_state.registry)

  unknown_shown : (h : PartitionState D) (a : seen.SeenPartition) (x : Node D) (s : log.LogSeen) → ShowsPartition content h a → (IsKnown h x → ⊥) → seen_rows.IsKnown a (node_of x s) → ⊥
  unknown_shown h a x s partition_state k n = k (n ∙ ap (λ (r : Registry). Some r.epoch) partition_state.registry)

  new_shown : (h : PartitionState D) (x : Node D) (s : log.LogSeen) (n : ℕ) → is_up x ≡ true → ShowsSeen content x.log s → IsNew x n → seen_rows.IsNew (node_of x s) n
  new_shown h x s n up shows k = subst (λ (l : List (ℕ × ℕ)). ForSome (last_epoch l) (λ last. last < n)) (line_shown content x s up shows) k

  old_shown : (h : PartitionState D) (x : Node D) (s : log.LogSeen) (n : ℕ) → is_up x ≡ true → ShowsSeen content x.log s → (IsNew x n → ⊥) → seen_rows.IsNew (node_of x s) n → ⊥
  old_shown h x s n up shows k m = k (subst (λ (l : List (ℕ × ℕ)). ForSome (last_epoch l) (λ last. last < n)) (sym (line_shown content x s up shows)) m)

  pub learn_refined : (h : PartitionState D) (a : seen.SeenPartition) (b : ℕ) (x : Node D) (s : log.LogSeen) (answer : Answer) (h' : PartitionState D) → Sees content h a b x s → LearnRow content control h b x answer h'
      → Refines content h' (λ c. seen_rows.LearnRow a b (node_of x s) answer c)
  learn_refined h a b x s Down h' v w = stays content control h a h' _ v.partition_state w.1 (w.0, refl)
  learn_refined h a b x s Known h' v w = stays content control h a h' _ v.partition_state w.2 (w.0, known_shown h a x s v.partition_state w.1, refl)
  learn_refined h a b x s (Follows n) h' v w =
      puts content control h a b x s h' _ (record x { role = FollowsIn n }) s (record (node_of x s) { role = FollowsIn n }) v v.shows refl w.4
      (w.0, unknown_shown h a x s v.partition_state w.1, λ e. w.2 (ap (λ (r : Registry). r.leader.0) (sym v.partition_state.registry) ∙ e), w.3 ∙ ap (λ (r : Registry). r.epoch) (sym v.partition_state.registry), refl)
  learn_refined h a b x s (NeedsElection n) h' v w =
      stays content control h a h' _ v.partition_state w.5 (
        w.0,
        unknown_shown h a x s v.partition_state w.1,
        ap (λ (r : Registry). r.leader.0) v.partition_state.registry ∙ w.2,
        w.3 ∙ ap (λ (r : Registry). r.epoch) (sym v.partition_state.registry),
        old_shown h x s n w.0 v.shows w.4,
        refl,
      )
  learn_refined h a b x s (Leads n) h' v w =
      let g = w.4.1 in
      let t = g.settles.seen s v.shows in
      let known : min h.registry.mark g.end ≡ min a.registry.mark (end_of_log s.batches) =
      ap (λ (r : Registry). min r.mark g.end) (sym v.partition_state.registry) ∙ ap (λ (n : ℕ). min a.registry.mark n) (sym (end_told content x g.end g.settles.base_is) ∙ end_shown content x s w.0 v.shows) in
      puts content control h a b x s h' _ (record x { role = LeadsIn h.registry.epoch; log = g.kept; known_high_watermark = min h.registry.mark g.end }) t.0 (seen_rows.led a (node_of x s) n) v t.1
      (learned_node x g.kept s t.0 n h.registry.epoch (min h.registry.mark g.end) a.registry.mark (up_of_end content g.kept g.end g.settles.end_is ∙ sym w.0) t.2 w.4.0 known) g.after (
        w.0,
        unknown_shown h a x s v.partition_state w.1,
        ap (λ (r : Registry). r.leader.0) v.partition_state.registry ∙ w.2,
        w.4.0 ∙ ap (λ (r : Registry). r.epoch) (sym v.partition_state.registry),
        subst (λ (k : ℕ). seen_rows.IsNew (node_of x s) k) (sym w.4.0) (new_shown h x s h.registry.epoch w.0 v.shows w.3),
        refl,
      )
  learn_refined h a b x s DiskFault h' v w =
      let epoch : h.registry.epoch ≡ a.registry.epoch = ap (λ (r : Registry). r.epoch) (sym v.partition_state.registry) in
      breaks content control h a b x s (λ s. loosened s (end_of_log s.batches, assign s.line h.registry.epoch (end_of_log s.batches), s.local)) h' _
      (seen_partition.broken (node_of x s) (end_of_log s.batches, assign s.line a.registry.epoch (end_of_log s.batches), s.local)) v w.4
      (λ kept down. rw (sym epoch) (broken_node x kept s (end_of_log s.batches, assign s.line h.registry.epoch (end_of_log s.batches), s.local) down)) (
        w.0,
        unknown_shown h a x s v.partition_state w.1,
        ap (λ (r : Registry). r.leader.0) v.partition_state.registry ∙ w.2,
        subst (seen_rows.IsNew (node_of x s)) epoch (new_shown h x s h.registry.epoch w.0 v.shows w.3),
        refl,
      )
  learn_refined h a b x s other h' v w = elim w [ ]

  -- ack

  acks_refined : (h : PartitionState D) (a : seen.SeenPartition) (b : ℕ) (x : Node D) (s : log.LogSeen) (r : Registry) (h' : PartitionState D) → Sees content h a b x s → is_up x ≡ true → Acks h b x r h'
      → Refines content h' (λ c. c ≡ seen_rows.acked a b (node_of x s) r)
  acks_refined h a b x s r h' v up k =
      let known = ap (λ (n : ℕ). min r.mark n) (end_shown content x s up v.shows) in
      subst (λ (g : PartitionState D). Refines content g (λ c. c ≡ seen_rows.acked a b (node_of x s) r)) (sym k) (record {
        after = seen_rows.acked a b (node_of x s) r;
        partition_state = record {
          registry = refl;
          nodes = shown_set content h.nodes a.nodes b (record x { known_high_watermark = min r.mark (end_of x) }) (record (node_of x s) { known_high_watermark = min r.mark (end_of_log s.batches) }) v.partition_state.nodes
              (s, v.shows, ap (λ (n : ℕ). record (node_of x s) { known_high_watermark = n }) (sym known));
          clock = v.partition_state.clock;
        };
        row = refl;
      })

  stale_ack : (h : PartitionState D) (a : seen.SeenPartition) (b : ℕ) (x : Node D) (s : log.LogSeen) (n : ℕ) (h' : PartitionState D) → Sees content h a b x s → is_up x ≡ true
      → IsSomeAnd (acking x.role) (λ e. AtReplica h.registry b (λ t. Leaves h (after_ack h.registry b t e (flushed_end_of x) (Err (Reg.StaleEpoch n))) h'))
      → Refines content h' (λ c. IsSomeAnd (acking x.role) (λ e. AtReplica a.registry b (λ t. seen_rows.Leaves a (after_ack a.registry b t e s.flushed_end (Err (Reg.StaleEpoch n))) c)))
  stale_ack h a b x s n h' v up w =
      let e = some_of _ (acking x.role) w in
      let same = flushed_end_shown content x s up v.shows in
      refines_more content control h' (λ c. AtReplica a.registry b (λ t. seen_rows.Leaves a (after_ack a.registry b t e.0 s.flushed_end (Err (Reg.StaleEpoch n))) c)) _
      (λ c row. some_at (λ e. AtReplica a.registry b (λ t. seen_rows.Leaves a (after_ack a.registry b t e s.flushed_end (Err (Reg.StaleEpoch n))) c)) (acking x.role) e.0 e.1 row)
      (replica_refined h a h' b (λ r t. after_ack r b t e.0 s.flushed_end (Err (Reg.StaleEpoch n))) v.partition_state
      (subst (λ (k : ℕ). AtReplica h.registry b (λ t. Leaves h (after_ack h.registry b t e.0 k (Err (Reg.StaleEpoch n))) h')) same e.2))

  pub ack_refined : (h : PartitionState D) (a : seen.SeenPartition) (b : ℕ) (x : Node D) (s : log.LogSeen) (answer : Answer) (h' : PartitionState D) → Sees content h a b x s
      → AckRow h b x answer h'
      → Refines content h' (λ c. seen_rows.AckRow a b (node_of x s) answer c)
  ack_refined h a b x s Down h' v w = stays content control h a h' _ v.partition_state w.1 (w.0, refl)
  ack_refined h a b x s NotJoined h' v w = stays content control h a h' _ v.partition_state w.2 (w.0, w.1, refl)
  ack_refined h a b x s (StaleEpoch n) h' v w = refines_more content control h' _ _ (λ c row. (w.0, row)) (stale_ack h a b x s n h' v w.0 w.1)
  ack_refined h a b x s (OkAt mark) h' v w =
      let e = some_of _ (acking x.role) w.1 in
      let same = flushed_end_shown content x s w.0 v.shows in
      let t = some_of _ (slice_get h.registry.replicas b) e.2 in
      let r = some_of _ (after_ack h.registry b t.0 e.0 (flushed_end_of x) (Done mark)) t.2 in
      let after : after_ack a.registry b t.0 e.0 s.flushed_end (Done mark) ≡ Some r.0 =
      ap (λ (k : Registry). after_ack k b t.0 e.0 s.flushed_end (Done mark)) v.partition_state.registry ∙ (ap (λ (k : ℕ). after_ack h.registry b t.0 e.0 k (Done mark)) (sym same) ∙ r.1) in
      refines_more content control h' (λ c. c ≡ seen_rows.acked a b (node_of x s) r.0) _
      (λ c row. (
        w.0,
        some_at (λ e. AtReplica a.registry b (λ t. IsSomeAnd (after_ack a.registry b t e s.flushed_end (Done mark)) (λ r. c ≡ seen_rows.acked a b (node_of x s) r))) (acking x.role) e.0 e.1
            (some_at (λ t. IsSomeAnd (after_ack a.registry b t e.0 s.flushed_end (Done mark)) (λ r. c ≡ seen_rows.acked a b (node_of x s) r)) (slice_get a.registry.replicas b) t.0
            (ap (λ (k : Registry). slice_get k.replicas b) v.partition_state.registry ∙ t.1)
            (some_at (λ r. c ≡ seen_rows.acked a b (node_of x s) r) (after_ack a.registry b t.0 e.0 s.flushed_end (Done mark)) r.0 after row)),
      ))
      (acks_refined h a b x s r.0 h' v w.0 r.2)
  ack_refined h a b x s other h' v w = elim w [ ]
