-- The turns of a broker's own log, and its stops, are rows of what is seen.
use Rattle.std.proofs.Common.{◌≡◌, ◌≢◌, ◌⊎◌, ◌∙◌, inl, inr, sym, ap, subst, refl, ℕ, ◌+◌, ◌<◌, ◌≤◌, List, [], ◌∷◌, ◌++◌, true, false}
use Rattle.tier_base.specs.Device.{Control}
use Rattle.disk_model.specs.Call.{call_code}
use Rattle.disk_model.specs.Content.{Content}
use Rattle.log_terms.specs.Batch.{base_of, epoch_of, last_offset_delta_of}
use Rattle.log_terms.specs.Log.{IsConsecutive, end_of as end_of_log}
use Rattle.record_batch.specs.Stamp.{stamped}
use Rattle.plain_log.specs.declared.answer.Answer.{Answer}
use Rattle.plain_log.specs.declared.answer.Answer.TheVariants.{Ok, OkAt, OkSpan, Down, NotLeader, Refused, LastOffset, TooManySegments, EmptySegment, DiskFault, Damaged, IsUp, LastIncarnation, Up as IsOpen, Stopped, Kept as Remains, Dropped}
use Rattle.plain_log.specs.declared.answer.Place.TheVariants.{File}
use Rattle.plain_log.specs.RowsOfLog.{offset_limit}
use Rattle.local_log.specs.Run.{lined}
use Rattle.broker_log.specs.Seen.{LogState, Up, Down as Closed, Away, ShowsSeen, end_in, is_up as is_open}
use Rattle.broker_log.specs.Seen as log
use Rattle.broker_log.specs.Effects.{with_batches, settled, opened as opened_log, dropped, kept_line, ComesBackAs}
use Rattle.broker_log.specs.Effects.{OpensWith, loosened}
use Rattle.laws_partition.specs.Seen as seen
use Rattle.laws_partition.proofs.BoolTests.{some_of}
use Rattle.laws_partition.specs.Partition as seen_partition
use Rattle.laws_partition.specs.Log.{entered, with_batch}
use Rattle.laws_partition.specs.Rows as seen_rows
use Rattle.laws_partition.specs.RowsOfLog as seen_log
use Rattle.partition_commands.specs.declared.partition_state.Node.{Node}
use Rattle.partition_commands.specs.declared.partition_state.PartitionState.{PartitionState}
use Rattle.partition_commands.specs.Partition.{is_up, stopped, node_of}
use Rattle.partition_commands.specs.TurnsOfLog.{end_with, BreaksUnsaved, NodeGains, AppendRow, RawRow, FlushRow, RollRow, Notes, TrimRow, TrimOnRow}
use Rattle.laws_partition.specs.declared.start_snapshot.StartSnapshot.{StartSnapshot}
use Rattle.laws_partition.specs.declared.start_snapshot.Turned.{Turned}
use Rattle.laws_partition.specs.declared.start_snapshot.Turned.TheVariants.{Answers, Begins}
use Rattle.registry.specs.declared.registry.Registry.{Registry}
use Rattle.partition_commands.specs.Turns.{StopRow, UpRow}
use Rattle.partition_commands.proofs.Fronts.{whole_batch, front_one, lined_entered}
use Rattle.partition_commands.specs.Shown.{Sees, Refines}
use Rattle.partition_commands.proofs.Shown.{refines_more, stays, puts, looks, rests, fails, breaks, breaks_to, broken_node, end_shown, end_told, up_of_end}

module _ {D : Type 0} where
  -- a node as it is seen, whose log has changed
  appended_node : (x : Node D) (kept : LogState D) (s s' : log.LogSeen) (front : List (List ℕ)) (line : List (ℕ × ℕ)) → is_open kept ≡ is_up x → s' ≡ with_batches s front → lined s.line front ≡ line
      → record (node_of x s) { log = record { batches = s.batches ++ front; line = line } } ≡ node_of (record x { log = kept }) s'
  appended_node x kept s s' front line up is line_is = rw (up, is, line_is) refl

  flushed_node : (x : Node D) (kept : LogState D) (s s' : log.LogSeen) (n : ℕ) → is_open kept ≡ is_up x → s' ≡ settled s s.line → n ≡ end_of_log s.batches
      → record (node_of x s) { flushed_end = n; saved = s.line } ≡ node_of (record x { log = kept }) s'
  flushed_node x kept s s' n up is end = rw (up, is, end) refl

  stopped_node : (x : Node D) (kept : LogState D) (s s' : log.LogSeen) → is_open kept ≡ false → s' ≡ s → seen_partition.stopped (node_of x s) ≡ node_of (record (stopped x) { log = kept }) s'
  stopped_node x kept s s' down is = rw (down, is) refl

  opened_node : (x : Node D) (kept : LogState D) (s s' : log.LogSeen) (back : log.Back) (i : ℕ) → is_open kept ≡ true → s' ≡ opened_log s back i → seen_rows.opened (node_of x s) back i ≡ node_of (record x { log = kept }) s'
  opened_node x kept s s' back i up is = rw (up, is) refl

module _ {D : Type 0} where
  pub dropped_node : (x : Node D) (kept : LogState D) (s s' : log.LogSeen) (start : ℕ) → is_open kept ≡ is_up x → s' ≡ dropped s start
      → record (node_of x s) { local = start; saved = seen_partition.kept_line (node_of x s) } ≡ node_of (record x { log = kept }) s'
  dropped_node x kept s s' start up is = rw (up, is) refl

  -- a log whose end is as it was is up as it was
  pub open_of : (x : Node D) (kept : LogState D) → end_in kept ≡ end_in x.log → is_up x ≡ true → is_open kept ≡ is_up x
  open_of x kept is up = go x.log kept is up
    where
      go : (old new : LogState D) → end_in new ≡ end_in old → is_open old ≡ true → is_open new ≡ is_open old
      go (Up l) (Up m) is up = refl
      go (Up l) (Closed i d) is up = absurd cc
      go (Up l) Away is up = absurd cc
      go (Closed i d) new is up = absurd cc
      go Away new is up = absurd cc

-- what comes back of a log is what is seen to
comes_back : {D : Type 0} (x : Node D) (s s' : log.LogSeen) (n : ℕ) → ComesBackAs n s s' → (back : log.Back) × seen_rows.MayComeBack (node_of x s) back × OpensWith n s s' back
comes_back x s s' n (inl at) = (log.back_of s, inl refl, at)
comes_back x s s' n (inr other) = let back = some_of _ s.loose other in (back.0, inr back.1, back.2)

module _ {D : Type 0} (content : D → Content) (control : D → Control call_code) where
  -- where the log would end
  with_shown : (x : Node D) (s : log.LogSeen) (batch : List ℕ) → is_up x ≡ true → ShowsSeen content x.log s → end_with x batch ≡ seen_log.end_with (node_of x s) batch
  with_shown x s batch up h = ap (λ (n : ℕ). n + last_offset_delta_of batch + 1) (end_shown content x s up h)

  -- a write of what isn't flushed yet failed
  pub unsaved : (h : PartitionState D) (a : seen.SeenPartition) (b : ℕ) (x : Node D) (s : log.LogSeen) (h' : PartitionState D) (R : seen.SeenPartition → Type 0) → Sees content h a b x s → BreaksUnsaved content control h b x h'
      → R (seen_partition.put_node a b (seen_partition.broken (node_of x s) (log.back_of s))) → Refines content h' R
  unsaved h a b x s h' R v k row =
      breaks content control h a b x s (λ s. loosened s (log.back_of s)) h' R (seen_partition.broken (node_of x s) (log.back_of s)) v k (λ kept down. broken_node x kept s (log.back_of s) down) row

  -- a batch at the log's end
  gains_refined : (h : PartitionState D) (a : seen.SeenPartition) (b : ℕ) (x : Node D) (s : log.LogSeen) (placed : List ℕ) (h' : PartitionState D) (R : seen.SeenPartition → Type 0) → Sees content h a b x s → is_up x ≡ true
      → NodeGains content control h b x placed h' → R (seen_partition.put_node a b (record (node_of x s) { log = with_batch (node_of x s).log placed })) → Refines content h' R
  gains_refined h a b x s placed h' R v up k row =
      let kept = k.0 in
      let g = k.3 in
      let t = g.seen s v.shows in
      let whole : g.front ++ g.rest ≡ placed ∷ [] = whole_batch g.front g.rest placed g.bytes g.are k.2 in
      let front : g.front ≡ placed ∷ [] = front_one g.front g.rest placed g.some whole in
      let base : base_of placed ≡ k.1.0 = (subst (λ (l : List (List ℕ)). IsConsecutive k.1.0 l) whole g.consecutive).0 in
      let end : k.1.0 ≡ end_of_log s.batches = sym (end_told content x k.1.0 g.base_is) ∙ end_shown content x s up v.shows in
      let line : lined s.line (placed ∷ []) ≡ entered s.line (epoch_of placed) (end_of_log s.batches) = lined_entered s.line (epoch_of placed) (end_of_log s.batches) placed [] (refl, tt) (base ∙ end) in
      puts content control h a b x s h' R (record x { log = kept }) t.0 (record (node_of x s) { log = with_batch (node_of x s).log placed }) v t.1
      (appended_node x kept s t.0 (placed ∷ []) (entered s.line (epoch_of placed) (end_of_log s.batches)) (up_of_end content kept (k.1.1 + 1) g.end_is ∙ sym up) (t.2 ∙ ap (with_batches s) front) line)
      k.5 row

  pub append_refined : (h : PartitionState D) (a : seen.SeenPartition) (b : ℕ) (x : Node D) (s : log.LogSeen) (batch : List ℕ) (answer : Answer) (h' : PartitionState D) → Sees content h a b x s
      → AppendRow content control h b x batch answer h' → Refines content h' (λ c. seen_log.AppendRow a b (node_of x s) batch answer c)
  append_refined h a b x s batch Down h' v w = stays content control h a h' _ v.partition_state w.1 (w.0, refl)
  append_refined h a b x s batch NotLeader h' v w = stays content control h a h' _ v.partition_state w.2 (w.0, w.1, refl)
  append_refined h a b x s batch LastOffset h' v w =
      stays content control h a h' _ v.partition_state w.3 (w.0, w.1, subst (λ (n : ℕ). offset_limit < n) (with_shown x s batch w.0 v.shows) w.2, refl)
  append_refined h a b x s batch TooManySegments h' v w =
      stays content control h a h' _ v.partition_state w.4 (w.0, w.1, subst (λ (n : ℕ). n ≤ offset_limit) (with_shown x s batch w.0 v.shows) w.2, refl)
  append_refined h a b x s batch DiskFault h' v w =
      unsaved h a b x s h' _ v w.4 (w.0, w.1, subst (λ (n : ℕ). n ≤ offset_limit) (with_shown x s batch w.0 v.shows) w.2, refl)
  append_refined h a b x s batch (OkSpan base last e) h' v w =
      gains_refined h a b x s (stamped batch base e) h' _ v w.0 w.6
      (w.0, w.1, subst (λ (n : ℕ). n ≤ offset_limit) (with_shown x s batch w.0 v.shows) w.2, w.3 ∙ end_shown content x s w.0 v.shows, w.4, refl)
  append_refined h a b x s batch other h' v w = elim w [ ]

  pub raw_refined : (h : PartitionState D) (a : seen.SeenPartition) (b : ℕ) (x : Node D) (s : log.LogSeen) (bytes : List ℕ) (answer : Answer) (h' : PartitionState D) → Sees content h a b x s
      → RawRow content control h b x bytes answer h' → Refines content h' (λ c. seen_log.RawRow a b (node_of x s) bytes answer c)
  raw_refined h a b x s bytes Down h' v w = append_refined h a b x s bytes Down h' v w
  raw_refined h a b x s bytes NotLeader h' v w = append_refined h a b x s bytes NotLeader h' v w
  raw_refined h a b x s bytes (Refused cause) h' v w = stays content control h a h' _ v.partition_state w.3 (w.0, w.1, w.2, refl)
  raw_refined h a b x s bytes LastOffset h' v w =
      refines_more content control h' (λ c. seen_log.AppendRow a b (node_of x s) bytes LastOffset c) _ (λ c r. (w.0, r)) (append_refined h a b x s bytes LastOffset h' v w.1)
  raw_refined h a b x s bytes TooManySegments h' v w =
      refines_more content control h' (λ c. seen_log.AppendRow a b (node_of x s) bytes TooManySegments c) _ (λ c r. (w.0, r)) (append_refined h a b x s bytes TooManySegments h' v w.1)
  raw_refined h a b x s bytes DiskFault h' v w =
      refines_more content control h' (λ c. seen_log.AppendRow a b (node_of x s) bytes DiskFault c) _ (λ c r. (w.0, r)) (append_refined h a b x s bytes DiskFault h' v w.1)
  raw_refined h a b x s bytes (OkSpan base last e) h' v w =
      refines_more content control h' (λ c. seen_log.AppendRow a b (node_of x s) bytes (OkSpan base last e) c) _ (λ c r. (w.0, r)) (append_refined h a b x s bytes (OkSpan base last e) h' v w.1)
  raw_refined h a b x s bytes other h' v w = elim w [ ]

  pub flush_refined : (h : PartitionState D) (a : seen.SeenPartition) (b : ℕ) (x : Node D) (s : log.LogSeen) (answer : Answer) (h' : PartitionState D) → Sees content h a b x s
      → FlushRow content control h b x answer h' → Refines content h' (λ c. seen_log.FlushRow a b (node_of x s) answer c)
  flush_refined h a b x s Down h' v w = stays content control h a h' _ v.partition_state w.1 (w.0, refl)
  flush_refined h a b x s DiskFault h' v w =
      breaks content control h a b x s (λ s. loosened s (end_of_log s.batches, s.line, s.local)) h' _ (seen_partition.broken (node_of x s) (end_of_log s.batches, s.line, s.local)) v w.1
      (λ kept down. broken_node x kept s (end_of_log s.batches, s.line, s.local) down) (w.0, refl)
  flush_refined h a b x s (OkAt n) h' v w =
      let kept = w.1.0 in
      let g = w.1.1 in
      let t = g.seen s v.shows in
      let end : n ≡ end_of_log s.batches = sym (end_told content x n g.base_is) ∙ end_shown content x s w.0 v.shows in
      puts content control h a b x s h' _ (record x { log = kept }) t.0 (record (node_of x s) { flushed_end = n; saved = s.line }) v t.1
      (flushed_node x kept s t.0 n (up_of_end content kept n g.end_is ∙ sym w.0) t.2 end) w.1.3 (w.0, end, refl)
  flush_refined h a b x s other h' v w = elim w [ ]

  pub roll_refined : (h : PartitionState D) (a : seen.SeenPartition) (b : ℕ) (x : Node D) (s : log.LogSeen) (answer : Answer) (h' : PartitionState D) → Sees content h a b x s
      → RollRow content control h b x answer h' → Refines content h' (λ c. seen_log.RollRow a b (node_of x s) answer c)
  roll_refined h a b x s Down h' v w = stays content control h a h' _ v.partition_state w.1 (w.0, refl)
  roll_refined h a b x s EmptySegment h' v w = stays content control h a h' _ v.partition_state w.2 (w.0, refl)
  roll_refined h a b x s TooManySegments h' v w = stays content control h a h' _ v.partition_state w.2 (w.0, refl)
  roll_refined h a b x s DiskFault h' v w = unsaved h a b x s h' _ v w.2 (w.0, refl)
  roll_refined h a b x s (OkAt n) h' v w =
      let r = w.3.1 in
      looks content control h a b x s h' _ v w.3.0 r.up (r.seen s v.shows) w.3.3 (w.0, w.2 ∙ end_shown content x s w.0 v.shows, refl)
  roll_refined h a b x s other h' v w = elim w [ ]

  pub stop_refined : (h : PartitionState D) (a : seen.SeenPartition) (b : ℕ) (x : Node D) (s : log.LogSeen) (answer : Answer) (h' : PartitionState D) → Sees content h a b x s
      → StopRow content control h b x answer h' → Refines content h' (λ c. seen_rows.StopRow a b (node_of x s) answer c)
  stop_refined h a b x s Down h' v w = stays content control h a h' _ v.partition_state w.1 (w.0, refl)
  stop_refined h a b x s Ok h' v w =
      let kept = w.1.0 in
      let t = w.1.1.seen s v.shows in
      puts content control h a b x s h' _ (record (stopped x) { log = kept }) t.0 (seen_partition.stopped (node_of x s)) v t.1 (stopped_node x kept s t.0 w.1.1.down t.2) w.1.3 (w.0, refl)
  stop_refined h a b x s other h' v w = elim w [ ]

  pub up_refined : (h : PartitionState D) (a : seen.SeenPartition) (b : ℕ) (x : Node D) (s : log.LogSeen) (answer : Answer) (h' : PartitionState D) → Sees content h a b x s
      → UpRow content control h b x answer h' → Refines content h' (λ c. seen_rows.UpRow a b (node_of x s) answer c)
  up_refined h a b x s IsUp h' v w = stays content control h a h' _ v.partition_state w.1 (w.0, refl)
  up_refined h a b x s (IsOpen n) h' v w =
      let kept = w.1.0 in
      let t = w.1.1.seen s v.shows in
      let k = comes_back x s t.0 n t.2.0 in
      puts content control h a b x s h' _ (record x { log = kept }) t.0 (seen_rows.opened (node_of x s) k.0 t.0.incarnation) v t.1
      (opened_node x kept s t.0 k.0 t.0.incarnation (up_of_end content kept n w.1.1.end_is) k.2.0) w.1.3
      (w.0, (k.0, t.0.incarnation, k.1, t.2.1, k.2.1, refl))
  up_refined h a b x s DiskFault h' v w = fails content control h a b x s h' _ v w.1 (w.0, refl)
  up_refined h a b x s (Damaged (File name) at) h' v w = absurd (w.1.1.unseen s v.shows)
  up_refined h a b x s LastIncarnation h' v w = rests content control h a b x s h' _ v (w.1.0, w.1.1.stays, w.1.2, w.1.3) (w.0, refl)
  up_refined h a b x s other h' v w = elim w [ ]

  -- what was recorded of a broker
  pub notes_shown : (h : PartitionState D) (a : seen.SeenPartition) (b : ℕ) (x : Node D) (s : log.LogSeen) (g : StartSnapshot) → Sees content h a b x s → is_up x ≡ true → Notes h x g → seen_log.Notes a (node_of x s) g
  notes_shown h a b x s g v up n = record {
    stops = n.stops;
    role = n.role;
    end = n.end ∙ end_shown content x s up v.shows;
    start = n.start ∙ ap (λ (r : Registry). r.start) (sym v.partition_state.registry);
  }

  -- trim

  pub trim_refined : (h : PartitionState D) (a : seen.SeenPartition) (b : ℕ) (x : Node D) (s : log.LogSeen) (turned : Turned) (h' : PartitionState D) → Sees content h a b x s
      → TrimRow content control h x turned h' → Refines content h' (λ c. seen_log.TrimRow a (node_of x s) turned c)
  trim_refined h a b x s (Answers Down) h' v w = stays content control h a h' _ v.partition_state w.1 (w.0, refl)
  trim_refined h a b x s (Begins g) h' v w =
      stays content control h a h' _ v.partition_state w.2 (w.0, notes_shown h a b x s g v w.0 w.1, refl)
  trim_refined h a b x s other h' v w = elim w [ ]

  pub trim_on_refined : (h : PartitionState D) (a : seen.SeenPartition) (b : ℕ) (x : Node D) (s : log.LogSeen) (g : StartSnapshot) (answer : Answer) (h' : PartitionState D) → Sees content h a b x s → (g.stops ≡ x.stops → is_up x ≡ true)
      → TrimOnRow content control h b x g answer h' → Refines content h' (λ c. seen_log.TrimOnRow a b (node_of x s) g answer c)
  trim_on_refined h a b x s g Stopped h' v k w = stays content control h a h' _ v.partition_state w.1 (halted w.0, refl)
    where
      halted : (g.stops ≢ x.stops) ⊎ (is_up x ≡ false) → g.stops ≢ x.stops
      halted (inl differs) = differs
      halted (inr down) = λ same. (let up = k same in absurd cc)
  trim_on_refined h a b x s g Remains h' v k w = stays content control h a h' _ v.partition_state w.1 (w.0, refl)
  trim_on_refined h a b x s g DiskFault h' v k w =
      let q = w.2 in
      let t = q.breaks.seen s v.shows in
      breaks_to content control h a b x s (loosened s (s.flushed_end, kept_line s, t.0)) _ h' _ (seen_partition.broken (node_of x s) (s.flushed_end, kept_line s, t.0)) v q t.3
      (broken_node x q.kept s (s.flushed_end, kept_line s, t.0) q.breaks.down)
      (w.0, w.1, (t.0, record { flushed_end = t.2; ends = t.1 }, refl))
  trim_on_refined h a b x s g (Dropped base last) h' v k w =
      let kept = w.2.0 in
      let d = w.2.1 in
      let t = d.seen s v.shows in
      let e = d.ends s v.shows in
      puts content control h a b x s h' _ (record x { log = kept }) t.0 (record (node_of x s) { local = last + 1; saved = seen_partition.kept_line (node_of x s) }) v t.1
      (dropped_node x kept s t.0 (last + 1) (open_of x kept d.end_is w.1) t.2) w.2.3
      (w.0, w.1, e.0, record { flushed_end = e.2; ends = e.1 }, refl)
  trim_on_refined h a b x s g other h' v k w = elim w [ ]
