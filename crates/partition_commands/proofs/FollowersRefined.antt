-- The turns of a follower's commands are rows of what is seen.
use Rattle.std.proofs.Common.{◌≡◌, ◌≢◌, ◌⊎◌, inl, inr, ◌∙◌, sym, ap, subst, refl, ℕ, ◌+◌, ◌^◌, ◌<◌, ◌≤◌, min, List, [], ◌∷◌, ◌++◌, length, Some, None, Option, IsSomeAnd, IsOk, true, false, ◌&&◌, slice_get, arith}
use Rattle.std.specs.Prelude.{unwrap_or}
use mathlib.Core.List.{IsPrefix}
use Rattle.std.specs.Option.{option_and_then}
use Rattle.std.specs.List.{All, AllByRecursion}
use Rattle.std.proofs.lemmas.List.Elements.{recursion_from_All}
use Rattle.tier_base.specs.Device.{Control}
use Rattle.tier_base.specs.declared.plain.Stop.{Stop}
use Rattle.disk_model.specs.Call.{call_code}
use Rattle.disk_model.specs.Content.{Content}
use Rattle.log_terms.specs.Batch.{epoch_of, last_of}
use Rattle.log_terms.specs.Log.{IsConsecutive, EndsAt, joined, up_to, end_from, end_of as end_of_log}
use Rattle.log_terms.specs.Line.{line_of as epochs_of}
use Rattle.log_terms.proofs.Lists.{and_then_some, prefix_trans}
use Rattle.laws_partition.proofs.Lines.{own_cut}
use Rattle.log_terms.proofs.Logs.{end_above, ends_at_end, up_to_is}
use Rattle.epoch_line.specs.Line.{last_epoch, cut_end}
use Rattle.epoch_line.specs.Meet.{IsMeetBelow}
use Rattle.record_batch.specs.Check.{checked}
use Rattle.record_batch.proofs.Passing.{checked_long}
use Rattle.registry.specs.declared.registry.Registry.{Registry}
use Rattle.registry.specs.Calls.{when}
use Rattle.segment_file.specs.Segment.{EpochsRise}
use Rattle.local_log.specs.Run.{lined}
use Rattle.local_log.proofs.Heads.{last_front}
use Rattle.plain_log.specs.declared.answer.Answer.{Answer}
use Rattle.plain_log.specs.declared.answer.Answer.TheVariants.{Down, NotFollower, StaleEpoch, NoLeader, Cut, NotJoined, Level, Moved, Stopped, Passed, BelowStart, Rebuilt, Copied, TooManySegments, DiskFault, DiskFaultAt, Damaged}
use Rattle.plain_log.specs.declared.answer.Place.TheVariants.{File}
use Rattle.plain_log.specs.declared.state.Role.TheVariants.{Joined}
use Rattle.plain_log.specs.State.{followed, joined as joined_role, leads_in}
use Rattle.plain_log.proofs.Options.{when_some, both}
use Rattle.broker_log.specs.Seen.{LogState, ShowsSeen, is_up as is_open}
use Rattle.broker_log.specs.Seen as log
use Rattle.broker_log.specs.Effects.{LeadsTo, with_batches, cut_to, cut_back, MayCutLog, restarted, unbuilt}
use Rattle.laws_partition.specs.declared.start_snapshot.StartSnapshot.{StartSnapshot}
use Rattle.laws_partition.specs.declared.start_snapshot.Turned.{Turned}
use Rattle.laws_partition.specs.declared.start_snapshot.Turned.TheVariants.{Answers, Begins}
use Rattle.laws_partition.specs.Seen as seen
use Rattle.laws_partition.specs.Partition as seen_partition
use Rattle.laws_partition.specs.Log.{IsRunOf, MayTakeEpoch, entered, epoch_in}
use Rattle.laws_partition.specs.RowsOfFollowers as seen_rows
use Rattle.laws_partition.specs.Sound as seen_sound
use Rattle.laws_partition.specs.Taken.{parts}
use Rattle.laws_partition.proofs.BoolTests.{some_of, when_true}
use Rattle.laws_partition.proofs.Parts.{parts_joined}
use Rattle.partition_commands.specs.declared.partition_state.Node.{Node}
use Rattle.partition_commands.specs.declared.partition_state.PartitionState.{PartitionState}
use Rattle.partition_commands.specs.Partition.{is_up, end_of, line_of, the_leader, stopped, node_of, ShowsPartition}
use Rattle.partition_commands.specs.TurnsOfFollowers.{IsStale, IsCurrent, IsMeet, CanExtend, MayRebuild, JoinRow, JoinOnRow, FollowRow, Extends, FollowOnRow}
use Rattle.partition_commands.proofs.Fronts.{each_all, all_each, come_apart, lined_entered}
use Rattle.partition_commands.proofs.RunsShown.{run_shown}
use Rattle.partition_commands.proofs.OwnRefined.{unsaved}
use Rattle.partition_commands.specs.Shown.{Sees, Refines, AreSound, IsFollowSnapshot, IsRebuilding}
use Rattle.partition_commands.proofs.Shown.{some_at, sees_at, shown_none, shown_leader, stays, puts, rests, fails, breaks_to, torn_node, end_shown, end_told, line_shown, local_shown, up_of_end}

-- where the logs meet is an end of the follower's log
abbrev pub MeetsEnd : seen.SeenPartition → seen.Node → Type 0
MeetsEnd a x = (y : seen.Node) (m : ℕ) → seen_partition.the_leader a ≡ Some y → seen_rows.IsMeet x y m → EndsAt m x.log.batches

-- a line of batches has no entry past their end
line_same : (line : List (ℕ × ℕ)) (whole : List (List ℕ)) (n : ℕ) → line ≡ epochs_of whole → IsConsecutive 0 whole → end_of_log whole ≡ n → cut_end line (n + 1) ≡ epochs_of whole
line_same line whole n is c end =
    ap (λ (l : List (ℕ × ℕ)). cut_end l (n + 1)) is ∙ (ap (λ (m : ℕ). cut_end (epochs_of whole) (m + 1)) (sym end) ∙ own_cut whole c)

meet_same : (own mine other theirs : List (ℕ × ℕ)) (n m k l limit : ℕ) → own ≡ mine → other ≡ theirs → n ≡ m → k ≡ l → IsMeetBelow own other (min n k) limit → IsMeetBelow mine theirs (min m l) limit
meet_same own mine other theirs n m k l limit a b c d h = rw (sym a, sym b, sym c, sym d) h

-- the first of batches that rise from an epoch
record First (line : List (ℕ × ℕ)) (batches : List (List ℕ)) : Type 0 where
  epoch : ℕ
  first : epoch_in batches ≡ Some epoch
  may : MayTakeEpoch line epoch
  fits : epoch < 2 ^ 31

last_or : (line : List (ℕ × ℕ)) (e : ℕ) → unwrap_or (last_epoch line) 0 ≤ e → MayTakeEpoch line e
last_or line e le = λ last is. (let same : unwrap_or (last_epoch line) 0 ≡ last = ap (λ (o : Option ℕ). unwrap_or o 0) is in omega (arith, le, same))

or_last : (line : List (ℕ × ℕ)) (e : ℕ) → MayTakeEpoch line e → unwrap_or (last_epoch line) 0 ≤ e
or_last line e may = go (last_epoch line) refl
  where
    go : (o : Option ℕ) → last_epoch line ≡ o → unwrap_or o 0 ≤ e
    go None is = omega arith
    go (Some last) is = may last is

first_of_run : (line : List (ℕ × ℕ)) (batches : List (List ℕ)) → batches ≢ [] → EpochsRise (unwrap_or (last_epoch line) 0) batches → First line batches
first_of_run line [] some rise = absurd (some refl)
first_of_run line (batch ∷ batches) some rise = record { epoch = epoch_of batch; first = refl; may = last_or line (epoch_of batch) rise.0; fits = rise.1 }

-- batches of one epoch rise
rise_same : (u e : ℕ) (batches : List (List ℕ)) → AllByRecursion (λ batch. Some (epoch_of batch) ≡ Some e) batches → u ≤ e → e < 2 ^ 31 → EpochsRise u batches
rise_same u e [] all le fits = tt
rise_same u e (batch ∷ batches) all le fits =
    let is : epoch_of batch ≡ e = (let one = all.0 in cc) in
    (omega (arith, is, le), omega (arith, is, fits), rise_same (epoch_of batch) e batches all.1 (omega (arith, is)) fits)

-- the first of batches ends below a limit that they end at or below
first_low : (n : ℕ) (batches : List (List ℕ)) → batches ≢ [] → AllByRecursion (λ (batch : List ℕ). IsOk (checked batch)) batches → IsConsecutive n batches → end_from n batches ≤ 4611686018427387904
    → last_of (joined batches) < 2 ^ 62
first_low n [] some are c small = absurd (some refl)
first_low n (batch ∷ batches) some are c small =
    let same = last_front batch (joined batches) (checked_long batch are.0) in
    let above = end_above (last_of batch + 1) batches c.1 in
    omega (arith, same, above, small)

module _ {D : Type 0} where
  joined_node : (x : Node D) (kept : LogState D) (s s' : log.LogSeen) (e n met : ℕ) → is_open kept ≡ is_up x → s' ≡ cut_to s met → n ≡ end_of_log (up_to met s.batches)
      → seen_rows.cut_node (node_of x s) e met ≡ node_of (record x { role = Joined e; log = kept; known_high_watermark = min x.known_high_watermark n }) s'
  joined_node x kept s s' e n met up is end = rw (up, is) (ap (λ (k : ℕ). record (node_of x s) {
    role = Joined e;
    log = record { batches = up_to met s.batches; line = cut_end s.line (end_of_log (up_to met s.batches)) };
    flushed_end = end_of_log (up_to met s.batches);
    known_high_watermark = min x.known_high_watermark k;
    saved = cut_end s.line (end_of_log (up_to met s.batches));
    local = min s.local (end_of_log (up_to met s.batches));
  }) (sym end))

  rebuilt_node : (x : Node D) (kept : LogState D) (s : log.LogSeen) (whole : List (List ℕ)) (line : List (ℕ × ℕ)) (m : ℕ) → is_open kept ≡ is_up x → line ≡ epochs_of whole
      → seen_rows.rebuilt (node_of x s) whole m ≡ node_of (record x { log = kept }) (restarted s whole line m)
  rebuilt_node x kept s whole line m up is = rw (up, is) refl

  unbuilt_node : (x : Node D) (kept : LogState D) (s : log.LogSeen) (whole : List (List ℕ)) (line : List (ℕ × ℕ)) (m : ℕ) → is_open kept ≡ false → line ≡ epochs_of whole
      → seen_rows.unbuilt (node_of x s) whole m ≡ node_of (record (stopped x) { log = kept }) (unbuilt s whole line m)
  unbuilt_node x kept s whole line m down is = rw (down, is) refl

  extended_node : (x : Node D) (kept : LogState D) (s s' : log.LogSeen) (front : List (List ℕ)) (e : ℕ) → is_open kept ≡ is_up x → s' ≡ with_batches s front → lined s.line front ≡ entered s.line e (end_of_log s.batches)
      → seen_rows.extended (node_of x s) front e ≡ node_of (record x { log = kept }) s'
  extended_node x kept s s' front e up is line = rw (up, is, line) refl

module _ {D : Type 0} (content : D → Content) (control : D → Control call_code) where
  -- the leader, and how it is seen
  record SeesLeader (h : PartitionState D) (a : seen.SeenPartition) (y : Node D) : Type 0 where
    log_seen : log.LogSeen
    sees : Sees content h a h.registry.leader.0 y log_seen
    up : is_up y ≡ true
    is : seen_partition.the_leader a ≡ Some (node_of y log_seen)

  sees_leader : (h : PartitionState D) (a : seen.SeenPartition) (y : Node D) → ShowsPartition content h a → the_leader h ≡ Some y → SeesLeader h a y
  sees_leader h a y partition_state is =
      let one = and_then_some (λ y. when (is_up y && leads_in h.registry.epoch y.role) y) (slice_get h.nodes h.registry.leader.0) y is in
      let w = when_some (is_up one.0 && leads_in h.registry.epoch one.0.role) one.0 y one.2 in
      let test : is_up y && leads_in h.registry.epoch y.role ≡ true = subst (λ (z : Node D). is_up z && leads_in h.registry.epoch z.role ≡ true) w.1 w.0 in
      let at : slice_get h.nodes h.registry.leader.0 ≡ Some y = one.1 ∙ ap (λ (z : Node D). Some z) w.1 in
      let v = sees_at content control h a h.registry.leader.0 y partition_state at in
      record {
        log_seen = v.0;
        sees = v.1;
        up = (both (is_up y) (leads_in h.registry.epoch y.role) test).0;
        is = ap (λ (r : Registry). option_and_then (λ (z : seen.Node). when (z.up && leads_in r.epoch z.role) z) (slice_get a.nodes r.leader.0)) partition_state.registry
            ∙ (ap (option_and_then (λ (z : seen.Node). when (z.up && leads_in h.registry.epoch z.role) z)) v.1.there
            ∙ when_true (is_up y && leads_in h.registry.epoch y.role) (node_of y v.0) test);
      }

  stale_shown : (h : PartitionState D) (a : seen.SeenPartition) (e : Option ℕ) → ShowsPartition content h a → IsStale h e → seen_rows.IsStale a e
  stale_shown h a e partition_state k = subst (λ (r : Registry). IsSomeAnd e (λ e. e < r.epoch)) (sym partition_state.registry) k

  unstale_shown : (h : PartitionState D) (a : seen.SeenPartition) (e : Option ℕ) → ShowsPartition content h a → (IsStale h e → ⊥) → seen_rows.IsStale a e → ⊥
  unstale_shown h a e partition_state k m = k (subst (λ (r : Registry). IsSomeAnd e (λ e. e < r.epoch)) partition_state.registry m)

  current_shown : (h : PartitionState D) (a : seen.SeenPartition) (e : Option ℕ) → ShowsPartition content h a → IsCurrent h e → seen_rows.IsCurrent a e
  current_shown h a e partition_state k = subst (λ (r : Registry). IsSomeAnd e (λ e. r.epoch ≤ e)) (sym partition_state.registry) k

  epoch_shown : (h : PartitionState D) (a : seen.SeenPartition) (n : ℕ) → ShowsPartition content h a → n ≡ h.registry.epoch → n ≡ a.registry.epoch
  epoch_shown h a n partition_state is = is ∙ ap (λ (r : Registry). r.epoch) (sym partition_state.registry)

  leaderless : (h : PartitionState D) (a : seen.SeenPartition) → ShowsPartition content h a → the_leader h ≡ None → seen_partition.the_leader a ≡ None
  leaderless h a partition_state is = shown_none content (the_leader h) (seen_partition.the_leader a) (shown_leader content h a partition_state) is

  -- join

  rebuild_shown : (h : PartitionState D) (a : seen.SeenPartition) (b : ℕ) (x : Node D) (s : log.LogSeen) (g : StartSnapshot) → Sees content h a b x s → MayRebuild h x g → seen_rows.MayRebuild a (node_of x s) g
  rebuild_shown h a b x s g v w =
      ((w.0.0, unstale_shown h a (followed g.role) v.partition_state w.0.2), (w.1.0 ∙ end_shown content x s w.0.1 v.shows, w.1.1), λ k. w.2 (k.0, subst (λ (r : Registry). g.wanted ≤ r.start) v.partition_state.registry k.1))

  -- batches that the log begins have what is flushed of it
  flushed_end_same : (x : Node D) (s : log.LogSeen) (m : ℕ) (whole : List (List ℕ)) → seen_sound.NodeSound (node_of x s) → LeadsTo whole m → IsPrefix s.batches whole → up_to s.flushed_end whole ≡ up_to s.flushed_end s.batches
  flushed_end_same x s m whole n is begins =
      let ends = n.flushed_end in
      up_to_is 0 s.flushed_end ends.0 whole is.consecutive (prefix_trans ends.0 s.batches whole ends.1 begins) ends.2
      ∙ sym (up_to_is 0 s.flushed_end ends.0 s.batches n.log.consecutive ends.1 ends.2)

  -- where the logs meet, as it is seen
  meets : (h : PartitionState D) (a : seen.SeenPartition) (b : ℕ) (x y : Node D) (s : log.LogSeen) (met : ℕ) → Sees content h a b x s → is_up x ≡ true → (l : SeesLeader h a y) → IsMeet x y met → seen_rows.IsMeet (node_of x s) (node_of y l.log_seen) met
  meets h a b x y s met v up l is =
      meet_same (line_of x) s.line (line_of y) l.log_seen.line (end_of x) (end_of_log s.batches) (end_of y) (end_of_log l.log_seen.batches) met (line_shown content x s up v.shows)
      (line_shown content y l.log_seen l.up l.sees.shows) (end_shown content x s up v.shows) (end_shown content y l.log_seen l.up l.sees.shows) is

  pub join_refined : (h : PartitionState D) (a : seen.SeenPartition) (b : ℕ) (x : Node D) (s : log.LogSeen) (turned : Turned) (h' : PartitionState D) → Sees content h a b x s → MeetsEnd a (node_of x s)
      → JoinRow content control h b x turned h' → Refines content h' (λ c. seen_rows.JoinRow a b (node_of x s) turned c)
  join_refined h a b x s (Answers Down) h' v k w = stays content control h a h' _ v.partition_state w.1 (w.0, refl)
  join_refined h a b x s (Answers NotFollower) h' v k w = stays content control h a h' _ v.partition_state w.2 (w.0, w.1, refl)
  join_refined h a b x s (Answers (StaleEpoch n)) h' v k w =
      stays content control h a h' _ v.partition_state w.3 (w.0, stale_shown h a (followed x.role) v.partition_state w.1, epoch_shown h a n v.partition_state w.2, refl)
  join_refined h a b x s (Answers NoLeader) h' v k w =
      stays content control h a h' _ v.partition_state w.3 (w.0, current_shown h a (followed x.role) v.partition_state w.1, leaderless h a v.partition_state w.2, refl)
  join_refined h a b x s (Answers (Cut n)) h' v k w =
      let y = some_of _ (the_leader h) w.2 in
      let l = sees_leader h a y.0 v.partition_state y.1 in
      let e = y.2.0 in
      let met = y.2.1 in
      let g = y.2.5 in
      let meet = meets h a b x y.0 s met v w.0 l y.2.3 in
      let t = g.cuts.seen s v.shows (inr (k (node_of y.0 l.log_seen) met l.is meet)) in
      let end : n ≡ end_of_log (up_to met s.batches) = t.2.1 in
      let low : l.log_seen.local ≤ n = subst (λ (m : ℕ). m ≤ n) (local_shown content y.0 l.log_seen l.up l.sees.shows) y.2.4 in
      puts content control h a b x s h' _ (record x { role = Joined e; log = g.kept; known_high_watermark = min x.known_high_watermark n }) t.0 (seen_rows.cut_node (node_of x s) e met) v t.1
      (joined_node x g.kept s t.0 e n met (up_of_end content g.kept n g.cuts.end_is ∙ sym w.0) t.2.0 end) g.after (
        w.0,
        current_shown h a (followed x.role) v.partition_state w.1,
        some_at (λ (z : seen.Node). (e m : ℕ) × (followed x.role ≡ Some e) × seen_rows.IsMeet (node_of x s) z m × (n ≡ end_of_log (up_to m s.batches)) × (z.local ≤ n)
            × (seen_partition.put_node a b (seen_rows.cut_node (node_of x s) y.2.0 met) ≡ seen_partition.put_node a b (seen_rows.cut_node (node_of x s) e m)))
            (seen_partition.the_leader a) (node_of y.0 l.log_seen) l.is (e, met, y.2.2, meet, end, low, refl),
      )
  join_refined h a b x s (Answers (DiskFaultAt n)) h' v k w =
      let y = some_of _ (the_leader h) w.2 in
      let l = sees_leader h a y.0 v.partition_state y.1 in
      let e = y.2.0 in
      let met = y.2.1 in
      let meet = meets h a b x y.0 s met v w.0 l y.2.3 in
      let may : MayCutLog met s = inr (k (node_of y.0 l.log_seen) met l.is meet) in
      let end : n ≡ end_of_log (up_to met s.batches) = y.2.4.0.is s v.shows may in
      let q = y.2.4.1 in
      let t = q.breaks.seen s v.shows may in
      breaks_to content control h a b x s t.0 _ h' _ (seen_partition.torn (node_of x s) (seen_rows.cut_back (node_of x s) met)) v q t.1
      (torn_node x q.kept s (cut_back s met) q.breaks.down ∙ ap (node_of (record (stopped x) { log = q.kept })) (sym t.2)) (
        w.0,
        current_shown h a (followed x.role) v.partition_state w.1,
        some_at (λ (z : seen.Node). (e m : ℕ) × (followed x.role ≡ Some e) × seen_rows.IsMeet (node_of x s) z m × (n ≡ end_of_log (up_to m s.batches))
            × (seen_partition.put_node a b (seen_partition.torn (node_of x s) (seen_rows.cut_back (node_of x s) met))
            ≡ seen_partition.put_node a b (seen_partition.torn (node_of x s) (seen_rows.cut_back (node_of x s) m))))
            (seen_partition.the_leader a) (node_of y.0 l.log_seen) l.is (e, met, y.2.2, meet, end, refl),
      )
  join_refined h a b x s (Begins g) h' v k w =
      let y = some_of _ (the_leader h) w.2 in
      let l = sees_leader h a y.0 v.partition_state y.1 in
      let e = y.2.0 in
      let met = y.2.1 in
      let q = y.2.4 in
      let meet = meets h a b x y.0 s met v w.0 l y.2.3 in
      let t = q.cuts.cuts.seen s v.shows (inr (k (node_of y.0 l.log_seen) met l.is meet)) in
      let end : g.end ≡ end_of_log (up_to met s.batches) = t.2.1 in
      let line = line_shown content y.0 l.log_seen l.up l.sees.shows in
      puts content control h a b x s h' _ (record x { role = Joined e; log = q.cuts.kept; known_high_watermark = min x.known_high_watermark g.end }) t.0 (seen_rows.cut_node (node_of x s) e met) v t.1
      (joined_node x q.cuts.kept s t.0 e g.end met (up_of_end content q.cuts.kept g.end q.cuts.cuts.end_is ∙ sym w.0) t.2.0 end) q.cuts.after (
        w.0,
        current_shown h a (followed x.role) v.partition_state w.1,
        some_at (λ (z : seen.Node). (e m : ℕ) × (followed x.role ≡ Some e) × seen_rows.IsMeet (node_of x s) z m × seen_rows.Wants a (seen_rows.cut_node (node_of x s) e m) z g
            × (seen_partition.put_node a b (seen_rows.cut_node (node_of x s) y.2.0 met) ≡ seen_partition.put_node a b (seen_rows.cut_node (node_of x s) e m)))
            (seen_partition.the_leader a) (node_of y.0 l.log_seen) l.is (
              e,
              met,
              y.2.2,
              meet,
              record {
                stops = q.stops;
                role = q.role;
                end = end;
                start = q.start ∙ ap (λ (r : Registry). r.start) (sym v.partition_state.registry);
                wanted = q.wanted ∙ local_shown content y.0 l.log_seen l.up l.sees.shows;
                line = q.line ∙ ap (λ (k : List (ℕ × ℕ)). cut_end k g.wanted) line;
                above = q.above;
              },
              refl,
            ),
      )
  join_refined h a b x s other h' v k w = elim w [ ]

  -- join continues

  pub join_on_refined : (h : PartitionState D) (a : seen.SeenPartition) (b : ℕ) (x : Node D) (s : log.LogSeen) (g : StartSnapshot) (answer : Answer) (h' : PartitionState D) → Sees content h a b x s → seen_sound.NodeSound (node_of x s)
      → IsRebuilding a (node_of x s) g → JoinOnRow content control h b x g answer h' → Refines content h' (λ c. seen_rows.JoinOnRow a b (node_of x s) g answer c)
  join_on_refined h a b x s g Stopped h' v n k w = stays content control h a h' _ v.partition_state w.1 (halted w.0, refl)
    where
      halted : (g.stops ≢ x.stops) ⊎ (is_up x ≡ false) → g.stops ≢ x.stops
      halted (inl differs) = differs
      halted (inr down) = λ same. (let up = k.recorded same in absurd cc)
  join_on_refined h a b x s g (StaleEpoch m) h' v n k w =
      stays content control h a h' _ v.partition_state w.3 (w.0, stale_shown h a (followed g.role) v.partition_state w.1, epoch_shown h a m v.partition_state w.2, refl)
  join_on_refined h a b x s g (Passed m) h' v n k w =
      stays content control h a h' _ v.partition_state w.3 ((w.0.0, unstale_shown h a (followed g.role) v.partition_state w.0.2), w.1 ∙ end_shown content x s w.0.1 v.shows, λ k. w.2 (k.0 ∙ sym (end_shown content x s w.0.1 v.shows), k.1), refl)
  join_on_refined h a b x s g (BelowStart start) h' v n k w =
      stays content control h a h' _ v.partition_state w.5
      ((w.0.0, unstale_shown h a (followed g.role) v.partition_state w.0.2), (w.1.0 ∙ end_shown content x s w.0.1 v.shows, w.1.1), w.2 ∙ ap (λ (r : Registry). r.start) (sym v.partition_state.registry), w.3, w.4, refl)
  join_on_refined h a b x s g (DiskFaultAt m) h' v n k w =
      let may = rebuild_shown h a b x s g v w.0 in
      let y = k.leader in
      let way = k.way may.0 may.1.0 y.0 y.1 in
      let whole = up_to m y.0.log.batches in
      let is : LeadsTo whole m = subst (λ (i : ℕ). LeadsTo (up_to i y.0.log.batches) i) (sym w.1) way.leads in
      let line = line_same g.line whole m (subst (λ (i : ℕ). g.line ≡ epochs_of (up_to i y.0.log.batches)) (sym w.1) way.line) is.consecutive is.ends in
      let begins : IsPrefix s.batches whole = subst (λ (i : ℕ). IsPrefix s.batches (up_to i y.0.log.batches)) (sym w.1) way.begins in
      let q = w.2 in
      let shows = q.breaks.seen s v.shows whole is (flushed_end_same x s m whole n is begins) in
      breaks_to content control h a b x s (unbuilt s whole (cut_end g.line (m + 1)) m) _ h' _ (seen_rows.unbuilt (node_of x s) whole m) v q shows (unbuilt_node x q.kept s whole (cut_end g.line (m + 1)) m q.breaks.down line) (
        may,
        w.1,
        some_at (λ (z : seen.Node). seen_partition.put_node a b (seen_rows.unbuilt (node_of x s) whole m) ≡ seen_partition.put_node a b (seen_rows.unbuilt (node_of x s) (up_to m z.log.batches) m))
            (slice_get a.nodes a.registry.leader.0) y.0 y.1 refl,
      )
  join_on_refined h a b x s g (Rebuilt m) h' v n k w =
      let may = rebuild_shown h a b x s g v w.0 in
      let y = k.leader in
      let way = k.way may.0 may.1.0 y.0 y.1 in
      let whole = up_to m y.0.log.batches in
      let is : LeadsTo whole m = subst (λ (i : ℕ). LeadsTo (up_to i y.0.log.batches) i) (sym w.1) way.leads in
      let line = line_same g.line whole m (subst (λ (i : ℕ). g.line ≡ epochs_of (up_to i y.0.log.batches)) (sym w.1) way.line) is.consecutive is.ends in
      let q = w.2 in
      let shows = q.restarts.seen s v.shows whole is in
      puts content control h a b x s h' _ (record x { log = q.kept }) (restarted s whole (cut_end g.line (m + 1)) m) (seen_rows.rebuilt (node_of x s) whole m) v shows
      (rebuilt_node x q.kept s whole (cut_end g.line (m + 1)) m (up_of_end content q.kept m q.restarts.end_is ∙ sym w.0.0.1) line) q.after (
        may,
        w.1,
        some_at (λ (z : seen.Node). seen_partition.put_node a b (seen_rows.rebuilt (node_of x s) whole m) ≡ seen_partition.put_node a b (seen_rows.rebuilt (node_of x s) (up_to m z.log.batches) m))
            (slice_get a.nodes a.registry.leader.0) y.0 y.1 refl,
      )
  join_on_refined h a b x s g other h' v n k w = elim w [ ]

  -- follow

  taken_shown : (g : StartSnapshot) (bytes : List ℕ) (run : List (List ℕ)) → g.batches ≡ parts bytes → bytes ≡ joined run → All (λ (batch : List ℕ). IsOk (checked batch)) run → run ≡ g.batches
  taken_shown g bytes run is spelled are = sym (is ∙ (ap parts spelled ∙ parts_joined run are))

  are_same : (run taken : List (List ℕ)) → run ≡ taken → All (λ (batch : List ℕ). IsOk (checked batch)) run → All (λ (batch : List ℕ). IsOk (checked batch)) taken
  are_same run taken same are = subst (λ (k : List (List ℕ)). All (λ (batch : List ℕ). IsOk (checked batch)) k) same are

  run_same : (batches : List (List ℕ)) (offset limit n m : ℕ) (stop : Stop) (run taken : List (List ℕ)) → n ≡ m → run ≡ taken → IsRunOf batches offset limit n stop run → IsRunOf batches offset limit m stop taken
  run_same batches offset limit n m stop run taken bound same is =
      subst (λ (k : List (List ℕ)). IsRunOf batches offset limit m stop k) same (subst (λ (k : ℕ). IsRunOf batches offset limit k stop run) bound is)

  pub follow_refined : (h : PartitionState D) (a : seen.SeenPartition) (b : ℕ) (x : Node D) (s : log.LogSeen) (limit : ℕ) (turned : Turned) (h' : PartitionState D) → Sees content h a b x s → AreSound a
      → FollowRow content control h b x limit turned h' → Refines content h' (λ c. seen_rows.FollowRow a b (node_of x s) limit turned c)
  follow_refined h a b x s limit (Answers Down) h' v k w = stays content control h a h' _ v.partition_state w.1 (w.0, refl)
  follow_refined h a b x s limit (Answers NotJoined) h' v k w = stays content control h a h' _ v.partition_state w.2 (w.0, w.1, refl)
  follow_refined h a b x s limit (Answers (StaleEpoch n)) h' v k w =
      stays content control h a h' _ v.partition_state w.3 (w.0, stale_shown h a (joined_role x.role) v.partition_state w.1, epoch_shown h a n v.partition_state w.2, refl)
  follow_refined h a b x s limit (Answers NoLeader) h' v k w =
      stays content control h a h' _ v.partition_state w.3 (w.0, current_shown h a (joined_role x.role) v.partition_state w.1, leaderless h a v.partition_state w.2, refl)
  follow_refined h a b x s limit (Answers Level) h' v k w =
      let y = some_of _ (the_leader h) w.2 in
      let l = sees_leader h a y.0 v.partition_state y.1 in
      let level : end_of_log l.log_seen.batches ≤ end_of_log s.batches =
      (let low = y.2 in omega (arith, low, end_shown content x s w.0 v.shows, end_shown content y.0 l.log_seen l.up l.sees.shows)) in
      stays content control h a h' _ v.partition_state w.3 (
        w.0,
        current_shown h a (joined_role x.role) v.partition_state w.1,
        some_at (λ (z : seen.Node). end_of_log z.log.batches ≤ end_of_log s.batches) (seen_partition.the_leader a) (node_of y.0 l.log_seen) l.is level,
        refl,
      )
  follow_refined h a b x s limit (Answers (Moved n)) h' v k w =
      let y = some_of _ (the_leader h) w.2 in
      let l = sees_leader h a y.0 v.partition_state y.1 in
      let own = end_shown content x s w.0 v.shows in
      let end = end_shown content y.0 l.log_seen l.up l.sees.shows in
      let local = local_shown content y.0 l.log_seen l.up l.sees.shows in
      stays content control h a h' _ v.partition_state w.3 (
        w.0,
        current_shown h a (joined_role x.role) v.partition_state w.1,
        some_at (λ (z : seen.Node). (end_of_log s.batches < end_of_log z.log.batches) × (end_of_log s.batches < z.local) × (n ≡ z.local)) (seen_partition.the_leader a) (node_of y.0 l.log_seen) l.is
            ((let low = y.2.0 in omega (arith, low, own, end)), (let low = y.2.1 in omega (arith, low, own, local)), y.2.2 ∙ local),
        refl,
      )
  follow_refined h a b x s limit (Answers DiskFault) h' v k w =
      let y = some_of _ (the_leader h) w.2 in
      let l = sees_leader h a y.0 v.partition_state y.1 in
      let own = end_shown content x s w.0 v.shows in
      let end = end_shown content y.0 l.log_seen l.up l.sees.shows in
      let over : end_of_log s.batches < end_of_log l.log_seen.batches = (let low = y.2.0 in omega (arith, low, own, end)) in
      let from : l.log_seen.local ≤ end_of_log s.batches = (let le = y.2.1 in let local = local_shown content y.0 l.log_seen l.up l.sees.shows in omega (arith, le, own, local)) in
      fails content control h a h.registry.leader.0 y.0 l.log_seen h' _ l.sees y.2.2 (
        w.0,
        current_shown h a (joined_role x.role) v.partition_state w.1,
        some_at (λ (z : seen.Node). (end_of_log s.batches < end_of_log z.log.batches) × (z.local ≤ end_of_log s.batches)) (seen_partition.the_leader a) (node_of y.0 l.log_seen) l.is (over, from),
        refl,
      )
  follow_refined h a b x s limit (Answers (Damaged (File name) at)) h' v k w =
      let y = some_of _ (the_leader h) w.2 in
      let l = sees_leader h a y.0 v.partition_state y.1 in
      absurd (y.2.2.misreads.unmarked l.log_seen l.sees.shows (subst (λ (n : ℕ). EndsAt n l.log_seen.batches) (sym (end_shown content y.0 l.log_seen l.up l.sees.shows)) (ends_at_end l.log_seen.batches)))
  follow_refined h a b x s limit (Begins g) h' v k w =
      let y = some_of _ (the_leader h) w.2 in
      let l = sees_leader h a y.0 v.partition_state y.1 in
      let q = y.2.2 in
      let own = end_shown content x s w.0 v.shows in
      let end = end_shown content y.0 l.log_seen l.up l.sees.shows in
      let r = q.reads.run l.log_seen l.sees.shows (subst (λ (n : ℕ). EndsAt n l.log_seen.batches) (sym end) (ends_at_end l.log_seen.batches)) in
      let sound = k h.registry.leader.0 (node_of y.0 l.log_seen) l.sees.there in
      let run = run_shown y.0.log l.log_seen g.end limit (end_of y.0) q.out sound.log.consecutive sound.log.line_is r in
      let are = each_all (λ (batch : List ℕ). IsOk (checked batch)) r.run r.are in
      let same : r.run ≡ g.batches = taken_shown g q.out.bytes r.run q.batches r.bytes are in
      let over : end_of_log s.batches < end_of_log l.log_seen.batches = (let low = y.2.0 in omega (arith, low, own, end)) in
      rests content control h a h.registry.leader.0 y.0 l.log_seen h' _ l.sees (q.kept, q.reads.stays, q.quiet, q.after) (
        w.0,
        current_shown h a (joined_role x.role) v.partition_state w.1,
        some_at (λ (z : seen.Node). (end_of_log s.batches < end_of_log z.log.batches) × (z.local ≤ end_of_log s.batches) × seen_rows.Takes a (node_of x s) z limit g) (seen_partition.the_leader a) (node_of y.0 l.log_seen) l.is (
          over,
          (let le = y.2.1 in let local = local_shown content y.0 l.log_seen l.up l.sees.shows in omega (arith, le, own, local)),
          record {
            stops = q.stops;
            role = q.role;
            end = q.end ∙ own;
            start = q.start ∙ ap (λ (r : Registry). r.start) (sym v.partition_state.registry);
            are = are_same r.run g.batches same are;
            stop = q.out.stop;
            run = run_same l.log_seen.batches g.end limit (end_of y.0) (end_of_log l.log_seen.batches) q.out.stop r.run g.batches end same run;
          },
        ),
        refl,
      )
  follow_refined h a b x s limit other h' v k w = elim w [ ]

  -- follow continues

  extend_shown : (x : Node D) (s : log.LogSeen) (g : StartSnapshot) → is_up x ≡ true → ShowsSeen content x.log s → IsFollowSnapshot (node_of x s) g → CanExtend x g → seen_rows.CanExtend (node_of x s) g
  extend_shown x s g up shows kept k =
      let end = end_shown content x s up shows in
      let same : k.run.batches ≡ g.batches = come_apart k.run.batches g.batches k.run.are kept.are (sym k.run.bytes) in
      let line = line_shown content x s up shows in
      let rise = subst (λ (l : List (ℕ × ℕ)). EpochsRise (unwrap_or (last_epoch l) 0) g.batches) line
      (subst (λ (batches : List (List ℕ)). EpochsRise (unwrap_or (last_epoch (line_of x)) 0) batches) same k.run.epochs) in
      let f = first_of_run s.line g.batches (λ none. k.run.some (same ∙ none)) rise in
      record {
        end = k.end ∙ end;
        joined = k.joined;
        are = kept.are;
        epoch = f.epoch;
        first = f.first;
        may = f.may;
        follow = subst (λ (n : ℕ). IsConsecutive n g.batches) (sym k.end) (subst (IsConsecutive (end_of x)) same k.run.consecutive);
        same = kept.epochs;
        fits = f.fits;
        small = kept.small;
      }

  extend_told : (x : Node D) (s : log.LogSeen) (g : StartSnapshot) → is_up x ≡ true → ShowsSeen content x.log s → seen_rows.CanExtend (node_of x s) g → CanExtend x g
  extend_told x s g up shows k =
      let end : g.end ≡ end_of x = k.end ∙ sym (end_shown content x s up shows) in
      let some : g.batches ≢ [] = λ none. some_epoch g.batches k.first none in
      let follow : IsConsecutive (end_of x) g.batches = subst (λ (n : ℕ). IsConsecutive n g.batches) end k.follow in
      let epochs = recursion_from_All (λ (batch : List ℕ). Some (epoch_of batch) ≡ Some k.epoch) g.batches (subst (λ (o : Option ℕ). All (λ (batch : List ℕ). Some (epoch_of batch) ≡ o) g.batches) k.first k.same) in
      let line = line_shown content x s up shows in
      let low : unwrap_or (last_epoch (line_of x)) 0 ≤ k.epoch = subst (λ (l : List (ℕ × ℕ)). unwrap_or (last_epoch l) 0 ≤ k.epoch) (sym line) (or_last s.line k.epoch k.may) in
      record {
        end = end;
        joined = k.joined;
        run = record {
          batches = g.batches;
          bytes = refl;
          some = some;
          are = all_each (λ (batch : List ℕ). IsOk (checked batch)) g.batches k.are;
          consecutive = follow;
          epochs = rise_same (unwrap_or (last_epoch (line_of x)) 0) k.epoch g.batches epochs low k.fits;
        };
        low = first_low g.end g.batches some (recursion_from_All (λ (batch : List ℕ). IsOk (checked batch)) g.batches k.are) k.follow k.small;
      }
    where
      some_epoch : (batches : List (List ℕ)) → epoch_in batches ≡ Some k.epoch → batches ≡ [] → ⊥
      some_epoch [] is none = absurd cc
      some_epoch (batch ∷ batches) is none = absurd cc

  -- the front of batches of an epoch
  front_epochs : (e : ℕ) (front rest : List (List ℕ)) → AllByRecursion (λ batch. Some (epoch_of batch) ≡ Some e) (front ++ rest) → AllByRecursion (λ batch. epoch_of batch ≡ e) front
  front_epochs e [] rest all = tt
  front_epochs e (batch ∷ front) rest all = ((let one = all.0 in cc), front_epochs e front rest all.1)

  line_after_front : (line : List (ℕ × ℕ)) (e base : ℕ) (front rest : List (List ℕ)) → front ≢ [] → AllByRecursion (λ batch. epoch_of batch ≡ e) front → IsConsecutive base (front ++ rest) → lined line front ≡ entered line e base
  line_after_front line e base [] rest some all c = absurd (some refl)
  line_after_front line e base (batch ∷ front) rest some all c = lined_entered line e base batch front all c.0

  some_length : (front : List (List ℕ)) → front ≢ [] → 0 < length front
  some_length [] some = absurd (some refl)
  some_length (batch ∷ front) some = omega arith

  extends_refined : (h : PartitionState D) (a : seen.SeenPartition) (b : ℕ) (x : Node D) (s : log.LogSeen) (g : StartSnapshot) (n : ℕ) (h' : PartitionState D) → Sees content h a b x s → is_up x ≡ true → IsFollowSnapshot (node_of x s) g
      → (can : seen_rows.CanExtend (node_of x s) g) → Extends content control h b x (joined g.batches) n h' → Refines content h' (λ c. seen_rows.Extends a b (node_of x s) g n can.epoch c)
  extends_refined h a b x s g n h' v up kept can k =
      let q = k.appends in
      let t = q.seen s v.shows in
      let same : q.front ++ q.rest ≡ g.batches = come_apart (q.front ++ q.rest) g.batches q.are kept.are (sym q.bytes) in
      let base : k.span.0 ≡ end_of_log s.batches = sym (end_told content x k.span.0 q.base_is) ∙ end_shown content x s up v.shows in
      let all = recursion_from_All (λ (batch : List ℕ). Some (epoch_of batch) ≡ Some can.epoch) (q.front ++ q.rest)
      (subst (λ (batches : List (List ℕ)). All (λ (batch : List ℕ). Some (epoch_of batch) ≡ Some can.epoch) batches) (sym same)
      (subst (λ (o : Option ℕ). All (λ (batch : List ℕ). Some (epoch_of batch) ≡ o) g.batches) can.first can.same)) in
      let line = line_after_front s.line can.epoch (end_of_log s.batches) q.front q.rest q.some (front_epochs can.epoch q.front q.rest all) (subst (λ (m : ℕ). IsConsecutive m (q.front ++ q.rest)) base q.consecutive) in
      puts content control h a b x s h' _ (record x { log = k.kept }) t.0 (seen_rows.extended (node_of x s) q.front can.epoch) v t.1
      (extended_node x k.kept s t.0 q.front can.epoch (up_of_end content k.kept (k.span.1 + 1) q.end_is ∙ sym up) t.2 line) k.after
      (record {
        front = q.front;
        rest = q.rest;
        parts = sym same;
        some = some_length q.front q.some;
        end = k.end ∙ (q.last_is ∙ ap (λ (m : ℕ). end_from m q.front) (base ∙ sym can.end));
        after = refl;
      })

  pub follow_on_refined : (h : PartitionState D) (a : seen.SeenPartition) (b : ℕ) (x : Node D) (s : log.LogSeen) (g : StartSnapshot) (answer : Answer) (h' : PartitionState D) → Sees content h a b x s → IsFollowSnapshot (node_of x s) g
      → FollowOnRow content control h b x g answer h' → Refines content h' (λ c. seen_rows.FollowOnRow a b (node_of x s) g answer c)
  follow_on_refined h a b x s g Stopped h' v k w = stays content control h a h' _ v.partition_state w.1 (halted w.0, refl)
    where
      halted : (g.stops ≢ x.stops) ⊎ (is_up x ≡ false) → g.stops ≢ x.stops
      halted (inl differs) = differs
      halted (inr down) = λ same. (let up = k.recorded same in absurd cc)
  follow_on_refined h a b x s g (StaleEpoch n) h' v k w =
      stays content control h a h' _ v.partition_state w.3 (w.0, stale_shown h a (followed g.role) v.partition_state w.1, epoch_shown h a n v.partition_state w.2, refl)
  follow_on_refined h a b x s g (Passed n) h' v k w =
      stays content control h a h' _ v.partition_state w.3 (
        (w.0.0, unstale_shown h a (followed g.role) v.partition_state w.0.2),
        w.1 ∙ end_shown content x s w.0.1 v.shows,
        λ can. w.2 (extend_told x s g w.0.1 v.shows can),
        refl,
      )
  follow_on_refined h a b x s g TooManySegments h' v k w =
      stays content control h a h' _ v.partition_state w.3 ((w.0.0, unstale_shown h a (followed g.role) v.partition_state w.0.2), extend_shown x s g w.0.1 v.shows k w.1, refl)
  follow_on_refined h a b x s g DiskFault h' v k w =
      unsaved content control h a b x s h' _ v w.3 ((w.0.0, unstale_shown h a (followed g.role) v.partition_state w.0.2), extend_shown x s g w.0.1 v.shows k w.1, refl)
  follow_on_refined h a b x s g (Copied n) h' v k w =
      let can = extend_shown x s g w.0.1 v.shows k w.1 in
      let r = extends_refined h a b x s g n h' v w.0.1 k can w.3 in
      record {
        after = r.after;
        partition_state = r.partition_state;
        row = (
          (w.0.0, unstale_shown h a (followed g.role) v.partition_state w.0.2),
          can,
          some_at (λ e. seen_rows.Extends a b (node_of x s) g n e r.after) (epoch_in g.batches) can.epoch can.first r.row,
        );
      }
  follow_on_refined h a b x s g other h' v k w = elim w [ ]
