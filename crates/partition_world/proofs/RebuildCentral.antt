-- The turns of a join that reads a line in the remote tier keep the central fact: they make changes of the tier,
-- nothing that is seen of the partition changes, and the leader epochs that are read is the one that the join recorded.
use Rattle.std.proofs.Common.{◌≡◌, ◌∙◌, sym, ap, subst, refl, ℕ, ◌<◌, List, slice_get, Some, Option, Ok, Bool, true, false, arith}
use Rattle.std.specs.Prelude.{nat_le, unwrap_or, IsSomeAnd}
use Rattle.std.proofs.lemmas.Bool.Decides.{nat_tests}
use Rattle.disk_model.specs.declared.disk.Disk.{Ghosts as DiskGhosts}
use Rattle.object_store.specs.declared.store.Store.{Ghosts as StoreGhosts}
use Rattle.meta_log.specs.declared.log.MetaLog.{Ghosts as MetaGhosts}
use Rattle.object_store.specs.Content.{Objects}
use Rattle.segment_meta.specs.declared.note.Note.{Note}
use Rattle.remote_view.specs.Fold.{EntriesSeen as View}
use Rattle.registry.specs.declared.registry.Registry.{Registry}
use Rattle.rebuild_task.specs.declared.turn.RebuildStep.TheVariants.{Epochs, Restart}
use Rattle.rebuild_task.specs.declared.turn.RebuildStep.{RebuildStep}
use Rattle.plain_log.specs.declared.turn.Turn.{Turn}
use Rattle.plain_log.specs.declared.turn.Turn.TheVariants.{Goes, Ends}
use Rattle.plain_log.specs.declared.answer.Answer.{Answer}
use Rattle.plain_log.specs.declared.answer.Answer.TheVariants.{MetaFault, StoreFault, Damaged, Stopped, StaleEpoch, Passed, BelowStart, DiskFaultAt, Rebuilt}
use Rattle.plain_log.specs.declared.command.Command.{Command}
use Rattle.plain_log.specs.declared.command.Command.TheVariants.{Join}
use Rattle.plain_log.specs.declared.command.Order.{Order}
use Rattle.plain_log.specs.declared.state.Role.{Role}
use Rattle.plain_log.specs.declared.state.State.{State}
use Rattle.plain_log.specs.State.{path_of, joined, followed}
use Rattle.laws_partition.specs.declared.start_snapshot.StartSnapshot.{StartSnapshot}
use Rattle.laws_partition.specs.Central.{SnapshotMatches, RebuildMatches}
use Rattle.laws_partition.specs.Partition.{broker_of}
use Rattle.laws_partition.specs.RowsOfFollowers as seen_rows
use Rattle.laws_partition.specs.Seen as seen
use Rattle.laws_partition.proofs.ProgressLaw.{going}
use Rattle.laws_partition.proofs.Standing.{broker_at, map_get}
use Rattle.laws_tier_turns.specs.TierTasks.{rebuild_of}
use Rattle.partition_commands.specs.declared.partition_state.Node.{Node}
use Rattle.partition_commands.specs.declared.partition_state.PartitionState.{PartitionState}
use Rattle.partition_commands.specs.Partition.{node_of, ShowsPartition}
use Rattle.partition_commands.specs.TurnsOfFollowers.{MayRebuild, JoinOnRow}
use Rattle.partition_commands.proofs.Shown.{end_shown}
use Rattle.tier_safe.specs.Scene.{Scene, BrokerTierView, Rebuild, TierTask, Rebuilds as RebuildsSeen}
use Rattle.tier_safe.specs.Turns.{ShowsScene}
use Rattle.laws_rebuild.specs.Laws.{seen_all}
use Rattle.laws_rebuild.specs.Reading.{IsToRead}
use Rattle.laws_rebuild.proofs.Reading.{lines_are_paths}
use Rattle.laws_rebuild.proofs.Refreshing.{rebuild_refreshes}
use Rattle.partition_world.specs.declared.actor_state.Outcome.{Outcome}
use Rattle.partition_world.specs.declared.actor_state.Outcome.TheVariants as outcomes
use Rattle.partition_world.specs.declared.actor_state.Outcome.TheVariants.{Answers}
use Rattle.partition_world.specs.declared.actor_state.InProgress.{InProgress}
use Rattle.partition_world.specs.declared.actor_state.InProgress.TheVariants.{Noted, Rebuilds}
use Rattle.partition_world.specs.declared.tier.RemoteTier.{RemoteTier}
use Rattle.partition_world.specs.ActorStates.{recorded_in, rebuilding, rebuild_outcome, actor_state_after, actor_state_seen, told_of}
use Rattle.partition_world.specs.Tier.{RefreshesBroker, FailsToRead}
use Rattle.partition_world.specs.Central.{IsCentral, IsRecorded, begun_of, rebuilds_of, tier_task_of}
use Rattle.partition_world.specs.Turn.{IsTurn}
use Rattle.partition_world.specs.TurnsOfRebuild.{with_line, wanted_of, AnswersAtOnce, RefreshedRow, GoesOnRebuild}
use Rattle.partition_world.specs.Whole.{Whole}
use Rattle.partition_world.proofs.Entered.{both_of}
use Rattle.partition_world.proofs.Recording.{GoesAsRecorded}
use Rattle.partition_world.proofs.Dating.{IsNoDate}
use Rattle.partition_world.proofs.RebuildEnds.{MayTurn, rebuild_may_turn, rebuild_kept}
use Rattle.partition_world.proofs.Scenes.{Place, tier_view_is, on_desk, scene_after, shows_at, tier_task_after, same_broker_tiers, stayed, few_now}
use Rattle.partition_world.proofs.TurnCentral.{here, shown, rests, partition_state_same, silent, untold, unseen}
use Rattle.partition_world.proofs.WorldSound.{rebuilding_seen}

module _ {D : Type 0} (disk : DiskGhosts D) where
  -- an answer before the join continues is one of its last turn
  pub once_row : (h : PartitionState D) (b : ℕ) (x : Node D) (g : StartSnapshot) (answer : Answer) (h' : PartitionState D) → AnswersAtOnce h x g answer → h' ≡ h → JoinOnRow disk.content disk.control h b x g answer h'
  once_row h b x g Stopped h' w same = (w, same)
  once_row h b x g (StaleEpoch n) h' w same = (w.0, w.1, w.2, same)
  once_row h b x g (Passed n) h' w same = (w.0, w.1, w.2, same)
  once_row h b x g (BelowStart start) h' w same = (w.0, w.1, w.2, w.3, w.4, same)
  once_row h b x g other h' w same = elim w [ ]

  -- a last turn with the recorded line is that of what was recorded
  pub recorded_row : (h : PartitionState D) (b : ℕ) (x : Node D) (g : StartSnapshot) (answer : Answer) (h' : PartitionState D) → JoinOnRow disk.content disk.control h b x (with_line g g.line) answer h'
      → JoinOnRow disk.content disk.control h b x g answer h'
  recorded_row h b x g Stopped h' w = w
  recorded_row h b x g (StaleEpoch n) h' w = w
  recorded_row h b x g (Passed n) h' w = w
  recorded_row h b x g (BelowStart start) h' w = w
  recorded_row h b x g (DiskFaultAt n) h' w = w
  recorded_row h b x g (Rebuilt n) h' w = w
  recorded_row h b x g other h' w = elim w [ ]

module _ {D S M : Type 0} (disk : DiskGhosts D) (store : StoreGhosts S) (meta : MetaGhosts M) where
  -- such a turn, in its place
  module _ (opening : State) (w : Whole D S M) (a : ℕ) (outcome : Outcome) (w' : Whole D S M) (t : IsTurn disk store meta w a outcome w') (c : IsCentral disk store meta opening w)
      (z : Place disk store meta opening w c t.place t.list t.actor_state t.order) (joins : t.order.command ≡ Join) where
    abbrev y : seen.Node
    y = node_of z.x z.s

    abbrev its : BrokerTierView
    its = here disk store meta opening w a outcome w' t c z Join joins

    abbrev next_scene : TierTask → Objects → List Note → View → Scene
    next_scene = scene_after disk store meta opening w c t.place t.list t.actor_state t.order z

    same_partition_state : w'.partition_state ≡ w.partition_state → ShowsPartition disk.content w'.partition_state c.partition
    same_partition_state = partition_state_same disk store meta opening w a outcome w' t c z Join joins

    start_plain : c.central.plain.registry.start ≡ w.partition_state.registry.start
    start_plain = ap (λ (r : Registry). r.start) c.central.stands.partition_state.registry ∙ ap (λ (r : Registry). r.start) z.sees.partition_state.registry

    -- nothing has come between, as it is seen
    on_seen : (g : StartSnapshot) → MayRebuild w.partition_state z.x g → seen_rows.GoesOn c.partition y g × seen_rows.IsAsCut y g
    on_seen g m =
        ((m.0.0, λ (k : seen_rows.IsStale c.partition (followed g.role)). m.0.2 (subst (λ (r : Registry). IsSomeAnd (followed g.role) (λ e. e < r.epoch)) z.sees.partition_state.registry k)), (m.1.0 ∙ end_shown disk.content z.x z.s m.0.1 z.sees.shows, m.1.1))

    -- the metadata log failed
    join_unread : (g : StartSnapshot) → t.actor_state.in_progress ≡ Noted g → outcome ≡ Answers MetaFault → MayRebuild w.partition_state z.x g → FailsToRead meta w.tier z.broker_tier w'.tier → w'.partition_state ≡ w.partition_state → IsCentral disk store meta opening w'
    join_unread g recorded is m row same =
        let on = on_seen g m in
        rests disk store meta opening w a outcome w' t c z Join joins (Noted g) recorded MetaFault is refl (ap (λ (u : RemoteTier S M). u.broker_tiers) row.after)
        (ap (λ (u : RemoteTier S M). (store.content u.store).is_observable) row.after, row.reads.content.is_observable)
        (ap (λ (u : RemoteTier S M). (store.content u.store).objects) row.after) row.reads.content.notes (same_partition_state same) (on.0, on.1, refl)

    -- the follower's view is refreshed
    join_refreshed : (g : StartSnapshot) → t.actor_state.in_progress ≡ Noted g → outcome ≡ outcomes.Rebuilds Epochs → g.start < g.wanted → RefreshesBroker meta w.tier t.order.broker.0 z.broker_tier w'.tier → w'.partition_state ≡ w.partition_state
        → IsCentral disk store meta opening w'
    join_refreshed g recorded is low r same =
        let rebuild : Rebuild = rebuild_of t.order.broker.0 g in
        let at = subst (λ (k : TierTask). ShowsScene c.scene t.place t.order.broker.0 its k (store.content w.tier.store) (meta.content w.tier.meta) z.broker_tier.view)
        (ap (tier_task_of (Some t.order)) recorded ∙ ap (begun_of t.order.broker.0 g) joins) (shows_at disk store meta opening w c t.place t.list t.actor_state t.order z) in
        let changed = rebuild_refreshes store.content store.control meta.content meta.control w.tier.meta r.view c.scene c.central.plain t.place rebuild its (store.content w.tier.store) at (few_now disk store meta opening w c)
        c.tier r.reads.view in
        silent disk store meta opening w a outcome w' t c z Join joins
        (subst (GoesAsRecorded t.actor_state.in_progress) (sym is) (λ (f : StartSnapshot) k. (let one : g ≡ f = cc (ap recorded_in recorded, k) in subst (λ (h : StartSnapshot). h.start < h.wanted) one low))) (subst IsNoDate (sym is) tt)
        (unseen disk store meta opening w a outcome w' t c z Join joins
        (ap (λ (o : Outcome). actor_state_seen (actor_state_after t.actor_state o)) is ∙ ap (λ (o : Option StartSnapshot). record { number = t.actor_state.number; snapshot = o }) (rebuilding_seen t.actor_state.in_progress Epochs)))
        (untold disk store meta opening w a outcome w' t c z Join joins (ap (told_of t.list.actor t.actor_state.number t.order.command) is)) (same_partition_state same)
        (next_scene (RebuildsSeen (seen_all rebuild)) c.scene.objects c.scene.notes r.view) changed
        (shown disk store meta opening w a outcome w' t c z Join joins (RebuildsSeen (seen_all rebuild)) c.scene.objects c.scene.notes r.view (ap (λ (u : RemoteTier S M). u.broker_tiers) r.after)
        (ap (λ (u : RemoteTier S M). (store.content u.store).is_observable) r.after, r.reads.content.is_observable)
        (c.shows_tier.objects ∙ sym (ap (λ (u : RemoteTier S M). (store.content u.store).objects) r.after)) (c.shows_tier.notes ∙ sym r.reads.content.notes)
        (ap (λ (o : Outcome). tier_task_after disk store meta opening w c t.place t.list t.actor_state t.order z o) is
        ∙ (ap (λ (u : InProgress). tier_task_of (slice_get t.list.orders t.actor_state.number) (rebuilding u Epochs)) recorded
        ∙ (ap (λ (o : Option Order). tier_task_of o (Rebuilds g Epochs)) z.next ∙ ap (rebuilds_of t.order.broker.0 g) joins))))

    pub join_refreshes : (g : StartSnapshot) → t.actor_state.in_progress ≡ Noted g → g.start < g.wanted → MayRebuild w.partition_state z.x g → (o : Outcome) → outcome ≡ o → RefreshedRow meta w.tier t.order.broker.0 z.broker_tier o w'.tier
        → w'.partition_state ≡ w.partition_state → IsCentral disk store meta opening w'
    join_refreshes g recorded low m (Answers MetaFault) is row same = join_unread g recorded is m row same
    join_refreshes g recorded low m (outcomes.Rebuilds Epochs) is row same = join_refreshed g recorded is low row same
    join_refreshes g recorded low m other is row same = elim row [ ]

    -- the turn that reads the line

    module _ (g : StartSnapshot) (works : t.actor_state.in_progress ≡ Rebuilds g Epochs) (m : MayRebuild w.partition_state z.x g) where
      stands_rebuild : RebuildMatches c.central.plain g
      stands_rebuild =
          let broker : slice_get c.central.plain.brokers t.order.broker.0 ≡ Some (broker_of y) = broker_at c.partition c.central.plain t.order.broker.0 y c.central.stands.partition_state z.sees.there in
          let actor_states = c.central.stands.desk t.place t.list (actor_state_seen t.actor_state) z.list (map_get actor_state_seen w.desk t.place t.actor_state z.actor_state_is) in
          let on = going c.central.plain y t.order t.list (actor_state_seen t.actor_state) g c.central.safe actor_states z.next (ap recorded_in works) broker in
          subst (λ (k : Command). SnapshotMatches c.central.plain k g) joins on.stands

      -- the log start offset is below the wanted offset still
      start_below : c.central.plain.registry.start < g.wanted
      start_below = subst (λ (n : ℕ). n < g.wanted) (sym start_plain) (by (nat_le g.wanted w.partition_state.registry.start) refl)
        where
          low : g.start < g.wanted
          low = subst IsRecorded works (c.recorded t.place t.actor_state t.at.actor_state_is)

          by : (b : Bool) → nat_le g.wanted w.partition_state.registry.start ≡ b → w.partition_state.registry.start < g.wanted
          by true b = absurd (m.2 (low, grind (arith, nat_tests, b)))
          by false b = grind (arith, nat_tests, b)

      pub to_read : IsToRead c.scene c.central.plain t.place (seen_all (rebuild_of t.order.broker.0 g)) its (wanted_of w.partition g) g.line (store.content w.tier.store) z.broker_tier.view
      to_read = record {
        safe = both_of disk store meta opening w c;
        actor_state = on_desk disk store meta opening w c t.place t.list t.actor_state t.order z
            ∙ (ap (λ (u : InProgress). Some (tier_task_of (Some t.order) u)) works ∙ ap (λ (k : Command). Some (rebuilds_of t.order.broker.0 g k)) joins);
        refreshed = refl;
        tier_view_is = tier_view_is disk store meta opening w c t.place t.list t.actor_state t.order z;
        view_is = refl;
        is_observable = c.shows_tier.store_tells;
        objects_are = c.shows_tier.objects;
        partition = sym c.shows_tier.partition;
        offset = refl;
        path = stands_rebuild.path;
        path_is = ap (λ (r : Role). path_of c.central.plain.paths (unwrap_or (joined r) 0)) stands_rebuild.role ∙ stands_rebuild.path_is;
        line_is = stands_rebuild.line;
        below = start_below;
      }

      -- what it answers
      ends : (answer : Answer) → outcome ≡ Answers answer → MayTurn (Ends answer) → (turn : Turn RebuildStep) → GoesOnRebuild store w.partition w.tier z.broker_tier g turn w'.tier → w'.partition_state ≡ w.partition_state → IsCentral disk store meta opening w'
      ends StoreFault is may turn goes same =
          let kept = rebuild_kept store (wanted_of w.partition g) g.line z.broker_tier.view (Ok turn) w.tier.store w'.tier.store goes.row in
          rests disk store meta opening w a outcome w' t c z Join joins (Rebuilds g Epochs) works StoreFault is refl (ap (λ (u : RemoteTier S M). u.broker_tiers) goes.after)
          (kept.is_observable, ap (λ (u : RemoteTier S M). (meta.content u.meta).is_observable) goes.after) kept.objects (ap (λ (u : RemoteTier S M). (meta.content u.meta).notes) goes.after) (same_partition_state same)
          ((on_seen g m).0, (on_seen g m).1, refl)
      ends (Damaged place at) is may turn goes same =
          let kept = rebuild_kept store (wanted_of w.partition g) g.line z.broker_tier.view (Ok turn) w.tier.store w'.tier.store goes.row in
          rests disk store meta opening w a outcome w' t c z Join joins (Rebuilds g Epochs) works (Damaged place at) is refl (ap (λ (u : RemoteTier S M). u.broker_tiers) goes.after)
          (kept.is_observable, ap (λ (u : RemoteTier S M). (meta.content u.meta).is_observable) goes.after) kept.objects (ap (λ (u : RemoteTier S M). (meta.content u.meta).notes) goes.after) (same_partition_state same)
          ((on_seen g m).0, (on_seen g m).1, refl)
      ends other is may turn goes same = elim may [ ]

      -- the line is read
      reads : (line : List (ℕ × ℕ)) → outcome ≡ outcomes.Rebuilds (Restart line) → GoesOnRebuild store w.partition w.tier z.broker_tier g (Goes (Restart line)) w'.tier → w'.partition_state ≡ w.partition_state → IsCentral disk store meta opening w'
      reads line is goes same =
          let kept = rebuild_kept store (wanted_of w.partition g) g.line z.broker_tier.view (Ok (Goes (Restart line))) w.tier.store w'.tier.store goes.row in
          let one : line ≡ g.line = lines_are_paths store.content store.control (wanted_of w.partition g) g.line line z.broker_tier.view w.tier.store w'.tier.store c.scene c.central.plain t.place
          (seen_all (rebuild_of t.order.broker.0 g)) its goes.row to_read in
          silent disk store meta opening w a outcome w' t c z Join joins
          (subst (GoesAsRecorded t.actor_state.in_progress) (sym is) (λ (f : StartSnapshot) k. (let same : g ≡ f = cc (ap recorded_in works, k) in one ∙ ap (λ (h : StartSnapshot). h.line) same))) (subst IsNoDate (sym is) tt)
          (unseen disk store meta opening w a outcome w' t c z Join joins
          (ap (λ (o : Outcome). actor_state_seen (actor_state_after t.actor_state o)) is ∙ ap (λ (o : Option StartSnapshot). record { number = t.actor_state.number; snapshot = o }) (rebuilding_seen t.actor_state.in_progress (Restart line))))
          (untold disk store meta opening w a outcome w' t c z Join joins (ap (told_of t.list.actor t.actor_state.number t.order.command) is)) (same_partition_state same)
          (next_scene (tier_task_of (Some t.order) t.actor_state.in_progress) c.scene.objects c.scene.notes z.broker_tier.view) (stayed disk store meta opening w c t.place t.list t.actor_state t.order z)
          (shown disk store meta opening w a outcome w' t c z Join joins (tier_task_of (Some t.order) t.actor_state.in_progress) c.scene.objects c.scene.notes z.broker_tier.view
          (ap (λ (u : RemoteTier S M). u.broker_tiers) goes.after ∙ same_broker_tiers disk store meta opening w c t.place t.list t.actor_state t.order z)
          (kept.is_observable, ap (λ (u : RemoteTier S M). (meta.content u.meta).is_observable) goes.after) (c.shows_tier.objects ∙ sym kept.objects)
          (c.shows_tier.notes ∙ sym (ap (λ (u : RemoteTier S M). (meta.content u.meta).notes) goes.after))
          (ap (λ (o : Outcome). tier_task_after disk store meta opening w c t.place t.list t.actor_state t.order z o) is
          ∙ (ap (λ (u : InProgress). tier_task_of (slice_get t.list.orders t.actor_state.number) (rebuilding u (Restart line))) works
          ∙ (ap (λ (o : Option Order). tier_task_of o (Rebuilds g (Restart line))) z.next ∙ sym (ap (tier_task_of (Some t.order)) works)))))

      pub join_reads : (turn : Turn RebuildStep) → outcome ≡ rebuild_outcome turn → GoesOnRebuild store w.partition w.tier z.broker_tier g turn w'.tier → w'.partition_state ≡ w.partition_state → IsCentral disk store meta opening w'
      join_reads turn is goes same = by turn is goes (rebuild_may_turn store (wanted_of w.partition g) g.line z.broker_tier.view turn w.tier.store w'.tier.store goes.row)
        where
          by : (turn : Turn RebuildStep) → outcome ≡ rebuild_outcome turn → GoesOnRebuild store w.partition w.tier z.broker_tier g turn w'.tier → MayTurn turn → IsCentral disk store meta opening w'
          by (Ends answer) is goes may = ends answer is may (Ends answer) goes same
          by (Goes (Restart line)) is goes may = reads line is goes same
          by (Goes next) is goes may = elim may [ ]
