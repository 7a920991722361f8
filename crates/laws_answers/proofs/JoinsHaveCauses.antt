-- Each answer of a join has its cause.
use Rattle.std.proofs.Common.{◌≡◌, ◌∙◌, inl, inr, ap, subst, refl, ℕ, ◌≤◌, List, Some, None, Option, Result, Ok, Err, slice_get}
use Rattle.std.specs.Prelude.{unwrap_or}
use Rattle.tier_base.specs.declared.fault.Trouble.{Trouble}
use Rattle.tier_base.specs.declared.fault.Trouble.TheVariants.{Failed, NoMemory}
use Rattle.tier_base.specs.Counts.{Rose}
use Rattle.tier_base.specs.Device.{Ran, fate_of}
use Rattle.disk_model.specs.declared.disk.Disk.{Ghosts as DiskGhosts}
use Rattle.object_store.specs.declared.store.Store.{Ghosts as StoreGhosts}
use Rattle.object_store.specs.declared.call.StoreCall.TheVariants.{Get}
use Rattle.object_store.specs.declared.placing.Spot.{Spot}
use Rattle.object_store.specs.Place.{short_of}
use Rattle.meta_log.specs.declared.log.MetaLog.{Ghosts as MetaGhosts}
use Rattle.remote_view.specs.Fold.{EntriesSeen as View}
use Rattle.rebuild_task.specs.Turns.{TakesBytes, TakesEpochs, EpochsRow, RebuildRow}
use Rattle.rebuild_task.specs.declared.turn.RebuildStep.TheVariants.{Epochs, Restart}
use Rattle.plain_log.specs.declared.turn.Turn.TheVariants.{Goes, Ends}
use Rattle.rebuild_task.specs.declared.turn.RebuildRequest.{RebuildRequest}
use Rattle.plain_log.specs.declared.answer.Answer.{Answer}
use Rattle.plain_log.specs.declared.answer.Answer.TheVariants.{Down, NotFollower, StaleEpoch, NoLeader, Cut, DiskFaultAt, Stopped, Passed, BelowStart, MetaFault, StoreFault, Damaged, Rebuilt}
use Rattle.plain_log.specs.declared.command.Command.{Command}
use Rattle.plain_log.specs.declared.command.Command.TheVariants.{Join}
use Rattle.plain_log.specs.declared.state.State.{State}
use Rattle.plain_log.specs.State.{followed}
use Rattle.broker_log.specs.Seen.{Faulted, end_in}
use Rattle.partition_commands.proofs.LastingDisks.{one_faulted}
use Rattle.laws_partition.specs.declared.start_snapshot.StartSnapshot.{StartSnapshot}
use Rattle.laws_partition.specs.declared.start_snapshot.Turned.TheVariants as turned
use Rattle.laws_partition.proofs.BoolTests.{some_of}
use Rattle.laws_partition.proofs.Standing.{get_put}
use Rattle.partition_commands.specs.declared.partition_state.Node.{Node}
use Rattle.partition_commands.specs.declared.partition_state.PartitionState.{PartitionState}
use Rattle.partition_commands.specs.Partition.{end_of, local_of, put_node, the_leader, AtNode}
use Rattle.partition_commands.specs.TurnsOfFollowers.{IsMeet, CutRow, JoinRow, JoinOnRow, MayRebuild}
use Rattle.partition_commands.proofs.Shown.{some_at}
use Rattle.laws_tier_turns.specs.TierTasks.{rebuild_of}
use Rattle.laws_rebuild.specs.Laws.{seen_all}
use Rattle.laws_rebuild.proofs.Reading.{nothing_is_damaged}
use Rattle.partition_world.specs.declared.actor_state.Outcome.TheVariants.{Answers}
use Rattle.partition_world.specs.declared.actor_state.InProgress.{InProgress}
use Rattle.partition_world.specs.declared.actor_state.InProgress.TheVariants.{Idle, Noted, Rebuilds}
use Rattle.partition_world.specs.Central.{IsCentral}
use Rattle.partition_world.specs.Turn.{IsTurn}
use Rattle.partition_world.specs.TurnsOfRebuild.{with_line, wanted_of, AnswersAtOnce, RefreshedRow, GoesOnRebuild, EpochsOnRow}
use Rattle.partition_world.specs.Turns.{LocalCommandRow, OwnOnRow, JoinSecondRow, Row}
use Rattle.partition_world.specs.Whole.{Whole}
use Rattle.partition_world.proofs.Begins.{row_of}
use Rattle.partition_world.proofs.RebuildCentral.{to_read}
use Rattle.partition_world.proofs.RebuildEnds.{MayTurn, rebuild_may_turn}
use Rattle.partition_world.proofs.Scenes.{Place, place_of}
use Rattle.partition_world.proofs.TurnCentral.{here}
use Rattle.laws_answers.specs.Faults.{DiskFailed}
use Rattle.laws_answers.specs.CausesOfJoins.{JoinFirstCause, RestartCause, RefreshCause, EpochsCause, JoinSecondCause, JoinHasCause}

module _ {S : Type 0} (store : StoreGhosts S) where
  -- a turn that answers a fault of the store met one
  takes_fault : (wanted : ℕ) (spot : Spot) (given : Result (Option (List ℕ)) Trouble) (old new : S) → Ran Get (fate_of given) (store.control old) (store.control new)
      → TakesEpochs wanted spot given (Ok (Ends StoreFault)) → Rose (store.control old).faults (store.control new).faults
  takes_fault wanted spot (Err Failed) old new ran k = ran.cause refl
  takes_fault wanted spot (Err NoMemory) old new ran k = absurd (cc (k))
  takes_fault wanted spot (Ok None) old new ran k = absurd (cc (k))
  takes_fault wanted spot (Ok (Some bytes)) old new ran k = by (short_of spot bytes) k
    where
      by : (end : Option ℕ) → TakesBytes end wanted spot bytes (Ok (Ends StoreFault)) → Rose (store.control old).faults (store.control new).faults
      by (Some end) k = absurd (cc (k))
      by None k = let e = k.0 in absurd (cc (e))

  epochs_fault : (wanted : ℕ) (view : View) (spot : Option Spot) (old new : S) → EpochsRow store.content store.control wanted view spot (Ok (Ends StoreFault)) old new
      → Rose (store.control old).faults (store.control new).faults
  epochs_fault wanted view None old new row = let e = row.0 in absurd (cc (e))
  epochs_fault wanted view (Some spot) old new row = takes_fault wanted spot row.answer old new row.gets.control row.takes

  rebuild_fault : (wanted : RebuildRequest) (line : List (ℕ × ℕ)) (view : View) (old new : S) → RebuildRow store.content store.control wanted line view (Ok (Ends StoreFault)) old new
      → Rose (store.control old).faults (store.control new).faults
  rebuild_fault wanted line view old new row = epochs_fault wanted.offset view _ old new row

module _ {D S M : Type 0} (disk : DiskGhosts D) (store : StoreGhosts S) (meta : MetaGhosts M) where
  module _ (opening : State) (w : Whole D S M) (a : ℕ) (answer : Answer) (w' : Whole D S M) (t : IsTurn disk store meta w a (Answers answer) w') (c : IsCentral disk store meta opening w)
      (z : Place disk store meta opening w c t.place t.list t.actor_state t.order) where
    abbrev b : ℕ
    b = t.order.broker.0

    -- the broker's log was left so
    there : (y : Node D) → w'.partition_state ≡ put_node w.partition_state b y → slice_get w'.partition_state.nodes b ≡ Some y
    there y is = ap (λ (h : PartitionState D). slice_get h.nodes b) is ∙ get_put w.partition_state.nodes b z.x y z.at

    failed : (y : Node D) → w'.partition_state ≡ put_node w.partition_state b y → Faulted disk.control z.x.log y.log → DiskFailed disk b w w'
    failed y is fault =
        some_at (λ (x : Node D). AtNode w'.partition_state b (λ y. Faulted disk.control x.log y.log)) (slice_get w.partition_state.nodes b) z.x z.at
        (some_at (λ (y : Node D). Faulted disk.control z.x.log y.log) (slice_get w'.partition_state.nodes b) y (there y is) fault)

    ends_at : (y : Node D) (n : ℕ) → w'.partition_state ≡ put_node w.partition_state b y → end_in y.log ≡ Some n → AtNode w'.partition_state b (λ x. end_of x ≡ n)
    ends_at y n is end = some_at (λ (x : Node D). end_of x ≡ n) (slice_get w'.partition_state.nodes b) y (there y is) (ap (λ (o : Option ℕ). unwrap_or o 0) end)

    -- the first turn
    first : (k : Answer) → JoinRow disk.content disk.control w.partition_state b z.x (turned.Answers k) w'.partition_state → JoinFirstCause disk store meta w b z.x k w'
    first Down row = row.0
    first NotFollower row = row.1
    first (StaleEpoch n) row = (row.1, row.2)
    first NoLeader row = row.2
    first (Cut n) row =
        let y = some_of (λ y. (e m : ℕ) × (followed z.x.role ≡ Some e) × IsMeet z.x y m × (local_of y ≤ n) × CutRow disk.content disk.control w.partition_state b z.x e m (Cut n) w'.partition_state) (the_leader w.partition_state) row.2 in
        let cut = y.2.5 in
        ((y.0, y.1, y.2.4), ends_at _ n cut.after cut.cuts.end_is)
    first (DiskFaultAt n) row =
        let y = some_of (λ y. (e m : ℕ) × (followed z.x.role ≡ Some e) × IsMeet z.x y m × CutRow disk.content disk.control w.partition_state b z.x e m (DiskFaultAt n) w'.partition_state) (the_leader w.partition_state) row.2 in
        let breaks = y.2.4.1 in
        failed _ breaks.after (one_faulted disk.control z.x.log breaks.kept breaks.lasts breaks.cause)
    first other row = elim row [ ]

    own : LocalCommandRow disk w.partition_state w.tier b z.x Join (Answers answer) w'.partition_state w'.tier → JoinFirstCause disk store meta w b z.x answer w'
    own ((turned.Answers k, is, row), same) = let e : k ≡ answer = cc (is) in subst (λ (j : Answer). JoinFirstCause disk store meta w b z.x j w') e (first k row)
    own ((turned.Begins g, is, row), same) = absurd (cc (is))

    -- where the log restarts
    restarts : (g : StartSnapshot) (line : List (ℕ × ℕ)) (k : Answer) → JoinOnRow disk.content disk.control w.partition_state b z.x (with_line g line) k w'.partition_state → RestartCause disk store meta w b z.x g k w'
    restarts g line Stopped row = row.0
    restarts g line (StaleEpoch n) row = (row.0, row.1, row.2)
    restarts g line (Passed n) row = (row.0, row.1, row.2)
    restarts g line (BelowStart start) row = (row.0, row.1, row.2, row.3, row.4)
    restarts g line (DiskFaultAt n) row = failed _ row.2.after (one_faulted disk.control z.x.log row.2.kept row.2.lasts row.2.cause)
    restarts g line (Rebuilt n) row = (row.1, ends_at _ n row.2.after row.2.restarts.end_is)
    restarts g line other row = elim row [ ]

    snapshot : (g : StartSnapshot) (k : Answer) → JoinOnRow disk.content disk.control w.partition_state b z.x g k w'.partition_state → RestartCause disk store meta w b z.x g k w'
    snapshot g Stopped row = row.0
    snapshot g (StaleEpoch n) row = (row.0, row.1, row.2)
    snapshot g (Passed n) row = (row.0, row.1, row.2)
    snapshot g (BelowStart start) row = (row.0, row.1, row.2, row.3, row.4)
    snapshot g (DiskFaultAt n) row = failed _ row.2.after (one_faulted disk.control z.x.log row.2.kept row.2.lasts row.2.cause)
    snapshot g (Rebuilt n) row = (row.1, ends_at _ n row.2.after row.2.restarts.end_is)
    snapshot g other row = elim row [ ]

    last : (g : StartSnapshot) → OwnOnRow disk w.partition_state w.tier b z.x g Join (Answers answer) w'.partition_state w'.tier → RestartCause disk store meta w b z.x g answer w'
    last g ((k, is, row), same) = let e : k ≡ answer = cc (is) in subst (λ (j : Answer). RestartCause disk store meta w b z.x g j w') e (snapshot g k row)

    last_with : (g : StartSnapshot) (line : List (ℕ × ℕ)) → OwnOnRow disk w.partition_state w.tier b z.x (with_line g line) Join (Answers answer) w'.partition_state w'.tier → RestartCause disk store meta w b z.x g answer w'
    last_with g line ((k, is, row), same) = let e : k ≡ answer = cc (is) in subst (λ (j : Answer). RestartCause disk store meta w b z.x g j w') e (restarts g line k row)

    -- the refresh
    refresh_once : (g : StartSnapshot) (k : Answer) → AnswersAtOnce w.partition_state z.x g k → RefreshCause disk store meta w z.x g k w'
    refresh_once g Stopped is = is
    refresh_once g (StaleEpoch n) is = is
    refresh_once g (Passed n) is = is
    refresh_once g (BelowStart start) is = is
    refresh_once g other is = elim is [ ]

    refreshed : (g : StartSnapshot) (k : Answer) → RefreshedRow meta w.tier b z.broker_tier (Answers k) w'.tier → RefreshCause disk store meta w z.x g k w'
    refreshed g MetaFault row = row.reads.control.ran.cause refl
    refreshed g other row = elim row [ ]

    second : (g : StartSnapshot) → JoinSecondRow disk meta w.partition_state w.tier b z.x z.broker_tier g (Answers answer) w'.partition_state w'.tier → JoinSecondCause disk store meta w b z.x g answer w'
    second g (inl row) = inl (row.0, last g row.1)
    second g (inr (low, inl (k, is, once, tier), same)) = let e : k ≡ answer = cc (is) in inr (low, subst (λ (j : Answer). RefreshCause disk store meta w z.x g j w') e (refresh_once g k once))
    second g (inr (low, inr (may, row), same)) = inr (low, refreshed g answer row)

    -- the line
    epochs_once : (g : StartSnapshot) (k : Answer) → AnswersAtOnce w.partition_state z.x g k → EpochsCause disk store meta w z.x g k w'
    epochs_once g Stopped is = is
    epochs_once g (StaleEpoch n) is = is
    epochs_once g (Passed n) is = is
    epochs_once g (BelowStart start) is = is
    epochs_once g other is = elim is [ ]

    module _ (joins : t.order.command ≡ Join) (g : StartSnapshot) (works : t.actor_state.in_progress ≡ Rebuilds g Epochs) (may : MayRebuild w.partition_state z.x g) where
      ended : (k : Answer) → MayTurn (Ends k) → GoesOnRebuild store w.partition w.tier z.broker_tier g (Ends k) w'.tier → EpochsCause disk store meta w z.x g k w'
      ended StoreFault m goes = rebuild_fault store (wanted_of w.partition g) g.line z.broker_tier.view w.tier.store w'.tier.store goes.row
      ended (Damaged place at) m goes =
          absurd (nothing_is_damaged store.content store.control (wanted_of w.partition g) g.line z.broker_tier.view place at w.tier.store w'.tier.store c.scene c.central.plain t.place (seen_all (rebuild_of b g))
          (here disk store meta opening w a (Answers answer) w' t c z Join joins) goes.row (to_read disk store meta opening w a (Answers answer) w' t c z joins g works may))
      ended other m goes = elim m [ ]

    reads : (joins : t.order.command ≡ Join) (g : StartSnapshot) → t.actor_state.in_progress ≡ Rebuilds g Epochs → EpochsOnRow store w.partition w.partition_state w.tier z.x z.broker_tier g (Answers answer) w'.tier
        → EpochsCause disk store meta w z.x g answer w'
    reads joins g works (inl (k, is, once, tier)) = let e : k ≡ answer = cc (is) in subst (λ (j : Answer). EpochsCause disk store meta w z.x g j w') e (epochs_once g k once)
    reads joins g works (inr (may, (Goes next, is, goes))) = absurd (cc (is))
    reads joins g works (inr (may, (Ends k, is, goes))) =
        let e : k ≡ answer = cc (is) in
        subst (λ (j : Answer). EpochsCause disk store meta w z.x g j w') e
        (ended joins g works may k (rebuild_may_turn store (wanted_of w.partition g) g.line z.broker_tier.view (Ends k) w.tier.store w'.tier.store goes.row) goes)

    by_in_progress : (joins : t.order.command ≡ Join) (in_progress : InProgress) → t.actor_state.in_progress ≡ in_progress → Row disk store meta w.partition w.config w.partition_state w.tier b z.x z.broker_tier in_progress Join (Answers answer) w'.partition_state w'.tier
        → JoinHasCause disk store meta w b z.x in_progress answer w'
    by_in_progress joins Idle is row = own row
    by_in_progress joins (Noted g) is row = second g row
    by_in_progress joins (Rebuilds g Epochs) is row = reads joins g is row.0
    by_in_progress joins (Rebuilds g (Restart line)) is row = last_with g line row
    by_in_progress joins other is row = elim row [ ]

  pub have_causes : (opening : State) (w : Whole D S M) (a : ℕ) (answer : Answer) (w' : Whole D S M) → IsCentral disk store meta opening w → (t : IsTurn disk store meta w a (Answers answer) w')
      → t.order.command ≡ Join → AtNode w.partition_state t.order.broker.0 (λ x. JoinHasCause disk store meta w t.order.broker.0 x t.actor_state.in_progress answer w')
  have_causes opening w a answer w' c t joins =
      let b = t.order.broker.0 in
      let r = row_of disk store meta w.partition w.config w.partition_state w.tier b t.actor_state.in_progress t.order.command (Answers answer) w'.partition_state w'.tier t.row in
      let z = place_of disk store meta opening w c t.place t.list t.actor_state t.order t.at.list t.at.actor_state_is t.next r.x r.at r.broker_tier r.broker_tier_at in
      let row = subst (λ (k : Command). Row disk store meta w.partition w.config w.partition_state w.tier b r.x r.broker_tier t.actor_state.in_progress k (Answers answer) w'.partition_state w'.tier) joins r.row in
      some_at (λ (x : Node D). JoinHasCause disk store meta w b x t.actor_state.in_progress answer w') (slice_get w.partition_state.nodes b) r.x r.at
      (by_in_progress opening w a answer w' t c z joins t.actor_state.in_progress refl row)
