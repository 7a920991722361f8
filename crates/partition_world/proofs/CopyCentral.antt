-- Each turn of a copy keeps the central fact: it makes changes of the tier, and nothing that is seen of the partition changes.
use Rattle.std.proofs.Common.{◌≡◌, ◌∙◌, inl, inr, sym, ap, subst, refl, ℕ, List, slice_get, slice_set, Some, Option, Ok}
use Rattle.disk_model.specs.declared.disk.Disk.{Ghosts as DiskGhosts}
use Rattle.object_store.specs.declared.store.Store.{Ghosts as StoreGhosts}
use Rattle.object_store.specs.Content.{Objects}
use Rattle.meta_log.specs.declared.log.MetaLog.{Ghosts as MetaGhosts}
use Rattle.segment_meta.specs.declared.note.Note.{Note}
use Rattle.remote_view.specs.Fold.{EntriesSeen as View}
use Rattle.copy_task.specs.Copying.{Copied}
use Rattle.plain_log.specs.declared.turn.Turn.{Turn}
use Rattle.plain_log.specs.declared.turn.Turn.TheVariants.{Goes as GoesOn, Ends}
use Rattle.copy_task.specs.declared.turn.CopyStep.{CopyStep}
use Rattle.plain_log.specs.declared.answer.Answer.TheVariants.{CopyOff, MetaFault, LostLead, Level, DiskFault, Damaged}
use Rattle.plain_log.specs.declared.answer.Place.TheVariants.{File}
use Rattle.plain_log.specs.declared.command.Command.TheVariants.{Copy}
use Rattle.plain_log.specs.declared.command.Order.{Order}
use Rattle.plain_log.specs.declared.state.State.{State}
use Rattle.laws_partition.specs.declared.start_snapshot.StartSnapshot.{StartSnapshot}
use Rattle.laws_partition.specs.declared.start_snapshot.Turned.{Turned}
use Rattle.laws_partition.specs.declared.start_snapshot.Turned.TheVariants as turned
use Rattle.laws_partition.specs.Seen as seen
use Rattle.laws_partition.specs.RowsOfTiers as seen_tiers
use Rattle.laws_partition.proofs.BoolTests.{some_of}
use Rattle.broker_log.specs.Seen.{incarnation_in}
use Rattle.partition_commands.specs.declared.partition_state.Node.{Node}
use Rattle.partition_commands.specs.Partition.{node_of, put_node, ShowsPartition}
use Rattle.partition_commands.proofs.Shown.{some_at, partition_state_looks}
use Rattle.tier_safe.specs.Scene.{Scene, BrokerTierView, TierTask, Free, Copies as CopiesSeen}
use Rattle.tier_safe.specs.May.{IsChanged}
use Rattle.tier_safe.specs.Turns.{ShowsScene, copy_tier_task}
use Rattle.tier_safe.proofs.Turning.{copy_turns}
use Rattle.partition_world.specs.declared.actor_state.Outcome.{Outcome}
use Rattle.partition_world.specs.declared.actor_state.Outcome.TheVariants.{Answers, Begins, Chose}
use Rattle.partition_world.specs.declared.actor_state.InProgress.{InProgress}
use Rattle.partition_world.specs.declared.actor_state.InProgress.TheVariants.{Idle, Noted, Copies, Seeks, Dates, Expires, Rebuilds}
use Rattle.partition_world.specs.declared.tier.BrokerTierState.{BrokerTierState}
use Rattle.partition_world.specs.declared.tier.RemoteTier.{RemoteTier}
use Rattle.partition_world.specs.ActorStates.{moved, copy_outcome, actor_state_after, actor_state_seen, told_of}
use Rattle.partition_world.specs.Tier.{counted, put_broker_tier}
use Rattle.partition_world.specs.Central.{IsCentral, tier_task_of}
use Rattle.partition_world.specs.Turn.{IsTurn}
use Rattle.partition_world.specs.TurnsOfCopy.{KeepsLead, LeadersFirstRow, CopyFirstRow, ReadsLocalLog, ReadSegmentRow, ReadsNext, ChooseRow, CopyOnRow, GoesOnCopy, copied_to, tiers_of, origin_of}
use Rattle.partition_world.specs.Turns.{Row}
use Rattle.partition_world.specs.Whole.{Whole}
use Rattle.partition_world.proofs.Choosing.{chosen_scene, chosen_changed, chosen_shown}
use Rattle.partition_world.proofs.CopyEnds.{copy_ends, copy_tells, keeps_seen, keeps_back, end_row}
use Rattle.partition_world.proofs.Scenes.{Place, shows_at, answered_free, few_now}
use Rattle.partition_world.proofs.Recording.{GoesAsRecorded}
use Rattle.partition_world.proofs.Dating.{IsNoDate}
use Rattle.partition_world.proofs.BrokerTierStates.{set_same}
use Rattle.partition_world.proofs.TurnCentral.{here, after, actor_state_shows, shown, entered, stands, partition_state_same, leads_first, silent, untold, unseen}
use Rattle.partition_world.proofs.WorldSound.{chosen_seen, moved_seen}

-- a row of any leader's first turn is one of a copy's
copy_row : (h : seen.SeenPartition) (y : seen.Node) (turn : Turned) (h' : seen.SeenPartition) → seen_tiers.LeadersRow h y turn h' → seen_tiers.CopyRow h y turn h'
copy_row h y (turned.Answers CopyOff) h' r = absurd r
copy_row h y turn h' r = r

module _ {D S M : Type 0} (disk : DiskGhosts D) (store : StoreGhosts S) (meta : MetaGhosts M) where
  -- a turn of a copy, in its place
  module _ (opening : State) (w : Whole D S M) (a : ℕ) (outcome : Outcome) (w' : Whole D S M) (t : IsTurn disk store meta w a outcome w') (c : IsCentral disk store meta opening w)
      (z : Place disk store meta opening w c t.place t.list t.actor_state t.order) (copies : t.order.command ≡ Copy) where
    -- its tier state of the scene, the scene after it, and what its state shows then
    abbrev its : BrokerTierView
    its = here disk store meta opening w a outcome w' t c z Copy copies

    abbrev then : TierTask → Objects → List Note → View → Scene
    then = after disk store meta opening w a outcome w' t c z Copy copies

    abbrev actor_state_then : Outcome → TierTask
    actor_state_then = actor_state_shows disk store meta opening w a outcome w' t c z Copy copies

    same_partition_state : w'.partition_state ≡ w.partition_state → ShowsPartition disk.content w'.partition_state c.partition
    same_partition_state = partition_state_same disk store meta opening w a outcome w' t c z Copy copies

    -- a log that was read
    partition_state_read : (x' : Node D) → ReadsLocalLog disk z.x x' → w'.partition_state ≡ put_node w.partition_state t.order.broker.0 x' → ShowsPartition disk.content w'.partition_state c.partition
    partition_state_read x' r same =
        partition_state_looks disk.content disk.control w.partition_state c.partition t.order.broker.0 z.x r.kept w'.partition_state c.shows z.at r.stays
        (same ∙ ap (put_node w.partition_state t.order.broker.0) r.after)

    leads : t.actor_state.in_progress ≡ Idle → (o : Outcome) → outcome ≡ o → LeadersFirstRow meta w.partition_state w.tier t.order.broker.0 z.x z.broker_tier o w'.tier → w'.partition_state ≡ w.partition_state → IsCentral disk store meta opening w'
    leads idle o is row same =
        leads_first disk store meta opening w a outcome w' t c z Copy copies idle (λ turn. refl) (λ g. refl) (λ turn r. copy_row c.partition (node_of z.x z.s) turn c.partition r) o is row same

    first : t.actor_state.in_progress ≡ Idle → (o : Outcome) → outcome ≡ o → CopyFirstRow meta w.partition_state w.tier t.order.broker.0 z.x z.broker_tier o w'.tier → w'.partition_state ≡ w.partition_state → IsCentral disk store meta opening w'
    first idle (Answers CopyOff) is row same = stands disk store meta opening w a outcome w' t c z Copy copies Idle idle CopyOff is refl row.3 (same_partition_state same) (row.0, row.1, refl)
    first idle (Answers MetaFault) is row same = leads idle (Answers MetaFault) is row.0 same
    first idle (Begins g) is row same = leads idle (Begins g) is row.0 same
    first idle other is row same = leads idle other is row same

    -- the second turn
    broker_tier_kept : (n : ReadsNext disk w.partition w.partition_state w.tier t.order.broker.0 z.x z.broker_tier outcome w'.partition_state w'.tier) → n.broker_tier_after ≡ z.broker_tier → w'.tier ≡ w.tier
    broker_tier_kept n same =
        n.tier ∙ (ap (λ (k : BrokerTierState). put_broker_tier w.tier t.order.broker.0 k) same ∙ ap (λ (k : List BrokerTierState). record w.tier { broker_tiers = k }) (set_same w.tier.broker_tiers t.order.broker.0 z.broker_tier z.broker_tier_at))

    reads : (g : StartSnapshot) → t.actor_state.in_progress ≡ Noted g → KeepsLead z.x g → (n : ReadsNext disk w.partition w.partition_state w.tier t.order.broker.0 z.x z.broker_tier outcome w'.partition_state w'.tier) → (o : Outcome) → outcome ≡ o
        → ReadSegmentRow disk w.partition t.order.broker.0 z.x z.broker_tier (copied_to z.x z.broker_tier w.partition_state.registry.start) o n.node n.broker_tier_after → IsCentral disk store meta opening w'
    reads g recorded keeps n (Answers DiskFault) is row =
        stands disk store meta opening w a outcome w' t c z Copy copies (Noted g) recorded DiskFault is refl (broker_tier_kept n row.1) (partition_state_read n.node row.0.reads n.partition_state) (keeps_seen z.x z.s g keeps, refl)
    reads g recorded keeps n (Answers (Damaged (File name) at)) is row =
        stands disk store meta opening w a outcome w' t c z Copy copies (Noted g) recorded (Damaged (File name) at) is refl (broker_tier_kept n row.1) (partition_state_read n.node row.0.reads n.partition_state) (keeps_seen z.x z.s g keeps, refl)
    reads g recorded keeps n (Chose copy) is row =
        let i = some_of (λ i. n.broker_tier_after ≡ counted z.broker_tier i) (incarnation_in z.x.log) row.2 in
        silent disk store meta opening w a outcome w' t c z Copy copies (subst (GoesAsRecorded t.actor_state.in_progress) (sym is) tt) (subst IsNoDate (sym is) tt) (unseen disk store meta opening w a outcome w' t c z Copy copies (ap (λ (o : Outcome). actor_state_seen (actor_state_after t.actor_state o)) is ∙ ap (λ (o : Option StartSnapshot). record { number = t.actor_state.number; snapshot = o }) (chosen_seen t.actor_state.in_progress copy)))
        (untold disk store meta opening w a outcome w' t c z Copy copies (ap (told_of t.list.actor t.actor_state.number t.order.command) is)) (partition_state_read n.node row.0.reads n.partition_state)
        (chosen_scene disk store meta opening w c t.place t.list t.actor_state t.order z copy)
        (chosen_changed disk store meta opening w c t.place t.list t.actor_state t.order z g copy (copied_to z.x z.broker_tier w.partition_state.registry.start) n.node recorded copies keeps row.0 row.1)
        (chosen_shown disk store meta opening w c t.place t.list t.actor_state t.order z w' g copy t.partition t.lists (t.desk ∙ ap (λ (o : Outcome). slice_set w.desk t.place (actor_state_after t.actor_state o)) is)
        (some_at (λ (k : ℕ). w'.tier ≡ put_broker_tier w.tier t.order.broker.0 (counted z.broker_tier k)) (incarnation_in z.x.log) i.0 i.1 (n.tier ∙ ap (put_broker_tier w.tier t.order.broker.0) i.2)) recorded)
    reads g recorded keeps n other is row = elim row [ ]

    second : (g : StartSnapshot) → t.actor_state.in_progress ≡ Noted g → ChooseRow disk w.partition w.partition_state w.tier t.order.broker.0 z.x z.broker_tier g outcome w'.partition_state w'.tier → IsCentral disk store meta opening w'
    second g recorded (inl lost) =
        stands disk store meta opening w a outcome w' t c z Copy copies (Noted g) recorded LostLead lost.1 refl lost.3 (same_partition_state lost.2) ((λ k. lost.0 (keeps_back z.x z.s g k)), refl)
    second g recorded (inr (keeps, inl level)) = stands disk store meta opening w a outcome w' t c z Copy copies (Noted g) recorded Level level.1 refl level.3 (same_partition_state level.2) (keeps_seen z.x z.s g keeps, refl)
    second g recorded (inr (keeps, inr n)) = reads g recorded keeps n outcome refl n.row

    -- a later turn
    copies_on : (g : StartSnapshot) (copy : Copied) (next : CopyStep) → t.actor_state.in_progress ≡ Copies g copy next → KeepsLead z.x g → (turn : Turn CopyStep) → outcome ≡ copy_outcome turn
        → GoesOnCopy store meta w.partition_state w.tier t.order.broker.0 z.broker_tier copy next turn w'.tier → w'.partition_state ≡ w.partition_state → IsCentral disk store meta opening w'
    copies_on g copy next works keeps turn is goes same = by turn is goes changed
      where
        at : ShowsScene c.scene t.place t.order.broker.0 its (CopiesSeen copy next) (store.content w.tier.store) (meta.content w.tier.meta) z.broker_tier.view
        at = subst (λ (k : TierTask). ShowsScene c.scene t.place t.order.broker.0 its k (store.content w.tier.store) (meta.content w.tier.meta) z.broker_tier.view) (ap (tier_task_of (Some t.order)) works)
            (shows_at disk store meta opening w c t.place t.list t.actor_state t.order z)

        changed : IsChanged c.scene c.central.plain (then (copy_tier_task copy turn) (store.content w'.tier.store).objects (meta.content w'.tier.meta).notes goes.view)
        changed = copy_turns store.content store.control meta.content meta.control copy (origin_of w.partition_state t.order.broker.0) next (Ok turn) (tiers_of z.broker_tier.view w.tier) (tiers_of goes.view w'.tier)
            c.scene c.central.plain t.place t.order.broker.0 its goes.row at (few_now disk store meta opening w c) c.tier

        by : (turn : Turn CopyStep) → outcome ≡ copy_outcome turn → (goes : GoesOnCopy store meta w.partition_state w.tier t.order.broker.0 z.broker_tier copy next turn w'.tier)
            → IsChanged c.scene c.central.plain (then (copy_tier_task copy turn) (store.content w'.tier.store).objects (meta.content w'.tier.meta).notes goes.view) → IsCentral disk store meta opening w'
        by (Ends answer) is goes k =
            entered disk store meta opening w a outcome w' t c z Copy copies (Copies g copy next) works (turned.Answers answer) (then Free (store.content w'.tier.store).objects (meta.content w'.tier.meta).notes goes.view) is refl (same_partition_state same)
            (end_row c.partition (node_of z.x z.s) g answer (copy_ends store meta copy (origin_of w.partition_state t.order.broker.0) next answer (tiers_of z.broker_tier.view w.tier) (tiers_of goes.view w'.tier) goes.row) (keeps_seen z.x z.s g keeps))
            k
            (shown disk store meta opening w a outcome w' t c z Copy copies Free (store.content w'.tier.store).objects (meta.content w'.tier.meta).notes goes.view (ap (λ (u : RemoteTier S M). u.broker_tiers) goes.after)
            (copy_tells store meta copy (origin_of w.partition_state t.order.broker.0) next (Ends answer) (tiers_of z.broker_tier.view w.tier) (tiers_of goes.view w'.tier) goes.row) refl refl
            (answered_free disk store meta opening w c t.place t.list t.actor_state t.order z outcome answer is))
        by (GoesOn further) is goes k =
            silent disk store meta opening w a outcome w' t c z Copy copies (subst (GoesAsRecorded t.actor_state.in_progress) (sym is) tt) (subst IsNoDate (sym is) tt) (unseen disk store meta opening w a outcome w' t c z Copy copies (ap (λ (o : Outcome). actor_state_seen (actor_state_after t.actor_state o)) is ∙ ap (λ (o : Option StartSnapshot). record { number = t.actor_state.number; snapshot = o }) (moved_seen t.actor_state.in_progress further)))
            (untold disk store meta opening w a outcome w' t c z Copy copies (ap (told_of t.list.actor t.actor_state.number t.order.command) is)) (same_partition_state same)
            (then (CopiesSeen copy further) (store.content w'.tier.store).objects (meta.content w'.tier.meta).notes goes.view) k
            (shown disk store meta opening w a outcome w' t c z Copy copies (CopiesSeen copy further) (store.content w'.tier.store).objects (meta.content w'.tier.meta).notes goes.view (ap (λ (u : RemoteTier S M). u.broker_tiers) goes.after)
            (copy_tells store meta copy (origin_of w.partition_state t.order.broker.0) next (GoesOn further) (tiers_of z.broker_tier.view w.tier) (tiers_of goes.view w'.tier) goes.row) refl refl
            (ap actor_state_then is ∙ (ap (λ (k : InProgress). tier_task_of (slice_get t.list.orders t.actor_state.number) (moved k further)) works ∙ ap (λ (o : Option Order). tier_task_of o (Copies g copy further)) z.next)))

    later : (g : StartSnapshot) (copy : Copied) (next : CopyStep) → t.actor_state.in_progress ≡ Copies g copy next → CopyOnRow store meta w.partition_state w.tier t.order.broker.0 z.x z.broker_tier g copy next outcome w'.tier
        → w'.partition_state ≡ w.partition_state → IsCentral disk store meta opening w'
    later g copy next works (inl lost) same =
        stands disk store meta opening w a outcome w' t c z Copy copies (Copies g copy next) works LostLead lost.1 refl lost.2 (same_partition_state same) ((λ k. lost.0 (keeps_back z.x z.s g k)), refl)
    later g copy next works (inr (keeps, (turn, is, goes))) same = copies_on g copy next works keeps turn is goes same

    -- any turn of a copy
    pub copy_central : (in_progress : InProgress) → t.actor_state.in_progress ≡ in_progress → Row disk store meta w.partition w.config w.partition_state w.tier t.order.broker.0 z.x z.broker_tier in_progress Copy outcome w'.partition_state w'.tier → IsCentral disk store meta opening w'
    copy_central Idle is row = first is outcome refl row.0 row.1
    copy_central (Noted g) is row = second g is row
    copy_central (Copies g copy next) is row = later g copy next is row.0 row.1
    copy_central (Seeks g next) is row = absurd row
    copy_central (Dates g cursor next) is row = absurd row
    copy_central (Expires g segment next) is row = absurd row
    copy_central (Rebuilds g next) is row = absurd row
