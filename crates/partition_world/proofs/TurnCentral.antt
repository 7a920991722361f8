-- A turn that changes nothing that is seen of the partition keeps the central fact, where it makes changes of the tier.
--
-- It is entered, or it isn't; and it leaves the tier as it was, or the command leaves the desk, or a broker's view
-- takes metadata events.
use Rattle.std.proofs.Common.{◌≡◌, ◌∙◌, sym, ap, subst, refl, ℕ, ◌++◌, List, [], slice_get, slice_set, Some, None, Option, false, append-nil}
use Rattle.disk_model.specs.declared.disk.Disk.{Ghosts as DiskGhosts}
use Rattle.object_store.specs.declared.store.Store.{Ghosts as StoreGhosts}
use Rattle.object_store.specs.Content.{Objects}
use Rattle.meta_log.specs.declared.log.MetaLog.{Ghosts as MetaGhosts}
use Rattle.segment_meta.specs.declared.note.Note.{Note}
use Rattle.remote_view.specs.Fold.{EntriesSeen as View}
use Rattle.plain_log.specs.declared.answer.Answer.{Answer}
use Rattle.plain_log.specs.declared.answer.Answer.TheVariants.{Down, NotLeader, MetaFault}
use Rattle.plain_log.specs.declared.command.Command.{Command}
use Rattle.plain_log.specs.declared.command.Order.{Order}
use Rattle.plain_log.specs.declared.journal.JournalEntry.{JournalEntry}
use Rattle.plain_log.specs.declared.state.State.{State}
use Rattle.laws_partition.specs.declared.start_snapshot.StartSnapshot.{StartSnapshot}
use Rattle.laws_partition.specs.declared.start_snapshot.Turned.{Turned}
use Rattle.laws_partition.specs.declared.start_snapshot.Turned.TheVariants as turned
use Rattle.laws_partition.specs.Seen as seen
use Rattle.laws_partition.specs.Rows as seen_rows
use Rattle.laws_partition.specs.RowsOfTiers.{LeadersRow}
use Rattle.laws_tier_turns.specs.Turns.{may_raise}
use Rattle.partition_commands.specs.declared.partition_state.PartitionState.{PartitionState}
use Rattle.partition_commands.specs.Partition.{node_of, ShowsPartition}
use Rattle.partition_commands.proofs.OwnRefined.{notes_shown}
use Rattle.tier_safe.specs.Scene.{Scene, BrokerTierView, TierTask, Free}
use Rattle.tier_safe.specs.May.{IsChanged}
use Rattle.tier_safe.specs.Turns.{ShowsScene}
use Rattle.tier_safe.proofs.Turning.{refreshes}
use Rattle.partition_world.specs.declared.actor_state.Outcome.{Outcome}
use Rattle.partition_world.specs.declared.actor_state.Outcome.TheVariants.{Answers, Begins}
use Rattle.partition_world.specs.declared.actor_state.InProgress.{InProgress}
use Rattle.partition_world.specs.declared.actor_state.InProgress.TheVariants.{Idle, Noted}
use Rattle.partition_world.specs.declared.tier.RemoteTier.{RemoteTier}
use Rattle.partition_world.specs.ActorStates.{recorded_in, outcome_of, actor_state_after, actor_state_seen, desk_seen, told_of}
use Rattle.partition_world.specs.Tier.{RefreshesBroker}
use Rattle.partition_world.specs.Central.{IsCentral, ShowsTier, tier_task_of, begun_of}
use Rattle.partition_world.specs.Turn.{IsTurn}
use Rattle.partition_world.specs.TurnsOfCopy.{LeadersFirstRow}
use Rattle.partition_world.specs.Whole.{Whole}
use Rattle.partition_world.proofs.CopyEnds.{TellsOn}
use Rattle.partition_world.proofs.Entered.{enters, entered_central, silent_central}
use Rattle.partition_world.proofs.Scenes.{Place, tier_view, scene_after, shows_at, shows_after, tier_task_after, same_broker_tiers, left_changed, answered_free, few_now, few_after}
use Rattle.partition_world.proofs.Recording.{GoesAsRecorded, own_recorded, turn_recorded}
use Rattle.partition_world.proofs.Dating.{GoesAsDated, IsNoDate, undated, turn_dated}
use Rattle.partition_world.proofs.WorldSound.{seen_stays}

module _ {D S M : Type 0} (disk : DiskGhosts D) (store : StoreGhosts S) (meta : MetaGhosts M) where
  -- a turn of a command, in its place
  module _ (opening : State) (w : Whole D S M) (a : ℕ) (outcome : Outcome) (w' : Whole D S M) (t : IsTurn disk store meta w a outcome w') (c : IsCentral disk store meta opening w)
      (z : Place disk store meta opening w c t.place t.list t.actor_state t.order) (command : Command) (is_command : t.order.command ≡ command) where
    -- its broker, as it is seen
    abbrev pub y : seen.Node
    y = node_of z.x z.s

    -- its tier state of the scene
    abbrev pub here : BrokerTierView
    here = tier_view disk store meta opening w c t.place t.list t.actor_state t.order z

    -- the scene after it
    abbrev pub after : TierTask → Objects → List Note → View → Scene
    after in_progress objects notes view = scene_after disk store meta opening w c t.place t.list t.actor_state t.order z in_progress objects notes view

    -- what its state shows after it
    abbrev pub actor_state_shows : Outcome → TierTask
    actor_state_shows o = tier_task_after disk store meta opening w c t.place t.list t.actor_state t.order z o

    -- the row of an entry, of a command that keeps this
    abbrev pub SeenRow : InProgress → Turned → Type 0
    SeenRow in_progress turn = seen_rows.Row c.partition t.order.broker.0 y (recorded_in in_progress) command turn c.partition

    pub shown : (in_progress : TierTask) (objects : Objects) (notes : List Note) (view : View) → w'.tier.broker_tiers ≡ slice_set w.tier.broker_tiers t.order.broker.0 (record z.broker_tier { view = view })
        → TellsOn store meta w.tier.store w.tier.meta w'.tier.store w'.tier.meta → objects ≡ (store.content w'.tier.store).objects → notes ≡ (meta.content w'.tier.meta).notes
        → actor_state_shows outcome ≡ in_progress → ShowsTier store meta w' c.partition (after in_progress objects notes view)
    shown in_progress objects notes view broker_tiers is_observable o n is =
        shows_after disk store meta opening w c t.place t.list t.actor_state t.order z w' outcome in_progress objects notes view t.partition t.lists t.desk broker_tiers is_observable o n is

    -- an entry that changes nothing that is seen of the partition
    pub entered : (in_progress : InProgress) → t.actor_state.in_progress ≡ in_progress → (turn : Turned) (d : Scene) → outcome ≡ outcome_of turn → may_raise (recorded_in in_progress) command turn ≡ false → ShowsPartition disk.content w'.partition_state c.partition → SeenRow in_progress turn
        → IsChanged c.scene c.central.plain d → ShowsTier store meta w' c.partition d → IsCentral disk store meta opening w'
    entered in_progress keeps turn d is low partition_state row changed shows =
        let kept = subst (λ (k : InProgress). SeenRow k turn) (sym keeps) row in
        let e = enters disk store meta w outcome w' c.partition t.list t.actor_state t.order turn c.partition y is partition_state z.sees.there
        (subst (λ (k : Command). seen_rows.Row c.partition t.order.broker.0 y (recorded_in t.actor_state.in_progress) k turn c.partition) (sym is_command) kept) in
        entered_central disk store meta opening w a outcome w' t c e d changed shows
        (ap (λ (k : Command). may_raise (recorded_in t.actor_state.in_progress) k turn) is_command ∙ (ap (λ (k : InProgress). may_raise (recorded_in k) command turn) keeps ∙ low))
        (turn_recorded disk store meta w a outcome w' t c.recorded (own_recorded t.actor_state.in_progress turn outcome is))
        (few_after disk store meta opening w a outcome w' t c c.partition d shows)

    -- an answer after which the devices hold what they did
    pub rests : (in_progress : InProgress) → t.actor_state.in_progress ≡ in_progress → (answer : Answer) → outcome ≡ Answers answer → may_raise (recorded_in in_progress) command (turned.Answers answer) ≡ false → w'.tier.broker_tiers ≡ w.tier.broker_tiers → TellsOn store meta w.tier.store w.tier.meta w'.tier.store w'.tier.meta
        → (store.content w'.tier.store).objects ≡ (store.content w.tier.store).objects → (meta.content w'.tier.meta).notes ≡ (meta.content w.tier.meta).notes
        → ShowsPartition disk.content w'.partition_state c.partition → SeenRow in_progress (turned.Answers answer) → IsCentral disk store meta opening w'
    rests in_progress keeps answer is low broker_tiers is_observable objects notes partition_state row =
        entered in_progress keeps (turned.Answers answer) (after Free c.scene.objects c.scene.notes z.broker_tier.view) is low partition_state row
        (left_changed disk store meta opening w c t.place t.list t.actor_state t.order z)
        (shown Free c.scene.objects c.scene.notes z.broker_tier.view (broker_tiers ∙ same_broker_tiers disk store meta opening w c t.place t.list t.actor_state t.order z) is_observable
        (c.shows_tier.objects ∙ sym objects) (c.shows_tier.notes ∙ sym notes) (answered_free disk store meta opening w c t.place t.list t.actor_state t.order z outcome answer is))

    -- an answer after which the tier is as it was
    pub stands : (in_progress : InProgress) → t.actor_state.in_progress ≡ in_progress → (answer : Answer) → outcome ≡ Answers answer → may_raise (recorded_in in_progress) command (turned.Answers answer) ≡ false → w'.tier ≡ w.tier → ShowsPartition disk.content w'.partition_state c.partition → SeenRow in_progress (turned.Answers answer)
        → IsCentral disk store meta opening w'
    stands in_progress keeps answer is low same partition_state row =
        rests in_progress keeps answer is low (ap (λ (k : RemoteTier S M). k.broker_tiers) same) (ap (λ (k : RemoteTier S M). (store.content k.store).is_observable) same, ap (λ (k : RemoteTier S M). (meta.content k.meta).is_observable) same)
        (ap (λ (k : RemoteTier S M). (store.content k.store).objects) same) (ap (λ (k : RemoteTier S M). (meta.content k.meta).notes) same) partition_state row

    pub partition_state_same : w'.partition_state ≡ w.partition_state → ShowsPartition disk.content w'.partition_state c.partition
    partition_state_same same = subst (λ (k : PartitionState D). ShowsPartition disk.content k c.partition) (sym same) c.shows

    -- an actor's state that keeps what was recorded
    pub begun_shows : (g : StartSnapshot) → outcome ≡ Begins g → actor_state_shows outcome ≡ begun_of t.order.broker.0 g command
    begun_shows g is =
        ap actor_state_shows is ∙ (ap (λ (o : Option Order). tier_task_of o (Noted g)) z.next ∙ ap (begun_of t.order.broker.0 g) is_command)

    -- a first turn that refreshes the broker's view, of a command that the tier sees nothing of yet
    pub begins : t.actor_state.in_progress ≡ Idle → (g : StartSnapshot) → outcome ≡ Begins g → may_raise None command (turned.Begins g) ≡ false → begun_of t.order.broker.0 g command ≡ Free → SeenRow Idle (turned.Begins g) → RefreshesBroker meta w.tier t.order.broker.0 z.broker_tier w'.tier → w'.partition_state ≡ w.partition_state
        → IsCentral disk store meta opening w'
    begins idle g is low free row r same =
        let at = subst (λ (k : TierTask). ShowsScene c.scene t.place t.order.broker.0 here k (store.content w.tier.store) (meta.content w.tier.meta) z.broker_tier.view) (ap (tier_task_of (Some t.order)) idle)
        (shows_at disk store meta opening w c t.place t.list t.actor_state t.order z) in
        let k = refreshes store.content store.control meta.content meta.control w.tier.meta r.view c.scene c.central.plain t.place t.order.broker.0 here Free (store.content w.tier.store) at
        (few_now disk store meta opening w c) c.tier r.reads.view in
        entered Idle idle (turned.Begins g) (after Free c.scene.objects c.scene.notes r.view) is low (partition_state_same same) row k.1
        (shown Free c.scene.objects c.scene.notes r.view (ap (λ (u : RemoteTier S M). u.broker_tiers) r.after) (ap (λ (u : RemoteTier S M). (store.content u.store).is_observable) r.after, r.reads.content.is_observable)
        (c.shows_tier.objects ∙ sym (ap (λ (u : RemoteTier S M). (store.content u.store).objects) r.after)) (c.shows_tier.notes ∙ sym r.reads.content.notes) (begun_shows g is ∙ free))

    -- a leader's first turn on the tier
    pub leads_first : t.actor_state.in_progress ≡ Idle → ((turn : Turned) → may_raise None command turn ≡ false) → ((g : StartSnapshot) → begun_of t.order.broker.0 g command ≡ Free)
        → ((turn : Turned) → LeadersRow c.partition y turn c.partition → SeenRow Idle turn) → (o : Outcome) → outcome ≡ o
        → LeadersFirstRow meta w.partition_state w.tier t.order.broker.0 z.x z.broker_tier o w'.tier → w'.partition_state ≡ w.partition_state → IsCentral disk store meta opening w'
    leads_first idle low free row_of (Answers Down) is row same = stands Idle idle Down is (low (turned.Answers Down)) row.1 (partition_state_same same) (row_of (turned.Answers Down) (row.0, refl))
    leads_first idle low free row_of (Answers NotLeader) is row same =
        stands Idle idle NotLeader is (low (turned.Answers NotLeader)) row.2 (partition_state_same same) (row_of (turned.Answers NotLeader) (row.0, row.1, refl))
    leads_first idle low free row_of (Answers MetaFault) is row same =
        rests Idle idle MetaFault is (low (turned.Answers MetaFault)) (ap (λ (u : RemoteTier S M). u.broker_tiers) row.2.after)
        (ap (λ (u : RemoteTier S M). (store.content u.store).is_observable) row.2.after, row.2.reads.content.is_observable)
        (ap (λ (u : RemoteTier S M). (store.content u.store).objects) row.2.after) row.2.reads.content.notes (partition_state_same same) (row_of (turned.Answers MetaFault) (row.0, row.1, refl))
    leads_first idle low free row_of (Begins g) is row same =
        begins idle g is (low (turned.Begins g)) (free g)
        (row_of (turned.Begins g) (row.0, row.1, notes_shown disk.content disk.control w.partition_state c.partition t.order.broker.0 z.x z.s g z.sees row.0 row.2, refl)) row.3 same
    leads_first idle low free row_of other is row same = elim row [ ]

    -- a turn that enters nothing
    pub silent_dated : GoesAsRecorded t.actor_state.in_progress outcome → GoesAsDated c.central.plain (slice_get t.list.orders t.actor_state.number) t.actor_state.in_progress outcome → desk_seen w'.desk ≡ desk_seen w.desk
        → w'.journal.items ≡ w.journal.items → ShowsPartition disk.content w'.partition_state c.partition → (d : Scene) → IsChanged c.scene c.central.plain d → ShowsTier store meta w' c.partition d
        → IsCentral disk store meta opening w'
    silent_dated goes far desk items partition_state d changed shows =
        silent_central disk store meta opening w w' c t.lists desk items partition_state d changed shows (turn_recorded disk store meta w a outcome w' t c.recorded goes)
        (turn_dated disk store meta w a outcome w' t c.central.plain c.dated far)
        (few_after disk store meta opening w a outcome w' t c c.partition d shows)

    -- of a command that isn't a timestamp lookup
    pub silent : GoesAsRecorded t.actor_state.in_progress outcome → IsNoDate outcome → desk_seen w'.desk ≡ desk_seen w.desk → w'.journal.items ≡ w.journal.items → ShowsPartition disk.content w'.partition_state c.partition → (d : Scene)
        → IsChanged c.scene c.central.plain d → ShowsTier store meta w' c.partition d → IsCentral disk store meta opening w'
    silent goes none desk items partition_state d changed shows =
        silent_dated goes (undated c.central.plain (slice_get t.list.orders t.actor_state.number) t.actor_state.in_progress outcome none) desk items partition_state d changed shows

    pub untold : told_of t.list.actor t.actor_state.number t.order.command outcome ≡ [] → w'.journal.items ≡ w.journal.items
    untold none = t.entered ∙ (ap (λ (more : List JournalEntry). w.journal.items ++ more) none ∙ append-nil w.journal.items)

    pub unseen : actor_state_seen (actor_state_after t.actor_state outcome) ≡ actor_state_seen t.actor_state → desk_seen w'.desk ≡ desk_seen w.desk
    unseen same = ap desk_seen t.desk ∙ seen_stays disk store meta w.desk t.place t.actor_state (actor_state_after t.actor_state outcome) t.at.actor_state_is same
