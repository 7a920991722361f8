-- Each answer of a copy has its cause.
use Rattle.std.proofs.Common.{◌≡◌, ◌≢◌, ◌∙◌, inl, inr, sym, ap, subst, refl, ℕ, ◌+◌, ◌<◌, List, Some, None, Option, Ok, slice_get, true}
use Rattle.std.specs.Prelude.{IsSomeAnd}
use Rattle.tier_base.specs.declared.names.SegmentId.{SegmentId}
use Rattle.tier_base.specs.declared.plain.State.{State as CopyState}
use Rattle.tier_base.specs.declared.plain.State.TheVariants.{CopyStarted, CopyFinished, DeleteStarted, DeleteFinished}
use Rattle.tier_base.specs.declared.object_key.ObjectKey.{ObjectKey}
use Rattle.disk_model.specs.declared.disk.Disk.{Ghosts as DiskGhosts}
use Rattle.object_store.specs.declared.store.Store.{Ghosts as StoreGhosts}
use Rattle.meta_log.specs.declared.log.MetaLog.{Ghosts as MetaGhosts}
use Rattle.meta_log.specs.declared.event_origin.EventOrigin.{EventOrigin}
use Rattle.segment_meta.specs.declared.note.Entry.{Entry}
use Rattle.segment_meta.specs.declared.note.Note.{Note}
use Rattle.remote_view.specs.Fold.{EntriesSeen as View, state_of, entry_of, fold}
use Rattle.copy_task.specs.Copying.{Copied, keys}
use Rattle.copy_task.specs.Turns.{StartRow, FinishRow, CheckRow, PutObjectRow, DeleteRow, CopyTurnRow, checked, delete_at, overtaken}
use Rattle.plain_log.specs.declared.turn.Turn.{Turn}
use Rattle.plain_log.specs.declared.turn.Turn.TheVariants.{Goes as GoesOn, Ends}
use Rattle.copy_task.specs.declared.turn.CopyStep.{CopyStep}
use Rattle.copy_task.specs.declared.turn.CopyStep.TheVariants.{Start, Put, Finish, Check, Delete}
use Rattle.plain_log.specs.declared.answer.Answer.{Answer}
use Rattle.plain_log.specs.declared.answer.Answer.TheVariants.{Down, NotLeader, CopyOff, MetaFault, LostLead, Level, DiskFault, StoreFault, Damaged, CopiedSegment}
use Rattle.plain_log.specs.declared.answer.Place.TheVariants.{File}
use Rattle.plain_log.specs.declared.command.Command.{Command}
use Rattle.plain_log.specs.declared.command.Command.TheVariants.{Copy}
use Rattle.plain_log.specs.declared.state.State.{State}
use Rattle.laws_partition.specs.declared.start_snapshot.StartSnapshot.{StartSnapshot}
use Rattle.laws_partition.proofs.Standing.{get_put}
use Rattle.broker_log.specs.Seen.{Lasting, Faulted, OneFault}
use Rattle.partition_commands.proofs.LastingDisks.{one_faulted}
use Rattle.partition_commands.specs.declared.partition_state.Node.{Node}
use Rattle.partition_commands.specs.declared.partition_state.PartitionState.{PartitionState}
use Rattle.partition_commands.specs.Partition.{AtNode}
use Rattle.partition_commands.proofs.Shown.{some_at}
use Rattle.tier_safe.specs.Copies.{is_deleted}
use Rattle.tier_safe.specs.Scene.{TierTask, Copies as CopiesSeen}
use Rattle.tier_safe.specs.Turns.{ShowsScene}
use Rattle.tier_safe.proofs.Turning.{refreshes}
use Rattle.partition_world.specs.declared.actor_state.Outcome.TheVariants.{Answers, Begins}
use Rattle.partition_world.specs.declared.actor_state.InProgress.{InProgress}
use Rattle.partition_world.specs.declared.actor_state.InProgress.TheVariants.{Idle, Noted, Copies, Seeks, Dates, Expires, Rebuilds}
use Rattle.partition_world.specs.declared.tier.BrokerTierState.{BrokerTierState}
use Rattle.partition_world.specs.ActorStates.{copy_outcome}
use Rattle.partition_world.specs.Tier.{AtBrokerTier}
use Rattle.partition_world.specs.Central.{IsCentral, tier_task_of}
use Rattle.partition_world.specs.Turn.{IsTurn}
use Rattle.partition_world.specs.TurnsOfCopy.{CopyFirstRow, ReadSegmentRow, ReadsNext, ChooseRow, CopyOnRow, GoesOnCopy, copied_to, tiers_of, origin_of}
use Rattle.partition_world.specs.Turns.{Row}
use Rattle.partition_world.specs.Whole.{Whole}
use Rattle.partition_world.proofs.Begins.{row_of, begins_idle}
use Rattle.partition_world.proofs.Scenes.{Place, place_of, tier_view, shows_at, few_now}
use Rattle.laws_answers.specs.CausesOfCopies.{CopyFirstCause, ChoiceCause, CopyLaterCause, CopyHasCause}
use Rattle.laws_answers.specs.DeletionsKnown.{DeletionsKnown, ShowsDeleted}

-- an id with an entry has that entry's state
state_is : (id : SegmentId) (entries : List Entry) (entry : Entry) → entry_of id entries ≡ Some entry → state_of id entries ≡ Some entry.state
state_is id entries entry at = rw at refl

ends_same : (k l : Answer) → ◌≡◌ {A = Turn CopyStep} (Ends k) (Ends l) → k ≡ l
ends_same k l is = cc

module _ {D S M : Type 0} (disk : DiskGhosts D) (store : StoreGhosts S) (meta : MetaGhosts M) where
  module _ (opening : State) (w : Whole D S M) (a : ℕ) (answer : Answer) (w' : Whole D S M) (t : IsTurn disk store meta w a (Answers answer) w')
      (c : IsCentral disk store meta opening w) (known : DeletionsKnown meta w) (z : Place disk store meta opening w c t.place t.list t.actor_state t.order) where
    abbrev b : ℕ
    b = t.order.broker.0

    first : (k : Answer) → CopyFirstRow meta w.partition_state w.tier b z.x z.broker_tier (Answers k) w'.tier → CopyFirstCause disk store meta w z.x k w'
    first Down row = row.0
    first NotLeader row = row.1
    first CopyOff row = (row.0, row.1, row.2)
    first MetaFault row = (row.1, row.0.2.reads.control.ran.cause refl)
    first other row = elim row [ ]

    -- the segment that comes next is read
    reads : (g : StartSnapshot) (n : ReadsNext disk w.partition w.partition_state w.tier b z.x z.broker_tier (Answers answer) w'.partition_state w'.tier) (k : Answer)
        → ReadSegmentRow disk w.partition b z.x z.broker_tier (copied_to z.x z.broker_tier w.partition_state.registry.start) (Answers k) n.node n.broker_tier_after → ChoiceCause disk store meta w b z.x z.broker_tier g k w'
    reads g n DiskFault row =
        let lasts : Lasting disk.control z.x.log n.node.log = rw row.0.reads.after row.0.reads.lasts in
        let one : OneFault disk.control z.x.log n.node.log = rw row.0.reads.after row.0.cause in
        let failed : Faulted disk.control z.x.log n.node.log = one_faulted disk.control z.x.log n.node.log lasts one in
        let there : slice_get w'.partition_state.nodes b ≡ Some n.node = ap (λ (h : PartitionState D). slice_get h.nodes b) n.partition_state ∙ get_put w.partition_state.nodes b z.x n.node z.at in
        some_at (λ (x : Node D). AtNode w'.partition_state b (λ y. Faulted disk.control x.log y.log)) (slice_get w.partition_state.nodes b) z.x z.at
        (some_at (λ (y : Node D). Faulted disk.control z.x.log y.log) (slice_get w'.partition_state.nodes b) n.node there failed)
    reads g n (Damaged (File name) at) row = absurd (row.0.unseen z.s z.sees.shows)
    reads g n other row = elim row [ ]

    second : (g : StartSnapshot) → ChooseRow disk w.partition w.partition_state w.tier b z.x z.broker_tier g (Answers answer) w'.partition_state w'.tier → ChoiceCause disk store meta w b z.x z.broker_tier g answer w'
    second g (inl lost) = let is : LostLead ≡ answer = cc (lost.1) in subst (λ (k : Answer). ChoiceCause disk store meta w b z.x z.broker_tier g k w') is lost.0
    second g (inr (keeps, inl level)) = let is : Level ≡ answer = cc (level.1) in subst (λ (k : Answer). ChoiceCause disk store meta w b z.x z.broker_tier g k w') is level.0
    second g (inr (keeps, inr n)) = reads g n answer n.row

    -- a later turn
    abbrev Later : StartSnapshot → Copied → Answer → Type 0
    Later g copy k = CopyLaterCause disk store meta w z.x g copy k w'

    start : (g : StartSnapshot) (copy : Copied) (origin : EventOrigin) (k : Answer) → StartRow meta.content meta.control copy origin (Ok (Ends k)) w.tier.meta w'.tier.meta → Later g copy k
    start g copy origin MetaFault row = row.control.ran.cause refl
    start g copy origin other row = let e = row.0 in absurd (cc (e))

    finish : (g : StartSnapshot) (copy : Copied) (origin : EventOrigin) (k : Answer) → FinishRow meta.content meta.control copy origin (Ok (Ends k)) w.tier.meta w'.tier.meta → Later g copy k
    finish g copy origin MetaFault row = row.control.ran.cause refl
    finish g copy origin other row = let e = row.0 in absurd (cc (e))

    put : (g : StartSnapshot) (copy : Copied) (n : ℕ) (key : Option ObjectKey) (k : Answer) → PutObjectRow store.content store.control copy n key (Ok (Ends k)) w.tier.store w'.tier.store → Later g copy k
    put g copy n None k row = let e = row.0 in absurd (cc (e))
    put g copy n (Some key) StoreFault row = row.puts.control.ran.cause refl
    put g copy n (Some key) other row = let e = row.0 in absurd (cc (e))

    -- what the actor's state is seen to keep
    module _ (g : StartSnapshot) (copy : Copied) (next : CopyStep) (works : t.actor_state.in_progress ≡ Copies g copy next) where
      at : ShowsScene c.scene t.place b (tier_view disk store meta opening w c t.place t.list t.actor_state t.order z) (CopiesSeen copy next) (store.content w.tier.store) (meta.content w.tier.meta) z.broker_tier.view
      at = subst (λ (k : TierTask). ShowsScene c.scene t.place b (tier_view disk store meta opening w c t.place t.list t.actor_state t.order z) k (store.content w.tier.store) (meta.content w.tier.meta) z.broker_tier.view)
          (ap (tier_task_of (Some t.order)) works) (shows_at disk store meta opening w c t.place t.list t.actor_state t.order z)

    -- the copy is recorded as whole
    looked : (g : StartSnapshot) (copy : Copied) (notes : ℕ) (state : CopyState) (k : Answer) → state_of copy.id (fold (meta.content w'.tier.meta).notes) ≡ Some state → state ≢ CopyStarted
        → Ends k ≡ checked copy notes (Some state) → Later g copy k
    looked g copy notes CopyStarted k has not is = absurd (not refl)
    looked g copy notes CopyFinished k has not is =
        let e : CopiedSegment copy.id copy.segment.base copy.segment.last ≡ k = cc (is) in
        subst (Later g copy) e (record { id_is = refl; base_is = refl; last_is = refl; finished = has })
    looked g copy notes DeleteStarted k has not is = absurd (cc (is))
    looked g copy notes DeleteFinished k has not is = absurd (cc (is))

    check : (g : StartSnapshot) (copy : Copied) → t.actor_state.in_progress ≡ Copies g copy Check → (view : View) (k : Answer) → CheckRow meta.content meta.control copy (Ok (Ends k)) z.broker_tier.view view w.tier.meta w'.tier.meta
        → Later g copy k
    check g copy works view MetaFault row = row.control.ran.cause refl
    check g copy works view other row =
        let shows = at g copy Check works in
        let all = refreshes store.content store.control meta.content meta.control w.tier.meta view c.scene c.central.plain t.place b
        (tier_view disk store meta opening w c t.place t.list t.actor_state t.order z) (CopiesSeen copy Check) (store.content w.tier.store) shows (few_now disk store meta opening w c) c.tier row.1.view in
        let has = (c.tier.copies.each t.place copy Check shows.actor_state).at in
        let now = state_is copy.id (fold c.scene.notes) has.entry has.there in
        let seen : state_of copy.id view.entries ≡ Some has.entry.state = ap (λ (v : View). state_of copy.id v.entries) all.0 ∙ now in
        let same : c.scene.notes ≡ (meta.content w'.tier.meta).notes = c.shows_tier.notes ∙ sym row.1.content.notes in
        looked g copy view.notes has.entry.state _ (ap (λ (ns : List Note). state_of copy.id (fold ns)) (sym same) ∙ now) has.state (row.0 ∙ ap (checked copy view.notes) seen)

    -- the copy was overtaken
    below : (g : StartSnapshot) (copy : Copied) (n : ℕ) → t.actor_state.in_progress ≡ Copies g copy (Delete n) → copy.segment.last < w.partition_state.registry.start
    below g copy n works =
        let has = (c.tier.copies.each t.place copy (Delete n) (at g copy (Delete n) works).actor_state).at in
        let low = known.below t.list.actor.0 t.place t.list t.actor_state t.order g copy (Delete n) (record { at = record { list = t.at.list; actor = refl; actor_state_is = t.at.actor_state_is }; next = t.next }) works has.entry (ap (λ (ns : List Note). entry_of copy.id (fold ns)) (sym c.shows_tier.notes) ∙ has.there) has.state in
        subst (λ (m : ℕ). m < w.partition_state.registry.start) has.is.end low

    took : (g : StartSnapshot) (copy : Copied) (notes : ℕ) (state : Option CopyState) (k : Answer) → IsSomeAnd state (λ s. is_deleted s ≡ true) → copy.segment.last < w.partition_state.registry.start
        → k ≡ overtaken notes state → Later g copy k
    took g copy notes None k gone low is = absurd gone
    took g copy notes (Some state) k gone low is = subst (Later g copy) (sym is) (gone, low)

    taken : (g : StartSnapshot) (copy : Copied) (view : View) (n : ℕ) (key : Option ObjectKey) (k : Answer) → ShowsDeleted view.entries copy.id → copy.segment.last < w.partition_state.registry.start
        → Ends k ≡ delete_at copy view n key → Later g copy k
    taken g copy view n None k gone low is = took g copy view.notes (state_of copy.id view.entries) k gone low (ends_same k (overtaken view.notes (state_of copy.id view.entries)) is)
    taken g copy view n (Some key) k gone low is = absurd (cc (is))

    delete : (g : StartSnapshot) (copy : Copied) (n : ℕ) → t.actor_state.in_progress ≡ Copies g copy (Delete n) → (key : Option ObjectKey) (k : Answer)
        → DeleteRow store.content store.control copy z.broker_tier.view n key (Ends k) w.tier.store w'.tier.store → Later g copy k
    delete g copy n works None k row =
        taken g copy z.broker_tier.view n None k (known.seen t.list.actor.0 t.place t.list t.actor_state t.order g copy n z.broker_tier (record { at = record { list = t.at.list; actor = refl; actor_state_is = t.at.actor_state_is }; next = t.next }) works z.broker_tier_at)
        (below g copy n works) row.0
    delete g copy n works (Some key) StoreFault row = row.control.ran.cause refl
    delete g copy n works (Some key) other row =
        taken g copy z.broker_tier.view (n + 1) (slice_get (keys copy) (n + 1)) _
        (known.seen t.list.actor.0 t.place t.list t.actor_state t.order g copy n z.broker_tier (record { at = record { list = t.at.list; actor = refl; actor_state_is = t.at.actor_state_is }; next = t.next }) works z.broker_tier_at)
        (below g copy n works) row.0

    ended : (g : StartSnapshot) (copy : Copied) (next : CopyStep) → t.actor_state.in_progress ≡ Copies g copy next → (k : Answer) (view : View)
        → CopyTurnRow store.content store.control meta.content meta.control copy (origin_of w.partition_state b) next (Ok (Ends k)) (tiers_of z.broker_tier.view w.tier) (tiers_of view w'.tier) → Later g copy k
    ended g copy Start works k view row = start g copy (origin_of w.partition_state b) k row.1
    ended g copy (Put n) works k view row = put g copy n (slice_get (keys copy) n) k row.1
    ended g copy Finish works k view row = finish g copy (origin_of w.partition_state b) k row.1
    ended g copy Check works k view row = check g copy works view k row.1
    ended g copy (Delete n) works k view row = delete g copy n works (slice_get (keys copy) n) k row.1

    later : (g : StartSnapshot) (copy : Copied) (next : CopyStep) → t.actor_state.in_progress ≡ Copies g copy next → CopyOnRow store meta w.partition_state w.tier b z.x z.broker_tier g copy next (Answers answer) w'.tier → Later g copy answer
    later g copy next works (inl lost) = let is : LostLead ≡ answer = cc (lost.1) in subst (Later g copy) is lost.0
    later g copy next works (inr (keeps, (turn, is, goes))) = by turn is goes
      where
        by : (turn : Turn CopyStep) → Answers answer ≡ copy_outcome turn → GoesOnCopy store meta w.partition_state w.tier b z.broker_tier copy next turn w'.tier → Later g copy answer
        by (GoesOn further) is goes = absurd (cc (is))
        by (Ends k) is goes = let same : k ≡ answer = cc (is) in subst (Later g copy) same (ended g copy next works k goes.view goes.row)

    by_in_progress : (in_progress : InProgress) → t.actor_state.in_progress ≡ in_progress → Row disk store meta w.partition w.config w.partition_state w.tier b z.x z.broker_tier in_progress Copy (Answers answer) w'.partition_state w'.tier
        → CopyHasCause disk store meta w b z.x z.broker_tier in_progress answer w'
    by_in_progress Idle is row = first answer row.0
    by_in_progress (Noted g) is row = second g row
    by_in_progress (Copies g copy next) is row = later g copy next is row.0
    by_in_progress (Seeks g next) is row = elim row [ ]
    by_in_progress (Dates g cursor next) is row = elim row [ ]
    by_in_progress (Expires g expired_segment next) is row = elim row [ ]
    by_in_progress (Rebuilds g next) is row = elim row [ ]

  pub have_causes : (opening : State) (w : Whole D S M) (a : ℕ) (answer : Answer) (w' : Whole D S M) → IsCentral disk store meta opening w → DeletionsKnown meta w
      → (t : IsTurn disk store meta w a (Answers answer) w') → t.order.command ≡ Copy
      → AtNode w.partition_state t.order.broker.0 (λ x. AtBrokerTier w.tier t.order.broker.0 (λ broker_tier. CopyHasCause disk store meta w t.order.broker.0 x broker_tier t.actor_state.in_progress answer w'))
  have_causes opening w a answer w' c known t copies =
      let b = t.order.broker.0 in
      let r = row_of disk store meta w.partition w.config w.partition_state w.tier b t.actor_state.in_progress t.order.command (Answers answer) w'.partition_state w'.tier t.row in
      let z = place_of disk store meta opening w c t.place t.list t.actor_state t.order t.at.list t.at.actor_state_is t.next r.x r.at r.broker_tier r.broker_tier_at in
      let row = subst (λ (k : Command). Row disk store meta w.partition w.config w.partition_state w.tier b r.x r.broker_tier t.actor_state.in_progress k (Answers answer) w'.partition_state w'.tier) copies r.row in
      some_at (λ (x : Node D). AtBrokerTier w.tier b (λ broker_tier. CopyHasCause disk store meta w b x broker_tier t.actor_state.in_progress answer w')) (slice_get w.partition_state.nodes b) r.x r.at
      (some_at (λ (broker_tier : BrokerTierState). CopyHasCause disk store meta w b r.x broker_tier t.actor_state.in_progress answer w') (slice_get w.tier.broker_tiers b) r.broker_tier r.broker_tier_at
      (by_in_progress opening w a answer w' t c known z t.actor_state.in_progress refl row))

  -- a copy begins where segments are copied
  pub begin_on : (w : Whole D S M) (a : ℕ) (g : StartSnapshot) (w' : Whole D S M) (t : IsTurn disk store meta w a (Begins g) w') → t.order.command ≡ Copy → w.partition_state.copying ≡ true
  begin_on w a g w' t copies =
      let b = t.order.broker.0 in
      let idle = begins_idle disk store meta w.partition w.config w.partition_state w.tier b t.actor_state.in_progress t.order.command g w'.partition_state w'.tier t.row in
      let r = row_of disk store meta w.partition w.config w.partition_state w.tier b t.actor_state.in_progress t.order.command (Begins g) w'.partition_state w'.tier t.row in
      let row = subst (λ (k : Command). Row disk store meta w.partition w.config w.partition_state w.tier b r.x r.broker_tier t.actor_state.in_progress k (Begins g) w'.partition_state w'.tier) copies r.row in
      let first : Row disk store meta w.partition w.config w.partition_state w.tier b r.x r.broker_tier Idle Copy (Begins g) w'.partition_state w'.tier =
      subst (λ (in_progress : InProgress). Row disk store meta w.partition w.config w.partition_state w.tier b r.x r.broker_tier in_progress Copy (Begins g) w'.partition_state w'.tier) idle row in
      first.0.1
