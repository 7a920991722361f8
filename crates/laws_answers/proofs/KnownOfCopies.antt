-- Each turn keeps what is known of deletions, and it is known of a new world.
use Rattle.std.proofs.Common.{◌≡◌, ◌≢◌, ◌∙◌, inl, inr, sym, ap, subst, refl, ℕ, zero, suc, ◌+◌, ◌<◌, ◌≤◌, true, List, [], ◌∷◌, ◌++◌, length, Some, None, Option, Ok, slice_get, slice_set, arith}
use Rattle.std.specs.Prelude.{IsSomeAnd, replicate}
use Rattle.tier_base.specs.declared.names.SegmentId.{SegmentId}
use Rattle.tier_base.specs.declared.plain.State.{State as CopyState}
use Rattle.tier_base.specs.declared.plain.State.TheVariants.{CopyStarted, CopyFinished, DeleteStarted, DeleteFinished}
use Rattle.tier_base.specs.declared.object_key.ObjectKey.{ObjectKey}
use Rattle.disk_model.specs.declared.disk.Disk.{Ghosts as DiskGhosts}
use Rattle.object_store.specs.declared.store.Store.{Ghosts as StoreGhosts}
use Rattle.meta_log.specs.declared.log.MetaLog.{Ghosts as MetaGhosts}
use Rattle.meta_log.specs.declared.event_origin.EventOrigin.{EventOrigin}
use Rattle.log_terms.proofs.Lists.{and_then_some, get-set}
use Rattle.segment_meta.specs.declared.note.Entry.{Entry}
use Rattle.segment_meta.specs.declared.note.Note.{Note}
use Rattle.registry.specs.declared.registry.Registry.{Registry}
use Rattle.remote_view.specs.Fold.{EntriesSeen as View, entry_of, state_of, fold}
use Rattle.view_refresh.specs.Refreshing.{fed_all}
use Rattle.copy_task.specs.Copying.{Copied, keys}
use Rattle.copy_task.specs.Turns.{CopyTurnRow, PutObjectRow, put_at, checked}
use Rattle.plain_log.specs.declared.turn.Turn.{Turn}
use Rattle.plain_log.specs.declared.turn.Turn.TheVariants.{Goes as GoesOn, Ends}
use Rattle.copy_task.specs.declared.turn.CopyStep.{CopyStep}
use Rattle.copy_task.specs.declared.turn.CopyStep.TheVariants.{Start, Put, Finish, Check, Delete}
use Rattle.expiry_task.specs.declared.turn.ExpiredSegment.{ExpiredSegment}
use Rattle.expiry_task.specs.declared.turn.DeletionStep.{DeletionStep as Deletion}
use Rattle.rebuild_task.specs.declared.turn.RebuildStep.{RebuildStep as Rebuild}
use Rattle.tier_fetch.specs.declared.turn.FetchStep.{FetchStep as Search}
use Rattle.time_find.specs.declared.turn.SearchStep.{SearchStep as Dating}
use Rattle.plain_log.specs.declared.command.ActorList.{ActorList}
use Rattle.plain_log.specs.declared.command.Command.{Command}
use Rattle.plain_log.specs.declared.command.Command.TheVariants.{Copy}
use Rattle.plain_log.specs.declared.command.Order.{Order}
use Rattle.plain_log.specs.declared.journal.JournalEntry.{JournalEntry}
use Rattle.plain_log.specs.declared.state.State.{State}
use Rattle.plain_log.specs.Runs.{order_of, entry_step, replay}
use Rattle.plain_log.specs.Safe.{PlainSafe}
use Rattle.plain_log.specs.Step.{step}
use Rattle.plain_log.proofs.StepLaw.{step_safe}
use Rattle.plain_log.proofs.StepsGrow.{steps_grow}
use Rattle.laws_partition.specs.declared.start_snapshot.StartSnapshot.{StartSnapshot}
use Rattle.laws_partition.proofs.Standing.{get_put}
use Rattle.partition_commands.specs.declared.partition_state.Node.{Node}
use Rattle.tier_safe.specs.Copies.{is_deleted}
use Rattle.tier_safe.specs.Scene.{TierTask, Copies as CopiesSeen}
use Rattle.tier_safe.proofs.Basics.{nat_cases, one_some}
use Rattle.partition_world.specs.declared.tier.BrokerTierState.{BrokerTierState}
use Rattle.partition_world.specs.declared.tier.RemoteTier.{RemoteTier}
use Rattle.partition_world.specs.declared.actor_state.Outcome.{Outcome}
use Rattle.partition_world.specs.declared.actor_state.Outcome.TheVariants.{Answers, Begins, Chose, Goes, Seeks as Sought, Dates as Dated, ChoosesExpired, Deletes, Rebuilds as Rebuilding}
use Rattle.partition_world.specs.declared.actor_state.ActorState.{ActorState}
use Rattle.partition_world.specs.declared.actor_state.InProgress.{InProgress}
use Rattle.partition_world.specs.declared.actor_state.InProgress.TheVariants.{Idle, Noted, Copies, Seeks, Dates, Expires, Rebuilds}
use Rattle.partition_world.specs.Central.{IsCentral, tier_task_of}
use Rattle.partition_world.specs.Fresh.{IsNewWorld, fresh_actor_state}
use Rattle.partition_world.specs.ActorStates.{chosen, moved, sought, dated, expired_segment, deleting, rebuilding, copy_outcome, actor_state_after, told_of}
use Rattle.partition_world.specs.Turn.{IsNextOrder, IsTurn}
use Rattle.partition_world.specs.TurnsOfCopy.{GoesOnCopy, tiers_of, origin_of}
use Rattle.partition_world.specs.Turns.{CopyLaterRow, Row}
use Rattle.partition_world.specs.Whole.{Whole}
use Rattle.partition_world.proofs.Begins.{row_of}
use Rattle.partition_world.proofs.SceneParts.{actor_state_at}
use Rattle.partition_world.proofs.CentralLaw.{turn_central}
use Rattle.partition_world.proofs.Scenes.{place_of, shows_at}
use Rattle.laws_answers.specs.DeletionsKnown.{DeletedBelow, ShowsDeleted, DeletionsKnown}
use Rattle.laws_answers.proofs.NotesOfCopies.{told_below, fed_shows}
use Rattle.laws_answers.proofs.Progress.{others_stay}
use Rattle.laws_answers.proofs.SeenOfCopies.{TierGoes, ChoosesExpiredBelow, row_goes}

rep_get : {A : Type 0} (n i : ℕ) (x y : A) → slice_get (replicate n x) i ≡ Some y → y ≡ x
rep_get zero i x y at = absurd cc
rep_get (suc n) zero x y at = cc
rep_get (suc n) (suc i) x y at = rep_get n i x y at

-- the log start offset doesn't fall

replay_from : (lists : List ActorList) (p : State) (journal more : List JournalEntry) (q : State) → replay lists p journal ≡ Some q → replay lists p (journal ++ more) ≡ replay lists q more
replay_from lists p [] more q e = let is : p ≡ q = cc (e) in ap (λ (k : State). replay lists k more) is
replay_from lists p (entry ∷ journal) more q e =
    let m = and_then_some (λ (w : State). replay lists w journal) (entry_step lists p entry) q e in
    rw m.1 (replay_from lists m.0 journal more q m.2)

start_grows : (lists : List ActorList) (p : State) (more : List JournalEntry) (q : State) → replay lists p more ≡ Some q → PlainSafe p → p.registry.start ≤ q.registry.start
start_grows lists p [] q e s = let is : p ≡ q = cc (e) in rw is (omega arith)
start_grows lists p (entry ∷ more) q e s =
    let m = and_then_some (λ (w : State). replay lists w more) (entry_step lists p entry) q e in
    let o = and_then_some (λ (w : Order). step p w entry) (order_of lists entry) m.0 m.1 in
    let one = (steps_grow p o.0 entry m.0 o.2 s).start in
    let rest = start_grows lists m.0 more q m.2 (step_safe p o.0 entry m.0 o.2 s) in
    omega (arith, one, rest)

-- what an actor's state has after a turn
abbrev in_progress_after : InProgress → Outcome → InProgress
in_progress_after in_progress (Answers answer) = Idle
in_progress_after in_progress (Begins g) = Noted g
in_progress_after in_progress (Chose copy) = chosen in_progress copy
in_progress_after in_progress (Goes next) = moved in_progress next
in_progress_after in_progress (Sought next) = sought in_progress next
in_progress_after in_progress (Dated cursor next) = dated in_progress cursor next
in_progress_after in_progress (ChoosesExpired segment) = expired_segment in_progress segment
in_progress_after in_progress (Deletes next) = deleting in_progress next
in_progress_after in_progress (Rebuilding next) = rebuilding in_progress next

in_progress_same : (actor_state : ActorState) (outcome : Outcome) → (actor_state_after actor_state outcome).in_progress ≡ in_progress_after actor_state.in_progress outcome
in_progress_same actor_state (Answers answer) = refl
in_progress_same actor_state other = refl

idle_never : {A : Type 0} (o : Outcome) (g : StartSnapshot) (copy : Copied) (further : CopyStep) → in_progress_after Idle o ≡ Copies g copy further → A
idle_never (Answers answer) g copy n is = absurd (cc (is))
idle_never other g copy n is = absurd (cc (is))

recorded_never : {A : Type 0} (f : StartSnapshot) (o : Outcome) (g : StartSnapshot) (copy : Copied) (further : CopyStep) → further ≢ Start → in_progress_after (Noted f) o ≡ Copies g copy further → A
recorded_never f (Answers answer) g copy further snapshot is = absurd (cc (is))
recorded_never f (Chose k) g copy further snapshot is = absurd (snapshot (let same : Start ≡ further = cc (is) in sym same))
recorded_never f other g copy further snapshot is = absurd (cc (is))

seeks_never : {A : Type 0} (f : StartSnapshot) (next : Search) (o : Outcome) (g : StartSnapshot) (copy : Copied) (further : CopyStep) → in_progress_after (Seeks f next) o ≡ Copies g copy further → A
seeks_never f next (Answers answer) g copy n is = absurd (cc (is))
seeks_never f next other g copy n is = absurd (cc (is))

dates_never : {A : Type 0} (f : StartSnapshot) (cursor : ℕ) (next : Dating) (o : Outcome) (g : StartSnapshot) (copy : Copied) (further : CopyStep)
    → in_progress_after (Dates f cursor next) o ≡ Copies g copy further → A
dates_never f cursor next (Answers answer) g copy n is = absurd (cc (is))
dates_never f cursor next other g copy n is = absurd (cc (is))

expires_never : {A : Type 0} (f : StartSnapshot) (segment : ExpiredSegment) (next : Deletion) (o : Outcome) (g : StartSnapshot) (copy : Copied) (further : CopyStep) → in_progress_after (Expires f segment next) o ≡ Copies g copy further → A
expires_never f segment next (Answers answer) g copy n is = absurd (cc (is))
expires_never f segment next other g copy n is = absurd (cc (is))

rebuilds_never : {A : Type 0} (f : StartSnapshot) (next : Rebuild) (o : Outcome) (g : StartSnapshot) (copy : Copied) (further : CopyStep) → in_progress_after (Rebuilds f next) o ≡ Copies g copy further → A
rebuilds_never f next (Answers answer) g copy n is = absurd (cc (is))
rebuilds_never f next other g copy n is = absurd (cc (is))

-- an actor's state that keeps a copy is at the order that it was at
number_kept : (actor_state : ActorState) (o : Outcome) (g : StartSnapshot) (copy : Copied) (next : CopyStep) → (actor_state_after actor_state o).in_progress ≡ Copies g copy next → (actor_state_after actor_state o).number ≡ actor_state.number
number_kept actor_state (Answers answer) g copy next is = absurd (cc (is))
number_kept actor_state other g copy next is = refl

-- the view after the turn by which a copy comes to take its objects away

shown_by : (copy : Copied) (view : View) (notes n : ℕ) (state : Option CopyState) → state_of copy.id view.entries ≡ state → GoesOn (Delete n) ≡ checked copy notes state → ShowsDeleted view.entries copy.id
shown_by copy view notes n None at is = absurd (cc (is))
shown_by copy view notes n (Some CopyStarted) at is = absurd (cc (is))
shown_by copy view notes n (Some CopyFinished) at is = absurd (cc (is))
shown_by copy view notes n (Some DeleteStarted) at is = subst (λ (o : Option CopyState). IsSomeAnd o (λ state. is_deleted state ≡ true)) (sym at) refl
shown_by copy view notes n (Some DeleteFinished) at is = subst (λ (o : Option CopyState). IsSomeAnd o (λ state. is_deleted state ≡ true)) (sym at) refl

put_never : {A : Type 0} (n m : ℕ) (key : Option ObjectKey) → GoesOn (Delete n) ≡ GoesOn (put_at m key) → A
put_never n m None is = absurd (cc (is))
put_never n m (Some key) is = absurd (cc (is))

module _ {S : Type 0} (store : StoreGhosts S) where
  put_row_never : {A : Type 0} (copy : Copied) (n m : ℕ) (key : Option ObjectKey) (old new : S) → PutObjectRow store.content store.control copy m key (Ok (GoesOn (Delete n))) old new → A
  put_row_never copy n m None old new row = let e = row.0 in absurd (cc (e))
  put_row_never copy n m (Some key) old new row = put_never n (m + 1) (slice_get (keys copy) (m + 1)) row.0

module _ {S M : Type 0} (store : StoreGhosts S) (meta : MetaGhosts M) where
  goes_shown : (copy : Copied) (origin : EventOrigin) (before : CopyStep) (n : ℕ) (t : RemoteTier S M) (broker_tier : BrokerTierState) (view : View) (t' : RemoteTier S M)
      → CopyTurnRow store.content store.control meta.content meta.control copy origin before (Ok (GoesOn (Delete n))) (tiers_of broker_tier.view t) (tiers_of view t')
      → ((m : ℕ) → before ≡ Delete m → ShowsDeleted view.entries copy.id) → ShowsDeleted view.entries copy.id
  goes_shown copy origin Start n t broker_tier view t' row was = let e = row.1.0 in absurd (cc (e))
  goes_shown copy origin (Put m) n t broker_tier view t' row was = put_row_never store copy n m (slice_get (keys copy) m) t.store t'.store row.1
  goes_shown copy origin Finish n t broker_tier view t' row was = let e = row.1.0 in absurd (cc (e))
  goes_shown copy origin Check n t broker_tier view t' row was = shown_by copy view view.notes n (state_of copy.id view.entries) refl row.1.0
  goes_shown copy origin (Delete m) n t broker_tier view t' row was = was m refl

module _ {D S M : Type 0} (disk : DiskGhosts D) (store : StoreGhosts S) (meta : MetaGhosts M) where
  start_of : (opening : State) (w : Whole D S M) → (c : IsCentral disk store meta opening w) → c.central.plain.registry.start ≡ w.partition_state.registry.start
  start_of opening w c = ap (λ (r : Registry). r.start) (c.central.stands.partition_state.registry ∙ c.shows.registry)

  start_later : (opening : State) (w : Whole D S M) (a : ℕ) (outcome : Outcome) (w' : Whole D S M) → IsTurn disk store meta w a outcome w' → IsCentral disk store meta opening w
      → w.partition_state.registry.start ≤ w'.partition_state.registry.start
  start_later opening w a outcome w' t c =
      let d = turn_central disk store meta opening w a outcome w' t c in
      let more = told_of t.list.actor t.actor_state.number t.order.command outcome in
      let p = c.central.plain in
      let q = d.central.plain in
      let on : replay w.lists p more ≡ Some q =
      sym (replay_from w.lists opening w.journal.items more p c.central.replays)
      ∙ (ap (λ (items : List JournalEntry). replay w.lists opening items) (sym t.entered) ∙ (ap (λ (lists : List ActorList). replay lists opening w'.journal.items) (sym t.lists) ∙ d.central.replays)) in
      let grows = start_grows w.lists p more q on c.central.safe in
      let before = start_of opening w c in
      let after = start_of opening w' d in
      omega (arith, grows, before, after)

  -- a copy that begins has no entry yet
  start_below : (opening : State) (v : Whole D S M) → IsCentral disk store meta opening v → (d place : ℕ) (l : ActorList) (actor_state : ActorState) (order : Order) (g : StartSnapshot) (copy : Copied) → IsNextOrder v d place l actor_state order
      → actor_state.in_progress ≡ Copies g copy Start → DeletedBelow (fold (meta.content v.tier.meta).notes) v.partition_state.registry.start copy.id
  start_below opening v c d place l actor_state order g copy nx works entry there gone =
      let desk : slice_get c.scene.desk place ≡ Some (CopiesSeen copy Start) =
      ap (λ (k : List TierTask). slice_get k place) c.shows_tier.desk
      ∙ (actor_state_at v.lists v.desk place l actor_state nx.at.list nx.at.actor_state_is ∙ (ap (λ (o : Option Order). Some (tier_task_of o actor_state.in_progress)) nx.next ∙ ap (λ (k : InProgress). Some (tier_task_of (Some order) k)) works)) in
      let none : entry_of copy.id (fold (meta.content v.tier.meta).notes) ≡ None =
      ap (λ (ns : List Note). entry_of copy.id (fold ns)) (sym c.shows_tier.notes) ∙ (c.tier.copies.each place copy Start desk).at in
      absurd (cc (there, none))

  -- the tier state of a broker after a turn
  module _ (w : Whole D S M) (a : ℕ) (outcome : Outcome) (w' : Whole D S M) (t : IsTurn disk store meta w a outcome w') (broker_tier : BrokerTierState) (broker_tier_at : slice_get w.tier.broker_tiers t.order.broker.0 ≡ Some broker_tier)
      (start : ℕ) (goes : TierGoes meta start t.order.broker.0 broker_tier w.tier w'.tier) where
    -- what a tier state has shown it shows
    still_shown : (b : ℕ) (new : BrokerTierState) (id : SegmentId) → slice_get w'.tier.broker_tiers b ≡ Some new → ((old : BrokerTierState) → slice_get w.tier.broker_tiers b ≡ Some old → ShowsDeleted old.view.entries id)
        → ShowsDeleted new.view.entries id
    still_shown b new id at was = elim (get-set w.tier.broker_tiers t.order.broker.0 goes.after b new (ap (λ (k : List BrokerTierState). slice_get k b) (sym goes.broker_tiers) ∙ at)) [
      | inr other ↦ was new other.1
      | inl own ↦
          let old = was broker_tier (ap (λ (n : ℕ). slice_get w.tier.broker_tiers n) own.0 ∙ broker_tier_at) in
          let now : new.view ≡ fed_all broker_tier.view goes.fed = ap (λ (k : BrokerTierState). k.view) own.1 ∙ goes.view in
          subst (λ (v : View). ShowsDeleted v.entries id) (sym now) (fed_shows broker_tier.view goes.fed id old)
    ]

  module _ (opening : State) (w : Whole D S M) (a : ℕ) (outcome : Outcome) (w' : Whole D S M) (t : IsTurn disk store meta w a outcome w') (c : IsCentral disk store meta opening w) (known : DeletionsKnown meta w)
      (x : Node D) (at_node : slice_get w.partition_state.nodes t.order.broker.0 ≡ Some x) (broker_tier : BrokerTierState) (broker_tier_at : slice_get w.tier.broker_tiers t.order.broker.0 ≡ Some broker_tier)
      (row : Row disk store meta w.partition w.config w.partition_state w.tier t.order.broker.0 x broker_tier t.actor_state.in_progress t.order.command outcome w'.partition_state w'.tier) where
    abbrev b : ℕ
    b = t.order.broker.0

    -- an expiry that has taken up its segment
    chooses_expired : (in_progress : InProgress) → t.actor_state.in_progress ≡ in_progress → ChoosesExpiredBelow (fold (meta.content w.tier.meta).notes) w.partition_state.registry.start in_progress
    chooses_expired Idle works = tt
    chooses_expired (Noted g) works = tt
    chooses_expired (Copies g copy next) works = tt
    chooses_expired (Seeks g next) works = tt
    chooses_expired (Dates g cursor next) works = tt
    chooses_expired (Rebuilds g next) works = tt
    chooses_expired (Expires g segment next) works =
        let z = place_of disk store meta opening w c t.place t.list t.actor_state t.order t.at.list t.at.actor_state_is t.next x at_node broker_tier broker_tier_at in
        let shows = shows_at disk store meta opening w c t.place t.list t.actor_state t.order z in
        let actor_state = shows.actor_state ∙ ap (λ (k : InProgress). Some (tier_task_of (Some t.order) k)) works in
        let has = c.tier.deletions.each t.place segment next actor_state in
        let same : entry_of segment.id (fold (meta.content w.tier.meta).notes) ≡ Some has.entry = ap (λ (ns : List Note). entry_of segment.id (fold ns)) (sym c.shows_tier.notes) ∙ has.there in
        let low : has.entry.end < w.partition_state.registry.start = subst (λ (n : ℕ). has.entry.end < n) (start_of opening w c) has.below in
        subst (λ (o : Option Entry). IsSomeAnd o (λ entry. entry.end < w.partition_state.registry.start)) (sym same) low

    goes : TierGoes meta w.partition_state.registry.start b broker_tier w.tier w'.tier
    goes = row_goes disk store meta w.partition_state.registry.start w.partition w.config w.partition_state w.tier b x broker_tier t.actor_state.in_progress t.order.command outcome w'.partition_state w'.tier broker_tier_at c.shows_tier.meta_tells (chooses_expired t.actor_state.in_progress refl) row

    -- a copy that took its objects away before
    before_shown : (g : StartSnapshot) (copy : Copied) (n : ℕ) → t.actor_state.in_progress ≡ Copies g copy (Delete n) → (new : BrokerTierState) → slice_get w'.tier.broker_tiers b ≡ Some new → ShowsDeleted new.view.entries copy.id
    before_shown g copy n works new at =
        still_shown w a outcome w' t broker_tier broker_tier_at w.partition_state.registry.start goes b new copy.id at
        (λ old there. known.seen t.list.actor.0 t.place t.list t.actor_state t.order g copy n old (record { at = record { list = t.at.list; actor = refl; actor_state_is = t.at.actor_state_is }; next = t.next }) works there)

    moved_shown : (g : StartSnapshot) (copy : Copied) (before : CopyStep) → t.actor_state.in_progress ≡ Copies g copy before → (further : CopyStep) (n : ℕ) → further ≡ Delete n
        → GoesOnCopy store meta w.partition_state w.tier b broker_tier copy before (GoesOn further) w'.tier → (new : BrokerTierState) → slice_get w'.tier.broker_tiers b ≡ Some new → ShowsDeleted new.view.entries copy.id
    moved_shown g copy before works further n is on new at =
        let now : BrokerTierState = record broker_tier { view = on.view } in
        let there : slice_get w'.tier.broker_tiers b ≡ Some now = ap (λ (k : RemoteTier S M). slice_get k.broker_tiers b) on.after ∙ get_put w.tier.broker_tiers b broker_tier now broker_tier_at in
        let shown : ShowsDeleted now.view.entries copy.id =
        goes_shown store meta copy (origin_of w.partition_state b) before n w.tier broker_tier on.view w'.tier
        (subst (λ (k : CopyStep). CopyTurnRow store.content store.control meta.content meta.control copy (origin_of w.partition_state b) before (Ok (GoesOn k)) (tiers_of broker_tier.view w.tier) (tiers_of on.view w'.tier)) is on.row)
        (λ m e. before_shown g copy m (works ∙ ap (λ (k : CopyStep). Copies g copy k) e) now there) in
        subst (λ (k : BrokerTierState). ShowsDeleted k.view.entries copy.id) (one_some (slice_get w'.tier.broker_tiers b) now new there at) shown

    turn_shown : (g : StartSnapshot) (copy : Copied) (before : CopyStep) → t.actor_state.in_progress ≡ Copies g copy before → (next : CopyStep) (n : ℕ) → next ≡ Delete n → (turn : Turn CopyStep) → Goes next ≡ copy_outcome turn
        → GoesOnCopy store meta w.partition_state w.tier b broker_tier copy before turn w'.tier → (new : BrokerTierState) → slice_get w'.tier.broker_tiers b ≡ Some new → ShowsDeleted new.view.entries copy.id
    turn_shown g copy before works next n is (GoesOn further) one on new at = let same : further ≡ next = cc (one) in moved_shown g copy before works further n (same ∙ is) on new at
    turn_shown g copy before works next n is (Ends answer) one on new at = absurd (cc (one))

    copying_shown : (g : StartSnapshot) (copy : Copied) (before : CopyStep) → t.actor_state.in_progress ≡ Copies g copy before → (command : Command) (next : CopyStep) (n : ℕ) → next ≡ Delete n
        → CopyLaterRow store meta w.partition_state w.tier b x broker_tier g copy before command (Goes next) w'.partition_state w'.tier → (new : BrokerTierState) → slice_get w'.tier.broker_tiers b ≡ Some new → ShowsDeleted new.view.entries copy.id
    copying_shown g copy before works Copy next n is (inl lost, same) new at = let e = lost.1 in absurd (cc (e))
    copying_shown g copy before works Copy next n is (inr (keeps, (turn, one, on)), same) new at = turn_shown g copy before works next n is turn one on new at
    copying_shown g copy before works other next n is row new at = elim row [ ]

    own_shown : (in_progress : InProgress) → t.actor_state.in_progress ≡ in_progress → (o : Outcome) → Row disk store meta w.partition w.config w.partition_state w.tier b x broker_tier in_progress t.order.command o w'.partition_state w'.tier → (g : StartSnapshot) (copy : Copied) (n : ℕ)
        → in_progress_after in_progress o ≡ Copies g copy (Delete n) → (new : BrokerTierState) → slice_get w'.tier.broker_tiers b ≡ Some new → ShowsDeleted new.view.entries copy.id
    own_shown Idle works o r g copy n is new at = idle_never o g copy (Delete n) is
    own_shown (Noted f) works o r g copy n is new at = recorded_never f o g copy (Delete n) (λ e. absurd (cc (e))) is
    own_shown (Copies f k before) works (Answers answer) r g copy n is new at = absurd (cc (is))
    own_shown (Copies f k before) works (Begins h) r g copy n is new at = absurd (cc (is))
    own_shown (Copies f k before) works (Chose j) r g copy n is new at = before_shown g copy n (works ∙ is) new at
    own_shown (Copies f k before) works (Goes next) r g copy n is new at =
        let same : k ≡ copy = cc (is) in
        let deletes : next ≡ Delete n = cc (is) in
        subst (λ (j : Copied). ShowsDeleted new.view.entries j.id) same (copying_shown f k before works t.order.command next n deletes r new at)
    own_shown (Copies f k before) works (Sought next) r g copy n is new at = before_shown g copy n (works ∙ is) new at
    own_shown (Copies f k before) works (Dated cursor next) r g copy n is new at = before_shown g copy n (works ∙ is) new at
    own_shown (Copies f k before) works (ChoosesExpired segment) r g copy n is new at = before_shown g copy n (works ∙ is) new at
    own_shown (Copies f k before) works (Deletes next) r g copy n is new at = before_shown g copy n (works ∙ is) new at
    own_shown (Copies f k before) works (Rebuilding next) r g copy n is new at = before_shown g copy n (works ∙ is) new at
    own_shown (Seeks f before) works o r g copy n is new at = seeks_never f before o g copy (Delete n) is
    own_shown (Dates f cursor before) works o r g copy n is new at = dates_never f cursor before o g copy (Delete n) is
    own_shown (Expires f segment before) works o r g copy n is new at = expires_never f segment before o g copy (Delete n) is
    own_shown (Rebuilds f before) works o r g copy n is new at = rebuilds_never f before o g copy (Delete n) is

    told : (id : SegmentId) → DeletedBelow (fold (meta.content w.tier.meta).notes) w.partition_state.registry.start id → DeletedBelow (fold (meta.content w'.tier.meta).notes) w'.partition_state.registry.start id
    told id below entry there gone =
        let now : DeletedBelow (fold (meta.content w'.tier.meta).notes) w.partition_state.registry.start id = elim goes.notes [
          | inl same ↦ subst (λ (ns : List Note). DeletedBelow (fold ns) w.partition_state.registry.start id) (sym same) below
          | inr (note, is, be) ↦ subst (λ (ns : List Note). DeletedBelow (fold ns) w.partition_state.registry.start id) (sym is) (told_below (meta.content w.tier.meta).notes note w.partition_state.registry.start id be below)
        ] in
        let low = now entry there gone in
        let grows = start_later opening w a outcome w' t c in
        omega (arith, low, grows)

    -- of a copy that continued before
    before_below : (g : StartSnapshot) (copy : Copied) (next : CopyStep) → t.actor_state.in_progress ≡ Copies g copy next → (id : SegmentId) → copy.id ≡ id → DeletedBelow (fold (meta.content w'.tier.meta).notes) w'.partition_state.registry.start id
    before_below g copy next works id is =
        told id (subst (DeletedBelow (fold (meta.content w.tier.meta).notes) w.partition_state.registry.start) is
        (known.below t.list.actor.0 t.place t.list t.actor_state t.order g copy next (record { at = record { list = t.at.list; actor = refl; actor_state_is = t.at.actor_state_is }; next = t.next }) works))

    own_below : (in_progress : InProgress) → t.actor_state.in_progress ≡ in_progress → (o : Outcome) (g : StartSnapshot) (copy : Copied) (next : CopyStep) → next ≢ Start → in_progress_after in_progress o ≡ Copies g copy next
        → DeletedBelow (fold (meta.content w'.tier.meta).notes) w'.partition_state.registry.start copy.id
    own_below Idle works o g copy next snapshot is = idle_never o g copy next is
    own_below (Noted f) works o g copy next snapshot is = recorded_never f o g copy next snapshot is
    own_below (Copies f k before) works (Answers answer) g copy next snapshot is = absurd (cc (is))
    own_below (Copies f k before) works (Begins h) g copy next snapshot is = absurd (cc (is))
    own_below (Copies f k before) works (Goes then) g copy next snapshot is = before_below f k before works copy.id (let same : k ≡ copy = cc (is) in ap (λ (x : Copied). x.id) same)
    own_below (Copies f k before) works other g copy next snapshot is = before_below f k before works copy.id (let same : k ≡ copy = cc (is) in ap (λ (x : Copied). x.id) same)
    own_below (Seeks f before) works o g copy next snapshot is = seeks_never f before o g copy next is
    own_below (Dates f cursor before) works o g copy next snapshot is = dates_never f cursor before o g copy next is
    own_below (Expires f segment before) works o g copy next snapshot is = expires_never f segment before o g copy next is
    own_below (Rebuilds f before) works o g copy next snapshot is = rebuilds_never f before o g copy next is

    -- the state of the turn
    below_place : (place : ℕ) → t.place ≡ place → (d : ℕ) (l : ActorList) (actor_state : ActorState) (order : Order) (g : StartSnapshot) (copy : Copied) (next : CopyStep) → next ≢ Start → IsNextOrder w' d place l actor_state order
        → actor_state.in_progress ≡ Copies g copy next → DeletedBelow (fold (meta.content w'.tier.meta).notes) w'.partition_state.registry.start copy.id
    below_place place same d l actor_state order g copy next snapshot nx works =
        let after = actor_state_after t.actor_state outcome in
        let there : slice_get w'.desk place ≡ Some after =
        ap (λ (k : List ActorState). slice_get k place) t.desk ∙ (ap (λ (k : ℕ). slice_get (slice_set w.desk t.place after) k) (sym same) ∙ get_put w.desk t.place t.actor_state after t.at.actor_state_is) in
        let actor_state_is : after ≡ actor_state = one_some (slice_get w'.desk place) after actor_state there nx.at.actor_state_is in
        let is : after.in_progress ≡ Copies g copy next = ap (λ (k : ActorState). k.in_progress) actor_state_is ∙ works in
        own_below t.actor_state.in_progress refl outcome g copy next snapshot (sym (in_progress_same t.actor_state outcome) ∙ is)

    gone_on_below : (d place : ℕ) (l : ActorList) (actor_state : ActorState) (order : Order) (g : StartSnapshot) (copy : Copied) (next : CopyStep) → next ≢ Start → IsNextOrder w' d place l actor_state order
        → actor_state.in_progress ≡ Copies g copy next → DeletedBelow (fold (meta.content w'.tier.meta).notes) w'.partition_state.registry.start copy.id
    gone_on_below d place l actor_state order g copy next snapshot nx works = elim (nat_cases t.place place) [
      | inl same ↦ below_place place same d l actor_state order g copy next snapshot nx works
      | inr other ↦
          let before : IsNextOrder w d place l actor_state order = record {
            at = record {
              list = ap (λ (k : List ActorList). slice_get k place) (sym t.lists) ∙ nx.at.list;
              actor = nx.at.actor;
              actor_state_is = sym (others_stay disk store meta w a outcome w' t place (λ e. other (sym e))) ∙ nx.at.actor_state_is;
            };
            next = nx.next;
          } in
          told copy.id (known.below d place l actor_state order g copy next before works)
    ]

    still_below : (d place : ℕ) (l : ActorList) (actor_state : ActorState) (order : Order) (g : StartSnapshot) (copy : Copied) (next : CopyStep) → IsNextOrder w' d place l actor_state order
        → actor_state.in_progress ≡ Copies g copy next → DeletedBelow (fold (meta.content w'.tier.meta).notes) w'.partition_state.registry.start copy.id
    still_below d place l actor_state order g copy Start nx works = start_below opening w' (turn_central disk store meta opening w a outcome w' t c) d place l actor_state order g copy nx works
    still_below d place l actor_state order g copy (Put n) nx works = gone_on_below d place l actor_state order g copy (Put n) (λ e. absurd (cc (e))) nx works
    still_below d place l actor_state order g copy Finish nx works = gone_on_below d place l actor_state order g copy Finish (λ e. absurd (cc (e))) nx works
    still_below d place l actor_state order g copy Check nx works = gone_on_below d place l actor_state order g copy Check (λ e. absurd (cc (e))) nx works
    still_below d place l actor_state order g copy (Delete n) nx works = gone_on_below d place l actor_state order g copy (Delete n) (λ e. absurd (cc (e))) nx works

    -- the state of the turn
    at_place : (place : ℕ) → t.place ≡ place → (d : ℕ) (l : ActorList) (actor_state : ActorState) (order : Order) (g : StartSnapshot) (copy : Copied) (n : ℕ) (new : BrokerTierState) → IsNextOrder w' d place l actor_state order
        → actor_state.in_progress ≡ Copies g copy (Delete n) → slice_get w'.tier.broker_tiers order.broker.0 ≡ Some new → ShowsDeleted new.view.entries copy.id
    at_place place same d l actor_state order g copy n new next works at =
        let after = actor_state_after t.actor_state outcome in
        let list_is : t.list ≡ l =
        one_some (slice_get w.lists t.place) t.list l t.at.list (ap (λ (k : ℕ). slice_get w.lists k) same ∙ (ap (λ (k : List ActorList). slice_get k place) (sym t.lists) ∙ next.at.list)) in
        let there : slice_get w'.desk place ≡ Some after =
        ap (λ (k : List ActorState). slice_get k place) t.desk ∙ (ap (λ (k : ℕ). slice_get (slice_set w.desk t.place after) k) (sym same) ∙ get_put w.desk t.place t.actor_state after t.at.actor_state_is) in
        let actor_state_is : after ≡ actor_state = one_some (slice_get w'.desk place) after actor_state there next.at.actor_state_is in
        let is : after.in_progress ≡ Copies g copy (Delete n) = ap (λ (k : ActorState). k.in_progress) actor_state_is ∙ works in
        let number : t.actor_state.number ≡ actor_state.number = sym (number_kept t.actor_state outcome g copy (Delete n) is) ∙ ap (λ (k : ActorState). k.number) actor_state_is in
        let order_is : t.order ≡ order =
        one_some (slice_get t.list.orders t.actor_state.number) t.order order t.next
        (ap (λ (k : ActorList). slice_get k.orders t.actor_state.number) list_is ∙ (ap (λ (k : ℕ). slice_get l.orders k) number ∙ next.next)) in
        own_shown t.actor_state.in_progress refl outcome row g copy n (sym (in_progress_same t.actor_state outcome) ∙ is) new (ap (λ (o : Order). slice_get w'.tier.broker_tiers o.broker.0) order_is ∙ at)

    still_seen : (d place : ℕ) (l : ActorList) (actor_state : ActorState) (order : Order) (g : StartSnapshot) (copy : Copied) (n : ℕ) (new : BrokerTierState) → IsNextOrder w' d place l actor_state order
        → actor_state.in_progress ≡ Copies g copy (Delete n) → slice_get w'.tier.broker_tiers order.broker.0 ≡ Some new → ShowsDeleted new.view.entries copy.id
    still_seen d place l actor_state order g copy n new next works at = elim (nat_cases t.place place) [
      | inl same ↦ at_place place same d l actor_state order g copy n new next works at
      | inr other ↦
          let before : IsNextOrder w d place l actor_state order = record {
            at = record {
              list = ap (λ (k : List ActorList). slice_get k place) (sym t.lists) ∙ next.at.list;
              actor = next.at.actor;
              actor_state_is = sym (others_stay disk store meta w a outcome w' t place (λ e. other (sym e))) ∙ next.at.actor_state_is;
            };
            next = next.next;
          } in
          still_shown w a outcome w' t broker_tier broker_tier_at w.partition_state.registry.start goes order.broker.0 new copy.id at (λ old there. known.seen d place l actor_state order g copy n old before works there)
    ]

  pub keep_known : (opening : State) (w : Whole D S M) (a : ℕ) (outcome : Outcome) (w' : Whole D S M) → IsCentral disk store meta opening w → DeletionsKnown meta w → IsTurn disk store meta w a outcome w'
      → DeletionsKnown meta w'
  keep_known opening w a outcome w' c known t =
      let r = row_of disk store meta w.partition w.config w.partition_state w.tier t.order.broker.0 t.actor_state.in_progress t.order.command outcome w'.partition_state w'.tier t.row in
      record { below = still_below opening w a outcome w' t c known r.x r.at r.broker_tier r.broker_tier_at r.row; seen = still_seen opening w a outcome w' t c known r.x r.at r.broker_tier r.broker_tier_at r.row }

  pub new_known : (lists : List ActorList) (w : Whole D S M) → IsNewWorld lists w → DeletionsKnown meta w
  new_known lists w f = record {
    below = λ a place l actor_state order g copy next nx works. absurd (idle place actor_state g copy next nx.at.actor_state_is works);
    seen = λ a place l actor_state order g copy n broker_tier next works at. absurd (idle place actor_state g copy (Delete n) next.at.actor_state_is works);
  }
    where
      idle : (place : ℕ) (actor_state : ActorState) (g : StartSnapshot) (copy : Copied) (next : CopyStep) → slice_get w.desk place ≡ Some actor_state → actor_state.in_progress ≡ Copies g copy next → ⊥
      idle place actor_state g copy next at works =
          let is = ap (λ (k : ActorState). k.in_progress) (rep_get (length lists) place fresh_actor_state actor_state (ap (λ (d : List ActorState). slice_get d place) (sym f.desk) ∙ at)) in
          absurd (cc (works, is))
