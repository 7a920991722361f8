-- No row has a turn that answers `Damaged`.
use Rattle.std.proofs.Common.{◌&&◌, ◌≡◌, inl, inr, sym, subst, refl, ℕ, ◌<◌, ◌≤◌, true, Some, Ok, slice_get}
use Rattle.disk_model.specs.declared.disk.Disk.{Ghosts as DiskGhosts}
use Rattle.object_store.specs.declared.store.Store.{Ghosts as StoreGhosts}
use Rattle.meta_log.specs.declared.log.MetaLog.{Ghosts as MetaGhosts}
use Rattle.log_terms.specs.Log.{EndsAt}
use Rattle.log_terms.proofs.Logs.{ends_at_end}
use Rattle.log_terms.proofs.Lists.{and_then_some}
use Rattle.expiry_task.specs.declared.turn.ExpiredSegment.{ExpiredSegment}
use Rattle.expiry_task.specs.declared.turn.DeletionStep.{DeletionStep as Deletion}
use Rattle.rebuild_task.specs.declared.turn.RebuildStep.TheVariants.{Epochs, Restart}
use Rattle.rebuild_task.specs.Turns.{RebuildRow}
use Rattle.plain_log.specs.declared.turn.Turn.TheVariants as turns
use Rattle.plain_log.specs.declared.answer.Answer.{Answer}
use Rattle.plain_log.specs.declared.answer.Answer.TheVariants.{Damaged}
use Rattle.plain_log.specs.declared.answer.Place.{Place as Spoiled}
use Rattle.plain_log.specs.declared.answer.Place.TheVariants.{File}
use Rattle.plain_log.specs.declared.command.Command.{Command}
use Rattle.plain_log.specs.declared.command.Command.TheVariants.{Join, Follow, Copy, Trim, Expire, Fetch, Up, Append, Raw, Flush, Roll, Elect, Unclean, Learn, Ack, Shrink, Expand, Raise, Clock, Stop, Offset}
use Rattle.plain_log.specs.declared.command.Which.TheVariants.{LatestTiered, At}
use Rattle.plain_log.specs.declared.state.State.{State}
use Rattle.plain_log.specs.State.{leads_in}
use Rattle.plain_log.proofs.Options.{when_some, both}
use Rattle.registry.specs.Calls.{when}
use Rattle.laws_partition.specs.declared.start_snapshot.StartSnapshot.{StartSnapshot}
use Rattle.laws_partition.specs.declared.start_snapshot.Turned.TheVariants as turned
use Rattle.laws_partition.proofs.BoolTests.{some_of}
use Rattle.partition_commands.specs.declared.partition_state.Node.{Node}
use Rattle.partition_commands.specs.declared.partition_state.PartitionState.{PartitionState}
use Rattle.partition_commands.specs.Partition.{is_up, end_of, local_of, the_leader, NodeHasDamage}
use Rattle.partition_commands.specs.Turns.{AnswerRow, FirstRow, LaterRow}
use Rattle.partition_commands.specs.TurnsOfFollowers.{FollowRow}
use Rattle.partition_commands.proofs.Shown.{end_shown, sees_at}
use Rattle.partition_commands.proofs.SoundLaw.{leader_at}
use Rattle.laws_rebuild.proofs.Reading.{nothing_is_damaged}
use Rattle.laws_rebuild.specs.Laws.{seen_all}
use Rattle.laws_tier_turns.specs.TierTasks.{rebuild_of}
use Rattle.partition_world.specs.declared.tier.BrokerTierState.{BrokerTierState}
use Rattle.partition_world.specs.declared.actor_state.Outcome.TheVariants.{Answers}
use Rattle.partition_world.specs.declared.actor_state.InProgress.{InProgress}
use Rattle.partition_world.specs.declared.actor_state.InProgress.TheVariants.{Idle, Noted, Copies, Expires, Rebuilds}
use Rattle.partition_world.specs.Central.{IsCentral}
use Rattle.partition_world.specs.Tier.{AtBrokerTier}
use Rattle.partition_world.specs.Turn.{IsTurn}
use Rattle.partition_world.specs.TurnsOfExpiry.{ExpireOnRow, DeleteOnRow, expiry_tiers}
use Rattle.partition_world.specs.TurnsOfCopy.{origin_of}
use Rattle.partition_world.specs.TurnsOfRebuild.{with_line, wanted_of, AnswersAtOnce, EpochsOnRow}
use Rattle.partition_world.specs.Turns.{LocalCommandRow, OwnOnRow, JoinSecondRow, Row}
use Rattle.partition_world.specs.Whole.{Whole}
use Rattle.partition_world.proofs.Begins.{row_of}
use Rattle.partition_world.proofs.ExpiryEnds.{MayEnd, expiry_ends}
use Rattle.partition_world.proofs.RebuildCentral.{to_read}
use Rattle.partition_world.proofs.Scenes.{Place, place_of}
use Rattle.partition_world.proofs.TurnCentral.{here}
use Rattle.laws_answers.specs.DeletionsKnown.{DeletionsKnown}
use Rattle.laws_answers.specs.CausesOfCopies.{CopyHasCause}
use Rattle.laws_answers.proofs.CopiesHaveCauses.{have_causes}
use Rattle.laws_answers.specs.Found.{SpansKnown}
use Rattle.laws_answers.specs.FoundByTime.{SearchesKnown}
use Rattle.laws_answers.proofs.DamageOfFetches.{none_damaged as no_fetch}
use Rattle.laws_answers.proofs.SearchesTell.{none_damaged as no_search}

-- an expiry that has taken up a segment isn't answered so
deletion_never : (place : Spoiled) (at : ℕ) (answer : Answer) → Damaged place at ≡ answer → MayEnd answer → ⊥
deletion_never place at answer is may = subst MayEnd (sym is) may

-- a command that has its own first row
abbrev IsOwn : Command → Type 0
IsOwn (Fetch offset limit) = ⊥
IsOwn other = Unit {0}

module _ {D : Type 0} where
  -- a leader is up
  leader_up : (h : PartitionState D) (y : Node D) → the_leader h ≡ Some y → is_up y ≡ true
  leader_up h y is =
      let one = and_then_some (λ y. when (is_up y && leads_in h.registry.epoch y.role) y) (slice_get h.nodes h.registry.leader.0) y is in
      let w = when_some (is_up one.0 && leads_in h.registry.epoch one.0.role) one.0 y one.2 in
      (both (is_up y) (leads_in h.registry.epoch y.role) (subst (λ (z : Node D). is_up z && leads_in h.registry.epoch z.role ≡ true) w.1 w.0)).0

  -- a join isn't, before it continues
  once_never : (h : PartitionState D) (x : Node D) (g : StartSnapshot) (answer : Answer) (place : Spoiled) (at : ℕ) → Damaged place at ≡ answer → AnswersAtOnce h x g answer → ⊥
  once_never h x g answer place at is w = subst (AnswersAtOnce h x g) (sym is) w

module _ {D S M : Type 0} (disk : DiskGhosts D) (store : StoreGhosts S) (meta : MetaGhosts M) where
  -- a copy has no cause for it
  cause_never : (w : Whole D S M) (b : ℕ) (x : Node D) (broker_tier : BrokerTierState) (in_progress : InProgress) (place : Spoiled) (at : ℕ) (w' : Whole D S M)
      → CopyHasCause disk store meta w b x broker_tier in_progress (Damaged place at) w' → ⊥
  cause_never w b x broker_tier Idle place at w' cause = cause
  cause_never w b x broker_tier (Noted g) place at w' cause = cause
  cause_never w b x broker_tier (Copies g copy next) place at w' cause = cause
  cause_never w b x broker_tier other place at w' cause = cause

  module _ (opening : State) (w : Whole D S M) (a : ℕ) (place : Spoiled) (at : ℕ) (w' : Whole D S M) (t : IsTurn disk store meta w a (Answers (Damaged place at)) w')
      (c : IsCentral disk store meta opening w) (z : Place disk store meta opening w c t.place t.list t.actor_state t.order) where
    abbrev b : ℕ
    b = t.order.broker.0

    -- a follow reads the leader's log
    follow_never : (limit : ℕ) (spoiled : Spoiled) → FollowRow disk.content disk.control w.partition_state b z.x limit (turned.Answers (Damaged spoiled at)) w'.partition_state → ⊥
    follow_never limit (File name) row =
        let y = some_of (λ y. (end_of z.x < end_of y) × (local_of y ≤ end_of z.x)
        × NodeHasDamage disk.content disk.control w.partition_state w.partition_state.registry.leader.0 y (end_of z.x) limit (end_of y) name at w'.partition_state) (the_leader w.partition_state) row.2 in
        let v = sees_at disk.content disk.control w.partition_state c.partition w.partition_state.registry.leader.0 y.0 c.shows (leader_at w.partition_state y.0 y.1) in
        y.2.2.misreads.unmarked v.0 v.1.shows
        (subst (λ (n : ℕ). EndsAt n v.0.batches) (sym (end_shown disk.content y.0 v.0 (leader_up w.partition_state y.0 y.1) v.1.shows)) (ends_at_end v.0.batches))
    follow_never limit other row = elim row [ ]

    -- a command of one turn: a broker that starts opens its log
    answer_never : (command : Command) (spoiled : Spoiled) → AnswerRow disk.content disk.control w.partition_state b z.x command (Damaged spoiled at) w'.partition_state → ⊥
    answer_never Up (File name) row = row.1.1.unseen z.s z.sees.shows
    answer_never (Append recs) spoiled row = row
    answer_never (Raw bytes) spoiled row = row
    answer_never Flush spoiled row = row
    answer_never Roll spoiled row = row
    answer_never Elect spoiled row = row
    answer_never Unclean spoiled row = row
    answer_never Learn spoiled row = row
    answer_never Ack spoiled row = row
    answer_never Shrink spoiled row = row
    answer_never Expand spoiled row = row
    answer_never (Raise start) spoiled row = row
    answer_never (Clock ms) spoiled row = row
    answer_never Stop spoiled row = row
    answer_never command spoiled row = elim row [ ]

    first_never : (command : Command) → FirstRow disk.content disk.control w.partition_state b z.x command (turned.Answers (Damaged place at)) w'.partition_state → IsOwn command → ⊥
    first_never (Follow limit) row own = follow_never limit place row
    first_never Join row own = row
    first_never Trim row own = row
    first_never (Fetch offset limit) row own = own
    first_never (Offset LatestTiered) row own = row
    first_never (Offset (At ts)) row own = row
    first_never other row own = answer_never other place row

    own_never : (command : Command) → IsOwn command → LocalCommandRow disk w.partition_state w.tier b z.x command (Answers (Damaged place at)) w'.partition_state w'.tier → ⊥
    own_never command own ((turned.Answers k, is, row), same) =
        let e : Damaged place at ≡ k = cc (is) in
        first_never command (subst (λ (j : Answer). FirstRow disk.content disk.control w.partition_state b z.x command (turned.Answers j) w'.partition_state) (sym e) row) own
    own_never command own ((turned.Begins g, is, row), same) = absurd (cc (is))

    -- its last turn
    last_never : (g : StartSnapshot) (command : Command) → LaterRow disk.content disk.control w.partition_state b z.x command g (turned.Answers (Damaged place at)) w'.partition_state → ⊥
    last_never g (Follow limit) row = row
    last_never g Join row = row
    last_never g Trim row = row
    last_never g other row = elim row [ ]

    own_on_never : (g : StartSnapshot) (command : Command) → OwnOnRow disk w.partition_state w.tier b z.x g command (Answers (Damaged place at)) w'.partition_state w'.tier → ⊥
    own_on_never g command ((k, is, row), same) =
        let e : Damaged place at ≡ k = cc (is) in
        last_never g command (subst (λ (j : Answer). LaterRow disk.content disk.control w.partition_state b z.x command g (turned.Answers j) w'.partition_state) (sym e) row)

    -- an expiry
    expire_never : (g : StartSnapshot) → ExpireOnRow w.partition w.partition_state z.x z.broker_tier g w.config.keep (Answers (Damaged place at)) w'.partition_state → ⊥
    expire_never g (inl lost) = let is = lost.1 in absurd (cc (is))
    expire_never g (inr row) = row.1.2

    delete_never : (g : StartSnapshot) (expired_segment : ExpiredSegment) (next : Deletion) → DeleteOnRow store meta w.partition_state w.tier b z.x g expired_segment next (Answers (Damaged place at)) w'.tier → ⊥
    delete_never g expired_segment next (inl lost) = let is = lost.1 in absurd (cc (is))
    delete_never g expired_segment next (inr (keeps, (turns.Ends k, is, goes))) =
        let e : Damaged place at ≡ k = cc (is) in
        deletion_never place at k e (expiry_ends store meta expired_segment (origin_of w.partition_state b) next k (expiry_tiers w.tier) (expiry_tiers w'.tier) goes.row)
    delete_never g expired_segment next (inr (keeps, (turns.Goes further, is, goes))) = absurd (cc (is))

    -- a join that continues in the tier
    join_never : (g : StartSnapshot) → JoinSecondRow disk meta w.partition_state w.tier b z.x z.broker_tier g (Answers (Damaged place at)) w'.partition_state w'.tier → ⊥
    join_never g (inl own) = own_on_never g Join own.1
    join_never g (inr (low, inl (k, is, once, same), partition_state)) = let e : Damaged place at ≡ k = cc (is) in once_never w.partition_state z.x g k place at e once
    join_never g (inr (low, inr row, partition_state)) = row.1

    read_never : (joins : t.order.command ≡ Join) (g : StartSnapshot) → t.actor_state.in_progress ≡ Rebuilds g Epochs → EpochsOnRow store w.partition w.partition_state w.tier z.x z.broker_tier g (Answers (Damaged place at)) w'.tier → ⊥
    read_never joins g works (inl (k, is, once, same)) = let e : Damaged place at ≡ k = cc (is) in once_never w.partition_state z.x g k place at e once
    read_never joins g works (inr (may, (turns.Goes next, is, goes))) = absurd (cc (is))
    read_never joins g works (inr (may, (turns.Ends k, is, goes))) =
        let e : Damaged place at ≡ k = cc (is) in
        nothing_is_damaged store.content store.control (wanted_of w.partition g) g.line z.broker_tier.view place at w.tier.store w'.tier.store c.scene c.central.plain t.place (seen_all (rebuild_of b g))
        (here disk store meta opening w a (Answers (Damaged place at)) w' t c z Join joins)
        (subst (λ (j : Answer). RebuildRow store.content store.control (wanted_of w.partition g) g.line z.broker_tier.view (Ok (turns.Ends j)) w.tier.store w'.tier.store) (sym e) goes.row)
        (to_read disk store meta opening w a (Answers (Damaged place at)) w' t c z joins g works may)

    module _ (known : DeletionsKnown meta w) (spans : SpansKnown meta opening w) (searches : SearchesKnown meta opening w) where
      copy_never : t.order.command ≡ Copy → ⊥
      copy_never copies =
          let x = some_of (λ x. AtBrokerTier w.tier b (λ broker_tier. CopyHasCause disk store meta w b x broker_tier t.actor_state.in_progress (Damaged place at) w')) (slice_get w.partition_state.nodes b)
          (have_causes disk store meta opening w a (Damaged place at) w' c known t copies) in
          let broker_tier = some_of (λ broker_tier. CopyHasCause disk store meta w b x.0 broker_tier t.actor_state.in_progress (Damaged place at) w') (slice_get w.tier.broker_tiers b) x.2 in
          cause_never w b x.0 broker_tier.0 t.actor_state.in_progress place at w' broker_tier.2

      pub row_never : (in_progress : InProgress) (command : Command) → t.actor_state.in_progress ≡ in_progress → t.order.command ≡ command
          → Row disk store meta w.partition w.config w.partition_state w.tier b z.x z.broker_tier in_progress command (Answers (Damaged place at)) w'.partition_state w'.tier → ⊥
      row_never in_progress Copy works is row = copy_never is
      row_never in_progress (Fetch offset limit) works is row = no_fetch disk store meta opening w a place at w' offset limit c spans t is
      row_never in_progress (Offset (At ts)) works is row = no_search disk store meta opening w a place at w' ts c searches t is
      row_never Idle Trim works is row = row.0
      row_never Idle Expire works is row = row.0
      row_never Idle (Offset LatestTiered) works is row = row.0
      row_never Idle other works is row = own_never other tt row
      row_never (Noted g) Trim works is row = row.0.0
      row_never (Noted g) Expire works is row = expire_never g row.0
      row_never (Noted g) Join works is row = join_never g row
      row_never (Noted g) (Offset LatestTiered) works is row = row.0.1
      row_never (Noted g) other works is row = own_on_never g other row
      row_never (Expires g expired_segment next) Expire works is row = delete_never g expired_segment next row.0
      row_never (Rebuilds g Epochs) Join works is row = read_never is g works row.0
      row_never (Rebuilds g (Restart line)) Join works is row = own_on_never (with_line g line) Join row
      row_never in_progress command works is row = elim row [ ]

  pub none_damaged : (opening : State) (w : Whole D S M) (a : ℕ) (place : Spoiled) (at : ℕ) (w' : Whole D S M) → IsCentral disk store meta opening w → DeletionsKnown meta w → SpansKnown meta opening w
      → SearchesKnown meta opening w → IsTurn disk store meta w a (Answers (Damaged place at)) w' → ⊥
  none_damaged opening w a place at w' c known spans searches t =
      let b = t.order.broker.0 in
      let r = row_of disk store meta w.partition w.config w.partition_state w.tier b t.actor_state.in_progress t.order.command (Answers (Damaged place at)) w'.partition_state w'.tier t.row in
      let z = place_of disk store meta opening w c t.place t.list t.actor_state t.order t.at.list t.at.actor_state_is t.next r.x r.at r.broker_tier r.broker_tier_at in
      row_never opening w a place at w' t c z known spans searches t.actor_state.in_progress t.order.command refl refl r.row
