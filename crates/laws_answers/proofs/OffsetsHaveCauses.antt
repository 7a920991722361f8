-- Each answer of a question for an offset has its cause.
use Rattle.std.proofs.Common.{◌≡◌, ◌∙◌, inl, inr, sym, ap, subst, refl, ℕ, Some, Bool, true, false, slice_get}
use Rattle.std.specs.Prelude.{ℤ}
use Rattle.disk_model.specs.declared.disk.Disk.{Ghosts as DiskGhosts}
use Rattle.object_store.specs.declared.store.Store.{Ghosts as StoreGhosts}
use Rattle.meta_log.specs.declared.log.MetaLog.{Ghosts as MetaGhosts}
use Rattle.time_find.specs.declared.turn.Asked.{Asked}
use Rattle.time_find.specs.declared.turn.SearchStep.{SearchStep}
use Rattle.time_find.specs.declared.turn.SearchStep.TheVariants.{Seek}
use Rattle.plain_log.specs.declared.turn.Turn.{Turn}
use Rattle.plain_log.specs.declared.turn.Turn.TheVariants.{Ends}
use Rattle.time_find.specs.Passing.{passed_over}
use Rattle.time_find.specs.Turns.{LocalSearchRow, ReadLocalRow}
use Rattle.plain_log.specs.declared.answer.Answer.{Answer}
use Rattle.plain_log.specs.declared.answer.Answer.TheVariants.{Down, NotLeader, MetaFault, StoreFault, DiskFault, Damaged, Stopped, Offset as OffsetAnswer, NoOffset}
use Rattle.plain_log.specs.declared.answer.Place.TheVariants.{File}
use Rattle.plain_log.specs.declared.command.Command.{Command}
use Rattle.plain_log.specs.declared.command.Command.TheVariants.{Offset}
use Rattle.plain_log.specs.declared.command.Which.{Which}
use Rattle.plain_log.specs.declared.command.Which.TheVariants.{LatestTiered, At}
use Rattle.plain_log.specs.RowsOfReads.{is_long}
use Rattle.broker_log.specs.Seen.{Faulted, closed_in}
use Rattle.laws_partition.specs.declared.start_snapshot.StartSnapshot.{StartSnapshot}
use Rattle.laws_partition.specs.declared.start_snapshot.Turned.{Turned}
use Rattle.laws_partition.specs.declared.start_snapshot.Turned.TheVariants as turned
use Rattle.laws_partition.proofs.Standing.{get_put}
use Rattle.partition_commands.proofs.LastingDisks.{one_faulted}
use Rattle.partition_commands.specs.declared.partition_state.Node.{Node}
use Rattle.partition_commands.specs.declared.partition_state.PartitionState.{PartitionState}
use Rattle.partition_commands.specs.Partition.{AtNode, line_of, local_of}
use Rattle.partition_commands.specs.Turns.{OffsetRow, FirstRow}
use Rattle.partition_commands.proofs.Shown.{some_at}
use Rattle.partition_world.specs.declared.actor_state.Outcome.TheVariants.{Answers}
use Rattle.partition_world.specs.declared.actor_state.InProgress.{InProgress}
use Rattle.partition_world.specs.declared.actor_state.InProgress.TheVariants.{Idle, Noted, Dates}
use Rattle.partition_world.specs.declared.tier.BrokerTierState.{BrokerTierState}
use Rattle.partition_world.specs.ActorStates.{outcome_of, date_outcome}
use Rattle.partition_world.specs.Tier.{AtBrokerTier}
use Rattle.partition_world.specs.Turn.{IsTurn}
use Rattle.partition_world.specs.TurnsOfCopy.{KeepsLead, LeadersFirstRow}
use Rattle.partition_world.specs.TurnsOfDate.{SearchesOwn, SearchRow, SearchesOn, DateOnRow, asked_of, is_own, resumed_at, resumed_with}
use Rattle.partition_world.specs.TurnsOfFetch.{fetch_tiers}
use Rattle.partition_world.specs.TurnsOfOffset.{OffsetOnRow}
use Rattle.partition_world.specs.Turns.{BeginRow, Row}
use Rattle.partition_world.specs.Whole.{Whole}
use Rattle.partition_world.proofs.Begins.{row_of}
use Rattle.partition_world.proofs.DateEnds.{MayEnd, MayEndOwn, date_ends, own_ends}
use Rattle.laws_answers.specs.CausesOfOffsets.{OffsetFirstCause, OffsetSecondCause, SearchCause, OffsetHasCause}
use Rattle.laws_answers.specs.Faults.{DiskFailed, StoreFailed, MetaFailed}
use Rattle.partition_world.proofs.TurnsTold.{TurnTold}
use Rattle.partition_world.proofs.LastingDates.{searched_told, time_lasts}

module _ {D S M : Type 0} (disk : DiskGhosts D) (store : StoreGhosts S) (meta : MetaGhosts M) where
  module _ (w : Whole D S M) (b : ℕ) (x : Node D) (broker_tier : BrokerTierState) (w' : Whole D S M) where
    -- known at once
    told : (which : Which) (answer : Answer) → OffsetRow w.partition_state x which answer w'.partition_state → OffsetFirstCause disk store meta w x which answer w'
    told which Down row = row.0
    told which NotLeader row = row.1
    told which (OffsetAnswer n) row = (row.0, row.1, row.2)
    told which other row = elim row [ ]

    own : (which : Which) (turn : Turned) (answer : Answer) → Answers answer ≡ outcome_of turn → FirstRow disk.content disk.control w.partition_state b x (Offset which) turn w'.partition_state
        → OffsetFirstCause disk store meta w x which answer w'
    own LatestTiered turn answer is row = elim row [ ]
    own (At ts) turn answer is row = elim row [ ]
    own which (turned.Answers k) answer is row = let e : k ≡ answer = cc (is) in subst
        (λ (j : Answer). OffsetFirstCause disk store meta w x which j w') e (told which k row)
    own which (turned.Begins g) answer is row = elim row [ ]

    -- of the remote tier
    leaders : (which : Which) → is_long which ≡ true → (answer : Answer)
        → LeadersFirstRow meta w.partition_state w.tier b x broker_tier (Answers answer) w'.tier → OffsetFirstCause disk store meta w x which answer w'
    leaders which long Down row = row.0
    leaders which long NotLeader row = row.1
    leaders which long MetaFault row = (long, row.2.reads.control.ran.cause refl)
    leaders which long other row = elim row [ ]

    first : (which : Which) (answer : Answer) → BeginRow disk store meta w.partition_state w.tier b x broker_tier (Offset which) (Answers answer) w'.partition_state
        w'.tier → OffsetFirstCause disk store meta w x which answer w'
    first LatestTiered answer row = leaders LatestTiered refl answer row.0
    first (At ts) answer row = leaders (At ts) refl answer row.0
    first which answer row = own which row.0.0 answer row.0.1 row.0.2

    second : (g : StartSnapshot) (answer : Answer) → OffsetOnRow w.partition_state x broker_tier g (Answers answer) → OffsetSecondCause w x broker_tier g answer
    second g Stopped row = row
    second g NotLeader row = row.2
    second g (OffsetAnswer n) row = row
    second g NoOffset row = row
    second g other row = elim row.1 [ ]

    -- a later turn of a search: what it says of where it returns a fault
    abbrev Tells : Turn (ℕ × SearchStep) → Type 0
    Tells turn = TurnTold (DiskFailed disk b w w') (Unit {0}) (StoreFailed store w w') (MetaFailed meta w w') (date_outcome turn)

    -- in the local log
    module _ (at : slice_get w.partition_state.nodes b ≡ Some x) (asked : Asked) (from : ℕ) (turn : Turn (ℕ × SearchStep))
        (s : SearchesOwn disk w.partition_state b x asked from turn w'.partition_state) where
      failed : Faulted disk.control x.log s.kept → DiskFailed disk b w w'
      failed fault =
          let y : Node D = record x { log = s.kept } in
          let there : slice_get w'.partition_state.nodes b ≡ Some y = ap (λ (h : PartitionState D). slice_get h.nodes b) s.after
          ∙ get_put w.partition_state.nodes b x y at in
          some_at (λ (x : Node D). AtNode w'.partition_state b (λ y. Faulted disk.control x.log y.log)) (slice_get w.partition_state.nodes b) x at
          (some_at (λ (y : Node D). Faulted disk.control x.log y.log) (slice_get w'.partition_state.nodes b) y there fault)

      reads : (to : Turn (ℕ × SearchStep)) → ReadLocalRow disk.content disk.control x.log asked (passed_over asked.ts from (closed_in x.log)) to s.kept
          → Tells to
      reads (Ends DiskFault) row = failed (one_faulted disk.control x.log s.kept row.1 row.2)
      reads (Ends (Damaged (File name) place)) row = tt
      reads to row =
          searched_told (DiskFailed disk b w w') (Unit {0}) (StoreFailed store w w') (MetaFailed meta w w') asked
          (passed_over asked.ts from (closed_in x.log)) row.out.bytes to row.searched

      own_tells : LocalSearchRow disk.content disk.control x.log asked from turn s.kept → Tells turn
      own_tells (inl (past, is, same)) = subst Tells (sym is) tt
      own_tells (inr (below, row)) = reads turn row

    -- what it is answered
    remote_cause : (g : StartSnapshot) (cursor : ℕ) (answer : Answer) → KeepsLead x g → MayEnd answer → Tells (Ends answer)
        → SearchCause disk store meta w b x g cursor answer w'
    remote_cause g cursor MetaFault keeps may is_observable = (keeps, is_observable)
    remote_cause g cursor StoreFault keeps may is_observable = (keeps, is_observable)
    remote_cause g cursor (Damaged place at) keeps may is_observable = keeps
    remote_cause g cursor (OffsetAnswer n) keeps may is_observable = keeps
    remote_cause g cursor other keeps may is_observable = elim may [ ]

    own_cause : (g : StartSnapshot) (cursor : ℕ) (answer : Answer) → KeepsLead x g → MayEndOwn answer → Tells (Ends answer)
        → SearchCause disk store meta w b x g cursor answer w'
    own_cause g cursor DiskFault keeps may is_observable = (keeps, is_observable)
    own_cause g cursor (Damaged (File name) at) keeps may is_observable = keeps
    own_cause g cursor (OffsetAnswer n) keeps may is_observable = keeps
    own_cause g cursor other keeps may is_observable = elim may [ ]

    ends : slice_get w.partition_state.nodes b ≡ Some x → (g : StartSnapshot) (cursor : ℕ) (answer : Answer) → KeepsLead x g
        → (asked : Asked) (from : ℕ) (next : SearchStep) (own : Bool)
        → SearchRow disk store meta w.partition_state w.tier b x broker_tier asked from next own (Ends answer) w'.partition_state w'.tier
        → SearchCause disk store meta w b x g cursor answer w'
    ends at g cursor answer keeps asked from next true row =
        own_cause g cursor answer keeps (own_ends disk x.log asked from answer row.0.kept row.0.row)
        (own_tells at asked from (Ends answer) row.0 row.0.row)
    ends at g cursor answer keeps asked from next false row =
        remote_cause g cursor answer keeps
        (date_ends store meta asked (line_of x) from next answer (fetch_tiers broker_tier.view broker_tier.cache w.tier)
        (fetch_tiers row.0.view row.0.cache w'.tier) row.0.row)
        (time_lasts (DiskFailed disk b w w') (Unit {0}) store meta asked (line_of x) from next (Ends answer)
        (fetch_tiers broker_tier.view broker_tier.cache w.tier) (fetch_tiers row.0.view row.0.cache w'.tier) row.0.row).2

    ended : slice_get w.partition_state.nodes b ≡ Some x → (g : StartSnapshot) (ts : ℤ) (cursor : ℕ) (next : SearchStep) (answer : Answer)
        → SearchesOn disk store meta w.partition w.partition_state w.tier b x broker_tier g ts cursor next (Ends answer) w'.partition_state w'.tier
        → SearchCause disk store meta w b x g cursor answer w'
    ended at g ts cursor next answer s =
        let on = resumed_at w.partition_state.registry.start cursor in
        let with = resumed_with w.partition_state.registry.start cursor next in
        ends at g cursor answer s.keeps (asked_of w.partition w.partition_state x ts) on with (is_own (local_of x) on with) s.row

    dates : slice_get w.partition_state.nodes b ≡ Some x → (g : StartSnapshot) (ts : ℤ) (cursor : ℕ) (next : SearchStep) (answer : Answer)
        → DateOnRow disk store meta w.partition w.partition_state w.tier b x broker_tier g ts cursor next (Answers answer) w'.partition_state w'.tier
        → SearchCause disk store meta w b x g cursor answer w'
    dates at g ts cursor next Stopped row = row.0
    dates at g ts cursor next NotLeader row = row.2
    dates at g ts cursor next NoOffset row = (row.0, row.1)
    dates at g ts cursor next answer row = ended at g ts cursor next answer row

    by_in_progress : slice_get w.partition_state.nodes b ≡ Some x → (in_progress : InProgress) (which : Which) (answer : Answer)
        → Row disk store meta w.partition w.config w.partition_state w.tier b x broker_tier in_progress (Offset which) (Answers answer) w'.partition_state w'.tier
        → OffsetHasCause disk store meta w b x broker_tier in_progress which answer w'
    by_in_progress at Idle which answer row = first which answer row
    by_in_progress at (Noted g) LatestTiered answer row = second g answer row.0
    by_in_progress at (Noted g) (At ts) answer row = dates at g ts 0 Seek answer row
    by_in_progress at (Noted g) which answer row = elim row.0.2 [ ]
    by_in_progress at (Dates g cursor next) (At ts) answer row = dates at g ts cursor next answer row
    by_in_progress at in_progress which answer row = elim row [ ]

  pub have_causes : (w : Whole D S M) (a : ℕ) (answer : Answer) (w' : Whole D S M) (which : Which) → (t : IsTurn disk store meta w a (Answers answer) w') → t.order.command ≡ Offset which
      → AtNode w.partition_state t.order.broker.0 (λ x. AtBrokerTier w.tier t.order.broker.0
      (λ broker_tier. OffsetHasCause disk store meta w t.order.broker.0 x broker_tier t.actor_state.in_progress which answer w'))
  have_causes w a answer w' which t asks =
      let b = t.order.broker.0 in
      let r = row_of disk store meta w.partition w.config w.partition_state w.tier b t.actor_state.in_progress t.order.command (Answers answer) w'.partition_state w'.tier t.row in
      let row = subst (λ (k : Command). Row disk store meta w.partition w.config w.partition_state w.tier b r.x r.broker_tier t.actor_state.in_progress k (Answers answer) w'.partition_state w'.tier) asks r.row in
      some_at (λ (x : Node D). AtBrokerTier w.tier b (λ broker_tier. OffsetHasCause disk store meta w b x broker_tier t.actor_state.in_progress which answer w'))
      (slice_get w.partition_state.nodes b) r.x r.at
      (some_at (λ (broker_tier : BrokerTierState). OffsetHasCause disk store meta w b r.x broker_tier t.actor_state.in_progress which answer w') (slice_get w.tier.broker_tiers b) r.broker_tier
      r.broker_tier_at
      (by_in_progress w b r.x r.broker_tier w' r.at t.actor_state.in_progress which answer row))
