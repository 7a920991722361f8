-- A later turn of a timestamp lookup is its row.
use Rattle.std.proofs.Common.{◌≡◌, ◌⊎◌, inl, inr, sym, subst, ℕ, ◌<◌, Option, Some, Bool, true, false, slice_get}
use Rattle.std.specs.Prelude.{◌^◌, ℤ, IsSomeAnd}
use Rattle.tier_base.specs.declared.names.PartitionId.{PartitionId}
use Rattle.disk_model.specs.declared.disk.Disk.{Ghosts as DiskGhosts}
use Rattle.object_store.specs.declared.store.Store.{Ghosts as StoreGhosts}
use Rattle.meta_log.specs.declared.log.MetaLog.{Ghosts as MetaGhosts}
use Rattle.time_find.specs.declared.turn.Asked.{Asked}
use Rattle.time_find.specs.declared.turn.SearchStep.{SearchStep}
use Rattle.plain_log.specs.declared.turn.Turn.{Turn}
use Rattle.plain_log.specs.declared.turn.Turn.TheVariants.{Goes, Ends}
use Rattle.time_find.specs.Turns.{SearchContinues}
use Rattle.plain_log.specs.declared.answer.Answer.{Answer}
use Rattle.plain_log.specs.declared.answer.Place.TheVariants.{File}
use Rattle.plain_log.specs.declared.answer.Answer.TheVariants.{MetaFault, StoreFault, DiskFault, Damaged, Offset}
use Rattle.laws_partition.specs.declared.start_snapshot.StartSnapshot.{StartSnapshot}
use Rattle.partition_commands.specs.declared.partition_state.Node.{Node}
use Rattle.partition_commands.specs.declared.partition_state.PartitionState.{PartitionState}
use Rattle.partition_commands.specs.Partition.{AtNode, line_of, local_of}
use Rattle.partition_world.specs.declared.tier.BrokerTierState.{BrokerTierState}
use Rattle.partition_world.specs.declared.tier.RemoteTier.{RemoteTier}
use Rattle.partition_world.specs.declared.actor_state.Outcome.TheVariants.{Answers}
use Rattle.partition_world.specs.Tier.{AtBrokerTier}
use Rattle.partition_world.specs.ActorStates.{date_outcome}
use Rattle.partition_world.specs.TurnsOfCopy.{KeepsLead}
use Rattle.partition_world.specs.TurnsOfDate.{resumed_at, resumed_with, is_own, asked_of, WantsForDate, SearchRow, SearchesOn, DateOnRow}
use Rattle.partition_world.specs.Turns.{DateHalts, StaysOr}
use Rattle.partition_world.proofs.DateEnds.{MayEnd, MayEndOwn, date_ends, own_ends}
use Rattle.partition_world.proofs.Dispatch.{some_more}

module _ {D S M : Type 0} (disk : DiskGhosts D) (store : StoreGhosts S) (meta : MetaGhosts M) where
  -- what a turn returns, in the local log or not
  answers_of : (h : PartitionState D) (t : RemoteTier S M) (b : ℕ) (x : Node D) (broker_tier : BrokerTierState) (asked : Asked) (cursor : ℕ) (next : SearchStep) (own : Bool)
      (answer : Answer) (h' : PartitionState D) (t' : RemoteTier S M) → SearchRow disk store meta h t b x broker_tier asked cursor next own (Ends answer) h' t'
      → MayEnd answer ⊎ MayEndOwn answer
  answers_of h t b x broker_tier asked cursor next true answer h' t' w = inr (own_ends disk x.log asked cursor answer w.0.kept w.0.row)
  answers_of h t b x broker_tier asked cursor next false answer h' t' w =
      inl (date_ends store meta asked (line_of x) cursor next answer _ _ w.0.row)

module _ {D S M : Type 0} (disk : DiskGhosts D) (store : StoreGhosts S) (meta : MetaGhosts M) (p : PartitionId) (h : PartitionState D)
    (t : RemoteTier S M) (b : ℕ) (x : Node D) (broker_tier : BrokerTierState) (g : StartSnapshot) (ts : ℤ) (cursor : ℕ) (next : SearchStep) (h' : PartitionState D) (t' : RemoteTier S M) where
  ends_row : (answer : Answer) → MayEnd answer → SearchesOn disk store meta p h t b x broker_tier g ts cursor next (Ends answer) h' t'
      → DateOnRow disk store meta p h t b x broker_tier g ts cursor next (Answers answer) h' t'
  ends_row MetaFault may w = w
  ends_row StoreFault may w = w
  ends_row (Damaged place at) may w = w
  ends_row (Offset n) may w = w
  ends_row other may w = absurd may

  own_row : (answer : Answer) → MayEndOwn answer → SearchesOn disk store meta p h t b x broker_tier g ts cursor next (Ends answer) h' t'
      → DateOnRow disk store meta p h t b x broker_tier g ts cursor next (Answers answer) h' t'
  own_row DiskFault may w = w
  own_row (Damaged (File name) at) may w = w
  own_row (Offset n) may w = w
  own_row other may w = absurd may

  either_row : (answer : Answer) → MayEnd answer ⊎ MayEndOwn answer
      → SearchesOn disk store meta p h t b x broker_tier g ts cursor next (Ends answer) h' t'
      → DateOnRow disk store meta p h t b x broker_tier g ts cursor next (Answers answer) h' t'
  either_row answer (inl may) w = ends_row answer may w
  either_row answer (inr may) w = own_row answer may w

  goes_row : (turn : Turn (ℕ × SearchStep)) → SearchesOn disk store meta p h t b x broker_tier g ts cursor next turn h' t'
      → SearchContinues (resumed_at h.registry.start cursor) turn
      → DateOnRow disk store meta p h t b x broker_tier g ts cursor next (date_outcome turn) h' t'
  goes_row (Goes (at, later)) w goes = (w, goes)
  goes_row (Ends answer) w goes =
      let start = h.registry.start in
      let own = is_own (local_of x) (resumed_at start cursor) (resumed_with start cursor next) in
      either_row answer (answers_of disk store meta h t b x broker_tier (asked_of p h x ts) (resumed_at start cursor)
      (resumed_with start cursor next) own answer h' t' w.row) w

module _ {D S M : Type 0} (disk : DiskGhosts D) (store : StoreGhosts S) (meta : MetaGhosts M) (p : PartitionId) (h : PartitionState D)
    (t : RemoteTier S M) (b : ℕ) (x : Node D) (g : StartSnapshot) (ts : ℤ) (cursor : ℕ) (next : SearchStep) (h' : PartitionState D) (t' : RemoteTier S M) where
  -- the row of a turn that searches, of the broker that is read
  abbrev pub RowAt : Asked → ℕ → SearchStep → Turn (ℕ × SearchStep) → Type 0
  RowAt asked at with_next turn = AtNode h b (λ y. AtBrokerTier t b (λ broker_tier.
      SearchRow disk store meta h t b y broker_tier asked at with_next (is_own asked.local at with_next) turn h' t'))

  searched : (turn : Turn (ℕ × SearchStep)) → KeepsLead x g → resumed_at h.registry.start cursor < x.known_high_watermark → resumed_at h.registry.start cursor < 2 ^ 64
      → SearchContinues (resumed_at h.registry.start cursor) turn
      → AtBrokerTier t b (λ broker_tier. SearchRow disk store meta h t b x broker_tier (asked_of p h x ts) (resumed_at h.registry.start cursor)
      (resumed_with h.registry.start cursor next)
      (is_own (local_of x) (resumed_at h.registry.start cursor) (resumed_with h.registry.start cursor next)) turn h' t')
      → AtBrokerTier t b (λ broker_tier. DateOnRow disk store meta p h t b x broker_tier g ts cursor next (date_outcome turn) h' t')
  searched turn keeps below fits goes row =
      some_more _ (λ broker_tier. DateOnRow disk store meta p h t b x broker_tier g ts cursor next (date_outcome turn) h' t') (slice_get t.broker_tiers b)
      (λ broker_tier w.
      goes_row disk store meta p h t b x broker_tier g ts cursor next h' t' turn (record { keeps = keeps; below = below; fits = fits; row = w }) goes) row

  -- of one that searches
  pub date_row : (asked : Asked) (at : ℕ) (with_next : SearchStep) (turn : Turn (ℕ × SearchStep)) → slice_get h.nodes b ≡ Some x → KeepsLead x g
      → at ≡ resumed_at h.registry.start cursor → with_next ≡ resumed_with h.registry.start cursor next → asked ≡ asked_of p h x ts
      → at < x.known_high_watermark → at < 2 ^ 64 → SearchContinues at turn → RowAt asked at with_next turn
      → AtNode h b (λ y. AtBrokerTier t b (λ broker_tier. DateOnRow disk store meta p h t b y broker_tier g ts cursor next (date_outcome turn) h' t'))
  date_row asked at with_next turn is keeps at_is with_is asked_is below fits goes row =
      subst (λ (o : Option (Node D)). IsSomeAnd o (λ y. AtBrokerTier t b (λ broker_tier.
      DateOnRow disk store meta p h t b y broker_tier g ts cursor next (date_outcome turn) h' t'))) (sym is)
      (searched turn keeps (subst (λ (n : ℕ). n < x.known_high_watermark) at_is below) (subst (λ (n : ℕ). n < 2 ^ 64) at_is fits) (subst (λ (n : ℕ). SearchContinues n turn) at_is goes)
      (subst (λ (o : Option (Node D)). IsSomeAnd o (λ y. AtBrokerTier t b (λ broker_tier. SearchRow disk store meta h t b y broker_tier (asked_of p h x ts)
      (resumed_at h.registry.start cursor) (resumed_with h.registry.start cursor next)
      (is_own (local_of x) (resumed_at h.registry.start cursor) (resumed_with h.registry.start cursor next)) turn h' t'))) is
      (subst (λ (n : SearchStep). RowAt (asked_of p h x ts) (resumed_at h.registry.start cursor) n turn) with_is
      (subst (λ (n : ℕ). RowAt (asked_of p h x ts) n with_next turn) at_is
      (subst (λ (a : Asked). RowAt a at with_next turn) asked_is row)))))

module _ {D S M : Type 0} (disk : DiskGhosts D) (store : StoreGhosts S) (meta : MetaGhosts M) (p : PartitionId) (h : PartitionState D)
    (t : RemoteTier S M) (b : ℕ) (x : Node D) (ts : ℤ) (cursor : ℕ) (next : SearchStep) (h' : PartitionState D) (t' : RemoteTier S M) where
  -- what is left of one that found no memory
  abbrev pub LeftAt : Asked → ℕ → SearchStep → Type 0
  LeftAt asked at with_next = StaysOr disk h t b (λ y broker_tier. WantsForDate store meta t b broker_tier (line_of y) asked at with_next t') h' t'

  left_of : LeftAt (asked_of p h x ts) (resumed_at h.registry.start cursor) (resumed_with h.registry.start cursor next)
      → slice_get h.nodes b ≡ Some x → StaysOr disk h t b (λ y broker_tier. DateHalts store meta p h t b y broker_tier ts cursor next t') h' t'
  left_of (inl w) is = inl w
  left_of (inr (same, wants)) is =
      let at : AtBrokerTier t b (λ broker_tier. DateHalts store meta p h t b x broker_tier ts cursor next t') =
      subst (λ (o : Option (Node D)). IsSomeAnd o (λ y. AtBrokerTier t b (λ broker_tier. WantsForDate store meta t b broker_tier (line_of y)
      (asked_of p h x ts) (resumed_at h.registry.start cursor) (resumed_with h.registry.start cursor next) t'))) is wants in
      inr (
        same,
        subst (λ (o : Option (Node D)). IsSomeAnd o (λ y. AtBrokerTier t b (λ broker_tier.
            DateHalts store meta p h t b y broker_tier ts cursor next t'))) (sym is) at,
      )

  pub date_left : (asked : Asked) (at : ℕ) (with_next : SearchStep) → slice_get h.nodes b ≡ Some x
      → at ≡ resumed_at h.registry.start cursor → with_next ≡ resumed_with h.registry.start cursor next → asked ≡ asked_of p h x ts
      → LeftAt asked at with_next → StaysOr disk h t b (λ y broker_tier. DateHalts store meta p h t b y broker_tier ts cursor next t') h' t'
  date_left asked at with_next is at_is with_is asked_is left =
      left_of (subst (λ (n : SearchStep). LeftAt (asked_of p h x ts) (resumed_at h.registry.start cursor) n) with_is
      (subst (λ (n : ℕ). LeftAt (asked_of p h x ts) n with_next) at_is
      (subst (λ (a : Asked). LeftAt a at with_next) asked_is left))) is
