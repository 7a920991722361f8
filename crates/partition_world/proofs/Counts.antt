-- The journal bounds how often brokers have stopped and how many copies they have tried.
use Rattle.std.proofs.Common.{◌≡◌, ◌∙◌, inl, inr, sym, ap, subst, refl, ℕ, List, [], length, slice_get, slice_set, Some, Option, Bool, true, false}
use Rattle.std.specs.Prelude.{unwrap_or, ℤ}
use Rattle.disk_model.specs.declared.disk.Disk.{Ghosts as DiskGhosts}
use Rattle.object_store.specs.declared.store.Store.{Ghosts as StoreGhosts}
use Rattle.meta_log.specs.declared.log.MetaLog.{Ghosts as MetaGhosts}
use Rattle.tier_base.specs.declared.names.PartitionId.{PartitionId}
use Rattle.tier_base.specs.declared.plain.Keep.{Keep}
use Rattle.log_terms.proofs.Lists.{length-slice_set}
use Rattle.epoch_line.specs.Line.{last_epoch}
use Rattle.copy_task.specs.Copying.{Copied}
use Rattle.copy_task.specs.declared.turn.CopyStep.{CopyStep}
use Rattle.expiry_task.specs.declared.turn.ExpiredSegment.{ExpiredSegment}
use Rattle.expiry_task.specs.declared.turn.DeletionStep.{DeletionStep as Deletion}
use Rattle.rebuild_task.specs.declared.turn.RebuildStep.{RebuildStep as Rebuild}
use Rattle.rebuild_task.specs.declared.turn.RebuildStep.TheVariants.{Epochs, Restart}
use Rattle.tier_fetch.specs.declared.turn.FetchStep.{FetchStep as Search}
use Rattle.tier_fetch.specs.declared.turn.FetchStep.TheVariants.{Refresh}
use Rattle.time_find.specs.Turns.{LocalSearchRow as OwnSearchRow, ReadLocalRow as SearchReadRow}
use Rattle.time_find.specs.declared.turn.Asked.{Asked}
use Rattle.time_find.specs.declared.turn.SearchStep.{SearchStep as Dating}
use Rattle.time_find.specs.declared.turn.SearchStep.TheVariants.{Seek}
use Rattle.plain_log.specs.declared.turn.Turn.{Turn}
use Rattle.plain_log.specs.declared.turn.Turn.TheVariants as dating
use Rattle.plain_log.specs.declared.answer.Answer.{Answer}
use Rattle.plain_log.specs.declared.answer.Answer.TheVariants.{Down, NotLeader, CopyOff, MetaFault, DiskFault, Damaged, Stopped, OutOfRange, Empty, Kept, StaleEpoch, Raised, OkAt, NoOffset}
use Rattle.plain_log.specs.declared.answer.Place.TheVariants.{File}
use Rattle.plain_log.specs.declared.command.Command.{Command}
use Rattle.plain_log.specs.declared.command.Command.TheVariants.{Copy, Trim, Expire, Fetch, Join, Raise, Offset}
use Rattle.plain_log.specs.declared.command.Which.TheVariants.{LatestTiered, At}
use Rattle.plain_log.specs.declared.command.Config.{Config}
use Rattle.broker_log.specs.Seen.{LogState as KeptLog, LogStays}
use Rattle.laws_partition.specs.declared.start_snapshot.StartSnapshot.{StartSnapshot}
use Rattle.laws_partition.specs.declared.start_snapshot.Turned.TheVariants as turned
use Rattle.laws_partition.proofs.BoolTests.{some_of}
use Rattle.registry.specs.declared.registry.Registry.{Registry}
use Rattle.partition_commands.specs.declared.partition_state.Node.{Node}
use Rattle.partition_commands.specs.declared.partition_state.PartitionState.{PartitionState}
use Rattle.partition_commands.specs.Partition.{is_up, line_of, local_of}
use Rattle.partition_commands.specs.Stopping.{HaveStopped}
use Rattle.partition_commands.proofs.StoppingRows.{StopsStay, StopsRise, StopsBy, rises, stays_same, stays_put, row_stops, partition_state_stops}
use Rattle.partition_world.specs.declared.tier.BrokerTierState.{BrokerTierState}
use Rattle.partition_world.specs.declared.tier.RemoteTier.{RemoteTier}
use Rattle.partition_world.specs.declared.actor_state.Outcome.{Outcome}
use Rattle.partition_world.specs.declared.actor_state.Outcome.TheVariants.{Answers, Begins, Chose, Goes, Seeks as Sought, Dates as Dated, ChoosesExpired, Deletes, Rebuilds as Rebuilding}
use Rattle.partition_world.specs.declared.actor_state.InProgress.{InProgress}
use Rattle.partition_world.specs.declared.actor_state.InProgress.TheVariants.{Idle, Noted, Copies, Seeks, Dates, Expires, Rebuilds}
use Rattle.partition_world.specs.Tier.{next_of, counted, AtBrokerTier}
use Rattle.partition_world.specs.TurnsOfCopy.{ReadsLocalLog, ReadSegmentRow, ChooseRow, LeadersFirstRow, CopyFirstRow}
use Rattle.partition_world.specs.TurnsOfFetch.{FetchOnRow, GoesOnFetch}
use Rattle.partition_world.specs.TurnsOfDate.{SearchRow, SearchesOn, DateOnRow, asked_of, is_own, resumed_at, resumed_with}
use Rattle.partition_world.specs.TurnsOfExpiry.{ExpiryRaiseRow, ExpireOnRow, ExpiresBy}
use Rattle.partition_world.specs.TurnsOfRebuild.{with_line, RefreshedRow}
use Rattle.partition_world.specs.TurnsOfTrim.{TrimFirstRow, TrimOnRow}
use Rattle.partition_world.specs.Turns.{ContinuedRow, CopyLaterRow, SeekingRow, DatingRow, DeletingRow, JoinSecondRow, RebuildingRow, BeginRow, Row, TurnRow}
use Rattle.partition_world.proofs.Begins.{row_of}
use Rattle.partition_world.proofs.Halting.{HaltsSome, StaysSome}
use Rattle.std.specs.Prelude.{◌==◌, if◌then◌else◌, IsSomeAnd}
use Rattle.std.proofs.lemmas.List.{length-append}
use Rattle.tier_base.specs.declared.names.ActorId.{ActorId}
use Rattle.plain_log.specs.declared.journal.JournalEntry.{JournalEntry}
use Rattle.std.proofs.Common.{◌+◌, ◌<◌, ◌≤◌, ◌++◌, zero, suc, ◌∷◌, None, arith}
use Rattle.log_terms.proofs.Lists.{get-set}
use Rattle.broker_log.specs.Seen.{incarnation_in}
use Rattle.partition_commands.specs.Partition.{CanStop, put_node}
use Rattle.partition_world.specs.declared.actor_state.ActorState.{ActorState}
use Rattle.plain_log.specs.declared.command.ActorList.{ActorList}
use Rattle.plain_log.specs.declared.command.Order.{Order}
use Rattle.laws_partition.specs.declared.start_snapshot.Turned.{Turned}
use Rattle.partition_world.specs.ActorStates.{outcome_of, told_of, chosen, moved, sought, dated, expired_segment, deleting, rebuilding, actor_state_after, told_count}
use Rattle.partition_world.specs.Sound.{AreCounted, HaveTried, waits, waiting}
use Rattle.partition_world.proofs.Begins.{MayComeTo, row_may}
use Rattle.partition_world.proofs.WorldSound.{entries_after}

-- a number that is the same, or 0, isn't greater
pub next_low : (broker_tier : BrokerTierState) (i : ℕ) → next_of broker_tier i ≤ broker_tier.attempt
next_low broker_tier i = by (broker_tier.incarnation == i)
  where
    by : (same : Bool) → (if same then broker_tier.attempt else 0) ≤ broker_tier.attempt
    by true = omega arith
    by false = omega arith

-- there is one at each place of a list
below_some : {A : Type 0} (xs : List A) (i : ℕ) → i < length xs → slice_get xs i ≡ None → ⊥
below_some [] i lt none = omega (arith, lt)
below_some (x ∷ xs) zero lt none = cc (none)
below_some (x ∷ xs) (suc i) lt none = below_some xs i (omega (arith, lt)) none

-- one for a turn that has chosen a copy's segment
abbrev chose : Outcome → ℕ
chose (Chose copy) = 1
chose other = 0

module _ {D : Type 0} where
  -- each broker has stopped once more at most where the journal has gained an entry, and no oftener where it hasn't
  abbrev pub StopsTo : Outcome → PartitionState D → PartitionState D → Type 0
  StopsTo o h h' = (n : ℕ) → HaveStopped n h.nodes → HaveStopped (n + told_count o) h'.nodes

  to_stay : (o : Outcome) (h h' : PartitionState D) → StopsStay h h' → StopsTo o h h'
  to_stay o h h' stays n few b x at = let le = stays n few b x at in omega (arith, le)

  to_same : (o : Outcome) (h h' : PartitionState D) → h' ≡ h → StopsTo o h h'
  to_same o h h' is = to_stay o h h' (stays_same h h' is)

  to_put : (o : Outcome) (h : PartitionState D) (b : ℕ) (x y : Node D) (h' : PartitionState D) → slice_get h.nodes b ≡ Some x → y.stops ≡ x.stops → h' ≡ put_node h b y → StopsTo o h h'
  to_put o h b x y h' at same is = to_stay o h h' (stays_put h b x y h' at same is)

  to_as : (h h' : PartitionState D) (o after : Outcome) → o ≡ after → StopsTo after h h' → StopsTo o h h'
  to_as h h' o after is k = subst (λ (u : Outcome). StopsTo u h h') (sym is) k

  -- what a turn of a broker's own log does
  own_to : (turn : Turned) (h h' : PartitionState D) → StopsBy turn h h' → StopsTo (outcome_of turn) h h'
  own_to (turned.Answers answer) h h' k = k
  own_to (turned.Begins g) h h' k = to_stay (Begins g) h h' k

module _ {D : Type 0} (disk : DiskGhosts D) where
  next_stops : (p : PartitionId) (b : ℕ) (x : Node D) (broker_tier : BrokerTierState) (offset : ℕ) (outcome : Outcome) (x' : Node D) (broker_tier' : BrokerTierState) → ReadSegmentRow disk p b x broker_tier offset outcome x' broker_tier' → x'.stops ≡ x.stops
  next_stops p b x broker_tier offset (Answers DiskFault) x' broker_tier' w = ap (λ (k : Node D). k.stops) w.0.reads.after
  next_stops p b x broker_tier offset (Answers (Damaged (File name) at)) x' broker_tier' w = ap (λ (k : Node D). k.stops) w.0.reads.after
  next_stops p b x broker_tier offset (Chose copy) x' broker_tier' w = ap (λ (k : Node D). k.stops) w.0.reads.after
  next_stops p b x broker_tier offset other x' broker_tier' w = elim w [ ]

  next_tries : (p : PartitionId) (b : ℕ) (x : Node D) (broker_tier : BrokerTierState) (offset : ℕ) (outcome : Outcome) (x' : Node D) (broker_tier' : BrokerTierState) → ReadSegmentRow disk p b x broker_tier offset outcome x' broker_tier' → broker_tier'.attempt ≤ broker_tier.attempt + chose outcome
  next_tries p b x broker_tier offset (Answers DiskFault) x' broker_tier' w = let same = ap (λ (k : BrokerTierState). k.attempt) w.1 in omega (arith, same)
  next_tries p b x broker_tier offset (Answers (Damaged (File name) at)) x' broker_tier' w = let same = ap (λ (k : BrokerTierState). k.attempt) w.1 in omega (arith, same)
  next_tries p b x broker_tier offset (Chose copy) x' broker_tier' w =
      let i = some_of (λ i. broker_tier' ≡ counted broker_tier i) (incarnation_in x.log) w.2 in
      let same = ap (λ (k : BrokerTierState). k.attempt) i.2 in
      let low = next_low broker_tier i.0 in
      omega (arith, same, low)
  next_tries p b x broker_tier offset other x' broker_tier' w = elim w [ ]

set_tries : (m : ℕ) (broker_tiers : List BrokerTierState) (b : ℕ) (y : BrokerTierState) → HaveTried m broker_tiers → y.attempt ≤ m → HaveTried m (slice_set broker_tiers b y)
set_tries m broker_tiers b y few le i z at = elim (get-set broker_tiers b y i z at) [
  | inl one ↦ (let same : z.attempt ≡ y.attempt = ap (λ (k : BrokerTierState). k.attempt) one.1 in omega (arith, same, le))
  | inr other ↦ few i z other.1
]

module _ {S M : Type 0} where
  -- no tier state has tried more copies than it had
  abbrev pub Tries : BrokerTierState → RemoteTier S M → RemoteTier S M → Type 0
  Tries broker_tier t t' = (m : ℕ) → broker_tier.attempt ≤ m → HaveTried m t.broker_tiers → HaveTried m t'.broker_tiers

  -- or one more where one was chosen
  abbrev pub TriesBy : Outcome → BrokerTierState → RemoteTier S M → RemoteTier S M → Type 0
  TriesBy o broker_tier t t' = (m : ℕ) → broker_tier.attempt ≤ m → HaveTried m t.broker_tiers → HaveTried (m + chose o) t'.broker_tiers

  tries_same : (broker_tier : BrokerTierState) (t t' : RemoteTier S M) → t'.broker_tiers ≡ t.broker_tiers → Tries broker_tier t t'
  tries_same broker_tier t t' is m low few = subst (HaveTried m) (sym is) few

  put_by : (o : Outcome) (b : ℕ) (broker_tier y : BrokerTierState) (t t' : RemoteTier S M) → y.attempt ≤ broker_tier.attempt + chose o → t'.broker_tiers ≡ slice_set t.broker_tiers b y → TriesBy o broker_tier t t'
  put_by o b broker_tier y t t' le is m low few =
      subst (HaveTried (m + chose o)) (sym is)
      (set_tries (m + chose o) t.broker_tiers b y (λ i z at. let old = few i z at in omega (arith, old)) (omega (arith, le, low)))

  tries_put : (b : ℕ) (broker_tier y : BrokerTierState) (t t' : RemoteTier S M) → y.attempt ≤ broker_tier.attempt → t'.broker_tiers ≡ slice_set t.broker_tiers b y → Tries broker_tier t t'
  tries_put b broker_tier y t t' le is m low few = subst (HaveTried m) (sym is) (set_tries m t.broker_tiers b y few (omega (arith, le, low)))

  more : (o : Outcome) (broker_tier : BrokerTierState) (t t' : RemoteTier S M) → Tries broker_tier t t' → TriesBy o broker_tier t t'
  more o broker_tier t t' k m low few i z at = let le = k m low few i z at in omega (arith, le)

-- how many actors' states have begun and chosen no segment, after a turn

chosen_waits : (in_progress : InProgress) (copy : Copied) → MayComeTo in_progress (Chose copy) → waits (chosen in_progress copy) + 1 ≤ waits in_progress
chosen_waits (Noted g) copy may = omega arith
chosen_waits in_progress copy may = elim may [ ]

moved_waits : (in_progress : InProgress) (next : CopyStep) → MayComeTo in_progress (Goes next) → waits (moved in_progress next) ≤ waits in_progress
moved_waits (Copies g copy before) next may = omega arith
moved_waits in_progress next may = elim may [ ]

sought_waits : (in_progress : InProgress) (next : Search) → MayComeTo in_progress (Sought next) → waits (sought in_progress next) ≤ waits in_progress
sought_waits (Noted g) next may = omega arith
sought_waits (Seeks g before) next may = omega arith
sought_waits in_progress next may = elim may [ ]

dated_waits : (in_progress : InProgress) (cursor : ℕ) (next : Dating) → MayComeTo in_progress (Dated cursor next) → waits (dated in_progress cursor next) ≤ waits in_progress
dated_waits (Noted g) cursor next may = omega arith
dated_waits (Dates g was before) cursor next may = omega arith
dated_waits in_progress cursor next may = elim may [ ]

expired_segment_waits : (in_progress : InProgress) (segment : ExpiredSegment) → MayComeTo in_progress (ChoosesExpired segment) → waits (expired_segment in_progress segment) ≤ waits in_progress
expired_segment_waits (Noted g) segment may = omega arith
expired_segment_waits in_progress segment may = elim may [ ]

deleting_waits : (in_progress : InProgress) (next : Deletion) → MayComeTo in_progress (Deletes next) → waits (deleting in_progress next) ≤ waits in_progress
deleting_waits (Expires g segment before) next may = omega arith
deleting_waits in_progress next may = elim may [ ]

rebuilding_waits : (in_progress : InProgress) (next : Rebuild) → MayComeTo in_progress (Rebuilding next) → waits (rebuilding in_progress next) ≤ waits in_progress
rebuilding_waits (Noted g) next may = omega arith
rebuilding_waits (Rebuilds g before) next may = omega arith
rebuilding_waits in_progress next may = elim may [ ]

waits_after : (actor_state : ActorState) (o : Outcome) → MayComeTo actor_state.in_progress o → waits (actor_state_after actor_state o).in_progress + chose o ≤ waits actor_state.in_progress + told_count o
waits_after actor_state (Answers answer) may = omega arith
waits_after actor_state (Begins g) may = omega arith
waits_after actor_state (Chose copy) may = let le = chosen_waits actor_state.in_progress copy may in omega (arith, le)
waits_after actor_state (Goes next) may = let le = moved_waits actor_state.in_progress next may in omega (arith, le)
waits_after actor_state (Sought next) may = let le = sought_waits actor_state.in_progress next may in omega (arith, le)
waits_after actor_state (Dated cursor next) may = let le = dated_waits actor_state.in_progress cursor next may in omega (arith, le)
waits_after actor_state (ChoosesExpired segment) may = let le = expired_segment_waits actor_state.in_progress segment may in omega (arith, le)
waits_after actor_state (Deletes next) may = let le = deleting_waits actor_state.in_progress next may in omega (arith, le)
waits_after actor_state (Rebuilding next) may = let le = rebuilding_waits actor_state.in_progress next may in omega (arith, le)

waiting_set : (desk : List ActorState) (i : ℕ) (actor_state after : ActorState) (c d : ℕ) → slice_get desk i ≡ Some actor_state → waits after.in_progress + c ≤ waits actor_state.in_progress + d → waiting (slice_set desk i after) + c ≤ waiting desk + d
waiting_set [] i actor_state after c d at le = absurd cc
waiting_set (s ∷ desk) zero actor_state after c d at le = let one : s ≡ actor_state = cc in omega (arith, le, ap (λ (k : ActorState). waits k.in_progress) one)
waiting_set (s ∷ desk) (suc i) actor_state after c d at le = let h = waiting_set desk i actor_state after c d at le in omega (arith, h)

module _ {D S M : Type 0} (disk : DiskGhosts D) (store : StoreGhosts S) (meta : MetaGhosts M) where
  choose_to : (p : PartitionId) (h : PartitionState D) (t : RemoteTier S M) (b : ℕ) (x : Node D) (broker_tier : BrokerTierState) (g : StartSnapshot) (outcome : Outcome) (h' : PartitionState D) (t' : RemoteTier S M)
      → slice_get h.nodes b ≡ Some x → ChooseRow disk p h t b x broker_tier g outcome h' t' → StopsTo outcome h h'
  choose_to p h t b x broker_tier g outcome h' t' at (inl lost) = to_same outcome h h' lost.2
  choose_to p h t b x broker_tier g outcome h' t' at (inr (keeps, inl level)) = to_same outcome h h' level.2
  choose_to p h t b x broker_tier g outcome h' t' at (inr (keeps, inr reads)) =
      to_put outcome h b x reads.node h' at (next_stops disk p b x broker_tier _ outcome reads.node reads.broker_tier_after reads.row) reads.partition_state

  trim_to : (h : PartitionState D) (b : ℕ) (x : Node D) (broker_tier : BrokerTierState) (g : StartSnapshot) (keep : Keep) (outcome : Outcome) (h' : PartitionState D)
      → slice_get h.nodes b ≡ Some x → TrimOnRow disk h b x broker_tier g keep outcome h' → StopsTo outcome h h'
  trim_to h b x broker_tier g keep (Answers answer) h' at w = row_stops disk.content disk.control h b x (Some g) Trim (turned.Answers answer) h' at w.0
  trim_to h b x broker_tier g keep other h' at w = elim w [ ]

  -- an expiry raises the log start offset as the command does
  raise_to : (h : PartitionState D) (b : ℕ) (x : Node D) (start : ℕ) (answer : Answer) (h' : PartitionState D) → slice_get h.nodes b ≡ Some x → is_up x ≡ true → ExpiryRaiseRow h x.role start answer h'
      → StopsTo (Answers answer) h h'
  raise_to h b x start (StaleEpoch e) h' at up w = row_stops disk.content disk.control h b x None (Raise start) (turned.Answers (StaleEpoch e)) h' at (up, w)
  raise_to h b x start (Raised to) h' at up w = row_stops disk.content disk.control h b x None (Raise start) (turned.Answers (OkAt to)) h' at (up, w)
  raise_to h b x start other h' at up w = elim w [ ]

  expires_to : (p : PartitionId) (h : PartitionState D) (b : ℕ) (x : Node D) (broker_tier : BrokerTierState) (keep : Keep) (outcome : Outcome) (h' : PartitionState D) → slice_get h.nodes b ≡ Some x → is_up x ≡ true
      → ExpiresBy p h x broker_tier keep outcome h' → StopsTo outcome h h'
  expires_to p h b x broker_tier keep (ChoosesExpired segment) h' at up w = to_same (ChoosesExpired segment) h h' w.stays
  expires_to p h b x broker_tier keep (Answers Kept) h' at up w = to_same (Answers Kept) h h' w.2
  expires_to p h b x broker_tier keep (Answers answer) h' at up w = raise_to h b x w.0 answer h' at up w.2
  expires_to p h b x broker_tier keep other h' at up w = elim w [ ]

  expire_to : (p : PartitionId) (h : PartitionState D) (b : ℕ) (x : Node D) (broker_tier : BrokerTierState) (g : StartSnapshot) (keep : Keep) (outcome : Outcome) (h' : PartitionState D) → slice_get h.nodes b ≡ Some x
      → ExpireOnRow p h x broker_tier g keep outcome h' → StopsTo outcome h h'
  expire_to p h b x broker_tier g keep outcome h' at (inl lost) = to_same outcome h h' lost.2
  expire_to p h b x broker_tier g keep outcome h' at (inr k) = expires_to p h b x broker_tier keep outcome h' at k.0.up k.1

  -- a timestamp lookup reads its broker's log at most
  search_to : (o : Outcome) (h : PartitionState D) (t : RemoteTier S M) (b : ℕ) (x : Node D) (broker_tier : BrokerTierState) (asked : Asked) (cursor : ℕ) (next : Dating)
      (own : Bool) (turn : Turn (ℕ × Dating)) (h' : PartitionState D) (t' : RemoteTier S M) → slice_get h.nodes b ≡ Some x
      → SearchRow disk store meta h t b x broker_tier asked cursor next own turn h' t' → StopsTo o h h'
  search_to o h t b x broker_tier asked cursor next true turn h' t' at w =
      to_put o h b x (record x { log = w.0.kept }) h' at refl w.0.after
  search_to o h t b x broker_tier asked cursor next false turn h' t' at w = to_same o h h' w.1

  searches_to : (o : Outcome) (p : PartitionId) (h : PartitionState D) (t : RemoteTier S M) (b : ℕ) (x : Node D) (broker_tier : BrokerTierState) (g : StartSnapshot) (ts : ℤ)
      (cursor : ℕ) (next : Dating) (turn : Turn (ℕ × Dating)) (h' : PartitionState D) (t' : RemoteTier S M) → slice_get h.nodes b ≡ Some x
      → SearchesOn disk store meta p h t b x broker_tier g ts cursor next turn h' t' → StopsTo o h h'
  searches_to o p h t b x broker_tier g ts cursor next turn h' t' at w =
      let on = resumed_at h.registry.start cursor in
      let with = resumed_with h.registry.start cursor next in
      search_to o h t b x broker_tier (asked_of p h x ts) on with (is_own (local_of x) on with) turn h' t' at w.row

  date_to : (p : PartitionId) (h : PartitionState D) (t : RemoteTier S M) (b : ℕ) (x : Node D) (broker_tier : BrokerTierState) (g : StartSnapshot) (ts : ℤ)
      (cursor : ℕ) (next : Dating) (outcome : Outcome) (h' : PartitionState D) (t' : RemoteTier S M) → slice_get h.nodes b ≡ Some x
      → DateOnRow disk store meta p h t b x broker_tier g ts cursor next outcome h' t' → StopsTo outcome h h'
  date_to p h t b x broker_tier g ts cursor next (Answers Stopped) h' t' at w = to_same (Answers Stopped) h h' w.1
  date_to p h t b x broker_tier g ts cursor next (Answers NotLeader) h' t' at w = to_same (Answers NotLeader) h h' w.3
  date_to p h t b x broker_tier g ts cursor next (Answers NoOffset) h' t' at w = to_same (Answers NoOffset) h h' w.2
  date_to p h t b x broker_tier g ts cursor next (Answers answer) h' t' at w =
      searches_to (Answers answer) p h t b x broker_tier g ts cursor next (dating.Ends answer) h' t' at w
  date_to p h t b x broker_tier g ts cursor next (Dated later after) h' t' at w =
      searches_to (Dated later after) p h t b x broker_tier g ts cursor next (dating.Goes (later, after)) h' t' at w.0
  date_to p h t b x broker_tier g ts cursor next other h' t' at w = elim w [ ]

  recorded_to : (p : PartitionId) (config : Config) (h : PartitionState D) (t : RemoteTier S M) (b : ℕ) (x : Node D) (broker_tier : BrokerTierState) (g : StartSnapshot) (command : Command) (outcome : Outcome) (h' : PartitionState D) (t' : RemoteTier S M)
      → slice_get h.nodes b ≡ Some x → ContinuedRow disk store meta p config h t b x broker_tier g command outcome h' t' → StopsTo outcome h h'
  recorded_to p config h t b x broker_tier g Copy outcome h' t' at w = choose_to p h t b x broker_tier g outcome h' t' at w
  recorded_to p config h t b x broker_tier g Join outcome h' t' at (inl (low, own)) = to_as h h' outcome (Answers own.0.0) own.0.1 (row_stops disk.content disk.control h b x (Some g) Join (turned.Answers own.0.0) h' at own.0.2)
  recorded_to p config h t b x broker_tier g Join outcome h' t' at (inr (high, row, is)) = to_same outcome h h' is
  recorded_to p config h t b x broker_tier g Expire outcome h' t' at w = expire_to p h b x broker_tier g config.keep outcome h' at w.0
  recorded_to p config h t b x broker_tier g Trim outcome h' t' at w = trim_to h b x broker_tier g config.local_keep outcome h' at w.0
  recorded_to p config h t b x broker_tier g (Fetch offset limit) outcome h' t' at w = to_same outcome h h' w.1
  recorded_to p config h t b x broker_tier g (Offset LatestTiered) outcome h' t' at w = to_same outcome h h' w.1
  recorded_to p config h t b x broker_tier g (Offset (At ts)) outcome h' t' at w =
      date_to p h t b x broker_tier g ts 0 Seek outcome h' t' at w
  recorded_to p config h t b x broker_tier g other outcome h' t' at w = to_as h h' outcome (Answers w.0.0) w.0.1 (row_stops disk.content disk.control h b x (Some g) other (turned.Answers w.0.0) h' at w.0.2)

  begins_to : (h : PartitionState D) (t : RemoteTier S M) (b : ℕ) (x : Node D) (broker_tier : BrokerTierState) (command : Command) (outcome : Outcome) (h' : PartitionState D) (t' : RemoteTier S M)
      → slice_get h.nodes b ≡ Some x → BeginRow disk store meta h t b x broker_tier command outcome h' t' → StopsTo outcome h h'
  begins_to h t b x broker_tier Copy outcome h' t' at w = to_same outcome h h' w.1
  begins_to h t b x broker_tier Trim outcome h' t' at w = to_same outcome h h' w.1
  begins_to h t b x broker_tier Expire outcome h' t' at w = to_same outcome h h' w.1
  begins_to h t b x broker_tier (Offset LatestTiered) outcome h' t' at w = to_same outcome h h' w.1
  begins_to h t b x broker_tier (Offset (At ts)) outcome h' t' at w = to_same outcome h h' w.1
  begins_to h t b x broker_tier other outcome h' t' at w = to_as h h' outcome (outcome_of w.0.0) w.0.1 (own_to w.0.0 h h' (row_stops disk.content disk.control h b x None other w.0.0 h' at w.0.2))

  copying_to : (h : PartitionState D) (t : RemoteTier S M) (b : ℕ) (x : Node D) (broker_tier : BrokerTierState) (g : StartSnapshot) (copy : Copied) (next : CopyStep) (command : Command) (outcome : Outcome) (h' : PartitionState D) (t' : RemoteTier S M)
      → CopyLaterRow store meta h t b x broker_tier g copy next command outcome h' t' → StopsTo outcome h h'
  copying_to h t b x broker_tier g copy next Copy outcome h' t' w = to_same outcome h h' w.1
  copying_to h t b x broker_tier g copy next other outcome h' t' w = elim w [ ]

  seeking_to : (p : PartitionId) (h : PartitionState D) (t : RemoteTier S M) (b : ℕ) (x : Node D) (broker_tier : BrokerTierState) (g : StartSnapshot) (next : Search) (command : Command) (outcome : Outcome) (h' : PartitionState D) (t' : RemoteTier S M)
      → SeekingRow store meta p h t b x broker_tier g next command outcome h' t' → StopsTo outcome h h'
  seeking_to p h t b x broker_tier g next (Fetch offset limit) outcome h' t' w = to_same outcome h h' w.1
  seeking_to p h t b x broker_tier g next other outcome h' t' w = elim w [ ]

  dating_to : (p : PartitionId) (h : PartitionState D) (t : RemoteTier S M) (b : ℕ) (x : Node D) (broker_tier : BrokerTierState) (g : StartSnapshot) (cursor : ℕ)
      (next : Dating) (command : Command) (outcome : Outcome) (h' : PartitionState D) (t' : RemoteTier S M) → slice_get h.nodes b ≡ Some x
      → DatingRow disk store meta p h t b x broker_tier g cursor next command outcome h' t' → StopsTo outcome h h'
  dating_to p h t b x broker_tier g cursor next (Offset (At ts)) outcome h' t' at w =
      date_to p h t b x broker_tier g ts cursor next outcome h' t' at w
  dating_to p h t b x broker_tier g cursor next other outcome h' t' at w = elim w [ ]

  deleting_to : (h : PartitionState D) (t : RemoteTier S M) (b : ℕ) (x : Node D) (g : StartSnapshot) (segment : ExpiredSegment) (next : Deletion) (command : Command) (outcome : Outcome) (h' : PartitionState D) (t' : RemoteTier S M)
      → DeletingRow store meta h t b x g segment next command outcome h' t' → StopsTo outcome h h'
  deleting_to h t b x g segment next Expire outcome h' t' w = to_same outcome h h' w.1
  deleting_to h t b x g segment next other outcome h' t' w = elim w [ ]

  rebuilding_to : (p : PartitionId) (h : PartitionState D) (t : RemoteTier S M) (b : ℕ) (x : Node D) (broker_tier : BrokerTierState) (g : StartSnapshot) (next : Rebuild) (command : Command) (outcome : Outcome) (h' : PartitionState D) (t' : RemoteTier S M)
      → slice_get h.nodes b ≡ Some x → RebuildingRow disk store p h t b x broker_tier g next command outcome h' t' → StopsTo outcome h h'
  rebuilding_to p h t b x broker_tier g Epochs Join outcome h' t' at w = to_same outcome h h' w.1
  rebuilding_to p h t b x broker_tier g (Restart line) Join outcome h' t' at w = to_as h h' outcome (Answers w.0.0) w.0.1 (row_stops disk.content disk.control h b x (Some (with_line g line)) Join (turned.Answers w.0.0) h' at w.0.2)
  rebuilding_to p h t b x broker_tier g next other outcome h' t' at w = elim w [ ]

  row_to : (p : PartitionId) (config : Config) (h : PartitionState D) (t : RemoteTier S M) (b : ℕ) (x : Node D) (broker_tier : BrokerTierState) (in_progress : InProgress) (command : Command) (outcome : Outcome) (h' : PartitionState D) (t' : RemoteTier S M)
      → slice_get h.nodes b ≡ Some x → Row disk store meta p config h t b x broker_tier in_progress command outcome h' t' → StopsTo outcome h h'
  row_to p config h t b x broker_tier Idle command outcome h' t' at w = begins_to h t b x broker_tier command outcome h' t' at w
  row_to p config h t b x broker_tier (Noted g) command outcome h' t' at w = recorded_to p config h t b x broker_tier g command outcome h' t' at w
  row_to p config h t b x broker_tier (Copies g copy next) command outcome h' t' at w = copying_to h t b x broker_tier g copy next command outcome h' t' w
  row_to p config h t b x broker_tier (Seeks g next) command outcome h' t' at w = seeking_to p h t b x broker_tier g next command outcome h' t' w
  row_to p config h t b x broker_tier (Dates g cursor next) command outcome h' t' at w =
      dating_to p h t b x broker_tier g cursor next command outcome h' t' at w
  row_to p config h t b x broker_tier (Expires g segment next) command outcome h' t' at w = deleting_to h t b x g segment next command outcome h' t' w
  row_to p config h t b x broker_tier (Rebuilds g next) command outcome h' t' at w = rebuilding_to p h t b x broker_tier g next command outcome h' t' at w

  choose_tries : (p : PartitionId) (h : PartitionState D) (t : RemoteTier S M) (b : ℕ) (x : Node D) (broker_tier : BrokerTierState) (g : StartSnapshot) (outcome : Outcome) (h' : PartitionState D) (t' : RemoteTier S M)
      → ChooseRow disk p h t b x broker_tier g outcome h' t' → TriesBy outcome broker_tier t t'
  choose_tries p h t b x broker_tier g outcome h' t' (inl lost) = more outcome broker_tier t t' (tries_same broker_tier t t' (ap (λ (k : RemoteTier S M). k.broker_tiers) lost.3))
  choose_tries p h t b x broker_tier g outcome h' t' (inr (keeps, inl level)) = more outcome broker_tier t t' (tries_same broker_tier t t' (ap (λ (k : RemoteTier S M). k.broker_tiers) level.3))
  choose_tries p h t b x broker_tier g outcome h' t' (inr (keeps, inr reads)) =
      put_by outcome b broker_tier reads.broker_tier_after t t' (next_tries disk p b x broker_tier _ outcome reads.node reads.broker_tier_after reads.row) (ap (λ (k : RemoteTier S M). k.broker_tiers) reads.tier)

  goes_tries : (p : PartitionId) (t : RemoteTier S M) (b : ℕ) (x : Node D) (broker_tier : BrokerTierState) (offset limit : ℕ) (next : Search) (turn : Turn Search) (t' : RemoteTier S M)
      → GoesOnFetch store meta p t b x broker_tier offset limit next turn t' → Tries broker_tier t t'
  goes_tries p t b x broker_tier offset limit next turn t' k = tries_put b broker_tier (record broker_tier { view = k.view; cache = k.cache }) t t' (omega arith) (ap (λ (k : RemoteTier S M). k.broker_tiers) k.after)

  fetch_tries : (p : PartitionId) (h : PartitionState D) (t : RemoteTier S M) (b : ℕ) (x : Node D) (broker_tier : BrokerTierState) (g : StartSnapshot) (offset limit : ℕ) (next : Search) (outcome : Outcome) (t' : RemoteTier S M)
      → FetchOnRow store meta p h t b x broker_tier g offset limit next outcome t' → Tries broker_tier t t'
  fetch_tries p h t b x broker_tier g offset limit next (Answers Stopped) t' w = tries_same broker_tier t t' (ap (λ (k : RemoteTier S M). k.broker_tiers) w.1)
  fetch_tries p h t b x broker_tier g offset limit next (Answers NotLeader) t' w = tries_same broker_tier t t' (ap (λ (k : RemoteTier S M). k.broker_tiers) w.3)
  fetch_tries p h t b x broker_tier g offset limit next (Answers (OutOfRange start end)) t' w = tries_same broker_tier t t' (ap (λ (k : RemoteTier S M). k.broker_tiers) w.4)
  fetch_tries p h t b x broker_tier g offset limit next (Answers Empty) t' w = tries_same broker_tier t t' (ap (λ (k : RemoteTier S M). k.broker_tiers) w.3)
  fetch_tries p h t b x broker_tier g offset limit next (Answers answer) t' w = goes_tries p t b x broker_tier offset limit next _ t' w.1
  fetch_tries p h t b x broker_tier g offset limit next (Sought later) t' w = goes_tries p t b x broker_tier offset limit next _ t' w.1
  fetch_tries p h t b x broker_tier g offset limit next other t' w = elim w [ ]

  search_tries : (h : PartitionState D) (t : RemoteTier S M) (b : ℕ) (x : Node D) (broker_tier : BrokerTierState) (asked : Asked) (cursor : ℕ) (next : Dating) (own : Bool)
      (turn : Turn (ℕ × Dating)) (h' : PartitionState D) (t' : RemoteTier S M) → SearchRow disk store meta h t b x broker_tier asked cursor next own turn h' t'
      → Tries broker_tier t t'
  search_tries h t b x broker_tier asked cursor next true turn h' t' w = tries_same broker_tier t t' (ap (λ (k : RemoteTier S M). k.broker_tiers) w.1)
  search_tries h t b x broker_tier asked cursor next false turn h' t' w =
      tries_put b broker_tier (record broker_tier { view = w.0.view; cache = w.0.cache }) t t' (omega arith) (ap (λ (k : RemoteTier S M). k.broker_tiers) w.0.after)

  searches_tries : (p : PartitionId) (h : PartitionState D) (t : RemoteTier S M) (b : ℕ) (x : Node D) (broker_tier : BrokerTierState) (g : StartSnapshot) (ts : ℤ) (cursor : ℕ)
      (next : Dating) (turn : Turn (ℕ × Dating)) (h' : PartitionState D) (t' : RemoteTier S M)
      → SearchesOn disk store meta p h t b x broker_tier g ts cursor next turn h' t' → Tries broker_tier t t'
  searches_tries p h t b x broker_tier g ts cursor next turn h' t' w =
      let on = resumed_at h.registry.start cursor in
      let with = resumed_with h.registry.start cursor next in
      search_tries h t b x broker_tier (asked_of p h x ts) on with (is_own (local_of x) on with) turn h' t' w.row

  date_tries : (p : PartitionId) (h : PartitionState D) (t : RemoteTier S M) (b : ℕ) (x : Node D) (broker_tier : BrokerTierState) (g : StartSnapshot) (ts : ℤ) (cursor : ℕ)
      (next : Dating) (outcome : Outcome) (h' : PartitionState D) (t' : RemoteTier S M)
      → DateOnRow disk store meta p h t b x broker_tier g ts cursor next outcome h' t' → Tries broker_tier t t'
  date_tries p h t b x broker_tier g ts cursor next (Answers Stopped) h' t' w = tries_same broker_tier t t' (ap (λ (k : RemoteTier S M). k.broker_tiers) w.2)
  date_tries p h t b x broker_tier g ts cursor next (Answers NotLeader) h' t' w = tries_same broker_tier t t' (ap (λ (k : RemoteTier S M). k.broker_tiers) w.4)
  date_tries p h t b x broker_tier g ts cursor next (Answers NoOffset) h' t' w = tries_same broker_tier t t' (ap (λ (k : RemoteTier S M). k.broker_tiers) w.3)
  date_tries p h t b x broker_tier g ts cursor next (Answers answer) h' t' w =
      searches_tries p h t b x broker_tier g ts cursor next (dating.Ends answer) h' t' w
  date_tries p h t b x broker_tier g ts cursor next (Dated later after) h' t' w =
      searches_tries p h t b x broker_tier g ts cursor next (dating.Goes (later, after)) h' t' w.0
  date_tries p h t b x broker_tier g ts cursor next other h' t' w = elim w [ ]

  refresh_tries : (t : RemoteTier S M) (b : ℕ) (broker_tier : BrokerTierState) (outcome : Outcome) (t' : RemoteTier S M) → RefreshedRow meta t b broker_tier outcome t' → Tries broker_tier t t'
  refresh_tries t b broker_tier (Answers MetaFault) t' w = tries_same broker_tier t t' (ap (λ (k : RemoteTier S M). k.broker_tiers) w.after)
  refresh_tries t b broker_tier (Rebuilding Epochs) t' w = tries_put b broker_tier (record broker_tier { view = w.view }) t t' (omega arith) (ap (λ (k : RemoteTier S M). k.broker_tiers) w.after)
  refresh_tries t b broker_tier other t' w = elim w [ ]

  join_tries : (h : PartitionState D) (t : RemoteTier S M) (b : ℕ) (x : Node D) (broker_tier : BrokerTierState) (g : StartSnapshot) (outcome : Outcome) (h' : PartitionState D) (t' : RemoteTier S M)
      → JoinSecondRow disk meta h t b x broker_tier g outcome h' t' → Tries broker_tier t t'
  join_tries h t b x broker_tier g outcome h' t' (inl (low, own)) = tries_same broker_tier t t' (ap (λ (k : RemoteTier S M). k.broker_tiers) own.1)
  join_tries h t b x broker_tier g outcome h' t' (inr (high, inl (answer, is, at, tier), same)) = tries_same broker_tier t t' (ap (λ (k : RemoteTier S M). k.broker_tiers) tier)
  join_tries h t b x broker_tier g outcome h' t' (inr (high, inr (may, row), same)) = refresh_tries t b broker_tier outcome t' row

  recorded_tries : (p : PartitionId) (config : Config) (h : PartitionState D) (t : RemoteTier S M) (b : ℕ) (x : Node D) (broker_tier : BrokerTierState) (g : StartSnapshot) (command : Command) (outcome : Outcome) (h' : PartitionState D) (t' : RemoteTier S M)
      → ContinuedRow disk store meta p config h t b x broker_tier g command outcome h' t' → TriesBy outcome broker_tier t t'
  recorded_tries p config h t b x broker_tier g Copy outcome h' t' w = choose_tries p h t b x broker_tier g outcome h' t' w
  recorded_tries p config h t b x broker_tier g Trim outcome h' t' w = more outcome broker_tier t t' (tries_same broker_tier t t' (ap (λ (k : RemoteTier S M). k.broker_tiers) w.1))
  recorded_tries p config h t b x broker_tier g Join outcome h' t' w = more outcome broker_tier t t' (join_tries h t b x broker_tier g outcome h' t' w)
  recorded_tries p config h t b x broker_tier g Expire outcome h' t' w = more outcome broker_tier t t' (tries_same broker_tier t t' (ap (λ (k : RemoteTier S M). k.broker_tiers) w.1))
  recorded_tries p config h t b x broker_tier g (Fetch offset limit) outcome h' t' w = more outcome broker_tier t t' (fetch_tries p h t b x broker_tier g offset limit Refresh outcome t' w.0)
  recorded_tries p config h t b x broker_tier g (Offset LatestTiered) outcome h' t' w = more outcome broker_tier t t' (tries_same broker_tier t t' (ap (λ (k : RemoteTier S M). k.broker_tiers) w.2))
  recorded_tries p config h t b x broker_tier g (Offset (At ts)) outcome h' t' w =
      more outcome broker_tier t t' (date_tries p h t b x broker_tier g ts 0 Seek outcome h' t' w)
  recorded_tries p config h t b x broker_tier g other outcome h' t' w = more outcome broker_tier t t' (tries_same broker_tier t t' (ap (λ (k : RemoteTier S M). k.broker_tiers) w.1))

  leaders_tries : (h : PartitionState D) (t : RemoteTier S M) (b : ℕ) (x : Node D) (broker_tier : BrokerTierState) (outcome : Outcome) (t' : RemoteTier S M) → LeadersFirstRow meta h t b x broker_tier outcome t' → Tries broker_tier t t'
  leaders_tries h t b x broker_tier (Answers Down) t' w = tries_same broker_tier t t' (ap (λ (k : RemoteTier S M). k.broker_tiers) w.1)
  leaders_tries h t b x broker_tier (Answers NotLeader) t' w = tries_same broker_tier t t' (ap (λ (k : RemoteTier S M). k.broker_tiers) w.2)
  leaders_tries h t b x broker_tier (Answers MetaFault) t' w = tries_same broker_tier t t' (ap (λ (k : RemoteTier S M). k.broker_tiers) w.2.after)
  leaders_tries h t b x broker_tier (Begins g) t' w = tries_put b broker_tier (record broker_tier { view = w.3.view }) t t' (omega arith) (ap (λ (k : RemoteTier S M). k.broker_tiers) w.3.after)
  leaders_tries h t b x broker_tier other t' w = elim w [ ]

  copy_tries : (h : PartitionState D) (t : RemoteTier S M) (b : ℕ) (x : Node D) (broker_tier : BrokerTierState) (outcome : Outcome) (t' : RemoteTier S M) → CopyFirstRow meta h t b x broker_tier outcome t' → Tries broker_tier t t'
  copy_tries h t b x broker_tier (Answers CopyOff) t' w = tries_same broker_tier t t' (ap (λ (k : RemoteTier S M). k.broker_tiers) w.3)
  copy_tries h t b x broker_tier (Answers MetaFault) t' w = leaders_tries h t b x broker_tier (Answers MetaFault) t' w.0
  copy_tries h t b x broker_tier (Begins g) t' w = leaders_tries h t b x broker_tier (Begins g) t' w.0
  copy_tries h t b x broker_tier other t' w = leaders_tries h t b x broker_tier other t' w

  trim_tries : (h : PartitionState D) (t : RemoteTier S M) (b : ℕ) (x : Node D) (broker_tier : BrokerTierState) (outcome : Outcome) (t' : RemoteTier S M) → TrimFirstRow meta h t b x broker_tier outcome t' → Tries broker_tier t t'
  trim_tries h t b x broker_tier (Answers Down) t' w = tries_same broker_tier t t' (ap (λ (k : RemoteTier S M). k.broker_tiers) w.1)
  trim_tries h t b x broker_tier (Answers MetaFault) t' w = tries_same broker_tier t t' (ap (λ (k : RemoteTier S M). k.broker_tiers) w.1.after)
  trim_tries h t b x broker_tier (Begins g) t' w = tries_put b broker_tier (record broker_tier { view = w.2.view }) t t' (omega arith) (ap (λ (k : RemoteTier S M). k.broker_tiers) w.2.after)
  trim_tries h t b x broker_tier other t' w = elim w [ ]

  begins_tries : (h : PartitionState D) (t : RemoteTier S M) (b : ℕ) (x : Node D) (broker_tier : BrokerTierState) (command : Command) (outcome : Outcome) (h' : PartitionState D) (t' : RemoteTier S M)
      → BeginRow disk store meta h t b x broker_tier command outcome h' t' → Tries broker_tier t t'
  begins_tries h t b x broker_tier Copy outcome h' t' w = copy_tries h t b x broker_tier outcome t' w.0
  begins_tries h t b x broker_tier Trim outcome h' t' w = trim_tries h t b x broker_tier outcome t' w.0
  begins_tries h t b x broker_tier Expire outcome h' t' w = leaders_tries h t b x broker_tier outcome t' w.0
  begins_tries h t b x broker_tier (Offset LatestTiered) outcome h' t' w = leaders_tries h t b x broker_tier outcome t' w.0
  begins_tries h t b x broker_tier (Offset (At ts)) outcome h' t' w = leaders_tries h t b x broker_tier outcome t' w.0
  begins_tries h t b x broker_tier other outcome h' t' w = tries_same broker_tier t t' (ap (λ (k : RemoteTier S M). k.broker_tiers) w.1)

  copying_tries : (h : PartitionState D) (t : RemoteTier S M) (b : ℕ) (x : Node D) (broker_tier : BrokerTierState) (g : StartSnapshot) (copy : Copied) (next : CopyStep) (command : Command) (outcome : Outcome) (h' : PartitionState D) (t' : RemoteTier S M)
      → CopyLaterRow store meta h t b x broker_tier g copy next command outcome h' t' → Tries broker_tier t t'
  copying_tries h t b x broker_tier g copy next Copy outcome h' t' (inl lost, same) = tries_same broker_tier t t' (ap (λ (k : RemoteTier S M). k.broker_tiers) lost.2)
  copying_tries h t b x broker_tier g copy next Copy outcome h' t' (inr (keeps, (turn, is, goes)), same) = tries_put b broker_tier (record broker_tier { view = goes.view }) t t' (omega arith) (ap (λ (k : RemoteTier S M). k.broker_tiers) goes.after)
  copying_tries h t b x broker_tier g copy next other outcome h' t' w = elim w [ ]

  seeking_tries : (p : PartitionId) (h : PartitionState D) (t : RemoteTier S M) (b : ℕ) (x : Node D) (broker_tier : BrokerTierState) (g : StartSnapshot) (next : Search) (command : Command) (outcome : Outcome) (h' : PartitionState D) (t' : RemoteTier S M)
      → SeekingRow store meta p h t b x broker_tier g next command outcome h' t' → Tries broker_tier t t'
  seeking_tries p h t b x broker_tier g next (Fetch offset limit) outcome h' t' w = fetch_tries p h t b x broker_tier g offset limit next outcome t' w.0
  seeking_tries p h t b x broker_tier g next other outcome h' t' w = elim w [ ]

  dating_tries : (p : PartitionId) (h : PartitionState D) (t : RemoteTier S M) (b : ℕ) (x : Node D) (broker_tier : BrokerTierState) (g : StartSnapshot) (cursor : ℕ) (next : Dating)
      (command : Command) (outcome : Outcome) (h' : PartitionState D) (t' : RemoteTier S M)
      → DatingRow disk store meta p h t b x broker_tier g cursor next command outcome h' t' → Tries broker_tier t t'
  dating_tries p h t b x broker_tier g cursor next (Offset (At ts)) outcome h' t' w =
      date_tries p h t b x broker_tier g ts cursor next outcome h' t' w
  dating_tries p h t b x broker_tier g cursor next other outcome h' t' w = elim w [ ]

  deleting_tries : (h : PartitionState D) (t : RemoteTier S M) (b : ℕ) (x : Node D) (broker_tier : BrokerTierState) (g : StartSnapshot) (segment : ExpiredSegment) (next : Deletion) (command : Command) (outcome : Outcome) (h' : PartitionState D) (t' : RemoteTier S M)
      → DeletingRow store meta h t b x g segment next command outcome h' t' → Tries broker_tier t t'
  deleting_tries h t b x broker_tier g segment next Expire outcome h' t' (inl lost, same) = tries_same broker_tier t t' (ap (λ (k : RemoteTier S M). k.broker_tiers) lost.2)
  deleting_tries h t b x broker_tier g segment next Expire outcome h' t' (inr (keeps, (turn, is, goes)), same) = tries_same broker_tier t t' (ap (λ (k : RemoteTier S M). k.broker_tiers) goes.after)
  deleting_tries h t b x broker_tier g segment next other outcome h' t' w = elim w [ ]

  rebuilding_tries : (p : PartitionId) (h : PartitionState D) (t : RemoteTier S M) (b : ℕ) (x : Node D) (broker_tier : BrokerTierState) (g : StartSnapshot) (next : Rebuild) (command : Command) (outcome : Outcome) (h' : PartitionState D) (t' : RemoteTier S M)
      → RebuildingRow disk store p h t b x broker_tier g next command outcome h' t' → Tries broker_tier t t'
  rebuilding_tries p h t b x broker_tier g Epochs Join outcome h' t' (inl (answer, is, at, tier), same) = tries_same broker_tier t t' (ap (λ (k : RemoteTier S M). k.broker_tiers) tier)
  rebuilding_tries p h t b x broker_tier g Epochs Join outcome h' t' (inr (may, (turn, is, goes)), same) = tries_same broker_tier t t' (ap (λ (k : RemoteTier S M). k.broker_tiers) goes.after)
  rebuilding_tries p h t b x broker_tier g (Restart line) Join outcome h' t' w = tries_same broker_tier t t' (ap (λ (k : RemoteTier S M). k.broker_tiers) w.1)
  rebuilding_tries p h t b x broker_tier g next other outcome h' t' w = elim w [ ]

  row_tries : (p : PartitionId) (config : Config) (h : PartitionState D) (t : RemoteTier S M) (b : ℕ) (x : Node D) (broker_tier : BrokerTierState) (in_progress : InProgress) (command : Command) (outcome : Outcome) (h' : PartitionState D) (t' : RemoteTier S M)
      → Row disk store meta p config h t b x broker_tier in_progress command outcome h' t' → TriesBy outcome broker_tier t t'
  row_tries p config h t b x broker_tier Idle command outcome h' t' w = more outcome broker_tier t t' (begins_tries h t b x broker_tier command outcome h' t' w)
  row_tries p config h t b x broker_tier (Noted g) command outcome h' t' w = recorded_tries p config h t b x broker_tier g command outcome h' t' w
  row_tries p config h t b x broker_tier (Copies g copy next) command outcome h' t' w = more outcome broker_tier t t' (copying_tries h t b x broker_tier g copy next command outcome h' t' w)
  row_tries p config h t b x broker_tier (Seeks g next) command outcome h' t' w = more outcome broker_tier t t' (seeking_tries p h t b x broker_tier g next command outcome h' t' w)
  row_tries p config h t b x broker_tier (Dates g cursor next) command outcome h' t' w =
      more outcome broker_tier t t' (dating_tries p h t b x broker_tier g cursor next command outcome h' t' w)
  row_tries p config h t b x broker_tier (Expires g segment next) command outcome h' t' w = more outcome broker_tier t t' (deleting_tries h t b x broker_tier g segment next command outcome h' t' w)
  row_tries p config h t b x broker_tier (Rebuilds g next) command outcome h' t' w = more outcome broker_tier t t' (rebuilding_tries p h t b x broker_tier g next command outcome h' t' w)

  halts_tries : (h : PartitionState D) (t : RemoteTier S M) (b : ℕ) (x : Node D) (broker_tier : BrokerTierState) (t' : RemoteTier S M) → HaltsSome disk store meta h t b x broker_tier t' → Tries broker_tier t t'
  halts_tries h t b x broker_tier t' (inl halts) = tries_put b broker_tier (record broker_tier { view = halts.view }) t t' (omega arith) (ap (λ (k : RemoteTier S M). k.broker_tiers) halts.after)
  halts_tries h t b x broker_tier t' (inr (inl (copy, next, wants))) = tries_put b broker_tier (record broker_tier { view = wants.view }) t t' (omega arith) (ap (λ (k : RemoteTier S M). k.broker_tiers) wants.after)
  halts_tries h t b x broker_tier t' (inr (inr (inl (p, offset, limit, next, wants)))) =
      tries_put b broker_tier (record broker_tier { view = wants.view; cache = wants.cache }) t t' (omega arith) (ap (λ (k : RemoteTier S M). k.broker_tiers) wants.after)
  halts_tries h t b x broker_tier t' (inr (inr (inr (inl (segment, next, wants))))) = tries_same broker_tier t t' (ap (λ (k : RemoteTier S M). k.broker_tiers) wants.after)
  halts_tries h t b x broker_tier t' (inr (inr (inr (inr (inl (line, asked, cursor, next, wants)))))) =
      tries_put b broker_tier (record broker_tier { view = wants.view; cache = wants.cache }) t t' (omega arith) (ap (λ (k : RemoteTier S M). k.broker_tiers) wants.after)
  halts_tries h t b x broker_tier t' (inr (inr (inr (inr (inr (p, g, wants)))))) = tries_same broker_tier t t' (ap (λ (k : RemoteTier S M). k.broker_tiers) wants.after)

  -- a world's counts after a turn
  pub counted_after : (config : Config) (lists : List ActorList) (p : PartitionId) (h : PartitionState D) (t : RemoteTier S M) (h' : PartitionState D) (t' : RemoteTier S M) (desk desk' : List ActorState) (entered entered' place : ℕ) (l : ActorList) (actor_state : ActorState)
      (order : Order) (outcome : Outcome) → AreCounted lists h t.broker_tiers desk entered → slice_get lists place ≡ Some l → slice_get desk place ≡ Some actor_state → actor_state.number < length l.orders
      → TurnRow disk store meta p config h t order.broker.0 actor_state.in_progress order.command outcome h' t' → desk' ≡ slice_set desk place (actor_state_after actor_state outcome)
      → entered' ≡ entered + told_count outcome → AreCounted lists h' t'.broker_tiers desk' entered'
  counted_after config lists p h t h' t' desk desk' entered entered' place l actor_state order outcome s at to lt row desk_is is =
      let less = entries_after disk store meta lists p config h t h' t' desk place l actor_state order outcome at to lt row in
      let r = row_of disk store meta p config h t order.broker.0 actor_state.in_progress order.command outcome h' t' row in
      let m = s.tried.0 in
      let tries = s.tried.1 in
      let sum = s.tried.2 in
      let wait = waiting_set desk place actor_state (actor_state_after actor_state outcome) (chose outcome) (told_count outcome) to
      (waits_after actor_state outcome (row_may disk store meta p config h t order.broker.0 r.x r.broker_tier actor_state.in_progress order.command outcome h' t' r.row)) in
      let few = s.few in
      record {
        few = rw desk_is (omega (arith, less, few, is));
        stopped = rw is (row_to p config h t order.broker.0 r.x r.broker_tier actor_state.in_progress order.command outcome h' t' r.at r.row entered s.stopped);
        tried = (
          m + chose outcome,
          row_tries p config h t order.broker.0 r.x r.broker_tier actor_state.in_progress order.command outcome h' t' r.row m (tries order.broker.0 r.broker_tier r.broker_tier_at) tries,
          rw desk_is (omega (arith, wait, sum, is)),
        );
      }

  -- and where there was no memory for one
  pub counted_after_none : (lists : List ActorList) (h : PartitionState D) (t : RemoteTier S M) (b : ℕ) (h' : PartitionState D) (t' : RemoteTier S M) (desk : List ActorState) (entered : ℕ) → AreCounted lists h t.broker_tiers desk entered
      → StaysSome disk store meta h t b h' t' → AreCounted lists h' t'.broker_tiers desk entered
  counted_after_none lists h t b h' t' desk entered s (inl k) = record {
    few = s.few;
    stopped = partition_state_stops disk.content disk.control h h' k.0 entered s.stopped;
    tried = (s.tried.0, subst (HaveTried s.tried.0) (sym (ap (λ (k : RemoteTier S M). k.broker_tiers) k.1)) s.tried.1, s.tried.2);
  }
  counted_after_none lists h t b h' t' desk entered s (inr k) =
      let x = some_of (λ x. AtBrokerTier t b (λ broker_tier. HaltsSome disk store meta h t b x broker_tier t')) (slice_get h.nodes b) k.1 in
      let broker_tier = some_of (λ broker_tier. HaltsSome disk store meta h t b x.0 broker_tier t') (slice_get t.broker_tiers b) x.2 in
      record {
        few = s.few;
        stopped = stays_same h h' k.0 entered s.stopped;
        tried = (s.tried.0, halts_tries h t b x.0 broker_tier.0 t' broker_tier.2 s.tried.0 (s.tried.1 b broker_tier.0 broker_tier.1) s.tried.1, s.tried.2);
      }

module _ {D : Type 0} where
  -- so a broker can stop once more, and try one more copy
  pub may_stop : (lists : List ActorList) (h : PartitionState D) (broker_tiers : List BrokerTierState) (desk : List ActorState) (entered b : ℕ) → AreCounted lists h broker_tiers desk entered → b < length h.nodes → CanStop h b
  may_stop lists h broker_tiers desk entered b s lt = by (slice_get h.nodes b) refl
    where
      by : (o : Option (Node D)) → slice_get h.nodes b ≡ o → CanStop h b
      by None none = absurd (below_some h.nodes b lt none)
      by (Some x) at = rw at (let low = s.stopped b x at in let few = s.few in omega (arith, low, few))

  pub may_try : (lists : List ActorList) (h : PartitionState D) (broker_tiers : List BrokerTierState) (desk : List ActorState) (entered b : ℕ) → AreCounted lists h broker_tiers desk entered → b < length broker_tiers
      → IsSomeAnd (slice_get broker_tiers b) (λ broker_tier. broker_tier.attempt < 18446744073709551615)
  may_try lists h broker_tiers desk entered b s lt = by (slice_get broker_tiers b) refl
    where
      by : (o : Option BrokerTierState) → slice_get broker_tiers b ≡ o → IsSomeAnd (slice_get broker_tiers b) (λ broker_tier. broker_tier.attempt < 18446744073709551615)
      by None none = absurd (below_some broker_tiers b lt none)
      by (Some broker_tier) at = rw at (let low = s.tried.1 b broker_tier at in let sum = s.tried.2 in let few = s.few in omega (arith, low, sum, few))

-- what a turn enters
told_length : (actor : ActorId) (number : ℕ) (command : Command) (o : Outcome) → length (told_of actor number command o) ≡ told_count o
told_length actor number command (Answers answer) = refl
told_length actor number command (Begins g) = refl
told_length actor number command (Chose copy) = refl
told_length actor number command (Goes next) = refl
told_length actor number command (Sought next) = refl
told_length actor number command (Dated cursor next) = refl
told_length actor number command (ChoosesExpired segment) = refl
told_length actor number command (Deletes next) = refl
told_length actor number command (Rebuilding next) = refl

pub told_more : (actor : ActorId) (number : ℕ) (command : Command) (o : Outcome) (items after : List JournalEntry) → after ≡ items ++ told_of actor number command o → length after ≡ length items + told_count o
told_more actor number command o items after is =
    ap (λ (k : List JournalEntry). length k) is ∙ (length-append items (told_of actor number command o) ∙ ap (λ (n : ℕ). length items + n) (told_length actor number command o))
