-- Each turn keeps what the turns need, over any devices.
use Rattle.std.proofs.Common.{◌≡◌, ◌∙◌, inl, inr, sym, ap, subst, refl, ℕ, List, [], length, slice_get, slice_set, Some, Option, Bool, true, false, arith}
use Rattle.std.specs.Prelude.{unwrap_or, ℤ}
use Rattle.disk_model.specs.declared.disk.Disk.{Ghosts as DiskGhosts}
use Rattle.object_store.specs.declared.store.Store.{Ghosts as StoreGhosts}
use Rattle.meta_log.specs.declared.log.MetaLog.{Ghosts as MetaGhosts}
use Rattle.tier_base.specs.declared.names.PartitionId.{PartitionId}
use Rattle.tier_base.specs.declared.plain.Keep.{Keep}
use Rattle.log_terms.proofs.Lists.{length-slice_set}
use Rattle.epoch_line.specs.Line.{last_epoch}
use Rattle.copy_task.specs.Copying.{Copied}
use Rattle.copy_task.specs.declared.turn.CopyStep.{CopyStep}
use Rattle.expiry_task.specs.declared.turn.ExpiredSegment.{ExpiredSegment}
use Rattle.expiry_task.specs.declared.turn.DeletionStep.{DeletionStep as Deletion}
use Rattle.rebuild_task.specs.declared.turn.RebuildStep.{RebuildStep as Rebuild}
use Rattle.rebuild_task.specs.declared.turn.RebuildStep.TheVariants.{Epochs, Restart}
use Rattle.tier_fetch.specs.declared.turn.FetchStep.{FetchStep as Search}
use Rattle.tier_fetch.specs.declared.turn.FetchStep.TheVariants.{Refresh}
use Rattle.time_find.specs.Turns.{LocalSearchRow as OwnSearchRow, ReadLocalRow as SearchReadRow}
use Rattle.time_find.specs.declared.turn.Asked.{Asked}
use Rattle.time_find.specs.declared.turn.SearchStep.{SearchStep as Dating}
use Rattle.time_find.specs.declared.turn.SearchStep.TheVariants.{Seek}
use Rattle.plain_log.specs.declared.turn.Turn.{Turn}
use Rattle.plain_log.specs.declared.turn.Turn.TheVariants as dating
use Rattle.plain_log.specs.declared.answer.Answer.{Answer}
use Rattle.plain_log.specs.declared.answer.Answer.TheVariants.{Down, NotLeader, CopyOff, MetaFault, DiskFault, Damaged, Stopped, OutOfRange, Empty, Kept, StaleEpoch, Raised, OkAt, NoOffset}
use Rattle.plain_log.specs.declared.answer.Place.TheVariants.{File}
use Rattle.plain_log.specs.declared.command.Command.{Command}
use Rattle.plain_log.specs.declared.command.Command.TheVariants.{Copy, Trim, Expire, Fetch, Join, Raise, Offset}
use Rattle.plain_log.specs.declared.command.Which.TheVariants.{LatestTiered, At}
use Rattle.plain_log.specs.declared.command.Config.{Config}
use Rattle.broker_log.specs.Seen.{LogState as KeptLog, LogStays}
use Rattle.laws_partition.specs.declared.start_snapshot.StartSnapshot.{StartSnapshot}
use Rattle.laws_partition.specs.declared.start_snapshot.Turned.TheVariants as turned
use Rattle.laws_partition.proofs.BoolTests.{some_of}
use Rattle.registry.specs.declared.registry.Registry.{Registry}
use Rattle.partition_commands.specs.declared.partition_state.Node.{Node}
use Rattle.partition_commands.specs.declared.partition_state.PartitionState.{PartitionState}
use Rattle.partition_commands.specs.Partition.{is_up, line_of, local_of}
use Rattle.partition_commands.specs.Sound.{LeaderSound, SoundPartition}
use Rattle.partition_commands.proofs.SoundLaw.{same, put_is, first_sound, later_sound, stays_partition_sound}
use Rattle.partition_world.specs.declared.tier.BrokerTierState.{BrokerTierState}
use Rattle.partition_world.specs.declared.tier.RemoteTier.{RemoteTier}
use Rattle.partition_world.specs.declared.actor_state.Outcome.{Outcome}
use Rattle.partition_world.specs.declared.actor_state.Outcome.TheVariants.{Answers, Begins, Chose, Seeks as Sought, Dates as Dated, ChoosesExpired, Rebuilds as Rebuilding}
use Rattle.partition_world.specs.declared.actor_state.InProgress.{InProgress}
use Rattle.partition_world.specs.declared.actor_state.InProgress.TheVariants.{Idle, Noted, Copies, Seeks, Dates, Expires, Rebuilds}
use Rattle.partition_world.specs.Tier.{AtBrokerTier}
use Rattle.partition_world.specs.TurnsOfCopy.{ReadsLocalLog, ReadSegmentRow, ChooseRow, LeadersFirstRow, CopyFirstRow}
use Rattle.partition_world.specs.TurnsOfFetch.{FetchOnRow, GoesOnFetch}
use Rattle.partition_world.specs.TurnsOfDate.{SearchRow, SearchesOn, DateOnRow, asked_of, is_own, resumed_at, resumed_with}
use Rattle.partition_world.specs.TurnsOfExpiry.{ExpiryRaiseRow, ExpireOnRow, ExpiresBy}
use Rattle.partition_world.specs.TurnsOfRebuild.{with_line, RefreshedRow}
use Rattle.partition_world.specs.TurnsOfTrim.{TrimFirstRow, TrimOnRow}
use Rattle.partition_world.specs.Turns.{ContinuedRow, CopyLaterRow, SeekingRow, DatingRow, DeletingRow, JoinSecondRow, RebuildingRow, BeginRow, Row, TurnRow}
use Rattle.partition_world.proofs.Begins.{row_of}
use Rattle.partition_world.proofs.Halting.{HaltsSome, StaysSome}

module _ {D : Type 0} where
  -- two nodes are alike in all that their turns need
  record Alike (x x' : Node D) : Type 0 where
    pub role : x'.role ≡ x.role
    pub known_high_watermark : x'.known_high_watermark ≡ x.known_high_watermark
    pub up : is_up x' ≡ is_up x
    pub line : line_of x' ≡ line_of x

  alike_sound : {r : Registry} (x x' : Node D) → LeaderSound r x → Alike x x' → LeaderSound r x'
  alike_sound x x' s k = record {
    up = λ e is. k.up ∙ s.up e (sym k.role ∙ is);
    leads = λ e is. ap last_epoch k.line ∙ s.leads e (sym k.role ∙ is);
    fits = λ e is. s.fits e (sym k.role ∙ is);
    past = λ e is. s.past e (sym k.role ∙ is);
    known_high_watermark = λ e is le. (let was = s.known_high_watermark e (sym k.role ∙ is) le in let same = k.known_high_watermark in omega (arith, was, same));
    down = λ down. let d = s.down (sym k.up ∙ down) in (k.role ∙ d.0, k.known_high_watermark ∙ d.1);
  }

module _ {D : Type 0} (disk : DiskGhosts D) where
  -- a node whose log was read
  read_alike : (x x' : Node D) → ReadsLocalLog disk x x' → Alike x x'
  read_alike x x' r = rw r.after (record {
    role = refl;
    known_high_watermark = refl;
    up = r.stays.up;
    line = ap (λ (o : Option (List (ℕ × ℕ))). unwrap_or o []) r.stays.line;
  })

  next_alike : (p : PartitionId) (b : ℕ) (x : Node D) (broker_tier : BrokerTierState) (offset : ℕ) (outcome : Outcome) (x' : Node D) (broker_tier' : BrokerTierState) → ReadSegmentRow disk p b x broker_tier offset outcome x' broker_tier' → Alike x x'
  next_alike p b x broker_tier offset (Answers DiskFault) x' broker_tier' w = read_alike x x' w.0.reads
  next_alike p b x broker_tier offset (Answers (Damaged (File name) at)) x' broker_tier' w = read_alike x x' w.0.reads
  next_alike p b x broker_tier offset (Chose copy) x' broker_tier' w = read_alike x x' w.0.reads
  next_alike p b x broker_tier offset other x' broker_tier' w = elim w [ ]

  -- a node whose log a search read
  search_stays : (old : KeptLog D) (asked : Asked) (at : ℕ) (turn : Turn (ℕ × Dating)) (new : KeptLog D)
      → SearchReadRow disk.content disk.control old asked at turn new → LogStays disk.content old new
  search_stays old asked at (dating.Ends DiskFault) new w = w.0
  search_stays old asked at (dating.Ends (Damaged (File name) place)) new w = w.misreads.stays
  search_stays old asked at turn new w = w.reads.stays

  search_alike : (x : Node D) (asked : Asked) (cursor : ℕ) (turn : Turn (ℕ × Dating)) (kept : KeptLog D)
      → OwnSearchRow disk.content disk.control x.log asked cursor turn kept → Alike x (record x { log = kept })
  search_alike x asked cursor turn kept (inl (past, is, same)) =
      subst (λ (k : KeptLog D). Alike x (record x { log = k })) (sym same) (record { role = refl; known_high_watermark = refl; up = refl; line = refl })
  search_alike x asked cursor turn kept (inr (below, row)) =
      let stays = search_stays x.log asked _ turn kept row in
      record { role = refl; known_high_watermark = refl; up = stays.up; line = ap (λ (o : Option (List (ℕ × ℕ))). unwrap_or o []) stays.line }

module _ {D S M : Type 0} (disk : DiskGhosts D) (store : StoreGhosts S) (meta : MetaGhosts M) where
  choose_sound : (n : ℕ) (p : PartitionId) (h : PartitionState D) (t : RemoteTier S M) (b : ℕ) (x : Node D) (broker_tier : BrokerTierState) (g : StartSnapshot) (outcome : Outcome) (h' : PartitionState D) (t' : RemoteTier S M)
      → slice_get h.nodes b ≡ Some x → SoundPartition n h → ChooseRow disk p h t b x broker_tier g outcome h' t' → SoundPartition n h'
  choose_sound n p h t b x broker_tier g outcome h' t' at s (inl lost) = same n h h' lost.2 s
  choose_sound n p h t b x broker_tier g outcome h' t' at s (inr (keeps, inl level)) = same n h h' level.2 s
  choose_sound n p h t b x broker_tier g outcome h' t' at s (inr (keeps, inr reads)) =
      put_is n h b reads.node h' reads.partition_state s (alike_sound x reads.node (s.nodes b x at) (next_alike disk p b x broker_tier _ outcome reads.node reads.broker_tier_after reads.row))

  trim_sound : (n : ℕ) (h : PartitionState D) (b : ℕ) (x : Node D) (broker_tier : BrokerTierState) (g : StartSnapshot) (keep : Keep) (outcome : Outcome) (h' : PartitionState D)
      → slice_get h.nodes b ≡ Some x → SoundPartition n h → TrimOnRow disk h b x broker_tier g keep outcome h' → SoundPartition n h'
  trim_sound n h b x broker_tier g keep (Answers answer) h' at s w = later_sound disk.content disk.control n h b x Trim g (turned.Answers answer) h' at s w.0
  trim_sound n h b x broker_tier g keep other h' at s w = elim w [ ]

  -- an expiry raises the log start offset as the command does
  raise_sound : (n : ℕ) (h : PartitionState D) (b : ℕ) (x : Node D) (start : ℕ) (answer : Answer) (h' : PartitionState D) → slice_get h.nodes b ≡ Some x → is_up x ≡ true → SoundPartition n h → ExpiryRaiseRow h x.role start answer h'
      → SoundPartition n h'
  raise_sound n h b x start (StaleEpoch e) h' at up s w = first_sound disk.content disk.control n h b x (Raise start) (turned.Answers (StaleEpoch e)) h' at s (up, w)
  raise_sound n h b x start (Raised to) h' at up s w = first_sound disk.content disk.control n h b x (Raise start) (turned.Answers (OkAt to)) h' at s (up, w)
  raise_sound n h b x start other h' at up s w = elim w [ ]

  expires_sound : (n : ℕ) (p : PartitionId) (h : PartitionState D) (b : ℕ) (x : Node D) (broker_tier : BrokerTierState) (keep : Keep) (outcome : Outcome) (h' : PartitionState D) → slice_get h.nodes b ≡ Some x → is_up x ≡ true → SoundPartition n h
      → ExpiresBy p h x broker_tier keep outcome h' → SoundPartition n h'
  expires_sound n p h b x broker_tier keep (ChoosesExpired segment) h' at up s w = same n h h' w.stays s
  expires_sound n p h b x broker_tier keep (Answers Kept) h' at up s w = same n h h' w.2 s
  expires_sound n p h b x broker_tier keep (Answers answer) h' at up s w = raise_sound n h b x w.0 answer h' at up s w.2
  expires_sound n p h b x broker_tier keep other h' at up s w = elim w [ ]

  expire_sound : (n : ℕ) (p : PartitionId) (h : PartitionState D) (b : ℕ) (x : Node D) (broker_tier : BrokerTierState) (g : StartSnapshot) (keep : Keep) (outcome : Outcome) (h' : PartitionState D) → slice_get h.nodes b ≡ Some x → SoundPartition n h
      → ExpireOnRow p h x broker_tier g keep outcome h' → SoundPartition n h'
  expire_sound n p h b x broker_tier g keep outcome h' at s (inl lost) = same n h h' lost.2 s
  expire_sound n p h b x broker_tier g keep outcome h' at s (inr k) = expires_sound n p h b x broker_tier keep outcome h' at k.0.up s k.1

  -- a timestamp lookup reads its broker's log at most
  search_sound : (n : ℕ) (h : PartitionState D) (t : RemoteTier S M) (b : ℕ) (x : Node D) (broker_tier : BrokerTierState) (asked : Asked) (cursor : ℕ) (next : Dating)
      (own : Bool) (turn : Turn (ℕ × Dating)) (h' : PartitionState D) (t' : RemoteTier S M) → slice_get h.nodes b ≡ Some x → SoundPartition n h
      → SearchRow disk store meta h t b x broker_tier asked cursor next own turn h' t' → SoundPartition n h'
  search_sound n h t b x broker_tier asked cursor next true turn h' t' at s w =
      put_is n h b (record x { log = w.0.kept }) h' w.0.after s
      (alike_sound x (record x { log = w.0.kept }) (s.nodes b x at) (search_alike disk x asked cursor turn w.0.kept w.0.row))
  search_sound n h t b x broker_tier asked cursor next false turn h' t' at s w = same n h h' w.1 s

  searches_sound : (n : ℕ) (p : PartitionId) (h : PartitionState D) (t : RemoteTier S M) (b : ℕ) (x : Node D) (broker_tier : BrokerTierState) (g : StartSnapshot) (ts : ℤ)
      (cursor : ℕ) (next : Dating) (turn : Turn (ℕ × Dating)) (h' : PartitionState D) (t' : RemoteTier S M) → slice_get h.nodes b ≡ Some x → SoundPartition n h
      → SearchesOn disk store meta p h t b x broker_tier g ts cursor next turn h' t' → SoundPartition n h'
  searches_sound n p h t b x broker_tier g ts cursor next turn h' t' at s w =
      let on = resumed_at h.registry.start cursor in
      let with = resumed_with h.registry.start cursor next in
      search_sound n h t b x broker_tier (asked_of p h x ts) on with (is_own (local_of x) on with) turn h' t' at s w.row

  date_sound : (n : ℕ) (p : PartitionId) (h : PartitionState D) (t : RemoteTier S M) (b : ℕ) (x : Node D) (broker_tier : BrokerTierState) (g : StartSnapshot) (ts : ℤ)
      (cursor : ℕ) (next : Dating) (outcome : Outcome) (h' : PartitionState D) (t' : RemoteTier S M) → slice_get h.nodes b ≡ Some x → SoundPartition n h
      → DateOnRow disk store meta p h t b x broker_tier g ts cursor next outcome h' t' → SoundPartition n h'
  date_sound n p h t b x broker_tier g ts cursor next (Answers Stopped) h' t' at s w = same n h h' w.1 s
  date_sound n p h t b x broker_tier g ts cursor next (Answers NotLeader) h' t' at s w = same n h h' w.3 s
  date_sound n p h t b x broker_tier g ts cursor next (Answers NoOffset) h' t' at s w = same n h h' w.2 s
  date_sound n p h t b x broker_tier g ts cursor next (Answers answer) h' t' at s w =
      searches_sound n p h t b x broker_tier g ts cursor next (dating.Ends answer) h' t' at s w
  date_sound n p h t b x broker_tier g ts cursor next (Dated later after) h' t' at s w =
      searches_sound n p h t b x broker_tier g ts cursor next (dating.Goes (later, after)) h' t' at s w.0
  date_sound n p h t b x broker_tier g ts cursor next other h' t' at s w = elim w [ ]

  recorded_sound : (n : ℕ) (p : PartitionId) (config : Config) (h : PartitionState D) (t : RemoteTier S M) (b : ℕ) (x : Node D) (broker_tier : BrokerTierState) (g : StartSnapshot) (command : Command) (outcome : Outcome) (h' : PartitionState D) (t' : RemoteTier S M)
      → slice_get h.nodes b ≡ Some x → SoundPartition n h → ContinuedRow disk store meta p config h t b x broker_tier g command outcome h' t' → SoundPartition n h'
  recorded_sound n p config h t b x broker_tier g Copy outcome h' t' at s w = choose_sound n p h t b x broker_tier g outcome h' t' at s w
  recorded_sound n p config h t b x broker_tier g Join outcome h' t' at s (inl (low, own)) = later_sound disk.content disk.control n h b x Join g (turned.Answers own.0.0) h' at s own.0.2
  recorded_sound n p config h t b x broker_tier g Join outcome h' t' at s (inr (high, row, is)) = same n h h' is s
  recorded_sound n p config h t b x broker_tier g Expire outcome h' t' at s w = expire_sound n p h b x broker_tier g config.keep outcome h' at s w.0
  recorded_sound n p config h t b x broker_tier g Trim outcome h' t' at s w = trim_sound n h b x broker_tier g config.local_keep outcome h' at s w.0
  recorded_sound n p config h t b x broker_tier g (Fetch offset limit) outcome h' t' at s w = same n h h' w.1 s
  recorded_sound n p config h t b x broker_tier g (Offset LatestTiered) outcome h' t' at s w = same n h h' w.1 s
  recorded_sound n p config h t b x broker_tier g (Offset (At ts)) outcome h' t' at s w =
      date_sound n p h t b x broker_tier g ts 0 Seek outcome h' t' at s w
  recorded_sound n p config h t b x broker_tier g other outcome h' t' at s w = later_sound disk.content disk.control n h b x other g (turned.Answers w.0.0) h' at s w.0.2

  begins_sound : (n : ℕ) (h : PartitionState D) (t : RemoteTier S M) (b : ℕ) (x : Node D) (broker_tier : BrokerTierState) (command : Command) (outcome : Outcome) (h' : PartitionState D) (t' : RemoteTier S M)
      → slice_get h.nodes b ≡ Some x → SoundPartition n h → BeginRow disk store meta h t b x broker_tier command outcome h' t' → SoundPartition n h'
  begins_sound n h t b x broker_tier Copy outcome h' t' at s w = same n h h' w.1 s
  begins_sound n h t b x broker_tier Trim outcome h' t' at s w = same n h h' w.1 s
  begins_sound n h t b x broker_tier Expire outcome h' t' at s w = same n h h' w.1 s
  begins_sound n h t b x broker_tier (Offset LatestTiered) outcome h' t' at s w = same n h h' w.1 s
  begins_sound n h t b x broker_tier (Offset (At ts)) outcome h' t' at s w = same n h h' w.1 s
  begins_sound n h t b x broker_tier other outcome h' t' at s w = first_sound disk.content disk.control n h b x other w.0.0 h' at s w.0.2

  copying_sound : (n : ℕ) (h : PartitionState D) (t : RemoteTier S M) (b : ℕ) (x : Node D) (broker_tier : BrokerTierState) (g : StartSnapshot) (copy : Copied) (next : CopyStep) (command : Command) (outcome : Outcome) (h' : PartitionState D) (t' : RemoteTier S M)
      → SoundPartition n h → CopyLaterRow store meta h t b x broker_tier g copy next command outcome h' t' → SoundPartition n h'
  copying_sound n h t b x broker_tier g copy next Copy outcome h' t' s w = same n h h' w.1 s
  copying_sound n h t b x broker_tier g copy next other outcome h' t' s w = elim w [ ]

  seeking_sound : (n : ℕ) (p : PartitionId) (h : PartitionState D) (t : RemoteTier S M) (b : ℕ) (x : Node D) (broker_tier : BrokerTierState) (g : StartSnapshot) (next : Search) (command : Command) (outcome : Outcome) (h' : PartitionState D) (t' : RemoteTier S M)
      → SoundPartition n h → SeekingRow store meta p h t b x broker_tier g next command outcome h' t' → SoundPartition n h'
  seeking_sound n p h t b x broker_tier g next (Fetch offset limit) outcome h' t' s w = same n h h' w.1 s
  seeking_sound n p h t b x broker_tier g next other outcome h' t' s w = elim w [ ]

  dating_sound : (n : ℕ) (p : PartitionId) (h : PartitionState D) (t : RemoteTier S M) (b : ℕ) (x : Node D) (broker_tier : BrokerTierState) (g : StartSnapshot) (cursor : ℕ)
      (next : Dating) (command : Command) (outcome : Outcome) (h' : PartitionState D) (t' : RemoteTier S M) → slice_get h.nodes b ≡ Some x
      → SoundPartition n h → DatingRow disk store meta p h t b x broker_tier g cursor next command outcome h' t' → SoundPartition n h'
  dating_sound n p h t b x broker_tier g cursor next (Offset (At ts)) outcome h' t' at s w =
      date_sound n p h t b x broker_tier g ts cursor next outcome h' t' at s w
  dating_sound n p h t b x broker_tier g cursor next other outcome h' t' at s w = elim w [ ]

  deleting_sound : (n : ℕ) (h : PartitionState D) (t : RemoteTier S M) (b : ℕ) (x : Node D) (g : StartSnapshot) (segment : ExpiredSegment) (next : Deletion) (command : Command) (outcome : Outcome) (h' : PartitionState D) (t' : RemoteTier S M)
      → SoundPartition n h → DeletingRow store meta h t b x g segment next command outcome h' t' → SoundPartition n h'
  deleting_sound n h t b x g segment next Expire outcome h' t' s w = same n h h' w.1 s
  deleting_sound n h t b x g segment next other outcome h' t' s w = elim w [ ]

  rebuilding_sound : (n : ℕ) (p : PartitionId) (h : PartitionState D) (t : RemoteTier S M) (b : ℕ) (x : Node D) (broker_tier : BrokerTierState) (g : StartSnapshot) (next : Rebuild) (command : Command) (outcome : Outcome) (h' : PartitionState D) (t' : RemoteTier S M)
      → slice_get h.nodes b ≡ Some x → SoundPartition n h → RebuildingRow disk store p h t b x broker_tier g next command outcome h' t' → SoundPartition n h'
  rebuilding_sound n p h t b x broker_tier g Epochs Join outcome h' t' at s w = same n h h' w.1 s
  rebuilding_sound n p h t b x broker_tier g (Restart line) Join outcome h' t' at s w = later_sound disk.content disk.control n h b x Join (with_line g line) (turned.Answers w.0.0) h' at s w.0.2
  rebuilding_sound n p h t b x broker_tier g next other outcome h' t' at s w = elim w [ ]

  row_sound : (n : ℕ) (p : PartitionId) (config : Config) (h : PartitionState D) (t : RemoteTier S M) (b : ℕ) (x : Node D) (broker_tier : BrokerTierState) (in_progress : InProgress) (command : Command) (outcome : Outcome) (h' : PartitionState D) (t' : RemoteTier S M)
      → slice_get h.nodes b ≡ Some x → SoundPartition n h → Row disk store meta p config h t b x broker_tier in_progress command outcome h' t' → SoundPartition n h'
  row_sound n p config h t b x broker_tier Idle command outcome h' t' at s w = begins_sound n h t b x broker_tier command outcome h' t' at s w
  row_sound n p config h t b x broker_tier (Noted g) command outcome h' t' at s w = recorded_sound n p config h t b x broker_tier g command outcome h' t' at s w
  row_sound n p config h t b x broker_tier (Copies g copy next) command outcome h' t' at s w = copying_sound n h t b x broker_tier g copy next command outcome h' t' s w
  row_sound n p config h t b x broker_tier (Seeks g next) command outcome h' t' at s w = seeking_sound n p h t b x broker_tier g next command outcome h' t' s w
  row_sound n p config h t b x broker_tier (Dates g cursor next) command outcome h' t' at s w =
      dating_sound n p h t b x broker_tier g cursor next command outcome h' t' at s w
  row_sound n p config h t b x broker_tier (Expires g segment next) command outcome h' t' at s w = deleting_sound n h t b x g segment next command outcome h' t' s w
  row_sound n p config h t b x broker_tier (Rebuilds g next) command outcome h' t' at s w = rebuilding_sound n p h t b x broker_tier g next command outcome h' t' at s w

  -- each turn does
  pub turn_sound : (n : ℕ) (p : PartitionId) (config : Config) (h : PartitionState D) (t : RemoteTier S M) (b : ℕ) (in_progress : InProgress) (command : Command) (outcome : Outcome) (h' : PartitionState D) (t' : RemoteTier S M) → SoundPartition n h
      → TurnRow disk store meta p config h t b in_progress command outcome h' t' → SoundPartition n h'
  turn_sound n p config h t b in_progress command outcome h' t' s w =
      let r = row_of disk store meta p config h t b in_progress command outcome h' t' w in row_sound n p config h t b r.x r.broker_tier in_progress command outcome h' t' r.at s r.row

  -- and running out of memory
  pub stays_sound : (n : ℕ) (h : PartitionState D) (t : RemoteTier S M) (b : ℕ) (h' : PartitionState D) (t' : RemoteTier S M) → SoundPartition n h → StaysSome disk store meta h t b h' t' → SoundPartition n h'
  stays_sound n h t b h' t' s (inl k) = stays_partition_sound disk.content disk.control n h h' s k.0
  stays_sound n h t b h' t' s (inr k) = same n h h' k.0 s

  -- and each leaves as many tier states
  broker_tiers_put : (t : RemoteTier S M) (b : ℕ) (broker_tier : BrokerTierState) (t' : RemoteTier S M) → t'.broker_tiers ≡ slice_set t.broker_tiers b broker_tier → length t'.broker_tiers ≡ length t.broker_tiers
  broker_tiers_put t b broker_tier t' is = ap (λ (k : List BrokerTierState). length k) is ∙ length-slice_set t.broker_tiers b broker_tier

  choose_broker_tiers : (p : PartitionId) (h : PartitionState D) (t : RemoteTier S M) (b : ℕ) (x : Node D) (broker_tier : BrokerTierState) (g : StartSnapshot) (outcome : Outcome) (h' : PartitionState D) (t' : RemoteTier S M)
      → ChooseRow disk p h t b x broker_tier g outcome h' t' → length t'.broker_tiers ≡ length t.broker_tiers
  choose_broker_tiers p h t b x broker_tier g outcome h' t' (inl lost) = ap (λ (k : RemoteTier S M). length k.broker_tiers) lost.3
  choose_broker_tiers p h t b x broker_tier g outcome h' t' (inr (keeps, inl level)) = ap (λ (k : RemoteTier S M). length k.broker_tiers) level.3
  choose_broker_tiers p h t b x broker_tier g outcome h' t' (inr (keeps, inr reads)) = broker_tiers_put t b reads.broker_tier_after t' (ap (λ (k : RemoteTier S M). k.broker_tiers) reads.tier)

  goes_broker_tiers : (p : PartitionId) (t : RemoteTier S M) (b : ℕ) (x : Node D) (broker_tier : BrokerTierState) (offset limit : ℕ) (next : Search) (turn : Turn Search) (t' : RemoteTier S M)
      → GoesOnFetch store meta p t b x broker_tier offset limit next turn t' → length t'.broker_tiers ≡ length t.broker_tiers
  goes_broker_tiers p t b x broker_tier offset limit next turn t' k = broker_tiers_put t b (record broker_tier { view = k.view; cache = k.cache }) t' (ap (λ (k : RemoteTier S M). k.broker_tiers) k.after)

  fetch_broker_tiers : (p : PartitionId) (h : PartitionState D) (t : RemoteTier S M) (b : ℕ) (x : Node D) (broker_tier : BrokerTierState) (g : StartSnapshot) (offset limit : ℕ) (next : Search) (outcome : Outcome) (t' : RemoteTier S M)
      → FetchOnRow store meta p h t b x broker_tier g offset limit next outcome t' → length t'.broker_tiers ≡ length t.broker_tiers
  fetch_broker_tiers p h t b x broker_tier g offset limit next (Answers Stopped) t' w = ap (λ (k : RemoteTier S M). length k.broker_tiers) w.1
  fetch_broker_tiers p h t b x broker_tier g offset limit next (Answers NotLeader) t' w = ap (λ (k : RemoteTier S M). length k.broker_tiers) w.3
  fetch_broker_tiers p h t b x broker_tier g offset limit next (Answers (OutOfRange start end)) t' w = ap (λ (k : RemoteTier S M). length k.broker_tiers) w.4
  fetch_broker_tiers p h t b x broker_tier g offset limit next (Answers Empty) t' w = ap (λ (k : RemoteTier S M). length k.broker_tiers) w.3
  fetch_broker_tiers p h t b x broker_tier g offset limit next (Answers answer) t' w = goes_broker_tiers p t b x broker_tier offset limit next _ t' w.1
  fetch_broker_tiers p h t b x broker_tier g offset limit next (Sought later) t' w = goes_broker_tiers p t b x broker_tier offset limit next _ t' w.1
  fetch_broker_tiers p h t b x broker_tier g offset limit next other t' w = elim w [ ]

  search_broker_tiers : (h : PartitionState D) (t : RemoteTier S M) (b : ℕ) (x : Node D) (broker_tier : BrokerTierState) (asked : Asked) (cursor : ℕ) (next : Dating) (own : Bool)
      (turn : Turn (ℕ × Dating)) (h' : PartitionState D) (t' : RemoteTier S M) → SearchRow disk store meta h t b x broker_tier asked cursor next own turn h' t'
      → length t'.broker_tiers ≡ length t.broker_tiers
  search_broker_tiers h t b x broker_tier asked cursor next true turn h' t' w = ap (λ (k : RemoteTier S M). length k.broker_tiers) w.1
  search_broker_tiers h t b x broker_tier asked cursor next false turn h' t' w =
      broker_tiers_put t b (record broker_tier { view = w.0.view; cache = w.0.cache }) t' (ap (λ (k : RemoteTier S M). k.broker_tiers) w.0.after)

  searches_broker_tiers : (p : PartitionId) (h : PartitionState D) (t : RemoteTier S M) (b : ℕ) (x : Node D) (broker_tier : BrokerTierState) (g : StartSnapshot) (ts : ℤ) (cursor : ℕ)
      (next : Dating) (turn : Turn (ℕ × Dating)) (h' : PartitionState D) (t' : RemoteTier S M)
      → SearchesOn disk store meta p h t b x broker_tier g ts cursor next turn h' t' → length t'.broker_tiers ≡ length t.broker_tiers
  searches_broker_tiers p h t b x broker_tier g ts cursor next turn h' t' w =
      let on = resumed_at h.registry.start cursor in
      let with = resumed_with h.registry.start cursor next in
      search_broker_tiers h t b x broker_tier (asked_of p h x ts) on with (is_own (local_of x) on with) turn h' t' w.row

  date_broker_tiers : (p : PartitionId) (h : PartitionState D) (t : RemoteTier S M) (b : ℕ) (x : Node D) (broker_tier : BrokerTierState) (g : StartSnapshot) (ts : ℤ) (cursor : ℕ)
      (next : Dating) (outcome : Outcome) (h' : PartitionState D) (t' : RemoteTier S M)
      → DateOnRow disk store meta p h t b x broker_tier g ts cursor next outcome h' t' → length t'.broker_tiers ≡ length t.broker_tiers
  date_broker_tiers p h t b x broker_tier g ts cursor next (Answers Stopped) h' t' w = ap (λ (k : RemoteTier S M). length k.broker_tiers) w.2
  date_broker_tiers p h t b x broker_tier g ts cursor next (Answers NotLeader) h' t' w = ap (λ (k : RemoteTier S M). length k.broker_tiers) w.4
  date_broker_tiers p h t b x broker_tier g ts cursor next (Answers NoOffset) h' t' w = ap (λ (k : RemoteTier S M). length k.broker_tiers) w.3
  date_broker_tiers p h t b x broker_tier g ts cursor next (Answers answer) h' t' w =
      searches_broker_tiers p h t b x broker_tier g ts cursor next (dating.Ends answer) h' t' w
  date_broker_tiers p h t b x broker_tier g ts cursor next (Dated later after) h' t' w =
      searches_broker_tiers p h t b x broker_tier g ts cursor next (dating.Goes (later, after)) h' t' w.0
  date_broker_tiers p h t b x broker_tier g ts cursor next other h' t' w = elim w [ ]

  refresh_broker_tiers : (t : RemoteTier S M) (b : ℕ) (broker_tier : BrokerTierState) (outcome : Outcome) (t' : RemoteTier S M) → RefreshedRow meta t b broker_tier outcome t' → length t'.broker_tiers ≡ length t.broker_tiers
  refresh_broker_tiers t b broker_tier (Answers MetaFault) t' w = ap (λ (k : RemoteTier S M). length k.broker_tiers) w.after
  refresh_broker_tiers t b broker_tier (Rebuilding Epochs) t' w = broker_tiers_put t b (record broker_tier { view = w.view }) t' (ap (λ (k : RemoteTier S M). k.broker_tiers) w.after)
  refresh_broker_tiers t b broker_tier other t' w = elim w [ ]

  join_broker_tiers : (h : PartitionState D) (t : RemoteTier S M) (b : ℕ) (x : Node D) (broker_tier : BrokerTierState) (g : StartSnapshot) (outcome : Outcome) (h' : PartitionState D) (t' : RemoteTier S M)
      → JoinSecondRow disk meta h t b x broker_tier g outcome h' t' → length t'.broker_tiers ≡ length t.broker_tiers
  join_broker_tiers h t b x broker_tier g outcome h' t' (inl (low, own)) = ap (λ (k : RemoteTier S M). length k.broker_tiers) own.1
  join_broker_tiers h t b x broker_tier g outcome h' t' (inr (high, inl (answer, is, at, tier), same)) = ap (λ (k : RemoteTier S M). length k.broker_tiers) tier
  join_broker_tiers h t b x broker_tier g outcome h' t' (inr (high, inr (may, row), same)) = refresh_broker_tiers t b broker_tier outcome t' row

  recorded_broker_tiers : (p : PartitionId) (config : Config) (h : PartitionState D) (t : RemoteTier S M) (b : ℕ) (x : Node D) (broker_tier : BrokerTierState) (g : StartSnapshot) (command : Command) (outcome : Outcome) (h' : PartitionState D) (t' : RemoteTier S M)
      → ContinuedRow disk store meta p config h t b x broker_tier g command outcome h' t' → length t'.broker_tiers ≡ length t.broker_tiers
  recorded_broker_tiers p config h t b x broker_tier g Copy outcome h' t' w = choose_broker_tiers p h t b x broker_tier g outcome h' t' w
  recorded_broker_tiers p config h t b x broker_tier g Trim outcome h' t' w = ap (λ (k : RemoteTier S M). length k.broker_tiers) w.1
  recorded_broker_tiers p config h t b x broker_tier g Join outcome h' t' w = join_broker_tiers h t b x broker_tier g outcome h' t' w
  recorded_broker_tiers p config h t b x broker_tier g Expire outcome h' t' w = ap (λ (k : RemoteTier S M). length k.broker_tiers) w.1
  recorded_broker_tiers p config h t b x broker_tier g (Fetch offset limit) outcome h' t' w = fetch_broker_tiers p h t b x broker_tier g offset limit Refresh outcome t' w.0
  recorded_broker_tiers p config h t b x broker_tier g (Offset LatestTiered) outcome h' t' w = ap (λ (k : RemoteTier S M). length k.broker_tiers) w.2
  recorded_broker_tiers p config h t b x broker_tier g (Offset (At ts)) outcome h' t' w =
      date_broker_tiers p h t b x broker_tier g ts 0 Seek outcome h' t' w
  recorded_broker_tiers p config h t b x broker_tier g other outcome h' t' w = ap (λ (k : RemoteTier S M). length k.broker_tiers) w.1

  leaders_broker_tiers : (h : PartitionState D) (t : RemoteTier S M) (b : ℕ) (x : Node D) (broker_tier : BrokerTierState) (outcome : Outcome) (t' : RemoteTier S M) → LeadersFirstRow meta h t b x broker_tier outcome t' → length t'.broker_tiers ≡ length t.broker_tiers
  leaders_broker_tiers h t b x broker_tier (Answers Down) t' w = ap (λ (k : RemoteTier S M). length k.broker_tiers) w.1
  leaders_broker_tiers h t b x broker_tier (Answers NotLeader) t' w = ap (λ (k : RemoteTier S M). length k.broker_tiers) w.2
  leaders_broker_tiers h t b x broker_tier (Answers MetaFault) t' w = ap (λ (k : RemoteTier S M). length k.broker_tiers) w.2.after
  leaders_broker_tiers h t b x broker_tier (Begins g) t' w = broker_tiers_put t b (record broker_tier { view = w.3.view }) t' (ap (λ (k : RemoteTier S M). k.broker_tiers) w.3.after)
  leaders_broker_tiers h t b x broker_tier other t' w = elim w [ ]

  copy_broker_tiers : (h : PartitionState D) (t : RemoteTier S M) (b : ℕ) (x : Node D) (broker_tier : BrokerTierState) (outcome : Outcome) (t' : RemoteTier S M) → CopyFirstRow meta h t b x broker_tier outcome t' → length t'.broker_tiers ≡ length t.broker_tiers
  copy_broker_tiers h t b x broker_tier (Answers CopyOff) t' w = ap (λ (k : RemoteTier S M). length k.broker_tiers) w.3
  copy_broker_tiers h t b x broker_tier (Answers MetaFault) t' w = leaders_broker_tiers h t b x broker_tier (Answers MetaFault) t' w.0
  copy_broker_tiers h t b x broker_tier (Begins g) t' w = leaders_broker_tiers h t b x broker_tier (Begins g) t' w.0
  copy_broker_tiers h t b x broker_tier other t' w = leaders_broker_tiers h t b x broker_tier other t' w

  trim_broker_tiers : (h : PartitionState D) (t : RemoteTier S M) (b : ℕ) (x : Node D) (broker_tier : BrokerTierState) (outcome : Outcome) (t' : RemoteTier S M) → TrimFirstRow meta h t b x broker_tier outcome t' → length t'.broker_tiers ≡ length t.broker_tiers
  trim_broker_tiers h t b x broker_tier (Answers Down) t' w = ap (λ (k : RemoteTier S M). length k.broker_tiers) w.1
  trim_broker_tiers h t b x broker_tier (Answers MetaFault) t' w = ap (λ (k : RemoteTier S M). length k.broker_tiers) w.1.after
  trim_broker_tiers h t b x broker_tier (Begins g) t' w = broker_tiers_put t b (record broker_tier { view = w.2.view }) t' (ap (λ (k : RemoteTier S M). k.broker_tiers) w.2.after)
  trim_broker_tiers h t b x broker_tier other t' w = elim w [ ]

  begins_broker_tiers : (h : PartitionState D) (t : RemoteTier S M) (b : ℕ) (x : Node D) (broker_tier : BrokerTierState) (command : Command) (outcome : Outcome) (h' : PartitionState D) (t' : RemoteTier S M)
      → BeginRow disk store meta h t b x broker_tier command outcome h' t' → length t'.broker_tiers ≡ length t.broker_tiers
  begins_broker_tiers h t b x broker_tier Copy outcome h' t' w = copy_broker_tiers h t b x broker_tier outcome t' w.0
  begins_broker_tiers h t b x broker_tier Trim outcome h' t' w = trim_broker_tiers h t b x broker_tier outcome t' w.0
  begins_broker_tiers h t b x broker_tier Expire outcome h' t' w = leaders_broker_tiers h t b x broker_tier outcome t' w.0
  begins_broker_tiers h t b x broker_tier (Offset LatestTiered) outcome h' t' w = leaders_broker_tiers h t b x broker_tier outcome t' w.0
  begins_broker_tiers h t b x broker_tier (Offset (At ts)) outcome h' t' w = leaders_broker_tiers h t b x broker_tier outcome t' w.0
  begins_broker_tiers h t b x broker_tier other outcome h' t' w = ap (λ (k : RemoteTier S M). length k.broker_tiers) w.1

  copying_broker_tiers : (h : PartitionState D) (t : RemoteTier S M) (b : ℕ) (x : Node D) (broker_tier : BrokerTierState) (g : StartSnapshot) (copy : Copied) (next : CopyStep) (command : Command) (outcome : Outcome) (h' : PartitionState D) (t' : RemoteTier S M)
      → CopyLaterRow store meta h t b x broker_tier g copy next command outcome h' t' → length t'.broker_tiers ≡ length t.broker_tiers
  copying_broker_tiers h t b x broker_tier g copy next Copy outcome h' t' (inl lost, same) = ap (λ (k : RemoteTier S M). length k.broker_tiers) lost.2
  copying_broker_tiers h t b x broker_tier g copy next Copy outcome h' t' (inr (keeps, (turn, is, goes)), same) = broker_tiers_put t b (record broker_tier { view = goes.view }) t' (ap (λ (k : RemoteTier S M). k.broker_tiers) goes.after)
  copying_broker_tiers h t b x broker_tier g copy next other outcome h' t' w = elim w [ ]

  seeking_broker_tiers : (p : PartitionId) (h : PartitionState D) (t : RemoteTier S M) (b : ℕ) (x : Node D) (broker_tier : BrokerTierState) (g : StartSnapshot) (next : Search) (command : Command) (outcome : Outcome) (h' : PartitionState D) (t' : RemoteTier S M)
      → SeekingRow store meta p h t b x broker_tier g next command outcome h' t' → length t'.broker_tiers ≡ length t.broker_tiers
  seeking_broker_tiers p h t b x broker_tier g next (Fetch offset limit) outcome h' t' w = fetch_broker_tiers p h t b x broker_tier g offset limit next outcome t' w.0
  seeking_broker_tiers p h t b x broker_tier g next other outcome h' t' w = elim w [ ]

  dating_broker_tiers : (p : PartitionId) (h : PartitionState D) (t : RemoteTier S M) (b : ℕ) (x : Node D) (broker_tier : BrokerTierState) (g : StartSnapshot) (cursor : ℕ) (next : Dating)
      (command : Command) (outcome : Outcome) (h' : PartitionState D) (t' : RemoteTier S M)
      → DatingRow disk store meta p h t b x broker_tier g cursor next command outcome h' t' → length t'.broker_tiers ≡ length t.broker_tiers
  dating_broker_tiers p h t b x broker_tier g cursor next (Offset (At ts)) outcome h' t' w =
      date_broker_tiers p h t b x broker_tier g ts cursor next outcome h' t' w
  dating_broker_tiers p h t b x broker_tier g cursor next other outcome h' t' w = elim w [ ]

  deleting_broker_tiers : (h : PartitionState D) (t : RemoteTier S M) (b : ℕ) (x : Node D) (g : StartSnapshot) (segment : ExpiredSegment) (next : Deletion) (command : Command) (outcome : Outcome) (h' : PartitionState D) (t' : RemoteTier S M)
      → DeletingRow store meta h t b x g segment next command outcome h' t' → length t'.broker_tiers ≡ length t.broker_tiers
  deleting_broker_tiers h t b x g segment next Expire outcome h' t' (inl lost, same) = ap (λ (k : RemoteTier S M). length k.broker_tiers) lost.2
  deleting_broker_tiers h t b x g segment next Expire outcome h' t' (inr (keeps, (turn, is, goes)), same) = ap (λ (k : RemoteTier S M). length k.broker_tiers) goes.after
  deleting_broker_tiers h t b x g segment next other outcome h' t' w = elim w [ ]

  rebuilding_broker_tiers : (p : PartitionId) (h : PartitionState D) (t : RemoteTier S M) (b : ℕ) (x : Node D) (broker_tier : BrokerTierState) (g : StartSnapshot) (next : Rebuild) (command : Command) (outcome : Outcome) (h' : PartitionState D) (t' : RemoteTier S M)
      → RebuildingRow disk store p h t b x broker_tier g next command outcome h' t' → length t'.broker_tiers ≡ length t.broker_tiers
  rebuilding_broker_tiers p h t b x broker_tier g Epochs Join outcome h' t' (inl (answer, is, at, tier), same) = ap (λ (k : RemoteTier S M). length k.broker_tiers) tier
  rebuilding_broker_tiers p h t b x broker_tier g Epochs Join outcome h' t' (inr (may, (turn, is, goes)), same) = ap (λ (k : RemoteTier S M). length k.broker_tiers) goes.after
  rebuilding_broker_tiers p h t b x broker_tier g (Restart line) Join outcome h' t' w = ap (λ (k : RemoteTier S M). length k.broker_tiers) w.1
  rebuilding_broker_tiers p h t b x broker_tier g next other outcome h' t' w = elim w [ ]

  row_broker_tiers : (p : PartitionId) (config : Config) (h : PartitionState D) (t : RemoteTier S M) (b : ℕ) (x : Node D) (broker_tier : BrokerTierState) (in_progress : InProgress) (command : Command) (outcome : Outcome) (h' : PartitionState D) (t' : RemoteTier S M)
      → Row disk store meta p config h t b x broker_tier in_progress command outcome h' t' → length t'.broker_tiers ≡ length t.broker_tiers
  row_broker_tiers p config h t b x broker_tier Idle command outcome h' t' w = begins_broker_tiers h t b x broker_tier command outcome h' t' w
  row_broker_tiers p config h t b x broker_tier (Noted g) command outcome h' t' w = recorded_broker_tiers p config h t b x broker_tier g command outcome h' t' w
  row_broker_tiers p config h t b x broker_tier (Copies g copy next) command outcome h' t' w = copying_broker_tiers h t b x broker_tier g copy next command outcome h' t' w
  row_broker_tiers p config h t b x broker_tier (Seeks g next) command outcome h' t' w = seeking_broker_tiers p h t b x broker_tier g next command outcome h' t' w
  row_broker_tiers p config h t b x broker_tier (Dates g cursor next) command outcome h' t' w =
      dating_broker_tiers p h t b x broker_tier g cursor next command outcome h' t' w
  row_broker_tiers p config h t b x broker_tier (Expires g segment next) command outcome h' t' w = deleting_broker_tiers h t b x g segment next command outcome h' t' w
  row_broker_tiers p config h t b x broker_tier (Rebuilds g next) command outcome h' t' w = rebuilding_broker_tiers p h t b x broker_tier g next command outcome h' t' w

  pub turn_broker_tiers : (p : PartitionId) (config : Config) (h : PartitionState D) (t : RemoteTier S M) (b : ℕ) (in_progress : InProgress) (command : Command) (outcome : Outcome) (h' : PartitionState D) (t' : RemoteTier S M)
      → TurnRow disk store meta p config h t b in_progress command outcome h' t' → length t'.broker_tiers ≡ length t.broker_tiers
  turn_broker_tiers p config h t b in_progress command outcome h' t' w =
      let r = row_of disk store meta p config h t b in_progress command outcome h' t' w in row_broker_tiers p config h t b r.x r.broker_tier in_progress command outcome h' t' r.row

  halts_broker_tiers : (h : PartitionState D) (t : RemoteTier S M) (b : ℕ) (x : Node D) (broker_tier : BrokerTierState) (t' : RemoteTier S M) → HaltsSome disk store meta h t b x broker_tier t' → length t'.broker_tiers ≡ length t.broker_tiers
  halts_broker_tiers h t b x broker_tier t' (inl halts) = broker_tiers_put t b (record broker_tier { view = halts.view }) t' (ap (λ (k : RemoteTier S M). k.broker_tiers) halts.after)
  halts_broker_tiers h t b x broker_tier t' (inr (inl (copy, next, wants))) = broker_tiers_put t b (record broker_tier { view = wants.view }) t' (ap (λ (k : RemoteTier S M). k.broker_tiers) wants.after)
  halts_broker_tiers h t b x broker_tier t' (inr (inr (inl (p, offset, limit, next, wants)))) =
      broker_tiers_put t b (record broker_tier { view = wants.view; cache = wants.cache }) t' (ap (λ (k : RemoteTier S M). k.broker_tiers) wants.after)
  halts_broker_tiers h t b x broker_tier t' (inr (inr (inr (inl (segment, next, wants))))) = ap (λ (k : RemoteTier S M). length k.broker_tiers) wants.after
  halts_broker_tiers h t b x broker_tier t' (inr (inr (inr (inr (inl (line, asked, cursor, next, wants)))))) =
      broker_tiers_put t b (record broker_tier { view = wants.view; cache = wants.cache }) t' (ap (λ (k : RemoteTier S M). k.broker_tiers) wants.after)
  halts_broker_tiers h t b x broker_tier t' (inr (inr (inr (inr (inr (p, g, wants)))))) = ap (λ (k : RemoteTier S M). length k.broker_tiers) wants.after

  pub stays_broker_tiers : (h : PartitionState D) (t : RemoteTier S M) (b : ℕ) (h' : PartitionState D) (t' : RemoteTier S M) → StaysSome disk store meta h t b h' t' → length t'.broker_tiers ≡ length t.broker_tiers
  stays_broker_tiers h t b h' t' (inl k) = ap (λ (k : RemoteTier S M). length k.broker_tiers) k.1
  stays_broker_tiers h t b h' t' (inr k) =
      let x = some_of (λ x. AtBrokerTier t b (λ broker_tier. HaltsSome disk store meta h t b x broker_tier t')) (slice_get h.nodes b) k.1 in
      let broker_tier = some_of (λ broker_tier. HaltsSome disk store meta h t b x.0 broker_tier t') (slice_get t.broker_tiers b) x.2 in
      halts_broker_tiers h t b x.0 broker_tier.0 t' broker_tier.2
