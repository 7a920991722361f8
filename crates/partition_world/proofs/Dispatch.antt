-- A turn's row is that of its command, and a log that was read is as it was.
use Rattle.std.proofs.Common.{◌≡◌, subst, inr, ap, refl, ◌∙◌, ℕ, ℤ, zero, suc, ◌<◌, List, [], ◌∷◌, length, Some, None, Option, slice_get, true, false, arith}
use Rattle.std.specs.Prelude.{◌≢◌, IfOk, IsSomeAnd, OnErr}
use Rattle.std.specs.declared.alloc.AllocError.{AllocError}
use Rattle.std.specs.declared.result.Result.{Result}
use Rattle.std.specs.declared.result.Result.TheVariants.{Ok, Err}
use Rattle.disk_model.specs.declared.disk.Disk.{Ghosts as DiskGhosts}
use Rattle.object_store.specs.declared.store.Store.{Ghosts as StoreGhosts}
use Rattle.meta_log.specs.declared.log.MetaLog.{Ghosts as MetaGhosts}
use Rattle.plain_log.specs.declared.command.Command.{Command}
use Rattle.plain_log.specs.declared.command.Command.TheVariants.{Copy, Trim, Expire, Follow, Offset}
use Rattle.plain_log.specs.declared.command.Which.{Which}
use Rattle.plain_log.specs.declared.command.Which.TheVariants.{LatestTiered, At}
use Rattle.plain_log.specs.declared.command.Config.{Config}
use Rattle.plain_log.specs.declared.answer.Answer.{Answer}
use Rattle.tier_base.specs.declared.names.PartitionId.{PartitionId}
use Rattle.tier_base.specs.declared.plain.Settings.{Settings}
use Rattle.segment_file.specs.Closed.{ClosedSegment}
use Rattle.segment_file.specs.Growing.{Grown}
use Rattle.local_log.specs.Reading.{first_past, ReadOnce}
use Rattle.local_log.specs.declared.refusal.ReadRefusal.{ReadRefusal}
use Rattle.broker_log.specs.Seen.{LogState, Up, Down, Away, is_up, closed_in, settings_in, OnDisk, WhileUp}
use Rattle.partition_commands.specs.declared.partition_state.Node.{Node}
use Rattle.partition_commands.specs.declared.partition_state.PartitionState.{PartitionState}
use Rattle.partition_commands.specs.Partition.{AtNode, LogRests, KeepsPartition, put_node}
use Rattle.partition_commands.specs.Turns.{IsOfTier}
use Rattle.partition_commands.specs.TurnsOfFollowers.{FollowOnRow}
use Rattle.laws_partition.specs.declared.start_snapshot.StartSnapshot.{StartSnapshot}
use Rattle.time_find.specs.declared.turn.SearchStep.TheVariants.{Seek}
use Rattle.partition_world.specs.declared.tier.BrokerTierState.{BrokerTierState}
use Rattle.partition_world.specs.declared.tier.RemoteTier.{RemoteTier}
use Rattle.partition_world.specs.declared.actor_state.Outcome.{Outcome}
use Rattle.partition_world.specs.declared.actor_state.Outcome.TheVariants.{Answers}
use Rattle.partition_world.specs.Tier.{AtBrokerTier}
use Rattle.partition_world.specs.TurnsOfCopy.{ReadsQuietly}
use Rattle.partition_world.specs.TurnsOfDate.{DateOnRow}
use Rattle.partition_world.specs.Turns.{LocalCommandRow, BeginRow, ContinuedRow}

-- a fact of what is there implies another
pub some_more : {A : Type 0} (P Q : A → Type 0) (o : Option A) → ((x : A) → P x → Q x) → IsSomeAnd o P → IsSomeAnd o Q
some_more P Q None f h = h
some_more P Q (Some x) f h = f x h

-- what holds of each holds of the one at a place
pub there : {A : Type 0} (P : A → Type 0) (xs : List A) (i : ℕ) → i < length xs → ((x : A) → P x) → IsSomeAnd (slice_get xs i) P
there P [] i lt f = absurd (omega (arith, lt))
there P (x ∷ xs) zero lt f = f x
there P (x ∷ xs) (suc i) lt f = there P xs i (omega (arith, lt)) f

-- two facts of an error
pub err_two : {T E P Q R : Type 0} (r : Result T E) → (P → Q → R) → OnErr r P → OnErr r Q → OnErr r R
err_two (Ok x) f p q = tt
err_two (Err e) f p q = f p q

-- a fact that holds anyway
pub on_err : {T E P : Type 0} (r : Result T E) → P → OnErr r P
on_err (Ok x) p = tt
on_err (Err e) p = p

-- a log's interval, where the broker is up
pub interval_up : {D : Type 0} (kept : LogState D) (n : ℕ) (s : Settings) → is_up kept ≡ true → Some s ≡ settings_in kept → n ≡ s.index_interval → WhileUp kept (λ log. n ≡ log.settings.index_interval)
interval_up (Up log) n s up is e = let same : s ≡ log.settings = cc in e ∙ ap (λ (k : Settings). k.index_interval) same
interval_up (Down settings d) n s up is e = absurd (let no : false ≡ true = up in cc)
interval_up Away n s up is e = absurd (let no : false ≡ true = up in cc)

-- the disk was read for the first closed segment past an offset
pub has_read : {D : Type 0} (disk : DiskGhosts D) (old new : LogState D) (offset : ℕ) (r e : Result (Option ClosedSegment) ReadRefusal)
    → IsSomeAnd (first_past offset (closed_in old)) (λ segment. Unit {0}) → is_up old ≡ true → r ≡ e
    → WhileUp old (λ log. first_past offset log.closed ≢ None → OnDisk old (λ d. OnDisk new (λ d'. ReadOnce r (disk.control d) (disk.control d'))))
    → OnDisk old (λ d. OnDisk new (λ d'. ReadOnce e (disk.control d) (disk.control d')))
has_read disk (Up log) new offset r e some up is ran =
    subst (λ (k : Result (Option ClosedSegment) ReadRefusal). OnDisk (Up log) (λ d. OnDisk new (λ d'. ReadOnce k (disk.control d) (disk.control d')))) is
    (ran (λ none. subst (λ (o : Option Grown). IsSomeAnd o (λ segment. Unit {0})) none some))
has_read disk (Down settings d) new offset r e some up is ran = absurd (let no : false ≡ true = up in cc)
has_read disk Away new offset r e some up is ran = absurd (let no : false ≡ true = up in cc)

module _ {D S M : Type 0} (disk : DiskGhosts D) (store : StoreGhosts S) (meta : MetaGhosts M) where
  begin_row : (h : PartitionState D) (t : RemoteTier S M) (b : ℕ) (x : Node D) (broker_tier : BrokerTierState) (command : Command) (outcome : Outcome) (h' : PartitionState D) (t' : RemoteTier S M)
      → (IsOfTier command → ⊥) → LocalCommandRow disk h t b x command outcome h' t' → BeginRow disk store meta h t b x broker_tier command outcome h' t'
  begin_row h t b x broker_tier Copy outcome h' t' own w = absurd (own tt)
  begin_row h t b x broker_tier Trim outcome h' t' own w = absurd (own tt)
  begin_row h t b x broker_tier Expire outcome h' t' own w = absurd (own tt)
  begin_row h t b x broker_tier (Offset LatestTiered) outcome h' t' own w = absurd (own tt)
  begin_row h t b x broker_tier (Offset (At ts)) outcome h' t' own w = absurd (own tt)
  begin_row h t b x broker_tier other outcome h' t' own w = w

  -- the first turn of a command that the remote tier has no part in
  pub begin_at : (h : PartitionState D) (t : RemoteTier S M) (b : ℕ) (command : Command) (outcome : Outcome) (h' : PartitionState D) (t' : RemoteTier S M) → b < length t.broker_tiers → (IsOfTier command → ⊥)
      → AtNode h b (λ x. LocalCommandRow disk h t b x command outcome h' t') → AtNode h b (λ x. AtBrokerTier t b (λ broker_tier. BeginRow disk store meta h t b x broker_tier command outcome h' t'))
  begin_at h t b command outcome h' t' lt own r =
      some_more (λ x. LocalCommandRow disk h t b x command outcome h' t') (λ x. AtBrokerTier t b (λ broker_tier. BeginRow disk store meta h t b x broker_tier command outcome h' t')) (slice_get h.nodes b)
      (λ x row. there (λ broker_tier. BeginRow disk store meta h t b x broker_tier command outcome h' t') t.broker_tiers b lt (λ broker_tier. begin_row h t b x broker_tier command outcome h' t' own row)) r

  -- the second turn of a follow
  pub follow_at : (p : PartitionId) (config : Config) (h : PartitionState D) (t : RemoteTier S M) (b : ℕ) (g : StartSnapshot) (command : Command) (limit : ℕ) (answer : Answer) (h' : PartitionState D)
      → command ≡ Follow limit → b < length t.broker_tiers → AtNode h b (λ x. FollowOnRow disk.content disk.control h b x g answer h')
      → AtNode h b (λ x. AtBrokerTier t b (λ broker_tier. ContinuedRow disk store meta p config h t b x broker_tier g command (Answers answer) h' t))
  follow_at p config h t b g command limit answer h' is lt r =
      some_more (λ x. FollowOnRow disk.content disk.control h b x g answer h')
      (λ x. AtBrokerTier t b (λ broker_tier. ContinuedRow disk store meta p config h t b x broker_tier g command (Answers answer) h' t)) (slice_get h.nodes b)
      (λ x row. there (λ broker_tier. ContinuedRow disk store meta p config h t b x broker_tier g command (Answers answer) h' t) t.broker_tiers b lt (λ broker_tier. rw is ((answer, refl, row), refl))) r

  -- and of a timestamp lookup
  pub date_at : (p : PartitionId) (config : Config) (h : PartitionState D) (t : RemoteTier S M) (b : ℕ) (g : StartSnapshot) (command : Command) (which : Which) (ts : ℤ) (r : Result Outcome AllocError) (h' : PartitionState D) (t' : RemoteTier S M)
      → command ≡ Offset which → which ≡ At ts
      → IfOk r (λ outcome. AtNode h b (λ x. AtBrokerTier t b (λ broker_tier. DateOnRow disk store meta p h t b x broker_tier g ts 0 Seek outcome h' t')))
      → IfOk r (λ outcome. AtNode h b (λ x. AtBrokerTier t b (λ broker_tier. ContinuedRow disk store meta p config h t b x broker_tier g command outcome h' t')))
  date_at p config h t b g command which ts r h' t' is at row = rw (is, at) row

  read_rests : (h : PartitionState D) (b : ℕ) (x y : Node D) (h' : PartitionState D) → ReadsQuietly disk x y → h' ≡ put_node h b y → LogRests disk.content disk.control h b x h'
  read_rests h b x y h' r is = (r.reads.kept, r.reads.stays, (r.reads.lasts, r.quiet), is ∙ ap (λ (k : Node D). put_node h b k) r.reads.after)

  -- where a broker's log alone was read, nothing that is seen has changed, and no call failed
  pub read_stays : (h : PartitionState D) (t : RemoteTier S M) (b : ℕ) (h' : PartitionState D) (t' : RemoteTier S M) → AtNode h b (λ x. (y : Node D) × ReadsQuietly disk x y × (h' ≡ put_node h b y)) → t' ≡ t
      → KeepsPartition disk.content disk.control h h' × (t' ≡ t)
  read_stays h t b h' t' r same =
      (inr (b, some_more (λ x. (y : Node D) × ReadsQuietly disk x y × (h' ≡ put_node h b y)) (λ x. LogRests disk.content disk.control h b x h') (slice_get h.nodes b) (λ x k. read_rests h b x k.0 h' k.1 k.2) r), same)
