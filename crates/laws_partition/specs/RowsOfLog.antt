-- What a turn of a command on a broker's own log comes to: append, raw, flush, roll, trim, fetch.
--
-- A row says for each answer exactly when it is given, the tests in their order, and the partition afterwards. Of a
-- log's segments nothing is seen: that there are too many, that the open one is empty, or which one a run lies in, is
-- answered as it comes. So is a fault of the disk, which stops the broker where it failed in a write.
use Rattle.std.specs.Prelude.{◌≡◌, ◌≢◌, ◌+◌, ℕ, ◌<◌, ◌≤◌, ◌⊎◌, true, false, List, length, Err, IsOk}
use Rattle.tier_base.specs.declared.plain.Stop.{Stop}
use Rattle.log_terms.specs.Batch.{last_offset_delta_of}
use Rattle.log_terms.specs.Log.{EndsAt, end_of, joined}
use Rattle.record_batch.specs.Check.{checked}
use Rattle.record_batch.specs.Stamp.{stamped}
use Rattle.plain_log.specs.declared.answer.Answer.{Answer}
use Rattle.plain_log.specs.declared.answer.Answer.TheVariants.{OkAt, OkSpan, Down, NotLeader, Refused, LastOffset}
use Rattle.plain_log.specs.declared.answer.Answer.TheVariants.{TooManySegments, EmptySegment, DiskFault, OutOfRange}
use Rattle.plain_log.specs.declared.answer.Answer.TheVariants.{Empty, Run, Stopped, MetaFault, Kept, Dropped}
use Rattle.plain_log.specs.declared.answer.Tier.TheVariants.{Local}
use Rattle.plain_log.specs.declared.state.Role.TheVariants.{Leads}
use Rattle.plain_log.specs.State.{leads}
use Rattle.plain_log.specs.RowsOfLog.{offset_limit}
use Rattle.laws_partition.specs.declared.start_snapshot.StartSnapshot.{StartSnapshot}
use Rattle.laws_partition.specs.declared.start_snapshot.Turned.{Turned}
use Rattle.laws_partition.specs.declared.start_snapshot.Turned.TheVariants.{Answers, Begins}
use Rattle.laws_partition.specs.Seen.{Node, SeenPartition}
use Rattle.laws_partition.specs.Partition.{put_node, back_of, kept_line, broken}
use Rattle.laws_partition.specs.Log.{with_batch, IsRunOf}

-- where the log would end with the batch
abbrev pub end_with : Node → List ℕ → ℕ
end_with x batch = end_of x.log.batches + last_offset_delta_of batch + 1

-- append: the leader's log gains the batch, stamped with its end and its epoch
abbrev pub AppendRow : SeenPartition → ℕ → Node → List ℕ → Answer → SeenPartition → Type 0
AppendRow h b x batch Down h' = (x.up ≡ false) × (h' ≡ h)
AppendRow h b x batch NotLeader h' = (x.up ≡ true) × (leads x.role ≡ false) × (h' ≡ h)
AppendRow h b x batch LastOffset h' =
    (x.up ≡ true) × (leads x.role ≡ true) × (offset_limit < end_with x batch) × (h' ≡ h)
AppendRow h b x batch TooManySegments h' =
    (x.up ≡ true) × (leads x.role ≡ true) × (end_with x batch ≤ offset_limit) × (h' ≡ h)
AppendRow h b x batch DiskFault h' =
    (x.up ≡ true) × (leads x.role ≡ true) × (end_with x batch ≤ offset_limit)
    × (h' ≡ put_node h b (broken x (back_of x)))
AppendRow h b x batch (OkSpan base last e) h' =
    (x.up ≡ true) × (x.role ≡ Leads e) × (end_with x batch ≤ offset_limit) × (base ≡ end_of x.log.batches)
    × (last ≡ base + last_offset_delta_of batch)
    × (h' ≡ put_node h b (record x { log = with_batch x.log (stamped batch base e) }))
AppendRow h b x batch other h' = ⊥

-- raw: bytes from outside are appended where they are a batch, and else refused with the first test that they fail
abbrev pub RawRow : SeenPartition → ℕ → Node → List ℕ → Answer → SeenPartition → Type 0
RawRow h b x bytes (Refused cause) h' = (x.up ≡ true) × (leads x.role ≡ true) × (checked bytes ≡ Err cause) × (h' ≡ h)
RawRow h b x bytes LastOffset h' = IsOk (checked bytes) × AppendRow h b x bytes LastOffset h'
RawRow h b x bytes TooManySegments h' = IsOk (checked bytes) × AppendRow h b x bytes TooManySegments h'
RawRow h b x bytes DiskFault h' = IsOk (checked bytes) × AppendRow h b x bytes DiskFault h'
RawRow h b x bytes (OkSpan base last e) h' = IsOk (checked bytes) × AppendRow h b x bytes (OkSpan base last e) h'
RawRow h b x bytes answer h' = AppendRow h b x bytes answer h'

-- flush: all of the log is flushed, and its leader epochs are saved
abbrev pub FlushRow : SeenPartition → ℕ → Node → Answer → SeenPartition → Type 0
FlushRow h b x Down h' = (x.up ≡ false) × (h' ≡ h)
FlushRow h b x DiskFault h' =
    (x.up ≡ true) × (h' ≡ put_node h b (broken x (end_of x.log.batches, x.log.line, x.local)))
FlushRow h b x (OkAt n) h' =
    (x.up ≡ true) × (n ≡ end_of x.log.batches) × (h' ≡ put_node h b (record x { flushed_end = n; saved = x.log.line }))
FlushRow h b x other h' = ⊥

-- roll: the open segment is closed, and nothing that is seen changes
abbrev pub RollRow : SeenPartition → ℕ → Node → Answer → SeenPartition → Type 0
RollRow h b x Down h' = (x.up ≡ false) × (h' ≡ h)
RollRow h b x EmptySegment h' = (x.up ≡ true) × (h' ≡ h)
RollRow h b x TooManySegments h' = (x.up ≡ true) × (h' ≡ h)
RollRow h b x DiskFault h' = (x.up ≡ true) × (h' ≡ put_node h b (broken x (back_of x)))
RollRow h b x (OkAt n) h' = (x.up ≡ true) × (n ≡ end_of x.log.batches) × (h' ≡ h)
RollRow h b x other h' = ⊥

-- the local log may begin at this offset instead: it is an end of the log, and flushed
pub record MayStartAt (x : Node) (start : ℕ) : Type 0 where
  pub flushed_end : start ≤ x.flushed_end
  pub ends : EndsAt start x.log.batches

-- what an actor's state has of a command that begins: what was recorded of its broker, and the log start offset
pub record Notes (h : SeenPartition) (x : Node) (g : StartSnapshot) : Type 0 where
  pub stops : g.stops ≡ x.stops
  pub role : g.role ≡ x.role
  pub end : g.end ≡ end_of x.log.batches
  pub start : g.start ≡ h.registry.start

-- trim, first turn
abbrev pub TrimRow : SeenPartition → Node → Turned → SeenPartition → Type 0
TrimRow h x (Answers Down) h' = (x.up ≡ false) × (h' ≡ h)
TrimRow h x (Answers MetaFault) h' = (x.up ≡ true) × (h' ≡ h)
TrimRow h x (Begins g) h' = (x.up ≡ true) × Notes h x g × (h' ≡ h)
TrimRow h x other h' = ⊥

-- trim, later turns: the local log's first segment goes. When it may is decided elsewhere
abbrev pub TrimOnRow : SeenPartition → ℕ → Node → StartSnapshot → Answer → SeenPartition → Type 0
TrimOnRow h b x g Stopped h' = (g.stops ≢ x.stops) × (h' ≡ h)
TrimOnRow h b x g Kept h' = (g.stops ≡ x.stops) × (h' ≡ h)
TrimOnRow h b x g DiskFault h' = (g.stops ≡ x.stops) × (x.up ≡ true)
    × ((start : ℕ) × MayStartAt x start × (h' ≡ put_node h b (broken x (x.flushed_end, kept_line x, start))))
TrimOnRow h b x g (Dropped base last) h' =
    (g.stops ≡ x.stops) × (x.up ≡ true) × (base ≡ x.local) × MayStartAt x (last + 1)
    × (h' ≡ put_node h b (record x { local = last + 1; saved = kept_line x }))
TrimOnRow h b x g other h' = ⊥

-- the offset lies between the log start offset and the log end offset
abbrev pub IsInLog : SeenPartition → Node → ℕ → Type 0
IsInLog h x offset = (h.registry.start ≤ offset) × (offset ≤ end_of x.log.batches)

-- the bytes are those of the run at the offset, up to the high watermark that the broker knows
pub record GivesRun (x : Node) (offset limit size : ℕ) (stop : Stop) (bytes : List ℕ) : Type 0 where
  pub run : List (List ℕ)
  pub is : IsRunOf x.log.batches offset limit x.known_high_watermark stop run
  pub spelled : bytes ≡ joined run
  pub size_is : size ≡ length bytes

-- the offset lies in the local log
abbrev pub IsLocal : SeenPartition → Node → ℕ → Type 0
IsLocal h x offset = IsInLog h x offset × (x.local ≤ offset)

-- fetch from the local log: nothing changes
abbrev pub FetchRow : SeenPartition → Node → ℕ → ℕ → Answer → SeenPartition → Type 0
FetchRow h x offset limit Down h' = (x.up ≡ false) × (h' ≡ h)
FetchRow h x offset limit NotLeader h' = (x.up ≡ true) × (leads x.role ≡ false) × (h' ≡ h)
FetchRow h x offset limit (OutOfRange start end) h' =
    (x.up ≡ true) × (leads x.role ≡ true) × ((offset < start) ⊎ (end < offset)) × (start ≡ h.registry.start)
    × (end ≡ end_of x.log.batches) × (h' ≡ h)
FetchRow h x offset limit Empty h' =
    (x.up ≡ true) × (leads x.role ≡ true) × IsInLog h x offset × (x.known_high_watermark ≤ offset) × (h' ≡ h)
FetchRow h x offset limit DiskFault h' =
    (x.up ≡ true) × (leads x.role ≡ true) × IsLocal h x offset × (offset < x.known_high_watermark) × (h' ≡ h)
FetchRow h x offset limit (Run tier size stop bytes) h' =
    (x.up ≡ true) × (leads x.role ≡ true) × IsLocal h x offset × (offset < x.known_high_watermark)
    × ((segment : ℕ) × (tier ≡ Local segment)) × GivesRun x offset limit size stop bytes × (h' ≡ h)
FetchRow h x offset limit other h' = ⊥
