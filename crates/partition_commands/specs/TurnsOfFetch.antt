-- What the first turn of a fetch comes to over disks: the run at an offset of the leader's log, up to the high
-- watermark that the broker knows. An offset below the local log is recorded, and looked for in the remote tier.
use Rattle.std.specs.Prelude.{◌≡◌, ℕ, ◌<◌, ◌≤◌, ◌⊎◌, true, false, List, length}
use Rattle.tier_base.specs.Device.{Control}
use Rattle.disk_model.specs.Call.{call_code}
use Rattle.disk_model.specs.Content.{Content}
use Rattle.local_log.specs.declared.reading.RunOut.{RunOut}
use Rattle.plain_log.specs.declared.answer.Answer.{Answer}
use Rattle.plain_log.specs.declared.answer.Answer.TheVariants.{Down, NotLeader, DiskFault, Damaged}
use Rattle.plain_log.specs.declared.answer.Answer.TheVariants.{OutOfRange, Empty, Run}
use Rattle.plain_log.specs.declared.answer.Place.TheVariants.{File}
use Rattle.plain_log.specs.declared.answer.Tier.{Tier}
use Rattle.plain_log.specs.declared.answer.Tier.TheVariants.{Local}
use Rattle.tier_base.specs.declared.plain.Stop.{Stop}
use Rattle.plain_log.specs.State.{leads}
use Rattle.broker_log.specs.Seen.{LogState, Quiet}
use Rattle.broker_log.specs.Read.{ReadsRun}
use Rattle.partition_commands.specs.declared.partition_state.Node.{Node}
use Rattle.partition_commands.specs.declared.partition_state.PartitionState.{PartitionState}
use Rattle.partition_commands.specs.Partition.{is_up, end_of, local_of, put_node, NodeReadFails, NodeHasDamage}
use Rattle.partition_commands.specs.TurnsOfLog.{IsInLog, Notes}
use Rattle.laws_partition.specs.declared.start_snapshot.Turned.{Turned}
use Rattle.laws_partition.specs.declared.start_snapshot.Turned.TheVariants.{Answers, Begins}

module _ {D : Type 0} where
  -- the broker is up, and the offset lies below the high watermark that it knows
  abbrev pub MayGive : Node D → ℕ → ℕ → Type 0
  MayGive x offset known =
      (is_up x ≡ true) × (known ≡ x.known_high_watermark) × (offset < known) × (local_of x ≤ offset)

  -- the offset lies in the local log
  abbrev pub IsLocal : PartitionState D → Node D → ℕ → Type 0
  IsLocal h x offset = IsInLog h x offset × (local_of x ≤ offset)

module _ {D : Type 0} (content : D → Content) (control : D → Control call_code) where
  -- the bytes are those of a run that was read at the offset
  pub record GivesRun (h : PartitionState D) (b : ℕ) (x : Node D) (offset limit : ℕ) (tier : Tier) (size : ℕ)
      (stop : Stop) (bytes : List ℕ) (h' : PartitionState D) : Type 0 where
    pub kept : LogState D
    pub out : RunOut
    pub reads : ReadsRun content control x.log kept offset limit x.known_high_watermark out
    pub quiet : Quiet control x.log kept
    pub after : h' ≡ put_node h b (record x { log = kept })
    pub tier_is : tier ≡ Local out.base
    pub bytes_are : bytes ≡ out.bytes
    pub size_is : size ≡ length bytes
    pub stop_is : stop ≡ out.stop

  -- what is read for it
  abbrev pub GiveRow : PartitionState D → ℕ → Node D → ℕ → ℕ → Answer → PartitionState D → Type 0
  GiveRow h b x offset limit (Run tier size stop bytes) h' = GivesRun h b x offset limit tier size stop bytes h'
  GiveRow h b x offset limit DiskFault h' = NodeReadFails content control h b x h'
  GiveRow h b x offset limit (Damaged (File name) at) h' =
      NodeHasDamage content control h b x offset limit x.known_high_watermark name at h'
  GiveRow h b x offset limit other h' = ⊥

  -- fetch: nothing that is seen changes
  abbrev pub FetchRow : PartitionState D → ℕ → Node D → ℕ → ℕ → Answer → PartitionState D → Type 0
  FetchRow h b x offset limit Down h' = (is_up x ≡ false) × (h' ≡ h)
  FetchRow h b x offset limit NotLeader h' = (is_up x ≡ true) × (leads x.role ≡ false) × (h' ≡ h)
  FetchRow h b x offset limit (OutOfRange start end) h' =
      (is_up x ≡ true) × (leads x.role ≡ true) × ((offset < start) ⊎ (end < offset)) × (start ≡ h.registry.start)
      × (end ≡ end_of x) × (h' ≡ h)
  FetchRow h b x offset limit Empty h' =
      (is_up x ≡ true) × (leads x.role ≡ true) × IsInLog h x offset × (x.known_high_watermark ≤ offset) × (h' ≡ h)
  FetchRow h b x offset limit (Run tier size stop bytes) h' =
      (is_up x ≡ true) × (leads x.role ≡ true) × IsLocal h x offset × (offset < x.known_high_watermark)
      × GivesRun h b x offset limit tier size stop bytes h'
  FetchRow h b x offset limit DiskFault h' =
      (is_up x ≡ true) × (leads x.role ≡ true) × IsLocal h x offset × (offset < x.known_high_watermark)
      × NodeReadFails content control h b x h'
  FetchRow h b x offset limit (Damaged (File name) at) h' =
      (is_up x ≡ true) × (leads x.role ≡ true) × IsLocal h x offset × (offset < x.known_high_watermark)
      × NodeHasDamage content control h b x offset limit x.known_high_watermark name at h'
  FetchRow h b x offset limit other h' = ⊥

  -- fetch, first turn: below the local log it continues with a later one
  abbrev pub FetchTurn : PartitionState D → ℕ → Node D → ℕ → ℕ → Turned → PartitionState D → Type 0
  FetchTurn h b x offset limit (Answers answer) h' = FetchRow h b x offset limit answer h'
  FetchTurn h b x offset limit (Begins g) h' =
      (is_up x ≡ true) × (leads x.role ≡ true) × IsInLog h x offset × (offset < x.known_high_watermark)
      × (offset < local_of x)
      × Notes h x g × (h' ≡ h)
