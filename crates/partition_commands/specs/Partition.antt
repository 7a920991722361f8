-- What the turns of commands work on where each broker's log is on a disk, and how it is seen.
--
-- The rows over disks say what a turn does to the logs by the words of a broker's log; where the disks are
-- observable, it is a row of the partition as it is seen. The disks' plans last over every turn, and infallible ones
-- stay so.
use Rattle.std.specs.Prelude.{◌≡◌, ℕ, ◌+◌, ◌-◌, ◌^◌, ◌<◌, ◌≤◌, ◌&&◌, ◌⊎◌, Bool, true, List, [], ◌∷◌, length}
use Rattle.std.specs.Prelude.{Option, unwrap_or, option_map, slice_get, slice_set, IsSomeAnd, IsTrue}
use Rattle.std.specs.Option.{option_and_then}
use Rattle.tier_base.specs.Device.{Control, Went, Ran}
use Rattle.tier_base.specs.declared.plain.FileName.{FileName}
use Rattle.disk_model.specs.Call.{call_code}
use Rattle.disk_model.specs.declared.call.DiskCall.TheVariants.{Read}
use Rattle.disk_model.specs.Content.{Content}
use Rattle.local_log.specs.Run.{is_due}
use Rattle.local_log.specs.Reading.{segment_at, is_edge}
use Rattle.local_log.specs.Stored.{size_of}
use Rattle.registry.specs.Calls.{when}
use Rattle.plain_log.specs.declared.state.Role.TheVariants.{Idle}
use Rattle.plain_log.specs.State.{leads_in}
use Rattle.broker_log.specs.Seen.{LogState, ShowsSeen, LogStays, WhileUp, OnDisk, Lasting, OneFault, Quiet}
use Rattle.broker_log.specs.Seen.{is_up as is_open, end_in, flushed_end_in, line_in, local_in, layout_in}
use Rattle.broker_log.specs.Read.{Misreads}
use Rattle.broker_log.specs.Seen as log
use Rattle.broker_log.specs.Failure as failures
use Rattle.laws_partition.specs.Seen as seen
use Rattle.partition_commands.specs.declared.partition_state.Node.{Node}
use Rattle.partition_commands.specs.declared.partition_state.PartitionState.{PartitionState}

module _ {D : Type 0} where
  -- the broker is up
  abbrev pub is_up : Node D → Bool
  is_up x = is_open x.log

  -- its log end offset, its flushed end, its leader epochs and its local start, where it is up
  abbrev pub end_of : Node D → ℕ
  end_of x = unwrap_or (end_in x.log) 0

  abbrev pub flushed_end_of : Node D → ℕ
  flushed_end_of x = unwrap_or (flushed_end_in x.log) 0

  abbrev pub line_of : Node D → List (ℕ × ℕ)
  line_of x = unwrap_or (line_in x.log) []

  abbrev pub local_of : Node D → ℕ
  local_of x = unwrap_or (local_in x.log) 0

  -- the bytes of its open segment, where it is up
  abbrev pub open_size_of : Node D → ℕ
  open_size_of x = unwrap_or (option_map (λ layout. size_of layout.active) (layout_in x.log)) 0

  -- the partition with this node in its place
  abbrev pub put_node : PartitionState D → ℕ → Node D → PartitionState D
  put_node h b x = record h { nodes = slice_set h.nodes b x }

  -- there is such a node, and this holds of it
  abbrev pub AtNode : PartitionState D → ℕ → (Node D → Type 0) → Type 0
  AtNode h b P = IsSomeAnd (slice_get h.nodes b) P

  -- there is such a node, and it can stop once more
  abbrev pub CanStop : PartitionState D → ℕ → Type 0
  CanStop h b = AtNode h b (λ x. x.stops < 18446744073709551615)

  -- the registry's leader, where it is up and leads the registry's epoch
  abbrev pub the_leader : PartitionState D → Option (Node D)
  the_leader h = option_and_then (λ y. when (is_up y && leads_in h.registry.epoch y.role) y)
      (slice_get h.nodes h.registry.leader.0)

  -- the log has as many segments as it may, and the run begins another
  abbrev pub IsFull : Node D → List ℕ → Type 0
  IsFull x run = WhileUp x.log (λ log. IsTrue (is_due log run) × (4095 ≤ length log.closed))

  -- a node that has stopped, but for its log
  abbrev pub stopped : Node D → Node D
  stopped x = record x { stops = x.stops + 1; role = Idle; known_high_watermark = 0 }

  -- the node as it is seen, with its log
  abbrev pub node_of : Node D → log.LogSeen → seen.Node
  node_of x s = record {
    up = is_up x;
    stops = x.stops;
    role = x.role;
    log = record { batches = s.batches; line = s.line };
    flushed_end = s.flushed_end;
    known_high_watermark = x.known_high_watermark;
    saved = s.saved;
    local = s.local;
    loose = s.loose;
    incarnation = s.incarnation;
  }

module _ {D : Type 0} (content : D → Content) where
  -- a node is seen so
  abbrev pub ShowsNode : Node D → seen.Node → Type 0
  ShowsNode x y = (s : log.LogSeen) × ShowsSeen content x.log s × (y ≡ node_of x s)

  abbrev pub ShowNodes : List (Node D) → List seen.Node → Type 0
  ShowNodes [] [] = Unit {0}
  ShowNodes (x ∷ xs) (y ∷ ys) = ShowsNode x y × ShowNodes xs ys
  ShowNodes [] (y ∷ ys) = ⊥
  ShowNodes (x ∷ xs) [] = ⊥

  -- the partition is seen so
  pub record ShowsPartition (h : PartitionState D) (a : seen.SeenPartition) : Type 0 where
    pub registry : a.registry ≡ h.registry
    pub nodes : ShowNodes h.nodes a.nodes
    pub clock : a.clock ≡ h.clock

module _ {D : Type 0} (control : D → Control call_code) where
  -- where a batch of the log ends at the high watermark, its disk was read once in this call, and returned something
  abbrev pub HasReadAtMark : LogState D → LogState D → ℕ → Type 0
  HasReadAtMark old kept mark = WhileUp old (λ log. is_edge (segment_at log mark) mark ≡ true
      → OnDisk old (λ d. OnDisk kept (λ e. Ran Read Went (control d) (control e))))

module _ {D : Type 0} (content : D → Content) (control : D → Control call_code) where
  -- a broker's log is as it was, whatever its disk was asked, and no call of the disk failed
  abbrev pub LogRests : PartitionState D → ℕ → Node D → PartitionState D → Type 0
  LogRests h b x h' = (kept : LogState D) × LogStays content x.log kept × Quiet control x.log kept
      × (h' ≡ put_node h b (record x { log = kept }))

  -- a broker's disk failed in a read, and the log is as it was
  abbrev pub NodeReadFails : PartitionState D → ℕ → Node D → PartitionState D → Type 0
  NodeReadFails h b x h' =
      (kept : LogState D) × LogStays content x.log kept × Lasting control x.log kept × OneFault control x.log kept
      × (h' ≡ put_node h b (record x { log = kept }))

  -- a read of a broker's log found damage there, and the log is as it was
  pub record NodeHasDamage (h : PartitionState D) (b : ℕ) (x : Node D) (offset limit mark : ℕ) (name : FileName)
      (at : ℕ) (h' : PartitionState D) : Type 0 where
    pub kept : LogState D
    pub misreads : Misreads content control x.log kept offset limit mark name at
    pub ran : HasReadAtMark control x.log kept mark
    pub quiet : Quiet control x.log kept
    pub after : h' ≡ put_node h b (record x { log = kept })

  -- nothing that is seen has changed, and no call of a disk failed
  abbrev pub KeepsPartition : PartitionState D → PartitionState D → Type 0
  KeepsPartition h h' = (h' ≡ h) ⊎ ((b : ℕ) × AtNode h b (λ x. LogRests h b x h'))

  -- a broker's disk failed in a write, and the broker has stopped: this holds of its log of before and after
  pub record BreaksBy (h : PartitionState D) (b : ℕ) (x : Node D) (B : LogState D → LogState D → Type 0)
      (h' : PartitionState D) : Type 0 where
    pub kept : LogState D
    pub breaks : B x.log kept
    pub cause : OneFault control x.log kept
    pub lasts : Lasting control x.log kept
    pub after : h' ≡ put_node h b (record (stopped x) { log = kept })

  -- a broker's disk failed in a write, which makes this of its log, and the broker has stopped
  pub record BreaksNode (h : PartitionState D) (b : ℕ) (x : Node D) (makes : log.LogSeen → log.LogSeen)
      (h' : PartitionState D) : Type 0 where
    pub kept : LogState D
    pub breaks : failures.Breaks content x.log kept makes
    pub cause : OneFault control x.log kept
    pub lasts : Lasting control x.log kept
    pub after : h' ≡ put_node h b (record (stopped x) { log = kept })

-- no call of a disk can fail yet, and its count of faults could still rise
pub record IsInfallible (c : Control call_code) : Type 0 where
  pub infallible : IsTrue c.infallible
  pub few : c.faults < 2 ^ 64 - 1
