-- A call that found no memory leaves what is seen of a partition, and a disk that returned damage was read once.
use Rattle.std.proofs.Common.{◌≡◌, inr, subst, ℕ, true, slice_get, Some, Err}
use Rattle.std.specs.declared.result.Result.{Result}
use Rattle.tier_base.specs.Device.{Control}
use Rattle.tier_base.specs.declared.plain.FileName.{FileName}
use Rattle.disk_model.specs.Call.{call_code}
use Rattle.disk_model.specs.Content.{Content}
use Rattle.local_log.specs.Reading.{segment_at, is_edge, ReadOnce}
use Rattle.local_log.specs.declared.refusal.ReadRefusal.{ReadRefusal}
use Rattle.local_log.specs.declared.refusal.ReadRefusal.TheVariants.{Damaged}
use Rattle.broker_log.specs.Seen.{LogState, LogStays, Quiet, WhileUp, OnDisk}
use Rattle.partition_commands.specs.declared.partition_state.Node.{Node}
use Rattle.partition_commands.specs.declared.partition_state.PartitionState.{PartitionState}
use Rattle.partition_commands.specs.Partition.{put_node, AtNode, HasReadAtMark, KeepsPartition}

-- what holds of the node at a place
pub at_node : {D : Type 0} (h : PartitionState D) (b : ℕ) (x : Node D) (P : Node D → Type 0) → slice_get h.nodes b ≡ Some x → P x → AtNode h b P
at_node h b x P there p = rw there p

-- a read that found damage up to a mark was one read
pub has_read : {D T : Type 0} (control : D → Control call_code) (old kept : LogState D) (bound mark : ℕ) (r : Result T ReadRefusal) (name : FileName) (at : ℕ)
    → bound ≡ mark → r ≡ Err (Damaged name at)
    → WhileUp old (λ log. is_edge (segment_at log bound) bound ≡ true → OnDisk old (λ d. OnDisk kept (λ e. ReadOnce r (control d) (control e))))
    → HasReadAtMark control old kept mark
has_read {D} {T} control old kept bound mark r name at same is ran =
    subst (HasReadAtMark control old kept) same
    (subst (λ (k : Result T ReadRefusal). WhileUp old (λ log. is_edge (segment_at log bound) bound ≡ true
    → OnDisk old (λ d. OnDisk kept (λ e. ReadOnce k (control d) (control e))))) is ran)

module _ {D : Type 0} (content : D → Content) (control : D → Control call_code) where
  pub stays_at : (h : PartitionState D) (b : ℕ) (x : Node D) (kept : LogState D) (h' : PartitionState D) → slice_get h.nodes b ≡ Some x → LogStays content x.log kept → Quiet control x.log kept → h' ≡ put_node h b (record x { log = kept })
      → KeepsPartition content control h h'
  stays_at h b x kept h' there stays quiet after = inr (b, rw there (kept, stays, quiet, after))
