-- A question for an offset that is known at once is a row of what is seen.
use Rattle.std.proofs.Common.{◌≡◌, ◌∙◌, sym, ap, refl, ℕ, Some, true}
use Rattle.std.specs.Prelude.{max}
use Rattle.tier_base.specs.Device.{Control}
use Rattle.disk_model.specs.Call.{call_code}
use Rattle.disk_model.specs.Content.{Content}
use Rattle.registry.specs.declared.registry.Registry.{Registry}
use Rattle.plain_log.specs.declared.answer.Answer.{Answer}
use Rattle.plain_log.specs.declared.answer.Answer.TheVariants.{Down, NotLeader, Offset as OffsetAnswer}
use Rattle.plain_log.specs.declared.command.Which.{Which}
use Rattle.plain_log.specs.declared.command.Which.TheVariants.{Earliest, Latest, EarliestLocal, LatestTiered, At}
use Rattle.broker_log.specs.Seen as log
use Rattle.laws_partition.specs.Seen as seen
use Rattle.laws_partition.specs.RowsOfOffsets as seen_offsets
use Rattle.partition_commands.specs.declared.partition_state.Node.{Node}
use Rattle.partition_commands.specs.declared.partition_state.PartitionState.{PartitionState}
use Rattle.partition_commands.specs.Partition.{is_up, local_of, node_of}
use Rattle.partition_commands.specs.Turns.{known_offset, OffsetRow}
use Rattle.partition_commands.specs.Shown.{Sees, Refines}
use Rattle.partition_commands.proofs.Shown.{stays, local_shown}

module _ {D : Type 0} (content : D → Content) (control : D → Control call_code) where
  -- what is known of both is one
  same_offset : (h : PartitionState D) (a : seen.SeenPartition) (b : ℕ) (x : Node D) (s : log.LogSeen) (which : Which) → Sees content h a b x s → is_up x ≡ true
      → seen_offsets.known_offset a (node_of x s) which ≡ known_offset h x which
  same_offset h a b x s Earliest v up = ap (λ (r : Registry). Some r.start) v.partition_state.registry
  same_offset h a b x s Latest v up = refl
  same_offset h a b x s EarliestLocal v up =
      ap (λ (n : ℕ). Some (max n a.registry.start)) (sym (local_shown content x s up v.shows)) ∙ ap (λ (r : Registry). Some (max (local_of x) r.start)) v.partition_state.registry
  same_offset h a b x s LatestTiered v up = refl
  same_offset h a b x s (At ts) v up = refl

  pub offset_refined : (h : PartitionState D) (a : seen.SeenPartition) (b : ℕ) (x : Node D) (s : log.LogSeen) (which : Which) (answer : Answer) (h' : PartitionState D) → Sees content h a b x s
      → OffsetRow h x which answer h' → Refines content h' (λ c. seen_offsets.OffsetRow a (node_of x s) which answer c)
  offset_refined h a b x s which Down h' v w = stays content control h a h' _ v.partition_state w.1 (w.0, refl)
  offset_refined h a b x s which NotLeader h' v w = stays content control h a h' _ v.partition_state w.2 (w.0, w.1, refl)
  offset_refined h a b x s which (OffsetAnswer n) h' v w =
      stays content control h a h' _ v.partition_state w.3 (w.0, w.1, same_offset h a b x s which v w.0 ∙ w.2, refl)
  offset_refined h a b x s which other h' v w = elim w [ ]
