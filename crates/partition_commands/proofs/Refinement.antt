-- A turn of any command over observable disks is a row of what is seen.
use Rattle.std.proofs.Common.{◌≡◌, sym, subst, refl, ℕ, ℤ, Some, None, Option, Bool}
use Rattle.tier_base.specs.Device.{Control}
use Rattle.disk_model.specs.Call.{call_code}
use Rattle.disk_model.specs.Content.{Content}
use Rattle.record_batch.specs.Build.{built}
use Rattle.plain_log.specs.declared.answer.Answer.{Answer}
use Rattle.plain_log.specs.declared.answer.Answer.TheVariants.{Ok}
use Rattle.plain_log.specs.declared.command.Command.{Command}
use Rattle.plain_log.specs.declared.command.Command.TheVariants.{Append, Raw, Flush, Roll, Elect, Unclean, Learn, Join, Follow, Copy, Trim, Expire, Ack, Shrink, Expand, Raise, Clock, Stop as StopCommand, Up as UpCommand, Fetch, Pack, Copying, Offset}
use Rattle.plain_log.specs.declared.command.Which.TheVariants.{LatestTiered, At}
use Rattle.broker_log.specs.Seen as log
use Rattle.laws_partition.specs.declared.start_snapshot.StartSnapshot.{StartSnapshot}
use Rattle.laws_partition.specs.declared.start_snapshot.Turned.{Turned}
use Rattle.laws_partition.specs.declared.start_snapshot.Turned.TheVariants.{Answers, Begins}
use Rattle.laws_partition.specs.Seen as seen
use Rattle.laws_partition.specs.Rows as seen_rows
use Rattle.partition_commands.specs.declared.partition_state.Node.{Node}
use Rattle.partition_commands.specs.declared.partition_state.PartitionState.{PartitionState}
use Rattle.partition_commands.specs.Partition.{node_of}
use Rattle.partition_commands.specs.Turns.{ClockRow, PackRow, CopyingRow, AnswerRow, FirstRow, LaterRow, Row}
use Rattle.partition_commands.proofs.ElectionsRefined.{elect_refined, unclean_refined, learn_refined, ack_refined, shrink_refined, expand_refined, raise_refined}
use Rattle.partition_commands.proofs.FetchRefined.{fetch_turn_refined}
use Rattle.partition_commands.proofs.FollowersRefined.{join_refined, join_on_refined, follow_refined, follow_on_refined}
use Rattle.partition_commands.proofs.OffsetRefined.{offset_refined}
use Rattle.partition_commands.proofs.OwnRefined.{append_refined, raw_refined, flush_refined, roll_refined, trim_refined, trim_on_refined, stop_refined, up_refined}
use Rattle.partition_commands.specs.Shown.{Sees, Refines, Knows, KnowsSnapshot}

module _ {D : Type 0} (content : D → Content) (control : D → Control call_code) where
  clock_refined : (h : PartitionState D) (a : seen.SeenPartition) (b : ℕ) (x : Node D) (s : log.LogSeen) (ms : ℤ) (answer : Answer) (h' : PartitionState D) → Sees content h a b x s → ClockRow h ms answer h'
      → Refines content h' (λ c. seen_rows.ClockRow a ms answer c)
  clock_refined h a b x s ms Ok h' v w =
      subst (λ (k : PartitionState D). Refines content k (λ c. seen_rows.ClockRow a ms Ok c)) (sym w) (record {
        after = record a { clock = ms };
        partition_state = record { registry = v.partition_state.registry; nodes = v.partition_state.nodes; clock = refl };
        row = refl;
      })
  clock_refined h a b x s ms other h' v w = elim w [ ]

  pack_refined : (h : PartitionState D) (a : seen.SeenPartition) (b : ℕ) (x : Node D) (s : log.LogSeen) (on : Bool) (answer : Answer) (h' : PartitionState D) → Sees content h a b x s → PackRow h on answer h'
      → Refines content h' (λ c. seen_rows.SwitchRow a answer c)
  pack_refined h a b x s on Ok h' v w =
      subst (λ (k : PartitionState D). Refines content k (λ c. seen_rows.SwitchRow a Ok c)) (sym w) (record {
        after = a;
        partition_state = record { registry = v.partition_state.registry; nodes = v.partition_state.nodes; clock = v.partition_state.clock };
        row = refl;
      })
  pack_refined h a b x s on other h' v w = elim w [ ]

  copying_refined : (h : PartitionState D) (a : seen.SeenPartition) (b : ℕ) (x : Node D) (s : log.LogSeen) (on : Bool) (answer : Answer) (h' : PartitionState D) → Sees content h a b x s → CopyingRow h on answer h'
      → Refines content h' (λ c. seen_rows.SwitchRow a answer c)
  copying_refined h a b x s on Ok h' v w =
      subst (λ (k : PartitionState D). Refines content k (λ c. seen_rows.SwitchRow a Ok c)) (sym w) (record {
        after = a;
        partition_state = record { registry = v.partition_state.registry; nodes = v.partition_state.nodes; clock = v.partition_state.clock };
        row = refl;
      })
  copying_refined h a b x s on other h' v w = elim w [ ]

  answer_refined : (h : PartitionState D) (a : seen.SeenPartition) (b : ℕ) (x : Node D) (s : log.LogSeen) (command : Command) (answer : Answer) (h' : PartitionState D) → Sees content h a b x s → Knows a (node_of x s)
      → AnswerRow content control h b x command answer h' → Refines content h' (λ c. seen_rows.AnswerRow a b (node_of x s) command answer c)
  answer_refined h a b x s (Append recs) answer h' v k w = append_refined content control h a b x s (built recs) answer h' v w
  answer_refined h a b x s (Raw bytes) answer h' v k w = raw_refined content control h a b x s bytes answer h' v w
  answer_refined h a b x s Flush answer h' v k w = flush_refined content control h a b x s answer h' v w
  answer_refined h a b x s Roll answer h' v k w = roll_refined content control h a b x s answer h' v w
  answer_refined h a b x s Elect answer h' v k w = elect_refined content control h a b x s answer h' v w
  answer_refined h a b x s Unclean answer h' v k w = unclean_refined content control h a b x s answer h' v w
  answer_refined h a b x s Learn answer h' v k w = learn_refined content control h a b x s answer h' v w
  answer_refined h a b x s Ack answer h' v k w = ack_refined content control h a b x s answer h' v w
  answer_refined h a b x s Shrink answer h' v k w = shrink_refined content control h a b x s answer h' v w
  answer_refined h a b x s Expand answer h' v k w = expand_refined content control h a b x s answer h' v w
  answer_refined h a b x s (Raise start) answer h' v k w = raise_refined content control h a b x s start answer h' v w
  answer_refined h a b x s (Clock ms) answer h' v k w = clock_refined h a b x s ms answer h' v w
  answer_refined h a b x s (Pack on) answer h' v k w = pack_refined h a b x s on answer h' v w
  answer_refined h a b x s (Copying on) answer h' v k w = copying_refined h a b x s on answer h' v w
  answer_refined h a b x s (Offset which) answer h' v k w = offset_refined content control h a b x s which answer h' v w
  answer_refined h a b x s StopCommand answer h' v k w = stop_refined content control h a b x s answer h' v w
  answer_refined h a b x s UpCommand answer h' v k w = up_refined content control h a b x s answer h' v w
  answer_refined h a b x s other answer h' v k w = elim w [ ]

  first_refined : (h : PartitionState D) (a : seen.SeenPartition) (b : ℕ) (x : Node D) (s : log.LogSeen) (command : Command) (turned : Turned) (h' : PartitionState D) → Sees content h a b x s → Knows a (node_of x s)
      → FirstRow content control h b x command turned h' → Refines content h' (λ c. seen_rows.FirstRow a b (node_of x s) command turned c)
  first_refined h a b x s (Follow limit) turned h' v k w = follow_refined content control h a b x s limit turned h' v k.sound w
  first_refined h a b x s Join turned h' v k w = join_refined content control h a b x s turned h' v k.meets w
  first_refined h a b x s Trim turned h' v k w = trim_refined content control h a b x s turned h' v w
  first_refined h a b x s (Fetch offset limit) turned h' v k w = fetch_turn_refined content control h a b x s offset limit turned h' v (k.sound b (node_of x s) v.there) w
  first_refined h a b x s Copy (Answers answer) h' v k w = absurd w
  first_refined h a b x s (Offset LatestTiered) turned h' v k w = absurd w
  first_refined h a b x s (Offset (At ts)) turned h' v k w = absurd w
  first_refined h a b x s Expire (Answers answer) h' v k w = absurd w
  first_refined h a b x s command (Answers answer) h' v k w = answer_refined h a b x s command answer h' v k w
  first_refined h a b x s command (Begins g) h' v k w = elim w [ ]

  later_refined : (h : PartitionState D) (a : seen.SeenPartition) (b : ℕ) (x : Node D) (s : log.LogSeen) (command : Command) (g : StartSnapshot) (turned : Turned) (h' : PartitionState D) → Sees content h a b x s → Knows a (node_of x s)
      → KnowsSnapshot a (node_of x s) command g → LaterRow content control h b x command g turned h' → Refines content h' (λ c. seen_rows.LaterRow a b (node_of x s) command g turned c)
  later_refined h a b x s (Follow limit) g (Answers answer) h' v k q w = follow_on_refined content control h a b x s g answer h' v q w
  later_refined h a b x s Join g (Answers answer) h' v k q w = join_on_refined content control h a b x s g answer h' v (k.sound b (node_of x s) v.there) q w
  later_refined h a b x s Trim g (Answers answer) h' v k q w = trim_on_refined content control h a b x s g answer h' v q w
  later_refined h a b x s command g turned h' v k q w = elim w [ ]

  -- a turn, whether its command has begun or not
  pub row_refined : (h : PartitionState D) (a : seen.SeenPartition) (b : ℕ) (x : Node D) (s : log.LogSeen) (snapshot : Option StartSnapshot) (command : Command) (turned : Turned) (h' : PartitionState D) → Sees content h a b x s
      → Knows a (node_of x s) → ((g : StartSnapshot) → snapshot ≡ Some g → KnowsSnapshot a (node_of x s) command g) → Row content control h b x snapshot command turned h'
      → Refines content h' (λ c. seen_rows.Row a b (node_of x s) snapshot command turned c)
  row_refined h a b x s None command turned h' v k kept w = first_refined h a b x s command turned h' v k w
  row_refined h a b x s (Some g) command turned h' v k kept w = later_refined h a b x s command g turned h' v k (kept g refl) w
