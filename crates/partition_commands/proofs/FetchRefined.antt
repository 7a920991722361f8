-- The first turn of a fetch is a row of what is seen.
use Rattle.std.proofs.Common.{◌≡◌, ◌∙◌, sym, ap, subst, refl, ℕ, ◌<◌, ◌≤◌, true}
use Rattle.tier_base.specs.Device.{Control}
use Rattle.tier_base.specs.declared.plain.Stop.{Stop}
use Rattle.disk_model.specs.Call.{call_code}
use Rattle.disk_model.specs.Content.{Content}
use Rattle.registry.specs.declared.registry.Registry.{Registry}
use Rattle.plain_log.specs.declared.answer.Answer.{Answer}
use Rattle.plain_log.specs.declared.answer.Answer.TheVariants.{Down, NotLeader, DiskFault, Damaged, OutOfRange, Empty, Run}
use Rattle.plain_log.specs.declared.answer.Place.TheVariants.{File}
use Rattle.plain_log.specs.declared.command.Command.TheVariants.{Fetch}
use Rattle.laws_partition.specs.declared.start_snapshot.Turned.{Turned}
use Rattle.laws_partition.specs.declared.start_snapshot.Turned.TheVariants.{Answers, Begins}
use Rattle.laws_partition.specs.Rows as seen_rows
use Rattle.partition_commands.proofs.OwnRefined.{notes_shown}
use Rattle.broker_log.specs.Seen.{ShowsSeen}
use Rattle.broker_log.specs.Seen as log
use Rattle.laws_partition.specs.Seen as seen
use Rattle.laws_partition.specs.Log.{IsRunOf}
use Rattle.laws_partition.specs.RowsOfLog as seen_log
use Rattle.laws_partition.specs.Sound as seen_sound
use Rattle.partition_commands.specs.declared.partition_state.Node.{Node}
use Rattle.partition_commands.specs.declared.partition_state.PartitionState.{PartitionState}
use Rattle.partition_commands.specs.Partition.{is_up, node_of}
use Rattle.partition_commands.specs.TurnsOfLog.{IsInLog}
use Rattle.partition_commands.specs.TurnsOfFetch.{IsLocal, FetchRow, FetchTurn}
use Rattle.partition_commands.proofs.RunsShown.{run_shown}
use Rattle.partition_commands.specs.Shown.{Sees, Refines}
use Rattle.partition_commands.proofs.Shown.{stays, rests, fails, end_shown, local_shown}

module _ {D : Type 0} (content : D → Content) (control : D → Control call_code) where
  in_log : (h : PartitionState D) (a : seen.SeenPartition) (b : ℕ) (x : Node D) (s : log.LogSeen) (offset : ℕ) → Sees content h a b x s → is_up x ≡ true → IsInLog h x offset → seen_log.IsInLog a (node_of x s) offset
  in_log h a b x s offset v up w =
      (subst (λ (r : Registry). r.start ≤ offset) (sym v.partition_state.registry) w.0, subst (λ (n : ℕ). offset ≤ n) (end_shown content x s up v.shows) w.1)

  is_local : (h : PartitionState D) (a : seen.SeenPartition) (b : ℕ) (x : Node D) (s : log.LogSeen) (offset : ℕ) → Sees content h a b x s → is_up x ≡ true → IsLocal h x offset → seen_log.IsLocal a (node_of x s) offset
  is_local h a b x s offset v up w = (in_log h a b x s offset v up w.0, subst (λ (n : ℕ). n ≤ offset) (local_shown content x s up v.shows) w.1)

  fetch_refined : (h : PartitionState D) (a : seen.SeenPartition) (b : ℕ) (x : Node D) (s : log.LogSeen) (offset limit : ℕ) (answer : Answer) (h' : PartitionState D) → Sees content h a b x s
      → seen_sound.NodeSound (node_of x s) → FetchRow content control h b x offset limit answer h' → Refines content h' (λ c. seen_log.FetchRow a (node_of x s) offset limit answer c)
  fetch_refined h a b x s offset limit Down h' v k w = stays content control h a h' _ v.partition_state w.1 (w.0, refl)
  fetch_refined h a b x s offset limit NotLeader h' v k w = stays content control h a h' _ v.partition_state w.2 (w.0, w.1, refl)
  fetch_refined h a b x s offset limit (OutOfRange start end) h' v k w =
      stays content control h a h' _ v.partition_state w.5
      (w.0, w.1, w.2, w.3 ∙ ap (λ (r : Registry). r.start) (sym v.partition_state.registry), w.4 ∙ end_shown content x s w.0 v.shows, refl)
  fetch_refined h a b x s offset limit Empty h' v k w =
      stays content control h a h' _ v.partition_state w.4 (w.0, w.1, in_log h a b x s offset v w.0 w.2, w.3, refl)
  fetch_refined h a b x s offset limit (Run tier size stop bytes) h' v k w =
      let g = w.4 in
      let r = g.reads.run s v.shows k.known_high_watermark in
      rests content control h a b x s h' _ v (g.kept, g.reads.stays, g.quiet, g.after) (
        w.0,
        w.1,
        is_local h a b x s offset v w.0 w.2,
        w.3,
        (g.out.base, g.tier_is),
        record {
          run = r.run;
          is = subst (λ (why : Stop). IsRunOf s.batches offset limit x.known_high_watermark why r.run) (sym g.stop_is) (run_shown x.log s offset limit x.known_high_watermark g.out k.log.consecutive k.log.line_is r);
          spelled = g.bytes_are ∙ r.bytes;
          size_is = g.size_is;
        },
        refl,
      )
  fetch_refined h a b x s offset limit DiskFault h' v k w = fails content control h a b x s h' _ v w.4 (w.0, w.1, is_local h a b x s offset v w.0 w.2, w.3, refl)
  fetch_refined h a b x s offset limit (Damaged (File name) at) h' v k w = absurd (w.4.misreads.unmarked s v.shows k.known_high_watermark)
  fetch_refined h a b x s offset limit other h' v k w = elim w [ ]

  -- the first turn
  pub fetch_turn_refined : (h : PartitionState D) (a : seen.SeenPartition) (b : ℕ) (x : Node D) (s : log.LogSeen) (offset limit : ℕ) (turned : Turned) (h' : PartitionState D) → Sees content h a b x s
      → seen_sound.NodeSound (node_of x s) → FetchTurn content control h b x offset limit turned h' → Refines content h' (λ c. seen_rows.FirstRow a b (node_of x s) (Fetch offset limit) turned c)
  fetch_turn_refined h a b x s offset limit (Answers answer) h' v k w = fetch_refined h a b x s offset limit answer h' v k w
  fetch_turn_refined h a b x s offset limit (Begins g) h' v k w =
      stays content control h a h' _ v.partition_state w.6 (
        w.0,
        w.1,
        in_log h a b x s offset v w.0 w.2,
        w.3,
        subst (λ (n : ℕ). offset < n) (local_shown content x s w.0 v.shows) w.4,
        notes_shown content control h a b x s g v w.0 w.5,
        refl,
      )
