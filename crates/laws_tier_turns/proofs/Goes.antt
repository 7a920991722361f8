-- A turn of any command that raises no local start.
use Rattle.std.proofs.Common.{◌≡◌, ℕ, Option, None, Some, false, slice_get}
use Rattle.record_batch.specs.Build.{built}
use Rattle.plain_log.specs.declared.answer.Answer.{Answer}
use Rattle.plain_log.specs.declared.command.Command.{Command}
use Rattle.plain_log.specs.declared.command.Command.TheVariants.{Append, Raw, Flush, Roll, Elect, Unclean, Learn, Join, Follow, Trim, Copy, Expire, Ack, Shrink, Expand, Raise, Clock, Stop as StopCommand, Up as UpCommand, Fetch, Pack, Copying, Offset}
use Rattle.plain_log.specs.declared.command.Which.TheVariants.{LatestTiered, At}
use Rattle.laws_partition.specs.declared.start_snapshot.StartSnapshot.{StartSnapshot}
use Rattle.laws_partition.specs.declared.start_snapshot.Turned.{Turned}
use Rattle.laws_partition.specs.declared.start_snapshot.Turned.TheVariants.{Answers, Begins}
use Rattle.laws_partition.specs.Seen.{Node, SeenPartition}
use Rattle.laws_partition.specs.Rows.{AnswerRow, FirstRow, LaterRow, Row}
use Rattle.laws_partition.specs.Sound.{NodeSound}
use Rattle.laws_tier_turns.specs.Turns.{may_raise}
use Rattle.laws_tier_turns.proofs.Nodes.{Goes, stays}
use Rattle.laws_tier_turns.proofs.OwnRows.{append_goes, raw_goes, flush_goes, roll_goes, stop_goes, up_goes, clock_goes, switch_goes, fetch_goes, trim_goes}
use Rattle.laws_tier_turns.proofs.RegistryRows.{elect_goes, unclean_goes, learn_goes, ack_goes, shrink_goes, expand_goes, raise_goes, leaders_goes, copy_goes, copy_on_goes, expire_on_goes, fetch_on_goes, offset_goes, offset_on_goes, offset_at_goes}
use Rattle.laws_tier_turns.proofs.FollowerRows.{join_goes, join_on_goes, follow_goes, follow_on_goes, trim_on_goes}

answer_goes : (h : SeenPartition) (b : ℕ) (x : Node) (command : Command) (answer : Answer) (h' : SeenPartition) → slice_get h.nodes b ≡ Some x → NodeSound x → AnswerRow h b x command answer h' → Goes h b x h'
answer_goes h b x (Append recs) answer h' at s w = append_goes h b x (built recs) answer h' at s w
answer_goes h b x (Raw bytes) answer h' at s w = raw_goes h b x bytes answer h' at s w
answer_goes h b x Flush answer h' at s w = flush_goes h b x answer h' at s w
answer_goes h b x Roll answer h' at s w = roll_goes h b x answer h' at s w
answer_goes h b x Elect answer h' at s w = elect_goes h b x answer h' at s w
answer_goes h b x Unclean answer h' at s w = unclean_goes h b x answer h' at s w
answer_goes h b x Learn answer h' at s w = learn_goes h b x answer h' at s w
answer_goes h b x Ack answer h' at s w = ack_goes h b x answer h' at s w
answer_goes h b x Shrink answer h' at s w = shrink_goes h b x answer h' at s w
answer_goes h b x Expand answer h' at s w = expand_goes h b x answer h' at s w
answer_goes h b x (Raise start) answer h' at s w = raise_goes h b x start answer h' at s w
answer_goes h b x (Clock ms) answer h' at s w = clock_goes h b x ms answer h' at s w
answer_goes h b x (Pack on) answer h' at s w = switch_goes h b x answer h' at s w
answer_goes h b x (Copying on) answer h' at s w = switch_goes h b x answer h' at s w
answer_goes h b x StopCommand answer h' at s w = stop_goes h b x answer h' at s w
answer_goes h b x UpCommand answer h' at s w = up_goes h b x answer h' at s w
answer_goes h b x (Fetch offset limit) answer h' at s w = fetch_goes h b x offset limit answer h' at s w
answer_goes h b x (Offset which) answer h' at s w = offset_goes h b x which answer h' at s w
answer_goes h b x other answer h' at s w = elim w [ ]

first_goes : (h : SeenPartition) (b : ℕ) (x : Node) (command : Command) (turned : Turned) (h' : SeenPartition) → slice_get h.nodes b ≡ Some x → NodeSound x → FirstRow h b x command turned h' → Goes h b x h'
first_goes h b x (Follow limit) turned h' at s w = follow_goes h b x limit turned h' at s w
first_goes h b x Join turned h' at s w = join_goes h b x turned h' at s w
first_goes h b x Trim turned h' at s w = trim_goes h b x turned h' at s w
first_goes h b x Copy turned h' at s w = copy_goes h b x turned h' at s w
first_goes h b x Expire turned h' at s w = leaders_goes h b x turned h' at s w
first_goes h b x (Fetch offset limit) (Begins g) h' at s w = stays h b x h' at s w.6
first_goes h b x (Offset LatestTiered) turned h' at s w = leaders_goes h b x turned h' at s w
first_goes h b x (Offset (At ts)) turned h' at s w = leaders_goes h b x turned h' at s w
first_goes h b x command (Answers answer) h' at s w = answer_goes h b x command answer h' at s w
first_goes h b x command (Begins g) h' at s w = elim w [ ]

later_goes : (h : SeenPartition) (b : ℕ) (x : Node) (command : Command) (g : StartSnapshot) (turned : Turned) (h' : SeenPartition) → slice_get h.nodes b ≡ Some x → NodeSound x → LaterRow h b x command g turned h'
    → may_raise (Some g) command turned ≡ false → Goes h b x h'
later_goes h b x (Follow limit) g (Answers answer) h' at s w low = follow_on_goes h b x g answer h' at s w
later_goes h b x Join g (Answers answer) h' at s w low = join_on_goes h b x g answer h' at s w low
later_goes h b x Trim g (Answers answer) h' at s w low = trim_on_goes h b x g answer h' at s w low
later_goes h b x Copy g (Answers answer) h' at s w low = copy_on_goes h b x g answer h' at s w
later_goes h b x Expire g (Answers answer) h' at s w low = expire_on_goes h b x g answer h' at s w
later_goes h b x (Fetch offset limit) g (Answers answer) h' at s w low = fetch_on_goes h b x offset limit g answer h' at s w
later_goes h b x (Offset LatestTiered) g (Answers answer) h' at s w low = offset_on_goes h b x g answer h' at s w
later_goes h b x (Offset (At ts)) g (Answers answer) h' at s w low = offset_at_goes h b x ts g answer h' at s w
later_goes h b x command g turned h' at s w low = elim w [ ]

pub row_goes : (h : SeenPartition) (b : ℕ) (x : Node) (snapshot : Option StartSnapshot) (command : Command) (turned : Turned) (h' : SeenPartition) → slice_get h.nodes b ≡ Some x → NodeSound x
    → Row h b x snapshot command turned h' → may_raise snapshot command turned ≡ false → Goes h b x h'
row_goes h b x None command turned h' at s w low = first_goes h b x command turned h' at s w
row_goes h b x (Some g) command turned h' at s w low = later_goes h b x command g turned h' at s w low
