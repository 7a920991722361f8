-- Turns of commands on a broker's own log, of stops and of the clock: no local start rises.
use Rattle.std.proofs.Common.{◌≡◌, ap, refl, ℕ, ℤ, List, [], ◌∷◌, Some, slice_get, true, arith}
use Rattle.log_terms.specs.Log.{end_of}
use Rattle.log_terms.proofs.Lists.{prefix_self}
use Rattle.record_batch.specs.Stamp.{stamped}
use Rattle.plain_log.specs.declared.answer.Answer.{Answer}
use Rattle.plain_log.specs.declared.answer.Answer.TheVariants.{Ok, OkAt, OkSpan, Down, NotLeader, Refused, LastOffset, TooManySegments, EmptySegment, DiskFault, OutOfRange, Empty, Run, IsUp, LastIncarnation, Up, MetaFault}
use Rattle.laws_partition.specs.declared.start_snapshot.Turned.{Turned}
use Rattle.laws_partition.specs.declared.start_snapshot.Turned.TheVariants.{Answers, Begins}
use Rattle.laws_partition.specs.Seen.{Back, Node, SeenPartition}
use Rattle.laws_partition.specs.Partition.{back_of, broken, stopped, put_node}
use Rattle.laws_partition.specs.Log.{with_batch}
use Rattle.laws_partition.specs.RowsOfLog.{AppendRow, RawRow, FlushRow, RollRow, TrimRow, FetchRow}
use Rattle.laws_partition.specs.Rows.{opened, StopRow, UpRow, ClockRow, SwitchRow}
use Rattle.laws_partition.specs.Sound.{NodeSound}
use Rattle.laws_tier_turns.proofs.Nodes.{Goes, goes_on, node_stops, node_breaks, node_opens, nodes_stay, stays, puts}

-- a write that failed, after which what is flushed comes back
breaks : (h : SeenPartition) (b : ℕ) (x : Node) (h' : SeenPartition) → NodeSound x → x.up ≡ true → h' ≡ put_node h b (broken x (back_of x)) → Goes h b x h'
breaks h b x h' s up same = puts h b x (broken x (back_of x)) h' (node_breaks x (back_of x) s up (omega arith)) same

pub append_goes : (h : SeenPartition) (b : ℕ) (x : Node) (batch : List ℕ) (answer : Answer) (h' : SeenPartition) → slice_get h.nodes b ≡ Some x → NodeSound x → AppendRow h b x batch answer h' → Goes h b x h'
append_goes h b x batch Down h' at s w = stays h b x h' at s w.1
append_goes h b x batch NotLeader h' at s w = stays h b x h' at s w.2
append_goes h b x batch LastOffset h' at s w = stays h b x h' at s w.3
append_goes h b x batch TooManySegments h' at s w = stays h b x h' at s w.3
append_goes h b x batch DiskFault h' at s w = breaks h b x h' s w.0 w.3
append_goes h b x batch (OkSpan base last e) h' at s w =
    let y : Node = record x { log = with_batch x.log (stamped batch base e) } in
    puts h b x y h' (goes_on x y s refl (stamped batch base e ∷ [], refl) refl (λ u. u)) w.5
append_goes h b x batch other h' at s w = elim w [ ]

pub raw_goes : (h : SeenPartition) (b : ℕ) (x : Node) (bytes : List ℕ) (answer : Answer) (h' : SeenPartition) → slice_get h.nodes b ≡ Some x → NodeSound x → RawRow h b x bytes answer h' → Goes h b x h'
raw_goes h b x bytes (Refused cause) h' at s w = stays h b x h' at s w.3
raw_goes h b x bytes LastOffset h' at s w = append_goes h b x bytes LastOffset h' at s w.1
raw_goes h b x bytes TooManySegments h' at s w = append_goes h b x bytes TooManySegments h' at s w.1
raw_goes h b x bytes DiskFault h' at s w = append_goes h b x bytes DiskFault h' at s w.1
raw_goes h b x bytes (OkSpan base last e) h' at s w = append_goes h b x bytes (OkSpan base last e) h' at s w.1
raw_goes h b x bytes answer h' at s w = append_goes h b x bytes answer h' at s w

pub flush_goes : (h : SeenPartition) (b : ℕ) (x : Node) (answer : Answer) (h' : SeenPartition) → slice_get h.nodes b ≡ Some x → NodeSound x → FlushRow h b x answer h' → Goes h b x h'
flush_goes h b x Down h' at s w = stays h b x h' at s w.1
flush_goes h b x DiskFault h' at s w =
    let back : Back = (end_of x.log.batches, x.log.line, x.local) in
    puts h b x (broken x back) h' (node_breaks x back s w.0 (omega arith)) w.1
flush_goes h b x (OkAt n) h' at s w =
    let y : Node = record x { flushed_end = n; saved = x.log.line } in
    puts h b x y h' (goes_on x y s refl (prefix_self x.log.batches) refl (λ u. u)) w.2
flush_goes h b x other h' at s w = elim w [ ]

pub roll_goes : (h : SeenPartition) (b : ℕ) (x : Node) (answer : Answer) (h' : SeenPartition) → slice_get h.nodes b ≡ Some x → NodeSound x → RollRow h b x answer h' → Goes h b x h'
roll_goes h b x Down h' at s w = stays h b x h' at s w.1
roll_goes h b x EmptySegment h' at s w = stays h b x h' at s w.1
roll_goes h b x TooManySegments h' at s w = stays h b x h' at s w.1
roll_goes h b x DiskFault h' at s w = breaks h b x h' s w.0 w.1
roll_goes h b x (OkAt n) h' at s w = stays h b x h' at s w.2
roll_goes h b x other h' at s w = elim w [ ]

pub stop_goes : (h : SeenPartition) (b : ℕ) (x : Node) (answer : Answer) (h' : SeenPartition) → slice_get h.nodes b ≡ Some x → NodeSound x → StopRow h b x answer h' → Goes h b x h'
stop_goes h b x Down h' at s w = stays h b x h' at s w.1
stop_goes h b x Ok h' at s w = puts h b x (stopped x) h' (node_stops x s) w.1
stop_goes h b x other h' at s w = elim w [ ]

pub up_goes : (h : SeenPartition) (b : ℕ) (x : Node) (answer : Answer) (h' : SeenPartition) → slice_get h.nodes b ≡ Some x → NodeSound x → UpRow h b x answer h' → Goes h b x h'
up_goes h b x IsUp h' at s w = stays h b x h' at s w.1
up_goes h b x DiskFault h' at s w = stays h b x h' at s w.1
up_goes h b x LastIncarnation h' at s w = stays h b x h' at s w.1
up_goes h b x (Up n) h' at s w = puts h b x (opened x w.1.0 w.1.1) h' (node_opens x w.1.0 w.1.1 s w.0 w.1.2 w.1.3) w.1.5
up_goes h b x other h' at s w = elim w [ ]

pub clock_goes : (h : SeenPartition) (b : ℕ) (x : Node) (ms : ℤ) (answer : Answer) (h' : SeenPartition) → slice_get h.nodes b ≡ Some x → NodeSound x → ClockRow h ms answer h' → Goes h b x h'
clock_goes h b x ms Ok h' at s w = nodes_stay h b x h' at s (ap (λ (k : SeenPartition). k.nodes) w)
clock_goes h b x ms other h' at s w = elim w [ ]

pub switch_goes : (h : SeenPartition) (b : ℕ) (x : Node) (answer : Answer) (h' : SeenPartition) → slice_get h.nodes b ≡ Some x → NodeSound x → SwitchRow h answer h' → Goes h b x h'
switch_goes h b x Ok h' at s w = stays h b x h' at s w
switch_goes h b x other h' at s w = elim w [ ]

pub fetch_goes : (h : SeenPartition) (b : ℕ) (x : Node) (offset limit : ℕ) (answer : Answer) (h' : SeenPartition) → slice_get h.nodes b ≡ Some x → NodeSound x → FetchRow h x offset limit answer h' → Goes h b x h'
fetch_goes h b x offset limit Down h' at s w = stays h b x h' at s w.1
fetch_goes h b x offset limit NotLeader h' at s w = stays h b x h' at s w.2
fetch_goes h b x offset limit (OutOfRange start end) h' at s w = stays h b x h' at s w.5
fetch_goes h b x offset limit Empty h' at s w = stays h b x h' at s w.4
fetch_goes h b x offset limit DiskFault h' at s w = stays h b x h' at s w.4
fetch_goes h b x offset limit (Run tier size stop bytes) h' at s w = stays h b x h' at s w.6
fetch_goes h b x offset limit other h' at s w = elim w [ ]

pub trim_goes : (h : SeenPartition) (b : ℕ) (x : Node) (turned : Turned) (h' : SeenPartition) → slice_get h.nodes b ≡ Some x → NodeSound x → TrimRow h x turned h' → Goes h b x h'
trim_goes h b x (Answers Down) h' at s w = stays h b x h' at s w.1
trim_goes h b x (Answers MetaFault) h' at s w = stays h b x h' at s w.1
trim_goes h b x (Begins g) h' at s w = stays h b x h' at s w.2
trim_goes h b x other h' at s w = elim w [ ]
