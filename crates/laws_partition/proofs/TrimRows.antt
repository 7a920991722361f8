-- The rows of a trim, which drops the first segment of a local log, are the plain log's: it sees nothing of it.
use Rattle.std.proofs.Common.{◌≡◌, ◌∙◌, sym, ap, refl, ℕ, ◌+◌, ◌≤◌, slice_get, Some, None, true, arith}
use Rattle.log_terms.proofs.Lists.{set-same}
use Rattle.epoch_line.specs.Line.{last_entry}
use Rattle.registry.specs.declared.registry.Replica.{Replica}
use Rattle.plain_log.specs.declared.answer.Answer.{Answer}
use Rattle.plain_log.specs.declared.answer.Answer.TheVariants.{Down, Stopped, MetaFault, Kept, DiskFault, Dropped}
use Rattle.plain_log.specs.declared.command.Command.TheVariants.{Trim}
use Rattle.plain_log.specs.declared.command.Order.{Order}
use Rattle.plain_log.specs.declared.state.State.{State}
use Rattle.plain_log.specs.State.{breaks}
use Rattle.laws_partition.specs.declared.start_snapshot.StartSnapshot.{StartSnapshot}
use Rattle.laws_partition.specs.declared.start_snapshot.Turned.TheVariants.{Answers}
use Rattle.laws_partition.specs.Seen.{Node, SeenPartition}
use Rattle.laws_partition.specs.Partition.{broker_of, recorded_of, kept_line}
use Rattle.laws_partition.specs.RowsOfLog.{MayStartAt, TrimRow, TrimOnRow}
use Rattle.laws_partition.proofs.Refusing.{refuses, does, runs, halted}
use Rattle.laws_partition.proofs.Lines.{cut_whole}
use Rattle.laws_partition.proofs.NodeLaw.{none_back, trim_back, node_trimmed}
use Rattle.laws_partition.proofs.Standing.{Standing, Allowed, Puts, silent, put, broker_at, wider_self, keeps_self}
use Rattle.laws_partition.proofs.OwnRows.{filter_taken}
use Rattle.laws_partition.proofs.BreakRows.{IsTold, break_allowed}

-- the leader epochs that are kept ends as the log's where that entry is flushed
kept_last : (h : SeenPartition) (p : State) (b : ℕ) (x : Node) (s : Replica) (entry : ℕ × ℕ) → Standing h p b x s → last_entry x.log.line ≡ Some entry → entry.1 ≤ x.flushed_end → last_entry (kept_line x) ≡ Some entry
kept_last h p b x s entry st is le =
    let l = st.lines.each b x st.at in
    ap last_entry (cut_whole x.log.line entry (x.flushed_end + 1) l.sound.log.rises is (omega (arith, le))) ∙ is

trim_puts : (h : SeenPartition) (p : State) (b : ℕ) (x : Node) (s : Replica) (start : ℕ) → Standing h p b x s → x.up ≡ true → MayStartAt x start → Puts h p p b x (record x { local = start; saved = kept_line x })
trim_puts h p b x s start st up may =
    let l = st.lines.each b x st.at in
    record {
      registry = refl;
      brokers = sym (set-same p.brokers b (broker_of x) (broker_at h p b x st.partition_state st.at));
      actors = refl;
      paths = wider_self p.paths;
      broken = keeps_self p.broken;
      keys = λ other has. has;
      sound = node_trimmed x start l.sound up may;
      paths_are = λ safe. l.paths_are;
      saved_are = λ safe. filter_taken p.paths p.broken x.log.line (x.flushed_end + 1) l.paths_are;
      back_are = λ safe back is. absurd (none_back x back l.sound up is);
      joined = l.joined;
      leader = λ it has.
          let k = st.lines.leader x (ap (λ (c : ℕ). slice_get h.nodes c) it ∙ st.at) has in
          (k.0, k.1, kept_last h p b x s (h.registry.epoch, k.0) st k.1 k.3, k.3, k.4, k.5);
      followers = λ f. st.lines.followers b x st.at f;
      steady = λ it. omega arith;
    }

-- a trim that fails may have dropped the segment
trim_told : (h : SeenPartition) (p : State) (b : ℕ) (x : Node) (s : Replica) (start : ℕ) → Standing h p b x s → MayStartAt x start → IsTold p x (x.flushed_end, kept_line x, start)
trim_told h p b x s start st may =
    let l = st.lines.each b x st.at in
    record {
      is = trim_back x start l.sound may;
      taken = filter_taken p.paths p.broken x.log.line (x.flushed_end + 1) l.paths_are;
      last = λ entry low one two. kept_last h p b x s entry st one low;
    }

pub trim_allowed : (h : SeenPartition) (p : State) (b : ℕ) (x : Node) (s : Replica) (answer : Answer) (h' : SeenPartition) → Standing h p b x s → TrimRow h x (Answers answer) h' → Allowed p b x s None Trim answer h'
trim_allowed h p b x s Down h' st w = silent h p b x s None Trim Down h' st (rw w.0 refl) w.1
trim_allowed h p b x s MetaFault h' st w = silent h p b x s None Trim MetaFault h' st (rw w.0 refl) w.1
trim_allowed h p b x s other h' st w = elim w [ ]

pub trim_on_allowed : (h : SeenPartition) (p : State) (b : ℕ) (x : Node) (s : Replica) (order : Order) (g : StartSnapshot) (answer : Answer) (h' : SeenPartition) → Standing h p b x s
    → (g.stops ≡ x.stops → x.up ≡ true) → TrimOnRow h b x g answer h'
    → Allowed p b x s (Some (recorded_of order g)) Trim answer h'
trim_on_allowed h p b x s order g Stopped h' st up w =
    silent h p b x s (Some (recorded_of order g)) Trim Stopped h' st (refuses p b (broker_of x) s (Some (recorded_of order g)) Trim Stopped Stopped (halted b x order g w.0) refl) w.1
trim_on_allowed h p b x s order g Kept h' st up w =
    silent h p b x s (Some (recorded_of order g)) Trim Kept h' st (does p b (broker_of x) s (Some (recorded_of order g)) Trim Kept p (runs b x order g (up w.0) w.0) refl) w.1
trim_on_allowed h p b x s order g DiskFault h' st up w =
    break_allowed h p b x s (x.flushed_end, kept_line x, w.2.0) (Some (recorded_of order g)) Trim DiskFault h' st (trim_told h p b x s w.2.0 st w.2.1)
    (does p b (broker_of x) s (Some (recorded_of order g)) Trim DiskFault (breaks p b (broker_of x)) (runs b x order g w.1 w.0) refl) w.2.2
trim_on_allowed h p b x s order g (Dropped base last) h' st up w =
    put h p p b x (record x { local = last + 1; saved = kept_line x }) s (Some (recorded_of order g)) Trim (Dropped base last) h' st
    (does p b (broker_of x) s (Some (recorded_of order g)) Trim (Dropped base last) p (runs b x order g w.1 w.0) refl) (trim_puts h p b x s (last + 1) st w.1 w.3) w.4
trim_on_allowed h p b x s order g other h' st up w = elim w [ ]
