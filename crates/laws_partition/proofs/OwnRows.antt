-- The rows of a broker's own log, and of its stops, are the plain log's.
use Rattle.std.proofs.Common.{◌≡◌, ◌⊎◌, inl, inr, ◌∙◌, sym, ap, subst, refl, ℕ, suc, ◌+◌, ◌-◌, ◌<◌, ◌≤◌, ◌==◌, nat_lt, List, [], ◌∷◌, ◌++◌, length, take, slice_get, slice_set, Some, None, Option, Result, Ok as Done, Err, IsOk, Bool, true, false, not, ◌&&◌, arith, append-nil, length-append}
use Rattle.std.specs.Prelude.{nat_le, is_some, option_map}
use Rattle.std.proofs.lemmas.Slice.Eq.{bytes_eq-Decides}
use Rattle.std.proofs.lemmas.List.Elements.{All-from_recursion, recursion_from_All}
use Rattle.epoch_line.proofs.Parts.{filter-all}
use Rattle.tier_base.specs.declared.plain.Stop.{Stop}
use Rattle.tier_base.specs.declared.plain.Stop.TheVariants.{Mark, Piece, Limit}
use Rattle.log_terms.specs.Batch.{epoch_of, last_offset_delta_of}
use Rattle.log_terms.specs.Log.{EndsAt, end_of, joined, from_offset, up_to}
use Rattle.log_terms.proofs.Lists.{prefix_self, prefix_trans}
use Rattle.log_terms.proofs.Logs.{up_to_end, up_to_prefix, ends_below}
use Rattle.epoch_line.specs.Line.{last_entry, last_epoch, cut_end}
use Rattle.record_batch.specs.declared.refusal.BatchRefusal.{BatchRefusal}
use Rattle.record_batch.specs.declared.refusal.BatchRefusal.TheVariants.{Short, BadMagic, BadLength, BadCrc, Compressed, Transactional, Control, BadRecords}
use Rattle.record_batch.specs.Check.{Batch, checked}
use Rattle.record_batch.specs.Stamp.{stamped}
use Rattle.registry.specs.declared.registry.Replica.{Replica}
use Rattle.registry.specs.declared.registry.Registry.{Registry}
use Rattle.plain_log.specs.declared.answer.Answer.{Answer}
use Rattle.plain_log.specs.declared.answer.Answer.TheVariants.{Ok, OkAt, OkSpan, Down, NotLeader, Refused, LastOffset, TooManySegments, EmptySegment, DiskFault, OutOfRange, Empty, Run, IsUp, LastIncarnation, Up}
use Rattle.plain_log.specs.declared.command.Command.{Command}
use Rattle.plain_log.specs.declared.command.Command.TheVariants.{Raw, Flush, Roll, Stop as StopCommand, Up as UpCommand, Fetch}
use Rattle.plain_log.specs.declared.state.State.{State}
use Rattle.plain_log.specs.declared.state.Path.{Path}
use Rattle.plain_log.specs.declared.state.Broker.{Broker}
use Rattle.plain_log.specs.declared.state.Role.{Role}
use Rattle.plain_log.specs.declared.state.Role.TheVariants.{Idle, Leads, Joined}
use Rattle.plain_log.specs.State.{leads_in, path_of, longer, put_broker, breaks, followed, stopped as stopped_broker, leads, facts_of}
use Rattle.plain_log.specs.Causes.{same_cause}
use Rattle.plain_log.specs.Fetch.{fitting, run_of, stops_rightly, is_run}
use Rattle.plain_log.specs.RowsOfLog.{offset_limit, gained, append_row, may_open_at, opened as opened_broker}
use Rattle.plain_log.specs.Rows.{refusal_at, effect}
use Rattle.plain_log.specs.Safe.{HasOnPath, RoleSafe}
use Rattle.plain_log.proofs.AppendRow.{longer_wider, longer_other, longer_same}
use Rattle.laws_partition.specs.Seen.{Back, Node, SeenPartition}
use Rattle.laws_partition.specs.Partition.{broker_of, stopped}
use Rattle.laws_partition.specs.Log.{HasBytes, StopIs, with_batch}
use Rattle.laws_partition.specs.Central.{PartitionMatches, was_taken, WereElected}
use Rattle.laws_partition.specs.RowsOfLog.{end_with, AppendRow, RawRow, FlushRow, RollRow, IsInLog, GivesRun, FetchRow}
use Rattle.laws_partition.specs.Rows.{MayComeBack, opened, StopRow, UpRow}
use Rattle.laws_partition.specs.Sound.{IsBack, NodeSound}
use Rattle.laws_partition.proofs.Lines.{entered_same, cases_eq}
use Rattle.laws_partition.proofs.BoolTests.{and_true, when_true, eq_same, eq_differs, le_true, le_false, lt_true}
use Rattle.laws_partition.proofs.Parts.{joined_append}
use Rattle.laws_partition.proofs.NodeLaw.{none_back, node_appended, node_flushed, node_stopped, flush_back, may_back, node_opened}
use Rattle.laws_partition.proofs.SoundLaw.{placed_of, checked_long}
use Rattle.laws_partition.proofs.Standing.{Standing, Allowed, Puts, silent, put, get_put, broker_at, wider_self, keeps_self, line_taken, line_wide}
use Rattle.laws_partition.proofs.BreakRows.{IsTold, break_allowed, flushed_end_breaks}
use Rattle.plain_log.specs.Refusals.{down, not_leader, last_offset, refused, out_of_range, empty, first_of}
use Rattle.laws_partition.proofs.Refusing.{refuses, does, fails, skips, may_append}

-- a path that gains a batch is a path still, and no other is new
longer_keys : (ps : List Path) (e : ℕ) (v : List ℕ) (f : ℕ) → is_some (path_of (longer ps e v) f) ≡ true → is_some (path_of ps f) ≡ true
longer_keys ps e v f h = elim (cases_eq f e) [
  | inr differs ↦ subst (λ (o : Option (List (List ℕ))). is_some o ≡ true) (longer_other ps e v f differs) h
  | inl same ↦ go same (path_of ps f) refl
]
  where
    none : (ps : List Path) (e : ℕ) → path_of ps e ≡ None → path_of (longer ps e v) e ≡ None
    none [] e is = refl
    none (q ∷ ps) e is = by (q.epoch == e) refl (none ps e)
      where
        by : (t : Bool) → (q.epoch == e) ≡ t → (path_of ps e ≡ None → path_of (longer ps e v) e ≡ None) → path_of (longer (q ∷ ps) e v) e ≡ None
        by true t r = let k : Some q.log ≡ None = (rw t at is) in absurd cc
        by false t r = let k : path_of ps e ≡ None = (rw t at is) in rw (t, t) (r k)

    go : f ≡ e → (o : Option (List (List ℕ))) → path_of ps f ≡ o → is_some (path_of ps f) ≡ true
    go same (Some log) is = rw is refl
    go same None is =
        let gone : path_of (longer ps e v) f ≡ None = ap (path_of (longer ps e v)) same ∙ none ps e (ap (path_of ps) (sym same) ∙ is) in
        absurd (let no : false ≡ true = subst (λ (o : Option (List (List ℕ))). is_some o ≡ true) gone h in cc)

leads_in_of : (e : ℕ) (r : Role) → r ≡ Leads e → leads_in e r ≡ true
leads_in_of e r is = rw is (eq_same e e refl)

-- a leader follows nobody
leader_follows : (r : Role) (e f : ℕ) → r ≡ Leads e → followed r ≡ Some f → ⊥
leader_follows r e f is h = let none : ◌≡◌ {A = Option ℕ} None (Some f) = ap followed (sym is) ∙ h in absurd cc

leader_joined : (r : Role) (e f : ℕ) → r ≡ Leads e → r ≡ Joined f → ⊥
leader_joined r e f is h = let one : Leads e ≡ Joined f = sym is ∙ h in absurd cc

-- the path that a leader appends to
path_grows : (h : SeenPartition) (p : State) (x : Node) (e : ℕ) (placed : List ℕ) (start : ℕ) → last_entry x.log.line ≡ Some (h.registry.epoch, start) → last_epoch x.log.line ≡ Some e
    → RoleSafe p.paths p.registry.epoch x.role x.log.batches → x.role ≡ Leads e → HasOnPath (longer p.paths e placed) h.registry.epoch (x.log.batches ++ placed ∷ [])
path_grows h p x e placed start last leads safe role =
    let epoch : Some h.registry.epoch ≡ Some e = sym (ap (option_map (λ (k : ℕ × ℕ). k.0)) last) ∙ leads in
    let same : h.registry.epoch ≡ e = cc (epoch) in
    let path = (subst (λ (r : Role). RoleSafe p.paths p.registry.epoch r x.log.batches) role safe).1 in
    subst (λ (n : ℕ). HasOnPath (longer p.paths e placed) n (x.log.batches ++ placed ∷ [])) (sym same) (x.log.batches ++ placed ∷ [], longer_same p.paths e placed x.log.batches path, prefix_self (x.log.batches ++ placed ∷ []))

-- what is up to an offset begins the path too
pub cut_has : (ps : List Path) (e : ℕ) (log : List (List ℕ)) (n : ℕ) → HasOnPath ps e log → HasOnPath ps e (up_to n log)
cut_has ps e log n k = (k.0, k.1, prefix_trans (up_to n log) log k.0 (up_to_prefix n log) k.2)

-- append

append_puts : (h : SeenPartition) (p : State) (b : ℕ) (x : Node) (s : Replica) (batch : List ℕ) (base e : ℕ) → Standing h p b x s → 61 ≤ length batch → x.up ≡ true → x.role ≡ Leads e
    → end_with x batch ≤ offset_limit → base ≡ end_of x.log.batches
    → Puts h p (gained p b (broker_of x) e (stamped batch base e)) b x (record x { log = with_batch x.log (stamped batch base e) })
append_puts h p b x s batch base e st long up leads fits is =
    let placed = stamped batch base e in
    let l = st.lines.each b x st.at in
    let t = placed_of x batch base e long l.sound leads is fits in
    let n = node_appended x placed e l.sound leads t.base_is t.epoch_is t.small in
    let bx = broker_at h p b x st.partition_state st.at in
    let same : (with_batch x.log placed).line ≡ x.log.line = entered_same x.log.line (epoch_of placed) (end_of x.log.batches) e (l.sound.leads e leads) (sym t.epoch_is) in
    record {
      registry = refl;
      brokers = refl;
      actors = refl;
      paths = longer_wider p.paths e placed;
      broken = keeps_self p.broken;
      keys = λ other has. longer_keys p.paths e placed h.registry.epoch has;
      sound = n.0;
      paths_are = λ safe. line_taken (longer p.paths e placed) p.broken (with_batch x.log placed).line (x.log.batches ++ placed ∷ []) n.1
          (safe b (record (broker_of x) { log = x.log.batches ++ placed ∷ [] }) (get_put p.brokers b (broker_of x) _ bx));
      saved_are = λ safe. line_wide p.paths (longer p.paths e placed) p.broken p.broken x.saved (longer_wider p.paths e placed) (keeps_self p.broken) l.saved_are;
      back_are = λ safe back is. absurd (none_back x back l.sound up is);
      joined = λ f j. absurd (leader_joined x.role e f leads j);
      leader = λ it has.
          let k = st.lines.leader x (ap (λ (c : ℕ). slice_get h.nodes c) it ∙ st.at) (longer_keys p.paths e placed h.registry.epoch has) in
          (k.0, ap last_entry same ∙ k.1, k.2, k.3, k.4, path_grows h p x e placed k.0 k.1 (l.sound.leads e leads) (st.safe.brokers b (broker_of x) bx).role leads);
      followers = λ f. absurd (leader_follows x.role e h.registry.epoch leads f);
      steady = λ it. omega arith;
    }

pub append_allowed : (h : SeenPartition) (p : State) (b : ℕ) (x : Node) (s : Replica) (command : Command) (batch : List ℕ) (answer : Answer) (h' : SeenPartition) → Standing h p b x s
    → 61 ≤ length batch → refusal_at p b (broker_of x) None command ≡ first_of (down (facts_of b (broker_of x)) ∷ not_leader (facts_of b (broker_of x)) ∷ last_offset (facts_of b (broker_of x)) (last_offset_delta_of batch) ∷ [])
    → ((a : Answer) → effect p b (broker_of x) s None command a ≡ append_row p b (broker_of x) batch a) → AppendRow h b x batch answer h'
    → Allowed p b x s None command answer h'
append_allowed h p b x s command batch Down h' st long tests to w =
    silent h p b x s None command Down h' st (refuses p b (broker_of x) s None command Down Down (tests ∙ rw w.0 refl) refl) w.1
append_allowed h p b x s command batch NotLeader h' st long tests to w =
    silent h p b x s None command NotLeader h' st (refuses p b (broker_of x) s None command NotLeader NotLeader (tests ∙ rw (w.0, w.1) refl) refl) w.2
append_allowed h p b x s command batch LastOffset h' st long tests to w =
    silent h p b x s None command LastOffset h' st
    (refuses p b (broker_of x) s None command LastOffset LastOffset (tests ∙ rw (w.0, w.1, lt_true offset_limit (end_with x batch) w.2) refl) refl) w.3
append_allowed h p b x s command batch TooManySegments h' st long tests to w =
    silent h p b x s None command TooManySegments h' st (does p b (broker_of x) s None command TooManySegments p (tests ∙ may_append b x batch w.0 w.1 w.2) (to TooManySegments)) w.3
append_allowed h p b x s command batch DiskFault h' st long tests to w =
    flushed_end_breaks h p b x s None command DiskFault h' st
    (does p b (broker_of x) s None command DiskFault (breaks p b (broker_of x)) (tests ∙ may_append b x batch w.0 w.1 w.2) (to DiskFault)) w.3
append_allowed h p b x s command batch (OkSpan base last e) h' st long tests to w =
    let q = gained p b (broker_of x) e (stamped batch base e) in
    let lead : leads x.role ≡ true = rw w.1 refl in
    put h p q b x (record x { log = with_batch x.log (stamped batch base e) }) s None command (OkSpan base last e) h' st
    (does p b (broker_of x) s None command (OkSpan base last e) q (tests ∙ may_append b x batch w.0 lead w.2)
    (to (OkSpan base last e) ∙ when_true _ q (and_true _ _ (and_true _ _ (leads_in_of e x.role w.1) (eq_same _ _ w.3)) (eq_same _ _ w.4))))
    (append_puts h p b x s batch base e st long w.0 w.1 w.2 w.3) w.5
append_allowed h p b x s command batch other h' st long tests to w = elim w [ ]

-- raw

cause_same : (cause : BatchRefusal) → same_cause cause cause ≡ true
cause_same Short = refl
cause_same BadMagic = refl
cause_same BadLength = refl
cause_same (BadCrc kept computed) = and_true _ _ (eq_same kept kept refl) (eq_same computed computed refl)
cause_same Compressed = refl
cause_same Transactional = refl
cause_same Control = refl
cause_same (BadRecords at) = eq_same at at refl

-- bytes that are a batch are tested as it is
read_tests : (p : State) (b : ℕ) (y : Broker) (bytes : List ℕ) → IsOk (checked bytes)
    → refusal_at p b y None (Raw bytes) ≡ first_of (down (facts_of b y) ∷ not_leader (facts_of b y) ∷ last_offset (facts_of b y) (last_offset_delta_of bytes) ∷ [])
read_tests p b y bytes ok =
    go (down (facts_of b y)) (not_leader (facts_of b y)) (refused (checked bytes)) (last_offset (facts_of b y) (last_offset_delta_of bytes)) (none (checked bytes) ok)
  where
    none : (reading : Result Batch BatchRefusal) → IsOk reading → refused reading ≡ None
    none (Done batch) ok = refl
    none (Err why) ok = absurd cc

    go : (one two three four : Option Answer) → three ≡ None → first_of (one ∷ two ∷ three ∷ four ∷ []) ≡ first_of (one ∷ two ∷ four ∷ [])
    go (Some why) two three four is = refl
    go None (Some why) three four is = refl
    go None None three four is = rw is refl

raw_appends : (h : SeenPartition) (p : State) (b : ℕ) (x : Node) (s : Replica) (bytes : List ℕ) (answer : Answer) (h' : SeenPartition) → Standing h p b x s
    → IsOk (checked bytes) × AppendRow h b x bytes answer h' → Allowed p b x s None (Raw bytes) answer h'
raw_appends h p b x s bytes answer h' st w =
    append_allowed h p b x s (Raw bytes) bytes answer h' st (checked_long bytes w.0) (read_tests p b (broker_of x) bytes w.0) (λ a. refl) w.1

pub raw_allowed : (h : SeenPartition) (p : State) (b : ℕ) (x : Node) (s : Replica) (bytes : List ℕ) (answer : Answer) (h' : SeenPartition) → Standing h p b x s
    → RawRow h b x bytes answer h' → Allowed p b x s None (Raw bytes) answer h'
raw_allowed h p b x s bytes Down h' st w =
    silent h p b x s None (Raw bytes) Down h' st (refuses p b (broker_of x) s None (Raw bytes) Down Down (rw w.0 refl) refl) w.1
raw_allowed h p b x s bytes NotLeader h' st w =
    silent h p b x s None (Raw bytes) NotLeader h' st (refuses p b (broker_of x) s None (Raw bytes) NotLeader NotLeader (rw (w.0, w.1) refl) refl) w.2
raw_allowed h p b x s bytes (Refused cause) h' st w =
    silent h p b x s None (Raw bytes) (Refused cause) h' st
    (refuses p b (broker_of x) s None (Raw bytes) (Refused cause) (Refused cause) (rw (w.0, w.1, w.2) refl) (cause_same cause)) w.3
raw_allowed h p b x s bytes LastOffset h' st w = raw_appends h p b x s bytes LastOffset h' st w
raw_allowed h p b x s bytes TooManySegments h' st w = raw_appends h p b x s bytes TooManySegments h' st w
raw_allowed h p b x s bytes DiskFault h' st w = raw_appends h p b x s bytes DiskFault h' st w
raw_allowed h p b x s bytes (OkSpan base last e) h' st w = raw_appends h p b x s bytes (OkSpan base last e) h' st w
raw_allowed h p b x s bytes other h' st w = elim w [ ]

-- flush

flush_puts : (h : SeenPartition) (p : State) (b : ℕ) (x : Node) (s : Replica) (n : ℕ) → Standing h p b x s → x.up ≡ true → n ≡ end_of x.log.batches
    → Puts h p (put_broker p b (record (broker_of x) { flushed_end = n })) b x (record x { flushed_end = n; saved = x.log.line })
flush_puts h p b x s n st up is =
    let l = st.lines.each b x st.at in
    record {
      registry = refl;
      brokers = refl;
      actors = refl;
      paths = wider_self p.paths;
      broken = keeps_self p.broken;
      keys = λ other has. has;
      sound = node_flushed x n l.sound up is;
      paths_are = λ safe. l.paths_are;
      saved_are = λ safe. l.paths_are;
      back_are = λ safe. l.back_are;
      joined = l.joined;
      leader = λ it has.
          let k = st.lines.leader x (ap (λ (c : ℕ). slice_get h.nodes c) it ∙ st.at) has in
          (k.0, k.1, k.1, omega (arith, k.3, is, ends_below x.flushed_end x.log.batches l.sound.log.consecutive l.sound.flushed_end), k.4, k.5);
      followers = λ f. st.lines.followers b x st.at f;
      steady = λ it. (let high = ends_below x.flushed_end x.log.batches l.sound.log.consecutive l.sound.flushed_end in omega (arith, is, high));
    }

-- a flush that fails may have left all of the log flushed
flush_told : (h : SeenPartition) (p : State) (b : ℕ) (x : Node) (s : Replica) → Standing h p b x s → IsTold p x (end_of x.log.batches, x.log.line, x.local)
flush_told h p b x s st =
    let l = st.lines.each b x st.at in
    record { is = flush_back x l.sound; taken = l.paths_are; last = λ entry low one two. one }

pub flush_allowed : (h : SeenPartition) (p : State) (b : ℕ) (x : Node) (s : Replica) (answer : Answer) (h' : SeenPartition) → Standing h p b x s → FlushRow h b x answer h' → Allowed p b x s None Flush answer h'
flush_allowed h p b x s Down h' st w = silent h p b x s None Flush Down h' st (rw w.0 refl) w.1
flush_allowed h p b x s DiskFault h' st w =
    break_allowed h p b x s (end_of x.log.batches, x.log.line, x.local) None Flush DiskFault h' st (flush_told h p b x s st) (rw w.0 refl) w.1
flush_allowed h p b x s (OkAt n) h' st w =
    put h p (put_broker p b (record (broker_of x) { flushed_end = n })) b x (record x { flushed_end = n; saved = x.log.line }) s None Flush (OkAt n) h' st
    (does p b (broker_of x) s None Flush (OkAt n) (put_broker p b (record (broker_of x) { flushed_end = n })) (rw w.0 refl)
    (when_true _ (put_broker p b (record (broker_of x) { flushed_end = n })) (eq_same _ _ w.1))) (flush_puts h p b x s n st w.0 w.1) w.2
flush_allowed h p b x s other h' st w = elim w [ ]

-- roll

pub roll_allowed : (h : SeenPartition) (p : State) (b : ℕ) (x : Node) (s : Replica) (answer : Answer) (h' : SeenPartition) → Standing h p b x s → RollRow h b x answer h' → Allowed p b x s None Roll answer h'
roll_allowed h p b x s Down h' st w = silent h p b x s None Roll Down h' st (rw w.0 refl) w.1
roll_allowed h p b x s EmptySegment h' st w = silent h p b x s None Roll EmptySegment h' st (rw w.0 refl) w.1
roll_allowed h p b x s TooManySegments h' st w = silent h p b x s None Roll TooManySegments h' st (rw w.0 refl) w.1
roll_allowed h p b x s DiskFault h' st w = flushed_end_breaks h p b x s None Roll DiskFault h' st (rw w.0 refl) w.1
roll_allowed h p b x s (OkAt n) h' st w = silent h p b x s None Roll (OkAt n) h' st (rw w.0 (when_true _ p (eq_same _ _ w.1))) w.2
roll_allowed h p b x s other h' st w = elim w [ ]

-- stop

stop_puts : (h : SeenPartition) (p : State) (b : ℕ) (x : Node) (s : Replica) → Standing h p b x s → Puts h p (put_broker p b (stopped_broker (broker_of x))) b x (stopped x)
stop_puts h p b x s st =
    let l = st.lines.each b x st.at in
    record {
      registry = refl;
      brokers = refl;
      actors = refl;
      paths = wider_self p.paths;
      broken = keeps_self p.broken;
      keys = λ other has. has;
      sound = node_stopped x l.sound;
      paths_are = λ safe. l.paths_are;
      saved_are = λ safe. l.saved_are;
      back_are = λ safe. l.back_are;
      joined = λ e j. absurd cc;
      leader = λ it has. st.lines.leader x (ap (λ (c : ℕ). slice_get h.nodes c) it ∙ st.at) has;
      followers = λ f. absurd cc;
      steady = λ it. omega arith;
    }

pub stop_allowed : (h : SeenPartition) (p : State) (b : ℕ) (x : Node) (s : Replica) (answer : Answer) (h' : SeenPartition) → Standing h p b x s → StopRow h b x answer h' → Allowed p b x s None StopCommand answer h'
stop_allowed h p b x s Down h' st w = silent h p b x s None StopCommand Down h' st (rw w.0 refl) w.1
stop_allowed h p b x s Ok h' st w =
    put h p (put_broker p b (stopped_broker (broker_of x))) b x (stopped x) s None StopCommand Ok h' st (rw w.0 refl) (stop_puts h p b x s st) w.1
stop_allowed h p b x s other h' st w = elim w [ ]

-- up

pub filter_taken : (ps : List Path) (bs : List ℕ) (line : List (ℕ × ℕ)) (end : ℕ) → WereElected ps bs line → WereElected ps bs (cut_end line end)
filter_taken ps bs line end h =
    All-from_recursion _ (cut_end line end) (
    filter-all (λ (entry : ℕ × ℕ). nat_lt entry.1 end) (λ (entry : ℕ × ℕ). was_taken ps bs entry.0 ≡ true) (λ (entry : ℕ × ℕ). was_taken ps bs entry.0 ≡ true)
    (λ entry t a. a) line (recursion_from_All _ line h)
    )

-- the lead of each epoch of the leader epochs that comes back was taken
back_taken : (h : SeenPartition) (p : State) (b : ℕ) (x : Node) (s : Replica) (back : Back) → Standing h p b x s → MayComeBack x back → WereElected p.paths p.broken back.1
back_taken h p b x s back st (inl is) = subst (λ (k : Back). WereElected p.paths p.broken k.1) (sym is) (st.lines.each b x st.at).saved_are
back_taken h p b x s back st (inr is) = (st.lines.each b x st.at).back_are back is

-- and a leader's ends with its epoch
back_last : (x : Node) (back : Back) (entry : ℕ × ℕ) → MayComeBack x back → last_entry x.saved ≡ Some entry
    → ((back : Back) → x.loose ≡ Some back → last_entry back.1 ≡ Some entry) → last_entry back.1 ≡ Some entry
back_last x back entry (inl is) one other = subst (λ (k : Back). last_entry k.1 ≡ Some entry) (sym is) one
back_last x back entry (inr is) one other = other back is

-- the log may end there
may_open : (x : Node) (back : Back) (n : ℕ) → NodeSound x → MayComeBack x back → n ≡ back.0 → may_open_at (broker_of x) n ≡ true
may_open x back n s may is = go x.loose refl may
  where
    k : IsBack x back
    k = may_back x back s may

    go : (o : Option Back) → x.loose ≡ o → MayComeBack x back → may_open_at (broker_of x) n ≡ true
    go None none (inl same) = rw none (eq_same n x.flushed_end (is ∙ ap (λ (b : Back). b.0) same))
    go None none (inr some) = absurd (let no : ◌≡◌ {A = Option Back} None (Some back) = sym none ∙ some in cc)
    go (Some other) some _ =
        let ends : EndsAt n x.log.batches = subst (λ (m : ℕ). EndsAt m x.log.batches) (sym is) k.ends in
        let at = up_to_end n x.log.batches s.log.consecutive ends in
        let low = ends_below n x.log.batches s.log.consecutive ends in
        rw some (and_true _ _ (and_true _ _ (eq_same _ _ at) (le_true x.flushed_end n (omega (arith, is, k.above)))) (le_true n (end_of x.log.batches) low))

up_puts : (h : SeenPartition) (p : State) (b : ℕ) (x : Node) (s : Replica) (back : Back) (i n : ℕ) → Standing h p b x s → x.up ≡ false → MayComeBack x back
    → n ≡ end_of (up_to back.0 x.log.batches) → n ≡ back.0 → Puts h p (put_broker p b (opened_broker (broker_of x) n)) b x (opened x back i)
up_puts h p b x s back i n st off may is at =
    let l = st.lines.each b x st.at in
    let above = (may_back x back l.sound may).above in
    let idle = (l.sound.down off).0 in
    let taken = back_taken h p b x s back st may in
    record {
      registry = refl;
      brokers = ap (λ (y : Broker). slice_set p.brokers b y) (ap (λ (m : ℕ). opened_broker (broker_of x) m) at
          ∙ ap (λ (m : ℕ). record (opened_broker (broker_of x) back.0) { flushed_end = m }) (sym at ∙ is));
      actors = refl;
      paths = wider_self p.paths;
      broken = keeps_self p.broken;
      keys = λ other has. has;
      sound = node_opened x back i l.sound off may;
      paths_are = λ safe. taken;
      saved_are = λ safe. taken;
      back_are = λ safe other b. absurd cc;
      joined = λ e j. absurd (let no : Idle ≡ Joined e = sym idle ∙ j in cc);
      leader = λ it has.
          let k = st.lines.leader x (ap (λ (c : ℕ). slice_get h.nodes c) it ∙ st.at) has in
          let last = back_last x back (h.registry.epoch, k.0) may k.2 k.4 in
          (k.0, last, last, omega (arith, k.3, above, is, at), λ other b. absurd cc, cut_has p.paths h.registry.epoch x.log.batches back.0 k.5);
      followers = λ f. absurd (let no : ◌≡◌ {A = Option ℕ} None (Some h.registry.epoch) = ap followed (sym idle) ∙ f in cc);
      steady = λ it. omega (arith, above, is, at);
    }

pub up_allowed : (h : SeenPartition) (p : State) (b : ℕ) (x : Node) (s : Replica) (answer : Answer) (h' : SeenPartition) → Standing h p b x s → UpRow h b x answer h' → Allowed p b x s None UpCommand answer h'
up_allowed h p b x s IsUp h' st w = silent h p b x s None UpCommand IsUp h' st (rw w.0 refl) w.1
up_allowed h p b x s DiskFault h' st w = silent h p b x s None UpCommand DiskFault h' st (rw w.0 refl) w.1
up_allowed h p b x s LastIncarnation h' st w = silent h p b x s None UpCommand LastIncarnation h' st (rw w.0 refl) w.1
up_allowed h p b x s (Up n) h' st w =
    let sound = (st.lines.each b x st.at).sound in
    let back = w.1.0 in
    let i = w.1.1 in
    let k = may_back x back sound w.1.2 in
    let at : n ≡ back.0 = w.1.4 ∙ up_to_end back.0 x.log.batches sound.log.consecutive k.ends in
    put h p (put_broker p b (opened_broker (broker_of x) n)) b x (opened x back i) s None UpCommand (Up n) h' st
    (rw w.0 (when_true _ (put_broker p b (opened_broker (broker_of x) n)) (may_open x back n sound w.1.2 at)))
    (up_puts h p b x s back i n st w.0 w.1.2 w.1.4 at) w.1.5
up_allowed h p b x s other h' st w = elim w [ ]

-- fetch

-- an offset that the log doesn't have, and one that it has
pub not_in_range : (p : State) (b : ℕ) (x : Node) (offset start end : ℕ) → x.up ≡ true → start ≡ p.registry.start → end ≡ end_of x.log.batches → (offset < start) ⊎ (end < offset)
    → out_of_range p.registry (facts_of b (broker_of x)) offset ≡ Some (OutOfRange p.registry.start (end_of x.log.batches))
not_in_range p b x offset start end up is at (inl lt) = rw (up, le_false p.registry.start offset (omega (arith, is, lt))) refl
not_in_range p b x offset start end up is at (inr lt) = rw (up, le_false offset (end_of x.log.batches) (omega (arith, at, lt)), and_no (nat_le p.registry.start offset)) refl
  where
    and_no : (t : Bool) → t && false ≡ false
    and_no true = refl
    and_no false = refl

pub in_range_of : (h : SeenPartition) (p : State) (b : ℕ) (x : Node) (offset : ℕ) → PartitionMatches h p → x.up ≡ true → IsInLog h x offset
    → out_of_range p.registry (facts_of b (broker_of x)) offset ≡ None
in_range_of h p b x offset st up w =
    let start : p.registry.start ≡ h.registry.start = ap (λ (k : Registry). k.start) st.registry in
    rw (up, le_true p.registry.start offset (omega (arith, start, w.0)), le_true offset (end_of x.log.batches) w.1) refl

-- the batches whose sizes add to a run's are the run
fitting_run : (run rest : List (List ℕ)) → HasBytes rest → fitting (length (joined run)) (run ++ rest) ≡ run
fitting_run [] [] n = refl
fitting_run [] (batch ∷ rest) n = rw (le_false (length batch) 0 n) refl
fitting_run (batch ∷ run) rest n =
    let size : length (batch ++ joined run) ≡ length batch + length (joined run) = length-append batch (joined run) in
    let left : length (batch ++ joined run) - length batch ≡ length (joined run) = omega (arith, size) in
    rw (le_true (length batch) (length (batch ++ joined run)) (omega (arith, size)), left) (ap (λ (t : List (List ℕ)). batch ∷ t) (fitting_run run rest n))

take_one_more : (run : List (List ℕ)) (batch : List ℕ) (rest : List (List ℕ)) → take (length run + 1) (run ++ batch ∷ rest) ≡ run ++ batch ∷ []
take_one_more run batch rest = ap (λ (n : ℕ). take n (run ++ batch ∷ rest)) more ∙ go run
  where
    more : length run + 1 ≡ suc (length run)
    more = omega arith

    go : (run : List (List ℕ)) → take (suc (length run)) (run ++ batch ∷ rest) ≡ run ++ batch ∷ []
    go [] = refl
    go (first ∷ run) = ap (λ (t : List (List ℕ)). first ∷ t) (go run)

stop_allowed_for : (x : Node) (offset limit size : ℕ) (stop : Stop) (run rest : List (List ℕ)) → run_of (broker_of x) offset size ≡ run
    → from_offset offset x.log.batches ≡ run ++ rest → StopIs stop run rest limit x.known_high_watermark → stops_rightly (broker_of x) offset limit size stop ≡ true
stop_allowed_for x offset limit size Mark run rest is parts w = rw is (eq_same _ _ w)
stop_allowed_for x offset limit size Piece run rest is parts w = rw (is, eq_differs (end_of run) x.known_high_watermark w) refl
stop_allowed_for x offset limit size Limit run [] is parts w = elim w.1 [ ]
stop_allowed_for x offset limit size Limit run (batch ∷ rest) is parts w =
    let total : length (joined (run ++ batch ∷ [])) ≡ length (joined run) + length batch =
    ap length (joined_append run (batch ∷ [])) ∙ (length-append (joined run) (batch ++ []) ∙ ap (λ (t : List ℕ). length (joined run) + length t) (append-nil batch)) in
    rw (is, parts, take_one_more run batch rest) (and_true (not (end_of run == x.known_high_watermark)) (nat_lt limit (length (joined (run ++ batch ∷ [])))) (rw (eq_differs (end_of run) x.known_high_watermark w.0) refl)
    (lt_true limit (length (joined (run ++ batch ∷ []))) (omega (arith, total, w.1))))

pub run_allowed : (x : Node) (offset limit size : ℕ) (stop : Stop) (bytes : List ℕ) → GivesRun x offset limit size stop bytes → is_run (broker_of x) offset limit size stop bytes ≡ true
run_allowed x offset limit size stop bytes w =
    let run = w.is in
    let count : size ≡ length (joined w.run) = w.size_is ∙ ap length w.spelled in
    let is : run_of (broker_of x) offset size ≡ w.run = rw (count, run.parts) (fitting_run w.run run.rest run.next) in
    and_true _ _ (and_true _ _ (and_true _ _ (and_true _ _ (eq_same _ _ w.size_is) (rw is ((bytes_eq-Decides (joined w.run) bytes).1 (sym w.spelled)))) (rw is run.within))
    (rw is (le_true (end_of w.run) x.known_high_watermark run.below))) (stop_allowed_for x offset limit size stop w.run run.rest is run.parts run.stop_is)

-- a fetch isn't refused
pub may_fetch : (h : SeenPartition) (p : State) (b : ℕ) (x : Node) (offset limit : ℕ) → PartitionMatches h p → x.up ≡ true → leads x.role ≡ true → IsInLog h x offset → offset < x.known_high_watermark
    → refusal_at p b (broker_of x) None (Fetch offset limit) ≡ None
may_fetch h p b x offset limit st up lead w lt =
    let f = facts_of b (broker_of x) in
    let last : empty f offset ≡ None = rw (le_false x.known_high_watermark offset lt) refl in
    skips (down f) (not_leader f ∷ out_of_range p.registry f offset ∷ empty f offset ∷ []) None (rw up refl)
    (skips (not_leader f) (out_of_range p.registry f offset ∷ empty f offset ∷ []) None (rw lead refl)
    (skips (out_of_range p.registry f offset) (empty f offset ∷ []) None (in_range_of h p b x offset st up w) (skips (empty f offset) [] None last refl)))

pub fetch_allowed : (h : SeenPartition) (p : State) (b : ℕ) (x : Node) (s : Replica) (offset limit : ℕ) (answer : Answer) (h' : SeenPartition) → Standing h p b x s
    → FetchRow h x offset limit answer h' → Allowed p b x s None (Fetch offset limit) answer h'
fetch_allowed h p b x s offset limit Down h' st w = silent h p b x s None (Fetch offset limit) Down h' st (rw w.0 refl) w.1
fetch_allowed h p b x s offset limit NotLeader h' st w = silent h p b x s None (Fetch offset limit) NotLeader h' st (rw (w.0, w.1) refl) w.2
fetch_allowed h p b x s offset limit (OutOfRange start end) h' st w =
    let f = facts_of b (broker_of x) in
    let same : start ≡ p.registry.start = w.3 ∙ ap (λ (k : Registry). k.start) (sym st.partition_state.registry) in
    let why = OutOfRange p.registry.start (end_of x.log.batches) in
    silent h p b x s None (Fetch offset limit) (OutOfRange start end) h' st
    (refuses p b (broker_of x) s None (Fetch offset limit) (OutOfRange start end) why
    (skips (down f) (not_leader f ∷ out_of_range p.registry f offset ∷ empty f offset ∷ []) (Some why) (rw w.0 refl)
    (skips (not_leader f) (out_of_range p.registry f offset ∷ empty f offset ∷ []) (Some why) (rw w.1 refl)
    (fails (out_of_range p.registry f offset) (empty f offset ∷ []) why (not_in_range p b x offset start end w.0 same w.4 w.2))))
    (and_true _ _ (eq_same _ _ same) (eq_same _ _ w.4))) w.5
fetch_allowed h p b x s offset limit Empty h' st w =
    let f = facts_of b (broker_of x) in
    let last : empty f offset ≡ Some Empty = rw (le_true x.known_high_watermark offset w.3) refl in
    silent h p b x s None (Fetch offset limit) Empty h' st
    (refuses p b (broker_of x) s None (Fetch offset limit) Empty Empty
    (skips (down f) (not_leader f ∷ out_of_range p.registry f offset ∷ empty f offset ∷ []) (Some Empty) (rw w.0 refl)
    (skips (not_leader f) (out_of_range p.registry f offset ∷ empty f offset ∷ []) (Some Empty) (rw w.1 refl)
    (skips (out_of_range p.registry f offset) (empty f offset ∷ []) (Some Empty) (in_range_of h p b x offset st.partition_state w.0 w.2) (fails (empty f offset) [] Empty last)))) refl) w.4
fetch_allowed h p b x s offset limit DiskFault h' st w =
    silent h p b x s None (Fetch offset limit) DiskFault h' st
    (does p b (broker_of x) s None (Fetch offset limit) DiskFault p (may_fetch h p b x offset limit st.partition_state w.0 w.1 w.2.0 w.3) refl) w.4
fetch_allowed h p b x s offset limit (Run tier size stop bytes) h' st w =
    silent h p b x s None (Fetch offset limit) (Run tier size stop bytes) h' st
    (does p b (broker_of x) s None (Fetch offset limit) (Run tier size stop bytes) p (may_fetch h p b x offset limit st.partition_state w.0 w.1 w.2.0 w.3)
    (when_true _ p (run_allowed x offset limit size stop bytes w.5))) w.6
fetch_allowed h p b x s offset limit other h' st w = elim w [ ]
