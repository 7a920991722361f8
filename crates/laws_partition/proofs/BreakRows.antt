-- A write that fails stops its broker, as the plain log's.
use Rattle.std.proofs.Common.{◌≡◌, ◌∙◌, ap, subst, refl, ℕ, ◌≤◌, slice_get, Some, Option, arith}
use Rattle.epoch_line.specs.Line.{last_entry}
use Rattle.registry.specs.declared.registry.Replica.{Replica}
use Rattle.plain_log.specs.declared.answer.Answer.{Answer}
use Rattle.plain_log.specs.declared.command.Command.{Command}
use Rattle.plain_log.specs.declared.state.PlainSnapshot.{PlainSnapshot}
use Rattle.plain_log.specs.declared.state.State.{State}
use Rattle.plain_log.specs.State.{breaks}
use Rattle.plain_log.specs.Rows.{row}
use Rattle.laws_partition.specs.Seen.{Back, Node, SeenPartition}
use Rattle.laws_partition.specs.Partition.{broker_of, put_node, back_of, broken}
use Rattle.laws_partition.specs.Central.{WereElected}
use Rattle.laws_partition.specs.Sound.{IsBack}
use Rattle.laws_partition.proofs.NodeLaw.{flushed_end_back, node_broken}
use Rattle.laws_partition.proofs.Standing.{Standing, Allowed, Puts, put, wider_self, keeps_self}

-- what a write that failed may have left: an end of the log, with a line whose leads were taken, and which ends as both
-- of the broker's lines do where these end alike, with an entry that is flushed
pub record IsTold (p : State) (x : Node) (back : Back) : Type 0 where
  pub is : IsBack x back
  pub taken : WereElected p.paths p.broken back.1
  pub last : (entry : ℕ × ℕ) → entry.1 ≤ x.flushed_end → last_entry x.log.line ≡ Some entry → last_entry x.saved ≡ Some entry → last_entry back.1 ≡ Some entry

pub break_puts : (h : SeenPartition) (p : State) (b : ℕ) (x : Node) (s : Replica) (back : Back) → Standing h p b x s → IsTold p x back
    → Puts h p (breaks p b (broker_of x)) b x (broken x back)
break_puts h p b x s back st t =
    let l = st.lines.each b x st.at in
    record {
      registry = refl;
      brokers = refl;
      actors = refl;
      paths = wider_self p.paths;
      broken = keeps_self p.broken;
      keys = λ other has. has;
      sound = node_broken x back l.sound t.is;
      paths_are = λ safe. l.paths_are;
      saved_are = λ safe. l.saved_are;
      back_are = λ safe other is. (let same : back ≡ other = cc (is) in subst (λ (k : Back). WereElected p.paths p.broken k.1) same t.taken);
      joined = λ e j. absurd cc;
      leader = λ it has.
          let k = st.lines.leader x (ap (λ (c : ℕ). slice_get h.nodes c) it ∙ st.at) has in (
            k.0,
            k.1,
            k.2,
            k.3,
            λ other is.
                let same : back ≡ other = cc (is) in
                subst (λ (n : Back). last_entry n.1 ≡ Some (h.registry.epoch, k.0)) same (t.last (h.registry.epoch, k.0) k.3 k.1 k.2),
            k.5,
          );
      followers = λ f. absurd cc;
      steady = λ it. omega arith;
    }

pub break_allowed : (h : SeenPartition) (p : State) (b : ℕ) (x : Node) (s : Replica) (back : Back) (recorded : Option PlainSnapshot) (command : Command) (answer : Answer) (h' : SeenPartition)
    → Standing h p b x s → IsTold p x back → row p b (broker_of x) s recorded command answer ≡ Some (breaks p b (broker_of x)) → h' ≡ put_node h b (broken x back)
    → Allowed p b x s recorded command answer h'
break_allowed h p b x s back recorded command answer h' st t is same =
    put h p (breaks p b (broker_of x)) b x (broken x back) s recorded command answer h' st is (break_puts h p b x s back st t) same

-- nothing but what is flushed
pub flushed_end_told : (h : SeenPartition) (p : State) (b : ℕ) (x : Node) (s : Replica) → Standing h p b x s → IsTold p x (back_of x)
flushed_end_told h p b x s st =
    let l = st.lines.each b x st.at in
    record { is = flushed_end_back x l.sound; taken = l.saved_are; last = λ entry low one two. two }

pub flushed_end_breaks : (h : SeenPartition) (p : State) (b : ℕ) (x : Node) (s : Replica) (recorded : Option PlainSnapshot) (command : Command) (answer : Answer) (h' : SeenPartition) → Standing h p b x s
    → row p b (broker_of x) s recorded command answer ≡ Some (breaks p b (broker_of x)) → h' ≡ put_node h b (broken x (back_of x)) → Allowed p b x s recorded command answer h'
flushed_end_breaks h p b x s recorded command answer h' st is same =
    break_allowed h p b x s (back_of x) recorded command answer h' st (flushed_end_told h p b x s st) is same
