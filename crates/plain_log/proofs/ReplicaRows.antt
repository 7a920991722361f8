-- The rows of the replicas in sync.
use Rattle.std.proofs.Common.{◌≡◌, ◌≢◌, ◌∙◌, ap, sym, subst, refl, inl, inr, ℕ, ◌==◌, [], ◌∷◌, Some, None, slice_get, true, false, arith}
use Rattle.std.proofs.lemmas.Bool.Decides.{nat_tests}
use Rattle.std.proofs.lemmas.Option.{none-some}
use Rattle.log_terms.proofs.Lists.{get-set, length-slice_set}
use Rattle.registry.specs.declared.registry.Replica.{Replica}
use Rattle.registry.specs.Registry.{put_replica, shrunk, expanded}
use Rattle.plain_log.specs.declared.answer.Answer.{Answer}
use Rattle.plain_log.specs.declared.answer.Answer.TheVariants.{Ok, IsLeader}
use Rattle.plain_log.specs.declared.command.Command.TheVariants.{Shrink, Expand}
use Rattle.plain_log.specs.declared.state.State.{State}
use Rattle.plain_log.specs.declared.state.Broker.{Broker}
use Rattle.plain_log.specs.State.{set_registry, facts_of}
use Rattle.plain_log.specs.Refusals.{down_broker, not_in_sync, is_leader, behind}
use Rattle.plain_log.specs.Rows.{refusal_at}
use Rattle.plain_log.specs.RowsOfReplicas.{shrink_row, expand_row}
use Rattle.plain_log.specs.Safe.{AckSafe, current, PlainSafe}
use Rattle.plain_log.proofs.Keeps.{Keeps, kept, by_when}
use Rattle.plain_log.proofs.Tests.{passes, passed, not_behind}

-- the in-sync set changes at one replica
pub put_replica_safe : (p : State) (b : ℕ) (r t : Replica) → slice_get p.registry.replicas b ≡ Some r
    → ((x : Broker) → AckSafe (current p.paths p.registry.epoch p.committed) p.registry.mark x r → AckSafe (current p.paths p.registry.epoch p.committed) p.registry.mark x t)
    → (p.registry.leader.0 ≡ b → t.in_sync ≡ true) → PlainSafe p → PlainSafe (set_registry p (put_replica p.registry b t))
put_replica_safe p b r t at w lead s = record {
  marks = record { start = s.marks.start; consecutive = s.marks.consecutive; ends = s.marks.ends; begins = s.marks.begins; epoch = s.marks.epoch };
  paths = s.paths;
  brokers = s.brokers;
  known_high_watermark = s.known_high_watermark;
  one_leader = s.one_leader;
  acks = λ c z v cz cv.
      elim (get-set p.registry.replicas b t c v cv) [
        | inl i ↦
            subst (λ (k : Replica). AckSafe (current p.paths p.registry.epoch p.committed) p.registry.mark z k) (sym i.1)
            (w z (s.acks c z r cz (ap (λ (k : ℕ). slice_get p.registry.replicas k) i.0 ∙ at)))
        | inr i ↦ s.acks c z v cz i.1
      ];
  leader = λ v lv.
      elim (get-set p.registry.replicas b t p.registry.leader.0 v lv) [
        | inl i ↦ ap (λ (k : Replica). k.in_sync) i.1 ∙ lead i.0
        | inr i ↦ s.leader v i.1
      ];
  broken = s.broken;
  leader_within = omega (arith, s.leader_within, length-slice_set p.registry.replicas b t);
  same_count = length-slice_set p.registry.replicas b t ∙ s.same_count;
  recorded = s.recorded;
}

-- the row of shrink
pub shrink_keeps : (p : State) (b : ℕ) (x : Broker) (r : Replica) (answer : Answer) (q : State) → slice_get p.registry.replicas b ≡ Some r
    → refusal_at p b x None Shrink ≡ None → shrink_row p b r answer ≡ Some q → PlainSafe p → Keeps p q
shrink_keeps p b x r Ok q at none e s =
    by_when p (set_registry p (shrunk p.registry b r)) q true e (λ _.
    let f = facts_of b x in
    let t = passes (not_in_sync p.registry f) (is_leader p.registry f ∷ []) none in
    let u = passes (is_leader p.registry f) [] t.1 in
    let other = passed (p.registry.leader.0 == b) IsLeader u.0 in
    let ne : p.registry.leader.0 ≢ b = grind (arith, nat_tests, other) in
    kept p (set_registry p (shrunk p.registry b r)) refl refl refl refl
    (put_replica_safe p b r (record r { in_sync = false }) at
    (λ x a. record { flushed_end = a.flushed_end; shared = a.shared; in_sync = λ i. absurd cc }) (λ i. absurd (ne i)) s))
shrink_keeps p b x r other q at none e s = absurd (none-some q e)

-- the row of expand
pub expand_keeps : (p : State) (b : ℕ) (x : Broker) (r : Replica) (answer : Answer) (q : State) → slice_get p.registry.replicas b ≡ Some r
    → refusal_at p b x None Expand ≡ None → expand_row p b r answer ≡ Some q → PlainSafe p → Keeps p q
expand_keeps p b x r Ok q at none e s =
    by_when p (set_registry p (expanded p.registry b r)) q true e (λ _.
    let f = facts_of b x in
    let t = passes (down_broker f) (behind p.registry f ∷ []) none in
    let u = passes (behind p.registry f) [] t.1 in
    let le = not_behind p.registry f r at u.0 in
    kept p (set_registry p (expanded p.registry b r)) refl refl refl refl
    (put_replica_safe p b r (record r { in_sync = true }) at
    (λ z a. record { flushed_end = a.flushed_end; shared = a.shared; in_sync = λ i. le }) (λ i. refl) s))
expand_keeps p b x r other q at none e s = absurd (none-some q e)
