-- A broker learns of the registry's epoch, and may take its lead.
use Rattle.std.proofs.Common.{◌≡◌, ◌≢◌, ◌⊎◌, inl, inr, subst, ℕ, ◌≤◌, ◌==◌, List, [], ◌∷◌, Some, None, Option, slice_get, slice_set, Bool, true, false, ◌&&◌, not, refl, ap, sym, ◌∙◌, arith}
use Rattle.std.proofs.lemmas.Bool.Decides.{nat_tests}
use Rattle.std.proofs.lemmas.Option.{none-some}
use mathlib.Core.List.{IsPrefix}
use Rattle.log_terms.specs.Batch.{epoch_of}
use Rattle.log_terms.specs.Log.{end_of}
use Rattle.log_terms.proofs.Lists.{get-set, each-set, length-slice_set, prefix_self, prefix_trans}
use Rattle.log_terms.proofs.Logs.{nested, ends_at_end, ends_below}
use Rattle.registry.specs.declared.registry.Replica.{Replica}
use Rattle.plain_log.specs.declared.answer.Answer.{Answer}
use Rattle.plain_log.specs.declared.answer.Answer.TheVariants.{Down, Known, Follows as FollowsAnswer, NeedsElection, Leads as LeadsAnswer, DiskFault}
use Rattle.plain_log.specs.declared.state.State.{State}
use Rattle.plain_log.specs.declared.state.Path.{Path}
use Rattle.plain_log.specs.declared.state.Broker.{Broker}
use Rattle.plain_log.specs.declared.state.Role.TheVariants.{Leads, Follows, Joined}
use Rattle.plain_log.specs.State.{path_of, has_path, put_broker, breaks, is_in, knows, facts_of}
use Rattle.plain_log.specs.declared.command.Command.TheVariants.{Learn}
use Rattle.plain_log.specs.Refusals.{down, known}
use Rattle.plain_log.specs.Rows.{refusal_at}
use Rattle.plain_log.specs.RowsOfElections.{may_lead, led, learn_row}
use Rattle.plain_log.specs.Safe.{PathSafe, BrokerSafe, AckSafe, current, KnownSafe, SnapshotIsSafe, PlainSafe}
use Rattle.plain_log.proofs.Options.{both, not_true, eq_of}
use Rattle.plain_log.proofs.Within.{log_within}
use Rattle.plain_log.proofs.Tests.{passes, passed, holds}
use Rattle.plain_log.proofs.Wider.{Wider, log_wider, recorded_wider, broker_wider}
use Rattle.plain_log.proofs.Swaps.{current_is, swap_follows, role_as, knows_joined}
use Rattle.plain_log.proofs.Keeps.{Keeps, grown, kept, silent, by_when, broker_kept, breaks_kept}
use Rattle.plain_log.proofs.NewEpoch.{current_none}

-- a path of a new epoch

-- the other paths are as they did
pub added_has : (ps : List Path) (n : ℕ) (log : List (List ℕ)) (e : ℕ) (l : List (List ℕ)) → path_of ps n ≡ None → path_of ps e ≡ Some l
    → path_of (record { epoch = n; log = log } ∷ ps) e ≡ Some l
added_has ps n log e l gone is = go (n == e) refl
  where
    go : (t : Bool) → (n == e) ≡ t → path_of (record { epoch = n; log = log } ∷ ps) e ≡ Some l
    go false t = rw t is
    go true t = let same : n ≡ e = grind (arith, nat_tests, t) in absurd (cc (same, gone, is))

-- the new one is there
pub added_new : (ps : List Path) (n : ℕ) (log : List (List ℕ)) → path_of (record { epoch = n; log = log } ∷ ps) n ≡ Some log
added_new ps n log = go (n == n) refl
  where
    go : (t : Bool) → (n == n) ≡ t → path_of (record { epoch = n; log = log } ∷ ps) n ≡ Some log
    go true t = rw t refl
    go false t = absurd (grind (arith, nat_tests, t))

-- a path is the new one or one of the others
pub added_is : (ps : List Path) (n : ℕ) (log : List (List ℕ)) (e : ℕ) (l : List (List ℕ)) → path_of (record { epoch = n; log = log } ∷ ps) e ≡ Some l
    → ((e ≡ n) × (l ≡ log)) ⊎ (path_of ps e ≡ Some l)
added_is ps n log e l is = go (n == e) refl is
  where
    go : (t : Bool) → (n == e) ≡ t → path_of (record { epoch = n; log = log } ∷ ps) e ≡ Some l → ((e ≡ n) × (l ≡ log)) ⊎ (path_of ps e ≡ Some l)
    go true t i =
        let same : n ≡ e = grind (arith, nat_tests, t) in
        let k : Some log ≡ Some l = (rw t at i) in
        let m : l ≡ log = cc (k) in
        inl (sym same, m)
    go false t i = inr (rw t at i)

-- an epoch whose lead nobody took has no path
pub path_none : (p : State) (n : ℕ) → has_path p n ≡ false → path_of p.paths n ≡ None
path_none p n h = go (path_of p.paths n) refl
  where
    go : (o : Option (List (List ℕ))) → path_of p.paths n ≡ o → path_of p.paths n ≡ None
    go None e = e
    go (Some l) e = absurd (let k : true ≡ false = (rw e at h) in cc (k))

-- one broker begins to lead an epoch that none leads
pub one_leader_new : (xs : List Broker) (b : ℕ) (y : Broker) (n : ℕ) → y.role ≡ Leads n
    → ((d : ℕ) (z : Broker) → slice_get xs d ≡ Some z → z.role ≢ Leads n)
    → ((c d : ℕ) (v w : Broker) (e : ℕ) → slice_get xs c ≡ Some v → slice_get xs d ≡ Some w → v.role ≡ Leads e → w.role ≡ Leads e → c ≡ d)
    → (c d : ℕ) (v w : Broker) (e : ℕ) → slice_get (slice_set xs b y) c ≡ Some v → slice_get (slice_set xs b y) d ≡ Some w → v.role ≡ Leads e → w.role ≡ Leads e → c ≡ d
one_leader_new xs b y n is none h c d v w e cv dw lv lw =
    elim (get-set xs b y c v cv) [
      | inl i ↦ elim (get-set xs b y d w dw) [
        | inl j ↦ i.0 ∙ sym j.0
        | inr j ↦
            let k : Leads e ≡ Leads n = sym lv ∙ ap (λ (z : Broker). z.role) i.1 ∙ is in
            absurd (none d w j.1 (lw ∙ k))
      ]
      | inr i ↦ elim (get-set xs b y d w dw) [
        | inl j ↦
            let k : Leads e ≡ Leads n = sym lw ∙ ap (λ (z : Broker). z.role) j.1 ∙ is in
            absurd (none c v i.1 (lv ∙ k))
        | inr j ↦ h c d v w e i.1 j.1 lv lw
      ]
    ]

-- the leader's log has all that is committed, as long as its epoch has no path
pub committed_in : (p : State) (b : ℕ) (x : Broker) (r : Replica) → slice_get p.brokers b ≡ Some x → slice_get p.registry.replicas b ≡ Some r → p.registry.leader.0 ≡ b
    → path_of p.paths p.registry.epoch ≡ None → PlainSafe p → IsPrefix p.committed x.log
committed_in p b x r bx br lead none s =
    let base = current_none p.paths p.registry.epoch p.committed none in
    let a = s.acks b x r bx br in
    let synced = s.leader r (ap (λ (k : ℕ). slice_get p.registry.replicas k) lead ∙ br) in
    let w = a.shared in
    let on : IsPrefix w.0 p.committed = subst (λ (k : List (List ℕ)). IsPrefix w.0 k) base w.3 in
    let le = a.in_sync synced in
    prefix_trans p.committed w.0 x.log
    (nested 0 p.committed w.0 p.committed s.marks.consecutive (prefix_self p.committed) on (omega (arith, le, s.marks.ends, w.2))) w.1

-- a taken lead adds a path
led_wider : (p : State) (b : ℕ) (x : Broker) → path_of p.paths p.registry.epoch ≡ None → Wider p.paths ((led p b x p.registry.epoch).paths)
led_wider p b x none e l i = (l, added_has p.paths p.registry.epoch x.log e l none i, prefix_self l)

-- a taken lead keeps the safety rules
pub led_safe : (p : State) (b : ℕ) (x : Broker) (r : Replica) → slice_get p.brokers b ≡ Some x → slice_get p.registry.replicas b ≡ Some r
    → x.up ≡ true → knows p.registry x.role ≡ false → p.registry.leader.0 ≡ b → path_of p.paths p.registry.epoch ≡ None → PlainSafe p → PlainSafe (led p b x p.registry.epoch)
led_safe p b x r bx br up new lead none s =
    let n = p.registry.epoch in
    let ps : List Path = record { epoch = p.registry.epoch; log = x.log } ∷ p.paths in
    let h = s.brokers b x bx in
    let y : Broker = record x { role = Leads p.registry.epoch; flushed_end = end_of x.log; known_high_watermark = p.registry.mark } in
    let wide : Wider p.paths ps = led_wider p b x none in
    let made : path_of ps p.registry.epoch ≡ Some x.log = added_new p.paths p.registry.epoch x.log in
    let all = committed_in p b x r bx br lead none s in
    let old = current_none p.paths p.registry.epoch p.committed none in
    let base : current ps p.registry.epoch p.committed ≡ x.log = current_is ps p.registry.epoch p.committed x.log made in
    record {
      marks = record {
        start = s.marks.start;
        consecutive = s.marks.consecutive;
        ends = s.marks.ends;
        epoch = s.marks.epoch;
        begins = subst (λ (k : List (List ℕ)). IsPrefix p.committed k) (sym base) all;
      };
      paths = λ e l i.
          elim (added_is p.paths p.registry.epoch x.log e l i) [
            | inl j ↦
                subst (λ (k : ℕ). PathSafe ps p.registry.epoch k l) (sym j.0) (subst (λ (k : List (List ℕ)). PathSafe ps p.registry.epoch p.registry.epoch k) (sym j.1)
                (record {
                  log_safe = log_wider p.paths ps x.log wide h.log;
                  ends = log_within p x.log s h.log;
                  epochs = λ ws v q. (let m = h.log.matching ws v q in (s.paths (epoch_of v) m.0 m.1).below);
                  below = omega arith;
                }))
            | inr j ↦ let k = s.paths e l j in record { log_safe = log_wider p.paths ps l wide k.log_safe; ends = k.ends; epochs = k.epochs; below = k.below }
          ];
      brokers = each-set (BrokerSafe ps p.registry.epoch) p.brokers b y
          (λ c z i. broker_wider p.paths ps p.registry.epoch z wide (λ e _ k. added_has p.paths p.registry.epoch x.log e z.log none k) (s.brokers c z i))
          (record {
            log = log_wider p.paths ps x.log wide h.log;
            role = (omega arith, made);
            flushed_end = ends_at_end x.log;
            known_high_watermark = (p.committed, all, s.marks.ends);
            down = λ d. absurd (cc (up, d));
          });
      known_high_watermark = each-set (KnownSafe p.unclean p.registry.epoch p.registry.mark p.committed) p.brokers b y s.known_high_watermark
          (record { shared = λ u. (p.committed, all, s.marks.ends, prefix_self p.committed); leader = λ _. omega arith });
      one_leader = one_leader_new p.brokers b y p.registry.epoch refl
          (λ d z i is. let k = role_as p.paths p.registry.epoch z.role (Leads p.registry.epoch) z.log is (s.brokers d z i).role in absurd (cc (k.1, none))) s.one_leader;
      acks = λ c z v cz cv.
          subst (λ (k : List (List ℕ)). AckSafe k p.registry.mark z v) (sym base)
          (elim (get-set p.brokers b y c z cz) [
            | inl i ↦
                let a = s.acks b x v bx (sym (ap (λ (k : ℕ). slice_get p.registry.replicas k) i.0) ∙ cv) in
                let w = a.shared in
                subst (λ (k : Broker). AckSafe x.log p.registry.mark k v) (sym i.1)
                (record { flushed_end = omega (arith, a.flushed_end, ends_below x.flushed_end x.log h.log.consecutive h.flushed_end); shared = (w.0, w.1, w.2, w.1); in_sync = a.in_sync })
            | inr i ↦
                let a = s.acks c z v i.1 cv in
                let w = a.shared in
                let on : IsPrefix w.0 p.committed = subst (λ (k : List (List ℕ)). IsPrefix w.0 k) old w.3 in
                record { flushed_end = a.flushed_end; shared = (w.0, w.1, w.2, prefix_trans w.0 p.committed x.log on all); in_sync = a.in_sync }
          ]);
      leader = s.leader;
      leader_within = s.leader_within;
      broken = s.broken;
      same_count = s.same_count ∙ sym (length-slice_set p.brokers b y);
      recorded = λ a m z bg mz.
          elim (get-set p.brokers b y m.order.broker.0 z mz) [
            | inl i ↦
                let o = recorded_wider p.paths ps p.registry.epoch m x wide (s.recorded a m x bg (ap (λ (k : ℕ). slice_get p.brokers k) i.0 ∙ bx)) in
                subst (λ (k : Broker). SnapshotIsSafe ps p.registry.epoch m k) (sym i.1)
                (record {
                  stops = o.stops;
                  up = o.up;
                  leads = o.leads;
                  joined = λ c.
                      let j = o.joined c in (
                        j.0,
                        j.1,
                        λ e le.
                            let is : x.role ≡ Joined j.0 = j.2 e le ∙ j.1 in
                            let rr = role_as p.paths p.registry.epoch x.role (Joined j.0) x.log is h.role in
                            let known = knows_joined p x j.0 is (omega (arith, rr.0, le)) in
                            absurd (cc (known, new)),
                      );
                })
            | inr i ↦ recorded_wider p.paths ps p.registry.epoch m z wide (s.recorded a m z bg i.1)
          ];
    }

-- one epoch more whose taking broke
broken_safe : (p : State) (k : List ℕ) → ((n : ℕ) → is_in n k ≡ true → n ≤ p.registry.epoch) → PlainSafe p → PlainSafe (record p { broken = k })
broken_safe p k h s = record {
  marks = s.marks;
  paths = s.paths;
  brokers = s.brokers;
  known_high_watermark = s.known_high_watermark;
  one_leader = s.one_leader;
  acks = s.acks;
  leader = s.leader;
  leader_within = s.leader_within;
  same_count = s.same_count;
  broken = h;
  recorded = s.recorded;
}

is_in_more : (p : State) → PlainSafe p → (n : ℕ) → is_in n (p.registry.epoch ∷ p.broken) ≡ true → n ≤ p.registry.epoch
is_in_more p s n i = go (p.registry.epoch == n) refl i
  where
    go : (t : Bool) → (p.registry.epoch == n) ≡ t → is_in n (p.registry.epoch ∷ p.broken) ≡ true → n ≤ p.registry.epoch
    go true t j = let same : p.registry.epoch ≡ n = grind (arith, nat_tests, t) in omega (arith, same)
    go false t j = s.broken n (rw t at j)

-- a broker that isn't refused is up, and has not learned of the registry's epoch
may_learn : (p : State) (b : ℕ) (x : Broker) → refusal_at p b x None Learn ≡ None → (x.up ≡ true) × (knows p.registry x.role ≡ false)
may_learn p b x none =
    let f = facts_of b x in
    let t = passes (down f) (known p.registry f ∷ []) none in
    let u = passes (known p.registry f) [] t.1 in
    (holds x.up Down t.0, passed (knows p.registry x.role) Known u.0)

-- the row of learn
pub learn_keeps : (p : State) (b : ℕ) (x : Broker) (r : Replica) (answer : Answer) (q : State) → slice_get p.brokers b ≡ Some x → slice_get p.registry.replicas b ≡ Some r
    → refusal_at p b x None Learn ≡ None → learn_row p b x answer ≡ Some q → PlainSafe p → Keeps p q
learn_keeps p b x r (NeedsElection n) q bx br none e s = silent p q _ e s
learn_keeps p b x r (FollowsAnswer n) q bx br none e s =
    by_when p (put_broker p b (record x { role = Follows n })) q ((n == p.registry.epoch) && not (p.registry.leader.0 == b)) e (λ w.
    let t = both (n == p.registry.epoch) (not (p.registry.leader.0 == b)) w in
    let u = may_learn p b x none in
    let safe = broker_kept p b x (record x { role = Follows p.registry.epoch }) bx (swap_follows p x u.0 u.1 (s.brokers b x bx) (s.known_high_watermark b x bx)) s in
    subst (λ (m : ℕ). Keeps p (put_broker p b (record x { role = Follows m }))) (sym (eq_of n p.registry.epoch t.0)) safe)
learn_keeps p b x r (LeadsAnswer n) q bx br none e s =
    by_when p (led p b x n) q ((n == p.registry.epoch) && may_lead p b) e (λ w.
    let t = both (n == p.registry.epoch) (may_lead p b) w in
    let v = both (p.registry.leader.0 == b) (not (has_path p p.registry.epoch)) t.1 in
    let u = may_learn p b x none in
    let gone = path_none p p.registry.epoch (not_true (has_path p p.registry.epoch) v.1) in
    let safe = led_safe p b x r bx br u.0 u.1 (eq_of p.registry.leader.0 b v.0) gone s in
    subst (λ (m : ℕ). Keeps p (led p b x m)) (sym (eq_of n p.registry.epoch t.0)) (grown p (led p b x p.registry.epoch) refl refl refl (led_wider p b x gone) safe))
learn_keeps p b x r DiskFault q bx br none e s =
    by_when p (record (breaks p b x) { broken = p.registry.epoch ∷ p.broken }) q (may_lead p b) e
    (λ _. kept p _ refl refl refl refl (broken_safe (breaks p b x) (p.registry.epoch ∷ p.broken) (is_in_more p s) (breaks_kept p b x bx s).safe))
learn_keeps p b x r other q bx br none e s = absurd (none-some q e)
