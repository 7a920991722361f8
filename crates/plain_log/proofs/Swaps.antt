-- One broker changes and nothing else does.
use Rattle.std.proofs.Common.{◌≡◌, inl, inr, subst, ℕ, ◌≤◌, ◌==◌, List, [], Some, slice_get, slice_set, Bool, true, false, refl, ap, sym, ◌∙◌, arith}
use Rattle.std.proofs.lemmas.Bool.Decides.{nat_tests}
use Rattle.log_terms.specs.Log.{end_of, up_to, EndsAt}
use Rattle.log_terms.proofs.Lists.{get-set, each-set, length-slice_set, prefix_self}
use Rattle.log_terms.proofs.Logs.{up_to_prefix, up_to_end, in_up_to, ends_below, ends_at_zero, ends_at_end}
use Rattle.registry.specs.declared.registry.Replica.{Replica}
use Rattle.plain_log.specs.declared.state.State.{State}
use Rattle.plain_log.specs.declared.state.Path.{Path}
use Rattle.plain_log.specs.declared.state.Broker.{Broker}
use Rattle.plain_log.specs.declared.state.PlainSnapshot.{PlainSnapshot}
use Rattle.plain_log.specs.declared.state.Role.{Role}
use Rattle.plain_log.specs.declared.state.Role.TheVariants.{Idle, Leads, Follows, Joined}
use Rattle.plain_log.specs.State.{put_broker, path_of, stopped, knows}
use Rattle.plain_log.specs.RowsOfLog.{opened}
use Rattle.plain_log.specs.Safe.{RoleSafe, BrokerSafe, SharedTo, AckSafe, current, KnownSafe, SnapshotIsSafe, PlainSafe}
use Rattle.plain_log.proofs.Ends.{log_prefix}

-- what a change of one broker has to keep
pub record Swap (p : State) (x y : Broker) : Type 0 where
  pub broker : BrokerSafe p.paths p.registry.epoch y
  pub known_high_watermark : KnownSafe p.unclean p.registry.epoch p.registry.mark p.committed y
  pub leads : (e : ℕ) → y.role ≡ Leads e → x.role ≡ Leads e
  pub acks : (s : Replica) → AckSafe (current p.paths p.registry.epoch p.committed) p.registry.mark x s → AckSafe (current p.paths p.registry.epoch p.committed) p.registry.mark y s
  pub recorded : (n : PlainSnapshot) → SnapshotIsSafe p.paths p.registry.epoch n x → SnapshotIsSafe p.paths p.registry.epoch n y

-- one change after another
pub swap_trans : (p : State) (x y z : Broker) → Swap p x y → Swap p y z → Swap p x z
swap_trans p x y z v w = record {
  broker = w.broker;
  known_high_watermark = w.known_high_watermark;
  leads = λ e i. v.leads e (w.leads e i);
  acks = λ s a. w.acks s (v.acks s a);
  recorded = λ n a. w.recorded n (v.recorded n a);
}

-- two brokers that lead one epoch are one
pub one_leader_set : (xs : List Broker) (b : ℕ) (x y : Broker) → slice_get xs b ≡ Some x
    → ((e : ℕ) → y.role ≡ Leads e → x.role ≡ Leads e)
    → ((c d : ℕ) (v w : Broker) (e : ℕ) → slice_get xs c ≡ Some v → slice_get xs d ≡ Some w → v.role ≡ Leads e → w.role ≡ Leads e → c ≡ d)
    → (c d : ℕ) (v w : Broker) (e : ℕ) → slice_get (slice_set xs b y) c ≡ Some v → slice_get (slice_set xs b y) d ≡ Some w → v.role ≡ Leads e → w.role ≡ Leads e → c ≡ d
one_leader_set xs b x y at leads h c d v w e cv dw lv lw =
    elim (get-set xs b y c v cv) [
      | inl i ↦ elim (get-set xs b y d w dw) [
        | inl j ↦ i.0 ∙ sym j.0
        | inr j ↦ i.0 ∙ h b d x w e at j.1 (leads e (sym (ap (λ (z : Broker). z.role) i.1) ∙ lv)) lw
      ]
      | inr i ↦ elim (get-set xs b y d w dw) [
        | inl j ↦ h c b v x e i.1 at lv (leads e (sym (ap (λ (z : Broker). z.role) j.1) ∙ lw)) ∙ sym j.0
        | inr j ↦ h c d v w e i.1 j.1 lv lw
      ]
    ]

-- the safety rules continue where one broker is changed so
pub put_safe : (p : State) (b : ℕ) (x y : Broker) → slice_get p.brokers b ≡ Some x → Swap p x y → PlainSafe p → PlainSafe (put_broker p b y)
put_safe p b x y at w s = record {
  marks = s.marks;
  paths = s.paths;
  brokers = each-set (BrokerSafe p.paths p.registry.epoch) p.brokers b y s.brokers w.broker;
  known_high_watermark = each-set (KnownSafe p.unclean p.registry.epoch p.registry.mark p.committed) p.brokers b y s.known_high_watermark w.known_high_watermark;
  one_leader = one_leader_set p.brokers b x y at w.leads s.one_leader;
  acks = λ c z r cz cr.
      elim (get-set p.brokers b y c z cz) [
        | inl i ↦
            subst (λ (k : Broker). AckSafe (current p.paths p.registry.epoch p.committed) p.registry.mark k r) (sym i.1)
            (w.acks r (s.acks b x r at (sym (ap (λ (k : ℕ). slice_get p.registry.replicas k) i.0) ∙ cr)))
        | inr i ↦ s.acks c z r i.1 cr
      ];
  leader = s.leader;
  leader_within = s.leader_within;
  broken = s.broken;
  same_count = s.same_count ∙ sym (length-slice_set p.brokers b y);
  recorded = λ a n z bg nz.
      elim (get-set p.brokers b y n.order.broker.0 z nz) [
        | inl i ↦
            subst (λ (k : Broker). SnapshotIsSafe p.paths p.registry.epoch n k) (sym i.1)
            (w.recorded n (s.recorded a n x bg (ap (λ (k : ℕ). slice_get p.brokers k) i.0 ∙ at)))
        | inr i ↦ s.recorded a n z bg i.1
      ];
}

-- the same role
pub role_as : (paths : List Path) (epoch : ℕ) (r q : Role) (log : List (List ℕ)) → r ≡ q → RoleSafe paths epoch r log → RoleSafe paths epoch q log
role_as paths epoch r q log e h = subst (λ (w : Role). RoleSafe paths epoch w log) e h

-- where the current epoch has a path, that is it
pub current_is : (paths : List Path) (e : ℕ) (c l : List (List ℕ)) → path_of paths e ≡ Some l → current paths e c ≡ l
current_is paths e c l is = rw is refl

-- nothing changes
pub swap_same : (p : State) (b : ℕ) (x : Broker) → slice_get p.brokers b ≡ Some x → PlainSafe p → Swap p x x
swap_same p b x at s = record { broker = s.brokers b x at; known_high_watermark = s.known_high_watermark b x at; leads = λ e i. i; acks = λ r a. a; recorded = λ n a. a }

-- a stop, clean or not
pub swap_stop : (p : State) (x : Broker) (l : Bool) → BrokerSafe p.paths p.registry.epoch x → Swap p x (record (stopped x) { loose = l })
swap_stop p x l h = record {
  broker = record { log = h.log; role = tt; flushed_end = h.flushed_end; known_high_watermark = ends_at_zero x.log; down = λ _. (refl, refl) };
  known_high_watermark = record { shared = λ _. ([], (x.log, refl), refl, (p.committed, refl)); leader = λ e. absurd cc };
  leads = λ e i. absurd cc;
  acks = λ s a. record { flushed_end = a.flushed_end; shared = a.shared; in_sync = a.in_sync };
  recorded = λ n a. record {
    stops = omega (arith, a.stops);
    up = λ e. absurd (omega (arith, a.stops, e));
    leads = a.leads;
    joined = λ c. let j = a.joined c in (j.0, j.1, λ e _. absurd (omega (arith, a.stops, e)));
  };
}

-- a flush
pub swap_flush : (p : State) (x : Broker) → BrokerSafe p.paths p.registry.epoch x → KnownSafe p.unclean p.registry.epoch p.registry.mark p.committed x → Swap p x (record x { flushed_end = end_of x.log })
swap_flush p x h k = record {
  broker = record { log = h.log; role = h.role; flushed_end = ends_at_end x.log; known_high_watermark = h.known_high_watermark; down = h.down };
  known_high_watermark = record { shared = k.shared; leader = k.leader };
  leads = λ e i. i;
  acks = λ s a. record { flushed_end = omega (arith, a.flushed_end, ends_below x.flushed_end x.log h.log.consecutive h.flushed_end); shared = a.shared; in_sync = a.in_sync };
  recorded = λ n a. record { stops = a.stops; up = a.up; leads = a.leads; joined = a.joined };
}

-- a broker that has joined the current epoch knows it
pub knows_joined : (p : State) (x : Broker) (e : ℕ) → x.role ≡ Joined e → e ≡ p.registry.epoch → knows p.registry x.role ≡ true
knows_joined p x e r is = rw (r, is) (go (p.registry.epoch == p.registry.epoch) refl)
  where
    go : (t : Bool) → (p.registry.epoch == p.registry.epoch) ≡ t → (p.registry.epoch == p.registry.epoch) ≡ true
    go true i = i
    go false i = absurd (grind (arith, nat_tests, i))

-- it learns that another broker leads
pub swap_follows : (p : State) (x : Broker) → x.up ≡ true → knows p.registry x.role ≡ false → BrokerSafe p.paths p.registry.epoch x → KnownSafe p.unclean p.registry.epoch p.registry.mark p.committed x
    → Swap p x (record x { role = Follows p.registry.epoch })
swap_follows p x up new h k = record {
  broker = record { log = h.log; role = omega arith; flushed_end = h.flushed_end; known_high_watermark = h.known_high_watermark; down = λ d. absurd (cc (up, d)) };
  known_high_watermark = record { shared = k.shared; leader = λ i. absurd cc };
  leads = λ e i. absurd cc;
  acks = λ s a. record { flushed_end = a.flushed_end; shared = a.shared; in_sync = a.in_sync };
  recorded = λ n a. record {
    stops = a.stops;
    up = a.up;
    leads = a.leads;
    joined = λ c.
        let j = a.joined c in (
          j.0,
          j.1,
          λ e le.
              let is : x.role ≡ Joined j.0 = j.2 e le ∙ j.1 in
              let r = role_as p.paths p.registry.epoch x.role (Joined j.0) x.log is h.role in
              let known = knows_joined p x j.0 is (omega (arith, r.0, le)) in
              absurd (cc (known, new)),
        );
  };
}

-- the log is flushed up to n
pub swap_all_stable : (p : State) (x : Broker) (n : ℕ) → EndsAt n x.log → x.flushed_end ≤ n → BrokerSafe p.paths p.registry.epoch x → KnownSafe p.unclean p.registry.epoch p.registry.mark p.committed x
    → Swap p x (record x { flushed_end = n })
swap_all_stable p x n ends le h k = record {
  broker = record { log = h.log; role = h.role; flushed_end = ends; known_high_watermark = h.known_high_watermark; down = h.down };
  known_high_watermark = record { shared = k.shared; leader = k.leader };
  leads = λ e i. i;
  acks = λ s a. record { flushed_end = omega (arith, a.flushed_end, le); shared = a.shared; in_sync = a.in_sync };
  recorded = λ n a. record { stops = a.stops; up = a.up; leads = a.leads; joined = a.joined };
}

-- a broker starts again
pub swap_up : (p : State) (x : Broker) (n : ℕ) → x.up ≡ false → EndsAt n x.log → x.flushed_end ≤ n
    → BrokerSafe p.paths p.registry.epoch x → KnownSafe p.unclean p.registry.epoch p.registry.mark p.committed x → Swap p x (opened x n)
swap_up p x n off ends le h k =
    let d = h.down off in
    let zero : x.known_high_watermark ≡ 0 = d.1 in
    record {
      broker = record {
        log = log_prefix p.paths (up_to n x.log) x.log (up_to_prefix n x.log) h.log;
        role = role_as p.paths p.registry.epoch Idle x.role (up_to n x.log) (sym d.0) tt;
        flushed_end = (up_to n x.log, prefix_self (up_to n x.log), up_to_end n x.log h.log.consecutive ends);
        known_high_watermark = subst (λ (z : ℕ). EndsAt z (up_to n x.log)) (sym zero) (ends_at_zero (up_to n x.log));
        down = λ e. absurd cc;
      };
      known_high_watermark = record {
        shared = λ u. subst (λ (z : ℕ). SharedTo z (up_to n x.log) p.committed) (sym zero) ([], (up_to n x.log, refl), refl, (p.committed, refl));
        leader = k.leader;
      };
      leads = λ f i. i;
      acks = λ s a.
          let c = a.shared in record {
            flushed_end = omega (arith, a.flushed_end, le);
            shared = (c.0, in_up_to n c.0 x.log h.log.consecutive c.1 ends (omega (arith, c.2, a.flushed_end, le)), c.2, c.3);
            in_sync = a.in_sync;
          };
      recorded = λ m a. record { stops = a.stops; up = λ e. refl; leads = a.leads; joined = a.joined };
    }
