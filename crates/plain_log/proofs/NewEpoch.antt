-- Elections: a new epoch, which has no path yet.
use Rattle.std.proofs.Common.{◌≡◌, inl, inr, subst, ℕ, zero, suc, ◌≤◌, ◌<◌, ◌+◌, List, [], ◌∷◌, length, Some, None, Option, slice_get, Bool, true, false, if◌then◌else◌, refl, ap, sym, ◌∙◌, arith}
use mathlib.Core.List.{IsPrefix}
use Rattle.log_terms.specs.Log.{IsConsecutive, up_to}
use Rattle.log_terms.proofs.Lists.{get-set, length-slice_set, prefix_self, prefix_trans, within}
use Rattle.log_terms.proofs.Logs.{nested, consecutive_prefix, up_to_prefix, up_to_end}
use Rattle.registry.specs.declared.registry.Replica.{Replica}
use Rattle.registry.specs.Replicas.{reset_acks, all_out}
use Rattle.registry.specs.Registry.{epoch_limit, elected, elected_alone}
use Rattle.plain_log.specs.declared.state.State.{State}
use Rattle.plain_log.specs.declared.state.Path.{Path}
use Rattle.plain_log.specs.declared.state.Broker.{Broker}
use Rattle.plain_log.specs.declared.state.PlainSnapshot.{PlainSnapshot}
use Rattle.plain_log.specs.declared.state.Role.{Role}
use Rattle.plain_log.specs.declared.state.Role.TheVariants.{Idle, Leads, Follows, Joined}
use Rattle.plain_log.specs.State.{path_of, set_registry}
use Rattle.plain_log.specs.RowsOfElections.{restarted}
use Rattle.plain_log.specs.Safe.{PathSafe, RoleSafe, BrokerSafe, SharedTo, AckSafe, current, SnapshotIsSafe, PlainSafe}

-- no path has an epoch above the registry's
pub no_path : (p : State) (n : ℕ) → p.registry.epoch < n → PlainSafe p → path_of p.paths n ≡ None
no_path p n lt s = go (path_of p.paths n) refl
  where
    go : (o : Option (List (List ℕ))) → path_of p.paths n ≡ o → path_of p.paths n ≡ None
    go None e = e
    go (Some l) e = absurd (let h = (s.paths n l e).below in omega (arith, h, lt))

-- an epoch without a path continues from what is committed
pub current_none : (paths : List Path) (n : ℕ) (c : List (List ℕ)) → path_of paths n ≡ None → current paths n c ≡ c
current_none paths n c e = rw e refl

-- the rules of a part continue in a later epoch
pub role_later : (paths : List Path) (m n : ℕ) (r : Role) (log : List (List ℕ)) → m ≤ n → RoleSafe paths m r log → RoleSafe paths n r log
role_later paths m n Idle log le h = tt
role_later paths m n (Leads e) log le h = (omega (arith, le, h.0), h.1)
role_later paths m n (Follows e) log le h = omega (arith, le, h)
role_later paths m n (Joined e) log le h = (omega (arith, le, h.0), h.1)

pub broker_later : (paths : List Path) (m n : ℕ) (x : Broker) → m ≤ n → BrokerSafe paths m x → BrokerSafe paths n x
broker_later paths m n x le h = record { log = h.log; role = role_later paths m n x.role x.log le h.role; flushed_end = h.flushed_end; known_high_watermark = h.known_high_watermark; down = h.down }

pub path_later : (paths : List Path) (m n e : ℕ) (l : List (List ℕ)) → m ≤ n → PathSafe paths m e l → PathSafe paths n e l
path_later paths m n e l le h = record { log_safe = h.log_safe; ends = h.ends; epochs = h.epochs; below = omega (arith, le, h.below) }

pub recorded_later : (paths : List Path) (m n : ℕ) (y : PlainSnapshot) (x : Broker) → m ≤ n → SnapshotIsSafe paths m y x → SnapshotIsSafe paths n y x
recorded_later paths m n y x le h = record {
  stops = h.stops;
  up = h.up;
  leads = h.leads;
  joined = λ c. let j = h.joined c in (j.0, j.1, λ e l. j.2 e (omega (arith, le, l)));
}

-- a leader's epoch isn't above the registry's
pub leads_below : (paths : List Path) (n e : ℕ) (r : Role) (log : List (List ℕ)) → r ≡ Leads e → RoleSafe paths n r log → e ≤ n
leads_below paths n e r log is h = (subst (λ (w : Role). RoleSafe paths n w log) is h).0

-- the current path is consecutive
pub current_consecutive : (p : State) → PlainSafe p → IsConsecutive 0 (current p.paths p.registry.epoch p.committed)
current_consecutive p s = go (path_of p.paths p.registry.epoch) refl
  where
    go : (o : Option (List (List ℕ))) → path_of p.paths p.registry.epoch ≡ o → IsConsecutive 0 (current p.paths p.registry.epoch p.committed)
    go None e = rw e s.marks.consecutive
    go (Some l) e = rw e (s.paths p.registry.epoch l e).log_safe.consecutive

-- a replica after a clean election
pub reset_get : (m : ℕ) (ss : List Replica) (c : ℕ) (r : Replica) → slice_get (reset_acks m ss) c ≡ Some r
    → (t : Replica) × (slice_get ss c ≡ Some t) × (r ≡ record t { acked = if t.in_sync then m else 0 })
reset_get m [] c r e = absurd cc
reset_get m (s ∷ ss) zero r e = (s, refl, cc)
reset_get m (s ∷ ss) (suc c) r e = reset_get m ss c r e

pub reset_length : (m : ℕ) (ss : List Replica) → length (reset_acks m ss) ≡ length ss
reset_length m [] = refl
reset_length m (s ∷ ss) = ap suc (reset_length m ss)

-- an acknowledged end after a clean election
pub ack_reset : (p : State) (x : Broker) (t : Replica) → PlainSafe p → AckSafe (current p.paths p.registry.epoch p.committed) p.registry.mark x t
    → AckSafe p.committed p.registry.mark x (record t { acked = if t.in_sync then p.registry.mark else 0 })
ack_reset p x t s h = go t.in_sync refl
  where
    go : (i : Bool) → t.in_sync ≡ i → AckSafe p.committed p.registry.mark x (record t { acked = if t.in_sync then p.registry.mark else 0 })
    go true i =
        let le = h.in_sync i in
        let w = h.shared in
        let c = s.marks in
        let sub = nested 0 p.committed w.0 (current p.paths p.registry.epoch p.committed) (current_consecutive p s) c.begins w.3 (omega (arith, c.ends, w.2, le)) in
        subst (λ (k : Bool). AckSafe p.committed p.registry.mark x (record t { acked = if k then p.registry.mark else 0 })) (sym i)
        (record { flushed_end = omega (arith, le, h.flushed_end); shared = (p.committed, prefix_trans p.committed w.0 x.log sub w.1, c.ends, prefix_self p.committed); in_sync = λ _. omega arith })
    go false i =
        subst (λ (k : Bool). AckSafe p.committed p.registry.mark x (record t { acked = if k then p.registry.mark else 0 })) (sym i)
        (record { flushed_end = omega arith; shared = ([], (x.log, refl), refl, (p.committed, refl)); in_sync = λ j. absurd (cc (i, j)) })

-- a clean election keeps the safety rules
pub elected_safe : (p : State) (b : ℕ) (r : Replica) → slice_get p.registry.replicas b ≡ Some r → r.in_sync ≡ true → p.registry.epoch < epoch_limit
    → PlainSafe p → PlainSafe (set_registry p (elected p.registry b))
elected_safe p b r at synced lt s =
    let none = no_path p (p.registry.epoch + 1) (omega arith) s in
    let base = current_none p.paths (p.registry.epoch + 1) p.committed none in
    record {
      marks = record {
        start = s.marks.start;
        consecutive = s.marks.consecutive;
        ends = s.marks.ends;
        begins = subst (λ (k : List (List ℕ)). IsPrefix p.committed k) (sym base) (prefix_self p.committed);
        epoch = omega (arith, lt);
      };
      paths = λ e l h. path_later p.paths p.registry.epoch (p.registry.epoch + 1) e l (omega arith) (s.paths e l h);
      brokers = λ c x h. broker_later p.paths p.registry.epoch (p.registry.epoch + 1) x (omega arith) (s.brokers c x h);
      known_high_watermark = λ c x h. record {
        shared = (s.known_high_watermark c x h).shared;
        leader = λ i. absurd (let k = leads_below p.paths p.registry.epoch (p.registry.epoch + 1) x.role x.log i (s.brokers c x h).role in omega (arith, k));
      };
      one_leader = s.one_leader;
      acks = λ c x v cx cv.
          let g = reset_get p.registry.mark p.registry.replicas c v cv in
          subst (λ (k : List (List ℕ)). AckSafe k p.registry.mark x v) (sym base)
          (subst (λ (k : Replica). AckSafe p.committed p.registry.mark x k) (sym g.2) (ack_reset p x g.0 s (s.acks c x g.0 cx g.1)));
      leader = λ v lv.
          let g = reset_get p.registry.mark p.registry.replicas b v lv in
          let same : g.0 ≡ r = cc (g.1, at) in
          ap (λ (k : Replica). k.in_sync) g.2 ∙ ap (λ (k : Replica). k.in_sync) same ∙ synced;
      broken = λ k i. omega (arith, s.broken k i);
      leader_within = omega (arith, within p.registry.replicas b r at, reset_length p.registry.mark p.registry.replicas);
      same_count = reset_length p.registry.mark p.registry.replicas ∙ s.same_count;
      recorded = λ a n x bg nx. recorded_later p.paths p.registry.epoch (p.registry.epoch + 1) n x (omega arith) (s.recorded a n x bg nx);
    }

-- a replica after an unclean election
pub all_out_get : (ss : List Replica) (c : ℕ) (r : Replica) → slice_get (all_out ss) c ≡ Some r → (r.in_sync ≡ false) × (r.acked ≡ 0)
all_out_get [] c r e = absurd cc
all_out_get (s ∷ ss) zero r e = let is : r ≡ record { in_sync = false; acked = 0 } = cc in (ap (λ (k : Replica). k.in_sync) is, ap (λ (k : Replica). k.acked) is)
all_out_get (s ∷ ss) (suc c) r e = all_out_get ss c r e

pub all_out_length : (ss : List Replica) → length (all_out ss) ≡ length ss
all_out_length [] = refl
all_out_length (s ∷ ss) = ap suc (all_out_length ss)

-- an unclean election keeps them
pub elected_alone_safe : (p : State) (b : ℕ) (x : Broker) → slice_get p.brokers b ≡ Some x → p.registry.start ≤ x.flushed_end → p.registry.epoch < epoch_limit → PlainSafe p
    → PlainSafe (set_registry (restarted p x) (elected_alone p.registry b x.flushed_end))
elected_alone_safe p b x at ok lt s =
    let h = s.brokers b x at in
    let none = no_path p (p.registry.epoch + 1) (omega arith) s in
    let base = current_none p.paths (p.registry.epoch + 1) (up_to x.flushed_end x.log) none in
    let ends = up_to_end x.flushed_end x.log h.log.consecutive h.flushed_end in
    record {
      marks = record {
        start = ok;
        consecutive = consecutive_prefix 0 (up_to x.flushed_end x.log) x.log (up_to_prefix x.flushed_end x.log) h.log.consecutive;
        ends = ends;
        begins = subst (λ (k : List (List ℕ)). IsPrefix (up_to x.flushed_end x.log) k) (sym base) (prefix_self (up_to x.flushed_end x.log));
        epoch = omega (arith, lt);
      };
      paths = λ e l i. path_later p.paths p.registry.epoch (p.registry.epoch + 1) e l (omega arith) (s.paths e l i);
      brokers = λ c z i. broker_later p.paths p.registry.epoch (p.registry.epoch + 1) z (omega arith) (s.brokers c z i);
      known_high_watermark = λ c z i. record {
        shared = λ u. absurd cc;
        leader = λ j. absurd (let k = leads_below p.paths p.registry.epoch (p.registry.epoch + 1) z.role z.log j (s.brokers c z i).role in omega (arith, k));
      };
      one_leader = s.one_leader;
      acks = λ c z v cz cv.
          subst (λ (k : List (List ℕ)). AckSafe k x.flushed_end z v) (sym base)
          (elim (get-set (all_out p.registry.replicas) b (record { in_sync = true; acked = x.flushed_end }) c v cv) [
            | inl i ↦
                let same : z ≡ x = cc (cz, i.0, at) in
                subst (λ (k : Replica). AckSafe (up_to x.flushed_end x.log) x.flushed_end z k) (sym i.1)
                (subst (λ (k : Broker). AckSafe (up_to x.flushed_end x.log) x.flushed_end k (record { in_sync = true; acked = x.flushed_end })) (sym same)
                (record { flushed_end = omega arith; shared = (up_to x.flushed_end x.log, up_to_prefix x.flushed_end x.log, ends, prefix_self (up_to x.flushed_end x.log)); in_sync = λ _. omega arith }))
            | inr i ↦
                let o = all_out_get p.registry.replicas c v i.1 in
                record {
                  flushed_end = omega (arith, o.1);
                  shared = subst (λ (k : ℕ). SharedTo k z.log (up_to x.flushed_end x.log)) (sym o.1) ([], (z.log, refl), refl, (up_to x.flushed_end x.log, refl));
                  in_sync = λ j. absurd (cc (o.0, j));
                }
          ]);
      leader = λ v lv.
          elim (get-set (all_out p.registry.replicas) b (record { in_sync = true; acked = x.flushed_end }) b v lv) [
            | inl i ↦ ap (λ (k : Replica). k.in_sync) i.1
            | inr i ↦ absurd (i.0 refl)
          ];
      broken = λ k i. omega (arith, s.broken k i);
      leader_within = omega (arith, within p.brokers b x at, s.same_count, length-slice_set (all_out p.registry.replicas) b (record { in_sync = true; acked = x.flushed_end }), all_out_length p.registry.replicas);
      same_count = length-slice_set (all_out p.registry.replicas) b (record { in_sync = true; acked = x.flushed_end }) ∙ all_out_length p.registry.replicas ∙ s.same_count;
      recorded = λ a n z bg nz. recorded_later p.paths p.registry.epoch (p.registry.epoch + 1) n z (omega arith) (s.recorded a n z bg nz);
    }
