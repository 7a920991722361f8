-- An acknowledgement, which may raise the high watermark.
use Rattle.std.proofs.Common.{◌≡◌, inl, inr, subst, ℕ, ◌≤◌, ◌<◌, max, min, List, [], ◌∷◌, ◌==◌, Some, None, Option, slice_get, slice_set, Bool, true, false, refl, ap, sym, ◌∙◌, arith}
use Rattle.std.specs.Prelude.{nat_le, unwrap_or, is_some}
use Rattle.std.proofs.lemmas.Bool.Decides.{nat_tests}
use Rattle.std.proofs.lemmas.Option.{none-some}
use mathlib.Core.List.{IsPrefix}
use Rattle.log_terms.specs.Log.{IsConsecutive, end_of, up_to, EndsAt}
use Rattle.log_terms.proofs.Lists.{and_then_some, get-set, each-set, length-slice_set, prefix_self, prefix_trans, look, within}
use Rattle.log_terms.proofs.Logs.{nested, consecutive_prefix, up_to_prefix, up_to_end, in_up_to, ends_more, ends_at_zero}
use Rattle.plain_log.specs.declared.answer.Answer.{Answer}
use Rattle.plain_log.specs.declared.answer.Answer.TheVariants.{Down, OkAt}
use Rattle.plain_log.specs.declared.command.Command.TheVariants.{Ack}
use Rattle.plain_log.specs.declared.state.State.{State}
use Rattle.registry.specs.declared.registry.Replica.{Replica}
use Rattle.plain_log.specs.declared.state.Path.{Path}
use Rattle.plain_log.specs.declared.state.Broker.{Broker}
use Rattle.plain_log.specs.declared.state.Role.{Role}
use Rattle.plain_log.specs.declared.state.Role.TheVariants.{Idle, Leads, Follows, Joined}
use Rattle.registry.specs.Replicas.{mark_over, least_acked}
use Rattle.registry.specs.Registry.{with_ack}
use Rattle.plain_log.specs.State.{path_of, acking, facts_of}
use Rattle.plain_log.specs.Refusals.{down, not_joined, stale}
use Rattle.plain_log.specs.Rows.{refusal_at}
use Rattle.plain_log.specs.RowsOfReplicas.{acknowledged, ack_row}
use Rattle.plain_log.specs.Safe.{RoleSafe, BrokerSafe, SharedTo, AckSafe, current, KnownSafe, SnapshotIsSafe, PlainSafe}
use Rattle.plain_log.proofs.Wider.{wider_self}
use Rattle.plain_log.proofs.Keeps.{Keeps, by_when}
use Rattle.plain_log.proofs.Tests.{passes, holds, not_stale}
use Rattle.plain_log.proofs.Swaps.{current_is, one_leader_set}
use Rattle.plain_log.proofs.Least.{least_le, least_has}

-- a broker that acknowledges has a beginning of the path
on_path : (paths : List Path) (epoch : ℕ) (r : Role) (log l : List (List ℕ)) → is_some (acking r) ≡ true → ((e : ℕ) → acking r ≡ Some e → epoch ≤ e)
    → path_of paths epoch ≡ Some l → RoleSafe paths epoch r log → IsPrefix log l
on_path paths epoch Idle log l i fresh pa h = absurd cc
on_path paths epoch (Follows e) log l i fresh pa h = absurd cc
on_path paths epoch (Leads e) log l i fresh pa h =
    let now : e ≡ epoch = omega (arith, fresh e refl, h.0) in
    let same : log ≡ l = cc (now, h.1, pa) in
    subst (λ (k : List (List ℕ)). IsPrefix log k) same (prefix_self log)
on_path paths epoch (Joined e) log l i fresh pa h =
    let now : e ≡ epoch = omega (arith, fresh e refl, h.0) in
    let has = h.1 in
    let same : has.0 ≡ l = cc (now, has.1, pa) in
    subst (λ (k : List (List ℕ)). IsPrefix log k) same has.2

-- what ends on the path at the smaller of m and the log's end ends in the log
pub shared_min : (m : ℕ) (log l base : List (List ℕ)) → IsConsecutive 0 l → IsPrefix log l → SharedTo m l base → IsPrefix base l → SharedTo (min m (end_of log)) log base
shared_min m log l base c p h q = go (nat_le m (end_of log)) refl
  where
    go : (t : Bool) → nat_le m (end_of log) ≡ t → SharedTo (min m (end_of log)) log base
    go true t =
        let le : m ≤ end_of log = grind (arith, nat_tests, t) in
        (h.0, nested 0 h.0 log l c h.1 p (omega (arith, le, h.2)), omega (arith, h.2, le), h.3)
    go false t =
        let le : end_of log < m = grind (arith, nat_tests, t) in
        (log, prefix_self log, omega (arith, le), prefix_trans log h.0 base (nested 0 log h.0 l c p h.1 (omega (arith, le, h.2))) h.3)

pub ends_max : (a k m : ℕ) (l : List (List ℕ)) → m ≡ max a k → EndsAt a l → EndsAt k l → EndsAt m l
ends_max a k m l is h g = go (nat_le a k) refl
  where
    go : (t : Bool) → nat_le a k ≡ t → EndsAt m l
    go true t = let le : a ≤ k = grind (arith, nat_tests, t) in (g.0, g.1, omega (arith, le, is, g.2))
    go false t = let le : k < a = grind (arith, nat_tests, t) in (h.0, h.1, omega (arith, le, is, h.2))

pub acknowledged_keeps : (p : State) (b : ℕ) (x : Broker) (r : Replica) (l : List (List ℕ)) → slice_get p.brokers b ≡ Some x → slice_get p.registry.replicas b ≡ Some r
    → x.up ≡ true → IsPrefix x.log l → path_of p.paths p.registry.epoch ≡ Some l
    → PlainSafe p → Keeps p (acknowledged p b x r l)
acknowledged_keeps p b x r l bx br up on pa s =
    let m = (with_ack p.registry b r x.flushed_end).mark in
    let is : m ≡ mark_over p.registry.mark (slice_set p.registry.replicas b (record r { acked = x.flushed_end })) = refl in
    let h = s.brokers b x bx in
    let t : Replica = record r { acked = x.flushed_end } in
    let ts = slice_set p.registry.replicas b t in
    let c = (s.paths p.registry.epoch l pa).log_safe.consecutive in
    let base : current p.paths p.registry.epoch p.committed ≡ l = current_is p.paths p.registry.epoch p.committed l pa in
    let later : current p.paths p.registry.epoch (up_to m l) ≡ l = current_is p.paths p.registry.epoch (up_to m l) l pa in
    let old : IsPrefix p.committed l = subst (λ (k : List (List ℕ)). IsPrefix p.committed k) base s.marks.begins in
    let ack = s.acks b x r bx br in
    let up_mark : p.registry.mark ≤ m = omega (arith, is) in
    let each_ends : (d : ℕ) (v : Replica) → slice_get ts d ≡ Some v → EndsAt v.acked l = λ d v dv.
    elim (get-set p.registry.replicas b t d v dv) [
      | inl i ↦ subst (λ (k : Replica). EndsAt k.acked l) (sym i.1) (ends_more x.flushed_end x.log l h.flushed_end on)
      | inr i ↦
          let z = look p.brokers d (omega (arith, within p.registry.replicas d v i.1, s.same_count)) in
          let a = s.acks d z.0 v z.1 i.1 in
          let w = a.shared in
          (w.0, subst (λ (k : List (List ℕ)). IsPrefix w.0 k) base w.3, w.2)
    ] in
    let least_ends : EndsAt (unwrap_or (least_acked ts) 0) l = least_has (λ k. EndsAt k l) ts (ends_at_zero l) each_ends in
    let ends : EndsAt m l = ends_max p.registry.mark (unwrap_or (least_acked ts) 0) m l is (p.committed, old, s.marks.ends) least_ends in
    let in_sync_le : (d : ℕ) (v : Replica) → slice_get ts d ≡ Some v → v.in_sync ≡ true → p.registry.mark ≤ v.acked → m ≤ v.acked =
    λ d v dv i le. omega (arith, is, le, least_le ts d v dv i) in
    let grows : IsPrefix p.committed (up_to m l) = in_up_to m p.committed l c old ends (omega (arith, s.marks.ends, up_mark)) in
    let at_end = up_to_end m l c ends in
    let whole : SharedTo m l (up_to m l) = (up_to m l, up_to_prefix m l, at_end, prefix_self (up_to m l)) in
    let known : SharedTo (min m (end_of x.log)) x.log (up_to m l) = shared_min m x.log l (up_to m l) c on whole (up_to_prefix m l) in
    let y : Broker = record x { known_high_watermark = min m (end_of x.log) } in
    let safe : PlainSafe (acknowledged p b x r l) = record {
      marks = record {
        start = omega (arith, s.marks.start, up_mark);
        consecutive = consecutive_prefix 0 (up_to m l) l (up_to_prefix m l) c;
        ends = at_end;
        begins = subst (λ (k : List (List ℕ)). IsPrefix (up_to m l) k) (sym later) (up_to_prefix m l);
        epoch = s.marks.epoch;
      };
      paths = s.paths;
      brokers = each-set (BrokerSafe p.paths p.registry.epoch) p.brokers b y s.brokers
          (record { log = h.log; role = h.role; flushed_end = h.flushed_end; known_high_watermark = (known.0, known.1, known.2); down = λ d. absurd (cc (up, d)) });
      known_high_watermark = each-set (KnownSafe p.unclean p.registry.epoch m (up_to m l)) p.brokers b y
          (λ d z dz. let k = s.known_high_watermark d z dz in record {
            shared = λ u. let w = k.shared u in (w.0, w.1, w.2, prefix_trans w.0 p.committed (up_to m l) w.3 grows);
            leader = λ i. omega (arith, k.leader i, up_mark);
          })
          (record { shared = λ u. known; leader = λ _. omega arith });
      one_leader = one_leader_set p.brokers b x y bx (λ e i. i) s.one_leader;
      acks = λ d z v dz dv.
          subst (λ (k : List (List ℕ)). AckSafe k m z v) (sym later)
          (elim (get-set p.brokers b y d z dz) [
            | inl i ↦ elim (get-set p.registry.replicas b t d v dv) [
              | inl j ↦
                  subst (λ (k : Broker). AckSafe l m k v) (sym i.1) (subst (λ (k : Replica). AckSafe l m y k) (sym j.1)
                  (record {
                    flushed_end = omega arith;
                    shared = (h.flushed_end.0, h.flushed_end.1, h.flushed_end.2, prefix_trans h.flushed_end.0 x.log l h.flushed_end.1 on);
                    in_sync = λ q. in_sync_le b t (sym (ap (λ (k : ℕ). slice_get ts k) j.0) ∙ dv ∙ ap Some j.1) q (omega (arith, ack.flushed_end, ack.in_sync q));
                  }))
              | inr j ↦ absurd (j.0 i.0)
            ]
            | inr i ↦ elim (get-set p.registry.replicas b t d v dv) [
              | inl j ↦ absurd (i.0 j.0)
              | inr j ↦
                  let a = s.acks d z v i.1 j.1 in
                  let w = a.shared in
                  record {
                    flushed_end = a.flushed_end;
                    shared = (w.0, w.1, w.2, subst (λ (k : List (List ℕ)). IsPrefix w.0 k) base w.3);
                    in_sync = λ q. in_sync_le d v dv q (a.in_sync q);
                  }
            ]
          ]);
      leader = λ v lv.
          elim (get-set p.registry.replicas b t p.registry.leader.0 v lv) [
            | inl i ↦ ap (λ (k : Replica). k.in_sync) i.1 ∙ s.leader r (ap (λ (k : ℕ). slice_get p.registry.replicas k) i.0 ∙ br)
            | inr i ↦ s.leader v i.1
          ];
      broken = s.broken;
      leader_within = omega (arith, s.leader_within, length-slice_set p.registry.replicas b t);
      same_count = length-slice_set p.registry.replicas b t ∙ s.same_count ∙ sym (length-slice_set p.brokers b y);
      recorded = λ a n z bg nz.
          elim (get-set p.brokers b y n.order.broker.0 z nz) [
            | inl i ↦
                let o = s.recorded a n x bg (ap (λ (k : ℕ). slice_get p.brokers k) i.0 ∙ bx) in
                subst (λ (k : Broker). SnapshotIsSafe p.paths p.registry.epoch n k) (sym i.1)
                (record { stops = o.stops; up = o.up; leads = o.leads; joined = o.joined })
            | inr i ↦ s.recorded a n z bg i.1
          ];
    } in
    record { safe = safe; actors = refl; wider = wider_self p.paths; grows = grows; clean = refl }

-- a role that has an epoch of this kind
has_epoch : (epoch : Option ℕ) → not_joined epoch ≡ None → is_some epoch ≡ true
has_epoch None e = absurd cc
has_epoch (Some n) e = refl

-- the row of ack
pub ack_keeps : (p : State) (b : ℕ) (x : Broker) (r : Replica) (answer : Answer) (q : State) → slice_get p.brokers b ≡ Some x → slice_get p.registry.replicas b ≡ Some r
    → refusal_at p b x None Ack ≡ None → ack_row p b x r answer ≡ Some q → PlainSafe p → Keeps p q
ack_keeps p b x r (OkAt m) q bx br none e s =
    let f = and_then_some _ (path_of p.paths p.registry.epoch) q e in
    let t = passes (down (facts_of b x)) (not_joined (acking x.role) ∷ stale p.registry (acking x.role) ∷ []) none in
    let u = passes (not_joined (acking x.role)) (stale p.registry (acking x.role) ∷ []) t.1 in
    let v = passes (stale p.registry (acking x.role)) [] u.1 in
    by_when p (acknowledged p b x r f.0) q (m == (with_ack p.registry b r x.flushed_end).mark) f.2 (λ _.
    let on = on_path p.paths p.registry.epoch x.role x.log f.0 (has_epoch (acking x.role) u.0) (λ n is. not_stale p.registry (acking x.role) n v.0 is) f.1 (s.brokers b x bx).role in
    acknowledged_keeps p b x r f.0 bx br (holds x.up Down t.0) on f.1 s)
ack_keeps p b x r other q bx br none e s = absurd (none-some q e)
