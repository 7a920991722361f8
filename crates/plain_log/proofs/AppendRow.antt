-- An append by a leader, of records or of bytes from outside.
use Rattle.std.proofs.Common.{◌≡◌, ◌≢◌, ◌⊎◌, inl, inr, subst, ℕ, ◌≤◌, ◌<◌, ◌^◌, ◌+◌, ◌==◌, List, [], ◌∷◌, ◌++◌, length, Some, Option, slice_get, Bool, true, false, ◌&&◌, if◌then◌else◌, refl, ap, sym, ◌∙◌, arith}
use Rattle.std.specs.Prelude.{unwrap_or}
use Rattle.std.proofs.lemmas.Bool.Decides.{nat_tests}
use Rattle.std.proofs.lemmas.Option.{none-some}
use mathlib.Core.List.{IsPrefix}
use Rattle.log_terms.specs.Batch.{base_of, epoch_of, last_offset_delta_of}
use Rattle.log_terms.specs.Log.{end_of}
use Rattle.log_terms.proofs.Lists.{get-set, each-set, length-slice_set, prefix_self, prefix_trans, prefix_snoc, snoc_last}
use Rattle.log_terms.proofs.Logs.{consecutive_snoc, ends_more}
use Rattle.record_batch.specs.Stamp.{stamped}
use Rattle.record_batch.proofs.StampLaws.{sets_base_and_epoch}
use Rattle.plain_log.specs.declared.answer.Answer.{Answer}
use Rattle.plain_log.specs.declared.answer.Answer.TheVariants.{TooManySegments, DiskFault, OkSpan}
use Rattle.plain_log.specs.declared.state.State.{State}
use Rattle.plain_log.specs.declared.state.Path.{Path}
use Rattle.plain_log.specs.declared.state.Broker.{Broker}
use Rattle.plain_log.specs.declared.state.Role.{Role}
use Rattle.plain_log.specs.declared.state.Role.TheVariants.{Idle, Leads, Follows, Joined}
use Rattle.registry.specs.Registry.{epoch_limit}
use Rattle.plain_log.specs.State.{path_of, longer, leads_in, breaks, facts_of}
use Rattle.plain_log.specs.RowsOfLog.{offset_limit}
use Rattle.plain_log.specs.RowsOfLog.{gained, append_row}
use Rattle.plain_log.specs.Safe.{HasOnPath, LogSafe, PathSafe, BrokerSafe, AckSafe, current, KnownSafe, SnapshotIsSafe, PlainSafe}
use Rattle.plain_log.proofs.Options.{both, eq_of}
use Rattle.plain_log.proofs.Keeps.{Keeps, grown, silent, by_when, breaks_kept}
use Rattle.plain_log.proofs.Swaps.{one_leader_set, role_as}
use Rattle.plain_log.proofs.Wider.{Wider, has_wider, log_wider, broker_wider, recorded_wider}
use Rattle.plain_log.proofs.Within.{end_snoc}
use Rattle.plain_log.proofs.Tests.{MayAppend, end_there}

-- the paths where one gains a batch

pub longer_other : (ps : List Path) (e : ℕ) (v : List ℕ) (f : ℕ) → f ≢ e → path_of (longer ps e v) f ≡ path_of ps f
longer_other [] e v f ne = refl
longer_other (q ∷ ps) e v f ne = go (q.epoch == e) refl (longer_other ps e v f ne)
  where
    rest : (a b : Option (List (List ℕ))) (t : Bool) → a ≡ b → (if t then Some q.log else a) ≡ (if t then Some q.log else b)
    rest a b t is = ap (λ (k : Option (List (List ℕ))). if t then Some q.log else k) is

    differs : q.epoch ≡ e → (t : Bool) → (q.epoch == f) ≡ t → (q.epoch == f) ≡ false
    differs i false j = j
    differs i true j = let k : q.epoch ≡ f = grind (arith, nat_tests, j) in absurd (ne (sym k ∙ i))

    go : (t : Bool) → (q.epoch == e) ≡ t → path_of (longer ps e v) f ≡ path_of ps f → path_of (longer (q ∷ ps) e v) f ≡ path_of (q ∷ ps) f
    go true t r = let d = differs (grind (arith, nat_tests, t)) (q.epoch == f) refl in rw (t, d) refl
    go false t r = rw t (rest (path_of (longer ps e v) f) (path_of ps f) (q.epoch == f) r)

pub longer_same : (ps : List Path) (e : ℕ) (v : List ℕ) (l : List (List ℕ)) → path_of ps e ≡ Some l → path_of (longer ps e v) e ≡ Some (l ++ v ∷ [])
longer_same [] e v l is = absurd cc
longer_same (q ∷ ps) e v l is = go (q.epoch == e) refl is (longer_same ps e v l)
  where
    go : (t : Bool) → (q.epoch == e) ≡ t → path_of (q ∷ ps) e ≡ Some l → (path_of ps e ≡ Some l → path_of (longer ps e v) e ≡ Some (l ++ v ∷ [])) → path_of (longer (q ∷ ps) e v) e ≡ Some (l ++ v ∷ [])
    go true t i r = let k : Some q.log ≡ Some l = (rw t at i) in let m : q.log ≡ l = cc (k) in rw (t, t) (ap (λ (w : List (List ℕ)). Some (w ++ v ∷ [])) m)
    go false t i r = let k : path_of ps e ≡ Some l = (rw t at i) in rw (t, t) (r k)

pub longer_wider : (ps : List Path) (e : ℕ) (v : List ℕ) → Wider ps (longer ps e v)
longer_wider ps e v f l is = go (f == e) refl
  where
    go : (t : Bool) → (f == e) ≡ t → HasOnPath (longer ps e v) f l
    go true t =
        let same : f ≡ e = grind (arith, nat_tests, t) in
        (l ++ v ∷ [], ap (path_of (longer ps e v)) same ∙ longer_same ps e v l (ap (path_of ps) (sym same) ∙ is), (v ∷ [], refl))
    go false t =
        let ne : f ≢ e = grind (arith, nat_tests, t) in
        (l, longer_other ps e v f ne ∙ is, prefix_self l)

pub longer_is : (ps : List Path) (e : ℕ) (v : List ℕ) (log : List (List ℕ)) (f : ℕ) (l : List (List ℕ)) → path_of ps e ≡ Some log → path_of (longer ps e v) f ≡ Some l
    → ((f ≡ e) × (l ≡ log ++ v ∷ [])) ⊎ (path_of ps f ≡ Some l)
longer_is ps e v log f l pa is = go (f == e) refl
  where
    go : (t : Bool) → (f == e) ≡ t → ((f ≡ e) × (l ≡ log ++ v ∷ [])) ⊎ (path_of ps f ≡ Some l)
    go true t =
        let same : f ≡ e = grind (arith, nat_tests, t) in
        let k : Some l ≡ Some (log ++ v ∷ []) = sym is ∙ ap (path_of (longer ps e v)) same ∙ longer_same ps e v log pa in
        let m : l ≡ log ++ v ∷ [] = cc (k) in
        inl (same, m)
    go false t = let ne : f ≢ e = grind (arith, nat_tests, t) in inr (sym (longer_other ps e v f ne) ∙ is)

pub current_longer : (ps : List Path) (e : ℕ) (v : List ℕ) (log : List (List ℕ)) (n : ℕ) (c : List (List ℕ)) → path_of ps e ≡ Some log → IsPrefix (current ps n c) (current (longer ps e v) n c)
current_longer ps e v log n c pa = go (n == e) refl
  where
    go : (t : Bool) → (n == e) ≡ t → IsPrefix (current ps n c) (current (longer ps e v) n c)
    go true t =
        let same : n ≡ e = grind (arith, nat_tests, t) in
        let a : path_of ps n ≡ Some log = ap (path_of ps) same ∙ pa in
        let b : path_of (longer ps e v) n ≡ Some (log ++ v ∷ []) = ap (path_of (longer ps e v)) same ∙ longer_same ps e v log pa in
        rw (a, b) (v ∷ [], refl)
    go false t =
        let ne : n ≢ e = grind (arith, nat_tests, t) in
        let a = ap (λ (k : Option (List (List ℕ))). unwrap_or k c) (longer_other ps e v n ne) in
        subst (λ (k : List (List ℕ)). IsPrefix (current ps n c) k) (sym a) (prefix_self (current ps n c))

pub log_snoc : (ps : List Path) (e : ℕ) (log : List (List ℕ)) (v : List ℕ) → path_of ps e ≡ Some log → base_of v ≡ end_of log → epoch_of v ≡ e → LogSafe ps log → LogSafe (longer ps e v) (log ++ v ∷ [])
log_snoc ps e log v pa base ep h = record {
  consecutive = consecutive_snoc 0 log v h.consecutive base;
  matching = λ ws u q.
      elim (prefix_snoc (ws ++ u ∷ []) log v q) [
        | inl i ↦ has_wider ps (longer ps e v) (epoch_of u) (ws ++ u ∷ []) (longer_wider ps e v) (h.matching ws u i)
        | inr i ↦
            let same : u ≡ v = snoc_last ws log u v i in
            let eu : epoch_of u ≡ e = ap epoch_of same ∙ ep in
            (log ++ v ∷ [], ap (path_of (longer ps e v)) eu ∙ longer_same ps e v log pa, subst (λ (k : List (List ℕ)). IsPrefix k (log ++ v ∷ [])) (sym i) (prefix_self (log ++ v ∷ [])))
      ];
}

pub gained_safe : (p : State) (b : ℕ) (x : Broker) (e : ℕ) (v : List ℕ) → slice_get p.brokers b ≡ Some x → x.role ≡ Leads e → x.up ≡ true → base_of v ≡ end_of x.log → epoch_of v ≡ e
    → end_of (x.log ++ v ∷ []) ≤ offset_limit → PlainSafe p → PlainSafe (gained p b x e v)
gained_safe p b x e v bx lead up base ep within s =
    let h = s.brokers b x bx in
    let qs = longer p.paths e v in
    let r = role_as p.paths p.registry.epoch x.role (Leads e) x.log lead h.role in
    let pa : path_of p.paths e ≡ Some x.log = r.1 in
    let wide : Wider p.paths qs = longer_wider p.paths e v in
    let grows : IsPrefix x.log (x.log ++ v ∷ []) = (v ∷ [], refl) in
    let y : Broker = record x { log = x.log ++ v ∷ [] } in
    let log = log_snoc p.paths e x.log v pa base ep h.log in
    let made = longer_same p.paths e v x.log pa in
    let on = current_longer p.paths e v x.log p.registry.epoch p.committed pa in
    record {
      marks = record {
        start = s.marks.start;
        consecutive = s.marks.consecutive;
        ends = s.marks.ends;
        epoch = s.marks.epoch;
        begins = prefix_trans p.committed (current p.paths p.registry.epoch p.committed) (current qs p.registry.epoch p.committed) s.marks.begins on;
      };
      paths = λ f l i.
          elim (longer_is p.paths e v x.log f l pa i) [
            | inl j ↦
                let o = s.paths e x.log pa in
                subst (λ (k : ℕ). PathSafe qs p.registry.epoch k l) (sym j.0) (subst (λ (k : List (List ℕ)). PathSafe qs p.registry.epoch e k) (sym j.1)
                (record {
                  log_safe = log;
                  ends = within;
                  epochs = λ ws u q.
                      elim (prefix_snoc (ws ++ u ∷ []) x.log v q) [
                        | inl m ↦ o.epochs ws u m
                        | inr m ↦ (let same : u ≡ v = snoc_last ws x.log u v m in omega (arith, ap epoch_of same, ep))
                      ];
                  below = o.below;
                }))
            | inr j ↦ let k = s.paths f l j in record { log_safe = log_wider p.paths qs l wide k.log_safe; ends = k.ends; epochs = k.epochs; below = k.below }
          ];
      brokers = λ c z cz.
          elim (get-set p.brokers b y c z cz) [
            | inl i ↦
                subst (λ (k : Broker). BrokerSafe qs p.registry.epoch k) (sym i.1)
                (record {
                  log = log;
                  role = role_as qs p.registry.epoch (Leads e) x.role (x.log ++ v ∷ []) (sym lead) (r.0, made);
                  flushed_end = ends_more x.flushed_end x.log (x.log ++ v ∷ []) h.flushed_end grows;
                  known_high_watermark = ends_more x.known_high_watermark x.log (x.log ++ v ∷ []) h.known_high_watermark grows;
                  down = λ d. absurd (cc (up, d));
                })
            | inr i ↦
                broker_wider p.paths qs p.registry.epoch z wide
                (λ f lf is. longer_other p.paths e v f (λ same. i.0 (s.one_leader c b z x e i.1 bx (lf ∙ ap Leads same) lead)) ∙ is)
                (s.brokers c z i.1)
          ];
      known_high_watermark = each-set (KnownSafe p.unclean p.registry.epoch p.registry.mark p.committed) p.brokers b y s.known_high_watermark
          (let k = s.known_high_watermark b x bx in record {
            shared = λ u. let w = k.shared u in (w.0, prefix_trans w.0 x.log (x.log ++ v ∷ []) w.1 grows, w.2, w.3);
            leader = k.leader;
          });
      one_leader = one_leader_set p.brokers b x y bx (λ f i. i) s.one_leader;
      acks = λ c z t cz ct.
          elim (get-set p.brokers b y c z cz) [
            | inl i ↦
                let a = s.acks b x t bx (sym (ap (λ (k : ℕ). slice_get p.registry.replicas k) i.0) ∙ ct) in
                let w = a.shared in
                subst (λ (k : Broker). AckSafe (current qs p.registry.epoch p.committed) p.registry.mark k t) (sym i.1)
                (record {
                  flushed_end = a.flushed_end;
                  shared = (w.0, prefix_trans w.0 x.log (x.log ++ v ∷ []) w.1 grows, w.2, prefix_trans w.0 (current p.paths p.registry.epoch p.committed) (current qs p.registry.epoch p.committed) w.3 on);
                  in_sync = a.in_sync;
                })
            | inr i ↦
                let a = s.acks c z t i.1 ct in
                let w = a.shared in
                record {
                  flushed_end = a.flushed_end;
                  shared = (w.0, w.1, w.2, prefix_trans w.0 (current p.paths p.registry.epoch p.committed) (current qs p.registry.epoch p.committed) w.3 on);
                  in_sync = a.in_sync;
                }
          ];
      leader = s.leader;
      leader_within = s.leader_within;
      broken = s.broken;
      same_count = s.same_count ∙ sym (length-slice_set p.brokers b y);
      recorded = λ a n z bg nz.
          elim (get-set p.brokers b y n.order.broker.0 z nz) [
            | inl i ↦
                let o = recorded_wider p.paths qs p.registry.epoch n x wide (s.recorded a n x bg (ap (λ (k : ℕ). slice_get p.brokers k) i.0 ∙ bx)) in
                subst (λ (k : Broker). SnapshotIsSafe qs p.registry.epoch n k) (sym i.1)
                (record { stops = o.stops; up = o.up; leads = o.leads; joined = o.joined })
            | inr i ↦ recorded_wider p.paths qs p.registry.epoch n z wide (s.recorded a n z bg i.1)
          ];
    }

pub leads_in_is : (e : ℕ) (r : Role) → leads_in e r ≡ true → r ≡ Leads e
leads_in_is e Idle i = absurd cc
leads_in_is e (Leads f) i = let same : f ≡ e = grind (arith, nat_tests, i) in ap Leads same
leads_in_is e (Follows f) i = absurd cc
leads_in_is e (Joined f) i = absurd cc

-- an offset with room after it is a number of 64 bits
within_64 : (base end delta limit : ℕ) → base ≡ end → end + delta + 1 ≤ limit → limit ≤ 4611686018427387904 → base < 2 ^ 64
within_64 base end delta limit is le small = omega (arith, is, le, small)

-- an epoch is a number of 32 bits
within_32 : (e epoch limit : ℕ) → e ≤ epoch → epoch ≤ limit → limit ≤ 2147483647 → e < 2 ^ 32
within_32 e epoch limit h k small = omega (arith, h, k, small)

appended_safe : (p : State) (b : ℕ) (x : Broker) (batch : List ℕ) (base e : ℕ) → slice_get p.brokers b ≡ Some x → 61 ≤ length batch
    → MayAppend (facts_of b x) (last_offset_delta_of batch) → leads_in e x.role ≡ true → base ≡ end_of x.log → PlainSafe p
    → PlainSafe (gained p b x e (stamped batch base e))
appended_safe p b x batch base e at long w leads is s =
    let lead = leads_in_is e x.role leads in
    let r = role_as p.paths p.registry.epoch x.role (Leads e) x.log lead (s.brokers b x at).role in
    let there = end_there b x w.up in
    let small = within_64 base (facts_of b x).end (last_offset_delta_of batch) offset_limit (is ∙ sym there) w.room (omega arith) in
    let stamp = sets_base_and_epoch batch base e long small (within_32 e p.registry.epoch epoch_limit r.0 s.marks.epoch (omega arith)) in
    let on = stamp.base_offset ∙ is in
    gained_safe p b x e (stamped batch base e) at lead w.up on stamp.leader_epoch (omega (arith, end_snoc x.log (stamped batch base e) on, stamp.last_offset_delta, there, w.room)) s

-- the row of append, and of raw
pub append_keeps : (p : State) (b : ℕ) (x : Broker) (batch : List ℕ) (answer : Answer) (q : State) → slice_get p.brokers b ≡ Some x → 61 ≤ length batch
    → MayAppend (facts_of b x) (last_offset_delta_of batch) → append_row p b x batch answer ≡ Some q → PlainSafe p → Keeps p q
append_keeps p b x batch TooManySegments q at long w e s = silent p q true e s
append_keeps p b x batch DiskFault q at long w e s = by_when p (breaks p b x) q true e (λ _. breaks_kept p b x at s)
append_keeps p b x batch (OkSpan base last n) q at long w e s =
    by_when p (gained p b x n (stamped batch base n)) q (leads_in n x.role && (base == end_of x.log) && (last == base + last_offset_delta_of batch)) e (λ t.
    let u = both (leads_in n x.role) (base == end_of x.log) (both (leads_in n x.role && (base == end_of x.log)) (last == base + last_offset_delta_of batch) t).0 in
    grown p (gained p b x n (stamped batch base n)) refl refl refl (longer_wider p.paths n (stamped batch base n))
    (appended_safe p b x batch base n at long w u.0 (eq_of base (end_of x.log) u.1) s))
append_keeps p b x batch other q at long w e s = absurd (none-some q e)
