-- The rows of join and follow.
use Rattle.std.proofs.Common.{◌≡◌, ◌∙◌, ap, sym, refl, ℕ, min, [], ◌∷◌, Some, None, Option, slice_get, true, arith}
use Rattle.std.specs.Prelude.{option_map}
use Rattle.std.proofs.lemmas.Bool.Decides.{nat_tests}
use Rattle.std.proofs.lemmas.Option.{none-some}
use Rattle.log_terms.specs.Log.{end_of, EndsAt}
use Rattle.log_terms.proofs.Lists.{and_then_some}
use Rattle.log_terms.proofs.Logs.{ends_below, ends_at_zero}
use Rattle.plain_log.specs.declared.answer.Answer.{Answer}
use Rattle.plain_log.specs.declared.answer.Answer.TheVariants.{Down, TooManySegments, DiskFault, DiskFaultAt, Cut, Stopped, Passed, BelowStart, MetaFault, StoreFault, Damaged, Rebuilt, Moved, Copied}
use Rattle.plain_log.specs.declared.command.Command.TheVariants.{Join, Follow}
use Rattle.plain_log.specs.declared.state.State.{State}
use Rattle.plain_log.specs.declared.state.Broker.{Broker}
use Rattle.plain_log.specs.declared.state.PlainSnapshot.{PlainSnapshot}
use Rattle.plain_log.specs.declared.state.Role.TheVariants.{Joined}
use Rattle.plain_log.specs.Ends.{common}
use Rattle.plain_log.specs.State.{path_of, followed, put_broker, stopped, breaks, facts_of, leader_facts, since_of}
use Rattle.plain_log.specs.Refusals.{down, not_follower, stale, no_leader, runs_on, has_stopped, first_of}
use Rattle.plain_log.specs.Rows.{refusal_at}
use Rattle.plain_log.specs.RowsOfFollowers.{cut_to, extended, rebuilt, join_row, copied, follow_row}
use Rattle.plain_log.specs.Safe.{HasJoined, PlainSafe}
use Rattle.plain_log.proofs.Options.{when_some}
use Rattle.plain_log.proofs.Ends.{common_left, ends_min}
use Rattle.plain_log.proofs.Swaps.{Swap, swap_trans, swap_stop, swap_all_stable}
use Rattle.plain_log.proofs.Tests.{passes, holds, not_stale}
use Rattle.plain_log.proofs.Joins.{MayCut, swap_cut, swap_extended, extended_ends}
use Rattle.plain_log.proofs.Keeps.{Keeps, silent, by_when, by_broker, broker_kept, breaks_kept}

-- a begun join or follow that isn't refused: the broker has the recorded role
still_joined : (p : State) (b : ℕ) (x : Broker) (recorded : PlainSnapshot)
    → first_of (has_stopped (facts_of b x) (since_of recorded) ∷ stale p.registry (followed recorded.role) ∷ []) ≡ None
    → HasJoined p.registry.epoch recorded x → (e : ℕ) × (x.role ≡ Joined e)
still_joined p b x recorded none j =
    let t = passes (has_stopped (facts_of b x) (since_of recorded)) (stale p.registry (followed recorded.role) ∷ []) none in
    let u = passes (stale p.registry (followed recorded.role)) [] t.1 in
    let runs = holds (runs_on (facts_of b x) (since_of recorded)) Stopped t.0 in
    let same : recorded.stops ≡ x.stops = grind (arith, nat_tests, runs) in
    let le = not_stale p.registry (followed recorded.role) j.0 u.0 (ap followed j.1) in
    (j.0, j.2 same le ∙ j.1)

-- what was recorded of this command, as its row needs it
abbrev pub JoinedSnapshot : State → Broker → Option PlainSnapshot → Type 0
JoinedSnapshot p x None = Unit {0}
JoinedSnapshot p x (Some recorded) = HasJoined p.registry.epoch recorded x

-- the broker has joined still, where the command began before
abbrev pub MayFollow : Broker → Option PlainSnapshot → Type 0
MayFollow x None = Unit {0}
MayFollow x (Some recorded) = (e : ℕ) × (x.role ≡ Joined e)

pub may_follow : (p : State) (b : ℕ) (x : Broker) (recorded : Option PlainSnapshot) (limit : ℕ) → refusal_at p b x recorded (Follow limit) ≡ None
    → JoinedSnapshot p x recorded → MayFollow x recorded
may_follow p b x None limit none j = tt
may_follow p b x (Some recorded) limit none j = still_joined p b x recorded none j

-- the same of a join, which cuts where it begins
abbrev pub MayJoin : State → Broker → Option PlainSnapshot → Type 0
MayJoin p x None = MayCut p x
MayJoin p x (Some recorded) = (e : ℕ) × (x.role ≡ Joined e)

pub may_join : (p : State) (b : ℕ) (x : Broker) (recorded : Option PlainSnapshot) → refusal_at p b x recorded Join ≡ None
    → JoinedSnapshot p x recorded → MayJoin p x recorded
may_join p b x None none j =
    let f = facts_of b x in
    let r = p.registry in
    let t = passes (down f) (not_follower f ∷ stale r (followed f.role) ∷ no_leader r (leader_facts p) ∷ []) none in
    let u = passes (not_follower f) (stale r (followed f.role) ∷ no_leader r (leader_facts p) ∷ []) t.1 in
    let v = passes (stale r (followed f.role)) (no_leader r (leader_facts p) ∷ []) u.1 in
    (holds x.up Down t.0, λ e is. not_stale r (followed x.role) e v.0 is)
may_join p b x (Some recorded) none j = still_joined p b x recorded none j

-- a log restarted is the path up to n
pub swap_rebuilt : (p : State) (b : ℕ) (x : Broker) (recorded : PlainSnapshot) (n : ℕ) (y : Broker) → slice_get p.brokers b ≡ Some x → MayFollow x (Some recorded)
    → rebuilt p x recorded n ≡ Some y → PlainSafe p → Swap p x y × (extended p x n ≡ Some y)
swap_rebuilt p b x recorded n y at j e s =
    let f = and_then_some _ (extended p x n) y e in
    let w = when_some _ _ y f.2 in
    let is : extended p x n ≡ Some y = f.1 ∙ ap Some w.1 in
    (swap_extended p x n j.0 y is j.1 (λ g l h. (s.paths g l h).log_safe) (s.brokers b x at) (s.known_high_watermark b x at), is)

-- where a log is cut it ends
pub cut_ends : (p : State) (x : Broker) (n : ℕ) (y : Broker) → cut_to p x n ≡ Some y → (y.flushed_end ≡ n) × EndsAt n x.log
cut_ends p x n y is =
    let f = and_then_some _ (followed x.role) y is in
    let g = and_then_some _ (path_of p.paths f.0) y f.2 in
    let w = when_some _ _ y g.2 in
    let ends : end_of (common x.log g.0) ≡ n = grind (arith, nat_tests, w.0) in
    (ap (λ (z : Broker). z.flushed_end) (sym w.1), (common x.log g.0, common_left x.log g.0, ends))

-- a cut that fails: the log keeps all, and no more than the smaller end is flushed
pub join_fault : (p : State) (b : ℕ) (x : Broker) (n : ℕ) (q : State) → slice_get p.brokers b ≡ Some x → MayCut p x
    → option_map (λ (y : Broker). breaks p b (record x { flushed_end = min x.flushed_end n })) (cut_to p x n) ≡ Some q → PlainSafe p → Keeps p q
join_fault p b x n q at may e s =
    by_broker p q (λ (y : Broker). breaks p b (record x { flushed_end = min x.flushed_end n })) (cut_to p x n) e (λ y is.
    let h = s.brokers b x at in
    let c = swap_cut p x n y may is h (s.known_high_watermark b x at) in
    let ends = cut_ends p x n y is in
    let v : Swap p x (record (stopped x) { flushed_end = min x.flushed_end n; loose = true }) = record {
      broker = record { log = h.log; role = tt; flushed_end = ends_min x.flushed_end n x.log h.flushed_end ends.1; known_high_watermark = ends_at_zero x.log; down = λ _. (refl, refl) };
      known_high_watermark = record { shared = λ _. ([], (x.log, refl), refl, (p.committed, refl)); leader = λ i. absurd cc };
      leads = λ f i. absurd cc;
      acks = λ r a. record { flushed_end = omega (arith, a.flushed_end, (c.acks r a).flushed_end, ends.0); shared = a.shared; in_sync = a.in_sync };
      recorded = λ m a. let k = (swap_stop p x true h).recorded m a in record { stops = k.stops; up = k.up; leads = k.leads; joined = k.joined };
    } in
    broker_kept p b x (record (stopped x) { flushed_end = min x.flushed_end n; loose = true }) at v s)

-- the row of join
pub join_keeps : (p : State) (b : ℕ) (x : Broker) (recorded : Option PlainSnapshot) (answer : Answer) (q : State) → slice_get p.brokers b ≡ Some x → MayJoin p x recorded
    → join_row p b x recorded answer ≡ Some q → PlainSafe p → Keeps p q
join_keeps p b x None (DiskFaultAt n) q at j e s = join_fault p b x n q at j e s
join_keeps p b x None (Cut n) q at j e s =
    by_broker p q (put_broker p b) (cut_to p x n) e (λ y is. broker_kept p b x y at (swap_cut p x n y j is (s.brokers b x at) (s.known_high_watermark b x at)) s)
join_keeps p b x None other q at j e s = absurd (none-some q e)
join_keeps p b x (Some recorded) (Passed n) q at j e s = silent p q _ e s
join_keeps p b x (Some recorded) (BelowStart start) q at j e s = silent p q _ e s
join_keeps p b x (Some recorded) MetaFault q at j e s = silent p q _ e s
join_keeps p b x (Some recorded) StoreFault q at j e s = silent p q _ e s
join_keeps p b x (Some recorded) (Damaged place k) q at j e s = silent p q _ e s
join_keeps p b x (Some recorded) (DiskFaultAt n) q at j e s =
    by_broker p q (breaks p b) (rebuilt p x recorded n) e (λ y is.
    let v = (swap_rebuilt p b x recorded n y at j is s).0 in
    broker_kept p b x (record (stopped y) { loose = true }) at (swap_trans p x y _ v (swap_stop p y true v.broker)) s)
join_keeps p b x (Some recorded) (Rebuilt n) q at j e s =
    by_broker p q (λ (y : Broker). put_broker p b (record y { flushed_end = n })) (rebuilt p x recorded n) e (λ y is.
    let v = swap_rebuilt p b x recorded n y at j is s in
    let ends = extended_ends p x n y v.1 (λ g l h. (s.paths g l h).log_safe.consecutive) in
    let h = s.brokers b x at in
    let le = ends_below x.flushed_end x.log h.log.consecutive h.flushed_end in
    broker_kept p b x (record y { flushed_end = n }) at
    (swap_trans p x y _ v.0 (swap_all_stable p y n ends.0 (omega (arith, ends.1, ends.2, le)) v.0.broker v.0.known_high_watermark)) s)
join_keeps p b x (Some recorded) other q at j e s = absurd (none-some q e)

-- the row of follow
pub follow_keeps : (p : State) (b : ℕ) (x : Broker) (limit : ℕ) (recorded : Option PlainSnapshot) (answer : Answer) (q : State) → slice_get p.brokers b ≡ Some x → MayFollow x recorded
    → follow_row p b x limit recorded answer ≡ Some q → PlainSafe p → Keeps p q
follow_keeps p b x limit None (Moved n) q at j e s = silent p q _ e s
follow_keeps p b x limit None DiskFault q at j e s = silent p q true e s
follow_keeps p b x limit None (Damaged place k) q at j e s = silent p q true e s
follow_keeps p b x limit None other q at j e s = absurd (none-some q e)
follow_keeps p b x limit (Some recorded) (Passed n) q at j e s = silent p q _ e s
follow_keeps p b x limit (Some recorded) TooManySegments q at j e s = silent p q _ e s
follow_keeps p b x limit (Some recorded) DiskFault q at j e s = by_when p (breaks p b x) q _ e (λ _. breaks_kept p b x at s)
follow_keeps p b x limit (Some recorded) (Copied n) q at j e s =
    by_broker p q (put_broker p b) (copied p x recorded limit n) e (λ y c.
    let f = and_then_some _ (extended p x n) y c in
    let v = when_some _ _ y f.2 in
    let is : extended p x n ≡ Some y = f.1 ∙ ap Some v.1 in
    broker_kept p b x y at (swap_extended p x n j.0 y is j.1 (λ g l h. (s.paths g l h).log_safe) (s.brokers b x at) (s.known_high_watermark b x at)) s)
follow_keeps p b x limit (Some recorded) other q at j e s = absurd (none-some q e)
