-- What each row of the plain log does to brokers and to the log start offset.
use Rattle.log_terms.proofs.Lists.{and_then_some, prefix_self}
use Rattle.log_terms.proofs.Logs.{up_to_prefix}
use Rattle.log_terms.specs.Batch.{last_offset_delta_of}
use Rattle.log_terms.specs.Log.{end_of}
use Rattle.plain_log.proofs.Options.{both, not_true, when_some}
use Rattle.plain_log.specs.RowsOfElections.{elect_row, restarted, unclean_row, may_lead, led, learn_row}
use Rattle.plain_log.specs.RowsOfFollowers.{cut_to, extended, rebuilt, join_row, copied, follow_row}
use Rattle.plain_log.specs.RowsOfLog.{flush_row, roll_row, stop_row, may_open_at, opened, up_row, gained, append_row}
use Rattle.plain_log.specs.RowsOfReplicas.{acknowledged, ack_row, shrink_row, expand_row}
use Rattle.plain_log.specs.RowsOfTiers.{trim_row, is_behind, may_start, expire_row, raise_row}
use Rattle.plain_log.specs.Safe.{PlainSafe}
use Rattle.plain_log.specs.State.{breaks, set_registry, put_broker, stopped, path_of, leads_in, has_path}
use Rattle.plain_log.specs.declared.answer.Answer.{Answer}
use Rattle.plain_log.specs.declared.answer.Answer.TheVariants.{OkAt, DiskFault, StaleEpoch, MetaFault, StoreFault, Damaged, Kept, Dropped, Raised, Deleted, Ok, TooManySegments, EmptySegment, LastIncarnation, Up, OkSpan, Follows as FollowsAnswer, NeedsElection, Leads as LeadsAnswer, DiskFaultAt, Cut, Passed, BelowStart, Rebuilt, Moved, Copied}
use Rattle.plain_log.specs.declared.state.Broker.{Broker}
use Rattle.plain_log.specs.declared.state.PlainSnapshot.{PlainSnapshot}
use Rattle.plain_log.specs.declared.state.Role.TheVariants.{Leads, Follows}
use Rattle.plain_log.specs.declared.state.State.{State}
use Rattle.record_batch.specs.Stamp.{stamped}
use Rattle.registry.specs.Registry.{started, elected, elected_alone, with_ack, shrunk, expanded}
use Rattle.registry.specs.declared.registry.Replica.{Replica}
use Rattle.std.proofs.Common.{◌≡◌, subst, refl, ℕ, ◌≤◌, ◌==◌, Some, None, Option, slice_get, true, false, ◌&&◌, not, arith, inl, inr, ◌<◌, ◌+◌, List, [], ◌∷◌, ◌++◌, ap, ◌∙◌, min}
use Rattle.std.proofs.lemmas.Bool.Decides.{nat_tests}
use Rattle.std.proofs.lemmas.Option.{none-some}
use Rattle.std.specs.Prelude.{nat_lt, nat_le}
use Rattle.plain_log.proofs.FollowerRows.{MayFollow, MayJoin}
use Rattle.plain_log.proofs.LearnRow.{path_none}
use Rattle.plain_log.proofs.RowGrows.{RowGrows, like, stopping, none_grows, one_grows, put_grows, broke, silent, by_when, by_broker, cut_grows, extended_is, rebuilt_is}

-- the row of trim
pub trim_grows : (p : State) (b : ℕ) (x : Broker) (recorded : Option PlainSnapshot) (answer : Answer) (q : State) → slice_get p.brokers b ≡ Some x
    → trim_row p b x recorded answer ≡ Some q → PlainSafe p → RowGrows p q
trim_grows p b x None MetaFault q at e s = silent p q true e s
trim_grows p b x None other q at e s = absurd (none-some q e)
trim_grows p b x (Some recorded) Kept q at e s = silent p q true e s
trim_grows p b x (Some recorded) DiskFault q at e s = by_when p (breaks p b x) q true e (λ _. broke p b x at)
trim_grows p b x (Some recorded) (Dropped base last) q at e s = silent p q true e s
trim_grows p b x (Some recorded) other q at e s = absurd (none-some q e)

-- the row of expire
pub expire_grows : (p : State) (recorded : Option PlainSnapshot) (answer : Answer) (q : State) → expire_row p recorded answer ≡ Some q → PlainSafe p → RowGrows p q
expire_grows p None MetaFault q e s = silent p q true e s
expire_grows p None other q e s = absurd (none-some q e)
expire_grows p (Some recorded) Kept q e s = silent p q true e s
expire_grows p (Some recorded) (StaleEpoch n) q e s = silent p q _ e s
expire_grows p (Some recorded) (Raised start) q e s =
    by_when p (set_registry p (started p.registry start)) q (not (is_behind p recorded) && may_start p start) e (λ w.
    let t = both (nat_lt p.registry.start start) (nat_le start p.registry.mark) (both (not (is_behind p recorded)) (may_start p start) w).1 in
    let low : p.registry.start < start = grind (arith, nat_tests, t.0) in
    none_grows p (set_registry p (started p.registry start)) refl (omega (arith, low)))
expire_grows p (Some recorded) MetaFault q e s = silent p q true e s
expire_grows p (Some recorded) StoreFault q e s = silent p q true e s
expire_grows p (Some recorded) (Deleted id) q e s = silent p q true e s
expire_grows p (Some recorded) other q e s = absurd (none-some q e)

-- the row of raise, to an offset that isn't below the log start offset
pub raise_grows : (p : State) (wanted : ℕ) (answer : Answer) (q : State) → p.registry.start ≤ wanted → raise_row p wanted answer ≡ Some q → PlainSafe p → RowGrows p q
raise_grows p wanted (OkAt start) q above e s =
    by_when p (set_registry p (started p.registry wanted)) q (start == wanted) e (λ _. none_grows p (set_registry p (started p.registry wanted)) refl above)
raise_grows p wanted other q above e s = absurd (none-some q e)

-- the row of flush
pub flush_grows : (p : State) (b : ℕ) (x : Broker) (answer : Answer) (q : State) → slice_get p.brokers b ≡ Some x → flush_row p b x answer ≡ Some q → PlainSafe p → RowGrows p q
flush_grows p b x DiskFault q at e s = by_when p (breaks p b x) q true e (λ _. broke p b x at)
flush_grows p b x (OkAt n) q at e s =
    by_when p (put_broker p b (record x { flushed_end = n })) q _ e (λ w. put_grows p b x (record x { flushed_end = n }) at (like p.paths x (record x { flushed_end = n }) refl refl refl))
flush_grows p b x other q at e s = absurd (none-some q e)

-- the row of roll
pub roll_grows : (p : State) (b : ℕ) (x : Broker) (answer : Answer) (q : State) → slice_get p.brokers b ≡ Some x → roll_row p b x answer ≡ Some q → PlainSafe p → RowGrows p q
roll_grows p b x EmptySegment q at e s = silent p q true e s
roll_grows p b x TooManySegments q at e s = silent p q true e s
roll_grows p b x DiskFault q at e s = by_when p (breaks p b x) q true e (λ _. broke p b x at)
roll_grows p b x (OkAt n) q at e s = silent p q _ e s
roll_grows p b x other q at e s = absurd (none-some q e)

-- the row of stop
pub stop_grows : (p : State) (b : ℕ) (x : Broker) (answer : Answer) (q : State) → slice_get p.brokers b ≡ Some x → stop_row p b x answer ≡ Some q → PlainSafe p → RowGrows p q
stop_grows p b x Ok q at e s =
    by_when p (put_broker p b (stopped x)) q true e (λ _. put_grows p b x (stopped x) at (stopping p.paths x (stopped x) refl refl))
stop_grows p b x other q at e s = absurd (none-some q e)

-- the row of up
pub up_grows : (p : State) (b : ℕ) (x : Broker) (answer : Answer) (q : State) → slice_get p.brokers b ≡ Some x → x.up ≡ false → up_row p b x answer ≡ Some q → PlainSafe p → RowGrows p q
up_grows p b x DiskFault q at down e s = silent p q true e s
up_grows p b x (Damaged place k) q at down e s = silent p q true e s
up_grows p b x LastIncarnation q at down e s = silent p q true e s
up_grows p b x (Up n) q at down e s =
    by_when p (put_broker p b (opened x n)) q (may_open_at x n) e (λ w.
    let idle = ((s.brokers b x at).down down).0 in
    put_grows p b x (opened x n) at (record { stops = omega arith; log = inr (up_to_prefix n x.log); leads = λ k _ role. absurd (cc (idle, role)) }))
up_grows p b x other q at down e s = absurd (none-some q e)

-- the row of append, and of raw
pub append_grows : (p : State) (b : ℕ) (x : Broker) (batch : List ℕ) (answer : Answer) (q : State) → slice_get p.brokers b ≡ Some x
    → append_row p b x batch answer ≡ Some q → PlainSafe p → RowGrows p q
append_grows p b x batch TooManySegments q at e s = silent p q true e s
append_grows p b x batch DiskFault q at e s = by_when p (breaks p b x) q true e (λ _. broke p b x at)
append_grows p b x batch (OkSpan base last n) q at e s =
    by_when p (gained p b x n (stamped batch base n)) q (leads_in n x.role && (base == end_of x.log) && (last == base + last_offset_delta_of batch)) e
    (λ w. one_grows p (gained p b x n (stamped batch base n)) b x (record x { log = x.log ++ stamped batch base n ∷ [] }) at refl (omega arith)
    (record { stops = omega arith; log = inl (stamped batch base n ∷ [], refl); leads = λ k _ role. inl (role, (stamped batch base n ∷ [], refl)) }))
append_grows p b x batch other q at e s = absurd (none-some q e)

-- the row of elect
pub elect_grows : (p : State) (b : ℕ) (answer : Answer) (q : State) → elect_row p b answer ≡ Some q → PlainSafe p → RowGrows p q
elect_grows p b (OkAt n) q e s =
    by_when p (set_registry p (elected p.registry b)) q (n == p.registry.epoch + 1) e (λ _. none_grows p (set_registry p (elected p.registry b)) refl (omega arith))
elect_grows p b other q e s = absurd (none-some q e)

-- the row of unclean
pub unclean_grows : (p : State) (b : ℕ) (x : Broker) (answer : Answer) (q : State) → unclean_row p b x answer ≡ Some q → PlainSafe p → RowGrows p q
unclean_grows p b x (OkAt n) q e s =
    by_when p (set_registry (restarted p x) (elected_alone p.registry b x.flushed_end)) q (n == p.registry.epoch + 1) e
    (λ _. none_grows p (set_registry (restarted p x) (elected_alone p.registry b x.flushed_end)) refl (omega arith))
unclean_grows p b x other q e s = absurd (none-some q e)

-- the row of learn
pub learn_grows : (p : State) (b : ℕ) (x : Broker) (answer : Answer) (q : State) → slice_get p.brokers b ≡ Some x → learn_row p b x answer ≡ Some q → PlainSafe p → RowGrows p q
learn_grows p b x (NeedsElection n) q bx e s = silent p q _ e s
learn_grows p b x (FollowsAnswer n) q bx e s =
    by_when p (put_broker p b (record x { role = Follows n })) q _ e
    (λ w. put_grows p b x (record x { role = Follows n }) bx (record { stops = omega arith; log = inl (prefix_self x.log); leads = λ k _ role. absurd (cc (role)) }))
learn_grows p b x (LeadsAnswer n) q bx e s =
    by_when p (led p b x n) q ((n == p.registry.epoch) && may_lead p b) e (λ w.
    let t = both (n == p.registry.epoch) (may_lead p b) w in
    let v = both (p.registry.leader.0 == b) (not (has_path p p.registry.epoch)) t.1 in
    let now : p.registry.epoch ≡ n = grind (arith, nat_tests, t.0) in
    let none = path_none p p.registry.epoch (not_true (has_path p p.registry.epoch) v.1) in
    one_grows p (led p b x n) b x (record x { role = Leads n; flushed_end = end_of x.log; known_high_watermark = p.registry.mark }) bx refl (omega arith)
    (record { stops = omega arith; log = inl (prefix_self x.log); leads = λ k _ role. inr (let same : n ≡ k = cc (role) in subst (λ (z : ℕ). path_of p.paths z ≡ None) (now ∙ same) none) }))
learn_grows p b x DiskFault q bx e s =
    by_when p (record (breaks p b x) { broken = p.registry.epoch ∷ p.broken }) q (may_lead p b) e
    (λ _. one_grows p (record (breaks p b x) { broken = p.registry.epoch ∷ p.broken }) b x (record (stopped x) { loose = true }) bx refl (omega arith)
    (stopping p.paths x (record (stopped x) { loose = true }) refl refl))
learn_grows p b x other q bx e s = absurd (none-some q e)

-- the row of join
pub join_grows : (p : State) (b : ℕ) (x : Broker) (recorded : Option PlainSnapshot) (answer : Answer) (q : State) → slice_get p.brokers b ≡ Some x → MayJoin p x recorded
    → join_row p b x recorded answer ≡ Some q → PlainSafe p → RowGrows p q
join_grows p b x None (DiskFaultAt n) q at j e s =
    by_broker p q (λ (y : Broker). breaks p b (record x { flushed_end = min x.flushed_end n })) (cut_to p x n) e (λ y is.
    put_grows p b x (record (stopped x) { flushed_end = min x.flushed_end n; loose = true }) at (stopping p.paths x (record (stopped x) { flushed_end = min x.flushed_end n; loose = true }) refl refl))
join_grows p b x None (Cut n) q at j e s = by_broker p q (put_broker p b) (cut_to p x n) e (λ y is. put_grows p b x y at (cut_grows p x n y is))
join_grows p b x None other q at j e s = absurd (none-some q e)
join_grows p b x (Some recorded) (Passed n) q at j e s = silent p q _ e s
join_grows p b x (Some recorded) (BelowStart start) q at j e s = silent p q _ e s
join_grows p b x (Some recorded) MetaFault q at j e s = silent p q _ e s
join_grows p b x (Some recorded) StoreFault q at j e s = silent p q _ e s
join_grows p b x (Some recorded) (Damaged place k) q at j e s = silent p q _ e s
join_grows p b x (Some recorded) (DiskFaultAt n) q at j e s =
    by_broker p q (breaks p b) (rebuilt p x recorded n) e (λ y is.
    let v = rebuilt_is p b x recorded j.0 n y at j.1 is s in
    put_grows p b x (record (stopped y) { loose = true }) at
    (record { stops = omega (arith, v.stops); log = inl v.log; leads = λ k same role. absurd (cc (role)) }))
join_grows p b x (Some recorded) (Rebuilt n) q at j e s =
    by_broker p q (λ (y : Broker). put_broker p b (record y { flushed_end = n })) (rebuilt p x recorded n) e (λ y is.
    let v = rebuilt_is p b x recorded j.0 n y at j.1 is s in
    put_grows p b x (record y { flushed_end = n }) at
    (record { stops = omega (arith, v.stops); log = inl v.log; leads = λ k same role. absurd (cc (role, v.role)) }))
join_grows p b x (Some recorded) other q at j e s = absurd (none-some q e)

-- the row of follow
pub follow_grows : (p : State) (b : ℕ) (x : Broker) (limit : ℕ) (recorded : Option PlainSnapshot) (answer : Answer) (q : State) → slice_get p.brokers b ≡ Some x → MayFollow x recorded
    → follow_row p b x limit recorded answer ≡ Some q → PlainSafe p → RowGrows p q
follow_grows p b x limit None (Moved n) q at j e s = silent p q _ e s
follow_grows p b x limit None DiskFault q at j e s = silent p q true e s
follow_grows p b x limit None (Damaged place k) q at j e s = silent p q true e s
follow_grows p b x limit None other q at j e s = absurd (none-some q e)
follow_grows p b x limit (Some recorded) (Passed n) q at j e s = silent p q _ e s
follow_grows p b x limit (Some recorded) TooManySegments q at j e s = silent p q _ e s
follow_grows p b x limit (Some recorded) DiskFault q at j e s = by_when p (breaks p b x) q _ e (λ _. broke p b x at)
follow_grows p b x limit (Some recorded) (Copied n) q at j e s =
    by_broker p q (put_broker p b) (copied p x recorded limit n) e (λ y c.
    let f = and_then_some _ (extended p x n) y c in
    let v = when_some _ _ y f.2 in
    let w = extended_is p b x j.0 n y at j.1 (f.1 ∙ ap Some v.1) s in
    put_grows p b x y at (record { stops = omega (arith, w.stops); log = inl w.log; leads = λ k same role. absurd (cc (role, w.role)) }))
follow_grows p b x limit (Some recorded) other q at j e s = absurd (none-some q e)

-- the row of ack
pub ack_grows : (p : State) (b : ℕ) (x : Broker) (r : Replica) (answer : Answer) (q : State) → slice_get p.brokers b ≡ Some x → ack_row p b x r answer ≡ Some q → PlainSafe p → RowGrows p q
ack_grows p b x r (OkAt m) q bx e s =
    let f = and_then_some _ (path_of p.paths p.registry.epoch) q e in
    by_when p (acknowledged p b x r f.0) q (m == (with_ack p.registry b r x.flushed_end).mark) f.2
    (λ w. one_grows p (acknowledged p b x r f.0) b x (record x { known_high_watermark = min (with_ack p.registry b r x.flushed_end).mark (end_of x.log) }) bx refl (omega arith)
    (like p.paths x (record x { known_high_watermark = min (with_ack p.registry b r x.flushed_end).mark (end_of x.log) }) refl refl refl))
ack_grows p b x r other q bx e s = absurd (none-some q e)

-- the row of shrink
pub shrink_grows : (p : State) (b : ℕ) (r : Replica) (answer : Answer) (q : State) → shrink_row p b r answer ≡ Some q → PlainSafe p → RowGrows p q
shrink_grows p b r Ok q e s = by_when p (set_registry p (shrunk p.registry b r)) q true e (λ w. none_grows p (set_registry p (shrunk p.registry b r)) refl (omega arith))
shrink_grows p b r other q e s = absurd (none-some q e)

-- the row of expand
pub expand_grows : (p : State) (b : ℕ) (r : Replica) (answer : Answer) (q : State) → expand_row p b r answer ≡ Some q → PlainSafe p → RowGrows p q
expand_grows p b r Ok q e s = by_when p (set_registry p (expanded p.registry b r)) q true e (λ w. none_grows p (set_registry p (expanded p.registry b r)) refl (omega arith))
expand_grows p b r other q e s = absurd (none-some q e)
