-- The rows of flush, roll, stop and up.
use Rattle.std.proofs.Common.{◌≡◌, subst, ℕ, ◌≤◌, ◌==◌, Some, slice_get, Bool, true, false, ◌&&◌, refl, arith}
use Rattle.std.specs.Prelude.{nat_le}
use Rattle.std.proofs.lemmas.Bool.Decides.{nat_tests}
use Rattle.std.proofs.lemmas.Option.{none-some}
use Rattle.log_terms.specs.Log.{end_of, EndsAt}
use Rattle.plain_log.specs.declared.answer.Answer.{Answer}
use Rattle.plain_log.specs.declared.answer.Answer.TheVariants.{Ok, OkAt, TooManySegments, DiskFault, EmptySegment, Damaged, LastIncarnation, Up}
use Rattle.plain_log.specs.declared.state.State.{State}
use Rattle.plain_log.specs.declared.state.Broker.{Broker}
use Rattle.plain_log.specs.Ends.{is_end}
use Rattle.plain_log.specs.State.{put_broker, stopped, breaks}
use Rattle.plain_log.specs.RowsOfLog.{flush_row, roll_row, stop_row, may_open_at, opened, up_row}
use Rattle.plain_log.specs.Safe.{PlainSafe}
use Rattle.log_terms.proofs.Logs.{ends_below, ends_at_end}
use Rattle.plain_log.proofs.Ends.{is_end_ends}
use Rattle.plain_log.proofs.Swaps.{swap_all_stable, swap_stop, swap_up}
use Rattle.plain_log.proofs.Keeps.{Keeps, silent, by_when, broker_kept, breaks_kept}

-- the row of flush
pub flush_keeps : (p : State) (b : ℕ) (x : Broker) (answer : Answer) (q : State) → slice_get p.brokers b ≡ Some x → flush_row p b x answer ≡ Some q → PlainSafe p → Keeps p q
flush_keeps p b x DiskFault q at e s = by_when p (breaks p b x) q true e (λ _. breaks_kept p b x at s)
flush_keeps p b x (OkAt n) q at e s =
    by_when p (put_broker p b (record x { flushed_end = n })) q _ e (λ w.
    let is : end_of x.log ≡ n = grind (arith, nat_tests, w) in
    let h = s.brokers b x at in
    let all : EndsAt n x.log = subst (λ (k : ℕ). EndsAt k x.log) is (ends_at_end x.log) in
    broker_kept p b x (record x { flushed_end = n }) at
    (swap_all_stable p x n all (omega (arith, is, ends_below x.flushed_end x.log h.log.consecutive h.flushed_end)) h (s.known_high_watermark b x at)) s)
flush_keeps p b x other q at e s = absurd (none-some q e)

-- the row of roll
pub roll_keeps : (p : State) (b : ℕ) (x : Broker) (answer : Answer) (q : State) → slice_get p.brokers b ≡ Some x → roll_row p b x answer ≡ Some q → PlainSafe p → Keeps p q
roll_keeps p b x EmptySegment q at e s = silent p q true e s
roll_keeps p b x TooManySegments q at e s = silent p q true e s
roll_keeps p b x DiskFault q at e s = by_when p (breaks p b x) q true e (λ _. breaks_kept p b x at s)
roll_keeps p b x (OkAt n) q at e s = silent p q _ e s
roll_keeps p b x other q at e s = absurd (none-some q e)

-- the row of stop
pub stop_keeps : (p : State) (b : ℕ) (x : Broker) (answer : Answer) (q : State) → slice_get p.brokers b ≡ Some x → stop_row p b x answer ≡ Some q → PlainSafe p → Keeps p q
stop_keeps p b x Ok q at e s =
    by_when p (put_broker p b (stopped x)) q true e (λ _. broker_kept p b x (stopped x) at (swap_stop p x x.loose (s.brokers b x at)) s)
stop_keeps p b x other q at e s = absurd (none-some q e)

-- where a broker may open, its log ends
may_open_ends : (x : Broker) (n : ℕ) → may_open_at x n ≡ true → EndsAt x.flushed_end x.log → EndsAt n x.log × (x.flushed_end ≤ n)
may_open_ends x n e h = go x.loose refl e
  where
    go : (l : Bool) → x.loose ≡ l → may_open_at x n ≡ true → EndsAt n x.log × (x.flushed_end ≤ n)
    go true is t =
        let u : is_end n x.log && nat_le x.flushed_end n && nat_le n (end_of x.log) ≡ true = (rw is at t) in
        let ends : is_end n x.log ≡ true = grind (arith, nat_tests, u) in
        (is_end_ends n x.log ends, grind (arith, nat_tests, u))
    go false is t =
        let u : (n == x.flushed_end) ≡ true = (rw is at t) in
        let same : x.flushed_end ≡ n = grind (arith, nat_tests, u) in
        (subst (λ (z : ℕ). EndsAt z x.log) same h, omega (arith, same))

-- the row of up
pub up_keeps : (p : State) (b : ℕ) (x : Broker) (answer : Answer) (q : State) → slice_get p.brokers b ≡ Some x → x.up ≡ false → up_row p b x answer ≡ Some q → PlainSafe p → Keeps p q
up_keeps p b x DiskFault q at down e s = silent p q true e s
up_keeps p b x (Damaged place k) q at down e s = silent p q true e s
up_keeps p b x LastIncarnation q at down e s = silent p q true e s
up_keeps p b x (Up n) q at down e s =
    by_when p (put_broker p b (opened x n)) q (may_open_at x n) e (λ w.
    let h = s.brokers b x at in
    let m = may_open_ends x n w h.flushed_end in
    broker_kept p b x (opened x n) at (swap_up p x n down m.0 m.1 h (s.known_high_watermark b x at)) s)
up_keeps p b x other q at down e s = absurd (none-some q e)
