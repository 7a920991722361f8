-- A follower comes to where its log meets the leader's, and copies from there on: what is done where no test refuses it
-- (Refusals).
--
--   join     first DiskFaultAt, Cut; then Passed, BelowStart, MetaFault, StoreFault, Damaged, DiskFaultAt, Rebuilt
--   follow   first Moved, DiskFault, Damaged; then Passed, TooManySegments, DiskFault, Copied
--
-- A join that cuts below the leader's local log continues to further turns, the last of which restarts the log. The
-- plain log sees that as the leader's path up to there.
use Rattle.std.specs.Prelude.{ℕ, ◌==◌, ◌&&◌, not, nat_lt, nat_le, min, Bool, length}
use Rattle.std.specs.Prelude.{drop, Option, Some, None, option_map, unwrap_or}
use Rattle.std.specs.Option.{option_and_then}
use Rattle.log_terms.specs.Log.{end_of, up_to}
use Rattle.registry.specs.Calls.{when}
use Rattle.plain_log.specs.declared.answer.Answer.{Answer}
use Rattle.plain_log.specs.declared.answer.Answer.TheVariants.{TooManySegments, DiskFault, DiskFaultAt, Cut}
use Rattle.plain_log.specs.declared.answer.Answer.TheVariants.{Passed, BelowStart, MetaFault, StoreFault}
use Rattle.plain_log.specs.declared.answer.Answer.TheVariants.{Damaged, Rebuilt, Moved, Copied}
use Rattle.plain_log.specs.declared.state.State.{State}
use Rattle.plain_log.specs.declared.state.Broker.{Broker}
use Rattle.plain_log.specs.declared.state.PlainSnapshot.{PlainSnapshot}
use Rattle.plain_log.specs.declared.state.Role.TheVariants.{Joined}
use Rattle.plain_log.specs.Ends.{is_end, common}
use Rattle.plain_log.specs.Fetch.{is_within}
use Rattle.plain_log.specs.State.{followed, put_broker, breaks, path_of, leader_facts}

-- the broker with its log cut to where it meets the path of the epoch that it follows
abbrev pub cut_to : State → Broker → ℕ → Option Broker
cut_to p x n =
    option_and_then (λ e. option_and_then (λ path. when (n == end_of (common x.log path))
    (record x {
      role =
          Joined e;
      log = common x.log path;
      flushed_end = n;
      known_high_watermark = min x.known_high_watermark n;
    }))
    (path_of p.paths e)) (followed x.role)

-- the broker with the path up to n for its log, which that makes longer
abbrev pub extended : State → Broker → ℕ → Option Broker
extended p x n =
    option_and_then (λ e. option_and_then (λ path.
    when (is_end n path && nat_lt (end_of x.log) n) (record x { log = up_to n path }))
    (path_of p.paths e)) (followed x.role)

-- the log ends as it was recorded
abbrev pub ends_as : Broker → PlainSnapshot → Bool
ends_as x recorded = end_of x.log == recorded.end

-- the log start offset has reached n since the command began
abbrev pub was_passed : State → PlainSnapshot → ℕ → Bool
was_passed p recorded n = nat_lt recorded.start n && nat_le n p.registry.start

-- the broker with its log restarted at n
abbrev pub rebuilt : State → Broker → PlainSnapshot → ℕ → Option Broker
rebuilt p x recorded n =
    option_and_then (λ y. when (ends_as x recorded && not (was_passed p recorded n)) y) (extended p x n)

-- the log comes to where it meets the leader's
abbrev pub join_row : State → ℕ → Broker → Option PlainSnapshot → Answer → Option State
join_row p b x None (DiskFaultAt n) =
    option_map (λ y. breaks p b (record x { flushed_end = min x.flushed_end n })) (cut_to p x n)
join_row p b x None (Cut n) = option_map (put_broker p b) (cut_to p x n)
join_row p b x None other = None
join_row p b x (Some recorded) (Passed n) = when (not (ends_as x recorded) && (n == end_of x.log)) p
join_row p b x (Some recorded) (BelowStart start) =
    when (ends_as x recorded && (start == p.registry.start) && nat_lt recorded.start start) p
join_row p b x (Some recorded) MetaFault = when (ends_as x recorded) p
join_row p b x (Some recorded) StoreFault = when (ends_as x recorded) p
join_row p b x (Some recorded) (Damaged place at) = when (ends_as x recorded) p
join_row p b x (Some recorded) (DiskFaultAt n) = option_map (breaks p b) (rebuilt p x recorded n)
join_row p b x (Some recorded) (Rebuilt n) =
    option_map (λ y. put_broker p b (record y { flushed_end = n })) (rebuilt p x recorded n)
join_row p b x (Some recorded) other = None

-- where the leader's log ends
abbrev pub leader_end : State → ℕ
leader_end p = unwrap_or (option_map (λ y. y.end) (leader_facts p)) 0

-- the broker with what it copied up to n, at most so many bytes or one batch
abbrev pub copied : State → Broker → PlainSnapshot → ℕ → ℕ → Option Broker
copied p x recorded limit n =
    option_and_then (λ y. when (ends_as x recorded && is_within limit (drop (length x.log) y.log)) y) (extended p x n)

-- batches of the leader's log come to the follower's
abbrev pub follow_row : State → ℕ → Broker → ℕ → Option PlainSnapshot → Answer → Option State
follow_row p b x limit None (Moved n) = when (nat_lt (end_of x.log) n && nat_le n (leader_end p)) p
follow_row p b x limit None DiskFault = Some p
follow_row p b x limit None (Damaged place at) = Some p
follow_row p b x limit None other = None
follow_row p b x limit (Some recorded) (Passed n) = when (not (ends_as x recorded) && (n == end_of x.log)) p
follow_row p b x limit (Some recorded) TooManySegments = when (ends_as x recorded) p
follow_row p b x limit (Some recorded) DiskFault = when (ends_as x recorded) (breaks p b x)
follow_row p b x limit (Some recorded) (Copied n) = option_map (put_broker p b) (copied p x recorded limit n)
follow_row p b x limit (Some recorded) other = None
