-- What a command is refused with is a refusal, so an answer that is the same is one.
use Rattle.std.proofs.Common.{◌≡◌, ℕ, List, ◌∷◌, [], Some, None, Option, Result, Ok, Err, slice_get, subst, refl, Bool, true, false, not, ◌==◌, ◌&&◌, arith}
use Rattle.std.specs.Prelude.{nat_lt, nat_le, ◌+◌, is_none, option_map, unwrap_or}
use Rattle.std.proofs.lemmas.Bool.Decides.{nat_tests}
use Rattle.log_terms.specs.Batch.{last_offset_delta_of}
use Rattle.record_batch.specs.Build.{built}
use Rattle.record_batch.specs.Check.{Batch, checked}
use Rattle.record_batch.specs.declared.refusal.BatchRefusal.{BatchRefusal}
use Rattle.record_batch.specs.declared.refusal.BatchRefusal.TheVariants.{Short, BadMagic, BadLength, BadCrc, Compressed, Transactional, Control, BadRecords}
use Rattle.registry.specs.declared.registry.Registry.{Registry}
use Rattle.registry.specs.declared.registry.Replica.{Replica}
use Rattle.registry.specs.Calls.{when, is_last, is_stale}
use Rattle.plain_log.specs.declared.answer.Answer.{Answer}
use Rattle.plain_log.specs.declared.answer.Answer.TheVariants.{Down, NotLeader, Refused, LastOffset, LastEpoch, NotInSync, DownBroker, BehindStart, Known, NotFollower, StaleEpoch}
use Rattle.plain_log.specs.declared.answer.Answer.TheVariants.{NoLeader, Stopped, NotJoined, Level, IsLeader, Behind, LostLead, NotAbove, AboveMark, IsUp, OutOfRange, Empty}
use Rattle.plain_log.specs.declared.command.Command.{Command}
use Rattle.plain_log.specs.declared.command.Command.TheVariants as command
use Rattle.plain_log.specs.declared.facts.Facts.{Facts}
use Rattle.plain_log.specs.declared.facts.Since.{Since}
use Rattle.plain_log.specs.Causes.{same_cause}
use Rattle.plain_log.specs.RowsOfLog.{offset_limit}
use Rattle.plain_log.specs.State.{leads, leads_in, leading, followed, joined, acking, knows, same_role}
use Rattle.plain_log.specs.Refusals.{refusal, first_of, same_refusal, runs_on}
use Rattle.plain_log.specs.Refusals.{down, not_leader, last_offset, refused, last_epoch, not_in_sync, down_broker, behind_start, known, not_follower, stale, no_leader, not_joined}
use Rattle.plain_log.specs.Refusals.{level, is_leader, behind, not_above, above_mark, out_of_range, empty, has_stopped, other_role, lost_lead}

-- if there is an answer it is a refusal
abbrev pub Refuses : Option Answer → Type 0
Refuses why = (answer : Answer) → why ≡ Some answer → same_refusal answer answer ≡ true

-- a test
of_test : (fails : Bool) (why : Answer) → same_refusal why why ≡ true → Refuses (when fails why)
of_test true why is = λ answer e. let same : why ≡ answer = cc (e) in subst (λ (z : Answer). same_refusal z z ≡ true) same is
of_test false why is = λ answer e. absurd cc

abbrev AllRefuse : List (Option Answer) → Type 0
AllRefuse [] = Unit {0}
AllRefuse (test ∷ tests) = Refuses test × AllRefuse tests

-- the first of tests
of_first : (tests : List (Option Answer)) → AllRefuse tests → Refuses (first_of tests)
of_first [] h = λ answer e. absurd cc
of_first (Some why ∷ tests) h = h.0
of_first (None ∷ tests) h = of_first tests h.1

same_number : (n : ℕ) → (n == n) ≡ true
same_number n = grind (arith, nat_tests)

same_numbers : (n m : ℕ) → (n == n) && (m == m) ≡ true
same_numbers n m = grind (arith, nat_tests)

-- the tests that tell numbers
of_cause : (why : BatchRefusal) → same_cause why why ≡ true
of_cause Short = refl
of_cause BadMagic = refl
of_cause BadLength = refl
of_cause (BadCrc kept computed) = same_numbers kept computed
of_cause Compressed = refl
of_cause Transactional = refl
of_cause Control = refl
of_cause (BadRecords at) = same_number at

of_bytes : (reading : Result Batch BatchRefusal) → Refuses (refused reading)
of_bytes (Ok batch) = λ answer e. absurd cc
of_bytes (Err why) = of_test true (Refused why) (of_cause why)

of_stale : (r : Registry) (epoch : Option ℕ) → Refuses (stale r epoch)
of_stale r None = λ answer e. absurd cc
of_stale r (Some e) = of_test (is_stale r e) (StaleEpoch r.epoch) (same_number r.epoch)

of_level : (leader : Option Facts) (f : Facts) → Refuses (level leader f)
of_level None f = λ answer e. absurd cc
of_level (Some y) f = of_test (nat_le y.end f.end) Level refl

of_behind : (r : Registry) (f : Facts) → Refuses (behind r f)
of_behind r f = go (slice_get r.replicas f.broker.0) refl
  where
    go : (o : Option Replica) → slice_get r.replicas f.broker.0 ≡ o → Refuses (behind r f)
    go None e = rw e (λ answer e. absurd cc)
    go (Some s) e = rw e (of_test (nat_lt s.acked r.mark) (Behind s.acked r.mark) (same_numbers s.acked r.mark))

of_down : (f : Facts) → Refuses (down f)
of_down f = of_test (not f.up) Down refl

of_not_leader : (f : Facts) → Refuses (not_leader f)
of_not_leader f = of_test (not (leads f.role)) NotLeader refl

of_last_offset : (f : Facts) (delta : ℕ) → Refuses (last_offset f delta)
of_last_offset f delta = of_test (nat_lt offset_limit (f.end + delta + 1)) LastOffset refl

of_last_epoch : (r : Registry) → Refuses (last_epoch r)
of_last_epoch r = of_test (is_last r) LastEpoch refl

of_not_in_sync : (r : Registry) (f : Facts) → Refuses (not_in_sync r f)
of_not_in_sync r f = of_test (not (unwrap_or (option_map (λ (s : Replica). s.in_sync) (slice_get r.replicas f.broker.0)) false)) NotInSync refl

of_down_broker : (f : Facts) → Refuses (down_broker f)
of_down_broker f = of_test (not f.up) DownBroker refl

of_no_leader : (r : Registry) (leader : Option Facts) → Refuses (no_leader r leader)
of_no_leader r leader = of_test (not (unwrap_or (option_map (λ (y : Facts). y.up && leads_in r.epoch y.role) leader) false)) NoLeader refl

of_range : (r : Registry) (f : Facts) (offset : ℕ) → Refuses (out_of_range r f offset)
of_range r f offset = of_test (not (nat_le r.start offset && nat_le offset f.end)) (OutOfRange r.start f.end) (same_numbers r.start f.end)

of_empty : (f : Facts) (offset : ℕ) → Refuses (empty f offset)
of_empty f offset = of_test (nat_le f.known_high_watermark offset) Empty refl

of_stopped : (f : Facts) (since : Since) → Refuses (has_stopped f since)
of_stopped f since = of_test (not (runs_on f since)) Stopped refl

of_other_role : (f : Facts) (since : Since) → Refuses (other_role f since)
of_other_role f since = of_test (not (same_role since.role f.role)) NotLeader refl

of_lost_lead : (f : Facts) (since : Since) → Refuses (lost_lead f since)
of_lost_lead f since = of_test (not (runs_on f since && same_role since.role f.role)) LostLead refl

of_not_joined : (epoch : Option ℕ) → Refuses (not_joined epoch)
of_not_joined epoch = of_test (is_none epoch) NotJoined refl

-- the answer of a command's tests
pub refusal_is : (r : Registry) (leader : Option Facts) (f : Facts) (since : Option Since) (c : Command) → Refuses (refusal r leader f since c)
refusal_is r leader f since (command.Append recs) = of_first (down f ∷ not_leader f ∷ last_offset f (last_offset_delta_of (built recs)) ∷ []) (of_down f, (of_not_leader f, (of_last_offset f (last_offset_delta_of (built recs)), tt)))
refusal_is r leader f since (command.Raw bytes) = of_first (down f ∷ not_leader f ∷ refused (checked bytes) ∷ last_offset f (last_offset_delta_of bytes) ∷ []) (of_down f, (of_not_leader f, (of_bytes (checked bytes), (of_last_offset f (last_offset_delta_of bytes), tt))))
refusal_is r leader f since command.Flush = of_down f
refusal_is r leader f since command.Roll = of_down f
refusal_is r leader f since command.Elect = of_first (last_epoch r ∷ not_in_sync r f ∷ down_broker f ∷ []) (of_last_epoch r, (of_not_in_sync r f, (of_down_broker f, tt)))
refusal_is r leader f since command.Unclean = of_first (last_epoch r ∷ down_broker f ∷ behind_start r f ∷ []) (of_last_epoch r, (of_down_broker f, (of_test (nat_lt f.flushed_end r.start) (BehindStart f.flushed_end r.start) (same_numbers f.flushed_end r.start), tt)))
refusal_is r leader f since command.Learn = of_first (down f ∷ known r f ∷ []) (of_down f, (of_test (knows r f.role) Known refl, tt))
refusal_is r leader f None command.Join = of_first (down f ∷ not_follower f ∷ stale r (followed f.role) ∷ no_leader r leader ∷ []) (of_down f, (of_test (is_none (followed f.role)) NotFollower refl, (of_stale r (followed f.role), (of_no_leader r leader, tt))))
refusal_is r leader f (Some since) command.Join = of_first (has_stopped f since ∷ stale r (followed since.role) ∷ []) (of_stopped f since, (of_stale r (followed since.role), tt))
refusal_is r leader f None (command.Follow limit) = of_first (down f ∷ not_joined (joined f.role) ∷ stale r (joined f.role) ∷ no_leader r leader ∷ level leader f ∷ []) (of_down f, (of_not_joined (joined f.role), (of_stale r (joined f.role), (of_no_leader r leader, (of_level leader f, tt)))))
refusal_is r leader f (Some since) (command.Follow limit) = of_first (has_stopped f since ∷ stale r (followed since.role) ∷ []) (of_stopped f since, (of_stale r (followed since.role), tt))
refusal_is r leader f since command.Ack = of_first (down f ∷ not_joined (acking f.role) ∷ stale r (acking f.role) ∷ []) (of_down f, (of_not_joined (acking f.role), (of_stale r (acking f.role), tt)))
refusal_is r leader f since command.Shrink = of_first (not_in_sync r f ∷ is_leader r f ∷ []) (of_not_in_sync r f, (of_test (r.leader.0 == f.broker.0) IsLeader refl, tt))
refusal_is r leader f since command.Expand = of_first (down_broker f ∷ behind r f ∷ []) (of_down_broker f, (of_behind r f, tt))
refusal_is r leader f None command.Copy = of_first (down f ∷ not_leader f ∷ []) (of_down f, (of_not_leader f, tt))
refusal_is r leader f (Some since) command.Copy = of_lost_lead f since
refusal_is r leader f None command.Trim = of_down f
refusal_is r leader f (Some since) command.Trim = of_stopped f since
refusal_is r leader f None command.Expire = of_first (down f ∷ not_leader f ∷ []) (of_down f, (of_not_leader f, tt))
refusal_is r leader f (Some since) command.Expire = of_lost_lead f since
refusal_is r leader f since (command.Raise start) = of_first (down f ∷ not_leader f ∷ stale r (leading f.role) ∷ not_above r start ∷ above_mark r start ∷ []) (of_down f, (of_not_leader f, (of_stale r (leading f.role), (of_test (nat_le start r.start) (NotAbove r.start) (same_number r.start), (of_test (nat_lt r.mark start) (AboveMark r.mark) (same_number r.mark), tt)))))
refusal_is r leader f since (command.Clock ms) = λ answer e. absurd cc
refusal_is r leader f since command.Stop = of_down f
refusal_is r leader f since command.Up = of_test f.up IsUp refl
refusal_is r leader f None (command.Fetch offset limit) = of_first (down f ∷ not_leader f ∷ out_of_range r f offset ∷ empty f offset ∷ []) (of_down f, (of_not_leader f, (of_range r f offset, (of_empty f offset, tt))))
refusal_is r leader f (Some since) (command.Fetch offset limit) = of_first (has_stopped f since ∷ other_role f since ∷ out_of_range r f offset ∷ empty f offset ∷ []) (of_stopped f since, (of_other_role f since, (of_range r f offset, (of_empty f offset, tt))))
refusal_is r leader f since (command.Pack on) = λ answer e. absurd cc
refusal_is r leader f since (command.Copying on) = λ answer e. absurd cc
refusal_is r leader f None (command.Offset which) = of_first (down f ∷ not_leader f ∷ []) (of_down f, (of_not_leader f, tt))
refusal_is r leader f (Some since) (command.Offset which) = of_first (has_stopped f since ∷ other_role f since ∷ []) (of_stopped f since, (of_other_role f since, tt))
