-- What each call answers, and the registry after it: one function a call, by cases on the answer.
--
-- It gives none where the call isn't answered so. The tests of a call are in the order in which they are made: a later
-- answer comes only where no earlier one does. A refusal leaves the registry as it was. r is the registry before the
-- call, b the broker, s that broker's replica.
use Rattle.std.specs.Prelude.{ℕ, ◌+◌, ◌==◌, ◌&&◌, not, nat_lt, nat_le, Bool, true}
use Rattle.std.specs.Prelude.{false, Option, Some, None, Result, Ok, Err}
use Rattle.registry.specs.declared.registry.Replica.{Replica}
use Rattle.registry.specs.declared.registry.Registry.{Registry}
use Rattle.registry.specs.declared.refusal.RegRefusal.{RegRefusal}
use Rattle.registry.specs.declared.refusal.RegRefusal.TheVariants.{LastEpoch, NotInSync, DownBroker, BehindStart}
use Rattle.registry.specs.declared.refusal.RegRefusal.TheVariants.{StaleEpoch, IsLeader, Behind, NotAbove, AboveMark}
use Rattle.registry.specs.Registry.{epoch_limit, elected, elected_alone, with_ack, shrunk, expanded, started}

-- a value where the test holds
abbrev pub when : {A : Type 0} → Bool → A → Option A
when true x = Some x
when false x = None

-- no epoch follows
abbrev pub is_last : Registry → Bool
is_last r = nat_le epoch_limit r.epoch

-- the registry's epoch is above this one
abbrev pub is_stale : Registry → ℕ → Bool
is_stale r epoch = nat_lt epoch r.epoch

-- a clean election of the broker, which is up or not
abbrev pub after_elect : Registry → ℕ → Replica → Bool → Result ℕ RegRefusal → Option Registry
after_elect r b s up (Err LastEpoch) = when (is_last r) r
after_elect r b s up (Err NotInSync) = when (not (is_last r) && not s.in_sync) r
after_elect r b s up (Err DownBroker) = when (not (is_last r) && s.in_sync && not up) r
after_elect r b s up (Ok epoch) = when (not (is_last r) && s.in_sync && up && (epoch == r.epoch + 1)) (elected r b)
after_elect r b s up other = None

-- an unclean election of the broker, which is up or not, and whose flushed end is this one
abbrev pub after_unclean : Registry → ℕ → Bool → ℕ → Result ℕ RegRefusal → Option Registry
after_unclean r b up flushed_end (Err LastEpoch) = when (is_last r) r
after_unclean r b up flushed_end (Err DownBroker) = when (not (is_last r) && not up) r
after_unclean r b up flushed_end (Err (BehindStart end start)) =
    when (not (is_last r) && up && nat_lt flushed_end r.start && (end == flushed_end) && (start == r.start)) r
after_unclean r b up flushed_end (Ok epoch) =
    when (not (is_last r) && up && nat_le r.start flushed_end && (epoch == r.epoch + 1)) (elected_alone r b flushed_end)
after_unclean r b up flushed_end other = None

-- an acknowledgement of a flushed end by a broker of this epoch, which answers the high watermark
abbrev pub after_ack : Registry → ℕ → Replica → ℕ → ℕ → Result ℕ RegRefusal → Option Registry
after_ack r b s epoch flushed_end (Err (StaleEpoch current)) = when (is_stale r epoch && (current == r.epoch)) r
after_ack r b s epoch flushed_end (Ok mark) =
    when (not (is_stale r epoch) && (mark == (with_ack r b s flushed_end).mark)) (with_ack r b s flushed_end)
after_ack r b s epoch flushed_end other = None

-- the broker leaves the replicas in sync
abbrev pub after_shrink : Registry → ℕ → Replica → Result (Unit {0}) RegRefusal → Option Registry
after_shrink r b s (Err NotInSync) = when (not s.in_sync) r
after_shrink r b s (Err IsLeader) = when (s.in_sync && (r.leader.0 == b)) r
after_shrink r b s (Ok done) = when (s.in_sync && not (r.leader.0 == b)) (shrunk r b s)
after_shrink r b s other = None

-- the broker, which is up or not, comes to the replicas in sync; one of them stays one
abbrev pub after_expand : Registry → ℕ → Replica → Bool → Result (Unit {0}) RegRefusal → Option Registry
after_expand r b s up (Err DownBroker) = when (not up) r
after_expand r b s up (Err (Behind ack mark)) =
    when (up && nat_lt s.acked r.mark && (ack == s.acked) && (mark == r.mark)) r
after_expand r b s up (Ok done) = when (up && nat_le r.mark s.acked) (expanded r b s)
after_expand r b s up other = None

-- a raise of the log start offset by the leader of this epoch
abbrev pub after_raise : Registry → ℕ → ℕ → Result ℕ RegRefusal → Option Registry
after_raise r epoch wanted (Err (StaleEpoch current)) = when (is_stale r epoch && (current == r.epoch)) r
after_raise r epoch wanted (Err (NotAbove start)) =
    when (not (is_stale r epoch) && nat_le wanted r.start && (start == r.start)) r
after_raise r epoch wanted (Err (AboveMark mark)) =
    when (not (is_stale r epoch) && nat_lt r.start wanted && nat_lt r.mark wanted && (mark == r.mark)) r
after_raise r epoch wanted (Ok start) =
    when (not (is_stale r epoch) && nat_lt r.start wanted && nat_le wanted r.mark && (start == wanted))
    (started r wanted)
after_raise r epoch wanted other = None
