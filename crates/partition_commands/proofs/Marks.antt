-- No call of the registry lowers the high watermark within an epoch.
use Rattle.std.proofs.Common.{◌≡◌, subst, refl, ℕ, ◌+◌, ◌<◌, ◌≤◌, ◌==◌, Some, Result, Ok, Err, Bool, not, ◌&&◌, arith}
use Rattle.std.specs.Prelude.{nat_le, nat_lt}
use Rattle.std.proofs.lemmas.Bool.Decides.{nat_tests}
use Rattle.registry.specs.declared.registry.Replica.{Replica}
use Rattle.registry.specs.declared.registry.Registry.{Registry}
use Rattle.registry.specs.declared.refusal.RegRefusal.{RegRefusal}
use Rattle.registry.specs.declared.refusal.RegRefusal.TheVariants.{LastEpoch, NotInSync, DownBroker, BehindStart, StaleEpoch, IsLeader, Behind, NotAbove, AboveMark}
use Rattle.registry.specs.Registry.{elected, elected_alone, with_ack, shrunk, expanded, started}
use Rattle.registry.specs.Calls.{when, is_stale, after_elect, after_unclean, after_ack, after_shrink, after_expand, after_raise}
use Rattle.plain_log.proofs.Options.{when_some, both, le_of, not_true}

-- where the epoch is the same, the high watermark hasn't fallen
abbrev pub MarkStays : Registry → Registry → Type 0
MarkStays r after = after.epoch ≡ r.epoch → r.mark ≤ after.mark

refused : (r after : Registry) (b : Bool) → when b r ≡ Some after → MarkStays r after
refused r after b e = subst (MarkStays r) (when_some b r after e).1 (λ same. omega arith)

went : (r next after : Registry) (b : Bool) → when b next ≡ Some after → r.mark ≤ next.mark → MarkStays r after
went r next after b e low = subst (MarkStays r) (when_some b next after e).1 (λ same. low)

-- another epoch
began : (r next after : Registry) (b : Bool) → when b next ≡ Some after → next.epoch ≡ r.epoch + 1 → MarkStays r after
began r next after b e is = subst (MarkStays r) (when_some b next after e).1 (λ same. absurd (omega (arith, is, same)))

pub elect_marks : (r : Registry) (b : ℕ) (s : Replica) (up : Bool) (answer : Result ℕ RegRefusal) (after : Registry) → after_elect r b s up answer ≡ Some after → MarkStays r after
elect_marks r b s up (Err LastEpoch) after e = refused r after _ e
elect_marks r b s up (Err NotInSync) after e = refused r after _ e
elect_marks r b s up (Err DownBroker) after e = refused r after _ e
elect_marks r b s up (Ok epoch) after e = began r (elected r b) after _ e refl
elect_marks r b s up other after e = absurd cc

pub unclean_marks : (r : Registry) (b : ℕ) (up : Bool) (flushed_end : ℕ) (answer : Result ℕ RegRefusal) (after : Registry) → after_unclean r b up flushed_end answer ≡ Some after → MarkStays r after
unclean_marks r b up flushed_end (Err LastEpoch) after e = refused r after _ e
unclean_marks r b up flushed_end (Err DownBroker) after e = refused r after _ e
unclean_marks r b up flushed_end (Err (BehindStart end start)) after e = refused r after _ e
unclean_marks r b up flushed_end (Ok epoch) after e = began r (elected_alone r b flushed_end) after _ e refl
unclean_marks r b up flushed_end other after e = absurd cc

pub ack_marks : (r : Registry) (b : ℕ) (s : Replica) (epoch flushed_end : ℕ) (answer : Result ℕ RegRefusal) (after : Registry) → after_ack r b s epoch flushed_end answer ≡ Some after → MarkStays r after
ack_marks r b s epoch flushed_end (Err (StaleEpoch current)) after e = refused r after _ e
ack_marks r b s epoch flushed_end (Ok mark) after e = went r (with_ack r b s flushed_end) after _ e (omega arith)
ack_marks r b s epoch flushed_end other after e = absurd cc

pub shrink_marks : (r : Registry) (b : ℕ) (s : Replica) (answer : Result (Unit {0}) RegRefusal) (after : Registry) → after_shrink r b s answer ≡ Some after → MarkStays r after
shrink_marks r b s (Err NotInSync) after e = refused r after _ e
shrink_marks r b s (Err IsLeader) after e = refused r after _ e
shrink_marks r b s (Ok done) after e = went r (shrunk r b s) after _ e (omega arith)
shrink_marks r b s other after e = absurd cc

pub expand_marks : (r : Registry) (b : ℕ) (s : Replica) (up : Bool) (answer : Result (Unit {0}) RegRefusal) (after : Registry) → after_expand r b s up answer ≡ Some after → MarkStays r after
expand_marks r b s up (Err DownBroker) after e = refused r after _ e
expand_marks r b s up (Err (Behind ack mark)) after e = refused r after _ e
expand_marks r b s up (Ok done) after e = went r (expanded r b s) after _ e (omega arith)
expand_marks r b s up other after e = absurd cc

pub raise_marks : (r : Registry) (epoch wanted : ℕ) (answer : Result ℕ RegRefusal) (after : Registry) → after_raise r epoch wanted answer ≡ Some after → MarkStays r after
raise_marks r epoch wanted (Err (StaleEpoch current)) after e = refused r after _ e
raise_marks r epoch wanted (Err (NotAbove start)) after e = refused r after _ e
raise_marks r epoch wanted (Err (AboveMark mark)) after e = refused r after _ e
raise_marks r epoch wanted (Ok start) after e = went r (started r wanted) after _ e (omega arith)
raise_marks r epoch wanted other after e = absurd cc

-- a raise above the log start and to the high watermark at most is refused only since another epoch is the registry's
pub raise_stale : (r : Registry) (epoch wanted : ℕ) (why : RegRefusal) (after : Registry) → after_raise r epoch wanted (Err why) ≡ Some after
    → r.start < wanted → (r.epoch ≤ epoch → wanted ≤ r.mark) → ((current : ℕ) → why ≡ StaleEpoch current → ⊥) → ⊥
raise_stale r epoch wanted (StaleEpoch current) after e above within never = never current refl
raise_stale r epoch wanted (NotAbove start) after e above within never =
    let w = when_some (not (is_stale r epoch) && nat_le wanted r.start && (start == r.start)) r after e in
    let t = both (not (is_stale r epoch) && nat_le wanted r.start) (start == r.start) w.0 in
    let u = both (not (is_stale r epoch)) (nat_le wanted r.start) t.0 in
    let le = le_of wanted r.start u.1 in
    omega (arith, le, above)
raise_stale r epoch wanted (AboveMark mark) after e above within never =
    let w = when_some (not (is_stale r epoch) && nat_lt r.start wanted && nat_lt r.mark wanted && (mark == r.mark)) r after e in
    let t = both (not (is_stale r epoch) && nat_lt r.start wanted && nat_lt r.mark wanted) (mark == r.mark) w.0 in
    let u = both (not (is_stale r epoch) && nat_lt r.start wanted) (nat_lt r.mark wanted) t.0 in
    let v = both (not (is_stale r epoch)) (nat_lt r.start wanted) u.0 in
    let high : r.mark < wanted = grind (arith, nat_tests, u.1) in
    let fresh = not_true (is_stale r epoch) v.0 in
    let current : r.epoch ≤ epoch = grind (arith, nat_tests, fresh) in
    let low = within current in
    omega (arith, high, low)
raise_stale r epoch wanted other after e above within never = absurd cc
