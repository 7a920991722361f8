-- The rows of the tiers.
use Rattle.std.proofs.Common.{◌≡◌, refl, ℕ, ◌≤◌, ◌==◌, [], ◌∷◌, Some, None, Option, slice_get, true, ◌&&◌, not, arith}
use Rattle.std.specs.Prelude.{nat_lt, nat_le}
use Rattle.std.proofs.lemmas.Bool.Decides.{nat_tests}
use Rattle.std.proofs.lemmas.Option.{none-some}
use Rattle.registry.specs.Registry.{started}
use Rattle.plain_log.specs.declared.answer.Answer.{Answer}
use Rattle.plain_log.specs.declared.answer.Answer.TheVariants.{OkAt, DiskFault, StaleEpoch, MetaFault, StoreFault, Kept, Dropped, Raised, Deleted, NotAbove, AboveMark}
use Rattle.plain_log.specs.declared.command.Command.TheVariants.{Raise}
use Rattle.plain_log.specs.declared.state.State.{State}
use Rattle.plain_log.specs.declared.state.Broker.{Broker}
use Rattle.plain_log.specs.declared.state.PlainSnapshot.{PlainSnapshot}
use Rattle.plain_log.specs.State.{leading, breaks, set_registry, facts_of}
use Rattle.plain_log.specs.RowsOfTiers.{trim_row, is_behind, may_start, expire_row, raise_row}
use Rattle.plain_log.specs.Refusals.{down, not_leader, stale, not_above, above_mark}
use Rattle.plain_log.specs.Rows.{refusal_at}
use Rattle.plain_log.specs.Safe.{PlainSafe}
use Rattle.plain_log.proofs.Options.{both, le_of}
use Rattle.plain_log.proofs.Keeps.{Keeps, kept, silent, by_when, breaks_kept}
use Rattle.plain_log.proofs.Tests.{passes, passed}

-- the row of trim
pub trim_keeps : (p : State) (b : ℕ) (x : Broker) (recorded : Option PlainSnapshot) (answer : Answer) (q : State) → slice_get p.brokers b ≡ Some x
    → trim_row p b x recorded answer ≡ Some q → PlainSafe p → Keeps p q
trim_keeps p b x None MetaFault q at e s = silent p q true e s
trim_keeps p b x None other q at e s = absurd (none-some q e)
trim_keeps p b x (Some recorded) Kept q at e s = silent p q true e s
trim_keeps p b x (Some recorded) DiskFault q at e s = by_when p (breaks p b x) q true e (λ _. breaks_kept p b x at s)
trim_keeps p b x (Some recorded) (Dropped base last) q at e s = silent p q true e s
trim_keeps p b x (Some recorded) other q at e s = absurd (none-some q e)

-- the log start offset is at most the high watermark
pub start_safe : (p : State) (n : ℕ) → n ≤ p.registry.mark → PlainSafe p → PlainSafe (set_registry p (started p.registry n))
start_safe p n le s = record {
  marks = record { start = le; consecutive = s.marks.consecutive; ends = s.marks.ends; begins = s.marks.begins; epoch = s.marks.epoch };
  paths = s.paths;
  brokers = s.brokers;
  known_high_watermark = s.known_high_watermark;
  one_leader = s.one_leader;
  acks = s.acks;
  leader = s.leader;
  leader_within = s.leader_within;
  same_count = s.same_count;
  broken = s.broken;
  recorded = s.recorded;
}

-- the log start offset is raised to one that the high watermark has reached
started_keeps : (p : State) (n : ℕ) → n ≤ p.registry.mark → PlainSafe p → Keeps p (set_registry p (started p.registry n))
started_keeps p n le s = kept p (set_registry p (started p.registry n)) refl refl refl refl (start_safe p n le s)

-- the row of expire
pub expire_keeps : (p : State) (recorded : Option PlainSnapshot) (answer : Answer) (q : State) → expire_row p recorded answer ≡ Some q → PlainSafe p → Keeps p q
expire_keeps p None MetaFault q e s = silent p q true e s
expire_keeps p None other q e s = absurd (none-some q e)
expire_keeps p (Some recorded) Kept q e s = silent p q true e s
expire_keeps p (Some recorded) (StaleEpoch n) q e s = silent p q _ e s
expire_keeps p (Some recorded) (Raised start) q e s =
    by_when p (set_registry p (started p.registry start)) q (not (is_behind p recorded) && may_start p start) e (λ w.
    let t = both (not (is_behind p recorded)) (may_start p start) w in
    let u = both (nat_lt p.registry.start start) (nat_le start p.registry.mark) t.1 in
    started_keeps p start (le_of start p.registry.mark u.1) s)
expire_keeps p (Some recorded) MetaFault q e s = silent p q true e s
expire_keeps p (Some recorded) StoreFault q e s = silent p q true e s
expire_keeps p (Some recorded) (Deleted id) q e s = silent p q true e s
expire_keeps p (Some recorded) other q e s = absurd (none-some q e)

-- a raise that isn't refused
pub record MayRaise (p : State) (wanted : ℕ) : Type 0 where
  pub above : p.registry.start ≤ wanted
  pub below : wanted ≤ p.registry.mark

pub may_raise : (p : State) (b : ℕ) (x : Broker) (wanted : ℕ) → refusal_at p b x None (Raise wanted) ≡ None → MayRaise p wanted
may_raise p b x wanted none =
    let f = facts_of b x in
    let r = p.registry in
    let t = passes (down f) (not_leader f ∷ stale r (leading f.role) ∷ not_above r wanted ∷ above_mark r wanted ∷ []) none in
    let u = passes (not_leader f) (stale r (leading f.role) ∷ not_above r wanted ∷ above_mark r wanted ∷ []) t.1 in
    let v = passes (stale r (leading f.role)) (not_above r wanted ∷ above_mark r wanted ∷ []) u.1 in
    let w = passes (not_above r wanted) (above_mark r wanted ∷ []) v.1 in
    let z = passes (above_mark r wanted) [] w.1 in
    let low = passed (nat_le wanted r.start) (NotAbove r.start) w.0 in
    let high = passed (nat_lt r.mark wanted) (AboveMark r.mark) z.0 in
    record { above = grind (arith, nat_tests, low); below = grind (arith, nat_tests, high) }

-- the row of raise
pub raise_keeps : (p : State) (b : ℕ) (x : Broker) (wanted : ℕ) (answer : Answer) (q : State) → refusal_at p b x None (Raise wanted) ≡ None → raise_row p wanted answer ≡ Some q
    → PlainSafe p → Keeps p q
raise_keeps p b x wanted (OkAt start) q none e s =
    by_when p (set_registry p (started p.registry wanted)) q (start == wanted) e (λ _. started_keeps p wanted (may_raise p b x wanted none).below s)
raise_keeps p b x wanted other q none e s = absurd (none-some q e)
