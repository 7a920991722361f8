-- The rows of elections.
use Rattle.std.proofs.Common.{◌≡◌, ℕ, ◌<◌, ◌≤◌, ◌+◌, ◌==◌, [], ◌∷◌, Some, None, true, slice_get, subst, refl, arith}
use Rattle.std.specs.Prelude.{nat_le}
use Rattle.std.proofs.lemmas.Bool.Decides.{nat_tests}
use Rattle.std.proofs.lemmas.Option.{none-some}
use Rattle.registry.specs.declared.registry.Registry.{Registry}
use Rattle.registry.specs.declared.registry.Replica.{Replica}
use Rattle.registry.specs.Registry.{epoch_limit, elected, elected_alone}
use Rattle.plain_log.specs.declared.answer.Answer.{Answer}
use Rattle.plain_log.specs.declared.answer.Answer.TheVariants.{OkAt, LastEpoch}
use Rattle.plain_log.specs.declared.command.Command.TheVariants.{Elect, Unclean}
use Rattle.plain_log.specs.declared.journal.Event.TheVariants.{Answers}
use Rattle.plain_log.specs.declared.state.State.{State}
use Rattle.plain_log.specs.declared.state.Broker.{Broker}
use Rattle.plain_log.specs.State.{set_registry, facts_of}
use Rattle.plain_log.specs.RowsOfElections.{elect_row, restarted, unclean_row}
use Rattle.plain_log.specs.Refusals.{last_epoch, down_broker, not_in_sync, behind_start}
use Rattle.plain_log.specs.Rows.{refusal_at}
use Rattle.plain_log.specs.Committed.{restarts}
use Rattle.plain_log.specs.Safe.{PlainSafe}
use Rattle.plain_log.proofs.Options.{when_some}
use Rattle.plain_log.proofs.Wider.{wider_self}
use Rattle.plain_log.proofs.Keeps.{Keeps, RowGoes, kept, by_when}
use Rattle.plain_log.proofs.Tests.{passes, passed, in_sync_of}
use Rattle.plain_log.proofs.NewEpoch.{elected_safe, elected_alone_safe}

-- an epoch that isn't the last is below it
below_last : (r : Registry) → last_epoch r ≡ None → r.epoch < epoch_limit
below_last r e = let no = passed (nat_le epoch_limit r.epoch) LastEpoch e in grind (arith, nat_tests, no)

-- the row of elect
pub elect_keeps : (p : State) (b : ℕ) (x : Broker) (r : Replica) (answer : Answer) (q : State) → slice_get p.registry.replicas b ≡ Some r
    → refusal_at p b x None Elect ≡ None → elect_row p b answer ≡ Some q → PlainSafe p → Keeps p q
elect_keeps p b x r (OkAt n) q at none e s =
    by_when p (set_registry p (elected p.registry b)) q (n == p.registry.epoch + 1) e (λ _.
    let f = facts_of b x in
    let t = passes (last_epoch p.registry) (not_in_sync p.registry f ∷ down_broker f ∷ []) none in
    let u = passes (not_in_sync p.registry f) (down_broker f ∷ []) t.1 in
    kept p (set_registry p (elected p.registry b)) refl refl refl refl
    (elected_safe p b r at (in_sync_of p.registry f r at u.0) (below_last p.registry t.0) s))
elect_keeps p b x r other q at none e s = absurd (none-some q e)

-- what the broker has flushed reaches the log start offset
not_behind_start : (p : State) (b : ℕ) (x : Broker) → x.up ≡ true → behind_start p.registry (facts_of b x) ≡ None → p.registry.start ≤ x.flushed_end
not_behind_start p b x up e = grind (arith, nat_tests, up, e)

-- the row of unclean
pub unclean_goes : (p : State) (b : ℕ) (x : Broker) (answer : Answer) (q : State) → slice_get p.brokers b ≡ Some x
    → refusal_at p b x None Unclean ≡ None → unclean_row p b x answer ≡ Some q → PlainSafe p → RowGoes (restarts Unclean (Answers answer)) p q
unclean_goes p b x (OkAt n) q at none e s =
    let f = facts_of b x in
    let t = passes (last_epoch p.registry) (down_broker f ∷ behind_start p.registry f ∷ []) none in
    let u = passes (down_broker f) (behind_start p.registry f ∷ []) t.1 in
    let v = passes (behind_start p.registry f) [] u.1 in
    let up : x.up ≡ true = grind (arith, nat_tests, u.0) in
    let w = when_some (n == p.registry.epoch + 1) (set_registry (restarted p x) (elected_alone p.registry b x.flushed_end)) q e in
    subst (λ (k : State). RowGoes true p k) w.1 (record {
      safe = elected_alone_safe p b x at (not_behind_start p b x up v.0) (below_last p.registry t.0) s;
      actors = refl;
      wider = wider_self p.paths;
      grows = λ u. absurd cc;
      clean = λ u. absurd cc;
    })
unclean_goes p b x other q at none e s = absurd (none-some q e)
