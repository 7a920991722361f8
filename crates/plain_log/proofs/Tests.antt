-- What holds where a command isn't refused, test by test, and rows by their tests.
use Rattle.std.proofs.Common.{◌≡◌, ℕ, ◌≤◌, ◌+◌, List, ◌∷◌, [], Some, None, Option, Result, IsOk, slice_get, subst, refl, Bool, true, false, not, arith}
use Rattle.std.specs.Prelude.{nat_lt}
use Rattle.std.specs.Option.{option_or}
use Rattle.std.proofs.lemmas.Bool.Decides.{nat_tests}
use Rattle.log_terms.specs.Log.{end_of}
use Rattle.record_batch.specs.Check.{Batch}
use Rattle.record_batch.specs.declared.refusal.BatchRefusal.{BatchRefusal}
use Rattle.registry.specs.declared.registry.Registry.{Registry}
use Rattle.registry.specs.declared.registry.Replica.{Replica}
use Rattle.registry.specs.Calls.{when}
use Rattle.plain_log.specs.declared.answer.Answer.{Answer}
use Rattle.plain_log.specs.declared.answer.Answer.TheVariants.{Down, NotLeader, NotInSync, Behind, StaleEpoch}
use Rattle.plain_log.specs.declared.facts.Facts.{Facts}
use Rattle.plain_log.specs.declared.state.State.{State}
use Rattle.plain_log.specs.declared.state.Broker.{Broker}
use Rattle.plain_log.specs.RowsOfLog.{offset_limit}
use Rattle.plain_log.specs.State.{leads, facts_of}
use Rattle.plain_log.specs.Refusals.{down, not_leader, last_offset, refused, not_in_sync, behind, stale, first_of, same_refusal, unless}
use Rattle.plain_log.proofs.Options.{when_some}

-- a row whose command is refused leaves the state, and another becomes what is done
pub by_tests : (P : State → Type 0) (p q : State) (why : Option Answer) (answer : Answer) (effect : Option State) → unless why answer p effect ≡ Some q
    → ((reason : Answer) → same_refusal answer reason ≡ true → P p) → (why ≡ None → effect ≡ Some q → P q) → P q
by_tests P p q (Some reason) answer effect e same f = let w = when_some (same_refusal answer reason) p q e in subst P w.1 (same reason w.0)
by_tests P p q None answer effect e same f = f refl e

-- the first of several tests, and the others
pub passes : (test : Option Answer) (tests : List (Option Answer)) → first_of (test ∷ tests) ≡ None → (test ≡ None) × (first_of tests ≡ None)
passes None tests e = (refl, e)
passes (Some why) tests e = absurd cc

-- a test that passes
pub passed : (fails : Bool) (why : Answer) → when fails why ≡ None → fails ≡ false
passed true why e = absurd cc
passed false why e = refl

-- one that tests that something is so
pub holds : (right : Bool) (why : Answer) → when (not right) why ≡ None → right ≡ true
holds true why e = refl
holds false why e = absurd cc

-- a broker that is up and leads
pub up_leads : (f : Facts) (tests : List (Option Answer)) → first_of (down f ∷ not_leader f ∷ tests) ≡ None → (f.up ≡ true) × (leads f.role ≡ true)
up_leads f tests e =
    let t = passes (down f) (not_leader f ∷ tests) e in
    (holds f.up Down t.0, holds (leads f.role) NotLeader (passes (not_leader f) tests t.1).0)

pub record MayAppend (f : Facts) (delta : ℕ) : Type 0 where
  pub up : f.up ≡ true
  pub leads : leads f.role ≡ true
  pub room : f.end + delta + 1 ≤ offset_limit

pub may_append : (f : Facts) (delta : ℕ) → first_of (down f ∷ not_leader f ∷ last_offset f delta ∷ []) ≡ None → MayAppend f delta
may_append f delta e = record { up = grind (arith, nat_tests, e); leads = grind (arith, nat_tests, e); room = grind (arith, nat_tests, e) }

-- bytes that aren't refused are a batch
pub may_raw : (f : Facts) (reading : Result Batch BatchRefusal) (delta : ℕ) → first_of (down f ∷ not_leader f ∷ refused reading ∷ last_offset f delta ∷ []) ≡ None
    → IsOk reading × MayAppend f delta
may_raw f reading delta e =
    (grind (arith, nat_tests, e), record { up = grind (arith, nat_tests, e); leads = grind (arith, nat_tests, e); room = grind (arith, nat_tests, e) })

-- a replica that is in sync
pub in_sync_of : (r : Registry) (f : Facts) (s : Replica) → slice_get r.replicas f.broker.0 ≡ Some s → not_in_sync r f ≡ None → s.in_sync ≡ true
in_sync_of r f s here e = let k : when (not s.in_sync) NotInSync ≡ None = (rw here at e) in holds s.in_sync NotInSync k

-- one that has acknowledged all that is committed
pub not_behind : (r : Registry) (f : Facts) (s : Replica) → slice_get r.replicas f.broker.0 ≡ Some s → behind r f ≡ None → r.mark ≤ s.acked
not_behind r f s here e =
    let k : when (nat_lt s.acked r.mark) (Behind s.acked r.mark) ≡ None = (rw here at e) in
    let no = passed (nat_lt s.acked r.mark) (Behind s.acked r.mark) k in
    grind (arith, nat_tests, no)

-- an epoch that isn't stale
pub not_stale : (r : Registry) (epoch : Option ℕ) (e : ℕ) → stale r epoch ≡ None → epoch ≡ Some e → r.epoch ≤ e
not_stale r None e none is = absurd cc
not_stale r (Some f) e none is =
    let no = passed (nat_lt f r.epoch) (StaleEpoch r.epoch) none in
    let same : f ≡ e = cc (is) in
    grind (arith, nat_tests, no, same)

-- the log of a broker that is up ends where its facts say
pub end_there : (b : ℕ) (x : Broker) → x.up ≡ true → (facts_of b x).end ≡ end_of x.log
end_there b x up = rw up refl

-- the first of four tests that fails
pub first_four : (a b c d : Option Answer) → option_or (option_or (option_or a b) c) d ≡ first_of (a ∷ b ∷ c ∷ d ∷ [])
first_four (Some w) b c d = refl
first_four None (Some w) c d = refl
first_four None None (Some w) d = refl
first_four None None None (Some w) = refl
first_four None None None None = refl

-- and of five
pub first_five : (a b c d e : Option Answer) → option_or (option_or (option_or (option_or a b) c) d) e ≡ first_of (a ∷ b ∷ c ∷ d ∷ e ∷ [])
first_five (Some w) b c d e = refl
first_five None b c d e = first_four b c d e
