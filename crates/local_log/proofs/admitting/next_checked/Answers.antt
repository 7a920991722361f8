use Rattle.std.proofs.Common.{◌≡◌, sym, subst, drop, arith, true}
use Rattle.record_batch.specs.Check.{AreChecked}
use Rattle.segment_file.proofs.Standing.{AreBytes}
use Rattle.local_log.specs.Admitting.{AdvancesTo}
use Rattle.local_log.specs.declared.admitting.Spot.{Spot}
use Rattle.local_log.proofs.Admitted.{meets_first, goes_on}
use Rattle.local_log.proofs.CheckedBefore.{head_stands, checked_at}
use Rattle.local_log.proofs.admitting.next_checked.Goals as goal

pub head_at-head-requires-clause-stands : goal.head_at-head-requires-clause-stands
head_at-head-requires-clause-stands c = head_stands c.args.run.now c.args.spot.at c.requires.inside c.requires.checked

pub spot_after-requires : goal.spot_after-requires
spot_after-requires c =
    let run = c.args.run.now in
    let clean : AreBytes run = λ i. let b = c.type_inv.run i in omega (arith, b) in
    let s = checked_at run c.args.spot.at c.requires.inside c.requires.checked c.head_at-head.result clean c.head_at-head.ensures in
    omega (arith, s.inside)

pub returns-then-meets-clause-some : goal.returns-then-meets-clause-some
returns-then-meets-clause-some c =
    let run = c.args.run.now in
    let head = c.head_at-head.result in
    let clean : AreBytes run = λ i. let b = c.type_inv.run i in omega (arith, b) in
    let s = checked_at run c.args.spot.at c.requires.inside c.requires.checked head clean c.head_at-head.ensures in
    subst (AdvancesTo run c.args.spot) (sym c.spot_after.ensures) (goes_on run c.args.spot head s.batch s.is s.parts s.is_observable s.inside (c.meets.ensures.0 c.if-meets.true))

pub returns-then-meets-clause-rest : goal.returns-then-meets-clause-rest
returns-then-meets-clause-rest c =
    let run = c.args.run.now in
    let head = c.head_at-head.result in
    let clean : AreBytes run = λ i. let b = c.type_inv.run i in omega (arith, b) in
    let s = checked_at run c.args.spot.at c.requires.inside c.requires.checked head clean c.head_at-head.ensures in
    subst (λ (next : Spot). AreChecked (drop next.at run)) (sym c.spot_after.ensures) s.rest

pub returns-else-meets-clause-none : goal.returns-else-meets-clause-none
returns-else-meets-clause-none c =
    λ none a.
    let run = c.args.run.now in
    let head = c.head_at-head.result in
    let clean : AreBytes run = λ i. let b = c.type_inv.run i in omega (arith, b) in
    let s = checked_at run c.args.spot.at c.requires.inside c.requires.checked head clean c.head_at-head.ensures in
    let sure : c.meets.result ≡ true = c.meets.ensures.1 (meets_first run c.args.spot head s.batch s.is s.parts s.is_observable a) in
    cc (sure, c.if-meets.false)
