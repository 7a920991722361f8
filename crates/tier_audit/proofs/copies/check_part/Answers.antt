use Rattle.std.proofs.Common.{◌≡◌, subst, sym, rules, Some, List, ℕ, drop}
use Rattle.std.specs.Prelude.{option_map}
use Rattle.object_store.specs.Place.{capped, short_of}
use Rattle.tier_audit.specs.declared.verdict.Flaw.{Flaw}
use Rattle.tier_audit.specs.declared.verdict.Flaw.TheVariants.{Wrong}
use Rattle.tier_audit.specs.Whole.{place_of}
use Rattle.tier_audit.specs.Copies.{ReadsSpot, from_rest, FindsPart}
use Rattle.tier_audit.proofs.Copying.{part_told}
use Rattle.tier_base.specs.Device.{Fate, Ran, Went, Dry, fate_of}
use Rattle.object_store.specs.declared.call.StoreCall.TheVariants.{Get}
use Rattle.tier_audit.specs.Asking.{ReadsObjects}
use Rattle.tier_audit.proofs.Asked.{reads_one, reads_none, reads_ended, went_no_fault, dry_no_fault}
use Rattle.tier_audit.proofs.copies.check_part.Goals as goal

pub returns-in-Some-3-clause-found : goal.returns-in-Some-3-clause-found
returns-in-Some-3-clause-found g c =
    λ is_observable log placed.
    let objects = (g.S.Store.content c.args.store.now).objects in
    let entry = c.args.entry.now in
    let part = c.args.part in
    let spot = c.in-Some.spot in
    let rest = c.as_slice.result.now in
    let bytes = c.in_ok-rest.ensures.bytes is_observable in
    let found : ReadsSpot entry log part (short_of spot (capped spot.len rest)) (capped spot.len rest) c.in_ok-at.field-0 = c.in_ok-at.ensures.reads log placed in
    let place : place_of entry part ≡ Some spot = cc in
    let given : Some rest ≡ option_map (drop spot.at) (objects spot.key) = cc (bytes) in
    let reads : ReadsSpot entry log part (short_of spot (capped spot.len rest)) (capped spot.len rest) (Some c.in-Some-3.at) =
    subst (ReadsSpot entry log part (short_of spot (capped spot.len rest)) (capped spot.len rest)) c.in-Some-3.is found in
    let is : c.wrong.result ≡ Wrong spot.key (from_rest spot rest c.in-Some-3.at) = cc in
    subst (λ (flaw : Flaw). FindsPart objects entry log part (Some flaw)) (sym is) (part_told objects entry log part spot rest c.in-Some-3.at place given reads)

pub returns-in_default-clause-reads : goal.returns-in_default-clause-reads
returns-in_default-clause-reads g c = reads_none Went (g.S.Store.control c.args.store.now) went_no_fault

pub returns-in_err-rest-clause-reads : goal.returns-in_err-rest-clause-reads
returns-in_err-rest-clause-reads g c =
    let ran : Ran Get (fate_of c.from_residual.result) (g.S.Store.control c.args.store.now) (g.S.Store.control c.get.new.self) = search rules in
    reads_one _ _ _ ran

pub returns-in_default-2-clause-reads : goal.returns-in_default-2-clause-reads
returns-in_default-2-clause-reads g c = reads_one Went _ _ c.in_ok-rest.ensures.control

pub returns-in_err-at-clause-reads : goal.returns-in_err-at-clause-reads
returns-in_err-at-clause-reads g c =
    let read = reads_one Went (g.S.Store.control c.args.store.now) (g.S.Store.control c.get.new.self) c.in_ok-rest.ensures.control in
    let dry : fate_of c.from_residual-in_err-at.result ≡ Dry = search rules in
    subst (λ (f : Fate). ReadsObjects f (g.S.Store.control c.args.store.now) (g.S.Store.control c.get.new.self)) (sym dry) (reads_ended Dry _ _ dry_no_fault read)

pub returns-in-Some-3-clause-reads : goal.returns-in-Some-3-clause-reads
returns-in-Some-3-clause-reads g c = reads_one Went _ _ c.in_ok-rest.ensures.control

pub returns-clause-reads : goal.returns-clause-reads
returns-clause-reads g c = reads_one Went _ _ c.in_ok-rest.ensures.control
